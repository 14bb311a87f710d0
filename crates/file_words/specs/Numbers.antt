-- Words that are numbers.
use Rattle.std.specs.{Prelude.{ℕ, ◌+◌, ◌-◌, ◌*◌, ◌^◌, ℤ, pos, neg_ℤ, Bool, ◌&&◌, nat_lt, nat_le, [], ◌∷◌, length, ◌==◌, if◌then◌else◌, Option, Some, None, option_map}, List.list_all}
use Rattle.file_words.specs.{Lines.Bytes, Names.is_digit}

-- the value of digits, behind others with the value n
abbrev pub value_from : ℕ → Bytes → ℕ
value_from n [] = n
value_from n (d ∷ ds) = value_from (n * 10 + (d - 48)) ds

-- 1 to `most` digits
abbrev pub are_digits : ℕ → Bytes → Bool
are_digits most w = nat_lt 0 (length w) && nat_le (length w) most && list_all is_digit w

-- such digits with a value below `limit`
abbrev pub number : ℕ → ℕ → Bytes → Option ℕ
number most limit w = if are_digits most w && nat_lt (value_from 0 w) limit then Some (value_from 0 w) else None

abbrev pub role : Bytes → Option ℕ
role = number 10 (2 ^ 32)

abbrev pub code : Bytes → Option ℕ
code = number 5 (2 ^ 16)

-- a value of 64 bits with its sign
abbrev pub integer : Bytes → Option ℤ
integer [] = None
integer (b ∷ bs) =
    if b == 45 then option_map (λ n. neg_ℤ (pos n)) (number 20 (2 ^ 63 + 1) bs) else option_map pos (number 20 (2 ^ 63) (b ∷ bs))
