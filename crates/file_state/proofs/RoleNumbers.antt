-- The number of a name is no greater than how many names there are.
use Rattle.std.proofs.{Common.{◌≡◌, ◌≤◌, ℕ, suc, ◌+◌, Bool, true, false, List, [], ◌∷◌, ◌++◌, length, arith}, lemmas.List.length_push}
use Rattle.std.specs.Prelude.{bytes_eq, if◌then◌else◌}
use Rattle.file_names.specs.Names.{is_listed, noted, number_of}
use Rattle.file_words.specs.Lines.{Bytes}

number_most : (names : List Bytes) (n : Bytes) → number_of names n ≤ length names
number_most [] n = omega arith
number_most (m ∷ ms) n = by (number_most ms n) (bytes_eq n m)
  where
    by : number_of ms n ≤ length ms → (test : Bool) → (if test then 0 else suc (number_of ms n)) ≤ length (m ∷ ms)
    by least true = omega arith
    by least false = omega (arith, least)

noted_most : (names : List Bytes) (n : Bytes) → length (noted names n) ≤ length names + 1
noted_most names n = by (is_listed n names)
  where
    by : (test : Bool) → length (if test then names else names ++ n ∷ []) ≤ length names + 1
    by true = omega arith
    by false = omega (arith, length_push names n)

pub number_small : (names : List Bytes) (n : Bytes) (k : ℕ) → k ≡ number_of (noted names n) n → k ≤ length names + 1
number_small names n k is = omega (arith, is, number_most (noted names n) n, noted_most names n)
