-- Lines of more bytes.
use Rattle.talk_items.proofs.Common.{[], ℕ, ◌++◌, ◌==◌, ◌∙◌, ◌∷◌, ◌≡◌, ◌≤◌, ap, append-nil, append_assoc, arith, Bool, Bytes, CutLines, false, HasNoFeed, if◌then◌else◌, length, lines_of, List, onto_lines, put_first, refl, sym, true}

onto-feed : (x : ℕ) (is : Bool) (lines : List Bytes) (left : Bytes)
    → (if is then record { ended = [] ∷ (lines ++ left ∷ []); left = [] } else put_first x (lines ++ left ∷ []) [])
    ≡ (let made : CutLines = if is then record { ended = [] ∷ lines; left = left } else put_first x lines left in record { ended = made.ended ++ made.left ∷ []; left = [] })
onto-feed x true lines left = refl
onto-feed x false [] left = refl
onto-feed x false (l ∷ lines) left = refl

-- behind a line feed a line more has ended
pub lines-feed : (bs : Bytes) → lines_of (bs ++ 10 ∷ []) ≡ record { ended = (lines_of bs).ended ++ (lines_of bs).left ∷ []; left = [] }
lines-feed [] = refl
lines-feed (x ∷ bs) = ap (onto_lines x) (lines-feed bs) ∙ onto-feed x (x == 10) (lines_of bs).ended (lines_of bs).left

onto-byte : (x : ℕ) (is : Bool) (lines : List Bytes) (left : Bytes) (b : ℕ)
    → (if is then record { ended = [] ∷ lines; left = left ++ b ∷ [] } else put_first x lines (left ++ b ∷ []))
    ≡ (let made : CutLines = if is then record { ended = [] ∷ lines; left = left } else put_first x lines left in record { ended = made.ended; left = made.left ++ b ∷ [] })
onto-byte x true lines left b = refl
onto-byte x false [] left b = refl
onto-byte x false (l ∷ lines) left b = refl

first-byte : (b : ℕ) (is : Bool) → is ≡ false → (if is then record { ended = [] ∷ []; left = [] } else put_first b [] []) ≡ record { ended = []; left = b ∷ [] }
first-byte b true is = absurd cc
first-byte b false is = refl

-- behind another byte the last line has one more
pub lines-byte : (bs : Bytes) (b : ℕ) → (b == 10) ≡ false → lines_of (bs ++ b ∷ []) ≡ record { ended = (lines_of bs).ended; left = (lines_of bs).left ++ b ∷ [] }
lines-byte [] b other = first-byte b (b == 10) other
lines-byte (x ∷ bs) b other = ap (onto_lines x) (lines-byte bs b other) ∙ onto-byte x (x == 10) (lines_of bs).ended (lines_of bs).left b

-- and behind bytes without a line feed it has these more
pub lines-part : (bs part : Bytes) → HasNoFeed part → lines_of (bs ++ part) ≡ record { ended = (lines_of bs).ended; left = (lines_of bs).left ++ part }
lines-part bs [] none = ap lines_of (append-nil bs) ∙ ap (λ (l : Bytes). let made : CutLines = record { ended = (lines_of bs).ended; left = l } in made) (sym (append-nil (lines_of bs).left))
lines-part bs (b ∷ part) none =
    ap lines_of (sym (append_assoc bs (b ∷ []) part)) ∙ lines-part (bs ++ b ∷ []) part none.1
    ∙ ap (λ (l : CutLines). let made : CutLines = record { ended = l.ended; left = l.left ++ part } in made) (lines-byte bs b none.0)
    ∙ ap (λ (l : Bytes). let made : CutLines = record { ended = (lines_of bs).ended; left = l } in made) (append_assoc (lines_of bs).left (b ∷ []) part)

-- a line has no more lines than bytes
pub lines-few : (bs : Bytes) → length (lines_of bs).ended ≤ length bs
lines-few [] = omega arith
lines-few (b ∷ bs) = chosen (b == 10) (lines_of bs).ended (lines_of bs).left (lines-few bs)
  where
    chosen : (is : Bool) (lines : List Bytes) (left : Bytes) → length lines ≤ length bs
        → length (let made : CutLines = if is then record { ended = [] ∷ lines; left = left } else put_first b lines left in made.ended) ≤ length (b ∷ bs)
    chosen true lines left few = omega (arith, few)
    chosen false [] left few = omega arith
    chosen false (l ∷ lines) left few = omega (arith, few)
