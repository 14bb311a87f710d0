-- The items into which bytes are split end where they are told to end.
use Rattle.std.proofs.Common.{◌≡◌, ℕ, suc, Bool, true, false, if◌then◌else◌, List, [], ◌∷◌, ◌++◌, length, Some, refl, sym, ap, ◌∙◌, append_assoc, arith, length-append}
use Rattle.std.specs.{List.AllByRecursion, Prelude.option_map}
use Rattle.file_words.specs.Lines.{Bytes}
use Rattle.talk_items.specs.Items.{ends, item_end}
use Rattle.turn_loop.specs.Talk.{IsItem, IsRest, Split, behind, split, split_from}
use Rattle.turn_loop.proofs.Splits.{split-append}

-- behind a rest that goes on to an item's end
ended-item : (until : Bytes → ℕ → Bool) (begun : Bytes) (b : ℕ) → IsRest until begun → until begun b ≡ true → IsItem until (begun ++ b ∷ [])
ended-item until begun b rest is =
    split-append until [] begun (b ∷ []) ∙ ap (λ s. behind s.items (split_from until s.rest (b ∷ []))) rest
    ∙ ap (λ e. behind [] (if e then behind ((begun ++ b ∷ []) ∷ []) (split_from until [] []) else split_from until (begun ++ b ∷ []) [])) is

longer-rest : (until : Bytes → ℕ → Bool) (begun : Bytes) (b : ℕ) → IsRest until begun → until begun b ≡ false → IsRest until (begun ++ b ∷ [])
longer-rest until begun b rest is =
    split-append until [] begun (b ∷ []) ∙ ap (λ s. behind s.items (split_from until s.rest (b ∷ []))) rest
    ∙ ap (λ e. behind [] (if e then behind ((begun ++ b ∷ []) ∷ []) (split_from until [] []) else split_from until (begun ++ b ∷ []) [])) is

split-items : (until : Bytes → ℕ → Bool) (begun bytes : Bytes) → IsRest until begun → AllByRecursion (IsItem until) (split_from until begun bytes).items
split-items until begun [] rest = tt
split-items until begun (b ∷ bytes) rest = chosen (until begun b) refl (split-items until [] bytes refl) (λ longer. split-items until (begun ++ b ∷ []) bytes longer)
  where
    chosen : (e : Bool) → until begun b ≡ e → AllByRecursion (IsItem until) (split_from until [] bytes).items
        → (IsRest until (begun ++ b ∷ []) → AllByRecursion (IsItem until) (split_from until (begun ++ b ∷ []) bytes).items)
        → AllByRecursion (IsItem until) (if e then behind ((begun ++ b ∷ []) ∷ []) (split_from until [] bytes) else split_from until (begun ++ b ∷ []) bytes).items
    chosen true is new on = (ended-item until begun b rest is, new)
    chosen false is new on = on (longer-rest until begun b rest is)

-- all items of a talk
pub items-of : (until : Bytes → ℕ → Bool) (talk : Bytes) → AllByRecursion (IsItem until) (split until talk).items
items-of until talk = split-items until [] talk refl

-- one item, and nothing behind it, ends with the last of its bytes
all-of-it : (begun : Bytes) (b : ℕ) (bytes more : Bytes) → begun ++ b ∷ [] ≡ begun ++ b ∷ bytes → length bytes ≡ 0
all-of-it begun b bytes more is =
    omega (arith, ap length is, length-append begun (b ∷ []), length-append begun (b ∷ bytes))

ends-at : (begun bytes : Bytes) → split_from ends begun bytes ≡ record { items = (begun ++ bytes) ∷ []; rest = [] } → item_end begun bytes ≡ Some (length bytes)
ends-at begun [] is =
    let none : 0 ≡ 1 = ap (λ (s : Split). length s.items) is in
    absurd (omega (arith, none))
ends-at begun (b ∷ bytes) is = chosen (ends begun b) is (ends-at (begun ++ b ∷ []) bytes)
  where
    first : List Bytes → Bytes
    first [] = []
    first (x ∷ xs) = x

    chosen : (e : Bool)
        → (if e then behind ((begun ++ b ∷ []) ∷ []) (split_from ends [] bytes) else split_from ends (begun ++ b ∷ []) bytes) ≡ record { items = (begun ++ b ∷ bytes) ∷ []; rest = [] }
        → (split_from ends (begun ++ b ∷ []) bytes ≡ record { items = ((begun ++ b ∷ []) ++ bytes) ∷ []; rest = [] } → item_end (begun ++ b ∷ []) bytes ≡ Some (length bytes))
        → (if e then Some 1 else option_map suc (item_end (begun ++ b ∷ []) bytes)) ≡ Some (suc (length bytes))
    chosen true is next = ap (λ n. Some (suc n)) (sym (all-of-it begun b bytes [] (ap (λ s. first s.items) is)))
    chosen false is next = ap (option_map suc) (next (is ∙ ap (λ x. record { items = x ∷ []; rest = [] }) (sym (append_assoc begun (b ∷ []) bytes))))

pub item-ends : (item : Bytes) → IsItem ends item → item_end [] item ≡ Some (length item)
item-ends item is = ends-at [] item is
