-- The lines of an item: none but the last ends it.
use Rattle.unit_files.proofs.Common.{[], ℕ, ◌&&◌, ◌++◌, ◌==◌, ◌∙◌, ◌∷◌, ◌≡◌, and_parts, ap, append_assoc, arith, Bool, Bytes, ends, ends_line, eqb-true, false, GoesOn, if◌then◌else◌, IsOneItem, item_end, length, lines_of, List, None}
use Rattle.unit_files.proofs.Common.{Option, option_map, Place, place_behind, refl, Some, subst, suc, sym, true, words}
use Rattle.talk_items.specs.Items.{place_of}
use Rattle.talk_items.specs.declared.items.Place.TheVariants as places
use Rattle.talk_items.proofs.LinesMore.{lines-byte, lines-feed}

pub record IsItemLines (unit : Bytes) : Type 0 where
  pub front : List Bytes
  pub last : Bytes
  pub lines : lines_of unit ≡ record { ended = front ++ last ∷ []; left = [] }
  pub goes_on : GoesOn places.Front front
  pub ends : ends_line (place_of places.Front front) (words last) ≡ true

goes-more : (place : Place) (lines : List Bytes) (line : Bytes) → GoesOn place lines → ends_line (place_of place lines) (words line) ≡ false → GoesOn place (lines ++ line ∷ [])
goes-more place [] line h not_so = (not_so, tt)
goes-more place (l ∷ lines) line h not_so = (h.0, goes-more (place_behind place (words l)) lines line h.1 not_so)

-- one byte more, with which no item ends
byte-more : (begun : Bytes) (b : ℕ) → GoesOn places.Front (lines_of begun).ended → (ends begun b ≡ false) → GoesOn places.Front (lines_of (begun ++ b ∷ [])).ended
byte-more begun b h not_so = by (b == 10) refl not_so
  where
    by : (test : Bool) → (b == 10) ≡ test → (test && ends_line (place_of places.Front (lines_of begun).ended) (words (lines_of begun).left)) ≡ false → GoesOn places.Front (lines_of (begun ++ b ∷ [])).ended
    by true is none =
        let feed : b ≡ 10 = eqb-true b 10 is in
        let lines = ap (λ x. lines_of (begun ++ x ∷ [])) feed ∙ lines-feed begun in
        subst (λ ls. GoesOn places.Front ls) (sym (ap (λ ls. ls.ended) lines)) (goes-more places.Front (lines_of begun).ended (lines_of begun).left h none)
    by false is none = subst (λ ls. GoesOn places.Front ls) (sym (ap (λ ls. ls.ended) (lines-byte begun b is))) h

-- the byte with which one ends
last-byte : (begun : Bytes) (b : ℕ) → GoesOn places.Front (lines_of begun).ended → ends begun b ≡ true → IsItemLines (begun ++ b ∷ [])
last-byte begun b h is =
    let both = and_parts (b == 10) _ is in
    let feed : b ≡ 10 = eqb-true b 10 both.0 in
    record {
      front = (lines_of begun).ended;
      last = (lines_of begun).left;
      lines = ap (λ x. lines_of (begun ++ x ∷ [])) feed ∙ lines-feed begun;
      goes_on = h;
      ends = both.1;
    }

none-left : (bytes : Bytes) → Some 1 ≡ Some (suc (length bytes)) → bytes ≡ []
none-left [] is = refl
none-left (b ∷ bytes) is = let same : 1 ≡ suc (length (b ∷ bytes)) = cc in absurd (omega (arith, same))

one-less : (o : Option ℕ) (n : ℕ) → option_map suc o ≡ Some (suc n) → o ≡ Some n
one-less None n is = absurd (cc)
one-less (Some m) n is = let same : suc m ≡ suc n = cc in ap Some (omega (arith, same))

-- so are the bytes behind one byte more
abbrev From : Bytes → Type 0
From bytes = (begun : Bytes) → GoesOn places.Front (lines_of begun).ended → item_end begun bytes ≡ Some (length bytes) → IsItemLines (begun ++ bytes)

byte-from : (b : ℕ) (bytes : Bytes) → From bytes → From (b ∷ bytes)
byte-from b bytes others begun h is = by (ends begun b) refl is
  where
    by : (test : Bool) → ends begun b ≡ test → (if test then Some 1 else option_map suc (item_end (begun ++ b ∷ []) bytes)) ≡ Some (suc (length bytes)) → IsItemLines (begun ++ b ∷ bytes)
    by true e same = subst (λ bs. IsItemLines (begun ++ b ∷ bs)) (sym (none-left bytes same)) (last-byte begun b h e)
    by false e same =
        subst IsItemLines (append_assoc begun (b ∷ []) bytes)
        (others (begun ++ b ∷ []) (byte-more begun b h e) (one-less (item_end (begun ++ b ∷ []) bytes) (length bytes) same))

item-from : (bytes : Bytes) → From bytes
item-from [] begun h is = absurd (cc)
item-from (b ∷ bytes) begun h is = byte-from b bytes (item-from bytes) begun h is

pub item-lines : (unit : Bytes) → IsOneItem unit → IsItemLines unit
item-lines unit is = item-from unit [] tt is
