-- The words that open a group behind an actor's name.
use Rattle.talk_items.proofs.Common.{◌||◌, ◌≡◌, ap, Bool, Bytes, codes, false, is, keyword, refl, subst, sym, true}
use Rattle.std.proofs.{Common.{◌<◌, arith, inl, inr, length}, lemmas.Bool.cases_Bool, lemmas.Slice.Eq.bytes_eq-Decides}
use Rattle.std.specs.Prelude.{bytes_eq}
use Rattle.talk_items.specs.declared.keywords.Keyword.TheVariants as keywords

pub change_is : (word : Bytes) → (is (codes "change") word || is (codes "install") word) ≡ true → keywords.Change ≡ keyword word
change_is word either = chosen (is (codes "change") word) (is (codes "install") word) refl refl either
  where
    chosen : (a b : Bool) → is (codes "change") word ≡ a → is (codes "install") word ≡ b → (a || b) ≡ true → keywords.Change ≡ keyword word
    chosen true b first second either = subst (λ w. keywords.Change ≡ keyword w) (sym ((bytes_eq-Decides word (codes "change")).0 first)) refl
    chosen false true first second either = subst (λ w. keywords.Change ≡ keyword w) (sym ((bytes_eq-Decides word (codes "install")).0 second)) refl
    chosen false false first second either = absurd cc

other : (word longer : Bytes) → length word < length longer → bytes_eq word longer ≡ false
other word longer less = elim (cases_Bool (bytes_eq word longer)) [
  | inl same ↦ absurd (omega (arith, less, ap length ((bytes_eq-Decides word longer).0 same)))
  | inr not_so ↦ not_so
]

-- shorter words are none of these
pub short_is_none : (word : Bytes) → length word < 6 → (is (codes "change") word || is (codes "install") word) ≡ false
short_is_none word less = rw (other word (codes "change") (omega (arith, less)), other word (codes "install") (omega (arith, less))) refl
