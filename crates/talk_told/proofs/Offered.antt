-- What an actor is told of the items of a case.
use Rattle.talk_told.proofs.Common.{[], ℕ, ◌&&◌, ◌++◌, ◌==◌, ◌||◌, ◌∙◌, ◌∷◌, ◌≡◌, ap, Bool, CaseDecl, false, File, filter, flat_map, if◌then◌else◌, List, None, refl, Some, sym, true}
use Rattle.std.specs.{List.list_any, Prelude.Option}
use Rattle.case_core.specs.{CaseModel.{CaseModel, LiveModel}, Kept.KeptIn, Shown.items_of}
use Rattle.talk_answers.specs.{Offers.{holds, items_shown, offers}, Standings.{concerns, item_line, item_lines, line_if_concerned}}
use Rattle.talk_answers.proofs.Offered.{holds-ends, offers-starts}
use Rattle.talk_told.specs.Offered.{AreTold, told_items}
use Rattle.wsm_items.specs.declared.work_items.Item.{Item}
use Rattle.wsm_items.specs.declared.work_items.Item.TheVariants as item

-- the lines of what is chosen are those of the items that are chosen
chosen-lines : {A B : Type 0} (p : A → Bool) (line : A → List B) (xs : List A) → flat_map (λ x. if p x then line x else []) xs ≡ flat_map line (filter p xs)
chosen-lines p line [] = refl
chosen-lines p line (x ∷ xs) = which (p x) (chosen-lines p line xs)
  where
    which : (b : Bool) → flat_map (λ y. if p y then line y else []) xs ≡ flat_map line (filter p xs)
        → (if b then line x else []) ++ flat_map (λ y. if p y then line y else []) xs ≡ flat_map line (if b then x ∷ filter p xs else filter p xs)
    which true rest = ap (λ l. line x ++ l) rest
    which false rest = rest

lines-told : (f : File) (a : ℕ) (d : CaseDecl) (live : Option LiveModel) → item_lines f (Some a) d live ≡ flat_map (item_line f d) (told_items f a live)
lines-told f a d None = refl
lines-told f a d (Some l) = chosen-lines (concerns f (Some a)) (item_line f d) (items_of l)

-- nothing is lost of what only chosen items have
any-chosen : {A : Type 0} (p q : A → Bool) → ((x : A) → p x ≡ false → q x ≡ false) → (xs : List A) → list_any q (filter p xs) ≡ list_any q xs
any-chosen p q none [] = refl
any-chosen p q none (x ∷ xs) = which (p x) refl (any-chosen p q none xs)
  where
    which : (b : Bool) → p x ≡ b → list_any q (filter p xs) ≡ list_any q xs → list_any q (if b then x ∷ filter p xs else filter p xs) ≡ (q x || list_any q xs)
    which true is rest = ap (λ r. q x || r) rest
    which false is rest = rest ∙ ap (λ r. r || list_any q xs) (sym (none x is))

and-false : (b c : Bool) → c ≡ false → (b && c) ≡ false
and-false true c is = is
and-false false c is = refl

not-offered : (f : File) (a n : ℕ) (i : Item) → concerns f (Some a) i ≡ false → offers f a n i ≡ false
not-offered f a n (item.Offered node role) is = and-false (node == n) (concerns f (Some a) (item.Offered node role)) is
not-offered f a n (item.Held node user) is = refl

not-held : (f : File) (a n : ℕ) (i : Item) → concerns f (Some a) i ≡ false → holds a n i ≡ false
not-held f a n (item.Offered node role) is = refl
not-held f a n (item.Held node user) is = and-false (node == n) (user == a) is

-- of a case that keeps what a case keeps, as each does that is held
pub are-told : (f : File) (a : ℕ) (d : CaseDecl) (s : CaseModel) → KeptIn s.live → AreTold f a d s
are-told f a d s kept = record {
  lines = lines-told f a d s.live;
  starts = λ n. any-chosen (concerns f (Some a)) (offers f a n) (not-offered f a n) (items_shown s.live) ∙ offers-starts f a s kept n;
  ends = λ n choice writes. any-chosen (concerns f (Some a)) (holds a n) (not-held f a n) (items_shown s.live) ∙ holds-ends a s kept n choice writes;
}
