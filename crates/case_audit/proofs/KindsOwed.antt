-- What is owed to the types of a file, by their numbers.
use Rattle.case_audit.proofs.Common.{ℕ, ◌<◌, ◌∙◌, ◌≡◌, ◌≤◌, AllRows, ap, arith, asked_phases, Bool, by-test, called-rows, calls_number, cards_of, false, File, file-modest, filled, filter, get_or, given, IsAuditable, IsModest, IsWorkable}
use Rattle.case_audit.proofs.Common.{kind-owed, leb-true, length, length-range_with_len, List, list_all, map, numbers, Owed, owed_kind, owed_lines, owed_of, range_with_len, subst, sym, Telling}
use Rattle.case_audit.proofs.{Common.{true, TypeDecl}, OwedOf.{owed-filled, owed-many, range-at}}
use Rattle.std.proofs.lemmas.List.Folds.{list_all_at}
use Rattle.file_model.specs.Sizes.{is_small}

-- each type is small
pub small-at : (types : List TypeDecl) (n : ℕ) (d : TypeDecl) → list_all is_small types ≡ true → n < length types → d ≡ get_or types n d → length (cards_of d.schema) ≤ 1024
small-at types n d all low is =
    by-test (λ (b : Bool). length (cards_of d.schema) ≤ 1024) (is_small d) (leb-true (length (cards_of d.schema)) 1024)
    (λ large. let none : false ≡ true = sym (list_all_at is_small types n d low (ap is_small (sym is) ∙ large)) ∙ all in absurd (cc (none)))

-- a type, where it stands
pub record TypeAt (f : File) (n : ℕ) (d : TypeDecl) : Type 0 where
  pub within : n < length f.types
  pub is : d ≡ get_or f.types n d

pub type-at : (f : File) (types : List TypeDecl) (n : ℕ) (d : TypeDecl) → types ≡ f.types → n < length types → d ≡ get_or types n d → TypeAt f n d
type-at f types n d same low here = record { within = omega (arith, low, ap length same); is = subst (λ ts. d ≡ get_or ts n d) same here }

-- ---- what is owed to it
module _ (f : File) (q : Telling) (owed : List Owed) (same : numbers owed ≡ given calls_number (range_with_len 0 (length f.types)) (asked_phases q f.phases)) where
  pub kinds-many : length owed ≡ length f.types
  kinds-many = owed-many calls_number (asked_phases q f.phases) (range_with_len 0 (length f.types)) owed same ∙ length-range_with_len 0 (length f.types)

  kind-filled : (t : ℕ) (o : Owed) → t < length f.types → o ≡ get_or owed t o → owed_of o ≡ filled (map (λ lines. filter (λ l. calls_number t l) lines) (asked_phases q f.phases))
  kind-filled t o low is =
      owed-filled calls_number (asked_phases q f.phases) (range_with_len 0 (length f.types)) owed t t o same (range-at (length f.types) t low) (omega (arith, low, kinds-many)) is

  pub kind-modest : IsWorkable f → IsAuditable f → (t : ℕ) (o : Owed) → t < length f.types → o ≡ get_or owed t o → AllRows (AllRows IsModest) (owed_of o)
  kind-modest workable auditable t o low is =
      subst (AllRows (AllRows IsModest)) (sym (kind-filled t o low is)) (called-rows IsModest (λ l. calls_number t l) (asked_phases q f.phases) (file-modest f q workable auditable))

  pub kind-owes : (t : ℕ) (o : Owed) → t < length f.types → o ≡ get_or owed t o → owed_lines (owed_of o) ≡ filled (owed_kind f t)
  kind-owes t o low is = ap owed_lines (kind-filled t o low is) ∙ kind-owed f q t
