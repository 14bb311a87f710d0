-- A crew that is hired one after another.
use Rattle.crew_run.proofs.Common.{[], ℕ, ◌++◌, ◌+◌, ◌∙◌, ◌∷◌, ◌≡◌, ◌⊎◌, ap, AreHired, arith, Desk, desk_view, DeskView, HasShapeOf, inl, inr, IsDeskOf, IsHiredAt, IsIdle, length, length-append, length-map, List, map}
use Rattle.crew_run.proofs.Common.{map_of_case, map_there, new_desk, None, parent_desk, refl, Server, slice_get, Some, split_from, split_off, subst, suc, sym, Worker, zero}

pushed : {A : Type 0} (xs : List A) (y : A) (i : ℕ) (x : A) → slice_get (xs ++ y ∷ []) i ≡ Some x → (slice_get xs i ≡ Some x) ⊎ ((i ≡ length xs) × (x ≡ y))
pushed [] y zero x at = inr (refl, cc)
pushed [] y (suc i) x at = absurd (cc (at))
pushed (z ∷ xs) y zero x at = inl at
pushed (z ∷ xs) y (suc i) x at = elim (pushed xs y i x at) [ inl k ↦ inl k | inr k ↦ inr (ap suc k.0, k.1) ]

rows-mapped : {A B : Type 0} (f : A → B) (rows : List (List A)) → map length (map (map f) rows) ≡ map length rows
rows-mapped f [] = refl
rows-mapped f (row ∷ rows) = cc (length-map row f, rows-mapped f rows)

pub parent-shape : (v w : DeskView) → w ≡ parent_desk v → HasShapeOf v w
parent-shape v w is = rw is (length-map v.kinds split_from, rows-mapped split_from v.cases)

parent-idle : (v : DeskView) → IsIdle v → IsIdle (parent_desk v)
parent-idle v k = record {
  kinds = λ t p at. let (q, at_q, is) = map_there split_from v.kinds t p at in rw is (k.kinds t q at_q);
  cases = λ c p at. let (q, at_q, is) = map_of_case split_from v.cases c p at in rw is (k.cases c q at_q);
}

new-idle : (v : DeskView) → IsIdle (new_desk v)
new-idle v = record {
  kinds = λ t p at. let (q, at_q, is) = map_there split_off v.kinds t p at in rw is (refl, refl);
  cases = λ c p at. let (q, at_q, is) = map_of_case split_off v.cases c p at in rw is (refl, refl);
}

-- one more is hired
pub hired-push : (s : Server) (first then d : Desk) (crew : List Worker) → AreHired s first crew → IsDeskOf s then → IsDeskOf s d → desk_view then ≡ parent_desk (desk_view first) → desk_view d ≡ new_desk (desk_view first)
    → AreHired s then (crew ++ record { desk = d; fault = None } ∷ [])
hired-push s first then d crew h desk desk_too parent new = record {
  desk = desk;
  number = ap (λ (v : DeskView). v.number) parent ∙ h.number;
  made = (let e = ap (λ (v : DeskView). v.made) parent in let n = length-append crew (worker ∷ []) in omega (arith, e, n, h.made));
  taken = ap (λ (v : DeskView). v.taken) parent ∙ h.taken;
  idle = subst IsIdle (sym parent) (parent-idle (desk_view first) h.idle);
  each = λ i w at. elim (pushed crew worker i w at) [
    | inl before ↦ h.each i w before
    | inr here ↦ subst (IsHiredAt s i) (sym here.1) (desk_too, (let e = ap (λ (v : DeskView). v.number) new in omega (arith, e, h.made, here.0)), subst IsIdle (sym new) (new-idle (desk_view first)))
  ];
}
  where
    worker : Worker
    worker = record { desk = d; fault = None }
