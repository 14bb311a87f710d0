-- What a store holds that was opened on a disk without bytes.
use Rattle.std.proofs.Common.{ℕ, List, [], ◌∷◌, ◌∙◌, Option, Result, Ok, Err, ap, refl, sym, subst, ◌≡◌}
use Rattle.std.specs.{Prelude.{IfOk, IfSome}, Result.result_ok}
use Rattle.case_store.proofs.Empty.{empty-store}
use Rattle.case_store.specs.{Folding.{fresh, starts_of}, Standing.{AreKnown, IsStore, Opens, StoreState}}
use Rattle.store_form.specs.declared.stored.Recorded.{Recorded}
use Rattle.store_form.specs.declared.stored.Stored.TheVariants as stored

module _ {D : Type 0} (content : D → List ℕ) (may_leave : D → List ℕ → Type 0) (counts : List ℕ) where
  -- two questions to its one type name what is there
  pub both-known : (store : StoreState D) (a b : ℕ) → counts ≡ 1 ∷ [] → IsStore content may_leave counts store []
      → AreKnown store.held.starts store.held.run (record { caller = a; event = stored.Newest 0 } ∷ record { caller = b; event = stored.Newest 0 } ∷ [])
  both-known store a b one is =
      let calls : List Recorded = record { caller = a; event = stored.Newest 0 } ∷ record { caller = b; event = stored.Newest 0 } ∷ [] in
      let starts : store.held.starts ≡ starts_of (1 ∷ []) = is.fold.starts ∙ ap starts_of one in
      let run : store.held.run ≡ fresh (1 ∷ []) = is.fold.run ∙ ap fresh one in
      subst (λ s. AreKnown s store.held.run calls) (sym starts) (subst (λ r. AreKnown (starts_of (1 ∷ [])) r calls) (sym run) (refl, tt, (refl, tt, tt)))

  -- where it is opened at all
  pub empty-if-opened : {E : Type 0} (image : List ℕ) (opened : Result (StoreState D) E) (o : Option (StoreState D)) → image ≡ [] → o ≡ result_ok opened
      → IfOk opened (λ store. Opens content may_leave counts image store) → IfSome o (λ store. IsStore content may_leave counts store [])
  empty-if-opened {E = E} image opened o none is opens = subst (λ x. IfSome x (λ store. IsStore content may_leave counts store [])) (sym is) (go opened opens)
    where
      go : (opened : Result (StoreState D) E) → IfOk opened (λ store. Opens content may_leave counts image store) → IfSome (result_ok opened) (λ store. IsStore content may_leave counts store [])
      go (Ok store) opens = empty-store content may_leave counts image store none opens
      go (Err e) opens = tt
