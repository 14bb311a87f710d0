-- The answers of the clauses, by a schema in place of its flat form.
use Rattle.wsm_data.proofs.Common.{ℕ, ◌∙◌, ◌≡◌, ap, Bool, first_some, flat_of, FlatModel, List, Option, SchemaModel, unknown, unknown_in}
use Rattle.wsm_schema.specs.declared.faults.DataFault.{DataFault}

module _ (s m : SchemaModel) (f : FlatModel) (flat : f ≡ flat_of s) (view : m ≡ s) where
  pub read-clause : (found : Option DataFault) (reads : List (ℕ × ℕ × Bool)) → reads ≡ m.reads → found ≡ first_some (λ r. unknown_in f r.0 r.1) reads → found ≡ first_some (λ r. unknown s r.0 r.1) s.reads
  read-clause found reads rows is =
      is ∙ ap (λ (g : FlatModel). first_some (λ r. unknown_in g r.0 r.1) reads) flat ∙ ap (first_some (λ r. unknown s r.0 r.1)) (rows ∙ ap (λ (n : SchemaModel). n.reads) view)

  pub write-clause : (found : Option DataFault) (writes : List (ℕ × ℕ)) → writes ≡ m.writes → found ≡ first_some (λ w. unknown_in f w.0 w.1) writes → found ≡ first_some (λ w. unknown s w.0 w.1) s.writes
  write-clause found writes rows is =
      is ∙ ap (λ (g : FlatModel). first_some (λ w. unknown_in g w.0 w.1) writes) flat ∙ ap (first_some (λ w. unknown s w.0 w.1)) (rows ∙ ap (λ (n : SchemaModel). n.writes) view)
