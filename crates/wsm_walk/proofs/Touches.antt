-- What fits a node's old card fits its new one, told by both cards and the recorded reads alone.
use Rattle.wsm_walk.proofs.Common.{[], ℕ, ◌&&◌, ◌||◌, ◌∙◌, ◌∷◌, ◌≡◌, ap, Bool, both_ways, cases_Bool, ElementKind, eqb, eqb-true, false, fits_edges, fits_reads, inl, inr, is_of_kind, is_some, kind_in, List, None, not, Option, refl}
use Rattle.wsm_walk.proofs.Common.{same_option_value, Some, subst, sym, true, Value, Written}
use Rattle.wsm_lists.specs.declared.values.ElementKind.TheVariants as kind
use Rattle.wsm_lists.specs.declared.values.Value.TheVariants as value
use Rattle.wsm_walk.specs.Touches.{edges_fit, reads_fit, same_kind}

and-true : (a b : Bool) → (a && b) ≡ true → (a ≡ true) × (b ≡ true)
and-true true b h = (refl, h)
and-true false b h = absurd (both_ways _ refl h)

some-same : (a b : Option Value) → same_option_value a b ≡ true → is_some b ≡ is_some a
some-same None None h = refl
some-same (Some a) (Some b) h = refl
some-same None (Some b) h = absurd (both_ways _ refl h)
some-same (Some a) None h = absurd (both_ways _ refl h)

pub reads-fit : (value : ℕ → Option Value) (rs : List (ℕ × Option Value)) (old new : List (ℕ × Bool)) → fits_reads value rs old ≡ true → fits_reads value rs new ≡ reads_fit rs new
reads-fit value [] old [] h = refl
reads-fit value [] old (e ∷ es) h = refl
reads-fit value (r ∷ rs) old [] h = refl
reads-fit value (r ∷ rs) [] (e ∷ es) h = absurd (both_ways _ refl h)
reads-fit value (r ∷ rs) (o ∷ os) (e ∷ es) h =
    let a = and-true (eqb r.0 o.0 && same_option_value r.1 (value o.0) && (not o.1 || is_some (value o.0))) (fits_reads value rs os) h in
    let b = and-true (eqb r.0 o.0 && same_option_value r.1 (value o.0)) (not o.1 || is_some (value o.0)) a.0 in
    let c = and-true (eqb r.0 o.0) (same_option_value r.1 (value o.0)) b.0 in
    let own : same_option_value r.1 (value r.0) ≡ true = subst (λ x. same_option_value r.1 (value x) ≡ true) (sym (eqb-true r.0 o.0 c.0)) c.1 in
    elim (cases_Bool (eqb r.0 e.0)) [
      | inr other ↦ rw other refl
      | inl same ↦
          let here : same_option_value r.1 (value e.0) ≡ true = subst (λ x. same_option_value r.1 (value x) ≡ true) (eqb-true r.0 e.0 same) own in
          rw (same, here, some-same r.1 (value e.0) here) (ap (λ x. (not e.1 || is_some r.1) && x) (reads-fit value rs os es a.1))
    ]

kind-same : (k l : Option ElementKind) (v : Value) → is_of_kind k v ≡ true → is_of_kind l v ≡ same_kind k l
kind-same None l v h = absurd (both_ways _ refl h)
kind-same (Some kind.Int) None (value.Int n) h = refl
kind-same (Some kind.Int) (Some kind.Int) (value.Int n) h = refl
kind-same (Some kind.Int) (Some kind.Text) (value.Int n) h = refl
kind-same (Some kind.Int) l (value.Text t) h = absurd (both_ways _ refl h)
kind-same (Some kind.Text) None (value.Text t) h = refl
kind-same (Some kind.Text) (Some kind.Int) (value.Text t) h = refl
kind-same (Some kind.Text) (Some kind.Text) (value.Text t) h = refl
kind-same (Some kind.Text) l (value.Int n) h = absurd (both_ways _ refl h)

pub edges-fit : (elements1 elements2 : List (ℕ × ElementKind)) (ws : Written) (cs ds : List ℕ) → fits_edges elements1 ws cs ≡ true → fits_edges elements2 ws ds ≡ edges_fit elements1 elements2 cs ds
edges-fit elements1 elements2 [] [] [] h = refl
edges-fit elements1 elements2 [] [] (d ∷ ds) h = refl
edges-fit elements1 elements2 [] (c ∷ cs) ds h = absurd (both_ways _ refl h)
edges-fit elements1 elements2 (w ∷ ws) [] ds h = absurd (both_ways _ refl h)
edges-fit elements1 elements2 (w ∷ ws) (c ∷ cs) [] h = refl
edges-fit elements1 elements2 (w ∷ ws) (c ∷ cs) (d ∷ ds) h =
    let a = and-true (eqb w.0 c && is_of_kind (kind_in c elements1) w.1) (fits_edges elements1 ws cs) h in
    let b = and-true (eqb w.0 c) (is_of_kind (kind_in c elements1) w.1) a.0 in
    rw (eqb-true w.0 c b.0) (
    ap (λ x. (eqb c d && x) && fits_edges elements2 ws ds) (kind-same (kind_in c elements1) (kind_in d elements2) w.1 b.1)
    ∙ ap (λ x. (eqb c d && same_kind (kind_in c elements1) (kind_in d elements2)) && x) (edges-fit elements1 elements2 ws cs ds a.1))
