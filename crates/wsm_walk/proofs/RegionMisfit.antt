-- The first misfit of a region: the least over its nodes, each by its Start, its End and its Again alone.
use Rattle.wsm_walk.proofs.Common.{[], ℕ, ◌&&◌, ◌||◌, ◌∙◌, ◌∷◌, ◌≡◌, ap, bad_at, Bool, both_ways, cases_Bool, Entries, Entry, eq-eqb, eqb, eqb-true, Facts, false, find, first_bad, fits, FlatModel, if◌then◌else◌, inl, inr, is_again_of}
use Rattle.wsm_walk.proofs.{Common.{is_end_of, is_of, is_one_of, is_start_of, least, lesser, List, list_any, map, Marking, misfit_in, not, Option, Orderly, refl, Some, sym, true, Value}, LeastMisfit.{Steady, bad-any, bad-first, bad-found}}
use Rattle.wsm_walk.proofs.{LeastMisfit.{bad-or, misfit-bad}, Once.{ends-once, starts-once}, SteadyAgains.steady-agains}
use Rattle.wsm_schema.specs.declared.entries.Entry.TheVariants as entry

-- tests that agree find one entry
bad-same : (s t : ℕ × Entry → Bool) → ((e : ℕ × Entry) → s e ≡ t e) → (es : Entries) → first_bad s es ≡ first_bad t es
bad-same s t same [] = refl
bad-same s t same (e ∷ es) = ap (λ b. if b then Some e.0 else first_bad s es) (same e) ∙ ap (λ o. if t e then Some e.0 else o) (bad-same s t same es)

eqb-sym : (a b : ℕ) → eqb a b ≡ eqb b a
eqb-sym a b =
    elim (cases_Bool (eqb b a)) [
      | inl same ↦ eq-eqb a b (sym (eqb-true b a same)) ∙ sym same
      | inr other ↦ elim (cases_Bool (eqb a b)) [ inl too ↦ absurd (both_ways _ other (eq-eqb b a (sym (eqb-true a b too)))) | inr no_more ↦ no_more ∙ sym other ]
    ]

-- an entry of a node
abbrev pub of_node : ℕ → Entry → Bool
of_node k x = is_of (λ n. eqb n k) x

one_of-any : (n : ℕ) (nodes : List ℕ) → is_one_of n nodes ≡ list_any (λ k. eqb n k) nodes
one_of-any n [] = refl
one_of-any n (k ∷ ks) = ap (λ b. b || is_one_of n ks) (eqb-sym k n) ∙ ap (λ b. eqb n k || b) (one_of-any n ks)

-- an entry is of a set of nodes where it is of one of them
of-any : (nodes : List ℕ) (x : Entry) → is_of (λ n. is_one_of n nodes) x ≡ list_any (λ k. of_node k x) nodes
of-any nodes (entry.Start node user reads) = one_of-any node nodes
of-any nodes (entry.End node writes choice) = one_of-any node nodes
of-any nodes (entry.Again node writes) = one_of-any node nodes
of-any nodes (entry.Wrote writes) = sym (none nodes)
  where
    none : (ns : List ℕ) → list_any (λ k. false) ns ≡ false
    none [] = refl
    none (n ∷ ns) = none ns

spread : (a c d : Bool) → ((a || c) && d) ≡ ((a && d) || (c && d))
spread true c true = refl
spread true true false = refl
spread true false false = refl
spread false c d = refl

any-and : (test : ℕ → Bool) (b : Bool) (ns : List ℕ) → (list_any test ns && b) ≡ list_any (λ n. test n && b) ns
any-and test b [] = refl
any-and test b (n ∷ ns) = spread (test n) (list_any test ns) b ∙ ap (λ x. (test n && b) || x) (any-and test b ns)

-- the entries of one node: its Start, its End and its Again
of-one : (k : ℕ) (x : Entry) → of_node k x ≡ (is_start_of k x || (is_end_of k x || is_again_of k x))
of-one k (entry.Start node user reads) = first (eqb node k)
  where
    first : (b : Bool) → b ≡ (b || (false || false))
    first true = refl
    first false = refl
of-one k (entry.End node writes choice) = second (eqb node k)
  where
    second : (b : Bool) → b ≡ (false || (b || false))
    second true = refl
    second false = refl
of-one k (entry.Again node writes) = refl
of-one k (entry.Wrote writes) = refl

-- where a node's entries first are bad: each of at most three is looked at once
abbrev pub node_bad : (ℕ × Entry → Bool) → Entries → ℕ → Option ℕ
node_bad bad es k =
    lesser (bad_at bad (find (λ e. is_start_of k e.1) es)) (lesser (bad_at bad (find (λ e. is_end_of k e.1) es)) (bad_at bad (find (λ e. is_again_of k e.1) es)))

module _ (es : Entries) (orderly : Orderly es) (bad : ℕ × Entry → Bool) (agains : (n : ℕ) → Steady (λ e. is_again_of n e.1) bad) where
  pub node-first : (k : ℕ) → first_bad (λ e. of_node k e.1 && bad e) es ≡ node_bad bad es k
  node-first k =
      bad-same _ _ (λ e. ap (λ b. b && bad e) (of-one k e.1) ∙ spread (is_start_of k e.1) _ (bad e) ∙ ap (λ b. (is_start_of k e.1 && bad e) || b) (spread (is_end_of k e.1) (is_again_of k e.1) (bad e))) es
      ∙ bad-or (λ e. is_start_of k e.1 && bad e) (λ e. (is_end_of k e.1 && bad e) || (is_again_of k e.1 && bad e)) 0 es orderly.rises
      ∙ ap (lesser _) (bad-or (λ e. is_end_of k e.1 && bad e) (λ e. is_again_of k e.1 && bad e) 0 es orderly.rises)
      ∙ ap (λ o. lesser o (lesser (first_bad (λ e. is_end_of k e.1 && bad e) es) (first_bad (λ e. is_again_of k e.1 && bad e) es))) (bad-found (λ e. is_start_of k e.1) bad es (starts-once es orderly k))
      ∙ ap (λ o. lesser (bad_at bad (find (λ e. is_start_of k e.1) es)) (lesser o (first_bad (λ e. is_again_of k e.1 && bad e) es))) (bad-found (λ e. is_end_of k e.1) bad es (ends-once es orderly k))
      ∙ ap (λ o. lesser (bad_at bad (find (λ e. is_start_of k e.1) es)) (lesser (bad_at bad (find (λ e. is_end_of k e.1) es)) o)) (bad-first (λ e. is_again_of k e.1) bad (agains k) 0 es orderly.rises)

  pub nodes-first : (nodes : List ℕ) → first_bad (λ e. is_of (λ n. is_one_of n nodes) e.1 && bad e) es ≡ least (map (node_bad bad es) nodes)
  nodes-first nodes =
      bad-same _ _ (λ e. ap (λ b. b && bad e) (of-any nodes e.1) ∙ any-and (λ k. of_node k e.1) (bad e) nodes) es
      ∙ bad-any (λ k e. of_node k e.1 && bad e) nodes 0 es orderly.rises
      ∙ least-same nodes
    where
      least-same : (ns : List ℕ) → least (map (λ k. first_bad (λ e. of_node k e.1 && bad e) es) ns) ≡ least (map (node_bad bad es) ns)
      least-same [] = refl
      least-same (n ∷ ns) = ap (λ o. lesser o (least (map (λ k. first_bad (λ e. of_node k e.1 && bad e) es) ns))) (node-first n) ∙ ap (lesser (node_bad bad es n)) (least-same ns)

-- the first misfit of a region is the least over its nodes
pub region-misfit : (g : FlatModel) (f : Facts) (m : Marking) (value : ℕ → ℕ → Option Value) (nodes : List ℕ) (es : Entries) → Orderly es →
    misfit_in (λ n. is_one_of n nodes) g f m value es ≡ least (map (node_bad (λ e. not (fits g f m (λ d. value d e.0) e.0 e.1)) es) nodes)
region-misfit g f m value nodes es orderly =
    misfit-bad (λ n. is_one_of n nodes) g f m value es ∙ nodes-first es orderly (λ e. not (fits g f m (λ d. value d e.0) e.0 e.1)) (steady-agains g f m value) nodes
