-- The nodes that touched nodes reach are a region of local re-marking.
use Rattle.wsm_walk.proofs.Common.{[], ℕ, ◌&&◌, ◌∙◌, ◌∷◌, ◌≡◌, AllRows, ap, Bool, both_ways, Card, card_at, cards_of, cases_Bool, ElementKind, End, eqb, eqb-true, false, fits_edges, flat_of, HasCard, inl, Inner, inr, is_loop_end}
use Rattle.wsm_walk.proofs.Common.{is_of_kind, is_one_of, IsRank, kind_in, Known, List, loop-of_schema, loop_nodes, LoopOf, rank_induction, reached_from, refl, Region, Regular, SchemaModel, Some, sources-have_cards, subst, true, Untouched}
use Rattle.wsm_walk.proofs.{Common.Written, Reached.{reached-closed, reached-keeps}}
use Rattle.wsm_schema.specs.declared.cards.NodeKind.{NodeKind}
use Rattle.wsm_schema.specs.declared.cards.NodeKind.TheVariants.{Start}

-- writes to elements of the same kinds fit alike
pub kinds-fit : (elements1 elements2 : List (ℕ × ElementKind)) (ws : Written) (ds : List ℕ) → AllRows (λ d. kind_in d elements1 ≡ kind_in d elements2) ds → fits_edges elements1 ws ds ≡ fits_edges elements2 ws ds
kinds-fit elements1 elements2 [] [] same = refl
kinds-fit elements1 elements2 [] (d ∷ ds) same = refl
kinds-fit elements1 elements2 (w ∷ ws) [] same = refl
kinds-fit elements1 elements2 (w ∷ ws) (d ∷ ds) same =
    ap (λ k. (eqb w.0 d && is_of_kind k w.1) && fits_edges elements1 ws ds) same.0
    ∙ ap (λ x. (eqb w.0 d && is_of_kind (kind_in d elements2) w.1) && x) (kinds-fit elements1 elements2 ws ds same.1)

-- a node that is no start has a first edge
pub first-row : {X : Type 0} (G : Type 0) (k : NodeKind) (P : X → Type 0) (xs : List X) → Inner k xs → AllRows P xs → ((x : X) → P x → G) → G
first-row G Start P xs inner rows then = absurd inner
first-row G k P [] inner rows then = absurd inner
first-row G k P (x ∷ xs) inner rows then = then x rows.0

module _ (s1 s2 : SchemaModel) (regular : Regular s2) (rank : List ℕ) (is : IsRank (cards_of s2) rank) (seeds : List ℕ)
    (untouched : (n : ℕ) → is_one_of n seeds ≡ false → Untouched (flat_of s1) (flat_of s2) n) where
  abbrev pub In : ℕ → Bool
  In n = is_one_of n (reached_from (cards_of s2) rank seeds)

  not_seed : (n : ℕ) → In n ≡ false → is_one_of n seeds ≡ false
  not_seed n out = elim (cases_Bool (is_one_of n seeds)) [ inl it ↦ absurd (both_ways _ out (reached-keeps (cards_of s2) rank seeds n it)) | inr other ↦ other ]

  -- a loop's start is outside where its end is
  partner-out : (l e : ℕ) (c : Card) → card_at e (cards_of s2) ≡ Some c → is_loop_end c.kind ≡ true → c.partner ≡ Some l → In e ≡ false → In l ≡ false
  partner-out l e c at ends partner out =
      let body : List ℕ = loop_nodes (cards_of s2) e in
      let loop : LoopOf (cards_of s2) body l e = (loop-of_schema s2 regular l e c at ends partner).0 in
      rank_induction (cards_of s2) rank is (λ n. is_one_of n body ≡ true → In n ≡ false → In l ≡ false)
      (λ n d e_n ins syncs in_body out_n. elim (cases_Bool (eqb n l)) [
        | inl same ↦ subst (λ x. In x ≡ false) (eqb-true n l same) out_n
        | inr other ↦
            let outside = (reached-closed (cards_of s2) rank is seeds n d e_n out_n).0 in
            let within = loop.within n d e_n in_body other in
            let carded = (sources-have_cards s2 regular n d e_n).0 in
            first-row (In l ≡ false) d.kind (λ x. (Known (cards_of s2) (λ k. is_one_of k body ≡ true → In k ≡ false → In l ≡ false) x.node × HasCard (cards_of s2) x.node) × ((is_one_of x.node body ≡ true) × (In x.node ≡ false))) d.ins
            (loop.inner n d e_n in_body other) (all_four _ _ _ _ d.ins ins carded within outside) (λ x h. h.0.0 h.0.1.0 h.0.1.1 h.1.0 h.1.1)
      ]) e c at loop.has_end out
    where
      all_four : (P Q R S : End → Type 0) (xs : List End) → AllRows P xs → AllRows Q xs → AllRows R xs → AllRows S xs → AllRows (λ x. (P x × Q x) × (R x × S x)) xs
      all_four P Q R S [] p q r t = tt
      all_four P Q R S (x ∷ xs) p q r t = (((p.0, q.0), (r.0, t.0)), all_four P Q R S xs p.1 q.1 r.1 t.1)

  -- so these nodes are a region
  pub region-of : Region (flat_of s1) (flat_of s2) In
  region-of = record {
    cards = λ n out. (untouched n (not_seed n out)).card;
    kinds = λ n c at out w. kinds-fit s1.elements s2.elements w c.writes ((untouched n (not_seed n out)).kinds c at);
    ins = λ n c at out. (reached-closed (cards_of s2) rank is seeds n c at out).0;
    syncs = λ n c at out. (reached-closed (cards_of s2) rank is seeds n c at out).1;
    partners = λ n k c at out ends partner. partner-out k n c at ends partner out;
  }
