use Rattle.std.proofs.{Common.{◌≡◌, ◌<◌, ◌+◌, ◌^◌, ◌++◌, ◌∷◌, [], ◌∙◌, ℕ, List, ap, arith, get_or, length, map, set, subst, sym}, lemmas.List.{get_or-map, length-append, length-map, length-set, map-append, map-set}, Math.Seq.map-set_same}
use Rattle.case_places.specs.Places.{AreRows}
use Rattle.case_places.proofs.Rows.{case-added}
use Rattle.case_places.proofs.places.CasePlaces.add_case.Goals as goal

pub invariant_of-self : goal.invariant_of-self
invariant_of-self c =
    let kinds = c.self.inside.kinds.items in
    let t = c.args.type_no in
    let row = c.index_mut.result.now in
    let same : c.push.new.self.items ≡ row.items = c.in_err-push.ensures.items in
    let rows : map (λ v. v.items) (set kinds t c.push.new.self) ≡ map (λ v. v.items) kinds =
    map-set_same (λ v. v.items) kinds t c.push.new.self row (same ∙ ap (λ v. v.items) c.index_mut.ensures.value) in (
      subst (λ (r : List (List ℕ)). AreRows r (map (λ p. p.0) c.self.inside.types.items)) (sym rows) c.self.invariant.0,
      c.self.invariant.1,
      rw (length-set kinds t c.push.new.self) c.self.invariant.2,
    )

pub invariant_of-self-2 : goal.invariant_of-self-2
invariant_of-self-2 c =
    let kinds = c.self.inside.kinds.items in
    let rows = map (λ v. v.items) kinds in
    let types = map (λ p. p.0) c.self.inside.types.items in
    let t = c.args.type_no in
    let row = c.index_mut.result.now in
    let there : t < length kinds = subst (λ k. t < k.kinds) (sym c.self.view_is) c.requires.there in
    let own : row.items ≡ get_or rows t [] = ap (λ v. v.items) c.index_mut.ensures.value ∙ sym (get_or-map (λ v. v.items) kinds t row [] there) in
    let many : c.self.inside.count ≡ length types = c.self.invariant.1 ∙ sym (length-map c.self.inside.types.items (λ p. p.0)) in
    let longer : c.push.new.self.items ≡ get_or rows t [] ++ length types ∷ [] =
    c.in_ok-push.ensures.items ∙ ap (λ (r : List ℕ). r ++ c.self.inside.count ∷ []) own ∙ ap (λ (n : ℕ). get_or rows t [] ++ n ∷ []) many in
    let set_there : map (λ v. v.items) (set kinds t c.push.new.self) ≡ set rows t (get_or rows t [] ++ length types ∷ []) =
    map-set (λ v. v.items) kinds t c.push.new.self ∙ ap (set rows t) longer in
    let more : map (λ p. p.0) c.and-self-inside.result.items ≡ types ++ t ∷ [] =
    ap (map (λ p. p.0)) c.and-self-inside.ensures ∙ map-append (λ p. p.0) c.self.inside.types.items _ in
    let one_more : length c.and-self-inside.result.items ≡ length c.self.inside.types.items + 1 =
    ap length c.and-self-inside.ensures ∙ length-append c.self.inside.types.items _ in
    let within : t < length rows = rw (length-map kinds (λ v. v.items)) there in (
      subst (λ (r : List (List ℕ)). AreRows r (map (λ p. p.0) c.and-self-inside.result.items)) (sym set_there)
          (subst (λ (us : List ℕ). AreRows (set rows t (get_or rows t [] ++ length types ∷ [])) us) (sym more) (case-added rows types t c.self.invariant.0 within)),
      omega (arith, c.self.invariant.1, one_more),
      rw (length-set kinds t c.push.new.self) c.self.invariant.2,
    )
