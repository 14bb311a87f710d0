-- What a walk over a change finds, and how much it reads for that.
use Rattle.wsm_adapt.proofs.Common.{[], ℕ, ◌+◌, ◌∙◌, ◌≡◌, ◌≤◌, AllAmong, AllKnown, ap, arith, begun_rows, Card, cards_of, Confined, FewAmong, FlatModel, Found, GoesOn, Handed, is_known, is_reached, IsFound, IsNet, KeepsTold, List, Mark}
use Rattle.wsm_adapt.proofs.{Common.{marks_to_read, own, ReadsFew, ReadsMore, refl, SpendsAmong, StaysInside, subst, sym, TellsOf}, Beginning.{begun-known, confined-first, names_first, standing-first}, LoopEnds.reached-closed_in}
use Rattle.wsm_adapt.proofs.RegionReads.{all_read, read-covered, read-length, touched-read, unknown-none}

module _ (cards : List Card) (rank touched keys : List ℕ) (handed : Handed rank (names_first cards touched) 0 [] keys) (first found : Found) (none : first.nodes ≡ []) where
  pub found-right : (kept kept' : List (ℕ × Mark)) → kept' ≡ kept → ReadsMore kept [] first.known → AllKnown first.known own touched → first.changes ≡ begun_rows cards first.known touched [] → GoesOn cards rank kept' keys first [] found →
      IsFound cards rank kept touched found
  found-right kept kept' same more known changes goes goal aim begins =
      subst (λ k. GoesOn cards rank k keys first [] found) same goes goal touched aim
      (standing-first cards rank kept touched first.known more known keys handed goal aim begins first refl changes none)

  pub found-told : first.changes ≡ begun_rows cards first.known touched [] → KeepsTold first found → TellsOf cards touched found
  found-told changes keeps n c at it = keeps n (ap (λ l. is_known l n) changes ∙ begun-known cards first.known n c at touched [] it)

abbrev AtNet : FlatModel → List ℕ → List ℕ → List ℕ → Found → Found → Type 0
AtNet g rank touched keys first found = Handed rank (names_first g.cards touched) 0 [] keys → StaysInside g.cards rank keys first [] found → Confined g.cards rank (is_reached g.cards rank touched) [] found.nodes

pub found-inside : (flat : FlatModel) (rank touched keys : List ℕ) (first found : Found) → IsNet flat rank → first.nodes ≡ [] → AtNet flat rank touched keys first found
found-inside flat rank touched keys first found net none =
    subst (λ (g : FlatModel). AtNet g rank touched keys first found) (sym net.1) (λ handed stays.
    stays (is_reached (cards_of net.0) rank touched) net.3 (reached-closed_in net.0 net.2 rank net.3 touched) (confined-first net.0 net.2 rank net.3 touched keys first.nodes handed none))

abbrev IsFew : FlatModel → List ℕ → List ℕ → ℕ → ℕ → Type 0
IsFew g rank touched reads reads' = reads' ≤ reads + marks_to_read g rank touched

-- what is read of the touched nodes
pub touched-few : (flat : FlatModel) (rank touched : List ℕ) (reads reads' : ℕ) → IsNet flat rank → FewAmong (λ all. AllAmong all own touched) reads [] reads' → IsFew flat rank touched reads reads'
touched-few flat rank touched reads reads' net few =
    subst (λ (g : FlatModel). IsFew g rank touched reads reads') (sym net.1)
    (let all : List ℕ = all_read net.0 net.2 rank touched in
    let a = few all (touched-read net.0 net.2 rank touched) in
    let b = unknown-none all in
    let d = read-length net.0 net.2 rank touched in
    omega (arith, a, b, d))

-- and then on the walk
abbrev WalkFew : FlatModel → List ℕ → List ℕ → List ℕ → Found → ℕ → ℕ → ℕ → Type 0
WalkFew g rank touched keys first reads reads' reads'' = Handed rank (names_first g.cards touched) 0 [] keys → ReadsFew g.cards rank reads' keys first reads'' → IsFew g rank touched reads reads''

pub walk-few : (flat : FlatModel) (rank touched keys : List ℕ) (first : Found) (reads reads' reads'' : ℕ) → IsNet flat rank → first.nodes ≡ [] → SpendsAmong (λ all. AllAmong all own touched) reads [] reads' first.known →
    WalkFew flat rank touched keys first reads reads' reads''
walk-few flat rank touched keys first reads reads' reads'' net none spent =
    subst (λ (g : FlatModel). WalkFew g rank touched keys first reads reads' reads'') (sym net.1) (λ handed few.
    let all : List ℕ = all_read net.0 net.2 rank touched in
    let a = spent all (touched-read net.0 net.2 rank touched) in
    let b = few (is_reached (cards_of net.0) rank touched) all net.3 (reached-closed_in net.0 net.2 rank net.3 touched) (read-covered net.0 net.2 rank touched) (confined-first net.0 net.2 rank net.3 touched keys first.nodes handed none) in
    let d = unknown-none all in
    let e = read-length net.0 net.2 rank touched in
    omega (arith, a, b, d, e))
