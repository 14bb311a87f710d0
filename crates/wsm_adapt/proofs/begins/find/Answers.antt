use Rattle.wsm_adapt.proofs.Common.{[], ℕ, ◌∙◌, AllAmong, ap, begun_rows, both_ways, Confined, FewAmong, Found, GoesOn, handed-within, is_reached, IsFound, KeepsTold, List, on_ok, own, ReadsMore, refl, SpendsAmong, StaysInside, subst}
use Rattle.wsm_adapt.proofs.{Common.TellsOf, Beginning.names_first, Finding.{found-inside, found-right, found-told, touched-few, walk-few}}
use Rattle.wsm_adapt.proofs.begins.find.Goals as goal

pub walk-requires : goal.walk-requires
walk-requires g c = record {
  within = handed-within c.args.rank.now 0 (names_first c.args.flat.now.cards c.args.touched.now) [] c.in_ok-pending.pending.keys c.in_ok-pending.ensures (λ q none. absurd (both_ways _ refl none));
}

pub returns-in_err-read_nodes-clause-few : goal.returns-in_err-read_nodes-clause-few
returns-in_err-read_nodes-clause-few g c =
    touched-few c.args.flat.now c.args.rank.now c.args.touched.now (g.M.MarkReads.reads c.args.marks.now) (g.M.MarkReads.reads c.read_nodes.new.marks) c.requires.net
    (subst (λ l. FewAmong (λ all. AllAmong all own c.args.touched.now) (g.M.MarkReads.reads c.args.marks.now) l (g.M.MarkReads.reads c.read_nodes.new.marks)) c.requires.empty.0 c.read_nodes.ensures.few)

pub returns-in_err-note_known-clause-few : goal.returns-in_err-note_known-clause-few
returns-in_err-note_known-clause-few g c =
    touched-few c.args.flat.now c.args.rank.now c.args.touched.now (g.M.MarkReads.reads c.args.marks.now) (g.M.MarkReads.reads c.read_nodes.new.marks) c.requires.net
    (subst (λ l. FewAmong (λ all. AllAmong all own c.args.touched.now) (g.M.MarkReads.reads c.args.marks.now) l (g.M.MarkReads.reads c.read_nodes.new.marks)) c.requires.empty.0 c.read_nodes.ensures.few)

pub returns-in_err-pending-clause-few : goal.returns-in_err-pending-clause-few
returns-in_err-pending-clause-few g c =
    touched-few c.args.flat.now c.args.rank.now c.args.touched.now (g.M.MarkReads.reads c.args.marks.now) (g.M.MarkReads.reads c.read_nodes.new.marks) c.requires.net
    (subst (λ l. FewAmong (λ all. AllAmong all own c.args.touched.now) (g.M.MarkReads.reads c.args.marks.now) l (g.M.MarkReads.reads c.read_nodes.new.marks)) c.requires.empty.0 c.read_nodes.ensures.few)

pub returns-clause-few : goal.returns-clause-few
returns-clause-few g c =
    let cards = c.args.flat.now.cards in
    let rank : List ℕ = c.args.rank.now in
    let touched : List ℕ = c.args.touched.now in
    let keys : List ℕ = c.in_ok-pending.pending.keys in
    let first : Found = record { known = c.read_nodes.new.known; changes = c.note_known.new.changes; nodes = c.args.found.now.nodes } in
    let reads : ℕ = g.M.MarkReads.reads c.args.marks.now in
    let then : ℕ = g.M.MarkReads.reads c.read_nodes.new.marks in
    walk-few c.args.flat.now rank touched keys first reads then (g.M.MarkReads.reads c.walk.new.marks) c.requires.net c.requires.empty.2
    (subst (λ l. SpendsAmong (λ all. AllAmong all own touched) reads l then c.read_nodes.new.known) c.requires.empty.0 c.in_ok-read_nodes.ensures.spent) c.in_ok-pending.ensures c.walk.ensures.few

pub returns-clause-found : goal.returns-clause-found
returns-clause-found g c =
    let cards = c.args.flat.now.cards in
    let rank : List ℕ = c.args.rank.now in
    let touched : List ℕ = c.args.touched.now in
    let keys : List ℕ = c.in_ok-pending.pending.keys in
    let first : Found = record { known = c.read_nodes.new.known; changes = c.note_known.new.changes; nodes = c.args.found.now.nodes } in
    let kept = g.M.MarkReads.kept c.args.marks.now in
    let kept' = g.M.MarkReads.kept c.read_nodes.new.marks in
    on_ok (GoesOn cards rank kept' keys first [] c.walk.new.found) (IsFound cards rank kept touched c.walk.new.found)
    (λ goes.
    found-right cards rank touched keys c.in_ok-pending.ensures first c.walk.new.found c.requires.empty.2 kept kept' c.read_nodes.ensures.same
    (subst (λ l. ReadsMore kept l c.read_nodes.new.known) c.requires.empty.0 c.in_ok-read_nodes.ensures.more) c.in_ok-read_nodes.ensures.sources
    (c.in_ok-note_known.ensures ∙ ap (begun_rows cards c.read_nodes.new.known touched) c.requires.empty.1) goes)
    c.walk.result c.walk.ensures.walked

pub returns-clause-inside : goal.returns-clause-inside
returns-clause-inside g c =
    let cards = c.args.flat.now.cards in
    let rank : List ℕ = c.args.rank.now in
    let touched : List ℕ = c.args.touched.now in
    let keys : List ℕ = c.in_ok-pending.pending.keys in
    let first : Found = record { known = c.read_nodes.new.known; changes = c.note_known.new.changes; nodes = c.args.found.now.nodes } in
    on_ok (StaysInside cards rank keys first [] c.walk.new.found) (Confined cards rank (is_reached cards rank touched) [] c.walk.new.found.nodes)
    (λ stays. found-inside c.args.flat.now rank touched keys first c.walk.new.found c.requires.net c.requires.empty.2 c.in_ok-pending.ensures stays) c.walk.result c.walk.ensures.inside

pub returns-clause-told : goal.returns-clause-told
returns-clause-told g c =
    let cards = c.args.flat.now.cards in
    let rank : List ℕ = c.args.rank.now in
    let touched : List ℕ = c.args.touched.now in
    let keys : List ℕ = c.in_ok-pending.pending.keys in
    let first : Found = record { known = c.read_nodes.new.known; changes = c.note_known.new.changes; nodes = c.args.found.now.nodes } in
    on_ok (KeepsTold first c.walk.new.found) (TellsOf cards touched c.walk.new.found)
    (λ keeps.
    found-told cards rank touched keys c.in_ok-pending.ensures first c.walk.new.found c.requires.empty.2 (c.in_ok-note_known.ensures ∙ ap (begun_rows cards c.read_nodes.new.known touched) c.requires.empty.1) keeps)
    c.walk.result c.walk.ensures.told
