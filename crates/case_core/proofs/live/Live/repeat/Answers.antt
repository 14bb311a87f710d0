use Rattle.case_core.proofs.Common.{ℕ, ◌∙◌, ◌≡◌, ap, cut_by, flat_of, FlatModel, Kept, List, live_in, LiveModel, loop_nodes, pushed, Remarks, RunsLoop, StaysBelow, subst, sym, TrailModel, with_trail}
use Rattle.wsm_schema.specs.declared.entries.Entry.TheVariants.{Again}
use Rattle.case_core.proofs.live.Live.repeat.Goals as goal

pub again_changes-requires-clause-runs : goal.again_changes-requires-clause-runs
again_changes-requires-clause-runs g c = subst (λ (k : LiveModel). RunsLoop k c.args.node) (sym c.of-case.ensures) c.requires.running

pub cut_and_append-requires-clause-kept : goal.cut_and_append-requires-clause-kept
cut_and_append-requires-clause-kept g c =
    let t : TrailModel = g.T.TrailReads.kept c.args.trail.now in
    let l : LiveModel = live_in t c.args.self.now in
    let body : c.in_ok-body.body ≡ loop_nodes (flat_of l.schema).cards c.args.node =
    c.in_ok-body.ensures ∙ ap (λ (f : FlatModel). loop_nodes f.cards c.args.node) (c.flat.ensures.flat ∙ ap flat_of (c.checked.ensures ∙ ap (λ (k : LiveModel). k.schema) c.of-case.ensures)) in
    subst (λ (b : List ℕ). Kept (with_trail l (pushed (Again c.args.node c.args.writes) (cut_by b t)))) (sym body) c.requires.kept

pub cut_and_append-requires-clause-marks : goal.cut_and_append-requires-clause-marks
cut_and_append-requires-clause-marks g c =
    let t : TrailModel = g.T.TrailReads.kept c.args.trail.now in
    let l : LiveModel = live_in t c.args.self.now in
    let body : c.in_ok-body.body ≡ loop_nodes (flat_of l.schema).cards c.args.node =
    c.in_ok-body.ensures ∙ ap (λ (f : FlatModel). loop_nodes f.cards c.args.node) (c.flat.ensures.flat ∙ ap flat_of (c.checked.ensures ∙ ap (λ (k : LiveModel). k.schema) c.of-case.ensures)) in
    subst (λ (b : List ℕ). Remarks l (pushed (Again c.args.node c.args.writes) (cut_by b t)) c.in_ok-changes.changes) (sym body)
    (subst (λ (k : LiveModel). Remarks k (pushed (Again c.args.node c.args.writes) (cut_by (loop_nodes (flat_of k.schema).cards c.args.node) k.trail)) c.in_ok-changes.changes) c.of-case.ensures (c.in_ok-changes.ensures.changes c.args.writes))

pub cut_and_append-requires-clause-stays : goal.cut_and_append-requires-clause-stays
cut_and_append-requires-clause-stays g c =
    subst (λ (b : List ℕ). StaysBelow c.first_seen-first.result b (g.T.TrailReads.kept c.args.trail.now).entries) c.as_slice.ensures
    (subst (λ (k : LiveModel). StaysBelow c.first_seen-first.result c.as_slice.result.now k.trail.entries) c.of-case.ensures c.first_seen-first.ensures.stays)
