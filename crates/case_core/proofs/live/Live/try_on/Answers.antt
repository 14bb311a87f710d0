use Rattle.case_core.proofs.{Common.{IsAdaptedTo, IsChecked, Kept, live_in, LiveModel, Moves, on_schema, replay_of_case, SchemaModel, subst, sym, TrailModel}, Keeping.kept-on_schema, Marked.whole-fails}
use Rattle.wsm_adapt.specs.declared.adapting.Adapted.TheVariants as adapted
use Rattle.case_core.proofs.live.Live.try_on.Goals as goal

pub move_to-requires-clause-kept : goal.move_to-requires-clause-kept
move_to-requires-clause-kept g c =
    let l : LiveModel = live_in (g.T.TrailReads.kept c.args.trail.now) c.args.self.now in
    let found : IsAdaptedTo l c.args.schema.value (adapted.Moved c.in-Moved.changes) =
    subst (λ (s : SchemaModel). IsAdaptedTo l s (adapted.Moved c.in-Moved.changes)) c.deref.ensures (subst (IsAdaptedTo l c.deref.result.now) c.in-Moved.is c.in_ok-position.ensures.adapted) in
    subst (λ (t : TrailModel). Kept (on_schema (live_in t c.args.self.now) c.args.base c.args.own c.args.schema.value)) (sym c.adapted_to.ensures.trail)
    (kept-on_schema l c.args.base c.args.own c.args.schema.value c.requires.live.0 (subst IsChecked c.deref.ensures c.in_ok-position.ensures.checked) c.requires.own c.requires.few found.0)

pub move_to-requires-clause-moves : goal.move_to-requires-clause-moves
move_to-requires-clause-moves g c =
    let l : LiveModel = live_in (g.T.TrailReads.kept c.args.trail.now) c.args.self.now in
    let found : IsAdaptedTo l c.args.schema.value (adapted.Moved c.in-Moved.changes) =
    subst (λ (s : SchemaModel). IsAdaptedTo l s (adapted.Moved c.in-Moved.changes)) c.deref.ensures (subst (IsAdaptedTo l c.deref.result.now) c.in-Moved.is c.in_ok-position.ensures.adapted) in
    subst (λ (t : TrailModel). Moves (live_in t c.args.self.now) c.args.schema.value c.in-Moved.changes) (sym c.adapted_to.ensures.trail) found.1

pub returns-in_ok-move_to-in-Moved-clause-failed : goal.returns-in_ok-move_to-in-Moved-clause-failed
returns-in_ok-move_to-in-Moved-clause-failed g c =
    let l : LiveModel = live_in (g.T.TrailReads.kept c.args.trail.now) c.args.self.now in
    let found : IsAdaptedTo l c.args.schema.value (adapted.Moved c.in-Moved.changes) =
    subst (λ (s : SchemaModel). IsAdaptedTo l s (adapted.Moved c.in-Moved.changes)) c.deref.ensures (subst (IsAdaptedTo l c.deref.result.now) c.in-Moved.is c.in_ok-position.ensures.adapted) in
    whole-fails (replay_of_case (on_schema l c.args.base c.args.own c.args.schema.value)) found.0
