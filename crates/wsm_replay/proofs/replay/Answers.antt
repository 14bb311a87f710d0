use Rattle.wsm_replay.proofs.{Common.{[], ◌∙◌, ◌≡◌, after, answer, ap, applicable, arith, false, IsMarking, marking_of, noted_entry, replay_from, SameSpots, settle, subst, sym, true, value_below}, Before.{values_told, noted_next}}
use Rattle.wsm_replay.proofs.{Markings.marking_of-twice, OneEntryMore.marking_of-spots, Replays.{replay_from-same, replay_goes_on, replay_stops, replay_ends}}
use Rattle.wsm_replay.specs.declared.Replayed.TheVariants as replayed
use Rattle.wsm_replay.proofs.replay.Goals as goal

pub loop-position-init : goal.loop-position-init
loop-position-init c =
    let f = c.args.flat.now in
    let es = c.args.trail.now.trail.entries in
    let net = settle f.cards [] in
    let made : c.in_ok-table.table ≡ marking_of f.cards net = c.in_ok-table.ensures ∙ ap (λ t. marking_of f.cards (settle f.cards t)) c.new.ensures in
    let start : SameSpots f.cards c.in_ok-table.table net = subst (λ t. SameSpots f.cards t net) (sym made) (marking_of-spots f.cards net) in
    record {
      rest =
          replay_from-same f c.args.rank.now c.requires (λ d p. value_below d p es) c.entries-position-items.result.now c.in_ok-table.table (settle f.cards []) start
          ∙ ap (λ l. answer f.cards (replay_from f (λ d p. value_below d p es) l (settle f.cards []))) c.entries-position-items.ensures.entries;
      marking = subst (IsMarking f.cards) (sym made) (marking_of-twice f.cards net);
      before = c.new-before.ensures;
    }

pub returns-then-not-applicable : goal.returns-then-not-applicable
returns-then-not-applicable c =
    let f = c.args.flat.now in
    let es = c.args.trail.now.trail.entries in
    let items = c.entries-position-items.result.now in
    let i = c.loop-position.position-index in
    let e = c.loop-position-item.result in
    let table = c.loop-position.table in
    let told = values_told es items c.loop-position.before.rows i c.args.trail.now.trail.next e c.entries-position-items.ensures.entries c.entries-position-items.ensures.rises (omega arith) c.loop-position-item.is c.loop-position.invariant.before in
    let misfits : applicable f table (λ d. value_below d e.0 es) e.1 ≡ false = ap (λ v. applicable f table v e.1) told ∙ sym c.applicable.ensures ∙ c.if-not-applicable.true in
    ap (answer f.cards) (replay_stops f c.args.rank.now c.requires (λ d p. value_below d p es) items i e table (omega arith) c.loop-position-item.is misfits)
    ∙ c.loop-position.invariant.rest

pub loop-position-preserved : goal.loop-position-preserved
loop-position-preserved c =
    let f = c.args.flat.now in
    let es = c.args.trail.now.trail.entries in
    let items = c.entries-position-items.result.now in
    let i = c.loop-position.position-index in
    let e = c.loop-position-item.result in
    let table = c.loop-position.table in
    let told = values_told es items c.loop-position.before.rows i c.args.trail.now.trail.next e c.entries-position-items.ensures.entries c.entries-position-items.ensures.rises (omega arith) c.loop-position-item.is c.loop-position.invariant.before in
    let fits : applicable f table (λ d. value_below d e.0 es) e.1 ≡ true = ap (λ v. applicable f table v e.1) told ∙ sym c.applicable.ensures ∙ c.if-not-applicable.false in
    let new = c.in_ok-table-2.table in
    let net = after f.cards e.1 table in
    let same : SameSpots f.cards new net = subst (λ t. SameSpots f.cards t net) (sym c.in_ok-table-2.ensures) (marking_of-spots f.cards net) in
    record {
      rest =
          replay_goes_on f c.args.rank.now c.requires (λ d p. value_below d p es) items i e table new (omega arith) c.loop-position-item.is fits same
          ∙ c.loop-position.invariant.rest;
      marking = subst (IsMarking f.cards) (sym c.in_ok-table-2.ensures) (marking_of-twice f.cards net);
      before =
          c.in_ok-note_entry.ensures.ok
          ∙ ap (λ m. noted_entry m e) c.loop-position.invariant.before
          ∙ noted_next items i e (omega arith) c.loop-position-item.is;
    }

pub returns : goal.returns
returns c =
    let f = c.args.flat.now in
    let es = c.args.trail.now.trail.entries in
    let table = c.loop-position.table in
    ap replayed.Whole (sym c.loop-position.invariant.marking)
    ∙ ap (answer f.cards) (replay_ends f c.args.rank.now c.requires (λ d p. value_below d p es) c.entries-position-items.result.now c.loop-position.position-index table (omega arith))
    ∙ c.loop-position.invariant.rest
