use Rattle.case_store.proofs.{Common.{◌∙◌, ap, arith, inr, IsPayloadOf, length, oldest, Reads, refl, subst, sym}, Folds.{room-for}, Weights.weight-below}
use Rattle.case_store.proofs.held.HeldCells.take_in.Goals as goal

pub call-requires-clause-young : goal.call-requires-clause-young
call-requires-clause-young c =
    let r = c.in-Some.recorded in
    let pays : IsPayloadOf c.args.payload.now r.caller r.event = subst (Reads c.args.payload.now) c.in-Some.is c.in_ok-recorded.ensures in
    room-for r.caller r.event c.args.payload.now (oldest c.args.self.now.run.cases) pays.same c.requires.young

pub returns-then-not-has-clause-taken : goal.returns-then-not-has-clause-taken
returns-then-not-has-clause-taken c =
    let r = c.in-Some.recorded in
    (inr (r, subst (Reads c.args.payload.now) c.in-Some.is c.in_ok-recorded.ensures, sym c.has.ensures ∙ c.if-not-has.true), refl)

pub returns-clause-taken : goal.returns-clause-taken
returns-clause-taken c =
    let r = c.in-Some.recorded in
    (r, (subst (Reads c.args.payload.now) c.in-Some.is c.in_ok-recorded.ensures, sym c.has.ensures ∙ c.if-not-has.false), c.in_ok-call.ensures.run)

pub returns-clause-young : goal.returns-clause-young
returns-clause-young c =
    let r = c.in-Some.recorded in
    let pays : IsPayloadOf c.args.payload.now r.caller r.event = subst (Reads c.args.payload.now) c.in-Some.is c.in_ok-recorded.ensures in
    omega (arith, weight-below r.caller r.event, ap length pays.same, c.in_ok-call.ensures.young)
