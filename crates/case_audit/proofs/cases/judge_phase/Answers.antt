use Rattle.case_audit.proofs.Common.{◌<◌, ◌∙◌, ◌≡◌, actor_of, all_turns, ap, AreTurns, arith, asked_in, asked_of, cases, InPhase, IsModest, length, length-map, line-on, line-stops, LineJudged, phase-begun, phase-whole, queues_of, refl}
use Rattle.case_audit.proofs.{Common.{subst, sym, turns-rows}, AllTurns.all-turns}
use Rattle.case_audit.proofs.cases.judge_phase.Goals as goal

pub loop-judged-init : goal.loop-judged-init
loop-judged-init c =
    let f = c.args.file.now in
    let phase = asked_in c.args.calls.now in
    let queues = queues_of c.in_ok-turns.turns in
    let turns = subst (λ qs. AreTurns actor_of (length f.actors) qs phase) (sym (c.in_ok-turns.ensures ∙ ap (λ n. all_turns n phase) c.len.ensures)) (all-turns (length f.actors) phase) in
    record { judged = phase-begun (cases f) c.args.case.now c.args.report.now queues phase turns; modest = turns-rows IsModest actor_of (length f.actors) queues phase turns c.requires.modest; steady = c.requires.steady; longer = omega arith }

pub judge_line-requires : goal.judge_line-requires
judge_line-requires c = record {
  file = c.requires.file;
  modest = c.loop-judged.invariant.modest;
  steady = c.loop-judged.invariant.steady;
  few = omega (arith, c.loop-judged.invariant.longer, c.loop-judged-test.true, c.requires.few);
}

pub returns-then-not-branch-clause-judged : goal.returns-then-not-branch-clause-judged
returns-then-not-branch-clause-judged c =
    let f = c.args.file.now in
    let phase = asked_in c.args.calls.now in
    let low : c.loop-judged._judged < length phase = omega (arith, c.loop-judged-test.true, length-map c.args.calls.now asked_of) in
    line-stops (cases f) c.args.case.now c.loop-judged.case c.judge_line.new.case c.args.report.now c.loop-judged.report c.judge_line.new.report (queues_of c.loop-judged.turns) (queues_of c.judge_line.new.turns) phase c.loop-judged._judged low c.loop-judged.invariant.judged
    (λ owed some turns. subst (λ b. LineJudged (cases f) c.loop-judged.case c.loop-judged.report c.judge_line.new.case c.judge_line.new.report (queues_of c.judge_line.new.turns) owed b) c.if-not-branch.true (c.in_ok-judge_line.ensures.judged owed some turns))

pub returns-then-not-branch-clause-longer : goal.returns-then-not-branch-clause-longer
returns-then-not-branch-clause-longer c = omega (arith, c.loop-judged.invariant.longer, c.loop-judged-test.true, c.in_ok-judge_line.ensures.longer)

pub loop-judged-preserved : goal.loop-judged-preserved
loop-judged-preserved c =
    let f = c.args.file.now in
    let phase = asked_in c.args.calls.now in
    let low : c.loop-judged._judged < length phase = omega (arith, c.loop-judged-test.true, length-map c.args.calls.now asked_of) in
    let judged = line-on (cases f) c.args.case.now c.loop-judged.case c.judge_line.new.case c.args.report.now c.loop-judged.report c.judge_line.new.report (queues_of c.loop-judged.turns) (queues_of c.judge_line.new.turns) phase c.loop-judged._judged low c.loop-judged.invariant.judged
    (λ owed some turns. subst (λ b. LineJudged (cases f) c.loop-judged.case c.loop-judged.report c.judge_line.new.case c.judge_line.new.report (queues_of c.judge_line.new.turns) owed b) c.if-not-branch.false (c.in_ok-judge_line.ensures.judged owed some turns)) in
    record { judged = judged; modest = c.in_ok-judge_line.ensures.modest; steady = c.in_ok-judge_line.ensures.steady; longer = omega (arith, c.loop-judged.invariant.longer, c.in_ok-judge_line.ensures.longer) }

pub returns-clause-judged : goal.returns-clause-judged
returns-clause-judged c =
    let f = c.args.file.now in
    let phase = asked_in c.args.calls.now in
    let all : c.loop-judged._judged ≡ length phase = omega (arith, c.loop-judged-test.false, c.loop-judged.auto._judged-end, length-map c.args.calls.now asked_of) in
    phase-whole (cases f) refl c.args.case.now c.loop-judged.case c.args.report.now c.loop-judged.report (queues_of c.loop-judged.turns) phase
    (subst (λ n. InPhase (cases f) c.args.case.now c.args.report.now c.loop-judged.case c.loop-judged.report (queues_of c.loop-judged.turns) phase n) all c.loop-judged.invariant.judged)

pub returns-clause-steady : goal.returns-clause-steady
returns-clause-steady c = c.loop-judged.invariant.steady

pub returns-clause-longer : goal.returns-clause-longer
returns-clause-longer c = omega (arith, c.loop-judged.invariant.longer, c.loop-judged.auto._judged-end)
