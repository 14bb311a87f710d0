use Rattle.case_audit.proofs.Common.{◌<◌, ◌∙◌, ◌≡◌, actor_of, all_turns, ap, AreTurns, arith, asked_in, asked_of, InPhase, IsModest, kinds, length, length-map, line-on, line-stops, LineJudged, phase-begun, phase-whole, queues_of, refl}
use Rattle.case_audit.proofs.{Common.{subst, sym, turns-rows}, AllTurns.all-turns}
use Rattle.case_audit.proofs.kinds.judge_phase.Goals as goal

pub loop-judged-init : goal.loop-judged-init
loop-judged-init c =
    let f = c.args.file.now in
    let phase = asked_in c.args.calls.now in
    let queues = queues_of c.in_ok-turns.turns in
    let turns = subst (λ qs. AreTurns actor_of (length f.actors) qs phase) (sym (c.in_ok-turns.ensures ∙ ap (λ n. all_turns n phase) c.len.ensures)) (all-turns (length f.actors) phase) in
    record { judged = phase-begun (kinds f) c.args.kind.now c.args.report.now queues phase turns; modest = turns-rows IsModest actor_of (length f.actors) queues phase turns c.requires.modest }

pub judge_line-requires-clause-modest : goal.judge_line-requires-clause-modest
judge_line-requires-clause-modest c = c.loop-judged.invariant.modest

pub returns-then-not-branch : goal.returns-then-not-branch
returns-then-not-branch c =
    let f = c.args.file.now in
    let phase = asked_in c.args.calls.now in
    let low : c.loop-judged._judged < length phase = omega (arith, c.loop-judged-test.true, length-map c.args.calls.now asked_of) in
    line-stops (kinds f) c.args.kind.now c.loop-judged.kind c.judge_line.new.kind c.args.report.now c.loop-judged.report c.judge_line.new.report (queues_of c.loop-judged.turns) (queues_of c.judge_line.new.turns) phase c.loop-judged._judged low c.loop-judged.invariant.judged
    (λ owed some turns. subst (λ b. LineJudged (kinds f) c.loop-judged.kind c.loop-judged.report c.judge_line.new.kind c.judge_line.new.report (queues_of c.judge_line.new.turns) owed b) c.if-not-branch.true (c.in_ok-judge_line.ensures.judged owed some turns))

pub loop-judged-preserved : goal.loop-judged-preserved
loop-judged-preserved c =
    let f = c.args.file.now in
    let phase = asked_in c.args.calls.now in
    let low : c.loop-judged._judged < length phase = omega (arith, c.loop-judged-test.true, length-map c.args.calls.now asked_of) in
    let judged = line-on (kinds f) c.args.kind.now c.loop-judged.kind c.judge_line.new.kind c.args.report.now c.loop-judged.report c.judge_line.new.report (queues_of c.loop-judged.turns) (queues_of c.judge_line.new.turns) phase c.loop-judged._judged low c.loop-judged.invariant.judged
    (λ owed some turns. subst (λ b. LineJudged (kinds f) c.loop-judged.kind c.loop-judged.report c.judge_line.new.kind c.judge_line.new.report (queues_of c.judge_line.new.turns) owed b) c.if-not-branch.false (c.in_ok-judge_line.ensures.judged owed some turns)) in
    record { judged = judged; modest = c.in_ok-judge_line.ensures.modest }

pub returns : goal.returns
returns c =
    let f = c.args.file.now in
    let phase = asked_in c.args.calls.now in
    let all : c.loop-judged._judged ≡ length phase = omega (arith, c.loop-judged-test.false, c.loop-judged.auto._judged-end, length-map c.args.calls.now asked_of) in
    phase-whole (kinds f) refl c.args.kind.now c.loop-judged.kind c.args.report.now c.loop-judged.report (queues_of c.loop-judged.turns) phase
    (subst (λ n. InPhase (kinds f) c.args.kind.now c.args.report.now c.loop-judged.kind c.loop-judged.report (queues_of c.loop-judged.turns) phase n) all c.loop-judged.invariant.judged)
