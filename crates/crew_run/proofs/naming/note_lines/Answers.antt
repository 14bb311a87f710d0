use Rattle.crew_run.proofs.{Common.{[], ◌++◌, ◌+◌, ◌∙◌, ◌∷◌, ◌≡◌, ap, arith, false, IsUnnamedCase, IsUnnamedKind, length, names_case, names_kind, rows-append, subst, sym, take}, SideBySide.took-at}
use Rattle.std.proofs.Common.{take_all}
use Rattle.crew_run.proofs.naming.note_lines.Goals as goal

pub loop-line-init : goal.loop-line-init
loop-line-init c = record { rows = c.forget.ensures; kinds = λ t calm. tt; cases = λ d calm. tt }

pub loop-line-preserved : goal.loop-line-preserved
loop-line-preserved c =
    let lines = c.args.lines.now in
    let i = c.loop-line.line-index in
    let l = c.line-item.result in
    let k = c.loop-line.invariant in
    let e = c.note_act.ensures in
    let took : take (i + 1) lines ≡ take i lines ++ l ∷ [] = took-at c.as_slice-line-items.result.now lines i l c.as_slice-line-items.ensures c.loop-line-test.true c.line-item.is in
    record {
      rows = e.rows ∙ k.rows;
      kinds = λ t calm. let both = e.kinds t calm in subst (λ ls. IsUnnamedKind ls t) (sym took) (rows-append (λ m. names_kind t m.act ≡ false) (take i lines) (l ∷ []) (k.kinds t both.0) (both.1, tt));
      cases = λ d calm. let both = e.cases d calm in subst (λ ls. IsUnnamedCase ls d) (sym took) (rows-append (λ m. names_case d m.act ≡ false) (take i lines) (l ∷ []) (k.cases d both.0) (both.1, tt));
    }

pub returns : goal.returns
returns c =
    let lines = c.args.lines.now in
    let i = c.loop-line.line-index in
    let k = c.loop-line.invariant in
    let all : take i lines ≡ lines = take_all i lines (omega (arith, c.loop-line-test.false, ap length c.as_slice-line-items.ensures)) in
    record {
      rows = k.rows;
      kinds = λ t calm. subst (λ ls. IsUnnamedKind ls t) all (k.kinds t calm);
      cases = λ d calm. subst (λ ls. IsUnnamedCase ls d) all (k.cases d calm);
    }
