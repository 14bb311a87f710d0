use Rattle.case_audit.proofs.{Common.{[], ◌+◌, ◌<◌, ◌≡◌, ap, arith, Follows, InKinds, kind_reader, length, row-begun, row-on, row-read, row-stops, subst, sym, telling}, KindsOwed.{kind-modest, kind-owes, kinds-many, small-at, type-at}}
use Rattle.case_audit.proofs.kinds.judge_each.Goals as goal

pub loop-index-init : goal.loop-index-init
loop-index-init c =
    let f = c.args.file.now in
    let report = c.args.report.now in
    subst (λ ks. InKinds f report report ks 0) (sym c.new-kinds.ensures.items) (row-begun (kind_reader f) f.types report)

pub bounds-owed-index : goal.bounds-owed-index
bounds-owed-index c =
    let within : c.loop-index.index < length c.args.file.now.types = rw c.as_slice-decl-items.ensures at c.loop-index-test.true in
    omega (arith, within, kinds-many c.args.file.now (telling []) c.args.owed.now c.requires.owed)

pub judge_kind-requires : goal.judge_kind-requires
judge_kind-requires c =
    let f = c.args.file.now in
    let n = c.loop-index.index in
    let at = type-at f c.as_slice-decl-items.result.now n c.decl-item.result c.as_slice-decl-items.ensures c.loop-index-test.true c.decl-item.is in
    record {
      file = c.requires.file;
      small = small-at f.types n c.decl-item.result c.requires.file.workable.small at.within at.is;
      modest = kind-modest f (telling []) c.args.owed.now c.requires.owed c.requires.file.workable c.requires.file.auditable n c.index-owed-index.result at.within c.index-owed-index.is;
      owed = kind-owes f (telling []) c.args.owed.now c.requires.owed n c.index-owed-index.result at.within c.index-owed-index.is;
    }

pub returns-in-None : goal.returns-in-None
returns-in-None c =
    let f = c.args.file.now in
    let at = type-at f c.as_slice-decl-items.result.now c.loop-index.index c.decl-item.result c.as_slice-decl-items.ensures c.loop-index-test.true c.decl-item.is in
    row-stops (kind_reader f) f.types c.args.report.now c.loop-index.report c.judge_kind.new.report c.loop-index.kinds.items c.loop-index.index c.decl-item.result at.within at.is c.loop-index.invariant (subst (Follows (kind_reader f c.loop-index.index c.decl-item.result) c.loop-index.report c.judge_kind.new.report) c.in-None.is c.in_ok-judge_kind.ensures)

pub loop-index-preserved : goal.loop-index-preserved
loop-index-preserved c =
    let f = c.args.file.now in
    let at = type-at f c.as_slice-decl-items.result.now c.loop-index.index c.decl-item.result c.as_slice-decl-items.ensures c.loop-index-test.true c.decl-item.is in
    let kind = c.in-Some.kind in
    let one = subst (Follows (kind_reader f c.loop-index.index c.decl-item.result) c.loop-index.report c.judge_kind.new.report) c.in-Some.is c.in_ok-judge_kind.ensures in
    subst (λ ks. InKinds f c.args.report.now c.judge_kind.new.report ks (c.loop-index.index + 1)) (sym c.in_ok-push-in-Some.ensures.items) (row-on (kind_reader f) f.types c.args.report.now c.loop-index.report c.judge_kind.new.report c.loop-index.kinds.items c.loop-index.index c.decl-item.result kind at.within at.is c.loop-index.invariant one)

pub returns : goal.returns
returns c =
    let all : length c.args.file.now.types ≡ c.loop-index.index = omega (arith, ap length c.as_slice-decl-items.ensures, c.loop-index-test.false, c.loop-index.auto.index-end) in
    row-read (kind_reader c.args.file.now) c.args.file.now.types c.args.report.now c.loop-index.report c.loop-index.kinds.items c.loop-index.index all c.loop-index.invariant
