use Rattle.wsm_lists.proofs.Common.{◌-◌, ◌<◌, ◌∙◌, ◌≡◌, ◌≤◌, ap, arith, last_number, length, Merging, rules, set, subst, sym, take}
use Rattle.wsm_lists.proofs.Merges.{kept-inside, merge-ends, read-as, some-kept, step-first, step-gone, step-later, step-put, step-room, step-same}
use Rattle.wsm_lists.proofs.taking.merge.Goals as goal

pub loop-left-preserved-in-None : goal.loop-left-preserved-in-None
loop-left-preserved-in-None g c =
    let i = c.loop-left.invariant in
    let inside : c.loop-left.left - 1 < length c.args.changes.now = omega (arith, i.0.few, c.loop-left-test.true) in
    let here = read-as c.args.changes.now (c.loop-left.left - 1) c.index-changes-left-in-loop-left.result c.index-changes-left-in-loop-left.result _ inside c.in-None.is in
    (step-gone (take c.args.count c.args.rows.now.items) c.args.changes.now c.requires.rows c.requires.changes c.loop-left.rows.items c.loop-left.kept c.loop-left.left c.loop-left.from i.0 c.loop-left-test.true c.index-changes-left-in-loop-left.result _ here, i.1)

pub overflow_sub-from : goal.overflow_sub-from
overflow_sub-from g c =
    let i = c.loop-left.invariant in
    let inside : c.loop-left.left - 1 < length c.args.changes.now = omega (arith, i.0.few, c.loop-left-test.true) in
    let here = read-as c.args.changes.now (c.loop-left.left - 1) c.index-changes-left.result c.index-changes-left-in-loop-left.result _ inside c.in-Some.is in
    (step-room (take c.args.count c.args.rows.now.items) c.args.changes.now c.requires.rows c.requires.changes c.loop-left.rows.items c.loop-left.kept c.loop-left.left c.loop-left.from i.0 c.loop-left-test.true c.index-changes-left.result _ c.in-Some.item here).0

pub index_mut-requires : goal.index_mut-requires
index_mut-requires g c =
    let i = c.loop-left.invariant in
    let inside : c.loop-left.left - 1 < length c.args.changes.now = omega (arith, i.0.few, c.loop-left-test.true) in
    let here = read-as c.args.changes.now (c.loop-left.left - 1) c.index-changes-left.result c.index-changes-left-in-loop-left.result _ inside c.in-Some.is in
    let room : c.loop-left.from - 1 < length c.loop-left.rows.items =
    (step-room (take c.args.count c.args.rows.now.items) c.args.changes.now c.requires.rows c.requires.changes c.loop-left.rows.items c.loop-left.kept c.loop-left.left c.loop-left.from i.0 c.loop-left-test.true c.index-changes-left.result _ c.in-Some.item here).1 in
    search rules

pub loop-left-preserved-in-None-last_number : goal.loop-left-preserved-in-None-last_number
loop-left-preserved-in-None-last_number g c =
    let i = c.loop-left.invariant in
    let inside : c.loop-left.left - 1 < length c.args.changes.now = omega (arith, i.0.few, c.loop-left-test.true) in
    let here = read-as c.args.changes.now (c.loop-left.left - 1) c.index-changes-left.result c.index-changes-left-in-loop-left.result _ inside c.in-Some.is in
    let none = ap (λ rows. last_number (take c.loop-left.kept rows)) (sym c.deref.ensures.value) ∙ sym c.last_number.ensures ∙ c.in-None-last_number.is in
    (step-first (take c.args.count c.args.rows.now.items) c.args.changes.now c.requires.rows c.requires.changes c.loop-left.rows.items c.loop-left.kept c.loop-left.left c.loop-left.from i.0 c.loop-left-test.true c.index-changes-left.result _ c.in-Some.item here none, i.1)

pub loop-left-preserved-then-last-number : goal.loop-left-preserved-then-last-number
loop-left-preserved-then-last-number g c =
    let i = c.loop-left.invariant in
    let inside : c.loop-left.left - 1 < length c.args.changes.now = omega (arith, i.0.few, c.loop-left-test.true) in
    let here = read-as c.args.changes.now (c.loop-left.left - 1) c.index-changes-left.result c.index-changes-left-in-loop-left.result _ inside c.in-Some.is in
    let there = ap (λ rows. last_number (take c.loop-left.kept rows)) (sym c.deref.ensures.value) ∙ sym c.last_number.ensures ∙ c.in-Some-last_number.is in
    let step = step-later (take c.args.count c.args.rows.now.items) c.args.changes.now c.requires.rows c.requires.changes c.loop-left.rows.items c.loop-left.kept c.loop-left.left c.loop-left.from i.0 c.loop-left-test.true c.index-changes-left.result _ c.in-Some-last_number.last there c.index.result.now c.in-Some.item here c.if-last-number.true in
    (subst (λ r. Merging (take c.args.count c.args.rows.now.items) c.args.changes.now (set c.loop-left.rows.items (c.loop-left.from - 1) r) (c.loop-left.kept - 1) c.loop-left.left (c.loop-left.from - 1)) (sym c.index.ensures) step, i.1)

pub loop-left-preserved-then-last-number-2 : goal.loop-left-preserved-then-last-number-2
loop-left-preserved-then-last-number-2 g c =
    let i = c.loop-left.invariant in
    let inside : c.loop-left.left - 1 < length c.args.changes.now = omega (arith, i.0.few, c.loop-left-test.true) in
    let here = read-as c.args.changes.now (c.loop-left.left - 1) c.index-changes-left.result c.index-changes-left-in-loop-left.result _ inside c.in-Some.is in
    let there = ap (λ rows. last_number (take c.loop-left.kept rows)) (sym c.deref.ensures.value) ∙ sym c.last_number.ensures ∙ c.in-Some-last_number.is in
    (step-same (take c.args.count c.args.rows.now.items) c.args.changes.now c.requires.rows c.requires.changes c.loop-left.rows.items c.loop-left.kept c.loop-left.left c.loop-left.from i.0 c.loop-left-test.true c.index-changes-left.result _ c.in-Some-last_number.last there (0, c.in-Some.item) c.in-Some.item here c.if-last-number-2.true, i.1)

pub loop-left-preserved : goal.loop-left-preserved
loop-left-preserved g c =
    let i = c.loop-left.invariant in
    let inside : c.loop-left.left - 1 < length c.args.changes.now = omega (arith, i.0.few, c.loop-left-test.true) in
    let here = read-as c.args.changes.now (c.loop-left.left - 1) c.index-changes-left.result c.index-changes-left-in-loop-left.result _ inside c.in-Some.is in
    let there = ap (λ rows. last_number (take c.loop-left.kept rows)) (sym c.deref.ensures.value) ∙ sym c.last_number.ensures ∙ c.in-Some-last_number.is in
    (step-put (take c.args.count c.args.rows.now.items) c.args.changes.now c.requires.rows c.requires.changes c.loop-left.rows.items c.loop-left.kept c.loop-left.left c.loop-left.from i.0 c.loop-left-test.true c.index-changes-left.result _ c.in-Some.item c.in-Some-last_number.last here there c.if-last-number.false c.if-last-number-2.false, i.1)

pub last_number-requires : goal.last_number-requires
last_number-requires g c =
    let i = c.loop-left.invariant in
    omega (arith, kept-inside (take c.args.count c.args.rows.now.items) c.args.changes.now c.loop-left.rows.items c.loop-left.kept c.loop-left.left c.loop-left.from i.0, ap length c.deref.ensures.value)

pub overflow_sub-kept : goal.overflow_sub-kept
overflow_sub-kept g c =
    some-kept c.loop-left.rows.items c.loop-left.kept c.in-Some-last_number.last (ap (λ rows. last_number (take c.loop-left.kept rows)) (sym c.deref.ensures.value) ∙ sym c.last_number.ensures ∙ c.in-Some-last_number.is)

pub index-requires : goal.index-requires
index-requires g c =
    let i = c.loop-left.invariant in
    let one = some-kept c.loop-left.rows.items c.loop-left.kept c.in-Some-last_number.last (ap (λ rows. last_number (take c.loop-left.kept rows)) (sym c.deref.ensures.value) ∙ sym c.last_number.ensures ∙ c.in-Some-last_number.is) in
    let inside : c.loop-left.kept ≤ length c.loop-left.rows.items = kept-inside (take c.args.count c.args.rows.now.items) c.args.changes.now c.loop-left.rows.items c.loop-left.kept c.loop-left.left c.loop-left.from i.0 in
    omega (arith, one, inside, c.loop-left.rows.ok.0)

pub index_mut-requires-then-last-number : goal.index_mut-requires-then-last-number
index_mut-requires-then-last-number g c =
    let i = c.loop-left.invariant in
    let inside : c.loop-left.left - 1 < length c.args.changes.now = omega (arith, i.0.few, c.loop-left-test.true) in
    let here = read-as c.args.changes.now (c.loop-left.left - 1) c.index-changes-left.result c.index-changes-left-in-loop-left.result _ inside c.in-Some.is in
    omega (arith, (step-room (take c.args.count c.args.rows.now.items) c.args.changes.now c.requires.rows c.requires.changes c.loop-left.rows.items c.loop-left.kept c.loop-left.left c.loop-left.from i.0 c.loop-left-test.true c.index-changes-left.result _ c.in-Some.item here).1, c.loop-left.rows.ok.0)

pub index_mut-requires-then-last-number-2 : goal.index_mut-requires-then-last-number-2
index_mut-requires-then-last-number-2 g c =
    let i = c.loop-left.invariant in
    let inside : c.loop-left.left - 1 < length c.args.changes.now = omega (arith, i.0.few, c.loop-left-test.true) in
    let here = read-as c.args.changes.now (c.loop-left.left - 1) c.index-changes-left.result c.index-changes-left-in-loop-left.result _ inside c.in-Some.is in
    omega (arith, (step-room (take c.args.count c.args.rows.now.items) c.args.changes.now c.requires.rows c.requires.changes c.loop-left.rows.items c.loop-left.kept c.loop-left.left c.loop-left.from i.0 c.loop-left-test.true c.index-changes-left.result _ c.in-Some.item here).1, c.loop-left.rows.ok.0)

pub index_mut-requires-else-last-number-2 : goal.index_mut-requires-else-last-number-2
index_mut-requires-else-last-number-2 g c =
    let i = c.loop-left.invariant in
    let inside : c.loop-left.left - 1 < length c.args.changes.now = omega (arith, i.0.few, c.loop-left-test.true) in
    let here = read-as c.args.changes.now (c.loop-left.left - 1) c.index-changes-left.result c.index-changes-left-in-loop-left.result _ inside c.in-Some.is in
    omega (arith, (step-room (take c.args.count c.args.rows.now.items) c.args.changes.now c.requires.rows c.requires.changes c.loop-left.rows.items c.loop-left.kept c.loop-left.left c.loop-left.from i.0 c.loop-left-test.true c.index-changes-left.result _ c.in-Some.item here).1, c.loop-left.rows.ok.0)

pub overflow_sub-kept-then-last-number : goal.overflow_sub-kept-then-last-number
overflow_sub-kept-then-last-number g c =
    some-kept c.loop-left.rows.items c.loop-left.kept c.in-Some-last_number.last (ap (λ rows. last_number (take c.loop-left.kept rows)) (sym c.deref.ensures.value) ∙ sym c.last_number.ensures ∙ c.in-Some-last_number.is)

pub overflow_sub-kept-then-last-number-2 : goal.overflow_sub-kept-then-last-number-2
overflow_sub-kept-then-last-number-2 g c =
    some-kept c.loop-left.rows.items c.loop-left.kept c.in-Some-last_number.last (ap (λ rows. last_number (take c.loop-left.kept rows)) (sym c.deref.ensures.value) ∙ sym c.last_number.ensures ∙ c.in-Some-last_number.is)

pub loop-left-smaller-then-last-number : goal.loop-left-smaller-then-last-number
loop-left-smaller-then-last-number g c =
    let one = some-kept c.loop-left.rows.items c.loop-left.kept c.in-Some-last_number.last (ap (λ rows. last_number (take c.loop-left.kept rows)) (sym c.deref.ensures.value) ∙ sym c.last_number.ensures ∙ c.in-Some-last_number.is) in
    omega (arith, one)

pub returns-clause-rows : goal.returns-clause-rows
returns-clause-rows g c =
    let i = c.loop-left.invariant in
    let none : c.loop-left.left ≡ 0 = omega (arith, c.loop-left-test.false) in
    merge-ends (take c.args.count c.args.rows.now.items) c.args.changes.now c.requires.changes _ _ _ (subst (λ l. Merging (take c.args.count c.args.rows.now.items) c.args.changes.now c.loop-left.rows.items c.loop-left.kept l c.loop-left.from) none i.0)
