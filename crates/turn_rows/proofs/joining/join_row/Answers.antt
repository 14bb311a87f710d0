use Rattle.turn_rows.proofs.{Common.{◌+◌, ◌<◌, ◌∙◌, ◌≡◌, ap, arith, CanJoin, drop, enumerate_count, enumerate_source, get_or, into_iter_items, into_iter_len, length, length-passes, length-set, rules, sym, view_of}, Lists.next_item}
use Rattle.turn_rows.proofs.{Lists.All-same_at, Passes.of_cell, Joins.{HaveJoinedUpTo, none_joined, one_more_joined, all_joined}}
use Rattle.std.proofs.lemmas.Grind.{common_steps}
use Rattle.turn_rows.proofs.joining.join_row.Goals as goal

pub loop-place-init : goal.loop-place-init
loop-place-init g c =
    let m = g.M.Machine in
    let into = length-passes c.args.cells.now c.args.into.now c.requires.cells in
    let done = length-passes c.args.cells.now c.args.done.items c.requires.done in
    let same = c.into_iter-place-iterator.ensures.into_iter_gives in
    let none = ap enumerate_count same ∙ c.enumerate-place-items.ensures.count in
    let source = ap enumerate_source same ∙ c.enumerate-place-items.ensures.source in
    record {
      can_next = search rules;
      is_finite = tt;
      even = (into, done, into);
      left = omega (arith, none, ap into_iter_len source, c.into_iter.ensures.len, c.args.done.ok.0, done);
      rest = ap (λ n. drop n c.args.done.items) none ∙ sym (ap into_iter_items source ∙ c.into_iter.ensures.rest);
      joined = rw none (none_joined m.after m.reply c.args.cells.now c.args.into.now c.args.done.items c.requires.cells);
    }

pub offset_bounds-into-place : goal.offset_bounds-into-place
offset_bounds-into-place g c =
    let l = c.loop-place in
    let step = c.in-Some.ensures.steps in
    let lt : c.in-Some.place < length l.into = omega (arith, step.0.1, step.1, l.invariant.left, l.invariant.even.2) in
    grind (arith, common_steps)

pub join-requires-clause-cell : goal.join-requires-clause-cell
join-requires-clause-cell g c κs within =
    let l = c.loop-place in
    let step = c.in-Some.ensures.steps in
    let place = c.in-Some.place in
    let lt : place < length c.args.cells.now = omega (arith, step.0.1, step.1, l.invariant.left) in
    let next = next_item (enumerate_count l.place-iterator) c.args.done.items (into_iter_items (enumerate_source l.place-iterator)) c.in-Some.pass (into_iter_items (enumerate_source c.next.new.self)) l.invariant.rest step.0.0 in
    let at : c.in-Some.pass ≡ get_or c.args.done.items place c.in-Some.pass = rw step.1 next.0 in (
      of_cell c.args.cells.now l.into place c.index-cells-place.result c.index-into-place.result l.invariant.joined.cells lt c.index-cells-place.is,
      ap (λ p. (view_of p).cell) at ∙ of_cell c.args.cells.now c.args.done.items place c.index-cells-place.result c.in-Some.pass c.requires.done lt c.index-cells-place.is,
    )

pub join-requires-clause-into : goal.join-requires-clause-into
join-requires-clause-into g c κs within =
    let l = c.loop-place in
    let step = c.in-Some.ensures.steps in
    (All-same_at view_of CanJoin c.in-Some.place c.args.into.now l.into c.index-into-place.result c.requires.can (rw step.1 l.invariant.joined.same) (omega (arith, step.0.1, step.1, l.invariant.left, l.invariant.even.0))).0

pub join-requires-clause-room : goal.join-requires-clause-room
join-requires-clause-room g c κs within =
    let l = c.loop-place in
    let step = c.in-Some.ensures.steps in
    (All-same_at view_of CanJoin c.in-Some.place c.args.into.now l.into c.index-into-place.result c.requires.can (rw step.1 l.invariant.joined.same) (omega (arith, step.0.1, step.1, l.invariant.left, l.invariant.even.0))).1

pub loop-place-preserved : goal.loop-place-preserved
loop-place-preserved g c =
    let m = g.M.Machine in
    let l = c.loop-place in
    let even = l.invariant.even in
    let step = c.in-Some.ensures.steps in
    let j = c.join.ensures in
    let place = c.in-Some.place in
    let next = next_item (enumerate_count l.place-iterator) c.args.done.items (into_iter_items (enumerate_source l.place-iterator)) c.in-Some.pass (into_iter_items (enumerate_source c.next.new.self)) l.invariant.rest step.0.0 in
    let here : HaveJoinedUpTo m.after m.reply place c.args.cells.now c.args.into.now c.args.done.items l.into = rw step.1 l.invariant.joined in
    let at : c.in-Some.pass ≡ get_or c.args.done.items place c.in-Some.pass = rw step.1 next.0 in
    let next_place : enumerate_count c.next.new.self ≡ place + 1 = omega (arith, step.1, step.2) in
    record {
      can_next = search rules;
      is_finite = tt;
      even = (even.0, even.1, length-set l.into place c.join.new.into ∙ even.2);
      left = omega (arith, step.0.1, step.2, l.invariant.left);
      rest = ap (λ n. drop n c.args.done.items) step.2 ∙ next.1;
      joined =
          rw next_place
          (one_more_joined m.after m.reply place c.args.cells.now c.args.into.now c.args.done.items l.into c.index-cells-place.result c.index-into-place.result c.in-Some.pass c.join.new.into here (omega (arith, step.0.1, step.1, l.invariant.left)) even
          c.index-cells-place.is at j.cell (record { is = j.joined; more = j.more; legal = j.legal }));
    }

pub returns : goal.returns
returns g c =
    let m = g.M.Machine in
    let l = c.loop-place in
    let ends = c.in-None.ensures.steps in
    let all = all_joined m.after m.reply (enumerate_count l.place-iterator) c.args.cells.now c.args.into.now c.args.done.items l.into l.invariant.joined (omega (arith, ends.0.0, l.invariant.left)) l.invariant.even in
    record { cells = l.invariant.joined.cells; joined = all.are; more = all.more; legal = all.legal }
