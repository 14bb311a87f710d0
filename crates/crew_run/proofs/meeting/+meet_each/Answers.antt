use Rattle.crew_run.proofs.Common.{◌∙◌, ◌∷◌, all-rows-map, AllRows, AllZip, AreLevelDesks, arith, desk_view, HasMet, IsDeskOf, refl, SeesMore, subst, sym}
use Rattle.crew_run.proofs.DesksMeet.{desk-heard_more, desk-heard_nothing, first-calm, level-back, level-then, pair-of, same-is-seen, same-level, same-stays, seen-stays, seen-then}
use Rattle.crew_run.proofs.meeting.+meet_each.Goals as goal

pub returns-in_default-clause-first : goal.returns-in_default-clause-first
returns-in_default-clause-first t c = (c.requires.first, desk-heard_nothing (desk_view c.args.first.now))

pub returns-in_default-clause-calm : goal.returns-in_default-clause-calm
returns-in_default-clause-calm t c = record { kinds = λ t calm. refl; cases = λ c calm. refl }

pub meet_called-requires-clause-level : goal.meet_called-requires-clause-level
meet_called-requires-clause-level t c = (subst (AllRows (λ w. AreLevelDesks c.args.called.now (desk_view c.args.first.now) (desk_view w.desk))) c.in-Some.ensures.cases.0 c.requires.level).0

pub meet_each-requires : goal.meet_each-requires
meet_each-requires t c =
    let called = c.args.called.now in
    let v = desk_view c.args.first.now in
    let u = desk_view c.meet_called.new.one in
    let level = subst (AllRows (λ w. AreLevelDesks called v (desk_view w.desk))) c.in-Some.ensures.cases.0 c.requires.level in
    let crew = subst (AllRows (λ w. IsDeskOf c.args.server.now w.desk)) c.in-Some.ensures.cases.0 c.requires.crew in
    let calm = level-back called v u (first-calm called v (desk_view c.in-Some.worker.now.desk) u c.meet_called.ensures.one level.0) in
    (omega (arith, c.decreases, c.in-Some.ensures.cases.1), (c.requires.called, (c.meet_called.ensures.desks.0, (crew.1, all-rows-map _ _ (λ w k. level-then called u v (desk_view w.desk) calm k) c.in-Some.rest.now level.1))))

pub returns-clause-first : goal.returns-clause-first
returns-clause-first t c =
    let pair = pair-of (desk_view c.args.first.now) (desk_view c.in-Some.worker.now.desk) (desk_view c.meet_called.new.one) (desk_view c.meet_called.new.two) c.meet_called.ensures.one c.meet_called.ensures.two c.meet_called.ensures.more in
    (c.meet_each.ensures.first.0, desk-heard_more (desk_view c.args.first.now) (desk_view c.meet_called.new.one) (desk_view c.meet_each.new.first) pair.first c.meet_each.ensures.first.1)

pub returns-clause-calm : goal.returns-clause-calm
returns-clause-calm t c =
    let called = c.args.called.now in
    let v = desk_view c.args.first.now in
    let u = desk_view c.meet_called.new.one in
    let level = subst (AllRows (λ w. AreLevelDesks called v (desk_view w.desk))) c.in-Some.ensures.cases.0 c.requires.level in
    level-then called v u (desk_view c.meet_each.new.first) (first-calm called v (desk_view c.in-Some.worker.now.desk) u c.meet_called.ensures.one level.0) c.meet_each.ensures.calm

pub returns-clause-met : goal.returns-clause-met
returns-clause-met t c =
    let called = c.args.called.now in
    let u = desk_view c.meet_called.new.one in
    let y = desk_view c.meet_called.new.two in
    let w = desk_view c.meet_each.new.first in
    let pair = pair-of (desk_view c.args.first.now) (desk_view c.in-Some.worker.now.desk) (desk_view c.meet_called.new.one) (desk_view c.meet_called.new.two) c.meet_called.ensures.one c.meet_called.ensures.two c.meet_called.ensures.more in
    let rest = c.meet_each.ensures in
    subst (λ ws. AllZip (HasMet c.args.server.now called w) ws (record { desk = c.meet_called.new.two; fault = c.in-Some.worker.now.fault } ∷ c.meet_each.new.crew)) (sym c.in-Some.ensures.cases.0) (
      record {
        fault = refl;
        desk = c.meet_called.ensures.desks.1;
        heard = pair.second;
        seen = seen-then y u w (same-is-seen u y pair.same) rest.first.1;
        level = level-then called w u y (level-back called u w rest.calm) (same-level called u y pair.same);
      },
      rest.met,
    )

pub returns-clause-stays : goal.returns-clause-stays
returns-clause-stays t c = λ all.
    let v = desk_view c.args.first.now in
    let u = desk_view c.meet_called.new.one in
    let pair = pair-of (desk_view c.args.first.now) (desk_view c.in-Some.worker.now.desk) (desk_view c.meet_called.new.one) (desk_view c.meet_called.new.two) c.meet_called.ensures.one c.meet_called.ensures.two c.meet_called.ensures.more in
    let seen = subst (AllRows (λ w. SeesMore (desk_view w.desk) v)) c.in-Some.ensures.cases.0 all in
    let stays = pair.stays seen.0 in
    let rest = c.meet_each.ensures.stays (all-rows-map _ _ (λ w k. seen-stays (desk_view w.desk) v u stays k) c.in-Some.rest.now seen.1) in
    ((rest.0.0 ∙ stays.0, rest.0.1 ∙ stays.1), (same-stays u (desk_view c.meet_each.new.first) (desk_view c.meet_called.new.two) rest.0 pair.same, rest.1))
