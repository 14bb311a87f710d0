use Rattle.crew_run.proofs.{Common.{◌∙◌, AreLevelDesks, beside, desk_view, DeskSame, HasMet, IsDeskOf, row-at, SeesMore}, DesksMeet.desk-heard_more, SideBySide.{zip-both, zip-second}}
use Rattle.crew_run.proofs.meeting.meet_all.Goals as goal

pub meet_each-requires-2-clause-crew : goal.meet_each-requires-2-clause-crew
meet_each-requires-2-clause-crew c = zip-second (HasMet c.args.server.now c.args.called.now (desk_view c.meet_each.new.first)) (λ w. IsDeskOf c.args.server.now w.desk) (λ w x k. k.desk) c.args.crew.now c.meet_each.new.crew c.meet_each.ensures.met

pub meet_each-requires-2-clause-level : goal.meet_each-requires-2-clause-level
meet_each-requires-2-clause-level c =
    let m = desk_view c.meet_each.new.first in
    zip-second (HasMet c.args.server.now c.args.called.now m) (λ w. AreLevelDesks c.args.called.now m (desk_view w.desk)) (λ w x k. k.level) c.args.crew.now c.meet_each.new.crew c.meet_each.ensures.met

pub returns-clause-first : goal.returns-clause-first
returns-clause-first c =
    (c.meet_each-2.ensures.first.0, desk-heard_more (desk_view c.args.first.now) (desk_view c.meet_each.new.first) (desk_view c.meet_each-2.new.first) c.meet_each.ensures.first.1 c.meet_each-2.ensures.first.1)

pub returns-clause-met : goal.returns-clause-met
returns-clause-met c = λ i w x at_w at_x.
    let s = c.args.server.now in
    let called = c.args.called.now in
    let m = desk_view c.meet_each.new.first in
    let first = desk_view c.meet_each-2.new.first in
    let old = c.args.crew.now in
    let mid = c.meet_each.new.crew in
    let new = c.meet_each-2.new.crew in
    let seen = zip-second (HasMet s called m) (λ z. SeesMore (desk_view z.desk) m) (λ y z k. k.seen) old mid c.meet_each.ensures.met in
    let (y, at_y, k) = beside (HasMet s called m) old mid i w c.meet_each.ensures.met at_w in
    let l = zip-both (HasMet s called first) mid new c.meet_each-2.ensures.met i y x at_y at_x in
    record {
      fault = l.fault ∙ k.fault;
      desk = l.desk;
      heard = desk-heard_more (desk_view w.desk) (desk_view y.desk) (desk_view x.desk) k.heard l.heard;
      same = row-at (λ z. DeskSame first (desk_view z.desk)) new i x (c.meet_each-2.ensures.stays seen).1 at_x;
    }
