use Rattle.case_keep.proofs.Outcomes.{unplayed-moments}
use Rattle.case_keep.proofs.playing.store_play_within.Goals as goal

pub returns-in-Err-clause-any_moment : goal.returns-in-Err-clause-any_moment
returns-in-Err-clause-any_moment g c =
    let k = g.D.Disk in
    unplayed-moments k.content k.may_leave k.moment k.left_since g.met.D.Disk.only_now c.args.disk (g.S.Source.left c.args.source.now) c.requires.settled
