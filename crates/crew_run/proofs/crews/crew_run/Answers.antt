use Rattle.crew_run.proofs.{Common.{◌∙◌, all_joined, AllRows, ap, AreCounts, AreHired, arith, desk_view, IfOk-weaker, IsDeskOf, length, length-map, subst, sym, with_items_is, Worker}, DesksCanWork.shape-of}
use Rattle.crew_run.proofs.{RunEnds.{has-taken, legal-of, never-overfull}, SideBySide.all-of}
use Rattle.crew_run.proofs.crews.crew_run.Goals as goal

pub hire-requires-clause-idle : goal.hire-requires-clause-idle
hire-requires-clause-idle g c =
    let first = c.in_ok-server.ensures.first in
    record { kinds = λ t p at. let k = first.kinds t p at in (k.own_calls, k.past); cases = λ id p at. let k = first.cases id p at in (k.own_calls, k.past) }

pub work_file-worked-requires-clause-hired : goal.work_file-worked-requires-clause-hired
work_file-worked-requires-clause-hired g c κs within = subst (AreHired c.in_ok-server.server c.hire.new.first) (sym c.deref_mut.ensures.value) c.in_ok-crew.ensures.hired

pub work_file-worked-requires-clause-actors : goal.work_file-worked-requires-clause-actors
work_file-worked-requires-clause-actors g c κs within = ap length c.deref_mut.ensures.value ∙ (c.in_ok-crew.ensures.many ∙ c.len.ensures)

pub work_file-worked-requires-clause-shape : goal.work_file-worked-requires-clause-shape
work_file-worked-requires-clause-shape g c κs within =
    let f = c.args.file.now in
    let v = desk_view c.in_ok-server.first in
    let first = c.in_ok-server.ensures.first in
    let counts = c.in_ok-counts.ensures.counts in
    let rows = first.rows ∙ c.deref-2.ensures.value in
    let types = sym c.in_ok-server.ensures.desk.desk.flags ∙ (ap length first.defined ∙ (length-map _ _ ∙ (ap length c.deref-2.ensures.value ∙ counts.types))) in
    shape-of f v (desk_view c.hire.new.first) c.in_ok-crew.ensures.shape (record { types = types; counted = subst (AreCounts f) (sym rows) counts })

pub dismiss-requires-clause-desks : goal.dismiss-requires-clause-desks
dismiss-requires-clause-desks g c =
    let desk = λ (w : Worker). IsDeskOf c.in_ok-server.server w.desk in
    subst (AllRows desk) (sym (with_items_is c.in_ok-crew.crew _ (c.work_file-worked.auto.crew ∙ c.deref_mut.ensures.len))) (all-of desk c.work_file-worked.new.crew c.work_file-worked.ensures.crew.desks)

pub close-closed-requires-clause-first : goal.close-closed-requires-clause-first
close-closed-requires-clause-first g c =
    let k = c.work_file-worked.ensures.crew in
    let joined = c.dismiss.ensures.joined ∙ ap (all_joined _) (with_items_is c.in_ok-crew.crew _ (c.work_file-worked.auto.crew ∙ c.deref_mut.ensures.len)) in
    (has-taken c.in_ok-server.server c.args.file.now c.work_file-worked.new.first c.work_file-worked.new.crew k (desk_view c.dismiss.new.first) joined).number ∙ k.number

pub close-closed-requires-clause-all : goal.close-closed-requires-clause-all
close-closed-requires-clause-all g c =
    let k = c.work_file-worked.ensures.crew in
    let joined = c.dismiss.ensures.joined ∙ ap (all_joined _) (with_items_is c.in_ok-crew.crew _ (c.work_file-worked.auto.crew ∙ c.deref_mut.ensures.len)) in
    let taken = has-taken c.in_ok-server.server c.args.file.now c.work_file-worked.new.first c.work_file-worked.new.crew k (desk_view c.dismiss.new.first) joined in
    omega (arith, taken.made, taken.taken, k.made, k.taken)

pub run_of-requires-clause-cases : goal.run_of-requires-clause-cases
run_of-requires-clause-cases g c =
    let f = c.args.file.now in
    let k = c.work_file-worked.ensures.crew in
    let joined = c.dismiss.ensures.joined ∙ ap (all_joined _) (with_items_is c.in_ok-crew.crew _ (c.work_file-worked.auto.crew ∙ c.deref_mut.ensures.len)) in
    let taken = has-taken c.in_ok-server.server f c.work_file-worked.new.first c.work_file-worked.new.crew k (desk_view c.dismiss.new.first) joined in
    subst (AreCounts f) (sym (c.close-closed.ensures.rows ∙ taken.shape.1)) k.shape.counted

pub no_memory-requires : goal.no_memory-requires
no_memory-requires g c = λ is.
    let joined = c.dismiss.ensures.joined ∙ ap (all_joined _) (with_items_is c.in_ok-crew.crew _ (c.work_file-worked.auto.crew ∙ c.deref_mut.ensures.len)) in
    never-overfull c.in_ok-server.server c.args.file.now c.requires c.work_file-worked.new.first c.work_file-worked.new.crew c.work_file-worked.ensures.crew (desk_view c.dismiss.new.first) joined c.close-closed.result c.close-closed.ensures (c.in-Err.ensures.full is)

pub returns-in-Ok : goal.returns-in-Ok
returns-in-Ok g c =
    let joined = c.dismiss.ensures.joined ∙ ap (all_joined _) (with_items_is c.in_ok-crew.crew _ (c.work_file-worked.auto.crew ∙ c.deref_mut.ensures.len)) in
    let legal = legal-of c.in_ok-server.server c.args.file.now c.requires c.work_file-worked.new.first c.work_file-worked.new.crew c.work_file-worked.ensures.crew (desk_view c.dismiss.new.first) joined c.close-closed.result c.close-closed.ensures in
    IfOk-weaker c.run_of.result _ _ (λ run is. legal run c.in-Ok.ensures.done is) c.run_of.ensures
