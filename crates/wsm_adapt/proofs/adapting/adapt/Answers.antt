use Rattle.wsm_adapt.proofs.{Common.{[], ◌+◌, ◌∙◌, ◌≤◌, ap, Confined, Found, gone_of, is_reached, IsFound, marks_to_read, region_misfit, subst, sym, TellsOf, without}, AdaptsRight.{adapt-blocked, adapt-moved}, TouchedRows.tells-touched}
use Rattle.wsm_adapt.proofs.adapting.adapt.Goals as goal

pub returns-in_err-found-clause-marks_few : goal.returns-in_err-found-clause-marks_few
returns-in_err-found-clause-marks_few g c =
    subst (λ l. g.M.MarkReads.reads c.marks_found.new.marks ≤ g.M.MarkReads.reads c.args.marks.now + marks_to_read c.args.new.now c.args.rank.now l) c.as_slice-nodes.ensures c.marks_found.ensures.few

pub returns-in-Some-clause-marks_few : goal.returns-in-Some-clause-marks_few
returns-in-Some-clause-marks_few g c =
    subst (λ l. g.M.MarkReads.reads c.marks_found.new.marks ≤ g.M.MarkReads.reads c.args.marks.now + marks_to_read c.args.new.now c.args.rank.now l) c.as_slice-nodes.ensures c.marks_found.ensures.few

pub returns-in_err-changes_of-in-None-clause-marks_few : goal.returns-in_err-changes_of-in-None-clause-marks_few
returns-in_err-changes_of-in-None-clause-marks_few g c =
    subst (λ l. g.M.MarkReads.reads c.marks_found.new.marks ≤ g.M.MarkReads.reads c.args.marks.now + marks_to_read c.args.new.now c.args.rank.now l) c.as_slice-nodes.ensures c.marks_found.ensures.few

pub returns-in_ok-changes_of-in-None-clause-marks_few : goal.returns-in_ok-changes_of-in-None-clause-marks_few
returns-in_ok-changes_of-in-None-clause-marks_few g c =
    subst (λ l. g.M.MarkReads.reads c.marks_found.new.marks ≤ g.M.MarkReads.reads c.args.marks.now + marks_to_read c.args.new.now c.args.rank.now l) c.as_slice-nodes.ensures c.marks_found.ensures.few

pub returns-in-Some-clause-adapted : goal.returns-in-Some-clause-adapted
returns-in-Some-clause-adapted g c =
    let old = c.args.old.now in
    let new = c.args.new.now in
    let rank = c.args.rank.now in
    let kept = g.M.MarkReads.kept c.args.marks.now in
    let es = (g.T.TrailReads.kept c.args.trail.now).entries in
    let found : Found = c.in_ok-found.found in
    let nodes_are = c.as_slice-nodes.ensures in
    let right = subst (λ l. IsFound new.cards rank kept l found) nodes_are c.in_ok-found.ensures.found in
    let con = subst (λ l. Confined new.cards rank (is_reached new.cards rank l) [] found.nodes) nodes_are c.in_ok-found.ensures.inside in
    let misfit = c.region_misfit.ensures.misfit ∙ ap (λ l. region_misfit old new found.known es l found.nodes) nodes_are in
    adapt-blocked old new rank c.args.touched.now kept es found right con c.in-Some.position (sym misfit ∙ c.in-Some.is)

pub returns-in_ok-changes_of-in-None-clause-adapted : goal.returns-in_ok-changes_of-in-None-clause-adapted
returns-in_ok-changes_of-in-None-clause-adapted g c =
    let old = c.args.old.now in
    let new = c.args.new.now in
    let rank = c.args.rank.now in
    let kept = g.M.MarkReads.kept c.args.marks.now in
    let es = (g.T.TrailReads.kept c.args.trail.now).entries in
    let found : Found = c.in_ok-found.found in
    let nodes_are = c.as_slice-nodes.ensures in
    let right = subst (λ l. IsFound new.cards rank kept l found) nodes_are c.in_ok-found.ensures.found in
    let con = subst (λ l. Confined new.cards rank (is_reached new.cards rank l) [] found.nodes) nodes_are c.in_ok-found.ensures.inside in
    let misfit = c.region_misfit.ensures.misfit ∙ ap (λ l. region_misfit old new found.known es l found.nodes) nodes_are in
    let are = c.in_ok-changes_of-in-None.ensures.rows ∙ ap (λ l. without (gone_of new.cards l) found.changes) nodes_are in
    adapt-moved old new rank c.args.touched.now kept es found right con c.in_ok-changes_of-in-None.field-0 (sym misfit ∙ c.in-None.is) are c.in_ok-changes_of-in-None.ensures.ascends

pub returns-in_ok-changes_of-in-None-clause-touched : goal.returns-in_ok-changes_of-in-None-clause-touched
returns-in_ok-changes_of-in-None-clause-touched g c =
    let new = c.args.new.now in
    let found : Found = c.in_ok-found.found in
    let nodes_are = c.as_slice-nodes.ensures in
    let told = subst (λ l. TellsOf new.cards l found) nodes_are c.in_ok-found.ensures.told in
    let are = c.in_ok-changes_of-in-None.ensures.rows ∙ ap (λ l. without (gone_of new.cards l) found.changes) nodes_are in
    tells-touched new.cards c.args.touched.now found.changes c.in_ok-changes_of-in-None.field-0 told are
