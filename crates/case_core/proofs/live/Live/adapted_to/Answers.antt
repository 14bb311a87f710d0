use Rattle.case_core.proofs.Common.{ℕ, ◌+◌, ◌∙◌, ◌≡◌, ◌≤◌, AdaptsRight, ap, arith, flat_of, FlatModel, IsAdaptedTo, List, live_in, LiveModel, marks_to_read, refl, SchemaModel, subst, TellsTouched, TrailModel}
use Rattle.case_core.proofs.Moving.{adapted-to, both-ok, net-of}
use Rattle.wsm_touch.specs.TouchedNodes.{touched_nodes}
use Rattle.case_core.proofs.live.Live.adapted_to.Goals as goal

pub adapt-requires : goal.adapt-requires
adapt-requires g c = net-of c.args.schema.now c.flat-new.ensures.checked c.flat-new.result.now c.flat-new.ensures.flat c.rank.result.now c.rank.ensures

pub returns-clause-adapted : goal.returns-clause-adapted
returns-clause-adapted g c =
    let t : TrailModel = g.T.TrailReads.kept c.args.trail.now in
    let l : LiveModel = live_in t c.args.self.now in
    let s : SchemaModel = c.args.schema.now in
    let old = c.flat-old.result.now in
    let new = c.flat-new.result.now in
    let rows = g.M.MarkReads.kept c.args.marks.now in
    let nodes = c.in_ok-nodes.nodes in
    both-ok c.adapt.result (AdaptsRight old new c.rank.result.now nodes rows t.entries) (TellsTouched nodes) (IsAdaptedTo l s)
    (adapted-to l c.requires.live.0 s c.flat-new.ensures.checked old new (c.flat-old.ensures.flat ∙ ap flat_of c.deref.ensures) c.flat-new.ensures.flat c.rank.result.now nodes c.rank.ensures c.in_ok-nodes.ensures.others rows (c.requires.marks ∙ c.requires.live.1.0) t.entries refl) c.adapt.ensures.adapted c.adapt.ensures.touched

pub returns-clause-marks_few : goal.returns-clause-marks_few
returns-clause-marks_few g c =
    let s : SchemaModel = c.args.self.now.now.value in
    let new : SchemaModel = c.args.schema.now in
    let olds : c.flat-old.result.now ≡ flat_of s = c.flat-old.ensures.flat ∙ ap flat_of c.deref.ensures in
    let news : c.flat-new.result.now ≡ flat_of new = c.flat-new.ensures.flat in
    let nodes : c.in_ok-nodes.nodes ≡ touched_nodes (flat_of s) (flat_of new) = c.in_ok-nodes.ensures.nodes ∙ ap (λ (f : FlatModel). touched_nodes f c.flat-new.result.now) olds ∙ ap (touched_nodes (flat_of s)) news in (
      c.rank.result.now,
      c.rank.ensures,
      subst (λ (f : FlatModel). g.M.MarkReads.reads c.adapt.new.marks ≤ g.M.MarkReads.reads c.args.marks.now + marks_to_read f c.rank.result.now (touched_nodes (flat_of s) (flat_of new))) news
          (subst (λ (ns : List ℕ). g.M.MarkReads.reads c.adapt.new.marks ≤ g.M.MarkReads.reads c.args.marks.now + marks_to_read c.flat-new.result.now c.rank.result.now ns) nodes c.adapt.ensures.marks_few),
    )

pub returns-in_err-nodes-clause-marks_few : goal.returns-in_err-nodes-clause-marks_few
returns-in_err-nodes-clause-marks_few g c = (c.flat-new.ensures.checked.rank, c.flat-new.ensures.checked.ranked, omega arith)
