use Rattle.case_core.proofs.{Common.{◌+◌, ◌∙◌, ◌≡◌, ◌≤◌, ap, cards_of, EndRemarks, EndsRight, flat_of, FlatModel, IfOk-weaker, is_sound, IsRank, LiveModel, reach_size, SchemaModel, sound-regular, subst, TrailModel}, Marked.end-remarks}
use Rattle.case_core.proofs.live_of.LiveOf.end_changes.Goals as goal

pub returns-clause-changes : goal.returns-clause-changes
returns-clause-changes g c =
    let l : LiveModel = c.args.self.now in
    let flat : c.flat.result.now ≡ flat_of l.schema = c.flat.ensures.flat ∙ ap flat_of c.checked-schema.ensures in
    let position : c.next-position.result ≡ l.trail.next = c.next-position.ensures.next ∙ ap (λ (t : TrailModel). t.next) c.trail.ensures.trail in
    let ranked : IsRank (cards_of l.schema) c.rank.result.now = subst (λ (s : SchemaModel). IsRank (cards_of s) c.rank.result.now) c.checked-schema.ensures c.rank.ensures in
    IfOk-weaker c.after_end.result (EndsRight c.flat.result.now c.rank.result.now (g.M.MarkReads.kept c.args.marks.now) c.args.node c.next-position.result c.args.choice) (EndRemarks l c.args.node c.args.choice)
    (end-remarks l c.base.ensures.kept c.rank.result.now ranked (g.M.MarkReads.kept c.args.marks.now) c.requires.marks c.flat.result.now flat c.next-position.result position c.args.node c.args.choice) c.after_end.ensures.changes

pub returns-clause-few : goal.returns-clause-few
returns-clause-few g c =
    let l : LiveModel = c.args.self.now in
    let flat : c.flat.result.now ≡ flat_of l.schema = c.flat.ensures.flat ∙ ap flat_of c.checked-schema.ensures in
    let ranked : IsRank (cards_of l.schema) c.rank.result.now = subst (λ (s : SchemaModel). IsRank (cards_of s) c.rank.result.now) c.checked-schema.ensures c.rank.ensures in
    let regular = sound-regular l.schema (is_sound l.schema c.base.ensures.kept.checked.sound).blocks in (
      c.rank.result.now,
      ranked,
      λ has.
          subst (λ (f : FlatModel). g.M.MarkReads.reads c.after_end.new.marks ≤ g.M.MarkReads.reads c.args.marks.now + reach_size f.cards c.rank.result.now c.args.node) flat
          (c.after_end.ensures.few l.schema flat regular ranked has),
    )
