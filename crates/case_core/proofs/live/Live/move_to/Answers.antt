use Rattle.case_core.proofs.{Common.{ℕ, ◌∙◌, ◌≡◌, ap, Card, cards_of, changed, ChangesItems, Item, KeepsItems, List, live_in, LiveModel, marks_in, None, on_schema, Option, refl, RenewsItems, SchemaModel, TrailModel}, ItemLoops.made-so}
use Rattle.case_core.proofs.{ItemLoops.{renewed-so, renewed_changes, renews-of}, KeptHolders.moved-made, KeptItems.{keeps-of, told-of}, Moving.moved-items}
use Rattle.case_core.proofs.live.Live.move_to.Goals as goal

pub returns-clause-live : goal.returns-clause-live
returns-clause-live g c =
    let t : TrailModel = g.T.TrailReads.kept c.args.trail.now in
    let l : LiveModel = live_in t c.args.self.now in
    let s : SchemaModel = c.args.schema.value in
    let m : LiveModel = on_schema l c.args.base c.args.own s in
    let marks : c.take_in.new.self.rows ≡ marks_in m =
    c.take_in.ensures.rows ∙ ap (changed c.args.changes) (c.reserve.ensures.same ∙ c.requires.live.1.0) ∙ c.requires.moves.marks in
    let olds : List (ℕ × Item) = c.args.self.now.items.rows in
    let old : KeepsItems l olds = keeps-of l l refl c.args.self.now.marks.rows c.requires.live.1.0 olds c.requires.live.1.1 in
    let cards : List Card = cards_of s in
    let renews : RenewsItems cards c.next.result None olds c.args.changes c.renew_items.new.items.rows =
    renews-of s c.deref.result.now c.deref.ensures c.next.result None c.reserve-2.new.self.rows olds c.reserve-2.ensures.same c.args.changes c.renew_items.new.items.rows c.renew_items.ensures.items in
    let taken : List (ℕ × Option Item) = renewed_changes cards c.next.result None olds c.args.changes in
    let made : ChangesItems cards t.entries c.args.changes taken =
    moved-made l c.requires.live.0 olds old c.args.base c.args.own s c.requires.kept c.args.changes c.renew_items.ensures.ascends c.requires.moves c.next.result taken (made-so cards c.next.result None olds c.args.changes) in
    let items : KeepsItems m c.renew_items.new.items.rows =
    moved-items l s c.args.changes c.renew_items.ensures.ascends c.requires.moves olds c.renew_items.new.items.rows taken old made
    (renewed-so cards c.next.result None olds c.args.changes c.renew_items.new.items.rows renews) in
    (c.requires.kept, (marks, told-of m m refl c.take_in.new.self.rows marks c.renew_items.new.items.rows items))
