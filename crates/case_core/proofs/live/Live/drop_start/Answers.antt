use Rattle.case_core.proofs.{Common.{ℕ, ◌∙◌, ◌≡◌, ap, Card, cards_of, changed, ChangesItems, entries_with, Item, KeepsItems, List, live_in, LiveModel, None, Option, refl, RenewsItems, TrailModel, with_trail, withdrawn}, ItemLoops.made-so}
use Rattle.case_core.proofs.{ItemLoops.{renewed-so, renewed_changes, renews-of}, KeptHolders.left-made, KeptItems.{keeps-of, left-items, told-of}, Marked.after-event}
use Rattle.case_core.proofs.live.Live.drop_start.Goals as goal

pub returns-clause-live : goal.returns-clause-live
returns-clause-live g c =
    let t : TrailModel = g.T.TrailReads.kept c.args.trail.now in
    let l : LiveModel = live_in t c.args.self.now in
    let new : TrailModel = withdrawn c.args.node t in
    let m : LiveModel = live_in (g.T.TrailReads.kept c.drop_start.new.self) c.args.self.now in
    let same : m ≡ with_trail l new = ap (λ t. live_in t c.args.self.now) c.drop_start.ensures.trail in
    let marks = after-event l m new c.args.self.now.marks.rows c.take_in.new.self.rows c.args.changes same c.requires.live.1.0
    (c.take_in.ensures.rows ∙ ap (changed c.args.changes) c.reserve.ensures.same) c.requires.kept c.requires.marks in
    let olds : List (ℕ × Item) = c.args.self.now.items.rows in
    let old : KeepsItems l olds = keeps-of l l refl c.args.self.now.marks.rows c.requires.live.1.0 olds c.requires.live.1.1 in
    let cards : List Card = cards_of l.schema in
    let renews : RenewsItems cards c.next.result None olds c.args.changes c.renew_items.new.items.rows =
    renews-of l.schema c.deref.result.now c.deref.ensures c.next.result None c.reserve-2.new.self.rows olds c.reserve-2.ensures.same c.args.changes c.renew_items.new.items.rows c.renew_items.ensures.items in
    let taken : List (ℕ × Option Item) = renewed_changes cards c.next.result None olds c.args.changes in
    let made : ChangesItems cards (entries_with l.trail None) c.args.changes taken =
    left-made l c.requires.live.0 olds old c.args.node c.requires.kept c.args.changes c.renew_items.ensures.ascends c.requires.marks c.next.result taken (made-so cards c.next.result None olds c.args.changes) in
    let items : KeepsItems (with_trail l new) c.renew_items.new.items.rows =
    left-items l c.requires.live.0 c.args.node c.requires.kept c.args.changes c.renew_items.ensures.ascends c.requires.marks olds c.renew_items.new.items.rows taken old made
    (renewed-so cards c.next.result None olds c.args.changes c.renew_items.new.items.rows renews) in
    (marks.0, (marks.1, told-of (with_trail l new) m same c.take_in.new.self.rows marks.1 c.renew_items.new.items.rows items))
