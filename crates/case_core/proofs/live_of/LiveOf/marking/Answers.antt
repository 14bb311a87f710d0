use Rattle.case_core.proofs.{Common.{[], ◌∙◌, ◌≡◌, ap, by_node, Card, List, LiveModel, put_row, shown_spots, spot_in, Spots}, Marked.shown-again}
use Rattle.std.specs.List.{fold}
use Rattle.case_core.proofs.live_of.LiveOf.marking.Goals as goal

pub loop-card-init : goal.loop-card-init
loop-card-init g c =
    let l : LiveModel = c.args.self.now in
    let none : c.new-spots.result ≡ [] = c.new-spots.ensures in
    ap (λ (m : Spots). fold (λ m c. put_row by_node (spot_in c.node (shown_spots l)) m) m c.cards-card-items.result.now) none
    ∙ ap (λ (cs : List Card). fold (λ m c. put_row by_node (spot_in c.node (shown_spots l)) m) [] cs) c.cards-card-items.ensures.cards
    ∙ shown-again l c.cards-card-items.ensures.kept
