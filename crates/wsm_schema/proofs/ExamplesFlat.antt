-- The flat form: cards in document order, each with its edges.
use Rattle.wsm_schema.proofs.{Common.{[], ◌∷◌, ◌≡◌, Card, card_at, cards_of, false, flat_of, kind_in, labelled, loop_nodes, None, place, places, plain_end, refl, Some}, ExampleSchemas.{skip, looped, writing_loop, waiting_for_skipped}}
use Rattle.wsm_schema.specs.declared.cards.NodeKind.TheVariants as node
use Rattle.wsm_lists.specs.declared.values.ElementKind.TheVariants as kind

-- an edge out of a split has its branch's code; a branch without items is one edge from split to join
pub places_of_a_choice : places skip.start skip.body skip.finish ≡
    place 0 node.Start None [] (plain_end 2 ∷ [])
    ∷ place 2 node.XorSplit (Some 3) (plain_end 0 ∷ []) (labelled 3 0 ∷ labelled 4 1 ∷ [])
    ∷ place 4 node.Activity None (labelled 2 1 ∷ []) (plain_end 3 ∷ [])
    ∷ place 3 node.XorJoin (Some 2) (labelled 2 0 ∷ plain_end 4 ∷ []) (plain_end 5 ∷ [])
    ∷ place 5 node.Activity None (plain_end 3 ∷ []) (plain_end 1 ∷ [])
    ∷ place 1 node.Finish None (plain_end 5 ∷ []) []
    ∷ []
places_of_a_choice = refl

-- no edge leads from a loop's end back to its start
pub places_of_a_loop : places looped.start looped.body looped.finish ≡
    place 0 node.Start None [] (plain_end 2 ∷ [])
    ∷ place 2 node.LoopStart (Some 3) (plain_end 0 ∷ []) (plain_end 4 ∷ [])
    ∷ place 4 node.Activity None (plain_end 2 ∷ []) (plain_end 3 ∷ [])
    ∷ place 3 node.LoopEnd (Some 2) (plain_end 4 ∷ []) (plain_end 1 ∷ [])
    ∷ place 1 node.Finish None (plain_end 3 ∷ []) []
    ∷ []
places_of_a_loop = refl

abbrev reader : Card
reader = record {
  node = 4;
  kind = node.Activity;
  partner = None;
  ins = plain_end 2 ∷ [];
  outs = plain_end 5 ∷ [];
  syncs_in = [];
  syncs_out = [];
  reads = (0, false) ∷ [];
  writes = [];
  role = 2;
}

-- a card has what the lists say of its node
pub card_of_a_reader : card_at 4 (cards_of writing_loop) ≡ Some reader
card_of_a_reader = refl

abbrev waiting : Card
waiting = record {
  node = 7;
  kind = node.Activity;
  partner = None;
  ins = labelled 2 1 ∷ [];
  outs = plain_end 3 ∷ [];
  syncs_in = 6 ∷ [];
  syncs_out = [];
  reads = [];
  writes = [];
  role = 0;
}

pub card_with_a_sync_edge : card_at 7 (cards_of waiting_for_skipped) ≡ Some waiting
card_with_a_sync_edge = refl

pub no_card : card_at 9 (cards_of writing_loop) ≡ None
no_card = refl

pub kind_of_an_element : kind_in 0 (flat_of writing_loop).elements ≡ Some kind.Int
kind_of_an_element = refl

pub no_element : kind_in 1 (flat_of writing_loop).elements ≡ None
no_element = refl

-- a loop's nodes, with its start and its end; no other node ends one
pub nodes_of_a_loop : loop_nodes (cards_of writing_loop) 3 ≡ 2 ∷ 4 ∷ 5 ∷ 7 ∷ 6 ∷ 3 ∷ []
nodes_of_a_loop = refl

pub no_loop_ends_there : loop_nodes (cards_of writing_loop) 6 ≡ []
no_loop_ends_there = refl
