-- What speaks against an operation, by the cards of the schema.
use Rattle.std.specs.{Prelude.{ℕ, Bool, true, false, ◌&&◌, ◌||◌, not, ◌==◌, List, [], ◌∷◌, Option, Some, None, is_some, if◌then◌else◌}, Option.option_or, List.list_any}
use Rattle.wsm_lists.specs.{Rows.row_at, Keys.both}
use Rattle.wsm_schema.specs.{Kinds.{worked_on, is_activity}, Flat.card_at, Trail.is_one_of, Sound.when, declared.cards.Card.Card, declared.cards.End.End, declared.cards.NodeKind.NodeKind}
use Rattle.wsm_schema.specs.declared.cards.NodeKind.TheVariants as node_kind
use Rattle.wsm_ops.specs.{Edit.{is_behind, is_code}, declared.operations.Gap.Gap, declared.faults.OpWhy.OpWhy}
use Rattle.wsm_ops.specs.declared.operations.Gap.TheVariants as gap
use Rattle.wsm_ops.specs.declared.faults.OpWhy.TheVariants.{NoNode, NodeThere, WrongKind, SelfTarget, SyncThere}

-- a node that is not there, or whose card fails a test
abbrev pub by_card : (Card → Bool) → ℕ → Option Card → Option OpWhy
by_card test n None = Some (NoNode n)
by_card test n (Some c) = when (not (test c)) (WrongKind n)

abbrev pub wrong_unless : (Card → Bool) → List Card → ℕ → Option OpWhy
wrong_unless test cards n = by_card test n (card_at n cards)

abbrev pub unless_activity : List Card → ℕ → Option OpWhy
unless_activity = wrong_unless (λ c. is_activity c.kind)

abbrev pub unless_worked_on : List Card → ℕ → Option OpWhy
unless_worked_on = wrong_unless (λ c. worked_on c.kind)

-- a new node whose number is in the schema, or is one of the new nodes before it
abbrev pub taken : List Card → List ℕ → ℕ → Option OpWhy
taken cards earlier n = when (is_some (card_at n cards) || is_one_of n earlier) (NodeThere n)

-- the same of the three nodes of a new block
abbrev pub one_taken : List Card → (node split join : ℕ) → Option OpWhy
one_taken cards node split join =
    option_or (taken cards [] node) (option_or (taken cards (node ∷ []) split) (taken cards (node ∷ split ∷ []) join))

-- whether something may stand directly behind such a node
abbrev pub takes_behind : NodeKind → Bool
takes_behind node_kind.Finish = false
takes_behind node_kind.AndSplit = false
takes_behind node_kind.XorSplit = false
takes_behind _ = true

-- whether it is a split
abbrev pub is_split : NodeKind → Bool
is_split node_kind.AndSplit = true
is_split node_kind.XorSplit = true
is_split _ = false

-- whether an edge has the code
abbrev pub has_code : ℕ → List End → Bool
has_code code ends = list_any (λ e. is_code e.label code) ends

-- the gap test
abbrev pub gap_refusal : List Card → Gap → Option OpWhy
gap_refusal cards (gap.After n) = wrong_unless (λ c. takes_behind c.kind) cards n
gap_refusal cards (gap.Head split code) = wrong_unless (λ c. is_split c.kind && has_code code c.outs) cards split

-- whether an item begins with such a node
abbrev pub begins_item : NodeKind → Bool
begins_item node_kind.Activity = true
begins_item node_kind.AndSplit = true
begins_item node_kind.XorSplit = true
begins_item node_kind.LoopStart = true
begins_item _ = false

-- whether the item that begins with this card's node ends with that node
abbrev pub ends_item : Card → ℕ → Bool
ends_item c last = if is_activity c.kind then c.node == last else is_code c.partner last

-- what is wrong with the item that begins with this card's node
abbrev pub wrong_item : List Card → (first last : ℕ) → Option Card → Option OpWhy
wrong_item cards first last None = Some (NoNode first)
wrong_item cards first last (Some c) =
    option_or (when (not (begins_item c.kind)) (WrongKind first)) (wrong_unless (λ _. ends_item c last) cards last)

abbrev pub item_refusal : List Card → (first last : ℕ) → Option OpWhy
item_refusal cards first last = wrong_item cards first last (card_at first cards)

-- the refusal of a move
abbrev pub move_refusal : List Card → ℕ → Gap → Option OpWhy
move_refusal cards node gap =
    option_or (unless_activity cards node) (option_or (when (is_behind gap node) (SelfTarget node)) (gap_refusal cards gap))

-- the refusal of a new sync edge
abbrev pub sync_refusal : List Card → List (ℕ × ℕ) → (source target : ℕ) → Option OpWhy
sync_refusal cards syncs source target =
    option_or (unless_activity cards source)
    (option_or (unless_activity cards target) (when (is_some (row_at both (source, target) syncs)) SyncThere))
