-- The body of a loop in a net, and facts without it.
use Rattle.std.specs.Prelude.{◌≡◌, ◌⊎◌, ℕ, Bool, true, false, List, [], ◌∷◌, filter_map, Some, None, ◌==◌}
use Rattle.wsm_schema.specs.{Flat.card_at, Kinds.{worked_on, is_loop_end}, Trail.{is_one_of, cut_entry}, declared.cards.Card.Card, declared.cards.NodeKind.NodeKind, declared.entries.Entry.Entry, Marks.Facts}
use Rattle.wsm_lists.specs.Rows.{AllRows}
use Rattle.wsm_schema.specs.declared.cards.NodeKind.TheVariants.{Start}
use Rattle.wsm_schema.specs.declared.entries.Entry.TheVariants as entry
use Rattle.wsm_marks.specs.Timed.{Entries}

-- each node but a start has an edge into it
abbrev pub HasEdge : {X : Type 0} → NodeKind → List X → Type 0
HasEdge Start xs = Unit {0}
HasEdge _ [] = ⊥
HasEdge _ (x ∷ xs) = Unit {0}

-- a node that is no start, with an edge into it
abbrev pub Inner : {X : Type 0} → NodeKind → List X → Type 0
Inner Start xs = ⊥
Inner _ [] = ⊥
Inner _ (x ∷ xs) = Unit {0}

-- what the cut asks of a loop from l to e with these nodes: nothing enters it but at l, nothing leaves it but from e
pub record LoopOf (cards : List Card) (body : List ℕ) (l e : ℕ) : Type 0 where
  pub has_end : is_one_of e body ≡ true
  pub silent : (c : Card) → card_at l cards ≡ Some c → worked_on c.kind ≡ false
  pub works : (c : Card) → card_at e cards ≡ Some c → worked_on c.kind ≡ true
  pub inner : (n : ℕ) (c : Card) → card_at n cards ≡ Some c → is_one_of n body ≡ true → (n == l) ≡ false → Inner c.kind c.ins
  pub within : (n : ℕ) (c : Card) → card_at n cards ≡ Some c → is_one_of n body ≡ true → (n == l) ≡ false → AllRows (λ x. is_one_of x.node body ≡ true) c.ins
  pub ins : (n : ℕ) (c : Card) → card_at n cards ≡ Some c → (is_one_of n body ≡ false) ⊎ (n ≡ l) → AllRows (λ x. (is_one_of x.node body ≡ false) ⊎ (x.node ≡ e)) c.ins
  pub syncs : (n : ℕ) (c : Card) → card_at n cards ≡ Some c → (is_one_of n body ≡ false) ⊎ (n ≡ l) → AllRows (λ x. is_one_of x body ≡ false) c.syncs_in
  pub partners : (n k : ℕ) (c : Card) → card_at n cards ≡ Some c → is_one_of n body ≡ false → is_loop_end c.kind ≡ true → c.partner ≡ Some k → is_one_of k body ≡ false

-- the same facts outside the body, none inside
pub record Cleared (body : List ℕ) (f f' : Facts) : Type 0 where
  pub started : (n : ℕ) → is_one_of n body ≡ false → f'.started n ≡ f.started n
  pub ended : (n : ℕ) → is_one_of n body ≡ false → f'.ended n ≡ f.ended n
  pub choice : (n : ℕ) → is_one_of n body ≡ false → f'.choice n ≡ f.choice n
  pub no_start : (n : ℕ) → is_one_of n body ≡ true → f'.started n ≡ None
  pub no_end : (n : ℕ) → is_one_of n body ≡ true → f'.ended n ≡ None

-- the entries that a cut leaves
abbrev pub cut_entries : List ℕ → Entries → Entries
cut_entries body es = filter_map (λ e. cut_entry body e.0 e.1) es

-- whether an entry is of a node of the body
abbrev pub is_inside : List ℕ → Entry → Bool
is_inside body (entry.Start node user reads) = is_one_of node body
is_inside body (entry.End node writes choice) = is_one_of node body
is_inside body (entry.Again node writes) = is_one_of node body
is_inside body (entry.Wrote writes) = false
