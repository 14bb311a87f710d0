-- Timed marks of a net as the solution of one equation for each node.
use Rattle.std.specs.Prelude.{◌≡◌, ℕ, Bool, true, false, ◌&&◌, not, List, [], ◌∷◌, map, Option, Some, None, nat_lt, if◌then◌else◌, is_some}
use Rattle.wsm_schema.specs.{Flat.card_at, Kinds.{is_xor_split, worked_on}, Rules.{is_chosen, judge_of, Spots, spot, spot_in, state_by, is_begun}, declared.cards.Card.Card, declared.cards.NodeKind.NodeKind, declared.states.Flow.Flow}
use Rattle.wsm_schema.specs.{declared.states.Spot.Spot, declared.states.Verdict.Verdict, Marks.Facts, declared.entries.Entry.Entry}
use Rattle.wsm_schema.specs.declared.cards.NodeKind.TheVariants.{Start}
use Rattle.wsm_schema.specs.declared.states.State.TheVariants.{Running, Completed}
use Rattle.wsm_schema.specs.declared.states.Flow.TheVariants.{Yes, No}
use Rattle.wsm_schema.specs.declared.states.Verdict.TheVariants as verdict

-- entries by position
abbrev pub Entries : Type 0
Entries = List (ℕ × Entry)

-- a time with what holds from then on: of a node Yes is "ready", No is "skipped"; of an edge its signal
abbrev pub Timed : Type 0
Timed = Option (ℕ × Flow)

-- what holds of it
abbrev pub flow : Timed → Option Flow
flow None = None
flow (Some x) = Some x.1

-- since when; 0 where nothing holds
abbrev pub time : Timed → ℕ
time None = 0
time (Some x) = x.0

-- what holds of it before q
abbrev pub before : ℕ → Timed → Option Flow
before q x = if nat_lt (time x) q then flow x else None

-- the greater of two numbers
abbrev pub greater : ℕ → ℕ → ℕ
greater a b = if nat_lt a b then b else a

-- the greatest time of a list
abbrev pub latest : List Timed → ℕ
latest [] = 0
latest (x ∷ xs) = greater (time x) (latest xs)

-- the signals that a node waits for
abbrev pub awaited : {X : Type 0} → NodeKind → List X → List X
awaited Start xs = []
awaited _ xs = xs

-- a verdict with its time: a node is ready when the last of its edges is signaled, and skipped when the last of its control edges is
abbrev pub timed_by : Verdict → ℕ → ℕ → Timed
timed_by verdict.Waiting a b = None
timed_by verdict.Ready a b = Some (greater a b, Yes)
timed_by verdict.Skipped a b = Some (a, No)

-- the equation of a node
abbrev pub eq_of : NodeKind → List Timed → List Timed → Timed
eq_of kind control syncs = timed_by (judge_of kind (map flow control) (map flow syncs)) (latest (awaited kind control)) (latest syncs)

-- the verdict that a mark shows
abbrev pub verdict_of : Option Flow → Verdict
verdict_of None = verdict.Waiting
verdict_of (Some Yes) = verdict.Ready
verdict_of (Some No) = verdict.Skipped

-- the signal of a node that is worked on, by its End and by the choice of that End
abbrev pub ended_signal : NodeKind → Option ℕ → Option ℕ → Option ℕ → Timed
ended_signal kind None choice label = None
ended_signal kind (Some t) choice label = Some (t, if is_xor_split kind && not (is_chosen choice label) then No else Yes)

-- the timed signal of an edge, by its source's kind and mark: a skip goes before an end
abbrev pub sig_of : NodeKind → Timed → Option ℕ → Option ℕ → Option ℕ → Timed
sig_of kind (Some (t, No)) ended choice label = Some (t, No)
sig_of kind (Some (t, Yes)) ended choice label = if worked_on kind then ended_signal kind ended choice label else Some (t, Yes)
sig_of kind None ended choice label = if worked_on kind then ended_signal kind ended choice label else None

-- a mark for each node
abbrev pub Marking : Type 0
Marking = ℕ → Timed

-- the same by its source's card; an edge from no node of the net signals nothing
abbrev pub sig_by : Option Card → Timed → Option ℕ → Option ℕ → Option ℕ → Timed
sig_by None x ended choice label = None
sig_by (Some c) x ended choice label = sig_of c.kind x ended choice label

-- the timed signal of an edge from a node
abbrev pub sig_at : List Card → Facts → Marking → Option ℕ → ℕ → Timed
sig_at cards f m label n = sig_by (card_at n cards) (m n) (f.ended n) (f.choice n) label

-- the equation of a card's node
abbrev pub eq_at : List Card → Facts → Marking → Card → Timed
eq_at cards f m c = eq_of c.kind (map (λ e. sig_at cards f m e.label e.node) c.ins) (map (sig_at cards f m None) c.syncs_in)

-- a marking that meets each node's equation
pub record Solves (cards : List Card) (f : Facts) (m : Marking) : Type 0 where
  pub meets : (n : ℕ) (c : Card) → card_at n cards ≡ Some c → m n ≡ eq_at cards f m c

-- whether a fact holds before q
abbrev pub early : ℕ → Option ℕ → Bool
early q None = false
early q (Some t) = nat_lt t q

-- what a node is before q where it was started or ended, else s
abbrev pub begun_or : ℕ → Facts → ℕ → Spot → Spot
begun_or q f n s =
    if early q (f.ended n) then spot n Completed (f.choice n)
    else (if early q (f.started n) then spot n Running None else s)

-- the spot of a node before q
abbrev pub spot_before : ℕ → Facts → Marking → NodeKind → ℕ → Spot
spot_before q f m kind n = begun_or q f n (spot n (state_by kind (verdict_of (before q (m n)))) None)

-- the marking before q: the spots of all cards' nodes
abbrev pub below : List Card → ℕ → Facts → Marking → Spots
below cards q f m = map (λ c. spot_before q f m c.kind c.node) cards

-- a table that is the marking before q, at the cards' nodes
pub record IsBelow (cards : List Card) (q : ℕ) (f : Facts) (m : Marking) (t : Spots) : Type 0 where
  pub at : (n : ℕ) (c : Card) → card_at n cards ≡ Some c → spot_in n t ≡ spot_before q f m c.kind n

-- before q, only worked-on nodes that were ready are started, and only started nodes ended
pub record InTime (cards : List Card) (q : ℕ) (f : Facts) (m : Marking) : Type 0 where
  pub start : (n : ℕ) → early q (f.started n) ≡ true → (c : Card) × (card_at n cards ≡ Some c) × (worked_on c.kind ≡ true) × (before q (m n) ≡ Some Yes)
  pub end : (n : ℕ) → early q (f.ended n) ≡ true → early q (f.started n) ≡ true

-- what was begun in a table are the facts before q
pub record KeptSpots (cards : List Card) (q : ℕ) (f : Facts) (old : Spots) : Type 0 where
  pub is : (n : ℕ) (c : Card) → card_at n cards ≡ Some c → (s : Spot) →
      (if is_begun c.kind (spot_in n old).state then spot_in n old else s) ≡ begun_or q f n s

-- whether a node is ready, or skipped, since some time
abbrev pub is_marked : Timed → Bool
is_marked x = is_some (flow x)

-- nobody may start or end a node: each worked-on node that is ready was ended
abbrev pub Idle : List Card → Facts → Marking → Type 0
Idle cards f m = (n : ℕ) (c : Card) → card_at n cards ≡ Some c → worked_on c.kind ≡ true → (t : ℕ) → m n ≡ Some (t, Yes) → (u : ℕ) × (f.ended n ≡ Some u)
