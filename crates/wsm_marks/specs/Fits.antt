-- What a trail says, entry by entry, and which entries fit a solution.
use Rattle.std.specs.Prelude.{◌≡◌, ℕ, Bool, true, false, ◌&&◌, ◌||◌, List, [], ◌∷◌, Option, Some, None, nat_lt, if◌then◌else◌}
use Rattle.wsm_schema.specs.{Flat.{FlatModel, card_at}, Kinds.{is_loop_end, worked_on}, Rules.{is_yes, Spots}, Replay.{on_card, fits_reads, fits_edges, fits_choice, Outcome, whole, fails}, Marks.{is_start_of, is_end_of, Facts, facts_of}}
use Rattle.wsm_schema.specs.{declared.cards.Card.Card, declared.entries.Entry.Entry}
use Rattle.wsm_lists.specs.{Rows.AllRows, declared.values.Value.Value}
use Rattle.wsm_schema.specs.declared.entries.Entry.TheVariants as entry
use Rattle.wsm_marks.specs.Timed.{Entries, InTime, IsBelow, Marking, before, early}

-- positions ascend
abbrev pub RisesAfter : ℕ → Entries → Type 0
RisesAfter last [] = Unit {0}
RisesAfter last (e ∷ es) = (nat_lt last e.0 ≡ true) × RisesAfter e.0 es

-- at most one Start and one End for each node, in that order
abbrev pub InOrder : Facts → ℕ → Entry → Type 0
InOrder f p (entry.Start node user reads) = f.started node ≡ Some p
InOrder f p (entry.End node writes choice) = (f.ended node ≡ Some p) × (f.choice node ≡ choice) × (early p (f.started node) ≡ true)
InOrder f p (entry.Again node writes) = Unit {0}
InOrder f p (entry.Wrote writes) = Unit {0}

-- positions that rise, and entries in order
pub record Orderly (es : Entries) : Type 0 where
  pub rises : RisesAfter 0 es
  pub order : AllRows (λ e. InOrder (facts_of es) e.0 e.1) es

-- no fact from a on below b
pub record Quiet (f : Facts) (a b : ℕ) : Type 0 where
  pub starts : (n : ℕ) → early b (f.started n) ≡ early a (f.started n)
  pub ends : (n : ℕ) → early b (f.ended n) ≡ early a (f.ended n)

-- an entry is the one fact at its position
pub record Tells (f : Facts) (last p : ℕ) (x : Entry) : Type 0 where
  pub later : nat_lt last p ≡ true
  pub quiet : Quiet f (ℕ.suc last) p
  pub starts : (n : ℕ) → early (ℕ.suc p) (f.started n) ≡ (early p (f.started n) || is_start_of n x)
  pub ends : (n : ℕ) → early (ℕ.suc p) (f.ended n) ≡ (early p (f.ended n) || is_end_of n x)
  pub order : InOrder f p x

-- the entries behind `last` are the facts from there on
abbrev pub Told : Facts → ℕ → Entries → Type 0
Told f last [] = (q : ℕ) → nat_lt last q ≡ true → Quiet f (ℕ.suc last) q
Told f last (e ∷ es) = Tells f last e.0 e.1 × Told f e.0 es

-- whether the start of a loop is done before p
abbrev pub partner_done : List Card → Facts → Marking → ℕ → Option ℕ → Bool
partner_done cards f m p None = false
partner_done cards f m p (Some n) = on_card (card_at n cards) (λ d. if worked_on d.kind then early p (f.ended n) else is_yes (before p (m n)))

-- whether an entry fits at p: by cards, facts and solution alone, with no replay
abbrev pub fits : FlatModel → Facts → Marking → (ℕ → Option Value) → ℕ → Entry → Bool
fits g f m value p (entry.Start node user reads) =
    on_card (card_at node g.cards) (λ c. (worked_on c.kind && is_yes (before p (m node))) && fits_reads value reads c.reads)
fits g f m value p (entry.End node writes choice) = on_card (card_at node g.cards) (λ c. fits_edges g.elements writes c.writes && fits_choice c choice)
fits g f m value p (entry.Again node writes) = on_card (card_at node g.cards) (λ c. is_loop_end c.kind && partner_done g.cards f m p c.partner)
fits g f m value p (entry.Wrote writes) = true

-- the position of the first entry that does not fit
abbrev pub first_misfit : FlatModel → Facts → Marking → (ℕ → ℕ → Option Value) → Entries → Option ℕ
first_misfit g f m value [] = None
first_misfit g f m value (e ∷ es) = if fits g f m (λ d. value d e.0) e.0 e.1 then first_misfit g f m value es else Some e.0

-- the last position, or the one before the first entry
abbrev pub last_position : ℕ → Entries → ℕ
last_position last [] = last
last_position last (e ∷ es) = last_position e.0 es

-- the outcome of a replay: it fails at the first misfit, else it ends with the marking behind the last position
abbrev pub Ends : List Card → Facts → Marking → ℕ → Option ℕ → Outcome → Type 0
Ends cards f m q (Some p) o = o ≡ fails p
Ends cards f m q None o = (t : Spots) × (o ≡ whole t) × IsBelow cards q f m t × InTime cards q f m

-- no fact before 1
pub record Fresh (f : Facts) : Type 0 where
  pub starts : (n : ℕ) → early 1 (f.started n) ≡ false
  pub ends : (n : ℕ) → early 1 (f.ended n) ≡ false
