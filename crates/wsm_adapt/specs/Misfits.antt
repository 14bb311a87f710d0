-- Whether what was started, ended and repeated of a node still fits, told by its cards, its mark and the new marks alone.
use Rattle.std.specs.Prelude.{ℕ, Bool, false, ◌&&◌, ◌||◌, not, List, [], map, Option, Some, None, if◌then◌else◌}
use Rattle.wsm_lists.specs.declared.values.Value.{Value}
use Rattle.wsm_schema.specs.{Flat.{FlatModel, card_at}, Kinds.{is_loop_end, worked_on}, Marks.{Facts, is_again_of, position_of}, Replay.{fits_choice, on_card}, Rules.is_yes, declared.cards.Card.Card, declared.entries.Entry.Entry}
use Rattle.wsm_schema.specs.declared.marks.Mark.{Mark}
use Rattle.wsm_schema.specs.declared.entries.Entry.TheVariants as entry
use Rattle.wsm_trail.specs.EntryAt.{entry_at}
use Rattle.wsm_marks.specs.{Fits.partner_done, Timed.{Entries, Marking, Timed, before}}
use Rattle.wsm_walk.specs.{FirstBad.{least, lesser}, Kept.timed_of, Listed.seen, Touches.{edges_fit, reads_fit}, Walk.{facts_by, times_by}}
use Rattle.wsm_adapt.specs.Border.{is_known}

-- a position, unless what is there fits
abbrev pub unless : Bool → ℕ → Option ℕ
unless fits p = if fits then None else Some p

-- what a Start recorded
abbrev pub reads_in : Option Entry → List (ℕ × Option Value)
reads_in (Some (entry.Start node user reads)) = reads
reads_in _ = []

abbrev pub writes_in : Option Card → List ℕ
writes_in None = []
writes_in (Some c) = c.writes

-- the Start at p of a node with that new card and that new time, which recorded these reads
abbrev pub start_fits : Option Card → Timed → ℕ → List (ℕ × Option Value) → Bool
start_fits c x p reads = on_card c (λ d. (worked_on d.kind && is_yes (before p x)) && reads_fit reads d.reads)

-- the End of a node with that old card, that new one and that choice
abbrev pub end_fits : FlatModel → FlatModel → Option Card → Option Card → Option ℕ → Bool
end_fits a b o c choice = on_card c (λ d. edges_fit a.elements b.elements (writes_in o) d.writes && fits_choice d choice)

-- the Again at p of a node with that new card
abbrev pub again_fits : List Card → Facts → Marking → Option Card → ℕ → Bool
again_fits cards f m c p = on_card c (λ d. is_loop_end d.kind && partner_done cards f m p d.partner)

abbrev pub start_misfit : Entries → Option Card → Timed → Option ℕ → Option ℕ
start_misfit es c x None = None
start_misfit es c x (Some p) = unless (start_fits c x p (reads_in (entry_at p es))) p

abbrev pub end_misfit : FlatModel → FlatModel → Option Card → Option Card → Option ℕ → Option ℕ → Option ℕ
end_misfit a b o c None choice = None
end_misfit a b o c (Some p) choice = unless (end_fits a b o c choice) p

abbrev pub again_misfit : List Card → Facts → Marking → Option Card → Option ℕ → Option ℕ
again_misfit cards f m c None = None
again_misfit cards f m c (Some p) = unless (again_fits cards f m c p) p

-- the first position at which something of a node does not fit: f is what the trail tells, m are the new times
abbrev pub misfit_of : FlatModel → FlatModel → Facts → Marking → Entries → ℕ → Option ℕ
misfit_of a b f m es n =
    lesser (start_misfit es (card_at n b.cards) (m n) (f.started n))
    (lesser (end_misfit a b (card_at n a.cards) (card_at n b.cards) (f.ended n) (f.choice n)) (again_misfit b.cards f m (card_at n b.cards) (position_of (is_again_of n) es)))

-- ---- the same over marks that are known
-- the partner of a loop's end, where its mark is known
abbrev pub partner_in : List Card → List (ℕ × Option Mark) → ℕ → Option ℕ → Bool
partner_in cards rows p None = false
partner_in cards rows p (Some k) = not (is_known rows k) || partner_done cards (facts_by (seen [] rows)) (times_by (seen [] rows)) p (Some k)

abbrev pub again_known : List Card → List (ℕ × Option Mark) → Option Card → ℕ → Bool
again_known cards rows c p = on_card c (λ d. is_loop_end d.kind && partner_in cards rows p d.partner)

abbrev pub again_misfit_in : List Card → List (ℕ × Option Mark) → Option Card → Option ℕ → Option ℕ
again_misfit_in cards rows c None = None
again_misfit_in cards rows c (Some p) = unless (again_known cards rows c p) p

-- all of a node with that mark
abbrev pub misfit_by : FlatModel → FlatModel → List (ℕ × Option Mark) → Entries → ℕ → Mark → Option ℕ
misfit_by a b rows es n m =
    lesser (start_misfit es (card_at n b.cards) (timed_of m) m.started)
    (lesser (end_misfit a b (card_at n a.cards) (card_at n b.cards) m.ended m.choice) (again_misfit_in b.cards rows (card_at n b.cards) m.again))

-- all of a node
abbrev pub misfit_in : FlatModel → FlatModel → List (ℕ × Option Mark) → Entries → ℕ → Option ℕ
misfit_in a b rows es n = misfit_by a b rows es n (seen [] rows n)

-- of a node whose card is as it was: it was started or repeated too early
abbrev pub early_start : Option Card → Timed → Option ℕ → Option ℕ
early_start c x None = None
early_start c x (Some p) = unless (on_card c (λ d. worked_on d.kind && is_yes (before p x))) p

abbrev pub early_by : FlatModel → List (ℕ × Option Mark) → ℕ → Mark → Option ℕ
early_by b rows n m = lesser (early_start (card_at n b.cards) (timed_of m) m.started) (again_misfit_in b.cards rows (card_at n b.cards) m.again)

abbrev pub early_in : FlatModel → List (ℕ × Option Mark) → ℕ → Option ℕ
early_in b rows n = early_by b rows n (seen [] rows n)

-- the first position at which something of touched nodes, or of those that were visited, does not fit
abbrev pub region_misfit : FlatModel → FlatModel → List (ℕ × Option Mark) → Entries → List ℕ → List ℕ → Option ℕ
region_misfit a b rows es touched nodes = lesser (least (map (misfit_in a b rows es) touched)) (least (map (early_in b rows) nodes))
