-- A walk over all nodes, from what the trail tells, finds its marks; and what a replay answers tells how the trail replays.
use Rattle.wsm_settle.proofs.Common.{[], ℕ, ◌∙◌, ◌≡◌, ap, Card, cards_of, changed, Entries, failed_at, fails, flat_of, FlatModel, is_one_of, List, Mark, mark_now, marks_of, MarksRight, None, Option, Outcome, position_in, rank_place, refl}
use Rattle.wsm_settle.proofs.Common.{replay_of, RisesAfter, Some, some-one, Spots, subst, sym, told-changes, told-stands, told_rows, trail-aim, true, Walks, whole}
use Rattle.wsm_replay.specs.Answer.{answer}

pub marks-right : (flat : FlatModel) (rank : List ℕ) (es : Entries) → RisesAfter 0 es → (places : List ℕ) → ((k : ℕ) → is_one_of k rank ≡ true → is_one_of (rank_place k rank) places ≡ true) →
    (begun changes : List (ℕ × Option Mark)) → begun ≡ told_rows es [] → Walks flat.cards rank [] places begun [] changes → (rows : List (ℕ × Mark)) → rows ≡ changed changes [] → MarksRight flat rank es rows
marks-right flat rank es rises places all begun changes begun_is walked rows rows_are s t flat_is regular ranked is_whole =
    let whole_s : replay_of (flat_of s) es ≡ whole t = ap (λ f. replay_of f es) (sym flat_is) ∙ is_whole in
    let walked_s : Walks (cards_of s) rank [] places (told_rows es []) [] changes =
    subst (λ b. Walks (cards_of s) rank [] places b [] changes) begun_is (subst (λ (f : FlatModel). Walks f.cards rank [] places begun [] changes) flat_is walked) in
    rows_are
    ∙ told-changes s rank ranked es t rises whole_s regular places all changes
    (walked_s (mark_now s rank es) (trail-aim s regular rank ranked es) (told-stands s rank ranked es t rises whole_s regular places all))
    ∙ ap (λ f. marks_of f es) (sym flat_is)

pub answer-position : (cards : List Card) (o : Outcome) → position_in (answer cards o) ≡ failed_at o
answer-position cards (whole t) = refl
answer-position cards (fails p) = refl

pub failed-none : (o : Outcome) → failed_at o ≡ None → (t : Spots) × (o ≡ whole t)
failed-none (whole t) h = (t, refl)
failed-none (fails p) h = absurd (cc)

pub failed-some : (o : Outcome) (p : ℕ) → failed_at o ≡ Some p → o ≡ fails p
failed-some (whole t) p h = absurd (cc)
failed-some (fails q) p h = ap fails (some-one q p h)
