use Rattle.wsm_trail.proofs.{Common.{ℕ, ◌+◌, ◌∙◌, ◌≡◌, ◌≤◌, ap, Entry, List, noted, noted_entries, noted_entry, rules, sym, take, written_by}, LateNotes.{below-next, noted-take, one-more}, Rising.rises-ascends}
use Rattle.wsm_trail.proofs.late.note_late.Goals as goal

pub place_of-place-requires : goal.place_of-place-requires
place_of-place-requires c = rises-ascends 1 c.args.next c.args.entries.now c.requires.rises

pub loop-i-init : goal.loop-i-init
loop-i-init c =
    let es : List (ℕ × Entry) = c.args.entries.now in
    record {
      noted = c.requires.noted;
      until = c.requires.rows;
      rows = c.requires.rows ∙ noted-take c.args.noted.now 1 c.args.next es c.requires.rises ∙ ap (λ k. noted_entries (take k es)) (sym c.place_of-place.ensures);
    }

pub overflow_add-noted : goal.overflow_add-noted
overflow_add-noted c =
    let es : List (ℕ × Entry) = c.args.entries.now in
    let le : c.index-entries-i.result.0 + 1 ≤ c.args.next = below-next c.args.next es c.loop-i.i c.index-entries-i.result c.loop-i-test.true c.index-entries-i.is c.requires.rises in
    search rules

pub loop-i-preserved : goal.loop-i-preserved
loop-i-preserved c =
    let es : List (ℕ × Entry) = c.args.entries.now in
    let i : ℕ = c.loop-i.i in
    let x : ℕ × Entry = c.index-entries-i.result in
    let more = one-more c.args.next es i x c.loop-i-test.true c.index-entries-i.is c.requires.rises in
    let rows : c.note_entry.new.self.rows ≡ noted x.0 (noted_entries (take i es)) (written_by x.1) =
    c.in_ok-note_entry.ensures.ok ∙ ap (λ m. noted_entry m x) c.loop-i.invariant.rows in
    record {
      noted = below-next c.args.next es i x c.loop-i-test.true c.index-entries-i.is c.requires.rises;
      until = rows ∙ sym more.0;
      rows = rows ∙ sym more.1;
    }
