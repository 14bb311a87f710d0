use Rattle.wsm_trail.proofs.Common.{ℕ, ◌∙◌, ◌≡◌, ◌≤◌, ap, Ascends, drop, Entry, entry_at, entry_of, first, item_at, last_written, later_or, List, None, noted_until, Option, option_copied, Rises, rows_below, Some, subst, sym, TrailModel}
use Rattle.wsm_trail.proofs.{Common.{TrailWithRoom, Value, value_below, value_noted, written_to}, LateNotes.value-late, Rising.rises-ascends}
use Rattle.wsm_trail.proofs.trails.Trail.value.Goals as goal

pub place_of-place-requires : goal.place_of-place-requires
place_of-place-requires c = subst (Ascends first) (sym c.deref.ensures.value) (rises-ascends 1 c.self.inside.next c.self.inside.entries.items c.self.invariant.0)

-- what the late entries tell, else what is noted
told : (k : TrailWithRoom) (d noted next i : ℕ) (es at late : List (ℕ × Entry)) (o : Option Value) → record { entries = es; next = next } ≡ k.trail → noted ≤ next → Rises 1 next es →
    i ≡ rows_below first (noted, 0) at → at ≡ es → late ≡ es → o ≡ last_written d (drop i late) →
    value_below d k.trail.next k.trail.entries ≡ later_or o (value_noted es (noted_until noted es) d)
told k d noted next i es at late o is le rises place at_is late_is last =
    ap (λ (t : TrailModel). value_below d t.next t.entries) (sym is)
    ∙ value-late d noted next es le rises
    ∙ ap (λ o. later_or o (value_noted es (noted_until noted es) d)) (sym (last ∙ ap (λ j. last_written d (drop j late)) (place ∙ ap (rows_below first (noted, 0)) at_is) ∙ ap (λ xs. last_written d (drop (rows_below first (noted, 0) es) xs)) late_is))

pub returns-in-Some : goal.returns-in-Some
returns-in-Some c =
    let d : ℕ = c.args.element in
    let es : List (ℕ × Entry) = c.self.inside.entries.items in
    sym (told c.args.self.now d c.self.inside.noted c.self.inside.next c.place_of-place.result es c.deref.result.now c.deref-2.result.now (option_copied c.last_written.result)
    (ap (λ (k : TrailWithRoom). k.trail) c.self.view_is) c.self.invariant.1 c.self.invariant.0 c.place_of-place.ensures c.deref.ensures.value c.deref-2.ensures.value c.last_written.ensures
    ∙ ap (λ o. later_or (option_copied o) (value_noted es (noted_until c.self.inside.noted es) d)) c.in-Some.is)

pub returns-in-Some-position : goal.returns-in-Some-position
returns-in-Some-position c =
    let d : ℕ = c.args.element in
    let es : List (ℕ × Entry) = c.self.inside.entries.items in
    let at : item_at d (noted_until c.self.inside.noted es) ≡ Some c.in-Some-position.position = ap (item_at d) (sym c.self.invariant.2) ∙ sym c.position.ensures ∙ c.in-Some-position.is in
    c.written_at.ensures
    ∙ ap (λ (k : TrailWithRoom). written_to d (entry_at c.in-Some-position.position k.trail.entries)) (sym c.self.view_is)
    ∙ ap (λ o. written_to d (entry_of es o)) (sym at)
    ∙ sym (told c.args.self.now d c.self.inside.noted c.self.inside.next c.place_of-place.result es c.deref.result.now c.deref-2.result.now (option_copied c.last_written.result)
    (ap (λ (k : TrailWithRoom). k.trail) c.self.view_is) c.self.invariant.1 c.self.invariant.0 c.place_of-place.ensures c.deref.ensures.value c.deref-2.ensures.value c.last_written.ensures
    ∙ ap (λ o. later_or (option_copied o) (value_noted es (noted_until c.self.inside.noted es) d)) c.in-None.is)

pub returns-in-None-position : goal.returns-in-None-position
returns-in-None-position c =
    let d : ℕ = c.args.element in
    let es : List (ℕ × Entry) = c.self.inside.entries.items in
    let none : item_at d (noted_until c.self.inside.noted es) ≡ None = ap (item_at d) (sym c.self.invariant.2) ∙ sym c.position.ensures ∙ c.in-None-position.is in
    ap (λ o. written_to d (entry_of es o)) (sym none)
    ∙ sym (told c.args.self.now d c.self.inside.noted c.self.inside.next c.place_of-place.result es c.deref.result.now c.deref-2.result.now (option_copied c.last_written.result)
    (ap (λ (k : TrailWithRoom). k.trail) c.self.view_is) c.self.invariant.1 c.self.invariant.0 c.place_of-place.ensures c.deref.ensures.value c.deref-2.ensures.value c.last_written.ensures
    ∙ ap (λ o. later_or (option_copied o) (value_noted es (noted_until c.self.inside.noted es) d)) c.in-None.is)
