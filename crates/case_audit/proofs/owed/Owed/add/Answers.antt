use Rattle.case_audit.proofs.Common.{[], ℕ, ◌++◌, ◌-◌, ◌<◌, ◌∙◌, ◌∷◌, ◌≡◌, ap, arith, Asked, asked_in, asked_of, calls_in, IsSome, length, length-map, List, map, map-append, map-set, None, numbered_of, on_ok_weaker, Option, PhaseCalls}
use Rattle.case_audit.proofs.{Common.{refl, set, set-get_or, subst, suc, zero}, Changes.{last-none, last-other, last-same, map-at}, owed.Owed.add.Goals.{in-Some+else-last-phase, in_default}}
use Rattle.case_audit.proofs.owed.Owed.add.Goals as goal

nothing : {A : Type 0} (o : Option A) (n : ℕ) → (0 < n → IsSome o) → o ≡ None → n ≡ 0
nothing o zero some is = refl
nothing {A} o (suc n) some is = let never : IsSome {T = A} None = subst IsSome is (some (omega arith)) in absurd (cc (never))

abbrev with_number : PhaseCalls → ℕ × List Asked
with_number p = (p.phase, calls_in p)

pub returns-then-last-phase : goal.returns-then-last-phase
returns-then-last-phase c =
    let phases = c.args.self.now.phases in
    let last = c.in-Some.last.now in
    let n = phases.len - 1 in
    let many : length (map with_number phases.items) ≡ suc n = omega (arith, c.in-Some.ensures.variant.0 refl, phases.ok.0, length-map phases.items with_number) in
    let low : n < length phases.items = omega (arith, c.in-Some.ensures.variant.0 refl, phases.ok.0) in
    let at = map-at with_number phases.items n last low c.in-Some.ensures.value in
    let longer : asked_in c.push.new.self.items ≡ asked_in last.calls.items ++ asked_of c.args.call ∷ [] = ap asked_in c.in_ok-push.ensures.items ∙ map-append asked_of last.calls.items (c.args.call ∷ []) in
    map-set with_number phases.items n _
    ∙ (ap (λ ls. set (map with_number phases.items) n (last.phase, ls)) longer
    ∙ last-same c.args.phase (asked_of c.args.call) (map with_number phases.items) n (last.phase, calls_in last) many at c.if-last-phase.true)

pub returns : goal.returns
returns c =
    let phases = c.args.self.now.phases in
    let n = phases.len - 1 in
    elim c.match-last_mut.branch [
      | in-Some+else-last-phase w ↦
          let last = w.in-Some.last.now in
          let low : n < length phases.items = omega (arith, w.in-Some.ensures.variant.0 refl, phases.ok.0) in
          let many : length (map with_number phases.items) ≡ suc n = omega (arith, w.in-Some.ensures.variant.0 refl, phases.ok.0, length-map phases.items with_number) in
          let at = map-at with_number phases.items n last low w.in-Some.ensures.value in
          let here = ap numbered_of w.self-is in
          let same = ap (λ p. map with_number (set phases.items n p)) w.in-Some.ensures.value ∙ ap (map with_number) (set-get_or phases.items n last) in
          on_ok_weaker c.begin.result (λ is. is ∙ (ap (λ qs. qs ++ (c.args.phase, asked_of c.args.call ∷ []) ∷ []) (here ∙ same)
          ∙ last-other c.args.phase (asked_of c.args.call) (map with_number phases.items) n (last.phase, calls_in last) many at w.if-last-phase.false)) c.begin.ensures
      | in_default w ↦
          let here = ap numbered_of w.self-is in
          let empty : phases.len ≡ 0 = nothing c.last_mut.result phases.len c.last_mut.ensures.variant.1 w.in_default.is in
          let none : length (map with_number phases.items) ≡ 0 = omega (arith, empty, phases.ok.0, length-map phases.items with_number) in
          on_ok_weaker c.begin.result (λ is. is ∙ (ap (λ qs. qs ++ (c.args.phase, asked_of c.args.call ∷ []) ∷ []) here ∙ last-none c.args.phase (asked_of c.args.call) (map with_number phases.items) none)) c.begin.ensures
    ]
