-- What was written to a sink that keeps some of the last bytes back is, as far as it was handed on, in the sink behind it.
use Rattle.std.proofs.{Common.{◌≡◌, Bool, true, false, ℕ, ◌+◌, ◌-◌, ◌≤◌, List, [], ◌++◌, length, take, drop, Option, Some, None, IsTrue, append_assoc, append-nil, refl, sym, ap, ◌∙◌, arith}, lemmas.List.take-append-drop}
use Rattle.std.proofs.Math.Seq.{take-append_seam, take-append-add}
use Rattle.std.specs.Io.KnownBytes.{append_known}
use Rattle.adept_io.specs.{Gathered.known_length, Written.{AppendsPrefix, Gives}}

-- known bytes with none kept back
append_known-nil : (a : Option (List ℕ)) → append_known a [] ≡ a
append_known-nil None = refl
append_known-nil (Some xs) = ap Some (append-nil xs)

-- bytes that begin with the old ones, and with those kept back are the old ones and some more, have grown by the first of these
grown : (old new held sent : List ℕ) → length old ≤ length new → new ++ held ≡ old ++ sent → new ≡ old ++ take (length new - length old) sent
grown old new held sent longer same =
    let e : length new ≡ length old + (length new - length old) = omega arith in
    sym (take-append_seam new held)
    ∙ ap (take (length new)) same
    ∙ ap (λ n. take n (old ++ sent)) e
    ∙ take-append-add old sent (length new - length old)

-- the sink behind has the bytes up to some place, where all were given up to some place
handed_on_part : (old new : Option (List ℕ)) (held text : List ℕ) → known_length old ≤ known_length new →
    AppendsPrefix old (append_known new held) text → AppendsPrefix old new text
handed_on_part None new held text longer given = record { sent = given.sent; rest = given.rest; whole = given.whole; appends = tt }
handed_on_part (Some xs) None held text longer given = absurd given.appends
handed_on_part (Some xs) (Some ys) held text longer given =
    let n = length ys - length xs in
    record {
      sent = take n given.sent;
      rest = drop n given.sent ++ given.rest;
      whole = sym (append_assoc (take n given.sent) (drop n given.sent) given.rest) ∙ ap (λ t. t ++ given.rest) (take-append-drop n given.sent) ∙ given.whole;
      appends = grown xs ys held given.sent longer given.appends;
    }

-- what was given to the sink in front was given to the one behind it
pub handed_on : {S G : Type 0} (old new : G) (sink : G → S) (held : G → List ℕ) (written : S → Option (List ℕ)) (faults : S → ℕ) (ok : Bool) (text : List ℕ) →
    known_length (written (sink old)) ≤ known_length (written (sink new)) → held old ≡ [] → (IsTrue ok → held new ≡ []) →
    Gives (λ g. append_known (written (sink g)) (held g)) (λ g. faults (sink g)) true ok old new text →
    Gives written faults true ok (sink old) (sink new) text
handed_on old new sink held written faults true text longer none empty given =
    let before = ap (append_known (written (sink old))) none ∙ append_known-nil (written (sink old)) in
    let after = ap (append_known (written (sink new))) (empty refl) ∙ append_known-nil (written (sink new)) in
    (rw after at (rw before at given.0), given.1)
handed_on old new sink held written faults false text longer none empty given =
    let before = ap (append_known (written (sink old))) none ∙ append_known-nil (written (sink old)) in
    (handed_on_part (written (sink old)) (written (sink new)) (held new) text longer (rw before at given.0), given.1)
