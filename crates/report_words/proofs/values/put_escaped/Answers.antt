use Rattle.std.proofs.{Common.{◌≡◌, ◌+◌, None, ◌++◌, take, drop, ap, sym, ◌∙◌, append_assoc}, lemmas.List.drop-drop}
use Rattle.std.specs.List.{flat_map, position}
use Rattle.adept_io.proofs.Sent.{gives_then}
use Rattle.report_words.specs.Words.{escaped, is_escaped}
use Rattle.report_words.proofs.{Escapes.{EndsRun-from_position, flat_map-escaped-none, flat_map-escaped-split}, Rows.gives_as}
use Rattle.report_words.proofs.values.put_escaped.Goals as goal

pub put_run-well-requires : goal.put_run-well-requires
put_run-well-requires g c = EndsRun-from_position c.loop-at.rest.now c.in-Some.at (cc)

pub loop-at-preserved : goal.loop-at-preserved
loop-at-preserved g c =
    let rest = c.loop-at.rest.now in
    let run = flat_map escaped (take (c.in-Some.at + 1) rest) in
    let behind : c.split_at-in-Some.result.1.now ≡ drop (c.in-Some.at + 1) rest =
    c.split_at-in-Some.ensures.back ∙ ap (drop 1) c.split_at.ensures.back ∙ drop-drop 1 c.in-Some.at rest in
    record {
      sent = c.loop-at.invariant.sent ++ run;
      gives = gives_then _ _ _ _ _ _ _ _ _ _ c.loop-at.invariant.gives c.put_run-well.ensures;
      whole = append_assoc c.loop-at.invariant.sent run (flat_map escaped c.split_at-in-Some.result.1.now)
          ∙ ap (λ t. c.loop-at.invariant.sent ++ t) (ap (λ t. run ++ flat_map escaped t) behind ∙ sym (flat_map-escaped-split rest (c.in-Some.at + 1)))
          ∙ c.loop-at.invariant.whole;
    }

pub returns : goal.returns
returns g c =
    let rest = c.loop-at.rest.now in
    let none : position is_escaped rest ≡ None = sym c.first_escaped.ensures ∙ c.in_default.is in
    gives_as _ _ _ _ _ _ _ _ (gives_then _ _ _ _ _ _ _ _ _ _ c.loop-at.invariant.gives c.put.ensures)
    (ap (λ t. c.loop-at.invariant.sent ++ t) (sym (flat_map-escaped-none rest none)) ∙ c.loop-at.invariant.whole)
