use Rattle.talk_answers.proofs.{Common.{◌++◌, ◌+◌, ◌∙◌, ◌≡◌, ap, Bytes, case_tried, CaseId, Event, gives_as, gives_then, places_of, Placing, sym, take, tried_at}, Tried.one-text}
use Rattle.std.proofs.Common.{flat_map}
use Rattle.talk_answers.proofs.tries.put_each_tried.Goals as goal

pub loop-place-preserved : goal.loop-place-preserved
loop-place-preserved g c =
    let f = c.args.file.now in
    let p : Placing = c.args.run.now in
    let a = c.args.caller in
    let e : Event = c.args.event.now in
    let i = c.loop-place.place in
    let id : CaseId = record { type_no = c.args.type_no; place = i } in
    let xs = places_of c.args.type_no p.placed.types in
    let front : Bytes = flat_map (tried_at f p a e) (take i xs) in
    let here : case_tried f c.loop-place.run a c.in_ok-event.event id ≡ case_tried f p a e id =
    ap (λ (q : Placing). case_tried f q a c.in_ok-event.event id) c.loop-place.invariant.same ∙ ap (λ (x : Event). case_tried f p a x id) c.in_ok-event.ensures in
    record {
      given = gives_as _ _ _ _ _ _ _ _ (gives_then _ _ _ _ _ _ _ _ _ _ c.loop-place.invariant.given c.in_ok-well.ensures.entries)
          (ap (λ (l : Bytes). front ++ l) here ∙ sym (one-text (tried_at f p a e) i xs));
      same = c.in_ok-well.ensures.same ∙ c.loop-place.invariant.same;
    }
