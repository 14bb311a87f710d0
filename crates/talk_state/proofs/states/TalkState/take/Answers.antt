use Rattle.talk_state.proofs.{Common.{[], ◌++◌, ◌+◌, ◌<◌, ◌^◌, ◌∙◌, ◌∷◌, ◌≡◌, arith, CanWork, File, Holds, length, ltb-true, rules, State, subst, sym, true, unit_read}, Taken.{can-say, sound-try, taken-holds, taken-sound}}
use Rattle.talk_state.proofs.{TakenBy.{not_false, taken-by}, states.TalkState.take.Goals.{in-Line+in-End-3, in-Line+in-Change-3, in-Line+in-Install-3, in-Line+in-Create-3, in-Type-3}}
use Rattle.talk_state.proofs.states.TalkState.take.Goals as goal

pub work-requires : goal.work-requires
work-requires c =
    let n = length c.args.unit.now in
    let before = c.self.inside.file in
    let long = c.self.inside.long in
    let taken = c.in-Ok.ensures.taken in
    let room : long + (5 + n) < 2 ^ 30 = ltb-true (long + (5 + n)) (2 ^ 30) (sym c.has_room-has_room.ensures ∙ taken.0) in
    let whole : c.self.inside.is_whole ≡ true = first_of (cc c.if-not-self.false, search rules, search (rules, not_false)) in
    subst (λ (f : File). CanWork f c.in-Ok.said c.self.inside.run) (sym c.file.ensures.file)
    (can-say n before c.take_unit.new.self (unit_read before c.args.unit.now) c.in-Ok.said c.self.inside.run (sound-try _ n (c.self.invariant whole) (omega (arith, room))) taken.1 c.file.ensures.ready c.in-Ok.ensures.effort)

pub invariant_of-self-in_ok-extend_from_slice-in-Ok-4 : goal.invariant_of-self-in_ok-extend_from_slice-in-Ok-4
invariant_of-self-in_ok-extend_from_slice-in-Ok-4 c =
    let s : State = record {
      contents = c.self.inside.file;
      placing = c.self.inside.run;
      called = c.self.inside.called;
      bytes = c.self.inside.units.items;
      last = c.self.inside.last;
      count = c.self.inside.count;
      long = c.self.inside.long;
      whole = c.self.inside.is_whole;
    } in
    let k = taken-by s c.take_unit.new.self c.in-Ok.said c.args.unit.now c.has_room-has_room.result c.file.result.now c.work.new.run c.in_ok-self-inside-in-Ok.field-0 c.extend_from_slice.new.self.items c.len-self-inside.result
    c.has_room-has_room.ensures c.in-Ok.ensures.taken c.file.ensures.file c.in_ok-self-inside-in-Ok.ensures.run c.in_ok-self-inside-in-Ok.ensures.called c.in_ok-extend_from_slice-in-Ok.ensures.items (c.len-self-inside.ensures ∙ c.self.inside.units.ok.0)
    c.in_ok-self-inside-in-Ok.ensures.age c.in-Ok.ensures.effort c.in-Ok.ensures.names in
    let whole : c.self.inside.is_whole ≡ true = first_of (cc c.if-not-self.false, search rules, search (rules, not_false)) in
    λ _. taken-sound s _ k.0 c.in-Ok.said c.args.unit.now (c.self.invariant whole) k.1

pub invariant_of-self-in_ok-extend_from_slice-in-Ok-5 : goal.invariant_of-self-in_ok-extend_from_slice-in-Ok-5
invariant_of-self-in_ok-extend_from_slice-in-Ok-5 c =
    let s : State = record {
      contents = c.self.inside.file;
      placing = c.self.inside.run;
      called = c.self.inside.called;
      bytes = c.self.inside.units.items;
      last = c.self.inside.last;
      count = c.self.inside.count;
      long = c.self.inside.long;
      whole = c.self.inside.is_whole;
    } in
    let k = taken-by s c.take_unit.new.self c.in-Ok.said c.args.unit.now c.has_room-has_room.result c.file.result.now c.work.new.run c.in_ok-self-inside-in-Ok.field-0 c.extend_from_slice.new.self.items c.len-self-inside.result
    c.has_room-has_room.ensures c.in-Ok.ensures.taken c.file.ensures.file c.in_ok-self-inside-in-Ok.ensures.run c.in_ok-self-inside-in-Ok.ensures.called c.in_ok-extend_from_slice-in-Ok.ensures.items (c.len-self-inside.ensures ∙ c.self.inside.units.ok.0)
    c.in_ok-self-inside-in-Ok.ensures.age c.in-Ok.ensures.effort c.in-Ok.ensures.names in
    let whole : c.self.inside.is_whole ≡ true = first_of (cc c.if-not-self.false, search rules, search (rules, not_false)) in
    λ _. taken-sound s _ k.0 c.in-Ok.said c.args.unit.now (c.self.invariant whole) k.1

pub returns-in_ok-extend_from_slice-in-Ok-clause-taken : goal.returns-in_ok-extend_from_slice-in-Ok-clause-taken
returns-in_ok-extend_from_slice-in-Ok-clause-taken c = λ units h.
    let s : State = record {
      contents = c.self.inside.file;
      placing = c.self.inside.run;
      called = c.self.inside.called;
      bytes = c.self.inside.units.items;
      last = c.self.inside.last;
      count = c.self.inside.count;
      long = c.self.inside.long;
      whole = c.self.inside.is_whole;
    } in
    let k = taken-by s c.take_unit.new.self c.in-Ok.said c.args.unit.now c.has_room-has_room.result c.file.result.now c.work.new.run c.in_ok-self-inside-in-Ok.field-0 c.extend_from_slice.new.self.items c.len-self-inside.result
    c.has_room-has_room.ensures c.in-Ok.ensures.taken c.file.ensures.file c.in_ok-self-inside-in-Ok.ensures.run c.in_ok-self-inside-in-Ok.ensures.called c.in_ok-extend_from_slice-in-Ok.ensures.items (c.len-self-inside.ensures ∙ c.self.inside.units.ok.0)
    c.in_ok-self-inside-in-Ok.ensures.age c.in-Ok.ensures.effort c.in-Ok.ensures.names in
    let before : Holds units s = subst (Holds units) (sym c.self.view_is) h in
    let behind = taken-holds units s _ k.0 c.in-Ok.said c.args.unit.now before k.1 in
    elim c.match-said-5.branch [
      | in-Line+in-End-3 w ↦ subst (Holds (units ++ c.args.unit.now ∷ [])) (sym w.self-is) behind
      | in-Line+in-Change-3 w ↦ subst (Holds (units ++ c.args.unit.now ∷ [])) (sym w.self-is) behind
      | in-Line+in-Install-3 w ↦ subst (Holds (units ++ c.args.unit.now ∷ [])) (sym w.self-is) behind
      | in-Line+in-Create-3 w ↦ subst (Holds (units ++ c.args.unit.now ∷ [])) (sym w.self-is) behind
      | in-Type-3 w ↦ subst (Holds (units ++ c.args.unit.now ∷ [])) (sym w.self-is) behind
    ]
