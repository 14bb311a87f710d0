use Rattle.talk_state.proofs.Common.{ℕ, ◌-◌, ◌∙◌, ◌≡◌, ap, drop, drop_min, gives_as, gives_then, length, length-drop, List, quoted, State, sym, take, take-length}
use Rattle.talk_state.proofs.states.TalkState.put_last.Goals as goal

-- all that is left behind the first so many
rest : (n : ℕ) (xs : List ℕ) → take (length xs - n) (drop n xs) ≡ drop n xs
rest n xs = ap (λ k. take k (drop n xs)) (sym (length-drop n xs)) ∙ take-length (drop n xs)

pub returns : goal.returns
returns g c =
    let last = c.self.inside.last in
    let units = c.as_slice-units.result.now in
    let cut : take (length units - c.min.result) (drop c.min.result units) ≡ drop c.args.self.now.last c.args.self.now.bytes =
    rest c.min.result units
    ∙ (ap (λ n. drop n units) c.min.ensures
    ∙ (drop_min last units ∙ (ap (drop last) c.as_slice-units.ensures.value ∙ ap (λ (s : State). drop s.last s.bytes) c.self.view_is))) in
    gives_then _ _ _ _ _ _ _ _ _ _ (gives_as _ _ _ _ _ _ _ _ c.put_quoted-ok.ensures (ap quoted cut)) c.put_called.ensures
