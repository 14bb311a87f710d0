use Rattle.case_audit.proofs.{Common.{◌∙◌, ◌≡◌, ap, begins, codes, decimal, drop, false, length, named_from, subst, sym, true}, Names.{no-number, no-space, shows-named}}
use Rattle.case_audit.proofs.callers.caller_in.Goals as goal

pub returns-in_err-behind : goal.returns-in_err-behind
returns-in_err-behind c =
    let digits : c.as_bytes.result.now ≡ decimal c.args.place = c.as_bytes.ensures.value ∙ c.format.ensures.text in
    c.from_residual.ensures ∙ sym (no-number c.args.file.now c.args.place c.args.text.now (subst (λ ds. begins ds c.args.text.now ≡ false) digits c.in_err-behind.ensures.cases))

pub returns-in_err-behind-2 : goal.returns-in_err-behind-2
returns-in_err-behind-2 c =
    let digits : c.as_bytes.result.now ≡ decimal c.args.place = c.as_bytes.ensures.value ∙ c.format.ensures.text in
    let there : c.in_ok-behind.behind.now ≡ drop (length (decimal c.args.place)) c.args.text.now = c.in_ok-behind.ensures.cases.1 ∙ ap (λ ds. drop (length ds) c.args.text.now) digits in
    c.from_residual-in_err-behind-2.ensures ∙ sym (no-space c.args.file.now c.args.place c.args.text.now (subst (λ bs. begins (codes " ") bs ≡ false) there c.in_err-behind-2.ensures.cases))

pub returns : goal.returns
returns c =
    let digits : c.as_bytes.result.now ≡ decimal c.args.place = c.as_bytes.ensures.value ∙ c.format.ensures.text in
    let number : begins (decimal c.args.place) c.args.text.now ≡ true = subst (λ ds. begins ds c.args.text.now ≡ true) digits c.in_ok-behind.ensures.cases.0 in
    let there : c.in_ok-behind.behind.now ≡ drop (length (decimal c.args.place)) c.args.text.now = c.in_ok-behind.ensures.cases.1 ∙ ap (λ ds. drop (length ds) c.args.text.now) digits in
    let space : begins (codes " ") (drop (length (decimal c.args.place)) c.args.text.now) ≡ true = subst (λ bs. begins (codes " ") bs ≡ true) there c.in_ok-behind-2.ensures.cases.0 in
    let behind : c.in_ok-behind-2.behind.now ≡ drop 1 (drop (length (decimal c.args.place)) c.args.text.now) = c.in_ok-behind-2.ensures.cases.1 ∙ ap (drop 1) there in
    c.actor_in.ensures ∙ (ap (λ bs. named_from bs 1 c.as_slice.result.now) behind
    ∙ (ap (λ ds. named_from (drop 1 (drop (length (decimal c.args.place)) c.args.text.now)) 1 ds) c.as_slice.ensures ∙ sym (shows-named c.args.file.now c.args.place c.args.text.now number space)))
