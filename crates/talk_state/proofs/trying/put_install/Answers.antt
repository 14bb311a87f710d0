use Rattle.talk_state.proofs.{Common.{◌∙◌, ◌≡◌, ap, File, file_of, kind_before, Placing, put_back_kind, Run, worked}, WhatIf.put-back-run}
use Rattle.talk_state.proofs.trying.put_install.Goals as goal

pub returns-clause-run : goal.returns-clause-run
returns-clause-run g c =
    let p = c.args.run.now in
    let t = c.args.type_no in
    let made = c.put_made.new.run in
    let back = kind_before t p.run in
    let run : c.put_back.new.self.run ≡ put_back_kind t back (worked (file_of c.args.file.now) p.run c.args.line.now) =
    c.put_back.ensures.run
    ∙ (ap (λ b. put_back_kind t b made.run) c.in_ok-before.ensures
    ∙ (ap (λ (x : Placing). put_back_kind t back x.run) c.in_ok-ok.ensures.run
    ∙ (ap (λ (r : Run). put_back_kind t back r) c.in_ok-work.ensures.run
    ∙ ap (λ (f : File). put_back_kind t back (worked f p.run c.args.line.now)) c.file.ensures.file))) in
    let placed = c.put_back.ensures.places ∙ (ap (λ (x : Placing). x.placed) c.in_ok-ok.ensures.run ∙ c.in_ok-work.ensures.places) in
    put-back-run c.args.file.now c.args.line.now t p c.put_back.new.self c.requires.call run placed
