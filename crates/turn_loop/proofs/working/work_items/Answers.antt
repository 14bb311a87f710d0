use Rattle.turn_loop.proofs.{Common.{◌++◌, ◌<◌, ◌≤◌, ap, arith, IfSome, length, MAX_ANSWERS, refl, still_first, subst, take, taken_of, Takes}, Splits.took-item, Worked.{all-taken, none-yet, one-more}}
use Rattle.turn_loop.proofs.working.work_items.Goals as goal

pub items-init : goal.items-init
items-init g c = record {
  within = omega arith;
  some = omega (arith, ap length c.requires.no_text);
  works = λ first ps begun keeps rest. none-yet c.args.responder.now c.args.text.now.items c.args.group.now keeps rest c.requires.no_text c.requires.no_group;
}

pub returns-in-None-clause-works : goal.returns-in-None-clause-works
returns-in-None-clause-works g c = λ first ps begun keeps rest.
    let w = c.items.invariant.works first ps begun keeps rest in
    let bytes = c.split_at.result.1.now in
    all-taken w c.take.new.self bytes (length c.args.bytes.now) c.split_at.ensures.back refl
    (subst (Takes g.E.Responder.rules.ends w.left bytes) c.in-None.is (c.in_ok-take.ensures.takes (still_first first w.items) (ps ++ c.items.group) w.left w.keeps))
    (subst (λ o. g.E.Responder.holds c.take.new.self (still_first first w.items) (ps ++ c.items.group) (w.left ++ taken_of o bytes)) c.in-None.is (c.in_ok-take.ensures.holds (still_first first w.items) (ps ++ c.items.group) w.left w.keeps))

pub items-preserved : goal.items-preserved
items-preserved g c =
    let bytes = c.split_at.result.1.now in
    let within = subst (λ o. IfSome o (λ n. n ≤ length bytes)) c.in-Some.is c.in_ok-take.ensures.within in
    let positive = subst (λ o. IfSome o (λ n. 0 < n)) c.in-Some.is c.in_ok-take.ensures.some in
    record {
      within = omega (arith, within, c.split_at.ensures.back_len, c.items-test.true);
      some = λ text. omega (arith, positive);
      works = λ first ps begun keeps rest.
          let few : length c.items.text.items ≤ MAX_ANSWERS = omega (arith, c.items-test.true) in
          let w = c.items.invariant.works first ps begun keeps rest in
          let takes = subst (Takes g.E.Responder.rules.ends w.left bytes) c.in-Some.is (c.in_ok-take.ensures.takes (still_first first w.items) (ps ++ c.items.group) w.left w.keeps) in
          let held = subst (λ o. g.E.Responder.holds c.take.new.self (still_first first w.items) (ps ++ c.items.group) (w.left ++ taken_of o bytes)) c.in-Some.is (c.in_ok-take.ensures.holds (still_first first w.items) (ps ++ c.items.group) w.left w.keeps) in
          let item = w.left ++ take c.in-Some.len bytes in
          let whole = took-item g.E.Responder.rules.ends w.left bytes c.in-Some.len w.open_item takes in
          one-more w g.met.E.Responder.fits c.work.new.self c.work.new.text.items c.work.new.group c.in-Some.len bytes few c.split_at.ensures.back takes
          (c.in_ok-work-in-Some.ensures.holds (still_first first w.items) (ps ++ c.items.group) item held whole) (c.in_ok-work-in-Some.ensures.answer (still_first first w.items) (ps ++ c.items.group) item held whole)
          (c.in_ok-work-in-Some.ensures.payload (still_first first w.items) (ps ++ c.items.group) item held whole);
    }
