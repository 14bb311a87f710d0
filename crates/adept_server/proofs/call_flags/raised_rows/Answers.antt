use Rattle.adept_server.proofs.{Common.{◌+◌, ◌∙◌, ap, arith, length, length_push}, Noted.{none-lowered, raised-more}}
use Rattle.adept_server.proofs.call_flags.raised_rows.Goals as goal

pub loop-row-init : goal.loop-row-init
loop-row-init g c = record {
  made = ap length c.in_ok-flags.ensures.items;
  raised = none-lowered c.in_ok-flags.flags.items c.in_ok-flags.ensures.items;
  left = omega (arith, c.in_ok-flags.ensures.len, c.in_ok-flags.ensures.exact);
}

pub loop-row-preserved : goal.loop-row-preserved
loop-row-preserved g c =
    let l = c.loop-row in
    let new = c.in_ok-vec.field-0 in
    let pushed = c.push_reserved.ensures in
    record {
      made = ap length pushed.items ∙ (length_push l.flags.items new ∙ ap (λ n. n + 1) l.invariant.made);
      raised = raised-more l.flags.items c.push_reserved.new.self.items new c.len.result pushed.items (c.in_ok-vec.ensures.items_if_clones_equal (λ y e. e)) l.invariant.raised;
      left = omega (arith, c.loop-row-test.true, l.invariant.left, pushed.len, pushed.capacity);
    }
