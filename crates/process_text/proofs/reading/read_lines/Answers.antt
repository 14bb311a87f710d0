use Rattle.process_text.proofs.{Common.{◌∙◌, ◌≡◌, ap, arith, Bor, Bytes, front_line, length, length-map, lines_of, rules, shown, without_return, words_of}, LineRoom.{step_adds, words_take}}
use Rattle.process_text.proofs.reading.read_lines.Goals.{then-not-is_skipped+in-Ok, else-not-is_skipped}
use Rattle.process_text.proofs.reading.read_lines.Goals as goal

-- what was read before has room for the line, and the line for its names
pub loop-line-preserved : goal.loop-line-preserved
loop-line-preserved c =
    let are : shown c.read_words.new.words.items ≡ words_of (without_return c.in-Some.line.now) = search rules in
    let split : lines_of c.loop-line.rest.now ≡ front_line c.in-Some.line.now (lines_of c.in-Some.more.now) = search rules in
    let takes = words_take c.read_words.new.words.items c.loop-line.rest.now c.in-Some.line.now c.in-Some.more.now are split in
    record {
      counted = search rules;
      room =
          elim c.if-not-is_skipped.branch [
            | then-not-is_skipped+in-Ok w ↦
                let adds =
                step_adds c.loop-line.place w.in-Ok.next c.loop-line.at c.without_return-line.result.now (shown w.deref-then-not-is_skipped.result.now) c.loop-line.contents w.step_in.new.contents w.in-Ok.ensures.ok in
                let same =
                length-map w.deref-then-not-is_skipped.result.now (λ (b : Bor Bytes). b.now) ∙ ap length w.deref-then-not-is_skipped.ensures.value in
                rw w.contents-is (omega (arith, adds, same, takes, c.loop-line.invariant.room))
            | else-not-is_skipped w ↦ rw w.contents-is (omega (arith, takes, c.loop-line.invariant.room))
          ];
      left = search rules;
    }
