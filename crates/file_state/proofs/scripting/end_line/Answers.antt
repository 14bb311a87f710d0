use Rattle.std.proofs.Common.{rules, ◌≡◌, map, subst, sym, IfErr}
use Rattle.file_words.specs.Shown.{shown_pair}
use Rattle.file_model.specs.{Outcomes.Stops, Scripting.{numbered, with_elements}}
use Rattle.file_state.proofs.EndLines.{end_acted}
use Rattle.file_state.proofs.scripting.end_line.Goals as goal

pub returns-clause-refused : goal.returns-clause-refused
returns-clause-refused c =
    let ws = map shown_pair c.args.writes.items in
    let noted = c.case_and_node.new.contents in
    let values : c.in_ok-writes.writes ≡ numbered (map shown_pair c.args.writes.items) c.case_and_node.new.contents = search rules in
    let after : c.numbered_writes.new.contents ≡ with_elements (map shown_pair c.args.writes.items) c.case_and_node.new.contents = search rules in
    let same = end_acted c.args.case.bytes.now c.args.node.bytes.now c.args.choice ws c.args.actor c.args.at c.args.contents.now noted c.numbered_writes.new.contents c.in_ok-id.id c.in_ok-id.node c.in_ok-writes.writes
    c.in_ok-id.ensures.case c.in_ok-id.ensures.node c.in_ok-id.ensures.noted values after in
    subst (λ step. IfErr c.with_line.result (λ stop. Stops step c.with_line.new.contents stop)) (sym same) c.with_line.ensures.refused
