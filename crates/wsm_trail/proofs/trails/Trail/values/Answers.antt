use Rattle.wsm_trail.proofs.{Common.{[], ℕ, ◌++◌, ◌∙◌, ◌≡◌, ap, append-nil, arith, Ascends, drop, drop_of_length-le, Entry, first, List, noted_entries, subst, sym, value_in, values_at}, LastWrite.{all_values-ascend, value_in-all_values}}
use Rattle.wsm_trail.proofs.trails.Trail.values.Goals as goal

-- what the loop leaves
all_of : (c : goal.After-drop-writes-inside-2) → c.from_vec.result ≡ values_at c.args.self.now.trail.entries (noted_entries c.args.self.now.trail.entries)
all_of c =
    let es : List (ℕ × Entry) = c.args.self.now.trail.entries in
    let rows = c.as_slice-row-items.result.now in
    let ended : drop c.loop-row.row-index rows ≡ [] = drop_of_length-le rows (omega arith) in
    c.from_vec.ensures
    ∙ sym (append-nil c.loop-row.values.items)
    ∙ ap (λ rs. c.loop-row.values.items ++ values_at es rs) (sym ended)
    ∙ c.loop-row.invariant
    ∙ ap (values_at es) (c.as_slice-row-items.ensures.rows ∙ c.in_ok-writes.ensures.rows)

pub returns-clause-rows : goal.returns-clause-rows
returns-clause-rows c = all_of c

pub returns-clause-ascends : goal.returns-clause-ascends
returns-clause-ascends c = subst (Ascends first) (sym (all_of c)) (all_values-ascend c.args.self.now.trail.entries)

pub returns-clause-values : goal.returns-clause-values
returns-clause-values c d =
    let t = c.args.self.now.trail in
    ap (value_in d) (all_of c) ∙ value_in-all_values d 1 t.next t.entries c.last_writes.ensures.rises
