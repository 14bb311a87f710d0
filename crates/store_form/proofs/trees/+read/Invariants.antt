use Rattle.store_form.proofs.{Common.{◌*◌, ◌+◌, ◌-◌, ◌≡◌, lane_at, lanes_of, many_at, map, part_at, part_of}, Loops.with_front}
use Rattle.store_form.proofs.trees.+read.Given as goal

abbrev pub decreases-read_tagged : goal.decreases-read_tagged
decreases-read_tagged l = 8 * l.deep

abbrev pub decreases-read_block : goal.decreases-read_block
decreases-read_block l = 8 * l.deep + 1

abbrev pub decreases-read_round : goal.decreases-read_round
decreases-read_round l = 8 * l.deep + 7

abbrev pub decreases-read_branches : goal.decreases-read_branches
decreases-read_branches l = 8 * l.deep + 6

abbrev pub decreases-read_each_branch : goal.decreases-read_each_branch
decreases-read_each_branch l = 8 * l.deep + 5

abbrev pub decreases-read_branch : goal.decreases-read_branch
decreases-read_branch l = 8 * l.deep + 4

abbrev pub decreases-read_items : goal.decreases-read_items
decreases-read_items l = 8 * l.deep + 3

abbrev pub decreases-read_each_item : goal.decreases-read_each_item
decreases-read_each_item l = 8 * l.deep + 2

abbrev pub invariant-read_each_item-loop : goal.invariant-read_each_item-loop
invariant-read_each_item-loop l = with_front (map part_of l.items.items) (many_at (part_at l.deep) (l.count - l.counter) l.rest) ≡ many_at (part_at l.deep) l.count l.from

abbrev pub invariant-read_each_branch-loop : goal.invariant-read_each_branch-loop
invariant-read_each_branch-loop l = with_front (lanes_of l.branches.items) (many_at (lane_at (part_at l.deep)) (l.count - l.counter) l.rest) ≡ many_at (lane_at (part_at l.deep)) l.count l.from
