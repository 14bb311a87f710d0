use Rattle.wsm_lists.proofs.{Common.{◌∙◌, ◌≡◌, ap, arith, Ascends, first, length, put_all, puts_of, rules, subst, sym}, TakenIn.{pushed-front, pushed-none, pushed-size}}
use Rattle.wsm_lists.proofs.taking.put_changes.Goals as goal

pub merge-requires-clause-size : goal.merge-requires-clause-size
merge-requires-clause-size g c =
    let count : c.len-count.result ≡ length c.args.rows.now.items = search rules in
    pushed-size c.args.rows.now.items c.push_absent.new.rows.items c.args.changes.now c.len-count.result c.requires.rows c.requires.changes count c.push_absent.ensures.rows

pub returns-else-len-count-clause-len : goal.returns-else-len-count-clause-len
returns-else-len-count-clause-len g c =
    let count : c.len-count.result ≡ length c.args.rows.now.items = search rules in
    let size = ap length c.merge.ensures.rows in
    let same = pushed-size c.args.rows.now.items c.push_absent.new.rows.items c.args.changes.now c.len-count.result c.requires.rows c.requires.changes count c.push_absent.ensures.rows in
    let all : length c.merge.new.rows.items ≡ length c.push_absent.new.rows.items = omega (arith, size, same) in
    let len = c.push_absent.ensures.len in
    search rules

pub set_each-requires-clause-rows : goal.set_each-requires-clause-rows
set_each-requires-clause-rows g c =
    let long : length c.push_absent.new.rows.items ≡ length c.args.rows.now.items = omega (arith, c.len-count.ensures, c.len.ensures, c.if-len-count.true, c.push_absent.new.rows.ok.0, c.args.rows.now.ok.0) in
    subst (Ascends first) (sym (pushed-none c.args.rows.now.items _ c.push_absent.new.rows.items long c.push_absent.ensures.rows)) c.requires.rows

pub merge-requires-clause-count : goal.merge-requires-clause-count
merge-requires-clause-count g c =
    let front = pushed-front c.args.rows.now.items _ c.push_absent.new.rows.items c.len-count.result (omega (arith, c.len-count.ensures, c.args.rows.now.ok.0)) c.push_absent.ensures.rows in
    omega (arith, front.0, c.push_absent.new.rows.ok.0)

pub merge-requires-clause-rows : goal.merge-requires-clause-rows
merge-requires-clause-rows g c =
    let front = pushed-front c.args.rows.now.items _ c.push_absent.new.rows.items c.len-count.result (omega (arith, c.len-count.ensures, c.args.rows.now.ok.0)) c.push_absent.ensures.rows in
    subst (Ascends first) (sym front.1) c.requires.rows

pub returns-then-len-count-clause-rows : goal.returns-then-len-count-clause-rows
returns-then-len-count-clause-rows g c =
    let long : length c.push_absent.new.rows.items ≡ length c.args.rows.now.items = omega (arith, c.len-count.ensures, c.len.ensures, c.if-len-count.true, c.push_absent.new.rows.ok.0, c.args.rows.now.ok.0) in
    c.set_each.ensures.rows ∙ ap (put_all (puts_of c.args.changes.now)) (pushed-none c.args.rows.now.items _ c.push_absent.new.rows.items long c.push_absent.ensures.rows)

pub returns-else-len-count-clause-rows : goal.returns-else-len-count-clause-rows
returns-else-len-count-clause-rows g c =
    let front = pushed-front c.args.rows.now.items _ c.push_absent.new.rows.items c.len-count.result (omega (arith, c.len-count.ensures, c.args.rows.now.ok.0)) c.push_absent.ensures.rows in
    c.merge.ensures.rows ∙ ap (put_all (puts_of c.args.changes.now)) front.1
