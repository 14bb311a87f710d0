use Rattle.std.proofs.{Common.{◌≡◌, ℕ, ◌+◌, ◌-◌, ◌≤◌, List, ◌++◌, length, take, drop, arith, ap, ◌∙◌, length-take}, lemmas.List.drop-append-le, lemmas.Slice.take-put_mid}
use borrow.Rule.Slice.PartMut.{put_mid}
use Rattle.adept_io.proofs.held.Held.add.Goals as goal

-- bytes written behind the last that are held are held behind them
held_behind : (start end count : ℕ) (bytes more : List ℕ) → start ≤ end → end ≤ length bytes → length more ≡ count →
    drop start (take (end + count) (put_mid end (end + count - end) bytes more)) ≡ drop start (take end bytes) ++ more
held_behind start end count bytes more within room count_is =
    ap (drop start) (take-put_mid end (end + count - end) bytes more (end + count) (omega arith) room)
    ∙ drop-append-le start (take end bytes) more (omega (arith, length-take end bytes))

pub returns-clause-added : goal.returns-clause-added
returns-clause-added c =
    let count = c.min-count.result in
    let more : c.copy_from_slice.new.self ≡ take count c.args.bytes.now = c.copy_from_slice.ensures.after ∙ c.split_at.ensures.front in
    rw (← c.self.view_is, ← more)
    (held_behind c.self.inside.start c.self.inside.end count c.self.inside.bytes c.copy_from_slice.new.self c.self.invariant.0
    (omega (arith, c.self.told, c.self.invariant.1)) (omega (arith, ap (length {A = ℕ}) more, length-take count c.args.bytes.now, c.min-count.ensures)))
