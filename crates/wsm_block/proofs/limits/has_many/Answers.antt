use Rattle.wsm_block.proofs.{Common.{ℕ, ◌∙◌, ◌≡◌, ap, arith, eqb, false, filter, get_or, le-ltb, length, List, lt-ltb, map, sym, take, too_many, true}, Counts.{many_in, too_many-at, too_many-none, many-before, many-next}}
use Rattle.wsm_block.proofs.limits.has_many.Goals.{else-not-follows_own-via-then-not-follows_own+else-rows_of-gt-MOST_ROWS, else-not-follows_own-via-else-not-follows_own}
use Rattle.wsm_block.proofs.limits.has_many.Goals as goal

pub returns-then-rows_of-gt-MOST_ROWS : goal.returns-then-rows_of-gt-MOST_ROWS
returns-then-rows_of-gt-MOST_ROWS g c =
    let key : g.row.K-Row.Denot → ℕ = λ r. (g.K.Keys.key_of r).0 in
    let rows : List g.row.K-Row.Denot = c.as_slice-rows.result.now in
    let node : c.key-node.result.0 ≡ key (get_or rows c.loop-i.i c.index-rows-i.result) = ap (λ (k : ℕ × ℕ). k.0) c.key-node.ensures ∙ ap key c.index-rows-i.is in
    let run : length c.rows_of.result.now ≡ length (filter (λ r. eqb (key r) c.key-node.result.0) rows) =
    ap length (c.rows_of.ensures ∙ ap (filter (λ r. eqb (key r) c.key-node.result.0)) (sym c.as_slice-rows.ensures.rows)) in
    let many : many_in key rows c.key-node.result.0 ≡ true = lt-ltb 16 _ (omega (arith, run, c.if-rows_of-gt-MOST_ROWS.true)) in
    too_many-at key rows c.loop-i.i c.index-rows-i.result c.loop-i-test.true (ap (many_in key rows) (sym node) ∙ many)
    ∙ ap (λ rs. too_many (map key rs)) c.as_slice-rows.ensures.rows

pub loop-i-preserved : goal.loop-i-preserved
loop-i-preserved g c =
    let key : g.row.K-Row.Denot → ℕ = λ r. (g.K.Keys.key_of r).0 in
    let rows : List g.row.K-Row.Denot = c.as_slice-rows.result.now in
    let node : c.key-node.result.0 ≡ key (get_or rows c.loop-i.i c.index-rows-i.result) = ap (λ (k : ℕ × ℕ). k.0) c.key-node.ensures ∙ ap key c.index-rows-i.is in
    let few : many_in key rows c.key-node.result.0 ≡ false =
    elim c.else-not-follows_own.branch [
      | else-not-follows_own-via-then-not-follows_own+else-rows_of-gt-MOST_ROWS w ↦
          let run : length w.rows_of.result.now ≡ length (filter (λ r. eqb (key r) c.key-node.result.0) rows) =
          ap length (w.rows_of.ensures ∙ ap (filter (λ r. eqb (key r) c.key-node.result.0)) (sym c.as_slice-rows.ensures.rows)) in
          le-ltb 16 _ (omega (arith, run, w.if-rows_of-gt-MOST_ROWS.false))
      | else-not-follows_own-via-else-not-follows_own w ↦
          many-before key (many_in key rows) c.key-node.result.0 (take c.loop-i.i rows) c.loop-i.invariant (c.follows_own.ensures w.if-not-follows_own.false)
    ]
    in
    many-next key (many_in key rows) rows c.loop-i.i c.index-rows-i.result c.loop-i-test.true c.loop-i.invariant (ap (many_in key rows) (sym node) ∙ few)

pub returns : goal.returns
returns g c =
    let key : g.row.K-Row.Denot → ℕ = λ r. (g.K.Keys.key_of r).0 in
    too_many-none key c.as_slice-rows.result.now c.loop-i.i c.loop-i-test.false c.loop-i.invariant ∙ ap (λ rs. too_many (map key rs)) c.as_slice-rows.ensures.rows
