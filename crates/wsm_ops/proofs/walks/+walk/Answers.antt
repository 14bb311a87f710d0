use Rattle.wsm_ops.proofs.Common.{[], ℕ, ◌++◌, ◌∙◌, ◌∷◌, ◌≡◌, add-one, ap, append_assoc, arith, Bool, cases_order, cond, contains, drop, drop-cons, eq-eqb, eqb, false, get_or_read, inl, inr, is_one_of, lane, lane_of, Lanes, lanes, lanes_of}
use Rattle.wsm_ops.proofs.Common.{lanes_pieces, le-ltb, List, lt-ltb, nat_cmp, ne_eqb, not, Parts, parts_of, parts_pieces, Piece, refl, sym, true}
use Rattle.std.specs.{Prelude.{◌||◌, get_or, length, ◌<◌, ◌+◌}, BTreeMap.is_at}
use Rattle.wsm_schema.specs.{declared.blocks.Block.Block, declared.blocks.Branch.Branch, declared.blocks.Block.TheFolds.fold_out-Branch}
use Rattle.wsm_ops.specs.declared.pieces.Piece.TheVariants.{Head}
use Rattle.wsm_ops.proofs.walks.+walk.Goals as goal

branch_next : (split : ℕ) (codes : List ℕ) (before pushed filled whole : List Piece) (code : ℕ) (is_first : Bool) (ps : Parts) (all rest : Lanes) →
    is_first ≡ not (is_one_of code codes) → pushed ≡ before ++ Head split code is_first ∷ [] → filled ≡ pushed ++ parts_pieces ps → all ≡ lane code ps rest →
    before ++ lanes_pieces split codes all ≡ whole → filled ++ lanes_pieces split (code ∷ codes) rest ≡ whole
branch_next split codes before pushed filled whole code is_first ps all rest new push fill lanes_are so_far =
    rw (fill, push, new) (append_assoc (before ++ Head split code (not (is_one_of code codes)) ∷ []) (parts_pieces ps) (lanes_pieces split (code ∷ codes) rest)
    ∙ append_assoc before (Head split code (not (is_one_of code codes)) ∷ []) (parts_pieces ps ++ lanes_pieces split (code ∷ codes) rest))
    ∙ (rw lanes_are at so_far)

same_key : (a b : ℕ) → is_at (nat_cmp a) b ≡ eqb a b
same_key a b =
    elim (cases_order a b) [
      | inl same ↦ rw (le-ltb a b (omega (arith, same)), eq-eqb a b same) refl
      | inr (inl less) ↦ rw (lt-ltb a b less, ne_eqb a b (omega (arith, less))) refl
      | inr (inr more) ↦ rw (le-ltb a b (omega (arith, more)), ne_eqb a b (omega (arith, more))) refl
    ]

one_code : (a b : Bool) → cond a true b ≡ (a || b)
one_code true b = refl
one_code false b = refl

lane-is : (b : Branch) → lane_of b ≡ (b.code, parts_of b.items.items)
lane-is b = rw fold_out-Branch refl

first_lane : (branches : List Branch) (i : ℕ) (b d : Branch) → i < length branches → b ≡ get_or branches i b → d ≡ get_or branches i d →
    lanes (lanes_of (drop i branches)) ≡ lane b.code (parts_of d.items.items) (lanes (lanes_of (drop (i + 1) branches)))
first_lane branches i b d lt is_b is_d =
    let same : b ≡ d = get_or_read branches i b lt is_b d ∙ sym is_d in
    let split : drop i branches ≡ d ∷ drop (i + 1) branches = rw (add-one, drop-cons branches i d lt) (ap (λ y. y ∷ drop (ℕ.suc i) branches) (sym is_d)) in
    rw (split, same) (ap (λ (l : ℕ × Parts). lane l.0 l.1 (lanes (lanes_of (drop (i + 1) branches)))) (lane-is d))

lane_here : (branches : List Branch) (i : ℕ) (b d : Branch) (items : List Block) → i < length branches → b ≡ get_or branches i b → d ≡ get_or branches i d → items ≡ (get_or branches i d).items.items →
    lanes (lanes_of (drop i branches)) ≡ lane (get_or branches i b).code (parts_of items) (lanes (lanes_of (drop (i + 1) branches)))
lane_here branches i b d items lt is_b is_d are =
    first_lane branches i b d lt is_b is_d
    ∙ ap (λ (e : Branch). lane e.code (parts_of d.items.items) (lanes (lanes_of (drop (i + 1) branches)))) is_b
    ∙ ap (λ bs. lane (get_or branches i b).code (parts_of bs) (lanes (lanes_of (drop (i + 1) branches)))) (ap (λ (e : Branch). e.items.items) is_d ∙ sym are)

pub put_branches-loop-i-preserved : goal.put_branches-loop-i-preserved
put_branches-loop-i-preserved t c =
    let codes = c.loop-i.invariant.0 in
    let code = (get_or c.args.branches.now c.loop-i.i c.index-branches-i.result).code in (
      code ∷ codes,
      (λ q. c.in_ok-first.ensures.updates.0 q ∙ ap (λ b. cond b true (contains nat_cmp c.loop-i.seen q)) (same_key code q) ∙ one_code (eqb code q) _ ∙ ap (λ b. eqb code q || b) (c.loop-i.invariant.1 q)),
      branch_next c.args.split codes c.loop-i.all.items c.push.new.self.items c.put_items.new.all.items _ code c.in_ok-first.first (parts_of c.deref.result.now)
          (lanes (lanes_of (drop c.loop-i.i c.args.branches.now))) (lanes (lanes_of (drop (c.loop-i.i + 1) c.args.branches.now)))
          (c.in_ok-first.ensures.added ∙ ap not (c.loop-i.invariant.1 code)) c.in_ok-push.ensures.items c.in_ok-put_items.ensures
          (lane_here c.args.branches.now c.loop-i.i c.index-branches-i.result c.index-branches-i-in-loop-i.result c.deref.result.now c.loop-i-test.true c.index-branches-i.is c.index-branches-i-in-loop-i.is c.deref.ensures.value)
          c.loop-i.invariant.2,
    )
