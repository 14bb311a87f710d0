-- Edits of trees commute. Nothing is asked of the tree: its nodes need not be distinct.
use Rattle.wsm_commute.proofs.Common.{ℕ, ◌&&◌, ◌∙◌, ◌≡◌, act, and_gate, ap, arith, beside, Bool, change, change_inside, change_lanes, false, first_of, Gap, gate, head_code, if◌then◌else◌, is_act_of, is_behind, is_code, is_item, lane, Lanes}
use Rattle.wsm_commute.proofs.Common.{last_of, loop, no_lane, None, nothing, Option, Part, part, Parts, put, put_if, put_inside, put_lanes, refl, still_wanted, sym, true, without, without_inside, without_lanes, wrap_if}
use Rattle.std.proofs.{Common.◌==◌, lemmas.Bool.Decides.nat_tests}

-- an edit inside leaves the ends of a part, and whether it is an activity
last-without : (n : ℕ) (p : Part) → last_of (without_inside n p) ≡ last_of p
last-without n (act node) = refl
last-without n (gate k s j ls) = refl
last-without n (loop s e body) = refl

act-without : (m n : ℕ) (p : Part) → is_act_of m (without_inside n p) ≡ is_act_of m p
act-without m n (act node) = refl
act-without m n (gate k s j ls) = refl
act-without m n (loop s e body) = refl

-- two activities go in either order
drops : (m n : ℕ) (p : Part) (ps : Parts) (bm bn : Bool) → is_act_of m p ≡ bm → is_act_of n p ≡ bn → without m (without n ps) ≡ without n (without m ps)
    → without_inside m (without_inside n p) ≡ without_inside n (without_inside m p) → without m (without n (part p ps)) ≡ without n (without m (part p ps))
drops m n p ps true true em en rest inside = grind (arith, em, en, rest, act-without m n p, act-without n m p)
drops m n p ps true false em en rest inside = grind (arith, em, en, rest, act-without m n p, act-without n m p)
drops m n p ps false true em en rest inside = grind (arith, em, en, rest, act-without m n p, act-without n m p)
drops m n p ps false false em en rest inside = grind (arith, em, en, rest, inside, act-without m n p, act-without n m p)

mutual
  pub without-inside : (m n : ℕ) (p : Part) → without_inside m (without_inside n p) ≡ without_inside n (without_inside m p)
  without-inside m n (act node) = refl
  without-inside m n (gate k s j ls) = ap (gate k s j) (without-lanes m n ls)
  without-inside m n (loop s e body) = ap (loop s e) (without-parts m n body)

  pub without-parts : (m n : ℕ) (ps : Parts) → without m (without n ps) ≡ without n (without m ps)
  without-parts m n nothing = refl
  without-parts m n (part p ps) = drops m n p ps (is_act_of m p) (is_act_of n p) refl refl (without-parts m n ps) (without-inside m n p)

  pub without-lanes : (m n : ℕ) (ls : Lanes) → without_lanes m (without_lanes n ls) ≡ without_lanes n (without_lanes m ls)
  without-lanes m n no_lane = refl
  without-lanes m n (lane code ps ls) = ap (λ qs. lane code qs (without_lanes m (without_lanes n ls))) (without-parts m n ps) ∙ ap (lane code (without n (without m ps))) (without-lanes m n ls)

-- ---- a part at a gap, and an activity that goes: the gap is not behind it, and it is no part that is put
last-put : (g : Gap) (x p : Part) → last_of (put_inside g x p) ≡ last_of p
last-put g x (act node) = refl
last-put g x (gate k s j ls) = refl
last-put g x (loop s e body) = refl

act-put : (m : ℕ) (g : Gap) (x p : Part) → is_act_of m (put_inside g x p) ≡ is_act_of m p
act-put m g x (act node) = refl
act-put m g x (gate k s j ls) = refl
act-put m g x (loop s e body) = refl

-- the last node of an activity is its node
act-last : (m : ℕ) (g : Gap) (p : Part) → is_act_of m p ≡ true → is_behind g m ≡ false → is_behind g (last_of p) ≡ false
act-last m g (act node) is apart = grind (arith, nat_tests, is, apart)
act-last m g (gate k s j ls) is apart = absurd cc
act-last m g (loop s e body) is apart = absurd cc

module _ (m : ℕ) (g : Gap) (x : Part) (apart : is_behind g m ≡ false) (other : is_act_of m x ≡ false) (kept : without_inside m x ≡ x) where
  -- what is put stays
  pub without-put_if : (test : Bool) (ps : Parts) → without m (put_if test x ps) ≡ put_if test x (without m ps)
  without-put_if true ps = grind (arith, other, kept)
  without-put_if false ps = refl

  goes : (p : Part) (ps : Parts) (b : Bool) → is_act_of m p ≡ b → without m (put g x ps) ≡ put g x (without m ps) → without_inside m (put_inside g x p) ≡ put_inside g x (without_inside m p)
      → without m (put g x (part p ps)) ≡ put g x (without m (part p ps))
  goes p ps true is rest inside = grind (arith, is, rest, act-last m g p is apart, act-put m g x p)
  goes p ps false is rest inside = grind (arith, is, rest, inside, act-put m g x p, last-put g x p, last-without m p, without-put_if (is_behind g (last_of p)) (put g x ps))

  mutual
    pub put_without-inside : (p : Part) → without_inside m (put_inside g x p) ≡ put_inside g x (without_inside m p)
    put_without-inside (act node) = refl
    put_without-inside (gate k s j ls) = ap (gate k s j) (put_without-lanes (head_code g s) ls)
    put_without-inside (loop s e body) = ap (loop s e) (without-put_if (is_behind g s) (put g x body) ∙ ap (put_if (is_behind g s) x) (put_without-parts body))

    pub put_without-parts : (ps : Parts) → without m (put g x ps) ≡ put g x (without m ps)
    put_without-parts nothing = refl
    put_without-parts (part p ps) = goes p ps (is_act_of m p) refl (put_without-parts ps) (put_without-inside p)

    pub put_without-lanes : (wanted : Option ℕ) (ls : Lanes) → without_lanes m (put_lanes g x wanted ls) ≡ put_lanes g x wanted (without_lanes m ls)
    put_without-lanes wanted no_lane = refl
    put_without-lanes wanted (lane code ps ls) =
        ap (λ qs. lane code qs (without_lanes m (put_lanes g x (still_wanted wanted code) ls))) (without-put_if (is_code wanted code) (put g x ps) ∙ ap (put_if (is_code wanted code) x) (put_without-parts ps))
        ∙ ap (lane code (put_if (is_code wanted code) x (put g x (without m ps)))) (put_without-lanes (still_wanted wanted code) ls)

-- ---- two parts at two gaps
put-put_if : (g : Gap) (x y : Part) → put_inside g x y ≡ y → is_behind g (last_of y) ≡ false → (test : Bool) (ps : Parts) → put g x (put_if test y ps) ≡ put_if test y (put g x ps)
put-put_if g x y kept apart true ps = ap (λ q. part q (put_if (is_behind g (last_of y)) x (put g x ps))) kept ∙ ap (λ b. part y (put_if b x (put g x ps))) apart
put-put_if g x y kept apart false ps = refl

swap_if : (x y : Part) (a b : Bool) (ps : Parts) → (a ≡ true → b ≡ true → ⊥) → put_if a x (put_if b y ps) ≡ put_if b y (put_if a x ps)
swap_if x y true true ps never = absurd (never refl refl)
swap_if x y true false ps never = refl
swap_if x y false b ps never = refl

still : (wanted : Option ℕ) (code c : ℕ) → is_code (still_wanted wanted code) c ≡ true → is_code wanted c ≡ true
still wanted code c is = go (is_code wanted code) refl is
  where
    go : (b : Bool) → is_code wanted code ≡ b → is_code (if b then None else wanted) c ≡ true → is_code wanted c ≡ true
    go true e is = absurd cc
    go false e is = is

module _ (g h : Gap) (x y : Part) (never : (n : ℕ) → is_behind g n ≡ true → is_behind h n ≡ true → ⊥)
    (never_head : (s code : ℕ) → is_code (head_code g s) code ≡ true → is_code (head_code h s) code ≡ true → ⊥)
    (x_kept : put_inside h y x ≡ x) (x_apart : is_behind h (last_of x) ≡ false) (y_kept : put_inside g x y ≡ y) (y_apart : is_behind g (last_of y) ≡ false) where
  -- behind the same place, or at the same head
  pub both_if : (a b : Bool) (ps : Parts) → (a ≡ true → b ≡ true → ⊥) → put g x (put h y ps) ≡ put h y (put g x ps) → put_if a x (put g x (put_if b y (put h y ps))) ≡ put_if b y (put h y (put_if a x (put g x ps)))
  both_if a b ps never rest =
      ap (put_if a x) (put-put_if g x y y_kept y_apart b (put h y ps))
      ∙ swap_if x y a b (put g x (put h y ps)) never
      ∙ ap (λ qs. put_if b y (put_if a x qs)) rest
      ∙ ap (put_if b y) (sym (put-put_if h y x x_kept x_apart a (put g x ps)))

  mutual
    pub put_put-inside : (p : Part) → put_inside g x (put_inside h y p) ≡ put_inside h y (put_inside g x p)
    put_put-inside (act node) = refl
    put_put-inside (gate k s j ls) = ap (gate k s j) (put_put-lanes (head_code g s) (head_code h s) (never_head s) ls)
    put_put-inside (loop s e body) = ap (loop s e) (both_if (is_behind g s) (is_behind h s) body (never s) (put_put-parts body))

    pub put_put-parts : (ps : Parts) → put g x (put h y ps) ≡ put h y (put g x ps)
    put_put-parts nothing = refl
    put_put-parts (part p ps) =
        ap (λ n. part (put_inside g x (put_inside h y p)) (put_if (is_behind g n) x (put g x (put_if (is_behind h (last_of p)) y (put h y ps))))) (last-put h y p)
        ∙ ap (λ q. part q (put_if (is_behind g (last_of p)) x (put g x (put_if (is_behind h (last_of p)) y (put h y ps))))) (put_put-inside p)
        ∙ ap (part (put_inside h y (put_inside g x p))) (both_if (is_behind g (last_of p)) (is_behind h (last_of p)) ps (never (last_of p)) (put_put-parts ps))
        ∙ ap (λ n. part (put_inside h y (put_inside g x p)) (put_if (is_behind h n) y (put h y (put_if (is_behind g (last_of p)) x (put g x ps))))) (sym (last-put g x p))

    pub put_put-lanes : (w v : Option ℕ) → ((code : ℕ) → is_code w code ≡ true → is_code v code ≡ true → ⊥) → (ls : Lanes) → put_lanes g x w (put_lanes h y v ls) ≡ put_lanes h y v (put_lanes g x w ls)
    put_put-lanes w v never no_lane = refl
    put_put-lanes w v never (lane code ps ls) =
        ap (λ qs. lane code qs (put_lanes g x (still_wanted w code) (put_lanes h y (still_wanted v code) ls))) (both_if (is_code w code) (is_code v code) ps (never code) (put_put-parts ps))
        ∙ ap (lane code (put_if (is_code v code) y (put h y (put_if (is_code w code) x (put g x ps)))))
        (put_put-lanes (still_wanted w code) (still_wanted v code) (λ c one two. never c (still w code c one) (still v code c two)) ls)

-- ---- an item that is wrapped
last-change : (i : ℕ × ℕ) (f : Part → Part) (p : Part) → last_of (change_inside i f p) ≡ last_of p
last-change i f (act node) = refl
last-change i f (gate k s j ls) = refl
last-change i f (loop s e body) = refl

item-put : (a b : ℕ) (g : Gap) (x p : Part) → is_item a b (put_inside g x p) ≡ is_item a b p
item-put a b g x (act node) = refl
item-put a b g x (gate k s j ls) = refl
item-put a b g x (loop s e body) = refl

item-without : (a b m : ℕ) (p : Part) → is_item a b (without_inside m p) ≡ is_item a b p
item-without a b m (act node) = refl
item-without a b m (gate k s j ls) = refl
item-without a b m (loop s e body) = refl

item-change : (a b : ℕ) (i : ℕ × ℕ) (f : Part → Part) (p : Part) → is_item a b (change_inside i f p) ≡ is_item a b p
item-change a b i f (act node) = refl
item-change a b i f (gate k s j ls) = refl
item-change a b i f (loop s e body) = refl

act-change : (m : ℕ) (i : ℕ × ℕ) (f : Part → Part) (p : Part) → is_act_of m (change_inside i f p) ≡ is_act_of m p
act-change m i f (act node) = refl
act-change m i f (gate k s j ls) = refl
act-change m i f (loop s e body) = refl

pub item-last : (a b : ℕ) (p : Part) → is_item a b p ≡ true → last_of p ≡ b
item-last a b p is = grind (arith, nat_tests, is)

item-first : (a b : ℕ) (p : Part) → is_item a b p ≡ true → first_of p ≡ a
item-first a b p is = grind (arith, nat_tests, is)

module _ (node split join a b : ℕ) where
  abbrev wrap : Part → Part
  wrap = beside node split join

  -- a part at a gap: not behind the item, nor at one of the new nodes
  module _ (g : Gap) (x : Part) (behind : is_behind g b ≡ false) (no_node : is_behind g node ≡ false) (no_join : is_behind g join ≡ false) (no_head : head_code g split ≡ None)
      (no_item : is_item a b x ≡ false) (kept : change_inside (a, b) wrap x ≡ x) where
    pub change-put_if : (test : Bool) (ps : Parts) → change (a, b) wrap (put_if test x ps) ≡ put_if test x (change (a, b) wrap ps)
    change-put_if true ps = grind (arith, no_item, kept)
    change-put_if false ps = refl

    none_there : (ls : Lanes) → put_lanes g x None ls ≡ put_lanes g x (head_code g split) ls
    none_there ls = ap (λ w. put_lanes g x w ls) (sym no_head)

    wrap-put : (p : Part) → last_of p ≡ b → put_inside g x (wrap p) ≡ wrap (put_inside g x p)
    wrap-put p is =
        ap (gate and_gate split join) (sym (none_there (lane 0 (part p nothing) (lane 1 (part (act node) nothing) no_lane))))
        ∙ ap (λ t. gate and_gate split join (lane 0 (part (put_inside g x p) (put_if t x nothing)) (lane 1 (part (act node) (put_if (is_behind g node) x nothing)) no_lane))) (ap (is_behind g) is ∙ behind)
        ∙ ap (λ t. gate and_gate split join (lane 0 (part (put_inside g x p) nothing) (lane 1 (part (act node) (put_if t x nothing)) no_lane))) no_node

    wrapped : (test : Bool) (p : Part) → (test ≡ true → last_of p ≡ b) → put_inside g x (wrap_if test wrap p) ≡ wrap_if test wrap (put_inside g x p)
    wrapped true p is = wrap-put p (is refl)
    wrapped false p is = refl

    same_place : (test : Bool) (p : Part) → (test ≡ true → last_of p ≡ b) → is_behind g (last_of (wrap_if test wrap p)) ≡ is_behind g (last_of p)
    same_place true p is = no_join ∙ sym (ap (is_behind g) (is refl) ∙ behind)
    same_place false p is = refl

    mutual
      pub put_change-inside : (p : Part) → put_inside g x (change_inside (a, b) wrap p) ≡ change_inside (a, b) wrap (put_inside g x p)
      put_change-inside (act n) = refl
      put_change-inside (gate k s j ls) = ap (gate k s j) (put_change-lanes (head_code g s) ls)
      put_change-inside (loop s e body) = ap (loop s e) (ap (put_if (is_behind g s) x) (put_change-parts body) ∙ sym (change-put_if (is_behind g s) (put g x body)))

      pub put_change-parts : (ps : Parts) → put g x (change (a, b) wrap ps) ≡ change (a, b) wrap (put g x ps)
      put_change-parts nothing = refl
      put_change-parts (part p ps) =
          let q = change_inside (a, b) wrap p in
          let ends : is_item a b p ≡ true → last_of q ≡ b = λ is. last-change (a, b) wrap p ∙ item-last a b p is in
          ap (λ r. part r (put_if (is_behind g (last_of (wrap_if (is_item a b p) wrap q))) x (put g x (change (a, b) wrap ps)))) (wrapped (is_item a b p) q ends ∙ ap (wrap_if (is_item a b p) wrap) (put_change-inside p) ∙ ap (λ t. wrap_if t wrap (change_inside (a, b) wrap (put_inside g x p))) (sym (item-put a b g x p)))
          ∙ ap (λ t. part (wrap_if (is_item a b (put_inside g x p)) wrap (change_inside (a, b) wrap (put_inside g x p))) (put_if t x (put g x (change (a, b) wrap ps)))) (same_place (is_item a b p) q ends ∙ ap (is_behind g) (last-change (a, b) wrap p))
          ∙ ap (λ qs. part (wrap_if (is_item a b (put_inside g x p)) wrap (change_inside (a, b) wrap (put_inside g x p))) (put_if (is_behind g (last_of p)) x qs)) (put_change-parts ps)
          ∙ ap (part (wrap_if (is_item a b (put_inside g x p)) wrap (change_inside (a, b) wrap (put_inside g x p)))) (sym (change-put_if (is_behind g (last_of p)) (put g x ps)))

      pub put_change-lanes : (w : Option ℕ) (ls : Lanes) → put_lanes g x w (change_lanes (a, b) wrap ls) ≡ change_lanes (a, b) wrap (put_lanes g x w ls)
      put_change-lanes w no_lane = refl
      put_change-lanes w (lane code ps ls) =
          ap (λ qs. lane code qs (put_lanes g x (still_wanted w code) (change_lanes (a, b) wrap ls))) (ap (put_if (is_code w code) x) (put_change-parts ps) ∙ sym (change-put_if (is_code w code) (put g x ps)))
          ∙ ap (lane code (change (a, b) wrap (put_if (is_code w code) x (put g x ps)))) (put_change-lanes (still_wanted w code) ls)

  -- an activity that goes: not the item, nor one of the new nodes
  module _ (m : ℕ) (no_first : (m == a) ≡ false) (no_new : (node == m) ≡ false) where
    no_item_goes : (p : Part) → is_act_of m p ≡ true → is_item a b p ≡ false
    no_item_goes (act n) is = grind (arith, nat_tests, is, no_first)
    no_item_goes (gate k s j ls) is = absurd cc
    no_item_goes (loop s e body) is = absurd cc

    item_stays : (p : Part) → is_item a b p ≡ true → is_act_of m p ≡ false
    item_stays p is = go (is_act_of m p) refl
      where
        go : (t : Bool) → is_act_of m p ≡ t → is_act_of m p ≡ false
        go true e = absurd (let no = no_item_goes p e in cc)
        go false e = e

    without-wrap : (p : Part) → is_act_of m p ≡ false → without_inside m (wrap p) ≡ wrap (without_inside m p)
    without-wrap p stays = grind (arith, stays, no_new)

    without-wrapped : (test : Bool) (p : Part) → (test ≡ true → is_act_of m p ≡ false) → without_inside m (wrap_if test wrap p) ≡ wrap_if test wrap (without_inside m p)
    without-wrapped true p stays = without-wrap p (stays refl)
    without-wrapped false p stays = refl

    act-wrapped : (test : Bool) (p : Part) → (test ≡ true → is_act_of m p ≡ false) → is_act_of m (wrap_if test wrap p) ≡ is_act_of m p
    act-wrapped true p stays = sym (stays refl)
    act-wrapped false p stays = refl

    without_change-one : (p : Part) (ps : Parts) (t : Bool) → is_act_of m p ≡ t → without_inside m (change_inside (a, b) wrap p) ≡ change_inside (a, b) wrap (without_inside m p)
        → without m (change (a, b) wrap ps) ≡ change (a, b) wrap (without m ps) → without m (change (a, b) wrap (part p ps)) ≡ change (a, b) wrap (without m (part p ps))
    without_change-one p ps t is inside rest =
        let q = change_inside (a, b) wrap p in
        let stays : is_item a b p ≡ true → is_act_of m q ≡ false = λ e. act-change m (a, b) wrap p ∙ item_stays p e in
        ap (λ u. if u then without m (change (a, b) wrap ps) else part (without_inside m (wrap_if (is_item a b p) wrap q)) (without m (change (a, b) wrap ps))) (act-wrapped (is_item a b p) q stays ∙ act-change m (a, b) wrap p ∙ is)
        ∙ ap (λ r. if t then without m (change (a, b) wrap ps) else part r (without m (change (a, b) wrap ps)))
        (without-wrapped (is_item a b p) q stays ∙ ap (wrap_if (is_item a b p) wrap) inside ∙ ap (λ u. wrap_if u wrap (change_inside (a, b) wrap (without_inside m p))) (sym (item-without a b m p)))
        ∙ ap (λ qs. if t then qs else part (wrap_if (is_item a b (without_inside m p)) wrap (change_inside (a, b) wrap (without_inside m p))) qs) rest
        ∙ chosen t
        ∙ ap (λ u. change (a, b) wrap (if u then without m ps else part (without_inside m p) (without m ps))) (sym is)
      where
        chosen : (t : Bool) → (if t then change (a, b) wrap (without m ps) else part (wrap_if (is_item a b (without_inside m p)) wrap (change_inside (a, b) wrap (without_inside m p))) (change (a, b) wrap (without m ps)))
            ≡ change (a, b) wrap (if t then without m ps else part (without_inside m p) (without m ps))
        chosen true = refl
        chosen false = refl

    mutual
      pub without_change-inside : (p : Part) → without_inside m (change_inside (a, b) wrap p) ≡ change_inside (a, b) wrap (without_inside m p)
      without_change-inside (act n) = refl
      without_change-inside (gate k s j ls) = ap (gate k s j) (without_change-lanes ls)
      without_change-inside (loop s e body) = ap (loop s e) (without_change-parts body)

      pub without_change-parts : (ps : Parts) → without m (change (a, b) wrap ps) ≡ change (a, b) wrap (without m ps)
      without_change-parts nothing = refl
      without_change-parts (part p ps) = without_change-one p ps (is_act_of m p) refl (without_change-inside p) (without_change-parts ps)

      pub without_change-lanes : (ls : Lanes) → without_lanes m (change_lanes (a, b) wrap ls) ≡ change_lanes (a, b) wrap (without_lanes m ls)
      without_change-lanes no_lane = refl
      without_change-lanes (lane code ps ls) =
          ap (λ qs. lane code qs (without_lanes m (change_lanes (a, b) wrap ls))) (without_change-parts ps) ∙ ap (lane code (change (a, b) wrap (without m ps))) (without_change-lanes ls)

-- ---- two items that are wrapped
-- what one wraps is no item of the other, and its new activity is none
module _ (n1 s1 j1 a1 b1 n2 s2 j2 a2 b2 : ℕ) (never : (p : Part) → is_item a1 b1 p ≡ true → is_item a2 b2 p ≡ true → ⊥)
    (new_1 : (s1 == a2 && j1 == b2) ≡ false) (act_1 : (n1 == a2 && n1 == b2) ≡ false)
    (new_2 : (s2 == a1 && j2 == b1) ≡ false) (act_2 : (n2 == a1 && n2 == b1) ≡ false) where
  abbrev f : Part → Part
  f = beside n1 s1 j1

  abbrev h : Part → Part
  h = beside n2 s2 j2

  abbrev one : Part → Part
  one p = wrap_if (is_item a1 b1 p) f (change_inside (a1, b1) f p)

  abbrev two : Part → Part
  two p = wrap_if (is_item a2 b2 p) h (change_inside (a2, b2) h p)

  one-h : (p : Part) → one (h p) ≡ h (one p)
  one-h p =
      ap (λ t. wrap_if t f (change_inside (a1, b1) f (h p))) new_2
      ∙ ap (λ t. gate and_gate s2 j2 (lane 0 (part (one p) nothing) (lane 1 (part (wrap_if t f (act n2)) nothing) no_lane))) act_2

  two-f : (p : Part) → two (f p) ≡ f (two p)
  two-f p =
      ap (λ t. wrap_if t h (change_inside (a2, b2) h (f p))) new_1
      ∙ ap (λ t. gate and_gate s1 j1 (lane 0 (part (two p) nothing) (lane 1 (part (wrap_if t h (act n1)) nothing) no_lane))) act_1

  wraps : (p : Part) (t u : Bool) → is_item a1 b1 p ≡ t → is_item a2 b2 p ≡ u → change_inside (a1, b1) f (change_inside (a2, b2) h p) ≡ change_inside (a2, b2) h (change_inside (a1, b1) f p) → one (two p) ≡ two (one p)
  wraps p true true is also inside = absurd (never p is also)
  wraps p false false is also inside =
      ap (λ u. one (wrap_if u h (change_inside (a2, b2) h p))) also
      ∙ ap (λ t. wrap_if t f (change_inside (a1, b1) f (change_inside (a2, b2) h p))) (item-change a1 b1 (a2, b2) h p ∙ is)
      ∙ inside
      ∙ sym (ap (λ u. wrap_if u h (change_inside (a2, b2) h (change_inside (a1, b1) f p))) (item-change a2 b2 (a1, b1) f p ∙ also))
      ∙ sym (ap (λ t. two (wrap_if t f (change_inside (a1, b1) f p))) is)
  wraps p false true is also inside =
      ap (λ u. one (wrap_if u h (change_inside (a2, b2) h p))) also
      ∙ one-h (change_inside (a2, b2) h p)
      ∙ ap (λ t. h (wrap_if t f (change_inside (a1, b1) f (change_inside (a2, b2) h p)))) (item-change a1 b1 (a2, b2) h p ∙ is)
      ∙ ap h inside
      ∙ sym (ap (λ u. wrap_if u h (change_inside (a2, b2) h (change_inside (a1, b1) f p))) (item-change a2 b2 (a1, b1) f p ∙ also))
      ∙ sym (ap (λ t. two (wrap_if t f (change_inside (a1, b1) f p))) is)
  wraps p true false is also inside =
      ap (λ u. one (wrap_if u h (change_inside (a2, b2) h p))) also
      ∙ ap (λ t. wrap_if t f (change_inside (a1, b1) f (change_inside (a2, b2) h p))) (item-change a1 b1 (a2, b2) h p ∙ is)
      ∙ ap f inside
      ∙ sym (ap (λ u. f (wrap_if u h (change_inside (a2, b2) h (change_inside (a1, b1) f p)))) (item-change a2 b2 (a1, b1) f p ∙ also))
      ∙ sym (two-f (change_inside (a1, b1) f p))
      ∙ sym (ap (λ t. two (wrap_if t f (change_inside (a1, b1) f p))) is)

  mutual
    pub change_change-inside : (p : Part) → change_inside (a1, b1) f (change_inside (a2, b2) h p) ≡ change_inside (a2, b2) h (change_inside (a1, b1) f p)
    change_change-inside (act n) = refl
    change_change-inside (gate k s j ls) = ap (gate k s j) (change_change-lanes ls)
    change_change-inside (loop s e body) = ap (loop s e) (change_change-parts body)

    pub change_change-parts : (ps : Parts) → change (a1, b1) f (change (a2, b2) h ps) ≡ change (a2, b2) h (change (a1, b1) f ps)
    change_change-parts nothing = refl
    change_change-parts (part p ps) =
        ap (λ q. part q (change (a1, b1) f (change (a2, b2) h ps))) (wraps p (is_item a1 b1 p) (is_item a2 b2 p) refl refl (change_change-inside p))
        ∙ ap (part (two (one p))) (change_change-parts ps)

    pub change_change-lanes : (ls : Lanes) → change_lanes (a1, b1) f (change_lanes (a2, b2) h ls) ≡ change_lanes (a2, b2) h (change_lanes (a1, b1) f ls)
    change_change-lanes no_lane = refl
    change_change-lanes (lane code ps ls) =
        ap (λ qs. lane code qs (change_lanes (a1, b1) f (change_lanes (a2, b2) h ls))) (change_change-parts ps) ∙ ap (lane code (change (a2, b2) h (change (a1, b1) f ps))) (change_change-lanes ls)
