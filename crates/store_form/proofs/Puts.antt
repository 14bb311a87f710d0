-- What is put one after another, as a loop does; what holds of each item of a list, and of the tree of its items.
use Rattle.store_form.proofs.Common.{[], ℕ, ◌&&◌, ◌++◌, ◌+◌, ◌<◌, ◌^◌, ◌∙◌, ◌∷◌, ◌≡◌, ◌≤◌, ap, append_assoc, body_bytes, Bool, Branch, Bytes, drop, drop_all, drop_more, false, few_branches, few_in_lanes, few_in_parts, few_items, FitsItems}
use Rattle.store_form.proofs.Common.{FitsLanes, get_or, IsCode, lane, lane_count, lane_of, Lanes, lanes, lanes_bytes, lanes_of, length, List, nat_lt, part_count, Parts, parts_bytes, parts_of, refl, subst, suc, sym, true, u16, u32}
use Rattle.wsm_schema.specs.{declared.blocks.Block.Block, declared.blocks.Block.TheFolds.fold_out-Branch}

-- as many parts as items
pub count-parts : (bs : List Block) → part_count (parts_of bs) ≡ length bs
count-parts [] = refl
count-parts (b ∷ bs) = ap suc (count-parts bs)

pub count-lanes : (bs : List Branch) → lane_count (lanes (lanes_of bs)) ≡ length bs
count-lanes [] = refl
count-lanes (b ∷ bs) = ap suc (count-lanes bs)

-- the first of the branches that are left
pub lane-is : (b : Branch) → lane_of b ≡ (b.code, parts_of b.items.items)
lane-is b = rw fold_out-Branch refl

next-lane : (bs : List Branch) (i : ℕ) (b : Branch) → b ≡ get_or bs i b → i < length bs
    → lanes (lanes_of (drop i bs)) ≡ lane b.code (parts_of b.items.items) (lanes (lanes_of (drop (i + 1) bs)))
next-lane bs i b is lt =
    let split : drop i bs ≡ b ∷ drop (i + 1) bs = drop_more bs i b lt ∙ ap (λ y. y ∷ drop (i + 1) bs) (sym is) in
    ap (λ l. lanes (lanes_of l)) split ∙ ap (λ (l : ℕ × Parts). lane l.0 l.1 (lanes (lanes_of (drop (i + 1) bs)))) (lane-is b)

module _ (bs : List Branch) (i : ℕ) (b : Branch) (is : b ≡ get_or bs i b) (lt : i < length bs) where
  abbrev left : Lanes
  left = lanes (lanes_of (drop i bs))

  abbrev behind : Lanes
  behind = lanes (lanes_of (drop (i + 1) bs))

  -- a branch is put
  pub put-lane : (out coded new total items : Bytes) → coded ≡ out ++ u16 b.code → items ≡ body_bytes (parts_of b.items.items) → new ≡ coded ++ items
      → out ++ lanes_bytes left ≡ total → new ++ lanes_bytes behind ≡ total
  put-lane out coded new total items code body wrote so_far =
      let ps : Parts = parts_of b.items.items in
      let rest : Bytes = lanes_bytes behind in
      ap (λ n. n ++ rest) wrote
      ∙ append_assoc coded items rest
      ∙ ap (λ o. o ++ (items ++ rest)) code
      ∙ append_assoc out (u16 b.code) (items ++ rest)
      ∙ ap (λ l. out ++ (u16 b.code ++ (l ++ rest))) body
      ∙ ap (λ l. out ++ (u16 b.code ++ l)) (append_assoc (u32 (part_count ps)) (parts_bytes ps) rest)
      ∙ ap (λ l. out ++ lanes_bytes l) (sym (next-lane bs i b is lt))
      ∙ so_far

  pub fits-lane : (all : Type 0) → IsCode b.code → FitsItems (parts_of b.items.items) → (FitsLanes left → all) → FitsLanes behind → all
  fits-lane all code items so_far rest = so_far (subst FitsLanes (sym (next-lane bs i b is lt)) (code, items.0, items.1, rest))

  -- a branch is looked at
  pub few-goes-on : (total : Bool) → few_items (parts_of b.items.items) ≡ true → few_in_lanes left ≡ total → few_in_lanes behind ≡ total
  few-goes-on total few so_far = sym (ap few_in_lanes (next-lane bs i b is lt) ∙ ap (λ x. x && few_in_lanes behind) few) ∙ so_far

  pub few-stops : (total : Bool) → few_items (parts_of b.items.items) ≡ false → few_in_lanes left ≡ total → total ≡ false
  few-stops total few so_far = sym so_far ∙ ap few_in_lanes (next-lane bs i b is lt) ∙ ap (λ x. x && few_in_lanes behind) few

-- two fields, one behind another, and three
pub put-then : (out mid new a b : Bytes) → mid ≡ out ++ a → new ≡ mid ++ b → new ≡ out ++ (a ++ b)
put-then out mid new a b first second = second ∙ ap (λ o. o ++ b) first ∙ append_assoc out a b

pub put-third : (out one two new a b d : Bytes) → one ≡ out ++ a → two ≡ one ++ b → new ≡ two ++ d → new ≡ out ++ (a ++ (b ++ d))
put-third out one two new a b d first second third =
    third ∙ ap (λ o. o ++ d) second ∙ append_assoc one b d ∙ ap (λ o. o ++ (b ++ d)) first ∙ append_assoc out a (b ++ d)

-- a number, and what is put behind it
pub put-counted : (out mid new bytes : Bytes) (n m : ℕ) → n ≡ m → mid ≡ out ++ u32 m → new ≡ mid ++ bytes → new ≡ out ++ (u32 n ++ bytes)
put-counted out mid new bytes n m same first wrote =
    wrote ∙ ap (λ o. o ++ bytes) first ∙ append_assoc out (u32 m) bytes ∙ ap (λ k. out ++ (u32 k ++ bytes)) (sym same)

-- so few items, so far as they were looked at
pub few-all : (bs : List Block) (i : ℕ) → nat_lt (length bs) (2 ^ 32) ≡ true → length bs ≤ i → few_in_parts (parts_of (drop i bs)) ≡ few_in_parts (parts_of bs) → true ≡ few_items (parts_of bs)
few-all bs i short le so_far =
    ap (λ l. few_in_parts (parts_of l)) (sym (drop_all i bs le)) ∙ so_far
    ∙ ap (λ b. b && few_in_parts (parts_of bs)) (sym (ap (λ n. nat_lt n (2 ^ 32)) (count-parts bs) ∙ short))

pub few-not : (bs : List Block) → nat_lt (length bs) (2 ^ 32) ≡ false → false ≡ few_items (parts_of bs)
few-not bs long = ap (λ b. b && few_in_parts (parts_of bs)) (sym (ap (λ n. nat_lt n (2 ^ 32)) (count-parts bs) ∙ long))

pub few-all-lanes : (bs : List Branch) (i : ℕ) → nat_lt (length bs) (2 ^ 32) ≡ true → length bs ≤ i → few_in_lanes (lanes (lanes_of (drop i bs))) ≡ few_in_lanes (lanes (lanes_of bs))
    → true ≡ few_branches (lanes (lanes_of bs))
few-all-lanes bs i short le so_far =
    ap (λ l. few_in_lanes (lanes (lanes_of l))) (sym (drop_all i bs le)) ∙ so_far
    ∙ ap (λ b. b && few_in_lanes (lanes (lanes_of bs))) (sym (ap (λ n. nat_lt n (2 ^ 32)) (count-lanes bs) ∙ short))

pub few-not-lanes : (bs : List Branch) → nat_lt (length bs) (2 ^ 32) ≡ false → false ≡ few_branches (lanes (lanes_of bs))
few-not-lanes bs long = ap (λ b. b && few_in_lanes (lanes (lanes_of bs))) (sym (ap (λ n. nat_lt n (2 ^ 32)) (count-lanes bs) ∙ long))

pub few-none-lanes : (bs : List Branch) → few_in_lanes (lanes (lanes_of bs)) ≡ false → false ≡ few_branches (lanes (lanes_of bs))
few-none-lanes bs few = nothing-left (nat_lt (lane_count (lanes (lanes_of bs))) (2 ^ 32)) ∙ ap (λ b. nat_lt (lane_count (lanes (lanes_of bs))) (2 ^ 32) && b) (sym few)
  where
    nothing-left : (b : Bool) → false ≡ b && false
    nothing-left true = refl
    nothing-left false = refl
