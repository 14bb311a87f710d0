-- Trees are read as what was written.
use Rattle.store_form.proofs.Common.{[], ℕ, ◌++◌, ◌<◌, ◌^◌, ◌∙◌, ◌∷◌, ◌≡◌, ◌≤◌, act, AllByRecursion, and_gate, ap, append_assoc, arith, as_at, block_behind, body_at, Bytes, FitsLanes, FitsPart, FitsParts, flat_map, gate, IsCode, IsNumber}
use Rattle.store_form.proofs.Common.{lane, lane_at, lane_count, Lanes, lanes, lanes_at, lanes_bytes, lanes_depth, length, List, loop, no_lane, None, nothing, Part, part, part_at, part_behind, part_bytes, part_count, part_depth, Parts}
use Rattle.store_form.proofs.Common.{parts, parts_bytes, parts_depth, Reader, refl, Some, subst, suc, sym, u16, u32, u32_at, xor_gate, zero}
use Rattle.store_form.proofs.Forms.{IsBytes, IsBytes-rest, Takes, IsForm, both_form, as_again, arm_at, or_else, list_form, made_form, code_form, u32_form}

-- the items of a row of parts, and of lanes
abbrev items_of : Parts → List Part
items_of nothing = []
items_of (part p ps) = p ∷ items_of ps

abbrev branches_of : Lanes → List (ℕ × Parts)
branches_of no_lane = []
branches_of (lane code ps ls) = (code, ps) ∷ branches_of ls

parts-items : (ps : Parts) → parts (items_of ps) ≡ ps
parts-items nothing = refl
parts-items (part p ps) = ap (part p) (parts-items ps)

items-parts : (xs : List Part) → items_of (parts xs) ≡ xs
items-parts [] = refl
items-parts (x ∷ xs) = ap (λ l. x ∷ l) (items-parts xs)

lanes-branches : (ls : Lanes) → lanes (branches_of ls) ≡ ls
lanes-branches no_lane = refl
lanes-branches (lane code ps ls) = ap (lane code ps) (lanes-branches ls)

branches-lanes : (xs : List (ℕ × Parts)) → branches_of (lanes xs) ≡ xs
branches-lanes [] = refl
branches-lanes (x ∷ xs) = ap (λ l. x ∷ l) (branches-lanes xs)

count-items : (ps : Parts) → part_count ps ≡ length (items_of ps)
count-items nothing = refl
count-items (part p ps) = ap suc (count-items ps)

bytes-items : (ps : Parts) → parts_bytes ps ≡ flat_map part_bytes (items_of ps)
bytes-items nothing = refl
bytes-items (part p ps) = ap (λ l. part_bytes p ++ l) (bytes-items ps)

count-branches : (ls : Lanes) → lane_count ls ≡ length (branches_of ls)
count-branches no_lane = refl
count-branches (lane code ps ls) = ap suc (count-branches ls)

-- a branch as it is written
abbrev lane_bytes : ℕ × Parts → Bytes
lane_bytes l = u16 l.0 ++ (u32 (part_count l.1) ++ parts_bytes l.1)

bytes-branches : (ls : Lanes) → lanes_bytes ls ≡ flat_map lane_bytes (branches_of ls)
bytes-branches no_lane = refl
bytes-branches (lane code ps ls) =
    ap (λ l. u16 code ++ (u32 (part_count ps) ++ (parts_bytes ps ++ l))) (bytes-branches ls)
    ∙ ap (λ l. u16 code ++ l) (sym (append_assoc (u32 (part_count ps)) (parts_bytes ps) (flat_map lane_bytes (branches_of ls))))
    ∙ sym (append_assoc (u16 code) (u32 (part_count ps) ++ parts_bytes ps) (flat_map lane_bytes (branches_of ls)))

module _ (d : ℕ) where
  -- what fits, and is not too deep
  abbrev pub FitsDeep : Part → Type 0
  FitsDeep p = FitsPart p × (part_depth p ≤ d)

  abbrev pub FitsBody : Parts → Type 0
  FitsBody ps = (part_count ps < 2 ^ 32) × FitsParts ps × (parts_depth ps ≤ d)

  abbrev FitsBranch : ℕ × Parts → Type 0
  FitsBranch l = IsCode l.0 × FitsBody l.1

  each-item : (ps : Parts) → FitsParts ps → parts_depth ps ≤ d → AllByRecursion FitsDeep (items_of ps)
  each-item nothing fit deep = tt
  each-item (part p ps) fit deep = ((fit.0, omega (arith, deep)), each-item ps fit.1 (omega (arith, deep)))

  all-items : (xs : List Part) → AllByRecursion FitsDeep xs → FitsParts (parts xs) × (parts_depth (parts xs) ≤ d)
  all-items [] fit = (tt, omega arith)
  all-items (x ∷ xs) fit = let others = all-items xs fit.1 in ((fit.0.0, others.0), omega (arith, fit.0.1, others.1))

  each-branch : (ls : Lanes) → FitsLanes ls → lanes_depth ls ≤ d → AllByRecursion FitsBranch (branches_of ls)
  each-branch no_lane fit deep = tt
  each-branch (lane code ps ls) fit deep = ((fit.0, (fit.1, fit.2, omega (arith, deep))), each-branch ls fit.3 (omega (arith, deep)))

  all-branches : (xs : List (ℕ × Parts)) → AllByRecursion FitsBranch xs → FitsLanes (lanes xs) × (lanes_depth (lanes xs) ≤ d)
  all-branches [] fit = (tt, omega arith)
  all-branches (x ∷ xs) fit =
      let others = all-branches xs fit.1 in
      ((fit.0.0, fit.0.1.0, fit.0.1.1, others.0), omega (arith, fit.0.1.2, others.1))

  module _ {item : Reader Part} (form : IsForm FitsDeep part_bytes item) where
    body_form : IsForm FitsBody (λ ps. u32 (part_count ps) ++ parts_bytes ps) (body_at item)
    body_form = made_form (list_form form) parts items_of FitsBody (λ ps. u32 (part_count ps) ++ parts_bytes ps)
        (λ ps fit. ((subst IsNumber (count-items ps) fit.0, each-item ps fit.1 fit.2), parts-items ps, spelled ps))
        (λ xs fit.
        let all = all-items xs fit.1 in
        ((subst IsNumber (sym (count-of xs)) fit.0, all.0, all.1), spelled (parts xs) ∙ ap (λ l. u32 (length l) ++ flat_map part_bytes l) (items-parts xs)))
      where
        spelled : (ps : Parts) → u32 (part_count ps) ++ parts_bytes ps ≡ u32 (length (items_of ps)) ++ flat_map part_bytes (items_of ps)
        spelled ps = ap (λ n. u32 n ++ parts_bytes ps) (count-items ps) ∙ ap (λ l. u32 (length (items_of ps)) ++ l) (bytes-items ps)

        count-of : (xs : List Part) → part_count (parts xs) ≡ length xs
        count-of xs = count-items (parts xs) ∙ ap length (items-parts xs)

    lane_form : IsForm FitsBranch lane_bytes (lane_at item)
    lane_form = both_form code_form body_form

    -- branches behind their number
    abbrev FitsBranches : Lanes → Type 0
    FitsBranches ls = (lane_count ls < 2 ^ 32) × FitsLanes ls × (lanes_depth ls ≤ d)

    lanes_form : IsForm FitsBranches (λ ls. u32 (lane_count ls) ++ lanes_bytes ls) (lanes_at item)
    lanes_form = made_form (list_form lane_form) lanes branches_of FitsBranches (λ ls. u32 (lane_count ls) ++ lanes_bytes ls)
        (λ ls fit. ((subst IsNumber (count-branches ls) fit.0, each-branch ls fit.1 fit.2), lanes-branches ls, spelled ls))
        (λ xs fit.
        let all = all-branches xs fit.1 in
        ((subst IsNumber (sym (count-of xs)) fit.0, all.0, all.1), spelled (lanes xs) ∙ ap (λ l. u32 (length l) ++ flat_map lane_bytes l) (branches-lanes xs)))
      where
        spelled : (ls : Lanes) → u32 (lane_count ls) ++ lanes_bytes ls ≡ u32 (length (branches_of ls)) ++ flat_map lane_bytes (branches_of ls)
        spelled ls = ap (λ n. u32 n ++ lanes_bytes ls) (count-branches ls) ∙ ap (λ l. u32 (length (branches_of ls)) ++ l) (bytes-branches ls)

        count-of : (xs : List (ℕ × Parts)) → lane_count (lanes xs) ≡ length xs
        count-of xs = count-branches (lanes xs) ∙ ap length (branches-lanes xs)

-- an activity
act_again : (blocks : ℕ → Reader Part) (node : ℕ) (rest : Bytes) → IsNumber node → part_behind blocks 0 (u32 node ++ rest) ≡ Some (act node, rest)
act_again blocks node rest fit = as_again u32_form act node rest fit

act_takes : (d t : ℕ) (bytes : Bytes) (x : Part) (rest : Bytes) → IsBytes bytes → t ≡ 0 → as_at act u32_at bytes ≡ Some (x, rest) → Takes (t ∷ bytes) (part_bytes x) rest × FitsDeep d x
act_takes d t bytes x rest are is e = arm_at u32_form act (FitsDeep d) part_bytes 0 (λ n fit. refl) (λ n fit. (fit, omega arith)) t bytes x rest are is e

flat_again : (x : Part) (rest : Bytes) → FitsDeep 0 x → part_at 0 (part_bytes x ++ rest) ≡ Some (x, rest)
flat_again (act node) rest fit = act_again (λ _ _. None) node rest fit.0
flat_again (gate kind split join ls) rest fit = absurd (omega (arith, fit.1))
flat_again (loop start end body) rest fit = absurd (omega (arith, fit.1))

flat_takes : (bytes : Bytes) (x : Part) (rest : Bytes) → IsBytes bytes → part_at 0 bytes ≡ Some (x, rest) → Takes bytes (part_bytes x) rest × FitsDeep 0 x
flat_takes [] x rest are e = absurd cc
flat_takes (t ∷ bytes) x rest are e =
    or_else t 0 _ _ bytes (x, rest) (act_takes 0 t bytes x rest (IsBytes-rest t bytes are)) (λ none. absurd cc) e

module _ (d : ℕ) (deeper : IsForm (FitsDeep d) part_bytes (part_at d)) where
  deep_again : (x : Part) (rest : Bytes) → FitsDeep (suc d) x → part_at (suc d) (part_bytes x ++ rest) ≡ Some (x, rest)
  deep_again (act node) rest fit = act_again (block_behind (part_at d)) node rest fit.0
  deep_again (gate and_gate split join ls) rest fit = as_again (both_form u32_form (both_form u32_form (lanes_form d deeper))) (λ x. gate and_gate x.0 x.1.0 x.1.1) (split, (join, ls)) rest (fit.0.0, (fit.0.1, (fit.0.2, fit.0.3, omega (arith, fit.1))))
  deep_again (gate xor_gate split join ls) rest fit = as_again (both_form u32_form (both_form u32_form (lanes_form d deeper))) (λ x. gate xor_gate x.0 x.1.0 x.1.1) (split, (join, ls)) rest (fit.0.0, (fit.0.1, (fit.0.2, fit.0.3, omega (arith, fit.1))))
  deep_again (loop start end body) rest fit = as_again (both_form u32_form (both_form u32_form (body_form d deeper))) (λ x. loop x.0 x.1.0 x.1.1) (start, (end, body)) rest (fit.0.0, (fit.0.1, (fit.0.2, fit.0.3, omega (arith, fit.1))))

  deep_takes : (bytes : Bytes) (x : Part) (rest : Bytes) → IsBytes bytes → part_at (suc d) bytes ≡ Some (x, rest) → Takes bytes (part_bytes x) rest × FitsDeep (suc d) x
  deep_takes [] x rest are e = absurd cc
  deep_takes (t ∷ bytes) x rest are e =
      let within = IsBytes-rest t bytes are in
      or_else t 0 _ _ bytes (x, rest) (act_takes (suc d) t bytes x rest within) (
      or_else t 1 _ _ bytes (x, rest) (arm_at (both_form u32_form (both_form u32_form (lanes_form d deeper))) (λ x. gate and_gate x.0 x.1.0 x.1.1) (FitsDeep (suc d)) part_bytes 1 (λ x fit. refl) (λ x fit. ((fit.0, fit.1.0, fit.1.1.0, fit.1.1.1), omega (arith, fit.1.1.2))) t bytes x rest within) (
      or_else t 2 _ _ bytes (x, rest) (arm_at (both_form u32_form (both_form u32_form (lanes_form d deeper))) (λ x. gate xor_gate x.0 x.1.0 x.1.1) (FitsDeep (suc d)) part_bytes 2 (λ x fit. refl) (λ x fit. ((fit.0, fit.1.0, fit.1.1.0, fit.1.1.1), omega (arith, fit.1.1.2))) t bytes x rest within) (
      or_else t 3 _ _ bytes (x, rest) (arm_at (both_form u32_form (both_form u32_form (body_form d deeper))) (λ x. loop x.0 x.1.0 x.1.1) (FitsDeep (suc d)) part_bytes 3 (λ x fit. refl) (λ x fit. ((fit.0, fit.1.0, fit.1.1.0, fit.1.1.1), omega (arith, fit.1.1.2))) t bytes x rest within) (
      λ none. absurd cc)))) e

pub part_form : (d : ℕ) → IsForm (FitsDeep d) part_bytes (part_at d)
part_form zero = record { again = flat_again; takes = flat_takes }
part_form (suc d) = record { again = deep_again d (part_form d); takes = deep_takes d (part_form d) }

-- the tree of a schema
pub tree_form : IsForm (FitsBody 64) (λ ps. u32 (part_count ps) ++ parts_bytes ps) (body_at (part_at 64))
tree_form = body_form 64 (part_form 64)
