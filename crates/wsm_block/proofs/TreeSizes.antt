-- The nodes of a tree, counted without making their cards.
use Rattle.wsm_block.proofs.Common.{ℕ, ◌+◌, ◌<◌, ◌∙◌, ◌≡◌, ◌≤◌, act, ap, arith, Bool, both_ways, cards_of, cases_Bool, false, gate, inl, inr, is_none, is_some, lane, Lanes, lanes_size, le-ltb, length, length-map, loop, lt-ltb, ltb}
use Rattle.wsm_block.proofs.Common.{ltb-false, ltb-true, nat_lt, no_lane, None, nothing, Option, Part, part, part_size, Parts, parts_size, refl, room_behind, SchemaModel, Some, suc, sym, true}
use Rattle.std.specs.Prelude.{not}
use Rattle.std.proofs.lemmas.List.{length-append}
use Rattle.wsm_schema.proofs.TreeNodes.{part_nodes, parts_nodes, lanes_nodes, nodes-of_tree}

mutual
  part-size : (p : Part) → length (part_nodes p) ≡ part_size p
  part-size (act node) = refl
  part-size (gate kind split join ls) = ap suc (length-append (lanes_nodes ls) _) ∙ (let h : length (lanes_nodes ls) ≡ lanes_size ls = lanes-size ls in omega (arith, h))
  part-size (loop start end body) = ap suc (length-append (parts_nodes body) _) ∙ (let h : length (parts_nodes body) ≡ parts_size body = parts-size body in omega (arith, h))

  parts-size : (ps : Parts) → length (parts_nodes ps) ≡ parts_size ps
  parts-size nothing = refl
  parts-size (part p ps) = length-append (part_nodes p) _ ∙ ap (λ n. n + length (parts_nodes ps)) (part-size p) ∙ ap (λ n. part_size p + n) (parts-size ps)

  lanes-size : (ls : Lanes) → length (lanes_nodes ls) ≡ lanes_size ls
  lanes-size no_lane = refl
  lanes-size (lane code ps ls) = length-append (parts_nodes ps) _ ∙ ap (λ n. n + length (lanes_nodes ls)) (parts-size ps) ∙ ap (λ n. parts_size ps + n) (lanes-size ls)

node-count : (s : SchemaModel) → length (cards_of s) ≡ parts_size s.body + 2
node-count s =
    sym (length-map (cards_of s) (λ c. c.node)) ∙ ap length (nodes-of_tree s) ∙ ap suc (length-append (parts_nodes s.body) _)
    ∙ (let h : length (parts_nodes s.body) ≡ parts_size s.body = parts-size s.body in omega (arith, h))

pub none-tested : {X : Type 0} (o : Option X) (answer : Bool) → is_some o ≡ not answer → answer ≡ is_none o
none-tested None true h = refl
none-tested (Some x) false h = refl
none-tested None false h = absurd (both_ways _ refl h)
none-tested (Some x) true h = absurd (both_ways _ h refl)

pub too-many : (s : SchemaModel) → is_none (room_behind (parts_size s.body) 1022) ≡ nat_lt 1024 (length (cards_of s))
too-many s =
    let size : ℕ = parts_size s.body in
    elim (cases_Bool (ltb 1022 size)) [
      | inl more ↦ (let h : 1022 < size = ltb-true 1022 size more in rw more (sym (ap (nat_lt 1024) (node-count s) ∙ lt-ltb 1024 (size + 2) (omega (arith, h)))))
      | inr fits ↦ (let h : size ≤ 1022 = ltb-false 1022 size fits in rw fits (sym (ap (nat_lt 1024) (node-count s) ∙ le-ltb 1024 (size + 2) (omega (arith, h)))))
    ]
