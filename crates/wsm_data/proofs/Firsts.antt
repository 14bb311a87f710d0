-- First answers.
use Rattle.wsm_data.proofs.Common.{[], ◌≡◌, ap, block_fault, both_ways, cards_of, false, is_some, nodes_of, None, Option, option_or, refl, SchemaModel, Some, true, twice}
use Rattle.wsm_schema.specs.declared.faults.BlockFault.TheVariants.{Twice}
use Rattle.wsm_marks.proofs.NoFault.{no_either, no_map}

-- the first of two, where it is an answer
pub first-some : {X : Type 0} (a b c : Option X) → a ≡ b → is_some a ≡ true → a ≡ option_or b c
first-some None b c e h = absurd (both_ways _ refl h)
first-some (Some y) b c e h = ap (λ o. option_or o c) e

-- and where it is none
pub first-none : {X : Type 0} (a b c : Option X) → a ≡ b → is_some a ≡ false → c ≡ option_or b c
first-none None b c e h = ap (λ o. option_or o c) e
first-none (Some y) b c e h = absurd (both_ways _ h refl)

-- no number stands twice where the blocks have no fault
pub distinct-nodes : (s : SchemaModel) → block_fault s ≡ None → twice [] (nodes_of (cards_of s)) ≡ None
distinct-nodes s no_fault = no_map Twice _ (no_either _ _ (no_either _ _ no_fault).1).0
