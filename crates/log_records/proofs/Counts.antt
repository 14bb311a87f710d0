-- A log has no more records than bytes, and one.
use Rattle.std.proofs.Common.{ℕ, zero, suc, ◌+◌, ◌≤◌, Bool, true, false, List, [], ◌∷◌, length, Option, Some, None, arith}
use Rattle.std.specs.Prelude.{if◌then◌else◌}
use Rattle.csv.specs.{Machine.{Read, next_record}, Reading.{default_config, is_bom, records_from, records_next, strip_bom}, declared.parser.State.State}
use Rattle.csv.specs.declared.parser.State.TheVariants as st
use Rattle.log_records.specs.Records.{Fields, records_of}

no-longer : {X : Type 0} (xs : List X) → length xs ≤ length xs
no-longer xs = omega arith

few-next : (more : State → List ℕ → List Fields) (n : ℕ) (o : Option Read) → ((s : State) (xs : List ℕ) → length (more s xs) ≤ n) → length (records_next more o) ≤ suc n
few-next more n None few = omega arith
few-next more n (Some p) few = omega (arith, few p.1 p.2)

few-from : (n : ℕ) (s : State) (xs : List ℕ) → length (records_from default_config n s xs) ≤ n
unfolding records_from
few-from zero s xs = no-longer {X = Fields} []
few-from (suc n) s xs = few-next (records_from default_config n) n (next_record default_config s [] [] xs) (few-from n)

without-bom : (log : List ℕ) → length (strip_bom log) ≤ length log
unfolding strip_bom
without-bom [] = no-longer {X = ℕ} []
without-bom (a ∷ []) = no-longer (a ∷ [])
without-bom (a ∷ b ∷ []) = no-longer (a ∷ b ∷ [])
without-bom (a ∷ b ∷ c ∷ rest) = by (is_bom a b c)
  where
    by : (test : Bool) → length (if test then rest else a ∷ b ∷ c ∷ rest) ≤ length (a ∷ b ∷ c ∷ rest)
    by true = omega arith
    by false = omega arith

pub few_records : (log : List ℕ) → length (records_of log) ≤ length log + 1
few_records log =
    let few : length (records_of log) ≤ length (strip_bom log) + 1 = few-from (length (strip_bom log) + 1) st.StartRecord (strip_bom log) in
    omega (arith, few, without-bom log)
