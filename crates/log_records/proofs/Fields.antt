-- Records of six fields.
use Rattle.std.proofs.Common.{◌≡◌, ℕ, zero, suc, ◌<◌, List, [], ◌∷◌, length, Some, None, refl, arith}
use Rattle.csv.specs.Records.{field_at}
use Rattle.log_records.specs.{Forms.cells_of, Records.Fields}

-- a record has a field at each place below its length
pub present : (fs : Fields) (i : ℕ) → i < length fs → field_at fs i ≡ None → ⊥
unfolding field_at
present [] i within none = absurd (omega arith)
present (f ∷ fs) zero within none = cc
present (f ∷ fs) (suc i) within none = present fs i (omega arith) none

-- the fields of a record of six
pub six : (fs : Fields) (c k n u x w : List ℕ) → length fs ≡ 6 → field_at fs 0 ≡ Some c → field_at fs 1 ≡ Some k → field_at fs 2 ≡ Some n → field_at fs 3 ≡ Some u → field_at fs 4 ≡ Some x → field_at fs 5 ≡ Some w
    → cells_of fs ≡ Some (record { case = c; kind = k; node = n; user = u; choice = x; writes = w })
unfolding field_at
six [] c k n u x w len e0 e1 e2 e3 e4 e5 = absurd (omega arith)
six (f0 ∷ []) c k n u x w len e0 e1 e2 e3 e4 e5 = absurd (omega arith)
six (f0 ∷ f1 ∷ []) c k n u x w len e0 e1 e2 e3 e4 e5 = absurd (omega arith)
six (f0 ∷ f1 ∷ f2 ∷ []) c k n u x w len e0 e1 e2 e3 e4 e5 = absurd (omega arith)
six (f0 ∷ f1 ∷ f2 ∷ f3 ∷ []) c k n u x w len e0 e1 e2 e3 e4 e5 = absurd (omega arith)
six (f0 ∷ f1 ∷ f2 ∷ f3 ∷ f4 ∷ []) c k n u x w len e0 e1 e2 e3 e4 e5 = absurd (omega arith)
six (f0 ∷ f1 ∷ f2 ∷ f3 ∷ f4 ∷ f5 ∷ []) c k n u x w len e0 e1 e2 e3 e4 e5 = cc
six (f0 ∷ f1 ∷ f2 ∷ f3 ∷ f4 ∷ f5 ∷ f6 ∷ fs) c k n u x w len e0 e1 e2 e3 e4 e5 = absurd (omega arith)

pub not_six : (fs : Fields) → (length fs ≡ 6 → ⊥) → cells_of fs ≡ None
not_six (f0 ∷ f1 ∷ f2 ∷ f3 ∷ f4 ∷ f5 ∷ []) other = absurd (other refl)
not_six _ other = refl
