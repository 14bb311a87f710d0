-- Operations are read as what was written.
use Rattle.store_form.proofs.{Common.{[], ◌++◌, ◌∷◌, ◌≡◌, Bytes, FitsOp, Op, op_bytes, refl, Some}, Forms.{IsBytes, IsBytes-rest, Takes, IsForm, both_form, as_again, arm_at, or_else, flag_form, u32_form}, ValueForms.{kind_form, gap_form}}
use Rattle.wsm_ops.specs.declared.operations.Op.TheVariants as op
use Rattle.store_form.specs.Reading.{op_at}

op_again : (x : Op) (rest : Bytes) → FitsOp x → op_at (op_bytes x ++ rest) ≡ Some (x, rest)
unfolding op_at
op_again (op.InsertSerial node role g) rest fit = as_again (both_form u32_form (both_form u32_form gap_form)) (λ x. op.InsertSerial x.0 x.1.0 x.1.1) (node, (role, g)) rest (fit.0, (fit.1, fit.2))
op_again (op.InsertParallel node role split join first last) rest fit = as_again (both_form u32_form (both_form u32_form (both_form u32_form (both_form u32_form (both_form u32_form u32_form))))) (λ x. op.InsertParallel x.0 x.1.0 x.1.1.0 x.1.1.1.0 x.1.1.1.1.0 x.1.1.1.1.1) (node, (role, (split, (join, (first, last))))) rest (fit.0, (fit.1, (fit.2, (fit.3, (fit.4, fit.5)))))
op_again (op.InsertConditional node role split join g) rest fit = as_again (both_form u32_form (both_form u32_form (both_form u32_form (both_form u32_form gap_form)))) (λ x. op.InsertConditional x.0 x.1.0 x.1.1.0 x.1.1.1.0 x.1.1.1.1) (node, (role, (split, (join, g)))) rest (fit.0, (fit.1, (fit.2, (fit.3, fit.4))))
op_again (op.DeleteActivity node) rest fit = as_again u32_form op.DeleteActivity node rest fit
op_again (op.MoveActivity node g) rest fit = as_again (both_form u32_form gap_form) (λ x. op.MoveActivity x.0 x.1) (node, g) rest (fit.0, fit.1)
op_again (op.InsertSync source target) rest fit = as_again (both_form u32_form u32_form) (λ x. op.InsertSync x.0 x.1) (source, target) rest (fit.0, fit.1)
op_again (op.DeleteSync source target) rest fit = as_again (both_form u32_form u32_form) (λ x. op.DeleteSync x.0 x.1) (source, target) rest (fit.0, fit.1)
op_again (op.AddElement element k) rest fit = as_again (both_form u32_form kind_form) (λ x. op.AddElement x.0 x.1) (element, k) rest (fit, tt)
op_again (op.AddRead node element mandatory) rest fit = as_again (both_form u32_form (both_form u32_form flag_form)) (λ x. op.AddRead x.0 x.1.0 x.1.1) (node, (element, mandatory)) rest (fit.0, (fit.1, tt))
op_again (op.RemoveRead node element) rest fit = as_again (both_form u32_form u32_form) (λ x. op.RemoveRead x.0 x.1) (node, element) rest (fit.0, fit.1)
op_again (op.AddWrite node element) rest fit = as_again (both_form u32_form u32_form) (λ x. op.AddWrite x.0 x.1) (node, element) rest (fit.0, fit.1)
op_again (op.RemoveWrite node element) rest fit = as_again (both_form u32_form u32_form) (λ x. op.RemoveWrite x.0 x.1) (node, element) rest (fit.0, fit.1)
op_again (op.SetRole node role) rest fit = as_again (both_form u32_form u32_form) (λ x. op.SetRole x.0 x.1) (node, role) rest (fit.0, fit.1)

op_takes : (bytes : Bytes) (x : Op) (rest : Bytes) → IsBytes bytes → op_at bytes ≡ Some (x, rest) → Takes bytes (op_bytes x) rest × FitsOp x
unfolding op_at
op_takes [] x rest are e = absurd cc
op_takes (t ∷ bytes) x rest are e =
    let within = IsBytes-rest t bytes are in
    or_else t 0 _ _ bytes (x, rest) (arm_at (both_form u32_form (both_form u32_form gap_form)) (λ x. op.InsertSerial x.0 x.1.0 x.1.1) FitsOp op_bytes 0 (λ x fit. refl) (λ x fit. (fit.0, fit.1.0, fit.1.1)) t bytes x rest within) (
    or_else t 1 _ _ bytes (x, rest) (arm_at (both_form u32_form (both_form u32_form (both_form u32_form (both_form u32_form (both_form u32_form u32_form))))) (λ x. op.InsertParallel x.0 x.1.0 x.1.1.0 x.1.1.1.0 x.1.1.1.1.0 x.1.1.1.1.1) FitsOp op_bytes 1 (λ x fit. refl) (λ x fit. (fit.0, fit.1.0, fit.1.1.0, fit.1.1.1.0, fit.1.1.1.1.0, fit.1.1.1.1.1)) t bytes x rest within) (
    or_else t 2 _ _ bytes (x, rest) (arm_at (both_form u32_form (both_form u32_form (both_form u32_form (both_form u32_form gap_form)))) (λ x. op.InsertConditional x.0 x.1.0 x.1.1.0 x.1.1.1.0 x.1.1.1.1) FitsOp op_bytes 2 (λ x fit. refl) (λ x fit. (fit.0, fit.1.0, fit.1.1.0, fit.1.1.1.0, fit.1.1.1.1)) t bytes x rest within) (
    or_else t 3 _ _ bytes (x, rest) (arm_at u32_form op.DeleteActivity FitsOp op_bytes 3 (λ x fit. refl) (λ x fit. fit) t bytes x rest within) (
    or_else t 4 _ _ bytes (x, rest) (arm_at (both_form u32_form gap_form) (λ x. op.MoveActivity x.0 x.1) FitsOp op_bytes 4 (λ x fit. refl) (λ x fit. (fit.0, fit.1)) t bytes x rest within) (
    or_else t 5 _ _ bytes (x, rest) (arm_at (both_form u32_form u32_form) (λ x. op.InsertSync x.0 x.1) FitsOp op_bytes 5 (λ x fit. refl) (λ x fit. (fit.0, fit.1)) t bytes x rest within) (
    or_else t 6 _ _ bytes (x, rest) (arm_at (both_form u32_form u32_form) (λ x. op.DeleteSync x.0 x.1) FitsOp op_bytes 6 (λ x fit. refl) (λ x fit. (fit.0, fit.1)) t bytes x rest within) (
    or_else t 7 _ _ bytes (x, rest) (arm_at (both_form u32_form kind_form) (λ x. op.AddElement x.0 x.1) FitsOp op_bytes 7 (λ x fit. refl) (λ x fit. fit.0) t bytes x rest within) (
    or_else t 8 _ _ bytes (x, rest) (arm_at (both_form u32_form (both_form u32_form flag_form)) (λ x. op.AddRead x.0 x.1.0 x.1.1) FitsOp op_bytes 8 (λ x fit. refl) (λ x fit. (fit.0, fit.1.0)) t bytes x rest within) (
    or_else t 9 _ _ bytes (x, rest) (arm_at (both_form u32_form u32_form) (λ x. op.RemoveRead x.0 x.1) FitsOp op_bytes 9 (λ x fit. refl) (λ x fit. (fit.0, fit.1)) t bytes x rest within) (
    or_else t 10 _ _ bytes (x, rest) (arm_at (both_form u32_form u32_form) (λ x. op.AddWrite x.0 x.1) FitsOp op_bytes 10 (λ x fit. refl) (λ x fit. (fit.0, fit.1)) t bytes x rest within) (
    or_else t 11 _ _ bytes (x, rest) (arm_at (both_form u32_form u32_form) (λ x. op.RemoveWrite x.0 x.1) FitsOp op_bytes 11 (λ x fit. refl) (λ x fit. (fit.0, fit.1)) t bytes x rest within) (
    or_else t 12 _ _ bytes (x, rest) (arm_at (both_form u32_form u32_form) (λ x. op.SetRole x.0 x.1) FitsOp op_bytes 12 (λ x fit. refl) (λ x fit. (fit.0, fit.1)) t bytes x rest within) (
    (λ none. absurd cc)))))))))))))) e

pub op_form : IsForm FitsOp op_bytes op_at
op_form = record { again = op_again; takes = op_takes }
