-- Kinds, values, gaps and operations are read as what was written.
use Rattle.store_form.proofs.Common.{[], ℕ, ℤ, ◌++◌, ◌>>=◌, ◌∙◌, ◌∷◌, ◌≡◌, ◌≤◌, ap, append_assoc, arith, as_at, Bool, both_at, Bytes, cast_signed, cast_unsigned, code_at, drop, drop_at, ElementKind, false, FitsGap, FitsSigned, FitsValue}
use Rattle.store_form.proofs.Common.{flag, flag_at, gap_at, gap_bytes, if◌then◌else◌, int_at, kind_at, kind_bytes, kind_of_flag, le-leb, le-ltb, leb-true, length, length-append, length-take, ltb-false, nat_le, nat_lt, None, Option, Reader}
use Rattle.store_form.proofs.{Common.{refl, Some, subst, sym, take, take-append-drop, take_at, text_at, to_be_bytes, true, u32, u32_at, value_at, value_bytes, w64}, Forms.{IsBytes, all_bytes, IsBytes-drop, IsBytes-take, Takes, takes-then}}
use Rattle.store_form.proofs.Forms.{IsForm, bind_some, some_is, both_form, made_form, arm_takes, as_again, flag_form, code_form, u32_form, u64_form}
use Rattle.std.proofs.{lemmas.Int.{of_z-to_z, to_z-of_z}, Math.Facts.{Fits-of_z, sfits_to_z}}
use Rattle.wsm_lists.specs.declared.values.ElementKind.TheVariants as kind
use Rattle.wsm_lists.specs.declared.values.Value.{Value}
use Rattle.wsm_lists.specs.declared.values.Value.TheVariants as value
use Rattle.wsm_ops.specs.declared.operations.Gap.{Gap}
use Rattle.wsm_ops.specs.declared.operations.Gap.TheVariants as gap

abbrev is_text : ElementKind → Bool
is_text kind.Int = false
is_text kind.Text = true

pub kind_form : IsForm (λ _. Unit {0}) kind_bytes kind_at
kind_form = made_form flag_form kind_of_flag is_text (λ _. Unit {0}) kind_bytes there back
  where
    there : (k : ElementKind) → Unit {0} → Unit {0} × (kind_of_flag (is_text k) ≡ k) × (kind_bytes k ≡ flag (is_text k))
    there kind.Int fit = (tt, refl, refl)
    there kind.Text fit = (tt, refl, refl)

    back : (b : Bool) → Unit {0} → Unit {0} × (kind_bytes (kind_of_flag b) ≡ flag b)
    back false fit = (tt, refl)
    back true fit = (tt, refl)

-- a choice by a flag
flagged : {A P : Type 0} (one other : Reader A) (bytes : Bytes) (z : A × Bytes) → IsBytes bytes
    → ((rest : Bytes) → Takes bytes (1 ∷ []) rest → one rest ≡ Some z → P) → ((rest : Bytes) → Takes bytes (0 ∷ []) rest → other rest ≡ Some z → P)
    → (flag_at bytes >>= λ f. if f.0 then one f.1 else other f.1) ≡ Some z → P
flagged {P = P} one other bytes z are here there e =
    let f = bind_some (flag_at bytes) (λ f. if f.0 then one f.1 else other f.1) z e in
    chosen f.0.0 f.0.1 (flag_form.takes bytes f.0.0 f.0.1 are f.1).0 f.2
  where
    chosen : (b : Bool) (rest : Bytes) → Takes bytes (flag b) rest → (if b then one rest else other rest) ≡ Some z → P
    chosen true rest front got = here rest front got
    chosen false rest front got = there rest front got

-- texts
kept_within : {A : Type 0} (t u : Bool) (x y : A) → (if t then None else (if u then Some x else None)) ≡ Some y → (t ≡ false) × (u ≡ true) × (x ≡ y)
kept_within true u x y e = absurd cc
kept_within false true x y e = (refl, refl, some_is x y e)
kept_within false false x y e = absurd cc

text_takes : (bytes : Bytes) (x : Value) (rest : Bytes) → IsBytes bytes → text_at bytes ≡ Some (x, rest) → (all : Bytes) → Takes all (1 ∷ []) bytes → Takes all (value_bytes x) rest × FitsValue x
text_takes bytes x rest are e all front =
    let n = bind_some (u32_at bytes) (λ n. if nat_lt (length n.1) n.0 then None else (if nat_le n.0 256 then Some (value.Text (take n.0 n.1), drop n.0 n.1) else None)) (x, rest) e in
    let count = u32_form.takes bytes n.0.0 n.0.1 are n.1 in
    let text = take n.0.0 n.0.1 in
    let behind = drop n.0.0 n.0.1 in
    let k = kept_within (nat_lt (length n.0.1) n.0.0) (nat_le n.0.0 256) (value.Text text, behind) (x, rest) n.2 in
    let long : n.0.0 ≤ length n.0.1 = ltb-false _ _ k.0 in
    let short : n.0.0 ≤ 256 = leb-true n.0.0 256 k.1 in
    let len : length text ≡ n.0.0 = omega (arith, length-take n.0.0 n.0.1, long) in
    let second : Takes n.0.1 text behind = record { parts = sym (take-append-drop n.0.0 n.0.1); are_bytes = IsBytes-drop n.0.0 n.0.1 count.0.are_bytes } in
    let told : Takes bytes (u32 (length text) ++ text) behind = subst (λ m. Takes bytes (u32 m ++ text) behind) (sym len) (takes-then bytes (u32 n.0.0) n.0.1 text behind count.0 second) in
    subst (λ z. Takes all (value_bytes z.0) z.1 × FitsValue z.0) k.2
    (takes-then all (1 ∷ []) bytes (u32 (length text) ++ text) behind front told, (omega (arith, len, short), all_bytes text (IsBytes-take n.0.0 n.0.1 count.0.are_bytes)))

text_again : (t rest : Bytes) → length t ≤ 256 → text_at ((u32 (length t) ++ t) ++ rest) ≡ Some (value.Text t, rest)
text_again t rest short =
    let long : nat_lt (length (t ++ rest)) (length t) ≡ false = le-ltb _ _ (omega (arith, length-append t rest)) in
    let tested : ℕ × Bytes → Option (Value × Bytes) = λ n. if nat_lt (length n.1) n.0 then None else (if nat_le n.0 256 then Some (value.Text (take n.0 n.1), drop n.0 n.1) else None) in
    ap text_at (append_assoc (u32 (length t)) t rest)
    ∙ ap (λ a. a >>= tested) (u32_form.again (length t) (t ++ rest) (omega (arith, short)))
    ∙ ap (λ b. if b then None else (if nat_le (length t) 256 then Some (value.Text (take (length t) (t ++ rest)), drop (length t) (t ++ rest)) else None)) long
    ∙ ap (λ b. if b then Some (value.Text (take (length t) (t ++ rest)), drop (length t) (t ++ rest)) else None) (le-leb (length t) 256 short)
    ∙ ap (λ u. Some (value.Text u, drop (length t) (t ++ rest))) (take_at t rest (length t) refl)
    ∙ ap (λ r. Some (value.Text t, r)) (drop_at t rest (length t) refl)

-- numbers with a sign
int_takes : (bytes : Bytes) (x : Value) (rest : Bytes) → IsBytes bytes → int_at bytes ≡ Some (x, rest) → Takes (0 ∷ bytes) (value_bytes x) rest × FitsValue x
int_takes bytes x rest are e =
    arm_takes u64_form (λ n. value.Int (cast_signed w64 n)) FitsValue value_bytes 0
    (λ n below. ap (λ m. 0 ∷ to_be_bytes w64 m) (of_z-to_z w64 n below))
    (λ n below. sfits_to_z {w = w64} record { fits = below })
    bytes x rest are e

int_again : (n : ℤ) (rest : Bytes) → FitsSigned w64 n → int_at (to_be_bytes w64 (cast_unsigned w64 n) ++ rest) ≡ Some (value.Int n, rest)
int_again n rest fit =
    as_again u64_form (λ m. value.Int (cast_signed w64 m)) (cast_unsigned w64 n) rest (Fits-of_z {w = w64} {z = n} fit).fits
    ∙ ap (λ m. Some (value.Int m, rest)) (to_z-of_z w64 n fit)

value_again : (x : Value) (rest : Bytes) → FitsValue x → value_at (value_bytes x ++ rest) ≡ Some (x, rest)
value_again (value.Int n) rest fit = int_again n rest fit
value_again (value.Text t) rest fit = text_again t rest fit.0

pub value_form : IsForm FitsValue value_bytes value_at
value_form = record {
  again = λ x rest fit. value_again x rest fit;
  takes = λ bytes x rest are e.
      flagged text_at int_at bytes (x, rest) are
      (λ behind front got. text_takes behind x rest front.are_bytes got bytes front)
      (λ behind front got. subst (λ b. Takes b (value_bytes x) rest × FitsValue x) (sym front.parts) (int_takes behind x rest front.are_bytes got)) e;
}

-- gaps
gap_again : (x : Gap) (rest : Bytes) → FitsGap x → gap_at (gap_bytes x ++ rest) ≡ Some (x, rest)
gap_again (gap.After n) rest fit = as_again u32_form gap.After n rest fit
gap_again (gap.Head split code) rest fit = as_again (both_form u32_form code_form) (λ x. gap.Head x.0 x.1) (split, code) rest fit

pub gap_form : IsForm FitsGap gap_bytes gap_at
gap_form = record {
  again = λ x rest fit. gap_again x rest fit;
  takes = λ bytes x rest are e.
      flagged (as_at (λ x. gap.Head x.0 x.1) (both_at u32_at code_at)) (as_at gap.After u32_at) bytes (x, rest) are
      (λ behind front got. subst (λ b. Takes b (gap_bytes x) rest × FitsGap x) (sym front.parts)
      (arm_takes (both_form u32_form code_form) (λ x. gap.Head x.0 x.1) FitsGap gap_bytes 1 (λ x fit. refl) (λ x fit. fit) behind x rest front.are_bytes got))
      (λ behind front got. subst (λ b. Takes b (gap_bytes x) rest × FitsGap x) (sym front.parts)
      (arm_takes u32_form gap.After FitsGap gap_bytes 0 (λ n fit. refl) (λ n fit. fit) behind x rest front.are_bytes got)) e;
}
