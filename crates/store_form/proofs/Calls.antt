-- Calls are read as what was written: reading payloads is exact.
use Rattle.store_form.proofs.Common.{[], ℕ, ◌++◌, ◌<◌, ◌>>=◌, ◌∙◌, ◌∷◌, ◌≡◌, ◌≤◌, ap, append-nil, append_assoc, arith, as_at, Bytes, case_of, Fails, Fits, FitsId, FitsValue, id_at, id_bytes, IsNumber, length, None, Option, payload, Reader}
use Rattle.store_form.proofs.{Common.{ReadFault, Reads, recorded_of, refl, Some, subst, sym, u32, u32_at, value_bytes, whole_of, write_at}, Forms.{IsBytes, IsBytes-rest, Takes, IsForm, takes-then, bind_some, some_is, both_form, as_again}}
use Rattle.store_form.proofs.{Forms.{as_takes, or_else, made_form, list_form, option_form, code_form, u32_form}, OperationForms.op_form, SchemaForms.schema_form, ValueForms.value_form}
use Rattle.case_core.specs.declared.events.Event.TheVariants as event
use Rattle.store_form.specs.{Reading.{stored_behind, recorded_at}, declared.stored.Recorded.Recorded, declared.stored.Stored.Stored}
use Rattle.store_form.specs.declared.fields.ReadFault.TheVariants as fault
use Rattle.store_form.specs.declared.stored.Stored.TheVariants as stored

id_form : IsForm FitsId id_bytes id_at
id_form = made_form (both_form u32_form u32_form) (λ x. case_of x.0 x.1) (λ c. (c.type_no, c.place)) FitsId id_bytes (λ c fit. ((fit.0, fit.1), refl, refl)) (λ x fit. ((fit.0, fit.1), refl))

write_form : IsForm (λ w. IsNumber w.0 × FitsValue w.1) (λ w. u32 w.0 ++ value_bytes w.1) write_at
write_form = both_form u32_form value_form

abbrev pub told : ℕ → Stored → Recorded
told caller e = record { caller = caller; event = e }

-- a call is read again
behind_caller : (tag caller : ℕ) (body rest : Bytes) (e : Stored) → IsNumber caller → stored_behind tag (body ++ rest) ≡ Some (e, rest)
    → recorded_at ((tag ∷ (u32 caller ++ body)) ++ rest) ≡ Some (told caller e, rest)
unfolding recorded_at
behind_caller tag caller body rest e number got =
    ap (λ b. recorded_at (tag ∷ b)) (append_assoc (u32 caller) body rest)
    ∙ ap (λ a. a >>= λ c. stored_behind tag c.1 >>= λ x. Some (told c.0 x.0, x.1)) (u32_form.again caller (body ++ rest) number)
    ∙ ap (λ a. a >>= λ x. Some (told caller x.0, x.1)) got

-- one arm of the choice by a tag
again_arm : {A : Type 0} {fits : A → Type 0} {write : A → Bytes} {read : Reader A} → IsForm fits write read → (make : A → Stored) (tag : ℕ) → ((b : Bytes) → stored_behind tag b ≡ as_at make read b)
    → (caller : ℕ) (a : A) (rest : Bytes) → IsNumber caller → fits a → recorded_at ((tag ∷ (u32 caller ++ write a)) ++ rest) ≡ Some (told caller (make a), rest)
again_arm {write = write} form make tag same caller a rest number fit =
    behind_caller tag caller (write a) rest (make a) number (same (write a ++ rest) ∙ as_again form make a rest fit)

pub call_again : (caller : ℕ) (e : Stored) (rest : Bytes) → IsNumber caller → Fits e → recorded_at (payload caller e ++ rest) ≡ Some (told caller e, rest)
unfolding stored_behind
call_again caller (stored.Define t s) rest number fit = again_arm (both_form u32_form schema_form) (λ x. stored.Define x.0 x.1) 1 (λ b. refl) caller (t, s) rest number (fit.0, fit.1)
call_again caller (stored.Install t ops) rest number fit = again_arm (both_form u32_form (list_form op_form)) (λ x. stored.Install x.0 x.1) 2 (λ b. refl) caller (t, ops) rest number (fit.0, fit.1)
call_again caller (stored.Newest t) rest number fit = again_arm u32_form stored.Newest 3 (λ b. refl) caller t rest number fit
call_again caller (stored.Create c n) rest number fit = again_arm (both_form id_form u32_form) (λ x. stored.Create x.0 x.1) 4 (λ b. refl) caller (c, n) rest number (fit.0, fit.1)
call_again caller (stored.Migrate c n) rest number fit = again_arm (both_form id_form u32_form) (λ x. stored.Migrate x.0 x.1) 8 (λ b. refl) caller (c, n) rest number (fit.0, fit.1)
call_again caller (stored.Case c (event.Create version)) rest number fit = absurd fit.1
call_again caller (stored.Case c (event.Migrate version)) rest number fit = absurd fit.1
call_again caller (stored.Case c (event.Start node user roles)) rest number fit =
    again_arm (both_form id_form (both_form u32_form (both_form u32_form (list_form u32_form)))) (λ x. stored.Case x.0 (event.Start x.1.0 x.1.1.0 x.1.1.1)) 5 (λ b. refl)
    caller (c, (node, (user, roles))) rest number (fit.0, (fit.1.0, (fit.1.1, fit.1.2)))
call_again caller (stored.Case c (event.End node user choice writes)) rest number fit =
    again_arm (both_form id_form (both_form u32_form (both_form u32_form (both_form (list_form write_form) (option_form code_form))))) (λ x. stored.Case x.0 (event.End x.1.0 x.1.1.0 x.1.1.1.1 x.1.1.1.0)) 6 (λ b. refl)
    caller (c, (node, (user, (writes, choice)))) rest number (fit.0, (fit.1.0, (fit.1.1, (fit.1.2, fit.1.3))))
call_again caller (stored.Case c (event.Withdraw node user)) rest number fit =
    again_arm (both_form id_form (both_form u32_form u32_form)) (λ x. stored.Case x.0 (event.Withdraw x.1.0 x.1.1)) 9 (λ b. refl) caller (c, (node, user)) rest number (fit.0, (fit.1.0, fit.1.1))
call_again caller (stored.Case c (event.Change ops)) rest number fit =
    again_arm (both_form id_form (list_form op_form)) (λ x. stored.Case x.0 (event.Change x.1)) 7 (λ b. refl) caller (c, ops) rest number (fit.0, fit.1)

-- what was read of a call
pub record IsCall (bytes : Bytes) (r : Recorded) (rest : Bytes) : Type 0 where
  pub taken : Takes bytes (payload r.caller r.event) rest
  pub number : IsNumber r.caller
  pub fits : Fits r.event

-- the arm of a tag
arm : {A : Type 0} {fits : A → Type 0} {write : A → Bytes} {read : Reader A} → IsForm fits write read → (make : A → Stored) (tag : ℕ)
    → ((caller : ℕ) (a : A) → fits a → payload caller (make a) ≡ tag ∷ (u32 caller ++ write a)) → ((a : A) → fits a → Fits (make a))
    → (t caller : ℕ) (bytes behind : Bytes) (e : Stored) (rest : Bytes) → Takes bytes (u32 caller) behind → IsNumber caller → t ≡ tag → as_at make read behind ≡ Some (e, rest)
    → IsCall (t ∷ bytes) (told caller e) rest
arm {write = write} form make tag spells fit_of t caller bytes behind e rest front number is got =
    let a = as_takes form make behind e rest front.are_bytes got in
    let all = takes-then bytes (u32 caller) behind (write a.0) rest front a.2 in
    subst (λ x. IsCall (t ∷ bytes) (told caller x) rest) a.1 (record {
      taken = record { parts = ap (λ l. t ∷ l) all.parts ∙ ap (λ n. n ∷ ((u32 caller ++ write a.0) ++ rest)) is ∙ ap (λ l. l ++ rest) (sym (spells caller a.0 a.3)); are_bytes = all.are_bytes };
      number = number;
      fits = fit_of a.0 a.3;
    })

behind_takes : (t caller : ℕ) (bytes behind : Bytes) (e : Stored) (rest : Bytes) → Takes bytes (u32 caller) behind → IsNumber caller → stored_behind t behind ≡ Some (e, rest) → IsCall (t ∷ bytes) (told caller e) rest
unfolding stored_behind
behind_takes t caller bytes behind e rest front number got =
    or_else t 1 _ _ behind (e, rest) (arm (both_form u32_form schema_form) (λ x. stored.Define x.0 x.1) 1 (λ c x fit. refl) (λ x fit. (fit.0, fit.1)) t caller bytes behind e rest front number) (
    or_else t 2 _ _ behind (e, rest) (arm (both_form u32_form (list_form op_form)) (λ x. stored.Install x.0 x.1) 2 (λ c x fit. refl) (λ x fit. (fit.0, fit.1)) t caller bytes behind e rest front number) (
    or_else t 3 _ _ behind (e, rest) (arm u32_form stored.Newest 3 (λ c x fit. refl) (λ x fit. fit) t caller bytes behind e rest front number) (
    or_else t 4 _ _ behind (e, rest) (arm (both_form id_form u32_form) (λ x. stored.Create x.0 x.1) 4 (λ c x fit. refl) (λ x fit. (fit.0, fit.1)) t caller bytes behind e rest front number) (
    or_else t 5 _ _ behind (e, rest) (arm (both_form id_form (both_form u32_form (both_form u32_form (list_form u32_form)))) (λ x. stored.Case x.0 (event.Start x.1.0 x.1.1.0 x.1.1.1)) 5 (λ c x fit. refl) (λ x fit. (fit.0, (fit.1.0, fit.1.1.0, fit.1.1.1))) t caller bytes behind e rest front number) (
    or_else t 6 _ _ behind (e, rest) (arm (both_form id_form (both_form u32_form (both_form u32_form (both_form (list_form write_form) (option_form code_form))))) (λ x. stored.Case x.0 (event.End x.1.0 x.1.1.0 x.1.1.1.1 x.1.1.1.0)) 6 (λ c x fit. refl) (λ x fit. (fit.0, (fit.1.0, fit.1.1.0, fit.1.1.1.0, fit.1.1.1.1))) t caller bytes behind e rest front number) (
    or_else t 7 _ _ behind (e, rest) (arm (both_form id_form (list_form op_form)) (λ x. stored.Case x.0 (event.Change x.1)) 7 (λ c x fit. refl) (λ x fit. (fit.0, fit.1)) t caller bytes behind e rest front number) (
    or_else t 8 _ _ behind (e, rest) (arm (both_form id_form u32_form) (λ x. stored.Migrate x.0 x.1) 8 (λ c x fit. refl) (λ x fit. (fit.0, fit.1)) t caller bytes behind e rest front number) (
    or_else t 9 _ _ behind (e, rest) (arm (both_form id_form (both_form u32_form u32_form)) (λ x. stored.Case x.0 (event.Withdraw x.1.0 x.1.1)) 9 (λ c x fit. refl) (λ x fit. (fit.0, (fit.1.0, fit.1.1))) t caller bytes behind e rest front number) (
    λ none. absurd cc))))))))) got

pub call_takes : (bytes : Bytes) (r : Recorded) (rest : Bytes) → IsBytes bytes → recorded_at bytes ≡ Some (r, rest) → IsCall bytes r rest
unfolding recorded_at
call_takes [] r rest are e = absurd cc
call_takes (t ∷ bytes) r rest are e =
    let c = bind_some (u32_at bytes) (λ c. stored_behind t c.1 >>= λ x. Some (told c.0 x.0, x.1)) (r, rest) e in
    let x = bind_some (stored_behind t c.0.1) (λ x. Some (told c.0.0 x.0, x.1)) (r, rest) c.2 in
    let front = u32_form.takes bytes c.0.0 c.0.1 (IsBytes-rest t bytes are) c.1 in
    subst (λ z. IsCall (t ∷ bytes) z.0 z.1) (some_is (told c.0.0 x.0.0, x.0.1) (r, rest) x.2) (behind_takes t c.0.0 bytes c.0.1 x.0.0 x.0.1 front.0 front.1 x.1)

-- all of the bytes
whole : {A : Type 0} (f : Option (A × Bytes)) (x : A) → whole_of f ≡ Some x → f ≡ Some (x, [])
whole None x e = absurd cc
whole (Some (y, [])) x e = ap (λ z. Some (z, [])) (some_is y x e)
whole (Some (y, b ∷ rest)) x e = absurd cc

none_whole : {A : Type 0} (f : Option (A × Bytes)) (x : A) → whole_of f ≡ None → f ≡ Some (x, []) → ⊥
none_whole None x e is = absurd cc
none_whole (Some (y, [])) x e is = absurd cc
none_whole (Some (y, b ∷ rest)) x e is = absurd cc

-- what is read of bytes is the call whose payload they are, or none where they are the payload of none
pub reads-exactly : (bytes : Bytes) → IsBytes bytes → Reads bytes (recorded_of bytes)
reads-exactly bytes are = cases (recorded_of bytes) refl
  where
    cases : (o : Option Recorded) → recorded_of bytes ≡ o → Reads bytes o
    cases (Some r) e =
        let call = call_takes bytes r [] are (whole (recorded_at bytes) r e) in
        record { number = call.number; fits = call.fits; same = sym (call.taken.parts ∙ append-nil (payload r.caller r.event)) }
    cases None e = λ caller x is.
        none_whole (recorded_at bytes) (told caller x) e
        (ap recorded_at (sym is.same ∙ sym (append-nil (payload caller x))) ∙ call_again caller x [] is.number is.fits)

-- what stands behind a call
pub whole-fails : {A : Type 0} (e : ReadFault) (f : Option (A × Bytes)) → Fails e f → Fails e (whole_of f)
whole-fails fault.NoMemory f failed = tt
whole-fails fault.Malformed f failed = ap whole_of failed

pub whole-left : {A : Type 0} (f : Option (A × Bytes)) (x : A) (rest : Bytes) → f ≡ Some (x, rest) → 0 < length rest → whole_of f ≡ None
whole-left f x [] read more = absurd (omega (arith, more))
whole-left f x (b ∷ rest) read more = ap whole_of read

pub whole-done : {A : Type 0} (f : Option (A × Bytes)) (x : A) (rest : Bytes) → f ≡ Some (x, rest) → length rest ≤ 0 → whole_of f ≡ Some x
whole-done f x [] read none = ap whole_of read
whole-done f x (b ∷ rest) read none = absurd (omega (arith, none))
