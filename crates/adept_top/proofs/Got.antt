-- What is got of an input: its file, or how a command ends without one.
use Rattle.std.proofs.{Common.{◌≡◌, ◌≢◌, ℕ, ◌<◌, ◌≤◌, ◌⊎◌, inl, inr, List, [], ◌++◌, length, Option, Some, None, Result, Ok, Err, IfOk, IfErr, IfSome, IsErrAnd, refl, sym, ap, ◌∙◌, subst, arith}, lemmas.List.append-nil}
use Rattle.std.specs.Io.KnownBytes.{Consumes, IsAtEnd}
use Rattle.adept_load.specs.Load.{load_text}
use Rattle.adept_top.specs.{Endings.{IsInputOf, IsRefused, EndsUnworked}, Statuses.status_of, declared.outcomes.Outcome.Outcome}
use Rattle.file_limits.specs.declared.TheConstants.{MAX_FILE_BYTES}
use Rattle.file_model.specs.{Reading.file, declared.files.File.File}

-- nothing is taken of what stays as it is
same-left : (bytes : Option (List ℕ)) → Consumes bytes bytes []
same-left None = tt
same-left (Some b) = refl

fits : (n : ℕ) → n < 4194304 → n ≤ MAX_FILE_BYTES
fits n few = grind arith

none-few : length {A = ℕ} [] ≤ MAX_FILE_BYTES
none-few = grind arith

-- a file that is made has fewer bytes than one may have
pub few_made : (bytes made : List ℕ) → bytes ≡ made → length made < 4194304 → length bytes ≤ MAX_FILE_BYTES
few_made bytes made same few = subst (λ b. length b ≤ MAX_FILE_BYTES) (sym same) (fits (length made) few)

-- a file that is made leaves its source as it was
pub made-input : {S : Type 0} (left : S → Option (List ℕ)) (faults : S → ℕ) (cases : ℕ) (s : S) (bytes : List ℕ) (answer : Result File Outcome)
    → bytes ≡ load_text cases → length bytes ≤ MAX_FILE_BYTES → IfOk answer (λ f. file bytes ≡ Ok f) → IfOk answer (λ f. IsInputOf left faults (Some cases) s s f)
made-input left faults cases s bytes (Ok f) text few read = record {
  file = subst (λ b. (length b ≤ MAX_FILE_BYTES) × (file b ≡ Ok f)) text (few, read);
  whole = tt;
  within = ([], same-left (left s), none-few);
  steady = refl;
  made = refl;
}
made-input left faults cases s bytes (Err o) text few read = tt

-- what was read to its end was all that was left
all-read : (from to : Option (List ℕ)) (bytes : List ℕ) (P : List ℕ → Type 0) → Consumes from to bytes → IsAtEnd to → P bytes → IfSome from P
all-read None to bytes P taken end p = tt
all-read (Some b) None bytes P taken end p = absurd taken
all-read (Some b) (Some rest) bytes P taken end p = subst P (sym (taken ∙ ap (λ r. bytes ++ r) end ∙ append-nil bytes)) p

not_read : (n k : ℕ) → (n ≡ 1) ⊎ (n ≡ 5) → (k ≡ 3) ⊎ (k ≡ 6) → n ≡ k → ⊥
not_read n k s t e = grind arith

-- what was read to its end and is no file to work ends a command
pub unworked-input : {S : Type 0} (left : S → Option (List ℕ)) (faults : S → ℕ) (from to : S) (bytes : List ℕ) (answer : Result File Outcome)
    → Consumes (left from) (left to) bytes → IsAtEnd (left to) → length bytes ≤ MAX_FILE_BYTES → faults to ≡ faults from
    → IfErr answer (λ e. (e.status ≡ 1) ⊎ (e.status ≡ 5)) → IfErr answer (λ e. e.status ≡ 1 → IsRefused (Some bytes) e.place)
    → IfErr answer (λ e. e.run ≡ None) → IfErr answer (λ e. e.status ≢ 1 → e.place ≡ None) → IfErr answer (λ e. (e.status ≡ status_of bytes) ⊎ (e.status ≡ 5))
    → IfErr answer (λ e. EndsUnworked left faults None from to e)
unworked-input left faults from to bytes (Ok f) taken end few steady statuses refused no_run no_place exact = tt
unworked-input left faults from to bytes (Err e) taken end few steady statuses refused no_run no_place exact = record {
  statuses = elim statuses as (λ _. (e.status ≡ 1) ⊎ (e.status ≡ 3) ⊎ (e.status ≡ 5) ⊎ (e.status ≡ 6)) [ inl one ↦ inl one | inr five ↦ inr (inr (inl five)) ];
  refused = λ one. (all-read (left from) (left to) bytes (λ b. (length b ≤ MAX_FILE_BYTES) × IsErrAnd (file b) (λ refusal. e.place ≡ Some refusal)) taken end (refused one), end);
  unread = λ three. absurd (not_read e.status 3 statuses (inl refl) three);
  steady = λ _. steady;
  too_long = λ six. absurd (not_read e.status 6 statuses (inr refl) six);
  within = λ _. (bytes, taken, few);
  made = tt;
  no_run = no_run;
  no_place = no_place;
  exact = λ _. all-read (left from) (left to) bytes (λ b. (e.status ≡ status_of b) ⊎ (e.status ≡ 5)) taken end exact;
}
