-- How a command ends follows from how its file was got and how that was worked.
use Rattle.std.proofs.{Common.{◌≡◌, ℕ, ◌≤◌, ◌⊎◌, inl, inr, List, length, Option, Some, None, Ok, IsTrue, IfSome, sym, ◌∙◌, refl, arith}, lemmas.Bool.le-ltb}
use Rattle.adept_top.specs.{Commands.{load_size, input}, Endings.{OfFile, IsInputOf, EndsUnworked, Ends}, Statuses.{is_end_status, status_of}, Works.Works, declared.outcomes.Outcome.Outcome, declared.words.Command.Command}
use Rattle.file_limits.specs.declared.TheConstants.{MAX_FILE_BYTES}
use Rattle.file_model.specs.{Reading.file, declared.files.File.File}

-- what holds of the file that was got holds of the file that the bytes stand for
of-input : (bytes : Option (List ℕ)) (f : File) (P : File → Type 0) → IfSome bytes (λ b. (length b ≤ MAX_FILE_BYTES) × (file b ≡ Ok f)) → P f → OfFile bytes P
of-input None f P read h = tt
of-input (Some b) f P read h = (read.0, rw read.1 h)

-- the bytes of a file ask for status 0
status-file : (b : List ℕ) (f : File) → length b ≤ MAX_FILE_BYTES → file b ≡ Ok f → status_of b ≡ 0
status-file b f few read = rw (le-ltb MAX_FILE_BYTES (length b) few, read) refl

-- a worked command ends with 0, 4 or 5
worked-status : (n : ℕ) → (n ≡ 0) ⊎ (n ≡ 4) ⊎ (n ≡ 5) → IsTrue (is_end_status n)
worked-status n s = elim s as (λ _. IsTrue (is_end_status n)) [
  | inl zero ↦ rw zero refl
  | inr r ↦ elim r as (λ _. IsTrue (is_end_status n)) [ inl four ↦ rw four refl | inr five ↦ rw five refl ]
]

not_worked : (n k : ℕ) → (n ≡ 0) ⊎ (n ≡ 4) ⊎ (n ≡ 5) → (k ≡ 1) ⊎ (k ≡ 3) ⊎ (k ≡ 6) → n ≡ k → ⊥
not_worked n k s t e = grind arith

-- the bytes decide how a worked command ends, or memory wants, or a write fails
worked-exact : (bytes : Option (List ℕ)) (f : File) (n : ℕ) → IfSome bytes (λ b. (length b ≤ MAX_FILE_BYTES) × (file b ≡ Ok f)) → (n ≡ 0) ⊎ (n ≡ 4) ⊎ (n ≡ 5)
    → IfSome bytes (λ b. (n ≡ status_of b) ⊎ (n ≡ 5) ⊎ ((status_of b ≡ 0) × (n ≡ 4)))
worked-exact None f n read s = tt
worked-exact (Some b) f n read s =
    let ok : status_of b ≡ 0 = status-file b f read.0 read.1 in
    let Exact : Type 0 = (n ≡ status_of b) ⊎ (n ≡ 5) ⊎ ((status_of b ≡ 0) × (n ≡ 4)) in
    elim s as (λ _. Exact) [
      | inl zero ↦ inl (zero ∙ sym ok)
      | inr r ↦ elim r as (λ _. Exact) [ inl four ↦ inr (inr (ok, four)) | inr five ↦ inr (inl five) ]
    ]

pub worked_ends : {S K : Type 0} (left : S → Option (List ℕ)) (read_faults : S → ℕ) (written : K → Option (List ℕ)) (write_faults : K → ℕ) (c : Command) (from to : S) (f : File) (old new : K) (o : Outcome)
    → IsInputOf left read_faults (load_size c) from to f → Works written write_faults c f old new o → Ends left read_faults written write_faults c from to old new o
worked_ends left read_faults written write_faults c from to f old new o got work = record {
  statuses = worked-status o.status work.statuses;
  done = λ zero. of-input (input (load_size c) (left from)) f _ got.file (work.done zero);
  begun = λ four. of-input (input (load_size c) (left from)) f _ got.file (work.begun four);
  unwritten = work.unwritten;
  refused = λ one. absurd (not_worked o.status 1 work.statuses (inl refl) one);
  whole = λ _. got.whole;
  unread = λ three. absurd (not_worked o.status 3 work.statuses (inr (inl refl)) three);
  steady = λ _. got.steady;
  too_long = λ six. absurd (not_worked o.status 6 work.statuses (inr (inr refl)) six);
  within = λ _. got.within;
  made = got.made;
  untouched = work.untouched;
  no_run = work.no_run;
  no_place = λ _. work.no_place;
  exact = λ _. worked-exact (input (load_size c) (left from)) f o.status got.file work.statuses;
}

-- a command without a file ends with one of its statuses
unworked-status : (n : ℕ) → (n ≡ 1) ⊎ (n ≡ 3) ⊎ (n ≡ 5) ⊎ (n ≡ 6) → IsTrue (is_end_status n)
unworked-status n s = elim s as (λ _. IsTrue (is_end_status n)) [
  | inl one ↦ rw one refl
  | inr r ↦ elim r as (λ _. IsTrue (is_end_status n)) [
    | inl three ↦ rw three refl
    | inr q ↦ elim q as (λ _. IsTrue (is_end_status n)) [ inl five ↦ rw five refl | inr six ↦ rw six refl ]
  ]
]

not_unworked : (n k : ℕ) → (n ≡ 1) ⊎ (n ≡ 3) ⊎ (n ≡ 5) ⊎ (n ≡ 6) → (k ≡ 0) ⊎ (k ≡ 4) → n ≡ k → ⊥
not_unworked n k s t e = grind arith

-- where the source was read to its end
unworked-whole : (n : ℕ) (End : Type 0) → (n ≡ 1) ⊎ (n ≡ 3) ⊎ (n ≡ 5) ⊎ (n ≡ 6) → (n ≡ 1 → End) → (n ≡ 0) ⊎ (n ≡ 1) ⊎ (n ≡ 4) → End
unworked-whole n End s end t = elim t as (λ _. End) [
  | inl zero ↦ absurd (not_unworked n 0 s (inl refl) zero)
  | inr r ↦ elim r as (λ _. End) [ inl one ↦ end one | inr four ↦ absurd (not_unworked n 4 s (inr refl) four) ]
]

unworked-exact : (bytes : Option (List ℕ)) (n : ℕ) → IfSome bytes (λ b. (n ≡ status_of b) ⊎ (n ≡ 5)) → IfSome bytes (λ b. (n ≡ status_of b) ⊎ (n ≡ 5) ⊎ ((status_of b ≡ 0) × (n ≡ 4)))
unworked-exact None n h = tt
unworked-exact (Some b) n h = elim h as (λ _. (n ≡ status_of b) ⊎ (n ≡ 5) ⊎ ((status_of b ≡ 0) × (n ≡ 4))) [ inl same ↦ inl same | inr five ↦ inr (inl five) ]

pub unworked_ends : {S K : Type 0} (left : S → Option (List ℕ)) (read_faults : S → ℕ) (written : K → Option (List ℕ)) (write_faults : K → ℕ) (c : Command) (from to : S) (sink : K) (o : Outcome)
    → EndsUnworked left read_faults (load_size c) from to o → Ends left read_faults written write_faults c from to sink sink o
unworked_ends left read_faults written write_faults c from to sink o end = record {
  statuses = unworked-status o.status end.statuses;
  done = λ zero. absurd (not_unworked o.status 0 end.statuses (inl refl) zero);
  begun = λ four. absurd (not_unworked o.status 4 end.statuses (inr refl) four);
  unwritten = λ four. absurd (not_unworked o.status 4 end.statuses (inr refl) four);
  refused = λ one. (end.refused one).0;
  whole = unworked-whole o.status _ end.statuses (λ one. (end.refused one).1);
  unread = end.unread;
  steady = end.steady;
  too_long = end.too_long;
  within = end.within;
  made = end.made;
  untouched = λ _ _. refl;
  no_run = λ _ _. end.no_run;
  no_place = end.no_place;
  exact = λ sure. unworked-exact (input (load_size c) (left from)) o.status (end.exact sure);
}
