-- What is told of a state, where a unit or a move is tried on it, is what its units tell.
use Rattle.talk_state.proofs.Common.{[], ℕ, ◌++◌, ◌+◌, ◌^◌, ◌∙◌, ◌∷◌, ◌≡◌, ◌≤◌, answer_asking, answer_by, answer_moved, answer_read, answer_tried, ap, arith, Bool, Bytes, codes, Contents, Err, false, fits, header, held_by, held_in, Holds}
use Rattle.talk_state.proofs.{Common.{length, line_answer, List, move_answer, nat_lt, no_line, None, Ok, OnOk, Placing, question_answer, refl, Result, Run, Some, State, true, unit_read, what_if, within}, WhatIf.{answer-same, moved-same}}
use Rattle.adept_io.specs.Written.{Gives}
use Rattle.talk_questions.specs.Trials as trials
use Rattle.talk_state.specs.Answering.{Answering}

module _ (units : List Bytes) (s : State) (h : Holds units s) where
  run-is : s.placing.run ≡ (held_by units).run
  run-is = ap (λ (p : Placing). p.run) h.placing

  pub unit-tried : (fit : Bool) (unit : Bytes) → fit ≡ nat_lt (s.long + (5 + length unit)) (2 ^ 30)
      → within (answer_read fit s.count (held_in s.contents s.placing.run) (unit_read s.contents unit)) ≡ what_if units unit
  unit-tried fit unit room =
      let g = held_by units in
      let has : Bool = fits (header ∷ units) unit in
      let is : fit ≡ has = room ∙ ap (λ n. nat_lt (n + (5 + length unit)) (2 ^ 30)) h.long in
      ap (λ b. within (answer_read b s.count (held_in s.contents s.placing.run) (unit_read s.contents unit))) is
      ∙ (ap (λ n. within (answer_read has n (held_in s.contents s.placing.run) (unit_read s.contents unit))) h.count
      ∙ (ap (λ (c : Contents). within (answer_read has (length units) (held_in c s.placing.run) (unit_read c unit))) h.contents
      ∙ (ap (λ (r : Run). within (answer_read has (length units) (held_in g.contents r) (unit_read g.contents unit))) run-is
      ∙ ap within (answer-same has (length units) (held_in g.contents g.run) g (unit_read g.contents unit) refl refl))))

  pub move-tried : (install migrate : Bytes)
      → within (answer_moved s.count (held_in s.contents s.placing.run) migrate (unit_read s.contents install)) ≡ move_answer units install migrate
  move-tried install migrate =
      let g = held_by units in
      ap (λ n. within (answer_moved n (held_in s.contents s.placing.run) migrate (unit_read s.contents install))) h.count
      ∙ (ap (λ (c : Contents). within (answer_moved (length units) (held_in c s.placing.run) migrate (unit_read c install))) h.contents
      ∙ (ap (λ (r : Run). within (answer_moved (length units) (held_in g.contents r) migrate (unit_read g.contents install))) run-is
      ∙ ap within (moved-same (length units) (held_in g.contents g.run) g migrate (unit_read g.contents install) refl refl)))

-- all of it was put
pub all-put : (old new : Answering) (text : Bytes) (well : Bool) → old.put ≡ [] → well ≡ true → Gives (λ (a : Answering). Some a.put) (λ (a : Answering). a.faults) true well old new text → new.put ≡ text
all-put old new text true empty is gives = gives.0 ∙ ap (λ bs. bs ++ text) empty
all-put old new text false empty is gives = absurd cc

-- ---- the answer to a question, by what it tries
pub line-asked : (units : List Bytes) (item : Bytes) (q : trials.Asking) → Some q ≡ trials.asking item → None ≡ trials.trial q → line_answer units q.line ≡ question_answer units item
line-asked units item q is none = ap (answer_by units q) none ∙ ap (answer_asking units) is

pub trial-asked : (units : List Bytes) (item : Bytes) (q : trials.Asking) (t : trials.Trial) → Some q ≡ trials.asking item → Some t ≡ trials.trial q → answer_tried units t ≡ question_answer units item
trial-asked units item q t is some = ap (answer_by units q) some ∙ ap (answer_asking units) is

pub none-asked : (units : List Bytes) (item : Bytes) → None ≡ trials.asking item → no_line 1 (codes "form") ≡ question_answer units item
none-asked units item none = ap (answer_asking units) none

pub put-as : {X E : Type 0} (r : Result X E) (old new text told : Bytes) → text ≡ told → OnOk r (new ≡ old ++ text) → OnOk r (new ≡ old ++ told)
put-as (Ok x) old new text told same put = put ∙ ap (λ bs. old ++ bs) same
put-as (Err e) old new text told same put = tt

pub within-more : (m n : ℕ) (q : trials.Asking) → m ≤ n → trials.IsWithin m q → trials.IsWithin n q
within-more m n q less short = (omega (arith, less, short.0), omega (arith, less, short.1), omega (arith, less, short.2))
