-- What is told of a state is what its units tell.
use Rattle.talk_state.proofs.Common.{[], ◌++◌, ◌+◌, ◌-◌, ◌∙◌, ◌∷◌, ◌≡◌, answer_asked, answer_known, ap, append-nil, arith, asked_text, Bytes, case_part, Contents, drop, drop-append-add, entries_of, Err, file_of, flat_map, held_by, Holds}
use Rattle.talk_state.proofs.Common.{if_there, known_in, length, length-append, line_answer, List, None, Ok, ok_line, OnOk, Option, option_map, Placing, placing_of, quoted, refl, Result, slice_get, Some, State, sym, take, text, told}
use Rattle.talk_state.proofs.Common.{type_part, within}
use Rattle.file_model.specs.Scripting.{actor_in}
use Rattle.file_names.specs.Names.{place_of}
use Rattle.talk_answers.specs.Standings.{actors_text, all_standings, items, standings_of, types_text}
use Rattle.talk_questions.specs.Questions as question
use Rattle.talk_state.specs.declared.questions.Asked.{Asked}
use Rattle.talk_state.specs.declared.questions.Asked.TheVariants as ask

then_map : {A B C : Type 0} (f : B → C) (g : A → B) (o : Option A) → option_map f (option_map g o) ≡ option_map (λ x. f (g x)) o
then_map f g None = refl
then_map f g (Some x) = refl

-- the bytes behind those of all units but the last are the last one's
abbrev joined : List Bytes → Bytes
joined units = flat_map (λ (u : Bytes). u) units

last-joined : (show : Bytes → Bytes) (u : Bytes) (us : List Bytes) → show (drop (length (joined (take (length us) (u ∷ us)))) (joined (u ∷ us))) ≡ if_there show (slice_get (u ∷ us) (length us))
last-joined show u [] = ap show (append-nil u)
last-joined show u (v ∷ vs) =
    let front = joined (take (length vs) (v ∷ vs)) in
    ap (λ n. show (drop n (joined (u ∷ v ∷ vs)))) (length-append u front)
    ∙ (ap show (drop-append-add u (joined (v ∷ vs)) (length front)) ∙ last-joined show v vs)

last-bytes : (units : List Bytes) → quoted (drop (length (joined (take (length units - 1) units))) (joined units)) ≡ if_there quoted (slice_get units (length units - 1))
last-bytes [] = refl
last-bytes (u ∷ us) =
    let many : length (u ∷ us) - 1 ≡ length us = omega arith in
    ap (λ n. quoted (drop (length (joined (take n (u ∷ us)))) (joined (u ∷ us)))) many ∙ (last-joined quoted u us ∙ ap (λ n. if_there quoted (slice_get (u ∷ us) n)) (sym many))

module _ (units : List Bytes) (s : State) (h : Holds units s) where
  same : {X : Type 0} (f : Contents → Placing → X) → f s.contents s.placing ≡ f (held_by units).contents (placing_of (held_by units))
  same f = ap (λ c. f c s.placing) h.contents ∙ ap (f (held_by units).contents) h.placing

  last-told : quoted (drop s.last s.bytes) ≡ if_there quoted (slice_get units (length units - 1))
  last-told =
      ap (λ n. quoted (drop n s.bytes)) h.last
      ∙ (ap (λ bs. quoted (drop (length (joined (take (length units - 1) units))) bs)) h.bytes ∙ last-bytes units)

  told-known : (q : question.Asked) → option_map (told s) (known_in s.contents q) ≡ asked_text units (held_by units) q
  told-known question.report = same (λ c p. Some (text (file_of c) p.run))
  told-known (question.of_type n) =
      then_map (told s) ask.«Type» (place_of s.contents.types.names n) ∙ same (λ c p. option_map (type_part (file_of c) p.run) (place_of c.types.names n))
  told-known (question.of_case n) =
      then_map (told s) ask.Case (place_of s.contents.cases.names n) ∙ same (λ c p. option_map (case_part (file_of c) p.run) (place_of c.cases.names n))
  told-known question.cases = same (λ c p. Some (all_standings (file_of c) p))
  told-known (question.cases_of n) =
      then_map (told s) ask.CasesOf (place_of s.contents.types.names n) ∙ same (λ c p. option_map (standings_of (file_of c) p) (place_of c.types.names n))
  told-known question.items = same (λ c p. Some (items (file_of c) None p))
  told-known (question.items_of n) =
      then_map (told s) ask.ItemsOf (actor_in n s.contents) ∙ same (λ c p. option_map (λ a. items (file_of c) (Some a) p) (actor_in n c))
  told-known question.types = same (λ c p. Some (types_text (file_of c) p))
  told-known question.actors = same (λ c p. Some (actors_text (file_of c)))
  told-known question.count = refl
  told-known question.last =
      let last = if_there quoted (slice_get units (length units - 1)) in
      ap (λ bs. Some (bs ++ entries_of (file_of s.contents) s.placing s.called)) last-told
      ∙ (ap (λ o. Some (last ++ entries_of (file_of s.contents) s.placing o)) h.called
      ∙ same (λ c p. Some (last ++ entries_of (file_of c) p (held_by units).called)))
  told-known question.lines = ap (λ bs. Some (quoted bs)) h.bytes

  -- where all names are known, and where one is not
  pub answer-known : (q : question.Asked) (asked : Asked) → known_in s.contents q ≡ Some asked → within (told s asked ++ ok_line s.count) ≡ answer_asked units (Some q)
  answer-known q asked is =
      ap (λ n. within (told s asked ++ ok_line n)) h.count ∙ ap (answer_known (length units)) (sym (ap (option_map (told s)) is) ∙ told-known q)

  pub answer-unknown : (q : question.Asked) → known_in s.contents q ≡ None → answer_known (length units) None ≡ answer_asked units (Some q)
  answer-unknown q is = ap (answer_known (length units)) (sym (ap (option_map (told s)) is) ∙ told-known q)

-- what was told where a question's names are known is its answer
pub answer-told : {X Y : Type 0} (r : Result X Y) (units : List Bytes) (s : State) (line old new : Bytes) (q : question.Asked) (asked : Asked) → Holds units s → Some q ≡ question.question_in line → known_in s.contents q ≡ Some asked
    → OnOk r (new ≡ old ++ within (told s asked ++ ok_line s.count)) → OnOk r (new ≡ old ++ line_answer units line)
answer-told (Err e) units s line old new q asked h asks known told_is = tt
answer-told (Ok x) units s line old new q asked h asks known told_is =
    told_is ∙ ap (λ bs. old ++ bs) (answer-known units s h q asked known ∙ ap (answer_asked units) asks)
