-- One item more.
use Rattle.turn_loop.proofs.Common.{[], ℕ, ◌++◌, ◌+◌, ◌<◌, ◌^◌, ◌∙◌, ◌∷◌, ◌≡◌, ◌≤◌, ◌⊎◌, all_framed, answers, ap, append-nil, append_assoc, arith, Bool, Bytes, drop, drop-drop, drop_all, false, Front, held_behind, if◌then◌else◌, inl, inr}
use Rattle.turn_loop.proofs.Common.{IsRest, length, length-append, List, MAX_ANSWERS, None, payload_of, refl, Rules, Some, still_first, subst, sym, take, take-append-drop, Takes, true, turns, turns_from, worked, Works}
use Rattle.turn_loop.proofs.{Splits.{answers-append, front-item, front-none, front-then, no-more-first, took-all, took-item, worked-append}, InTurns.turn-goes-on}

module _ {E : Type 0} {rules : Rules} {holds : E → Bool → List Bytes → Bytes → Type 0} {first : Bool} {ps : List Bytes} {begun bytes : Bytes} where
  pub none-yet : (desk : E) (text : Bytes) (group : List Bytes) → holds desk first ps begun → IsRest rules.ends begun → text ≡ [] → group ≡ [] → Works rules holds first ps begun bytes desk text group 0
  none-yet desk text group keeps rest no_text no_group = record {
    items = [];
    left = begun;
    front = front-none rules.ends (begun ++ bytes);
    open_item = rest;
    one_turn = λ more.
        ap (λ n. turns_from rules first ps [] n more) (sym (ap length no_text))
        ∙ ap (λ qs. turns_from rules first qs [] (length text) more) (sym (append-nil ps) ∙ ap (λ g. ps ++ g) (sym no_group));
    answered = no_text;
    accepted = sym (append-nil ps) ∙ ap (λ g. ps ++ g) (sym no_group);
    keeps = subst (λ qs. holds desk first qs begun) (sym (append-nil ps) ∙ ap (λ g. ps ++ g) (sym no_group)) keeps;
    room = inl no_group;
  }

  module _ {desk : E} {text : Bytes} {group : List Bytes} {done : ℕ} (w : Works rules holds first ps begun bytes desk text group done) where
    -- all bytes are taken
    pub all-taken : (new : E) (rest : Bytes) (long : ℕ) → rest ≡ drop done bytes → long ≡ length bytes → Takes rules.ends w.left rest None → holds new (still_first first w.items) (ps ++ group) (w.left ++ rest)
        → Works rules holds first ps begun bytes new text group long
    all-taken new rest long behind is takes keeps =
        let gone : drop long bytes ≡ [] = drop_all long bytes (omega (arith, is)) in
        record {
          items = w.items;
          left = w.left ++ rest;
          front =
              subst (Front rules.ends (begun ++ bytes) w.items)
              (ap (λ b. w.left ++ b) (sym behind) ∙ sym (append-nil (w.left ++ rest)) ∙ ap (λ b. (w.left ++ rest) ++ b) (sym gone)) w.front;
          open_item = took-all rules.ends w.left rest w.open_item takes;
          one_turn = w.one_turn;
          answered = w.answered;
          accepted = w.accepted;
          keeps = keeps;
          room = w.room;
        }

    -- a group grew, or is what it was
    room-still : (fits : (qs : List Bytes) (item : Bytes) → rules.accepts qs item ≡ true → length (all_framed (qs ++ item ∷ [])) < 2 ^ 30) (item : Bytes) (more : List Bytes)
        → more ≡ group ++ payload_of rules (ps ++ group) item → (more ≡ []) ⊎ (length (all_framed (ps ++ more)) < 2 ^ 30)
    room-still fits item more is = chosen (rules.accepts (ps ++ group) item) refl is
      where
        chosen : (b : Bool) → rules.accepts (ps ++ group) item ≡ b → more ≡ group ++ (if b then item ∷ [] else []) → (more ≡ []) ⊎ (length (all_framed (ps ++ more)) < 2 ^ 30)
        chosen true accepted same =
            inr (subst (λ l. length (all_framed l) < 2 ^ 30) (append_assoc ps group (item ∷ []) ∙ ap (λ g. ps ++ g) (sym same)) (fits (ps ++ group) item accepted))
        chosen false not_so same = elim w.room [
          | inl none ↦ inl (same ∙ append-nil group ∙ none)
          | inr short ↦ inr (subst (λ g. length (all_framed (ps ++ g)) < 2 ^ 30) (sym (same ∙ append-nil group)) short)
        ]

    -- one item more
    pub one-more : ((qs : List Bytes) (item : Bytes) → rules.accepts qs item ≡ true → length (all_framed (qs ++ item ∷ [])) < 2 ^ 30)
        → (new : E) (next : Bytes) (more : List Bytes) (len : ℕ) (rest : Bytes) → length text ≤ MAX_ANSWERS → rest ≡ drop done bytes → Takes rules.ends w.left rest (Some len)
        → holds new false (held_behind rules (ps ++ group) (w.left ++ take len rest)) [] → next ≡ text ++ rules.answer (still_first first w.items) (ps ++ group) (w.left ++ take len rest)
        → more ≡ group ++ payload_of rules (ps ++ group) (w.left ++ take len rest) → Works rules holds first ps begun bytes new next more (done + len)
    one-more fits new next more len rest few behind takes keeps answered grown =
        let item : Bytes = w.left ++ take len rest in
        let payload : List Bytes = payload_of rules (ps ++ group) item in
        let is_first : Bool = still_first first w.items in
        let reply : Bytes = rules.answer is_first (ps ++ group) item in
        let held : held_behind rules (ps ++ group) item ≡ ps ++ more = append_assoc ps group payload ∙ ap (λ g. ps ++ g) (sym grown) in
        let parts : w.left ++ drop done bytes ≡ item ++ drop (done + len) bytes =
        ap (λ b. w.left ++ b) (sym behind ∙ sym (take-append-drop len rest)) ∙ sym (append_assoc w.left (take len rest) (drop len rest))
        ∙ ap (λ b. item ++ b) (ap (drop len) behind ∙ drop-drop len done bytes) in
        let long : length text + length reply ≡ length next = omega (arith, length-append text reply, ap length answered) in
        record {
          items = w.items ++ item ∷ [];
          left = [];
          front =
              front-then rules.ends (begun ++ bytes) w.items (w.left ++ drop done bytes) (item ∷ []) (drop (done + len) bytes) w.front
              (subst (λ b. Front rules.ends b (item ∷ []) (drop (done + len) bytes)) (sym parts) (front-item rules.ends item (drop (done + len) bytes) (took-item rules.ends w.left rest len w.open_item takes)));
          open_item = refl;
          one_turn = λ others.
              ap (turns rules first ps) (append_assoc w.items (item ∷ []) others)
              ∙ w.one_turn (item ∷ others)
              ∙ turn-goes-on rules is_first (ps ++ group) w.items (length text) item others few
              ∙ ap (λ f. turns_from rules f (held_behind rules (ps ++ group) item) (w.items ++ item ∷ []) (length text + length reply) others) (sym (no-more-first first w.items item))
              ∙ ap (λ qs. turns_from rules (still_first first (w.items ++ item ∷ [])) qs (w.items ++ item ∷ []) (length text + length reply) others) held
              ∙ ap (λ n. turns_from rules (still_first first (w.items ++ item ∷ [])) (ps ++ more) (w.items ++ item ∷ []) n others) long;
          answered =
              answered ∙ ap (λ t. t ++ reply) w.answered ∙ ap (λ qs. answers rules first ps w.items ++ rules.answer is_first qs item) (sym w.accepted)
              ∙ ap (λ t. answers rules first ps w.items ++ t) (sym (append-nil (rules.answer is_first (worked rules ps w.items) item))) ∙ sym (answers-append rules first ps w.items (item ∷ []));
          accepted = worked-append rules ps w.items (item ∷ []) ∙ ap (λ qs. held_behind rules qs item) w.accepted ∙ held;
          keeps =
              subst (λ f. holds new f (ps ++ more) []) (sym (no-more-first first w.items item)) (subst (λ qs. holds new false qs []) held keeps);
          room = room-still fits item more grown;
        }
