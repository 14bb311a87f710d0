-- A turn: what was worked, stored and answered.
use Rattle.turn_loop.proofs.Common.{[], ℕ, ◌++◌, ◌<◌, ◌^◌, ◌∙◌, ◌∷◌, ◌≡◌, ◌⊎◌, answers, ap, append-nil, Appends, AppendsPrefix, arith, as_turn, Begins, Bool, Bytes, Cut, drop, drop_all, Err, HasList, HasNoneOrAll, HoldsNoneOrAll, IfErr}
use Rattle.turn_loop.proofs.Common.{inl, inr, IsAtRest, IsErrAnd, Keeps-refl, LeavesOnly, length, List, MAX_ANSWERS, Ok, Option, refl, Result, Rules, split, still_first, subst, sym, Turned, turns, turns_from, worked, Works}
use Rattle.turn_loop.proofs.{Stored.{rest-image, stays}, InTurns.turn-is-full}
use Rattle.turn_loop.specs.declared.faults.TalkFault.TheVariants as fault

-- what holds of the error of a result
pub err-of : {T E : Type 0} (r : Result T E) (P Q : E → Type 0) → IsErrAnd r P → ((e : E) → P e → Q e) → IfErr r Q
err-of (Ok x) P Q is to = tt
err-of (Err e) P Q is to = to e is

-- many answers are those of some item
some-item : (rules : Rules) (first : Bool) (ps items : List Bytes) (text : Bytes) → text ≡ answers rules first ps items → MAX_ANSWERS < length text → 0 < length items
some-item rules first ps [] text is less = absurd (omega (arith, ap length is, less))
some-item rules first ps (item ∷ items) text is less = omega arith

module _ {E : Type 0} {rules : Rules} {holds : E → Bool → List Bytes → Bytes → Type 0} {first : Bool} {ps : List Bytes} {begun bytes : Bytes} {desk : E} {text : Bytes} {group : List Bytes} {n : ℕ}
    (w : Works rules holds first ps begun bytes desk text group n) where
  items-there : (split rules.ends (begun ++ bytes)).items ≡ w.items ++ (split rules.ends (w.left ++ drop n bytes)).items
  items-there =
      ap (λ b. (split rules.ends b).items) (sym (append-nil (begun ++ bytes))) ∙ ap (λ s. s.items) (w.front.splits [])
      ∙ ap (λ b. w.items ++ (split rules.ends b).items) (append-nil (w.left ++ drop n bytes))

  -- where all bytes are taken no item is left
  none-left : n ≡ length bytes → (split rules.ends (w.left ++ drop n bytes)).items ≡ []
  none-left all =
      ap (λ b. (split rules.ends b).items) (ap (λ b. w.left ++ b) (drop_all n bytes (omega (arith, all))) ∙ append-nil w.left)
      ∙ ap (λ s. s.items) w.open_item

  -- what was worked is a turn, and the items behind it are of others
  pub whole-turn : (n ≡ length bytes) ⊎ (MAX_ANSWERS < length text)
      → turns rules first ps (split rules.ends (begun ++ bytes)).items
      ≡ as_turn w.items ++ turns rules (still_first first w.items) (worked rules ps w.items) (split rules.ends (w.left ++ drop n bytes)).items
  whole-turn how =
      ap (turns rules first ps) items-there ∙ w.one_turn (split rules.ends (w.left ++ drop n bytes)).items
      ∙ behind how
      ∙ ap (λ qs. as_turn w.items ++ turns rules (still_first first w.items) qs (split rules.ends (w.left ++ drop n bytes)).items) (sym w.accepted)
    where
      behind : (n ≡ length bytes) ⊎ (MAX_ANSWERS < length text)
          → turns_from rules (still_first first w.items) (ps ++ group) w.items (length text) (split rules.ends (w.left ++ drop n bytes)).items
          ≡ as_turn w.items ++ turns rules (still_first first w.items) (ps ++ group) (split rules.ends (w.left ++ drop n bytes)).items
      behind (inl all) =
          ap (turns_from rules (still_first first w.items) (ps ++ group) w.items (length text)) (none-left all)
          ∙ sym (append-nil (as_turn w.items))
          ∙ ap (λ l. as_turn w.items ++ turns rules (still_first first w.items) (ps ++ group) l) (sym (none-left all))
      behind (inr less) =
          turn-is-full rules (still_first first w.items) (ps ++ group) w.items (length text) (split rules.ends (w.left ++ drop n bytes)).items less
          (some-item rules first ps w.items text w.answered less)

module _ {E D : Type 0} (rules : Rules) (holds : E → Bool → List Bytes → Bytes → Type 0) (content : D → List ℕ) (may_leave : D → List ℕ → Type 0) (moment : D → ℕ) (left_since : D → ℕ → List ℕ → Type 0) (old : D) (before : Option Bytes) (first : Bool) (ps : List Bytes) (begun bytes : Bytes) where
  -- nothing was worked
  pub cut-memory : ((d : D) (c : List ℕ) → left_since d (moment d) c → may_leave d c) → (gate : ℕ) → IsAtRest content may_leave old ps gate
      → Cut rules may_leave moment left_since old old before before first ps begun bytes fault.NoMemory
  cut-memory only_now gate rest = record {
    items = [];
    one_turn = (turns rules first ps (split rules.ends (begun ++ bytes)).items, refl);
    moments = stays content may_leave moment left_since (HoldsNoneOrAll rules ps []) only_now old ps gate rest (λ c list. inl list);
    tells = (refl, Keeps-refl before);
  }

  module _ (desk : E) (text : Bytes) (group : List Bytes) (n : ℕ) (so_far : Works rules holds first ps begun bytes desk text group n) (full : (n ≡ length bytes) ⊎ (MAX_ANSWERS < length text)) (new : D) (stored : LeavesOnly moment left_since old new (HasNoneOrAll ps group)) where
    turn-moments : LeavesOnly moment left_since old new (HoldsNoneOrAll rules ps so_far.items)
    turn-moments =
        subst (λ qs. LeavesOnly moment left_since old new (λ c. HasList ps c ⊎ HasList qs c)) (sym so_far.accepted) stored

    one-turn : Begins (as_turn so_far.items) (turns rules first ps (split rules.ends (begun ++ bytes)).items)
    one-turn = (turns rules (still_first first so_far.items) (worked rules ps so_far.items) (split rules.ends (so_far.left ++ drop n bytes)).items, sym (whole-turn so_far full))

    pub cut-disk : Cut rules may_leave moment left_since old new before before first ps begun bytes fault.Disk
    cut-disk = record {
      items = so_far.items;
      one_turn = one-turn;
      moments = turn-moments;
      tells = Keeps-refl before;
    }

    module _ (next : ℕ) (rest : IsAtRest content may_leave new (ps ++ group) next) (after : Option Bytes) where
      rest-worked : IsAtRest content may_leave new (worked rules ps so_far.items) next
      rest-worked = subst (λ qs. IsAtRest content may_leave new qs next) (sym so_far.accepted) rest

      pub cut-sink : AppendsPrefix before after text → Cut rules may_leave moment left_since old new before after first ps begun bytes fault.Unwritten
      cut-sink part = record {
        items = so_far.items;
        one_turn = one-turn;
        moments = turn-moments;
        tells = (subst (AppendsPrefix before after) so_far.answered part, rest-image content may_leave new (worked rules ps so_far.items) next rest-worked);
      }

      pub turned : next < 2 ^ 30 → Appends before after text
          → Turned rules holds content may_leave moment left_since old new before after first ps begun bytes desk (record { done = n; gate = next })
      turned short all = record {
        items = so_far.items;
        front = so_far.front;
        left = so_far.left;
        open_item = so_far.open_item;
        one_turn = whole-turn so_far full;
        keeps = subst (λ qs. holds desk (still_first first so_far.items) qs so_far.left) (sym so_far.accepted) so_far.keeps;
        rest = rest-worked;
        room = short;
        answered = subst (Appends before after) so_far.answered all;
        moments = turn-moments;
      }
