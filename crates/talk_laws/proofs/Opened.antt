-- What a store is opened with was taken, unit by unit; so is what a server adds to it, and an image of it is opened again.
use Rattle.std.proofs.{Common.{◌≡◌, ℕ, ◌+◌, Bool, true, false, if◌then◌else◌, List, [], ◌∷◌, ◌++◌, length, Some, None, refl, sym, ap, subst, ◌∙◌, append_assoc, nat_le, bytes_eq}, lemmas.Bool.{and_from, and_parts, eq-eqb}}
use Rattle.std.proofs.{lemmas.List.append-nil, lemmas.Slice.Eq.bytes_eq-Decides}
use Rattle.std.specs.{List.AllByRecursion, Prelude.Option}
use Rattle.file_words.specs.Lines.{Bytes}
use Rattle.store_disk.specs.Image.{Frames, closed, damaged, frame, frames, frames_of, HasList}
use Rattle.talk_items.specs.Items.{ends, item_end}
use Rattle.talk_laws.specs.Payloads.{IsServed, are_next}
use Rattle.talk_laws.proofs.Ends.{item-ends}
use Rattle.talk_rules.specs.Units.{UnitRules, header}
use Rattle.talk_server.specs.{Opening.{damaged_at, is_at_end, is_next, opened, opened_by, opened_from, payloads_of, unbegun}, Talks.{accepts, server_rules, units_in}}
use Rattle.turn_loop.specs.Talk.{IsItem, held_behind, worked}

module _ (rules : UnitRules) where
  -- one more behind those that were taken
  next-more : (held units : List Bytes) (unit : Bytes) → are_next rules held units ≡ true → is_next rules (held ++ units) unit ≡ true → are_next rules held (units ++ unit ∷ []) ≡ true
  next-more held [] unit all one = and_from (is_next rules held unit) true (subst (λ us. is_next rules us unit ≡ true) (append-nil held) one) refl
  next-more held (u ∷ us) unit all one =
      let both = and_parts (is_next rules held u) (are_next rules (held ++ u ∷ []) us) all in
      and_from (is_next rules held u) (are_next rules (held ++ u ∷ []) (us ++ unit ∷ [])) both.0
      (next-more (held ++ u ∷ []) us unit both.1 (subst (λ xs. is_next rules xs unit ≡ true) (sym (append_assoc held (u ∷ []) us)) one))

  -- ---- an opening

  found : (held : List Bytes) (fs : Frames) (ps : List Bytes) → are_next rules [] held ≡ true → payloads_of (opened_from rules held fs) ≡ Some ps → IsServed rules ps
  found held (closed place) ps taken is = record {
    headed = cc;
    taken = subst (λ qs. are_next rules [] (units_in qs) ≡ true) (ap (λ o. some_of o) is) taken;
  }
    where
      some_of : Option (List Bytes) → List Bytes
      some_of None = header ∷ held
      some_of (Some qs) = qs
  found held (damaged place) ps taken is = absurd cc
  found held (frame place p fs) ps taken is = chosen (is_next rules held p) refl is (found (held ++ p ∷ []) fs ps)
    where
      chosen : (b : Bool) → is_next rules held p ≡ b
          → payloads_of (if b then opened_from rules (held ++ p ∷ []) fs else damaged_at place) ≡ Some ps
          → (are_next rules [] (held ++ p ∷ []) ≡ true → payloads_of (opened_from rules (held ++ p ∷ []) fs) ≡ Some ps → IsServed rules ps)
          → IsServed rules ps
      chosen true next told behind = behind (next-more [] held p taken next) told
      chosen false next told behind = absurd cc

  found-by : (long : ℕ) (fs : Frames) (ps : List Bytes) → payloads_of (opened_by rules long fs) ≡ Some ps → IsServed rules ps
  found-by long (closed place) ps is = chosen (nat_le long 14) is
    where
      chosen : (b : Bool) → payloads_of (if b then unbegun else damaged_at place) ≡ Some ps → IsServed rules ps
      chosen true told = found [] (closed place) ps refl told
      chosen false told = absurd cc
  found-by long (damaged place) ps is = absurd cc
  found-by long (frame place p fs) ps is = chosen (bytes_eq p header) is
    where
      chosen : (b : Bool) → payloads_of (if b then opened_from rules [] fs else damaged_at place) ≡ Some ps → IsServed rules ps
      chosen true told = found [] fs ps refl told
      chosen false told = absurd cc

  pub opened-served : (image : List ℕ) (ps : List Bytes) → payloads_of (opened rules image) ≡ Some ps → IsServed rules ps
  opened-served image ps is = found-by (length image) (frames image) ps is

  -- ---- what a talk adds

  is-next : (units : List Bytes) (item : Bytes) → IsItem ends item → accepts rules (header ∷ units) item ≡ true → is_next rules units item ≡ true
  is-next units item is accepted =
      and_from (is_at_end (item_end [] item) item) (accepts rules (header ∷ units) item)
      (ap (λ e. is_at_end e item) (item-ends item is) ∙ eq-eqb (length item) (length item) refl) accepted

  added : (ps : List Bytes) (item : Bytes) → IsItem ends item → IsServed rules ps → IsServed rules (held_behind (server_rules rules) ps item)
  added ps item is served = chosen (accepts rules ps item) refl
    where
      us : List Bytes
      us = units_in ps

      one : accepts rules ps item ≡ true → is_next rules us item ≡ true
      one accepted = is-next us item is (subst (λ qs. accepts rules qs item ≡ true) served.headed accepted)

      chosen : (b : Bool) → accepts rules ps item ≡ b → IsServed rules (ps ++ (if b then item ∷ [] else []))
      chosen true accepted =
          let longer : ps ++ item ∷ [] ≡ header ∷ (us ++ item ∷ []) = ap (λ qs. qs ++ item ∷ []) served.headed in
          subst (IsServed rules) (sym longer) (record { headed = refl; taken = next-more [] us item served.taken (one accepted) })
      chosen false accepted = subst (IsServed rules) (sym (append-nil ps)) served

  pub worked-served : (ps items : List Bytes) → AllByRecursion (IsItem ends) items → IsServed rules ps → IsServed rules (worked (server_rules rules) ps items)
  worked-served ps [] all served = served
  worked-served ps (item ∷ items) all served = worked-served (held_behind (server_rules rules) ps item) items all.1 (added ps item all.0 served)

  -- ---- and opened again

  again : (held units : List Bytes) (place : ℕ) → are_next rules held units ≡ true → payloads_of (opened_from rules held (frames_of place units)) ≡ Some (header ∷ (held ++ units))
  again held [] place taken = ap (λ us. Some (header ∷ us)) (sym (append-nil held))
  again held (u ∷ us) place taken =
      let both = and_parts (is_next rules held u) (are_next rules (held ++ u ∷ []) us) taken in
      let behind : ℕ = place + (5 + length u) in
      ap (λ b. payloads_of (if b then opened_from rules (held ++ u ∷ []) (frames_of behind us) else damaged_at place)) both.0
      ∙ again (held ++ u ∷ []) us behind both.1 ∙ ap (λ xs. Some (header ∷ xs)) (append_assoc held (u ∷ []) us)

  pub served-again : (ps : List Bytes) (image : List ℕ) → IsServed rules ps → HasList ps image → payloads_of (opened rules image) ≡ Some ps
  served-again ps image served list =
      let us : List Bytes = units_in ps in
      let headed : frames image ≡ frames_of 0 (header ∷ us) = list ∙ ap (frames_of 0) served.headed in
      let first : bytes_eq header header ≡ true = (bytes_eq-Decides header header).1 refl in
      ap (λ fs. payloads_of (opened_by rules (length image) fs)) headed
      ∙ ap (λ b. payloads_of (if b then opened_from rules [] (frames_of 13 us) else damaged_at 0)) first
      ∙ again [] us 13 served.taken ∙ ap (λ qs. Some qs) (sym served.headed)
