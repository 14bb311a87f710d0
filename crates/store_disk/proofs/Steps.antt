-- The two halves of a step, over any disk.
use Rattle.store_disk.proofs.Common.{[], ℕ, ◌++◌, ◌+◌, ◌<◌, ◌^◌, ◌∙◌, ◌∷◌, ◌≡◌, ◌≤◌, all_framed, AllByRecursion, ap, arith, drop, flat_map-append, Follows, framed, frames, get_or, get_or_at, HasList, HasNoneOrAll, IsAtRest, IsStaged}
use Rattle.store_disk.proofs.{Common.{length, length-append, length-drop, length-take, List, max, Only, spliced, staged, subst, sym, take, Torn}, Framing.{frames_at, frames_gate, spelled, all_short_behind}, Groups.staged-size}
use Rattle.store_disk.proofs.Stops.{torn_behind, written_behind, torn_gate, written_gate, size}

-- payloads more are as long as their records
longer : (ps qs : List (List ℕ)) (place : ℕ) → place ≡ length (all_framed ps) → place + length (all_framed qs) ≡ length (all_framed (ps ++ qs))
longer ps qs place stands = omega (arith, stands, ap length (flat_map-append framed ps qs), length-append (all_framed ps) (all_framed qs))

-- how long bytes are that were written over
spliced-size : (at : ℕ) (bytes c : List ℕ) → at ≤ length c → length (spliced at bytes c) ≡ max (length c) (at + length bytes)
spliced-size at bytes c within =
    let front : length (take at c) ≡ at = length-take at c ∙ omega (arith, within) in
    omega (arith, within, front, length-append (take at c) (bytes ++ drop (at + length bytes) c), length-append bytes (drop (at + length bytes) c), length-drop (at + length bytes) c)

pub behind-size : (place : ℕ) (qs : List (List ℕ)) (bytes old mid new : List ℕ) → place + 1 ≤ length old → bytes ≡ staged qs → new ≡ mid → mid ≡ spliced (place + 1) bytes old
    → length new ≡ max (length old) (place + (1 + length (all_framed qs)))
behind-size place qs bytes old mid new within is kept written =
    omega (arith, ap length kept, ap length written, ap length is, staged-size qs, spliced-size (place + 1) bytes old within)

pub gate-size : (place : ℕ) (old mid new : List ℕ) → place + 1 ≤ length old → new ≡ mid → mid ≡ spliced place (1 ∷ []) old → length new ≡ length old
gate-size place old mid new within kept written = omega (arith, within, ap length kept, ap length written, spliced-size place (1 ∷ []) old (omega (arith, within)))

module _ {D : Type 0} (content : D → List ℕ) (may_leave : D → List ℕ → Type 0) where
  -- at rest each image has the list
  pub rest-list : (disk : D) (ps : List (List ℕ)) (place : ℕ) → IsAtRest content may_leave disk ps place → (c : List ℕ) → may_leave disk c → HasList ps c
  rest-list disk ps place rest c left =
      let e = rest.ends in
      ap frames (rest.durable c left ∙ e.bytes) ∙ frames_at ps e.gate e.behind e.shut e.short

  -- the place behind the gate is within the content
  pub rest-room : (disk : D) (ps : List (List ℕ)) (place : ℕ) → IsAtRest content may_leave disk ps place → place + 1 ≤ length (content disk)
  rest-room disk ps place rest =
      let e = rest.ends in
      omega (arith, ap length e.bytes, size (all_framed ps) e.gate e.behind place e.stands)

  -- so has each image of a write behind the gate
  pub behind-list : (disk : D) (ps : List (List ℕ)) (place n : ℕ) (new : List ℕ → Type 0) → IsAtRest content may_leave disk ps place → Follows (Torn (place + 1) n) (may_leave disk) new → (c : List ℕ) → new c → HasList ps c
  behind-list disk ps place n new rest follows c left =
      let e = rest.ends in
      let from = follows c left in
      let torn = subst (λ f. Torn (place + 1) n f c) (rest.durable from.0 from.1 ∙ e.bytes) from.2 in
      ap frames (torn_behind (all_framed ps) e.gate e.behind place e.stands n c torn) ∙ frames_at ps e.gate (drop (place + 1) c) e.shut e.short

  pub is-staged : (old new : D) (ps qs : List (List ℕ)) (bytes : List ℕ) (place : ℕ) → IsAtRest content may_leave old ps place → bytes ≡ staged qs → AllByRecursion (λ q. length q < 2 ^ 32) qs
      → (mid : List ℕ) → content new ≡ mid → mid ≡ spliced (place + 1) bytes (content old) → Only mid (may_leave new) → IsStaged content may_leave new ps qs place
  is-staged old new ps qs bytes place rest is fit mid kept written durable =
      let e = rest.ends in
      let whole = all_framed ps ++ e.gate ∷ e.behind in
      let left = drop (place + 1 + length bytes) whole in
      record {
        gate = e.gate;
        behind = left;
        stands = e.stands;
        short = e.short;
        fit = fit;
        bytes =
            kept ∙ written ∙ ap (spliced (place + 1) bytes) e.bytes ∙ written_behind (all_framed ps) e.gate e.behind place e.stands bytes
            ∙ ap (λ l. all_framed ps ++ e.gate ∷ (l ++ left)) is;
        durable = subst (λ f. Only f (may_leave new)) (sym kept) durable;
      }

  -- with records staged each image has the list
  pub staged-list : (disk : D) (ps qs : List (List ℕ)) (place : ℕ) → 0 < length qs → IsStaged content may_leave disk ps qs place → (c : List ℕ) → may_leave disk c → HasNoneOrAll ps qs c
  staged-list disk ps qs place some s c left = subst (HasNoneOrAll ps qs) (sym (s.durable c left ∙ s.bytes)) (frames_gate ps qs s.behind s.gate s.short s.fit some)

  pub staged-room : (disk : D) (ps qs : List (List ℕ)) (place : ℕ) → IsStaged content may_leave disk ps qs place → place + 1 ≤ length (content disk)
  staged-room disk ps qs place s = omega (arith, ap length s.bytes, size (all_framed ps) s.gate (staged qs ++ s.behind) place s.stands)

  -- and each image of a write of their gate
  pub gate-list : (disk : D) (ps qs : List (List ℕ)) (place : ℕ) (new : List ℕ → Type 0) → 0 < length qs → IsStaged content may_leave disk ps qs place → Follows (Torn place 1) (may_leave disk) new → (c : List ℕ) → new c
      → HasNoneOrAll ps qs c
  gate-list disk ps qs place new some s follows c left =
      let from = follows c left in
      let torn = subst (λ f. Torn place 1 f c) (s.durable from.0 from.1 ∙ s.bytes) from.2 in
      let is = torn_gate (all_framed ps) s.gate (staged qs ++ s.behind) place s.stands c torn in
      subst (HasNoneOrAll ps qs) (sym is) (frames_gate ps qs s.behind (get_or c place 0) s.short s.fit some)

  -- with their gate open the records are the last of the list, and a closed gate stands behind them
  opened-bytes : (old new : D) (ps qs : List (List ℕ)) (place : ℕ) → 0 < length qs → (s : IsStaged content may_leave old ps qs place)
      → (mid : List ℕ) → content new ≡ mid → mid ≡ spliced place (1 ∷ []) (content old) → content new ≡ all_framed (ps ++ qs) ++ 0 ∷ s.behind
  opened-bytes old new ps qs place some s mid kept written =
      kept ∙ written ∙ ap (spliced place (1 ∷ [])) s.bytes
      ∙ written_gate (all_framed ps) s.gate (staged qs ++ s.behind) place s.stands
      ∙ sym (spelled ps qs s.behind some)

  pub is-at-rest : (old new : D) (ps qs : List (List ℕ)) (place : ℕ) → 0 < length qs → IsStaged content may_leave old ps qs place
      → (mid : List ℕ) → content new ≡ mid → mid ≡ spliced place (1 ∷ []) (content old) → Only mid (may_leave new) → IsAtRest content may_leave new (ps ++ qs) (place + length (all_framed qs))
  is-at-rest old new ps qs place some s mid kept written durable = record {
    ends = record {
      gate = 0;
      behind = s.behind;
      shut = omega arith;
      stands = longer ps qs place s.stands;
      short = all_short_behind ps qs s.short s.fit;
      bytes = opened-bytes old new ps qs place some s mid kept written;
    };
    durable = subst (λ f. Only f (may_leave new)) (sym kept) durable;
  }

  -- the byte of the next gate
  pub next-gate : (old new : D) (ps qs : List (List ℕ)) (place : ℕ) → 0 < length qs → IsStaged content may_leave old ps qs place
      → (mid : List ℕ) → content new ≡ mid → mid ≡ spliced place (1 ∷ []) (content old) → get_or (content new) (place + length (all_framed qs)) 1 ≡ 0
  next-gate old new ps qs place some s mid kept written =
      ap (λ l. get_or l (place + length (all_framed qs)) 1) (opened-bytes old new ps qs place some s mid kept written)
      ∙ get_or_at (all_framed (ps ++ qs)) 0 s.behind 1 (place + length (all_framed qs)) (sym (longer ps qs place s.stands))
