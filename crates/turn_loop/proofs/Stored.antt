-- What a disk holds.
use Rattle.turn_loop.proofs.Common.{[], ℕ, ◌++◌, ◌<◌, ◌==◌, ◌^◌, ◌∙◌, ◌∷◌, ◌≡◌, ◌≤◌, ◌⊎◌, all_framed, ap, arith, as_turn, Begins, Bool, Bytes, false, frames, HasList, held, HoldsItems, HoldsNoneOrAll, HoldsTurns, inl, inr, IsAtRest, joined}
use Rattle.turn_loop.proofs.{Common.{LeavesOnly, length, List, payloads_in, refl, Rules, started, subst, sym, worked}, Splits.{begins-self, begins-trans, worked-append}, InTurns.{joined-append, joined-turns}}
use Rattle.store_disk.proofs.{Framing.frames_at, Groups.in-frames}

held-list : (ps : List Bytes) (image : List ℕ) → HasList ps image → held image ≡ ps
held-list ps image list = ap payloads_in list ∙ in-frames 0 ps

-- an image that holds what whole turns leave holds what their items leave
pub turns-items-held : (rules : Rules) (ps : List Bytes) (least most : List (List Bytes)) (items : List Bytes) (c : List ℕ) → Begins (joined most) items → HoldsTurns rules ps least most c → HoldsItems rules ps (joined least) items c
turns-items-held rules ps least most items c begins h = record {
  items = joined h.turns;
  no_less = (joined h.no_less.0, sym (joined-append least h.no_less.0) ∙ ap joined h.no_less.1);
  no_more = begins-trans (joined h.turns) (joined most) items (joined h.no_more.0, sym (joined-append h.turns h.no_more.0) ∙ ap joined h.no_more.1) begins;
  list = h.list;
}

pub holds-more : (rules : Rules) (ps : List Bytes) (least middle most : List (List Bytes)) (c : List ℕ) → Begins middle most → HoldsTurns rules ps least middle c → HoldsTurns rules ps least most c
holds-more rules ps least middle most c more h = record { turns = h.turns; list = h.list; no_less = h.no_less; no_more = begins-trans h.turns middle most h.no_more more }

pub holds-done : (rules : Rules) (ps : List Bytes) (done : List (List Bytes)) (c : List ℕ) → HasList (worked rules ps (joined done)) c → HoldsTurns rules ps done done c
holds-done rules ps done c list = record { turns = done; list = list; no_less = begins-self done; no_more = begins-self done }

-- none or all of a turn, behind those that are done
pub holds-turn : (rules : Rules) (ps : List Bytes) (done : List (List Bytes)) (items : List Bytes) (c : List ℕ) → HoldsNoneOrAll rules (worked rules ps (joined done)) items c
    → HoldsTurns rules ps done (done ++ as_turn items) c
holds-turn rules ps done items c (inl list) = record { turns = done; list = list; no_less = begins-self done; no_more = (as_turn items, refl) }
holds-turn rules ps done items c (inr list) = record {
  turns = done ++ as_turn items;
  list = subst (λ qs. HasList qs c) (sym (ap (worked rules ps) (joined-turns done items) ∙ worked-append rules ps (joined done) items)) list;
  no_less = (as_turn items, refl);
  no_more = begins-self (done ++ as_turn items);
}

pub holds-any : (rules : Rules) (ps : List Bytes) (least most : List (List Bytes)) (c : List ℕ) → HoldsTurns rules ps least most c → HoldsTurns rules ps [] most c
holds-any rules ps least most c h = record { turns = h.turns; list = h.list; no_less = (h.turns, refl); no_more = h.no_more }

module _ {D : Type 0} (content : D → List ℕ) (may_leave : D → List ℕ → Type 0) where
  rest-content : (disk : D) (ps : List Bytes) (place : ℕ) → IsAtRest content may_leave disk ps place → HasList ps (content disk)
  rest-content disk ps place rest = let e = rest.ends in ap frames e.bytes ∙ frames_at ps e.gate e.behind e.shut e.short

  pub rest-held : (disk : D) (ps : List Bytes) (place : ℕ) → IsAtRest content may_leave disk ps place → held (content disk) ≡ ps
  rest-held disk ps place rest = held-list ps (content disk) (rest-content disk ps place rest)

  -- at rest each image has the list
  pub rest-image : (disk : D) (ps : List Bytes) (place : ℕ) → IsAtRest content may_leave disk ps place → (c : List ℕ) → may_leave disk c → HasList ps c
  rest-image disk ps place rest c left = ap frames (rest.durable c left) ∙ rest-content disk ps place rest

  module _ (moment : D → ℕ) (left_since : D → ℕ → List ℕ → Type 0) where
    -- nothing happens to a disk at rest
    pub stays : (P : List ℕ → Type 0) → ((d : D) (c : List ℕ) → left_since d (moment d) c → may_leave d c) → (disk : D) (ps : List Bytes) (place : ℕ) → IsAtRest content may_leave disk ps place
        → ((c : List ℕ) → HasList ps c → P c) → LeavesOnly moment left_since disk disk P
    stays P only_now disk ps place rest to = started moment left_since disk P (λ c left. to c (rest-image disk ps place rest c (only_now disk c left)))

    -- what a stop at any moment leaves, a stop now leaves
    pub now : ((d : D) (t : ℕ) (c : List ℕ) → t ≤ moment d → may_leave d c → left_since d t c) → (old new : D) (P : List ℕ → Type 0) → LeavesOnly moment left_since old new P
        → (c : List ℕ) → may_leave new c → P c
    now counts_now old new P run c left = run.each c (counts_now new (moment old) c run.later left)

-- where the gate stands
pub gate-short : {D : Type 0} (content : D → List ℕ) (may_leave : D → List ℕ → Type 0) (disk : D) (ps group : List Bytes) (place : ℕ) → IsAtRest content may_leave disk (ps ++ group) place
    → (group ≡ []) ⊎ (length (all_framed (ps ++ group)) < 2 ^ 30) → 0 < length group → place < 2 ^ 30
gate-short content may_leave disk ps group place rest (inl none) some = absurd (omega (arith, ap length none, some))
gate-short content may_leave disk ps group place rest (inr fits) some = omega (arith, rest.ends.stands, fits)

pub some-there : (group : List Bytes) (b : Bool) → b ≡ (length group == 0) → b ≡ false → 0 < length group
some-there [] b is not = absurd (cc)
some-there (p ∷ group) b is not = omega arith
