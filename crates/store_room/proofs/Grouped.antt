-- Calls of which one after another finds room, and the group of the first of them.
use Rattle.std.proofs.{Common.{◌≡◌, inl, inr, ℕ, ◌+◌, ◌<◌, ◌≤◌, true, List, [], ◌∷◌, ◌++◌, get_or, length, map, take, drop, refl, sym, ap, subst, ◌∙◌, length-append, arith}, lemmas.Grind.flat_map-append, lemmas.List.{drop_more, map_push}}
use Rattle.std.proofs.lemmas.List.{take-append-drop, take_more}
use Rattle.std.specs.List.{AllByRecursion}
use Rattle.store_disk.specs.Image.{all_framed, framed}
use Rattle.store_form.specs.{Payload.{Bytes, IsPayloadOf, payload}, Stored.has_short_lists, declared.stored.Recorded.Recorded, declared.stored.Stored.Stored}
use Rattle.store_room.specs.Room.{HasPayload, IsPayable, Overflows, Passes, payload_of}

-- a call that finds room does not pass the limit
pub not-passing : (limit gate caller : ℕ) (e : Stored) (p : Bytes) → has_short_lists e ≡ true → payload caller e ≡ p → gate + (6 + length p) ≤ limit → Passes limit gate caller e → ⊥
not-passing limit gate caller e p short same fits (inl long) = absurd cc
not-passing limit gate caller e p short same fits (inr over) = omega (arith, ap length same, fits, over)

-- where the records of calls end
abbrev pub behind : ℕ → List Recorded → ℕ
behind gate calls = gate + length (all_framed (map payload_of calls))

behind-first : (gate : ℕ) (r : Recorded) (rs : List Recorded) → gate + (5 + length (payload_of r)) + length (all_framed (map payload_of rs)) ≡ behind gate (r ∷ rs)
behind-first gate r rs = omega (arith, length-append (framed (payload_of r)) (all_framed (map payload_of rs)))

-- where calls behind others overflow
pub over-here : (limit gate : ℕ) (calls rest : List Recorded) → Overflows limit (behind gate calls) rest → Overflows limit gate (calls ++ rest)
over-here limit gate [] rest over = let at : gate + 0 ≡ gate = omega arith in subst (λ g. Overflows limit g rest) at over
over-here limit gate (r ∷ calls) rest over =
    inr (over-here limit (gate + (5 + length (payload_of r))) calls rest (subst (λ g. Overflows limit g rest) (sym (behind-first gate r calls)) over))

pub over-behind : (limit gate : ℕ) (calls rest : List Recorded) → (Overflows limit gate calls → ⊥) → Overflows limit gate (calls ++ rest) → Overflows limit (behind gate calls) rest
over-behind limit gate [] rest fits over = let at : gate ≡ gate + 0 = omega arith in subst (λ g. Overflows limit g rest) at over
over-behind limit gate (r ∷ calls) rest fits (inl passes) = absurd (fits (inl passes))
over-behind limit gate (r ∷ calls) rest fits (inr over) =
    subst (λ g. Overflows limit g rest) (behind-first gate r calls) (over-behind limit (gate + (5 + length (payload_of r))) calls rest (λ o. fits (inr o)) over)

pub over-first : (limit gate : ℕ) (calls rest : List Recorded) → Overflows limit gate calls → Overflows limit gate (calls ++ rest)
over-first limit gate [] rest over = absurd over
over-first limit gate (r ∷ calls) rest (inl passes) = inl passes
over-first limit gate (r ∷ calls) rest (inr over) = inr (over-first limit (gate + (5 + length (payload_of r))) calls rest over)

-- one call more finds room
one-fits : (limit gate : ℕ) (calls : List Recorded) (r : Recorded) → (Overflows limit gate calls → ⊥) → (Passes limit (behind gate calls) r.caller r.event → ⊥) → Overflows limit gate (calls ++ r ∷ []) → ⊥
one-fits limit gate calls r fit fits over = last (over-behind limit gate calls (r ∷ []) fit over)
  where
    last : Overflows limit (behind gate calls) (r ∷ []) → ⊥
    last (inl passes) = fits passes
    last (inr none) = none

pub own-payload : (bytes : Bytes) (r : Recorded) → IsPayloadOf bytes r.caller r.event → HasPayload r
own-payload bytes r pays = record { number = pays.number; fits = pays.fits; same = refl }

all-push : {X : Type 0} (P : X → Type 0) (xs : List X) (x : X) → AllByRecursion P xs → P x → AllByRecursion P (xs ++ x ∷ [])
all-push P [] x all one = (one, tt)
all-push P (y ∷ xs) x all one = (all.0, all-push P xs x all.1 one)

-- the first so many calls as a group
module _ (limit gate span i : ℕ) (calls : List Recorded) (group : List Bytes) (r : Recorded) (are : group ≡ map payload_of (take i calls)) (stands : span ≡ length (all_framed group))
    (low : i < length calls) (item : r ≡ get_or calls i r) where
  at : behind gate (take i calls) ≡ gate + span
  at = omega (arith, stands, ap (λ ps. length (all_framed ps)) are)

  more : take (i + 1) calls ≡ take i calls ++ r ∷ []
  more = take_more calls i r low ∙ ap (λ x. take i calls ++ x ∷ []) (sym item)

  split : drop i calls ≡ r ∷ drop (i + 1) calls
  split = drop_more calls i r low ∙ ap (λ x. x ∷ drop (i + 1) calls) (sym item)

  -- the next call can be written, and does not find room
  pub group-next : AllByRecursion IsPayable (drop i calls) → IsPayable r
  group-next all = (subst (AllByRecursion IsPayable) split all).0

  pub group-over : Passes limit (gate + span) r.caller r.event → Overflows limit gate calls
  group-over passes =
      subst (Overflows limit gate) (ap (λ cs. take i calls ++ cs) (sym split) ∙ take-append-drop i calls)
      (over-here limit gate (take i calls) (r ∷ drop (i + 1) calls) (inl (subst (λ g. Passes limit g r.caller r.event) (sym at) passes)))

  -- it does, and is put behind the others
  pub group-fits : (Overflows limit gate (take i calls) → ⊥) → (Passes limit (gate + span) r.caller r.event → ⊥) → Overflows limit gate (take (i + 1) calls) → ⊥
  group-fits fit fits over = one-fits limit gate (take i calls) r fit (λ passes. fits (subst (λ g. Passes limit g r.caller r.event) at passes)) (subst (Overflows limit gate) more over)

  pub group-are : (new : List Bytes) (p q : Bytes) → payload_of r ≡ p → q ≡ p → new ≡ group ++ q ∷ [] → new ≡ map payload_of (take (i + 1) calls)
  group-are new p q same view pushed =
      pushed ∙ ap (λ x. group ++ x ∷ []) (view ∙ sym same) ∙ ap (λ ps. ps ++ payload_of r ∷ []) are ∙ sym (map_push payload_of (take i calls) r) ∙ ap (map payload_of) (sym more)

  pub group-span : (new : List Bytes) (p q : Bytes) → q ≡ p → new ≡ group ++ q ∷ [] → length (all_framed new) ≡ span + (5 + length p)
  group-span new p q view pushed =
      let bytes : all_framed new ≡ all_framed group ++ (framed q ++ []) = ap all_framed pushed ∙ flat_map-append framed group (q ∷ []) in
      omega (arith, ap length bytes, length-append (all_framed group) (framed q ++ []), length-append (framed q) [], stands, ap length view)

  pub group-payable : AllByRecursion IsPayable (drop i calls) → AllByRecursion IsPayable (drop (i + 1) calls)
  group-payable all = (subst (AllByRecursion IsPayable) split all).1

  pub group-payloads : (p : Bytes) → IsPayloadOf p r.caller r.event → AllByRecursion HasPayload (take i calls) → AllByRecursion HasPayload (take (i + 1) calls)
  group-payloads p pays all = subst (AllByRecursion HasPayload) (sym more) (all-push HasPayload (take i calls) r all (own-payload p r pays))

  -- it would make the group longer than so many bytes
  pub group-long : (most : ℕ) (p : Bytes) → payload_of r ≡ p → most < span + (5 + length p) → most < length (all_framed (map payload_of (take (i + 1) calls)))
  group-long most p same long =
      let new : List Bytes = group ++ p ∷ [] in
      omega (arith, long, group-span new p p refl refl, ap (λ ps. length (all_framed ps)) (group-are new p p same refl refl))
