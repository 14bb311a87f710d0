-- Records that are compared with calls one after another.
use Rattle.store_keep.proofs.Common.{[], ℕ, ◌++◌, ◌+◌, ◌-◌, ◌<◌, ◌^◌, ◌∙◌, ◌∷◌, ◌≡◌, ◌≤◌, all_framed, all_short, ap, append_assoc, arith, Bool, Bytes, closed, drop, false, finds, frame, framed, framed-more, frames, frames_from}
use Rattle.store_keep.proofs.Common.{if◌then◌else◌, is_call, IsFrame, length, length-append, length-drop, length-take-le, List, map, map_push, None, one_framed, Option, payload_of, Recorded, refl, slice_get, Some, subst, suc, sym, take}
use Rattle.store_keep.proofs.Common.{true, with_gate, zero}
use Rattle.std.specs.List.{AllByRecursion}
use Rattle.std.proofs.lemmas.Slice.Eq.{bytes_eq-Decides}
use Rattle.store_disk.specs.declared.frames.Frame.TheVariants as front
use Rattle.store_disk.specs.Image.{Frames}
use Rattle.store_keep.specs.declared.finding.Found.{Found}
use Rattle.store_keep.specs.declared.finding.Found.TheVariants as found

-- an item of a list, and what stands before it
item : {X : Type 0} (xs : List X) (i : ℕ) (x : X) → slice_get xs i ≡ Some x → (suc i ≤ length xs) × (take (suc i) xs ≡ take i xs ++ x ∷ [])
item [] zero x is = absurd cc
item [] (suc i) x is = absurd cc
item (y ∷ ys) zero x is = let same : y ≡ x = cc in (omega arith, ap (λ z. z ∷ []) same)
item (y ∷ ys) (suc i) x is = let more = item ys i x is in (omega (arith, more.0), ap (λ zs. y ∷ zs) more.1)

-- one record more is compared
found-at : (n : ℕ) (calls : List Recorded) (i : ℕ) (p : Bytes) (others : Frames) (place : ℕ)
    → finds n (map payload_of (drop i calls)) (frame place p others) ≡ (if is_call (slice_get calls i) p then finds (n + 1) (map payload_of (drop (suc i) calls)) others else found.Differs (n + 1))
found-at n [] zero p others place = refl
found-at n [] (suc i) p others place = refl
found-at n (c ∷ cs) zero p others place = refl
found-at n (c ∷ cs) (suc i) p others place = found-at n cs i p others place

called : (o : Option Recorded) (p : Bytes) → is_call o p ≡ true → (r : Recorded) × (o ≡ Some r) × (payload_of r ≡ p)
called None p same = absurd cc
called (Some r) p same = (r, refl, (bytes_eq-Decides (payload_of r) p).0 same)

-- bytes of an image that was looked at as a disk with a gate are framed from their front
frames-whole : (image : List ℕ) → with_gate image ≡ image → frames_from 0 0 image ≡ frames image
frames-whole [] gate = absurd cc
frames-whole (b ∷ []) gate = let is : b ≡ 0 = cc in subst (λ x. frames_from 0 0 (x ∷ []) ≡ closed 0) (sym is) refl
frames-whole (b ∷ c ∷ rest) gate = refl

-- the payloads of the first calls
abbrev pub firsts : List Recorded → ℕ → List Bytes
firsts calls count = map payload_of (take count calls)

-- how far an image has been compared
pub record Matched (calls : List Recorded) (image rest : List ℕ) (count place : ℕ) : Type 0 where
  pub within : count ≤ length calls
  pub parts : image ≡ all_framed (firsts calls count) ++ rest
  pub stands : place ≡ length (all_framed (firsts calls count))
  pub short : AllByRecursion (λ p. length p < 2 ^ 32) (firsts calls count)
  pub found : finds count (map payload_of (drop count calls)) (frames_from place 0 rest) ≡ finds 0 (map payload_of calls) (frames image)

pub begins : (calls : List Recorded) (image : List ℕ) → with_gate image ≡ image → Matched calls image image 0 0
begins calls image gate = record {
  within = omega arith;
  parts = refl;
  stands = refl;
  short = tt;
  found = ap (finds 0 (map payload_of calls)) (frames-whole image gate);
}

module _ {calls : List Recorded} {image rest : List ℕ} {count place : ℕ} (so_far : Matched calls image rest count place) (len : ℕ) (here : IsFrame rest (front.Record len)) where
  -- the payload as it is cut out
  abbrev pub cut_out : Bytes
  cut_out = take (5 + len - 5) (drop 5 rest)

  same : cut_out ≡ take len (drop 5 rest)
  same = let many : 5 + len - 5 ≡ len = omega arith in ap (λ n. take n (drop 5 rest)) many

  size : length cut_out ≡ len
  size = ap length same ∙ length-take-le len (drop 5 rest) (omega (arith, length-drop 5 rest, here.0))

  cut : rest ≡ framed cut_out ++ drop (5 + len) rest
  cut = here.2 ∙ ap (λ q. framed q ++ drop (5 + len) rest) (sym same)

  abbrev others : Frames
  others = frames_from (place + (5 + length cut_out)) 0 (drop (5 + len) rest)

  first : frames_from place 0 rest ≡ frame place cut_out others
  first = ap (frames_from place 0) cut ∙ one_framed cut_out (drop (5 + len) rest) place (omega (arith, size, here.1))

  abbrev next : Bool → Found
  next b = if b then finds (count + 1) (map payload_of (drop (suc count) calls)) others else found.Differs (count + 1)

  compared : (b : Bool) → is_call (slice_get calls count) cut_out ≡ b → next b ≡ finds 0 (map payload_of calls) (frames image)
  compared b is = ap next (sym is) ∙ sym (found-at count calls count cut_out others place) ∙ ap (finds count (map payload_of (drop count calls))) (sym first) ∙ so_far.found

  -- it is not that call
  pub differs-here : is_call (slice_get calls count) cut_out ≡ false → found.Differs (count + 1) ≡ finds 0 (map payload_of calls) (frames image)
  differs-here differs = compared false differs

  -- it is that call
  pub goes-on : (after : List ℕ) (one at : ℕ) → after ≡ drop (5 + len) rest → one ≡ count + 1 → at ≡ place + (5 + len) → is_call (slice_get calls count) cut_out ≡ true → Matched calls image after one at
  goes-on after one at behind counts stands hits =
      let hit = called (slice_get calls count) cut_out hits in
      let there = item calls count hit.0 hit.1 in
      let more : firsts calls (suc count) ≡ firsts calls count ++ cut_out ∷ [] =
      ap (map payload_of) there.1 ∙ map_push payload_of (take count calls) hit.0 ∙ ap (λ q. firsts calls count ++ q ∷ []) hit.2 in
      let longer : all_framed (firsts calls (suc count)) ≡ all_framed (firsts calls count) ++ framed cut_out = ap all_framed more ∙ framed-more (firsts calls count) cut_out in
      let plus : suc count ≡ count + 1 = omega arith in
      let reached : place + (5 + length cut_out) ≡ at = omega (arith, stands, size) in
      subst (λ a. Matched calls image a one at) (sym behind)
      (subst (λ n. Matched calls image (drop (5 + len) rest) n at) (plus ∙ sym counts)
      (record {
        within = there.0;
        parts =
            so_far.parts ∙ ap (λ l. all_framed (firsts calls count) ++ l) cut ∙ sym (append_assoc (all_framed (firsts calls count)) (framed cut_out) (drop (5 + len) rest))
            ∙ ap (λ l. l ++ drop (5 + len) rest) (sym longer);
        stands = omega (arith, reached, so_far.stands, ap length longer, length-append (all_framed (firsts calls count)) (framed cut_out));
        short = subst (AllByRecursion (λ x. length x < 2 ^ 32)) (sym more) (all_short (firsts calls count) cut_out so_far.short (omega (arith, size, here.1)));
        found =
            ap (λ n. finds n (map payload_of (drop (suc count) calls)) (frames_from at 0 (drop (5 + len) rest))) plus
            ∙ ap (λ g. finds (count + 1) (map payload_of (drop (suc count) calls)) (frames_from g 0 (drop (5 + len) rest))) (sym reached) ∙ compared true hits;
      }))
