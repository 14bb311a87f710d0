-- The beginning of a line of a journal tells its caller: names hold no space, and actors have names of their own.
use Rattle.std.proofs.Common.{◌≡◌, ◌≢◌, ℕ, suc, ◌+◌, ◌-◌, ◌≤◌, ◌==◌, ne_eqb, true, false, List, [], ◌∷◌, ◌++◌, length, take, Option, Some, refl, sym, ap, ◌∙◌, subst, arith, lit≤, inl, inr, append_assoc, if◌then◌else◌, ◌&&◌, codes, decimal}
use Rattle.std.proofs.{Common.{slice_get, drop}, lemmas.Slice.Eq.bytes_eq-Decides, lemmas.Bool.Decides.{Decides-eqb, Decides-like, same_from_decides}, lemmas.List.{append_cancel_left, take-append-drop}}
use Rattle.audit_model.proofs.Common.{actor_name, ActorDecl, AllRows, begins, Bytes, caller_from, caller_in, caller_text, case_shown, CaseEntry, cut-together, ended, ending, event_text, File, IsActor, IsAuditable, IsNamed, IsOneLine}
use Rattle.audit_model.proofs.{Common.{kind_event_text, kind_reply_text, kind_shown, KindEntry, line_start, lines_of, reply_text, row-at, slice_get_cases, by-test}, OneLine.name-without, OneLineTexts.start-one}

-- ---- beginnings
-- what begins a text, and its rest
begins-with : (front text : Bytes) → begins front text ≡ true → (rest : Bytes) × (text ≡ front ++ rest)
begins-with front text is =
    (drop (length front) text, sym (take-append-drop (length front) text) ∙ ap (λ xs. xs ++ drop (length front) text) ((bytes_eq-Decides (take (length front) text) front).0 is))

pub take-front : {X : Type 0} (front rest : List X) → take (length front) (front ++ rest) ≡ front
take-front [] rest = refl
take-front (x ∷ xs) rest = ap (λ zs. x ∷ zs) (take-front xs rest)

begins-own : (front rest : Bytes) → begins front (front ++ rest) ≡ true
begins-own front rest = (bytes_eq-Decides (take (length front) (front ++ rest)) front).1 (take-front front rest)

-- words without a space, each with a space behind it
abbrev IsSolid : Bytes → Type 0
IsSolid w = AllRows (λ b. (b == 32) ≡ false) w

same-words : (v w xs ys : Bytes) → IsSolid v → IsSolid w → v ++ 32 ∷ xs ≡ w ++ 32 ∷ ys → v ≡ w
same-words [] [] xs ys solid_v solid_w same = refl
same-words [] (b ∷ w) xs ys solid_v solid_w same = let first : 32 ≡ b = cc (same) in let not = solid_w.0 in absurd (cc (first, not))
same-words (a ∷ v) [] xs ys solid_v solid_w same = let first : a ≡ 32 = cc (same) in let not = solid_v.0 in absurd (cc (first, not))
same-words (a ∷ v) (b ∷ w) xs ys solid_v solid_w same =
    let first : a ≡ b = cc (same) in
    let more : v ++ 32 ∷ xs ≡ w ++ 32 ∷ ys = cc (same) in
    ap (λ z. z ∷ v) first ∙ ap (λ zs. b ∷ zs) (same-words v w xs ys solid_v.1 solid_w.1 more)

module _ (f : File) (auditable : IsAuditable f) where
  -- ---- the name of an actor
  actor-at : (a : ℕ) → IsActor f a → (d : ActorDecl) × (slice_get f.actors (a - 1) ≡ Some d)
  actor-at a actor = elim (slice_get_cases f.actors (a - 1)).1 [
    | inl there ↦ (there.0, there.2)
    | inr past ↦ absurd (omega (arith, past.0, actor.0, actor.1))
  ]

  caller-named : (a : ℕ) (d : ActorDecl) → IsActor f a → slice_get f.actors (a - 1) ≡ Some d → caller_text f a ≡ d.name
  caller-named a d actor at =
      ap (λ test. if test then codes "-" else actor_name (slice_get f.actors (a - 1)) a) (ne_eqb a 0 (λ same. omega (arith, actor.0, same)))
      ∙ ap (λ (o : Option ActorDecl). actor_name o a) at

  -- ---- where a line begins with another actor, it is that actor
  start-parts : (k a : ℕ) (rest : Bytes) → line_start f k a ++ rest ≡ (decimal k ++ codes " ") ++ (caller_text f a ++ 32 ∷ rest)
  start-parts k a rest =
      append_assoc (decimal k) (codes " " ++ (caller_text f a ++ codes " ")) rest
      ∙ (ap (λ bs. decimal k ++ 32 ∷ bs) (append_assoc (caller_text f a) (codes " ") rest)
      ∙ sym (append_assoc (decimal k) (codes " ") (caller_text f a ++ 32 ∷ rest)))

  same-caller : (k a b : ℕ) (rest : Bytes) → IsActor f a → IsActor f b → begins (line_start f k b) (line_start f k a ++ rest) ≡ true → a ≡ b
  same-caller k a b rest is_a is_b begun =
      let (d, at_a) = actor-at a is_a in
      let (e, at_b) = actor-at b is_b in
      let (more, same) = begins-with (line_start f k b) (line_start f k a ++ rest) begun in
      let both : (decimal k ++ codes " ") ++ (caller_text f a ++ 32 ∷ rest) ≡ (decimal k ++ codes " ") ++ (caller_text f b ++ 32 ∷ more) = sym (start-parts k a rest) ∙ (same ∙ start-parts k b more) in
      let names : caller_text f a ++ 32 ∷ rest ≡ caller_text f b ++ 32 ∷ more = append_cancel_left (decimal k ++ codes " ") (caller_text f a ++ 32 ∷ rest) (caller_text f b ++ 32 ∷ more) both in
      let named : d.name ++ 32 ∷ rest ≡ e.name ++ 32 ∷ more = ap (λ n. n ++ 32 ∷ rest) (sym (caller-named a d is_a at_a)) ∙ (names ∙ ap (λ n. n ++ 32 ∷ more) (caller-named b e is_b at_b)) in
      let solid_d = name-without 32 (lit≤ tt) d.name (row-at IsNamed f.actors (a - 1) d auditable.actors at_a) in
      let solid_e = name-without 32 (lit≤ tt) e.name (row-at IsNamed f.actors (b - 1) e auditable.actors at_b) in
      let is : a - 1 ≡ b - 1 = auditable.apart (a - 1) (b - 1) d e at_a at_b (same-words d.name e.name rest more solid_d solid_e named) in
      omega (arith, is, is_a.0, is_b.0)

  -- ---- the first actor whose beginning the line has
  found : (k a : ℕ) (rest : Bytes) → IsActor f a → (b : ℕ) (ds : List ActorDecl) → 1 ≤ b → b + length ds ≡ suc (length f.actors) → b ≤ a → caller_from f k (line_start f k a ++ rest) b ds ≡ Some a
  found k a rest actor b [] low many near = absurd (omega (arith, many, near, actor.1))
  found k a rest actor b (d ∷ ds) low many near =
      let line = line_start f k a ++ rest in
      by-test (λ test. (if test then Some b else caller_from f k line (b + 1) ds) ≡ Some a) (begins (line_start f k b) line)
      (λ begun. ap Some (sym (same-caller k a b rest actor (low, omega (arith, many)) begun)))
      (λ not.
      let other : b ≢ a = λ same. cc (subst (λ n. begins (line_start f k n) line ≡ true) (sym same) (begins-own (line_start f k a) rest), not) in
      found k a rest actor (b + 1) ds (omega (arith, low)) (omega (arith, many)) (omega (arith, near, other)))

  tells-callers : (k a : ℕ) (rest : Bytes) → IsActor f a → caller_in f k (line_start f k a ++ rest) ≡ Some a
  tells-callers k a rest actor = found k a rest actor 1 f.actors (lit≤ tt) (omega arith) actor.0

  pub tells-kind : (k : ℕ) (e : KindEntry) → IsActor f e.caller → caller_in f k (kind_shown f k e) ≡ Some e.caller
  tells-kind k e actor = tells-callers k e.caller (kind_event_text e.event ++ (codes " -> " ++ kind_reply_text f e.reply)) actor

  pub tells-case : (k : ℕ) (e : CaseEntry) → IsActor f e.caller → caller_in f k (case_shown f k e) ≡ Some e.caller
  tells-case k e actor = tells-callers k e.caller (event_text f e.event ++ (codes " -> " ++ reply_text f e.reply)) actor

-- ---- whose call a line shows is seen at its beginning, whatever stands behind the line
pub other-way : (x y : ℕ) → (x == y) ≡ (y == x)
other-way x y = same_from_decides (x == y) (y == x) (Decides-eqb x y) (Decides-like (y == x) sym sym (Decides-eqb y x))

-- what holds no line feed begins a line or what begins with the line
begins-line : (front line more : Bytes) → IsOneLine front → begins front (line ++ 10 ∷ more) ≡ begins front line
begins-line [] line more one = refl
begins-line (x ∷ xs) [] more (not, one) = rw (other-way 10 x ∙ not) refl
begins-line (x ∷ xs) (y ∷ ys) more (not, one) = ap (λ test. (y == x) && test) (begins-line xs ys more one)

module _ (f : File) (auditable : IsAuditable f) where
  caller-line : (k : ℕ) (line more : Bytes) (a : ℕ) (ds : List ActorDecl) → ((b : ℕ) → IsOneLine (line_start f k b)) → caller_from f k (line ++ 10 ∷ more) a ds ≡ caller_from f k line a ds
  caller-line k line more a [] one = refl
  caller-line k line more a (d ∷ ds) one =
      ap (λ test. if test then Some a else caller_from f k (line ++ 10 ∷ more) (a + 1) ds) (begins-line (line_start f k a) line more (one a))
      ∙ ap (λ o. if begins (line_start f k a) line then Some a else o) (caller-line k line more (a + 1) ds one)

  -- so the rest of a text shows the caller of its first line
  pub caller-of-first : (k : ℕ) (text m : Bytes) (rest : List Bytes) → ended text ≡ m ∷ rest → caller_in f k m ≡ caller_in f k text
  caller-of-first k text m rest is =
      let more : Bytes = ending rest ++ (lines_of text).left in
      let there : text ≡ m ++ 10 ∷ more = sym (cut-together text) ∙ (ap (λ ls. ending ls ++ (lines_of text).left) is ∙ append_assoc m (10 ∷ ending rest) (lines_of text).left) in
      sym (ap (caller_in f k) there ∙ caller-line k m more 1 f.actors (start-one f auditable k))
