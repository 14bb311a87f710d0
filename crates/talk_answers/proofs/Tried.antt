-- What is tried is what would be told behind the call.
use Rattle.talk_answers.proofs.Common.{[], ℕ, ◌&&◌, ◌++◌, ◌+◌, ◌-◌, ◌<◌, ◌==◌, ◌∙◌, ◌∷◌, ◌≡◌, ◌≤◌, and_parts, ap, append-nil, append_assoc, arith, Bool, Bytes, call_case, call_kind, call_of, call_tried, case_entry, case_numbered}
use Rattle.talk_answers.proofs.Common.{case_tried, CaseId, cells_in, cells_of, cells_told, changed_at, changed_where, each_of, each_tried, entries, entries_of_each, entry_at, entry_of_case, entry_of_kind, eqb-true, Event, false, File}
use Rattle.talk_answers.proofs.Common.{if_both, if_there, if◌then◌else◌, IsOf, kind_entry, kind_numbered, kind_tried, List, ltb-false, nat_lt, next_case_entry, next_kind_entry, None, on_case, on_each, on_kind, Option, place_of, places_of}
use Rattle.talk_answers.proofs.{Common.{Placing, position_from, refl, roles_of, Some, suc, sym, take, told_to, told_tried, tried, tried_at, true, VersionModel, worked, zero}, Last.last-of}
use Rattle.std.specs.Prelude.{flat_map, option_map, slice_get}
use Rattle.case_core.specs.declared.events.Event.TheVariants as event
use Rattle.file_model.specs.{CaseCounts.{has_id, is_among}, declared.files.Act.Act, declared.files.CaseDecl.CaseDecl, declared.files.Line.Line}
use Rattle.file_model.specs.declared.files.Act.TheVariants as act
use Rattle.line_calls.proofs.Places.{position-from_0}
use Rattle.line_calls.specs.{declared.calls.Call.Call, declared.calls.Told.Told}
use Rattle.line_calls.specs.declared.calls.Told.TheVariants as told
use Rattle.script_run.specs.{Entries.{CaseEntry, KindEntry}, declared.runs.ClosedCase.ClosedCase, declared.runs.ClosedKind.ClosedKind}
use Rattle.type_core.specs.declared.events.KindEvent.{KindEvent}
use Rattle.type_core.specs.declared.events.KindEvent.TheVariants as kind_event
use Rattle.unit_run.proofs.{Each.at-position, Placed.place-found, PutBack.{changed_at-none, changed_at-suc, got-none}}

-- ---- lists
one-got : {X : Type 0} (g : X → X) (i : ℕ) (xs : List X) → slice_get (changed_at g i xs) i ≡ option_map g (slice_get xs i)
one-got g i [] = ap (λ l. slice_get l i) (changed_at-none g i) ∙ got-none i ∙ sym (ap (option_map g) (got-none i))
one-got g zero (x ∷ xs) = refl
one-got g (suc i) (x ∷ xs) = ap (λ l. slice_get l (suc i)) (changed_at-suc g i x xs) ∙ one-got g i xs

there-mapped : {X : Type 0} (F : X → Bytes) (g : X → X) (o : Option X) → if_there F (option_map g o) ≡ if_there (λ x. F (g x)) o
there-mapped F g None = refl
there-mapped F g (Some x) = refl

both-mapped : {X Y : Type 0} (F : X → Y → Bytes) (g : Y → Y) (d : Option X) (o : Option Y) → if_both F d (option_map g o) ≡ if_both (λ x y. F x (g y)) d o
both-mapped F g None o = refl
both-mapped F g (Some x) None = refl
both-mapped F g (Some x) (Some y) = refl

-- one text more
one-more : {X : Type 0} (F : X → Bytes) (i : ℕ) (xs : List X) → flat_map F (take (suc i) xs) ≡ flat_map F (take i xs) ++ if_there F (slice_get xs i)
one-more F zero [] = refl
one-more F (suc i) [] = refl
one-more F zero (x ∷ xs) = append-nil (F x)
one-more F (suc i) (x ∷ xs) = ap (λ l. F x ++ l) (one-more F i xs) ∙ sym (append_assoc (F x) (flat_map F (take i xs)) (if_there F (slice_get xs i)))

pub one-text : {X : Type 0} (F : X → Bytes) (i : ℕ) (xs : List X) → flat_map F (take (i + 1) xs) ≡ flat_map F (take i xs) ++ if_there F (slice_get xs i)
one-text F i xs = let one : i + 1 ≡ suc i = omega arith in ap (λ n. flat_map F (take n xs)) one ∙ one-more F i xs

-- ---- a type, and a case
pub kind-same : (f : File) (p : Placing) (a : ℕ) (e : KindEvent) (t : ℕ) → kind_tried f p a e t ≡ entry_of_kind f (record p { run = on_kind a t e p.run }) t
kind-same f p a e t = sym (ap (if_there (kind_entry f t)) (one-got (call_kind a e) t p.run.kinds) ∙ there-mapped (kind_entry f t) (call_kind a e) (slice_get p.run.kinds t))

at-same : (f : File) (cs : List ClosedCase) (a : ℕ) (e : Event) (i : ℕ) → if_both (case_entry f) (slice_get f.cases i) (slice_get (changed_at (call_case a e) i cs) i) ≡ if_both (λ d c. case_entry f d (call_case a e c)) (slice_get f.cases i) (slice_get cs i)
at-same f cs a e i = ap (if_both (case_entry f) (slice_get f.cases i)) (one-got (call_case a e) i cs) ∙ both-mapped (case_entry f) (call_case a e) (slice_get f.cases i) (slice_get cs i)

where-same : (f : File) (cs : List ClosedCase) (a : ℕ) (e : Event) (o : Option ℕ)
    → if_there (λ i. if_both (case_entry f) (slice_get f.cases i) (slice_get (changed_where (call_case a e) o cs) i)) o ≡ if_there (λ i. if_both (λ d c. case_entry f d (call_case a e c)) (slice_get f.cases i) (slice_get cs i)) o
where-same f cs a e None = refl
where-same f cs a e (Some i) = at-same f cs a e i

pub case-same : (f : File) (p : Placing) (a : ℕ) (e : Event) (c : CaseId) → IsOf f.cases p → case_tried f p a e c ≡ entry_of_case f (record p { run = on_case f a c e p.run }) c
case-same f p a e c of =
    let o = slice_get (places_of c.type_no p.placed.types) c.place in
    let same : o ≡ place_of f c = place-found f c p.placed.types of.types of.placed in
    sym (ap (λ w. if_there (λ i. if_both (case_entry f) (slice_get f.cases i) (slice_get (changed_where (call_case a e) w p.run.cases) i)) o) (sym same) ∙ where-same f p.run.cases a e o)

-- ---- each of the first so many cases of a type
each-got : (t many : ℕ) (g : ClosedCase → ClosedCase) (ds : List CaseDecl) (cs : List ClosedCase) (p : ℕ) (d : CaseDecl) → slice_get ds p ≡ Some d → is_among t many d ≡ true → slice_get (each_of t many g ds cs) p ≡ option_map g (slice_get cs p)
each-got t many g [] cs p d at among = absurd (cc (sym (got-none p) ∙ at))
each-got t many g (x ∷ ds) [] p d at among = got-none p ∙ sym (ap (option_map g) (got-none p))
each-got t many g (x ∷ ds) (y ∷ cs) zero d at among =
    let is : x ≡ d = cc (at) in
    ap (λ b. Some (if b then g y else y)) (ap (is_among t many) is ∙ among)
each-got t many g (x ∷ ds) (y ∷ cs) (suc p) d at among = each-got t many g ds cs p d at among

-- the case with a place among those of its type is one of the first so many
among : (t i many : ℕ) (d : CaseDecl) → i < many → has_id (record { type_no = t; place = i }) d ≡ true → is_among t many d ≡ true
among t i many d low is =
    let both = and_parts (d.id.type_no == t) (d.id.place == i) is in
    let place : d.id.place ≡ i = eqb-true d.id.place i both.1 in
    ap (λ b. b && nat_lt d.id.place many) both.0 ∙ less (nat_lt d.id.place many) refl place
  where
    less : (b : Bool) → nat_lt d.id.place many ≡ b → d.id.place ≡ i → nat_lt d.id.place many ≡ true
    less true is_so place = is_so
    less false not_so place = absurd (omega (arith, place, low, ltb-false d.id.place many not_so))

module _ (f : File) (p : Placing) (a : ℕ) (e : Event) (t many : ℕ) (of : IsOf f.cases p) where
  abbrev behind : Placing
  behind = record p { run = on_each f a t many e p.run }

  -- of the case with that place among those of the type
  told-at : (i : ℕ) (o : Option ℕ) → i < many → place_of f (record { type_no = t; place = i }) ≡ o → if_there (tried_at f p a e) o ≡ if_there (entry_at f behind) o
  told-at i None low is = refl
  told-at i (Some q) low is =
      let c : CaseId = record { type_no = t; place = i } in
      let first : position_from (has_id c) 0 f.cases ≡ Some q = position-from_0 (has_id c) f.cases ∙ is in
      let r = at-position (has_id c) 0 f.cases q first in
      let none : q ≡ q - 0 = omega arith in
      let at : slice_get f.cases q ≡ Some r.0 = ap (slice_get f.cases) none ∙ r.1 in
      let got = each-got t many (call_case a e) f.cases p.run.cases q r.0 at (among t i many r.0 low r.2) in
      sym (ap (if_both (case_entry f) (slice_get f.cases q)) got ∙ both-mapped (case_entry f) (call_case a e) (slice_get f.cases q) (slice_get p.run.cases q))

  first-same : (n : ℕ) → n ≤ many → flat_map (tried_at f p a e) (take n (places_of t p.placed.types)) ≡ flat_map (entry_at f behind) (take n (places_of t p.placed.types))
  first-same zero low = refl
  first-same (suc n) low =
      let xs = places_of t p.placed.types in
      let c : CaseId = record { type_no = t; place = n } in
      let found : slice_get xs n ≡ place_of f c = place-found f c p.placed.types of.types of.placed in
      let here : if_there (tried_at f p a e) (slice_get xs n) ≡ if_there (entry_at f behind) (slice_get xs n) =
      ap (if_there (tried_at f p a e)) found ∙ (told-at n (place_of f c) (omega (arith, low)) refl ∙ sym (ap (if_there (entry_at f behind)) found)) in
      one-more (tried_at f p a e) n xs
      ∙ ap (λ l. l ++ if_there (tried_at f p a e) (slice_get xs n)) (first-same n (omega (arith, low)))
      ∙ ap (λ l. flat_map (entry_at f behind) (take n xs) ++ l) here
      ∙ sym (one-more (entry_at f behind) n xs)

  pub each-same : each_tried f p a e t many ≡ entries_of_each f behind t many
  each-same = first-same many (omega arith)

-- ---- a call
both : {k l m n : Bytes} → k ≡ l → m ≡ n → k ++ m ≡ l ++ n
both {k} {l} {m} {n} e h = ap (λ x. x ++ m) e ∙ ap (λ x. l ++ x) h

pub told-same : (f : File) (p : Placing) (a t : ℕ) (w : Told) (o : Option VersionModel) → IsOf f.cases p
    → kind_tried f p a kind_event.Newest t ++ told_tried f p a t w o ≡ entries f (record p { run = told_to f a t w o (on_kind a t kind_event.Newest p.run) }) (cells_told t w)
told-same f p a t (told.Create c) None of = ap (λ l. l ++ entry_of_case f p c) (kind-same f p a kind_event.Newest t)
told-same f p a t (told.Create c) (Some v) of = both (kind-same f p a kind_event.Newest t) (case-same f p a (event.Create v) c of)
told-same f p a t (told.Migrate many) None of = ap (λ l. l ++ entries_of_each f p t many) (kind-same f p a kind_event.Newest t)
told-same f p a t (told.Migrate many) (Some v) of = both (kind-same f p a kind_event.Newest t) (each-same f p a (event.Migrate v) t many of)

-- ---- a line calls the same types and cases, whoever it is of
pub cells-same : (a : ℕ) (roles : List ℕ) (x : Act) → cells_in (call_of a roles x) ≡ cells_of x
cells-same a roles (act.Create c) = refl
cells-same a roles (act.Start c n) = refl
cells-same a roles (act.Withdraw c n) = refl
cells-same a roles (act.End c n choice writes) = refl
cells-same a roles (act.Change c ops) = refl
cells-same a roles (act.Install t ops) = refl
cells-same a roles (act.Migrate t many) = refl

-- ---- the entry that a journal would have more
pub kind-more : (f : File) (t a : ℕ) (e : KindEvent) (k : ClosedKind) → kind_numbered f t (next_kind_entry a e k).0 (next_kind_entry a e k).1 ≡ kind_entry f t (call_kind a e k)
kind-more f t a e k = sym (last-of (kind_numbered f t) k.journal (next_kind_entry a e k).1)

pub case-more : (f : File) (d : CaseDecl) (a : ℕ) (e : Event) (c : ClosedCase) → case_numbered f d (next_case_entry a e c).0 (next_case_entry a e c).1 ≡ case_entry f d (call_case a e c)
case-more f d a e c = sym (last-of (case_numbered f d) c.journal (next_case_entry a e c).1)

pub kind-told : (f : File) (p : Placing) (a : ℕ) (e : KindEvent) (t n : ℕ) (x : KindEntry) → Some (n, x) ≡ option_map (next_kind_entry a e) (slice_get p.run.kinds t) → kind_numbered f t n x ≡ kind_tried f p a e t
kind-told f p a e t n x is = by (slice_get p.run.kinds t) is
  where
    by : (o : Option ClosedKind) → Some (n, x) ≡ option_map (next_kind_entry a e) o → kind_numbered f t n x ≡ if_there (λ k. kind_entry f t (call_kind a e k)) o
    by None is = absurd (cc (is))
    by (Some k) is = let same : (n, x) ≡ next_kind_entry a e k = cc (is) in ap (λ (q : ℕ × KindEntry). kind_numbered f t q.0 q.1) same ∙ kind-more f t a e k

pub kind-untold : (f : File) (p : Placing) (a : ℕ) (e : KindEvent) (t : ℕ) → None ≡ option_map (next_kind_entry a e) (slice_get p.run.kinds t) → [] ≡ kind_tried f p a e t
kind-untold f p a e t is = by (slice_get p.run.kinds t) is
  where
    by : (o : Option ClosedKind) → None ≡ option_map (next_kind_entry a e) o → [] ≡ if_there (λ k. kind_entry f t (call_kind a e k)) o
    by None is = refl
    by (Some k) is = absurd (cc (is))

pub at-told : (f : File) (p : Placing) (a : ℕ) (e : Event) (i : ℕ) (d : CaseDecl) (n : ℕ) (x : CaseEntry) → slice_get f.cases i ≡ Some d → Some (n, x) ≡ option_map (next_case_entry a e) (slice_get p.run.cases i)
    → case_numbered f d n x ≡ tried_at f p a e i
at-told f p a e i d n x at is = by (slice_get p.run.cases i) is ∙ sym (ap (λ o. if_both (λ d c. case_entry f d (call_case a e c)) o (slice_get p.run.cases i)) at)
  where
    by : (o : Option ClosedCase) → Some (n, x) ≡ option_map (next_case_entry a e) o → case_numbered f d n x ≡ if_both (λ d c. case_entry f d (call_case a e c)) (Some d) o
    by None is = absurd (cc (is))
    by (Some c) is = let same : (n, x) ≡ next_case_entry a e c = cc (is) in ap (λ (q : ℕ × CaseEntry). case_numbered f d q.0 q.1) same ∙ case-more f d a e c

pub at-untold : (f : File) (p : Placing) (a : ℕ) (e : Event) (i : ℕ) → None ≡ option_map (next_case_entry a e) (slice_get p.run.cases i) → [] ≡ tried_at f p a e i
at-untold f p a e i is = by (slice_get f.cases i) (slice_get p.run.cases i) is
  where
    by : (d : Option CaseDecl) (o : Option ClosedCase) → None ≡ option_map (next_case_entry a e) o → [] ≡ if_both (λ d c. case_entry f d (call_case a e c)) d o
    by None o is = refl
    by (Some d) None is = refl
    by (Some d) (Some c) is = absurd (cc (is))

-- no case was declared there
pub at-nowhere : (f : File) (p : Placing) (a : ℕ) (e : Event) (i : ℕ) → slice_get f.cases i ≡ None → [] ≡ tried_at f p a e i
at-nowhere f p a e i is = sym (ap (λ o. if_both (λ d c. case_entry f d (call_case a e c)) o (slice_get p.run.cases i)) is)

-- ---- a line
pub line-same : (f : File) (p : Placing) (l : Line) (c : Call) → c ≡ call_of l.actor (roles_of f l.actor) l.act → call_tried f p l.actor c ≡ tried f p l
line-same f p l c is = ap (call_tried f p l.actor) is ∙ ap (entries f (record p { run = worked f p.run l })) (cells-same l.actor (roles_of f l.actor) l.act)
