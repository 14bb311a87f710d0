-- A unit that is one item has no line behind its end, and is not left open: so it is refused only by a line of its own.
use Rattle.unit_files.proofs.Common.{[], ℕ, ◌&&◌, ◌++◌, ◌+◌, ◌==◌, ◌∙◌, ◌∷◌, ◌≡◌, a_case, a_deed, a_read, a_sync, a_type, a_write, acted, activity, actor_in, an_actor, an_element, and_parts, ap, around, at_line, at_place, begins_reserved}
use Rattle.unit_files.proofs.Common.{Bool, Bytes, case_declared, case_in, closes_block, conditional, Contents, Declaration, declaration_line, declared, declares, Deed, delete, Draft, element, ended, ends_line, eq-eqb, Err, false, Fault}
use Rattle.unit_files.proofs.Common.{fault_of, first_long, first_phase, fits_in, fitting, formed, GoesOn, Group, group_end, GrowsStep, has_ended, if_known, IfOk, IfSome, if◌then◌else◌, insert, is_end, is_skipped, is_some, is_utf8, IsInUnit}
use Rattle.unit_files.proofs.Common.{IsOneItem, IsOpen, IsWhole, Keyword, keyword, Lands, lines_read, lines_taken, List, map, move, next_phase, None, not, not-true, Ok, opens, opens_and, opens_branch, opens_loop, opens_xor, operated}
use Rattle.unit_files.proofs.Common.{operation_line, OperationLine, Option, outside, parallel, Place, place_behind, place_of, read, refl, refuse, Refused, Result, said_of, SchemaModel, script_line, scripted, ScriptLine, Section, set_role}
use Rattle.unit_files.proofs.Common.{Some, State, Step, step_in, step_in-grows, step_outside, subst, sym, sync, to_change, to_create, to_end, to_install, to_migrate, to_start, to_withdraw, TooLong, true, type_end, type_line, typed}
use Rattle.unit_files.proofs.{Common.{TypeLine, unit_read, unit_taken, unless, unless_long, unless_not_text, unread, unsync, unwrite, whole, Why, without_return, words, words_of, write}, ItemLines.{IsItemLines, item-lines}}
use Rattle.unit_files.proofs.Keywords.{closes_group, closes_type, declaration-tells, group-tells, opens_declaration, opens_deed, opens_script, script-tells, skipped-same, type-tells}
use Rattle.file_model.specs.declared.refusals.Why.TheVariants as why
use Rattle.file_model.specs.declared.states.Section.TheVariants as section
use Rattle.talk_items.specs.Items as items
use Rattle.talk_items.specs.declared.items.Place.TheVariants as places
use Rattle.talk_items.specs.declared.keywords.Keyword.TheVariants as keywords

abbrev LandsStep : Bool → Step → Type 0
LandsStep b o = IfOk o (λ s. Lands b s.place)

-- ---- a state behind tests
unless-lands : (b : Bool) (o : Option Why) (c : Contents) (s : State) → Lands b s.place → LandsStep b (unless o c s)
unless-lands b None c s h = h
unless-lands b (Some w) c s h = tt

known-lands : {A : Type 0} (b : Bool) (o : Option A) (go : A → Step) (c : Contents) → ((x : A) → LandsStep b (go x)) → LandsStep b (if_known o go c)
known-lands b None go c h = tt
known-lands b (Some x) go c h = h x

-- ---- lines outside of types and groups
case-lands : (n : Bytes) (t : Option ℕ) (c : Contents) → LandsStep false (case_declared n t c)
case-lands n None c = tt
case-lands n (Some t) c = unless-lands false _ c _ refl

declared-lands : (d : Declaration) (c : Contents) → LandsStep (opens_declaration d) (declared d c)
declared-lands (a_type n) c = unless-lands true _ c _ tt
declared-lands (an_actor n roles) c = unless-lands false _ c _ refl
declared-lands (a_case n kind) c = case-lands n (place_of c.types.names kind) c
declared-lands first_phase c = unless-lands false _ c _ refl

acted-lands : (d : Deed) (actor at : ℕ) (c : Contents) → LandsStep (opens_deed d) (acted d actor at c)
acted-lands (to_create n) actor at c = known-lands false (case_in n c) _ c (λ id. unless-lands false _ c _ refl)
acted-lands (to_start n node) actor at c = known-lands false (case_in n c) _ c (λ id. unless-lands false _ _ _ refl)
acted-lands (to_withdraw n node) actor at c = known-lands false (case_in n c) _ c (λ id. unless-lands false _ _ _ refl)
acted-lands (to_end n node choice writes) actor at c = known-lands false (case_in n c) _ c (λ id. unless-lands false _ _ _ refl)
acted-lands (to_change n) actor at c = known-lands true (case_in n c) _ c (λ id. unless-lands true _ c _ tt)
acted-lands (to_install n) actor at c = known-lands true (place_of c.types.names n) _ c (λ t. unless-lands true _ c _ tt)
acted-lands (to_migrate n) actor at c = known-lands false (place_of c.types.names n) _ c (λ t. unless-lands false _ c _ refl)

scripted-lands : (l : ScriptLine) (at : ℕ) (c : Contents) → LandsStep (opens_script l) (scripted l at c)
scripted-lands next_phase at c = unless-lands false _ c _ refl
scripted-lands (a_deed a d) at c = known-lands (opens_deed d) (actor_in a c) _ c (λ actor. acted-lands d actor at c)

-- ---- lines of a type
ended-lands : (n : Bytes) (s : SchemaModel) (f : Option Fault) (c : Contents) → LandsStep false (ended n s f c)
ended-lands n s None c = refl
ended-lands n s (Some f) c = tt

typed-lands : (l : TypeLine) (d : Draft) (c : Contents) → LandsStep (not (closes_type l)) (typed l d c)
typed-lands (activity n role) d c = tt
typed-lands (opens_and a b) d c = unless-lands true _ c _ tt
typed-lands (opens_xor a b role) d c = unless-lands true _ c _ tt
typed-lands (opens_branch code) d c = tt
typed-lands (opens_loop a b role) d c = unless-lands true _ c _ tt
typed-lands closes_block d c = tt
typed-lands (a_sync a b) d c = unless-lands true _ _ _ tt
typed-lands (an_element e k) d c = unless-lands true _ _ _ tt
typed-lands (a_read n e mandatory) d c = unless-lands true _ _ _ tt
typed-lands (a_write n e) d c = unless-lands true _ _ _ tt
typed-lands type_end d c = ended-lands d.name (whole d) (fault_of (whole d)) c

-- ---- lines of a group
operated-lands : (l : OperationLine) (g : Group) (c : Contents) → LandsStep (not (closes_group l)) (operated l g c)
operated-lands (insert n r p) g c = unless-lands true _ _ _ tt
operated-lands (parallel n r s j a b) g c = unless-lands true _ _ _ tt
operated-lands (conditional n r s j p) g c = unless-lands true _ _ _ tt
operated-lands (delete n) g c = unless-lands true _ _ _ tt
operated-lands (move n p) g c = unless-lands true _ _ _ tt
operated-lands (sync a b) g c = unless-lands true _ _ _ tt
operated-lands (unsync a b) g c = unless-lands true _ _ _ tt
operated-lands (element e k) g c = unless-lands true _ _ _ tt
operated-lands (read n e m) g c = unless-lands true _ _ _ tt
operated-lands (unread n e) g c = unless-lands true _ _ _ tt
operated-lands (write n e) g c = unless-lands true _ _ _ tt
operated-lands (unwrite n e) g c = unless-lands true _ _ _ tt
operated-lands (set_role n r) g c = unless-lands true _ _ _ tt
operated-lands group_end g c = refl

-- ---- a line
long-lands : (b : Bool) (l : Option TooLong) (c : Contents) (s : Step) → LandsStep b s → LandsStep b (unless_long l c s)
long-lands b None c s h = h
long-lands b (Some l) c s h = tt

formed-lands : {F : Type 0} (b : Bool) (tell : F → Bool) (o : Option F) (ws : List Bytes) (go : F → Step) (c : Contents) → IfSome o (λ f. tell f ≡ b) → ((f : F) → LandsStep (tell f) (go f)) → LandsStep b (formed o ws go c)
formed-lands b tell None ws go c tells h = tt
formed-lands b tell (Some f) ws go c tells h = long-lands b (first_long ws) c (go f) (subst (λ x. LandsStep x (go f)) tells (h f))

text-lands : (b test : Bool) (c : Contents) (s : Step) → LandsStep b s → LandsStep b (unless_not_text test c s)
text-lands b true c s h = h
text-lands b false c s h = tt

declares-reserved : (ws : List Bytes) (c : Contents) → c.format ≡ 3 → declares ws c ≡ begins_reserved ws
declares-reserved ws c is = by (c.format == 3) (eq-eqb c.format 3 is)
  where
    by : (test : Bool) → test ≡ true → (if test then begins_reserved ws else not (is_some c.current)) ≡ begins_reserved ws
    by true e = refl
    by false e = absurd (cc (e))

outside-lands : (at : ℕ) (ws : List Bytes) (c : Contents) → c.format ≡ 3 → is_skipped ws ≡ false → LandsStep (opens (map keyword ws)) (step_outside at ws c)
outside-lands at ws c is spoken =
    subst (λ test. LandsStep b (if test then formed (declaration_line c.format ws) ws (λ d. declared d c) c else formed (script_line c.format ws) ws (λ l. scripted l at c) c)) (sym (declares-reserved ws c is))
    (by (begins_reserved ws) refl)
  where
    b : Bool
    b = opens (map keyword ws)

    by : (test : Bool) → begins_reserved ws ≡ test
        → LandsStep (opens (map keyword ws)) (if test then formed (declaration_line c.format ws) ws (λ d. declared d c) c else formed (script_line c.format ws) ws (λ l. scripted l at c) c)
    by true reserved = formed-lands (opens (map keyword ws)) opens_declaration (declaration_line c.format ws) ws (λ d. declared d c) c (declaration-tells c.format ws) (λ d. declared-lands d c)
    by false free = formed-lands (opens (map keyword ws)) opens_script (script_line c.format ws) ws (λ l. scripted l at c) c (script-tells c.format ws spoken free) (λ l. scripted-lands l at c)

fitting-tells : (b : Bool) (d : Draft) (o : Option TypeLine) → IfSome o (λ l. closes_type l ≡ b) → IfSome (fitting d o) (λ l. not (closes_type l) ≡ not b)
fitting-tells b d None h = tt
fitting-tells b d (Some l) h = by (fits_in (around d.frames) l)
  where
    by : (test : Bool) → IfSome (if test then Some l else None) (λ (k : TypeLine). not (closes_type k) ≡ not b)
    by true = ap not h
    by false = tt

negated : {F : Type 0} (tell : F → Bool) (b : Bool) (o : Option F) → IfSome o (λ f. tell f ≡ b) → IfSome o (λ f. not (tell f) ≡ not b)
negated tell b None h = tt
negated tell b (Some f) h = ap not h

open-lands : (p : Section) (at : ℕ) (line : Bytes) (ws : List Bytes) (c : Contents) → IsOpen p → LandsStep (not (is_end (map keyword ws))) (step_in p at line ws c)
open-lands (section.InType d) at line ws c is =
    let b = is_end (map keyword ws) in
    text-lands (not b) (is_utf8 line) c _ (formed-lands (not b) (λ l. not (closes_type l)) (fitting d (type_line c.format ws)) ws (λ l. typed l d c) c
    (fitting-tells b d (type_line c.format ws) (type-tells c.format ws)) (λ l. typed-lands l d c))
open-lands (section.InGroup g) at line ws c is =
    let b = is_end (map keyword ws) in
    text-lands (not b) (is_utf8 line) c _ (formed-lands (not b) (λ l. not (closes_group l)) (operation_line c.format ws) ws (λ l. operated l g c) c
    (negated closes_group b (operation_line c.format ws) (group-tells c.format ws)) (λ l. operated-lands l g c))
open-lands section.Outside at line ws c is = absurd is
open-lands (section.Head n) at line ws c is = absurd is

-- ---- a line of an item, by where it stands
abbrev At : Place → ℕ → Section → Type 0
At places.Front k p = (k ≡ 0) × (p ≡ section.Outside)
At places.Group k p = IsOpen p

open-goes : (k : ℕ) (p : Section) → IsOpen p → has_ended k p ≡ false
open-goes k (section.InType d) is = refl
open-goes k (section.InGroup g) is = refl
open-goes k section.Outside is = absurd is
open-goes k (section.Head n) is = absurd is

not-ended : (place : Place) (k : ℕ) (p : Section) → At place k p → has_ended k p ≡ false
not-ended places.Front k p at = ap (λ n. has_ended n p) at.0 ∙ ap (has_ended 0) at.1
not-ended places.Group k p at = open-goes k p at

open-in_unit : (p : Section) → IsOpen p → IsInUnit p
open-in_unit (section.InType d) is = tt
open-in_unit (section.InGroup g) is = tt
open-in_unit section.Outside is = absurd is
open-in_unit (section.Head n) is = absurd is

at-in_unit : (place : Place) (k : ℕ) (p : Section) → At place k p → IsInUnit p
at-in_unit places.Front k p at = subst IsInUnit (sym at.1) tt
at-in_unit places.Group k p at = open-in_unit p at

-- a line that says something leaves a type or a group open, or none
abbrev opens_at : Place → List Keyword → Bool
opens_at places.Front ks = opens ks
opens_at places.Group ks = not (is_end ks)

line-lands : (place : Place) (k at : ℕ) (p : Section) (line : Bytes) (c : Contents) → At place k p → c.format ≡ 3 → is_skipped (words_of line) ≡ false
    → LandsStep (opens_at place (map keyword (words_of line))) (step_in p at line (words_of line) c)
line-lands places.Front k at p line c here is spoken =
    let b = opens (map keyword (words_of line)) in
    subst (λ q. LandsStep b (step_in q at line (words_of line) c)) (sym here.1) (text-lands b (is_utf8 line) c (step_outside at (words_of line) c) (outside-lands at (words_of line) c is spoken))
line-lands places.Group k at p line c here is spoken = open-lands p at line (words_of line) c here

stays : (ks : List Keyword) → items.is_skipped ks ≡ true → (opens ks ≡ false) × (is_end ks ≡ false)
stays [] skip = (refl, refl)
stays (keywords.Comment ∷ ks) skip = (refl, refl)
stays (keywords.Question ∷ ks) skip = absurd (cc (skip))
stays (keywords.If ∷ ks) skip = absurd (cc (skip))
stays (keywords.Move ∷ ks) skip = absurd (cc (skip))
stays (keywords.«Type» ∷ ks) skip = absurd (cc (skip))
stays (keywords.Declaration ∷ ks) skip = absurd (cc (skip))
stays (keywords.Change ∷ ks) skip = absurd (cc (skip))
stays (keywords.End ∷ ks) skip = absurd (cc (skip))
stays (keywords.Adept ∷ ks) skip = absurd (cc (skip))
stays (keywords.Format ∷ ks) skip = absurd (cc (skip))
stays (keywords.Other ∷ ks) skip = absurd (cc (skip))

skipped-place : (place : Place) (ks : List Keyword) → items.is_skipped ks ≡ true → place_behind place ks ≡ place
skipped-place places.Front ks skip = ap (λ (b : Bool). if b then places.Group else places.Front) (stays ks skip).0
skipped-place places.Group ks skip = ap (λ (b : Bool). if b then places.Front else places.Group) (stays ks skip).1

-- no item ends with a line that says something: so it opens one, or leaves it open
goes-open : (place : Place) (ks : List Keyword) → items.is_skipped ks ≡ false → ends_line place ks ≡ false → (opens_at place ks ≡ true) × (place_behind place ks ≡ places.Group)
goes-open places.Front ks spoken not_so = by (opens ks) (ap (λ b. not b && not (opens ks)) (sym spoken) ∙ not_so)
  where
    by : (test : Bool) → not test ≡ false → (test ≡ true) × ((if test then places.Group else places.Front) ≡ places.Group)
    by true e = (refl, refl)
    by false e = absurd (cc (e))
goes-open places.Group ks spoken not_so = (ap not not_so, ap (λ (b : Bool). if b then places.Front else places.Group) not_so)

-- with its last line an item leaves none open
end-spoken : (ks : List Keyword) → is_end ks ≡ true → items.is_skipped ks ≡ false
end-spoken [] is = absurd (cc (is))
end-spoken (keywords.End ∷ ks) is = refl
end-spoken (keywords.Comment ∷ ks) is = absurd (cc (is))
end-spoken (keywords.Question ∷ ks) is = refl
end-spoken (keywords.If ∷ ks) is = refl
end-spoken (keywords.Move ∷ ks) is = refl
end-spoken (keywords.«Type» ∷ ks) is = refl
end-spoken (keywords.Declaration ∷ ks) is = refl
end-spoken (keywords.Change ∷ ks) is = refl
end-spoken (keywords.Adept ∷ ks) is = refl
end-spoken (keywords.Format ∷ ks) is = refl
end-spoken (keywords.Other ∷ ks) is = refl

ends-closed : (place : Place) (ks : List Keyword) → ends_line place ks ≡ true → (items.is_skipped ks ≡ false) × (opens_at place ks ≡ false)
ends-closed places.Front ks is = let both = and_parts (not (items.is_skipped ks)) (not (opens ks)) is in (not-true (items.is_skipped ks) both.0, not-true (opens ks) both.1)
ends-closed places.Group ks is = (end-spoken ks is, ap not is)

-- ---- all lines of an item
abbrev Matches : Result Contents Refused → Result State Refused → Type 0
Matches (Ok d) (Ok t) = t ≡ outside d
Matches (Ok d) (Err r) = ⊥
Matches (Err q) (Ok t) = ⊥
Matches (Err q) (Err r) = q ≡ r

abbrev MatchesOn : ℕ → State → List Bytes → Type 0
MatchesOn k s ls = Matches (lines_read (Ok s) k ls) (lines_taken (Ok s) k ls)

one-matches : (k : ℕ) (c : Contents) (ls : List Bytes) (test : Bool) (o : Step) → test ≡ false → ((t : State) → o ≡ Ok t → MatchesOn (k + 1) t ls)
    → Matches (lines_read (at_line (k + 1) (if test then refuse c why.Form else o)) (k + 1) ls) (lines_taken (at_line (k + 1) o) (k + 1) ls)
one-matches k c ls true o goes h = absurd (cc (goes))
one-matches k c ls false (Ok t) goes h = h t refl
one-matches k c ls false (Err p) goes h = refl

end-matches : (k : ℕ) (p : Section) (c : Contents) → p ≡ section.Outside → MatchesOn k (at_place p c) []
end-matches k section.Outside c is = refl
end-matches k (section.Head n) c is = absurd (cc)
end-matches k (section.InType d) c is = absurd (cc)
end-matches k (section.InGroup g) c is = absurd (cc)

format-stays : (c : Contents) (o : Step) (t : State) → GrowsStep c o → o ≡ Ok t → c.format ≡ 3 → t.contents.format ≡ 3
format-stays c o t grows is three = let one : GrowsStep c (Ok t) = subst (λ x. GrowsStep c x) is grows in one.1 ∙ three

lands-there : (b : Bool) (o : Step) (t : State) → LandsStep b o → o ≡ Ok t → Lands b t.place
lands-there b o t h is = subst (λ x. LandsStep b x) is h

-- the lines of the rest of an item, of which the first stands there
abbrev ReadAlike : Place → List Bytes → Type 0
ReadAlike place ls = (k : ℕ) (s : State) → At place k s.place → s.contents.format ≡ 3 → MatchesOn k s (said_of ls)

-- what says something is read, and what does not is left out
one-said : (place : Place) (l : Bytes) (ls : List Bytes) → is_skipped (words_of (without_return l)) ≡ false
    → ((k : ℕ) (t : State) → Lands (opens_at place (words l)) t.place → t.contents.format ≡ 3 → MatchesOn (k + 1) t (said_of ls)) → ReadAlike place (l ∷ ls)
one-said place l ls spoken others k s at is =
    subst (λ m. MatchesOn k s m) (sym (ap (λ (skip : Bool). if not skip then line ∷ said_of ls else said_of ls) spoken))
    (one-matches k s.contents (said_of ls) (has_ended k s.place) (step_in s.place (k + 1) line (words_of line) s.contents) (not-ended place k s.place at) (λ t e.
    others k t (lands-there (opens_at place (words l)) (step_in s.place (k + 1) line (words_of line) s.contents) t (line-lands place k (k + 1) s.place line s.contents at is spoken) e)
    (format-stays s.contents (step_in s.place (k + 1) line (words_of line) s.contents) t (step_in-grows s.place (k + 1) line (words_of line) s.contents (at-in_unit place k s.place at)) e is)))
  where
    line : Bytes
    line = without_return l

last-read : (place : Place) (l : Bytes) → ends_line place (words l) ≡ true → ReadAlike place (l ∷ [])
last-read place l is =
    let closed = ends-closed place (words l) is in
    one-said place l [] (sym (skipped-same (words_of (without_return l))) ∙ closed.0) (λ k t lands three.
    end-matches (k + 1) t.place t.contents (subst (λ b. Lands b t.place) closed.1 lands))

line-read : (place : Place) (l : Bytes) (ls : List Bytes) → ends_line place (words l) ≡ false → ReadAlike (place_behind place (words l)) ls → ReadAlike place (l ∷ ls)
line-read place l ls not_so others = by (items.is_skipped (words l)) refl
  where
    by : (test : Bool) → items.is_skipped (words l) ≡ test → ReadAlike place (l ∷ ls)
    by true skip =
        λ k s at is.
        let here : At (place_behind place (words l)) k s.place = subst (λ p. At p k s.place) (sym (skipped-place place (words l) skip)) at in
        subst (λ m. MatchesOn k s m) (sym (ap (λ (x : Bool). if not x then without_return l ∷ said_of ls else said_of ls) (sym (skipped-same (words_of (without_return l))) ∙ skip))) (others k s here is)
    by false spoken =
        let more = goes-open place (words l) spoken not_so in
        one-said place l ls (sym (skipped-same (words_of (without_return l))) ∙ spoken) (λ k t lands three.
        others (k + 1) t (subst (λ p. At p (k + 1) t.place) (sym more.1) (subst (λ b. Lands b t.place) more.0 lands)) three)

lines-read : (place : Place) (front : List Bytes) (last : Bytes) → GoesOn place front → ends_line (items.place_of place front) (words last) ≡ true → ReadAlike place (front ++ last ∷ [])
lines-read place [] last goes is = last-read place last is
lines-read place (l ∷ front) last goes is = line-read place l (front ++ last ∷ []) goes.0 (lines-read (place_behind place (words l)) front last goes.1 is)

item-read : (c : Contents) (unit : Bytes) → c.format ≡ 3 → IsItemLines unit → Matches (unit_read c unit) (unit_taken c unit)
item-read c unit is h =
    subst (λ ls. MatchesOn 0 (outside c) (said_of ls)) (sym (ap (λ ls. ls.ended) h.lines)) (lines-read places.Front h.front h.last h.goes_on h.ends 0 (outside c) (refl, refl) is)

same-refusal : (o : Result Contents Refused) (p : Result State Refused) (q : Refused) → Matches o p → o ≡ Err q → p ≡ Err q
same-refusal (Ok d) p q h is = absurd (cc)
same-refusal (Err r) (Ok t) q h is = absurd h
same-refusal (Err r) (Err x) q h is = let same : r ≡ q = cc in ap Err (sym h ∙ same)

-- A unit that is one item, and is refused, is refused by one of its lines.
pub item-refused : (c : Contents) (unit : Bytes) (q : Refused) → c.format ≡ 3 → IsOneItem unit → unit_read c unit ≡ Err q → unit_taken c unit ≡ Err q
item-refused c unit q is one refused = same-refusal (unit_read c unit) (unit_taken c unit) q (item-read c unit is (item-lines unit one)) refused

-- and it ends with a line feed
pub item-whole : (unit : Bytes) → IsOneItem unit → IsWhole unit
item-whole unit one = ap (λ ls. ls.left) (item-lines unit one).lines
