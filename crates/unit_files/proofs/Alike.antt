-- The lines of a unit are read alike in a file and behind what is held.
use Rattle.unit_files.proofs.Common.{[], ℕ, ◌+◌, ◌∙◌, ◌∷◌, ◌≡◌, Act, add-one, ap, arith, at_line, Bool, Bytes, Contents, Err, false, Follows, GrowsStep, if◌then◌else◌, inl, inr, is_skipped, IsAtLine, IsInUnit, IsOfFile, length}
use Rattle.unit_files.proofs.Common.{lines_behind, lines_taken, List, not, Ok, Reads, refl, Refused, refused, rest_of, Result, said_of, SameNames, SamePlace, SameState, says, Section, State, Step, step_in, step_in-grows, subst, sym, take}
use Rattle.unit_files.proofs.{Common.{true, Why, without_return, words_of}, Follows.step_in-follows}
use Rattle.file_model.specs.RefusalTexts.{text_of}
use Rattle.file_model.specs.declared.states.Section.TheVariants as section

-- a place that both have is none of the header line
in_unit : (p q : Section) → SamePlace p q → IsInUnit p
in_unit section.Outside q same = tt
in_unit (section.InType d) q same = tt
in_unit (section.InGroup g) q same = tt
in_unit (section.Head n) q same = absurd same

-- a line that says something, in both
line-follows : (before : List (ℕ × Act)) (s t : State) (at to : ℕ) (line : Bytes) → SameState before s t → s.contents.format ≡ 3
    → Follows before (step_in s.place at line (words_of line) s.contents) (step_in t.place to line (words_of line) t.contents)
line-follows before s t at to line h is =
    subst (λ (d : Contents). Follows before (step_in s.place at line (words_of line) s.contents) (step_in t.place to line (words_of line) d)) (sym h.1)
    (step_in-follows before s.place t.place at to line (words_of line) s.contents (rest_of t.contents) h.0 is h.2)

-- the file stays one of format 3
abbrev KeepsFormat : Step → Type 0
KeepsFormat (Ok s) = s.contents.format ≡ 3
KeepsFormat (Err p) = Unit {0}

format-kept : (c : Contents) (o : Step) → c.format ≡ 3 → GrowsStep c o → KeepsFormat o
format-kept c (Ok s) is grows = grows.1 ∙ is
format-kept c (Err p) is grows = tt

line-format : (before : List (ℕ × Act)) (s t : State) (at : ℕ) (line : Bytes) → SameState before s t → s.contents.format ≡ 3 → KeepsFormat (step_in s.place at line (words_of line) s.contents)
line-format before s t at line h is =
    format-kept s.contents (step_in s.place at line (words_of line) s.contents) is (step_in-grows s.place at line (words_of line) s.contents (in_unit s.place t.place h.0))

-- a file that a limit has cut off
cut-off : (before : List (ℕ × Act)) (at k : ℕ) (ls : List Bytes) (r : Refused) → IsOfFile r.why → (o : Result State Refused) → Reads before at k ls (Err r) o
cut-off before at k ls r of (Ok t) = of
cut-off before at k ls r of (Err q) = inl of

text-same : (w v : Why) (c d : Contents) → v ≡ w → SameNames c d → text_of d.nodes d.elements v ≡ text_of c.nodes c.elements w
text-same w v c d is names =
    ap (λ (u : Why). text_of d.nodes d.elements u) is ∙ ap (λ (ns : List Bytes). text_of ns d.elements w) names.0 ∙ ap (λ (es : List Bytes). text_of c.nodes es w) names.1

-- ---- a refusal of the first line, or of one behind it
said-first : (l : Bytes) (ls : List Bytes) → says (without_return l) ≡ true → length (said_of (l ∷ ls)) ≡ length (said_of ls) + 1
said-first l ls is = by (says (without_return l)) is
  where
    by : (test : Bool) → test ≡ true → length (if test then without_return l ∷ said_of ls else said_of ls) ≡ length (said_of ls) + 1
    by true e = omega arith
    by false e = absurd (cc (e))

unsaid-first : (l : Bytes) (ls : List Bytes) → says (without_return l) ≡ false → length (said_of (l ∷ ls)) ≡ length (said_of ls)
unsaid-first l ls is = by (says (without_return l)) is
  where
    by : (test : Bool) → test ≡ false → length (if test then without_return l ∷ said_of ls else said_of ls) ≡ length (said_of ls)
    by true e = absurd (cc (e))
    by false e = refl

take-next : (n : ℕ) (l : Bytes) (ls : List Bytes) → take (n + 1) (l ∷ ls) ≡ l ∷ take n ls
take-next n l ls = rw add-one refl

at-first : (at k : ℕ) (l : Bytes) (ls : List Bytes) → says (without_return l) ≡ true → IsAtLine at k (l ∷ ls) at (k + 1)
at-first at k l ls is = record { place = 0; in_file = omega arith; in_unit = omega (arith, said-first l [] is) }

at-later : (at k : ℕ) (l : Bytes) (ls : List Bytes) (line number : ℕ) → says (without_return l) ≡ true → IsAtLine (at + 1) (k + 1) ls line number → IsAtLine at k (l ∷ ls) line number
at-later at k l ls line number is h = record { place = h.place + 1; in_file = omega (arith, h.in_file); in_unit = omega (arith, h.in_unit, said-first l (take (h.place + 1) ls) is, ap (λ ms. length (said_of ms)) (take-next (h.place + 1) l ls)) }

at-skipped : (at k : ℕ) (l : Bytes) (ls : List Bytes) (line number : ℕ) → says (without_return l) ≡ false → IsAtLine (at + 1) k ls line number → IsAtLine at k (l ∷ ls) line number
at-skipped at k l ls line number is h = record { place = h.place + 1; in_file = omega (arith, h.in_file); in_unit = omega (arith, h.in_unit, unsaid-first l (take (h.place + 1) ls) is, ap (λ ms. length (said_of ms)) (take-next (h.place + 1) l ls)) }

later : (before : List (ℕ × Act)) (at k : ℕ) (l : Bytes) (ls : List Bytes) (o p : Result State Refused) → says (without_return l) ≡ true → Reads before (at + 1) (k + 1) ls o p
    → Reads before at k (l ∷ ls) o p
later before at k l ls (Ok s) (Ok t) is h = h
later before at k l ls (Ok s) (Err q) is h = h
later before at k l ls (Err r) (Ok t) is h = h
later before at k l ls (Err r) (Err q) is (inl of) = inl of
later before at k l ls (Err r) (Err q) is (inr same) = inr (same.0, same.1, at-later at k l ls r.line q.line is same.2)

skipped : (before : List (ℕ × Act)) (at k : ℕ) (l : Bytes) (ls : List Bytes) (o p : Result State Refused) → says (without_return l) ≡ false → Reads before (at + 1) k ls o p
    → Reads before at k (l ∷ ls) o p
skipped before at k l ls (Ok s) (Ok t) is h = h
skipped before at k l ls (Ok s) (Err q) is h = h
skipped before at k l ls (Err r) (Ok t) is h = h
skipped before at k l ls (Err r) (Err q) is (inl of) = inl of
skipped before at k l ls (Err r) (Err q) is (inr same) = inr (same.0, same.1, at-skipped at k l ls r.line q.line is same.2)

-- ---- all lines
abbrev AllRead : List (ℕ × Act) → List Bytes → ℕ → ℕ → Type 0
AllRead before ls at k = (s t : State) → SameState before s t → s.contents.format ≡ 3 → Reads before at k ls (lines_behind (Ok s) at ls) (lines_taken (Ok t) k (said_of ls))

one-behind : (before : List (ℕ × Act)) (l : Bytes) (ls : List Bytes) (at k : ℕ) → AllRead before ls (at + 1) (k + 1) → says (without_return l) ≡ true → (o p : Step) → Follows before o p → KeepsFormat o
    → Reads before at k (l ∷ ls) (lines_behind (at_line at o) (at + 1) ls) (lines_taken (at_line (k + 1) p) (k + 1) (said_of ls))
one-behind before l ls at k others spoken (Ok u) (Ok v) both stays = later before at k l ls _ _ spoken (others u v both stays)
one-behind before l ls at k others spoken (Ok u) (Err q) both stays = absurd both
one-behind before l ls at k others spoken (Err p) (Ok v) both stays = cut-off before at k (l ∷ ls) (refused at p.0 p.1) both (lines_taken (Ok v) (k + 1) (said_of ls))
one-behind before l ls at k others spoken (Err p) (Err q) (inl of) stays = inl of
one-behind before l ls at k others spoken (Err p) (Err q) (inr same) stays = inr (same.0, text-same p.0 q.0 p.1 q.1 same.0 same.1, at-first at k l ls spoken)

first-read : (before : List (ℕ × Act)) (l : Bytes) (ls : List Bytes) (at k : ℕ) → AllRead before ls (at + 1) k → AllRead before ls (at + 1) (k + 1) → AllRead before (l ∷ ls) at k
first-read before l ls at k same others s t h is = by (is_skipped (words_of (without_return l))) refl
  where
    by : (test : Bool) → is_skipped (words_of (without_return l)) ≡ test
        → Reads before at k (l ∷ ls) (lines_behind (at_line at (if test then Ok s else step_in s.place at (without_return l) (words_of (without_return l)) s.contents)) (at + 1) ls)
        (lines_taken (Ok t) k (if not test then without_return l ∷ said_of ls else said_of ls))
    by true skip = skipped before at k l ls _ _ (ap not skip) (same s t h is)
    by false say = one-behind before l ls at k others (ap not say) _ _ (line-follows before s t at (k + 1) (without_return l) h is) (line-format before s t at (without_return l) h is)

pub all-read : (before : List (ℕ × Act)) (ls : List Bytes) (at k : ℕ) → AllRead before ls at k
all-read before [] at k s t h is = (h, is)
all-read before (l ∷ ls) at k s t h is = first-read before l ls at k (all-read before ls (at + 1) k) (all-read before ls (at + 1) (k + 1)) s t h is
