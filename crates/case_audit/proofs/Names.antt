-- The beginning of a line: its number, its caller's name, and a space behind each.
use Rattle.case_audit.proofs.Common.{[], ℕ, ◌&&◌, ◌++◌, ◌+◌, ◌-◌, ◌==◌, ◌∙◌, ◌∷◌, ◌≡◌, actor_name, ActorDecl, and_right, ap, arith, begins, begins_with_word, by-test, Bytes, caller_from, caller_in, caller_text, codes, decimal, drop, false}
use Rattle.case_audit.proofs.Common.{File, if◌then◌else◌, is_some, length, line_start, List, MatchOption, named_from, ne_eqb, None, Option, refl, slice_get, Some, suc, sym, true}

pub begins-both : (a b text : Bytes) → begins (a ++ b) text ≡ (begins a text && begins b (drop (length a) text))
begins-both [] b text = refl
begins-both (x ∷ xs) b [] = refl
begins-both (x ∷ xs) b (y ∷ ys) = ap (λ test. (y == x) && test) (begins-both xs b ys) ∙ by-test (λ test. (test && (begins xs ys && begins b (drop (length xs) ys))) ≡ ((test && begins xs ys) && begins b (drop (length xs) ys))) (y == x) (λ is. refl) (λ not. refl)

-- what stands behind the number, and behind its space
abbrev behind_number : ℕ → Bytes → Bytes
behind_number k text = drop (length (decimal k)) text

abbrev behind_space : ℕ → Bytes → Bytes
behind_space k text = drop 1 (behind_number k text)

begins-start : (f : File) (k a : ℕ) (text : Bytes)
    → begins (line_start f k a) text ≡ (begins (decimal k) text && (begins (codes " ") (behind_number k text) && begins_with_word (caller_text f a) (behind_space k text)))
begins-start f k a text =
    begins-both (decimal k) (codes " " ++ (caller_text f a ++ codes " ")) text
    ∙ ap (λ test. begins (decimal k) text && test) (begins-both (codes " ") (caller_text f a ++ codes " ") (behind_number k text))

-- the names of actors from a number on
abbrev AreNamed : File → ℕ → List ActorDecl → Type 0
AreNamed f a ds = (i : ℕ) (d : ActorDecl) → slice_get ds i ≡ Some d → caller_text f (a + i) ≡ d.name

later-named : (f : File) (a : ℕ) (d : ActorDecl) (ds : List ActorDecl) → AreNamed f a (d ∷ ds) → AreNamed f (a + 1) ds
later-named f a d ds named i e is = ap (caller_text f) (omega arith) ∙ named (suc i) e is

caller-named : (f : File) (k : ℕ) (text : Bytes) (a : ℕ) (ds : List ActorDecl) → AreNamed f a ds → begins (decimal k) text ≡ true → begins (codes " ") (behind_number k text) ≡ true
    → caller_from f k text a ds ≡ named_from (behind_space k text) a ds
caller-named f k text a [] named number space = refl
caller-named f k text a (d ∷ ds) named number space =
    let name : caller_text f a ≡ d.name = ap (caller_text f) (omega arith) ∙ named 0 d refl in
    let test : begins (line_start f k a) text ≡ begins_with_word d.name (behind_space k text) =
    begins-start f k a text
    ∙ (ap (λ b. b && (begins (codes " ") (behind_number k text) && begins_with_word (caller_text f a) (behind_space k text))) number
    ∙ (ap (λ b. b && begins_with_word (caller_text f a) (behind_space k text)) space ∙ ap (λ n. begins_with_word n (behind_space k text)) name)) in
    ap (λ b. if b then Some a else caller_from f k text (a + 1) ds) test
    ∙ ap (λ o. if begins_with_word d.name (behind_space k text) then Some a else o) (caller-named f k text (a + 1) ds (later-named f a d ds named) number space)

caller-none : (f : File) (k : ℕ) (text : Bytes) (a : ℕ) (ds : List ActorDecl) → ((b : ℕ) → begins (line_start f k b) text ≡ false) → caller_from f k text a ds ≡ None
caller-none f k text a [] not = refl
caller-none f k text a (d ∷ ds) not = ap (λ b. if b then Some a else caller_from f k text (a + 1) ds) (not a) ∙ caller-none f k text (a + 1) ds not

actors-named : (f : File) → AreNamed f 1 f.actors
actors-named f i d is =
    ap (λ b. if b then codes "-" else actor_name (slice_get f.actors ((1 + i) - 1)) (1 + i)) (ne_eqb (1 + i) 0 (λ same. omega (arith, same)))
    ∙ (ap (λ n. actor_name (slice_get f.actors n) (1 + i)) (omega arith) ∙ ap (λ o. actor_name o (1 + i)) is)

pub shows-named : (f : File) (k : ℕ) (text : Bytes) → begins (decimal k) text ≡ true → begins (codes " ") (behind_number k text) ≡ true → caller_in f k text ≡ named_from (behind_space k text) 1 f.actors
shows-named f k text number space = caller-named f k text 1 f.actors (actors-named f) number space

pub no-number : (f : File) (k : ℕ) (text : Bytes) → begins (decimal k) text ≡ false → caller_in f k text ≡ None
no-number f k text not =
    caller-none f k text 1 f.actors (λ a. begins-start f k a text ∙ ap (λ b. b && (begins (codes " ") (behind_number k text) && begins_with_word (caller_text f a) (behind_space k text))) not)

pub no-space : (f : File) (k : ℕ) (text : Bytes) → begins (codes " ") (behind_number k text) ≡ false → caller_in f k text ≡ None
no-space f k text not =
    caller-none f k text 1 f.actors (λ a. begins-start f k a text
    ∙ (ap (λ b. begins (decimal k) text && (b && begins_with_word (caller_text f a) (behind_space k text))) not ∙ and_right (begins (decimal k) text) false refl))

-- a word, and a space behind it
pub no-word : (word text : Bytes) → begins word text ≡ false → false ≡ begins_with_word word text
no-word word text not = sym (begins-both word (codes " ") text ∙ ap (λ b. b && begins (codes " ") (drop (length word) text)) not)

pub word-then : {A : Type 0} (word text behind : Bytes) (o : Option A) → begins word text ≡ true → behind ≡ drop (length word) text → MatchOption o (begins (codes " ") behind ≡ false) (λ x. begins (codes " ") behind ≡ true)
    → is_some o ≡ begins_with_word word text
word-then word text behind o is there space =
    spaced o space ∙ (ap (begins (codes " ")) there ∙ sym (begins-both word (codes " ") text ∙ ap (λ b. b && begins (codes " ") (drop (length word) text)) is))
  where
    spaced : {A : Type 0} (o : Option A) → MatchOption o (begins (codes " ") behind ≡ false) (λ x. begins (codes " ") behind ≡ true) → is_some o ≡ begins (codes " ") behind
    spaced None not = sym not
    spaced (Some x) is = sym is
