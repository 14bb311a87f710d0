-- The lines of a unit that say something, as they are read from its bytes.
use Rattle.file_units.proofs.Common.{[], ℕ, ◌+◌, ◌∙◌, ◌∷◌, ◌≡◌, ap, at_line, at_place, Bool, Bytes, Contents, CutLines, Err, false, front_line, if◌then◌else◌, is_skipped, lines_of, lines_read, List, map, not, Ok, one_left, refused, said}
use Rattle.file_units.proofs.Common.{says, Section, State, Step, sym, true, unit_end, unit_step, Why, without_return, words_of}
use Rattle.std.specs.List.{filter}

-- those of lines that were cut
abbrev said_in : CutLines → List Bytes
said_in ls = filter says (map without_return ls.ended)

none-said : (rest : Bytes) → lines_of rest ≡ one_left rest → said rest ≡ []
none-said rest is = ap said_in is

skipped-said : (rest line more : Bytes) → lines_of rest ≡ front_line line (lines_of more) → is_skipped (words_of (without_return line)) ≡ true → said rest ≡ said more
skipped-said rest line more split skipped =
    ap said_in split ∙ ap (λ (test : Bool). if not test then without_return line ∷ said more else said more) skipped

one-said : (rest line more : Bytes) → lines_of rest ≡ front_line line (lines_of more) → is_skipped (words_of (without_return line)) ≡ false → said rest ≡ without_return line ∷ said more
one-said rest line more split says =
    ap said_in split ∙ ap (λ (test : Bool). if not test then without_return line ∷ said more else said more) says

-- ---- what is left to read
pub skipped-left : (s : State) (k : ℕ) (rest line more : Bytes) → lines_of rest ≡ front_line line (lines_of more) → is_skipped (words_of (without_return line)) ≡ true →
    lines_read (Ok s) k (said rest) ≡ lines_read (Ok s) k (said more)
skipped-left s k rest line more split skipped = ap (λ ls. lines_read (Ok s) k ls) (skipped-said rest line more split skipped)

-- behind a line that says something
step-left : (s : State) (o : Step) (k : ℕ) (rest line more : Bytes) (ws : List Bytes) → lines_of rest ≡ front_line line (lines_of more) → is_skipped (words_of (without_return line)) ≡ false →
    ws ≡ words_of (without_return line) → unit_step k s.place (without_return line) ws s.contents ≡ o →
    lines_read (Ok s) k (said rest) ≡ lines_read (at_line (k + 1) o) (k + 1) (said more)
step-left s o k rest line more ws split says are is =
    ap (λ ls. lines_read (Ok s) k ls) (one-said rest line more split says)
    ∙ ap (λ ws. lines_read (at_line (k + 1) (unit_step k s.place (without_return line) ws s.contents)) (k + 1) (said more)) (sym are)
    ∙ ap (λ (o : Step). lines_read (at_line (k + 1) o) (k + 1) (said more)) is

pub said-left : (p next : Section) (c after : Contents) (k : ℕ) (rest line more : Bytes) (ws : List Bytes) → lines_of rest ≡ front_line line (lines_of more) →
    is_skipped (words_of (without_return line)) ≡ false → ws ≡ words_of (without_return line) → unit_step k p (without_return line) ws c ≡ Ok (at_place next after) →
    lines_read (Ok (at_place p c)) k (said rest) ≡ lines_read (Ok (at_place next after)) (k + 1) (said more)
said-left p next c after k rest line more ws split says are is = step-left (at_place p c) (Ok (at_place next after)) k rest line more ws split says are is

pub refused-left : (p : Section) (c after : Contents) (w : Why) (k : ℕ) (rest line more : Bytes) (ws : List Bytes) → lines_of rest ≡ front_line line (lines_of more) →
    is_skipped (words_of (without_return line)) ≡ false → ws ≡ words_of (without_return line) → unit_step k p (without_return line) ws c ≡ Err (w, after) →
    lines_read (Ok (at_place p c)) k (said rest) ≡ Err (refused (k + 1) w after)
refused-left p c after w k rest line more ws split says are is = step-left (at_place p c) (Err (w, after)) k rest line more ws split says are is

pub end-left : (s : State) (k : ℕ) (rest : Bytes) → lines_of rest ≡ one_left rest → lines_read (Ok s) k (said rest) ≡ at_line k (unit_end s.place s.contents)
end-left s k rest is = ap (λ ls. lines_read (Ok s) k ls) (none-said rest is)
