-- What a question tries: a unit, or an install with a migrate behind it.
use Rattle.std.specs.{Prelude.{◌≤◌, ◌+◌, ◌||◌, ℕ, not, Bool, true, false, List, [], ◌∷◌, ◌++◌, length, drop, Option, Some, None, if◌then◌else◌, codes}, Str.is_utf8}
use Rattle.file_words.specs.{Lines.{Bytes, lines_of, without_return}, Words.{is, is_blank, is_comment, is_skipped, words_of}}

-- ---- the bytes of a question

-- all of them from the line on that asks, that line, and what stands behind its line feed
pub record Asking : Type 0 where
  pub bytes : Bytes
  pub line : Bytes
  pub more : Bytes

-- the line that asks is the first one that says something
abbrev pub asking_from : Bytes → List Bytes → Option Asking
asking_from bytes [] = None
asking_from bytes (line ∷ lines) =
    let more = drop (length line + 1) bytes in
    if is_skipped (words_of (without_return line)) then asking_from more lines else Some (record { bytes = bytes; line = line; more = more })

abbrev pub asking : Bytes → Option Asking
asking item = asking_from item (lines_of item).ended

-- bytes without the blanks at their front, and without a word behind these
abbrev pub from_word : Bytes → Bytes
from_word [] = []
from_word (b ∷ bs) = if is_blank b then from_word bs else b ∷ bs

abbrev pub behind_word : Bytes → Bytes → Bytes
behind_word w bytes = drop (length w) (from_word bytes)

abbrev pub behind_if : Bytes → Bytes
behind_if bytes = behind_word (codes "if") (behind_word (codes "?") bytes)

-- ---- what is tried

-- a unit; an actor's install of a type by lines, and a migrate behind it; or nothing, where the words are of no form or no text
pub data Trial : Type 0 where
  unit : Bytes → Trial
  move : (actor kind lines : Bytes) → Trial
  no_form : Trial
  no_text : Trial

-- a unit begins with words, and neither as a question nor as a comment
abbrev pub begins_unit : List Bytes → Bool
begins_unit [] = false
begins_unit (w ∷ ws) = not (is (codes "?") w || is_comment w)

abbrev pub unit_tried : List Bytes → Bytes → Trial
unit_tried ws bytes = if begins_unit ws then unit (behind_if bytes) else no_form

-- a line that begins with another word may be an actor's
abbrev pub begins_other : Bytes → Bool
begins_other w = is_comment w || (is (codes "type") w || (is (codes "actor") w || (is (codes "case") w || is (codes "phase") w)))

-- the words behind `? move` are an actor and a type, and the lines behind are those of the install
abbrev pub moved : List Bytes → Bytes → Trial
moved [] lines = no_form
moved (a ∷ []) lines = no_form
moved (a ∷ t ∷ []) lines = if begins_other a then no_form else move a t lines
moved (a ∷ t ∷ w ∷ ws) lines = no_form

abbrev pub move_tried : List Bytes → Asking → Trial
move_tried ws q = if is_utf8 q.line then moved ws q.more else no_text

-- by the word behind the question mark
abbrev pub trial_of : Bytes → List Bytes → Asking → Option Trial
trial_of k ws q = if is (codes "if") k then Some (unit_tried ws q.bytes) else (if is (codes "move") k then Some (move_tried ws q) else None)

abbrev pub trial_by : List Bytes → Asking → Option Trial
trial_by [] q = None
trial_by (w ∷ []) q = None
trial_by (w ∷ k ∷ ws) q = if is (codes "?") w then trial_of k ws q else None

-- what a question tries, where it is no other
abbrev pub trial : Asking → Option Trial
trial q = trial_by (words_of (without_return q.line)) q

-- ---- the units of a move

abbrev pub install_unit : (actor kind lines : Bytes) → Bytes
install_unit a t lines = (((a ++ codes " install ") ++ t) ++ codes "\n") ++ lines

abbrev pub migrate_unit : (actor kind : Bytes) → Bytes
migrate_unit a t = ((a ++ codes " migrate ") ++ t) ++ codes "\n"

-- ---- how long the parts are

-- no part of a question, no word, and no part of what is tried has more bytes than so many
abbrev pub IsWithin : ℕ → Asking → Type 0
IsWithin n q = (length q.bytes ≤ n) × (length q.line ≤ n) × (length q.more ≤ n)

abbrev pub AreShort : ℕ → List Bytes → Type 0
AreShort n [] = Unit {0}
AreShort n (w ∷ ws) = (length w ≤ n) × AreShort n ws

abbrev pub IsShort : ℕ → Trial → Type 0
IsShort n (unit u) = length u ≤ n
IsShort n (move a t lines) = (length a ≤ n) × (length t ≤ n) × (length lines ≤ n)
IsShort n no_form = Unit {0}
IsShort n no_text = Unit {0}
