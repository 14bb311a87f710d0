-- Readers that are brought along the lines of a text, piece by piece.
use Rattle.line_readers.proofs.Common.{[], ℕ, ◌+◌, ◌==◌, ◌∙◌, ◌∷◌, ◌≡◌, and_then, ap, arith, Bool, Bytes, CutLines, done, ended, false, first_wrong, if◌then◌else◌, lines_of, List, mapped, None, Option, option_map, put_first, read, Reader}
use Rattle.line_readers.proofs.Common.{refl, Some, suc, sym, taken, takes, true, wrong_in}
use Rattle.line_readers.specs.Walks.{Goes, IsAtEnd, walk}

-- ---- one reader behind another
abbrev walk_on : {A B : Type 0} → (A → Reader B) → Option (A × List Bytes) → Option (B × List Bytes)
walk_on more None = None
walk_on more (Some p) = walk (more p.0) p.1

abbrev taken_on : {A B : Type 0} → (A → Reader B) → Option (A × List Bytes) → ℕ
taken_on more None = 0
taken_on more (Some p) = taken (more p.0) p.1

walk-then : {A B : Type 0} (more : A → Reader B) (r : Reader A) (ls : List Bytes) → walk (and_then r more) ls ≡ walk_on more (walk r ls)
walk-then more (done a) ls = refl
walk-then more (takes p go) [] = refl
walk-then {A} {B} more (takes p go) (l ∷ ls) = by (p l) (walk-then more (go l) ls)
  where
    by : (test : Bool) → walk (and_then (go l) more) ls ≡ walk_on more (walk (go l) ls) → (if test then walk (and_then (go l) more) ls else None) ≡ walk_on more (if test then walk (go l) ls else None)
    by true same = same
    by false same = refl

taken-then : {A B : Type 0} (more : A → Reader B) (r : Reader A) (ls : List Bytes) → taken (and_then r more) ls ≡ taken r ls + taken_on more (walk r ls)
taken-then more (done a) ls = omega arith
taken-then more (takes p go) [] = refl
taken-then {A} {B} more (takes p go) (l ∷ ls) = by (p l) (taken-then more (go l) ls)
  where
    by : (test : Bool) → taken (and_then (go l) more) ls ≡ taken (go l) ls + taken_on more (walk (go l) ls)
        → (if test then suc (taken (and_then (go l) more) ls) else 0) ≡ (if test then suc (taken (go l) ls) else 0) + taken_on more (if test then walk (go l) ls else None)
    by true same = omega (arith, same)
    by false same = refl

pub goes-stopped : {A B : Type 0} (more : A → Reader B) (r : Reader A) (old new : Bytes) (counted count : ℕ) → Goes r old new counted count None → Goes (and_then r more) old new counted count None
goes-stopped more r old new counted count h =
    let none : taken_on more (walk r (ended old)) ≡ 0 = ap (taken_on more) h.at_end in
    let both = taken-then more r (ended old) in
    record { lines = let here = h.lines in omega (arith, here, both, none); at_end = walk-then more r (ended old) ∙ ap (walk_on more) h.at_end }

pub goes-then : {A B : Type 0} (more : A → Reader B) (r : Reader A) (a : A) (old mid new : Bytes) (counted between count : ℕ) (o : Option B)
    → Goes r old mid counted between (Some a) → Goes (more a) mid new between count o → Goes (and_then r more) old new counted count o
goes-then {A} {B} more r a old mid new counted between count o h k =
    let (here, left) = h.at_end in
    let on : taken_on more (walk r (ended old)) ≡ taken (more a) (ended mid) = ap (taken_on more) here in
    let both = taken-then more r (ended old) in
    let walked : walk (and_then r more) (ended old) ≡ walk (more a) (ended mid) = walk-then more r (ended old) ∙ ap (walk_on more) here in
    record { lines = let one = h.lines in let two = k.lines in omega (arith, one, two, both, on); at_end = by o walked left k.at_end }
  where
    by : (o2 : Option B) → walk (and_then r more) (ended old) ≡ walk (more a) (ended mid) → (lines_of mid).left ≡ (lines_of old).left → IsAtEnd (more a) mid new o2 → IsAtEnd (and_then r more) old new o2
    by None walked left is = walked ∙ is
    by (Some b) walked left is = (walked ∙ is.0, is.1 ∙ left)

-- ---- a reader whose value is made from another's
abbrev pub map_first : {A B : Type 0} → (A → B) → Option (A × List Bytes) → Option (B × List Bytes)
map_first f None = None
map_first f (Some p) = Some (f p.0, p.1)

pub walk-mapped : {A B : Type 0} (f : A → B) (r : Reader A) (ls : List Bytes) → walk (mapped f r) ls ≡ map_first f (walk r ls)
walk-mapped f (done a) ls = refl
walk-mapped f (takes p go) [] = refl
walk-mapped {A} {B} f (takes p go) (l ∷ ls) = by (p l) (walk-mapped f (go l) ls)
  where
    by : (test : Bool) → walk (mapped f (go l)) ls ≡ map_first f (walk (go l) ls) → (if test then walk (mapped f (go l)) ls else None) ≡ map_first f (if test then walk (go l) ls else None)
    by true same = same
    by false same = refl

taken-mapped : {A B : Type 0} (f : A → B) (r : Reader A) (ls : List Bytes) → taken (mapped f r) ls ≡ taken r ls
taken-mapped f (done a) ls = refl
taken-mapped f (takes p go) [] = refl
taken-mapped f (takes p go) (l ∷ ls) = ap (λ n. if p l then suc n else 0) (taken-mapped f (go l) ls)

pub goes-mapped : {A B : Type 0} (f : A → B) (r : Reader A) (old new : Bytes) (counted count : ℕ) (o : Option A) → Goes r old new counted count o → Goes (mapped f r) old new counted count (option_map f o)
goes-mapped {A} {B} f r old new counted count o h = record { lines = h.lines ∙ ap (λ n. counted + n) (sym (taken-mapped f r (ended old))); at_end = by o h.at_end }
  where
    by : (o2 : Option A) → IsAtEnd r old new o2 → IsAtEnd (mapped f r) old new (option_map f o2)
    by None is = walk-mapped f r (ended old) ∙ ap (map_first f) is
    by (Some a) is = (walk-mapped f r (ended old) ∙ ap (map_first f) is.0, is.1)

-- ---- one line, and none
pub goes-done : {A : Type 0} (a : A) (bytes : Bytes) (counted : ℕ) → Goes (done a) bytes bytes counted counted (Some a)
goes-done a bytes counted = record { lines = omega arith; at_end = (refl, refl) }

-- no line is there
pub goes-ended : {A : Type 0} (p : Bytes → Bool) (go : Bytes → Reader A) (bytes : Bytes) (counted : ℕ) → ended bytes ≡ [] → Goes (takes p go) bytes bytes counted counted None
goes-ended p go bytes counted none = record { lines = let nothing : taken (takes p go) (ended bytes) ≡ 0 = ap (taken (takes p go)) none in omega (arith, nothing); at_end = ap (walk (takes p go)) none }

-- the first line may not stand there
pub goes-wrong : {A : Type 0} (p : Bytes → Bool) (go : Bytes → Reader A) (bytes line : Bytes) (rest : List Bytes) (counted : ℕ) → ended bytes ≡ line ∷ rest → p line ≡ false → Goes (takes p go) bytes bytes counted counted None
goes-wrong p go bytes line rest counted first not = record {
  lines =
      let nothing : taken (takes p go) (ended bytes) ≡ 0 = ap (taken (takes p go)) first ∙ ap (λ test. if test then suc (taken (go line) rest) else 0) not in
      omega (arith, nothing);
  at_end = ap (walk (takes p go)) first ∙ ap (λ test. if test then walk (go line) rest else None) not;
}

-- the first line is taken
pub goes-line : {A : Type 0} (p : Bytes → Bool) (go : Bytes → Reader A) (bytes line mid new : Bytes) (counted count : ℕ) (o : Option A)
    → lines_of bytes ≡ record { ended = line ∷ ended mid; left = (lines_of mid).left } → p line ≡ true → Goes (go line) mid new (counted + 1) count o → Goes (takes p go) bytes new counted count o
goes-line {A} p go bytes line mid new counted count o first may h =
    let cut : ended bytes ≡ line ∷ ended mid = ap (λ (c : CutLines). c.ended) first in
    let left : (lines_of bytes).left ≡ (lines_of mid).left = ap (λ (c : CutLines). c.left) first in
    let one : taken (takes p go) (ended bytes) ≡ suc (taken (go line) (ended mid)) = ap (taken (takes p go)) cut ∙ ap (λ test. if test then suc (taken (go line) (ended mid)) else 0) may in
    let walked : walk (takes p go) (ended bytes) ≡ walk (go line) (ended mid) = ap (walk (takes p go)) cut ∙ ap (λ test. if test then walk (go line) (ended mid) else None) may in
    record { lines = let more = h.lines in omega (arith, more, one); at_end = by o walked left h.at_end }
  where
    by : (o2 : Option A) → walk (takes p go) (ended bytes) ≡ walk (go line) (ended mid) → (lines_of bytes).left ≡ (lines_of mid).left → IsAtEnd (go line) mid new o2 → IsAtEnd (takes p go) bytes new o2
    by None walked left is = walked ∙ is
    by (Some a) walked left is = (walked ∙ is.0, is.1 ∙ sym left)

-- ---- the first wrong line
abbrev if_nothing : {A : Type 0} → List Bytes → A → Option A
if_nothing [] a = Some a
if_nothing (l ∷ ls) a = None

abbrev whole : {A : Type 0} → Option (A × List Bytes) → Option A
whole None = None
whole (Some p) = if_nothing p.1 p.0

walk-read : {A : Type 0} (r : Reader A) (ls : List Bytes) → read r ls ≡ whole (walk r ls)
walk-read (done a) [] = refl
walk-read (done a) (l ∷ ls) = refl
walk-read (takes p go) [] = refl
walk-read {A} (takes p go) (l ∷ ls) = by (p l) (walk-read (go l) ls)
  where
    by : (test : Bool) → read (go l) ls ≡ whole (walk (go l) ls) → (if test then read (go l) ls else None) ≡ whole (if test then walk (go l) ls else None)
    by true same = same
    by false same = refl

-- bytes are cut into something
cut-some : (b : ℕ) (bs : Bytes) → ended (b ∷ bs) ≡ [] → (lines_of (b ∷ bs)).left ≡ [] → ⊥
cut-some b bs no_line no_left = by (lines_of bs) (b == 10) no_line no_left
  where
    first : (ls : List Bytes) (left : Bytes) → (put_first b ls left).ended ≡ [] → (put_first b ls left).left ≡ [] → ⊥
    first [] left none nothing = cc (nothing)
    first (l ∷ ls) left none nothing = cc (none)

    by : (cut : CutLines) (test : Bool) → (if test then record { ended = [] ∷ cut.ended; left = cut.left } else put_first b cut.ended cut.left).ended ≡ []
        → (if test then record { ended = [] ∷ cut.ended; left = cut.left } else put_first b cut.ended cut.left).left ≡ [] → ⊥
    by cut true none nothing = cc (none)
    by cut false none nothing = first cut.ended cut.left none nothing

-- the reader stopped, or came to its end
abbrev pub wrong_behind : {A : Type 0} → Bytes → ℕ → Option A → Option ℕ
wrong_behind rest count None = Some (count + 1)
wrong_behind [] count (Some a) = None
wrong_behind (b ∷ bs) count (Some a) = Some (count + 1)

pub goes-first_wrong : {A : Type 0} (r : Reader A) (bytes rest : Bytes) (count : ℕ) (o : Option A) → Goes r bytes rest 0 count o → first_wrong r bytes ≡ wrong_behind rest count o
goes-first_wrong {A} r bytes rest count o h = by o rest (walk-read r (ended bytes)) h.lines h.at_end
  where
    not-whole : (left : Bytes) (value : Option A) → count ≡ 0 + taken r (ended bytes) → value ≡ None → wrong_in r bytes left (ended bytes) value ≡ Some (count + 1)
    not-whole [] None counted is = ap (λ n. Some n) (omega (arith, counted))
    not-whole [] (Some a) counted is = absurd (cc (is))
    not-whole (b ∷ left) value counted is = ap (λ n. Some n) (omega (arith, counted))

    behind : (b : ℕ) (bs left : Bytes) (value : Option A) (ls : List Bytes) (a : A) → count ≡ 0 + taken r (ended bytes) → ended (b ∷ bs) ≡ ls → (lines_of (b ∷ bs)).left ≡ left → value ≡ whole (Some (a, ls)) → wrong_in r bytes left (ended bytes) value ≡ Some (count + 1)
    behind b bs [] value [] a counted no_line no_left is = absurd (cut-some b bs no_line no_left)
    behind b bs [] value (l ∷ ls) a counted some no_left is = not-whole [] value counted is
    behind b bs (x ∷ left) value ls a counted no_line some is = ap (λ n. Some n) (omega (arith, counted))

    by : (o2 : Option A) (rest2 : Bytes) → read r (ended bytes) ≡ whole (walk r (ended bytes)) → count ≡ 0 + taken r (ended bytes) → IsAtEnd r bytes rest2 o2 → first_wrong r bytes ≡ wrong_behind rest2 count o2
    by None rest2 reads counted is = not-whole (lines_of bytes).left (read r (ended bytes)) counted (reads ∙ ap whole is)
    by (Some a) [] reads counted (is, left) =
        let value : read r (ended bytes) ≡ Some a = reads ∙ ap whole is in
        ap (λ l. wrong_in r bytes l (ended bytes) (read r (ended bytes))) (sym left) ∙ ap (wrong_in r bytes [] (ended bytes)) value
    by (Some a) (b ∷ bs) reads counted (is, left) = behind b bs (lines_of bytes).left (read r (ended bytes)) (ended (b ∷ bs)) a counted refl left (reads ∙ ap whole is)
