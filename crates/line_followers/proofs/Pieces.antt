-- A reader of the lines of a piece goes along a text as far as the text is the same.
use Rattle.line_followers.proofs.Common.{[], ℕ, ◌++◌, ◌+◌, ◌==◌, ◌∙◌, ◌∷◌, ◌≡◌, ◌≤◌, ap, arith, Bool, Bytes, bytes_eq, bytes_eq-Decides, CutLines, done, drop, drop-drop, ended, eq-eqb, eqb-true, expected, false, feeds, Followed, followed}
use Rattle.line_followers.proofs.Common.{Follows, Goes, if◌then◌else◌, IsAtEnd, IsWhole, left_of, length, lines_of, List, ne_eqb, None, onto_lines, Option, passed, put_first, Reader, refl, same_front, Some, subst, suc, sym, take, take-add}
use Rattle.line_followers.proofs.Common.{taken, takes, true, walk}

-- ---- a line feed and another byte
same-again : (b : ℕ) → (b == b) ≡ true
same-again b = eq-eqb b b refl

other-way : (b c : ℕ) → (b == c) ≡ false → (c == b) ≡ false
other-way b c not = by (c == b) refl
  where
    by : (test : Bool) → (c == b) ≡ test → (c == b) ≡ false
    by false is = is
    by true is = let equal : c ≡ b = eqb-true c b is in absurd (cc (not, subst (λ d. (d == d) ≡ true) equal (same-again c), equal))

-- one more on both sides
suc-eqb : (a b : ℕ) → (suc a == suc b) ≡ (a == b)
suc-eqb a b = by (a == b) refl
  where
    by : (test : Bool) → (a == b) ≡ test → (suc a == suc b) ≡ (a == b)
    by true is = eq-eqb (suc a) (suc b) (ap suc (eqb-true a b is)) ∙ sym is
    by false is = ne_eqb (suc a) (suc b) (λ same. cc (is, eq-eqb a b (omega (arith, same)))) ∙ sym is

none-eqb : (b : ℕ) → (0 == suc b) ≡ false
none-eqb b = ne_eqb 0 (suc b) (λ same. omega (arith, same))

-- whole lines are some
record HasLine (cut : CutLines) : Type 0 where
  first : Bytes
  others : List Bytes
  lines : cut.ended ≡ first ∷ others

has-line : (b : ℕ) (p : CutLines) → (onto_lines b p).left ≡ [] → HasLine (onto_lines b p)
has-line b p whole = by (b == 10) refl p.ended refl whole
  where
    by : (test : Bool) → (b == 10) ≡ test → (ls : List Bytes) → p.ended ≡ ls → (onto_lines b p).left ≡ [] → HasLine (onto_lines b p)
    by true is ls lines nothing = rw is (record { first = []; others = p.ended; lines = refl })
    by false is [] lines nothing =
        let cut : (put_first b p.ended p.left).left ≡ [] = subst (λ test. (if test then record { ended = [] ∷ p.ended; left = p.left } else put_first b p.ended p.left).left ≡ []) is nothing in
        let left : (put_first b [] p.left).left ≡ [] = subst (λ ls. (put_first b ls p.left).left ≡ []) lines cut in
        absurd (cc (left))
    by false is (l ∷ ls) lines nothing = rw is (rw lines (record { first = b ∷ l; others = ls; lines = refl }))

-- ---- places
pub feeds-append : (xs ys : Bytes) → feeds (xs ++ ys) ≡ feeds xs + feeds ys
feeds-append [] ys = omega arith
feeds-append (x ∷ xs) ys = by (x == 10) (feeds-append xs ys)
  where
    by : (test : Bool) → feeds (xs ++ ys) ≡ feeds xs + feeds ys → (if test then suc (feeds (xs ++ ys)) else feeds (xs ++ ys)) ≡ (if test then suc (feeds xs) else feeds xs) + feeds ys
    by true same = omega (arith, same)
    by false same = same

pub passed-on : (piece : Bytes) (s : Followed) → passed (followed piece s) ≡ passed s + feeds (take (same_front piece (left_of s)) (left_of s))
passed-on piece s = ap feeds (take-add s.at (same_front piece (left_of s)) s.text) ∙ feeds-append (take s.at s.text) (take (same_front piece (left_of s)) (left_of s))

drop-more : (n m : ℕ) (xs : Bytes) → drop (n + m) xs ≡ drop m (drop n xs)
drop-more n m xs = sym (drop-drop m n xs)

-- where all of a piece stands in front, the text is the piece and what is behind it
front-is : (p r : Bytes) → same_front p r ≡ length p → r ≡ p ++ drop (length p) r
front-is [] r same = refl
front-is (b ∷ p) [] same = absurd (cc (same))
front-is (b ∷ p) (c ∷ r) same = by (b == c) refl same (λ all. front-is p r all)
  where
    by : (test : Bool) → (b == c) ≡ test → (if test then suc (same_front p r) else 0) ≡ suc (length p) → (same_front p r ≡ length p → r ≡ p ++ drop (length p) r) → c ∷ r ≡ b ∷ (p ++ drop (length p) r)
    by false not same more = absurd (cc (same))
    by true is same more = ap (λ d. d ∷ r) (sym (eqb-true b c is)) ∙ ap (λ bs. b ∷ bs) (more (omega (arith, same)))

take-all-front : (p r : Bytes) → take (length p) (p ++ r) ≡ p
take-all-front [] r = refl
take-all-front (b ∷ p) r = ap (λ bs. b ∷ bs) (take-all-front p r)

pub full-front : (piece : Bytes) (s : Followed) → (same_front piece (left_of s) == length piece) ≡ true → (left_of s ≡ piece ++ left_of (followed piece s)) × (passed (followed piece s) ≡ passed s + feeds piece)
full-front piece s all =
    let n = same_front piece (left_of s) in
    let equal : n ≡ length piece = eqb-true n (length piece) all in
    let behind : left_of (followed piece s) ≡ drop (length piece) (left_of s) = drop-more s.at n s.text ∙ ap (λ m. drop m (left_of s)) equal in
    let there : left_of s ≡ piece ++ drop (length piece) (left_of s) = front-is piece (left_of s) equal in
    let front : take n (left_of s) ≡ piece = ap (λ m. take m (left_of s)) equal ∙ (ap (take (length piece)) there ∙ take-all-front piece (drop (length piece) (left_of s))) in
    (there ∙ ap (λ bs. piece ++ bs) (sym behind), passed-on piece s ∙ ap (λ bs. passed s + feeds bs) front)

module _ {A : Type 0} (a : A) where
  -- how many lines are taken, and what comes of it
  pub record Reads (ls rest : List Bytes) (count : ℕ) (end : Option (A × List Bytes)) : Type 0 where
    pub count_is : taken (expected ls a) rest ≡ count
    pub end_is : walk (expected ls a) rest ≡ end

  -- the same byte stands in front of both
  if_feed : Bool → ℕ → ℕ
  if_feed true n = suc n
  if_feed false n = n

  step-line : (b : ℕ) (l m : Bytes) (ls rest : List Bytes) (n : ℕ) (end : Option (A × List Bytes)) → Reads (l ∷ ls) (m ∷ rest) n end → Reads ((b ∷ l) ∷ ls) ((b ∷ m) ∷ rest) n end
  step-line b l m ls rest n end h =
      let same : bytes_eq (b ∷ m) (b ∷ l) ≡ bytes_eq m l = rw (same-again b) refl in
      record {
        count_is = ap (λ test. if test then suc (taken (expected ls a) rest) else 0) same ∙ h.count_is;
        end_is = ap (λ test. if test then walk (expected ls a) rest else None) same ∙ h.end_is;
      }

  step-first : (b : ℕ) (l : Bytes) (ls : List Bytes) (rest : List Bytes) (left : Bytes) (n : ℕ) (end : Option (A × List Bytes)) → Reads (l ∷ ls) rest n end → Reads ((b ∷ l) ∷ ls) (put_first b rest left).ended n end
  step-first b l ls [] left n end h = record { count_is = h.count_is; end_is = h.end_is }
  step-first b l ls (m ∷ rest) left n end h = step-line b l m ls rest n end h

  step-same : (b : ℕ) (p r : CutLines) (n : ℕ) (end : Option (A × List Bytes)) → (onto_lines b p).left ≡ [] → (test : Bool) → (b == 10) ≡ test → Reads p.ended r.ended n end → Reads (onto_lines b p).ended (onto_lines b r).ended (if test then suc n else n) end
  step-same b p r n end whole true is h = rw is (record { count_is = ap suc h.count_is; end_is = h.end_is })
  step-same b p r n end whole false is h = by p.ended refl
    where
      by : (ls : List Bytes) → p.ended ≡ ls → Reads (onto_lines b p).ended (onto_lines b r).ended n end
      by [] lines =
          let cut : (put_first b p.ended p.left).left ≡ [] = subst (λ test. (if test then record { ended = [] ∷ p.ended; left = p.left } else put_first b p.ended p.left).left ≡ []) is whole in
          let left : (put_first b [] p.left).left ≡ [] = subst (λ ls. (put_first b ls p.left).left ≡ []) lines cut in
          absurd (cc (left))
      by (l ∷ ls) lines = rw is (rw lines (step-first b l ls r.ended r.left n end (subst (λ ls. Reads ls r.ended n end) lines h)))

  -- different bytes stand in front
  nothing-taken : (l m : Bytes) (ls rest : List Bytes) → bytes_eq m l ≡ false → Reads (l ∷ ls) (m ∷ rest) 0 None
  nothing-taken l m ls rest not = record {
    count_is = ap (λ test. if test then suc (taken (expected ls a) rest) else 0) not;
    end_is = ap (λ test. if test then walk (expected ls a) rest else None) not;
  }

  no-line : (ls : List Bytes) → HasLine (record { ended = ls; left = [] }) → Reads ls [] 0 None
  no-line ls h = rw h.lines (record { count_is = refl; end_is = refl })

  step-other : (b c : ℕ) → (b == c) ≡ false → (p r : CutLines) → (onto_lines b p).left ≡ [] → (ends_b ends_c : Bool) → (b == 10) ≡ ends_b → (c == 10) ≡ ends_c → Reads (onto_lines b p).ended (onto_lines c r).ended 0 None
  step-other b c not p r whole true true is_b is_c =
      let equal : b ≡ c = eqb-true b 10 is_b ∙ sym (eqb-true c 10 is_c) in
      absurd (cc (not, eq-eqb b c equal))
  step-other b c not p r whole true false is_b is_c = rw is_b (rw is_c (by r.ended))
    where
      by : (rest : List Bytes) → Reads ([] ∷ p.ended) (put_first c rest r.left).ended 0 None
      by [] = record { count_is = refl; end_is = refl }
      by (m ∷ rest) = nothing-taken [] (c ∷ m) p.ended rest refl
  step-other b c not p r whole false ends_c is_b is_c = by (has-line b p whole)
    where
      by : HasLine (onto_lines b p) → Reads (onto_lines b p).ended (onto_lines c r).ended 0 None
      by h = first p.ended refl ends_c is_c
        where
          first : (ls : List Bytes) → p.ended ≡ ls → (test : Bool) → (c == 10) ≡ test → Reads (onto_lines b p).ended (onto_lines c r).ended 0 None
          first [] lines test is =
              let none : (put_first b p.ended p.left).ended ≡ h.first ∷ h.others = subst (λ t. (if t then record { ended = [] ∷ p.ended; left = p.left } else put_first b p.ended p.left).ended ≡ h.first ∷ h.others) is_b h.lines in
              let empty : (put_first b [] p.left).ended ≡ h.first ∷ h.others = subst (λ ls. (put_first b ls p.left).ended ≡ h.first ∷ h.others) lines none in
              absurd (cc (empty))
          first (l ∷ ls) lines true is = rw is_b (rw lines (rw is (nothing-taken (b ∷ l) [] ls r.ended refl)))
          first (l ∷ ls) lines false is = rw is_b (rw lines (rw is (second r.ended)))
            where
              second : (rest : List Bytes) → Reads ((b ∷ l) ∷ ls) (put_first c rest r.left).ended 0 None
              second [] = record { count_is = refl; end_is = refl }
              second (m ∷ rest) = nothing-taken (b ∷ l) (c ∷ m) ls rest (rw (other-way b c not) refl)

  -- ---- a piece along a text
  abbrev pub if_all : Bool → Bytes → Option (A × List Bytes)
  if_all true rest = Some (a, ended rest)
  if_all false rest = None

  whole-behind : (b : ℕ) (p : Bytes) → IsWhole (b ∷ p) → IsWhole p
  whole-behind b p whole = by (b == 10) refl (lines_of p).ended refl
    where
      by : (test : Bool) → (b == 10) ≡ test → (ls : List Bytes) → (lines_of p).ended ≡ ls → IsWhole p
      by true is ls lines = subst (λ t. (if t then record { ended = [] ∷ (lines_of p).ended; left = (lines_of p).left } else put_first b (lines_of p).ended (lines_of p).left).left ≡ []) is whole
      by false is ls lines = inner ls (subst (λ ls. (put_first b ls (lines_of p).left).left ≡ []) lines
          (subst (λ t. (if t then record { ended = [] ∷ (lines_of p).ended; left = (lines_of p).left } else put_first b (lines_of p).ended (lines_of p).left).left ≡ []) is whole))
        where
          inner : (ls : List Bytes) → (put_first b ls (lines_of p).left).left ≡ [] → IsWhole p
          inner [] none = absurd (cc (none))
          inner (l ∷ ls) none = none

  pub along : (p r : Bytes) → IsWhole p → Reads (ended p) (ended r) (feeds (take (same_front p r) r)) (if_all (same_front p r == length p) (drop (length p) r))
  along [] r whole = record { count_is = refl; end_is = refl }
  along (b ∷ p) [] whole = let h = has-line b (lines_of p) whole in rw h.lines (record { count_is = refl; end_is = sym (ap (λ t. if_all t []) (none-eqb (length p))) })
  along (b ∷ p) (c ∷ r) whole = by (b == c) refl (along p r (whole-behind b p whole))
    where
      by : (test : Bool) → (b == c) ≡ test → Reads (ended p) (ended r) (feeds (take (same_front p r) r)) (if_all (same_front p r == length p) (drop (length p) r)) → Reads (ended (b ∷ p)) (ended (c ∷ r)) (feeds (take (same_front (b ∷ p) (c ∷ r)) (c ∷ r))) (if_all (same_front (b ∷ p) (c ∷ r) == suc (length p)) (drop (length p) r))
      by false not more = rw not (subst (λ t. Reads (ended (b ∷ p)) (ended (c ∷ r)) 0 (if_all t (drop (length p) r))) (sym (none-eqb (length p))) (step-other b c not (lines_of p) (lines_of r) whole (b == 10) (c == 10) refl refl))
      by true is more = rw is (subst (λ d. Reads (ended (b ∷ p)) (ended (d ∷ r)) (if d == 10 then suc (feeds (take (same_front p r) r)) else feeds (take (same_front p r) r)) (if_all (suc (same_front p r) == suc (length p)) (drop (length p) r))) (eqb-true b c is)
          (step-same b (lines_of p) (lines_of r) _ _ whole (b == 10) refl
          (subst (λ t. Reads (ended p) (ended r) (feeds (take (same_front p r) r)) (if_all t (drop (length p) r))) (sym (suc-eqb (same_front p r) (length p))) more)))

  -- what is behind the last line feed is behind it still
  stay-behind : (b : ℕ) (r : Bytes) (test : Bool) → (b == 10) ≡ test → (test ≡ false → HasLine (lines_of r)) → (lines_of (b ∷ r)).left ≡ (lines_of r).left
  stay-behind b r true is has = rw is refl
  stay-behind b r false is has = let h = has refl in rw is (rw h.lines refl)

  walked-some : (l : Bytes) (ls rest : List Bytes) (left : Bytes) (x : A × List Bytes) → walk (expected (l ∷ ls) a) rest ≡ Some x → HasLine (record { ended = rest; left = left })
  walked-some l ls [] left x is = absurd (cc (is))
  walked-some l ls (m ∷ rest) left x is = record { first = m; others = rest; lines = refl }

  left-behind : (p r : Bytes) → IsWhole p → same_front p r ≡ length p → (lines_of (drop (length p) r)).left ≡ (lines_of r).left
  left-behind [] r whole same = refl
  left-behind (b ∷ p) [] whole same = absurd (cc (same))
  left-behind (b ∷ p) (c ∷ r) whole same = by (b == c) refl same (λ w all. left-behind p r w all)
    where
      by : (test : Bool) → (b == c) ≡ test → (if test then suc (same_front p r) else 0) ≡ suc (length p) → (IsWhole p → same_front p r ≡ length p → (lines_of (drop (length p) r)).left ≡ (lines_of r).left) → (lines_of (drop (length p) r)).left ≡ (lines_of (c ∷ r)).left
      by false not same more = absurd (cc (same))
      by true is same more =
          let whole_p = whole-behind b p whole in
          let all : same_front p r ≡ length p = omega (arith, same) in
          let equal : b ≡ c = eqb-true b c is in
          more whole_p all ∙ sym (stay-behind c r (c == 10) refl (λ no_feed.
          let no_feed_b : (b == 10) ≡ false = subst (λ d. (d == 10) ≡ false) (sym equal) no_feed in
          let h = has-line b (lines_of p) whole in
          by_lines no_feed_b (lines_of p).ended refl whole (along p r whole_p).end_is all))
        where
          by_lines : (b == 10) ≡ false → (ls : List Bytes) → (lines_of p).ended ≡ ls → (lines_of (b ∷ p)).left ≡ [] → walk (expected (lines_of p).ended a) (ended r) ≡ if_all (same_front p r == length p) (drop (length p) r) → same_front p r ≡ length p → HasLine (lines_of r)
          by_lines no_feed [] lines nothing walked all =
              let cut : (put_first b (lines_of p).ended (lines_of p).left).left ≡ [] = subst (λ t. (if t then record { ended = [] ∷ (lines_of p).ended; left = (lines_of p).left } else put_first b (lines_of p).ended (lines_of p).left).left ≡ []) no_feed nothing in
              let empty : (put_first b [] (lines_of p).left).left ≡ [] = subst (λ ls. (put_first b ls (lines_of p).left).left ≡ []) lines cut in
              absurd (cc (empty))
          by_lines no_feed (l ∷ ls) lines nothing walked all =
              let full : (same_front p r == length p) ≡ true = eq-eqb (same_front p r) (length p) all in
              walked-some l ls (ended r) (lines_of r).left (a, ended (drop (length p) r)) (subst (λ ls. walk (expected ls a) (ended r) ≡ Some (a, ended (drop (length p) r))) lines (walked ∙ ap (λ t. if_all t (drop (length p) r)) full))

  pub piece-follows : (piece : Bytes) (s : Followed) → IsWhole piece → (same_front piece (left_of s) == length piece) ≡ true → Follows (expected (ended piece) a) s (followed piece s) (Some a)
  piece-follows piece s whole all =
      let n = same_front piece (left_of s) in
      let equal : n ≡ length piece = eqb-true n (length piece) all in
      let read = along piece (left_of s) whole in
      let behind : left_of (followed piece s) ≡ drop (length piece) (left_of s) = drop-more s.at n s.text ∙ ap (λ m. drop m (left_of s)) equal in (
        refl,
        record {
          lines = passed-on piece s ∙ ap (λ m. passed s + m) (sym read.count_is);
          at_end = (read.end_is ∙ (ap (λ t. if_all t (drop (length piece) (left_of s))) all ∙ ap (λ bs. Some (a, ended bs)) (sym behind)), ap (λ bs. (lines_of bs).left) behind ∙ left-behind piece (left_of s) whole equal);
        },
      )

  pub piece-stops : (piece : Bytes) (s : Followed) → IsWhole piece → (same_front piece (left_of s) == length piece) ≡ false → Follows (expected (ended piece) a) s (followed piece s) None
  piece-stops piece s whole not =
      let read = along piece (left_of s) whole in (
        refl,
        record {
          lines = passed-on piece s ∙ ap (λ m. passed s + m) (sym read.count_is);
          at_end = read.end_is ∙ ap (λ t. if_all t (drop (length piece) (left_of s))) not;
        },
      )

-- ---- pieces that a line feed ends
left-ended : (bs : Bytes) → (lines_of (bs ++ 10 ∷ [])).left ≡ [] × ((lines_of (bs ++ 10 ∷ [])).ended ≡ [] → ⊥)
left-ended [] = (refl, λ none. cc (none))
left-ended (b ∷ bs) = by (b == 10) refl (lines_of (bs ++ 10 ∷ [])).ended refl (left-ended bs)
  where
    by : (test : Bool) → (b == 10) ≡ test → (ls : List Bytes) → (lines_of (bs ++ 10 ∷ [])).ended ≡ ls → ((lines_of (bs ++ 10 ∷ [])).left ≡ [] × ((lines_of (bs ++ 10 ∷ [])).ended ≡ [] → ⊥)) → (lines_of (b ∷ (bs ++ 10 ∷ []))).left ≡ [] × ((lines_of (b ∷ (bs ++ 10 ∷ []))).ended ≡ [] → ⊥)
    by true is ls lines h = rw is (h.0, λ none. cc (none))
    by false is [] lines h = absurd (h.1 lines)
    by false is (l ∷ ls) lines h = rw is (rw lines (h.0, λ none. cc (none)))

pub whole-piece : (piece before : Bytes) → piece ≡ before ++ 10 ∷ [] → IsWhole piece
whole-piece piece before is = ap (λ bs. (lines_of bs).left) is ∙ (left-ended before).0

-- a piece in front of other bytes
pub own-front : (p r : Bytes) → same_front p (p ++ r) ≡ length p
own-front [] r = refl
own-front (b ∷ p) r = rw (same-again b) (ap suc (own-front p r))
