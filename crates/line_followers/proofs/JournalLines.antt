-- A line of a journal, right or wrong, takes the reader of the journal on or stops it.
use Rattle.line_followers.proofs.Common.{[], ℕ, ◌++◌, ◌+◌, ◌==◌, ◌∙◌, ◌∷◌, ◌≡◌, ap, append_assoc, arith, behind, Bool, Bytes, bytes_eq, bytes_eq-Decides, CutLines, done, drop, due, ended, ending, Entry, entry, eq-eqb, eqb-true, expected}
use Rattle.line_followers.proofs.Common.{false, feeds, first_by, Followed, followed, Follows, front_line, Goes, goes-ended, goes-line, goes-mapped, goes-wrong, if_shown, if◌then◌else◌, is_some, IsOneLine, IsWhole, journal, left_of, length}
use Rattle.line_followers.proofs.Common.{lines_of, List, mapped, next_of, None, of_event, of_first, one_more, Option, option_map, passed, Reaches, Reader, refl, same_front, shown, Some, subst, suc, sym, take, taken, takes, true, with_entry}
use Rattle.line_followers.proofs.{Common.zero, Pieces.{along, feeds-append, full-front, own-front, passed-on, whole-piece}}
use Rattle.line_readers.proofs.Lines.{cut-line, cut-together}

-- a line without a line feed counts as none
no-feed : (line : Bytes) → IsOneLine line → feeds line ≡ 0
no-feed [] one = refl
no-feed (b ∷ bs) (not, one) = rw not (no-feed bs one)

module _ {M E R W S L : Type 0} (after : S → E → S) (reply : S → E → R) (actor_of : L → ℕ) (event_of : L → Option E)
    (caller_in : ℕ → Bytes → Option ℕ) (print : ℕ → Entry M E R W S → Bytes) where
  abbrev the_journal : ℕ → ℕ → S → List (List L) → Reader (List (Entry M E R W S) × S)
  the_journal n k s owed = journal after reply actor_of event_of caller_in print n k s owed

  abbrev the_shown : ℕ → S → List L → Bytes → Option (Entry M E R W S × List L)
  the_shown k s phase line = shown after reply actor_of event_of caller_in print k s phase line

  abbrev go_on : ℕ → ℕ → S → List (List L) → Reader (List (Entry M E R W S) × S)
  go_on n k t more = the_journal n (k + 1) t more

  -- the reader where a line is due
  abbrev at_line : ℕ → ℕ → S → List L → List (List L) → Reader (List (Entry M E R W S) × S)
  at_line n k s phase later = takes (λ line. is_some (the_shown k s phase line)) (λ line. behind after reply actor_of event_of caller_in print (go_on n k) s later (the_shown k s phase line))

  first-some : (a : ℕ) (phase : List L) (x : L × List L) → first_by actor_of a phase ≡ Some x → (l : L) × (ls : List L) × (phase ≡ l ∷ ls)
  first-some a [] x is = absurd (cc (is))
  first-some a (l ∷ ls) x is = (l, ls, refl)

  -- The line that stands there is the one that is printed of its caller's next call.
  pub line-right : (n k : ℕ) (s : S) (phase : List L) (later : List (List L)) (a : ℕ) (l : L) (others : List L) (e : E) (text : Followed) (line : Bytes)
      → line ≡ print k (entry a e (reply s e)) → IsOneLine line → caller_in k line ≡ Some a → first_by actor_of a phase ≡ Some (l, others) → event_of l ≡ Some e
      → (same_front (line ++ 10 ∷ []) (left_of text) == length (line ++ 10 ∷ [])) ≡ true
      → Reaches (the_journal (suc n) k s (phase ∷ later)) text (the_journal n (k + 1) (after s e) (others ∷ later)) (followed (line ++ 10 ∷ []) text) (with_entry after reply actor_of event_of caller_in print (entry a e (reply s e)))
  line-right n k s phase later a l others e text line printed one caller first event stands =
      let made : Entry M E R W S = entry a e (reply s e) in
      let piece = line ++ 10 ∷ [] in
      let mid = followed piece text in
      let is_shown : the_shown k s phase line ≡ Some (made, others) = rw (caller, first, event, (bytes_eq-Decides line (print k made)).1 printed) refl in
      let there : left_of text ≡ line ++ 10 ∷ left_of mid = (full-front piece text stands).0 ∙ append_assoc line (10 ∷ []) (left_of mid) in
      let cut : lines_of (left_of text) ≡ record { ended = line ∷ ended (left_of mid); left = (lines_of (left_of mid)).left } = ap lines_of there ∙ cut-line line (left_of mid) one in
      let counted : passed mid ≡ passed text + 1 =
      let one_more_line : feeds piece ≡ 1 = feeds-append line (10 ∷ []) ∙ ap (λ m. m + 1) (no-feed line one) in
      (full-front piece text stands).1 ∙ ap (λ m. passed text + m) one_more_line in
      let (x, xs, some) = first-some a phase (l, others) first in (
        refl,
        λ end value more. (
          more.0,
          subst (λ p. Goes (the_journal (suc n) k s (p ∷ later)) (left_of text) (left_of end) (passed text) (passed end) (option_map (with_entry after reply actor_of event_of caller_in print made) value)) (sym some)
              (goes-line _ _ (left_of text) line (left_of mid) (left_of end) (passed text) (passed end) _ cut
              (subst (λ p. is_some (the_shown k s p line) ≡ true) some (ap is_some is_shown))
              (subst (λ o. Goes (behind after reply actor_of event_of caller_in print (go_on n k) s later o) (left_of mid) (left_of end) (passed text + 1) (passed end) (option_map (with_entry after reply actor_of event_of caller_in print made) value))
              (subst (λ p. Some (made, others) ≡ the_shown k s p line) some (sym is_shown))
              (subst (λ m. Goes (mapped (with_entry after reply actor_of event_of caller_in print made) (the_journal n (k + 1) (after s e) (others ∷ later))) (left_of mid) (left_of end) m (passed end) (option_map (with_entry after reply actor_of event_of caller_in print made) value)) counted
              (goes-mapped _ _ (left_of mid) (left_of end) (passed mid) (passed end) value more.1)))),
        ),
      )

  -- No line may stand there that does.
  pub line-not-shown : (n k : ℕ) (s : S) (phase : List L) (later : List (List L)) (x : L) (xs : List L) → phase ≡ x ∷ xs → (text : Followed)
      → ((m : Bytes) (rest : List Bytes) → ended (left_of text) ≡ m ∷ rest → the_shown k s phase m ≡ None) → Follows (the_journal (suc n) k s (phase ∷ later)) text text None
  line-not-shown n k s phase later x xs some text none = by (ended (left_of text)) refl
    where
      at_phase : Goes (at_line n k s phase later) (left_of text) (left_of text) (passed text) (passed text) None → Follows (the_journal (suc n) k s (phase ∷ later)) text text None
      at_phase goes = (
        refl,
        subst (λ p. Goes (the_journal (suc n) k s (p ∷ later)) (left_of text) (left_of text) (passed text) (passed text) None) (sym some)
            (subst (λ p. Goes (at_line n k s p later) (left_of text) (left_of text) (passed text) (passed text) None) some goes),
      )

      by : (ls : List Bytes) → ended (left_of text) ≡ ls → Follows (the_journal (suc n) k s (phase ∷ later)) text text None
      by [] is = at_phase (goes-ended _ _ (left_of text) (passed text) is)
      by (m ∷ rest) is = at_phase (goes-wrong _ _ (left_of text) m rest (passed text) is (ap is_some (none m rest is)))

  -- The caller that the line shows has no call to make, or the one that it makes is no event.
  pub caller-none : (k : ℕ) (s : S) (phase : List L) (m : Bytes) → caller_in k m ≡ None → the_shown k s phase m ≡ None
  caller-none k s phase m none = rw none refl

  pub first-none : (k : ℕ) (s : S) (phase : List L) (m : Bytes) (a : ℕ) → caller_in k m ≡ Some a → first_by actor_of a phase ≡ None → the_shown k s phase m ≡ None
  first-none k s phase m a caller none = rw (caller, none) refl

  pub event-none : (k : ℕ) (s : S) (phase : List L) (m : Bytes) (a : ℕ) (l : L) (others : List L) → caller_in k m ≡ Some a → first_by actor_of a phase ≡ Some (l, others) → event_of l ≡ None → the_shown k s phase m ≡ None
  event-none k s phase m a l others caller first none = rw (caller, first, none) refl

  -- Another line stands there than the one that is printed of its caller's next call.
  other-line : (line : Bytes) (text : Followed) (m : Bytes) (rest : List Bytes) → (same_front (line ++ 10 ∷ []) (left_of text) == length (line ++ 10 ∷ [])) ≡ false → ended (left_of text) ≡ m ∷ rest → bytes_eq m line ≡ false
  other-line line text m rest not is = by (bytes_eq m line) refl
    where
      by : (test : Bool) → bytes_eq m line ≡ test → bytes_eq m line ≡ false
      by false same = same
      by true same =
          let equal : m ≡ line = (bytes_eq-Decides m line).0 same in
          let behind : Bytes = ending rest ++ (lines_of (left_of text)).left in
          let there : left_of text ≡ (line ++ 10 ∷ []) ++ behind =
          sym (cut-together (left_of text)) ∙ (ap (λ ls. ending ls ++ (lines_of (left_of text)).left) is
          ∙ (append_assoc m (10 ∷ ending rest) (lines_of (left_of text)).left ∙ (ap (λ l. l ++ 10 ∷ behind) equal ∙ sym (append_assoc line (10 ∷ []) behind)))) in
          let all : same_front (line ++ 10 ∷ []) (left_of text) ≡ length (line ++ 10 ∷ []) = ap (same_front (line ++ 10 ∷ [])) there ∙ own-front (line ++ 10 ∷ []) behind in
          absurd (cc (not, eq-eqb (same_front (line ++ 10 ∷ []) (left_of text)) (length (line ++ 10 ∷ [])) all))

  none-passed : (line : Bytes) (text : Followed) → IsOneLine line → (same_front (line ++ 10 ∷ []) (left_of text) == length (line ++ 10 ∷ [])) ≡ false → passed (followed (line ++ 10 ∷ []) text) ≡ passed text
  none-passed line text one not =
      let piece = line ++ 10 ∷ [] in
      let lines : ended piece ≡ line ∷ [] = ap (λ (c : CutLines). c.ended) (cut-line line [] one) in
      let whole : IsWhole piece = whole-piece piece line refl in
      let counted = (along {A = ℕ} 0 piece (left_of text) whole).count_is in
      let none : taken {A = ℕ} (expected (ended piece) 0) (ended (left_of text)) ≡ 0 = ap (λ ls. taken {A = ℕ} (expected ls 0) (ended (left_of text))) lines ∙ by (ended (left_of text)) refl in
      passed-on piece text ∙ (ap (λ m. passed text + m) (sym counted ∙ none) ∙ omega arith)
    where
      by : (ls : List Bytes) → ended (left_of text) ≡ ls → taken {A = ℕ} (expected (line ∷ []) 0) (ended (left_of text)) ≡ 0
      by [] is = ap (taken {A = ℕ} (expected (line ∷ []) 0)) is
      by (m ∷ rest) is = ap (taken {A = ℕ} (expected (line ∷ []) 0)) is ∙ ap (λ test. if test then suc 0 else 0) (other-line line text m rest not is)

  pub line-differs : (n k : ℕ) (s : S) (phase : List L) (later : List (List L)) (a : ℕ) (l : L) (others : List L) (e : E) (text : Followed) (line : Bytes)
      → line ≡ print k (entry a e (reply s e)) → IsOneLine line → ((m : Bytes) (rest : List Bytes) → ended (left_of text) ≡ m ∷ rest → caller_in k m ≡ Some a) → first_by actor_of a phase ≡ Some (l, others) → event_of l ≡ Some e
      → (same_front (line ++ 10 ∷ []) (left_of text) == length (line ++ 10 ∷ [])) ≡ false
      → Follows (the_journal (suc n) k s (phase ∷ later)) text (followed (line ++ 10 ∷ []) text) None
  line-differs n k s phase later a l others e text line printed one caller first event not =
      let made : Entry M E R W S = entry a e (reply s e) in
      let (x, xs, some) = first-some a phase (l, others) first in
      let stopped = line-not-shown n k s phase later x xs some text (λ m rest is.
      let differs : bytes_eq m (print k made) ≡ false = ap (bytes_eq m) (sym printed) ∙ other-line line text m rest not is in
      rw (caller m rest is, first, event, differs) refl) in
      let counted = none-passed line text one not in
      (refl, record { lines = counted ∙ stopped.1.lines; at_end = stopped.1.at_end })
