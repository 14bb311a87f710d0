-- A reader of a journal does not see phases in which nothing is owed.
use Rattle.line_followers.proofs.Common.{[], ℕ, ◌+◌, ◌∙◌, ◌∷◌, ◌≡◌, ap, arith, behind, Bool, Bytes, done, Due, due, ended, Entry, false, filled, Followed, Follows, Goes, how_many, if◌then◌else◌, is-due, is_some, IsAtEnd, journal, left_of}
use Rattle.line_followers.proofs.Common.{length, List, map_first, mapped, None, nothing, one_more, Option, passed, Reader, refl, shown, Some, some, subst, suc, sym, taken, takes, true, walk, walk-mapped, with_entry, zero}

-- ---- two readers that do the same on all lines
pub record AreSame {A : Type 0} (r q : Reader A) : Type 0 where
  pub taken_same : (ls : List Bytes) → taken r ls ≡ taken q ls
  pub walk_same : (ls : List Bytes) → walk r ls ≡ walk q ls

pub same-reader : {A : Type 0} (r : Reader A) → AreSame r r
same-reader r = record { taken_same = λ ls. refl; walk_same = λ ls. refl }

taken-mapped : {A B : Type 0} (f : A → B) (r : Reader A) (ls : List Bytes) → taken (mapped f r) ls ≡ taken r ls
taken-mapped f (done a) ls = refl
taken-mapped f (takes p go) [] = refl
taken-mapped f (takes p go) (l ∷ ls) = ap (λ n. if p l then suc n else 0) (taken-mapped f (go l) ls)

pub same-mapped : {A B : Type 0} (f : A → B) (r q : Reader A) → AreSame r q → AreSame (mapped f r) (mapped f q)
same-mapped f r q h = record {
  taken_same = λ ls. taken-mapped f r ls ∙ (h.taken_same ls ∙ sym (taken-mapped f q ls));
  walk_same = λ ls. walk-mapped f r ls ∙ (ap (map_first f) (h.walk_same ls) ∙ sym (walk-mapped f q ls));
}

-- the first line is asked the same, and behind it they do the same
same-takes : {A : Type 0} (p : Bytes → Bool) (go back : Bytes → Reader A) → ((l : Bytes) → AreSame (go l) (back l)) → AreSame (takes p go) (takes p back)
same-takes {A} p go back h = record { taken_same = counts; walk_same = walks }
  where
    counts : (ls : List Bytes) → taken (takes p go) ls ≡ taken (takes p back) ls
    counts [] = refl
    counts (l ∷ ls) = ap (λ n. if p l then suc n else 0) ((h l).taken_same ls)

    walks : (ls : List Bytes) → walk (takes p go) ls ≡ walk (takes p back) ls
    walks [] = refl
    walks (l ∷ ls) = ap (λ o. if p l then o else None) ((h l).walk_same ls)

pub same-follows : {A : Type 0} (r q : Reader A) (old end : Followed) (value : Option A) → AreSame r q → Follows r old end value → Follows q old end value
same-follows {A} r q old end value h (text, goes) =
    (text, record { lines = goes.lines ∙ ap (λ n. passed old + n) (h.taken_same (ended (left_of old))); at_end = by value goes.at_end })
  where
    by : (o : Option A) → IsAtEnd r (left_of old) (left_of end) o → IsAtEnd q (left_of old) (left_of end) o
    by None is = sym (h.walk_same (ended (left_of old))) ∙ is
    by (Some a) is = (sym (h.walk_same (ended (left_of old))) ∙ is.0, is.1)

-- ---- what is due is what is filled first
module _ {L : Type 0} where
  pub filled-due : (owed : List (List L)) → filled (due owed) ≡ filled owed
  filled-due [] = refl
  filled-due ([] ∷ phases) = filled-due phases
  filled-due ((l ∷ ls) ∷ phases) = refl

  filled-behind : (ls : List L) (xs ys : List (List L)) → filled xs ≡ filled ys → filled (ls ∷ xs) ≡ filled (ls ∷ ys)
  filled-behind [] xs ys same = same
  filled-behind (l ∷ ls) xs ys same = ap (λ ps. (l ∷ ls) ∷ ps) same

  pub filled-many : (owed : List (List L)) → how_many (filled owed) ≡ how_many owed
  filled-many [] = refl
  filled-many ([] ∷ phases) = let more = filled-many phases in omega (arith, more)
  filled-many ((l ∷ ls) ∷ phases) = let more = filled-many phases in omega (arith, more)

module _ {M E R W S L : Type 0} (after : S → E → S) (reply : S → E → R) (actor_of : L → ℕ) (event_of : L → Option E)
    (caller_in : ℕ → Bytes → Option ℕ) (print : ℕ → Entry M E R W S → Bytes) where
  abbrev the_journal : ℕ → ℕ → S → List (List L) → Reader (List (Entry M E R W S) × S)
  the_journal n k s owed = journal after reply actor_of event_of caller_in print n k s owed

  abbrev OneMore : ℕ → ℕ → S → List (List L) → Reader (List (Entry M E R W S) × S)
  OneMore n k s owed = one_more after reply actor_of event_of caller_in print k (λ t more. the_journal n (k + 1) t more) s owed

  pub same-journal : (n k : ℕ) (s : S) (xs ys : List (List L)) → filled xs ≡ filled ys → AreSame (the_journal n k s xs) (the_journal n k s ys)
  same-journal zero k s xs ys same = same-reader (done ([], s))
  same-journal (suc n) k s xs ys same = by (is-due xs) (is-due ys) (λ t ps qs more. same-journal n (k + 1) t ps qs more)
    where
      due-same : filled (due xs) ≡ filled (due ys)
      due-same = filled-due xs ∙ (same ∙ sym (filled-due ys))

      Later : Type 0
      Later = (t : S) (ps qs : List (List L)) → filled ps ≡ filled qs → AreSame (the_journal n (k + 1) t ps) (the_journal n (k + 1) t qs)

      by : Due xs → Due ys → Later → AreSame (the_journal (suc n) k s xs) (the_journal (suc n) k s ys)
      by (nothing none) (nothing empty) go =
          subst (λ o. AreSame (OneMore n k s o) (OneMore n k s (due ys))) (sym none) (subst (λ o. AreSame (done ([], s)) (OneMore n k s o)) (sym empty) (same-reader (done ([], s))))
      by (nothing none) (some l ls later is) go = absurd (cc (sym (ap filled none) ∙ (due-same ∙ ap filled is)))
      by (some l ls later is) (nothing empty) go = absurd (cc (sym (ap filled is) ∙ (due-same ∙ ap filled empty)))
      by (some l ls later is) (some m ms others at) go =
          let both : (l ∷ ls) ∷ filled later ≡ (m ∷ ms) ∷ filled others = sym (ap filled is) ∙ (due-same ∙ ap filled at) in
          let first : l ∷ ls ≡ m ∷ ms = cc (both) in
          let rest : filled later ≡ filled others = cc (both) in
          subst (λ o. AreSame (OneMore n k s o) (OneMore n k s (due ys))) (sym is) (subst (λ o. AreSame (OneMore n k s ((l ∷ ls) ∷ later)) (OneMore n k s o)) (sym at)
          (subst (λ phase. AreSame (OneMore n k s ((l ∷ ls) ∷ later)) (OneMore n k s (phase ∷ others))) first
          (same-takes (λ line. is_some (shown after reply actor_of event_of caller_in print k s (l ∷ ls) line)) _ _ (λ line. next go later others rest (shown after reply actor_of event_of caller_in print k s (l ∷ ls) line)))))
        where
          next : Later → (later others : List (List L)) → filled later ≡ filled others → (o : Option (Entry M E R W S × List L))
              → AreSame (behind after reply actor_of event_of caller_in print (λ t more. the_journal n (k + 1) t more) s later o) (behind after reply actor_of event_of caller_in print (λ t more. the_journal n (k + 1) t more) s others o)
          next go later others rest None = same-reader (done ([], s))
          next go later others rest (Some x) =
              same-mapped (with_entry after reply actor_of event_of caller_in print x.0) _ _ (go (after s x.0.event) (x.1 ∷ later) (x.1 ∷ others) (filled-behind x.1 later others rest))
