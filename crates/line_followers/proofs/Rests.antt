-- A journal is gone along line by line and phase by phase.
use Rattle.line_followers.proofs.Common.{[], ℕ, ◌++◌, ◌+◌, ◌<◌, ◌==◌, ◌∙◌, ◌∷◌, ◌≡◌, ap, append-nil, append_assoc, arith, Bool, Bytes, done, ended, Entry, entry, false, first-is, first_by, Followed, followed, Follows, how_many, IsOneLine}
use Rattle.line_followers.proofs.{Common.{journal, left_of, length, List, None, Option, option_map, Reaches, Reader, refl, same_front, shown, Some, subst, suc, sym, true, with_entry}, Dues.{AreSame, same-follows, same-journal}}
use Rattle.line_followers.proofs.{JournalLines.{line-differs, line-not-shown, line-right}, Reaching.{follows-done, reaches-on}}
use Rattle.line_followers.specs.Rests.{rest_journal, with_entries}

-- the same value by another name
pub reaches-same : {A B : Type 0} (r : Reader A) (more : Reader B) (f g : B → A) (old mid : Followed) → ((b : B) → f b ≡ g b) → Reaches r old more mid f → Reaches r old more mid g
reaches-same {A} {B} r more f g old mid same (text, on) = (text, λ end value h. subst (Follows r old end) (by value) (on end value h))
  where
    by : (o : Option B) → option_map f o ≡ option_map g o
    by None = refl
    by (Some b) = ap Some (same b)

-- another reader that does the same
pub reaches-first : {A B : Type 0} (r q : Reader A) (more : Reader B) (f : B → A) (old mid : Followed) → AreSame r q → Reaches r old more mid f → Reaches q old more mid f
reaches-first r q more f old mid h (text, on) = (text, λ end value there. same-follows r q old end (option_map f value) h (on end value there))

pub reaches-last : {A B : Type 0} (r : Reader A) (more other : Reader B) (f : B → A) (old mid : Followed) → AreSame other more → Reaches r old more mid f → Reaches r old other mid f
reaches-last r more other f old mid h (text, on) = (text, λ end value there. on end value (same-follows other more mid end value h there))

module _ {M E R W S L : Type 0} (after : S → E → S) (reply : S → E → R) (actor_of : L → ℕ) (event_of : L → Option E)
    (caller_in : ℕ → Bytes → Option ℕ) (print : ℕ → Entry M E R W S → Bytes) where
  abbrev Made : Type 0
  Made = List (Entry M E R W S) × S

  abbrev rest_of : ℕ → S → List (List L) → Reader Made
  rest_of k s owed = rest_journal after reply actor_of event_of caller_in print k s owed

  abbrev the_journal : ℕ → ℕ → S → List (List L) → Reader Made
  the_journal n k s owed = journal after reply actor_of event_of caller_in print n k s owed

  abbrev behind_entries : List (Entry M E R W S) → Made → Made
  behind_entries es made = with_entries after reply actor_of event_of caller_in print es made

  one-fewer : (phase : List L) (later : List (List L)) (a : ℕ) (l : L) (others : List L) → first_by actor_of a phase ≡ Some (l, others) → how_many (phase ∷ later) ≡ suc (how_many (others ∷ later))
  one-fewer phase later a l others first = let fewer = (first-is actor_of a phase l others first).fewer in omega (arith, fewer)

  -- one line more
  pub rest-line : (k : ℕ) (s : S) (phase : List L) (later : List (List L)) (a : ℕ) (l : L) (others : List L) (e : E) (text : Followed) (line : Bytes)
      → line ≡ print k (entry a e (reply s e)) → IsOneLine line → caller_in k line ≡ Some a → first_by actor_of a phase ≡ Some (l, others) → event_of l ≡ Some e
      → (same_front (line ++ 10 ∷ []) (left_of text) == length (line ++ 10 ∷ [])) ≡ true
      → Reaches (rest_of k s (phase ∷ later)) text (rest_of (k + 1) (after s e) (others ∷ later)) (followed (line ++ 10 ∷ []) text) (behind_entries (entry a e (reply s e) ∷ []))
  rest-line k s phase later a l others e text line printed one caller first event stands =
      subst (λ n. Reaches (the_journal n k s (phase ∷ later)) text (rest_of (k + 1) (after s e) (others ∷ later)) (followed (line ++ 10 ∷ []) text) (behind_entries (entry a e (reply s e) ∷ [])))
      (sym (one-fewer phase later a l others first))
      (line-right after reply actor_of event_of caller_in print (how_many (others ∷ later)) k s phase later a l others e text line printed one caller first event stands)

  pub rest-differs : (k : ℕ) (s : S) (phase : List L) (later : List (List L)) (a : ℕ) (l : L) (others : List L) (e : E) (text : Followed) (line : Bytes)
      → line ≡ print k (entry a e (reply s e)) → IsOneLine line → ((m : Bytes) (rest : List Bytes) → ended (left_of text) ≡ m ∷ rest → caller_in k m ≡ Some a) → first_by actor_of a phase ≡ Some (l, others) → event_of l ≡ Some e
      → (same_front (line ++ 10 ∷ []) (left_of text) == length (line ++ 10 ∷ [])) ≡ false
      → Follows (rest_of k s (phase ∷ later)) text (followed (line ++ 10 ∷ []) text) None
  rest-differs k s phase later a l others e text line printed one caller first event not =
      subst (λ n. Follows (the_journal n k s (phase ∷ later)) text (followed (line ++ 10 ∷ []) text) None) (sym (one-fewer phase later a l others first))
      (line-differs after reply actor_of event_of caller_in print (how_many (others ∷ later)) k s phase later a l others e text line printed one caller first event not)

  -- entries in front of entries
  pub entries-on : (es fs : List (Entry M E R W S)) (made : Made) → behind_entries es (behind_entries fs made) ≡ behind_entries (es ++ fs) made
  entries-on es fs made = ap (λ xs. (xs, made.1)) (sym (append_assoc es fs made.0))

  pub rest-on : (k m : ℕ) (s t u : S) (owed more last : List (List L)) (n : ℕ) (es fs : List (Entry M E R W S)) (old mid new : Followed)
      → Reaches (rest_of k s owed) old (rest_of m t more) mid (behind_entries es) → Reaches (rest_of m t more) mid (rest_of n u last) new (behind_entries fs)
      → Reaches (rest_of k s owed) old (rest_of n u last) new (behind_entries (es ++ fs))
  rest-on k m s t u owed more last n es fs old mid new h g =
      reaches-same (rest_of k s owed) (rest_of n u last) (λ made. behind_entries es (behind_entries fs made)) (behind_entries (es ++ fs)) old new (entries-on es fs)
      (reaches-on (rest_of k s owed) (rest_of m t more) (rest_of n u last) (behind_entries es) (behind_entries fs) old mid new h g)

  -- a phase in which nothing more is owed is over
  pub phase-over : (k : ℕ) (s : S) (later : List (List L)) → AreSame (rest_of k s later) (rest_of k s ([] ∷ later))
  phase-over k s later =
      let many : how_many later ≡ how_many ([] ∷ later) = omega arith in
      subst (λ n. AreSame (rest_of k s later) (the_journal n k s ([] ∷ later))) many (same-journal after reply actor_of event_of caller_in print (how_many later) k s later ([] ∷ later) refl)

  -- nothing more is owed
  pub rest-done : (k : ℕ) (s : S) (text : Followed) → Follows (rest_of k s []) text text (Some ([], s))
  rest-done k s text = follows-done ([], s) text

  -- no line may stand there that does
  pub rest-wrong : (k : ℕ) (s : S) (phase : List L) (later : List (List L)) → 0 < length phase → (text : Followed)
      → ((m : Bytes) (rest : List Bytes) → ended (left_of text) ≡ m ∷ rest → shown after reply actor_of event_of caller_in print k s phase m ≡ None) → Follows (rest_of k s (phase ∷ later)) text text None
  rest-wrong k s [] later some text none = absurd (omega (arith, some))
  rest-wrong k s (x ∷ xs) later some text none =
      let fewer : suc (how_many (xs ∷ later)) ≡ how_many ((x ∷ xs) ∷ later) = omega arith in
      subst (λ n. Follows (the_journal n k s ((x ∷ xs) ∷ later)) text text None) fewer
      (line-not-shown after reply actor_of event_of caller_in print (how_many (xs ∷ later)) k s (x ∷ xs) later x xs refl text none)
