-- The first words of a line tell all, and the first bytes of a word.
use Rattle.talk_items.proofs.Common.{[], ℕ, ◌++◌, ◌<◌, ◌==◌, ◌↔◌, ◌∙◌, ◌∷◌, ◌≡◌, ◌≤◌, ap, append-nil, arith, begins_with_change, behind, Bool, Bytes, counted_with, Cut, cut_more, cuts, ends_line, eqb-true, Err, false, filter, first_with}
use Rattle.talk_items.proofs.Common.{if◌then◌else◌, is_end, is_skipped, is_word, IsOk, ItemKind, Keyword, keyword, kind_of, length, length-append, length-take, List, map, map-append, None, Ok, OnErr, OnOk, opens, Option, Place}
use Rattle.talk_items.proofs.{Common.{place_behind, Some, question_opens, refl, Result, subst, suc, sym, take, take-append-le, tell_enough, TellAll, true, unit_opens, what_if_opens, with_last}, PlainWords.not-full}
use Rattle.arrayvec.specs.ArrayVec.{ArrayVec}
use Rattle.std.proofs.lemmas.List.{take_all}
use Rattle.talk_items.specs.declared.items.Place.TheVariants as places
use Rattle.talk_items.specs.declared.keywords.Keyword.TheVariants as keywords

begins-any : (w : Keyword) (xs ys : List Keyword) → begins_with_change (w ∷ xs) ≡ begins_with_change (w ∷ ys)
begins-any keywords.Change xs ys = refl
begins-any w xs ys = refl

unit-any : (w v : Keyword) (xs ys : List Keyword) → unit_opens (w ∷ v ∷ xs) ≡ unit_opens (w ∷ v ∷ ys)
unit-any keywords.Type v xs ys = refl
unit-any keywords.Declaration v xs ys = refl
unit-any w v xs ys = begins-any v xs ys

what-if-any : (w v : Keyword) (xs ys : List Keyword) → what_if_opens (w ∷ v ∷ xs) ≡ what_if_opens (w ∷ v ∷ ys)
what-if-any keywords.Question v xs ys = refl
what-if-any w v xs ys = unit-any w v xs ys

question-any : (w v u : Keyword) (xs ys : List Keyword) → question_opens (w ∷ v ∷ u ∷ xs) ≡ question_opens (w ∷ v ∷ u ∷ ys)
question-any keywords.Move v u xs ys = refl
question-any keywords.If v u xs ys = what-if-any v u xs ys
question-any w v u xs ys = refl

opens-any : (w v u t : Keyword) (xs ys : List Keyword) → opens (w ∷ v ∷ u ∷ t ∷ xs) ≡ opens (w ∷ v ∷ u ∷ t ∷ ys)
opens-any keywords.Comment v u t xs ys = refl
opens-any keywords.Question v u t xs ys = question-any v u t xs ys
opens-any w v u t xs ys = unit-any w v (u ∷ t ∷ xs) (u ∷ t ∷ ys)

skipped-any : (w : Keyword) (xs ys : List Keyword) → is_skipped (w ∷ xs) ≡ is_skipped (w ∷ ys)
skipped-any keywords.Comment xs ys = refl
skipped-any w xs ys = refl

end-any : (w v : Keyword) (xs ys : List Keyword) → is_end (w ∷ v ∷ xs) ≡ is_end (w ∷ v ∷ ys)
end-any keywords.End v xs ys = refl
end-any w v xs ys = refl

format-any : (v u : Keyword) (xs ys : List Keyword) → kind_of (keywords.Adept ∷ v ∷ u ∷ xs) ≡ kind_of (keywords.Adept ∷ v ∷ u ∷ ys)
format-any keywords.Format u xs ys = refl
format-any v u xs ys = refl

kind-any : (w v u : Keyword) (xs ys : List Keyword) → kind_of (w ∷ v ∷ u ∷ xs) ≡ kind_of (w ∷ v ∷ u ∷ ys)
kind-any keywords.Question v u xs ys = refl
kind-any keywords.Adept v u xs ys = format-any v u xs ys
kind-any w v u xs ys = refl

pub opens-front : (ws : List Keyword) → opens (take 4 ws) ≡ opens ws
opens-front [] = refl
opens-front (w ∷ []) = refl
opens-front (w ∷ v ∷ []) = refl
opens-front (w ∷ v ∷ u ∷ []) = refl
opens-front (w ∷ v ∷ u ∷ t ∷ ws) = opens-any w v u t [] ws

pub skipped-front : (ws : List Keyword) → is_skipped (take 4 ws) ≡ is_skipped ws
skipped-front [] = refl
skipped-front (w ∷ ws) = skipped-any w (take 3 ws) ws

pub end-front : (ws : List Keyword) → is_end (take 4 ws) ≡ is_end ws
end-front [] = refl
end-front (w ∷ []) = refl
end-front (w ∷ v ∷ ws) = end-any w v (take 2 ws) ws

pub kind-front : (ws : List Keyword) → kind_of (take 4 ws) ≡ kind_of ws
kind-front [] = refl
kind-front (w ∷ []) = refl
kind-front (w ∷ v ∷ []) = refl
kind-front (w ∷ v ∷ u ∷ ws) = kind-any w v u (take 1 ws) ws

pub four-tell : (ws : List Keyword) → TellAll (take 4 ws) ws
four-tell ws = record { skipped = skipped-front ws; open_it = opens-front ws; end_it = end-front ws; kind = kind-front ws }

pub four_told : (some ws : List Keyword) → some ≡ take 4 ws → TellAll some ws
four_told some ws is = subst (λ l. TellAll l ws) (sym is) (four-tell ws)

-- the first four words tell all, whatever stands behind them
long-tell : (front behind : List Keyword) → length front ≡ 4 → TellAll front (front ++ behind)
long-tell front behind long =
    subst (λ l. TellAll l (front ++ behind)) (take-append-le 4 front behind (omega (arith, long)) ∙ take_all 4 front (omega (arith, long))) (four-tell (front ++ behind))

pub enough-tell : (front behind : List Keyword) → tell_enough front ≡ true → TellAll front (front ++ behind)
enough-tell [] behind is = absurd cc
enough-tell (keywords.Comment ∷ ws) behind is = record { skipped = refl; open_it = refl; end_it = refl; kind = refl }
enough-tell (keywords.Type ∷ ws) behind is = record { skipped = refl; open_it = refl; end_it = refl; kind = refl }
enough-tell (keywords.Declaration ∷ ws) behind is = record { skipped = refl; open_it = refl; end_it = refl; kind = refl }
enough-tell (keywords.Question ∷ ws) behind is = long-tell (keywords.Question ∷ ws) behind (ap suc (eqb-true (length ws) 3 is))
enough-tell (keywords.Adept ∷ ws) behind is = long-tell (keywords.Adept ∷ ws) behind (ap suc (eqb-true (length ws) 3 is))
enough-tell (w ∷ []) behind is = absurd cc
enough-tell (w ∷ v ∷ ws) behind is = record { skipped = refl; open_it = unit-any w v ws (ws ++ behind); end_it = end-any w v ws (ws ++ behind); kind = refl }

pub all-tell : (ws : List Keyword) → TellAll ws ws
all-tell ws = record { skipped = refl; open_it = refl; end_it = refl; kind = refl }

-- where they do not there are less than four
pub not-enough : (ws : List Keyword) → tell_enough ws ≡ false → length ws ≤ 4 → length ws < 4
not-enough [] is few = omega arith
not-enough (keywords.Comment ∷ ws) is few = absurd cc
not-enough (keywords.Type ∷ ws) is few = absurd cc
not-enough (keywords.Declaration ∷ ws) is few = absurd cc
not-enough (keywords.Question ∷ ws) is few = omega (arith, not-full (length ws) 3 false (sym is) refl (omega (arith, few)))
not-enough (keywords.Adept ∷ ws) is few = omega (arith, not-full (length ws) 3 false (sym is) refl (omega (arith, few)))
not-enough (w ∷ []) is few = omega arith
not-enough (w ∷ v ∷ ws) is few = absurd cc

-- and what they tell
module _ {some all : List Keyword} (tell : TellAll some all) where
  pub ends-told : (place : Place) → ends_line place some ≡ ends_line place all
  ends-told places.Front = rw (tell.skipped, tell.open_it) refl
  ends-told places.Group = tell.end_it

  pub place-told : (place : Place) → place_behind place some ≡ place_behind place all
  place-told places.Front = rw tell.open_it refl
  place-told places.Group = rw tell.end_it refl

  pub first-told : (first : Option ItemKind) → first_with first some ≡ first_with first all
  first-told None = rw (tell.skipped, tell.kind) refl
  first-told (Some kind) = refl

  pub counted-told : (count len : ℕ) → counted_with count len some ≡ counted_with count len all
  counted-told count len = rw tell.skipped refl

-- a word is told by its first bytes
pub keyword-front : (w : Bytes) → keyword (take 8 w) ≡ keyword w
keyword-front [] = refl
keyword-front (a ∷ []) = refl
keyword-front (a ∷ b ∷ []) = refl
keyword-front (a ∷ b ∷ c ∷ []) = refl
keyword-front (a ∷ b ∷ c ∷ d ∷ []) = refl
keyword-front (a ∷ b ∷ c ∷ d ∷ e ∷ []) = refl
keyword-front (a ∷ b ∷ c ∷ d ∷ e ∷ f ∷ []) = refl
keyword-front (a ∷ b ∷ c ∷ d ∷ e ∷ f ∷ g ∷ []) = refl
keyword-front (a ∷ b ∷ c ∷ d ∷ e ∷ f ∷ g ∷ h ∷ w) = refl

-- one more behind a front that has room, and behind one that has none
pub front-more : {A : Type 0} (n : ℕ) (front xs : List A) (x : A) → front ≡ take n xs → length front < n → front ++ x ∷ [] ≡ take n (xs ++ x ∷ [])
front-more n front xs x is room =
    let few : length xs < n = omega (arith, ap length is, length-take n xs, room) in
    ap (λ f. f ++ x ∷ []) (is ∙ take_all n xs (omega (arith, few))) ∙ sym (take_all n (xs ++ x ∷ []) (omega (arith, few, length-append xs (x ∷ []))))

pub front-full : {A : Type 0} (n : ℕ) (front xs ys : List A) → front ≡ take n xs → n ≤ length front → front ≡ take n (xs ++ ys)
front-full n front xs ys is full = is ∙ sym (take-append-le n xs ys (omega (arith, ap length is, length-take n xs, full)))

-- a word's front is empty where the word is
pub no-word : (word w : Bytes) → word ≡ take 8 w → length word ≡ 0 → filter is_word (w ∷ []) ≡ []
no-word word [] is none = refl
no-word word (b ∷ w) is none = absurd (omega (arith, ap length is, none))

pub one-word : (word w : Bytes) → word ≡ take 8 w → 0 < length word → filter is_word (w ∷ []) ≡ w ∷ []
one-word word [] is some = absurd (omega (arith, ap length is, some))
one-word word (b ∷ w) is some = refl

-- the words of a line with one more
pub none-added : (old : List Keyword) (word : Bytes) (ws : List Bytes) (w : Bytes) → old ≡ take 4 (map keyword ws) → word ≡ take 8 w → length word ≡ 0 → old ≡ take 4 (map keyword (ws ++ filter is_word (w ∷ [])))
none-added old word ws w words is none = words ∙ ap (λ l. take 4 (map keyword l)) (sym (append-nil ws) ∙ ap (λ l. ws ++ l) (sym (no-word word w is none)))

pub added : (old : List Keyword) (word : Bytes) (ws : List Bytes) (w : Bytes) → old ≡ take 4 (map keyword ws) → word ≡ take 8 w → 0 < length word → length old < 4
    → old ++ keyword word ∷ [] ≡ take 4 (map keyword (ws ++ filter is_word (w ∷ [])))
added old word ws w words is some room =
    ap (λ k. old ++ k ∷ []) (ap keyword is ∙ keyword-front w) ∙ front-more 4 old (map keyword ws) (keyword w) words room
    ∙ ap (take 4) (sym (map-append keyword ws (w ∷ []))) ∙ ap (λ l. take 4 (map keyword (ws ++ l))) (sym (one-word word w is some))

pub not-added : (old : List Keyword) (ws : List Bytes) (w : Bytes) → old ≡ take 4 (map keyword ws) → 4 ≤ length old → old ≡ take 4 (map keyword (ws ++ filter is_word (w ∷ [])))
not-added old ws w words full = front-full 4 old (map keyword ws) (map keyword (filter is_word (w ∷ []))) words full ∙ ap (take 4) (sym (map-append keyword ws (filter is_word (w ∷ []))))

-- a line that is cut by one byte more
pub cut-here : (c : Cut) (b : ℕ) → cuts c.quote b ≡ true → cut_more c b ≡ record { words = with_last c; word = []; quote = behind c.quote b }
cut-here c b is = rw is refl

pub cut-on : (c : Cut) (b : ℕ) → cuts c.quote b ≡ false → cut_more c b ≡ record { words = c.words; word = c.word ++ b ∷ []; quote = behind c.quote b }
cut-on c b is = rw is refl

pub behind-it : (c : Cut) (b : ℕ) → (cut_more c b).quote ≡ behind c.quote b
behind-it c b = chosen (cuts c.quote b)
  where
    chosen : (is : Bool) → (let made : Cut = if is then record { words = with_last c; word = []; quote = behind c.quote b } else record { words = c.words; word = c.word ++ b ∷ []; quote = behind c.quote b } in made.quote) ≡ behind c.quote b
    chosen true = refl
    chosen false = refl

-- a push into a list that may have no room
pub try-added : {E : Type 0} (r : Result (Unit {0}) E) (old new : ArrayVec Keyword) (word : Bytes) (key : Keyword) → key ≡ keyword word → (IsOk r ↔ (length old.items < 4)) → OnOk r (new.items ≡ old.items ++ key ∷ []) → OnErr r (new ≡ old)
    → OnErr r (length old.items ≡ 4) → 0 < length word → (ws : List Bytes) (w : Bytes) → old.items ≡ take 4 (map keyword ws) → word ≡ take 8 w → new.items ≡ take 4 (map keyword (ws ++ filter is_word (w ∷ [])))
try-added (Ok x) old new word key told variant ok err full some ws w words is =
    ok ∙ ap (λ k. old.items ++ k ∷ []) told ∙ added old.items word ws w words is some (variant.0 refl)
try-added (Err e) old new word key told variant ok err full some ws w words is = ap (λ v. v.items) err ∙ not-added old.items ws w words (omega (arith, full))

pub some-byte : (bytes : Bytes) (b : Bool) → b ≡ (length bytes == 0) → b ≡ false → 0 < length bytes
some-byte [] b is not_so = absurd cc
some-byte (x ∷ bytes) b is not_so = omega arith
