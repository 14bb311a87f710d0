-- What is known of the bytes of an item, with more of them.
use Rattle.talk_items.proofs.Common.{[], ℕ, ◌&&◌, ◌++◌, ◌+◌, ◌==◌, ◌∙◌, ◌∷◌, ◌≡◌, ◌≤◌, ap, append-nil, append_assoc, arith, Bool, Bytes, cases_lt, count_by-le-length, counted, counted_with, drop, drop-drop, ends, ends_line, false, filter}
use Rattle.talk_items.proofs.Common.{first_kind, first_with, HasNoFeed, if◌then◌else◌, inl, inr, is_skipped, IsScan, item_end, ItemKind, kind_of, le-ltb, length, length-append, length-filter, length-take, lines_of, List, lt-ltb, MAX_ITEM}
use Rattle.talk_items.proofs.{Common.{min, nat_lt, None, not, Option, option_map, Place, place_behind, place_of, refl, Some, suc, sym, take, take-add, take-append-drop, take-append-le, true, words, zero-add}, Feeds.IsFirstFeed}
use Rattle.talk_items.proofs.LinesMore.{lines-byte, lines-feed, lines-few, lines-part}
use Rattle.std.specs.Prelude.{◌||◌}
use Rattle.std.proofs.{lemmas.List.take_all, lemmas.List.Elements.filter-append}
use Rattle.talk_items.specs.declared.items.Place.TheVariants as places

place-more : (place : Place) (lines : List Bytes) (line : Bytes) → place_of place (lines ++ line ∷ []) ≡ place_behind (place_of place lines) (words line)
place-more place [] line = refl
place-more place (l ∷ lines) line = place-more (place_behind place (words l)) lines line

first-more : (lines : List Bytes) (line : Bytes) → first_kind (lines ++ line ∷ []) ≡ first_with (first_kind lines) (words line)
first-more [] line = refl
first-more (l ∷ lines) line = chosen (is_skipped (words l)) (first-more lines line)
  where
    chosen : (is : Bool) → first_kind (lines ++ line ∷ []) ≡ first_with (first_kind lines) (words line)
        → (if is then first_kind (lines ++ line ∷ []) else Some (kind_of (words l))) ≡ first_with (if is then first_kind lines else Some (kind_of (words l))) (words line)
    chosen true same = same
    chosen false same = refl

-- how many of these lines say something
abbrev said : List Bytes → ℕ
said lines = length (filter (λ line. not (is_skipped (words line))) lines)

said-more : (lines : List Bytes) (line : Bytes) → said (lines ++ line ∷ []) ≡ (if is_skipped (words line) then said lines else said lines + 1)
said-more lines line =
    ap length (filter-append (λ l. not (is_skipped (words l))) lines (line ∷ []))
    ∙ length-append (filter (λ l. not (is_skipped (words l))) lines) (filter (λ l. not (is_skipped (words l))) (line ∷ []))
    ∙ chosen (is_skipped (words line))
  where
    chosen : (is : Bool) → said lines + length (if not is then line ∷ [] else []) ≡ (if is then said lines else said lines + 1)
    chosen true = omega arith
    chosen false = omega arith

-- as many bytes as an item may have tell how many lines are counted
counted-short : (n : ℕ) (bs : Bytes) → length bs ≤ n → said (lines_of (take n bs)).ended ≡ said (lines_of bs).ended
counted-short n bs le = ap (λ b. said (lines_of b).ended) (take_all n bs le)

counted-long : (n : ℕ) (bs more : Bytes) → n ≤ length bs → said (lines_of (take n (bs ++ more))).ended ≡ said (lines_of (take n bs)).ended
counted-long n bs more le = ap (λ b. said (lines_of b).ended) (take-append-le n bs more le)

-- a byte that is no line feed
count-byte : (n : ℕ) (bs : Bytes) (b : ℕ) → (b == 10) ≡ false → said (lines_of (take n bs)).ended ≡ said (lines_of (take n (bs ++ b ∷ []))).ended
count-byte n bs b other = elim (cases_lt (length bs) n) [
  | inl lt ↦
      counted-short n bs (omega (arith, lt)) ∙ ap (λ l. said l.ended) (sym (lines-byte bs b other))
      ∙ sym (counted-short n (bs ++ b ∷ []) (omega (arith, lt, length-append bs (b ∷ []))))
  | inr ge ↦ sym (counted-long n bs (b ∷ []) (omega (arith, ge)))
]

-- bytes without a line feed
count-part : (n : ℕ) (bs part : Bytes) → HasNoFeed part → said (lines_of (take n bs)).ended ≡ said (lines_of (take n (bs ++ part))).ended
count-part n bs [] none = ap (λ l. said (lines_of (take n l)).ended) (sym (append-nil bs))
count-part n bs (b ∷ part) none =
    count-byte n bs b none.0 ∙ count-part n (bs ++ b ∷ []) part none.1 ∙ ap (λ l. said (lines_of (take n l)).ended) (append_assoc bs (b ∷ []) part)

-- a line feed: the line counts where it ends within so many bytes
count-feed : (n : ℕ) (bs : Bytes) (len : ℕ) → len ≡ min n (min (length bs) (n + 1)) + 1
    → (if nat_lt n len || is_skipped (words (lines_of bs).left) then said (lines_of (take n bs)).ended else said (lines_of (take n bs)).ended + 1) ≡ said (lines_of (take n (bs ++ 10 ∷ []))).ended
count-feed n bs len is = elim (cases_lt (length bs) n) [
  | inl lt ↦
      let fits : nat_lt n len ≡ false = le-ltb n len (omega (arith, is, lt)) in
      let here : said (lines_of (take n bs)).ended ≡ said (lines_of bs).ended = counted-short n bs (omega (arith, lt)) in
      let whole : said (lines_of (take n (bs ++ 10 ∷ []))).ended ≡ said (lines_of (bs ++ 10 ∷ [])).ended = counted-short n (bs ++ 10 ∷ []) (omega (arith, lt, length-append bs (10 ∷ []))) in
      ap (λ t. if t || is_skipped (words (lines_of bs).left) then said (lines_of (take n bs)).ended else said (lines_of (take n bs)).ended + 1) fits
      ∙ ap (λ m. if is_skipped (words (lines_of bs).left) then m else m + 1) here
      ∙ sym (said-more (lines_of bs).ended (lines_of bs).left)
      ∙ ap (λ l. said l.ended) (sym (lines-feed bs)) ∙ sym whole
  | inr ge ↦
      let past : nat_lt n len ≡ true = lt-ltb n len (omega (arith, is, ge)) in
      ap (λ t. if t || is_skipped (words (lines_of bs).left) then said (lines_of (take n bs)).ended else said (lines_of (take n bs)).ended + 1) past
      ∙ sym (counted-long n bs (10 ∷ []) (omega (arith, ge)))
]

pub few-counted : (bs : Bytes) → counted bs ≤ MAX_ITEM
few-counted bs =
    let lines = (lines_of (take MAX_ITEM bs)).ended in
    let says : List ℕ → Bool = λ line. not (is_skipped (words line)) in
    omega (arith, length-filter says lines, count_by-le-length says lines, lines-few (take MAX_ITEM bs), length-take MAX_ITEM bs)

pub none-scanned : IsScan [] places.Front None 0 0 []
none-scanned = record { stands = refl; is_first = refl; count_is = refl; len_is = omega arith; left = refl }

pub part-scanned : (bytes : Bytes) (place : Place) (first : Option ItemKind) (count len : ℕ) (line part : Bytes) (next : ℕ) (after : Bytes) → IsScan bytes place first count len line → HasNoFeed part
    → next ≡ min (len + length part) (MAX_ITEM + 1) → after ≡ line ++ part → IsScan (bytes ++ part) place first count next after
part-scanned bytes place first count len line part next after scan none more grown =
    let lines = lines-part bytes part none in
    record {
      stands = scan.stands ∙ ap (λ l. place_of places.Front l.ended) (sym lines);
      is_first = scan.is_first ∙ ap (λ l. first_kind l.ended) (sym lines);
      count_is = scan.count_is ∙ count-part MAX_ITEM bytes part none;
      len_is = omega (arith, more, scan.len_is, length-append bytes part);
      left = grown ∙ ap (λ l. l ++ part) scan.left ∙ ap (λ l. l.left) (sym lines);
    }

pub feed-scanned : (bytes : Bytes) (place : Place) (first : Option ItemKind) (count len : ℕ) (line : Bytes) (next : ℕ) → IsScan bytes place first count len line → next ≡ min MAX_ITEM len + 1
    → IsScan (bytes ++ 10 ∷ []) (place_behind place (words line)) (first_with first (words line)) (counted_with count next (words line)) next []
feed-scanned bytes place first count len line next scan more =
    let lines = lines-feed bytes in
    record {
      stands =
          ap (λ p. place_behind p (words line)) scan.stands ∙ ap (λ l. place_behind (place_of places.Front (lines_of bytes).ended) (words l)) scan.left
          ∙ sym (place-more places.Front (lines_of bytes).ended (lines_of bytes).left) ∙ ap (λ l. place_of places.Front l.ended) (sym lines);
      is_first =
          ap (λ f. first_with f (words line)) scan.is_first ∙ ap (λ l. first_with (first_kind (lines_of bytes).ended) (words l)) scan.left
          ∙ sym (first-more (lines_of bytes).ended (lines_of bytes).left) ∙ ap (λ l. first_kind l.ended) (sym lines);
      count_is =
          ap (λ c. counted_with c next (words line)) scan.count_is ∙ ap (λ l. counted_with (counted bytes) next (words l)) scan.left
          ∙ count-feed MAX_ITEM bytes next (omega (arith, more, scan.len_is));
      len_is = omega (arith, more, scan.len_is, length-append bytes (10 ∷ []));
      left = ap (λ l. l.left) (sym lines);
    }

-- a line feed, and another byte
pub ends-feed : (bytes : Bytes) → ends bytes 10 ≡ ends_line (place_of places.Front (lines_of bytes).ended) (words (lines_of bytes).left)
ends-feed bytes = refl

ends-not : (begun : Bytes) (b : ℕ) → (b == 10) ≡ false → ends begun b ≡ false
ends-not begun b other = ap (λ t. t && (let lines = lines_of begun in ends_line (place_of places.Front lines.ended) (words lines.left))) other

-- where a scan ends behind so many bytes
pub shifted : ℕ → Option ℕ → Option ℕ
shifted i None = None
shifted i (Some n) = Some (i + n)

shifted-none : (o : Option ℕ) → shifted 0 o ≡ o
unfolding shifted
shifted-none None = refl
shifted-none (Some n) = ap Some (zero-add n)

shifted-one : (i : ℕ) (o : Option ℕ) → shifted i (option_map suc o) ≡ shifted (i + 1) o
unfolding shifted
shifted-one i None = refl
shifted-one i (Some n) = ap Some (omega arith)

one-shifted : (i : ℕ) (o : Option ℕ) → option_map suc (shifted i o) ≡ shifted (suc i) o
unfolding shifted
one-shifted i None = refl
one-shifted i (Some n) = ap Some (omega arith)

shifted-more : (i j : ℕ) (o : Option ℕ) → shifted i (shifted j o) ≡ shifted (i + j) o
unfolding shifted
shifted-more i j None = refl
shifted-more i j (Some n) = ap Some (omega arith)

shifted-at : (i j : ℕ) → shifted i (shifted j (Some 1)) ≡ Some (i + (j + 1))
unfolding shifted
shifted-at i j = refl

shifted-never : (i : ℕ) → shifted i None ≡ None
unfolding shifted
shifted-never i = refl

-- no item ends within bytes without a line feed
one-byte : (begun rest : Bytes) (b : ℕ) (is : Bool) → ends begun b ≡ is → item_end begun (b ∷ rest) ≡ (if is then Some 1 else option_map suc (item_end (begun ++ b ∷ []) rest))
one-byte begun rest b is same = ap (λ t. if t then Some 1 else option_map suc (item_end (begun ++ b ∷ []) rest)) same

end-behind : (begun part rest : Bytes) → HasNoFeed part → item_end begun (part ++ rest) ≡ shifted (length part) (item_end (begun ++ part) rest)
end-behind begun [] rest none = ap (λ l. item_end l rest) (sym (append-nil begun)) ∙ sym (shifted-none (item_end (begun ++ []) rest))
end-behind begun (b ∷ part) rest none =
    one-byte begun (part ++ rest) b false (ends-not begun b none.0) ∙ ap (option_map suc) (end-behind (begun ++ b ∷ []) part rest none.1)
    ∙ one-shifted (length part) (item_end ((begun ++ b ∷ []) ++ part) rest)
    ∙ ap (λ l. shifted (suc (length part)) (item_end l rest)) (append_assoc begun (b ∷ []) part)

-- a scan, line by line
pub record SoFar (begun bytes now : Bytes) (i : ℕ) : Type 0 where
  pub read : now ≡ begun ++ take i bytes
  pub goes : item_end begun bytes ≡ shifted i (item_end now (drop i bytes))

pub scan-none : (begun bytes : Bytes) → SoFar begun bytes begun 0
scan-none begun bytes = record { read = sym (append-nil begun); goes = sym (shifted-none (item_end begun bytes)) }

module _ {begun bytes now : Bytes} {i : ℕ} (so_far : SoFar begun bytes now i) (n : ℕ) (feed : IsFirstFeed n (drop i bytes)) (after : Bytes) (more : after ≡ now ++ (take n (drop i bytes) ++ 10 ∷ [])) where
  read-more : after ≡ begun ++ take (i + (n + 1)) bytes
  read-more =
      more ∙ ap (λ l. now ++ l) (sym feed.front) ∙ ap (λ l. l ++ take (suc n) (drop i bytes)) so_far.read
      ∙ append_assoc begun (take i bytes) (take (suc n) (drop i bytes)) ∙ ap (λ l. begun ++ l) (sym (take-add i (suc n) bytes))
      ∙ ap (λ m. begun ++ take m bytes) (omega arith)

  goes-more : (is : Bool) → ends (now ++ take n (drop i bytes)) 10 ≡ is
      → item_end begun bytes ≡ shifted i (shifted n (if is then Some 1 else option_map suc (item_end after (drop (suc n) (drop i bytes)))))
  goes-more is same =
      let long : length (take n (drop i bytes)) ≡ n = omega (arith, length-take n (drop i bytes), feed.within) in
      so_far.goes ∙ ap (λ l. shifted i (item_end now l)) feed.whole
      ∙ ap (shifted i) (end-behind now (take n (drop i bytes)) (10 ∷ drop (suc n) (drop i bytes)) feed.none)
      ∙ ap (λ m. shifted i (shifted m (item_end (now ++ take n (drop i bytes)) (10 ∷ drop (suc n) (drop i bytes))))) long
      ∙ ap (λ o. shifted i (shifted n o)) (one-byte (now ++ take n (drop i bytes)) (drop (suc n) (drop i bytes)) 10 is same)
      ∙ ap (λ l. shifted i (shifted n (if is then Some 1 else option_map suc (item_end l (drop (suc n) (drop i bytes)))))) (append_assoc now (take n (drop i bytes)) (10 ∷ []) ∙ sym more)

  pub scan-line : ends (now ++ take n (drop i bytes)) 10 ≡ false → SoFar begun bytes after (i + (n + 1))
  scan-line not_yet = record {
    read = read-more;
    goes =
        goes-more false not_yet ∙ ap (shifted i) (shifted-one n (item_end after (drop (suc n) (drop i bytes))))
        ∙ shifted-more i (n + 1) (item_end after (drop (suc n) (drop i bytes)))
        ∙ ap (λ l. shifted (i + (n + 1)) (item_end after l)) (drop-drop (suc n) i bytes ∙ ap (λ m. drop m bytes) (omega arith));
  }

  pub scan-ends : ends (now ++ take n (drop i bytes)) 10 ≡ true → (item_end begun bytes ≡ Some (i + (n + 1))) × (after ≡ begun ++ take (i + (n + 1)) bytes)
  scan-ends is = (goes-more true is ∙ shifted-at i n, read-more)

pub scan-all : (begun bytes now : Bytes) (i : ℕ) → SoFar begun bytes now i → HasNoFeed (drop i bytes) → None ≡ item_end begun bytes
scan-all begun bytes now i so_far none =
    sym (so_far.goes ∙ ap (λ l. shifted i (item_end now l)) (sym (append-nil (drop i bytes))) ∙ ap (shifted i) (end-behind now (drop i bytes) [] none)
    ∙ ap (shifted i) (shifted-never (length (drop i bytes))) ∙ shifted-never i)

pub taken-all : (begun bytes now after : Bytes) (i : ℕ) → SoFar begun bytes now i → after ≡ now ++ drop i bytes → after ≡ begun ++ bytes
taken-all begun bytes now after i so_far more =
    more ∙ ap (λ l. l ++ drop i bytes) so_far.read ∙ append_assoc begun (take i bytes) (drop i bytes) ∙ ap (λ l. begun ++ l) (take-append-drop i bytes)
