-- Readers of a list, one behind another: what they take, that they go on, and how far they are gone along; and given texts in front of readers.
use Rattle.std.proofs.Common.{◌≡◌, ℕ, zero, suc, ◌+◌, ◌<◌, true, false, List, [], ◌∷◌, ◌++◌, append_assoc, append-nil, drop, get_or, length, Option, Some, None, option_map, slice_get, refl, sym, ap, ◌∙◌, subst, arith}
use Rattle.audit_model.proofs.Common.{and_then, Bytes, done, drop_all, drop_more, ending, Followed, FollowedBy, Follows, follows-done, follows-mapped, follows-on, follows-stopped, follows-then, given, in_row, InRow, IsLive, mapped, mapped-live, mapped-takes, Reaches, reaches-here, reaches-on, reaches-same, Reader, side_by_side, Takes, takes-mapped, takes-then, then-live, then-takes}
use Rattle.audit_model.proofs.Texts.{EndsLine, ending-append}
use Rattle.line_followers.proofs.Pieces.{piece-follows, piece-stops, whole-piece}

-- what a reader takes of a text
pub record IsTaken {A : Type 0} (takes : List Bytes → A → Type 0) (text : Bytes) (a : A) : Type 0 where
  pub lines : List Bytes
  pub taken : takes lines a
  pub whole : text ≡ ending lines

-- what is taken of all, from a number on: of each a part
pub record RowTaken {D A : Type 0} (Taken : ℕ → D → List Bytes → A → Type 0) (shown : D → A → Bytes) (n : ℕ) (ds : List D) (ls : List Bytes) (xs : List A) : Type 0 where
  pub many : length xs ≡ length ds
  pub each : (i : ℕ) (d : D) (a : A) → slice_get ds i ≡ Some d → slice_get xs i ≡ Some a → (part : List Bytes) × Taken (n + i) d part a
  pub text : side_by_side shown ds xs ≡ ending ls

module _ {D A : Type 0} (one : ℕ → D → Reader A) where
  -- ---- texts that each takes are taken by all
  pub row-takes : (shown : D → A → Bytes) (n : ℕ) (ds : List D) (xs : List A) → length xs ≡ length ds
      → ((i : ℕ) (d : D) (a : A) → slice_get ds i ≡ Some d → slice_get xs i ≡ Some a → IsTaken (Takes (one (n + i) d)) (shown d a) a) → IsTaken (Takes (in_row one n ds)) (side_by_side shown ds xs) xs
  row-takes shown n [] [] many each = record { lines = []; taken = refl; whole = refl }
  row-takes shown n (d ∷ ds) (x ∷ xs) many each =
      let same : n + 0 ≡ n = omega arith in
      let here = subst (λ m. IsTaken (Takes (one m d)) (shown d x) x) same (each 0 d x refl refl) in
      let more = row-takes shown (n + 1) ds xs (omega arith) (λ i e y at_e at_y. let next : n + suc i ≡ n + 1 + i = omega arith in subst (λ m. IsTaken (Takes (one m e)) (shown e y) y) next (each (suc i) e y at_e at_y)) in
      record {
        lines = here.lines ++ more.lines;
        taken = then-takes (λ (y : A). mapped (λ (ys : List A). y ∷ ys) (in_row one (n + 1) ds)) (one n d) here.lines more.lines x (x ∷ xs) here.taken
            (mapped-takes (λ (ys : List A). x ∷ ys) (in_row one (n + 1) ds) more.lines xs more.taken);
        whole = ap (λ bs. bs ++ side_by_side shown ds xs) here.whole ∙ (ap (λ bs. ending here.lines ++ bs) more.whole ∙ sym (ending-append here.lines more.lines));
      }
  row-takes shown n ds xs many each = absurd (omega arith)

  -- ---- where each goes on, all do
  pub row-live : (n : ℕ) (ds : List D) → ((m : ℕ) (d : D) → IsLive (one m d)) → IsLive (in_row one n ds)
  row-live n [] each = tt
  row-live n (d ∷ ds) each =
      let go : A → Reader (List A) = λ a. mapped (λ (ys : List A). a ∷ ys) (in_row one (n + 1) ds) in
      then-live go (one n d) (each n d) (λ ls a is. mapped-live (λ (ys : List A). a ∷ ys) (in_row one (n + 1) ds) (row-live (n + 1) ds each))

  -- ---- what all take
  module _ (Taken : ℕ → D → List Bytes → A → Type 0) (shown : D → A → Bytes) (taken : (n : ℕ) (d : D) (ls : List Bytes) (a : A) → Takes (one n d) ls a → Taken n d ls a)
      (whole : (n : ℕ) (d : D) (ls : List Bytes) (a : A) → Taken n d ls a → shown d a ≡ ending ls) where
    more-row : (n : ℕ) (d : D) (ds : List D) (front rest : List Bytes) (x : A) (xs : List A) → Taken n d front x → RowTaken Taken shown (n + 1) ds rest xs → RowTaken Taken shown n (d ∷ ds) (front ++ rest) (x ∷ xs)
    more-row n d ds front rest x xs here more = record {
      many = ap suc more.many;
      each = at_each;
      text = ap (λ bs. bs ++ side_by_side shown ds xs) (whole n d front x here) ∙ (ap (λ bs. ending front ++ bs) more.text ∙ sym (ending-append front rest));
    }
      where
        at_each : (i : ℕ) (e : D) (y : A) → slice_get (d ∷ ds) i ≡ Some e → slice_get (x ∷ xs) i ≡ Some y → (part : List Bytes) × Taken (n + i) e part y
        at_each zero e y at_d at_x =
            let same_d : d ≡ e = cc (at_d) in
            let same_x : x ≡ y = cc (at_x) in
            let same_n : n ≡ n + 0 = omega arith in
            (front, subst (λ m. Taken m e front y) same_n (subst (λ z. Taken n e front z) same_x (subst (λ z. Taken n z front x) same_d here)))
        at_each (suc i) e y at_d at_x =
            let next : n + 1 + i ≡ n + suc i = omega arith in
            let (part, is) = more.each i e y at_d at_x in
            (part, subst (λ m. Taken m e part y) next is)

    pub row-of : (n : ℕ) (ds : List D) (ls : List Bytes) (xs : List A) → Takes (in_row one n ds) ls xs → RowTaken Taken shown n ds ls xs
    row-of n [] [] xs is = subst (RowTaken Taken shown n [] []) is (record { many = refl; each = λ i d a at_d at_a. absurd (cc (at_d)); text = refl })
    row-of n [] (l ∷ ls) xs is = absurd is
    row-of n (d ∷ ds) ls xs is =
        let go : A → Reader (List A) = λ a. mapped (λ (ys : List A). a ∷ ys) (in_row one (n + 1) ds) in
        let both = takes-then go (one n d) ls xs is in
        let (rest, went, same) = takes-mapped (λ (ys : List A). both.value ∷ ys) (in_row one (n + 1) ds) both.rest xs both.second in
        subst (λ ks. RowTaken Taken shown n (d ∷ ds) ks xs) (sym both.lines)
        (subst (RowTaken Taken shown n (d ∷ ds) (both.front ++ both.rest)) (sym same) (more-row n d ds both.front both.rest both.value rest (taken n d both.front both.value both.first) (row-of (n + 1) ds both.rest rest went)))

  -- ---- how far they are gone along
  module _ (ds : List D) where
    -- one in front of the others
    front-is : (n : ℕ) (d : D) → n < length ds → d ≡ get_or ds n d → in_row one n (drop n ds) ≡ and_then (one n d) (λ a. mapped (λ xs. a ∷ xs) (in_row one (n + 1) (drop (n + 1) ds)))
    front-is n d low is = ap (in_row one n) (drop_more ds n d low ∙ ap (λ x. x ∷ drop (n + 1) ds) (sym is))

    abbrev rest_of : ℕ → A → Reader (List A)
    rest_of n a = mapped (λ (xs : List A). a ∷ xs) (in_row one (n + 1) (drop (n + 1) ds))

    at-front : (old mid : Followed) (xs : List A) (n : ℕ) (d : D) → n < length ds → d ≡ get_or ds n d → InRow one ds old mid xs n → Reaches (in_row one 0 ds) old (and_then (one n d) (rest_of n)) mid (λ more. xs ++ more)
    at-front old mid xs n d low is begun = subst (λ r. Reaches (in_row one 0 ds) old r mid (λ more. xs ++ more)) (front-is n d low is) begun

    pub row-begun : (s : Followed) → InRow one ds s s [] 0
    row-begun s = reaches-here (in_row one 0 ds) s

    pub row-on : (old mid new : Followed) (xs : List A) (n : ℕ) (d : D) (a : A) → n < length ds → d ≡ get_or ds n d → InRow one ds old mid xs n → Follows (one n d) mid new (Some a) → InRow one ds old new (xs ++ a ∷ []) (n + 1)
    row-on old mid new xs n d a low is begun h =
        let all = in_row one 0 ds in
        let others = in_row one (n + 1) (drop (n + 1) ds) in
        reaches-same all others (λ more. xs ++ a ∷ more) (λ more. (xs ++ a ∷ []) ++ more) old new (λ more. sym (append_assoc xs (a ∷ []) more))
        (reaches-on all (and_then (one n d) (rest_of n)) others (λ more. xs ++ more) (λ more. a ∷ more) old mid new (at-front old mid xs n d low is begun)
        (h.0, λ end value more. follows-then (rest_of n) (one n d) a mid new end (option_map (λ ys. a ∷ ys) value) h (follows-mapped (λ ys. a ∷ ys) others new end value more)))

    pub row-stops : (old mid new : Followed) (xs : List A) (n : ℕ) (d : D) → n < length ds → d ≡ get_or ds n d → InRow one ds old mid xs n → Follows (one n d) mid new None → Follows (in_row one 0 ds) old new None
    row-stops old mid new xs n d low is begun h =
        follows-on (in_row one 0 ds) (and_then (one n d) (rest_of n)) (λ more. xs ++ more) old mid new None (at-front old mid xs n d low is begun) (follows-stopped (rest_of n) (one n d) mid new h)

    pub row-read : (old new : Followed) (xs : List A) (n : ℕ) → length ds ≡ n → InRow one ds old new xs n → Follows (in_row one 0 ds) old new (Some xs)
    row-read old new xs n all begun =
        let end = subst (λ es. Reaches (in_row one 0 ds) old (in_row one n es) new (λ more. xs ++ more)) (drop_all n ds (omega (arith, all))) begun in
        subst (λ ys. Follows (in_row one 0 ds) old new (Some ys)) (append-nil xs) (follows-on (in_row one 0 ds) (done []) (λ more. xs ++ more) old new new (Some []) end (follows-done [] new))

-- ---- texts of several lines that are followed as one piece
module _ {A : Type 0} where
  pub given-follows : (text : Bytes) (a : A) (old new : Followed) → EndsLine text → FollowedBy text old new true → Follows (given text a) old new (Some a)
  given-follows text a old new ends (moved, told) = subst (λ s. Follows (given text a) old s (Some a)) (sym moved) (piece-follows a text old (whole-piece text ends.before ends.is) (sym told))

  pub given-stops : (text : Bytes) (a : A) (old new : Followed) → EndsLine text → FollowedBy text old new false → Follows (given text a) old new None
  given-stops text a old new ends (moved, told) = subst (λ s. Follows (given text a) old s None) (sym moved) (piece-stops a text old (whole-piece text ends.before ends.is) (sym told))

  -- in front of a reader
  pub given-then : {B : Type 0} (text : Bytes) (a : A) (more : A → Reader B) (old mid new : Followed) (value : Option B) → EndsLine text → FollowedBy text old mid true → Follows (more a) mid new value
      → Follows (and_then (given text a) more) old new value
  given-then text a more old mid new value ends front rest = follows-then more (given text a) a old mid new value (given-follows text a old mid ends front) rest

  pub given-wrong : {B : Type 0} (text : Bytes) (a : A) (more : A → Reader B) (old new : Followed) → EndsLine text → FollowedBy text old new false → Follows (and_then (given text a) more) old new None
  given-wrong text a more old new ends front = follows-stopped more (given text a) old new (given-stops text a old new ends front)
