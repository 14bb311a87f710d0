-- The last entry of a journal.
use Rattle.talk_answers.proofs.Common.{[], ℕ, ◌++◌, ◌+◌, ◌-◌, ◌∙◌, ◌∷◌, ◌≡◌, ap, arith, Bytes, if_there, last_entry, length, List, refl, Some, sym}
use Rattle.std.proofs.lemmas.List.{length-append}
use Rattle.std.specs.Prelude.{slice_get}

pub last-there : {X : Type 0} (line : ℕ → X → Bytes) (journal items : List X) (n : ℕ) (e : X) → items ≡ journal → n ≡ length items → slice_get items (length items - 1) ≡ Some e → line n e ≡ last_entry line journal
last-there line journal items n e same long last =
    ap (λ k. line k e) long ∙ sym (ap (if_there (line (length items))) last) ∙ ap (last_entry line) same

at-end : {X : Type 0} (xs : List X) (x : X) → slice_get (xs ++ x ∷ []) (length xs) ≡ Some x
at-end [] x = refl
at-end (y ∷ ys) x = at-end ys x

-- of a journal with one entry more that is the one
pub last-of : {X : Type 0} (line : ℕ → X → Bytes) (journal : List X) (e : X) → last_entry line (journal ++ e ∷ []) ≡ line (length journal + 1) e
last-of line journal e =
    let long : length (journal ++ e ∷ []) ≡ length journal + 1 = omega (arith, length-append journal (e ∷ [])) in
    let at : length (journal ++ e ∷ []) - 1 ≡ length journal = omega (arith, long) in
    ap (if_there (line (length (journal ++ e ∷ [])))) (ap (slice_get (journal ++ e ∷ [])) at ∙ at-end journal e) ∙ ap (λ n. line n e) long
