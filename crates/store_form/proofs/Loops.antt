-- What is read one after another, as a loop does.
use Rattle.store_form.proofs.Common.{[], ℕ, ◌++◌, ◌+◌, ◌-◌, ◌<◌, ◌>>=◌, ◌∙◌, ◌∷◌, ◌≡◌, ◌≤◌, ap, append_assoc, arith, Bytes, Fails, Field, List, many_at, map, map_push, None, Reader, ReadFault, refl, Some, suc, sym}
use Rattle.std.proofs.lemmas.List.{append-nil}
use Rattle.store_form.specs.declared.fields.ReadFault.TheVariants as fault

-- what was read before, and what is still read
abbrev pub with_front : {A : Type 0} → List A → Field (List A) → Field (List A)
with_front front read = read >>= λ x. Some (front ++ x.0, x.1)

regroup : {A : Type 0} (front : List A) (x : A) (read : Field (List A)) → with_front front (read >>= λ y. Some (x ∷ y.0, y.1)) ≡ with_front (front ++ x ∷ []) read
regroup front x (Some y) = ap (λ xs. Some (xs, y.1)) (sym (append_assoc front (x ∷ []) y.0))
regroup front x None = refl

module _ {A : Type 0} (read : Reader A) where
  next : (front : List A) (n : ℕ) (bytes : Bytes) (x : A) (after : Bytes) → read bytes ≡ Some (x, after)
      → with_front front (many_at read (suc n) bytes) ≡ with_front (front ++ x ∷ []) (many_at read n after)
  next front n bytes x after e = ap (λ a. with_front front (a >>= λ y. many_at read n y.1 >>= λ ys. Some (y.0 ∷ ys.0, ys.1))) e ∙ regroup front x (many_at read n after)

  none : (front : List A) (n : ℕ) (bytes : Bytes) → read bytes ≡ None → with_front front (many_at read (suc n) bytes) ≡ None
  none front n bytes e = ap (λ a. with_front front (a >>= λ y. many_at read n y.1 >>= λ ys. Some (y.0 ∷ ys.0, ys.1))) e

  pub goes_on : (front : List A) (count i : ℕ) (bytes : Bytes) (x : A) (after : Bytes) (total : Field (List A)) → i < count → read bytes ≡ Some (x, after)
      → with_front front (many_at read (count - i) bytes) ≡ total → with_front (front ++ x ∷ []) (many_at read (count - (i + 1)) after) ≡ total
  goes_on front count i bytes x after total lt e so_far =
      let k : count - i ≡ suc (count - (i + 1)) = omega arith in
      sym (next front (count - (i + 1)) bytes x after e) ∙ sym (ap (λ n. with_front front (many_at read n bytes)) k) ∙ so_far

  pub ends : (e : ReadFault) (front : List A) (count i : ℕ) (bytes : Bytes) (total : Field (List A)) → i < count → Fails e (read bytes)
      → with_front front (many_at read (count - i) bytes) ≡ total → Fails e total
  ends fault.NoMemory front count i bytes total lt failed so_far = tt
  ends fault.Malformed front count i bytes total lt failed so_far =
      let k : count - i ≡ suc (count - (i + 1)) = omega arith in
      sym so_far ∙ ap (λ n. with_front front (many_at read n bytes)) k ∙ none front (count - (i + 1)) bytes failed

  pub is_done : (front : List A) (count i : ℕ) (bytes : Bytes) (total : Field (List A)) → count ≤ i → with_front front (many_at read (count - i) bytes) ≡ total
      → total ≡ Some (front, bytes)
  is_done front count i bytes total le so_far =
      let k : count - i ≡ 0 = omega arith in
      sym so_far ∙ ap (λ n. with_front front (many_at read n bytes)) k ∙ ap (λ xs. Some (xs, bytes)) (append-nil front)

-- the same of what values of the program stand for
pub goes_on-seen : {A B : Type 0} (view : B → A) (read : Reader A) (front : List B) (count i : ℕ) (bytes : Bytes) (x : B) (after : Bytes) (total : Field (List A)) → i < count
    → read bytes ≡ Some (view x, after) → with_front (map view front) (many_at read (count - i) bytes) ≡ total
    → with_front (map view (front ++ x ∷ [])) (many_at read (count - (i + 1)) after) ≡ total
goes_on-seen view read front count i bytes x after total lt e so_far =
    ap (λ xs. with_front xs (many_at read (count - (i + 1)) after)) (map_push view front x)
    ∙ goes_on read (map view front) count i bytes (view x) after total lt e so_far
