-- How often loops are repeated in a trail.
use Rattle.std.proofs.{Common.{◌≡◌, ℕ, Bool, true, false, ◌&&◌, ◌||◌, not, inl, inr, eqb, List, [], ◌∷◌, ◌++◌, filter_map, refl, ap, sym, ◌∙◌, subst, Option, Some, None}, lemmas.Bool.{cases_Bool, both_ways, and_parts, or_cases, or_right}}
use Rattle.std.proofs.{lemmas.Bool.eqb-true, Math.Bool.or-false}
use Rattle.wsm_lists.specs.Values.{Written}
use Rattle.wsm_schema.specs.{Trail.{is_one_of, cut_entry, wrote}, declared.entries.Entry.Entry, Marks.is_again_of}
use Rattle.wsm_schema.specs.declared.entries.Entry.TheVariants as entry
use Rattle.wsm_steps.specs.Whole.{has_again, again_once, agains_once}

-- an entry that is no Again, at the end
abbrev pub IsNoAgain : Entry → Type 0
IsNoAgain e = (n : ℕ) → is_again_of n e ≡ false

has-behind : (n p : ℕ) (e : Entry) (es : List (ℕ × Entry)) → is_again_of n e ≡ false → has_again n (es ++ (p, e) ∷ []) ≡ has_again n es
has-behind n p e [] h = rw h refl
has-behind n p e (x ∷ es) h = ap (λ b. is_again_of n x.1 || b) (has-behind n p e es h)

once-behind : (p : ℕ) (e x : Entry) (es : List (ℕ × Entry)) → ((n : ℕ) → is_again_of n e ≡ false) → again_once x (es ++ (p, e) ∷ []) ≡ again_once x es
once-behind p e (entry.Start node user reads) es h = refl
once-behind p e (entry.End node writes choice) es h = refl
once-behind p e (entry.Again node writes) es h = ap not (has-behind node p e es (h node))
once-behind p e (entry.Wrote writes) es h = refl

once-alone : (e : Entry) → again_once e [] ≡ true
once-alone (entry.Start node user reads) = refl
once-alone (entry.End node writes choice) = refl
once-alone (entry.Again node writes) = refl
once-alone (entry.Wrote writes) = refl

pub agains-push : (p : ℕ) (e : Entry) (es : List (ℕ × Entry)) → IsNoAgain e → agains_once es ≡ true → agains_once (es ++ (p, e) ∷ []) ≡ true
agains-push p e [] h once = rw (once-alone e) refl
agains-push p e (x ∷ es) h once =
    let parts = and_parts (again_once x.1 es) (agains_once es) once in
    rw (once-behind p e x.1 es h, parts.0, agains-push p e es h parts.1) refl

-- a cut leaves no Again of its nodes, and adds none
abbrev cut : List ℕ → List (ℕ × Entry) → List (ℕ × Entry)
cut body es = filter_map (λ e. cut_entry body e.0 e.1) es

-- what the cut leaves of an entry, in front of a trail
abbrev onto : Option (ℕ × Entry) → List (ℕ × Entry) → List (ℕ × Entry)
onto None es = es
onto (Some e) es = e ∷ es

cut-onto : (body : List ℕ) (e : ℕ × Entry) (es : List (ℕ × Entry)) → cut body (e ∷ es) ≡ onto (cut_entry body e.0 e.1) (cut body es)
cut-onto body e es = go (cut_entry body e.0 e.1) refl
  where
    go : (o : Option (ℕ × Entry)) → cut_entry body e.0 e.1 ≡ o → cut body (e ∷ es) ≡ onto o (cut body es)
    go None h = rw h refl
    go (Some x) h = rw h refl

-- has an Again of a node, where the cut does
abbrev leaves : Option (ℕ × Entry) → ℕ → Bool
leaves None n = false
leaves (Some e) n = is_again_of n e.1

wrote-leaves : (p n : ℕ) (writes : Written) → leaves (wrote p writes) n ≡ false
wrote-leaves p n [] = refl
wrote-leaves p n (w ∷ ws) = refl

cut-leaves : (body : List ℕ) (p n : ℕ) (e : Entry) → leaves (cut_entry body p e) n ≡ true → (is_again_of n e ≡ true) × (is_one_of n body ≡ false)
cut-leaves body p n (entry.Start node user reads) h =
    elim (cases_Bool (is_one_of node body)) [ inl inside ↦ absurd (both_ways _ refl (rw inside at h)) | inr out ↦ absurd (both_ways _ refl (rw out at h)) ]
cut-leaves body p n (entry.End node writes choice) h =
    elim (cases_Bool (is_one_of node body)) [ inl inside ↦ absurd (both_ways _ (wrote-leaves p n writes) (rw inside at h)) | inr out ↦ absurd (both_ways _ refl (rw out at h)) ]
cut-leaves body p n (entry.Again node writes) h =
    elim (cases_Bool (is_one_of node body)) [
      | inl inside ↦ absurd (both_ways _ (wrote-leaves p n writes) (rw inside at h))
      | inr out ↦ let here : eqb node n ≡ true = rw out at h in (here, subst (λ k. is_one_of k body ≡ false) (eqb-true node n here) out)
    ]
cut-leaves body p n (entry.Wrote writes) h = absurd (both_ways _ refl h)

has-onto : (o : Option (ℕ × Entry)) (n : ℕ) (es : List (ℕ × Entry)) → has_again n (onto o es) ≡ (leaves o n || has_again n es)
has-onto None n es = refl
has-onto (Some e) n es = refl

has-cut : (body : List ℕ) (n : ℕ) (es : List (ℕ × Entry)) → has_again n (cut body es) ≡ true → (has_again n es ≡ true) × (is_one_of n body ≡ false)
has-cut body n [] h = absurd (both_ways _ refl h)
has-cut body n (e ∷ es) h =
    elim (or_cases (leaves (cut_entry body e.0 e.1) n) (has_again n (cut body es)) (sym (ap (has_again n) (cut-onto body e es) ∙ has-onto (cut_entry body e.0 e.1) n (cut body es)) ∙ h)) [
      | inl here ↦ let r = cut-leaves body e.0 n e.1 here in (rw r.0 refl, r.1)
      | inr later ↦ let r = has-cut body n es later in (or_right (is_again_of n e.1) (has_again n es) r.0, r.1)
    ]

not-has : (body : List ℕ) (n : ℕ) (es : List (ℕ × Entry)) → has_again n es ≡ false → has_again n (cut body es) ≡ false
not-has body n es h =
    elim (cases_Bool (has_again n (cut body es))) [
      | inl there ↦ absurd (both_ways _ h (has-cut body n es there).0)
      | inr none ↦ none
    ]

-- the repeat of a loop behind the cut by its nodes
abbrev again_alone : Option (ℕ × Entry) → List (ℕ × Entry) → Bool
again_alone None es = true
again_alone (Some e) es = again_once e.1 es

once-onto : (o : Option (ℕ × Entry)) (es : List (ℕ × Entry)) → again_alone o es ≡ true → agains_once es ≡ true → agains_once (onto o es) ≡ true
once-onto None es alone once = once
once-onto (Some e) es alone once = rw (alone, once) refl

wrote-alone : (p : ℕ) (writes : Written) (es : List (ℕ × Entry)) → again_alone (wrote p writes) es ≡ true
wrote-alone p [] es = refl
wrote-alone p (w ∷ ws) es = refl

module _ (body : List ℕ) (e : ℕ) (inside : is_one_of e body ≡ true) (q : ℕ) (writes : Written) where
  abbrev repeat : ℕ × Entry
  repeat = (q, entry.Again e writes)

  has-repeat : (n : ℕ) (es : List (ℕ × Entry)) → eqb e n ≡ false → has_again n (es ++ repeat ∷ []) ≡ has_again n es
  has-repeat n es other = has-behind n q (entry.Again e writes) es other

  cut-alone : (p : ℕ) (x : Entry) (es : List (ℕ × Entry)) → again_once x es ≡ true → again_alone (cut_entry body p x) (cut body es ++ repeat ∷ []) ≡ true
  cut-alone p (entry.Start node user reads) es once =
      elim (cases_Bool (is_one_of node body)) [ inl there ↦ rw there refl | inr out ↦ rw out refl ]
  cut-alone p (entry.End node ws choice) es once =
      elim (cases_Bool (is_one_of node body)) [ inl there ↦ rw there (wrote-alone p ws _) | inr out ↦ rw out refl ]
  cut-alone p (entry.Again node ws) es once =
      elim (cases_Bool (is_one_of node body)) [
        | inl there ↦ rw there (wrote-alone p ws _)
        | inr out ↦
            let other : eqb e node ≡ false = apart node out in
            let none : has_again node (cut body es ++ repeat ∷ []) ≡ false = has-repeat node (cut body es) other ∙ not-has body node es (not_true (has_again node es) once) in
            rw (out, none) refl
      ]
    where
      apart : (n : ℕ) → is_one_of n body ≡ false → eqb e n ≡ false
      apart n out = elim (cases_Bool (eqb e n)) [ inl same ↦ absurd (both_ways _ out (subst (λ k. is_one_of k body ≡ true) (eqb-true e n same) inside)) | inr other ↦ other ]

      not_true : (b : Bool) → not b ≡ true → b ≡ false
      not_true true h = absurd (both_ways _ refl h)
      not_true false h = refl
  cut-alone p (entry.Wrote ws) es once = refl

  pub agains-repeat : (es : List (ℕ × Entry)) → agains_once es ≡ true → agains_once (cut body es ++ repeat ∷ []) ≡ true
  agains-repeat [] once = refl
  agains-repeat (x ∷ es) once =
      let parts = and_parts (again_once x.1 es) (agains_once es) once in
      let rest = agains-repeat es parts.1 in
      rw (cut-onto body x es) (front (cut_entry body x.0 x.1) (cut-alone x.0 x.1 es parts.0) rest)
    where
      front : (o : Option (ℕ × Entry)) → again_alone o (cut body es ++ repeat ∷ []) ≡ true → agains_once (cut body es ++ repeat ∷ []) ≡ true → agains_once (onto o (cut body es) ++ repeat ∷ []) ≡ true
      front None alone rest = rest
      front (Some y) alone rest = rw (alone, rest) refl
