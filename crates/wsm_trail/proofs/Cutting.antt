-- A cut keeps positions, and what was written at them.
use Rattle.wsm_trail.proofs.Common.{[], ℕ, ◌++◌, ◌+◌, ◌<◌, ◌∙◌, ◌∷◌, ◌≡◌, ◌≤◌, ap, append_assoc, arith, Bool, cond, cons_option, cut_entries, cut_entry, drop, drop-set-lt, drop_more, Entry, false, filter_map, first, fold, get_or}
use Rattle.wsm_trail.proofs.Common.{get_or-set_same, is_one_of, key_lt, length, length-set, List, lt_number, ltb-true, nat_lt, None, noted, noted_entries, noted_entry, Option, refl, Rises, rows_below, set, Some, StaysBelow, SwappedAt, sym}
use Rattle.wsm_trail.proofs.{Common.{take, take-set-le, take_more, true, Written, written_by, wrote}, Rising.rises_lower}
use Rattle.wsm_schema.specs.declared.entries.Entry.TheVariants as entry

-- what may be left of an entry with these writes at a position: an entry at the position that wrote the same, or nothing where nothing was written
abbrev KeepsWrites : ℕ → Written → Option (ℕ × Entry) → Type 0
KeepsWrites p writes None = writes ≡ []
KeepsWrites p writes (Some e) = (e.0 ≡ p) × (written_by e.1 ≡ writes)

wrote_keeps : (p : ℕ) (writes : Written) → KeepsWrites p writes (wrote p writes)
wrote_keeps p [] = refl
wrote_keeps p (w ∷ ws) = (refl, refl)

cut_keeps : (body : List ℕ) (p : ℕ) (e : Entry) → KeepsWrites p (written_by e) (cut_entry body p e)
cut_keeps body p (entry.Wrote writes) = (refl, refl)
cut_keeps body p (entry.Start node user reads) =
    elim (is_one_of node body) as (λ b. KeepsWrites p [] (cond b None (Some (p, entry.Start node user reads)))) [ true ↦ refl | false ↦ (refl, refl) ]
cut_keeps body p (entry.End node writes choice) =
    elim (is_one_of node body) as (λ b. KeepsWrites p writes (cond b (wrote p writes) (Some (p, entry.End node writes choice)))) [ true ↦ wrote_keeps p writes | false ↦ (refl, refl) ]
cut_keeps body p (entry.Again node writes) =
    elim (is_one_of node body) as (λ b. KeepsWrites p writes (cond b (wrote p writes) (Some (p, entry.Again node writes)))) [ true ↦ wrote_keeps p writes | false ↦ (refl, refl) ]

-- positions still rise
rises_put : (low high : ℕ) (e : ℕ × Entry) (es : List (ℕ × Entry)) (o : Option (ℕ × Entry)) → low ≤ e.0 → KeepsWrites e.0 (written_by e.1) o → Rises (e.0 + 1) high es → Rises low high (cons_option o es)
rises_put low high e es None le k h = rises_lower (e.0 + 1) low high es (omega (arith, le)) h
rises_put low high e es (Some x) le k h = let at = k.0 in (omega (arith, le, at), rises_lower (e.0 + 1) (x.0 + 1) high es (omega (arith, at)) h)

pub rises_cut : (body : List ℕ) (low high : ℕ) (es : List (ℕ × Entry)) → Rises low high es → Rises low high (filter_map (λ e. cut_entry body e.0 e.1) es)
rises_cut body low high [] h = h
rises_cut body low high (e ∷ es) h =
    rises_put low high e _ (cut_entry body e.0 e.1) h.0 (cut_keeps body e.0 e.1) (rises_cut body (e.0 + 1) high es h.1)

-- the table of last writes stays
note_kept : (m : List (ℕ × ℕ)) (e : ℕ × Entry) (o : Option (ℕ × Entry)) (es : List (ℕ × Entry)) → KeepsWrites e.0 (written_by e.1) o →
    fold noted_entry m (cons_option o es) ≡ fold noted_entry (noted_entry m e) es
note_kept m e None es k = ap (λ ws. fold noted_entry (noted e.0 m ws) es) (sym k)
note_kept m e (Some x) es k = ap (λ p. fold noted_entry (noted p m (written_by x.1)) es) k.0 ∙ ap (λ ws. fold noted_entry (noted e.0 m ws) es) k.1

noted_cut : (body : List ℕ) (m : List (ℕ × ℕ)) (es : List (ℕ × Entry)) → fold noted_entry m (filter_map (λ e. cut_entry body e.0 e.1) es) ≡ fold noted_entry m es
noted_cut body m [] = refl
noted_cut body m (e ∷ es) =
    note_kept m e (cut_entry body e.0 e.1) (filter_map (λ x. cut_entry body x.0 x.1) es) (cut_keeps body e.0 e.1) ∙ noted_cut body (noted_entry m e) es

pub noted_entries-cut : (body : List ℕ) (es : List (ℕ × Entry)) → noted_entries (filter_map (λ e. cut_entry body e.0 e.1) es) ≡ noted_entries es
noted_entries-cut body es = noted_cut body [] es

pub noted_entries-push : (p : ℕ) (e : Entry) (es : List (ℕ × Entry)) → noted_entries (es ++ (p, e) ∷ []) ≡ noted p (noted_entries es) (written_by e)
noted_entries-push p e es = go [] es
  where
    go : (m : List (ℕ × ℕ)) (xs : List (ℕ × Entry)) → fold noted_entry m (xs ++ (p, e) ∷ []) ≡ noted p (fold noted_entry m xs) (written_by e)
    go m [] = refl
    go m (x ∷ xs) = go (noted_entry m x) xs

-- ---- a cut in place, from one place on
module _ {X : Type 0} (xs ys zs : List X) (k i : ℕ) (y : X) (le : k ≤ i) (lt : i < length xs) (changed : ys ≡ set xs i y) (swapped : SwappedAt ys zs k i) where
  long : length ys ≡ length xs
  long = ap length changed ∙ length-set xs i y

  sets : zs ≡ set (set ys k (get_or ys i y)) i (get_or ys k y)
  sets = swapped.3 y

  front-kept : take (k + 1) zs ≡ take k xs ++ y ∷ []
  front-kept =
      let u : X = get_or ys i y in
      let v : X = get_or ys k y in
      let size : length zs ≡ length xs = ap length sets ∙ length-set (set ys k u) i v ∙ length-set ys k u ∙ long in
      let front : take k zs ≡ take k xs = ap (take k) sets ∙ take-set-le k (set ys k u) i v le ∙ take-set-le k ys k u (omega arith) ∙ ap (take k) changed ∙ take-set-le k xs i y le in
      let here : get_or zs k y ≡ y = swapped.0 y ∙ ap (λ l. get_or l i y) changed ∙ get_or-set_same xs i y y lt in
      take_more zs k y (omega (arith, size, le, lt)) ∙ ap (λ l. l ++ get_or zs k y ∷ []) front ∙ ap (λ z. take k xs ++ z ∷ []) here

  rest-kept : drop (i + 1) zs ≡ drop (i + 1) xs
  rest-kept =
      let u : X = get_or ys i y in
      let v : X = get_or ys k y in
      ap (drop (i + 1)) sets ∙ drop-set-lt (i + 1) (set ys k u) i v (omega arith) ∙ drop-set-lt (i + 1) ys k u (omega (arith, le)) ∙ ap (drop (i + 1)) changed ∙ drop-set-lt (i + 1) xs i y (omega arith)

module _ (body : List ℕ) where
  cut-first : (e : ℕ × Entry) (es : List (ℕ × Entry)) (o : Option (ℕ × Entry)) → cut_entry body e.0 e.1 ≡ o → cut_entries body (e ∷ es) ≡ cons_option o (cut_entries body es)
  cut-first e es o h = ap (λ x. cons_option x (cut_entries body es)) h

  -- an entry of which nothing is left
  pub cut-dropped : (xs ys : List (ℕ × Entry)) (k i : ℕ) (d : ℕ × Entry) (y : ℕ × Entry) → k ≤ i → i < length xs → ys ≡ set xs i y → cut_entry body (get_or xs i d).0 (get_or xs i d).1 ≡ None →
      take k ys ++ cut_entries body (drop (i + 1) ys) ≡ take k xs ++ cut_entries body (drop i xs)
  cut-dropped xs ys k i d y le lt changed gone =
      ap (λ l. take k l ++ cut_entries body (drop (i + 1) l)) changed
      ∙ ap (λ l. l ++ cut_entries body (drop (i + 1) (set xs i y))) (take-set-le k xs i y le)
      ∙ ap (λ l. take k xs ++ cut_entries body l) (drop-set-lt (i + 1) xs i y (omega arith))
      ∙ ap (λ l. take k xs ++ l) (sym (ap (cut_entries body) (drop_more xs i d lt) ∙ cut-first (get_or xs i d) (drop (i + 1) xs) None gone))

  -- an entry of which y is left, which goes to place k
  pub cut-kept : (xs ys zs : List (ℕ × Entry)) (k i : ℕ) (d : ℕ × Entry) (y : ℕ × Entry) → k ≤ i → i < length xs → ys ≡ set xs i y → SwappedAt ys zs k i →
      cut_entry body (get_or xs i d).0 (get_or xs i d).1 ≡ Some y → take (k + 1) zs ++ cut_entries body (drop (i + 1) zs) ≡ take k xs ++ cut_entries body (drop i xs)
  cut-kept xs ys zs k i d y le lt changed swapped left =
      ap (λ l. l ++ cut_entries body (drop (i + 1) zs)) (front-kept xs ys zs k i y le lt changed swapped)
      ∙ ap (λ l. (take k xs ++ y ∷ []) ++ cut_entries body l) (rest-kept xs ys zs k i y le lt changed swapped)
      ∙ append_assoc (take k xs) (y ∷ []) (cut_entries body (drop (i + 1) xs))
      ∙ ap (λ l. take k xs ++ l) (sym (ap (cut_entries body) (drop_more xs i d lt) ∙ cut-first (get_or xs i d) (drop (i + 1) xs) (Some y) left))

  -- what stands below a position stays
  stays-first : (position : ℕ) (e : ℕ × Entry) (es : List (ℕ × Entry)) (b : Bool) → key_lt (first e) (position, 0) ≡ b → StaysBelow position body (e ∷ es) →
      take (rows_below first (position, 0) es) es ++ cut_entries body (drop (rows_below first (position, 0) es) es) ≡ cut_entries body es →
      take (rows_below first (position, 0) (e ∷ es)) (e ∷ es) ++ cut_entries body (drop (rows_below first (position, 0) (e ∷ es)) (e ∷ es)) ≡ cut_entries body (e ∷ es)
  stays-first position e es true below stays rest =
      let less : nat_lt e.0 position ≡ true = sym (lt_number e.0 position) ∙ below in
      rw below (ap (λ l. e ∷ l) rest ∙ sym (cut-first e es (Some e) (stays.0 less)))
  stays-first position e es false above stays rest = rw above refl

  pub cut-above : (position : ℕ) (es : List (ℕ × Entry)) → StaysBelow position body es →
      take (rows_below first (position, 0) es) es ++ cut_entries body (drop (rows_below first (position, 0) es) es) ≡ cut_entries body es
  cut-above position [] stays = refl
  cut-above position (e ∷ es) stays = stays-first position e es (key_lt (first e) (position, 0)) refl stays (cut-above position es stays.1)

  -- and nothing stands below 0
  pub none-below : (es : List (ℕ × Entry)) → StaysBelow 0 body es
  none-below [] = tt
  none-below (e ∷ es) = ((λ h. absurd (below-none e.0 h)), none-below es)
    where
      below-none : (p : ℕ) → nat_lt p 0 ≡ true → ⊥
      below-none p h = let less : p < 0 = ltb-true p 0 h in omega (arith, less)
