-- What stands behind the tag of a block.
use Rattle.store_form.proofs.Common.{ℕ, ◌-◌, ◌∙◌, ◌∷◌, ◌≡◌, ◌≢◌, act, ap, arith, as_at, block_behind, Bytes, Gives, if◌then◌else◌, ne_eqb, Part, part_at, ReadFault, refl, Result, subst, suc, sym, u32_at, zero}

act-at : (deep : ℕ) (bytes : Bytes) → part_at deep (0 ∷ bytes) ≡ as_at act u32_at bytes
act-at zero bytes = refl
act-at (suc deep) bytes = refl

round-at : (deep tag : ℕ) (bytes : Bytes) → deep ≢ 0 → tag ≢ 0 → part_at deep (tag ∷ bytes) ≡ block_behind (part_at (deep - 1)) tag bytes
round-at zero tag bytes deeper ne = absurd (deeper refl)
round-at (suc deep) tag bytes deeper ne =
    let less : suc deep - 1 ≡ deep = omega arith in
    ap (λ b. (if b then as_at act u32_at else block_behind (part_at deep) tag) bytes) (ne_eqb tag 0 ne) ∙ ap (λ d. block_behind (part_at d) tag bytes) (sym less)

pub gives-act : {X : Type 0} (view : X → Part × Bytes) (r : Result X ReadFault) (deep tag : ℕ) (bytes : Bytes) → tag ≡ 0 → Gives view r (as_at act u32_at bytes) → Gives view r (part_at deep (tag ∷ bytes))
gives-act view r deep tag bytes is given = subst (λ t. Gives view r (part_at deep (t ∷ bytes))) (sym is) (subst (Gives view r) (sym (act-at deep bytes)) given)

pub gives-round : {X : Type 0} (view : X → Part × Bytes) (r : Result X ReadFault) (deep tag : ℕ) (bytes : Bytes) → deep ≢ 0 → tag ≢ 0 → Gives view r (block_behind (part_at (deep - 1)) tag bytes)
    → Gives view r (part_at deep (tag ∷ bytes))
gives-round view r deep tag bytes deeper ne given = subst (Gives view r) (sym (round-at deep tag bytes deeper ne)) given
