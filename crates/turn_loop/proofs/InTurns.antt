-- Items as turns.
use Rattle.turn_loop.proofs.Common.{[], ℕ, ◌++◌, ◌+◌, ◌-◌, ◌<◌, ◌∙◌, ◌∷◌, ◌≡◌, ◌≤◌, ap, append-nil, append_assoc, arith, as_turn, behind, Bool, but_last, Bytes, false, held_behind, if◌then◌else◌, joined, le-ltb, length, length-append, List}
use Rattle.turn_loop.proofs.Common.{lt-ltb, MAX_ANSWERS, nat_lt, refl, Rules, split_from, still_first, sym, take, take-append-le, take_all, true, turns, turns_from, turns_of, worked, zero-add}
use Rattle.std.proofs.lemmas.List.Concat.{flat_map-append}
use Rattle.turn_loop.proofs.Splits.{split-append, still-first, worked-append}

pub joined-append : {A : Type 0} (xs ys : List (List A)) → joined (xs ++ ys) ≡ joined xs ++ joined ys
joined-append xs ys = flat_map-append (λ l. l) xs ys

pub joined-more : {A : Type 0} (xs : List (List A)) (x : List A) → joined (xs ++ x ∷ []) ≡ joined xs ++ x
joined-more xs x = joined-append xs (x ∷ []) ∙ ap (λ l. joined xs ++ l) (append-nil x)

pub joined-turn : (items : List Bytes) → joined (as_turn items) ≡ items
joined-turn [] = refl
joined-turn (item ∷ items) = append-nil (item ∷ items)

pub joined-turns : (done : List (List Bytes)) (items : List Bytes) → joined (done ++ as_turn items) ≡ joined done ++ items
joined-turns done items = joined-append done (as_turn items) ∙ ap (λ l. joined done ++ l) (joined-turn items)

pub but-last-more : (reads : List Bytes) (read : Bytes) → but_last (reads ++ read ∷ []) ≡ reads
but-last-more reads read =
    let less : length (reads ++ read ∷ []) - 1 ≡ length reads = omega (arith, length-append reads (read ∷ [])) in
    ap (λ n. take n (reads ++ read ∷ [])) less ∙ take-append-le (length reads) reads (read ∷ []) (omega arith) ∙ take_all (length reads) reads (omega arith)

-- the items of turns are those that were given
turns-items : (rules : Rules) (first : Bool) (ps turn : List Bytes) (long : ℕ) (items : List Bytes) → joined (turns_from rules first ps turn long items) ≡ turn ++ items
turns-items rules first ps turn long [] = joined-turn turn ∙ sym (append-nil turn)
turns-items rules first ps turn long (item ∷ items) =
    let more : ℕ = length (rules.answer first ps item) in
    chosen (nat_lt MAX_ANSWERS long) _ _ (turns-items rules false (held_behind rules ps item) (item ∷ []) more items) (turns-items rules false (held_behind rules ps item) (turn ++ item ∷ []) (long + more) items)
  where
    chosen : (b : Bool) (anew on : List (List Bytes)) → joined anew ≡ (item ∷ []) ++ items → joined on ≡ (turn ++ item ∷ []) ++ items → joined (if b then turn ∷ anew else on) ≡ turn ++ item ∷ items
    chosen true anew on is same = ap (λ l. turn ++ l) is
    chosen false anew on is same = same ∙ append_assoc turn (item ∷ []) items

pub joined-of : (rules : Rules) (first : Bool) (ps : List Bytes) (begun : Bytes) (reads : List Bytes) → joined (turns_of rules first ps begun reads) ≡ (split_from rules.ends begun (joined reads)).items
joined-of rules first ps begun [] = refl
joined-of rules first ps begun (read ∷ reads) =
    let s = split_from rules.ends begun read in
    let others = turns_of rules (still_first first s.items) (worked rules ps s.items) s.rest reads in
    joined-append (turns rules first ps s.items) others
    ∙ ap (λ l. l ++ joined others) (turns-items rules first ps [] 0 s.items)
    ∙ ap (λ l. s.items ++ l) (joined-of rules (still_first first s.items) (worked rules ps s.items) s.rest reads)
    ∙ ap (λ s. s.items) (sym (split-append rules.ends begun read (joined reads)))

-- the turns of more reads
pub turns-append : (rules : Rules) (first : Bool) (ps : List Bytes) (begun : Bytes) (reads more : List Bytes)
    → turns_of rules first ps begun (reads ++ more)
    ≡ turns_of rules first ps begun reads ++ turns_of rules (still_first first (split_from rules.ends begun (joined reads)).items) (worked rules ps (split_from rules.ends begun (joined reads)).items) (split_from rules.ends begun (joined reads)).rest more
turns-append rules first ps begun [] more = refl
turns-append rules first ps begun (read ∷ reads) more =
    let s = split_from rules.ends begun read in
    let t = split_from rules.ends s.rest (joined reads) in
    let here = turns rules first ps s.items in
    let next = still_first first s.items in
    let held = worked rules ps s.items in
    let others = turns_of rules next held s.rest reads in
    let whole : split_from rules.ends begun (read ++ joined reads) ≡ behind s.items t = split-append rules.ends begun read (joined reads) in
    ap (λ l. here ++ l) (turns-append rules next held s.rest reads more)
    ∙ sym (append_assoc here others (turns_of rules (still_first next t.items) (worked rules held t.items) t.rest more))
    ∙ ap (λ f. here ++ others ++ turns_of rules f (worked rules held t.items) t.rest more) (still-first first s.items t.items)
    ∙ ap (λ qs. here ++ others ++ turns_of rules (still_first first (s.items ++ t.items)) qs t.rest more) (sym (worked-append rules ps s.items t.items))
    ∙ ap (λ u. here ++ others ++ turns_of rules (still_first first u.items) (worked rules ps u.items) u.rest more) (sym whole)

-- a turn takes one item more
pub turn-goes-on : (rules : Rules) (first : Bool) (ps turn : List Bytes) (long : ℕ) (item : Bytes) (items : List Bytes) → long ≤ MAX_ANSWERS
    → turns_from rules first ps turn long (item ∷ items) ≡ turns_from rules false (held_behind rules ps item) (turn ++ item ∷ []) (long + length (rules.answer first ps item)) items
turn-goes-on rules first ps turn long item items le = chosen (nat_lt MAX_ANSWERS long) _ _ (le-ltb MAX_ANSWERS long le)
  where
    chosen : (b : Bool) (anew on : List (List Bytes)) → b ≡ false → (if b then turn ∷ anew else on) ≡ on
    chosen true anew on is = absurd cc
    chosen false anew on is = refl

-- a turn whose answers are many is at its end
pub turn-is-full : (rules : Rules) (first : Bool) (ps turn : List Bytes) (long : ℕ) (items : List Bytes) → MAX_ANSWERS < long → 0 < length turn
    → turns_from rules first ps turn long items ≡ as_turn turn ++ turns rules first ps items
turn-is-full rules first ps [] long items less some = absurd (omega (arith, some))
turn-is-full rules first ps (t ∷ turn) long [] less some = refl
turn-is-full rules first ps (t ∷ turn) long (item ∷ items) less some =
    let more : ℕ = length (rules.answer first ps item) in
    let next = held_behind rules ps item in
    chosen (nat_lt MAX_ANSWERS long) _ _ (lt-ltb MAX_ANSWERS long less)
    ∙ ap (λ n. (t ∷ turn) ∷ turns_from rules false next (item ∷ []) n items) (sym (zero-add more))
  where
    chosen : (b : Bool) (anew on : List (List Bytes)) → b ≡ true → (if b then (t ∷ turn) ∷ anew else on) ≡ (t ∷ turn) ∷ anew
    chosen true anew on is = refl
    chosen false anew on is = absurd cc
