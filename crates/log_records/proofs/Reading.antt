-- What a reader of a log has left, before and after a record.
use Rattle.std.proofs.{Common.{◌≡◌, ℕ, zero, suc, ◌+◌, ◌<◌, ◌≤◌, Bool, true, false, List, [], ◌∷◌, ◌++◌, length, Option, Some, None, refl, sym, ap, ◌∙◌, arith, add-one, Bor, if◌then◌else◌, inl, inr}, lemmas.Bool.cases_Bool}
use Rattle.std.specs.Prelude.{not, ◌&&◌, ◌==◌}
use Rattle.csv.proofs.ReadFacts.{rows-end, rows-more}
use Rattle.csv.specs.{Machine.{Read, next_record, step, is_end, ends_at_end, fields_after, field_after}, Reading.{Reached, ReadRecord, default_config, has_failed, records_from, records_next, source_of, unread_of}}
use Rattle.csv.specs.{declared.parser.Config.Config, declared.parser.State.State, declared.reader.Reader.Reader}
use Rattle.csv.specs.declared.parser.State.TheVariants as st
use Rattle.log_records.specs.Records.{Fields, IsGoing, all_bytes, known_records, left_of}

-- a record takes no bytes that were not there
no_longer : (cfg : Config) (s : State) (fields : Fields) (field xs : List ℕ) (r : Read) → next_record cfg s fields field xs ≡ Some r → length r.2 ≤ length xs
unfolding next_record
no_longer cfg s fields field [] r is = by (ends_at_end s) is
  where
    by : (b : Bool) → (if b then Some (fields ++ (field ∷ []), st.StartRecord, []) else None) ≡ Some r → length r.2 ≤ 0
    by true here = let rest : [] ≡ r.2 = cc in rw (← rest) (omega arith)
    by false here = cc
no_longer cfg s fields field (c ∷ rest) r is = by (no_longer cfg (step cfg s c).0 (fields_after (step cfg s c).1 fields field) (field_after (step cfg s c).1 c field) rest r) (is_end (step cfg s c).1) is
  where
    by : (next_record cfg (step cfg s c).0 (fields_after (step cfg s c).1 fields field) (field_after (step cfg s c).1 c field) rest ≡ Some r → length r.2 ≤ length rest) → (b : Bool) → (if b then Some (fields_after (step cfg s c).1 fields field, (step cfg s c).0, rest) else next_record cfg (step cfg s c).0 (fields_after (step cfg s c).1 fields field) (field_after (step cfg s c).1 c field) rest) ≡ Some r → length r.2 ≤ suc (length rest)
    by more true here = let left : rest ≡ r.2 = cc in rw (← left) (omega arith)
    by more false here = let less : length r.2 ≤ length rest = more here in omega arith

-- a record of a text takes a byte at least
shorter : (cfg : Config) (s : State) (c : ℕ) (rest : List ℕ) (r : Read) → next_record cfg s [] [] (c ∷ rest) ≡ Some r → length r.2 < length (c ∷ rest)
unfolding next_record
shorter cfg s c rest r is = by (is_end (step cfg s c).1) is
  where
    by : (b : Bool) → (if b then Some (fields_after (step cfg s c).1 [] [], (step cfg s c).0, rest) else next_record cfg (step cfg s c).0 (fields_after (step cfg s c).1 [] []) (field_after (step cfg s c).1 c []) rest) ≡ Some r → length r.2 < suc (length rest)
    by true here = let left : rest ≡ r.2 = cc in rw (← left) (omega arith)
    by false here = let more = no_longer cfg _ _ _ rest r here in omega arith

-- where a text is at its end, the record that ends there is the last
last_one : (cfg : Config) (s : State) (r : Read) → next_record cfg s [] [] [] ≡ Some r → (r.1 ≡ st.StartRecord) × (r.2 ≡ [])
unfolding next_record
last_one cfg s r is = by (ends_at_end s) is
  where
    by : (b : Bool) → (if b then Some ([] ∷ [], st.StartRecord, []) else None) ≡ Some r → (r.1 ≡ st.StartRecord) × (r.2 ≡ [])
    by true here = (cc, cc)
    by false here = cc

none_left : (cfg : Config) (n : ℕ) → records_from cfg n st.StartRecord [] ≡ []
unfolding records_from next_record
none_left cfg zero = refl
none_left cfg (suc n) = refl

-- a text has as many records as it has, however many are asked for beyond its length
same : (cfg : Config) (n m : ℕ) (s : State) (xs : List ℕ) → length xs < n → length xs < m → records_from cfg n s xs ≡ records_from cfg m s xs
unfolding records_from
same cfg zero m s xs a b = absurd (omega arith)
same cfg (suc n) zero s xs a b = absurd (omega arith)
same cfg (suc n) (suc m) s xs a b = by (next_record cfg s [] [] xs) refl (λ r. rest_of (λ t ys. same cfg n m t ys) xs r a b)
  where
    rest_of : ((t : State) (ys : List ℕ) → length ys < n → length ys < m → records_from cfg n t ys ≡ records_from cfg m t ys) → (ys : List ℕ) (r : Read) → length ys < suc n → length ys < suc m → next_record cfg s [] [] ys ≡ Some r → records_from cfg n r.1 r.2 ≡ records_from cfg m r.1 r.2
    rest_of more [] r p q is = let end = last_one cfg s r is in rw (end.0, end.1) (none_left cfg n ∙ sym (none_left cfg m))
    rest_of more (c ∷ ys) r p q is = let less = shorter cfg s c ys r is in more r.1 r.2 (omega arith) (omega arith)

    by : (o : Option Read) → next_record cfg s [] [] xs ≡ o → ((r : Read) → next_record cfg s [] [] xs ≡ Some r → records_from cfg n r.1 r.2 ≡ records_from cfg m r.1 r.2) → records_next (records_from cfg n) o ≡ records_next (records_from cfg m) o
    by None is more = refl
    by (Some r) is more = ap (λ rs. r.0 ∷ rs) (more r is)

-- the first record of a text, and those behind it
first_of : (s : State) (xs : List ℕ) (r : Read) → next_record default_config s [] [] xs ≡ Some r
    → records_from default_config (length xs + 1) s xs ≡ r.0 ∷ records_from default_config (length r.2 + 1) r.1 r.2
unfolding records_from
first_of s xs r is = rw (add-one (length xs), is) (ap (λ rs. r.0 ∷ rs) (by xs is))
  where
    by : (ys : List ℕ) → next_record default_config s [] [] ys ≡ Some r → records_from default_config (length ys) r.1 r.2 ≡ records_from default_config (length r.2 + 1) r.1 r.2
    by [] e = let end = last_one default_config s r e in rw (end.0, end.1) (none_left default_config 0 ∙ sym (none_left default_config 1))
    by (c ∷ ys) e = let less = shorter default_config s c ys r e in same default_config (suc (length ys)) (length r.2 + 1) r.1 r.2 (omega arith) (omega arith)

-- no record is left where a text gives none
none_of : (s : State) (xs : List ℕ) → next_record default_config s [] [] xs ≡ None → records_from default_config (length xs + 1) s xs ≡ []
unfolding records_from
none_of s xs is = rw (add-one (length xs), is) refl

-- what a reader has left is what its bytes have, unless it failed
known : (b : Bool) (x y : List ℕ) (P : Type 0) → ((xs : List ℕ) → (if b then Some x else Some y) ≡ Some xs → P) → P
known true x y P here = here x refl
known false x y P here = here y refl

going_or_failed : (a : Reader (Bor (List ℕ))) (P : Type 0) → (has_failed a ≡ true → P) → ((xs : List ℕ) → source_of all_bytes a ≡ Some xs → P) → P
going_or_failed a P failed going =
    elim (cases_Bool (has_failed a)) [
      | inl t ↦ failed t
      | inr f ↦ known (not a.bom_checked && (a.at == 0) && (a.filled == 0)) _ _ P (λ xs e. going xs (rw f e))
    ]

alike : (f : Fields) (s : State) (z : List ℕ) (p : Read) → f ≡ p.0 → p.1 ≡ s → p.2 ≡ z → p.0 ∷ known_records p.1 (Some p.2) ≡ f ∷ known_records s (Some z)
alike f s z p a b c = rw (a, ← b, ← c) refl

pub found_next : (a b : Reader (Bor (List ℕ))) (f : Fields) → IsGoing a → (has_failed a ≡ true → ⊥) → ReadRecord all_bytes a b true f → left_of a ≡ f ∷ left_of b
unfolding Reached
found_next a b f going unfailed r =
    going_or_failed a (left_of a ≡ f ∷ left_of b) (λ failed. absurd (unfailed failed)) (λ xs is.
    let next = rows-more all_bytes a b f default_config a.state xs xs [] going.2 is (refl, refl) r in
    let p = next.2.0 in
    ap (known_records a.state) is ∙ first_of a.state xs p next.2.1 ∙ alike f b.state next.0 p next.2.2 next.2.3.0 next.2.3.1
    ∙ sym (ap (λ rs. f ∷ rs) (ap (known_records b.state) next.1)))

pub none_next : (a b : Reader (Bor (List ℕ))) (f : Fields) → IsGoing a → ReadRecord all_bytes a b false f → left_of a ≡ []
none_next a b f going r =
    going_or_failed a (left_of a ≡ []) (λ failed. ap (λ b. known_records a.state (if b then None else unread_of all_bytes a)) failed) (λ xs is.
    ap (known_records a.state) is ∙ none_of a.state xs (rows-end all_bytes a b f default_config xs going.2 is r))
