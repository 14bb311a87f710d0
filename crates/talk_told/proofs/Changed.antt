-- What journals have more where one machine was called, or each of the first so many of a type.
use Rattle.talk_told.proofs.Common.{[], ℕ, ◌++◌, ◌+◌, ◌-◌, ◌<◌, ◌==◌, ◌∙◌, ◌∷◌, ◌≡◌, ◌≤◌, ap, append-nil, append_assoc, ArePlaced, arith, Bool, Bytes, call_case, call_kind, case_entry, case_more, CaseDecl, cases_more, changed_at}
use Rattle.talk_told.proofs.Common.{changed_at-none, changed_at-suc, ClosedCase, ClosedKind, cond, each_of, eqb-true, Event, false, File, got-none, if_both, if_there, if◌then◌else◌, kind_entry, kind_more, KindEvent, kinds_more, length}
use Rattle.talk_told.proofs.Common.{length-append, List, ltb-false, ltb-true, nat_lt, None, Option, placed-from, PlacedFrom, places_from, places_of, refl, slice_get, Some, subst, suc, sym, take, true, types_of, with_one, zero}
use Rattle.std.specs.Prelude.{◌&&◌, flat_map}
use Rattle.talk_told.proofs.Entries.{case-called, case-left, kind-called, kind-left}

-- ---- lists
none-there : {X : Type 0} (text : X → Bytes) (o : Option X) → o ≡ None → if_there text o ≡ []
none-there text None is = refl
none-there text (Some x) is = absurd (cc)

none-both : {X Y : Type 0} (text : X → Y → Bytes) (o : Option X) (p : Option Y) → p ≡ None → if_both text o p ≡ []
none-both text None p is = refl
none-both text (Some x) None is = refl
none-both text (Some x) (Some y) is = absurd (cc)

-- ---- nothing was called
pub kinds-left : (f : File) (t : ℕ) (ks : List ClosedKind) → kinds_more f t ks ks ≡ []
kinds-left f t [] = refl
kinds-left f t (k ∷ ks) = ap (λ l. l ++ kinds_more f (t + 1) ks ks) (kind-left f t k) ∙ kinds-left f (t + 1) ks

pub cases-left : (f : File) (ds : List CaseDecl) (cs : List ClosedCase) → cases_more f ds cs cs ≡ []
cases-left f ds [] = refl
cases-left f [] (c ∷ cs) = refl
cases-left f (d ∷ ds) (c ∷ cs) = ap (λ l. l ++ cases_more f ds cs cs) (case-left f d c) ∙ cases-left f ds cs

-- ---- one type was called
pub kinds-changed : (f : File) (a : ℕ) (e : KindEvent) (t i : ℕ) (ks : List ClosedKind)
    → kinds_more f t ks (changed_at (call_kind a e) i ks) ≡ if_there (kind_entry f (t + i)) (slice_get (changed_at (call_kind a e) i ks) i)
kinds-changed f a e t i [] =
    ap (kinds_more f t []) (changed_at-none (call_kind a e) i) ∙ sym (none-there (kind_entry f (t + i)) (slice_get (changed_at (call_kind a e) i []) i) (ap (λ l. slice_get l i) (changed_at-none (call_kind a e) i) ∙ got-none i))
kinds-changed f a e t zero (k ∷ ks) =
    let none : t ≡ t + 0 = omega arith in
    ap (λ l. kind_more f t k (call_kind a e k) ++ l) (kinds-left f (t + 1) ks) ∙ append-nil (kind_more f t k (call_kind a e k)) ∙ kind-called f t a e k
    ∙ ap (λ n. kind_entry f n (call_kind a e k)) none
kinds-changed f a e t (suc i) (k ∷ ks) =
    let g = call_kind a e in
    let next = changed_at-suc g i k ks in
    let same : t + 1 + i ≡ t + suc i = omega arith in
    ap (kinds_more f t (k ∷ ks)) next ∙ ap (λ l. l ++ kinds_more f (t + 1) ks (changed_at g i ks)) (kind-left f t k) ∙ kinds-changed f a e (t + 1) i ks
    ∙ ap (λ n. if_there (kind_entry f n) (slice_get (changed_at g i ks) i)) same ∙ ap (λ l. if_there (kind_entry f (t + suc i)) (slice_get l (suc i))) (sym next)

-- ---- one case was called
pub cases-changed : (f : File) (a : ℕ) (e : Event) (ds : List CaseDecl) (cs : List ClosedCase) (i : ℕ)
    → cases_more f ds cs (changed_at (call_case a e) i cs) ≡ if_both (case_entry f) (slice_get ds i) (slice_get (changed_at (call_case a e) i cs) i)
cases-changed f a e ds [] i =
    ap (cases_more f ds []) (changed_at-none (call_case a e) i)
    ∙ sym (none-both (case_entry f) (slice_get ds i) (slice_get (changed_at (call_case a e) i []) i) (ap (λ l. slice_get l i) (changed_at-none (call_case a e) i) ∙ got-none i))
cases-changed f a e [] (c ∷ cs) i = none-cases (changed_at (call_case a e) i (c ∷ cs)) ∙ sym (ap (λ o. if_both (case_entry f) o (slice_get (changed_at (call_case a e) i (c ∷ cs)) i)) (got-none i))
  where
    none-cases : (bs : List ClosedCase) → cases_more f [] (c ∷ cs) bs ≡ []
    none-cases [] = refl
    none-cases (b ∷ bs) = refl
cases-changed f a e (d ∷ ds) (c ∷ cs) zero =
    ap (λ l. case_more f d c (call_case a e c) ++ l) (cases-left f ds cs) ∙ append-nil (case_more f d c (call_case a e c)) ∙ case-called f d a e c
cases-changed f a e (d ∷ ds) (c ∷ cs) (suc i) =
    let g = call_case a e in
    let next = changed_at-suc g i c cs in
    ap (cases_more f (d ∷ ds) (c ∷ cs)) next ∙ ap (λ l. l ++ cases_more f ds cs (changed_at g i cs)) (case-left f d c) ∙ cases-changed f a e ds cs i
    ∙ ap (λ l. if_both (case_entry f) (slice_get ds i) (slice_get l (suc i))) (sym next)

-- ---- each of the first so many cases of a type was called

-- the entries of cases at places
abbrev pub entries_at : File → List CaseDecl → List ClosedCase → List ℕ → Bytes
entries_at f ds cs places = flat_map (λ place. if_both (case_entry f) (slice_get ds place) (slice_get cs place)) places

behind-got : {X : Type 0} (front xs : List X) (x : X) → slice_get (front ++ x ∷ xs) (length front) ≡ Some x
behind-got [] xs x = refl
behind-got (y ∷ front) xs x = behind-got front xs x

take-none : {X : Type 0} (n : ℕ) → ◌≡◌ {A = List X} (take n []) []
take-none zero = refl
take-none (suc n) = refl

module _ (f : File) (a : ℕ) (e : Event) (many t : ℕ) where
  abbrev g : ClosedCase → ClosedCase
  g = call_case a e

  -- behind a case, called or not, that stands behind some
  one-called : (n : ℕ → ℕ) (fds : List CaseDecl) (fcs : List ClosedCase) (d : CaseDecl) (c : ClosedCase) (ds : List CaseDecl) (cs after : List ClosedCase) (xs : List ℕ)
      → length fcs ≡ length fds → d.id.place ≡ n t → (less : Bool) → nat_lt d.id.place many ≡ less
      → entries_at f (fds ++ d ∷ ds) (fcs ++ (if less then g c else c) ∷ after) (take (many - (n t + 1)) xs) ≡ cases_more f ds cs after
      → entries_at f (fds ++ d ∷ ds) (fcs ++ (if less then g c else c) ∷ after) (take (many - n t) (length fds ∷ xs)) ≡ case_more f d c (if less then g c else c) ++ cases_more f ds cs after
  one-called n fds fcs d c ds cs after xs even own true less behind =
      let below : d.id.place < many = ltb-true d.id.place many less in
      let next : many - n t ≡ suc (many - (n t + 1)) = omega (arith, own, below) in
      let there : slice_get (fcs ++ g c ∷ after) (length fds) ≡ Some (g c) = ap (slice_get (fcs ++ g c ∷ after)) (sym even) ∙ behind-got fcs after (g c) in
      ap (λ i. entries_at f (fds ++ d ∷ ds) (fcs ++ g c ∷ after) (take i (length fds ∷ xs))) next
      ∙ ap (λ l. if_both (case_entry f) (slice_get (fds ++ d ∷ ds) (length fds)) (slice_get (fcs ++ g c ∷ after) (length fds)) ++ l) behind
      ∙ ap (λ o. if_both (case_entry f) o (slice_get (fcs ++ g c ∷ after) (length fds)) ++ cases_more f ds cs after) (behind-got fds ds d)
      ∙ ap (λ o. if_both (case_entry f) (Some d) o ++ cases_more f ds cs after) there
      ∙ ap (λ l. l ++ cases_more f ds cs after) (sym (case-called f d a e c))
  one-called n fds fcs d c ds cs after xs even own false less behind =
      let past : many ≤ d.id.place = ltb-false d.id.place many less in
      let none : many - n t ≡ 0 = omega (arith, own, past) in
      let later : many - (n t + 1) ≡ 0 = omega (arith, own, past) in
      ap (λ i. entries_at f (fds ++ d ∷ ds) (fcs ++ c ∷ after) (take i (length fds ∷ xs))) none
      ∙ ap (λ i. entries_at f (fds ++ d ∷ ds) (fcs ++ c ∷ after) (take i xs)) (sym later) ∙ behind
      ∙ ap (λ l. l ++ cases_more f ds cs after) (sym (case-left f d c))

  next-called : (n : ℕ → ℕ) (fds : List CaseDecl) (fcs : List ClosedCase) (d : CaseDecl) (c : ClosedCase) (ds : List CaseDecl) (cs after : List ClosedCase) (xs : List ℕ)
      → length fcs ≡ length fds → d.id.place ≡ n d.id.type_no → (same : Bool) → (d.id.type_no == t) ≡ same
      → ((x : ClosedCase) → entries_at f (fds ++ d ∷ ds) (fcs ++ x ∷ after) (take (many - with_one n d t) xs) ≡ cases_more f ds cs after)
      → entries_at f (fds ++ d ∷ ds) (fcs ++ (if same && nat_lt d.id.place many then g c else c) ∷ after) (take (many - n t) (if same then length fds ∷ xs else xs))
      ≡ case_more f d c (if same && nat_lt d.id.place many then g c else c) ++ cases_more f ds cs after
  next-called n fds fcs d c ds cs after xs even own true same behind =
      let here : d.id.place ≡ n t = subst (λ u. d.id.place ≡ n u) (eqb-true d.id.type_no t same) own in
      let one : with_one n d t ≡ n t + 1 = ap (λ (b : Bool). n t + cond b 1 0) same in
      let x = if nat_lt d.id.place many then g c else c in
      one-called n fds fcs d c ds cs after xs even here (nat_lt d.id.place many) refl
      (ap (λ i. entries_at f (fds ++ d ∷ ds) (fcs ++ x ∷ after) (take (many - i) xs)) (sym one) ∙ behind x)
  next-called n fds fcs d c ds cs after xs even own false same behind =
      let none : with_one n d t ≡ n t + 0 = ap (λ (b : Bool). n t + cond b 1 0) same in
      let same_count : n t ≡ with_one n d t = omega (arith, none) in
      ap (λ i. entries_at f (fds ++ d ∷ ds) (fcs ++ c ∷ after) (take (many - i) xs)) same_count ∙ behind c
      ∙ ap (λ l. l ++ cases_more f ds cs after) (sym (case-left f d c))

  each-from : (n : ℕ → ℕ) (fds : List CaseDecl) (fcs : List ClosedCase) (ds : List CaseDecl) (cs : List ClosedCase) → length fcs ≡ length fds → PlacedFrom n ds → length cs ≡ length ds
      → entries_at f (fds ++ ds) (fcs ++ each_of t many g ds cs) (take (many - n t) (places_from (length fds) t (types_of ds))) ≡ cases_more f ds cs (each_of t many g ds cs)
  each-from n fds fcs [] [] even h same = ap (entries_at f (fds ++ []) (fcs ++ [])) (take-none (many - n t))
  each-from n fds fcs [] (c ∷ cs) even h same = absurd (omega (arith, same))
  each-from n fds fcs (d ∷ ds) [] even h same = absurd (omega (arith, same))
  each-from n fds fcs (d ∷ ds) (c ∷ cs) even h same =
      let after = each_of t many g ds cs in
      next-called n fds fcs d c ds cs after (places_from (length fds + 1) t (types_of ds)) even h.0 (d.id.type_no == t) refl (λ x.
      let one : length (fds ++ d ∷ []) ≡ length fds + 1 = omega (arith, length-append fds (d ∷ [])) in
      let others : length (fcs ++ x ∷ []) ≡ length (fds ++ d ∷ []) = omega (arith, even, length-append fcs (x ∷ []), one) in
      let m = many - with_one n d t in
      ap (λ l. entries_at f l (fcs ++ x ∷ after) (take m (places_from (length fds + 1) t (types_of ds)))) (sym (append_assoc fds (d ∷ []) ds))
      ∙ ap (λ l. entries_at f ((fds ++ d ∷ []) ++ ds) l (take m (places_from (length fds + 1) t (types_of ds)))) (sym (append_assoc fcs (x ∷ []) after))
      ∙ ap (λ i. entries_at f ((fds ++ d ∷ []) ++ ds) ((fcs ++ x ∷ []) ++ after) (take m (places_from i t (types_of ds)))) (sym one)
      ∙ each-from (with_one n d) (fds ++ d ∷ []) (fcs ++ x ∷ []) ds cs others h.1 (omega (arith, same)))

  -- in a run of cases that stand where they were declared
  pub each-changed : (ds : List CaseDecl) (cs : List ClosedCase) → ArePlaced ds → length cs ≡ length ds
      → cases_more f ds cs (each_of t many g ds cs) ≡ entries_at f ds (each_of t many g ds cs) (take many (places_of t (types_of ds)))
  each-changed ds cs placed even =
      let none : many ≡ many - 0 = omega arith in
      sym (ap (λ i. entries_at f ds (each_of t many g ds cs) (take i (places_of t (types_of ds)))) none ∙ each-from (λ u. 0) [] [] ds cs refl (placed-from ds placed) even)
