-- Where cases stand, by their types and their places there.
use Rattle.unit_run.proofs.Common.{[], ℕ, ◌&&◌, ◌++◌, ◌+◌, ◌-◌, ◌<◌, ◌==◌, ◌∙◌, ◌∷◌, ◌≡◌, ◌≤◌, ap, append_assoc, ArePlaced, arith, Bool, CaseDecl, CaseId, cases_of_type, changed_at, ClosedCase, cond, each_of, eqb-false, eqb-true, false}
use Rattle.unit_run.proofs.Common.{File, fold, has_id, if◌then◌else◌, length, length-append, List, ltb-false, ltb-true, nat_lt, None, Option, places_from, places_of, position, position-from_0, position_from, put_back, refl, slice_get, Some}
use Rattle.unit_run.proofs.Common.{subst, suc, sum_by-cons, sym, take, true, types_of, zero}
use Rattle.line_calls.specs.Files.{place_of}

-- how many cases of each type stand in front, with one case more
abbrev pub with_one : (ℕ → ℕ) → CaseDecl → ℕ → ℕ
with_one n d t = n t + cond (d.id.type_no == t) 1 0

-- cases behind others, of which so many of each type stand in front, have the places behind these
abbrev pub PlacedFrom : (ℕ → ℕ) → List CaseDecl → Type 0
PlacedFrom n [] = Unit {0}
PlacedFrom n (d ∷ ds) = (d.id.place ≡ n d.id.type_no) × PlacedFrom (with_one n d) ds

abbrev pub AreBehind : (ℕ → ℕ) → List CaseDecl → Type 0
AreBehind n ds = (k : ℕ) (d : CaseDecl) → slice_get ds k ≡ Some d → d.id.place ≡ n d.id.type_no + cases_of_type d.id.type_no (take k ds)

first-placed : (n : ℕ → ℕ) (d : CaseDecl) (ds : List CaseDecl) → AreBehind n (d ∷ ds) → d.id.place ≡ n d.id.type_no
first-placed n d ds h = let at : d.id.place ≡ n d.id.type_no + 0 = h zero d refl in omega (arith, at)

later-placed : (n : ℕ → ℕ) (d : CaseDecl) (ds : List CaseDecl) → AreBehind n (d ∷ ds) → AreBehind (with_one n d) ds
later-placed n d ds h k e got =
    let at : e.id.place ≡ n e.id.type_no + cases_of_type e.id.type_no (d ∷ take k ds) = h (suc k) e got in
    let more = sum_by-cons (λ (z : CaseDecl). cond (z.id.type_no == e.id.type_no) 1 0) d (take k ds) in
    omega (arith, at, more)

placed-behind : (n : ℕ → ℕ) (ds : List CaseDecl) → AreBehind n ds → PlacedFrom n ds
placed-behind n [] h = tt
placed-behind n (d ∷ ds) h = (first-placed n d ds h, placed-behind (with_one n d) ds (later-placed n d ds h))

pub placed-from : (ds : List CaseDecl) → ArePlaced ds → PlacedFrom (λ t. 0) ds
placed-from ds h = placed-behind (λ t. 0) ds (λ k d got. let at = h k d got in omega (arith, at))

-- ---- a case is found there

at-later : (n k : ℕ) (xs : List ℕ) (place : ℕ) → n < place → slice_get (k ∷ xs) (place - n) ≡ slice_get xs (place - (n + 1))
at-later n k xs place less = let next : place - n ≡ suc (place - (n + 1)) = omega (arith, less) in ap (slice_get (k ∷ xs)) next

-- with a case more in front: it is the one, or one of its type before it, or of another type
found-one : (n : ℕ → ℕ) (k : ℕ) (xs : List ℕ) (d : CaseDecl) (c : CaseId) (later : Option ℕ) → d.id.place ≡ n c.type_no → n c.type_no ≤ c.place
    → (n c.type_no < c.place → slice_get xs (c.place - (n c.type_no + 1)) ≡ later) → (same : Bool) → (d.id.place == c.place) ≡ same
    → slice_get (k ∷ xs) (c.place - n c.type_no) ≡ (if same then Some k else later)
found-one n k xs d c later own le behind true e =
    let here : c.place - n c.type_no ≡ 0 = omega (arith, own, eqb-true d.id.place c.place e) in
    ap (slice_get (k ∷ xs)) here
found-one n k xs d c later own le behind false e =
    let apart : n c.type_no < c.place = omega (arith, le, own, eqb-false d.id.place c.place e) in
    at-later (n c.type_no) k xs c.place apart ∙ behind apart

found-next : (n : ℕ → ℕ) (k : ℕ) (xs : List ℕ) (d : CaseDecl) (c : CaseId) (later : Option ℕ) → d.id.place ≡ n d.id.type_no → n c.type_no ≤ c.place
    → (with_one n d c.type_no ≤ c.place → slice_get xs (c.place - with_one n d c.type_no) ≡ later) → (same : Bool) → (d.id.type_no == c.type_no) ≡ same
    → slice_get (if same then k ∷ xs else xs) (c.place - n c.type_no) ≡ (if same && d.id.place == c.place then Some k else later)
found-next n k xs d c later own le behind true e =
    let here : d.id.place ≡ n c.type_no = subst (λ t. d.id.place ≡ n t) (eqb-true d.id.type_no c.type_no e) own in
    let one : with_one n d c.type_no ≡ n c.type_no + 1 = ap (λ (b : Bool). n c.type_no + cond b 1 0) e in
    found-one n k xs d c later here le (λ apart. ap (λ i. slice_get xs (c.place - i)) (sym one) ∙ behind (omega (arith, one, apart))) (d.id.place == c.place) refl
found-next n k xs d c later own le behind false e =
    let none : with_one n d c.type_no ≡ n c.type_no + 0 = ap (λ (b : Bool). n c.type_no + cond b 1 0) e in
    let same : n c.type_no ≡ with_one n d c.type_no = omega (arith, none) in
    ap (λ i. slice_get xs (c.place - i)) same ∙ behind (omega (arith, none, le))

found-from : (n : ℕ → ℕ) (k : ℕ) (ds : List CaseDecl) (c : CaseId) → PlacedFrom n ds → n c.type_no ≤ c.place
    → slice_get (places_from k c.type_no (types_of ds)) (c.place - n c.type_no) ≡ position_from (has_id c) k ds
found-from n k [] c h le = none-there (c.place - n c.type_no)
  where
    none-there : (i : ℕ) → slice_get {X = ℕ} [] i ≡ None
    none-there zero = refl
    none-there (suc i) = refl
found-from n k (d ∷ ds) c h le =
    found-next n k (places_from (k + 1) c.type_no (types_of ds)) d c (position_from (has_id c) (k + 1) ds) h.0 le (found-from (with_one n d) (k + 1) ds c h.1) (d.id.type_no == c.type_no) refl

-- a case is at the place of its type that its id tells
pub found : (ds : List CaseDecl) (c : CaseId) → ArePlaced ds → slice_get (places_of c.type_no (types_of ds)) c.place ≡ position (has_id c) ds
found ds c h =
    let same : c.place ≡ c.place - 0 = omega arith in
    ap (slice_get (places_of c.type_no (types_of ds))) same ∙ found-from (λ t. 0) 0 ds c (placed-from ds h) (omega arith) ∙ position-from_0 (has_id c) ds

-- ---- the first so many cases of a type, one after another

abbrev pub changed_all : (ClosedCase → ClosedCase) → List ClosedCase → List ℕ → List ClosedCase
changed_all g cs places = fold (λ xs place. changed_at g place xs) cs places

changed_at-suc : (g : ClosedCase → ClosedCase) (i : ℕ) (c : ClosedCase) (cs : List ClosedCase) → changed_at g (suc i) (c ∷ cs) ≡ c ∷ changed_at g i cs
changed_at-suc g i c cs = go (slice_get cs i)
  where
    go : (o : Option ClosedCase) → put_back g (suc i) (c ∷ cs) o ≡ c ∷ put_back g i cs o
    go None = refl
    go (Some x) = refl

changed-behind : (g : ClosedCase → ClosedCase) (front : List ClosedCase) (c : ClosedCase) (cs : List ClosedCase) → changed_at g (length front) (front ++ c ∷ cs) ≡ front ++ g c ∷ cs
changed-behind g [] c cs = refl
changed-behind g (x ∷ front) c cs = changed_at-suc g (length front) x (front ++ c ∷ cs) ∙ ap (λ xs. x ∷ xs) (changed-behind g front c cs)

take-none : (n : ℕ) → ◌≡◌ {A = List ℕ} (take n []) []
take-none zero = refl
take-none (suc n) = refl

-- the case behind some, called or not, is one of these then
abbrev AllBehind : (ClosedCase → ClosedCase) → (front cs : List ClosedCase) → (places : List ℕ) → (called : List ClosedCase) → Type 0
AllBehind g front cs places called = (x : ClosedCase) → changed_all g (front ++ x ∷ cs) places ≡ front ++ x ∷ called

each-one : (n : ℕ → ℕ) (many t k : ℕ) (g : ClosedCase → ClosedCase) (front : List ClosedCase) (c : ClosedCase) (cs called : List ClosedCase) (xs : List ℕ) (d : CaseDecl)
    → k ≡ length front → d.id.place ≡ n t → AllBehind g front cs (take (many - (n t + 1)) xs) called → (less : Bool) → nat_lt d.id.place many ≡ less
    → changed_all g (front ++ c ∷ cs) (take (many - n t) (k ∷ xs)) ≡ front ++ (if less then g c else c) ∷ called
each-one n many t k g front c cs called xs d at own behind true e =
    let below : d.id.place < many = ltb-true d.id.place many e in
    let next : many - n t ≡ suc (many - (n t + 1)) = omega (arith, own, below) in
    ap (λ i. changed_all g (front ++ c ∷ cs) (take i (k ∷ xs))) next
    ∙ ap (λ i. changed_all g (changed_at g i (front ++ c ∷ cs)) (take (many - (n t + 1)) xs)) at
    ∙ ap (λ l. changed_all g l (take (many - (n t + 1)) xs)) (changed-behind g front c cs) ∙ behind (g c)
each-one n many t k g front c cs called xs d at own behind false e =
    let past : many ≤ d.id.place = ltb-false d.id.place many e in
    let none : many - n t ≡ 0 = omega (arith, own, past) in
    let later : many - (n t + 1) ≡ 0 = omega (arith, own, past) in
    ap (λ i. changed_all g (front ++ c ∷ cs) (take i (k ∷ xs))) none ∙ ap (λ i. changed_all g (front ++ c ∷ cs) (take i xs)) (sym later) ∙ behind c

each-next : (n : ℕ → ℕ) (many t k : ℕ) (g : ClosedCase → ClosedCase) (front : List ClosedCase) (c : ClosedCase) (cs called : List ClosedCase) (xs : List ℕ) (d : CaseDecl)
    → k ≡ length front → d.id.place ≡ n d.id.type_no → AllBehind g front cs (take (many - with_one n d t) xs) called → (same : Bool) → (d.id.type_no == t) ≡ same
    → changed_all g (front ++ c ∷ cs) (take (many - n t) (if same then k ∷ xs else xs)) ≡ front ++ (if same && nat_lt d.id.place many then g c else c) ∷ called
each-next n many t k g front c cs called xs d at own behind true e =
    let here : d.id.place ≡ n t = subst (λ u. d.id.place ≡ n u) (eqb-true d.id.type_no t e) own in
    let one : with_one n d t ≡ n t + 1 = ap (λ (b : Bool). n t + cond b 1 0) e in
    each-one n many t k g front c cs called xs d at here
    (λ x. ap (λ i. changed_all g (front ++ x ∷ cs) (take (many - i) xs)) (sym one) ∙ behind x) (nat_lt d.id.place many) refl
each-next n many t k g front c cs called xs d at own behind false e =
    let none : with_one n d t ≡ n t + 0 = ap (λ (b : Bool). n t + cond b 1 0) e in
    let same : n t ≡ with_one n d t = omega (arith, none) in
    ap (λ i. changed_all g (front ++ c ∷ cs) (take (many - i) xs)) same ∙ behind c

-- one more stands in front
one-front : (g : ClosedCase → ClosedCase) (front cs called : List ClosedCase) (many m t : ℕ) (us : List ℕ)
    → ((x : ClosedCase) → changed_all g ((front ++ x ∷ []) ++ cs) (take (many - m) (places_from (length (front ++ x ∷ [])) t us)) ≡ (front ++ x ∷ []) ++ called)
    → AllBehind g front cs (take (many - m) (places_from (length front + 1) t us)) called
one-front g front cs called many m t us h x =
    ap (λ l. changed_all g l (take (many - m) (places_from (length front + 1) t us))) (sym (append_assoc front (x ∷ []) cs))
    ∙ ap (λ i. changed_all g ((front ++ x ∷ []) ++ cs) (take (many - m) (places_from i t us))) (sym (length-append front (x ∷ [])))
    ∙ h x ∙ append_assoc front (x ∷ []) called

pub each-from : (n : ℕ → ℕ) (many t : ℕ) (g : ClosedCase → ClosedCase) (front cs : List ClosedCase) (ds : List CaseDecl) → PlacedFrom n ds → length cs ≡ length ds
    → changed_all g (front ++ cs) (take (many - n t) (places_from (length front) t (types_of ds))) ≡ front ++ each_of t many g ds cs
each-from n many t g front cs [] h even = ap (changed_all g (front ++ cs)) (take-none (many - n t))
each-from n many t g front [] (d ∷ ds) h even = absurd (cc)
each-from n many t g front (c ∷ cs) (d ∷ ds) h even =
    each-next n many t (length front) g front c cs (each_of t many g ds cs) (places_from (length front + 1) t (types_of ds)) d refl h.0
    (one-front g front cs (each_of t many g ds cs) many (with_one n d t) t (types_of ds) (λ x. each-from (with_one n d) many t g (front ++ x ∷ []) cs ds h.1 (omega (arith, even))))
    (d.id.type_no == t) refl

-- the calls at these places are those of the first so many cases of the type
pub each-placed : (many t : ℕ) (g : ClosedCase → ClosedCase) (ds : List CaseDecl) (cs : List ClosedCase) → ArePlaced ds → length cs ≡ length ds
    → changed_all g cs (take many (places_of t (types_of ds))) ≡ each_of t many g ds cs
each-placed many t g ds cs placed even =
    let same : many ≡ many - 0 = omega arith in
    ap (λ i. changed_all g cs (take i (places_of t (types_of ds)))) same ∙ each-from (λ u. 0) many t g [] cs ds (placed-from ds placed) even

-- where the file has it
pub place-found : (f : File) (c : CaseId) (types : List ℕ) → types ≡ types_of f.cases → ArePlaced f.cases → slice_get (places_of c.type_no types) c.place ≡ place_of f c
place-found f c types same placed = ap (λ us. slice_get (places_of c.type_no us) c.place) same ∙ found f.cases c placed
