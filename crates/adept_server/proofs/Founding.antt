-- How a server begins.
use Rattle.adept_server.proofs.Common.{[], ℕ, ◌++◌, ◌+◌, ◌<◌, ◌^◌, ◌∙◌, ◌∷◌, ◌≡◌, ◌⊎◌, All, ap, AreFirstCases, AreFirstKinds, AreFirstsOf, AreOf, AreOpened, AreVecsOf, arith, case_after, case_reply, CaseModel, CasePass, Cell, CountedCase}
use Rattle.adept_server.proofs.Common.{Desk, desk_view, DeskView, Event, false, first_of, get_or, in_row, inl, inr, IsDesk, IsDeskOf, IsFirst, IsFirstDesk, IsLegalView, IsPassAt, IsUnused, kind_after, kind_reply, KindEvent, KindModel}
use Rattle.adept_server.proofs.Common.{KindReply, length, length-take-le, List, map, map_push, None, not_created, not_defined, Pass, PassView, refl, replicate, Reply, row_views, Server, slice_get, Some, subst, suc, sum, sym, take}
use Rattle.adept_server.proofs.{Common.{take_item, true, uncounted, Vec, View, view_of, views, zero}, Short.short_counts, Zips.{all_from_places, row_of_case}}
use Rattle.std.proofs.lemmas.List.{length-map}

-- what a first pass of a cell is
module _ {M E R W S : Type 0} (after : S → E → S) (reply : S → E → R) where
  first_is_legal : (s : S) (p : PassView M E R W S) → IsFirst s p → IsLegalView after reply p
  first_is_legal s p is = let first : IsLegalView after reply (first_of p.cell s) = record { legal = tt; own = refl } in subst (IsLegalView after reply) (sym is) first

  first_at : (s : S) (v : DeskView) (p : PassView M E R W S) → v.number ≡ 0 → v.made ≡ 1 → v.taken ≡ 0 → IsFirst s p → IsPassAt after reply s v p
  first_at s v p number made taken is = record {
    opening_is = ap (λ (q : PassView M E R W S). q.opening) is;
    number = ap (λ (q : PassView M E R W S). q.number) is ∙ sym number;
    made = ap (λ (q : PassView M E R W S). q.made) is ∙ sym made;
    taken = ap (λ (q : PassView M E R W S). q.taken) is ∙ sym taken;
    legal = first_is_legal s p is;
  }

first_is_unused : {M E R W S : Type 0} (s : S) (p : PassView M E R W S) → IsFirst s p → IsUnused p
first_is_unused {M} {E} {R} {W} {S} s p is = record { seen = ap (λ (q : PassView M E R W S). q.seen) is; own_calls = ap (λ (q : PassView M E R W S). q.own_calls) is; past = ap (λ (q : PassView M E R W S). q.past) is }

-- no flag is raised
none_raised : {X : Type 0} (xs : List X) (t : ℕ) → slice_get (map (λ _. false) xs) t ≡ Some true → ⊥
none_raised [] t is = absurd (cc)
none_raised (x ∷ xs) zero is = absurd (cc)
none_raised (x ∷ xs) (suc t) is = none_raised xs t is

pub all_lowered : {X : Type 0} (xs : List X) → replicate (length xs) false ≡ map (λ _. false) xs
all_lowered [] = refl
all_lowered (x ∷ xs) = ap (λ bs. false ∷ bs) (all_lowered xs)

module _ (counts : List ℕ) (v : DeskView) (number : v.number ≡ 0) (made : v.made ≡ 1) (taken : v.taken ≡ 0) (flags : v.defined ≡ map (λ _. false) counts) (kinds : AreFirstKinds (length counts) v.kinds) (cases : AreFirstsOf counts v.cases) where
  pub first_desk_is_desk : length counts + sum counts < 2 ^ 32 → IsDesk v
  first_desk_is_desk small = record {
    kinds = λ t p is. first_at kind_after kind_reply (not_defined t) v p number made taken (kinds.each t p is);
    cases = λ c p is. first_at case_after case_reply (not_created c.type_no) v p number made taken (cases.each c p is);
    rows = omega (arith, length-map v.cases (length {A = CasePass}), ap length cases.many, kinds.many);
    flags = omega (arith, ap length flags, length-map counts (λ (n : ℕ). false), kinds.many);
    few = omega (arith, length-map v.cases (length {A = CasePass}), ap length cases.many, small);
    short = short_counts counts v.cases cases.many (omega (arith, small));
    known = λ t is. absurd (none_raised counts t (ap (λ bs. slice_get bs t) (sym flags) ∙ is));
  }

  pub is_first_desk : IsFirstDesk counts v
  is_first_desk = record {
    number = number;
    made = made;
    taken = taken;
    rows = cases.many;
    defined = flags;
    kinds = λ t p is. first_is_unused (not_defined t) p (kinds.each t p is);
    cases = λ c p is. first_is_unused (not_created c.type_no) p (cases.each c p is);
  }

-- a desk that holds the first passes of a server's cells
module _ (counts : List ℕ) (d : Desk) (number : d.number ≡ 0) (made : d.made ≡ 1) (taken : d.taken ≡ 0) (flags : d.defined.items ≡ replicate (length counts) false) (kinds : AreFirstKinds (length counts) (views d.kinds.items)) (cases : AreFirstsOf counts (row_views d.cases.items)) where
  lowered : d.defined.items ≡ map (λ _. false) counts
  lowered = flags ∙ all_lowered counts

  pub first_desk_of : {s : Server} → length counts + sum counts < 2 ^ 32 → AreOf s.kinds.items d.kinds.items → AreVecsOf s.cases.items d.cases.items → IsDeskOf s d
  first_desk_of small of_kinds of_cases = record { kinds = of_kinds; cases = of_cases; desk = first_desk_is_desk counts (desk_view d) number made taken lowered kinds cases small }

  pub first_desk_is : IsFirstDesk counts (desk_view d)
  first_desk_is = is_first_desk counts (desk_view d) number made taken lowered kinds cases

-- passes that were opened over the machines from a number on
module _ {M E R W S : Type 0} {g : _} (state : M → S) where
  pub opened_at : (ms : List M) (cs : List (Cell M E R W S)) (ps : List (Pass M E R W S g)) → AreOpened state ms cs ps → (i : ℕ) (p : PassView M E R W S) → slice_get (views ps) i ≡ Some p → (m : M) × (slice_get ms i ≡ Some m) × IsFirst (state m) p
  opened_at [] [] [] k i p is = absurd (cc)
  opened_at (m ∷ ms) (c ∷ cs) (q ∷ ps) k zero p is =
      let same : view_of q ≡ p = cc (is) in
      let first : IsFirst (state m) (view_of q) = k.0 ∙ ap (λ id. first_of id (state m)) (sym (ap (λ (x : PassView M E R W S). x.cell) k.0)) in
      (m, refl, subst (IsFirst (state m)) same first)
  opened_at (m ∷ ms) (c ∷ cs) (q ∷ ps) k (suc i) p is = opened_at ms cs ps k.1 i p is
  opened_at _ _ _ k i p is = absurd k

  pub opened_length : (ms : List M) (cs : List (Cell M E R W S)) (ps : List (Pass M E R W S g)) → AreOpened state ms cs ps → length (views ps) ≡ length ms
  opened_length [] [] [] k = refl
  opened_length (m ∷ ms) (c ∷ cs) (p ∷ ps) k = ap suc (opened_length ms cs ps k.1)
  opened_length _ _ _ k = absurd k

pub read_any : {X : Type 0} (xs : List X) (i : ℕ) (d e : X) → i < length xs → get_or xs i d ≡ get_or xs i e
read_any [] i d e lt = absurd (omega arith)
read_any (x ∷ xs) zero d e lt = refl
read_any (x ∷ xs) (suc i) d e lt = read_any xs i d e (omega arith)

-- one row more
at_end : {X : Type 0} (xs : List X) (y : X) (i : ℕ) (x : X) → slice_get (xs ++ y ∷ []) i ≡ Some x → (slice_get xs i ≡ Some x) ⊎ ((i ≡ length xs) × (x ≡ y))
at_end [] y zero x is = inr (refl, cc)
at_end [] y (suc i) x is = absurd (cc)
at_end (a ∷ xs) y zero x is = inl is
at_end (a ∷ xs) y (suc i) x is = elim (at_end xs y i x is) [ inl k ↦ inl k | inr k ↦ inr (ap suc k.0, k.1) ]

pub map-push_length : {X : Type 0} (rows : List (List X)) (row : List X) → map length (rows ++ row ∷ []) ≡ map length rows ++ length row ∷ []
map-push_length [] row = refl
map-push_length (r ∷ rows) row = ap (λ ns. length r ∷ ns) (map-push_length rows row)

pub firsts_more : (counts : List ℕ) (rows : List (List CasePass)) (count : ℕ) (row : List CasePass) → AreFirstsOf counts rows → AreFirstCases (length counts) count row → AreFirstsOf (counts ++ count ∷ []) (rows ++ row ∷ [])
firsts_more counts rows count row k new = record {
  many = map-push_length rows row ∙ (ap (λ ns. ns ++ length row ∷ []) k.many ∙ ap (λ n. counts ++ n ∷ []) new.many);
  each = λ c p is.
      let r = row_of_case (rows ++ row ∷ []) c p is in
      elim (at_end rows row c.type_no r.0 r.1) [
        | inl there ↦ k.each c p (ap (in_row c.place) there ∙ r.2)
        | inr last ↦ let here : slice_get row c.place ≡ Some p = subst (λ xs. slice_get xs c.place ≡ Some p) last.1 r.2 in
            let number : c.type_no ≡ length counts = last.0 ∙ (sym (length-map rows (length {A = CasePass})) ∙ ap length k.many) in
            subst (λ n. IsFirst (not_created n) p) (sym number) (new.each c.place p here)
      ];
}

-- the rows are of the cells, one row more
pub vecs-of_push : {M E R W S A : Type 0} {g : _} (cs : List (Vec (Cell M E R W S) A)) (ps : List (Vec (Pass M E R W S g) A)) (c : Vec (Cell M E R W S) A) (p : Vec (Pass M E R W S g) A) → AreVecsOf cs ps → AreOf c.items p.items → AreVecsOf (cs ++ c ∷ []) (ps ++ p ∷ [])
vecs-of_push [] [] c p k of = (of, tt)
vecs-of_push [] (q ∷ ps) c p k of = absurd k
vecs-of_push (b ∷ cs) [] c p k of = absurd k
vecs-of_push (b ∷ cs) (q ∷ ps) c p k of = (k.0, vecs-of_push cs ps c p k.1 of)

-- each item is the one that f makes of its place
module _ {X : Type 0} (f : ℕ → X) where
  abbrev pub AreMade : List X → Type 0
  AreMade xs = (i : ℕ) (x : X) → slice_get xs i ≡ Some x → x ≡ f i

  pub none_made : (xs : List X) → xs ≡ [] → AreMade xs
  none_made xs none i x is = let nothing : None ≡ Some x = ap (λ us. slice_get us i) (sym none) ∙ is in absurd (cc)

  pub one_made : (xs ys : List X) (n : ℕ) (x : X) → length xs ≡ n → ys ≡ xs ++ x ∷ [] → x ≡ f n → AreMade xs → AreMade ys
  one_made xs ys n x many are new made i y is =
      elim (at_end xs x i y (ap (λ us. slice_get us i) (sym are) ∙ is)) [
        | inl there ↦ made i y there
        | inr last ↦ last.1 ∙ (new ∙ ap f (sym (last.0 ∙ many)))
      ]

  -- what holds of each that f makes holds of all
  pub made_all : (P : X → Type 0) (xs : List X) → AreMade xs → ((i : ℕ) → P (f i)) → All P xs
  made_all P xs made each = all_from_places P xs (λ i x is. subst P (sym (made i x is)) (each i))

-- the passes of new types, and of new cases of a type
pub kinds_opened : (count : ℕ) (ms : List KindModel) {g : _} (cs : List (Cell KindModel KindEvent KindReply ℕ KindModel)) (ps : List (Pass KindModel KindEvent KindReply ℕ KindModel g)) → length ms ≡ count → AreMade not_defined ms → AreOpened (λ k. k) ms cs ps → AreFirstKinds count (views ps)
kinds_opened count ms cs ps many made k = record {
  many = opened_length (λ m. m) ms cs ps k ∙ many;
  each = λ t p is. let at = opened_at (λ m. m) ms cs ps k t p is in subst (λ m. IsFirst m p) (made t at.0 at.1) at.2;
}

pub cases_opened : (type_no count : ℕ) (ms : List CountedCase) {g : _} (cs : List (Cell CountedCase Event Reply View CaseModel)) (ps : List (Pass CountedCase Event Reply View CaseModel g)) → length ms ≡ count → AreMade (λ i. uncounted (not_created type_no)) ms → AreOpened (λ (k : CountedCase). k.state) ms cs ps → AreFirstCases type_no count (views ps)
cases_opened type_no count ms cs ps many made k = record {
  many = opened_length (λ (m : CountedCase). m.state) ms cs ps k ∙ many;
  each = λ i p is. let at = opened_at (λ (m : CountedCase). m.state) ms cs ps k i p is in subst (λ (m : CountedCase). IsFirst m.state p) (made i at.0 at.1) at.2;
}

module _ {A : Type 0} {g : _} where
  pub none_opened : (cells : List (Vec (Cell CountedCase Event Reply View CaseModel) A)) (firsts : List (Vec (Pass CountedCase Event Reply View CaseModel g) A)) → cells ≡ [] → firsts ≡ [] → AreVecsOf cells firsts × AreFirstsOf [] (row_views firsts)
  none_opened cells firsts no_cells no_firsts =
      let none : AreFirstsOf [] [] = record { many = refl; each = λ c p is. absurd (cc) } in (
        subst (λ cs. AreVecsOf cs firsts) (sym no_cells) (subst (λ ps. AreVecsOf [] ps) (sym no_firsts) tt),
        subst (λ ps. AreFirstsOf [] (row_views ps)) (sym no_firsts) none,
      )

  -- the cells of one type more, and their first passes
  pub one_more_opened : (counts : List ℕ) (n count : ℕ) (cells cells_then : List (Vec (Cell CountedCase Event Reply View CaseModel) A)) (firsts firsts_then : List (Vec (Pass CountedCase Event Reply View CaseModel g) A)) (row : Vec (Cell CountedCase Event Reply View CaseModel) A)
      (first_row : Vec (Pass CountedCase Event Reply View CaseModel g) A) → n < length counts → count ≡ get_or counts n count → AreVecsOf cells firsts → AreFirstsOf (take n counts) (row_views firsts) → cells_then ≡ cells ++ row ∷ [] → firsts_then ≡ firsts ++ first_row ∷ []
      → AreOf row.items first_row.items → AreFirstCases n count (views first_row.items) → AreVecsOf cells_then firsts_then × AreFirstsOf (take (n + 1) counts) (row_views firsts_then)
  one_more_opened counts n count cells cells_then firsts firsts_then row first_row lt at of are cells_are firsts_are of_row row_is =
      let many : length (take n counts) ≡ n = length-take-le n counts (omega arith) in
      let more = firsts_more (take n counts) (row_views firsts) count (views first_row.items) are (subst (λ k. AreFirstCases k count (views first_row.items)) (sym many) row_is) in
      let rows : row_views firsts_then ≡ row_views firsts ++ views first_row.items ∷ [] = ap row_views firsts_are ∙ map_push (λ (r : Vec (Pass CountedCase Event Reply View CaseModel g) A). views r.items) firsts first_row in (
        rw (cells_are, firsts_are) (vecs-of_push cells firsts row first_row of of_row),
        rw (take_item counts n count lt at, rows) more,
      )
