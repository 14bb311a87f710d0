-- What looks leave of passes.
use Rattle.adept_server.proofs.Common.{[], ℕ, ◌+◌, ◌∙◌, ◌∷◌, ◌≡◌, AllLooked, AllOpened, ap, append-nil, AreShort, arith, CasePass, DeskView, EachLooked, has_version, HasLooked, in_row, IsDesk, kind_after, kind_reply, length, List, Looks}
use Rattle.adept_server.proofs.{Common.{not_created, not_defined, OpenedAs, refl, slice_get, Some, subst, suc, sym, zero}, Keeping.{Beside, pass_beside}}

-- at what nobody looked is as it was
pub not_looked : (p : CasePass) → HasLooked p p
not_looked p = record {
  cell = refl;
  opening = refl;
  number = refl;
  made = refl;
  taken = refl;
  past = refl;
  own_calls = refl;
  more = ([], append-nil p.seen);
  legal = λ k. k;
}

pub none_looked : (ps : List CasePass) → EachLooked ps ps
none_looked [] = tt
none_looked (p ∷ ps) = (not_looked p, none_looked ps)

pub no_row_looked : (rows : List (List CasePass)) → AllLooked rows rows
no_row_looked [] = tt
no_row_looked (row ∷ rows) = (none_looked row, no_row_looked rows)

-- the first of a row looked, and the others did not
pub first_looked : (vs ws : List CasePass) (v w : CasePass) → vs ≡ v ∷ ws → HasLooked v w → EachLooked vs (w ∷ ws)
first_looked vs ws v w is looked = subst (λ xs. EachLooked xs (w ∷ ws)) (sym is) (looked, none_looked ws)

pub opened_rest : (t : ℕ) (vs ws : List CasePass) (v : CasePass) → vs ≡ v ∷ ws → OpenedAs t vs → OpenedAs t ws
opened_rest t vs ws v is opened = (subst (OpenedAs t) is opened).1

-- the first row and the others
pub first_row_looked : (vs ws xs : List (List CasePass)) (v w : List CasePass) → vs ≡ v ∷ ws → EachLooked v w → AllLooked ws xs → AllLooked vs (w ∷ xs)
first_row_looked vs ws xs v w is looked others = subst (λ rows. AllLooked rows (w ∷ xs)) (sym is) (looked, others)

looked_in : (ps qs : List CasePass) → EachLooked ps qs → (i : ℕ) (q : CasePass) → slice_get qs i ≡ Some q → (p : CasePass) × (slice_get ps i ≡ Some p) × HasLooked p q
looked_in [] [] k i q is = absurd (cc)
looked_in [] (r ∷ qs) k i q is = absurd k
looked_in (p ∷ ps) [] k i q is = absurd k
looked_in (p ∷ ps) (r ∷ qs) k zero q is = (p, refl, (let same : r ≡ q = cc (is) in subst (HasLooked p) same k.0))
looked_in (p ∷ ps) (r ∷ qs) k (suc i) q is = looked_in ps qs k.1 i q is

-- each pass behind looks is as before, or has seen more
looked_at : (rows news : List (List CasePass)) → AllLooked rows news → (t place : ℕ) (q : CasePass) → in_row place (slice_get news t) ≡ Some q → (p : CasePass) × (in_row place (slice_get rows t) ≡ Some p) × HasLooked p q
looked_at [] [] k t place q is = absurd (cc)
looked_at [] (n ∷ news) k t place q is = absurd k
looked_at (r ∷ rows) [] k t place q is = absurd k
looked_at (r ∷ rows) (n ∷ news) k zero place q is = looked_in r n k.0 place q is
looked_at (r ∷ rows) (n ∷ news) k (suc t) place q is = looked_at rows news k.1 t place q is

looked-length : (rows news : List (List CasePass)) → AllLooked rows news → length news ≡ length rows
looked-length [] [] k = refl
looked-length [] (n ∷ news) k = absurd k
looked-length (r ∷ rows) [] k = absurd k
looked-length (r ∷ rows) (n ∷ news) k = ap suc (looked-length rows news k.1)

row-even : (ps qs : List CasePass) → EachLooked ps qs → length qs ≡ length ps
row-even [] [] k = refl
row-even [] (q ∷ qs) k = absurd k
row-even (p ∷ ps) [] k = absurd k
row-even (p ∷ ps) (q ∷ qs) k = ap suc (row-even ps qs k.1)

looked-short : (rows news : List (List CasePass)) → AllLooked rows news → AreShort rows → AreShort news
looked-short [] [] k short = tt
looked-short [] (n ∷ news) k short = absurd k
looked-short (r ∷ rows) [] k short = absurd k
looked-short (r ∷ rows) (n ∷ news) k short = (omega (arith, row-even r n k.0, short.0), looked-short rows news k.1 short.1)

-- a desk is one still behind looks
pub looks_keep : (v w : DeskView) → Looks v w → IsDesk v → IsDesk w
looks_keep v w k desk = record {
  kinds = λ u p is. pass_beside kind_after kind_reply v w same (not_defined u) p (desk.kinds u p (ap (λ ps. slice_get ps u) (sym same_kinds) ∙ is));
  cases = λ c q is.
      let p = looked_at v.cases w.cases k.looked c.type_no c.place q is in
      let at = desk.cases c p.0 p.1 in
      record {
        opening_is = p.2.opening ∙ at.opening_is;
        number = p.2.number ∙ (at.number ∙ sym same.number);
        made = p.2.made ∙ (at.made ∙ sym same.made);
        taken = p.2.taken ∙ (at.taken ∙ sym same.taken);
        legal = p.2.legal at.legal;
      };
  rows = looked-length v.cases w.cases k.looked ∙ (desk.rows ∙ ap length (sym same_kinds));
  flags = ap length same_flags ∙ (desk.flags ∙ ap length (sym same_kinds));
  few = omega (arith, looked-length v.cases w.cases k.looked, desk.few);
  short = looked-short v.cases w.cases k.looked desk.short;
  known = λ u is. subst (λ ps. has_version u (slice_get ps u)) (sym same_kinds) (desk.known u (ap (λ xs. slice_get xs u) (sym same_flags) ∙ is));
}
  where
    same : Beside v w
    same = record { number = ap (λ (x : DeskView). x.number) k.others; made = ap (λ (x : DeskView). x.made) k.others; taken = ap (λ (x : DeskView). x.taken) k.others }

    same_kinds : w.kinds ≡ v.kinds
    same_kinds = ap (λ (x : DeskView). x.kinds) k.others

    same_flags : w.defined ≡ v.defined
    same_flags = ap (λ (x : DeskView). x.defined) k.others

-- the cells of a desk opened with cases that are not created
row_opened : (t : ℕ) (ps : List CasePass) → ((i : ℕ) (p : CasePass) → slice_get ps i ≡ Some p → p.opening ≡ Some (not_created t)) → OpenedAs t ps
row_opened t [] all = tt
row_opened t (p ∷ ps) all = (all 0 p refl, row_opened t ps (λ i q is. all (suc i) q is))

rows_opened : (t : ℕ) (rows : List (List CasePass)) → ((u i : ℕ) (p : CasePass) → in_row i (slice_get rows u) ≡ Some p → p.opening ≡ Some (not_created (t + u))) → AllOpened t rows
rows_opened t [] all = tt
rows_opened t (row ∷ rows) all = (
  row_opened t row (λ i p is. let none : t + 0 ≡ t = omega arith in subst (λ n. p.opening ≡ Some (not_created n)) none (all 0 i p is)),
  rows_opened (t + 1) rows (λ u i p is. let more : t + suc u ≡ (t + 1) + u = omega arith in subst (λ n. p.opening ≡ Some (not_created n)) more (all (suc u) i p is)),
)

pub desk_opened : (v : DeskView) → IsDesk v → AllOpened 0 v.cases
desk_opened v desk = rows_opened 0 v.cases (λ u i p is. let none : u ≡ 0 + u = omega arith in subst (λ n. p.opening ≡ Some (not_created n)) none (desk.cases (record { type_no = u; place = i }) p is).opening_is)
