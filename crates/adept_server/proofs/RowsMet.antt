-- Rows of which each has met another.
use Rattle.adept_server.proofs.Common.{[], ◌∷◌, ◌≡◌, All, All-cons, All-head, All-nil, All-tail, AllMet, AreLevel, AreLevelRows, AreOf, AreVecsOf, arith, Bool, Cell, IsLegalView, length, List, lists_of, Pass, refl, row_views, RowMet, subst}
use Rattle.adept_server.proofs.Common.{suc, Vec, views}

-- what is said of a row is said of the Vecs that have it
pub met_in_vecs : {M E R W S : Type 0} {after : S → E → S} {reply : S → E → R} {g : _} {cells : List (Cell M E R W S)} {os us ns ms xs ys : List (Pass M E R W S g)} → RowMet after reply cells os us ns ms → xs ≡ ns → ys ≡ ms → RowMet after reply cells os us xs ys
met_in_vecs k one two = rw (one, two) k

pub met_before : {M E R W S : Type 0} {after : S → E → S} {reply : S → E → R} {g : _} {cells : List (Cell M E R W S)} {os us ns ms xs ys : List (Pass M E R W S g)} → RowMet after reply cells xs ys ns ms → xs ≡ os → ys ≡ us → RowMet after reply cells os us ns ms
met_before k one two = rw (one, two) at k

module _ {M E R W S A : Type 0} (after : S → E → S) (reply : S → E → R) {g : _} where
  pub none_met : (cs : List (Vec (Cell M E R W S) A)) (os us : List (Vec (Pass M E R W S g) A)) → length cs ≡ 0 → AreVecsOf cs os → AreVecsOf cs us → AllMet after reply cs os us os us
  none_met [] [] [] none one two = record {
    of_one = tt;
    of_two = tt;
    one = refl;
    two = refl;
    more_of_one = (tt, tt);
    more_of_two = (tt, tt);
    legal = (All-nil (All (IsLegalView after reply)), All-nil (All (IsLegalView after reply)));
  }
  none_met [] [] (u ∷ us) none one two = absurd two
  none_met [] (o ∷ os) us none one two = absurd one
  none_met (c ∷ cs) os us none one two = absurd (omega arith)

  one_row_more : (c : Vec (Cell M E R W S) A) (cs : List (Vec (Cell M E R W S) A)) (o u n m : Vec (Pass M E R W S g) A) (os us ns ms : List (Vec (Pass M E R W S g) A)) → RowMet after reply c.items o.items u.items n.items m.items → AllMet after reply cs os us ns ms
      → AllMet after reply (c ∷ cs) (o ∷ os) (u ∷ us) (n ∷ ns) (m ∷ ms)
  one_row_more c cs o u n m os us ns ms k rest =
      let one = k.one in
      let two = k.two in
      let all_one = rest.one in
      let all_two = rest.two in record {
        of_one = (k.of_one, rest.of_one);
        of_two = (k.of_two, rest.of_two);
        one = cc;
        two = cc;
        more_of_one = ((k.more_of_one.0, rest.more_of_one.0), (k.more_of_one.1, rest.more_of_one.1));
        more_of_two = ((k.more_of_two.0, rest.more_of_two.0), (k.more_of_two.1, rest.more_of_two.1));
        legal = (
          All-cons (All (IsLegalView after reply)) (views n.items) (row_views ns) k.legal.0 rest.legal.0,
          All-cons (All (IsLegalView after reply)) (views m.items) (row_views ms) k.legal.1 rest.legal.1,
        );
      }

  pub rows_met : {cs : List (Vec (Cell M E R W S) A)} {os us ns ms : List (Vec (Pass M E R W S g) A)} (c : Vec (Cell M E R W S) A) (cs_left : List (Vec (Cell M E R W S) A)) (o u n m : Vec (Pass M E R W S g) A)
      (os_left us_left ns_left ms_left : List (Vec (Pass M E R W S g) A)) → cs ≡ c ∷ cs_left → os ≡ o ∷ os_left → us ≡ u ∷ us_left → ns ≡ n ∷ ns_left → ms ≡ m ∷ ms_left
      → RowMet after reply c.items o.items u.items n.items m.items → AllMet after reply cs_left os_left us_left ns_left ms_left → AllMet after reply cs os us ns ms
  rows_met c cs_left o u n m os_left us_left ns_left ms_left cells_are os_are us_are ns_are ms_are k rest = rw (cells_are, os_are, us_are, ns_are, ms_are) (one_row_more c cs_left o u n m os_left us_left ns_left ms_left k rest)

  -- the first row's passes are of the first row's cells
  pub of_first : {cs : List (Vec (Cell M E R W S) A)} {os : List (Vec (Pass M E R W S g) A)} (c : Vec (Cell M E R W S) A) (cs_left : List (Vec (Cell M E R W S) A)) (o : Vec (Pass M E R W S g) A) (os_left : List (Vec (Pass M E R W S g) A))
      → cs ≡ c ∷ cs_left → os ≡ o ∷ os_left → AreVecsOf cs os → AreOf c.items o.items × AreVecsOf cs_left os_left
  of_first c cs_left o os_left cells_are are of = rw (cells_are, are) at of

-- the same where it is said of equal rows
pub met_of_cells : {M E R W S : Type 0} {after : S → E → S} {reply : S → E → R} {g : _} {cells xs : List (Cell M E R W S)} {os us ns ms : List (Pass M E R W S g)} → RowMet after reply xs os us ns ms → xs ≡ cells → RowMet after reply cells os us ns ms
met_of_cells {after = after} {reply = reply} {os = os} {us = us} {ns = ns} {ms = ms} k same = subst (λ cs. RowMet after reply cs os us ns ms) same k

pub all_met_of : {M E R W S A : Type 0} {after : S → E → S} {reply : S → E → R} {g : _} {cells xs : List (Vec (Cell M E R W S) A)} {os us ns ms os' us' ns' ms' : List (Vec (Pass M E R W S g) A)}
    → AllMet after reply xs os' us' ns' ms' → xs ≡ cells → os' ≡ os → us' ≡ us → ns ≡ ns' → ms ≡ ms' → AllMet after reply cells os us ns ms
all_met_of k cells one two met_one met_two = rw (met_one, met_two) (rw (cells, one, two) at k)

-- what is said of two rows is said of those that they were read from
pub level_before : {M E R W S : Type 0} {g : _} (called : List Bool) {os us xs ys : List (Pass M E R W S g)} → AreLevel called (views os) (views us) → xs ≡ os → ys ≡ us → AreLevel called (views xs) (views ys)
level_before called k one two = rw (one, two) k

pub legal_before : {M E R W S : Type 0} {after : S → E → S} {reply : S → E → R} {g : _} {os xs : List (Pass M E R W S g)} → All (IsLegalView after reply) (views os) → xs ≡ os → All (IsLegalView after reply) (views xs)
legal_before k one = rw one k

-- of rows that are level the first two are, and the others
module _ {M E R W S A B : Type 0} {g : _} {called : List (Vec Bool B)} {os us : List (Vec (Pass M E R W S g) A)} (b : Vec Bool B) (bs : List (Vec Bool B)) (o u : Vec (Pass M E R W S g) A) (os_left us_left : List (Vec (Pass M E R W S g) A))
    (called_are : called ≡ b ∷ bs) (os_are : os ≡ o ∷ os_left) (us_are : us ≡ u ∷ us_left) (level : AreLevelRows (lists_of called) (row_views os) (row_views us)) where
  whole : AreLevelRows (lists_of (b ∷ bs)) (row_views (o ∷ os_left)) (row_views (u ∷ us_left))
  whole = rw (called_are, os_are, us_are) at level

  pub level_first : AreLevel b.items (views o.items) (views u.items)
  level_first i calm = whole (record { type_no = 0; place = i }) calm

  pub level_rest : AreLevelRows (lists_of bs) (row_views os_left) (row_views us_left)
  level_rest c calm = whole (record { type_no = suc c.type_no; place = c.place }) calm

pub legal_first : {M E R W S A : Type 0} {after : S → E → S} {reply : S → E → R} {g : _} {os : List (Vec (Pass M E R W S g) A)} (o : Vec (Pass M E R W S g) A) (os_left : List (Vec (Pass M E R W S g) A)) → os ≡ o ∷ os_left → All (All (IsLegalView after reply)) (row_views os)
    → All (IsLegalView after reply) (views o.items) × All (All (IsLegalView after reply)) (row_views os_left)
legal_first {after = after} {reply = reply} o os_left are legal =
    let whole : All (All (IsLegalView after reply)) (row_views (o ∷ os_left)) = rw are at legal in
    (All-head (All (IsLegalView after reply)) (views o.items) (row_views os_left) whole, All-tail (All (IsLegalView after reply)) (views o.items) (row_views os_left) whole)

-- the same of rows
pub level_rows_before : {M E R W S A B : Type 0} {g : _} {called flags : List (Vec Bool B)} {os us xs ys : List (Vec (Pass M E R W S g) A)} → AreLevelRows (lists_of called) (row_views os) (row_views us) → flags ≡ called → xs ≡ os → ys ≡ us
    → AreLevelRows (lists_of flags) (row_views xs) (row_views ys)
level_rows_before k called one two = rw (called, one, two) k

pub legal_rows_before : {M E R W S A : Type 0} {after : S → E → S} {reply : S → E → R} {g : _} {os xs : List (Vec (Pass M E R W S g) A)} → All (All (IsLegalView after reply)) (row_views os) → xs ≡ os → All (All (IsLegalView after reply)) (row_views xs)
legal_rows_before k one = rw one k
