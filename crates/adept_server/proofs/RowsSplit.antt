-- Rows of passes that were split.
use Rattle.adept_server.proofs.Common.{[], ◌∷◌, ◌≡◌, All, All-cons, All-nil, AllSplit, AreVecsOf, arith, Cell, HaveRoomFor, IsLegalView, length, List, Pass, refl, row_views, RowSplit, subst, Vec, views}

pub split_in_vecs : {M E R W S : Type 0} {after : S → E → S} {reply : S → E → R} {g : _} {cells : List (Cell M E R W S)} {os ps ns us xs ys : List (Pass M E R W S g)} → RowSplit after reply cells ps ns us → ps ≡ os → xs ≡ ns → ys ≡ us → RowSplit after reply cells os xs ys
split_in_vecs k before firsts new = rw (firsts, new) (rw before at k)

module _ {M E R W S A : Type 0} (after : S → E → S) (reply : S → E → R) {g : _} where
  pub none_split : (cs : List (Vec (Cell M E R W S) A)) (os us : List (Vec (Pass M E R W S g) A)) → length cs ≡ 0 → AreVecsOf cs os → HaveRoomFor os us → AllSplit after reply cs os os us
  none_split [] [] [] none of room = record { of = tt; of_new = tt; firsts = refl; new = refl; legal = All-nil (All (IsLegalView after reply)) }
  none_split [] [] (u ∷ us) none of room = let e = room.0 in absurd (cc)
  none_split [] (o ∷ os) us none of room = absurd of
  none_split (c ∷ cs) os us none of room = absurd (omega arith)

  one_row_more : (c : Vec (Cell M E R W S) A) (cs : List (Vec (Cell M E R W S) A)) (o n u : Vec (Pass M E R W S g) A) (os ns us : List (Vec (Pass M E R W S g) A)) → RowSplit after reply c.items o.items n.items u.items → AllSplit after reply cs os ns us
      → AllSplit after reply (c ∷ cs) (o ∷ os) (n ∷ ns) (u ∷ us)
  one_row_more c cs o n u os ns us k rest =
      let firsts = k.firsts in
      let new = k.new in
      let all_firsts = rest.firsts in
      let all_new = rest.new in record {
        of = (k.of, rest.of);
        of_new = (k.of_new, rest.of_new);
        firsts = cc;
        new = cc;
        legal = All-cons (All (IsLegalView after reply)) (views u.items) (row_views us) k.legal rest.legal;
      }

  pub rows_split : {cs : List (Vec (Cell M E R W S) A)} {os ns us : List (Vec (Pass M E R W S g) A)} (c : Vec (Cell M E R W S) A) (cs_left : List (Vec (Cell M E R W S) A)) (o n u : Vec (Pass M E R W S g) A) (os_left ns_left us_left : List (Vec (Pass M E R W S g) A))
      → cs ≡ c ∷ cs_left → os ≡ o ∷ os_left → ns ≡ n ∷ ns_left → us ≡ u ∷ us_left → RowSplit after reply c.items o.items n.items u.items → AllSplit after reply cs_left os_left ns_left us_left → AllSplit after reply cs os ns us
  rows_split c cs_left o n u os_left ns_left us_left cells_are os_are ns_are us_are k rest = rw (cells_are, os_are, ns_are, us_are) (one_row_more c cs_left o n u os_left ns_left us_left k rest)

-- the same where it is said of equal rows
pub split_of_cells : {M E R W S : Type 0} {after : S → E → S} {reply : S → E → R} {g : _} {cells xs : List (Cell M E R W S)} {os ns us : List (Pass M E R W S g)} → RowSplit after reply xs os ns us → xs ≡ cells → RowSplit after reply cells os ns us
split_of_cells {after = after} {reply = reply} {os = os} {ns = ns} {us = us} k same = subst (λ cs. RowSplit after reply cs os ns us) same k

pub all_split_of : {M E R W S A : Type 0} {after : S → E → S} {reply : S → E → R} {g : _} {cells xs : List (Vec (Cell M E R W S) A)} {os ns us ys zs ws : List (Vec (Pass M E R W S g) A)}
    → AllSplit after reply xs ys zs ws → xs ≡ cells → ys ≡ os → ns ≡ zs → us ≡ ws → AllSplit after reply cells os ns us
all_split_of k cells before firsts new = rw (firsts, new) (rw (cells, before) at k)
