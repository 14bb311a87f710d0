-- Rows of passes that have taken in others.
use Rattle.adept_server.proofs.Common.{[], ◌∷◌, ◌≡◌, All, All-cons, All-head, All-nil, All-tail, AllJoined, AreOf, AreVecsOf, arith, Cell, IsLegalView, length, List, Pass, PassView, refl, row_views, RowJoined, subst, Vec, views}

pub joined_in_vecs : {M E R W S : Type 0} {after : S → E → S} {reply : S → E → R} {g : _} {cells : List (Cell M E R W S)} {os ds ns us xs : List (Pass M E R W S g)} → RowJoined after reply cells us ds ns → us ≡ os → xs ≡ ns → RowJoined after reply cells os ds xs
joined_in_vecs k before behind = rw behind (rw before at k)

module _ {M E R W S A : Type 0} {g : _} where
  -- what holds of the first of rows, and of the others
  pub first_row_of : {cs : List (Vec (Cell M E R W S) A)} {os : List (Vec (Pass M E R W S g) A)} (c : Vec (Cell M E R W S) A) (cs_left : List (Vec (Cell M E R W S) A)) (o : Vec (Pass M E R W S g) A) (os_left : List (Vec (Pass M E R W S g) A))
      → cs ≡ c ∷ cs_left → os ≡ o ∷ os_left → AreVecsOf cs os → AreOf c.items o.items × AreVecsOf cs_left os_left
  first_row_of c cs_left o os_left cells_are are of = rw (cells_are, are) at of

  pub first_row_all : (P : PassView M E R W S → Type 0) {os : List (Vec (Pass M E R W S g) A)} (o : Vec (Pass M E R W S g) A) (os_left : List (Vec (Pass M E R W S g) A)) → os ≡ o ∷ os_left → All (All P) (row_views os)
      → All P (views o.items) × All (All P) (row_views os_left)
  first_row_all P o os_left are all =
      let both = rw are at all in
      (All-head (All P) (views o.items) (row_views os_left) both, All-tail (All P) (views o.items) (row_views os_left) both)

module _ {M E R W S A : Type 0} (after : S → E → S) (reply : S → E → R) {g : _} where
  pub none_joined : (cs : List (Vec (Cell M E R W S) A)) (os ds : List (Vec (Pass M E R W S g) A)) → length cs ≡ 0 → AreVecsOf cs os → AreVecsOf cs ds → AllJoined after reply cs os ds os
  none_joined [] [] [] none of of_done = record { of = tt; are = refl; more = (tt, tt); legal = All-nil (All (IsLegalView after reply)) }
  none_joined [] [] (d ∷ ds) none of of_done = absurd of_done
  none_joined [] (o ∷ os) ds none of of_done = absurd of
  none_joined (c ∷ cs) os ds none of of_done = absurd (omega arith)

  one_row_more : (c : Vec (Cell M E R W S) A) (cs : List (Vec (Cell M E R W S) A)) (o d n : Vec (Pass M E R W S g) A) (os ds ns : List (Vec (Pass M E R W S g) A)) → RowJoined after reply c.items o.items d.items n.items → AllJoined after reply cs os ds ns
      → AllJoined after reply (c ∷ cs) (o ∷ os) (d ∷ ds) (n ∷ ns)
  one_row_more c cs o d n os ds ns k rest =
      let row = k.are in
      let rows = rest.are in record {
        of = (k.of, rest.of);
        are = cc;
        more = ((k.more.0, rest.more.0), (k.more.1, rest.more.1));
        legal = All-cons (All (IsLegalView after reply)) (views n.items) (row_views ns) k.legal rest.legal;
      }

  pub rows_joined : {cs : List (Vec (Cell M E R W S) A)} {os ds ns : List (Vec (Pass M E R W S g) A)} (c : Vec (Cell M E R W S) A) (cs_left : List (Vec (Cell M E R W S) A)) (o d n : Vec (Pass M E R W S g) A) (os_left ds_left ns_left : List (Vec (Pass M E R W S g) A))
      → cs ≡ c ∷ cs_left → os ≡ o ∷ os_left → ds ≡ d ∷ ds_left → ns ≡ n ∷ ns_left → RowJoined after reply c.items o.items d.items n.items → AllJoined after reply cs_left os_left ds_left ns_left → AllJoined after reply cs os ds ns
  rows_joined c cs_left o d n os_left ds_left ns_left cells_are os_are ds_are ns_are k rest = rw (cells_are, os_are, ds_are, ns_are) (one_row_more c cs_left o d n os_left ds_left ns_left k rest)

-- the same where it is said of equal rows
pub joined_of_cells : {M E R W S : Type 0} {after : S → E → S} {reply : S → E → R} {g : _} {cells xs : List (Cell M E R W S)} {os ds ns : List (Pass M E R W S g)} → RowJoined after reply xs os ds ns → xs ≡ cells → RowJoined after reply cells os ds ns
joined_of_cells {after = after} {reply = reply} {os = os} {ds = ds} {ns = ns} k same = subst (λ us. RowJoined after reply us os ds ns) same k

pub all_joined_of : {M E R W S A : Type 0} {after : S → E → S} {reply : S → E → R} {g : _} {cells xs : List (Vec (Cell M E R W S) A)} {os ds ns ys zs ws : List (Vec (Pass M E R W S g) A)}
    → AllJoined after reply xs ys zs ws → xs ≡ cells → ys ≡ os → zs ≡ ds → ns ≡ ws → AllJoined after reply cells os ds ns
all_joined_of k cells before done behind = rw behind (rw (cells, before, done) at k)
