-- Passes of which the first ones have taken others in.
use Rattle.turn_rows.proofs.Common.{[], ℕ, ◌++◌, ◌+◌, ◌<◌, ◌∙◌, ◌∷◌, ◌≡◌, ◌≤◌, All, All-push, all_zipped_more, AllZip, AreOf, arith, Cell, get_or, IsLegalView, IsPassOf, IsSeenBy, joined, length, length_push, List, map_more, Pass, PassView}
use Rattle.turn_rows.proofs.{Common.{refl, set, sym, take, take_all, view_of, views, zip_with}, Lists.{IsSameFrom, same_at, same_from_next, map-take_put, zip_with-push}, Passes.AreOf-set}
use mathlib.Core.List.{IsPrefix}

module _ {M E R W S : Type 0} (after : S → E → S) (reply : S → E → R) where
  -- the views of a pass, of one that it takes in, and of the pass then
  pub record HasJoined (v w x : PassView M E R W S) : Type 0 where
    pub is : x ≡ joined v w
    pub more : IsPrefix v.seen x.seen × IsPrefix w.seen x.seen
    pub legal : IsLegalView after reply x

  -- the same of a row
  pub record HaveJoined (vs ws xs : List (PassView M E R W S)) : Type 0 where
    pub even : length ws ≡ length vs
    pub are : xs ≡ zip_with joined vs ws
    pub more : AllZip IsSeenBy vs xs × AllZip IsSeenBy ws xs
    pub legal : All (IsLegalView after reply) xs

  HaveJoined-push : (vs ws xs : List (PassView M E R W S)) (v w x : PassView M E R W S) → HaveJoined vs ws xs → HasJoined v w x → HaveJoined (vs ++ v ∷ []) (ws ++ w ∷ []) (xs ++ x ∷ [])
  HaveJoined-push vs ws xs v w x k new =
      let so_far = k.are in
      let is = new.is in record {
        even = omega (arith, length_push vs v, length_push ws w, k.even);
        are = (cc) ∙ sym (zip_with-push joined vs ws v w k.even);
        more = (all_zipped_more IsSeenBy vs xs v x k.more.0 new.more.0, all_zipped_more IsSeenBy ws xs w x k.more.1 new.more.1);
        legal = All-push (IsLegalView after reply) xs x k.legal new.legal;
      }

  module _ {g : _} where
    -- The passes os have become ns: the first n of them have taken in those of ds.
    pub record HaveJoinedUpTo (n : ℕ) (cs : List (Cell M E R W S)) (os ds ns : List (Pass M E R W S g)) : Type 0 where
      pub cells : AreOf cs ns
      pub joined : HaveJoined (views (take n os)) (views (take n ds)) (views (take n ns))
      pub same : IsSameFrom n os ns

    pub none_joined : (cs : List (Cell M E R W S)) (os ds : List (Pass M E R W S g)) → AreOf cs os → HaveJoinedUpTo 0 cs os ds os
    none_joined cs os ds k = record { cells = k; joined = record { even = refl; are = refl; more = (tt, tt); legal = λ k d lt. absurd (omega arith) }; same = refl }

    pub one_more_joined : (n : ℕ) (cs : List (Cell M E R W S)) (os ds ns : List (Pass M E R W S g)) (c : Cell M E R W S) (d e p : Pass M E R W S g) → HaveJoinedUpTo n cs os ds ns → n < length cs
        → (length os ≡ length cs) × (length ds ≡ length cs) × (length ns ≡ length cs) → c ≡ get_or cs n c → e ≡ get_or ds n e → IsPassOf c p → HasJoined (view_of (get_or ns n d)) (view_of e) (view_of p) → HaveJoinedUpTo (n + 1) cs os ds (set ns n p)
    one_more_joined n cs os ds ns c d e p k lt even at done_at of new = record {
      cells = AreOf-set cs ns n c p k.cells at of;
      joined =
          rw (map_more view_of os n d (omega arith), map_more view_of ds n e (omega arith), ← done_at, map-take_put view_of ns n p (omega arith))
          (HaveJoined-push (views (take n os)) (views (take n ds)) (views (take n ns)) (view_of (get_or os n d)) (view_of e) (view_of p) k.joined (rw (same_at n os ns d k.same) at new));
      same = same_from_next n os ns p k.same;
    }

    pub all_joined : (n : ℕ) (cs : List (Cell M E R W S)) (os ds ns : List (Pass M E R W S g)) → HaveJoinedUpTo n cs os ds ns → length cs ≤ n → (length os ≡ length cs) × (length ds ≡ length cs) × (length ns ≡ length cs) → HaveJoined (views os) (views ds) (views ns)
    all_joined n cs os ds ns k le even = rw (take_all n os (omega arith), take_all n ds (omega arith), take_all n ns (omega arith)) at k.joined
