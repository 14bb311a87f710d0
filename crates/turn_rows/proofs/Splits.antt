-- Passes of which the first ones were split.
use Rattle.turn_rows.proofs.Common.{[], ℕ, ◌++◌, ◌+◌, ◌<◌, ◌∙◌, ◌∷◌, ◌≡◌, ◌≤◌, All, All-push, AreOf, arith, Cell, get_or, IsLegalView, IsPassOf, length, List, map, map_more, map_push, Pass, PassView, refl, set, split_from, split_off, sym}
use Rattle.turn_rows.proofs.{Common.{take, take_all, view_of, views}, Lists.{IsSameFrom, take_item, same_at, same_from_next, map-take_put}, Passes.{AreOf-set, AreOf-push}}

module _ {M E R W S : Type 0} (after : S → E → S) (reply : S → E → R) where
  -- views before a split and after it, and those of the passes that it makes
  pub record AreSplit (vs ws us : List (PassView M E R W S)) : Type 0 where
    pub firsts : ws ≡ map split_from vs
    pub new : us ≡ map split_off vs
    pub legal : All (IsLegalView after reply) us

  AreSplit-push : (vs ws us : List (PassView M E R W S)) (v w u : PassView M E R W S) → AreSplit vs ws us → w ≡ split_from v → u ≡ split_off v → IsLegalView after reply u → AreSplit (vs ++ v ∷ []) (ws ++ w ∷ []) (us ++ u ∷ [])
  AreSplit-push vs ws us v w u k first new legal = record {
    firsts = (let e = k.firsts in cc) ∙ sym (map_push split_from vs v);
    new = (let e = k.new in cc) ∙ sym (map_push split_off vs v);
    legal = All-push (IsLegalView after reply) us u k.legal legal;
  }

  module _ {g : _} where
    -- The passes os have become ns: the first n of them were split, which has made the passes qs.
    pub record HaveSplit (n : ℕ) (cs : List (Cell M E R W S)) (os ns qs : List (Pass M E R W S g)) : Type 0 where
      pub cells : AreOf cs ns
      pub new : AreOf (take n cs) qs
      pub split : AreSplit (views (take n os)) (views (take n ns)) (views qs)
      pub same : IsSameFrom n os ns

    pub none_split : (cs : List (Cell M E R W S)) (os : List (Pass M E R W S g)) → AreOf cs os → HaveSplit 0 cs os os []
    none_split cs os k = record { cells = k; new = tt; split = record { firsts = refl; new = refl; legal = λ k d lt. absurd (omega arith) }; same = refl }

    pub one_more_split : (n : ℕ) (cs : List (Cell M E R W S)) (os ns qs : List (Pass M E R W S g)) (c : Cell M E R W S) (d p q : Pass M E R W S g) → HaveSplit n cs os ns qs → n < length cs → length ns ≡ length cs → length os ≡ length cs
        → c ≡ get_or cs n c → IsPassOf c p → IsPassOf c q → view_of p ≡ split_from (view_of (get_or ns n d)) → view_of q ≡ split_off (view_of (get_or ns n d)) → IsLegalView after reply (view_of q)
        → HaveSplit (n + 1) cs os (set ns n p) (qs ++ q ∷ [])
    one_more_split n cs os ns qs c d p q k lt same_length length_too at of_p of_q first new legal =
        let old = same_at n os ns d k.same in record {
          cells = AreOf-set cs ns n c p k.cells at of_p;
          new = rw (take_item cs n c lt at) (AreOf-push (take n cs) qs c q k.new of_q);
          split =
              rw (map_more view_of os n d (omega arith), map-take_put view_of ns n p (omega arith), map_push view_of qs q)
              (AreSplit-push (views (take n os)) (views (take n ns)) (views qs) (view_of (get_or os n d)) (view_of p) (view_of q) k.split (cc) (cc) legal);
          same = same_from_next n os ns p k.same;
        }

    pub all_split : (n : ℕ) (cs : List (Cell M E R W S)) (os ns qs : List (Pass M E R W S g)) → HaveSplit n cs os ns qs → length cs ≤ n → length ns ≡ length cs → length os ≡ length cs → AreOf cs qs × AreSplit (views os) (views ns) (views qs)
    all_split n cs os ns qs k le same_length length_too = (
      rw (take_all n cs le) at k.new,
      rw (take_all n os (omega arith), take_all n ns (omega arith)) at k.split,
    )
