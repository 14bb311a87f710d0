-- Passes of which the first ones have met.
use Rattle.turn_rows.proofs.Common.{[], ℕ, ◌++◌, ◌+◌, ◌-◌, ◌<◌, ◌∙◌, ◌∷◌, ◌≡◌, ◌≤◌, All, All-push, all_zipped_more, AllZip, ap, AreLevel, AreOf, arith, Bool, Cell, false, first_met, get_or, HasMet, if◌then◌else◌, IsLegalView, IsPassOf}
use Rattle.turn_rows.proofs.Common.{IsSeenBy, length, length_push, List, ltb, map_more, Pass, PassView, refl, second_met, seen_of, set, slice_get, slice_get-get_or, slice_get-map, Some, subst, suc, sym, take, take_all, true, view_of, views}
use Rattle.turn_rows.proofs.{Common.{zero, zip_with}, Lists.{IsSameFrom, same_at, same_from_next, same_from_after, map-take_put, zip_with-push}, Passes.AreOf-set, Places.All-slice_get}
use mathlib.Core.List.{IsPrefix}
use Rattle.std.specs.Prelude.{option_map}
use Rattle.turn_cell.proofs.Prefixes.{prefix_self}
use Rattle.turn_cell.specs.{Rule.longer, declared.journal.Entry.Entry}

-- of two lists that are the same the longer is that list
pub longer-same : {A : Type 0} (xs ys : List A) → xs ≡ ys → longer xs ys ≡ xs
longer-same xs ys same = either (ltb (length ys) (length xs))
  where
    either : (b : Bool) → (if b then xs else ys) ≡ xs
    either true = refl
    either false = sym same

module _ {M E R W S : Type 0} (after : S → E → S) (reply : S → E → R) where
  -- two passes that have seen the same are as if they had met
  pub level-met : (v w : PassView M E R W S) → v.seen ≡ w.seen → IsLegalView after reply v → IsLegalView after reply w → HasMet after reply v w v w
  level-met v w same one two = record {
    one = ap (λ (s : List (Entry M E R W S)). record v { seen = s }) same;
    two = ap (λ (s : List (Entry M E R W S)). record w { seen = s }) (sym (longer-same w.seen v.seen (sym same)));
    more = (subst (IsPrefix v.seen) same (prefix_self v.seen), prefix_self w.seen);
    legal = (one, two);
  }

  -- two rows of passes, and what they have once those at each place have met
  pub record HaveMet (vs ws xs ys : List (PassView M E R W S)) : Type 0 where
    pub even : length ws ≡ length vs
    pub one : xs ≡ zip_with first_met vs ws
    pub two : ys ≡ zip_with second_met vs ws
    pub more_of_one : AllZip IsSeenBy vs xs × AllZip IsSeenBy vs ys
    pub more_of_two : AllZip IsSeenBy ws xs × AllZip IsSeenBy ws ys
    pub legal : All (IsLegalView after reply) xs × All (IsLegalView after reply) ys

  HaveMet-push : (vs ws xs ys : List (PassView M E R W S)) (v w x y : PassView M E R W S) → HaveMet vs ws xs ys → HasMet after reply v w x y → HaveMet (vs ++ v ∷ []) (ws ++ w ∷ []) (xs ++ x ∷ []) (ys ++ y ∷ [])
  HaveMet-push vs ws xs ys v w x y k new =
      let same : y.seen ≡ x.seen = sym (ap (λ u. u.seen) new.one) in
      let first = k.one in
      let second = k.two in
      let new_first : x ≡ first_met v w = new.one ∙ ap (λ s. record v { seen = s }) (ap (λ u. u.seen) new.two) in
      let new_second = new.two in record {
        even = omega (arith, length_push vs v, length_push ws w, k.even);
        one = (cc) ∙ sym (zip_with-push first_met vs ws v w k.even);
        two = (cc) ∙ sym (zip_with-push second_met vs ws v w k.even);
        more_of_one = (all_zipped_more IsSeenBy vs xs v x k.more_of_one.0 (subst (IsPrefix v.seen) same new.more.0), all_zipped_more IsSeenBy vs ys v y k.more_of_one.1 new.more.0);
        more_of_two = (all_zipped_more IsSeenBy ws xs w x k.more_of_two.0 (subst (IsPrefix w.seen) same new.more.1), all_zipped_more IsSeenBy ws ys w y k.more_of_two.1 new.more.1);
        legal = (All-push (IsLegalView after reply) xs x k.legal.0 new.legal.0, All-push (IsLegalView after reply) ys y k.legal.1 new.legal.1);
      }

  module _ {g : _} where
    -- The passes os and us have become ns and ms: the first n of them have met.
    pub record HaveMetUpTo (n : ℕ) (cs : List (Cell M E R W S)) (os us ns ms : List (Pass M E R W S g)) : Type 0 where
      pub cells : AreOf cs ns × AreOf cs ms
      pub met : HaveMet (views (take n os)) (views (take n us)) (views (take n ns)) (views (take n ms))
      pub same : IsSameFrom n os ns × IsSameFrom n us ms

    pub none_met : (cs : List (Cell M E R W S)) (os us : List (Pass M E R W S g)) → AreOf cs os × AreOf cs us → HaveMetUpTo 0 cs os us os us
    none_met cs os us k = record {
      cells = k;
      met = record { even = refl; one = refl; two = refl; more_of_one = (tt, tt); more_of_two = (tt, tt); legal = (λ k d lt. absurd (omega arith), λ k d lt. absurd (omega arith)) };
      same = (refl, refl);
    }

    pub one_more_met : (n : ℕ) (cs : List (Cell M E R W S)) (os us ns ms : List (Pass M E R W S g)) (c : Cell M E R W S) (d e p q : Pass M E R W S g) → HaveMetUpTo n cs os us ns ms → n < length cs
        → (length os ≡ length cs) × (length us ≡ length cs) × (length ns ≡ length cs) × (length ms ≡ length cs) → c ≡ get_or cs n c → IsPassOf c p × IsPassOf c q → HasMet after reply (view_of (get_or ns n d)) (view_of (get_or ms n e)) (view_of p) (view_of q)
        → HaveMetUpTo (n + 1) cs os us (set ns n p) (set ms n q)
    one_more_met n cs os us ns ms c d e p q k lt even at of new = record {
      cells = (AreOf-set cs ns n c p k.cells.0 at of.0, AreOf-set cs ms n c q k.cells.1 at of.1);
      met =
          rw (map_more view_of os n d (omega arith), map_more view_of us n e (omega arith), map-take_put view_of ns n p (omega arith), map-take_put view_of ms n q (omega arith))
          (HaveMet-push (views (take n os)) (views (take n us)) (views (take n ns)) (views (take n ms)) (view_of (get_or os n d)) (view_of (get_or us n e)) (view_of p) (view_of q) k.met
          (rw (same_at n os ns d k.same.0, same_at n us ms e k.same.1) at new));
      same = (same_from_next n os ns p k.same.0, same_from_next n us ms q k.same.1);
    }

    pub all_met : (n : ℕ) (cs : List (Cell M E R W S)) (os us ns ms : List (Pass M E R W S g)) → HaveMetUpTo n cs os us ns ms → length cs ≤ n → (length os ≡ length cs) × (length us ≡ length cs) × (length ns ≡ length cs) × (length ms ≡ length cs) → HaveMet (views os) (views us) (views ns) (views ms)
    all_met n cs os us ns ms k le even = rw (take_all n os (omega arith), take_all n us (omega arith), take_all n ns (omega arith), take_all n ms (omega arith)) at k.met

    view_there : (ps : List (Pass M E R W S g)) (n : ℕ) (d : Pass M E R W S g) → n < length ps → slice_get (views ps) n ≡ Some (view_of (get_or ps n d))
    view_there ps n d lt = slice_get-map view_of ps n ∙ ap (option_map view_of) (slice_get-get_or ps n d lt)

    -- what is level at first is so where nobody has met yet
    pub level_there : (called : List Bool) (n : ℕ) (cs : List (Cell M E R W S)) (os us ns ms : List (Pass M E R W S g)) (d e : Pass M E R W S g) → HaveMetUpTo n cs os us ns ms → n < length os → n < length us → AreLevel called (views os) (views us)
        → slice_get called n ≡ Some false → (view_of (get_or ns n d)).seen ≡ (view_of (get_or ms n e)).seen
    level_there called n cs os us ns ms d e k lt lt_too level calm =
        let both : Some (view_of (get_or os n d)).seen ≡ Some (view_of (get_or us n e)).seen =
        ap seen_of (sym (view_there os n d lt)) ∙ (level n calm ∙ ap seen_of (view_there us n e lt_too)) in
        rw (same_at n os ns d k.same.0, same_at n us ms e k.same.1) (cc (both))

    pub legal_there : (n : ℕ) (os ns : List (Pass M E R W S g)) (d : Pass M E R W S g) → IsSameFrom n os ns → n < length os → All (IsLegalView after reply) (views os) → IsLegalView after reply (view_of (get_or ns n d))
    legal_there n os ns d same lt legal =
        rw (same_at n os ns d same) (All-slice_get (IsLegalView after reply) (views os) n (view_of (get_or os n d)) legal (view_there os n d lt))

    head_of : (ps : List (Pass M E R W S g)) → 0 < length ps → Pass M E R W S g
    head_of [] lt = absurd (omega (arith, lt))
    head_of (p ∷ ps) lt = p

    -- two passes that have seen the same are passed over
    one_passed : (called : List Bool) (n : ℕ) (cs : List (Cell M E R W S)) (os us ns ms : List (Pass M E R W S g)) → HaveMetUpTo n cs os us ns ms → n < length cs → (length os ≡ length cs) × (length us ≡ length cs) × (length ns ≡ length cs) × (length ms ≡ length cs)
        → AreLevel called (views os) (views us) → All (IsLegalView after reply) (views os) × All (IsLegalView after reply) (views us) → slice_get called n ≡ Some false → HaveMetUpTo (n + 1) cs os us ns ms
    one_passed called n cs os us ns ms k lt even level legal calm =
        let d = head_of os (omega (arith, lt, even.0)) in
        let e = head_of us (omega (arith, lt, even.1)) in
        let new = level-met (view_of (get_or ns n d)) (view_of (get_or ms n e)) (level_there called n cs os us ns ms d e k (omega (arith, lt, even.0)) (omega (arith, lt, even.1)) level calm)
        (legal_there n os ns d k.same.0 (omega (arith, lt, even.0)) legal.0) (legal_there n us ms e k.same.1 (omega (arith, lt, even.1)) legal.1) in
        record {
          cells = k.cells;
          met =
              rw (map_more view_of os n d (omega (arith, lt, even.0)), map_more view_of us n e (omega (arith, lt, even.1)), map_more view_of ns n d (omega (arith, lt, even.2)), map_more view_of ms n e (omega (arith, lt, even.3)))
              (HaveMet-push (views (take n os)) (views (take n us)) (views (take n ns)) (views (take n ms)) (view_of (get_or os n d)) (view_of (get_or us n e)) (view_of (get_or ns n d)) (view_of (get_or ms n e)) k.met
              (subst (λ q. HasMet after reply (view_of q) (view_of (get_or us n e)) (view_of (get_or ns n d)) (view_of (get_or ms n e))) (same_at n os ns d k.same.0)
              (subst (λ q. HasMet after reply (view_of (get_or ns n d)) (view_of q) (view_of (get_or ns n d)) (view_of (get_or ms n e))) (same_at n us ms e k.same.1) new)));
          same = (same_from_after n os ns k.same.0, same_from_after n us ms k.same.1);
        }

    -- and so are those at all places between two
    passed_over : (j : ℕ) (called : List Bool) (n : ℕ) (cs : List (Cell M E R W S)) (os us ns ms : List (Pass M E R W S g)) → HaveMetUpTo n cs os us ns ms → n + j ≤ length cs → (length os ≡ length cs) × (length us ≡ length cs) × (length ns ≡ length cs) × (length ms ≡ length cs)
        → AreLevel called (views os) (views us) → All (IsLegalView after reply) (views os) × All (IsLegalView after reply) (views us) → ((p : ℕ) → n ≤ p → p < n + j → slice_get called p ≡ Some false) → HaveMetUpTo (n + j) cs os us ns ms
    passed_over zero called n cs os us ns ms k le even level legal calm =
        let here : n ≡ n + 0 = omega arith in
        subst (λ m. HaveMetUpTo m cs os us ns ms) here k
    passed_over (suc j) called n cs os us ns ms k le even level legal calm =
        let there : (n + 1) + j ≡ n + suc j = omega arith in
        let next = one_passed called n cs os us ns ms k (omega (arith, le)) even level legal (calm n (omega arith) (omega arith)) in
        subst (λ m. HaveMetUpTo m cs os us ns ms) there (passed_over j called (n + 1) cs os us ns ms next (omega (arith, le)) even level legal (λ p ge lt. calm p (omega (arith, ge)) (omega (arith, lt))))

    -- The first n of them have met, and no cell from there on to that place was called.
    pub record HaveMetBefore (called : List Bool) (place : ℕ) (cs : List (Cell M E R W S)) (os us ns ms : List (Pass M E R W S g)) : Type 0 where
      pub n : ℕ
      pub within : n ≤ length cs
      pub before : n ≤ place
      pub met : HaveMetUpTo n cs os us ns ms
      pub calm : (p : ℕ) → n ≤ p → p < place → slice_get called p ≡ Some false

    -- so all before a place have met
    pub met_before : (called : List Bool) (place to : ℕ) (cs : List (Cell M E R W S)) (os us ns ms : List (Pass M E R W S g)) → to ≤ place → to ≤ length cs → ((length os ≡ length cs) × (length us ≡ length cs) × (length ns ≡ length cs) × (length ms ≡ length cs))
        → AreLevel called (views os) (views us) → All (IsLegalView after reply) (views os) × All (IsLegalView after reply) (views us) → (k : HaveMetBefore called place cs os us ns ms) → k.n ≤ to → HaveMetUpTo to cs os us ns ms
    met_before called place to cs os us ns ms le within even level legal k from =
        let there : k.n + (to - k.n) ≡ to = omega (arith, from) in
        subst (λ m. HaveMetUpTo m cs os us ns ms) there (passed_over (to - k.n) called k.n cs os us ns ms k.met (omega (arith, from, within)) even level legal (λ p ge lt. k.calm p ge (omega (arith, lt, from, le))))
