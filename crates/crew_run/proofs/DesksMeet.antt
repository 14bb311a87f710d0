-- What two desks have seen once they have met.
use Rattle.crew_run.proofs.Common.{[], ℕ, ◌∙◌, ◌∷◌, ◌≡◌, AllCalled, AllZip, AllZip-long, ap, AreLevelDesks, arith, at_case, Beside, Bool, CallFlags, CasePass, DeskHeard, DeskSame, DeskView, Entry, false, first_desk_met, first_met}
use Rattle.crew_run.proofs.Common.{HasPassesOf, HasShapeOf, Heard, if◌then◌else◌, in_row, IsSeenBy, KindPass, length, length-append, List, longer-same, ltb, ltb-true, PassView, prefix_self, prefix_trans, refl, second_desk_met, second_met}
use Rattle.crew_run.proofs.{Common.{seen_of, SeenSame, SeesMore, slice_get, Some, subst, suc, sym, true, zero, zip_with}, SideBySide.{made-beside, made-first, made-same, made-second, zip-back, zip-rows, zip-self, zip-so, zip-then}}
use mathlib.Core.List.{IsPrefix}
use Rattle.turn_cell.specs.Rule.{longer}

-- ---- passes
module _ {M E R W S : Type 0} where
  pub heard-nothing : (p : PassView M E R W S) → Heard p p
  heard-nothing p = record { more = prefix_self p.seen; same = refl }

  pub heard-more : (p q r : PassView M E R W S) → Heard p q → Heard q r → Heard p r
  heard-more p q r h k = record {
    more = prefix_trans p.seen q.seen r.seen h.more k.more;
    same = k.same ∙ ap (λ (v : PassView M E R W S). record v { seen = r.seen }) h.same;
  }

  heard-seen : (p q r : PassView M E R W S) → IsSeenBy p q → Heard q r → IsSeenBy p r
  heard-seen p q r s h = prefix_trans p.seen q.seen r.seen s h.more

  same-seen : (p q : PassView M E R W S) → SeenSame p q → IsSeenBy q p
  same-seen p q s = subst (λ xs. IsPrefix q.seen xs) (sym s) (prefix_self q.seen)

  first-heard : (p q : PassView M E R W S) → IsSeenBy p (first_met p q) → Heard p (first_met p q)
  first-heard p q more = record { more = more; same = refl }

  second-heard : (p q : PassView M E R W S) → IsSeenBy q (first_met p q) → Heard q (second_met p q)
  second-heard p q more = record { more = more; same = refl }

  longer-seen : (xs ys : List (Entry M E R W S)) → IsPrefix xs ys → longer xs ys ≡ ys
  longer-seen xs ys p = either (ltb (length ys) (length xs)) refl
    where
      either : (b : Bool) → ltb (length ys) (length xs) ≡ b → (if b then xs else ys) ≡ ys
      either true e = absurd (let less = ltb-true (length ys) (length xs) e in let whole = ap length p.1 in let parts = length-append xs p.0 in omega arith)
      either false e = refl

  -- a pass stays that has seen all that the other has
  first-stays : (p q : PassView M E R W S) → IsSeenBy q p → first_met p q ≡ p
  first-stays p q seen = ap (λ (xs : List (Entry M E R W S)). record p { seen = xs }) (longer-seen q.seen p.seen seen)

-- ---- desks
module _ {K K2 K3 : KindPass → KindPass → Type 0} {C C2 C3 : CasePass → CasePass → Type 0} where
  beside-then : ((p q r : KindPass) → K p q → K2 q r → K3 p r) → ((p q r : CasePass) → C p q → C2 q r → C3 p r) → (u v w : DeskView) → Beside K C u v → Beside K2 C2 v w → Beside K3 C3 u w
  beside-then kinds cases u v w a b = record {
    kinds = zip-then K K2 K3 kinds u.kinds v.kinds w.kinds a.kinds b.kinds;
    cases = zip-then (AllZip C) (AllZip C2) (AllZip C3) (zip-then C C2 C3 cases) u.cases v.cases w.cases a.cases b.cases;
  }

pub beside-shape : {K : KindPass → KindPass → Type 0} {C : CasePass → CasePass → Type 0} (v w : DeskView) → Beside K C v w → HasShapeOf v w
beside-shape {K} {C} v w b = (AllZip-long K v.kinds w.kinds b.kinds, zip-rows C v.cases w.cases b.cases)

pub desk-heard_nothing : (v : DeskView) → DeskHeard v v
desk-heard_nothing v = record { number = refl; made = refl; taken = refl; passes = record { kinds = zip-self Heard heard-nothing v.kinds; cases = zip-self (AllZip Heard) (zip-self Heard heard-nothing) v.cases } }

pub desk-heard_more : (u v w : DeskView) → DeskHeard u v → DeskHeard v w → DeskHeard u w
desk-heard_more u v w h k = record { number = k.number ∙ h.number; made = k.made ∙ h.made; taken = k.taken ∙ h.taken; passes = beside-then heard-more heard-more u v w h.passes k.passes }

pub seen-then : (u v w : DeskView) → SeesMore u v → DeskHeard v w → SeesMore u w
seen-then u v w s h =
    let before : Beside IsSeenBy IsSeenBy u v = record { kinds = s.kinds; cases = s.cases } in
    let all : Beside IsSeenBy IsSeenBy u w = beside-then heard-seen heard-seen u v w before h.passes in
    record { kinds = all.kinds; cases = all.cases }

-- who has heard of more has seen more, and who has seen the same no more
pub heard-is-more : (v w : DeskView) → DeskHeard v w → SeesMore v w
heard-is-more v w h = record {
  kinds = zip-so Heard IsSeenBy (λ p q k. k.more) v.kinds w.kinds h.passes.kinds;
  cases = zip-so (AllZip Heard) (AllZip IsSeenBy) (zip-so Heard IsSeenBy (λ p q k. k.more)) v.cases w.cases h.passes.cases;
}

pub same-is-seen : (v w : DeskView) → DeskSame v w → SeesMore w v
same-is-seen v w s = record {
  kinds = zip-back SeenSame IsSeenBy same-seen v.kinds w.kinds s.kinds;
  cases = zip-back (AllZip SeenSame) (AllZip IsSeenBy) (zip-back SeenSame IsSeenBy same-seen) v.cases w.cases s.cases;
}

-- desks with the same passes
pub seen-stays : (u v w : DeskView) → HasPassesOf v w → SeesMore u v → SeesMore u w
seen-stays u v w (kinds, cases) s = record { kinds = rw (kinds) s.kinds; cases = rw (cases) s.cases }

pub same-stays : (v w u : DeskView) → HasPassesOf v w → DeskSame v u → DeskSame w u
same-stays v w u (kinds, cases) s = record { kinds = rw (kinds) s.kinds; cases = rw (cases) s.cases }

-- two desks that met
pub record Pair (v w x y : DeskView) : Type 0 where
  pub first : DeskHeard v x
  pub second : DeskHeard w y
  pub same : DeskSame x y
  pub stays : SeesMore w v → HasPassesOf v x

pub pair-of : (v w x y : DeskView) → x ≡ first_desk_met v w → y ≡ second_desk_met v w → SeesMore v x × SeesMore w x → Pair v w x y
pair-of v w x y one two more =
    let a = rw one at more.0 in
    let b = rw one at more.1 in
    rw (one, two) (record {
      first = record {
        number = refl;
        made = refl;
        taken = refl;
        passes = record {
          kinds = made-first first_met IsSeenBy Heard first-heard v.kinds w.kinds a.kinds;
          cases = made-first (zip_with first_met) (AllZip IsSeenBy) (AllZip Heard) (made-first first_met IsSeenBy Heard first-heard) v.cases w.cases a.cases;
        };
      };
      second = record {
        number = refl;
        made = refl;
        taken = refl;
        passes = record {
          kinds = made-second first_met second_met IsSeenBy Heard second-heard v.kinds w.kinds b.kinds;
          cases = made-second (zip_with first_met) (zip_with second_met) (AllZip IsSeenBy) (AllZip Heard) (made-second first_met second_met IsSeenBy Heard second-heard) v.cases w.cases b.cases;
        };
      };
      same = record {
        kinds = made-beside first_met second_met SeenSame (λ p q. refl) v.kinds w.kinds;
        cases = made-beside (zip_with first_met) (zip_with second_met) (AllZip SeenSame) (made-beside first_met second_met SeenSame (λ p q. refl)) v.cases w.cases;
      };
      stays = λ s. (made-same first_met IsSeenBy first-stays v.kinds w.kinds s.kinds, made-same (zip_with first_met) (AllZip IsSeenBy) (made-same first_met IsSeenBy first-stays) v.cases w.cases s.cases);
    })

-- ---- cells that were not called, of which all have seen the same
module _ {M E R W S : Type 0} where
  level-first : (xs ys : List (PassView M E R W S)) (i : ℕ) → seen_of (slice_get xs i) ≡ seen_of (slice_get ys i) → seen_of (slice_get (zip_with first_met xs ys) i) ≡ seen_of (slice_get xs i)
  level-first [] ys i is = refl
  level-first (x ∷ xs) [] zero is = absurd (cc (is))
  level-first (x ∷ xs) [] (suc i) is = sym is
  level-first (x ∷ xs) (y ∷ ys) zero is = let same : x.seen ≡ y.seen = cc (is) in ap Some (longer-same y.seen x.seen (sym same) ∙ sym same)
  level-first (x ∷ xs) (y ∷ ys) (suc i) is = level-first xs ys i is

  level-first_rows : (xs ys : List (List (PassView M E R W S))) (t p : ℕ) → seen_of (in_row p (slice_get xs t)) ≡ seen_of (in_row p (slice_get ys t)) → seen_of (in_row p (slice_get (zip_with (zip_with first_met) xs ys) t)) ≡ seen_of (in_row p (slice_get xs t))
  level-first_rows [] ys t p is = refl
  level-first_rows (x ∷ xs) [] zero p is = sym is
  level-first_rows (x ∷ xs) [] (suc t) p is = sym is
  level-first_rows (x ∷ xs) (y ∷ ys) zero p is = level-first x y p is
  level-first_rows (x ∷ xs) (y ∷ ys) (suc t) p is = level-first_rows xs ys t p is

  level-same : (xs ys : List (PassView M E R W S)) → AllZip SeenSame xs ys → (i : ℕ) → seen_of (slice_get xs i) ≡ seen_of (slice_get ys i)
  level-same [] [] z i = refl
  level-same [] (y ∷ ys) z i = absurd z
  level-same (x ∷ xs) [] z i = absurd z
  level-same (x ∷ xs) (y ∷ ys) (s, z) zero = ap Some s
  level-same (x ∷ xs) (y ∷ ys) (s, z) (suc i) = level-same xs ys z i

  level-same_rows : (xs ys : List (List (PassView M E R W S))) → AllZip (AllZip SeenSame) xs ys → (t p : ℕ) → seen_of (in_row p (slice_get xs t)) ≡ seen_of (in_row p (slice_get ys t))
  level-same_rows [] [] z t p = refl
  level-same_rows [] (y ∷ ys) z t p = absurd z
  level-same_rows (x ∷ xs) [] z t p = absurd z
  level-same_rows (x ∷ xs) (y ∷ ys) (s, z) zero p = level-same x y s p
  level-same_rows (x ∷ xs) (y ∷ ys) (s, z) (suc t) p = level-same_rows xs ys z t p

module _ (called : CallFlags) where
  pub level-back : (v w : DeskView) → AreLevelDesks called v w → AreLevelDesks called w v
  level-back v w k = record { kinds = λ t calm. sym (k.kinds t calm); cases = λ c calm. sym (k.cases c calm) }

  pub level-then : (u v w : DeskView) → AreLevelDesks called u v → AreLevelDesks called v w → AreLevelDesks called u w
  level-then u v w h k = record { kinds = λ t calm. h.kinds t calm ∙ k.kinds t calm; cases = λ c calm. h.cases c calm ∙ k.cases c calm }

  pub same-level : (v w : DeskView) → DeskSame v w → AreLevelDesks called v w
  same-level v w s = record { kinds = λ t calm. level-same v.kinds w.kinds s.kinds t; cases = λ c calm. level-same_rows v.cases w.cases s.cases c.type_no c.place }

  -- the first of two desks that met has seen no more of such a cell
  pub first-calm : (v w x : DeskView) → x ≡ first_desk_met v w → AreLevelDesks called v w → AreLevelDesks called v x
  first-calm v w x is k = record {
    kinds = λ t calm. sym (ap (λ (d : DeskView). seen_of (slice_get d.kinds t)) is ∙ level-first v.kinds w.kinds t (k.kinds t calm));
    cases = λ c calm. sym (ap (λ (d : DeskView). seen_of (at_case d.cases c)) is ∙ level-first_rows v.cases w.cases c.type_no c.place (k.cases c calm));
  }

  -- where each cell was called, any are level
  pub all-level : AllCalled called → (v w : DeskView) → AreLevelDesks called v w
  all-level all v w = record { kinds = λ t calm. absurd (all.0 t calm); cases = λ c calm. absurd (all.1 c calm) }
