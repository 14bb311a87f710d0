-- Edits of the tree leave what is seen of a node that they neither bring nor take away.
use Rattle.wsm_commute.proofs.Common.{[], ℕ, ◌==◌, ◌∙◌, ◌∷◌, ◌≡◌, act, AllRows, ap, beside, Bool, change, change_inside, change_lanes, effect, eqb, eqb-true, false, Gap, gate, head_code, is_act_of, is_behind, is_code, is_item, lane, Lanes}
use Rattle.wsm_commute.proofs.Common.{last_of, List, loop, no_lane, None, nothing, Op, Option, option_or, Part, part, Parts, put, put_if, put_inside, put_lanes, refl, SchemaModel, Some, still_wanted, sym, true, without, without_inside}
use Rattle.wsm_commute.proofs.{Common.{without_lanes, wrap_if}, Footprints.{Apart, flip}, Looks.{look, look_if, head_labels, part_look, parts_look, lanes_look, tree_look, seen, seen-tree, or-none}, TreeEffects.{Brought, activity}}
use Rattle.wsm_commute.proofs.TreeEffects.{conditional, piece, new_nodes, Edit, puts, drops, wraps, run, run_all, edits, effect-body, effect-start, effect-finish, Changes, Touches, Sited, edits-sited, other_node}
use Rattle.wsm_schema.specs.declared.cards.NodeKind.TheVariants.{Start, Finish}

-- ---- something is put at a gap
module _ (n : ℕ) (g : Gap) (x : Part) (unseen : part_look n x ≡ None) where
  put_if-seen : (test : Bool) (ps : Parts) → parts_look n (put_if test x ps) ≡ parts_look n ps
  put_if-seen true ps = rw unseen refl
  put_if-seen false ps = refl

  put-labels : (w : Option ℕ) (ls : Lanes) → head_labels (put_lanes g x w ls) ≡ head_labels ls
  put-labels w no_lane = refl
  put-labels w (lane code ps ls) = ap (λ xs. Some code ∷ xs) (put-labels (still_wanted w code) ls)

  mutual
    put-part : (p : Part) → part_look n (put_inside g x p) ≡ part_look n p
    put-part (act node) = refl
    put-part (gate k s j ls) = rw (put-labels (head_code g s) ls, put-lanes (head_code g s) ls) refl
    put-part (loop s e body) = rw (put_if-seen (is_behind g s) (put g x body), put-parts body) refl

    pub put-parts : (ps : Parts) → parts_look n (put g x ps) ≡ parts_look n ps
    put-parts nothing = refl
    put-parts (part p ps) = rw (put-part p, put_if-seen (is_behind g (last_of p)) (put g x ps), put-parts ps) refl

    put-lanes : (w : Option ℕ) (ls : Lanes) → lanes_look n (put_lanes g x w ls) ≡ lanes_look n ls
    put-lanes w no_lane = refl
    put-lanes w (lane code ps ls) = rw (put_if-seen (is_code w code) (put g x ps), put-parts ps, put-lanes (still_wanted w code) ls) refl

-- ---- an activity goes
module _ (n m : ℕ) (other : eqb m n ≡ false) where
  gone-unseen : (p : Part) → is_act_of m p ≡ true → part_look n p ≡ None
  gone-unseen (act node) is = let same : node ≡ m = eqb-true node m is in rw (same, other) refl
  gone-unseen (gate k s j ls) is = absurd (cc)
  gone-unseen (loop s e body) is = absurd (cc)

  without-labels : (ls : Lanes) → head_labels (without_lanes m ls) ≡ head_labels ls
  without-labels no_lane = refl
  without-labels (lane code ps ls) = ap (λ xs. Some code ∷ xs) (without-labels ls)

  one-part : (p : Part) (ps : Parts) (t : Bool) → is_act_of m p ≡ t → part_look n (without_inside m p) ≡ part_look n p → parts_look n (without m ps) ≡ parts_look n ps
      → parts_look n (without m (part p ps)) ≡ parts_look n (part p ps)
  one-part p ps true is inside rest = rw (is, gone-unseen p is, rest) refl
  one-part p ps false is inside rest = rw (is, inside, rest) refl

  mutual
    without-part : (p : Part) → part_look n (without_inside m p) ≡ part_look n p
    without-part (act node) = refl
    without-part (gate k s j ls) = rw (without-labels ls, without-lanes ls) refl
    without-part (loop s e body) = rw (without-parts body) refl

    pub without-parts : (ps : Parts) → parts_look n (without m ps) ≡ parts_look n ps
    without-parts nothing = refl
    without-parts (part p ps) = one-part p ps (is_act_of m p) refl (without-part p) (without-parts ps)

    without-lanes : (ls : Lanes) → lanes_look n (without_lanes m ls) ≡ lanes_look n ls
    without-lanes no_lane = refl
    without-lanes (lane code ps ls) = rw (without-parts ps, without-lanes ls) refl

-- ---- an item is wrapped
module _ (n node split join one last : ℕ) (other_act : eqb node n ≡ false) (other_split : eqb split n ≡ false) (other_join : eqb join n ≡ false) where
  abbrev f : Part → Part
  f = beside node split join

  wrapped-seen : (test : Bool) (p : Part) → part_look n (wrap_if test f p) ≡ part_look n p
  wrapped-seen true p = rw (other_act, other_split, other_join) (or-none _ ∙ or-none _ ∙ or-none _)
  wrapped-seen false p = refl

  change-labels : (ls : Lanes) → head_labels (change_lanes (one, last) f ls) ≡ head_labels ls
  change-labels no_lane = refl
  change-labels (lane code ps ls) = ap (λ xs. Some code ∷ xs) (change-labels ls)

  mutual
    change-part : (p : Part) → part_look n (change_inside (one, last) f p) ≡ part_look n p
    change-part (act node) = refl
    change-part (gate k s j ls) = rw (change-labels ls, change-lanes ls) refl
    change-part (loop s e body) = rw (change-parts body) refl

    pub change-parts : (ps : Parts) → parts_look n (change (one, last) f ps) ≡ parts_look n ps
    change-parts nothing = refl
    change-parts (part p ps) = rw (wrapped-seen (is_item one last p) (change_inside (one, last) f p), change-part p, change-parts ps) refl

    change-lanes : (ls : Lanes) → lanes_look n (change_lanes (one, last) f ls) ≡ lanes_look n ls
    change-lanes no_lane = refl
    change-lanes (lane code ps ls) = rw (change-parts ps, change-lanes ls) refl

-- ---- the node that one operation touches, behind another
module _ (a b : Op) (apart : Apart a b) (n : ℕ) (touched : Touches a n) where
  apart-from : (m : ℕ) → Changes b m → eqb m n ≡ false
  apart-from m h = other_node b a (flip a b apart) m n h touched

  brought-unseen : (x : Brought) → AllRows (Changes b) (new_nodes x) → part_look n (piece x) ≡ None
  brought-unseen (activity node) h = rw (apart-from node h.0) refl
  brought-unseen (conditional node split join) h = rw (apart-from node h.0, apart-from split h.1.0, apart-from join h.1.1.0) refl

  edit-seen : (e : Edit) (start : ℕ) (ps : Parts) → Sited b e → parts_look n (run e start ps) ≡ parts_look n ps
  edit-seen (puts g x) start ps h = let unseen = brought-unseen x h.2 in put_if-seen n g (piece x) unseen (is_behind g start) (put g (piece x) ps) ∙ put-parts n g (piece x) unseen ps
  edit-seen (drops m) start ps h = without-parts n m (apart-from m h) ps
  edit-seen (wraps node split join one last) start ps h = change-parts n node split join one last (apart-from node h.0) (apart-from split h.1) (apart-from join h.2) ps

  all-seen : (es : List Edit) (start : ℕ) (ps : Parts) → AllRows (Sited b) es → parts_look n (run_all es start ps) ≡ parts_look n ps
  all-seen [] start ps h = refl
  all-seen (e ∷ es) start ps h = all-seen es start (run e start ps) h.1 ∙ edit-seen e start ps h.0

  pub seen-stays : (s : SchemaModel) → seen n (effect s b) ≡ seen n s
  seen-stays s =
      seen-tree n (effect s b)
      ∙ ap (λ m. tree_look n m (effect s b).body (effect s b).finish) (effect-start s b)
      ∙ ap (λ m. tree_look n s.start (effect s b).body m) (effect-finish s b)
      ∙ ap (λ ps. option_or (look_if (s.start == n) (look s.start Start None (None ∷ []))) (option_or ps (look_if (s.finish == n) (look s.finish Finish None []))))
      (ap (parts_look n) (effect-body s b) ∙ all-seen (edits b) s.start s.body (edits-sited b))
      ∙ sym (seen-tree n s)
