-- What each operation does to the tree, as edits, and that the edits of operations which are apart commute.
use Rattle.wsm_commute.proofs.Common.{[], ℕ, ◌&&◌, ◌==◌, ◌∙◌, ◌∷◌, ◌≡◌, act, AllRows, ap, beside, Bool, cases_Bool, change, change_inside, changes, choice, effect, eqb, eqb-true, false, Gap, gap_name, gap_owner, head_code, inl, inr}
use Rattle.wsm_commute.proofs.{Common.{is_act_of, is_behind, is_code, is_item, last_of, List, Name, None, Op, Part, Parts, put, put_if, put_inside, refl, SchemaModel, subst, sym, true, without, without_inside}, Footprints.{In, foot, Apart}}
use Rattle.wsm_commute.proofs.{Footprints.{changed, flip}, Trees.{both_if, put_put-parts, without-parts, without-put_if, put_without-parts, change-put_if, put_change-parts, without_change-parts, change_change-parts, item-last}}
use Rattle.wsm_ops.specs.declared.operations.Gap.TheVariants as gap
use Rattle.wsm_ops.specs.declared.operations.Op.TheVariants as op
use Rattle.wsm_foot.specs.declared.names.Name.TheVariants as name

-- what is put at a gap
pub data Brought : Type 0 where
  activity : (node : ℕ) → Brought
  conditional : (node split join : ℕ) → Brought

abbrev pub piece : Brought → Part
piece (activity node) = act node
piece (conditional node split join) = choice node split join

abbrev pub new_nodes : Brought → List ℕ
new_nodes (activity node) = node ∷ []
new_nodes (conditional node split join) = node ∷ split ∷ join ∷ []

-- something is put at a gap, an activity goes, or an item is wrapped
pub data Edit : Type 0 where
  puts : (g : Gap) (x : Brought) → Edit
  drops : (node : ℕ) → Edit
  wraps : (node split join one last : ℕ) → Edit

abbrev pub run : Edit → ℕ → Parts → Parts
run (puts g x) start ps = put_if (is_behind g start) (piece x) (put g (piece x) ps)
run (drops node) start ps = without node ps
run (wraps node split join one last) start ps = change (one, last) (beside node split join) ps

abbrev pub run_all : List Edit → ℕ → Parts → Parts
run_all [] start ps = ps
run_all (e ∷ es) start ps = run_all es start (run e start ps)

abbrev pub edits : Op → List Edit
edits (op.InsertSerial node role g) = puts g (activity node) ∷ []
edits (op.InsertParallel node role split join one last) = wraps node split join one last ∷ []
edits (op.InsertConditional node role split join g) = puts g (conditional node split join) ∷ []
edits (op.DeleteActivity node) = drops node ∷ []
edits (op.MoveActivity node g) = drops node ∷ puts g (activity node) ∷ []
edits _ = []

pub effect-body : (s : SchemaModel) (o : Op) → (effect s o).body ≡ run_all (edits o) s.start s.body
effect-body s (op.InsertSerial node role g) = refl
effect-body s (op.InsertParallel node role split join one last) = refl
effect-body s (op.InsertConditional node role split join g) = refl
effect-body s (op.DeleteActivity node) = refl
effect-body s (op.MoveActivity node g) = refl
effect-body s _ = refl

pub effect-start : (s : SchemaModel) (o : Op) → (effect s o).start ≡ s.start
effect-start s (op.InsertSerial node role g) = refl
effect-start s _ = refl

pub effect-finish : (s : SchemaModel) (o : Op) → (effect s o).finish ≡ s.finish
effect-finish s (op.InsertSerial node role g) = refl
effect-finish s _ = refl

-- ---- where an edit works is told by the footprint
abbrev pub Changes : Op → ℕ → Type 0
Changes o n = In (name.Node n) (changes o)

abbrev pub Touches : Op → ℕ → Type 0
Touches o n = In (name.Node n) (foot o)

abbrev pub Sited : Op → Edit → Type 0
Sited o (puts g x) = In (gap_name g) (changes o) × In (gap_owner g) (foot o) × AllRows (Changes o) (new_nodes x)
Sited o (drops node) = Changes o node
Sited o (wraps node split join one last) = Changes o node × Changes o split × Changes o join × In (name.GapAfter last) (changes o) × Touches o one × Touches o last

pub edits-sited : (o : Op) → AllRows (Sited o) (edits o)
edits-sited (op.InsertSerial node role g) = ((inr (inr (inl refl)), inr (inr (inr (inl refl))), (inl refl, tt)), tt)
edits-sited (op.InsertParallel node role split join one last) =
    ((inl refl, inr (inl refl), inr (inr (inl refl)), inr (inr (inr (inr (inl refl)))), inr (inr (inr (inr (inr (inl refl))))), inr (inr (inr (inr (inr (inr (inl refl))))))), tt)
edits-sited (op.InsertConditional node role split join g) =
    ((inr (inr (inr (inr (inr (inl refl))))), inr (inr (inr (inr (inr (inr (inl refl)))))), (inl refl, (inr (inl refl), (inr (inr (inl refl)), tt)))), tt)
edits-sited (op.DeleteActivity node) = (inl refl, tt)
edits-sited (op.MoveActivity node g) = (inl refl, ((inr (inl refl), inr (inr (inl refl)), (inl refl, tt)), tt))
edits-sited _ = tt

-- ---- two operations that are apart
module _ (a b : Op) (apart : Apart a b) where
  -- a node that one changes is none that the other touches
  pub other_node : (m n : ℕ) → Changes a m → Touches b n → eqb m n ≡ false
  other_node m n x y = go (eqb m n) refl
    where
      go : (t : Bool) → eqb m n ≡ t → eqb m n ≡ false
      go true e = absurd (apart.left (name.Node n) (subst (Changes a) (eqb-true m n e) x) y)
      go false e = e

  pub other_touched : (m n : ℕ) → Touches a m → Changes b n → eqb m n ≡ false
  other_touched m n x y = go (eqb m n) refl
    where
      go : (t : Bool) → eqb m n ≡ t → eqb m n ≡ false
      go true e = absurd (apart.right (name.Node n) (subst (Touches a) (eqb-true m n e) x) y)
      go false e = e

  -- a gap of one is not at a node that the other brings or takes away
  not_behind : (g : Gap) (n : ℕ) → In (gap_owner g) (foot b) → Changes a n → is_behind g n ≡ false
  not_behind (gap.After m) n x y = other_node n m y x
  not_behind (gap.Head split code) n x y = refl

  no_head : (g : Gap) (s : ℕ) → In (gap_owner g) (foot b) → Changes a s → head_code g s ≡ None
  no_head (gap.After m) s x y = refl
  no_head (gap.Head split code) s x y = rw (other_node s split y x) refl

  -- what one brings
  module _ (x : Brought) (new : AllRows (Changes a) (new_nodes x)) where
    brought-last : (g : Gap) → In (gap_owner g) (foot b) → is_behind g (last_of (piece x)) ≡ false
    brought-last g owner = go x new
      where
        go : (x : Brought) → AllRows (Changes a) (new_nodes x) → is_behind g (last_of (piece x)) ≡ false
        go (activity node) h = not_behind g node owner h.0
        go (conditional node split join) h = not_behind g join owner h.1.1.0

    brought-put : (g : Gap) (y : Part) → In (gap_owner g) (foot b) → put_inside g y (piece x) ≡ piece x
    brought-put g y owner = go x new
      where
        go : (x : Brought) → AllRows (Changes a) (new_nodes x) → put_inside g y (piece x) ≡ piece x
        go (activity node) h = refl
        go (conditional node split join) h = rw (no_head g split owner h.1.0, not_behind g node owner h.0) refl

    brought-act : (m : ℕ) → Touches b m → is_act_of m (piece x) ≡ false
    brought-act m touched = go x new
      where
        go : (x : Brought) → AllRows (Changes a) (new_nodes x) → is_act_of m (piece x) ≡ false
        go (activity node) h = other_node node m h.0 touched
        go (conditional node split join) h = refl

    brought-without : (m : ℕ) → Touches b m → without_inside m (piece x) ≡ piece x
    brought-without m touched = go x new
      where
        go : (x : Brought) → AllRows (Changes a) (new_nodes x) → without_inside m (piece x) ≡ piece x
        go (activity node) h = refl
        go (conditional node split join) h = rw (other_node node m h.0 touched) refl

    brought-item : (one last : ℕ) → Touches b one → is_item one last (piece x) ≡ false
    brought-item one last touched = go x new
      where
        go : (x : Brought) → AllRows (Changes a) (new_nodes x) → is_item one last (piece x) ≡ false
        go (activity node) h = rw (other_node node one h.0 touched) refl
        go (conditional node split join) h = rw (other_node split one h.1.0 touched) refl

    brought-change : (one last : ℕ) (f : Part → Part) → Touches b one → change_inside (one, last) f (piece x) ≡ piece x
    brought-change one last f touched = go x new
      where
        go : (x : Brought) → AllRows (Changes a) (new_nodes x) → change_inside (one, last) f (piece x) ≡ piece x
        go (activity node) h = refl
        go (conditional node split join) h = rw (other_node node one h.0 touched) refl

-- the name of a gap behind a node, and at a head
behind-name : (g : Gap) (n : ℕ) → is_behind g n ≡ true → gap_name g ≡ name.GapAfter n
behind-name (gap.After m) n is = ap name.GapAfter (sym (eqb-true n m is))
behind-name (gap.Head split code) n is = absurd (cc)

head-name : (g : Gap) (s code : ℕ) → is_code (head_code g s) code ≡ true → gap_name g ≡ name.GapHead s code
head-name (gap.After m) s code is = absurd (cc)
head-name (gap.Head split c) s code is =
    elim (cases_Bool (eqb s split)) [
      | inl here ↦ let same : eqb c code ≡ true = rw here at is in ap (λ n. name.GapHead n c) (sym (eqb-true s split here)) ∙ ap (name.GapHead s) (eqb-true c code same)
      | inr other ↦ absurd (let bad : false ≡ true = rw other at is in cc)
    ]

module _ (a b : Op) (apart : Apart a b) (start : ℕ) (ps : Parts) where
  abbrev Commutes : Edit → Edit → Type 0
  Commutes e f = run e start (run f start ps) ≡ run f start (run e start ps)

  -- one name that both change
  not_both : (m n k : Name) → In m (changes a) → In n (changes b) → m ≡ k → n ≡ k → ⊥
  not_both m n k x y p q = apart.left k (subst (λ i. In i (changes a)) p x) (changed b k (subst (λ i. In i (changes b)) q y))

  puts-puts : (g h : Gap) (x y : Brought) → Sited a (puts g x) → Sited b (puts h y) → Commutes (puts g x) (puts h y)
  puts-puts g h x y i j =
      let never : (n : ℕ) → is_behind g n ≡ true → is_behind h n ≡ true → ⊥ = λ n p q. not_both (gap_name g) (gap_name h) (name.GapAfter n) i.0 j.0 (behind-name g n p) (behind-name h n q) in
      let never_head : (s code : ℕ) → is_code (head_code g s) code ≡ true → is_code (head_code h s) code ≡ true → ⊥ =
      λ s code p q. not_both (gap_name g) (gap_name h) (name.GapHead s code) i.0 j.0 (head-name g s code p) (head-name h s code q) in
      let x_kept = brought-put a b apart x i.2 h (piece y) j.1 in
      let x_apart = brought-last a b apart x i.2 h j.1 in
      let y_kept = brought-put b a (flip a b apart) y j.2 g (piece x) i.1 in
      let y_apart = brought-last b a (flip a b apart) y j.2 g i.1 in
      both_if g h (piece x) (piece y) never never_head x_kept x_apart y_kept y_apart (is_behind g start) (is_behind h start) ps (never start)
      (put_put-parts g h (piece x) (piece y) never never_head x_kept x_apart y_kept y_apart ps)

  drops-puts : (m : ℕ) (g : Gap) (x : Brought) → Sited a (drops m) → Sited b (puts g x) → Commutes (drops m) (puts g x)
  drops-puts m g x i j =
      let back = flip a b apart in
      let behind = not_behind a b apart g m j.1 i in
      let other = brought-act b a back x j.2 m (changed a (name.Node m) i) in
      let stays = brought-without b a back x j.2 m (changed a (name.Node m) i) in
      without-put_if m g (piece x) behind other stays (is_behind g start) (put g (piece x) ps)
      ∙ ap (put_if (is_behind g start) (piece x)) (put_without-parts m g (piece x) behind other stays ps)

  wraps-puts : (node split join one last : ℕ) (g : Gap) (x : Brought) → Sited a (wraps node split join one last) → Sited b (puts g x) → Commutes (wraps node split join one last) (puts g x)
  wraps-puts node split join one last g x i j =
      let back = flip a b apart in
      let behind = go (is_behind g last) refl in
      let no_item = brought-item b a back x j.2 one last i.4 in
      let stays = brought-change b a back x j.2 one last (beside node split join) i.4 in
      let no_node = not_behind a b apart g node j.1 i.0 in
      let no_join = not_behind a b apart g join j.1 i.2 in
      let no_split = no_head a b apart g split j.1 i.1 in
      sym (ap (put_if (is_behind g start) (piece x)) (put_change-parts node split join one last g (piece x) behind no_node no_join no_split no_item stays ps)
      ∙ sym (change-put_if node split join one last g (piece x) behind no_node no_join no_split no_item stays (is_behind g start) (put g (piece x) ps)))
    where
      go : (t : Bool) → is_behind g last ≡ t → is_behind g last ≡ false
      go true e = absurd (not_both (name.GapAfter last) (gap_name g) (name.GapAfter last) i.3 j.0 refl (behind-name g last e))
      go false e = e

  drops-wraps : (m node split join one last : ℕ) → Sited a (drops m) → Sited b (wraps node split join one last) → Commutes (drops m) (wraps node split join one last)
  drops-wraps m node split join one last i j =
      without_change-parts node split join one last m (other_node a b apart m one i j.4) (other_node b a (flip a b apart) node m j.0 (changed a (name.Node m) i)) ps

  wraps-wraps : (n1 s1 j1 a1 b1 n2 s2 j2 a2 b2 : ℕ) → Sited a (wraps n1 s1 j1 a1 b1) → Sited b (wraps n2 s2 j2 a2 b2) → Commutes (wraps n1 s1 j1 a1 b1) (wraps n2 s2 j2 a2 b2)
  wraps-wraps n1 s1 j1 a1 b1 n2 s2 j2 a2 b2 i j =
      let back = flip a b apart in
      let never : (p : Part) → is_item a1 b1 p ≡ true → is_item a2 b2 p ≡ true → ⊥ =
      λ p x y. not_both (name.GapAfter b1) (name.GapAfter b2) (name.GapAfter b2) i.3 j.3 (ap name.GapAfter (sym (item-last a1 b1 p x) ∙ item-last a2 b2 p y)) refl in
      change_change-parts n1 s1 j1 a1 b1 n2 s2 j2 a2 b2 never
      (off s1 a2 j1 b2 (other_node a b apart s1 a2 i.1 j.4)) (off n1 a2 n1 b2 (other_node a b apart n1 a2 i.0 j.4))
      (off s2 a1 j2 b1 (other_node b a back s2 a1 j.1 i.4)) (off n2 a1 n2 b1 (other_node b a back n2 a1 j.0 i.4)) ps
    where
      off : (m n k l : ℕ) → eqb m n ≡ false → (m == n && k == l) ≡ false
      off m n k l h = rw h refl

-- all pairs, those that are left by turning them round
pub edits-commute : (a b : Op) → Apart a b → (start : ℕ) (ps : Parts) (e f : Edit) → Sited a e → Sited b f → run e start (run f start ps) ≡ run f start (run e start ps)
edits-commute a b apart start ps (puts g x) (puts h y) i j = puts-puts a b apart start ps g h x y i j
edits-commute a b apart start ps (puts g x) (drops m) i j = sym (drops-puts b a (flip a b apart) start ps m g x j i)
edits-commute a b apart start ps (puts g x) (wraps n s j k l) h i = sym (wraps-puts b a (flip a b apart) start ps n s j k l g x i h)
edits-commute a b apart start ps (drops m) (puts g x) i j = drops-puts a b apart start ps m g x i j
edits-commute a b apart start ps (drops m) (drops n) i j = without-parts m n ps
edits-commute a b apart start ps (drops m) (wraps n s j k l) h i = drops-wraps a b apart start ps m n s j k l h i
edits-commute a b apart start ps (wraps n s j k l) (puts g x) h i = wraps-puts a b apart start ps n s j k l g x h i
edits-commute a b apart start ps (wraps n s j k l) (drops m) h i = sym (drops-wraps b a (flip a b apart) start ps m n s j k l i h)
edits-commute a b apart start ps (wraps n1 s1 j1 a1 b1) (wraps n2 s2 j2 a2 b2) h i = wraps-wraps a b apart start ps n1 s1 j1 a1 b1 n2 s2 j2 a2 b2 h i

-- ---- and the trees behind both operations
module _ (a b : Op) (apart : Apart a b) (start : ℕ) where
  one-all : (e : Edit) (fs : List Edit) (ps : Parts) → Sited a e → AllRows (Sited b) fs → run e start (run_all fs start ps) ≡ run_all fs start (run e start ps)
  one-all e [] ps i js = refl
  one-all e (f ∷ fs) ps i js = one-all e fs (run f start ps) i js.1 ∙ ap (run_all fs start) (edits-commute a b apart start ps e f i js.0)

  all-all : (es fs : List Edit) (ps : Parts) → AllRows (Sited a) es → AllRows (Sited b) fs → run_all es start (run_all fs start ps) ≡ run_all fs start (run_all es start ps)
  all-all [] fs ps is js = refl
  all-all (e ∷ es) fs ps is js = ap (run_all es start) (one-all e fs ps is.0 js) ∙ all-all es fs (run e start ps) is.1 js

pub bodies-commute : (s : SchemaModel) (a b : Op) → Apart a b → (effect (effect s a) b).body ≡ (effect (effect s b) a).body
bodies-commute s a b apart =
    behind s a b ∙ sym (all-all a b apart s.start (edits a) (edits b) s.body (edits-sited a) (edits-sited b)) ∙ sym (behind s b a)
  where
    behind : (s : SchemaModel) (a b : Op) → (effect (effect s a) b).body ≡ run_all (edits b) s.start (run_all (edits a) s.start s.body)
    behind s a b =
        effect-body (effect s a) b
        ∙ ap (λ n. run_all (edits b) n (effect s a).body) (effect-start s a)
        ∙ ap (run_all (edits b) s.start) (effect-body s a)
