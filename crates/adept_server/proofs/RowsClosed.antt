-- Rows that have room for others, and rows of closed cells.
use Rattle.adept_server.proofs.Common.{[], ℕ, ◌++◌, ◌+◌, ◌<◌, ◌∷◌, ◌≡◌, ◌≤◌, AllZip, ap, AreVecsOf, arith, Cell, Closed, get_or, HaveRoomFor, IsClosedAs, length, List, lists_of, map, map_push, Pass, refl, row_views, suc, take, take_all}
use Rattle.adept_server.proofs.Common.{take_item, Vec, vec_capacity, vec_len, views}

module _ {X Y A : Type 0} where
  -- the first row has room, and the others have
  pub room_in_first : {rows : List (Vec X A)} {others : List (Vec Y A)} (row : Vec X A) (rows_left : List (Vec X A)) (other : Vec Y A) (others_left : List (Vec Y A)) → rows ≡ row ∷ rows_left → others ≡ other ∷ others_left → HaveRoomFor rows others
      → (vec_capacity other ≡ vec_len row) × (vec_len other ≡ 0) × HaveRoomFor rows_left others_left
  room_in_first row rows_left other others_left rows_are others_are room =
      let both = rw (rows_are, others_are) at room in
      let capacities = both.0 in
      let lens = both.1 in
      (cc, cc, (cc, cc))

  -- where no row is left of the one, none is left of the other
  pub no_rows : (rows : List (Vec X A)) (others : List (Vec Y A)) → HaveRoomFor rows others → length others ≡ length rows
  no_rows [] [] room = refl
  no_rows [] (o ∷ others) room = let e = room.0 in absurd (cc)
  no_rows (r ∷ rows) [] room = let e = room.0 in absurd (cc)
  no_rows (r ∷ rows) (o ∷ others) room =
      let e = room.0 in
      let f = room.1 in
      ap suc (no_rows rows others (cc, cc))

module _ {M E R W S A : Type 0} (after : S → E → S) (reply : S → E → R) (state : M → S) {g : _} where
  abbrev pub AllClosed : List (Vec (Pass M E R W S g) A) → List (Vec (Closed M E R W S) A) → Type 0
  AllClosed ps cs = AllZip (AllZip (IsClosedAs after reply state)) (row_views ps) (lists_of cs)

  pub none_closed : (cs : List (Vec (Cell M E R W S) A)) (ps : List (Vec (Pass M E R W S g) A)) (rs : List (Vec (Closed M E R W S) A)) → length rs ≡ 0 → AreVecsOf cs ps → HaveRoomFor cs rs → AllClosed ps rs
  none_closed [] [] [] none of room = tt
  none_closed [] (p ∷ ps) [] none of room = absurd of
  none_closed (c ∷ cs) ps [] none of room = let e = room.0 in absurd (cc)
  none_closed cs ps (r ∷ rs) none of room = absurd (omega arith)

  pub rows_closed : {ps : List (Vec (Pass M E R W S g) A)} {rs : List (Vec (Closed M E R W S) A)} (p : Vec (Pass M E R W S g) A) (r : Vec (Closed M E R W S) A) (ps_left : List (Vec (Pass M E R W S g) A)) (rs_left : List (Vec (Closed M E R W S) A))
      → ps ≡ p ∷ ps_left → rs ≡ r ∷ rs_left → AllZip (IsClosedAs after reply state) (views p.items) r.items → AllClosed ps_left rs_left → AllClosed ps rs
  rows_closed p r ps_left rs_left are rs_are row rest = rw (are, rs_are) (row, rest)

-- one row more has room
pub one_more_room : {X Y A : Type 0} (rows : List (Vec X A)) (i : ℕ) (row : Vec X A) (others : List (Vec Y A)) (other : Vec Y A) → i < length rows → row ≡ get_or rows i row → HaveRoomFor (take i rows) others → vec_capacity other ≡ vec_len row → vec_len other ≡ 0
    → HaveRoomFor (take (i + 1) rows) (others ++ other ∷ [])
one_more_room {X} {Y} {A} rows i row others other lt at room capacity empty =
    let capacities = room.0 in
    let lens = room.1 in
    let taken = take_item rows i row lt at in
    rw (taken, map_push (vec_capacity {X = Y} {Z = A}) others other, map_push (vec_len {X = Y} {Z = A}) others other, map_push (vec_len {X = X} {Z = A}) (take i rows) row, map_push {Y = ℕ} (λ (r : Vec X A). 0) (take i rows) row) (cc, cc)

pub room_for_all : {X Y A : Type 0} (rows : List (Vec X A)) (i : ℕ) (others : List (Vec Y A)) → length rows ≤ i → HaveRoomFor (take i rows) others → HaveRoomFor rows others
room_for_all rows i others le room = rw (take_all i rows le) at room

pub no_room_needed : {Y A : Type 0} (others : List (Vec Y A)) → others ≡ [] → (map vec_capacity others ≡ []) × (map vec_len others ≡ [])
no_room_needed others none = (ap (map vec_capacity) none, ap (map vec_len) none)

pub room_of : {X Y A : Type 0} {rows us : List (Vec X A)} {others vs : List (Vec Y A)} → HaveRoomFor rows others → us ≡ rows → vs ≡ others → HaveRoomFor us vs
room_of room rows_are others_are = rw (rows_are, others_are) room
