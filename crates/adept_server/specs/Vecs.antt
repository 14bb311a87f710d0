-- Rows that are kept in Vecs, and what is done with all of them.
use Rattle.std.specs.{Prelude.{◌≡◌, List, map, All, Vec}, List.AllZip}
use Rattle.adept_server.specs.Desks.{AreRowsOf}
use Rattle.turn_batch.specs.Batch.{AreOf}
use Rattle.turn_cell.specs.{declared.cell.Cell.Cell, declared.pass.Pass.Pass, Passes.{PassView, view_of, IsLegalView, joined, split_off}}
use Rattle.turn_rows.specs.Rows.{IsSeenBy, first_met, second_met, split_from, views, zip_with}

-- the lists in a list of Vecs
abbrev pub lists_of : {X A : Type 0} → List (Vec X A) → List (List X)
lists_of rows = map (λ row. row.items) rows

-- what is seen of rows of passes
abbrev pub row_views : {M E R W S A : Type 0} {g : _} → List (Vec (Pass M E R W S g) A) → List (List (PassView M E R W S))
row_views rows = map (λ row. map view_of row.items) rows

-- the passes are of the cells in rows
abbrev pub AreVecsOf : {M E R W S A : Type 0} {g : _} → List (Vec (Cell M E R W S) A) → List (Vec (Pass M E R W S g) A) → Type 0
AreVecsOf cells passes = AreRowsOf (lists_of cells) (lists_of passes)

module _ {M E R W S : Type 0} (after : S → E → S) (reply : S → E → R) {g : _} where
  -- A row of passes, and what they are once the two passes of each cell have met.
  pub record RowMet (cells : List (Cell M E R W S)) (os us ns ms : List (Pass M E R W S g)) : Type 0 where
    pub of_one : AreOf cells ns
    pub of_two : AreOf cells ms
    pub one : views ns ≡ zip_with first_met (views os) (views us)
    pub two : views ms ≡ zip_with second_met (views os) (views us)
    pub more_of_one : AllZip IsSeenBy (views os) (views ns) × AllZip IsSeenBy (views os) (views ms)
    pub more_of_two : AllZip IsSeenBy (views us) (views ns) × AllZip IsSeenBy (views us) (views ms)
    pub legal : All (IsLegalView after reply) (views ns) × All (IsLegalView after reply) (views ms)

  -- a row of passes that have taken in others
  pub record RowJoined (cells : List (Cell M E R W S)) (os ds ns : List (Pass M E R W S g)) : Type 0 where
    pub of : AreOf cells ns
    pub are : views ns ≡ zip_with joined (views os) (views ds)
    pub more : AllZip IsSeenBy (views os) (views ns) × AllZip IsSeenBy (views ds) (views ns)
    pub legal : All (IsLegalView after reply) (views ns)

  -- a row of passes that were split, and the new ones
  pub record RowSplit (cells : List (Cell M E R W S)) (os ns us : List (Pass M E R W S g)) : Type 0 where
    pub of : AreOf cells ns
    pub of_new : AreOf cells us
    pub firsts : views ns ≡ map split_from (views os)
    pub new : views us ≡ map split_off (views os)
    pub legal : All (IsLegalView after reply) (views us)

module _ {M E R W S A : Type 0} (after : S → E → S) (reply : S → E → R) {g : _} where
  -- Rows of passes, and what they are once the two passes of each cell have met.
  pub record AllMet (cells : List (Vec (Cell M E R W S) A)) (os us ns ms : List (Vec (Pass M E R W S g) A)) : Type 0 where
    pub of_one : AreVecsOf cells ns
    pub of_two : AreVecsOf cells ms
    pub one : row_views ns ≡ zip_with (zip_with first_met) (row_views os) (row_views us)
    pub two : row_views ms ≡ zip_with (zip_with second_met) (row_views os) (row_views us)
    pub more_of_one : AllZip (AllZip IsSeenBy) (row_views os) (row_views ns) × AllZip (AllZip IsSeenBy) (row_views os) (row_views ms)
    pub more_of_two : AllZip (AllZip IsSeenBy) (row_views us) (row_views ns) × AllZip (AllZip IsSeenBy) (row_views us) (row_views ms)
    pub legal : All (All (IsLegalView after reply)) (row_views ns) × All (All (IsLegalView after reply)) (row_views ms)

  -- rows of passes that have taken in others
  pub record AllJoined (cells : List (Vec (Cell M E R W S) A)) (os ds ns : List (Vec (Pass M E R W S g) A)) : Type 0 where
    pub of : AreVecsOf cells ns
    pub are : row_views ns ≡ zip_with (zip_with joined) (row_views os) (row_views ds)
    pub more : AllZip (AllZip IsSeenBy) (row_views os) (row_views ns) × AllZip (AllZip IsSeenBy) (row_views ds) (row_views ns)
    pub legal : All (All (IsLegalView after reply)) (row_views ns)

  -- rows of passes that were split, and the new ones
  pub record AllSplit (cells : List (Vec (Cell M E R W S) A)) (os ns us : List (Vec (Pass M E R W S g) A)) : Type 0 where
    pub of : AreVecsOf cells ns
    pub of_new : AreVecsOf cells us
    pub firsts : row_views ns ≡ map (map split_from) (row_views os)
    pub new : row_views us ≡ map (map split_off) (row_views os)
    pub legal : All (All (IsLegalView after reply)) (row_views us)
