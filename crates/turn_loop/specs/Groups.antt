-- What the images of a disk hold of a talk.
use Rattle.std.specs.Prelude.{◌⊎◌, ℕ, List}
use Rattle.store_disk.specs.Image.{frames, payloads_in, HasList}
use Rattle.turn_loop.specs.{Talk.{Begins, Bytes, Rules, worked}, Turns.joined}

-- the payloads of the records of an image
abbrev pub held : List ℕ → List Bytes
held image = payloads_in (frames image)

-- an image holds what is held before some items, or behind all of them
abbrev pub HoldsNoneOrAll : Rules → List Bytes → List Bytes → List ℕ → Type 0
HoldsNoneOrAll rules ps items image = HasList ps image ⊎ HasList (worked rules ps items) image

-- an image holds what is held behind whole turns: some that begin with the least, and with which the most begin
pub record HoldsTurns (rules : Rules) (ps : List Bytes) (least most : List (List Bytes)) (image : List ℕ) : Type 0 where
  pub turns : List (List Bytes)
  pub no_less : Begins least turns
  pub no_more : Begins turns most
  pub list : HasList (worked rules ps (joined turns)) image

-- the same, of items
pub record HoldsItems (rules : Rules) (ps : List Bytes) (least most : List Bytes) (image : List ℕ) : Type 0 where
  pub items : List Bytes
  pub no_less : Begins least items
  pub no_more : Begins items most
  pub list : HasList (worked rules ps items) image
