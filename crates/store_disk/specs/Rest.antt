-- A disk between two steps, and what a step leaves.
use Rattle.std.specs.{Prelude.{◌≡◌, ◌≢◌, ◌⊎◌, ℕ, ◌+◌, ◌<◌, ◌^◌, List, [], ◌∷◌, ◌++◌, length}, List.AllByRecursion}
use Rattle.store_disk.specs.{Disk.{Only, spliced}, Image.{all_framed, staged, HasList}}

-- payloads, and behind them at a place a gate that is not open and whatever stands behind it
pub record EndsAt (content : List ℕ) (ps : List (List ℕ)) (place : ℕ) : Type 0 where
  pub gate : ℕ
  pub behind : List ℕ
  pub shut : gate ≢ 1
  pub stands : place ≡ length (all_framed ps)
  pub short : AllByRecursion (λ p. length p < 2 ^ 32) ps
  pub bytes : content ≡ all_framed ps ++ gate ∷ behind

-- nothing is pending, the disk holds these payloads, and the next record goes to this place
pub record IsAtRest {D : Type 0} (content : D → List ℕ) (may_leave : D → List ℕ → Type 0) (disk : D) (ps : List (List ℕ)) (place : ℕ) : Type 0 where
  pub ends : EndsAt (content disk) ps place
  pub durable : Only (content disk) (may_leave disk)

-- payloads stand behind the gate at a place as they are written, and nothing is pending
pub record IsStaged {D : Type 0} (content : D → List ℕ) (may_leave : D → List ℕ → Type 0) (disk : D) (ps qs : List (List ℕ)) (place : ℕ) : Type 0 where
  pub gate : ℕ
  pub behind : List ℕ
  pub stands : place ≡ length (all_framed ps)
  pub short : AllByRecursion (λ p. length p < 2 ^ 32) ps
  pub fit : AllByRecursion (λ q. length q < 2 ^ 32) qs
  pub bytes : content disk ≡ all_framed ps ++ gate ∷ (staged qs ++ behind)
  pub durable : Only (content disk) (may_leave disk)

-- bytes are these payloads, framed, and a closed gate
pub record IsGroupOf (qs : List (List ℕ)) (bytes : List ℕ) : Type 0 where
  pub fit : AllByRecursion (λ q. length q < 2 ^ 32) qs
  pub stand : bytes ≡ all_framed qs ++ 0 ∷ []

-- an image has the old list, or the old list and all of these payloads
abbrev pub HasNoneOrAll : List (List ℕ) → List (List ℕ) → List ℕ → Type 0
HasNoneOrAll ps qs image = HasList ps image ⊎ HasList (ps ++ qs) image

-- an image has the old list, or the old list and this payload
abbrev pub IsBeforeOrAfter : List (List ℕ) → List ℕ → List ℕ → Type 0
IsBeforeOrAfter ps p image = HasNoneOrAll ps (p ∷ []) image

-- the bytes with payloads more behind the gate at a place
abbrev pub group_appended : ℕ → List (List ℕ) → List ℕ → List ℕ
group_appended place qs old = spliced place (1 ∷ []) (spliced (place + 1) (staged qs) old)

-- those with one more
abbrev pub appended : ℕ → List ℕ → List ℕ → List ℕ
appended place p old = group_appended place (p ∷ []) old
