-- A talk: bytes as items, what is answered to each, and what is held behind it.
use Rattle.std.specs.Prelude.{◌≡◌, ℕ, Bool, true, false, List, [], ◌∷◌, ◌++◌, take, Option, Some, None, if◌then◌else◌}

-- the bytes of an item; where it is accepted they are its payload
abbrev pub Bytes : Type 0
Bytes = List ℕ

-- What is said to items. An item ends at a byte or goes on behind it, by what it has so far; it is accepted or not by the
-- payloads that are held; it is answered by these, and by whether it is the first item of the talk; and a rest behind which
-- there are no more bytes is answered by the payloads that are held then.
pub record Rules : Type 0 where
  pub ends : Bytes → ℕ → Bool
  pub accepts : List Bytes → Bytes → Bool
  pub answer : (first : Bool) → List Bytes → Bytes → Bytes
  pub ending : List Bytes → Bytes → Bytes

-- bytes as whole items and a rest
pub record Split : Type 0 where
  pub items : List Bytes
  pub rest : Bytes

-- the same with other items in front
abbrev pub behind : List Bytes → Split → Split
behind items s = record { items = items ++ s.items; rest = s.rest }

-- behind the bytes with which an item has begun
abbrev pub split_from : (Bytes → ℕ → Bool) → Bytes → Bytes → Split
split_from ends begun [] = record { items = []; rest = begun }
split_from ends begun (b ∷ bytes) = if ends begun b then behind ((begun ++ b ∷ []) ∷ []) (split_from ends [] bytes) else split_from ends (begun ++ b ∷ []) bytes

abbrev pub split : (Bytes → ℕ → Bool) → Bytes → Split
split ends bytes = split_from ends [] bytes

-- bytes are one whole item
abbrev pub IsItem : (Bytes → ℕ → Bool) → Bytes → Type 0
IsItem ends bytes = split ends bytes ≡ record { items = bytes ∷ []; rest = [] }

-- no item ends within bytes
abbrev pub IsRest : (Bytes → ℕ → Bool) → Bytes → Type 0
IsRest ends bytes = split ends bytes ≡ record { items = []; rest = bytes }

-- whatever is held where bytes of an item have begun, and where they are all of it
abbrev pub WhereBegun : {E : Type 0} → (E → Bool → List Bytes → Bytes → Type 0) → (Bytes → ℕ → Bool) → E → (Bool → List Bytes → Bytes → Type 0) → Type 0
WhereBegun holds ends desk tells = (first : Bool) (ps : List Bytes) (begun : Bytes) → holds desk first ps begun → IsRest ends begun → tells first ps begun

abbrev pub WhereTaken : {E : Type 0} → (E → Bool → List Bytes → Bytes → Type 0) → (Bytes → ℕ → Bool) → E → (Bool → List Bytes → Bytes → Type 0) → Type 0
WhereTaken holds ends desk tells = (first : Bool) (ps : List Bytes) (item : Bytes) → holds desk first ps item → IsItem ends item → tells first ps item

-- which bytes were taken: all, or so many
abbrev pub taken_of : Option ℕ → Bytes → Bytes
taken_of None bytes = bytes
taken_of (Some n) bytes = take n bytes

-- behind those with which an item has begun, the item goes on behind these bytes, or ends with so many of them
abbrev pub Takes : (Bytes → ℕ → Bool) → (begun bytes : Bytes) → Option ℕ → Type 0
Takes ends begun bytes None = split_from ends begun bytes ≡ record { items = []; rest = begun ++ bytes }
Takes ends begun bytes (Some n) = split_from ends begun (take n bytes) ≡ record { items = (begun ++ take n bytes) ∷ []; rest = [] }

-- of an item that is accepted there is a payload
abbrev pub payload_of : Rules → List Bytes → Bytes → List Bytes
payload_of rules ps item = if rules.accepts ps item then item ∷ [] else []

-- what is held behind an item
abbrev pub held_behind : Rules → List Bytes → Bytes → List Bytes
held_behind rules ps item = ps ++ payload_of rules ps item

abbrev pub worked : Rules → List Bytes → List Bytes → List Bytes
worked rules ps [] = ps
worked rules ps (item ∷ items) = worked rules (held_behind rules ps item) items

-- whether the item behind these is the first
abbrev pub still_first : Bool → List Bytes → Bool
still_first first [] = first
still_first first (item ∷ items) = false

abbrev pub answers : Rules → (first : Bool) → List Bytes → List Bytes → Bytes
answers rules first ps [] = []
answers rules first ps (item ∷ items) = rules.answer first ps item ++ answers rules false (held_behind rules ps item) items

-- what is said to all bytes of a talk, and what is held behind it
abbrev pub said : Rules → List Bytes → Bytes → Bytes
said rules ps bytes = let s = split rules.ends bytes in answers rules true ps s.items ++ rules.ending (worked rules ps s.items) s.rest

abbrev pub held_at_last : Rules → List Bytes → Bytes → List Bytes
held_at_last rules ps bytes = worked rules ps (split rules.ends bytes).items

-- a list is a beginning of another
abbrev pub Begins : {A : Type 0} → List A → List A → Type 0
Begins xs all = (rest : List _) × (xs ++ rest ≡ all)
