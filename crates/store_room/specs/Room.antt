-- Calls as payloads, and which of them find room in an image, one record behind another.
use Rattle.std.specs.Prelude.{◌≡◌, ◌⊎◌, ℕ, ◌+◌, ◌<◌, false, true, List, [], ◌∷◌, length}
use Rattle.store_form.specs.{Payload.{Bytes, IsPayloadOf, payload}, Stored.{HasNoVersion, has_short_lists, is_shallow}, declared.stored.Recorded.Recorded, declared.stored.Stored.Stored}

-- as it is stored
abbrev pub payload_of : Recorded → Bytes
payload_of r = payload r.caller r.event

abbrev pub HasPayload : Recorded → Type 0
HasPayload r = IsPayloadOf (payload_of r) r.caller r.event

-- a call that can be written as a payload, if its lists are not too long
abbrev pub IsPayable : Recorded → Type 0
IsPayable r = (is_shallow r.event ≡ true) × HasNoVersion r.event

-- with this call, and a gate behind it, the image would pass a limit, as it does where a list has 2^32 items or more
abbrev pub Passes : ℕ → ℕ → ℕ → Stored → Type 0
Passes limit gate caller e = (has_short_lists e ≡ false) ⊎ (limit < gate + (6 + length (payload caller e)))

-- so it would with one of these calls, one after another
abbrev pub Overflows : ℕ → ℕ → List Recorded → Type 0
Overflows limit gate [] = ⊥
Overflows limit gate (r ∷ rs) = Passes limit gate r.caller r.event ⊎ Overflows limit (gate + (5 + length (payload_of r))) rs
