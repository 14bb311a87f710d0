-- What is answered to a unit.
use Rattle.talk_state.proofs.Common.{[], ◌&&◌, ◌++◌, ◌+◌, ◌∙◌, ◌∷◌, ◌≡◌, and_parts, answer_read, ap, Bool, Bytes, called_text, codes, Contents, entries_of, Err, false, file_of, fits, header, Held, held_by, held_rules, Holds, length, List}
use Rattle.talk_state.proofs.{Common.{no_line, Ok, ok_line, placing_of, refl, Refused, Result, State, sym, takes, true, unit_answer, unit_read}, Behind.length-more, Taken.held-next}
use Rattle.std.specs.Result.{is_ok}

-- what is told of a state behind its units
abbrev pub taken_text : State → Bytes
taken_text s = entries_of (file_of s.contents) s.placing s.called ++ ok_line s.count

told-held : (units : List Bytes) (s : State) → Holds units s → taken_text s ≡ called_text (held_by units) ++ ok_line (length units)
told-held units s h =
    ap (λ c. entries_of (file_of c) s.placing s.called ++ ok_line s.count) h.contents
    ∙ (ap (λ p. entries_of (file_of (held_by units).contents) p s.called ++ ok_line s.count) h.placing
    ∙ (ap (λ o. entries_of (file_of (held_by units).contents) (placing_of (held_by units)) o ++ ok_line s.count) h.called
    ∙ ap (λ n. called_text (held_by units) ++ ok_line n) h.count))

is_there : {E : Type 0} (r : Result Contents E) → is_ok r ≡ true → (d : Contents) × (r ≡ Ok d)
is_there (Ok d) e = (d, refl)
is_there (Err x) e = absurd (cc (e))

read-taken : (units : List Bytes) (unit : Bytes) (d : Contents) → fits (header ∷ units) unit ≡ true → unit_read (held_by units).contents unit ≡ Ok d
    → unit_answer units unit ≡ called_text (held_by (units ++ unit ∷ [])) ++ ok_line (length (units ++ unit ∷ []))
read-taken units unit d fit is =
    let h = held_by units in
    ap (λ b. answer_read b (length units + 1) h (unit_read h.contents unit)) fit
    ∙ (ap (answer_read true (length units + 1) h) is
    ∙ (ap (λ (x : Held). called_text x ++ ok_line (length units + 1)) (sym (held-next units unit d is))
    ∙ ap (λ n. called_text (held_by (units ++ unit ∷ [])) ++ ok_line n) (sym (length-more units unit))))

-- a unit that was taken
pub answer-taken : (units : List Bytes) (unit : Bytes) (s : State) → takes held_rules units unit ≡ true → Holds (units ++ unit ∷ []) s → taken_text s ≡ unit_answer units unit
answer-taken units unit s taken h =
    let both = and_parts _ _ taken in
    let read = is_there (unit_read (held_by units).contents unit) both.0 in
    told-held (units ++ unit ∷ []) s h ∙ sym (read-taken units unit read.0 both.1 read.1)

-- a unit that was not
pub answer-refused : (units : List Bytes) (unit : Bytes) (r : Refused) → unit_read (held_by units).contents unit ≡ Err r → no_line r.line r.text ≡ unit_answer units unit
answer-refused units unit r is =
    let h = held_by units in
    sym (ap (answer_read (fits (header ∷ units) unit) (length units + 1) h) is)

pub answer-full : (units : List Bytes) (unit : Bytes) (d : Contents) → fits (header ∷ units) unit ≡ false → unit_read (held_by units).contents unit ≡ Ok d → codes "no full\n" ≡ unit_answer units unit
answer-full units unit d full is =
    let h = held_by units in
    sym (ap (λ b. answer_read b (length units + 1) h (unit_read h.contents unit)) full ∙ ap (answer_read false (length units + 1) h) is)

and-false : (a : Bool) → (a && false) ≡ false
and-false true = refl
and-false false = refl

pub not-read : (units : List Bytes) (unit : Bytes) (r : Refused) → unit_read (held_by units).contents unit ≡ Err r → takes held_rules units unit ≡ false
not-read units unit r is = ap (λ (o : Result Contents Refused). is_ok o && fits (header ∷ units) unit) is

pub not-fitting : (units : List Bytes) (unit : Bytes) → fits (header ∷ units) unit ≡ false → takes held_rules units unit ≡ false
not-fitting units unit full =
    let read = is_ok (unit_read (held_by units).contents unit) in
    ap (λ b. read && b) full ∙ and-false read

pub is-taken : (units : List Bytes) (unit : Bytes) (d : Contents) → fits (header ∷ units) unit ≡ true → unit_read (held_by units).contents unit ≡ Ok d → takes held_rules units unit ≡ true
is-taken units unit d fit is = ap (λ (o : Result Contents Refused). is_ok o && fits (header ∷ units) unit) is ∙ fit
