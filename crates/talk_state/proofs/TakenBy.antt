-- What is known once a unit was taken and worked.
use Rattle.talk_state.proofs.Common.{ℕ, ◌*◌, ◌++◌, ◌+◌, ◌^◌, ◌∙◌, ◌≡◌, ◌≤◌, ap, Bool, Bytes, Contents, count_of_names, false, File, file_of, length, ltb-true, nat_lt, not, oldest, Option, Placing, refl, Said, said_called, said_effort}
use Rattle.talk_state.proofs.{Common.{said_worked, Says, settled, State, sym, true, unit_read}, Taken.Taken}
use Rattle.line_calls.specs.declared.calls.Cells.{Cells}

pub not_false : (b : Bool) → not b ≡ false → b ≡ true
not_false true e = refl
not_false false e = sym e

abbrev pub state_behind : State → Contents → Placing → Option Cells → Bytes → ℕ → Bytes → State
state_behind s after p called bytes last unit = record {
  contents = after;
  placing = p;
  called = called;
  bytes = bytes;
  last = last;
  count = s.count + 1;
  long = s.long + (5 + length unit);
  whole = true;
}

pub taken-by : (s : State) (after : Contents) (said : Said) (unit : Bytes) (has_room : Bool) (f : File) (p : Placing) (called : Option Cells) (bytes : Bytes) (last : ℕ)
    → has_room ≡ nat_lt (s.long + (5 + length unit)) (2 ^ 30) → (has_room ≡ true) × Says s.contents (unit_read s.contents unit) after said
    → f ≡ file_of after → p ≡ said_worked f said s.placing → called ≡ said_called f said → bytes ≡ s.bytes ++ unit → last ≡ length s.bytes
    → oldest p.run.cases ≤ oldest s.placing.run.cases + said_effort said → said_effort said ≤ 2 * length unit → count_of_names after ≤ count_of_names s.contents + length unit
    → (d : Contents) × Taken s (state_behind s after p called bytes last unit) d said unit
taken-by s after said unit has_room f p called bytes last room taken file worked calls added begins age effort names =
    let says = taken.1 in
    let d = says.behind in
    let of : f ≡ file_of (settled d) = file ∙ ap file_of says.settles in (
      d,
      record {
        is_read = says.is_read;
        says = says.says;
        contents = says.settles;
        placing = worked ∙ ap (λ g. said_worked g said s.placing) of;
        called = calls ∙ ap (λ g. said_called g said) of;
        bytes = added;
        last = begins;
        count = refl;
        long = refl;
        whole = refl;
        age = age;
        effort = effort;
        names = names;
        room = ltb-true (s.long + (5 + length unit)) (2 ^ 30) (sym room ∙ taken.0);
      },
    )
