-- What is put of a unit that is tried is what it would be answered.
use Rattle.talk_state.proofs.Common.{[], ℕ, ◌*◌, ◌++◌, ◌+◌, ◌∙◌, ◌∷◌, ◌≡◌, ◌≢◌, ◌≤◌, acted, answer_moved, answer_read, ap, append-nil, append_assoc, arith, Bool, Bytes, called_text, CanDefine, CanTry, cells_of, Contents, count_of_names}
use Rattle.talk_state.proofs.Common.{defined, entries, entries_of, entries_read, Err, false, File, file_of, Held, held_behind, held_in, if_there, if◌then◌else◌, IsReady, kind_before, kind_entry, kind_installed, kind_placed, last_of, length}
use Rattle.talk_state.proofs.Common.{Line, List, moved_text, None, Ok, ok_line, oldest, option_map, placed_in, Placing, placing_of, put_back_kind, refl, Refused, Refuses, Result, Run, Said, said_called, said_effort, said_line, said_worked}
use Rattle.talk_state.proofs.{Common.{Says, SaysBehind, settled, slice_get, Some, subst, sym, true, TypeDecl, types_of, unit_read, was_installed, with_last, worked}, Behind.{at-end, called-behind, worked-behind}, Lengths.cases-worked}
use Rattle.talk_state.proofs.{Lengths.kinds-worked, Taken.{can-say, can-try}}
use Rattle.std.specs.Prelude.{◌-◌}
use Rattle.file_model.specs.{Sizes.line_effort, declared.files.Act.Act}
use Rattle.file_model.specs.declared.files.Act.TheVariants as act
use Rattle.file_units.specs.declared.held.Said.TheVariants as say
use Rattle.file_units.specs.declared.held.UnitRefusal.{UnitRefusal}
use Rattle.file_units.specs.declared.held.UnitRefusal.TheVariants as refusal
use Rattle.line_calls.specs.declared.calls.Cells.TheVariants as cells
use Rattle.script_run.specs.declared.runs.ClosedKind.{ClosedKind}
use Rattle.talk_state.specs.Trying.{CanInstall, CanMove, behind_text, line_behind, made_text, moved_said, refusal_text, said_text}
use Rattle.type_core.specs.declared.events.KindEvent.TheVariants as kind_event
use Rattle.unit_run.proofs.PutBack.{kind-back}

-- ---- refusals
pub refused-told : (fit : Bool) (n : ℕ) (h : Held) (read : Result Contents Refused) (r : UnitRefusal) → Refuses fit read r → r ≢ refusal.NoMemory → refusal_text r ≡ answer_read fit n h read
refused-told fit n h read (refusal.Refused r) is some = sym (ap (answer_read fit n h) is)
refused-told fit n h read refusal.Full is some = sym (ap (λ b. answer_read b n h read) is.0 ∙ ap (answer_read false n h) is.1.1)
refused-told fit n h read refusal.NoMemory is some = absurd (some refl)

pub refused-moved : (n : ℕ) (h : Held) (m : Bytes) (read : Result Contents Refused) (r : UnitRefusal) → Refuses true read r → r ≢ refusal.NoMemory → refusal_text r ≡ answer_moved n h m read
refused-moved n h m read (refusal.Refused r) is some = sym (ap (answer_moved n h m) is)
refused-moved n h m read refusal.Full is some = let never : true ≡ false = is.0 in absurd cc
refused-moved n h m read refusal.NoMemory is some = absurd (some refl)

pub refused-entries : (h : Held) (read : Result Contents Refused) (r : UnitRefusal) → Refuses true read r → r ≢ refusal.NoMemory → [] ≡ entries_read h read
refused-entries h read (refusal.Refused r) is some = sym (ap (entries_read h) is)
refused-entries h read refusal.Full is some = let never : true ≡ false = is.0 in absurd cc
refused-entries h read refusal.NoMemory is some = absurd (some refl)

-- ---- a type that would be defined
pub type-told : (f : File) (p : Placing) (d : TypeDecl) → CanDefine f p → last_of f.types ≡ Some d
    → kind_entry f (length f.types - 1) (defined (length f.types - 1) d) ≡ entries_of f (said_worked f say.«Type» p) (said_called f say.«Type»)
type-told f p d h last =
    let n : ℕ = length f.types - 1 in
    let next = h.next in
    let same : n ≡ length p.run.kinds = omega (arith, next) in
    let more : List ClosedKind = p.run.kinds ++ defined (length p.run.kinds) d ∷ [] in
    ap (λ k. kind_entry f n (defined k d)) same
    ∙ (sym (ap (λ k. if_there (kind_entry f n) (slice_get more k)) same ∙ ap (if_there (kind_entry f n)) (at-end p.run.kinds (defined (length p.run.kinds) d)))
    ∙ ap (λ o. entries_of f (with_last kind_placed o p) (option_map (λ (t : TypeDecl). cells.Kind n) o)) (sym last))

-- ---- whom the last unit has called says nothing of what the next one tells
pub entries-same : (h k : Held) (read : Result Contents Refused) → h.contents ≡ k.contents → h.run ≡ k.run → entries_read h read ≡ entries_read k read
entries-same h k (Err r) c q = refl
entries-same h k (Ok d) c q = ap (λ (x : Contents). called_text (held_behind (held_in x h.run) d)) c ∙ ap (λ (x : Run). called_text (held_behind (held_in k.contents x) d)) q

pub answer-same : (fit : Bool) (n : ℕ) (h k : Held) (read : Result Contents Refused) → h.contents ≡ k.contents → h.run ≡ k.run → answer_read fit n h read ≡ answer_read fit n k read
answer-same fit n h k (Err r) c q = refl
answer-same true n h k (Ok d) c q = ap (λ es. es ++ ok_line n) (entries-same h k (Ok d) c q)
answer-same false n h k (Ok d) c q = refl

pub moved-same : (n : ℕ) (h k : Held) (m : Bytes) (read : Result Contents Refused) → h.contents ≡ k.contents → h.run ≡ k.run → answer_moved n h m read ≡ answer_moved n k m read
moved-same n h k m (Err r) c q = refl
moved-same n h k m (Ok d) c q =
    let all : Held → Bytes = λ g. called_text g ++ (moved_text (said_line d) g m ++ ok_line n) in
    ap (λ (x : Contents). all (held_behind (held_in x h.run) d)) c ∙ ap (λ (x : Run). all (held_behind (held_in k.contents x) d)) q

-- ---- the entries of what was said
module _ (c d : Contents) (said : Said) (p : Placing) (placed : p ≡ placed_in c p.run) (says : SaysBehind c d said) where
  run-said : said_worked (file_of (settled d)) said p ≡ placing_of (held_behind (held_in c p.run) d)
  run-said = ap (said_worked (file_of (settled d)) said) placed ∙ worked-behind c d said p.run says

  pub text-said : said_text (settled d) said p ≡ called_text (held_behind (held_in c p.run) d)
  text-said =
      let f = file_of (settled d) in
      ap (λ (q : Placing). entries_of f q (said_called f said)) run-said
      ∙ ap (entries_of f (placing_of (held_behind (held_in c p.run) d))) (called-behind c d said says)

-- and those of a migrate behind them
none-behind : (c d : Contents) (said : Said) (g : Held) (m : Bytes) → said_line d ≡ None → [] ≡ moved_text (said_line d) g m
none-behind c d said g m line = sym (ap (λ o. moved_text o g m) line)

pub text-behind : (c d : Contents) (said : Said) (m : Bytes) (p : Placing) → p ≡ placed_in c p.run → SaysBehind c d said → behind_text (settled d) said m p ≡ moved_text (said_line d) (held_behind (held_in c p.run) d) m
text-behind c d say.«Type» m p placed says = none-behind c d say.«Type» (held_behind (held_in c p.run) d) m says.line
text-behind c d say.Case m p placed says = none-behind c d say.Case (held_behind (held_in c p.run) d) m says.line
text-behind c d (say.Line l) m p placed says =
    let g = held_behind (held_in c p.run) d in
    let q = line_behind (settled d) l p in
    let same : q.run ≡ g.run = ap (λ (x : Placing). x.run) (run-said c d (say.Line l) p placed says) in
    ap (λ (r : Run). if kind_installed (cells_of l.act) r then entries_read (held_in (settled d) r) (unit_read (settled d) m) else []) same
    ∙ (ap (λ es. if kind_installed (cells_of l.act) g.run then es else []) (entries-same (held_in (settled d) g.run) g (unit_read (settled d) m) refl refl)
    ∙ ap (λ o. moved_text o g m) (sym says.line_is))
text-behind c d say.Other m p placed says = none-behind c d say.Other (held_behind (held_in c p.run) d) m says.line_is

-- ---- what was put is the answer
module _ (c after : Contents) (read : Result Contents Refused) (said : Said) (p : Placing) (placed : p ≡ placed_in c p.run) (says : Says c read after said) where
  here : said_text after said p ≡ called_text (held_behind (held_in c p.run) says.behind)
  here = ap (λ (x : Contents). said_text x said p) says.settles ∙ text-said c says.behind said p placed says.says

  pub entries-told : said_text after said p ≡ entries_read (held_in c p.run) read
  entries-told = here ∙ sym (ap (entries_read (held_in c p.run)) says.is_read)

  pub unit-told : (fit : Bool) (n : ℕ) → fit ≡ true → said_text after said p ++ ok_line n ≡ answer_read fit n (held_in c p.run) read
  unit-told fit n has_room =
      let h = held_in c p.run in
      ap (λ es. es ++ ok_line n) here ∙ sym (ap (answer_read fit n h) says.is_read ∙ ap (λ b. answer_read b n h (Ok says.behind)) has_room)

  pub move-told : (n : ℕ) (m : Bytes) → (said_text after said p ++ behind_text after said m p) ++ ok_line n ≡ answer_moved n (held_in c p.run) m read
  move-told n m =
      let h = held_in c p.run in
      let g = held_behind h says.behind in
      let more : behind_text after said m p ≡ moved_text (said_line says.behind) g m =
      ap (λ (x : Contents). behind_text x said m p) says.settles ∙ text-behind c says.behind said m p placed says.says in
      append_assoc (said_text after said p) (behind_text after said m p) (ok_line n)
      ∙ (ap (λ es. es ++ (behind_text after said m p ++ ok_line n)) here
      ∙ (ap (λ es. called_text g ++ (es ++ ok_line n)) more ∙ sym (ap (answer_moved n h m) says.is_read)))

-- ---- what a unit needs that is tried is there
can-install : (n m : ℕ) (c d : Contents) (l : Line) (p : Placing) → CanTry (n + m) c p → SaysBehind c d (say.Line l) → IsReady (settled d) → line_effort l ≤ 2 * n → count_of_names (settled d) ≤ count_of_names c + n
    → CanInstall m (settled d) l p
can-install n m c d l p h says ready effort names =
    let age = h.age in
    let room = h.room in
    record {
      call = can-try (n + m) c d (say.Line l) p h says ready (omega (arith, effort));
      placing = h.placing ∙ ap (λ ks. record { run = p.run; placed = record { kinds = length p.run.kinds; types = types_of ks } }) (sym says.cases);
      kinds = h.kinds ∙ ap length (sym says.types);
      cases = h.cases ∙ ap length (sym says.cases);
      room = omega (arith, room, names);
      age = omega (arith, age, effort);
    }

pub can-move : (n m : ℕ) (c after : Contents) (read : Result Contents Refused) (said : Said) (p : Placing) → CanTry (n + m) c p → Says c read after said → IsReady after → said_effort said ≤ 2 * n
    → count_of_names after ≤ count_of_names c + n → CanMove m after said p
can-move n m c after read say.«Type» p h says ready effort names = can-say (n + m) c after read say.«Type» p h says ready (omega (arith, effort))
can-move n m c after read say.Case p h says ready effort names = can-say (n + m) c after read say.Case p h says ready (omega (arith, effort))
can-move n m c after read (say.Line l) p h says ready effort names =
    let d = says.behind in
    let so : IsReady (settled d) = subst IsReady says.settles ready in
    let few : count_of_names (settled d) ≤ count_of_names c + n = subst (λ (x : Contents). count_of_names x ≤ count_of_names c + n) says.settles names in
    subst (λ (x : Contents). CanInstall m x l p) (sym says.settles) (can-install n m c d l p h says.says so effort few)
can-move n m c after read say.Other p h says ready effort names = tt

-- ---- an install that is made, and taken back
module _ (n : ℕ) (c : Contents) (l : Line) (p : Placing) (h : CanInstall n c l p) where
  pub install-behind : (q : Placing) → q.run ≡ worked (file_of c) p.run l → q.placed ≡ p.placed → oldest q.run.cases ≤ oldest p.run.cases + line_effort l → CanTry n c q
  install-behind q run placed young =
      let age = h.age in
      let kinds : length q.run.kinds ≡ length p.run.kinds = ap (λ (r : Run). length r.kinds) run ∙ kinds-worked (file_of c) p.run l in
      let cases : length q.run.cases ≡ length p.run.cases = ap (λ (r : Run). length r.cases) run ∙ cases-worked (file_of c) p.run l in
      let so : q.placed ≡ record { kinds = length q.run.kinds; types = types_of c.cases.items } =
      placed ∙ (ap (λ (x : Placing). x.placed) h.placing ∙ ap (λ k. record { kinds = k; types = types_of c.cases.items }) (sym kinds)) in
      record {
        placing = ap (λ pl. record { run = q.run; placed = pl }) so;
        kinds = kinds ∙ h.kinds;
        cases = cases ∙ h.cases;
        room = h.room;
        age = omega (arith, age, young);
      }

acted-back : (f : File) (r : Run) (a t : ℕ) (x : Act) → cells_of x ≡ cells.Kind t → put_back_kind t (kind_before t r) (acted f a x r) ≡ r
acted-back f r a t (act.Create k) is = absurd cc
acted-back f r a t (act.Start k n) is = absurd cc
acted-back f r a t (act.Withdraw k n) is = absurd cc
acted-back f r a t (act.End k n choice writes) is = absurd cc
acted-back f r a t (act.Change k ops) is = absurd cc
acted-back f r a t (act.Install u ops) is =
    let same : u ≡ t = cc in
    subst (λ v. put_back_kind v (kind_before v r) (acted f a (act.Install u ops) r) ≡ r) same (kind-back a u (kind_event.Install ops) r)
acted-back f r a t (act.Migrate u many) is = absurd cc

pub install-back : (f : File) (r : Run) (l : Line) (t : ℕ) → cells_of l.act ≡ cells.Kind t → put_back_kind t (kind_before t r) (worked f r l) ≡ r
install-back f r l t is = acted-back f r l.actor t l.act is

-- the run is as before, and what was put is told of the line
pub put-back-run : (c : Contents) (l : Line) (t : ℕ) (p q : Placing) → cells_of l.act ≡ cells.Kind t → q.run ≡ put_back_kind t (kind_before t p.run) (worked (file_of c) p.run l) → q.placed ≡ p.placed → q ≡ p
put-back-run c l t p q is run placed =
    ap (λ r. record { run = r; placed = q.placed }) (run ∙ install-back (file_of c) p.run l t is) ∙ ap (λ pl. record { run = p.run; placed = pl }) placed

pub made-told : (c : Contents) (l : Line) (t : ℕ) (m : Bytes) (p q : Placing) → cells_of l.act ≡ cells.Kind t → q.run ≡ worked (file_of c) p.run l → q.placed ≡ p.placed
    → made_text c t m q ≡ moved_said c (say.Line l) m p
made-told c l t m p q is run placed =
    let so : q ≡ line_behind c l p = ap (λ r. record { run = r; placed = q.placed }) run ∙ ap (λ pl. record { run = worked (file_of c) p.run l; placed = pl }) placed in
    let x : Placing = line_behind c l p in
    ap (made_text c t m) so ∙ ap (λ k. entries (file_of c) x k ++ (if kind_installed k x.run then entries_read (held_in c x.run) (unit_read c m) else [])) (sym is)

made-by : (c : Contents) (t : ℕ) (m : Bytes) (q : Placing) (b : Bool) → was_installed t q.run ≡ b → entries (file_of c) q (cells.Kind t) ++ (if b then entries_read (held_in c q.run) (unit_read c m) else []) ≡ made_text c t m q
made-by c t m q b is = ap (λ w. entries (file_of c) q (cells.Kind t) ++ (if w then entries_read (held_in c q.run) (unit_read c m) else [])) (sym is)

pub made-alone : (c : Contents) (t : ℕ) (m : Bytes) (q : Placing) → was_installed t q.run ≡ false → entries (file_of c) q (cells.Kind t) ≡ made_text c t m q
made-alone c t m q is = sym (append-nil (entries (file_of c) q (cells.Kind t))) ∙ made-by c t m q false is

pub made-with : (c : Contents) (t : ℕ) (m : Bytes) (q : Placing) → was_installed t q.run ≡ true → entries (file_of c) q (cells.Kind t) ++ entries_read (held_in c q.run) (unit_read c m) ≡ made_text c t m q
made-with c t m q is = made-by c t m q true is
