-- A state behind a unit that was taken.
use Rattle.talk_state.proofs.Common.{[], ℕ, ◌*◌, ◌++◌, ◌+◌, ◌-◌, ◌<◌, ◌^◌, ◌∙◌, ◌∷◌, ◌≡◌, ◌≤◌, all_framed, ap, append-nil, arith, Bytes, CanTry, CanWork, case_placed, CaseDecl, Contents, count_of_names, file_of, flat_map, framed, header}
use Rattle.talk_state.proofs.Common.{Held, held_after, held_behind, held_by, Holds, IsReady, IsSound, kind_placed, length, length-append, length-map, List, nothing_held, Ok, oldest, placed_in, Placing, placing_of, Refused, Result}
use Rattle.talk_state.proofs.{Common.{run_behind, Said, said_called, said_effort, said_worked, Says, SaysBehind, settled, State, subst, sym, take, take-append_seam, true, types_of, unit_read, with_last, with_unit}, Behind.called-behind}
use Rattle.talk_state.proofs.{Behind.{last-more, length-more, worked-behind}, Lengths.{cases-worked, kinds-worked}}
use Rattle.std.proofs.{lemmas.Grind.flat_map-append, lemmas.List.Sums.fold-append}
use Rattle.file_units.specs.declared.held.Said.TheVariants as say
use Rattle.store_disk.proofs.Framing.{framed-more}

-- one state is that behind another and a unit, which was read and says this
pub record Taken (s t : State) (d : Contents) (said : Said) (unit : Bytes) : Type 0 where
  pub is_read : unit_read s.contents unit ≡ Ok d
  pub says : SaysBehind s.contents d said
  pub contents : t.contents ≡ settled d
  pub placing : t.placing ≡ said_worked (file_of (settled d)) said s.placing
  pub called : t.called ≡ said_called (file_of (settled d)) said
  pub bytes : t.bytes ≡ s.bytes ++ unit
  pub last : t.last ≡ length s.bytes
  pub count : t.count ≡ s.count + 1
  pub long : t.long ≡ s.long + (5 + length unit)
  pub whole : t.whole ≡ true
  pub age : oldest t.placing.run.cases ≤ oldest s.placing.run.cases + said_effort said
  pub effort : said_effort said ≤ 2 * length unit
  pub names : count_of_names t.contents ≤ count_of_names s.contents + length unit
  pub room : s.long + (5 + length unit) < 2 ^ 30

-- ---- how many types and cases there are
kinds-said : (c d : Contents) (said : Said) (p : Placing) → SaysBehind c d said → length p.run.kinds ≡ length c.types.items → length (said_worked (file_of (settled d)) said p).run.kinds ≡ length d.types.items
kinds-said c d say.«Type» p s even =
    ap (λ o. length (with_last kind_placed o p).run.kinds) (last-more c.types.items d.types.items s.one s.types)
    ∙ (length-more p.run.kinds _ ∙ (ap (λ n. n + 1) even ∙ sym (ap length s.types ∙ length-more c.types.items s.one)))
kinds-said c d say.Case p s even =
    ap (λ o. length (with_last case_placed o p).run.kinds) (last-more c.cases.items d.cases.items s.one s.cases) ∙ (even ∙ ap length (sym s.types))
kinds-said c d (say.Line l) p s even = kinds-worked (file_of (settled d)) p.run l ∙ (even ∙ ap length (sym s.types))
kinds-said c d say.Other p s even = even ∙ ap length (sym s.types)

cases-said : (c d : Contents) (said : Said) (p : Placing) → SaysBehind c d said → length p.run.cases ≡ length c.cases.items → length (said_worked (file_of (settled d)) said p).run.cases ≡ length d.cases.items
cases-said c d say.«Type» p s even =
    ap (λ o. length (with_last kind_placed o p).run.cases) (last-more c.types.items d.types.items s.one s.types) ∙ (even ∙ ap length (sym s.cases))
cases-said c d say.Case p s even =
    ap (λ o. length (with_last case_placed o p).run.cases) (last-more c.cases.items d.cases.items s.one s.cases)
    ∙ (length-more p.run.cases _ ∙ (ap (λ n. n + 1) even ∙ sym (ap length s.cases ∙ length-more c.cases.items s.one)))
cases-said c d (say.Line l) p s even = cases-worked (file_of (settled d)) p.run l ∙ (even ∙ ap length (sym s.cases))
cases-said c d say.Other p s even = even ∙ ap length (sym s.cases)

-- ---- what it needs is there
pub can-try : (n : ℕ) (c d : Contents) (said : Said) (p : Placing) → CanTry n c p → SaysBehind c d said → IsReady (settled d) → said_effort said ≤ 2 * n → CanWork (file_of (settled d)) said p
can-try n c d say.«Type» p h says ready effort =
    let types : length d.types.items ≡ length c.types.items + 1 = ap length says.types ∙ length-more c.types.items says.one in
    let kinds = h.kinds in
    record {
      one = says.one;
      last = last-more c.types.items d.types.items says.one says.types;
      small = says.small;
      even = ap (λ (q : Placing). q.placed.kinds) h.placing;
      next = omega (arith, types, kinds);
      few = let few = ready.types in omega (arith, few);
      room = let few = ready.types in omega (arith, types, few, kinds);
    }
can-try n c d say.Case p h says ready effort =
    let cases : length d.cases.items ≡ length c.cases.items + 1 = ap length says.cases ∙ length-more c.cases.items says.one in
    let even : p.placed.kinds ≡ length p.run.kinds = ap (λ (q : Placing). q.placed.kinds) h.placing in
    let placed : length p.placed.types ≡ length c.cases.items = ap (λ (q : Placing). length q.placed.types) h.placing ∙ length-map c.cases.items (λ (k : CaseDecl). k.id.type_no) in
    record {
      one = says.one;
      last = last-more c.cases.items d.cases.items says.one says.cases;
      there = let there = says.there in let kinds = h.kinds in omega (arith, there, kinds, even);
      room = let few = ready.cases in omega (arith, cases, few, placed);
    }
can-try n c d (say.Line l) p h says ready effort = record {
  of = record {
    types = ap (λ (q : Placing). q.placed.types) h.placing ∙ ap types_of (sym says.cases);
    placed = ready.placed;
    many = h.cases ∙ ap length (sym says.cases);
  };
  age = let age = h.age in omega (arith, age, effort);
}
can-try n c d say.Other p h says ready effort = tt

pub can-say : (n : ℕ) (c after : Contents) (read : Result Contents Refused) (said : Said) (p : Placing) → CanTry n c p → Says c read after said → IsReady after → said_effort said ≤ 2 * n → CanWork (file_of after) said p
can-say n c after read said p h says ready effort =
    let d = says.behind in
    let so : IsReady (settled d) = subst IsReady says.settles ready in
    subst (λ (x : Contents). CanWork (file_of x) said p) (sym says.settles) (can-try n c d said p h says.says so effort)

-- a unit can be tried for which there is room
pub sound-try : (s : State) (n : ℕ) → IsSound s → s.long + n < 2 ^ 30 → CanTry n s.contents s.placing
sound-try s n h room =
    let young = h.young in
    let names = h.names in
    record {
      placing = h.placing;
      kinds = h.kinds;
      cases = h.cases;
      room = omega (arith, names, room);
      age = omega (arith, young, room);
    }

-- ---- the state behind is sound
module _ (s t : State) (d : Contents) (said : Said) (unit : Bytes) (h : IsSound s) (k : Taken s t d said unit) where
  placed-behind : t.placing ≡ placed_in (settled d) (run_behind s.contents d s.placing.run)
  placed-behind = k.placing ∙ (ap (said_worked (file_of (settled d)) said) h.placing ∙ worked-behind s.contents d said s.placing.run k.says)

  sound-placing : t.placing ≡ placed_in t.contents t.placing.run
  sound-placing =
      placed-behind
      ∙ (ap (placed_in (settled d)) (sym (ap (λ (p : Placing). p.run) placed-behind)) ∙ ap (λ (c : Contents). placed_in c t.placing.run) (sym k.contents))

  pub taken-sound : IsSound t
  taken-sound = record {
    placing = sound-placing;
    kinds =
        ap (λ (p : Placing). length p.run.kinds) k.placing
        ∙ (kinds-said s.contents d said s.placing k.says h.kinds ∙ ap (λ (c : Contents). length c.types.items) (sym k.contents));
    cases =
        ap (λ (p : Placing). length p.run.cases) k.placing
        ∙ (cases-said s.contents d said s.placing k.says h.cases ∙ ap (λ (c : Contents). length c.cases.items) (sym k.contents));
    young = let young = h.young in let long = k.long in let age = k.age in let effort = k.effort in omega (arith, young, long, age, effort);
    names = let names = h.names in let long = k.long in let more = k.names in omega (arith, names, long, more);
    last = let last = k.last in omega (arith, last, ap length k.bytes, length-append s.bytes unit);
    bytes = let bytes = h.bytes in let long = k.long in omega (arith, bytes, long, ap length k.bytes, length-append s.bytes unit);
    count = let count = h.count in let long = k.long in let one = k.count in omega (arith, count, long, one);
    short = let long = k.long in let room = k.room in omega (arith, long, room);
  }

-- ---- and it is that of one unit more
held-more : (units : List Bytes) (unit : Bytes) → held_by (units ++ unit ∷ []) ≡ with_unit (held_by units) unit
held-more units unit = fold-append with_unit nothing_held units (unit ∷ [])

pub held-next : (units : List Bytes) (unit : Bytes) (d : Contents) → unit_read (held_by units).contents unit ≡ Ok d → held_by (units ++ unit ∷ []) ≡ held_behind (held_by units) d
held-next units unit d is = held-more units unit ∙ ap (held_after (held_by units)) is

joined-more : (units : List Bytes) (unit : Bytes) → flat_map (λ (u : Bytes). u) (units ++ unit ∷ []) ≡ flat_map (λ (u : Bytes). u) units ++ unit
joined-more units unit = flat_map-append (λ (u : Bytes). u) units (unit ∷ []) ∙ ap (λ l. flat_map (λ (u : Bytes). u) units ++ l) (append-nil unit)

front-more : (units : List Bytes) (unit : Bytes) → take (length (units ++ unit ∷ []) - 1) (units ++ unit ∷ []) ≡ units
front-more units unit =
    let many : length (units ++ unit ∷ []) - 1 ≡ length units = omega (arith, length-more units unit) in
    ap (λ n. take n (units ++ unit ∷ [])) many ∙ take-append_seam units (unit ∷ [])

long-more : (units : List Bytes) (unit : Bytes) → length (all_framed (header ∷ units ++ unit ∷ [])) ≡ length (all_framed (header ∷ units)) + (5 + length unit)
long-more units unit = omega (arith, ap length (framed-more (header ∷ units) unit), length-append (all_framed (header ∷ units)) (framed unit))

module _ (units : List Bytes) (s t : State) (d : Contents) (said : Said) (unit : Bytes) (h : Holds units s) (k : Taken s t d said unit) where
  read-next : unit_read (held_by units).contents unit ≡ Ok d
  read-next = ap (λ (c : Contents). unit_read c unit) (sym h.contents) ∙ k.is_read

  next : held_by (units ++ unit ∷ []) ≡ held_behind (held_by units) d
  next = held-next units unit d read-next

  says-next : SaysBehind (held_by units).contents d said
  says-next = subst (λ (c : Contents). SaysBehind c d said) h.contents k.says

  pub taken-holds : Holds (units ++ unit ∷ []) t
  taken-holds = record {
    contents = k.contents ∙ ap (λ (x : Held). x.contents) (sym next);
    placing =
        k.placing
        ∙ (ap (said_worked (file_of (settled d)) said) h.placing
        ∙ (worked-behind (held_by units).contents d said (held_by units).run says-next ∙ ap placing_of (sym next)));
    called = k.called ∙ (called-behind (held_by units).contents d said says-next ∙ ap (λ (x : Held). x.called) (sym next));
    bytes = k.bytes ∙ (ap (λ bs. bs ++ unit) h.bytes ∙ sym (joined-more units unit));
    last = k.last ∙ (ap length h.bytes ∙ ap (λ us. length (flat_map (λ (u : Bytes). u) us)) (sym (front-more units unit)));
    count = k.count ∙ (ap (λ n. n + 1) h.count ∙ sym (length-more units unit));
    long = k.long ∙ (ap (λ n. n + (5 + length unit)) h.long ∙ sym (long-more units unit));
    whole = k.whole;
  }
