-- Before the first unit.
use Rattle.talk_state.proofs.Common.{[], ◌∙◌, ◌∷◌, ◌≡◌, all_framed, ap, arith, Contents, count_of_names, header, Holds, IsSound, length, no_run, no_units, None, placed_in, Placing, refl, State, sym, true}
use Rattle.script_run.specs.Oldest.{oldest}

pub record IsNothing (s : State) : Type 0 where
  pub contents : s.contents ≡ no_units
  pub placing : s.placing ≡ placed_in no_units no_run
  pub called : s.called ≡ None
  pub bytes : s.bytes ≡ []
  pub last : s.last ≡ 0
  pub count : s.count ≡ 0
  pub long : s.long ≡ 13
  pub whole : s.whole ≡ true

header-long : length (all_framed (header ∷ [])) ≡ 13
header-long = refl

pub nothing-holds : (s : State) → IsNothing s → Holds [] s
nothing-holds s h = record {
  contents = h.contents;
  placing = h.placing;
  called = h.called;
  bytes = h.bytes;
  last = h.last;
  count = h.count;
  long = h.long ∙ sym header-long;
  whole = h.whole;
}

none-old : oldest [] ≡ 0
unfolding oldest
none-old = refl

pub nothing-sound : (s : State) → IsNothing s → IsSound s
nothing-sound s h =
    let long = h.long in
    record {
      placing = h.placing ∙ (ap (λ (c : Contents). placed_in c no_run) (sym h.contents) ∙ ap (λ (p : Placing). placed_in s.contents p.run) (sym h.placing));
      kinds = ap (λ (p : Placing). length p.run.kinds) h.placing ∙ ap (λ (c : Contents). length c.types.items) (sym h.contents);
      cases = ap (λ (p : Placing). length p.run.cases) h.placing ∙ ap (λ (c : Contents). length c.cases.items) (sym h.contents);
      young = let old = ap (λ (p : Placing). oldest p.run.cases) h.placing ∙ none-old in omega (arith, old);
      names = let names : count_of_names s.contents ≡ 2 = ap count_of_names h.contents in omega (arith, names, long);
      last = let last = h.last in omega (arith, last);
      bytes = omega (arith, ap length h.bytes);
      count = let count = h.count in omega (arith, count);
      short = omega (arith, long);
    }
