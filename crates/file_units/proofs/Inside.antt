-- What is known behind each line of a unit, and at its end.
use Rattle.file_units.proofs.Common.{ℕ, ◌*◌, ◌+◌, ◌∙◌, ◌≡◌, ◌≤◌, ap, arith, at_place, Bool, Bytes, Contents, count_of_names, Err, false, Grows, has_ended, HasShortNames, IfOk, if◌then◌else◌, IsHeld, IsSmall, length, List, Ok, refl, refuse}
use Rattle.file_units.proofs.{Common.{SaysSome, Section, settled, Step, step_in, subst, sym, true, unit_step, Why}, AddedNames.step-adds, ByForms.{group-by, outside-by, type-by}, Evens.{EvenIn, even-in_unit, step-even}, Grows.grows-refl}
use Rattle.file_units.proofs.{Grows.{grows-trans, refused-grows, step-grows}, Saying.{HasTypes, SaysIn, SaysState, said-some, sound-small, step-says}, ShortNames.step-short}
use Rattle.wsm_lists.proofs.Lists.{all-rows-map}
use Rattle.file_model.specs.declared.refusals.Why.TheVariants as why
use Rattle.file_model.specs.declared.states.Limits.{Limits}
use Rattle.file_model.specs.declared.states.Section.TheVariants as section
use Rattle.file_facts.specs.Facts.{IsSound}
use Rattle.file_facts.proofs.{Held.{HeldIn, HeldState, HeldStep, Script}, HeldByDeclarations.{declared-held, typed-held}, HeldByScript.{operated-held, scripted-held}}

-- behind so many lines of a unit that is read behind contents
pub record Inside (first : Contents) (k : ℕ) (p : Section) (c : Contents) : Type 0 where
  pub grows : Grows first c
  pub even : EvenIn p c
  pub short : HasShortNames c
  pub held : HeldIn p c
  pub says : SaysIn k first p c

-- ---- before the first line
script-held : (c : Contents) → IsHeld c → Script (settled c) 0
script-held c h =
    let types : c.limits.types ≡ 65536 = ap (λ (l : Limits). l.types) h.limits in
    let actors : c.limits.actors ≡ 65536 = ap (λ (l : Limits). l.actors) h.limits in
    let cases : c.limits.cases ≡ 1048576 = ap (λ (l : Limits). l.cases) h.limits in
    record {
      declared = record {
        type_names = omega (arith, h.even.types);
        actor_names = omega (arith, h.even.actors);
        few_types = omega (arith, types, h.ready.types);
        few_actors = omega (arith, actors, h.ready.actors);
        few_cases = omega (arith, cases, h.ready.cases);
        sound = h.ready.sound;
        typed = h.ready.typed;
        placed = h.ready.placed;
      };
      within = omega arith;
      all_counted = omega arith;
      known_phases = tt;
      known_lines = tt;
    }

pub inside-first : (c : Contents) → IsHeld c → Inside c 0 section.Outside c
inside-first c h = record {
  grows = grows-refl c;
  even = h.even;
  short = h.short;
  held = subst (λ (d : Contents). Script d 0) (sym h.at_rest) (script-held c h);
  says = record {
    before = λ none. record { types_are = refl; cases_are = refl; none = ap (λ (d : Contents). d.current) h.at_rest };
    behind = λ some. absurd (omega (arith, some));
  };
}

-- ---- a line
step-held : (p : Section) (at : ℕ) (line : Bytes) (ws : List Bytes) (c : Contents) → EvenIn p c → HeldIn p c → HeldStep (step_in p at line ws c)
step-held (section.Head newest) at line ws c even h = absurd even
step-held section.Outside at line ws c even h = outside-by HeldState at line ws c (λ d. declared-held d c h) (λ l. scripted-held l at c h)
step-held (section.InType d) at line ws c even h = type-by HeldState d at line ws c (λ l. typed-held l d c h)
step-held (section.InGroup g) at line ws c even h = group-by HeldState g at line ws c (λ l. operated-held l g c h.0 h.1)

has-types : (p : Section) (c : Contents) → HeldIn p c → HasTypes c
has-types (section.Head newest) c h = h.declared.type_names
has-types section.Outside c h = h.declared.type_names
has-types (section.InType d) c h = h.0.declared.type_names
has-types (section.InGroup g) c h = h.0.declared.type_names

inside-behind : (first : Contents) (k : ℕ) (p next : Section) (line : Bytes) (ws : List Bytes) (c after : Contents) → has_ended k p ≡ false →
    step_in p (k + 1) line ws c ≡ Ok (at_place next after) → Inside first k p c → Inside first (k + 1) next after
inside-behind first k p next line ws c after goes_on is h = record {
  grows = grows-trans first c after h.grows (step-grows p next (k + 1) line ws c after (even-in_unit p c h.even) is);
  even = step-even p next (k + 1) line ws c after h.even is;
  short = step-short p next (k + 1) line ws c after h.short is;
  held = subst (λ (o : Step). HeldStep o) is (step-held p (k + 1) line ws c h.even h.held);
  says = subst (λ (o : Step). IfOk o (SaysState (k + 1) first)) is (step-says k p (k + 1) line ws first c goes_on (has-types p c h.held) h.says);
}

pub step-inside : (first : Contents) (k : ℕ) (p next : Section) (line : Bytes) (ws : List Bytes) (c after : Contents) → unit_step k p line ws c ≡ Ok (at_place next after) →
    Inside first k p c → Inside first (k + 1) next after
step-inside first k p next line ws c after is h = by (has_ended k p) refl is
  where
    by : (test : Bool) → has_ended k p ≡ test → (if test then refuse c why.Form else step_in p (k + 1) line ws c) ≡ Ok (at_place next after) → Inside first (k + 1) next after
    by true ended e = absurd (cc)
    by false goes_on e = inside-behind first k p next line ws c after goes_on e h

-- a line adds no more names than it has words
pub step-names : (k : ℕ) (p next : Section) (line : Bytes) (ws : List Bytes) (c after : Contents) → unit_step k p line ws c ≡ Ok (at_place next after) →
    count_of_names after ≤ count_of_names c + length ws
step-names k p next line ws c after is = by (has_ended k p) is
  where
    by : (test : Bool) → (if test then refuse c why.Form else step_in p (k + 1) line ws c) ≡ Ok (at_place next after) → count_of_names after ≤ count_of_names c + length ws
    by true e = absurd (cc)
    by false e = step-adds p next (k + 1) line ws c after e

-- the contents with which a line is refused
abbrev refused_with : Contents → Step → Contents
refused_with c (Ok s) = c
refused_with c (Err p) = p.1

-- also where it is refused nothing is lost
pub refused-inside : (first : Contents) (k : ℕ) (p : Section) (line : Bytes) (ws : List Bytes) (c after : Contents) (w : Why) → unit_step k p line ws c ≡ Err (w, after) →
    Inside first k p c → Grows first after
refused-inside first k p line ws c after w is h = by (has_ended k p) is
  where
    by : (test : Bool) → (if test then refuse c why.Form else step_in p (k + 1) line ws c) ≡ Err (w, after) → Grows first after
    by true e = subst (λ (d : Contents). Grows first d) (ap (refused_with c) e) h.grows
    by false e = grows-trans first c after h.grows (refused-grows p (k + 1) line ws c after w (even-in_unit p c h.even) e)

-- ---- the end
pub inside-end : (first : Contents) (k : ℕ) (c : Contents) → IsHeld first → Inside first k section.Outside c → IsHeld (settled c)
inside-end first k c before h =
    let limits = h.grows.0 ∙ before.limits in
    let types : c.limits.types ≡ 65536 = ap (λ (l : Limits). l.types) limits in
    let actors : c.limits.actors ≡ 65536 = ap (λ (l : Limits). l.actors) limits in
    let cases : c.limits.cases ≡ 1048576 = ap (λ (l : Limits). l.cases) limits in
    let declared = h.held.declared in
    record {
      format = h.grows.1 ∙ before.format;
      limits = limits;
      at_rest = refl;
      even = h.even;
      short = h.short;
      ready = record {
        types = omega (arith, types, declared.few_types);
        actors = omega (arith, actors, declared.few_actors);
        cases = omega (arith, cases, declared.few_cases);
        sound = declared.sound;
        small = all-rows-map IsSound IsSmall sound-small c.types.items declared.sound;
        typed = declared.typed;
        placed = declared.placed;
      };
    }

pub end-says : (first : Contents) (k most : ℕ) (c : Contents) → 3 * k ≤ most → Inside first k section.Outside c → SaysSome most first c
end-says first k most c fits h = said-some k most first c fits h.says
