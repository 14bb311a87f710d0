-- The file beside the contents is brought up to them.
use Rattle.file_units.proofs.Common.{[], ◌++◌, ◌<◌, ◌∙◌, ◌∷◌, ◌≡◌, ◌≤◌, all_phases, ap, append-nil, append_assoc, arith, Begins, Contents, file_of, Grows, IsFrontOf, IsSettled, length, length-append, List, None, refl, same_Some, slice_get}
use Rattle.file_units.proofs.Common.{Some, subst, sym}
use Rattle.file_model.specs.declared.files.File.{File}
use Rattle.file_units.specs.Units.{settled}

-- ---- a list that begins another is brought up to it
pub nothing-begins : {A : Type 0} (all : List A) → Begins [] all
nothing-begins all = (all, refl)

pub begins-short : {A : Type 0} (xs all : List A) → Begins xs all → length xs ≤ length all
begins-short xs all h = omega (arith, ap length h.1, length-append xs h.0)

next-of : {A : Type 0} (xs rest : List A) → slice_get (xs ++ rest) (length xs) ≡ slice_get rest 0
next-of [] rest = refl
next-of (x ∷ xs) rest = next-of xs rest

found-next : {A : Type 0} (xs all rest : List A) → xs ++ rest ≡ all → slice_get rest 0 ≡ slice_get all (length xs)
found-next xs all rest is = sym (next-of xs rest) ∙ ap (λ l. slice_get l (length xs)) is

one-more : {A : Type 0} (xs all rest : List A) (x : A) → xs ++ rest ≡ all → slice_get rest 0 ≡ Some x → Begins (xs ++ x ∷ []) all
one-more xs all [] x is next = absurd (cc)
one-more xs all (y ∷ rest) x is next =
    let same : x ≡ y = sym (same_Some y x next) in
    (rest, append_assoc xs (x ∷ []) rest ∙ ap (λ z. xs ++ z ∷ rest) same ∙ is)

pub begins-next : {A : Type 0} (xs all : List A) (x : A) → Begins xs all → Some x ≡ slice_get all (length xs) → Begins (xs ++ x ∷ []) all
begins-next xs all x h next = one-more xs all h.0 x h.1 (found-next xs all h.0 h.1 ∙ sym next)

no-more : {A : Type 0} (xs all rest : List A) → xs ++ rest ≡ all → slice_get rest 0 ≡ None → xs ≡ all
no-more xs all [] is none = sym (append-nil xs) ∙ is
no-more xs all (y ∷ rest) is none = absurd (cc)

pub begins-all : {A : Type 0} (xs all : List A) → Begins xs all → None ≡ slice_get all (length xs) → xs ≡ all
begins-all xs all h none = no-more xs all h.0 h.1 (found-next xs all h.0 h.1 ∙ sym none)

shorter-more : {A : Type 0} (xs all rest : List A) (x : A) → xs ++ rest ≡ all → slice_get rest 0 ≡ Some x → length xs < length all
shorter-more xs all [] x is next = absurd (cc)
shorter-more xs all (y ∷ rest) x is next = omega (arith, ap length is, length-append xs (y ∷ rest))

-- the list that is to be brought up is then shorter
pub begins-shorter : {A : Type 0} (xs all : List A) (x : A) → Begins xs all → Some x ≡ slice_get all (length xs) → length xs < length all
begins-shorter xs all x h next = shorter-more xs all h.0 x h.1 (found-next xs all h.0 h.1 ∙ sym next)

-- ---- the file of contents begins that of those that have more
pub front-grown : (c d : Contents) → IsSettled c → Grows c d → IsFrontOf (file_of c) d
front-grown c d at_rest h = record {
  format = sym h.1;
  nodes = h.2;
  elements = h.3;
  roles = h.4;
  types = h.6;
  actors = h.8;
  cases = h.10;
  phases = ap all_phases at_rest;
}

-- and that of nothing begins all of the format
pub nothing-front : (f : File) (d : Contents) → f ≡ record { format = 3; nodes = []; elements = []; roles = []; types = []; actors = []; cases = []; phases = [] } → d.format ≡ 3 → IsFrontOf f d
nothing-front f d is format =
    subst (λ (g : File). IsFrontOf g d) (sym is) (record {
      format = sym format;
      nodes = nothing-begins d.nodes;
      elements = nothing-begins d.elements;
      roles = nothing-begins d.roles;
      types = nothing-begins d.types.items;
      actors = nothing-begins d.actors.items;
      cases = nothing-begins d.cases.items;
      phases = refl;
    })

-- ---- and a file that has as much as contents is theirs
same-begun : {A : Type 0} (xs all rest : List A) → xs ++ rest ≡ all → length xs ≡ length all → xs ≡ all
same-begun xs all [] is long = sym (append-nil xs) ∙ is
same-begun xs all (y ∷ rest) is long = absurd (omega (arith, ap length is, length-append xs (y ∷ rest), long))

begins-same : {A : Type 0} (xs all : List A) → Begins xs all → length xs ≡ length all → xs ≡ all
begins-same xs all h long = same-begun xs all h.0 h.1 long

pub all_shown : (f : File) (c : Contents) → IsFrontOf f c → length f.nodes ≡ length c.nodes → length f.elements ≡ length c.elements → length f.roles ≡ length c.roles → length f.types ≡ length c.types.items → length f.actors ≡ length c.actors.items → length f.cases ≡ length c.cases.items → f ≡ file_of (settled c)
all_shown f c h nodes elements roles types actors cases =
    let nodes-same : f.nodes ≡ c.nodes = begins-same f.nodes c.nodes h.nodes nodes in
    let elements-same : f.elements ≡ c.elements = begins-same f.elements c.elements h.elements elements in
    let roles-same : f.roles ≡ c.roles = begins-same f.roles c.roles h.roles roles in
    let types-same : f.types ≡ c.types.items = begins-same f.types c.types.items h.types types in
    let actors-same : f.actors ≡ c.actors.items = begins-same f.actors c.actors.items h.actors actors in
    let cases-same : f.cases ≡ c.cases.items = begins-same f.cases c.cases.items h.cases cases in
    grind (arith, h.format, h.phases, nodes-same, elements-same, roles-same, types-same, actors-same, cases-same)
