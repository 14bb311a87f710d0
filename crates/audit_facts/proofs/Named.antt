-- What holds of names and texts behind each line that is read.
use Rattle.audit_facts.proofs.Common.{[], ℕ, ◌++◌, ◌∙◌, ◌∷◌, ◌≡◌, all_phases, AllRows, ap, AreApart, Bool, by_name, by_number, Bytes, bytes_eq, Contents, false, if_known, IfOk, if◌then◌else◌, inl, inr, is_listed, IsName, IsNamed, List, map}
use Rattle.audit_facts.proofs.Common.{None, noted, open_lines, Option, or_parts, phases_with, refl, role_noted, roles_noted, RoleWord, slice_get, Some, State, Step, subst, suc, sym, true, unless, Why, with_actor, with_element, with_node}
use Rattle.audit_facts.proofs.{Common.{with_role, with_roles, with_script_line, WritesOneLine, zero}, NamedForms.NamedRole}
use Rattle.std.proofs.{lemmas.List.map-append, lemmas.Slice.Eq.bytes_eq-Decides}
use Rattle.wsm_lists.proofs.Lists.{rows-append}
use Rattle.file_facts.proofs.Lists.{at-push}
use Rattle.file_model.specs.{declared.files.ActorDecl.ActorDecl, declared.files.Line.Line}
use Rattle.file_names.specs.declared.declared.DeclaredList.{DeclaredList}

pub record AreNamed (ns es rs : List Bytes) (ds : DeclaredList ActorDecl) (ps : List (List Line)) (lines : List Line) : Type 0 where
  pub nodes : AllRows IsName ns
  pub elements : AllRows IsName es
  pub roles : AllRows IsName rs
  pub actors : AllRows IsNamed ds.items
  pub names : ds.names ≡ map (λ (d : ActorDecl). d.name) ds.items
  pub apart : AreApart ds.items
  pub writes : AllRows (AllRows WritesOneLine) ps
  pub written : AllRows WritesOneLine lines

abbrev pub Named : Contents → Type 0
Named c = AreNamed c.nodes c.elements c.roles c.actors c.phases (open_lines c.current)

abbrev pub NamedState : State → Type 0
NamedState s = Named s.contents

abbrev pub NamedStep : Step → Type 0
NamedStep o = IfOk o NamedState

-- ---- one more name
all-noted : (names : List Bytes) (n : Bytes) → IsName n → AllRows IsName names → AllRows IsName (noted names n)
all-noted names n named all = by (is_listed n names)
  where
    by : (test : Bool) → AllRows IsName (if test then names else names ++ n ∷ [])
    by true = all
    by false = rows-append IsName names (n ∷ []) all (named, tt)

pub node-named : (n : Bytes) (c : Contents) → IsName n → Named c → Named (with_node n c)
node-named n c named h = record {
  nodes = all-noted c.nodes n named h.nodes;
  elements = h.elements;
  roles = h.roles;
  actors = h.actors;
  names = h.names;
  apart = h.apart;
  writes = h.writes;
  written = h.written;
}

pub element-named : (e : Bytes) (c : Contents) → IsName e → Named c → Named (with_element e c)
element-named e c named h = record {
  nodes = h.nodes;
  elements = all-noted c.elements e named h.elements;
  roles = h.roles;
  actors = h.actors;
  names = h.names;
  apart = h.apart;
  writes = h.writes;
  written = h.written;
}

role-noted : (names : List Bytes) (r : RoleWord) → NamedRole r → AllRows IsName names → AllRows IsName (role_noted names r)
role-noted names (by_number n) named all = all
role-noted names (by_name n) named all = all-noted names n named all

roles-noted : (names : List Bytes) (rs : List RoleWord) → AllRows NamedRole rs → AllRows IsName names → AllRows IsName (roles_noted names rs)
roles-noted names [] named all = all
roles-noted names (r ∷ rs) named all = roles-noted (role_noted names r) rs named.1 (role-noted names r named.0 all)

with-roles : (names : List Bytes) (c : Contents) → AllRows IsName names → Named c → Named (record c { roles = names })
with-roles names c named h = record {
  nodes = h.nodes;
  elements = h.elements;
  roles = named;
  actors = h.actors;
  names = h.names;
  apart = h.apart;
  writes = h.writes;
  written = h.written;
}

pub role-named : (r : RoleWord) (c : Contents) → NamedRole r → Named c → Named (with_role r c)
role-named r c named h = with-roles (role_noted c.roles r) c (role-noted c.roles r named h.roles) h

pub roles-named : (rs : List RoleWord) (c : Contents) → AllRows NamedRole rs → Named c → Named (with_roles rs c)
roles-named rs c named h = with-roles (roles_noted c.roles rs) c (roles-noted c.roles rs named h.roles) h

-- ---- one more actor
-- one that is not listed has another name than those that are there
not-listed : (actors : List ActorDecl) (n : Bytes) (i : ℕ) (d : ActorDecl) → is_listed n (map (λ (e : ActorDecl). e.name) actors) ≡ false → slice_get actors i ≡ Some d → n ≡ d.name → ⊥
not-listed [] n i d absent at same = absurd (cc (at))
not-listed (e ∷ es) n zero d absent at same =
    let is : e ≡ d = cc (at) in
    let equal : bytes_eq n e.name ≡ true = (bytes_eq-Decides n e.name).1 (same ∙ ap (λ (x : ActorDecl). x.name) (sym is)) in
    let there : is_listed n (map (λ (x : ActorDecl). x.name) (e ∷ es)) ≡ true = rw equal refl in
    cc (there, absent)
not-listed (e ∷ es) n (suc i) d absent at same = let parts = or_parts (bytes_eq n e.name) (is_listed n (map (λ (x : ActorDecl). x.name) es)) absent in not-listed es n i d parts.1 at same

apart-push : (actors : List ActorDecl) (x : ActorDecl) → is_listed x.name (map (λ (e : ActorDecl). e.name) actors) ≡ false → AreApart actors → AreApart (actors ++ x ∷ [])
apart-push actors x absent apart i j d e at_i at_j same =
    elim (at-push actors x i d at_i) [
      | inl old_i ↦
          elim (at-push actors x j e at_j) [
            | inl old_j ↦ apart i j d e old_i old_j same
            | inr new_j ↦ absurd (not-listed actors x.name i d absent old_i (ap (λ (y : ActorDecl). y.name) new_j.1 ∙ sym same))
          ]
      | inr new_i ↦
          elim (at-push actors x j e at_j) [
            | inl old_j ↦ absurd (not-listed actors x.name j e absent old_j (ap (λ (y : ActorDecl). y.name) new_i.1 ∙ same))
            | inr new_j ↦ new_i.0 ∙ sym new_j.0
          ]
    ]

pub actor-named : (n : Bytes) (roles : List ℕ) (c : Contents) → IsName n → is_listed n c.actors.names ≡ false → Named c → Named (with_actor n roles c)
actor-named n roles c named absent h =
    let x : ActorDecl = record { name = n; roles = roles } in
    let of_names : is_listed n (map (λ (e : ActorDecl). e.name) c.actors.items) ≡ false = subst (λ names. is_listed n names ≡ false) h.names absent in
    record {
      nodes = h.nodes;
      elements = h.elements;
      roles = h.roles;
      actors = rows-append IsNamed c.actors.items (x ∷ []) h.actors (named, tt);
      names = rw absent (ap (λ names. names ++ n ∷ []) h.names ∙ sym (map-append (λ (e : ActorDecl). e.name) c.actors.items (x ∷ [])));
      apart = apart-push c.actors.items x of_names h.apart;
      writes = h.writes;
      written = h.written;
    }

-- ---- one more line, and all phases
pub script-named : (l : Line) (c : Contents) → WritesOneLine l → Named c → Named (with_script_line l c)
script-named l c one h = record {
  nodes = h.nodes;
  elements = h.elements;
  roles = h.roles;
  actors = h.actors;
  names = h.names;
  apart = h.apart;
  writes = h.writes;
  written = rows-append WritesOneLine (open_lines c.current) (l ∷ []) h.written (one, tt);
}

all-written : (current : Option (List Line)) (phases : List (List Line)) → AllRows (AllRows WritesOneLine) phases → AllRows WritesOneLine (open_lines current) → AllRows (AllRows WritesOneLine) (phases_with current phases)
all-written None phases writes written = writes
all-written (Some lines) phases writes written = rows-append (AllRows WritesOneLine) phases (lines ∷ []) writes (written, tt)

pub phases-named : (c : Contents) → Named c → AllRows (AllRows WritesOneLine) (all_phases c)
phases-named c h = all-written c.current c.phases h.writes h.written

-- ---- a state behind tests
pub unless-named : (o : Option Why) (c : Contents) (s : State) → (o ≡ None → NamedState s) → NamedStep (unless o c s)
unless-named None c s h = h refl
unless-named (Some w) c s h = tt

pub found-named : {A : Type 0} (o : Option A) (go : A → Step) (c : Contents) → ((x : A) → NamedStep (go x)) → NamedStep (if_known o go c)
found-named None go c h = tt
found-named (Some x) go c h = h x
