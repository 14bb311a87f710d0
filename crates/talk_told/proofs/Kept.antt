-- Behind a unit the run is one of what is declared then, and all its types are defined.
use Rattle.talk_told.proofs.Common.{[], ℕ, ◌++◌, ◌∙◌, ◌∷◌, ◌≡◌, Act, acted, AllRows, ap, arith, by-event, call_kind, CaseId, changed_at, changed_at-none, changed_at-suc, ClosedKind, Contents, created, defined, File, file_of, HasVersion}
use Rattle.talk_told.proofs.Common.{IsReady, IsSound, KindEvent, KindModel, length, length-append, Line, line_worked, List, migrated, newest, newest_of, None, on_kind, Option, Run, run_behind, Said, SaysBehind, SaysCase, SaysLine, SaysType}
use Rattle.talk_told.proofs.{Common.{settled, Some, sound-defined, subst, suc, sym, TypeDecl, uncalled, VersionModel, with_case, with_kind, zero}, Held.{IsRunOf, run-case, run-line, run-type}}
use Rattle.file_model.specs.declared.files.Act.TheVariants as act
use Rattle.file_units.specs.declared.held.Said.TheVariants as say
use Rattle.talk_state.proofs.Lengths.{cases-worked, kinds-worked}
use Rattle.type_core.specs.declared.events.KindEvent.TheVariants as kind_event
use Rattle.type_core.specs.declared.replies.KindReply.{KindReply}

-- ---- lists
all-changed : {X : Type 0} (P : X → Type 0) (g : X → X) → ((x : X) → P x → P (g x)) → (i : ℕ) (xs : List X) → AllRows P xs → AllRows P (changed_at g i xs)
all-changed P g keeps i [] all = subst (AllRows P) (sym (changed_at-none g i)) tt
all-changed P g keeps zero (x ∷ xs) all = (keeps x all.0, all.1)
all-changed P g keeps (suc i) (x ∷ xs) all = subst (AllRows P) (sym (changed_at-suc g i x xs)) (all.0, all-changed P g keeps i xs all.1)

all-more : {X : Type 0} (P : X → Type 0) (xs : List X) (x : X) → AllRows P xs → P x → AllRows P (xs ++ x ∷ [])
all-more P [] x all one = (one, tt)
all-more P (y ∷ xs) x all one = (all.0, all-more P xs x all.1 one)

last-row : {X : Type 0} (P : X → Type 0) (xs : List X) (x : X) → AllRows P (xs ++ x ∷ []) → P x
last-row P [] x all = all.0
last-row P (y ∷ xs) x all = last-row P xs x all.1

-- ---- a type that has a version keeps it
call-keeps : (a : ℕ) (e : KindEvent) (k : ClosedKind) → HasVersion k → HasVersion (call_kind a e k)
call-keeps a e k has = omega (arith, has, by-event k.machine (newest_of k.machine.versions) e)

kind-keeps : (a t : ℕ) (e : KindEvent) (r : Run) → AllRows HasVersion r.kinds → AllRows HasVersion (on_kind a t e r).kinds
kind-keeps a t e r all = all-changed HasVersion (call_kind a e) (call-keeps a e) t r.kinds all

created-keeps : (f : File) (a : ℕ) (r : Run) (o : Option VersionModel) (c : CaseId) → AllRows HasVersion r.kinds → AllRows HasVersion (created f a c o r).kinds
created-keeps f a r None c all = all
created-keeps f a r (Some v) c all = all

migrated-keeps : (f : File) (a t many : ℕ) (r : Run) (o : Option VersionModel) → AllRows HasVersion r.kinds → AllRows HasVersion (migrated f a t many o r).kinds
migrated-keeps f a t many r None all = all
migrated-keeps f a t many r (Some v) all = all

acted-keeps : (f : File) (a : ℕ) (x : Act) (r : Run) → AllRows HasVersion r.kinds → AllRows HasVersion (acted f a x r).kinds
acted-keeps f a (act.Create c) r all = created-keeps f a (on_kind a c.type_no kind_event.Newest r) (newest c.type_no r) c (kind-keeps a c.type_no kind_event.Newest r all)
acted-keeps f a (act.Start c node) r all = all
acted-keeps f a (act.Withdraw c node) r all = all
acted-keeps f a (act.End c node choice writes) r all = all
acted-keeps f a (act.Change c ops) r all = all
acted-keeps f a (act.Install t ops) r all = kind-keeps a t (kind_event.Install ops) r all
acted-keeps f a (act.Migrate t many) r all = migrated-keeps f a t many (on_kind a t kind_event.Newest r) (newest t r) (kind-keeps a t kind_event.Newest r all)

-- a sound type is defined
defined-has : (n : ℕ) (d : TypeDecl) → IsSound d → HasVersion (defined n d)
defined-has n d sound = let made = ap (λ (p : KindModel × KindReply). length p.0.versions) (sound-defined n d.schema sound) in omega (arith, made)

-- ---- behind what a unit says
type-kept : (c d : Contents) (r : Run) (s : SaysType c d) → IsRunOf c r → IsReady (settled d) → IsRunOf (settled d) (with_kind s.one r)
type-kept c d r s h ready = record {
  kinds = omega (arith, h.kinds, ap length s.types, length-append c.types.items (s.one ∷ []), length-append r.kinds (defined (length r.kinds) s.one ∷ []));
  cases = h.cases ∙ ap length (sym s.cases);
  placed = ready.placed;
  typed = ready.typed;
  versions =
      all-more HasVersion r.kinds (defined (length r.kinds) s.one) h.versions
      (defined-has (length r.kinds) s.one (last-row IsSound c.types.items s.one (subst (AllRows IsSound) s.types ready.sound)));
}

case-kept : (c d : Contents) (r : Run) (s : SaysCase c d) → IsRunOf c r → IsReady (settled d) → IsRunOf (settled d) (with_case s.one r)
case-kept c d r s h ready = record {
  kinds = h.kinds ∙ ap length (sym s.types);
  cases = omega (arith, h.cases, ap length s.cases, length-append c.cases.items (s.one ∷ []), length-append r.cases (uncalled s.one ∷ []));
  placed = ready.placed;
  typed = ready.typed;
  versions = h.versions;
}

same-kept : (c d : Contents) (r : Run) (l : Option Line) → SaysLine c d l → IsRunOf c r → IsReady (settled d) → IsRunOf (settled d) r
same-kept c d r l s h ready = record {
  kinds = h.kinds ∙ ap length (sym s.types);
  cases = h.cases ∙ ap length (sym s.cases);
  placed = ready.placed;
  typed = ready.typed;
  versions = h.versions;
}

line-kept : (f : File) (d : Contents) (r : Run) (l : Option Line) → IsRunOf d r → IsRunOf d (line_worked f l r)
line-kept f d r None h = h
line-kept f d r (Some l) h = record {
  kinds = kinds-worked f r l ∙ h.kinds;
  cases = cases-worked f r l ∙ h.cases;
  placed = h.placed;
  typed = h.typed;
  versions = acted-keeps f l.actor l.act r h.versions;
}

kept-as : (c d : Contents) (r q : Run) → run_behind c d r ≡ q → IsRunOf (settled d) q → IsRunOf (settled d) (run_behind c d r)
kept-as c d r q is h = subst (λ x. IsRunOf (settled d) x) (sym is) h

pub run-kept : (c d : Contents) (r : Run) (said : Said) → IsRunOf c r → SaysBehind c d said → IsReady (settled d) → IsRunOf (settled d) (run_behind c d r)
run-kept c d r say.«Type» h s ready = kept-as c d r (with_kind s.one r) (run-type c d r s) (type-kept c d r s h ready)
run-kept c d r say.Case h s ready = kept-as c d r (with_case s.one r) (run-case c d r s) (case-kept c d r s h ready)
run-kept c d r (say.Line l) h s ready =
    kept-as c d r (line_worked (file_of (settled d)) (Some l) r) (run-line c d r (Some l) s) (line-kept (file_of (settled d)) (settled d) r (Some l) (same-kept c d r (Some l) s h ready))
run-kept c d r say.Other h s ready = kept-as c d r r (run-line c d r None s) (same-kept c d r None s h ready)
