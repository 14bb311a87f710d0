-- What the definitions of types leave of the first desk.
use Rattle.crew_run.proofs.Common.{[], ℕ, ◌++◌, ◌+◌, ◌∙◌, ◌∷◌, ◌≡◌, ◌≢◌, ap, AreCounts, arith, CallFault, CallsKind, CasePass, Defines, DeskView, entry, Err, File, HasShape, IsDefinedFor, IsDefinedUpTo, IsDesk, IsIdle}
use Rattle.crew_run.proofs.Common.{kind_beside, kind_still_defined, KindEvent, KindPass, KindReply, KnowsTypes, length, length-set, List, map, Ok, refl, Result, set-here, set-other, slice_get, Some, some_one, subst, sym, TypeDecl}
use mathlib.Core.Logic.{dite}
use native.Mathlib.Decide.{ℕ_discrete}
use Rattle.script_run.specs.Entries.{KindEntry}
use Rattle.type_core.specs.declared.events.KindEvent.TheVariants as event

module _ (types : List TypeDecl) where
  pub defines-none : (v : DeskView) → IsIdle v → Defines types 0 v v
  defines-none v idle = record {
    number = refl;
    made = refl;
    taken = refl;
    cases = refl;
    many = refl;
    each = λ t q at.
        let (own, past) = idle.kinds t q at in
        (record { few = (let e = ap length own in omega arith); told = λ low. absurd (omega (arith, low)); untold = λ le. own }, past);
  }

  module _ (v m w : DeskView) (i : ℕ) (d : Defines types i v m) (idle : v.number ≡ 0) (desk : IsDesk m) (e : KindEvent) (answer : Result KindReply CallFault) (k : CallsKind e i answer m w) where
    -- one type was called, and of the others all is as before
    called : (next : ℕ) → IsDefinedUpTo types next i k.called.behind.own_calls → ((t : ℕ) (own : List KindEntry) → t ≢ i → IsDefinedUpTo types i t own → IsDefinedUpTo types next t own) → Defines types next v w
    called next here others =
        let beside = kind_beside e i answer m w k in
        record {
          number = beside.number ∙ d.number;
          made = beside.made ∙ d.made;
          taken = beside.taken ∙ d.taken;
          cases = ap (λ (x : DeskView). x.cases) k.others ∙ d.cases;
          many = ap length k.called.others ∙ (length-set m.kinds i k.called.behind ∙ d.many);
          each = λ t q at.
              dite (ℕ_discrete t i)
              (λ (same : t ≡ i).
              let stands : slice_get w.kinds t ≡ Some k.called.behind = ap (slice_get w.kinds) same ∙ (ap (λ ps. slice_get ps i) k.called.others ∙ set-here m.kinds i k.called.behind k.called.before k.called.there) in
              let is : k.called.behind ≡ q = some_one stands at in
              let before = d.each i k.called.before k.called.there in
              subst (λ (p : KindPass). IsDefinedUpTo types next t p.own_calls × (p.past ≡ [])) is (subst (λ n. IsDefinedUpTo types next n k.called.behind.own_calls) (sym same) here, k.called.called.past ∙ before.1))
              (λ (not : t ≢ i).
              let before = d.each t q (sym (set-other m.kinds i t k.called.behind (λ same. not (sym same))) ∙ (sym (ap (λ ps. slice_get ps t) k.called.others) ∙ at)) in
              (others t q.own_calls not before.0, before.1));
        }

  module _ (v m w : DeskView) (i : ℕ) (d : Defines types i v m) (idle : v.number ≡ 0) (desk : IsDesk m) (decl : TypeDecl) (at_i : slice_get types i ≡ Some decl) where
    pub defines-one : (answer : KindReply) → CallsKind (event.Define decl.schema) i (Ok answer) m w → Defines types (i + 1) v w
    defines-one answer k =
        let before = k.called.before in
        let own : k.called.behind.own_calls ≡ entry 0 (event.Define decl.schema) answer ∷ [] =
        k.called.called.outcome.own_calls
        ∙ (ap (λ xs. xs ++ entry before.number (event.Define decl.schema) answer ∷ []) ((d.each i before k.called.there).0.untold (omega arith))
        ∙ ap (λ n. entry n (event.Define decl.schema) answer ∷ []) ((desk.kinds i before k.called.there).number ∙ (d.number ∙ idle))) in
        called v m w i d idle desk (event.Define decl.schema) (Ok answer) k (i + 1)
        (record {
          few = (let e = ap length own in omega arith);
          told = λ low other at. (answer, own ∙ ap (λ (x : TypeDecl). entry 0 (event.Define x.schema) answer ∷ []) (some_one at_i at));
          untold = λ le. absurd (omega (arith, le));
        })
        (λ t own not b. record { few = b.few; told = λ low. b.told (omega (arith, low, not)); untold = λ le. b.untold (omega (arith, le)) })

    pub defines-no_more : (e : KindEvent) (f : CallFault) → CallsKind e i (Err f) m w → Defines types i v w
    defines-no_more e f k =
        called v m w i d idle desk e (Err f) k i (subst (IsDefinedUpTo types i i) (sym k.called.called.outcome.own_calls) (d.each i k.called.before k.called.there).0) (λ t own not b. b)

-- a desk that has defined types has the file's types and cases still
pub shape-defined : (f : File) (done : ℕ) (v w : DeskView) → Defines f.types done v w → HasShape f v → HasShape f w
shape-defined f done v w d k = record { types = d.many ∙ k.types; counted = subst (λ (rows : List (List CasePass)). AreCounts f (map length rows)) (sym d.cases) k.counted }

-- one type more is known
pub knows-more : (e : KindEvent) (i : ℕ) (answer : Result KindReply CallFault) (m w : DeskView) → CallsKind e i answer m w → IsDefinedFor w i → KnowsTypes i m → KnowsTypes (i + 1) w
knows-more e i answer m w k here knows t low =
    dite (ℕ_discrete i t) (λ (same : i ≡ t). subst (IsDefinedFor w) same here) (λ not. kind_still_defined e i answer m w k t (knows t (omega (arith, low, not))))
