-- Desks that can work each line of a file.
use Rattle.crew_run.proofs.Common.{[], ℕ, ◌<◌, ◌∙◌, ◌∷◌, ◌≡◌, ◌≤◌, AllRows, ap, AreCounts, arith, beside, CanCall, CanWork, case_count, cases_of_type, declared-typed, DeskHeard, DeskSame, DeskView, File, get_or_from_slice_get, has_more}
use Rattle.crew_run.proofs.Common.{has_version, HasShape, HasShapeOf, Heard, IsDefinedFor, IsKnown, IsWorkable, kind_at, KindPass, KnowsTypes, length, Line, List, None, Option, prefix_self, refl, SeenSame, slice_get, Some}
use Rattle.crew_run.proofs.{Common.{subst, sym}, CasePlaces.{has-declared, row_counted}}
use mathlib.Core.List.{IsPrefix}
use Rattle.line_calls.proofs.Facts.{known-call, known-light}
use Rattle.line_calls.specs.{Calls.{call_of, call_weight}, Known.IsKnownCall, declared.calls.Call.Call}
use Rattle.line_calls.specs.declared.calls.Call.TheVariants as call
use Rattle.line_calls.specs.declared.calls.Told.TheVariants as tell

pub shape-of : (f : File) (v w : DeskView) → HasShapeOf v w → HasShape f v → HasShape f w
shape-of f v w (types, rows) k = record { types = types ∙ k.types; counted = subst (AreCounts f) (sym rows) k.counted }

-- a version is still known where more was seen
known-still : (v w : DeskView) (t : ℕ) → ((p : KindPass) → kind_at t v ≡ Some p → (q : KindPass) × (kind_at t w ≡ Some q) × IsPrefix p.seen q.seen) → IsDefinedFor v t → IsDefinedFor w t
known-still v w t more = go (slice_get v.kinds t) refl
  where
    go : (o : Option KindPass) → slice_get v.kinds t ≡ o → has_version t o → IsDefinedFor w t
    go None is has = absurd has
    go (Some p) is has = let (q, at_q, prefix) = more p is in subst (has_version t) (sym at_q) (has_more t p q prefix has)

pub knows-heard : (many : ℕ) (v w : DeskView) → DeskHeard v w → KnowsTypes many v → KnowsTypes many w
knows-heard many v w h knows t low = known-still v w t (λ p at. let (q, at_q, k) = beside Heard v.kinds w.kinds t p h.passes.kinds at in (q, at_q, k.more)) (knows t low)

pub knows-same : (many : ℕ) (v w : DeskView) → DeskSame v w → KnowsTypes many v → KnowsTypes many w
knows-same many v w s knows t low = known-still v w t (λ p at. let (q, at_q, same) = beside SeenSame v.kinds w.kinds t p s.kinds at in (q, at_q, subst (λ xs. IsPrefix p.seen xs) same (prefix_self p.seen))) (knows t low)

module _ (f : File) (workable : IsWorkable f) (v : DeskView) (able : HasShape f v) (knows : KnowsTypes (length f.types) v) where
  -- it has as many cases of each type as the file
  many-cases : (t : ℕ) → t < length f.types → case_count v t ≡ cases_of_type t f.cases
  many-cases t low = let (row, at_row, many) = row_counted v.cases t (cases_of_type t f.cases) (able.counted.each t low) in ap length (get_or_from_slice_get v.cases t row [] at_row) ∙ many

  can-call : (k : Call) → IsKnownCall (length f.types) f.cases k → call_weight k ≤ 768 → CanCall v k
  can-call (call.Kind t e) k light = ((let e = able.types in omega (arith, k)), omega (arith, light))
  can-call (call.Case c e) k light = (has-declared f v.cases c workable able.counted k, omega (arith, light))
  can-call (call.Newest t (tell.Create c)) (own, k) light = (own, has-declared f v.cases c workable able.counted k, knows c.type_no (declared-typed (length f.types) f.cases c workable.typed k))
  can-call (call.Newest t (tell.Migrate many)) (k, enough) light = ((let e = able.types in omega (arith, k)), knows t k, omega (arith, enough, many-cases t k))

  -- it can work lines that are known
  pub can-work : (lines : List Line) → AllRows (IsKnown (length f.types) (length f.actors) f.cases) lines → CanWork v lines
  can-work [] all = tt
  can-work (l ∷ lines) (k, all) = (λ own a roles. can-call (call_of a roles l.act) (known-call a roles (length f.types) f.cases l.act k.act) (known-light a roles (length f.types) f.cases l.act k.act), can-work lines all)
