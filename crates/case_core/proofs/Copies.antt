-- A copy of what a case is besides its trail is that of the same case.
use Rattle.case_core.proofs.Common.{◌∙◌, ◌≡◌, ap, Err, IfOk, IsLive, KeepsItems, Kept, List, Live, live_in, LiveModel, marks_in, None, Ok, Op, Option, refl, Result, SchemaModel, Some, subst, sym, TrailModel, VersionModel}
use Rattle.std.proofs.Common.{option_map}
use Rattle.case_core.proofs.KeptItems.{keeps-of, told-of}

abbrev made : TrailModel → VersionModel → List Op → SchemaModel → LiveModel
made t base own schema = record { base = base; own = own; schema = schema; trail = t }

copied-case : (t : TrailModel) (l new : Live) → new.base ≡ l.base → new.own ≡ l.own → new.now.value ≡ l.now.value → live_in t new ≡ live_in t l
copied-case t l new base own schema =
    ap (λ (b : VersionModel). made t b new.own new.now.value) base ∙ ap (λ (o : List Op). made t l.base o new.now.value) own ∙ ap (λ (s : SchemaModel). made t l.base l.own s) schema

copied-live : (t : TrailModel) (l new : Live) → live_in t new ≡ live_in t l → new.marks.rows ≡ l.marks.rows → new.items.rows ≡ l.items.rows → IsLive t l → IsLive t new
copied-live t l new case marks items is =
    let same : live_in t l ≡ live_in t new = sym case in
    let rows : new.marks.rows ≡ marks_in (live_in t new) = marks ∙ is.1.0 ∙ ap marks_in same in
    let keeps : KeepsItems (live_in t new) l.items.rows = keeps-of (live_in t l) (live_in t new) same l.marks.rows is.1.0 l.items.rows is.1.1 in
    (subst Kept same is.0, (rows, told-of (live_in t new) (live_in t new) refl new.marks.rows rows new.items.rows (subst (KeepsItems (live_in t new)) (sym items) keeps)))

pub live-copied : {X : Type 0} (t : TrailModel) (l : Live) (r : Result Live X) → IsLive t l → IfOk r (λ n. n.base ≡ l.base) → IfOk r (λ n. n.own ≡ l.own) → IfOk r (λ n. n.now.value ≡ l.now.value)
    → IfOk r (λ n. n.marks.rows ≡ l.marks.rows) → IfOk r (λ n. n.items.rows ≡ l.items.rows) → IfOk r (IsLive t)
live-copied t l (Ok n) is base own schema marks items = copied-live t l n (copied-case t l n base own schema) marks items is
live-copied t l (Err e) is base own schema marks items = tt

-- a created case has the trail that it is kept with
pub trail-of : (t : TrailModel) (o : Option Live) (l : LiveModel) → option_map (live_in t) o ≡ Some l → t ≡ l.trail
trail-of t None l is = absurd (cc (is))
trail-of t (Some x) l is = let same : live_in t x ≡ l = cc (is) in ap (λ (k : LiveModel). k.trail) same
