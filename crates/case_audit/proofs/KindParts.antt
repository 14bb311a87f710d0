-- A type's part of a report: its line and its definition, then its journal.
use Rattle.case_audit.proofs.Common.{ℕ, ◌++◌, ◌+◌, ◌≡◌, Bytes, ClosedKind, defined, defined_line, ends-behind, EndsLine, entry, false, File, filled, Followed, FollowedBy, Follows, given-then, given-wrong, GrowsTo, kind-line, kind-stopped}
use Rattle.case_audit.proofs.Common.{kind-whole, kind_journal, kind_reader, kind_reply, kind_shown, KindEntry, kinds, Line, List, None, not_defined, owed_kind, program, refl, Some, StopsAt, subst, true, type_head, TypeDecl}
use Rattle.type_core.specs.declared.events.KindEvent.TheVariants as kind_event

module _ (f : File) (t : ℕ) (d : TypeDecl) where
  abbrev front_of : ClosedKind → Bytes
  front_of k = type_head d ++ defined_line f k

  abbrev definition : KindEntry
  definition = entry program (kind_event.Define d.schema) (kind_reply (not_defined t) (kind_event.Define d.schema))

  front-ends : EndsLine (front_of (defined t d))
  front-ends = ends-behind (type_head d) (defined_line f (defined t d)) (record { before = kind_shown f 1 definition; is = kind-line f 1 definition })

  pub front-wrong : (k : ClosedKind) (old new : Followed) → k ≡ defined t d → FollowedBy (front_of k) old new false → Follows (kind_reader f t d) old new None
  front-wrong k old new is front =
      given-wrong (front_of (defined t d)) (defined t d) (kind_journal f t) old new front-ends (subst (λ j. FollowedBy (front_of j) old new false) is front)

  pub journal-wrong : (k : ClosedKind) (old mid new : Followed) (owed : List (List Line)) → k ≡ defined t d → FollowedBy (front_of k) old mid true → owed ≡ filled (owed_kind f t)
      → StopsAt (kinds f) k mid new (λ later. owed ++ later) → Follows (kind_reader f t d) old new None
  journal-wrong k old mid new owed is front same stop =
      given-then (front_of (defined t d)) (defined t d) (kind_journal f t) old mid new None front-ends (subst (λ j. FollowedBy (front_of j) old mid true) is front)
      (kind-stopped f t (defined t d) mid new owed refl same (subst (λ j. StopsAt (kinds f) j mid new (λ later. owed ++ later)) is stop))

  pub kind-right : (k to : ClosedKind) (old mid new : Followed) (owed : List (List Line)) → k ≡ defined t d → FollowedBy (front_of k) old mid true → owed ≡ filled (owed_kind f t)
      → GrowsTo (kinds f) k mid to new (λ later. owed ++ later) (λ later. later) → Follows (kind_reader f t d) old new (Some to)
  kind-right k to old mid new owed is front same grown =
      given-then (front_of (defined t d)) (defined t d) (kind_journal f t) old mid new (Some to) front-ends (subst (λ j. FollowedBy (front_of j) old mid true) is front)
      (kind-whole f t (defined t d) to mid new owed refl same (subst (λ j. GrowsTo (kinds f) j mid to new (λ later. owed ++ later) (λ later. later)) is grown))
