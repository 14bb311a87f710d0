-- The parts of a report, one behind another.
use Rattle.case_audit.proofs.Common.{ℕ, ◌&&◌, ◌==◌, ◌∙◌, ◌≡◌, and_then, asked_phases, Bool, by-test, Bytes, cases_behind, cases_reader, ClosedCase, ClosedKind, EndsLine, false, File, first_line, Followed, FollowedBy, Follows, follows-mapped}
use Rattle.case_audit.proofs.Common.{follows-stopped, follows-then, given-follows, given-stops, given-then, given-wrong, header-ends, is_some, IsJudged, kinds_reader, left_of, length, List, None, Option, option_map, Reader, refl, Run, Some}
use Rattle.case_audit.proofs.Common.{subst, summary, summary-ends, telling, true}
use Rattle.std.specs.Bool.{then_some}
use Rattle.audit_model.specs.ReportReader.{given}

-- what is known of a value is known of what it is
pub followed-as : {A B : Type 0} (r : Reader B) (old new : Followed) (g : A → B) (o p : Option A) → o ≡ p → Follows r old new (option_map g o) → Follows r old new (option_map g p)
followed-as r old new g o p is h = subst (λ q. Follows r old new (option_map g q)) is h

-- a piece was followed, whether all of it stands there or not
pub given-judged : {A : Type 0} (text : Bytes) (a : A) (old new : Followed) (stands : Bool) → EndsLine text → FollowedBy text old new stands → Follows (given text a) old new (then_some stands a)
given-judged text a old new true ends piece = given-follows text a old new ends piece
given-judged text a old new false ends piece = given-stops text a old new ends piece

module _ (f : File) where
  abbrev types_reader : Reader (List ClosedKind)
  types_reader = and_then (given (first_line f) 0) (λ (n : ℕ). kinds_reader f 0 f.types)

  abbrev runs_reader : Reader Run
  runs_reader = and_then types_reader (cases_behind f)

  abbrev totals : Run → Reader Run
  totals r = given (summary f r) r

  abbrev cases_of : List ClosedKind → Reader (List ClosedCase)
  cases_of kinds = cases_reader f (asked_phases (telling kinds) f.phases) f.cases

  types-wrong : (old new : Followed) → Follows types_reader old new None → IsJudged f old new false
  types-wrong old new wrong = (None, refl, follows-stopped totals runs_reader old new (follows-stopped (cases_behind f) types_reader old new wrong))

  pub first-wrong : (old new : Followed) → FollowedBy (first_line f) old new false → IsJudged f old new false
  first-wrong old new first = types-wrong old new (given-wrong {A = ℕ} (first_line f) 0 (λ (n : ℕ). kinds_reader f 0 f.types) old new (header-ends f) first)

  pub kinds-wrong : (old mid new : Followed) → FollowedBy (first_line f) old mid true → Follows (kinds_reader f 0 f.types) mid new None → IsJudged f old new false
  kinds-wrong old mid new first wrong = types-wrong old new (given-then {A = ℕ} (first_line f) 0 (λ (n : ℕ). kinds_reader f 0 f.types) old mid new None (header-ends f) first wrong)

  types-read : (old mid new : Followed) (kinds : List ClosedKind) → FollowedBy (first_line f) old mid true → Follows (kinds_reader f 0 f.types) mid new (Some kinds) → Follows types_reader old new (Some kinds)
  types-read old mid new kinds first read = given-then {A = ℕ} (first_line f) 0 (λ (n : ℕ). kinds_reader f 0 f.types) old mid new (Some kinds) (header-ends f) first read

  abbrev run_of : List ClosedKind → List ClosedCase → Run
  run_of kinds cases = record { kinds = kinds; cases = cases }

  runs-read : (old one two new : Followed) (kinds : List ClosedKind) (cases : Option (List ClosedCase)) → FollowedBy (first_line f) old one true → Follows (kinds_reader f 0 f.types) one two (Some kinds) → Follows (cases_of kinds) two new cases
      → Follows runs_reader old new (option_map (run_of kinds) cases)
  runs-read old one two new kinds cases first types read =
      follows-then (cases_behind f) types_reader kinds old two new (option_map (run_of kinds) cases) (types-read old one two kinds first types) (follows-mapped (run_of kinds) (cases_of kinds) two new cases read)

  pub cases-wrong : (old one two new : Followed) (kinds : List ClosedKind) → FollowedBy (first_line f) old one true → Follows (kinds_reader f 0 f.types) one two (Some kinds) → Follows (cases_of kinds) two new None → IsJudged f old new false
  cases-wrong old one two new kinds first types wrong = (None, refl, follows-stopped totals runs_reader old new (runs-read old one two new kinds None first types wrong))

  pub totals-judged : (old one two three new : Followed) (kinds : List ClosedKind) (cases : List ClosedCase) (whole stands : Bool) → FollowedBy (first_line f) old one true → Follows (kinds_reader f 0 f.types) one two (Some kinds)
      → Follows (cases_of kinds) two three (Some cases) → FollowedBy (summary f (run_of kinds cases)) three new whole → stands ≡ (whole && (length (left_of new) == 0)) → IsJudged f old new stands
  totals-judged old one two three new kinds cases whole stands first types read last is =
      let r = run_of kinds cases in
      let read_all = follows-then totals runs_reader r old three new _ (runs-read old one two three kinds (Some cases) first types read) (given-judged (summary f r) r three new whole (summary-ends f r) last) in
      (then_some whole r, is ∙ by-test (λ b. (b && (length (left_of new) == 0)) ≡ (is_some (then_some b r) && (length (left_of new) == 0))) whole (λ yes. refl) (λ no. refl), read_all)
