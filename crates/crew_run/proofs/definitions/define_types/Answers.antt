use Rattle.crew_run.proofs.{Common.{◌≡◌, arith, desk_view, Err, get_or, IsErrAnd, IsSound, length, Ok, OnOk, Result, row-at, SeesMany, slice_get-get_or}, FullSeen.{called-full, if_err-same}, TypesDefined.{defines-no_more, defines-none}}
use Rattle.crew_run.proofs.TypesDefined.{defines-one, knows-more}
use Rattle.turn_cell.specs.declared.faults.CallFault.TheVariants as fault
use Rattle.crew_run.proofs.definitions.define_types.Goals as goal

-- a fault is no success
not-ok : {A E : Type 0} (Q : Type 0) (r : Result A E) (f : E) → IsErrAnd r (λ e. e ≡ f) → OnOk r Q
not-ok Q (Ok a) f fails = absurd fails
not-ok Q (Err e) f fails = tt

pub loop-type_no-init : goal.loop-type_no-init
loop-type_no-init g c = record { desk = c.requires.desk; defines = defines-none c.args.types.now (desk_view c.args.desk.now) c.requires.idle; known = λ t low. absurd (omega (arith, low)) }

pub define-requires-clause-there : goal.define-requires-clause-there
define-requires-clause-there g c = omega (arith, c.loop-type_no.invariant.defines.many, c.requires.there)

pub returns-in_err-define-clause-defines : goal.returns-in_err-define-clause-defines
returns-in_err-define-clause-defines g c =
    let types = c.args.types.now in
    let i = c.loop-type_no.type_no in
    let k = c.loop-type_no.invariant in
    let decl = get_or types i c.index-types-type_no.result in
    let at = slice_get-get_or types i c.index-types-type_no.result (omega arith) in
    let d = defines-no_more types (desk_view c.args.desk.now) (desk_view c.loop-type_no.desk) (desk_view c.define.new.desk) i k.defines c.requires.number k.desk.desk decl at _ c.in_err-define.field-0.0 c.in_err-define.ensures.called in
    (i, d, not-ok (i ≡ length types) c.from_residual.result c.in_err-define.field-0.0 c.from_residual.ensures.1)

pub returns-in_err-define-clause-full : goal.returns-in_err-define-clause-full
returns-in_err-define-clause-full g c =
    if_err-same (λ x. x ≡ fault.Full → SeesMany (desk_view c.define.new.desk)) c.from_residual.result c.in_err-define.field-0.0 c.from_residual.ensures.1
    (called-full _ c.loop-type_no.type_no c.in_err-define.field-0.0 (desk_view c.loop-type_no.desk) (desk_view c.define.new.desk) c.in_err-define.ensures.called)

pub loop-type_no-preserved : goal.loop-type_no-preserved
loop-type_no-preserved g c =
    let types = c.args.types.now in
    let i = c.loop-type_no.type_no in
    let k = c.loop-type_no.invariant in
    let v = desk_view c.args.desk.now in
    let m = desk_view c.loop-type_no.desk in
    let w = desk_view c.define.new.desk in
    let decl = get_or types i c.index-types-type_no.result in
    let at = slice_get-get_or types i c.index-types-type_no.result (omega arith) in
    let e = c.in_ok-define.ensures in
    record {
      desk = e.desk;
      defines = defines-one types v m w i k.defines c.requires.number k.desk.desk decl at _ e.called;
      known = knows-more _ i _ m w e.called (e.defined (row-at IsSound types i decl c.requires.sound at)) k.known;
    }

pub returns-clause-defines : goal.returns-clause-defines
returns-clause-defines g c = (c.loop-type_no.type_no, c.loop-type_no.invariant.defines, omega (arith, c.loop-type_no-test.false))

pub returns-clause-known : goal.returns-clause-known
returns-clause-known g c = λ t low. c.loop-type_no.invariant.known t (omega (arith, low, c.loop-type_no-test.false))
