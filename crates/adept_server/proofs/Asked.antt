-- What a type answers to whom it defines and who asks it.
use Rattle.adept_server.proofs.Common.{[], ℕ, ◌++◌, ◌+◌, ◌<◌, ◌^◌, ◌∙◌, ◌∷◌, ◌≡◌, ◌≤◌, ◌⊎◌, ap, AreShort, arith, CallEach, CallFault, Calls, CallsCase, CallsCases, CallsKind, case_after, case_count, case_pass, case_reply, CaseId, CasePass}
use Rattle.adept_server.proofs.Common.{Creates, defined_by, DeskView, drop, entry, Err, Event, event_on, fault_of, get_or, get_or_from_slice_get, has_case, has_kind, has_version, IfErr, in_row, inl, IsDefinedFor, IsDesk, IsErrAnd, IsLegal}
use Rattle.adept_server.proofs.Common.{IsLegalFrom, kind_after, kind_reply, KindEvent, KindModel, KindPass, KindReply, length, List, Migrates, newest-told, newest_of, None, not_defined, Ok, OnOk, Option, refl, Reply, Result, set, slice_get}
use Rattle.adept_server.proofs.{Common.{Some, state_after, subst, sym, take, tells_newest, tells_version, true, unasked, VersionModel, versions-kept}, Called.not_called, Fronts.all_in_front, Histories.{state-append, last-reply}}
use Rattle.adept_server.proofs.{Keeping.{answered, kind_now_defined}, Places.set_same, Rows.{there_at, in_there}, Short.short_at}
use Rattle.std.specs.Result.{result_map_both}
use Rattle.adept_server.specs.Calling.Migrates.{unasked as none_moves, asked as none_told, told}
use Rattle.case_core.specs.declared.events.Event.TheVariants as event
use Rattle.turn_cell.specs.declared.faults.CallFault.TheVariants.{NoMemory}
use Rattle.type_core.specs.declared.events.KindEvent.TheVariants as kind_event
use Rattle.type_core.specs.declared.replies.KindReply.TheVariants as reply
use Rattle.wsm_schema.specs.SchemaModel.{SchemaModel}
use Rattle.wsm_sound.proofs.NoFaults.{first_taken}

-- where memory runs out before a call, the desk is as it was
pub kind_unmade : (e : KindEvent) (t : ℕ) (v : DeskView) → IsDesk v → has_kind v t → CallsKind e t (Err NoMemory) v v
kind_unmade e t v desk there =
    let p = there_at v.kinds t there in
    record {
      called = record {
        before = p.0;
        behind = p.0;
        there = p.1;
        called = not_called kind_after kind_reply e p.0 (desk.kinds t p.0 p.1).legal;
        others = set_same v.kinds t p.0 p.1;
      };
      others = refl;
    }

pub case_unmade : (e : Event) (id : CaseId) (v : DeskView) → IsDesk v → has_case v id → CallsCase e id (Err NoMemory) v v
case_unmade e id v desk there =
    let row = in_there id.place (slice_get v.cases id.type_no) there in
    let p = there_at row.0 id.place row.2 in
    let pass : case_pass v id ≡ Some p.0 = ap (in_row id.place) row.1 ∙ p.1 in
    record {
      row = row.0;
      row_behind = row.0;
      there = row.1;
      called = record {
        before = p.0;
        behind = p.0;
        there = p.1;
        called = not_called case_after case_reply e p.0 (desk.cases id p.0 pass).legal;
        others = set_same row.0 id.place p.0 p.1;
      };
      others = ap (λ (rows : List (List CasePass)). let w : DeskView = record v { cases = rows } in w) (set_same v.cases id.type_no row.0 row.1);
    }

-- the state in which a type was called, and its reply there
the_reply : (e : KindEvent) (t : ℕ) (p q : KindPass) (r : KindReply) (c : Calls kind_after kind_reply e p r q) → q.opening ≡ Some (not_defined t) → r ≡ kind_reply (state_after kind_after (not_defined t) (p.seen ++ c.others)) e
the_reply e t p q r c opening =
    let seen = p.seen ++ c.others in
    let legal : IsLegal kind_after kind_reply (not_defined t) (seen ++ entry p.number e r ∷ []) = subst (IsLegal kind_after kind_reply (not_defined t)) c.seen (subst (λ o. IsLegalFrom kind_after kind_reply o q.seen) opening c.legal) in
    last-reply kind_after kind_reply (not_defined t) seen (entry p.number e r) legal

-- a sound schema makes a version, unless there is one
define-tells : (k : KindModel) (schema : SchemaModel) → fault_of schema ≡ None → tells_version (kind_reply k (kind_event.Define schema)) ≡ true
define-tells k schema sound = go (newest_of k.versions)
  where
    go : (newest : Option VersionModel) → tells_version (event_on k newest (kind_event.Define schema)).1 ≡ true
    go None = ap (λ r. tells_version (defined_by k r).1) (first_taken k.type_no schema sound)
    go (Some v) = refl

module _ (t : ℕ) (v w : DeskView) (desk : IsDesk v) where
  -- behind the definition of a sound schema the type is defined for the desk
  pub now_defined : (schema : SchemaModel) (answer : Result KindReply CallFault) → CallsKind (kind_event.Define schema) t answer v w → fault_of schema ≡ None → OnOk answer (IsDefinedFor w t)
  now_defined schema (Err f) k sound = tt
  now_defined schema (Ok r) k sound =
      let pass = desk.kinds t k.called.before k.called.there in
      let opening = k.called.called.opening ∙ pass.opening_is in
      let c = answered (kind_event.Define schema) k.called.before k.called.behind (Ok r) r refl k.called.called in
      let is = the_reply (kind_event.Define schema) t k.called.before k.called.behind r c opening in
      kind_now_defined (kind_event.Define schema) t (Ok r) v w k r refl (ap tells_version is ∙ define-tells (state_after kind_after (not_defined t) (k.called.before.seen ++ c.others)) schema sound) desk

  -- a type that is defined for the desk answers the newest version
  pub newest_answered : (r : KindReply) → CallsKind kind_event.Newest t (Ok r) v w → IsDefinedFor v t → tells_newest r ≡ true
  newest_answered r k defined =
      let p = k.called.before in
      let pass = desk.kinds t p k.called.there in
      let opening = k.called.called.opening ∙ pass.opening_is in
      let c = answered kind_event.Newest p k.called.behind (Ok r) r refl k.called.called in
      let has : has_version t (Some p) = subst (has_version t) k.called.there defined in
      let state = state_after kind_after (not_defined t) p.seen in
      let grown = versions-kept state c.others in
      let all = ap (λ (s : KindModel). length s.versions) (state-append kind_after (not_defined t) p.seen c.others) in
      let some : 0 < length (state_after kind_after (not_defined t) (p.seen ++ c.others)).versions = omega arith in
      let newest = newest-told (state_after kind_after (not_defined t) (p.seen ++ c.others)) some in
      ap tells_newest (the_reply kind_event.Newest t p k.called.behind r c opening ∙ newest.1)

-- a call before which memory ran out answers so
pub kind_failed : (e : KindEvent) (t : ℕ) (v : DeskView) (answer : Result KindReply CallFault) → IsErrAnd answer (λ f. f ≡ NoMemory) → IsDesk v → has_kind v t → CallsKind e t answer v v
kind_failed e t v (Ok r) is desk there = absurd is
kind_failed e t v (Err f) is desk there = subst (λ x. CallsKind e t (Err x) v v) (sym is) (kind_unmade e t v desk there)

pub case_failed : (e : Event) (id : CaseId) (v : DeskView) (answer : Result Reply CallFault) → IsErrAnd answer (λ f. f ≡ NoMemory) → IsDesk v → has_case v id → CallsCase e id answer v v
case_failed e id v (Ok r) is desk there = absurd is
case_failed e id v (Err f) is desk there = subst (λ x. CallsCase e id (Err x) v v) (sym is) (case_unmade e id v desk there)

-- a case is not created where the type did not answer
pub create_unasked : (id : CaseId) (v w : DeskView) (asked : Result KindReply CallFault) (answer : Result Reply CallFault) (f : CallFault) → asked ≡ Err f → IsErrAnd answer (λ x. x ≡ f) → CallsKind kind_event.Newest id.type_no asked v w → Creates id answer v w
create_unasked id v w asked (Ok r) f is same called = absurd same
create_unasked id v w asked (Err x) f is same called = unasked f (ap Err same) (subst (λ a. CallsKind kind_event.Newest id.type_no a v w) is called)

-- want of memory is then the type's
pub room_unasked : (A B : Type 0) (asked : Result KindReply CallFault) (answer : Result Reply CallFault) (f : CallFault) → asked ≡ Err f → IsErrAnd answer (λ x. x ≡ f) → IfErr asked (λ x. x ≡ NoMemory → A) → IfErr answer (λ x. x ≡ NoMemory → A ⊎ B)
room_unasked A B asked (Ok r) f is same room = absurd same
room_unasked A B asked (Err x) f is same room = λ none. inl (subst (λ o. IfErr o (λ y. y ≡ NoMemory → A)) is room (sym same ∙ none))

-- where a type did not answer, or the batch was not made, the cases do not move
pub none_asked : {X Y : Type 0} (g : X → Y) (o : Result X CallFault) (f : CallFault) → IsErrAnd o (λ x. x ≡ f) → result_map_both g (λ (x : CallFault). x) o ≡ Err f
none_asked g (Ok x) f same = absurd same
none_asked g (Err x) f same = ap Err same

pub migrate_unasked : (t many : ℕ) (v w : DeskView) (asked : Result KindReply CallFault) (answer : Result (List (Result Reply CallFault)) CallFault) (f : CallFault) → asked ≡ Err f → answer ≡ Err f → CallsKind kind_event.Newest t asked v w → Migrates t many answer v w
migrate_unasked t many v w asked answer f is same called = none_moves f same (subst (λ a. CallsKind kind_event.Newest t a v w) is called)

pub migrate_untold : (t many : ℕ) (v u w : DeskView) (version : VersionModel) (asked : Result KindReply CallFault) (answer : Result (List (Result Reply CallFault)) CallFault) → asked ≡ Ok (reply.Is version) → answer ≡ Err NoMemory → w ≡ u
    → CallsKind kind_event.Newest t asked v u → Migrates t many answer v w
migrate_untold t many v u w version asked answer is out same called = none_told version out (subst (λ x. CallsKind kind_event.Newest t (Ok (reply.Is version)) v x) (sym same) (subst (λ a. CallsKind kind_event.Newest t a v u) is called))

-- where as many cases are told as no type has, each case of the type is told
all_cases : (e : Event) (t many : ℕ) (answers : List (Result Reply CallFault)) (v w : DeskView) → AreShort v.cases → 2 ^ 32 ≤ many + 1 → CallsCases e t many answers v w → CallsCases e t (case_count v t) answers v w
all_cases e t many answers v w short enough k =
    let within = short_at v.cases t k.row k.there short in
    let count : case_count v t ≡ length k.row = ap length (get_or_from_slice_get v.cases t k.row [] k.there) in
    let all = all_in_front many k.row (omega (arith, within, enough)) in
    record {
      row = k.row;
      front = k.front;
      there = k.there;
      called = subst (λ vs. CallEach case_after case_reply e vs answers k.front) (all.0 ∙ ap (λ n. take n k.row) (sym count)) k.called;
      others = k.others ∙ ap (λ (rest : List CasePass). let x : DeskView = record v { cases = set v.cases t (k.front ++ rest) } in x) (all.1 ∙ ap (λ n. drop n k.row) (sym count));
    }

pub all_move : (t many : ℕ) (v w : DeskView) (answer : Result (List (Result Reply CallFault)) CallFault) → IsDesk v → 2 ^ 32 ≤ many + 1 → Migrates t many answer v w → Migrates t (case_count v t) answer v w
all_move t many v w answer desk enough (none_moves f is k) = none_moves f is k
all_move t many v w answer desk enough (none_told version is k) = none_told version is k
all_move t many v w answer desk enough (told version between answers is k c) =
    let same : between.cases ≡ v.cases = ap (λ (x : DeskView). x.cases) k.others in
    let all = all_cases (event.Migrate version) t many answers between w (subst AreShort (sym same) desk.short) enough c in
    told version between answers is k (subst (λ rows. CallsCases (event.Migrate version) t (length (get_or rows t [])) answers between w) same all)
