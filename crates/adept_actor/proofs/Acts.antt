-- What a call leaves of a desk.
use Rattle.adept_actor.proofs.Common.{[], ℕ, ◌&&◌, ◌+◌, ◌==◌, ◌∙◌, ◌∷◌, ◌≡◌, ◌≤◌, ap, AreOf, ArePart, arith, asked, Bool, CallFault, CallsCase, CallsCases, CallsKind, case_count, CaseId, Creates, DeskHasDone, DeskView, eq-eqb, Err, Event}
use Rattle.adept_actor.proofs.Common.{false, first_fault, get_or_from_slice_get, if◌then◌else◌, inl, inr, is_case, IsDesk, kind_beside, kind_keeps, KindEvent, KindReply, Leaves, LeavesSuch, length, length-map, length-take-le, List, Makes}
use Rattle.adept_actor.proofs.{Common.{map, Migrates, None, Ok, Option, refl, Reply, Result, SeesFull, set-here, slice_get, slice_get_past, Some, subst, suc, sym, take, told, told_each, told_some, true, zero}, Desks.{case-done, case-full}}
use Rattle.adept_actor.proofs.{Desks.{case-told, case_calls, case_only, cases-done, cases-told, desk-leaves, each_calls, first_cases, kind-done, kind-told, kind_only, nothing-done, reply_in, then-done}, Doing.{each-many, told_at}}
use Rattle.std.proofs.lemmas.Bool.{ltb-false}
use Rattle.std.specs.{Prelude.nat_lt, Result.result_err}
use Rattle.adept_actor.specs.Work.SeesFull.{of_kind as kind_is_full}
use Rattle.adept_server.specs.Calling.Creates.{unasked as uncreated, asked as created}
use Rattle.adept_server.specs.Calling.Migrates.{unasked as none_moves, asked as none_told, told as all_told}
use Rattle.case_core.specs.Machine.{case_after, case_reply}
use Rattle.case_core.specs.declared.events.Event.TheVariants as event
use Rattle.legal_run.specs.LineCalls.{Call as Told}
use Rattle.line_calls.specs.declared.calls.Call.{Call}
use Rattle.line_calls.specs.declared.calls.Call.TheVariants as call
use Rattle.line_calls.specs.declared.calls.Told.TheVariants as tell
use Rattle.turn_cell.specs.declared.faults.CallFault.TheVariants as fault
use Rattle.type_core.specs.declared.events.KindEvent.TheVariants as kind_event
use Rattle.type_core.specs.declared.replies.KindReply.TheVariants as reply
use Rattle.wsm_sound.specs.VersionModel.{VersionModel}

-- where a call answers that the journal is full, the desk has seen that
pub kind-full : (e : KindEvent) (t : ℕ) (f : CallFault) (v w : DeskView) → CallsKind e t (Err f) v w → f ≡ fault.Full → SeesFull w
kind-full e t f v w k is = kind_is_full t k.called.behind (ap (λ xs. slice_get xs t) k.called.others ∙ set-here v.kinds t k.called.behind k.called.before k.called.there) (k.called.called.full (ap Err is))

cell-full : (e : Event) (id : CaseId) (f : CallFault) (v w : DeskView) → CallsCase e id (Err f) v w → f ≡ fault.Full → SeesFull w
cell-full e id f v w k is =
    case-full (λ u. None) (case_only e id (Err f)) v w (case-told e id (Err f) v w k) id e
    (ap (λ b. if b && id.place == id.place then Some (e, Err f) else None) (eq-eqb id.type_no id.type_no refl) ∙ (ap (λ b. if b then Some (e, Err f) else None) (eq-eqb id.place id.place refl) ∙ ap (λ g. Some (e, Err g)) is))

-- where there is a fault, a case has told it, and where there is none, each was told
fault-at : (answers : List (Result Reply CallFault)) (f : CallFault) → first_fault answers ≡ Some f → (j : ℕ) × (slice_get answers j ≡ Some (Err f))
fault-at [] f is = absurd (cc (is))
fault-at (Ok r ∷ answers) f is = let (j, at) = fault-at answers f is in (suc j, at)
fault-at (Err g ∷ answers) f is = let same : g ≡ f = cc (is) in (zero, ap (λ h. Some (Err h)) same)

all-told : (n t : ℕ) (e : Event) (place : ℕ) (answers : List (Result Reply CallFault)) → first_fault answers ≡ None → (rs : List Reply) × (length rs ≡ length answers) × (told_some n t e place (map reply_in answers) ≡ told_each n t e place rs)
all-told n t e place [] is = ([], refl, refl)
all-told n t e place (Ok r ∷ answers) is = let (rs, many, same) = all-told n t e (place + 1) answers is in (r ∷ rs, ap suc many, ap (λ calls. told n (record { type_no = t; place = place }) e r ∷ calls) same)
all-told n t e place (Err f ∷ answers) is = absurd (cc (is))

-- what calls leave of other cells
kind-leaves : (e : KindEvent) (t : ℕ) (answer : Result KindReply CallFault) (v w : DeskView) (SuchCase : CaseId → Type 0) → CallsKind e t answer v w → LeavesSuch (λ u. (t == u) ≡ false) SuchCase v w
kind-leaves e t answer v w SuchCase k = desk-leaves (kind_only e t answer) (λ c. None) v w (kind-told e t answer v w k) (λ u. (t == u) ≡ false) SuchCase (λ u is. ap (λ b. if b then Some (e, answer) else None) is) (λ c such. refl)

case-leaves : (e : Event) (id : CaseId) (answer : Result Reply CallFault) (v w : DeskView) (SuchKind : ℕ → Type 0) → CallsCase e id answer v w → LeavesSuch SuchKind (λ c. is_case c id ≡ false) v w
case-leaves e id answer v w SuchKind k = desk-leaves (λ u. None) (case_only e id answer) v w (case-told e id answer v w k) SuchKind (λ c. is_case c id ≡ false) (λ u such. refl) (λ c is. ap (λ b. if b then Some (e, answer) else None) is)

cases-leave : (e : Event) (t many : ℕ) (answers : List (Result Reply CallFault)) (v w : DeskView) (SuchKind : ℕ → Type 0) → length answers ≤ many → CallsCases e t many answers v w → LeavesSuch SuchKind (λ c. (t == c.type_no && nat_lt c.place many) ≡ false) v w
cases-leave e t many answers v w SuchKind few k =
    desk-leaves (λ u. None) (first_cases e t answers) v w (cases-told e t many answers v w k) SuchKind (λ c. (t == c.type_no && nat_lt c.place many) ≡ false) (λ u such. refl) (λ c is. untold c (t == c.type_no) is)
  where
    untold : (c : CaseId) (b : Bool) → (b && nat_lt c.place many) ≡ false → (if b then told_at e (slice_get answers c.place) else None) ≡ None
    untold c true is = ap (told_at e) (slice_get_past answers c.place (let past = ltb-false c.place many is in omega (arith, few, past)))
    untold c false is = refl

pub leaves-then : (SuchKind : ℕ → Type 0) (SuchCase : CaseId → Type 0) (u v w : DeskView) → LeavesSuch SuchKind SuchCase u v → LeavesSuch SuchKind SuchCase v w → LeavesSuch SuchKind SuchCase u w
leaves-then SuchKind SuchCase u v w h k = record { kinds = λ t such. k.kinds t such ∙ h.kinds t such; cases = λ c such. k.cases c such ∙ h.cases c such }

-- the same of another name of the call, and of the fault
pub makes-as : {k l : Call} {o p : Option CallFault} (v w : DeskView) → k ≡ l → o ≡ p → Makes l p v w → Makes k o v w
makes-as {k} {l} {o} {p} v w is same made = subst (λ x. Makes x o v w) (sym is) (subst (λ x. Makes l x v w) (sym same) made)

-- the fault of a migration: that of its type, or the first of its cases'
abbrev pub met : Result (List (Result Reply CallFault)) CallFault → Option CallFault
met (Ok answers) = first_fault answers
met (Err f) = Some f

-- no call was made for want of memory
pub makes-none : (k : Call) (v : DeskView) → Makes k (Some fault.NoMemory) v v
makes-none k v = ((([], part k, nothing-done v), λ full. absurd (cc (full))), record { kinds = λ t such. refl; cases = λ c such. refl })
  where
    part : (k : Call) → ArePart v.number k []
    part (call.Kind t e) = refl
    part (call.Case c e) = refl
    part (call.Newest t (tell.Create c)) = inl refl
    part (call.Newest t (tell.Migrate many)) = inl refl

module _ (v w : DeskView) (desk : IsDesk v) where
  pub kind-makes : (e : KindEvent) (t : ℕ) (answer : Result KindReply CallFault) → CallsKind e t answer v w → Makes (call.Kind t e) (result_err answer) v w
  kind-makes e t answer k = (go answer k, kind-leaves e t answer v w (λ c. false ≡ false) k)
    where
      go : (a : Result KindReply CallFault) → CallsKind e t a v w → Leaves (AreOf v.number (call.Kind t e)) (ArePart v.number (call.Kind t e)) (result_err a) v w
      go (Ok r) k = (_, (r, refl), kind-done e t (Ok r) v w desk k)
      go (Err f) k = (([], refl, kind-done e t (Err f) v w desk k), kind-full e t f v w k)

  pub case-makes : (e : Event) (id : CaseId) (answer : Result Reply CallFault) → CallsCase e id answer v w → Makes (call.Case id e) (result_err answer) v w
  case-makes e id answer k = (go answer k, case-leaves e id answer v w (λ u. false ≡ false) k)
    where
      go : (a : Result Reply CallFault) → CallsCase e id a v w → Leaves (AreOf v.number (call.Case id e)) (ArePart v.number (call.Case id e)) (result_err a) v w
      go (Ok r) k = (_, (r, refl), case-done e id (Ok r) v w desk k)
      go (Err f) k = (([], refl, case-done e id (Err f) v w desk k), cell-full e id f v w k)

  -- a type was asked, and cases were told what it answered
  asked-then : (t : ℕ) (version : VersionModel) (m : DeskView) (calls : ℕ → List Told) → CallsKind kind_event.Newest t (Ok (reply.Is version)) v m → (IsDesk m → DeskHasDone (calls m.number) m w) → DeskHasDone (asked v.number t version ∷ calls v.number) v w
  asked-then t version m calls k done =
      let same = kind_beside kind_event.Newest t (Ok (reply.Is version)) v m k in
      then-done (asked v.number t version ∷ []) (calls v.number) v m w (kind-done kind_event.Newest t (Ok (reply.Is version)) v m desk k)
      (subst (λ n. DeskHasDone (calls n) m w) same.number (done (kind_keeps kind_event.Newest t (Ok (reply.Is version)) v m k desk)))

  pub create-makes : (id : CaseId) (answer : Result Reply CallFault) → Creates id answer v w → Makes (call.Newest id.type_no (tell.Create id)) (result_err answer) v w
  create-makes id answer (uncreated f is k) = (
    subst (λ a. Leaves (AreOf v.number (call.Newest id.type_no (tell.Create id))) (ArePart v.number (call.Newest id.type_no (tell.Create id))) (result_err a) v w) (sym is)
        (([], inl refl, kind-done kind_event.Newest id.type_no (Err f) v w desk k), kind-full kind_event.Newest id.type_no f v w k),
    kind-leaves kind_event.Newest id.type_no (Err f) v w (λ c. is_case c id ≡ false) k,
  )
  create-makes id answer (created version m k c) = (
    go answer c,
    leaves-then (λ u. (id.type_no == u) ≡ false) (λ c. is_case c id ≡ false) v m w (kind-leaves kind_event.Newest id.type_no (Ok (reply.Is version)) v m (λ c. is_case c id ≡ false) k)
        (case-leaves (event.Create version) id answer m w (λ u. (id.type_no == u) ≡ false) c),
  )
    where
      done : (a : Result Reply CallFault) → CallsCase (event.Create version) id a m w → DeskHasDone (asked v.number id.type_no version ∷ case_calls v.number (event.Create version) id a) v w
      done a c = asked-then id.type_no version m (λ n. case_calls n (event.Create version) id a) k (λ d. case-done (event.Create version) id a m w d c)

      go : (a : Result Reply CallFault) → CallsCase (event.Create version) id a m w → Leaves (AreOf v.number (call.Newest id.type_no (tell.Create id))) (ArePart v.number (call.Newest id.type_no (tell.Create id))) (result_err a) v w
      go (Ok r) c = (_, (version, r, refl), done (Ok r) c)
      go (Err f) c = ((_, inr (version, refl), done (Err f) c), cell-full (event.Create version) id f m w c)

  pub migrate-makes : (t many : ℕ) (answer : Result (List (Result Reply CallFault)) CallFault) → many ≤ case_count v t → Migrates t many answer v w → Makes (call.Newest t (tell.Migrate many)) (met answer) v w
  migrate-makes t many answer enough (none_moves f is k) = (
    subst (λ a. Leaves (AreOf v.number (call.Newest t (tell.Migrate many))) (ArePart v.number (call.Newest t (tell.Migrate many))) (met a) v w) (sym is)
        (([], inl refl, kind-done kind_event.Newest t (Err f) v w desk k), kind-full kind_event.Newest t f v w k),
    kind-leaves kind_event.Newest t (Err f) v w (λ c. (t == c.type_no && nat_lt c.place many) ≡ false) k,
  )
  migrate-makes t many answer enough (none_told version is k) = (
    subst (λ a. Leaves (AreOf v.number (call.Newest t (tell.Migrate many))) (ArePart v.number (call.Newest t (tell.Migrate many))) (met a) v w) (sym is)
        ((_, inr (version, [], omega arith, refl), kind-done kind_event.Newest t (Ok (reply.Is version)) v w desk k), λ full. absurd (cc (full))),
    kind-leaves kind_event.Newest t (Ok (reply.Is version)) v w (λ c. (t == c.type_no && nat_lt c.place many) ≡ false) k,
  )
  migrate-makes t many answer enough (all_told version m answers is k c) = (
    subst (λ a. Leaves (AreOf v.number (call.Newest t (tell.Migrate many))) (ArePart v.number (call.Newest t (tell.Migrate many))) (met a) v w) (sym is) (go (first_fault answers) refl),
    leaves-then (λ u. (t == u) ≡ false) (λ c. (t == c.type_no && nat_lt c.place many) ≡ false) v m w (kind-leaves kind_event.Newest t (Ok (reply.Is version)) v m (λ c. (t == c.type_no && nat_lt c.place many) ≡ false) k)
        (cases-leave (event.Migrate version) t many answers m w (λ u. (t == u) ≡ false) (omega (arith, as-many)) c),
  )
    where
      as-many : length answers ≡ many
      as-many =
          let there : slice_get v.cases t ≡ Some c.row = ap (λ rows. slice_get rows t) (sym (ap (λ (x : DeskView). x.cases) k.others)) ∙ c.there in
          let long : case_count v t ≡ length c.row = ap length (get_or_from_slice_get v.cases t c.row [] there) in
          each-many case_after case_reply (event.Migrate version) (take many c.row) answers c.front c.called ∙ length-take-le many c.row (omega (arith, enough, long))

      done : DeskHasDone (asked v.number t version ∷ each_calls v.number (event.Migrate version) t answers) v w
      done = asked-then t version m (λ n. each_calls n (event.Migrate version) t answers) k (λ d. cases-done (event.Migrate version) t many answers m w d c)

      go : (o : Option CallFault) → first_fault answers ≡ o → Leaves (AreOf v.number (call.Newest t (tell.Migrate many))) (ArePart v.number (call.Newest t (tell.Migrate many))) o v w
      go None none = let (rs, all, same) = all-told v.number t (event.Migrate version) 0 answers none in (_, (version, rs, all ∙ as-many, ap (λ calls. asked v.number t version ∷ calls) same), done)
      go (Some f) some = (
        (_, inr (version, map reply_in answers, (let n = length-map answers reply_in in omega (arith, n, as-many)), refl), done),
        λ full.
            let (j, at) = fault-at answers f some in
            case-full (λ u. None) (first_cases (event.Migrate version) t answers) m w (cases-told (event.Migrate version) t many answers m w c) (record { type_no = t; place = j }) (event.Migrate version)
            (ap (λ b. if b then told_at (event.Migrate version) (slice_get answers j) else None) (eq-eqb t t refl) ∙ (ap (told_at (event.Migrate version)) at ∙ ap (λ g. Some (event.Migrate version, Err g)) full)),
      )
