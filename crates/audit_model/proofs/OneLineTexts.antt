-- Events and replies are shown in one line.
use Rattle.std.proofs.Common.{◌≡◌, ℕ, ◌-◌, ◌==◌, true, List, [], ◌∷◌, ◌++◌, flat_map, length, Option, Some, None, refl, IfSome, codes, decimal, nat_lt, slice_get}
use Rattle.audit_model.proofs.Common.{actor_name, ActorDecl, after_space, AllRows, assigned, block_words, Bytes, caller_text, choice_text, data_words, element, element_is, element_text, entry_text, Event, event_text, Fault, fault_text}
use Rattle.audit_model.proofs.Common.{fault_words, File, FIRST_NAMED_ROLE, if-either, IsAuditable, IsName, IsNamed, IsOneLine, IsOneLineRead, IsOneLineValue, IsOneLineWrite, kind_event_text, kind_reply_text, KindEvent, KindReply, letter}
use Rattle.audit_model.proofs.Common.{limit_word, line_start, list_all, listed_element, Name, node, node_and_element, node_and_node, node_text, number, position_text, read_text, Reply, reply_text, role_name, role_text, row-at, said}
use Rattle.audit_model.proofs.{Common.{shown_line, ShowsOneLine, Value, value_or_none, value_text, why_node, why_word, Word, word_text, WritesValues, Written, wrong_choice}, OneLine.{stays, decimal-one, is-one, name-one}}
use Rattle.audit_model.proofs.OneLine.{named-one, one-all, one-append, value-one}
use Rattle.report_words.specs.Names.{name_text}
use Rattle.wsm_ops.specs.declared.faults.OpWhy.{OpWhy}
use Rattle.wsm_schema.specs.{declared.entries.Entry.Entry, declared.faults.BlockFault.BlockFault, declared.faults.DataFault.DataFault, declared.faults.LimitKind.LimitKind, declared.states.State.State}
use Rattle.case_core.specs.declared.events.Event.TheVariants as event
use Rattle.case_core.specs.declared.replies.Reply.TheVariants as reply
use Rattle.type_core.specs.declared.events.KindEvent.TheVariants as kind_event
use Rattle.type_core.specs.declared.replies.KindReply.TheVariants as kind_reply
use Rattle.wsm_foot.specs.declared.names.Name.TheVariants as name
use Rattle.wsm_ops.specs.declared.faults.OpWhy.TheVariants as why
use Rattle.wsm_schema.specs.declared.entries.Entry.TheVariants as entry
use Rattle.wsm_schema.specs.declared.faults.BlockFault.TheVariants as block
use Rattle.wsm_schema.specs.declared.faults.DataFault.TheVariants as on_data
use Rattle.wsm_schema.specs.declared.faults.LimitKind.TheVariants as limit
use Rattle.wsm_schema.specs.declared.states.State.TheVariants as state
use Rattle.wsm_sound.specs.declared.faults.Fault.TheVariants as fault

-- ---- given words
limit-one : (k : LimitKind) → IsOneLine (limit_word k)
limit-one limit.Nodes = is-one (codes "nodes") refl
limit-one k = is-one (limit_word k) refl

why-one : (w : OpWhy) → IsOneLine (why_word w)
why-one (why.NoNode n) = is-one (codes "no-node") refl
why-one w = is-one (why_word w) refl

letter-one : (s : State) → IsOneLine (letter s)
letter-one state.NotActivated = is-one (codes "N") refl
letter-one s = is-one (letter s) refl

-- a given word in front
said-first : (word bs : Bytes) → list_all stays word ≡ true → IsOneLine bs → IsOneLine (word ++ bs)
said-first word bs one two = one-append word bs (is-one word one) two

module _ (f : File) (auditable : IsAuditable f) where
  node-one : (n : ℕ) → IsOneLine (node_text f n)
  node-one n = named-one f.nodes auditable.nodes n

  element-one : (e : ℕ) → IsOneLine (element_text f e)
  element-one e = named-one f.elements auditable.elements e

  caller-one : (a : ℕ) → IsOneLine (caller_text f a)
  caller-one a = if-either IsOneLine (a == 0) (codes "-") (actor_name (slice_get f.actors (a - 1)) a) (λ none. is-one (codes "-") refl) (λ some. of_actor (slice_get f.actors (a - 1)) refl)
    where
      of_actor : (o : Option ActorDecl) → slice_get f.actors (a - 1) ≡ o → IsOneLine (actor_name o a)
      of_actor None at = decimal-one a
      of_actor (Some d) at = name-one d.name (row-at IsNamed f.actors (a - 1) d auditable.actors at)

  role-one : (r : ℕ) → IsOneLine (role_text f r)
  role-one r = if-either IsOneLine (nat_lt r FIRST_NAMED_ROLE) (decimal r) (role_name (slice_get f.roles (r - FIRST_NAMED_ROLE)) r) (λ low. decimal-one r) (λ named. of_role (slice_get f.roles (r - FIRST_NAMED_ROLE)) refl)
    where
      of_role : (o : Option Bytes) → slice_get f.roles (r - FIRST_NAMED_ROLE) ≡ o → IsOneLine (role_name o r)
      of_role None at = decimal-one r
      of_role (Some n) at = name-one n (row-at IsName f.roles (r - FIRST_NAMED_ROLE) n auditable.roles at)

  -- ---- words of faults and names
  -- words that are said are of one line
  abbrev IsSaid : Word → Type 0
  IsSaid (said word) = IsOneLine word
  IsSaid _ = Unit {0}

  said-one : (w : Word) → IsSaid w → IsOneLine (after_space (word_text f.nodes f.elements w))
  said-one (said word) one = (refl, one)
  said-one (number n) one = (refl, decimal-one n)
  said-one (node n) one = (refl, node-one n)
  said-one (element e) one = (refl, element-one e)

  words-one : (ws : List Word) → AllRows IsSaid ws → IsOneLine (flat_map (λ w. after_space (word_text f.nodes f.elements w)) ws)
  words-one [] all = tt
  words-one (w ∷ ws) all = one-append (after_space (word_text f.nodes f.elements w)) _ (said-one w all.0) (words-one ws all.1)

  why-said : (w : OpWhy) → AllRows IsSaid (why_node w)
  why-said (why.NoNode n) = (tt, tt)
  why-said (why.NodeThere n) = (tt, tt)
  why-said (why.WrongKind n) = (tt, tt)
  why-said (why.SelfTarget n) = (tt, tt)
  why-said w = tt

  block-said : (x : BlockFault) → AllRows IsSaid (block_words x)
  block-said (block.Limit k) = (is-one (codes "limit") refl, (limit-one k, tt))
  block-said (block.Twice n) = (is-one (codes "twice") refl, (tt, tt))
  block-said (block.FewBranches n) = (is-one (codes "few-branches") refl, (tt, tt))
  block-said (block.CodeTwice n code) = (is-one (codes "code-twice") refl, (tt, (tt, tt)))
  block-said (block.SyncEnd a b) = (is-one (codes "sync-end") refl, (tt, (tt, tt)))
  block-said (block.SyncPlace a b) = (is-one (codes "sync-place") refl, (tt, (tt, tt)))
  block-said (block.SyncLoop a b) = (is-one (codes "sync-loop") refl, (tt, (tt, tt)))
  block-said (block.SyncCycle a b) = (is-one (codes "sync-cycle") refl, (tt, (tt, tt)))

  data-said : (x : DataFault) → AllRows IsSaid (data_words x)
  data-said (on_data.Unknown n e) = (is-one (codes "unknown") refl, (tt, (tt, tt)))
  data-said (on_data.Missing n e) = (is-one (codes "missing") refl, (tt, (tt, tt)))
  data-said (on_data.ParallelWrite a b e) = (is-one (codes "parallel-write") refl, (tt, (tt, (tt, tt))))

  fault-said : (x : Fault) → AllRows IsSaid (fault_words x)
  fault-said (fault.Op x) = (is-one (codes "op") refl, (tt, (why-one x.why, why-said x.why)))
  fault-said (fault.Block x) = block-said x
  fault-said (fault.Data x) = data-said x

  fault-one : (x : Fault) → IsOneLine (fault_text f.nodes f.elements x)
  fault-one x = words-one (fault_words x) (fault-said x)

  listed-one : (e : ℕ) → IsOneLine (listed_element f e)
  listed-one e = (refl, element-one e)

  two-nodes-one : (m n : ℕ) → IsOneLine (node_and_node f m n)
  two-nodes-one m n = one-append (node_text f m) _ (node-one m) (refl, node-one n)

  node-element-one : (n e : ℕ) → IsOneLine (node_and_element f n e)
  node-element-one n e = one-append (node_text f n) _ (node-one n) (listed-one e)

  name-text-one : (n : Name) → IsOneLine (name_text f n)
  name-text-one (name.Node n) = said-first (codes "node ") _ refl (node-one n)
  name-text-one (name.GapAfter n) = said-first (codes "gap-after ") _ refl (node-one n)
  name-text-one (name.GapHead n code) = said-first (codes "gap-head ") _ refl (one-append (node_text f n) _ (node-one n) (refl, decimal-one code))
  name-text-one (name.Sync a b) = said-first (codes "sync ") _ refl (two-nodes-one a b)
  name-text-one (name.Read n e) = said-first (codes "read ") _ refl (node-element-one n e)
  name-text-one (name.Write n e) = said-first (codes "write ") _ refl (node-element-one n e)
  name-text-one (name.Element e) = said-first (codes "element ") _ refl (element-one e)
  name-text-one (name.Role n) = said-first (codes "role ") _ refl (node-one n)

  -- ---- values
  element_is-one : (e : ℕ) → IsOneLine (element_is f e)
  element_is-one e = (refl, one-append (element_text f e) (codes "=") (element-one e) (refl, tt))

  assigned-one : (w : ℕ × Value) → IsOneLineWrite w → IsOneLine (assigned f w)
  assigned-one w one = one-append (element_is f w.0) (value_text w.1) (element_is-one w.0) (value-one w.1 one)

  writes-one : (ws : Written) → AllRows IsOneLineWrite ws → IsOneLine (flat_map (assigned f) ws)
  writes-one [] all = tt
  writes-one (w ∷ ws) all = one-append (assigned f w) (flat_map (assigned f) ws) (assigned-one w all.0) (writes-one ws all.1)

  or_none-one : (o : Option Value) → IfSome o IsOneLineValue → IsOneLine (value_or_none o)
  or_none-one None one = (refl, tt)
  or_none-one (Some v) one = value-one v one

  reads-one : (rs : List (ℕ × Option Value)) → AllRows IsOneLineRead rs → IsOneLine (flat_map (read_text f) rs)
  reads-one [] all = tt
  reads-one (r ∷ rs) all = one-append (read_text f r) (flat_map (read_text f) rs) (one-append (element_is f r.0) (value_or_none r.1) (element_is-one r.0) (or_none-one r.1 all.0)) (reads-one rs all.1)

  -- ---- events
  choice-one : (o : Option ℕ) → IsOneLine (choice_text o)
  choice-one None = tt
  choice-one (Some code) = said-first (codes " choice ") (decimal code) refl (decimal-one code)

  pub event-one : (e : Event) → WritesValues e → IsOneLine (event_text f e)
  event-one (event.Create version) good = said-first (codes "create ") _ refl (decimal-one version.number)
  event-one (event.Start n user roles) good = said-first (codes "start ") _ refl (node-one n)
  event-one (event.Withdraw n user) good = said-first (codes "withdraw ") _ refl (node-one n)
  event-one (event.End n user choice writes) good =
      said-first (codes "end ") _ refl
      (one-append (node_text f n) (choice_text choice ++ flat_map (assigned f) writes) (node-one n) (one-append (choice_text choice) (flat_map (assigned f) writes) (choice-one choice) (writes-one writes good)))
  event-one (event.Change ops) good = said-first (codes "change ") _ refl (decimal-one (length ops))
  event-one (event.Migrate version) good = said-first (codes "migrate ") _ refl (decimal-one version.number)

  -- ---- replies
  wrong-choice-one : (o : Option ℕ) → IsOneLine (wrong_choice o)
  wrong-choice-one None = is-one (codes " -") refl
  wrong-choice-one (Some code) = (refl, decimal-one code)

  entry-one : (e : Entry) → IsOneLine (entry_text f e)
  entry-one (entry.Start n user reads) = said-first (codes "start ") _ refl (node-one n)
  entry-one (entry.End n writes choice) = said-first (codes "end ") _ refl (node-one n)
  entry-one (entry.Again n writes) = said-first (codes "again ") _ refl (node-one n)
  entry-one (entry.Wrote writes) = is-one (codes "wrote") refl

  position-one : (n : ℕ) → IsOneLine (position_text n)
  position-one n = (refl, one-append (decimal n) (codes " ") (decimal-one n) (refl, tt))

  pub reply-one : (r : Reply) → ShowsOneLine r → IsOneLine (reply_text f r)
  reply-one (reply.Started reads) one = said-first (codes "started") _ refl (reads-one reads one)
  reply-one (reply.NotReady s) one = said-first (codes "not-ready ") _ refl (letter-one s)
  reply-one (reply.NotAllowed role) one = said-first (codes "not-allowed ") _ refl (role-one role)
  reply-one (reply.NotRunning s) one = said-first (codes "not-running ") _ refl (letter-one s)
  reply-one (reply.NotHolder user) one = said-first (codes "not-holder ") _ refl (caller-one user)
  reply-one (reply.WrongWrites elements) one = said-first (codes "wrong-writes") _ refl (one-all (listed_element f) elements listed-one)
  reply-one (reply.NoBranch choice) one = said-first (codes "no-branch") _ refl (wrong-choice-one choice)
  reply-one (reply.Migrated n) one = said-first (codes "migrated ") _ refl (decimal-one n)
  reply-one (reply.Unsound x) one = said-first (codes "unsound") _ refl (fault-one x)
  reply-one (reply.Blocked position e) one = said-first (codes "blocked") (position_text position ++ entry_text f e) refl (one-append (position_text position) (entry_text f e) (position-one position) (entry-one e))
  reply-one (reply.NotNewer n) one = said-first (codes "not-newer ") _ refl (decimal-one n)
  reply-one (reply.Overlap n) one = said-first (codes "overlap ") _ refl (name-text-one n)
  reply-one r one = is-one (reply_text f r) refl

  pub kind_event-one : (e : KindEvent) → IsOneLine (kind_event_text e)
  kind_event-one (kind_event.Install ops) = said-first (codes "install ") _ refl (decimal-one (length ops))
  kind_event-one e = is-one (kind_event_text e) refl

  pub kind_reply-one : (r : KindReply) → IsOneLine (kind_reply_text f r)
  kind_reply-one (kind_reply.Installed n) = said-first (codes "installed ") _ refl (decimal-one n)
  kind_reply-one (kind_reply.Is version) = said-first (codes "is ") _ refl (decimal-one version.number)
  kind_reply-one (kind_reply.Unsound x) = said-first (codes "unsound") _ refl (fault-one x)
  kind_reply-one r = is-one (kind_reply_text f r) refl

  -- ---- lines
  pub start-one : (k a : ℕ) → IsOneLine (line_start f k a)
  start-one k a = one-append (decimal k) _ (decimal-one k) (refl, one-append (caller_text f a) (codes " ") (caller-one a) (refl, tt))

  pub line-one : (k a : ℕ) (e r : Bytes) → IsOneLine e → IsOneLine r → IsOneLine (shown_line f k a e r)
  line-one k a e r one two = one-append (line_start f k a) _ (start-one k a) (one-append e _ one (said-first (codes " -> ") r refl two))
