-- Reports, computed from the definitions alone: from the bytes of a process file to the bytes of its report.
use Rattle.report_text.proofs.Common.{Bytes, case_line, case_totals, codes, Err, File, file, kind_line, migration_totals, negsuc, None, Ok, pos, refl, Refused, reply_text, Result, Some, state_line, text, value_text}
use Rattle.std.specs.{Prelude.{◌≡◌, List, [], ◌∷◌, ◌++◌, flat_map}, Fmt.digits, Str.{is_utf8, chars}}
use Rattle.case_core.specs.CaseModel.{CaseModel, LiveModel}
use Rattle.case_core.specs.declared.events.Event.TheVariants as event
use Rattle.case_core.specs.declared.replies.Reply.TheVariants as reply
use Rattle.fault_words.specs.FaultWords.{fault_text}
use Rattle.report_words.specs.{Migrations.has_fate, Names.name_text}
use Rattle.script_run.specs.{Serial.serial, Entries.CaseEntry, declared.runs.ClosedCase.ClosedCase}
use Rattle.wsm_lists.specs.declared.values.Value.TheVariants as value
use Rattle.type_core.specs.declared.events.KindEvent.TheVariants as kind_event
use Rattle.type_core.specs.declared.replies.KindReply.TheVariants as kind_reply
use Rattle.wsm_foot.specs.declared.names.Name.{Name}
use Rattle.wsm_foot.specs.declared.names.Name.TheVariants as name
use Rattle.wsm_ops.specs.declared.faults.OpWhy.{OpWhy}
use Rattle.wsm_ops.specs.declared.faults.OpWhy.TheVariants as why
use Rattle.wsm_ops.specs.declared.operations.Op.TheVariants as op
use Rattle.wsm_schema.specs.{SchemaModel.plain, Trail.no_trail, Tree.nothing}
use Rattle.wsm_schema.specs.declared.entries.Entry.TheVariants as entry
use Rattle.wsm_schema.specs.declared.faults.BlockFault.TheVariants as block
use Rattle.wsm_schema.specs.declared.faults.DataFault.TheVariants as on_data
use Rattle.wsm_schema.specs.declared.faults.LimitKind.TheVariants as limit
use Rattle.wsm_sound.specs.{Faults.fault_of, VersionModel.VersionModel, declared.faults.Fault.Fault}
use Rattle.wsm_sound.specs.declared.faults.Fault.TheVariants as fault

-- the report of a file's serial run
abbrev pub report : Result File Refused → Bytes
report (Ok f) = text f (serial f)
report (Err r) = []

-- each refusal, and a node that is held
pub refusals : report (file (codes "adept 1\ntype t\nact A\nact B\nend\nactor ann\ncase c t\nphase\nann start c A\nann create c\nann create c\nann start c B\nann end c A\nann start c Z\nann start c A\nann start c A\nann end c finish\n")) ≡ codes "adept report 1\ntype t\n1 - define -> defined\n2 ann newest -> is 1\n3 ann newest -> is 1\ncase c t\n1 ann start A -> no-case\n2 ann create 1 -> created\n3 ann create 1 -> already\n4 ann start B -> not-ready N\n5 ann end A -> not-running A\n6 ann start Z -> no-node\n7 ann start A -> started\n8 ann start A -> not-ready R\n9 ann end finish -> not-running N\nstate 1 running own=0\nmarking start=C A=R B=N finish=N\nvalues\nitems A:ann\nsummary cases=1 finished=0 entries=9 migrated=0 blocked=0 overlap=0\n"
unfolding is_utf8 chars lib.Utf8.encode digits fault_of has_fate
refusals = refl

-- a node that is offered to everybody
pub offered : report (file (codes "adept 1\ntype t\nact A\nact B\nend\nactor ann\ncase c t\nphase\nann create c\n")) ≡ codes "adept report 1\ntype t\n1 - define -> defined\n2 ann newest -> is 1\ncase c t\n1 ann create 1 -> created\nstate 1 running own=0\nmarking start=C A=A B=N finish=N\nvalues\nitems A@0\nsummary cases=1 finished=0 entries=1 migrated=0 blocked=0 overlap=0\n"
unfolding is_utf8 chars lib.Utf8.encode digits fault_of has_fate
offered = refl

-- a case that nobody called
pub not_created : report (file (codes "adept 1\ntype t\nact A\nact B\nend\nactor ann\ncase c t\nphase\n")) ≡ codes "adept report 1\ntype t\n1 - define -> defined\ncase c t\nstate none\nsummary cases=1 finished=0 entries=0 migrated=0 blocked=0 overlap=0\n"
unfolding is_utf8 chars lib.Utf8.encode digits fault_of has_fate
not_created = refl

-- ---- what no file of this form reaches: values, choices, and refusals with data
abbrev a_file : File
a_file = record {
  format = 1;
  nodes = codes "start" ∷ codes "finish" ∷ codes "A" ∷ [];
  elements = codes "d" ∷ [];
  roles = [];
  types = record { name = codes "t"; schema = plain 0 1 nothing } ∷ [];
  actors = record { name = codes "ann"; roles = [] } ∷ [];
  cases = [];
  phases = [];
}

pub text_with_quotes : value_text (value.Text (codes "a\"b\\c")) ≡ codes "\"a\\\"b\\\\c\""
text_with_quotes = refl

pub end_with_values : case_line a_file 12 (record { caller = 0; event = event.End 2 1 (Some 4) ((0, value.Int (pos 0)) ∷ (3, value.Text []) ∷ []); reply = reply.WrongWrites (0 ∷ 7 ∷ []) }) ≡ codes "12 - end A choice 4 d=0 3=\"\" -> wrong-writes d 7\n"
unfolding digits
end_with_values = refl

pub start_with_reads : case_line a_file 1 (record { caller = 5; event = event.Start 9 5 []; reply = reply.Started ((1, Some (value.Int (negsuc 9))) ∷ (2, None) ∷ []) }) ≡ codes "1 5 start 9 -> started 1=-10 2=-\n"
unfolding digits
start_with_reads = refl

abbrev roles_file : File
roles_file = record a_file { roles = codes "nurse" ∷ codes "cook" ∷ [] }

-- a role that has a name is shown by it
pub named_roles : reply_text roles_file (reply.NotAllowed 2147483649) ++ reply_text roles_file (reply.NotAllowed 2147483647) ++ reply_text roles_file (reply.NotAllowed 2147483650) ++ reply_text a_file (reply.NotAllowed 2147483648) ≡
    codes "not-allowed cooknot-allowed 2147483647not-allowed 2147483650not-allowed 2147483648"
unfolding digits
named_roles = refl

pub no_branch : reply_text a_file (reply.NoBranch None) ++ reply_text a_file (reply.NotHolder 1) ++ reply_text a_file (reply.NotAllowed 3) ≡ codes "no-branch -not-holder annnot-allowed 3"
unfolding digits
no_branch = refl

-- ---- changes, versions and migrations
abbrev version_2 : VersionModel
version_2 = record { type_no = 0; number = 2; schema = plain 0 1 nothing; lineage = [] ∷ [] }

abbrev case_lines : List Bytes
case_lines =
    case_line a_file 1 (record { caller = 1; event = event.Change (op.DeleteActivity 2 ∷ op.InsertSync 2 9 ∷ []); reply = reply.Changed })
    ∷ case_line a_file 2 (record { caller = 1; event = event.Change []; reply = reply.Unsound (fault.Op (record { index = 2; why = why.NoSync })) })
    ∷ case_line a_file 3 (record { caller = 1; event = event.Migrate version_2; reply = reply.Blocked 3 (entry.Start 2 1 []) })
    ∷ case_line a_file 4 (record { caller = 0; event = event.Migrate version_2; reply = reply.Migrated 2 })
    ∷ case_line a_file 5 (record { caller = 1; event = event.Migrate version_2; reply = reply.NotNewer 2 })
    ∷ case_line a_file 6 (record { caller = 1; event = event.Migrate version_2; reply = reply.Overlap (name.GapAfter 2) })
    ∷ case_line a_file 7 (record { caller = 1; event = event.Migrate version_2; reply = reply.Finished })
    ∷ []

pub changes_and_migrations : flat_map (λ l. l) case_lines ≡ codes "1 ann change 2 -> changed\n2 ann change 0 -> unsound op 2 no-sync\n3 ann migrate 2 -> blocked 3 start A\n4 - migrate 2 -> migrated 2\n5 ann migrate 2 -> not-newer 2\n6 ann migrate 2 -> overlap gap-after A\n7 ann migrate 2 -> finished\n"
unfolding digits
changes_and_migrations = refl

pub blocked_entries : reply_text a_file (reply.Blocked 4 (entry.End 2 [] None)) ++ reply_text a_file (reply.Blocked 5 (entry.Again 9 [])) ++ reply_text a_file (reply.Blocked 6 (entry.Wrote [])) ≡ codes "blocked 4 end Ablocked 5 again 9blocked 6 wrote"
unfolding digits
blocked_entries = refl

abbrev kind_lines : List Bytes
kind_lines =
    kind_line a_file 1 (record { caller = 0; event = kind_event.Define (plain 0 1 nothing); reply = kind_reply.Unsound (fault.Block (block.Limit limit.Depth)) })
    ∷ kind_line a_file 2 (record { caller = 1; event = kind_event.Install (op.DeleteActivity 2 ∷ []); reply = kind_reply.Installed 2 })
    ∷ kind_line a_file 3 (record { caller = 1; event = kind_event.Install []; reply = kind_reply.VersionLimit })
    ∷ kind_line a_file 4 (record { caller = 1; event = kind_event.Newest; reply = kind_reply.Is version_2 })
    ∷ []

pub versions : flat_map (λ l. l) kind_lines ≡ codes "1 - define -> unsound limit depth\n2 ann install 1 -> installed 2\n3 ann install 0 -> version-limit\n4 ann newest -> is 2\n"
unfolding digits
versions = refl

abbrev line_of : (Fault → Bytes) → Fault → Bytes
line_of show x = show x ++ codes "\n"

abbrev op_fault : OpWhy → Fault
op_fault w = fault.Op (record { index = 12; why = w })

-- the words of a fault
abbrev why_text : Fault → Bytes
why_text f = fault_text a_file.nodes a_file.elements f

abbrev op_faults : List Fault
op_faults =
    op_fault (why.NoNode 2) ∷ op_fault (why.NodeThere 0) ∷ op_fault (why.WrongKind 1) ∷ op_fault (why.SelfTarget 9)
    ∷ op_fault why.NoSync ∷ op_fault why.SyncThere ∷ op_fault why.NoEdge ∷ op_fault why.EdgeThere ∷ op_fault why.ElementThere ∷ []

pub faults_of_operations : flat_map (line_of why_text) op_faults ≡ codes " op 12 no-node A\n op 12 node-there start\n op 12 wrong-kind finish\n op 12 self-target 9\n op 12 no-sync\n op 12 sync-there\n op 12 no-edge\n op 12 edge-there\n op 12 element-there\n"
unfolding digits
faults_of_operations = refl

abbrev limits : List Fault
limits =
    fault.Block (block.Limit limit.Nodes) ∷ fault.Block (block.Limit limit.Depth) ∷ fault.Block (block.Limit limit.Syncs)
    ∷ fault.Block (block.Limit limit.Elements) ∷ fault.Block (block.Limit limit.Reads) ∷ fault.Block (block.Limit limit.Writes) ∷ []

pub faults_of_limits : flat_map (line_of why_text) limits ≡ codes " limit nodes\n limit depth\n limit syncs\n limit elements\n limit reads\n limit writes\n"
faults_of_limits = refl

abbrev block_faults : List Fault
block_faults =
    fault.Block (block.Twice 2) ∷ fault.Block (block.FewBranches 9) ∷ fault.Block (block.CodeTwice 2 65535)
    ∷ fault.Block (block.SyncEnd 2 0) ∷ fault.Block (block.SyncPlace 2 9) ∷ fault.Block (block.SyncLoop 9 2) ∷ fault.Block (block.SyncCycle 2 1) ∷ []

pub faults_of_blocks : flat_map (line_of why_text) block_faults ≡ codes " twice A\n few-branches 9\n code-twice A 65535\n sync-end A start\n sync-place A 9\n sync-loop 9 A\n sync-cycle A finish\n"
unfolding digits
faults_of_blocks = refl

abbrev data_faults : List Fault
data_faults = fault.Data (on_data.Unknown 2 7) ∷ fault.Data (on_data.Missing 9 0) ∷ fault.Data (on_data.ParallelWrite 2 9 3) ∷ []

pub faults_of_data : flat_map (line_of why_text) data_faults ≡ codes " unknown A 7\n missing 9 d\n parallel-write A 9 3\n"
unfolding digits
faults_of_data = refl

abbrev overlap_line : Name → Bytes
overlap_line n = name_text a_file n ++ codes "\n"

pub names : flat_map overlap_line (name.Node 2 ∷ name.GapAfter 0 ∷ name.GapHead 2 1 ∷ name.Sync 2 9 ∷ name.Read 2 7 ∷ name.Write 9 0 ∷ name.Element 7 ∷ name.Role 2 ∷ []) ≡ codes "node A\ngap-after start\ngap-head A 1\nsync A 9\nread A 7\nwrite 9 d\nelement 7\nrole A\n"
unfolding digits
names = refl

-- a change that is blocked is no migration
abbrev one_case : List CaseEntry
one_case =
    record { caller = 1; event = event.Migrate version_2; reply = reply.Blocked 3 (entry.Start 2 1 []) }
    ∷ record { caller = 1; event = event.Change []; reply = reply.Blocked 3 (entry.Start 2 1 []) }
    ∷ record { caller = 1; event = event.Migrate version_2; reply = reply.Overlap (name.Node 2) }
    ∷ record { caller = 1; event = event.Migrate version_2; reply = reply.Migrated 2 }
    ∷ []

abbrev another_case : List CaseEntry
another_case =
    record { caller = 1; event = event.Migrate version_2; reply = reply.Migrated 2 }
    ∷ record { caller = 1; event = event.Migrate version_2; reply = reply.Finished }
    ∷ []

abbrev a_machine : CaseModel
a_machine = record { type_no = 0; live = None }

abbrev closed_cases : List ClosedCase
closed_cases = record { machine = a_machine; journal = one_case } ∷ record { machine = a_machine; journal = another_case } ∷ []

pub totals_of_cases : case_totals closed_cases ≡ codes "summary cases=2 finished=0 entries=6 "
unfolding digits
totals_of_cases = refl

pub totals_of_migrations : migration_totals closed_cases ≡ codes "migrated=2 blocked=1 overlap=1\n"
unfolding digits has_fate
totals_of_migrations = refl

abbrev changed_case : LiveModel
changed_case = record { base = version_2; own = op.DeleteActivity 2 ∷ op.InsertSync 2 9 ∷ []; schema = plain 0 1 nothing; trail = no_trail }

pub own_operations : state_line changed_case ≡ codes "state 2 finished own=2\n"
unfolding digits
own_operations = refl
