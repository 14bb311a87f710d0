-- The lines of the journals.
use Rattle.std.specs.Prelude.{ℕ, ◌+◌, List, [], ◌∷◌, ◌++◌, flat_map, length, Option, Some, None, codes, decimal}
use Rattle.case_core.specs.{declared.events.Event.Event, declared.replies.Reply.Reply}
use Rattle.case_core.specs.declared.events.Event.TheVariants as event
use Rattle.case_core.specs.declared.replies.Reply.TheVariants as reply
use Rattle.fault_words.specs.FaultWords.{fault_text}
use Rattle.file_words.specs.Lines.{Bytes}
use Rattle.file_model.specs.declared.files.File.{File}
use Rattle.report_words.specs.{Names.name_text, Words.{node_text, listed_element, caller_text, assigned, read_text, letter, role_text}}
use Rattle.script_run.specs.Entries.{CaseEntry, KindEntry}
use Rattle.type_core.specs.{declared.events.KindEvent.KindEvent, declared.replies.KindReply.KindReply}
use Rattle.type_core.specs.declared.events.KindEvent.TheVariants as kind_event
use Rattle.type_core.specs.declared.replies.KindReply.TheVariants as kind_reply
use Rattle.wsm_lists.specs.Values.{Written}
use Rattle.wsm_schema.specs.declared.entries.Entry.{Entry}
use Rattle.wsm_schema.specs.declared.entries.Entry.TheVariants as entry

-- the choice of an end, where there is one
abbrev pub choice_text : Option ℕ → Bytes
choice_text None = []
choice_text (Some code) = codes " choice " ++ decimal code

abbrev pub end_event_text : File → ℕ → Written → Option ℕ → Bytes
end_event_text f node writes choice = codes "end " ++ node_text f node ++ (choice_text choice ++ flat_map (assigned f) writes)

abbrev pub event_text : File → Event → Bytes
event_text f (event.Create version) = codes "create " ++ decimal version.number
event_text f (event.Start node user roles) = codes "start " ++ node_text f node
event_text f (event.Withdraw node user) = codes "withdraw " ++ node_text f node
event_text f (event.End node user choice writes) = end_event_text f node writes choice
event_text f (event.Change ops) = codes "change " ++ decimal (length ops)
event_text f (event.Migrate version) = codes "migrate " ++ decimal version.number

abbrev pub reply_word : Reply → Bytes
reply_word reply.Created = codes "created"
reply_word (reply.Started reads) = codes "started"
reply_word reply.Ended = codes "ended"
reply_word reply.Repeated = codes "repeated"
reply_word reply.Withdrawn = codes "withdrawn"
reply_word reply.Already = codes "already"
reply_word reply.NoCase = codes "no-case"
reply_word reply.NoNode = codes "no-node"
reply_word (reply.NotReady s) = codes "not-ready"
reply_word (reply.NotAllowed role) = codes "not-allowed"
reply_word (reply.NotRunning s) = codes "not-running"
reply_word (reply.NotHolder user) = codes "not-holder"
reply_word (reply.WrongWrites elements) = codes "wrong-writes"
reply_word (reply.NoBranch choice) = codes "no-branch"
reply_word reply.OtherType = codes "other-type"
reply_word reply.Changed = codes "changed"
reply_word (reply.Migrated number) = codes "migrated"
reply_word reply.Finished = codes "finished"
reply_word (reply.Unsound fault) = codes "unsound"
reply_word (reply.Blocked position e) = codes "blocked"
reply_word (reply.NotNewer number) = codes "not-newer"
reply_word (reply.Overlap name) = codes "overlap"

-- the choice that is none of the node's
abbrev pub wrong_choice : Option ℕ → Bytes
wrong_choice None = codes " -"
wrong_choice (Some code) = codes " " ++ decimal code

-- the entry that would fail, and its position before it
abbrev pub entry_text : File → Entry → Bytes
entry_text f (entry.Start node user reads) = codes "start " ++ node_text f node
entry_text f (entry.End node writes choice) = codes "end " ++ node_text f node
entry_text f (entry.Again node writes) = codes "again " ++ node_text f node
entry_text f (entry.Wrote writes) = codes "wrote"

abbrev pub position_text : ℕ → Bytes
position_text position = codes " " ++ (decimal position ++ codes " ")

abbrev pub blocked_text : File → ℕ → Entry → Bytes
blocked_text f position e = position_text position ++ entry_text f e

-- what stands behind the word
abbrev pub reply_rest : File → Reply → Bytes
reply_rest f (reply.Started reads) = flat_map (read_text f) reads
reply_rest f (reply.NotReady s) = codes " " ++ letter s
reply_rest f (reply.NotAllowed role) = codes " " ++ role_text f role
reply_rest f (reply.NotRunning s) = codes " " ++ letter s
reply_rest f (reply.NotHolder user) = codes " " ++ caller_text f user
reply_rest f (reply.WrongWrites elements) = flat_map (listed_element f) elements
reply_rest f (reply.NoBranch choice) = wrong_choice choice
reply_rest f (reply.Migrated number) = codes " " ++ decimal number
reply_rest f (reply.Unsound fault) = fault_text f.nodes f.elements fault
reply_rest f (reply.Blocked position e) = blocked_text f position e
reply_rest f (reply.NotNewer number) = codes " " ++ decimal number
reply_rest f (reply.Overlap name) = codes " " ++ name_text f name
reply_rest f _ = []

abbrev pub reply_text : File → Reply → Bytes
reply_text f r = reply_word r ++ reply_rest f r

abbrev pub kind_event_text : KindEvent → Bytes
kind_event_text (kind_event.Define schema) = codes "define"
kind_event_text (kind_event.Install ops) = codes "install " ++ decimal (length ops)
kind_event_text kind_event.Newest = codes "newest"

abbrev pub kind_reply_text : File → KindReply → Bytes
kind_reply_text f kind_reply.Defined = codes "defined"
kind_reply_text f (kind_reply.Installed number) = codes "installed " ++ decimal number
kind_reply_text f (kind_reply.Is version) = codes "is " ++ decimal version.number
kind_reply_text f kind_reply.Already = codes "already"
kind_reply_text f kind_reply.NoType = codes "no-type"
kind_reply_text f kind_reply.VersionLimit = codes "version-limit"
kind_reply_text f (kind_reply.Unsound fault) = codes "unsound" ++ fault_text f.nodes f.elements fault

-- the place in the journal and the caller, each with a space behind it
abbrev pub line_start : File → ℕ → ℕ → Bytes
line_start f k caller = decimal k ++ (codes " " ++ (caller_text f caller ++ codes " "))

abbrev pub journal_line : File → ℕ → ℕ → Bytes → Bytes → Bytes
journal_line f k caller event reply = line_start f k caller ++ (event ++ (codes " -> " ++ (reply ++ codes "\n")))

abbrev pub case_line : File → ℕ → CaseEntry → Bytes
case_line f k e = journal_line f k e.caller (event_text f e.event) (reply_text f e.reply)

abbrev pub kind_line : File → ℕ → KindEntry → Bytes
kind_line f k e = journal_line f k e.caller (kind_event_text e.event) (kind_reply_text f e.reply)

-- the lines of entries, numbered from k on
abbrev pub numbered : {X : Type 0} → (ℕ → X → Bytes) → ℕ → List X → Bytes
numbered line k [] = []
numbered line k (e ∷ es) = line k e ++ numbered line (k + 1) es
