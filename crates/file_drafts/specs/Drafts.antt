-- A type while its lines are read: open blocks, the innermost first, and the parts of that one.
use Rattle.std.specs.Prelude.{ℕ, Bool, List, [], ◌∷◌, ◌++◌, Option, Some, None}
use Rattle.wsm_lists.specs.{Rows.put_row, Keys.{both, first, first_two, put_role}, declared.values.ElementKind.ElementKind}
use Rattle.wsm_schema.specs.{Tree.{Gate, Part, Parts, act, gate, and_gate, xor_gate, loop, parts, lanes}, SchemaModel.{SchemaModel, plain}}
use Rattle.wsm_schema.specs.Tree as tree
use Rattle.file_words.specs.Lines.{Bytes}
use Rattle.file_drafts.specs.{declared.frames.Frame.Frame, declared.frames.OpenGate.OpenGate, declared.frames.GateKind.GateKind, declared.drafts.Draft.Draft, declared.drafts.Around.Around}
use Rattle.file_drafts.specs.declared.frames.Frame.TheVariants as frame
use Rattle.file_drafts.specs.declared.frames.GateKind.TheVariants as kind
use Rattle.file_drafts.specs.declared.drafts.Around.TheVariants.{NoBlock, BeforeBranches, InBranch, InBody}

-- node 0 is the start and node 1 the finish
abbrev pub new_draft : Bytes → Draft
new_draft n = record { name = n; frames = []; here = []; schema = plain 0 1 tree.nothing }

abbrev pub with_role : ℕ → ℕ → Draft → Draft
with_role node role d = record d { schema = record d.schema { roles = put_role node role d.schema.roles } }

abbrev pub with_activity : ℕ → Draft → Draft
with_activity node d = record d { here = d.here ++ act node ∷ [] }

-- a block is opened behind the parts that stand before it
abbrev pub with_frame : Frame → Draft → Draft
with_frame f d = record d { frames = f ∷ d.frames; here = [] }

abbrev pub gate_opened : GateKind → ℕ → ℕ → Draft → Draft
gate_opened k split join d =
    with_frame (frame.Gate (record { before = d.here; kind = k; split = split; join = join; closed = []; code = None })) d

abbrev pub loop_opened : ℕ → ℕ → Draft → Draft
loop_opened start end d = with_frame (frame.Loop (record { before = d.here; start = start; end = end })) d

-- the closed branches with the one that is open
abbrev pub with_open : List (ℕ × Parts) → Option ℕ → List Part → List (ℕ × Parts)
with_open closed None here = closed
with_open closed (Some code) here = closed ++ (code, parts here) ∷ []

abbrev pub gate_of : GateKind → Gate
gate_of kind.And = and_gate
gate_of kind.Xor = xor_gate

-- the block that ends here
abbrev pub whole_gate : OpenGate → List Part → Part
whole_gate g here = gate (gate_of g.kind) g.split g.join (lanes (with_open g.closed g.code here))

abbrev pub parts_behind : Frame → List Part → List Part
parts_behind (frame.Gate g) here = g.before ++ whole_gate g here ∷ []
parts_behind (frame.Loop l) here = l.before ++ loop l.start l.end (parts here) ∷ []

abbrev pub closed_in : List Frame → Draft → Draft
closed_in [] d = d
closed_in (f ∷ fs) d = record d { frames = fs; here = parts_behind f d.here }

-- the innermost block is closed
abbrev pub closed : Draft → Draft
closed d = closed_in d.frames d

abbrev pub next_frame : ℕ → Frame → List Part → Frame
next_frame code (frame.Gate g) here = frame.Gate (record g { closed = with_open g.closed g.code here; code = Some code })
next_frame code (frame.Loop l) here = frame.Loop l

abbrev pub branched_in : ℕ → List Frame → Draft → Draft
branched_in code [] d = d
branched_in code (f ∷ fs) d = record d { frames = next_frame code f d.here ∷ fs; here = [] }

-- the innermost block's next branch is opened
abbrev pub branched : ℕ → Draft → Draft
branched code d = branched_in code d.frames d

-- where the next line stands
abbrev pub around_gate : Option ℕ → Around
around_gate None = BeforeBranches
around_gate (Some code) = InBranch

abbrev pub around_frame : Frame → Around
around_frame (frame.Gate g) = around_gate g.code
around_frame (frame.Loop l) = InBody

abbrev pub around : List Frame → Around
around [] = NoBlock
around (f ∷ fs) = around_frame f

-- the lists
abbrev pub with_sync : ℕ → ℕ → Draft → Draft
with_sync a b d = record d { schema = record d.schema { syncs = put_row both (a, b) d.schema.syncs } }

abbrev pub with_element : ℕ → ElementKind → Draft → Draft
with_element e k d = record d { schema = record d.schema { elements = put_row first (e, k) d.schema.elements } }

abbrev pub with_read : ℕ → ℕ → Bool → Draft → Draft
with_read n e m d = record d { schema = record d.schema { reads = put_row first_two (n, e, m) d.schema.reads } }

abbrev pub with_write : ℕ → ℕ → Draft → Draft
with_write n e d = record d { schema = record d.schema { writes = put_row both (n, e) d.schema.writes } }

-- the schema of a type that ends here
abbrev pub whole : Draft → SchemaModel
whole d = record d.schema { body = parts d.here }
