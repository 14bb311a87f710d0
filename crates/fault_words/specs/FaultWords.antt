-- The words of a fault.
use Rattle.std.specs.Prelude.{ℕ, List, [], ◌∷◌, map, flat_map, slice_get, Option, Some, None, codes, decimal}
use Rattle.file_words.specs.Lines.{Bytes}
use Rattle.wsm_ops.specs.{declared.faults.OpFault.OpFault, declared.faults.OpWhy.OpWhy}
use Rattle.wsm_ops.specs.declared.faults.OpWhy.TheVariants as why
use Rattle.wsm_schema.specs.{declared.faults.BlockFault.BlockFault, declared.faults.DataFault.DataFault, declared.faults.LimitKind.LimitKind}
use Rattle.wsm_schema.specs.declared.faults.BlockFault.TheVariants as block
use Rattle.wsm_schema.specs.declared.faults.DataFault.TheVariants as on_data
use Rattle.wsm_schema.specs.declared.faults.LimitKind.TheVariants as limit
use Rattle.wsm_sound.specs.declared.faults.Fault.{Fault}
use Rattle.wsm_sound.specs.declared.faults.Fault.TheVariants as fault

-- what is said of the fault, a number, or the name of a node or an element
pub data Word : Type 0 where
  said : (word : Bytes) → Word
  number node element : (n : ℕ) → Word

abbrev pub limit_word : LimitKind → Bytes
limit_word limit.Nodes = codes "nodes"
limit_word limit.Depth = codes "depth"
limit_word limit.Syncs = codes "syncs"
limit_word limit.Elements = codes "elements"
limit_word limit.Reads = codes "reads"
limit_word limit.Writes = codes "writes"

abbrev pub why_word : OpWhy → Bytes
why_word (why.NoNode n) = codes "no-node"
why_word (why.NodeThere n) = codes "node-there"
why_word (why.WrongKind n) = codes "wrong-kind"
why_word (why.SelfTarget n) = codes "self-target"
why_word why.NoSync = codes "no-sync"
why_word why.SyncThere = codes "sync-there"
why_word why.NoEdge = codes "no-edge"
why_word why.EdgeThere = codes "edge-there"
why_word why.ElementThere = codes "element-there"

-- the node that stands against an operation
abbrev pub why_node : OpWhy → List Word
why_node (why.NoNode n) = node n ∷ []
why_node (why.NodeThere n) = node n ∷ []
why_node (why.WrongKind n) = node n ∷ []
why_node (why.SelfTarget n) = node n ∷ []
why_node why.NoSync = []
why_node why.SyncThere = []
why_node why.NoEdge = []
why_node why.EdgeThere = []
why_node why.ElementThere = []

-- the place of the operation that is refused, and why
abbrev pub op_words : OpFault → List Word
op_words f = said (codes "op") ∷ number f.index ∷ said (why_word f.why) ∷ why_node f.why

abbrev pub block_words : BlockFault → List Word
block_words (block.Limit kind) = said (codes "limit") ∷ said (limit_word kind) ∷ []
block_words (block.Twice n) = said (codes "twice") ∷ node n ∷ []
block_words (block.FewBranches n) = said (codes "few-branches") ∷ node n ∷ []
block_words (block.CodeTwice n code) = said (codes "code-twice") ∷ node n ∷ number code ∷ []
block_words (block.SyncEnd a b) = said (codes "sync-end") ∷ node a ∷ node b ∷ []
block_words (block.SyncPlace a b) = said (codes "sync-place") ∷ node a ∷ node b ∷ []
block_words (block.SyncLoop a b) = said (codes "sync-loop") ∷ node a ∷ node b ∷ []
block_words (block.SyncCycle a b) = said (codes "sync-cycle") ∷ node a ∷ node b ∷ []

abbrev pub data_words : DataFault → List Word
data_words (on_data.Unknown n e) = said (codes "unknown") ∷ node n ∷ element e ∷ []
data_words (on_data.Missing n e) = said (codes "missing") ∷ node n ∷ element e ∷ []
data_words (on_data.ParallelWrite a b e) = said (codes "parallel-write") ∷ node a ∷ node b ∷ element e ∷ []

abbrev pub fault_words : Fault → List Word
fault_words (fault.Op f) = op_words f
fault_words (fault.Block f) = block_words f
fault_words (fault.Data f) = data_words f

-- the name with a number, or the number in decimal
abbrev pub name_or : ℕ → Option Bytes → Bytes
name_or n None = decimal n
name_or n (Some name) = name

abbrev pub named : List Bytes → ℕ → Bytes
named names n = name_or n (slice_get names n)

abbrev pub word_text : List Bytes → List Bytes → Word → Bytes
word_text nodes elements (said w) = w
word_text nodes elements (number n) = decimal n
word_text nodes elements (node n) = named nodes n
word_text nodes elements (element e) = named elements e

abbrev pub after_space : Bytes → Bytes
after_space w = 32 ∷ w

abbrev pub words_text : List Bytes → List Bytes → List Word → Bytes
words_text nodes elements ws = flat_map (λ w. after_space (word_text nodes elements w)) ws

-- the words of a fault over the names of nodes and elements, each behind a space
abbrev pub fault_text : List Bytes → List Bytes → Fault → Bytes
fault_text nodes elements f = words_text nodes elements (fault_words f)
