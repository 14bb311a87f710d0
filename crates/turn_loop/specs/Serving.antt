-- How a talk in turns goes on, and how it ends.
use Rattle.std.specs.{Prelude.{◌≡◌, ◌⊎◌, ℕ, ◌<◌, ◌≤◌, ◌^◌, Bool, true, List, [], ◌++◌, length, drop, Option, IfSome, IfOk, IfErr, Result, Ok, Err}, List.AllByRecursion, Io.KnownBytes.{Appends, Consumes, IsAtEnd, Keeps}}
use Rattle.adept_io.specs.Written.{AppendsPrefix}
use Rattle.store_disk.specs.{Disk.LeavesOnly, Image.{all_framed, HasList}, Rest.IsAtRest}
use Rattle.turn_loop.specs.{Groups.{HoldsItems, HoldsNoneOrAll, HoldsTurns}, Talk.{Begins, Bytes, Rules, IsRest, answers, behind, said, split, still_first, worked}, Turns.{IsRead, NoneWaited, as_turn, but_last, joined, turns, turns_from}}
use Rattle.turn_loop.specs.{Turns.turns_of, declared.faults.TalkFault.TalkFault, declared.limits.TheConstants.MAX_INPUT, declared.turns.Turn.Turn}
use Rattle.turn_loop.specs.declared.faults.TalkFault.TheVariants as fault

-- bytes begin with these items, and go on with a rest, whatever stands behind them
pub record Front (ends : Bytes → ℕ → Bool) (bytes : Bytes) (items : List Bytes) (rest : Bytes) : Type 0 where
  pub splits : (more : Bytes) → split ends (bytes ++ more) ≡ behind items (split ends (rest ++ more))

-- The items at the front of bytes were worked, up to a place: all are of one turn, whatever items come behind them.
pub record Works {E : Type 0} (rules : Rules) (holds : E → Bool → List Bytes → Bytes → Type 0) (first : Bool) (ps : List Bytes) (begun bytes : Bytes) (desk : E) (text : Bytes) (group : List Bytes) (n : ℕ) : Type 0 where
  pub items : List Bytes
  pub left : Bytes
  pub front : Front rules.ends (begun ++ bytes) items (left ++ drop n bytes)
  pub open_item : IsRest rules.ends left
  pub one_turn : (more : List Bytes) → turns rules first ps (items ++ more) ≡ turns_from rules (still_first first items) (ps ++ group) items (length text) more
  pub answered : text ≡ answers rules first ps items
  pub accepted : worked rules ps items ≡ ps ++ group
  pub keeps : holds desk (still_first first items) (ps ++ group) left
  pub room : (group ≡ []) ⊎ (length (all_framed (ps ++ group)) < 2 ^ 30)

-- a turn was worked, stored and answered
pub record Turned {E D : Type 0} (rules : Rules) (holds : E → Bool → List Bytes → Bytes → Type 0) (content : D → List ℕ) (may_leave : D → List ℕ → Type 0) (moment : D → ℕ) (left_since : D → ℕ → List ℕ → Type 0) (old new : D) (before after : Option Bytes) (first : Bool) (ps : List Bytes) (begun bytes : Bytes) (desk : E) (t : Turn) : Type 0 where
  pub items : List Bytes
  pub left : Bytes
  pub front : Front rules.ends (begun ++ bytes) items (left ++ drop t.done bytes)
  pub open_item : IsRest rules.ends left
  pub one_turn : turns rules first ps (split rules.ends (begun ++ bytes)).items ≡ as_turn items ++ turns rules (still_first first items) (worked rules ps items) (split rules.ends (left ++ drop t.done bytes)).items
  pub keeps : holds desk (still_first first items) (worked rules ps items) left
  pub rest : IsAtRest content may_leave new (worked rules ps items) t.gate
  pub room : t.gate < 2 ^ 30
  pub answered : Appends before after (answers rules first ps items)
  pub moments : LeavesOnly moment left_since old new (HoldsNoneOrAll rules ps items)

-- What was written in a turn that was cut, and what the disk holds: nothing was worked; or nothing was written; or all of
-- the turn is stored, and the first of its answers were written.
abbrev pub CutTells : Rules → (images : List ℕ → Type 0) → (before after : Option Bytes) → (first : Bool) → List Bytes → List Bytes → TalkFault → Type 0
CutTells rules images before after first ps items fault.NoMemory = (items ≡ []) × Keeps before after
CutTells rules images before after first ps items fault.Disk = Keeps before after
CutTells rules images before after first ps items fault.Unwritten = AppendsPrefix before after (answers rules first ps items) × ((c : List ℕ) → images c → HasList (worked rules ps items) c)
CutTells rules images before after first ps items fault.Unread = ⊥
CutTells rules images before after first ps items fault.TooLong = ⊥

-- a turn was cut
pub record Cut {D : Type 0} (rules : Rules) (may_leave : D → List ℕ → Type 0) (moment : D → ℕ) (left_since : D → ℕ → List ℕ → Type 0) (old new : D) (before after : Option Bytes) (first : Bool) (ps : List Bytes) (begun bytes : Bytes) (why : TalkFault) : Type 0 where
  pub items : List Bytes
  pub one_turn : Begins (as_turn items) (turns rules first ps (split rules.ends (begun ++ bytes)).items)
  pub moments : LeavesOnly moment left_since old new (HoldsNoneOrAll rules ps items)
  pub tells : CutTells rules (may_leave new) before after first ps items why

-- a turn was worked, or cut, whatever item has begun where these payloads are held
abbrev pub TurnedFrom : {E D : Type 0} → (rules : Rules) → (holds : E → Bool → List Bytes → Bytes → Type 0) → (content : D → List ℕ) → (may_leave : D → List ℕ → Type 0) → (moment : D → ℕ) → (left_since : D → ℕ → List ℕ → Type 0) → List Bytes → (desk next : E) → (old new : D) → (before after : Option Bytes) → Bytes → Result Turn TalkFault → Type 0
TurnedFrom rules holds content may_leave moment left_since ps desk next old new before after bytes result =
    (first : Bool) (begun : Bytes) → holds desk first ps begun → IsRest rules.ends begun → IfOk result (λ t. Turned rules holds content may_leave moment left_since old new before after first ps begun bytes next t)

abbrev pub CutFrom : {E D : Type 0} → (rules : Rules) → (holds : E → Bool → List Bytes → Bytes → Type 0) → (may_leave : D → List ℕ → Type 0) → (moment : D → ℕ) → (left_since : D → ℕ → List ℕ → Type 0) → List Bytes → (desk : E) → (old new : D) → (before after : Option Bytes) → Bytes → Result Turn TalkFault → Type 0
CutFrom rules holds may_leave moment left_since ps desk old new before after bytes result =
    (first : Bool) (begun : Bytes) → holds desk first ps begun → IsRest rules.ends begun → IfErr result (λ e. Cut rules may_leave moment left_since old new before after first ps begun bytes e)

-- What was written by the end, where all of these turns were answered, and these items were worked in the turn that was
-- cut.
abbrev pub EndTells : Rules → (images : List ℕ → Type 0) → (left before after : Option Bytes) → List Bytes → (reads : List Bytes) → (done : List (List Bytes)) → (last : List Bytes) → Result (Unit {0}) TalkFault → Type 0
EndTells rules images left before after ps reads done last (Ok _) =
    IsAtEnd left × (length (joined reads) ≤ MAX_INPUT) × (done ≡ turns_of rules true ps [] reads) × (last ≡ []) × Appends before after (said rules ps (joined reads))
EndTells rules images left before after ps reads done last (Err fault.Unread) =
    (done ≡ turns_of rules true ps [] reads) × (last ≡ []) × Appends before after (answers rules true ps (joined done))
EndTells rules images left before after ps reads done last (Err fault.TooLong) =
    (MAX_INPUT < length (joined reads)) × (done ≡ turns_of rules true ps [] reads) × (last ≡ []) × Appends before after (answers rules true ps (joined done))
EndTells rules images left before after ps reads done last (Err fault.NoMemory) = (last ≡ []) × Appends before after (answers rules true ps (joined done))
EndTells rules images left before after ps reads done last (Err fault.Disk) = Appends before after (answers rules true ps (joined done))
EndTells rules images left before after ps reads done last (Err fault.Unwritten) =
    ((c : List ℕ) → images c → HasList (worked rules ps (joined done ++ last)) c)
    × ((middle : Option Bytes) × Appends before middle (answers rules true ps (joined done)) × (AppendsPrefix middle after (answers rules (still_first true (joined done)) (worked rules ps (joined done)) last)
    ⊎ (IsAtEnd left × (done ≡ turns_of rules true ps [] reads) × (last ≡ []) × AppendsPrefix middle after (rules.ending (worked rules ps (joined done)) (split rules.ends (joined reads)).rest))))

-- A talk has ended. Reads gave these bytes; of their turns the first were stored and answered, and the items of the next
-- were worked and then cut. A stop at any moment of the talk leaves the records from before and what was accepted in some
-- of these turns, each of them whole; a stop now leaves all whose answers were written.
pub record Ended {D : Type 0} (rules : Rules) (may_leave : D → List ℕ → Type 0) (moment : D → ℕ) (left_since : D → ℕ → List ℕ → Type 0) (old new : D) (from to before after : Option Bytes) (ps : List Bytes) (end : Result (Unit {0}) TalkFault) : Type 0 where
  pub reads : List Bytes
  pub done : List (List Bytes)
  pub last : List Bytes
  pub taken : Consumes from to (joined reads)
  pub pieces : AllByRecursion IsRead reads
  pub within : length (joined (but_last reads)) ≤ MAX_INPUT
  pub none_waited : NoneWaited rules ps reads done
  pub begins : Begins (done ++ as_turn last) (turns_of rules true ps [] reads)
  pub moments : LeavesOnly moment left_since old new (HoldsTurns rules ps [] (done ++ as_turn last))
  pub now : (c : List ℕ) → may_leave new c → HoldsTurns rules ps done (done ++ as_turn last) c
  pub tells : EndTells rules (may_leave new) to before after ps reads done last end

-- for the whole talk, where it is known: what a stop leaves
abbrev pub HoldsBeginningOf : Rules → List Bytes → Option Bytes → List ℕ → Type 0
HoldsBeginningOf rules ps talk image = IfSome talk (λ bytes. HoldsItems rules ps [] (split rules.ends bytes).items image)

-- what is written where the bytes have ended
abbrev pub Closes : (before after : Option Bytes) → (text : Bytes) → Result (Unit {0}) TalkFault → Type 0
Closes before after text (Ok _) = Appends before after text
Closes before after text (Err fault.NoMemory) = Keeps before after
Closes before after text (Err fault.Unwritten) = AppendsPrefix before after text
Closes before after text (Err _) = ⊥

-- What was written is a beginning of the answers to these items, with which the talk begins, or to all of it; and each image
-- has all of these that were accepted, behind the records from before, and nothing but what was accepted.
pub record Acknowledged (rules : Rules) (images : List ℕ → Type 0) (before after : Option Bytes) (ps : List Bytes) (talk : Bytes) : Type 0 where
  pub items : List Bytes
  pub answered : AppendsPrefix before after (answers rules true ps items) ⊎ ((items ≡ (split rules.ends talk).items) × AppendsPrefix before after (said rules ps talk))
  pub begins : Begins items (split rules.ends talk).items
  pub stored : (c : List ℕ) → images c → HoldsItems rules ps items (split rules.ends talk).items c
