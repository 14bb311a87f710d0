-- How far the cases of logs go, computed from the definitions alone: from the bytes of a log.
use Rattle.log_fit.proofs.Common.{[], ℕ, ◌++◌, ◌∷◌, ◌≡◌, Bytes, CaseFit, codes, fits_told, List, map, None, refl, Reply, Some, told, VersionModel, WrongRecord}
use Rattle.std.specs.{Prelude.{Result, Ok, Err}, Str.{is_utf8, chars}}
use Rattle.case_core.specs.declared.replies.Reply.TheVariants as reply
use Rattle.csv.specs.{Machine.next_record, Reading.{records_from, strip_bom}}
use Rattle.log_records.specs.declared.faults.RecordFault.TheVariants as fault
use Rattle.wsm_schema.specs.{SchemaModel.plain, Tree.{act, nothing, part}}
use Rattle.wsm_schema.specs.declared.states.State.TheVariants as state
use Rattle.wsm_sound.specs.Versions.{first_version}

-- two versions: A alone, and B behind it
abbrev without_b : VersionModel
without_b = first_version 0 (plain 0 1 (part (act 2) nothing))

abbrev with_b : VersionModel
with_b = first_version 0 (plain 0 1 (part (act 2) (part (act 3) nothing)))

abbrev fit_on : VersionModel → Bytes → Result (List CaseFit) WrongRecord
fit_on v log = fits_told v (told (codes "start" ∷ codes "finish" ∷ codes "A" ∷ codes "B" ∷ []) [] log)

abbrev row : Bytes → ℕ → ℕ → Reply → CaseFit
row case events fits r = record { case = case; events = events; fits = fits; next = Some r }

-- a log of two cases, and logs of one
abbrev log_of : Bytes → Bytes
log_of records = codes "case,event,node,user,choice,writes\n" ++ records

abbrev both : Bytes
both = log_of (codes "x,start,A,1,,\nx,end,A,1,,\ny,start,B,1,,\nx,start,B,2,,\nx,end,B,1,,\n")

-- a holder that is another, and a start that is not ready; each case has its own records; the first wrong record alone is told
pub newer :
    map (fit_on with_b) (both ∷ log_of (codes "x,start,A,1,,\nx,stop,A,1,,\nx,stop,A,1,,\n") ∷ [])
    ≡ Ok (row (codes "x") 4 3 (reply.NotHolder 2) ∷ row (codes "y") 1 0 (reply.NotReady state.NotActivated) ∷ []) ∷ Err (record { index = 3; why = fault.Form }) ∷ []
unfolding next_record records_from strip_bom is_utf8 chars lib.Utf8.encode
newer = refl

-- on the older version both stop at the node that it has not; a case that goes on to its end; nothing is tried behind a refusal; a node that
-- the file does not name is none of the schema
pub older :
    map (fit_on without_b) (both ∷ log_of (codes "x,start,A,1,,\nx,end,A,1,,\n") ∷ log_of (codes "x,end,A,5,,\nx,start,A,5,,\n") ∷ log_of (codes "x,start,Nope,5,,\nx,start,A,5,,\n") ∷ [])
    ≡ Ok (row (codes "x") 4 2 reply.NoNode ∷ row (codes "y") 1 0 reply.NoNode ∷ [])
    ∷ Ok (record { case = codes "x"; events = 2; fits = 2; next = None } ∷ [])
    ∷ Ok (row (codes "x") 2 0 (reply.NotRunning state.Activated) ∷ [])
    ∷ Ok (row (codes "x") 2 0 reply.NoNode ∷ [])
    ∷ []
unfolding next_record records_from strip_bom is_utf8 chars lib.Utf8.encode
older = refl
