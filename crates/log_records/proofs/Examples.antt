-- What logs tell, computed from the definitions alone.
use Rattle.std.specs.{Prelude.{◌≡◌, negsuc, List, [], ◌∷◌, Some, None, Ok, Err, refl, codes, ◌++◌}, Str.{is_utf8, chars}}
use Rattle.csv.specs.{Machine.next_record, Reading.{records_from, strip_bom}}
use Rattle.file_words.specs.Lines.{Bytes}
use Rattle.log_records.specs.{Records.records_of, Told.told}
use Rattle.log_records.specs.declared.faults.RecordFault.TheVariants as fault
use Rattle.log_records.specs.declared.records.LogEvent.TheVariants as event
use Rattle.wsm_lists.specs.declared.values.Value.TheVariants as value

abbrev nodes : List Bytes
nodes = codes "start" ∷ codes "finish" ∷ codes "A" ∷ codes "B" ∷ []

abbrev elements : List Bytes
elements = codes "d" ∷ codes "f" ∷ []

abbrev head : Bytes
head = codes "case,event,node,user,choice,writes\n"

-- a byte order mark is no part of the first record, blank lines are no records, and quotes are no part of a field
pub marks_and_quotes : records_of (239 ∷ 187 ∷ 191 ∷ codes "a,\"b\"\n\n\r\n\"c\"\"d\"") ≡ (codes "a" ∷ codes "b" ∷ []) ∷ (codes "c\"d" ∷ []) ∷ []
unfolding next_record records_from strip_bom
marks_and_quotes = refl

-- starts and ends; a node that the file does not name has no number
pub right : told nodes elements (head ++ codes "x,start,A,1,,\nx,end,A,1,,\"d=-7 f=\"\"a, b\"\"\"\ny,end,Q,2,3,") ≡ Ok (record { case = codes "x"; event = event.Start (Some 2) 1 } ∷ record { case = codes "x"; event = event.End (Some 2) 1 ((0, value.Int (negsuc 6)) ∷ (1, value.Text (codes "a, b")) ∷ []) None } ∷ record { case = codes "y"; event = event.End None 2 [] (Some 3) } ∷ [])
unfolding next_record records_from strip_bom is_utf8 chars lib.Utf8.encode
right = refl

-- the first wrong record
pub no_record : told nodes elements [] ≡ Err (record { index = 1; why = fault.Head })
unfolding next_record records_from strip_bom
no_record = refl

pub other_titles : told nodes elements (codes "case,event,node,user,choice\n") ≡ Err (record { index = 1; why = fault.Head })
unfolding next_record records_from strip_bom
other_titles = refl

pub other_event : told nodes elements (head ++ codes "x,start,A,1,,\nx,stop,A,1,,\nx,end,A,-1,,\n") ≡ Err (record { index = 3; why = fault.Form })
unfolding next_record records_from strip_bom
other_event = refl

pub seven_fields : told nodes elements (head ++ codes "x,start,A,1,,,\n") ≡ Err (record { index = 2; why = fault.Form })
unfolding next_record records_from strip_bom
seven_fields = refl

pub writes_of_a_start : told nodes elements (head ++ codes "x,start,A,1,,d=1\n") ≡ Err (record { index = 2; why = fault.Form })
unfolding next_record records_from strip_bom
writes_of_a_start = refl

pub two_spaces : told nodes elements (head ++ codes "x,end,A,1,,d=1  d=2\n") ≡ Err (record { index = 2; why = fault.Form })
unfolding next_record records_from strip_bom is_utf8 chars lib.Utf8.encode
two_spaces = refl

pub tab : told nodes elements (head ++ codes "x,end,A,1,,d=1\td=2\n") ≡ Err (record { index = 2; why = fault.Form })
unfolding next_record records_from strip_bom is_utf8 chars lib.Utf8.encode
tab = refl

pub unknown_element : told nodes elements (head ++ codes "x,end,A,1,,g=1\n") ≡ Err (record { index = 2; why = fault.Form })
unfolding next_record records_from strip_bom is_utf8 chars lib.Utf8.encode
unknown_element = refl

pub wide_user : told nodes elements (head ++ codes "x,end,A,4294967296,,\n") ≡ Err (record { index = 2; why = fault.Form })
unfolding next_record records_from strip_bom
wide_user = refl
