-- Reports that are right and wrong.
use Rattle.std.proofs.Common.{◌≡◌, ℕ, List, [], ◌∷◌, None, Some, ◌++◌, map, refl, codes}
use Rattle.std.specs.Fmt.{digits}
use Rattle.audit_model.proofs.Common.{Act, Bytes, CaseDecl, CaseId, File, first_wrong, Line, plain, report_reader, SchemaModel, TypeDecl}
use Rattle.report_words.specs.Migrations.{has_fate}
use Rattle.wsm_schema.specs.Tree.{nothing, part}
use Rattle.wsm_schema.specs.Tree.{act as activity}
use Rattle.wsm_sound.specs.Faults.{fault_of}
use Rattle.file_model.specs.declared.files.Act.TheVariants as act

-- ann creates the case, and works its two nodes
abbrev schema : SchemaModel
schema = plain 0 1 (part (activity 2) (part (activity 3) nothing))

abbrev the_case : CaseId
the_case = record { type_no = 0; place = 0 }

abbrev case_decl : CaseDecl
case_decl = record { name = codes "c"; id = the_case }

abbrev type_decl : TypeDecl
type_decl = record { name = codes "t"; schema = schema }

abbrev file_of : List (List Line) → File
file_of phases = record {
  format = 1;
  nodes = codes "start" ∷ codes "finish" ∷ codes "A" ∷ codes "B" ∷ [];
  elements = [];
  roles = [];
  types = type_decl ∷ [];
  actors = record { name = codes "ann"; roles = [] } ∷ record { name = codes "bob"; roles = [] } ∷ [];
  cases = case_decl ∷ [];
  phases = phases;
}

abbrev line : ℕ → ℕ → Act → Line
line order actor a = record { at = order; order = order; actor = actor; act = a }

abbrev two_nodes : File
two_nodes = file_of ((line 1 1 (act.Create the_case) ∷ line 2 1 (act.Start the_case 2) ∷ line 3 1 (act.End the_case 2 None [])
    ∷ line 4 1 (act.Start the_case 3) ∷ line 5 1 (act.End the_case 3 None []) ∷ []) ∷ [])

abbrev begun : Bytes
begun = codes "adept report 1\ntype t\n1 - define -> defined\n2 ann newest -> is 1\ncase c t\n1 ann create 1 -> created\n2 ann start A -> started\n3 ann end A -> ended\n"

abbrev before_end : Bytes
before_end = begun ++ codes "4 ann start B -> started\n5 ann end B -> ended\nstate 1 finished own=0\nmarking start=C A=C B=C finish=C\nvalues\nitems\n"

abbrev last_line : Bytes
last_line = codes "summary cases=1 finished=1 entries=5 migrated=0 blocked=0 overlap=0"

-- the right report; then with line 9 changed, without its last line, none at all, bytes and a line behind it, and its last line feed missing
reports_of_two_nodes : map (first_wrong (report_reader two_nodes)) (
    (before_end ++ (last_line ++ codes "\n")) ∷ (begun ++ codes "4 ann start B -> not-ready N\n5 ann end B -> ended\n") ∷ before_end ∷ []
    ∷ (before_end ++ (last_line ++ codes "\nx")) ∷ (before_end ++ (last_line ++ codes "\n\n")) ∷ (before_end ++ last_line) ∷ [])
    ≡ None ∷ Some 9 ∷ Some 15 ∷ Some 1 ∷ Some 16 ∷ Some 16 ∷ Some 15 ∷ []
unfolding digits fault_of has_fate
reports_of_two_nodes = refl

-- Two actors in the second of two phases: either may be first there.
abbrev two_phases : File
two_phases = file_of ((line 1 1 (act.Create the_case) ∷ []) ∷ (line 2 2 (act.Start the_case 2) ∷ line 3 1 (act.Start the_case 2) ∷ []) ∷ [])

abbrev created : Bytes
created = codes "adept report 1\ntype t\n1 - define -> defined\n2 ann newest -> is 1\ncase c t\n1 ann create 1 -> created\n"

abbrev held_by : Bytes → Bytes
held_by name = codes "state 1 running own=0\nmarking start=C A=R B=N finish=N\nvalues\nitems A:" ++ (name ++ codes "\nsummary cases=1 finished=0 entries=3 migrated=0 blocked=0 overlap=0\n")

-- ann first, and bob first; then their replies exchanged, a call of the second phase first, and a call of nobody's
reports_of_two_phases : map (first_wrong (report_reader two_phases)) (
    (created ++ (codes "2 ann start A -> started\n3 bob start A -> not-ready R\n" ++ held_by (codes "ann")))
    ∷ (created ++ (codes "2 bob start A -> started\n3 ann start A -> not-ready R\n" ++ held_by (codes "bob")))
    ∷ (created ++ codes "2 ann start A -> not-ready R\n3 bob start A -> started\n")
    ∷ codes "adept report 1\ntype t\n1 - define -> defined\n2 ann newest -> is 1\ncase c t\n1 bob start A -> no-case\n2 ann create 1 -> created\n"
    ∷ (created ++ codes "2 eve start A -> started\n") ∷ [])
    ≡ None ∷ None ∷ Some 7 ∷ Some 6 ∷ Some 7 ∷ []
unfolding digits fault_of has_fate
reports_of_two_phases = refl
