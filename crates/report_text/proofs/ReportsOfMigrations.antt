-- Reports of cases that move to other versions, from the bytes of the file to the bytes of the report.
use Rattle.report_text.proofs.{Common.{codes, file, refl}, Examples.report}
use Rattle.std.specs.{Prelude.◌≡◌, Fmt.digits, Str.{is_utf8, chars}}
use Rattle.case_core.specs.Machine.{overlap_with}
use Rattle.report_words.specs.Migrations.{has_fate}
use Rattle.wsm_sound.specs.Faults.{changed_by, fault_of}

pub migrate_in_the_third_iteration : report (file (codes "adept 1\ntype t\nloop l e\nact A\nact B\ndone\nact Z\nend\nactor ann\ncase c t\nphase\nann create c\nann start c A\nann end c A\nann start c B\nann end c B\nann start c e\nann end c e choice 1\nann start c A\nann end c A\nann start c B\nann end c B\nann start c e\nann end c e choice 1\nann start c A\nann end c A\nann install t\ninsert X after A\nend\nann migrate t\n")) ≡ codes "adept report 1\ntype t\n1 - define -> defined\n2 ann newest -> is 1\n3 ann install 1 -> installed 2\n4 ann newest -> is 2\ncase c t\n1 ann create 1 -> created\n2 ann start A -> started\n3 ann end A -> ended\n4 ann start B -> started\n5 ann end B -> ended\n6 ann start e -> started\n7 ann end e choice 1 -> repeated\n8 ann start A -> started\n9 ann end A -> ended\n10 ann start B -> started\n11 ann end B -> ended\n12 ann start e -> started\n13 ann end e choice 1 -> repeated\n14 ann start A -> started\n15 ann end A -> ended\n16 ann migrate 2 -> migrated 2\nstate 2 running own=0\nmarking start=C l=C A=C X=A B=N e=N Z=N finish=N\nvalues\nitems X@0\nsummary cases=1 finished=0 entries=16 migrated=1 blocked=0 overlap=0\n"
unfolding is_utf8 chars lib.Utf8.encode digits fault_of has_fate changed_by overlap_with
migrate_in_the_third_iteration = refl

pub migrate_a_finished_case : report (file (codes "adept 1\ntype t\nact A\nend\nactor ann\ncase c t\nphase\nann create c\nann start c A\nann end c A\nann install t\ninsert B after A\nend\nann migrate t\nann migrate t\n")) ≡ codes "adept report 1\ntype t\n1 - define -> defined\n2 ann newest -> is 1\n3 ann install 1 -> installed 2\n4 ann newest -> is 2\n5 ann newest -> is 2\ncase c t\n1 ann create 1 -> created\n2 ann start A -> started\n3 ann end A -> ended\n4 ann migrate 2 -> finished\n5 ann migrate 2 -> finished\nstate 1 finished own=0\nmarking start=C A=C finish=C\nvalues\nitems\nsummary cases=1 finished=1 entries=5 migrated=0 blocked=0 overlap=0\n"
unfolding is_utf8 chars lib.Utf8.encode digits fault_of has_fate changed_by overlap_with
migrate_a_finished_case = refl

pub overlap_and_migration : report (file (codes "adept 1\ntype t\nact A\nact B\nend\nactor ann\ncase c t\ncase c2 t\nphase\nann create c\nann create c2\nann change c\ninsert X after A\nend\nann change c2\ninsert V after B\nend\nann install t\ninsert Y after A\nend\nann migrate t\n")) ≡ codes "adept report 1\ntype t\n1 - define -> defined\n2 ann newest -> is 1\n3 ann newest -> is 1\n4 ann install 1 -> installed 2\n5 ann newest -> is 2\ncase c t\n1 ann create 1 -> created\n2 ann change 1 -> changed\n3 ann migrate 2 -> overlap gap-after A\nstate 1 running own=1\nmarking start=C A=A X=N B=N finish=N\nvalues\nitems A@0\ncase c2 t\n1 ann create 1 -> created\n2 ann change 1 -> changed\n3 ann migrate 2 -> migrated 2\nstate 2 running own=1\nmarking start=C A=A Y=N B=N V=N finish=N\nvalues\nitems A@0\nsummary cases=2 finished=0 entries=6 migrated=1 blocked=0 overlap=1\n"
unfolding is_utf8 chars lib.Utf8.encode digits fault_of has_fate changed_by overlap_with
overlap_and_migration = refl

pub sync_edges_that_close_a_cycle : report (file (codes "adept 1\ntype t\nand p q\nbranch 0\nact A\nbranch 1\nact B\ndone\nend\nactor ann\ncase c t\nphase\nann create c\nann change c\nsync A B\nend\nann install t\nsync B A\nend\nann migrate t\n")) ≡ codes "adept report 1\ntype t\n1 - define -> defined\n2 ann newest -> is 1\n3 ann install 1 -> installed 2\n4 ann newest -> is 2\ncase c t\n1 ann create 1 -> created\n2 ann change 1 -> changed\n3 ann migrate 2 -> unsound sync-cycle B A\nstate 1 running own=1\nmarking start=C p=C A=A B=N q=N finish=N\nvalues\nitems A@0\nsummary cases=1 finished=0 entries=3 migrated=0 blocked=0 overlap=0\n"
unfolding is_utf8 chars lib.Utf8.encode digits fault_of has_fate changed_by overlap_with
sync_edges_that_close_a_cycle = refl

pub not_newer : report (file (codes "adept 1\ntype t\nact A\nend\nactor ann\ncase c t\nphase\nann create c\nann migrate t\nann install t\ninsert B after A\nend\nann migrate t\nann migrate t\n")) ≡ codes "adept report 1\ntype t\n1 - define -> defined\n2 ann newest -> is 1\n3 ann newest -> is 1\n4 ann install 1 -> installed 2\n5 ann newest -> is 2\n6 ann newest -> is 2\ncase c t\n1 ann create 1 -> created\n2 ann migrate 1 -> not-newer 1\n3 ann migrate 2 -> migrated 2\n4 ann migrate 2 -> not-newer 2\nstate 2 running own=0\nmarking start=C A=A B=N finish=N\nvalues\nitems A@0\nsummary cases=1 finished=0 entries=4 migrated=1 blocked=0 overlap=0\n"
unfolding is_utf8 chars lib.Utf8.encode digits fault_of has_fate changed_by overlap_with
not_newer = refl
