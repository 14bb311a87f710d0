-- Reports of cases whose schema is changed, from the bytes of the file to the bytes of the report.
use Rattle.report_text.proofs.{Common.{codes, file, refl}, Examples.report}
use Rattle.std.specs.{Prelude.◌≡◌, Fmt.digits, Str.{is_utf8, chars}}
use Rattle.report_words.specs.Migrations.{has_fate}
use Rattle.wsm_sound.specs.Faults.{changed_by, fault_of}

pub insert_before_an_activated_node : report (file (codes "adept 1\ntype t\nact A\nact B\nend\nactor ann\ncase c t\nphase\nann create c\nann start c A\nann end c A\nann change c\ninsert X after A\nend\n")) ≡ codes "adept report 1\ntype t\n1 - define -> defined\n2 ann newest -> is 1\ncase c t\n1 ann create 1 -> created\n2 ann start A -> started\n3 ann end A -> ended\n4 ann change 1 -> changed\nstate 1 running own=1\nmarking start=C A=C X=A B=N finish=N\nvalues\nitems X@0\nsummary cases=1 finished=0 entries=4 migrated=0 blocked=0 overlap=0\n"
unfolding is_utf8 chars lib.Utf8.encode digits fault_of has_fate changed_by
insert_before_an_activated_node = refl

pub insert_before_a_started_node : report (file (codes "adept 1\ntype t\nact A\nact B\nend\nactor ann\ncase c t\nphase\nann create c\nann start c A\nann end c A\nann start c B\nann change c\ninsert X after A\nend\n")) ≡ codes "adept report 1\ntype t\n1 - define -> defined\n2 ann newest -> is 1\ncase c t\n1 ann create 1 -> created\n2 ann start A -> started\n3 ann end A -> ended\n4 ann start B -> started\n5 ann change 1 -> blocked 3 start B\nstate 1 running own=0\nmarking start=C A=C B=R finish=N\nvalues\nitems B:ann\nsummary cases=1 finished=0 entries=5 migrated=0 blocked=0 overlap=0\n"
unfolding is_utf8 chars lib.Utf8.encode digits fault_of has_fate changed_by
insert_before_a_started_node = refl

pub sync_against_the_order_of_starts : report (file (codes "adept 1\ntype t\nand p q\nbranch 0\nact A\nbranch 1\nact B\ndone\nact Z\nend\nactor ann\ncase c t\nphase\nann create c\nann start c B\nann start c A\nann end c A\nann end c B\nann change c\nsync A B\nend\n")) ≡ codes "adept report 1\ntype t\n1 - define -> defined\n2 ann newest -> is 1\ncase c t\n1 ann create 1 -> created\n2 ann start B -> started\n3 ann start A -> started\n4 ann end A -> ended\n5 ann end B -> ended\n6 ann change 1 -> blocked 1 start B\nstate 1 running own=0\nmarking start=C p=C A=C B=C q=C Z=A finish=N\nvalues\nitems Z@0\nsummary cases=1 finished=0 entries=6 migrated=0 blocked=0 overlap=0\n"
unfolding is_utf8 chars lib.Utf8.encode digits fault_of has_fate changed_by
sync_against_the_order_of_starts = refl

pub sync_with_the_order_of_starts : report (file (codes "adept 1\ntype t\nand p q\nbranch 0\nact A\nbranch 1\nact B\ndone\nact Z\nend\nactor ann\ncase c t\nphase\nann create c\nann start c A\nann end c A\nann start c B\nann end c B\nann change c\nsync A B\nend\n")) ≡ codes "adept report 1\ntype t\n1 - define -> defined\n2 ann newest -> is 1\ncase c t\n1 ann create 1 -> created\n2 ann start A -> started\n3 ann end A -> ended\n4 ann start B -> started\n5 ann end B -> ended\n6 ann change 1 -> changed\nstate 1 running own=1\nmarking start=C p=C A=C B=C q=C Z=A finish=N\nvalues\nitems Z@0\nsummary cases=1 finished=0 entries=6 migrated=0 blocked=0 overlap=0\n"
unfolding is_utf8 chars lib.Utf8.encode digits fault_of has_fate changed_by
sync_with_the_order_of_starts = refl

pub insert_before_a_repeated_loop : report (file (codes "adept 1\ntype t\nloop l e\nact A\ndone\nend\nactor ann\ncase c t\nphase\nann create c\nann start c A\nann end c A\nann start c e\nann end c e choice 1\nann change c\ninsert X after start\nend\n")) ≡ codes "adept report 1\ntype t\n1 - define -> defined\n2 ann newest -> is 1\ncase c t\n1 ann create 1 -> created\n2 ann start A -> started\n3 ann end A -> ended\n4 ann start e -> started\n5 ann end e choice 1 -> repeated\n6 ann change 1 -> blocked 4 again e\nstate 1 running own=0\nmarking start=C l=C A=A e=N finish=N\nvalues\nitems A@0\nsummary cases=1 finished=0 entries=6 migrated=0 blocked=0 overlap=0\n"
unfolding is_utf8 chars lib.Utf8.encode digits fault_of has_fate changed_by
insert_before_a_repeated_loop = refl

pub delete_a_completed_node : report (file (codes "adept 1\ntype t\nxor s j\nbranch 0\nbranch 1\nact X\ndone\nact Y\nact Z\nend\nactor ann\ncase c t\nphase\nann create c\nann start c s\nann end c s choice 0\nann start c Y\nann end c Y\nann change c\ndelete Y\nend\n")) ≡ codes "adept report 1\ntype t\n1 - define -> defined\n2 ann newest -> is 1\ncase c t\n1 ann create 1 -> created\n2 ann start s -> started\n3 ann end s choice 0 -> ended\n4 ann start Y -> started\n5 ann end Y -> ended\n6 ann change 1 -> blocked 3 start Y\nstate 1 running own=0\nmarking start=C s=C X=S j=C Y=C Z=A finish=N\nvalues\nitems Z@0\nsummary cases=1 finished=0 entries=6 migrated=0 blocked=0 overlap=0\n"
unfolding is_utf8 chars lib.Utf8.encode digits fault_of has_fate changed_by
delete_a_completed_node = refl

pub delete_skipped_and_activated : report (file (codes "adept 1\ntype t\nxor s j\nbranch 0\nbranch 1\nact X\ndone\nact Y\nact Z\nend\nactor ann\ncase c t\nphase\nann create c\nann start c s\nann end c s choice 0\nann change c\ndelete X\nend\nann change c\ndelete Y\nend\n")) ≡ codes "adept report 1\ntype t\n1 - define -> defined\n2 ann newest -> is 1\ncase c t\n1 ann create 1 -> created\n2 ann start s -> started\n3 ann end s choice 0 -> ended\n4 ann change 1 -> changed\n5 ann change 1 -> changed\nstate 1 running own=2\nmarking start=C s=C j=C Z=A finish=N\nvalues\nitems Z@0\nsummary cases=1 finished=0 entries=5 migrated=0 blocked=0 overlap=0\n"
unfolding is_utf8 chars lib.Utf8.encode digits fault_of has_fate changed_by
delete_skipped_and_activated = refl

pub move_a_completed_node : report (file (codes "adept 1\ntype t\nand p q\nbranch 0\nact A\nact B\nbranch 1\nact C\ndone\nact Z\nend\nactor ann\ncase c t\nphase\nann create c\nann start c A\nann end c A\nann change c\nmove A head p 1\nend\n")) ≡ codes "adept report 1\ntype t\n1 - define -> defined\n2 ann newest -> is 1\ncase c t\n1 ann create 1 -> created\n2 ann start A -> started\n3 ann end A -> ended\n4 ann change 1 -> changed\nstate 1 running own=1\nmarking start=C p=C B=A A=C C=A q=N Z=N finish=N\nvalues\nitems B@0 C@0\nsummary cases=1 finished=0 entries=4 migrated=0 blocked=0 overlap=0\n"
unfolding is_utf8 chars lib.Utf8.encode digits fault_of has_fate changed_by
move_a_completed_node = refl

pub move_behind_a_started_node : report (file (codes "adept 1\ntype t\nand p q\nbranch 0\nact A\nact B\nbranch 1\nact C\ndone\nact Z\nend\nactor ann\ncase c t\nphase\nann create c\nann start c A\nann end c A\nann start c B\nann end c B\nann change c\nmove A after B\nend\n")) ≡ codes "adept report 1\ntype t\n1 - define -> defined\n2 ann newest -> is 1\ncase c t\n1 ann create 1 -> created\n2 ann start A -> started\n3 ann end A -> ended\n4 ann start B -> started\n5 ann end B -> ended\n6 ann change 1 -> blocked 1 start A\nstate 1 running own=0\nmarking start=C p=C A=C B=C C=A q=N Z=N finish=N\nvalues\nitems C@0\nsummary cases=1 finished=0 entries=6 migrated=0 blocked=0 overlap=0\n"
unfolding is_utf8 chars lib.Utf8.encode digits fault_of has_fate changed_by
move_behind_a_started_node = refl

pub parallel_and_conditional : report (file (codes "adept 1\ntype t\nact A\nact B\nend\nactor ann\ncase c t\nphase\nann create c\nann change c\nparallel X with p q around A\nconditional Y with s j after q\nend\n")) ≡ codes "adept report 1\ntype t\n1 - define -> defined\n2 ann newest -> is 1\ncase c t\n1 ann create 1 -> created\n2 ann change 2 -> changed\nstate 1 running own=2\nmarking start=C p=C A=A X=A q=N s=N Y=N j=N B=N finish=N\nvalues\nitems A@0 X@0\nsummary cases=1 finished=0 entries=2 migrated=0 blocked=0 overlap=0\n"
unfolding is_utf8 chars lib.Utf8.encode digits fault_of has_fate changed_by
parallel_and_conditional = refl

pub then_delete_an_unknown_node : report (file (codes "adept 1\ntype t\nact A\nact B\nend\nactor ann\ncase c t\nphase\nann create c\nann change c\nparallel X with p q around A\nconditional Y with s j after q\nend\nann change c\ndelete Q\nend\n")) ≡ codes "adept report 1\ntype t\n1 - define -> defined\n2 ann newest -> is 1\ncase c t\n1 ann create 1 -> created\n2 ann change 2 -> changed\n3 ann change 1 -> unsound op 1 no-node Q\nstate 1 running own=2\nmarking start=C p=C A=A X=A q=N s=N Y=N j=N B=N finish=N\nvalues\nitems A@0 X@0\nsummary cases=1 finished=0 entries=3 migrated=0 blocked=0 overlap=0\n"
unfolding is_utf8 chars lib.Utf8.encode digits fault_of has_fate changed_by
then_delete_an_unknown_node = refl
