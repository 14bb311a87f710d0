-- Reports of cases that are created, started and ended, from the bytes of the file to the bytes of the report.
use Rattle.report_text.proofs.{Common.{codes, file, refl}, Examples.report}
use Rattle.std.specs.{Prelude.◌≡◌, Fmt.digits, Str.{is_utf8, chars}}
use Rattle.report_words.specs.Migrations.{has_fate}
use Rattle.wsm_sound.specs.Faults.{fault_of}

pub sequence_of_two : report (file (codes "adept 1\ntype t\nact A\nact B\nend\nactor ann\ncase c t\nphase\nann create c\nann start c A\nann end c A\nann start c B\nann end c B\n")) ≡ codes "adept report 1\ntype t\n1 - define -> defined\n2 ann newest -> is 1\ncase c t\n1 ann create 1 -> created\n2 ann start A -> started\n3 ann end A -> ended\n4 ann start B -> started\n5 ann end B -> ended\nstate 1 finished own=0\nmarking start=C A=C B=C finish=C\nvalues\nitems\nsummary cases=1 finished=1 entries=5 migrated=0 blocked=0 overlap=0\n"
unfolding is_utf8 chars lib.Utf8.encode digits fault_of has_fate
sequence_of_two = refl

pub type_without_items : report (file (codes "adept 1\ntype t\nend\nactor ann\ncase c t\nphase\nann create c\n")) ≡ codes "adept report 1\ntype t\n1 - define -> defined\n2 ann newest -> is 1\ncase c t\n1 ann create 1 -> created\nstate 1 finished own=0\nmarking start=C finish=C\nvalues\nitems\nsummary cases=1 finished=1 entries=1 migrated=0 blocked=0 overlap=0\n"
unfolding is_utf8 chars lib.Utf8.encode digits fault_of has_fate
type_without_items = refl

pub xor_skips_the_branch_not_chosen : report (file (codes "adept 1\ntype t\nxor s j\nbranch 0\nbranch 1\nact X\ndone\nact Z\nend\nactor ann\ncase c t\nphase\nann create c\nann start c s\nann end c s choice 0\n")) ≡ codes "adept report 1\ntype t\n1 - define -> defined\n2 ann newest -> is 1\ncase c t\n1 ann create 1 -> created\n2 ann start s -> started\n3 ann end s choice 0 -> ended\nstate 1 running own=0\nmarking start=C s=C X=S j=C Z=A finish=N\nvalues\nitems Z@0\nsummary cases=1 finished=0 entries=3 migrated=0 blocked=0 overlap=0\n"
unfolding is_utf8 chars lib.Utf8.encode digits fault_of has_fate
xor_skips_the_branch_not_chosen = refl

pub sync_from_a_skipped_node : report (file (codes "adept 1\ntype t\nand p q\nbranch 0\nxor s j\nbranch 0\nbranch 1\nact X\ndone\nbranch 1\nact Y\ndone\nsync X Y\nend\nactor ann\ncase c t\nphase\nann create c\nann start c Y\nann start c s\nann end c s choice 0\n")) ≡ codes "adept report 1\ntype t\n1 - define -> defined\n2 ann newest -> is 1\ncase c t\n1 ann create 1 -> created\n2 ann start Y -> not-ready N\n3 ann start s -> started\n4 ann end s choice 0 -> ended\nstate 1 running own=0\nmarking start=C p=C s=C X=S j=C Y=A q=N finish=N\nvalues\nitems Y@0\nsummary cases=1 finished=0 entries=4 migrated=0 blocked=0 overlap=0\n"
unfolding is_utf8 chars lib.Utf8.encode digits fault_of has_fate
sync_from_a_skipped_node = refl

pub writes_outlive_the_cut : report (file (codes "adept 1\ntype t\nelement d int\nloop l e\nact R\nxor s j\nbranch 0\nbranch 1\nact W\ndone\ndone\nread R d optional\nwrite W d\nend\nactor ann\ncase c t\nphase\nann create c\nann start c R\nann end c R\nann start c s\nann end c s choice 1\nann start c W\nann end c W d=7\nann start c e\nann end c e choice 1\nann start c R\n")) ≡ codes "adept report 1\ntype t\n1 - define -> defined\n2 ann newest -> is 1\ncase c t\n1 ann create 1 -> created\n2 ann start R -> started d=-\n3 ann end R -> ended\n4 ann start s -> started\n5 ann end s choice 1 -> ended\n6 ann start W -> started\n7 ann end W d=7 -> ended\n8 ann start e -> started\n9 ann end e choice 1 -> repeated\n10 ann start R -> started d=7\nstate 1 running own=0\nmarking start=C l=C R=R s=N W=N j=N e=N finish=N\nvalues d=7\nitems R:ann\nsummary cases=1 finished=0 entries=10 migrated=0 blocked=0 overlap=0\n"
unfolding is_utf8 chars lib.Utf8.encode digits fault_of has_fate
writes_outlive_the_cut = refl

pub type_without_a_case : report (file (codes "adept 1\ntype t\nelement d int\nand s j\nbranch 0\nact A\nbranch 1\nact B\ndone\nwrite A d\nwrite B d\nsync A B\nend\n")) ≡ codes "adept report 1\ntype t\n1 - define -> defined\nsummary cases=0 finished=0 entries=0 migrated=0 blocked=0 overlap=0\n"
unfolding is_utf8 chars lib.Utf8.encode digits fault_of has_fate
type_without_a_case = refl

pub branch_of_the_greatest_code : report (file (codes "adept 1\ntype t\nxor s j\nbranch 65535\nbranch 0\ndone\nend\nactor ann\ncase c t\nphase\nann create c\n")) ≡ codes "adept report 1\ntype t\n1 - define -> defined\n2 ann newest -> is 1\ncase c t\n1 ann create 1 -> created\nstate 1 running own=0\nmarking start=C s=A j=N finish=N\nvalues\nitems s@0\nsummary cases=1 finished=0 entries=1 migrated=0 blocked=0 overlap=0\n"
unfolding is_utf8 chars lib.Utf8.encode digits fault_of has_fate
branch_of_the_greatest_code = refl

pub refusals_in_order : report (file (codes "adept 1\ntype t\nact A role 7\nend\nactor ann roles 3\nactor bob roles 7\ncase c t\nphase\nann start c A\nann create c\nann create c\nann start c Q\nann start c A\nbob start c A\nann end c A\nbob end c A d=1\nbob end c A choice 1\nbob end c A\n")) ≡ codes "adept report 1\ntype t\n1 - define -> defined\n2 ann newest -> is 1\n3 ann newest -> is 1\ncase c t\n1 ann start A -> no-case\n2 ann create 1 -> created\n3 ann create 1 -> already\n4 ann start Q -> no-node\n5 ann start A -> not-allowed 7\n6 bob start A -> started\n7 ann end A -> not-holder bob\n8 bob end A d=1 -> wrong-writes d\n9 bob end A choice 1 -> no-branch 1\n10 bob end A -> ended\nstate 1 finished own=0\nmarking start=C A=C finish=C\nvalues\nitems\nsummary cases=1 finished=1 entries=10 migrated=0 blocked=0 overlap=0\n"
unfolding is_utf8 chars lib.Utf8.encode digits fault_of has_fate
refusals_in_order = refl

pub wrong_writes : report (file (codes "adept 1\ntype t\nelement d int\nact A\nwrite A d\nend\nactor ann\ncase c t\nphase\nann create c\nann start c A\nann end c A d=1 d=2\nann end c A d=\"x\"\nann end c A d=1\n")) ≡ codes "adept report 1\ntype t\n1 - define -> defined\n2 ann newest -> is 1\ncase c t\n1 ann create 1 -> created\n2 ann start A -> started\n3 ann end A d=1 d=2 -> wrong-writes d\n4 ann end A d=\"x\" -> wrong-writes d\n5 ann end A d=1 -> ended\nstate 1 finished own=0\nmarking start=C A=C finish=C\nvalues d=1\nitems\nsummary cases=1 finished=1 entries=5 migrated=0 blocked=0 overlap=0\n"
unfolding is_utf8 chars lib.Utf8.encode digits fault_of has_fate
wrong_writes = refl

pub phases_without_lines : report (file (codes "adept 1\ntype t\nact A\nend\nphase\nphase\n")) ≡ codes "adept report 1\ntype t\n1 - define -> defined\nsummary cases=0 finished=0 entries=0 migrated=0 blocked=0 overlap=0\n"
unfolding is_utf8 chars lib.Utf8.encode digits fault_of has_fate
phases_without_lines = refl
