-- Whole files, computed from the definitions alone.
use Rattle.file_model.proofs.{Common.{codes, file}, Examples.told}
use Rattle.std.specs.{Prelude.{◌≡◌, [], refl}, Str.{is_utf8, chars}, Fmt.digits}
use Rattle.wsm_sound.specs.Faults.{fault_of}

pub sequence-of-two : told (file (codes "adept 1\ntype t\nact A\nact B\nend\nactor ann\ncase c t\nphase\nann create c\nann start c A\nann end c A\nann start c B\nann end c B\n")) ≡ (0, [])
unfolding is_utf8 chars lib.Utf8.encode digits fault_of
sequence-of-two = refl

pub empty-input : told (file ([])) ≡ (1, codes "header")
unfolding is_utf8 chars lib.Utf8.encode digits fault_of
empty-input = refl

pub type-without-items : told (file (codes "adept 1\ntype t\nend\nactor ann\ncase c t\nphase\nann create c\n")) ≡ (0, [])
unfolding is_utf8 chars lib.Utf8.encode digits fault_of
type-without-items = refl

pub xor-skips-the-branch-not-chosen : told (file (codes "adept 1\ntype t\nxor s j\nbranch 0\nbranch 1\nact X\ndone\nact Z\nend\nactor ann\ncase c t\nphase\nann create c\nann start c s\nann end c s choice 0\n")) ≡ (0, [])
unfolding is_utf8 chars lib.Utf8.encode digits fault_of
xor-skips-the-branch-not-chosen = refl

pub insert-before-an-activated-node : told (file (codes "adept 1\ntype t\nact A\nact B\nend\nactor ann\ncase c t\nphase\nann create c\nann start c A\nann end c A\nann change c\ninsert X after A\nend\n")) ≡ (0, [])
unfolding is_utf8 chars lib.Utf8.encode digits fault_of
insert-before-an-activated-node = refl

pub missing-data : told (file (codes "adept 1\ntype t\nelement d int\nxor s j\nbranch 0\nbranch 1\nact W\ndone\nact R\nwrite W d\nread R d\nend\n")) ≡ (12, codes "unsound missing R d")
unfolding is_utf8 chars lib.Utf8.encode digits fault_of
missing-data = refl

pub parallel-write : told (file (codes "adept 1\ntype t\nelement d int\nand s j\nbranch 0\nact A\nbranch 1\nact B\ndone\nwrite A d\nwrite B d\nend\n")) ≡ (12, codes "unsound parallel-write A B d")
unfolding is_utf8 chars lib.Utf8.encode digits fault_of
parallel-write = refl

pub parallel-write-with-a-sync-edge : told (file (codes "adept 1\ntype t\nelement d int\nand s j\nbranch 0\nact A\nbranch 1\nact B\ndone\nwrite A d\nwrite B d\nsync A B\nend\n")) ≡ (0, [])
unfolding is_utf8 chars lib.Utf8.encode digits fault_of
parallel-write-with-a-sync-edge = refl

pub branch-65535 : told (file (codes "adept 1\ntype t\nxor s j\nbranch 65535\nbranch 0\ndone\nend\nactor ann\ncase c t\nphase\nann create c\n")) ≡ (0, [])
unfolding is_utf8 chars lib.Utf8.encode digits fault_of
branch-65535 = refl

pub branch-65536 : told (file (codes "adept 1\ntype t\nxor s j\nbranch 65536\nbranch 0\ndone\nend\nactor ann\ncase c t\nphase\nann create c\n")) ≡ (4, codes "form")
unfolding is_utf8 chars lib.Utf8.encode digits fault_of
branch-65536 = refl

pub last-line-is-a-comment-without-line-feed : told (file (codes "adept 1\ntype t\nact A\nact B\nend\nactor ann\ncase c t\nphase\nann create c\nann start c A\nann end c A\nann start c B\nann end c B\n# no")) ≡ (14, codes "unended")
unfolding is_utf8 chars lib.Utf8.encode digits fault_of
last-line-is-a-comment-without-line-feed = refl

pub last-line-without-line-feed : told (file (codes "adept 1\ntype t\nact A\nact B\nend\nactor ann\ncase c t\nphase\nann create c\nann start c A\nann end c A\nann start c B\nann end c B")) ≡ (13, codes "unended")
unfolding is_utf8 chars lib.Utf8.encode digits fault_of
last-line-without-line-feed = refl

pub not-newer : told (file (codes "adept 1\ntype t\nact A\nend\nactor ann\ncase c t\nphase\nann create c\nann migrate t\nann install t\ninsert B after A\nend\nann migrate t\nann migrate t\n")) ≡ (0, [])
unfolding is_utf8 chars lib.Utf8.encode digits fault_of
not-newer = refl

pub refusals-in-order : told (file (codes "adept 1\ntype t\nact A role 7\nend\nactor ann roles 3\nactor bob roles 7\ncase c t\nphase\nann start c A\nann create c\nann create c\nann start c Q\nann start c A\nbob start c A\nann end c A\nbob end c A d=1\nbob end c A choice 1\nbob end c A\n")) ≡ (0, [])
unfolding is_utf8 chars lib.Utf8.encode digits fault_of
refusals-in-order = refl

pub parallel-and-conditional : told (file (codes "adept 1\ntype t\nact A\nact B\nend\nactor ann\ncase c t\nphase\nann create c\nann change c\nparallel X with p q around A\nconditional Y with s j after q\nend\n")) ≡ (0, [])
unfolding is_utf8 chars lib.Utf8.encode digits fault_of
parallel-and-conditional = refl

pub then-delete-an-unknown-node : told (file (codes "adept 1\ntype t\nact A\nact B\nend\nactor ann\ncase c t\nphase\nann create c\nann change c\nparallel X with p q around A\nconditional Y with s j after q\nend\nann change c\ndelete Q\nend\n")) ≡ (0, [])
unfolding is_utf8 chars lib.Utf8.encode digits fault_of
then-delete-an-unknown-node = refl

pub check : told (file (codes "adept 1\ntype t\nact A\nend\nactor ann\ncase c t\nphase\nann create c\nann start c A\nann end c A\nann install t\ninsert B after A\nend\nann migrate t\nann migrate t\n")) ≡ (0, [])
unfolding is_utf8 chars lib.Utf8.encode digits fault_of
check = refl
