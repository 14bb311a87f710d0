-- Faults of schemas, as files are refused for them, computed from the definitions alone.
use Rattle.file_model.proofs.{Common.{codes, file}, Examples.told}
use Rattle.std.specs.{Prelude.{◌≡◌, refl}, Str.{is_utf8, chars}, Fmt.digits}
use Rattle.wsm_sound.specs.Faults.{fault_of}

pub code-twice : told (file (codes "adept 1\ntype t\nxor s j\nbranch 4\nbranch 5\nbranch 4\nbranch 5\ndone\nend\n")) ≡ (9, codes "unsound code-twice s 4")
unfolding is_utf8 chars lib.Utf8.encode digits fault_of
code-twice = refl

pub code-twice-in-the-branch : told (file (codes "adept 1\ntype t\nand p q\nbranch 1\nxor s j\nbranch 0\nbranch 0\ndone\nbranch 1\ndone\nend\n")) ≡ (11, codes "unsound code-twice p 1")
unfolding is_utf8 chars lib.Utf8.encode digits fault_of
code-twice-in-the-branch = refl

pub few-branches : told (file (codes "adept 1\ntype t\nand p q\nbranch 0\nact A\ndone\nend\n")) ≡ (7, codes "unsound few-branches p")
unfolding is_utf8 chars lib.Utf8.encode digits fault_of
few-branches = refl

pub few-branches-before-code-twice : told (file (codes "adept 1\ntype t\nxor s j\nbranch 1\nbranch 1\ndone\nand p q\ndone\nend\n")) ≡ (9, codes "unsound few-branches p")
unfolding is_utf8 chars lib.Utf8.encode digits fault_of
few-branches-before-code-twice = refl

pub few-branches-outer-first : told (file (codes "adept 1\ntype t\nand p q\nbranch 0\nxor s j\ndone\ndone\nend\n")) ≡ (8, codes "unsound few-branches p")
unfolding is_utf8 chars lib.Utf8.encode digits fault_of
few-branches-outer-first = refl

pub missing : told (file (codes "adept 1\ntype t\nelement d int\nact A\nread A d\nend\n")) ≡ (6, codes "unsound missing A d")
unfolding is_utf8 chars lib.Utf8.encode digits fault_of
missing = refl

pub missing-before-parallel-write : told (file (codes "adept 1\ntype t\nelement d int\nand p q\nbranch 0\nact A\nbranch 1\nact B\ndone\nact Z\nelement f int\nwrite A d\nwrite B d\nread Z f\nend\n")) ≡ (15, codes "unsound missing Z f")
unfolding is_utf8 chars lib.Utf8.encode digits fault_of
missing-before-parallel-write = refl

pub missing-behind-xor : told (file (codes "adept 1\ntype t\nelement d int\nxor s j\nbranch 0\nact A\nbranch 1\ndone\nact B\nwrite A d\nread B d\nend\n")) ≡ (12, codes "unsound missing B d")
unfolding is_utf8 chars lib.Utf8.encode digits fault_of
missing-behind-xor = refl

pub missing-in-a-parallel-branch : told (file (codes "adept 1\ntype t\nelement d int\nand p q\nbranch 0\nact A\nbranch 1\nact B\ndone\nwrite A d\nread B d\nend\n")) ≡ (12, codes "unsound missing B d")
unfolding is_utf8 chars lib.Utf8.encode digits fault_of
missing-in-a-parallel-branch = refl

pub missing-in-document-order : told (file (codes "adept 1\ntype t\nelement d int\nelement f int\nact B\nact A\nread A d\nread B f\nend\n")) ≡ (9, codes "unsound missing B f")
unfolding is_utf8 chars lib.Utf8.encode digits fault_of
missing-in-document-order = refl

pub missing-later-in-the-loop : told (file (codes "adept 1\ntype t\nelement d int\nloop l e\nact A\nact B\ndone\nwrite B d\nread A d\nend\n")) ≡ (10, codes "unsound missing A d")
unfolding is_utf8 chars lib.Utf8.encode digits fault_of
missing-later-in-the-loop = refl

pub missing-least-element : told (file (codes "adept 1\ntype t\nelement d int\nelement f int\nact A\nread A f\nread A d\nend\n")) ≡ (8, codes "unsound missing A d")
unfolding is_utf8 chars lib.Utf8.encode digits fault_of
missing-least-element = refl

pub missing-own-write : told (file (codes "adept 1\ntype t\nelement d int\nact A\nread A d\nwrite A d\nend\n")) ≡ (7, codes "unsound missing A d")
unfolding is_utf8 chars lib.Utf8.encode digits fault_of
missing-own-write = refl

pub missing-source-can-be-skipped : told (file (codes "adept 1\ntype t\nelement d int\nand p q\nbranch 0\nxor s j\nbranch 0\nact A\nbranch 1\ndone\nbranch 1\nact B\ndone\nsync A B\nwrite A d\nread B d\nend\n")) ≡ (17, codes "unsound missing B d")
unfolding is_utf8 chars lib.Utf8.encode digits fault_of
missing-source-can-be-skipped = refl

pub no-branch : told (file (codes "adept 1\ntype t\nxor s j\ndone\nend\n")) ≡ (5, codes "unsound few-branches s")
unfolding is_utf8 chars lib.Utf8.encode digits fault_of
no-branch = refl

pub parallel-write-no-direct-edge : told (file (codes "adept 1\ntype t\nelement d int\nand p q\nbranch 0\nact A\nact A2\nbranch 1\nact B\ndone\nwrite A d\nwrite B d\nsync A2 B\nend\n")) ≡ (14, codes "unsound parallel-write A B d")
unfolding is_utf8 chars lib.Utf8.encode digits fault_of
parallel-write-no-direct-edge = refl

pub parallel-write-of-a-split : told (file (codes "adept 1\ntype t\nelement d int\nand p q\nbranch 0\nxor s j\nbranch 0\nbranch 1\ndone\nbranch 1\nact B\ndone\nwrite s d\nwrite B d\nend\n")) ≡ (15, codes "unsound parallel-write s B d")
unfolding is_utf8 chars lib.Utf8.encode digits fault_of
parallel-write-of-a-split = refl

pub parallel-write-order : told (file (codes "adept 1\ntype t\nelement d int\nelement f int\nand p q\nbranch 0\nact A\nact B\nbranch 1\nact C\nact D\ndone\nwrite D d\nwrite A d\nwrite C d\nwrite B f\nwrite A f\nwrite D f\nsync A C\nend\n")) ≡ (20, codes "unsound parallel-write A D d")
unfolding is_utf8 chars lib.Utf8.encode digits fault_of
parallel-write-order = refl

pub sync-cycle : told (file (codes "adept 1\ntype t\nand p q\nbranch 0\nact A\nact A2\nbranch 1\nact B\nact B2\ndone\nsync A2 B\nsync B2 A\nend\n")) ≡ (13, codes "unsound sync-cycle B2 A")
unfolding is_utf8 chars lib.Utf8.encode digits fault_of
sync-cycle = refl

pub sync-cycle-by-number : told (file (codes "adept 1\ntype t\nand p q\nbranch 0\nact A\nbranch 1\nact B\ndone\nsync B A\nsync A B\nend\n")) ≡ (11, codes "unsound sync-cycle B A")
unfolding is_utf8 chars lib.Utf8.encode digits fault_of
sync-cycle-by-number = refl

pub sync-end-before-sync-place : told (file (codes "adept 1\ntype t\nact A\nact B\nsync A B\nsync B start\nend\n")) ≡ (7, codes "unsound sync-end B start")
unfolding is_utf8 chars lib.Utf8.encode digits fault_of
sync-end-before-sync-place = refl

pub sync-end-no-node : told (file (codes "adept 1\ntype t\nact A\nsync A B\nend\n")) ≡ (5, codes "unsound sync-end A B")
unfolding is_utf8 chars lib.Utf8.encode digits fault_of
sync-end-no-node = refl

pub sync-end-split : told (file (codes "adept 1\ntype t\nand p q\nbranch 0\nxor s j\nbranch 0\nbranch 1\ndone\nbranch 1\nact B\ndone\nsync s B\nend\n")) ≡ (13, codes "unsound sync-end s B")
unfolding is_utf8 chars lib.Utf8.encode digits fault_of
sync-end-split = refl

pub sync-loop : told (file (codes "adept 1\ntype t\nand p q\nbranch 0\nloop l e\nact A\ndone\nbranch 1\nact B\ndone\nsync B A\nend\n")) ≡ (12, codes "unsound sync-loop B A")
unfolding is_utf8 chars lib.Utf8.encode digits fault_of
sync-loop = refl

pub sync-place-before-sync-loop : told (file (codes "adept 1\ntype t\nand p q\nbranch 0\nloop l e\nact A\ndone\nbranch 1\nact B\ndone\nact Z\nsync A B\nsync Z A\nend\n")) ≡ (14, codes "unsound sync-place Z A")
unfolding is_utf8 chars lib.Utf8.encode digits fault_of
sync-place-before-sync-loop = refl

pub sync-place-in-sequence : told (file (codes "adept 1\ntype t\nact A\nact B\nsync A B\nend\n")) ≡ (6, codes "unsound sync-place A B")
unfolding is_utf8 chars lib.Utf8.encode digits fault_of
sync-place-in-sequence = refl

pub sync-place-one-branch : told (file (codes "adept 1\ntype t\nand p q\nbranch 0\nact A\nact B\nbranch 1\ndone\nsync A B\nend\n")) ≡ (10, codes "unsound sync-place A B")
unfolding is_utf8 chars lib.Utf8.encode digits fault_of
sync-place-one-branch = refl

pub sync-place-to-itself : told (file (codes "adept 1\ntype t\nand p q\nbranch 0\nact A\nbranch 1\nact B\ndone\nsync A A\nend\n")) ≡ (10, codes "unsound sync-place A A")
unfolding is_utf8 chars lib.Utf8.encode digits fault_of
sync-place-to-itself = refl

pub sync-place-xor : told (file (codes "adept 1\ntype t\nand p q\nbranch 0\nxor s j\nbranch 0\nact A\nbranch 1\nact B\ndone\nbranch 1\ndone\nsync A B\nend\n")) ≡ (14, codes "unsound sync-place A B")
unfolding is_utf8 chars lib.Utf8.encode digits fault_of
sync-place-xor = refl

pub twice : told (file (codes "adept 1\ntype t\nact A\nact A\nend\n")) ≡ (5, codes "unsound twice A")
unfolding is_utf8 chars lib.Utf8.encode digits fault_of
twice = refl

pub twice-before-few-branches : told (file (codes "adept 1\ntype t\nxor s j\ndone\nact A\nact A\nend\n")) ≡ (7, codes "unsound twice A")
unfolding is_utf8 chars lib.Utf8.encode digits fault_of
twice-before-few-branches = refl

pub twice-finish : told (file (codes "adept 1\ntype t\nact finish\nend\n")) ≡ (4, codes "unsound twice finish")
unfolding is_utf8 chars lib.Utf8.encode digits fault_of
twice-finish = refl

pub twice-first-in-document-order : told (file (codes "adept 1\ntype t\nact A\nand p q\nbranch 0\nact B\nact A\nbranch 1\nact B\ndone\nend\n")) ≡ (11, codes "unsound twice A")
unfolding is_utf8 chars lib.Utf8.encode digits fault_of
twice-first-in-document-order = refl

pub twice-join : told (file (codes "adept 1\ntype t\nand p p\nbranch 0\nbranch 1\ndone\nend\n")) ≡ (7, codes "unsound twice p")
unfolding is_utf8 chars lib.Utf8.encode digits fault_of
twice-join = refl

pub twice-start : told (file (codes "adept 1\ntype t\nact start\nend\n")) ≡ (4, codes "unsound twice start")
unfolding is_utf8 chars lib.Utf8.encode digits fault_of
twice-start = refl

pub unknown-before-missing : told (file (codes "adept 1\ntype t\nelement d int\nact A\nread A d\nwrite A f\nend\n")) ≡ (7, codes "unsound unknown A f")
unfolding is_utf8 chars lib.Utf8.encode digits fault_of
unknown-before-missing = refl

pub unknown-by-number : told (file (codes "adept 1\ntype t\nact A\nact B\nread B d\nread A d\nend\n")) ≡ (7, codes "unsound unknown A d")
unfolding is_utf8 chars lib.Utf8.encode digits fault_of
unknown-by-number = refl

pub unknown-element : told (file (codes "adept 1\ntype t\nact A\nread A d optional\nend\n")) ≡ (5, codes "unsound unknown A d")
unfolding is_utf8 chars lib.Utf8.encode digits fault_of
unknown-element = refl

pub unknown-node : told (file (codes "adept 1\ntype t\nelement d int\nact A\nwrite B d\nend\n")) ≡ (6, codes "unsound unknown B d")
unfolding is_utf8 chars lib.Utf8.encode digits fault_of
unknown-node = refl

pub unknown-read-before-write : told (file (codes "adept 1\ntype t\nelement d int\nact A\nwrite B d\nread C d\nend\n")) ≡ (7, codes "unsound unknown C d")
unfolding is_utf8 chars lib.Utf8.encode digits fault_of
unknown-read-before-write = refl

pub unknown-silent-node : told (file (codes "adept 1\ntype t\nelement d int\nand p q\nbranch 0\nbranch 1\ndone\nread p d\nend\n")) ≡ (9, codes "unsound unknown p d")
unfolding is_utf8 chars lib.Utf8.encode digits fault_of
unknown-silent-node = refl
