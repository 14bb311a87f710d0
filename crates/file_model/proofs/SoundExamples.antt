-- Which fault of a schema comes first, computed from the definitions alone.
use Rattle.file_model.proofs.{Common.{codes, file}, Examples.told}
use Rattle.std.specs.{Prelude.{◌≡◌, [], refl}, Str.{is_utf8, chars}, Fmt.digits}
use Rattle.wsm_sound.specs.Faults.{fault_of}

pub both-xor-branches-write : told (file (codes "adept 1\ntype t\nelement d int\nxor s j\nbranch 0\nact A\nbranch 1\nact B\ndone\nact C\nwrite A d\nwrite B d\nread C d\nend\n")) ≡ (0, [])
unfolding is_utf8 chars lib.Utf8.encode digits fault_of
both-xor-branches-write = refl

pub empty-branches : told (file (codes "adept 1\ntype t\nand p q\nbranch 0\nbranch 1\ndone\nend\n")) ≡ (0, [])
unfolding is_utf8 chars lib.Utf8.encode digits fault_of
empty-branches = refl

pub empty-loop : told (file (codes "adept 1\ntype t\nloop l e\ndone\nend\n")) ≡ (0, [])
unfolding is_utf8 chars lib.Utf8.encode digits fault_of
empty-loop = refl

pub exclusive-writes : told (file (codes "adept 1\ntype t\nelement d int\nxor s j\nbranch 0\nact A\nbranch 1\nact B\ndone\nwrite A d\nwrite B d\nend\n")) ≡ (0, [])
unfolding is_utf8 chars lib.Utf8.encode digits fault_of
exclusive-writes = refl

pub loop-end-reads : told (file (codes "adept 1\ntype t\nelement d int\nloop l e\nact A\ndone\nwrite A d\nread e d\nend\n")) ≡ (0, [])
unfolding is_utf8 chars lib.Utf8.encode digits fault_of
loop-end-reads = refl

pub loop-end-writes : told (file (codes "adept 1\ntype t\nelement d int\nloop l e\ndone\nact A\nwrite e d\nread A d\nend\n")) ≡ (0, [])
unfolding is_utf8 chars lib.Utf8.encode digits fault_of
loop-end-writes = refl

pub nothing : told (file (codes "adept 1\ntype t\nend\n")) ≡ (0, [])
unfolding is_utf8 chars lib.Utf8.encode digits fault_of
nothing = refl

pub one-and-branch-writes : told (file (codes "adept 1\ntype t\nelement d int\nand p q\nbranch 0\nact A\nbranch 1\nact B\ndone\nact C\nwrite A d\nread C d\nend\n")) ≡ (0, [])
unfolding is_utf8 chars lib.Utf8.encode digits fault_of
one-and-branch-writes = refl

pub optional-read : told (file (codes "adept 1\ntype t\nelement d int\nact A\nread A d optional\nend\n")) ≡ (0, [])
unfolding is_utf8 chars lib.Utf8.encode digits fault_of
optional-read = refl

pub parallel-writes-with-edge : told (file (codes "adept 1\ntype t\nelement d int\nand p q\nbranch 0\nact A\nbranch 1\nact B\ndone\nwrite A d\nwrite B d\nsync B A\nend\n")) ≡ (0, [])
unfolding is_utf8 chars lib.Utf8.encode digits fault_of
parallel-writes-with-edge = refl

pub split-writes-and-branch-reads : told (file (codes "adept 1\ntype t\nelement d int\nxor s j\nbranch 0\nact A\nbranch 1\ndone\nwrite s d\nread A d\nend\n")) ≡ (0, [])
unfolding is_utf8 chars lib.Utf8.encode digits fault_of
split-writes-and-branch-reads = refl

pub sync-against-numbers : told (file (codes "adept 1\ntype t\nand p q\nbranch 0\nact A\nbranch 1\nact B\ndone\nsync B A\nend\n")) ≡ (0, [])
unfolding is_utf8 chars lib.Utf8.encode digits fault_of
sync-against-numbers = refl

pub sync-in-one-loop : told (file (codes "adept 1\ntype t\nloop l e\nand p q\nbranch 0\nact A\nbranch 1\nact B\ndone\ndone\nsync A B\nend\n")) ≡ (0, [])
unfolding is_utf8 chars lib.Utf8.encode digits fault_of
sync-in-one-loop = refl

pub sync-out-of-xor : told (file (codes "adept 1\ntype t\nand p q\nbranch 0\nxor s j\nbranch 0\nact A\nbranch 1\ndone\nbranch 1\nact B\ndone\nsync A B\nend\n")) ≡ (0, [])
unfolding is_utf8 chars lib.Utf8.encode digits fault_of
sync-out-of-xor = refl

pub write-before-read : told (file (codes "adept 1\ntype t\nelement d int\nact A\nact B\nwrite A d\nread B d\nend\n")) ≡ (0, [])
unfolding is_utf8 chars lib.Utf8.encode digits fault_of
write-before-read = refl
