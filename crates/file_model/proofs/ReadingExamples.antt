-- Forms of lines and the order of refusals, computed from the definitions alone.
use Rattle.file_model.proofs.{Common.{codes, file}, Examples.told}
use Rattle.std.specs.{Prelude.{◌≡◌, [], ◌∷◌, ◌++◌, refl}, Str.{is_utf8, chars}, Fmt.digits}
use Rattle.wsm_sound.specs.Faults.{fault_of}

pub act-right-behind-and : told (file (codes "adept 1\ntype t\nand p q\nact A\n")) ≡ (4, codes "form")
unfolding is_utf8 chars lib.Utf8.encode digits fault_of
act-right-behind-and = refl

pub act-twice-is-unsound : told (file (codes "adept 1\ntype t\nact A\nact A\nend\n")) ≡ (5, codes "unsound twice A")
unfolding is_utf8 chars lib.Utf8.encode digits fault_of
act-twice-is-unsound = refl

pub actor-before-type : told (file (codes "adept 1\nactor ann\ntype t\nend\ncase c t\n")) ≡ (0, [])
unfolding is_utf8 chars lib.Utf8.encode digits fault_of
actor-before-type = refl

pub actor-behind-phase : told (file (codes "adept 1\ntype t\nact A\nend\nactor ann\ncase c t\nphase\nann create c\nactor bob\n")) ≡ (9, codes "form")
unfolding is_utf8 chars lib.Utf8.encode digits fault_of
actor-behind-phase = refl

pub actor-role : told (file (codes "adept 1\ntype t\nact A\nend\nactor ann\ncase c t\nactor bob role 5\n")) ≡ (7, codes "form")
unfolding is_utf8 chars lib.Utf8.encode digits fault_of
actor-role = refl

pub actor-roles-without-role : told (file (codes "adept 1\ntype t\nact A\nend\nactor ann\ncase c t\nactor bob roles\n")) ≡ (7, codes "form")
unfolding is_utf8 chars lib.Utf8.encode digits fault_of
actor-roles-without-role = refl

pub actor-twice : told (file (codes "adept 1\ntype t\nact A\nend\nactor ann\ncase c t\nactor ann roles 5\n")) ≡ (7, codes "twice")
unfolding is_utf8 chars lib.Utf8.encode digits fault_of
actor-twice = refl

pub actor-unknown : told (file (codes "adept 1\ntype t\nact A\nend\nactor ann\ncase c t\nphase\nann create c\nzed create c\n")) ≡ (9, codes "unknown")
unfolding is_utf8 chars lib.Utf8.encode digits fault_of
actor-unknown = refl

pub blank-without-line-feed : told (file (codes "adept 1\n ")) ≡ (2, codes "unended")
unfolding is_utf8 chars lib.Utf8.encode digits fault_of
blank-without-line-feed = refl

pub block-right-behind-xor : told (file (codes "adept 1\ntype t\nxor s j\nloop l e\n")) ≡ (4, codes "form")
unfolding is_utf8 chars lib.Utf8.encode digits fault_of
block-right-behind-xor = refl

pub branch-for-the-innermost-block : told (file (codes "adept 1\ntype t\nand p q\nbranch 0\nloop l e\ndone\nbranch 1\ndone\nend\n")) ≡ (0, [])
unfolding is_utf8 chars lib.Utf8.encode digits fault_of
branch-for-the-innermost-block = refl

pub branch-in-a-loop : told (file (codes "adept 1\ntype t\nloop l e\nbranch 0\n")) ≡ (4, codes "form")
unfolding is_utf8 chars lib.Utf8.encode digits fault_of
branch-in-a-loop = refl

pub branch-without-block : told (file (codes "adept 1\ntype t\nbranch 0\n")) ≡ (3, codes "form")
unfolding is_utf8 chars lib.Utf8.encode digits fault_of
branch-without-block = refl

pub carriage-return-inside : told (file (codes "adept 1\ntype" ++ (13 ∷ []) ++ codes "t\n")) ≡ (2, codes "form")
unfolding is_utf8 chars lib.Utf8.encode digits fault_of
carriage-return-inside = refl

pub carriage-returns : told (file (codes "adept 1" ++ (13 ∷ []) ++ codes "\ntype t" ++ (13 ∷ []) ++ codes "\nact A" ++ (13 ∷ []) ++ codes "\nend" ++ (13 ∷ []) ++ codes "\n" ++ (13 ∷ []) ++ codes "\n")) ≡ (0, [])
unfolding is_utf8 chars lib.Utf8.encode digits fault_of
carriage-returns = refl

pub case-before-its-type : told (file (codes "adept 1\ncase c t\n")) ≡ (2, codes "unknown")
unfolding is_utf8 chars lib.Utf8.encode digits fault_of
case-before-its-type = refl

pub case-of-unknown-type : told (file (codes "adept 1\ntype t\nact A\nend\nactor ann\ncase c t\ncase d u\n")) ≡ (7, codes "unknown")
unfolding is_utf8 chars lib.Utf8.encode digits fault_of
case-of-unknown-type = refl

pub case-twice : told (file (codes "adept 1\ntype t\nact A\nend\nactor ann\ncase c t\ncase c t\n")) ≡ (7, codes "twice")
unfolding is_utf8 chars lib.Utf8.encode digits fault_of
case-twice = refl

pub case-unknown : told (file (codes "adept 1\ntype t\nact A\nend\nactor ann\ncase c t\nphase\nann create c\nann create d\n")) ≡ (9, codes "unknown")
unfolding is_utf8 chars lib.Utf8.encode digits fault_of
case-unknown = refl

pub case-without-type : told (file (codes "adept 1\ntype t\nact A\nend\nactor ann\ncase c t\ncase d\n")) ≡ (7, codes "form")
unfolding is_utf8 chars lib.Utf8.encode digits fault_of
case-without-type = refl

pub choice-and-pairs : told (file (codes "adept 1\ntype t\nact A\nend\nactor ann\ncase c t\nphase\nann create c\nann end c A choice 0 d=1 d=1\n")) ≡ (0, [])
unfolding is_utf8 chars lib.Utf8.encode digits fault_of
choice-and-pairs = refl

pub choice-twice : told (file (codes "adept 1\ntype t\nact A\nend\nactor ann\ncase c t\nphase\nann create c\nann end c A choice 0 choice 0\n")) ≡ (9, codes "form")
unfolding is_utf8 chars lib.Utf8.encode digits fault_of
choice-twice = refl

pub code-5-digits : told (file (codes "adept 1\ntype t\nxor s j\nbranch 00001\nbranch 2\ndone\nend\n")) ≡ (0, [])
unfolding is_utf8 chars lib.Utf8.encode digits fault_of
code-5-digits = refl

pub code-6-digits : told (file (codes "adept 1\ntype t\nxor s j\nbranch 000001\n")) ≡ (4, codes "form")
unfolding is_utf8 chars lib.Utf8.encode digits fault_of
code-6-digits = refl

pub code-negative : told (file (codes "adept 1\ntype t\nxor s j\nbranch -1\n")) ≡ (4, codes "form")
unfolding is_utf8 chars lib.Utf8.encode digits fault_of
code-negative = refl

pub comment-behind-words : told (file (codes "adept 1\nphase # x\n")) ≡ (2, codes "form")
unfolding is_utf8 chars lib.Utf8.encode digits fault_of
comment-behind-words = refl

pub comment-right-behind-xor : told (file (codes "adept 1\ntype t\nxor s j\n# x\nbranch 0\nbranch 1\ndone\nend\n")) ≡ (0, [])
unfolding is_utf8 chars lib.Utf8.encode digits fault_of
comment-right-behind-xor = refl

pub comment-without-line-feed : told (file (codes "adept 1\n#")) ≡ (2, codes "unended")
unfolding is_utf8 chars lib.Utf8.encode digits fault_of
comment-without-line-feed = refl

pub create-with-more : told (file (codes "adept 1\ntype t\nact A\nend\nactor ann\ncase c t\nphase\nann create c\nann create c c\n")) ≡ (9, codes "form")
unfolding is_utf8 chars lib.Utf8.encode digits fault_of
create-with-more = refl

pub data-inside-a-block : told (file (codes "adept 1\ntype t\nloop l e\nelement d int\n")) ≡ (4, codes "form")
unfolding is_utf8 chars lib.Utf8.encode digits fault_of
data-inside-a-block = refl

pub done-without-block : told (file (codes "adept 1\ntype t\ndone\n")) ≡ (3, codes "form")
unfolding is_utf8 chars lib.Utf8.encode digits fault_of
done-without-block = refl

pub earlier-line-refused-first : told (file (codes "adept 1\nfly\ntype t")) ≡ (2, codes "form")
unfolding is_utf8 chars lib.Utf8.encode digits fault_of
earlier-line-refused-first = refl

pub element-of-other-kind : told (file (codes "adept 1\ntype t\nelement d real\n")) ≡ (3, codes "form")
unfolding is_utf8 chars lib.Utf8.encode digits fault_of
element-of-other-kind = refl

pub element-twice : told (file (codes "adept 1\ntype t\nelement d int\nelement d text\n")) ≡ (4, codes "twice")
unfolding is_utf8 chars lib.Utf8.encode digits fault_of
element-twice = refl

pub element-twice-in-a-group : told (file (codes "adept 1\ntype t\nact A\nend\nactor ann\ncase c t\nphase\nann create c\nann change c\nelement f int\nelement f int\nend\n")) ≡ (0, [])
unfolding is_utf8 chars lib.Utf8.encode digits fault_of
element-twice-in-a-group = refl

pub element-without-kind : told (file (codes "adept 1\ntype t\nact A\nend\nactor ann\ncase c t\nphase\nann create c\nann change c\nelement f\n")) ≡ (10, codes "form")
unfolding is_utf8 chars lib.Utf8.encode digits fault_of
element-without-kind = refl

pub empty-group : told (file (codes "adept 1\ntype t\nact A\nend\nactor ann\ncase c t\nphase\nann create c\nann change c\nend\n")) ≡ (0, [])
unfolding is_utf8 chars lib.Utf8.encode digits fault_of
empty-group = refl

pub empty-phases : told (file (codes "adept 1\ntype t\nact A\nend\nactor ann\ncase c t\nphase\nann create c\nphase\nphase\n")) ≡ (0, [])
unfolding is_utf8 chars lib.Utf8.encode digits fault_of
empty-phases = refl

pub end-inside-a-block : told (file (codes "adept 1\ntype t\nloop l e\nend\n")) ≡ (4, codes "form")
unfolding is_utf8 chars lib.Utf8.encode digits fault_of
end-inside-a-block = refl

pub end-inside-a-group : told (file (codes "adept 1\ntype t\nact A\nend\nactor ann\ncase c t\nphase\nann create c\nann change c\n")) ≡ (10, codes "unended")
unfolding is_utf8 chars lib.Utf8.encode digits fault_of
end-inside-a-group = refl

pub end-inside-a-type : told (file (codes "adept 1\ntype t\nact A\n")) ≡ (4, codes "unended")
unfolding is_utf8 chars lib.Utf8.encode digits fault_of
end-inside-a-type = refl

pub end-inside-an-open-block : told (file (codes "adept 1\ntype t\nand p q\nbranch 0\n")) ≡ (5, codes "unended")
unfolding is_utf8 chars lib.Utf8.encode digits fault_of
end-inside-an-open-block = refl

pub end-without-group : told (file (codes "adept 1\ntype t\nact A\nend\nactor ann\ncase c t\nphase\nann create c\nend\n")) ≡ (9, codes "form")
unfolding is_utf8 chars lib.Utf8.encode digits fault_of
end-without-group = refl

pub form-feed-is-no-blank : told (file (codes "adept 1\ntype" ++ (12 ∷ []) ++ codes "t\n")) ≡ (2, codes "form")
unfolding is_utf8 chars lib.Utf8.encode digits fault_of
form-feed-is-no-blank = refl

pub group-of-an-unknown-case : told (file (codes "adept 1\ntype t\nact A\nend\nactor ann\ncase c t\nphase\nann create c\nann change d\nfly\n")) ≡ (9, codes "unknown")
unfolding is_utf8 chars lib.Utf8.encode digits fault_of
group-of-an-unknown-case = refl

pub header-4 : told (file (codes "adept 4\n")) ≡ (1, codes "header")
unfolding is_utf8 chars lib.Utf8.encode digits fault_of
header-4 = refl

pub header-3-words : told (file (codes "adept 1 1\n")) ≡ (1, codes "header")
unfolding is_utf8 chars lib.Utf8.encode digits fault_of
header-3-words = refl

pub header-behind-a-declaration : told (file (codes "type t\nadept 1\n")) ≡ (1, codes "header")
unfolding is_utf8 chars lib.Utf8.encode digits fault_of
header-behind-a-declaration = refl

pub header-behind-skipped-lines : told (file (codes "\n# note\n \t\n\t# x\nadept 1\n")) ≡ (0, [])
unfolding is_utf8 chars lib.Utf8.encode digits fault_of
header-behind-skipped-lines = refl

pub header-capital : told (file (codes "Adept 1\n")) ≡ (1, codes "header")
unfolding is_utf8 chars lib.Utf8.encode digits fault_of
header-capital = refl

pub header-not-utf-8 : told (file ((255 ∷ []) ++ codes "\n")) ≡ (1, codes "header")
unfolding is_utf8 chars lib.Utf8.encode digits fault_of
header-not-utf-8 = refl

pub header-number-with-zero : told (file (codes "adept 01\n")) ≡ (1, codes "header")
unfolding is_utf8 chars lib.Utf8.encode digits fault_of
header-number-with-zero = refl

pub header-one-word : told (file (codes "adept\n")) ≡ (1, codes "header")
unfolding is_utf8 chars lib.Utf8.encode digits fault_of
header-one-word = refl

pub header-twice : told (file (codes "adept 1\nadept 1\n")) ≡ (2, codes "form")
unfolding is_utf8 chars lib.Utf8.encode digits fault_of
header-twice = refl

pub header-with-blanks : told (file (codes " adept\t 1 \nphase\n")) ≡ (0, [])
unfolding is_utf8 chars lib.Utf8.encode digits fault_of
header-with-blanks = refl

pub header-with-byte-order-mark : told (file ((239 ∷ 187 ∷ 191 ∷ []) ++ codes "adept 1\n")) ≡ (1, codes "header")
unfolding is_utf8 chars lib.Utf8.encode digits fault_of
header-with-byte-order-mark = refl

pub header-without-line-feed : told (file (codes "adept 1")) ≡ (1, codes "unended")
unfolding is_utf8 chars lib.Utf8.encode digits fault_of
header-without-line-feed = refl

pub install-unknown : told (file (codes "adept 1\ntype t\nact A\nend\nactor ann\ncase c t\nphase\nann create c\nann install c\n")) ≡ (9, codes "unknown")
unfolding is_utf8 chars lib.Utf8.encode digits fault_of
install-unknown = refl

pub integer-20-digits : told (file (codes "adept 1\ntype t\nact A\nend\nactor ann\ncase c t\nphase\nann create c\nann end c A d=00000000000000000001\n")) ≡ (0, [])
unfolding is_utf8 chars lib.Utf8.encode digits fault_of
integer-20-digits = refl

pub integer-21-digits : told (file (codes "adept 1\ntype t\nact A\nend\nactor ann\ncase c t\nphase\nann create c\nann end c A d=000000000000000000001\n")) ≡ (9, codes "form")
unfolding is_utf8 chars lib.Utf8.encode digits fault_of
integer-21-digits = refl

pub integer-greatest : told (file (codes "adept 1\ntype t\nact A\nend\nactor ann\ncase c t\nphase\nann create c\nann end c A d=9223372036854775807\n")) ≡ (0, [])
unfolding is_utf8 chars lib.Utf8.encode digits fault_of
integer-greatest = refl

pub integer-least : told (file (codes "adept 1\ntype t\nact A\nend\nactor ann\ncase c t\nphase\nann create c\nann end c A d=-9223372036854775808\n")) ≡ (0, [])
unfolding is_utf8 chars lib.Utf8.encode digits fault_of
integer-least = refl

pub integer-minus-alone : told (file (codes "adept 1\ntype t\nact A\nend\nactor ann\ncase c t\nphase\nann create c\nann end c A d=-\n")) ≡ (9, codes "form")
unfolding is_utf8 chars lib.Utf8.encode digits fault_of
integer-minus-alone = refl

pub integer-minus-zero : told (file (codes "adept 1\ntype t\nact A\nend\nactor ann\ncase c t\nphase\nann create c\nann end c A d=-0\n")) ≡ (0, [])
unfolding is_utf8 chars lib.Utf8.encode digits fault_of
integer-minus-zero = refl

pub integer-plus : told (file (codes "adept 1\ntype t\nact A\nend\nactor ann\ncase c t\nphase\nann create c\nann end c A d=+1\n")) ≡ (9, codes "form")
unfolding is_utf8 chars lib.Utf8.encode digits fault_of
integer-plus = refl

pub integer-too-great : told (file (codes "adept 1\ntype t\nact A\nend\nactor ann\ncase c t\nphase\nann create c\nann end c A d=9223372036854775808\n")) ≡ (9, codes "form")
unfolding is_utf8 chars lib.Utf8.encode digits fault_of
integer-too-great = refl

pub integer-too-small : told (file (codes "adept 1\ntype t\nact A\nend\nactor ann\ncase c t\nphase\nann create c\nann end c A d=-9223372036854775809\n")) ≡ (9, codes "form")
unfolding is_utf8 chars lib.Utf8.encode digits fault_of
integer-too-small = refl

pub items-behind-data : told (file (codes "adept 1\ntype t\nelement d int\nact A\nend\n")) ≡ (0, [])
unfolding is_utf8 chars lib.Utf8.encode digits fault_of
items-behind-data = refl

pub move-with-role : told (file (codes "adept 1\ntype t\nact A\nend\nactor ann\ncase c t\nphase\nann create c\nann change c\nmove A role 5 after A\n")) ≡ (10, codes "form")
unfolding is_utf8 chars lib.Utf8.encode digits fault_of
move-with-role = refl

pub name-64 : told (file (codes "adept 1\ntype t\nact nnnnnnnnnnnnnnnnnnnnnnnnnnnnnnnnnnnnnnnnnnnnnnnnnnnnnnnnnnnnnnnn\nend\n")) ≡ (0, [])
unfolding is_utf8 chars lib.Utf8.encode digits fault_of
name-64 = refl

pub name-65 : told (file (codes "adept 1\ntype t\nact nnnnnnnnnnnnnnnnnnnnnnnnnnnnnnnnnnnnnnnnnnnnnnnnnnnnnnnnnnnnnnnnn\nend\n")) ≡ (3, codes "limit name")
unfolding is_utf8 chars lib.Utf8.encode digits fault_of
name-65 = refl

pub name-65-before-unknown : told (file (codes "adept 1\ntype t\nact A\nend\nactor ann\ncase c t\nphase\nann create c\nnnnnnnnnnnnnnnnnnnnnnnnnnnnnnnnnnnnnnnnnnnnnnnnnnnnnnnnnnnnnnnnnn create c\n")) ≡ (9, codes "limit name")
unfolding is_utf8 chars lib.Utf8.encode digits fault_of
name-65-before-unknown = refl

pub name-65-but-no-form : told (file (codes "adept 1\ntype t\nact nnnnnnnnnnnnnnnnnnnnnnnnnnnnnnnnnnnnnnnnnnnnnnnnnnnnnnnnnnnnnnnnn role x\nend\n")) ≡ (3, codes "form")
unfolding is_utf8 chars lib.Utf8.encode digits fault_of
name-65-but-no-form = refl

pub name-65-in-a-pair : told (file (codes "adept 1\ntype t\nact A\nend\nactor ann\ncase c t\nphase\nann create c\nann end c A nnnnnnnnnnnnnnnnnnnnnnnnnnnnnnnnnnnnnnnnnnnnnnnnnnnnnnnnnnnnnnnnn=1\n")) ≡ (9, codes "limit name")
unfolding is_utf8 chars lib.Utf8.encode digits fault_of
name-65-in-a-pair = refl

pub name-65-in-a-place : told (file (codes "adept 1\ntype t\nact A\nend\nactor ann\ncase c t\nphase\nann create c\nann change c\ninsert X after nnnnnnnnnnnnnnnnnnnnnnnnnnnnnnnnnnnnnnnnnnnnnnnnnnnnnnnnnnnnnnnnn\nend\n")) ≡ (10, codes "limit name")
unfolding is_utf8 chars lib.Utf8.encode digits fault_of
name-65-in-a-place = refl

pub name-not-ascii : told (file (codes "adept 1\ntype t\nact " ++ (195 ∷ 169 ∷ []) ++ codes "\n")) ≡ (3, codes "form")
unfolding is_utf8 chars lib.Utf8.encode digits fault_of
name-not-ascii = refl

pub name-of-all-kinds : told (file (codes "adept 1\ntype t\nact _-.9aZ\nend\n")) ≡ (0, [])
unfolding is_utf8 chars lib.Utf8.encode digits fault_of
name-of-all-kinds = refl

pub name-with-dash-first : told (file (codes "adept 1\ntype t\nact -a\n")) ≡ (3, codes "form")
unfolding is_utf8 chars lib.Utf8.encode digits fault_of
name-with-dash-first = refl

pub name-with-digit-first : told (file (codes "adept 1\ntype t\nact 1a\n")) ≡ (3, codes "form")
unfolding is_utf8 chars lib.Utf8.encode digits fault_of
name-with-digit-first = refl

pub name-with-dot-first : told (file (codes "adept 1\ntype t\nact .a\n")) ≡ (3, codes "form")
unfolding is_utf8 chars lib.Utf8.encode digits fault_of
name-with-dot-first = refl

pub names-that-are-keywords : told (file (codes "adept 1\ntype type\nact act\nact role role 5\nact end\nend\nactor phase\nactor end roles 5\ncase create type\nphase\nphase create create\nend start create act\nend end create act\nphase change create\ninsert insert after end\ndelete after\nend\n")) ≡ (0, [])
unfolding is_utf8 chars lib.Utf8.encode digits fault_of
names-that-are-keywords = refl

pub no-break-space-is-no-blank : told (file (codes "adept 1\ntype" ++ (194 ∷ 160 ∷ []) ++ codes "t\n")) ≡ (2, codes "form")
unfolding is_utf8 chars lib.Utf8.encode digits fault_of
no-break-space-is-no-blank = refl

pub node-unknown-is-right : told (file (codes "adept 1\ntype t\nact A\nend\nactor ann\ncase c t\nphase\nann create c\nann start c Nope\n")) ≡ (0, [])
unfolding is_utf8 chars lib.Utf8.encode digits fault_of
node-unknown-is-right = refl

pub not-text : told (file (codes "adept 1\ntype " ++ (255 ∷ []) ++ codes "\n")) ≡ (2, codes "not-text")
unfolding is_utf8 chars lib.Utf8.encode digits fault_of
not-text = refl

pub not-text-before-form : told (file (codes "adept 1\nfly " ++ (255 ∷ []) ++ codes "\n")) ≡ (2, codes "not-text")
unfolding is_utf8 chars lib.Utf8.encode digits fault_of
not-text-before-form = refl

pub not-text-in-a-comment : told (file (codes "adept 1\n# " ++ (255 ∷ []) ++ codes "\nphase\n")) ≡ (0, [])
unfolding is_utf8 chars lib.Utf8.encode digits fault_of
not-text-in-a-comment = refl

pub not-text-overlong : told (file (codes "adept 1\ntype " ++ (192 ∷ 175 ∷ []) ++ codes "\n")) ≡ (2, codes "not-text")
unfolding is_utf8 chars lib.Utf8.encode digits fault_of
not-text-overlong = refl

pub not-text-surrogate : told (file (codes "adept 1\ntype " ++ (237 ∷ 160 ∷ 128 ∷ []) ++ codes "\n")) ≡ (2, codes "not-text")
unfolding is_utf8 chars lib.Utf8.encode digits fault_of
not-text-surrogate = refl

pub not-text-without-line-feed : told (file (codes "adept 1\n" ++ (255 ∷ []))) ≡ (2, codes "unended")
unfolding is_utf8 chars lib.Utf8.encode digits fault_of
not-text-without-line-feed = refl

pub one-element-in-two-types : told (file (codes "adept 1\ntype t\nelement d int\nend\ntype u\nelement d text\nend\n")) ≡ (0, [])
unfolding is_utf8 chars lib.Utf8.encode digits fault_of
one-element-in-two-types = refl

pub one-name-in-three-spaces : told (file (codes "adept 1\ntype x\nend\nactor x\ncase x x\n")) ≡ (0, [])
unfolding is_utf8 chars lib.Utf8.encode digits fault_of
one-name-in-three-spaces = refl

pub only-skipped-lines : told (file (codes "\n#\n\n")) ≡ (4, codes "header")
unfolding is_utf8 chars lib.Utf8.encode digits fault_of
only-skipped-lines = refl

pub pair-before-choice : told (file (codes "adept 1\ntype t\nact A\nend\nactor ann\ncase c t\nphase\nann create c\nann end c A d=1 choice 0\n")) ≡ (9, codes "form")
unfolding is_utf8 chars lib.Utf8.encode digits fault_of
pair-before-choice = refl

pub pair-with-spaces : told (file (codes "adept 1\ntype t\nact A\nend\nactor ann\ncase c t\nphase\nann create c\nann end c A d = 1\n")) ≡ (9, codes "form")
unfolding is_utf8 chars lib.Utf8.encode digits fault_of
pair-with-spaces = refl

pub pair-without-value : told (file (codes "adept 1\ntype t\nact A\nend\nactor ann\ncase c t\nphase\nann create c\nann end c A d=\n")) ≡ (9, codes "form")
unfolding is_utf8 chars lib.Utf8.encode digits fault_of
pair-without-value = refl

pub parallel-three-behind-around : told (file (codes "adept 1\ntype t\nact A\nend\nactor ann\ncase c t\nphase\nann create c\nann change c\nparallel X with p q around A B C\n")) ≡ (10, codes "form")
unfolding is_utf8 chars lib.Utf8.encode digits fault_of
parallel-three-behind-around = refl

pub parallel-without-with : told (file (codes "adept 1\ntype t\nact A\nend\nactor ann\ncase c t\nphase\nann create c\nann change c\nparallel X p q around A\n")) ≡ (10, codes "form")
unfolding is_utf8 chars lib.Utf8.encode digits fault_of
parallel-without-with = refl

pub phase-inside-a-group : told (file (codes "adept 1\ntype t\nact A\nend\nactor ann\ncase c t\nphase\nann create c\nann change c\nphase\n")) ≡ (10, codes "form")
unfolding is_utf8 chars lib.Utf8.encode digits fault_of
phase-inside-a-group = refl

pub phase-inside-a-type : told (file (codes "adept 1\ntype t\nphase\n")) ≡ (3, codes "form")
unfolding is_utf8 chars lib.Utf8.encode digits fault_of
phase-inside-a-type = refl

pub place-before : told (file (codes "adept 1\ntype t\nact A\nend\nactor ann\ncase c t\nphase\nann create c\nann change c\ninsert X before A\n")) ≡ (10, codes "form")
unfolding is_utf8 chars lib.Utf8.encode digits fault_of
place-before = refl

pub place-with-code : told (file (codes "adept 1\ntype t\nact A\nend\nactor ann\ncase c t\nphase\nann create c\nann change c\ninsert X after A 0\n")) ≡ (10, codes "form")
unfolding is_utf8 chars lib.Utf8.encode digits fault_of
place-with-code = refl

pub place-without-code : told (file (codes "adept 1\ntype t\nact A\nend\nactor ann\ncase c t\nphase\nann create c\nann change c\ninsert X head s\n")) ≡ (10, codes "form")
unfolding is_utf8 chars lib.Utf8.encode digits fault_of
place-without-code = refl

pub read-and-write-are-not-twice : told (file (codes "adept 1\ntype t\nelement d int\nact A\nread A d optional\nwrite A d\nend\n")) ≡ (0, [])
unfolding is_utf8 chars lib.Utf8.encode digits fault_of
read-and-write-are-not-twice = refl

pub read-twice : told (file (codes "adept 1\ntype t\nread A d\nread A d optional\n")) ≡ (4, codes "twice")
unfolding is_utf8 chars lib.Utf8.encode digits fault_of
read-twice = refl

pub role-0 : told (file (codes "adept 1\ntype t\nact A role 0\nend\n")) ≡ (0, [])
unfolding is_utf8 chars lib.Utf8.encode digits fault_of
role-0 = refl

pub role-10-digits : told (file (codes "adept 1\ntype t\nact A role 0000000001\nend\n")) ≡ (0, [])
unfolding is_utf8 chars lib.Utf8.encode digits fault_of
role-10-digits = refl

pub role-11-digits : told (file (codes "adept 1\ntype t\nact A role 00000000001\nend\n")) ≡ (3, codes "form")
unfolding is_utf8 chars lib.Utf8.encode digits fault_of
role-11-digits = refl

pub role-at-the-end : told (file (codes "adept 1\ntype t\nact A\nend\nactor ann\ncase c t\nphase\nann create c\nann change c\ninsert X after A role 5\nend\n")) ≡ (10, codes "form")
unfolding is_utf8 chars lib.Utf8.encode digits fault_of
role-at-the-end = refl

pub role-behind-the-node : told (file (codes "adept 1\ntype t\nact A\nend\nactor ann\ncase c t\nphase\nann create c\nann change c\ninsert X role 5 after A\nparallel Y role 5 with p q around A\nconditional V role 5 with s j head p 0\nend\n")) ≡ (0, [])
unfolding is_utf8 chars lib.Utf8.encode digits fault_of
role-behind-the-node = refl

pub role-greatest : told (file (codes "adept 1\ntype t\nact A role 4294967295\nend\n")) ≡ (0, [])
unfolding is_utf8 chars lib.Utf8.encode digits fault_of
role-greatest = refl

pub role-of-an-and-block : told (file (codes "adept 1\ntype t\nand p q role 5\nend\n")) ≡ (3, codes "form")
unfolding is_utf8 chars lib.Utf8.encode digits fault_of
role-of-an-and-block = refl

pub role-too-great : told (file (codes "adept 1\ntype t\nact A role 4294967296\nend\n")) ≡ (3, codes "form")
unfolding is_utf8 chars lib.Utf8.encode digits fault_of
role-too-great = refl

pub role-without-number : told (file (codes "adept 1\ntype t\nact A role\nend\n")) ≡ (3, codes "form")
unfolding is_utf8 chars lib.Utf8.encode digits fault_of
role-without-number = refl

pub role-without-number-in-a-group : told (file (codes "adept 1\ntype t\nact A\nend\nactor ann\ncase c t\nphase\nann create c\nann change c\nrole A\n")) ≡ (10, codes "form")
unfolding is_utf8 chars lib.Utf8.encode digits fault_of
role-without-number-in-a-group = refl

pub script-before-phase : told (file (codes "adept 1\ntype t\nact A\nend\nactor ann\ncase c t\nann create c\n")) ≡ (7, codes "form")
unfolding is_utf8 chars lib.Utf8.encode digits fault_of
script-before-phase = refl

pub script-line-inside-a-group : told (file (codes "adept 1\ntype t\nact A\nend\nactor ann\ncase c t\nphase\nann create c\nann change c\nann create c\n")) ≡ (10, codes "form")
unfolding is_utf8 chars lib.Utf8.encode digits fault_of
script-line-inside-a-group = refl

pub start-with-choice : told (file (codes "adept 1\ntype t\nact A\nend\nactor ann\ncase c t\nphase\nann create c\nann start c A choice 0\n")) ≡ (9, codes "form")
unfolding is_utf8 chars lib.Utf8.encode digits fault_of
start-with-choice = refl

pub start-without-node : told (file (codes "adept 1\ntype t\nact A\nend\nactor ann\ncase c t\nphase\nann create c\nann start c\n")) ≡ (9, codes "form")
unfolding is_utf8 chars lib.Utf8.encode digits fault_of
start-without-node = refl

pub sync-both-ways-is-not-twice : told (file (codes "adept 1\ntype t\nsync A B\nsync B A\nend\n")) ≡ (5, codes "unsound sync-end A B")
unfolding is_utf8 chars lib.Utf8.encode digits fault_of
sync-both-ways-is-not-twice = refl

pub sync-inside-a-block : told (file (codes "adept 1\ntype t\nand p q\nbranch 0\nact A\nbranch 1\nact B\nsync A B\n")) ≡ (8, codes "form")
unfolding is_utf8 chars lib.Utf8.encode digits fault_of
sync-inside-a-block = refl

pub sync-twice : told (file (codes "adept 1\ntype t\nsync A B\nsync A B\n")) ≡ (4, codes "twice")
unfolding is_utf8 chars lib.Utf8.encode digits fault_of
sync-twice = refl

pub text-256 : told (file (codes "adept 1\ntype t\nact A\nend\nactor ann\ncase c t\nphase\nann create c\nann end c A d=\"xxxxxxxxxxxxxxxxxxxxxxxxxxxxxxxxxxxxxxxxxxxxxxxxxxxxxxxxxxxxxxxxxxxxxxxxxxxxxxxxxxxxxxxxxxxxxxxxxxxxxxxxxxxxxxxxxxxxxxxxxxxxxxxxxxxxxxxxxxxxxxxxxxxxxxxxxxxxxxxxxxxxxxxxxxxxxxxxxxxxxxxxxxxxxxxxxxxxxxxxxxxxxxxxxxxxxxxxxxxxxxxxxxxxxxxxxxxxxxxxxxxxxxxxxxxxxxxx\"\n")) ≡ (0, [])
unfolding is_utf8 chars lib.Utf8.encode digits fault_of
text-256 = refl

pub text-257 : told (file (codes "adept 1\ntype t\nact A\nend\nactor ann\ncase c t\nphase\nann create c\nann end c A d=\"xxxxxxxxxxxxxxxxxxxxxxxxxxxxxxxxxxxxxxxxxxxxxxxxxxxxxxxxxxxxxxxxxxxxxxxxxxxxxxxxxxxxxxxxxxxxxxxxxxxxxxxxxxxxxxxxxxxxxxxxxxxxxxxxxxxxxxxxxxxxxxxxxxxxxxxxxxxxxxxxxxxxxxxxxxxxxxxxxxxxxxxxxxxxxxxxxxxxxxxxxxxxxxxxxxxxxxxxxxxxxxxxxxxxxxxxxxxxxxxxxxxxxxxxxxxxxxxxx\"\n")) ≡ (9, codes "limit text")
unfolding is_utf8 chars lib.Utf8.encode digits fault_of
text-257 = refl

pub text-257-before-unknown : told (file (codes "adept 1\ntype t\nact A\nend\nactor ann\ncase c t\nphase\nann create c\nzed end c A d=\"xxxxxxxxxxxxxxxxxxxxxxxxxxxxxxxxxxxxxxxxxxxxxxxxxxxxxxxxxxxxxxxxxxxxxxxxxxxxxxxxxxxxxxxxxxxxxxxxxxxxxxxxxxxxxxxxxxxxxxxxxxxxxxxxxxxxxxxxxxxxxxxxxxxxxxxxxxxxxxxxxxxxxxxxxxxxxxxxxxxxxxxxxxxxxxxxxxxxxxxxxxxxxxxxxxxxxxxxxxxxxxxxxxxxxxxxxxxxxxxxxxxxxxxxxxxxxxxxx\"\n")) ≡ (9, codes "limit text")
unfolding is_utf8 chars lib.Utf8.encode digits fault_of
text-257-before-unknown = refl

pub text-257-but-no-form : told (file (codes "adept 1\ntype t\nact A\nend\nactor ann\ncase c t\nphase\nann create c\nann end c A d=\"xxxxxxxxxxxxxxxxxxxxxxxxxxxxxxxxxxxxxxxxxxxxxxxxxxxxxxxxxxxxxxxxxxxxxxxxxxxxxxxxxxxxxxxxxxxxxxxxxxxxxxxxxxxxxxxxxxxxxxxxxxxxxxxxxxxxxxxxxxxxxxxxxxxxxxxxxxxxxxxxxxxxxxxxxxxxxxxxxxxxxxxxxxxxxxxxxxxxxxxxxxxxxxxxxxxxxxxxxxxxxxxxxxxxxxxxxxxxxxxxxxxxxxxxxxxxxxxxx\" f\n")) ≡ (9, codes "form")
unfolding is_utf8 chars lib.Utf8.encode digits fault_of
text-257-but-no-form = refl

pub text-and-more : told (file (codes "adept 1\ntype t\nact A\nend\nactor ann\ncase c t\nphase\nann create c\nann end c A d=\"a\"b\n")) ≡ (9, codes "form")
unfolding is_utf8 chars lib.Utf8.encode digits fault_of
text-and-more = refl

pub text-and-text : told (file (codes "adept 1\ntype t\nact A\nend\nactor ann\ncase c t\nphase\nann create c\nann end c A d=\"a\"f=\"b\"\n")) ≡ (9, codes "form")
unfolding is_utf8 chars lib.Utf8.encode digits fault_of
text-and-text = refl

pub text-of-128-characters : told (file (codes "adept 1\ntype t\nact A\nend\nactor ann\ncase c t\nphase\nann create c\nann end c A d=\"" ++ (195 ∷ 169 ∷ 195 ∷ 169 ∷ 195 ∷ 169 ∷ 195 ∷ 169 ∷ 195 ∷ 169 ∷ 195 ∷ 169 ∷ 195 ∷ 169 ∷ 195 ∷ 169 ∷ 195 ∷ 169 ∷ 195 ∷ 169 ∷ 195 ∷ 169 ∷ 195 ∷ 169 ∷ 195 ∷ 169 ∷ 195 ∷ 169 ∷ 195 ∷ 169 ∷ 195 ∷ 169 ∷ 195 ∷ 169 ∷ 195 ∷ 169 ∷ 195 ∷ 169 ∷ 195 ∷ 169 ∷ 195 ∷ 169 ∷ 195 ∷ 169 ∷ 195 ∷ 169 ∷ 195 ∷ 169 ∷ 195 ∷ 169 ∷ 195 ∷ 169 ∷ 195 ∷ 169 ∷ 195 ∷ 169 ∷ 195 ∷ 169 ∷ 195 ∷ 169 ∷ 195 ∷ 169 ∷ 195 ∷ 169 ∷ 195 ∷ 169 ∷ 195 ∷ 169 ∷ 195 ∷ 169 ∷ 195 ∷ 169 ∷ 195 ∷ 169 ∷ 195 ∷ 169 ∷ 195 ∷ 169 ∷ 195 ∷ 169 ∷ 195 ∷ 169 ∷ 195 ∷ 169 ∷ 195 ∷ 169 ∷ 195 ∷ 169 ∷ 195 ∷ 169 ∷ 195 ∷ 169 ∷ 195 ∷ 169 ∷ 195 ∷ 169 ∷ 195 ∷ 169 ∷ 195 ∷ 169 ∷ 195 ∷ 169 ∷ 195 ∷ 169 ∷ 195 ∷ 169 ∷ 195 ∷ 169 ∷ 195 ∷ 169 ∷ 195 ∷ 169 ∷ 195 ∷ 169 ∷ 195 ∷ 169 ∷ 195 ∷ 169 ∷ 195 ∷ 169 ∷ 195 ∷ 169 ∷ 195 ∷ 169 ∷ 195 ∷ 169 ∷ 195 ∷ 169 ∷ 195 ∷ 169 ∷ 195 ∷ 169 ∷ 195 ∷ 169 ∷ 195 ∷ 169 ∷ 195 ∷ 169 ∷ 195 ∷ 169 ∷ 195 ∷ 169 ∷ 195 ∷ 169 ∷ 195 ∷ 169 ∷ 195 ∷ 169 ∷ 195 ∷ 169 ∷ 195 ∷ 169 ∷ 195 ∷ 169 ∷ 195 ∷ 169 ∷ 195 ∷ 169 ∷ 195 ∷ 169 ∷ 195 ∷ 169 ∷ 195 ∷ 169 ∷ 195 ∷ 169 ∷ 195 ∷ 169 ∷ 195 ∷ 169 ∷ 195 ∷ 169 ∷ 195 ∷ 169 ∷ 195 ∷ 169 ∷ 195 ∷ 169 ∷ 195 ∷ 169 ∷ 195 ∷ 169 ∷ 195 ∷ 169 ∷ 195 ∷ 169 ∷ 195 ∷ 169 ∷ 195 ∷ 169 ∷ 195 ∷ 169 ∷ 195 ∷ 169 ∷ 195 ∷ 169 ∷ 195 ∷ 169 ∷ 195 ∷ 169 ∷ 195 ∷ 169 ∷ 195 ∷ 169 ∷ 195 ∷ 169 ∷ 195 ∷ 169 ∷ 195 ∷ 169 ∷ 195 ∷ 169 ∷ 195 ∷ 169 ∷ 195 ∷ 169 ∷ 195 ∷ 169 ∷ 195 ∷ 169 ∷ 195 ∷ 169 ∷ 195 ∷ 169 ∷ 195 ∷ 169 ∷ 195 ∷ 169 ∷ 195 ∷ 169 ∷ 195 ∷ 169 ∷ 195 ∷ 169 ∷ 195 ∷ 169 ∷ 195 ∷ 169 ∷ 195 ∷ 169 ∷ 195 ∷ 169 ∷ 195 ∷ 169 ∷ 195 ∷ 169 ∷ 195 ∷ 169 ∷ 195 ∷ 169 ∷ 195 ∷ 169 ∷ 195 ∷ 169 ∷ 195 ∷ 169 ∷ []) ++ codes "\"\n")) ≡ (0, [])
unfolding is_utf8 chars lib.Utf8.encode digits fault_of
text-of-128-characters = refl

pub text-of-129-characters : told (file (codes "adept 1\ntype t\nact A\nend\nactor ann\ncase c t\nphase\nann create c\nann end c A d=\"" ++ (195 ∷ 169 ∷ 195 ∷ 169 ∷ 195 ∷ 169 ∷ 195 ∷ 169 ∷ 195 ∷ 169 ∷ 195 ∷ 169 ∷ 195 ∷ 169 ∷ 195 ∷ 169 ∷ 195 ∷ 169 ∷ 195 ∷ 169 ∷ 195 ∷ 169 ∷ 195 ∷ 169 ∷ 195 ∷ 169 ∷ 195 ∷ 169 ∷ 195 ∷ 169 ∷ 195 ∷ 169 ∷ 195 ∷ 169 ∷ 195 ∷ 169 ∷ 195 ∷ 169 ∷ 195 ∷ 169 ∷ 195 ∷ 169 ∷ 195 ∷ 169 ∷ 195 ∷ 169 ∷ 195 ∷ 169 ∷ 195 ∷ 169 ∷ 195 ∷ 169 ∷ 195 ∷ 169 ∷ 195 ∷ 169 ∷ 195 ∷ 169 ∷ 195 ∷ 169 ∷ 195 ∷ 169 ∷ 195 ∷ 169 ∷ 195 ∷ 169 ∷ 195 ∷ 169 ∷ 195 ∷ 169 ∷ 195 ∷ 169 ∷ 195 ∷ 169 ∷ 195 ∷ 169 ∷ 195 ∷ 169 ∷ 195 ∷ 169 ∷ 195 ∷ 169 ∷ 195 ∷ 169 ∷ 195 ∷ 169 ∷ 195 ∷ 169 ∷ 195 ∷ 169 ∷ 195 ∷ 169 ∷ 195 ∷ 169 ∷ 195 ∷ 169 ∷ 195 ∷ 169 ∷ 195 ∷ 169 ∷ 195 ∷ 169 ∷ 195 ∷ 169 ∷ 195 ∷ 169 ∷ 195 ∷ 169 ∷ 195 ∷ 169 ∷ 195 ∷ 169 ∷ 195 ∷ 169 ∷ 195 ∷ 169 ∷ 195 ∷ 169 ∷ 195 ∷ 169 ∷ 195 ∷ 169 ∷ 195 ∷ 169 ∷ 195 ∷ 169 ∷ 195 ∷ 169 ∷ 195 ∷ 169 ∷ 195 ∷ 169 ∷ 195 ∷ 169 ∷ 195 ∷ 169 ∷ 195 ∷ 169 ∷ 195 ∷ 169 ∷ 195 ∷ 169 ∷ 195 ∷ 169 ∷ 195 ∷ 169 ∷ 195 ∷ 169 ∷ 195 ∷ 169 ∷ 195 ∷ 169 ∷ 195 ∷ 169 ∷ 195 ∷ 169 ∷ 195 ∷ 169 ∷ 195 ∷ 169 ∷ 195 ∷ 169 ∷ 195 ∷ 169 ∷ 195 ∷ 169 ∷ 195 ∷ 169 ∷ 195 ∷ 169 ∷ 195 ∷ 169 ∷ 195 ∷ 169 ∷ 195 ∷ 169 ∷ 195 ∷ 169 ∷ 195 ∷ 169 ∷ 195 ∷ 169 ∷ 195 ∷ 169 ∷ 195 ∷ 169 ∷ 195 ∷ 169 ∷ 195 ∷ 169 ∷ 195 ∷ 169 ∷ 195 ∷ 169 ∷ 195 ∷ 169 ∷ 195 ∷ 169 ∷ 195 ∷ 169 ∷ 195 ∷ 169 ∷ 195 ∷ 169 ∷ 195 ∷ 169 ∷ 195 ∷ 169 ∷ 195 ∷ 169 ∷ 195 ∷ 169 ∷ 195 ∷ 169 ∷ 195 ∷ 169 ∷ 195 ∷ 169 ∷ 195 ∷ 169 ∷ 195 ∷ 169 ∷ 195 ∷ 169 ∷ 195 ∷ 169 ∷ 195 ∷ 169 ∷ 195 ∷ 169 ∷ 195 ∷ 169 ∷ 195 ∷ 169 ∷ 195 ∷ 169 ∷ 195 ∷ 169 ∷ 195 ∷ 169 ∷ 195 ∷ 169 ∷ 195 ∷ 169 ∷ 195 ∷ 169 ∷ 195 ∷ 169 ∷ 195 ∷ 169 ∷ 195 ∷ 169 ∷ 195 ∷ 169 ∷ 195 ∷ 169 ∷ 195 ∷ 169 ∷ []) ++ codes "\"\n")) ≡ (9, codes "limit text")
unfolding is_utf8 chars lib.Utf8.encode digits fault_of
text-of-129-characters = refl

pub text-open : told (file (codes "adept 1\ntype t\nact A\nend\nactor ann\ncase c t\nphase\nann create c\nann end c A d=\"a\n")) ≡ (9, codes "form")
unfolding is_utf8 chars lib.Utf8.encode digits fault_of
text-open = refl

pub text-open-by-escape : told (file (codes "adept 1\ntype t\nact A\nend\nactor ann\ncase c t\nphase\nann create c\nann end c A d=\"a\\\"\n")) ≡ (9, codes "form")
unfolding is_utf8 chars lib.Utf8.encode digits fault_of
text-open-by-escape = refl

pub text-with-blanks : told (file (codes "adept 1\ntype t\nact A\nend\nactor ann\ncase c t\nphase\nann create c\nann end c A d=\"a  b\" f=\"\"\n")) ≡ (0, [])
unfolding is_utf8 chars lib.Utf8.encode digits fault_of
text-with-blanks = refl

pub text-with-control : told (file (codes "adept 1\ntype t\nact A\nend\nactor ann\ncase c t\nphase\nann create c\nann end c A d=\"" ++ (31 ∷ []) ++ codes "\"\n")) ≡ (9, codes "form")
unfolding is_utf8 chars lib.Utf8.encode digits fault_of
text-with-control = refl

pub text-with-delete : told (file (codes "adept 1\ntype t\nact A\nend\nactor ann\ncase c t\nphase\nann create c\nann end c A d=\"" ++ (127 ∷ []) ++ codes "\"\n")) ≡ (9, codes "form")
unfolding is_utf8 chars lib.Utf8.encode digits fault_of
text-with-delete = refl

pub text-with-escapes : told (file (codes "adept 1\ntype t\nact A\nend\nactor ann\ncase c t\nphase\nann create c\nann end c A d=\"\\\"\\\\\"\n")) ≡ (0, [])
unfolding is_utf8 chars lib.Utf8.encode digits fault_of
text-with-escapes = refl

pub text-with-hash : told (file (codes "adept 1\ntype t\nact A\nend\nactor ann\ncase c t\nphase\nann create c\nann end c A d=\"#\"\n")) ≡ (0, [])
unfolding is_utf8 chars lib.Utf8.encode digits fault_of
text-with-hash = refl

pub text-with-high-control : told (file (codes "adept 1\ntype t\nact A\nend\nactor ann\ncase c t\nphase\nann create c\nann end c A d=\"" ++ (194 ∷ 133 ∷ 194 ∷ 160 ∷ []) ++ codes "\"\n")) ≡ (0, [])
unfolding is_utf8 chars lib.Utf8.encode digits fault_of
text-with-high-control = refl

pub text-with-other-escape : told (file (codes "adept 1\ntype t\nact A\nend\nactor ann\ncase c t\nphase\nann create c\nann end c A d=\"\\n\"\n")) ≡ (9, codes "form")
unfolding is_utf8 chars lib.Utf8.encode digits fault_of
text-with-other-escape = refl

pub text-with-tab : told (file (codes "adept 1\ntype t\nact A\nend\nactor ann\ncase c t\nphase\nann create c\nann end c A d=\"a\tb\"\n")) ≡ (9, codes "form")
unfolding is_utf8 chars lib.Utf8.encode digits fault_of
text-with-tab = refl

pub two-carriage-returns : told (file (codes "adept 1\ntype t" ++ (13 ∷ 13 ∷ []) ++ codes "\n")) ≡ (2, codes "form")
unfolding is_utf8 chars lib.Utf8.encode digits fault_of
two-carriage-returns = refl

pub type-behind-phase : told (file (codes "adept 1\ntype t\nact A\nend\nactor ann\ncase c t\nphase\nann create c\ntype u\n")) ≡ (9, codes "form")
unfolding is_utf8 chars lib.Utf8.encode digits fault_of
type-behind-phase = refl

pub type-inside-a-type : told (file (codes "adept 1\ntype t\ntype u\n")) ≡ (3, codes "form")
unfolding is_utf8 chars lib.Utf8.encode digits fault_of
type-inside-a-type = refl

pub type-twice : told (file (codes "adept 1\ntype t\nend\ntype t\n")) ≡ (4, codes "twice")
unfolding is_utf8 chars lib.Utf8.encode digits fault_of
type-twice = refl

pub type-two-names : told (file (codes "adept 1\ntype t u\n")) ≡ (2, codes "form")
unfolding is_utf8 chars lib.Utf8.encode digits fault_of
type-two-names = refl

pub type-unknown : told (file (codes "adept 1\ntype t\nact A\nend\nactor ann\ncase c t\nphase\nann create c\nann migrate c\n")) ≡ (9, codes "unknown")
unfolding is_utf8 chars lib.Utf8.encode digits fault_of
type-unknown = refl

pub unknown-before-twice : told (file (codes "adept 1\ntype t\nact A\nend\nactor ann\ncase c t\ncase c u\n")) ≡ (7, codes "unknown")
unfolding is_utf8 chars lib.Utf8.encode digits fault_of
unknown-before-twice = refl

pub unknown-keyword : told (file (codes "adept 1\nfly t\n")) ≡ (2, codes "form")
unfolding is_utf8 chars lib.Utf8.encode digits fault_of
unknown-keyword = refl

pub unknown-verb : told (file (codes "adept 1\ntype t\nact A\nend\nactor ann\ncase c t\nphase\nann create c\nann fly c\n")) ≡ (9, codes "form")
unfolding is_utf8 chars lib.Utf8.encode digits fault_of
unknown-verb = refl

pub unread-optional : told (file (codes "adept 1\ntype t\nact A\nend\nactor ann\ncase c t\nphase\nann create c\nann change c\nunread A d optional\n")) ≡ (10, codes "form")
unfolding is_utf8 chars lib.Utf8.encode digits fault_of
unread-optional = refl

pub utf-8-in-a-comment : told (file (codes "adept 1\n# " ++ (195 ∷ 169 ∷ []) ++ codes "\n")) ≡ (0, [])
unfolding is_utf8 chars lib.Utf8.encode digits fault_of
utf-8-in-a-comment = refl

pub withdraw-in-format-1 : told (file (codes "adept 1\ntype t\nact A\nend\nactor ann\ncase c t\nphase\nann create c\nann withdraw c A\n")) ≡ (9, codes "form")
unfolding is_utf8 chars lib.Utf8.encode digits fault_of
withdraw-in-format-1 = refl

pub write-optional : told (file (codes "adept 1\ntype t\nwrite A d optional\n")) ≡ (3, codes "form")
unfolding is_utf8 chars lib.Utf8.encode digits fault_of
write-optional = refl

pub write-twice : told (file (codes "adept 1\ntype t\nwrite A d\nwrite A d\n")) ≡ (4, codes "twice")
unfolding is_utf8 chars lib.Utf8.encode digits fault_of
write-twice = refl

pub wrong-header-and-no-line-feed : told (file (codes "fly\nadept 1")) ≡ (1, codes "header")
unfolding is_utf8 chars lib.Utf8.encode digits fault_of
wrong-header-and-no-line-feed = refl

pub zero-byte : told (file (codes "adept 1\ntype t" ++ (0 ∷ []) ++ codes "\n")) ≡ (2, codes "form")
unfolding is_utf8 chars lib.Utf8.encode digits fault_of
zero-byte = refl
