-- A line's form has no more names that may get a number than the line has words.
use Rattle.file_units.proofs.Common.{[], ℕ, ◌&&◌, ◌+◌, ◌==◌, ◌∷◌, ◌≤◌, a_case, a_deed, a_read, a_sync, a_type, a_write, activity, actor_ahead, actor_line, an_actor, an_element, arith, around_items, at_head, begins_reserved, behind, Bytes}
use Rattle.file_units.proofs.Common.{choice_ahead, closes_block, code_ahead, codes, conditional, conditional_line, Declaration, declaration_line, Deed, deed, deed_line, delete, edge_line, edge_operation, element, end_behind, end_deed}
use Rattle.file_units.proofs.Common.{first_and_last, first_phase, group_end, IfSome, insert, insert_line, is, last_item, length, List, move, move_line, name_and_code, named_deed, nat_le, nat_lt, new_node, next_phase, None, opens_and}
use Rattle.file_units.proofs.Common.{opens_branch, opens_loop, opens_xor, operation_line, OperationLine, Option, outer_line, pairs, parallel, parallel_line, place, plain_deed, plain_line, read, role_ahead, role_line, role_word_ahead, roles}
use Rattle.file_units.proofs.Common.{roles_at_end, RoleWord, row_line, script_line, ScriptLine, set_role, Some, some_roles, sync, to_change, to_create, to_end, to_install, to_migrate, to_start, to_withdraw, tree_line, tree_operation}
use Rattle.file_units.proofs.Common.{type_end, type_line, TypeLine, unread, unsync, unwrite, Value, with_block, write}
use Rattle.file_words.specs.{Names.name, Numbers.code, Pairs.pair}
use Rattle.file_forms.specs.PieceForms.{◌>>=◌, element_and_kind, element_kind, element_read, is_mandatory, name_ahead, name_and_role, nothing_more, one_name, only, read_edge, role_at_end, role_word, two_names, two_names_ahead}
use Rattle.file_forms.specs.PieceForms.{two_names_and_role}
use Rattle.file_forms.proofs.Options.{some-any, some-bound, some-either, some-mapped, some-or}

-- ---- how many names may get a number by a form: those of nodes, elements and roles, and of what is declared
abbrev pub names_in_declaration : Declaration → ℕ
names_in_declaration (a_type name) = 0
names_in_declaration (an_actor name roles) = length roles + 1
names_in_declaration (a_case name kind) = 1
names_in_declaration first_phase = 0

abbrev pub names_in_type_line : TypeLine → ℕ
names_in_type_line (activity node role) = 2
names_in_type_line (opens_and split join) = 2
names_in_type_line (opens_xor split join role) = 3
names_in_type_line (opens_branch code) = 0
names_in_type_line (opens_loop start end role) = 3
names_in_type_line closes_block = 0
names_in_type_line (a_sync source target) = 2
names_in_type_line (an_element name kind) = 1
names_in_type_line (a_read node name mandatory) = 2
names_in_type_line (a_write node name) = 2
names_in_type_line type_end = 1

abbrev pub names_in_deed : Deed → ℕ
names_in_deed (to_create case) = 0
names_in_deed (to_start case node) = 1
names_in_deed (to_withdraw case node) = 1
names_in_deed (to_end case node choice writes) = length writes + 1
names_in_deed (to_change case) = 0
names_in_deed (to_install kind) = 0
names_in_deed (to_migrate kind) = 0

abbrev pub names_in_script_line : ScriptLine → ℕ
names_in_script_line next_phase = 0
names_in_script_line (a_deed actor d) = names_in_deed d

abbrev pub names_in_operation : OperationLine → ℕ
names_in_operation (insert node role place) = 3
names_in_operation (parallel node role split join first last) = 6
names_in_operation (conditional node role split join place) = 5
names_in_operation (delete node) = 1
names_in_operation (move node place) = 2
names_in_operation (sync source target) = 2
names_in_operation (unsync source target) = 2
names_in_operation (element name kind) = 1
names_in_operation (read node name mandatory) = 2
names_in_operation (unread node name) = 2
names_in_operation (write node name) = 2
names_in_operation (unwrite node name) = 2
names_in_operation (set_role node role) = 2
names_in_operation group_end = 0

-- ---- pieces of lines
abbrev Any : {A : Type 0} → A → Type 0
Any x = Unit {0}

any : {A : Type 0} (o : Option A) → IfSome o Any
any o = some-any Any o (λ x. tt)

-- there are so many words
abbrev Among : {A : Type 0} → ℕ → ℕ → A → Type 0
Among k n x = k ≤ n

-- so many words stand in front of those that are left
abbrev Behind : {A : Type 0} → ℕ → ℕ → A × List Bytes → Type 0
Behind k n p = length p.1 + k ≤ n

more : {A : Type 0} (k n j m : ℕ) (o : Option A) → IfSome o (Among k n) → (k ≤ n → j ≤ m) → IfSome o (Among j m)
more k n j m None h go = tt
more k n j m (Some x) h go = go h

only-one : (ws : List Bytes) → IfSome (only ws) (Among 1 (length ws))
only-one [] = tt
only-one (w ∷ []) = omega arith
only-one (w ∷ v ∷ ws) = tt

only-then : {A : Type 0} (ws : List Bytes) (go : Bytes → Option A) → IfSome (only ws >>= go) (Among 1 (length ws))
only-then ws go = some-bound (Among 1 (length ws)) (Among 1 (length ws)) (only ws) go (only-one ws) (λ w one. some-any (Among 1 (length ws)) (go w) (λ x. one))

name-one : (ws : List Bytes) → IfSome (one_name ws) (Among 1 (length ws))
name-one ws = only-then ws name

name-ahead : (ws : List Bytes) → IfSome (name_ahead ws) (Behind 1 (length ws))
name-ahead [] = tt
name-ahead (w ∷ ws) = some-mapped Any (Behind 1 (length (w ∷ ws))) (λ x. (x, ws)) (name w) (any (name w)) (λ x any. omega arith)

names-two : (ws : List Bytes) → IfSome (two_names ws) (Among 2 (length ws))
names-two ws =
    some-bound (Behind 1 (length ws)) (Among 2 (length ws)) (name_ahead ws) _ (name-ahead ws) (λ a few.
    some-bound (Among 1 (length a.1)) (Among 2 (length ws)) (one_name a.1) _ (name-one a.1) (λ b one. omega (arith, few, one)))

abbrev BehindTwo : ℕ → ℕ → Bytes × Bytes × List Bytes → Type 0
BehindTwo k n p = length p.2 + k ≤ n

names-two_ahead : (ws : List Bytes) → IfSome (two_names_ahead ws) (BehindTwo 2 (length ws))
names-two_ahead ws =
    some-bound (Behind 1 (length ws)) (BehindTwo 2 (length ws)) (name_ahead ws) _ (name-ahead ws) (λ a few.
    some-bound (Behind 1 (length a.1)) (BehindTwo 2 (length ws)) (name_ahead a.1) _ (name-ahead a.1) (λ b fewer. omega (arith, few, fewer)))

-- a name, and something behind it
name-first : {A B : Type 0} (ws : List Bytes) (k : ℕ) (o : List Bytes → Option A) (go : Bytes → A → Option B) → ((vs : List Bytes) → IfSome (o vs) (Among k (length vs)))
    → IfSome (name_ahead ws >>= λ a. o a.1 >>= go a.0) (Among (k + 1) (length ws))
name-first ws k o go h =
    some-bound (Behind 1 (length ws)) (Among (k + 1) (length ws)) (name_ahead ws) _ (name-ahead ws) (λ a few.
    some-bound (Among k (length a.1)) (Among (k + 1) (length ws)) (o a.1) _ (h a.1) (λ x have. some-any (Among (k + 1) (length ws)) (go a.0 x) (λ y. omega (arith, few, have))))

none : {A : Type 0} (n : ℕ) (o : Option A) → IfSome o (Among 0 n)
none n o = some-any (Among 0 n) o (λ x. omega arith)

name-role : (format : ℕ) (ws : List Bytes) → IfSome (name_and_role format ws) (Among 1 (length ws))
name-role format ws = name-first ws 0 (role_at_end format) (λ a r. Some (a, r)) (λ vs. none (length vs) (role_at_end format vs))

names-role : (format : ℕ) (ws : List Bytes) → IfSome (two_names_and_role format ws) (Among 2 (length ws))
names-role format ws = name-first ws 1 (name_and_role format) (λ a p. Some (a, p.0, p.1)) (λ vs. name-role format vs)

element-kind : (ws : List Bytes) → IfSome (element_and_kind ws) (Among 2 (length ws))
element-kind ws = name-first ws 1 (λ vs. only vs >>= element_kind) (λ a k. Some (a, k)) (λ vs. only-then vs element_kind)

element-read : (ws : List Bytes) → IfSome (element_read ws) (Among 1 (length ws))
element-read ws = name-first ws 0 is_mandatory (λ a m. Some (a, m)) (λ vs. none (length vs) (is_mandatory vs))

edge-read : (ws : List Bytes) → IfSome (read_edge ws) (Among 2 (length ws))
edge-read ws = name-first ws 1 element_read (λ a p. Some (a, p.0, p.1)) (λ vs. element-read vs)

-- ---- lines of a type
abbrev InType : ℕ → TypeLine → Type 0
InType n l = names_in_type_line l ≤ n

nothing-type : (n : ℕ) (l : TypeLine) (ws : List Bytes) → names_in_type_line l ≤ n → IfSome (nothing_more l ws) (InType n)
nothing-type n l [] h = h
nothing-type n l (w ∷ ws) h = tt

tree-few : (format : ℕ) (k : Bytes) (ws : List Bytes) → IfSome (tree_line format k ws) (InType (length ws + 1))
tree-few format k ws =
    let n = length ws + 1 in
    some-either (InType n) (is (codes "act") k) _ _ (some-mapped (Among 1 (length ws)) (InType n) (λ p. activity p.0 p.1) (name_and_role format ws) (name-role format ws) (λ p few. omega (arith, few)))
    (some-either (InType n) (is (codes "and") k) _ _ (some-mapped (Among 2 (length ws)) (InType n) (λ p. opens_and p.0 p.1) (two_names ws) (names-two ws) (λ p few. omega (arith, few)))
    (some-either (InType n) (is (codes "xor") k) _ _ (some-mapped (Among 2 (length ws)) (InType n) (λ p. opens_xor p.0 p.1 p.2) (two_names_and_role format ws) (names-role format ws) (λ p few. omega (arith, few)))
    (some-either (InType n) (is (codes "loop") k) _ _ (some-mapped (Among 2 (length ws)) (InType n) (λ p. opens_loop p.0 p.1 p.2) (two_names_and_role format ws) (names-role format ws) (λ p few. omega (arith, few)))
    (some-either (InType n) (is (codes "branch") k) _ _ (some-mapped Any (InType n) opens_branch (only ws >>= code) (any (only ws >>= code)) (λ p any. omega arith))
    (some-either (InType n) (is (codes "done") k) _ _ (nothing-type n closes_block ws (omega arith)) tt)))))

outer-few : (k : Bytes) (ws : List Bytes) → IfSome (outer_line k ws) (InType (length ws + 1))
outer-few k ws =
    let n = length ws + 1 in
    some-either (InType n) (is (codes "sync") k) _ _ (some-mapped (Among 2 (length ws)) (InType n) (λ p. a_sync p.0 p.1) (two_names ws) (names-two ws) (λ p few. omega (arith, few)))
    (some-either (InType n) (is (codes "element") k) _ _ (some-mapped (Among 2 (length ws)) (InType n) (λ p. an_element p.0 p.1) (element_and_kind ws) (element-kind ws) (λ p few. omega (arith, few)))
    (some-either (InType n) (is (codes "read") k) _ _ (some-mapped (Among 2 (length ws)) (InType n) (λ p. a_read p.0 p.1 p.2) (read_edge ws) (edge-read ws) (λ p few. omega (arith, few)))
    (some-either (InType n) (is (codes "write") k) _ _ (some-mapped (Among 2 (length ws)) (InType n) (λ p. a_write p.0 p.1) (two_names ws) (names-two ws) (λ p few. omega (arith, few)))
    (some-either (InType n) (is (codes "end") k) _ _ (nothing-type n type_end ws (omega arith)) tt))))

pub type_line-names : (format : ℕ) (ws : List Bytes) → IfSome (type_line format ws) (λ l. names_in_type_line l ≤ length ws)
type_line-names format [] = tt
type_line-names format (k ∷ ws) = some-or (InType (length (k ∷ ws))) (tree_line format k ws) (outer_line k ws) (here (tree_line format k ws) (tree-few format k ws)) (here (outer_line k ws) (outer-few k ws))
  where
    here : (o : Option TypeLine) → IfSome o (InType (length ws + 1)) → IfSome o (InType (length (k ∷ ws)))
    here None h = tt
    here (Some l) h = omega (arith, h)

-- ---- declarations
abbrev InDeclaration : ℕ → Declaration → Type 0
InDeclaration n d = names_in_declaration d ≤ n

abbrev Roles : ℕ → List RoleWord → Type 0
Roles n rs = length rs ≤ n

roles-few : (format : ℕ) (ws : List Bytes) → IfSome (roles format ws) (Roles (length ws))
roles-few format [] = omega arith
roles-few format (w ∷ ws) =
    some-bound Any (Roles (length (w ∷ ws))) (role_word format w) _ (any (role_word format w)) (λ r any.
    some-bound (Roles (length ws)) (Roles (length (w ∷ ws))) (roles format ws) _ (roles-few format ws) (λ rs few. omega (arith, few)))

roles_end-few : (format : ℕ) (ws : List Bytes) → IfSome (roles_at_end format ws) (Roles (length ws))
roles_end-few format [] = omega arith
roles_end-few format (k ∷ ws) =
    some-either (Roles (length (k ∷ ws))) (is (codes "roles") k) (some_roles format ws) _
    (some-either (Roles (length (k ∷ ws))) (nat_lt 0 (length ws)) _ _ (weaker (roles format ws) (roles-few format ws)) tt) tt
  where
    weaker : (o : Option (List RoleWord)) → IfSome o (Roles (length ws)) → IfSome o (Roles (length (k ∷ ws)))
    weaker None h = tt
    weaker (Some rs) h = omega (arith, h)

actor-few : (format : ℕ) (ws : List Bytes) → IfSome (actor_line format ws) (InDeclaration (length ws))
actor-few format ws =
    some-bound (Behind 1 (length ws)) (InDeclaration (length ws)) (actor_ahead format ws) _
    (some-either (Behind 1 (length ws)) (format == 3 && begins_reserved ws) _ _ tt (name-ahead ws)) (λ a few.
    some-bound (Roles (length a.1)) (InDeclaration (length ws)) (roles_at_end format a.1) _ (roles_end-few format a.1) (λ rs fewer. omega (arith, few, fewer)))

plain-few : (k : Bytes) (ws : List Bytes) → IfSome (plain_line k ws) (InDeclaration (length ws))
plain-few k ws =
    let n = length ws in
    some-either (InDeclaration n) (is (codes "type") k) _ _ (some-mapped Any (InDeclaration n) a_type (one_name ws) (any (one_name ws)) (λ x any. omega arith))
    (some-either (InDeclaration n) (is (codes "case") k) _ _ (some-mapped (Among 2 n) (InDeclaration n) (λ p. a_case p.0 p.1) (two_names ws) (names-two ws) (λ p few. omega (arith, few)))
    (some-either (InDeclaration n) (is (codes "phase") k) _ _ (none-more ws) tt))
  where
    none-more : (vs : List Bytes) → IfSome (nothing_more first_phase vs) (InDeclaration (length ws))
    none-more [] = omega arith
    none-more (w ∷ vs) = tt

pub declaration-names : (format : ℕ) (ws : List Bytes) → IfSome (declaration_line format ws) (λ d. names_in_declaration d ≤ length ws)
declaration-names format [] = tt
declaration-names format (k ∷ ws) = here (declaration_line format (k ∷ ws)) (some-either (InDeclaration (length ws)) (is (codes "actor") k) _ _ (actor-few format ws) (plain-few k ws))
  where
    here : (o : Option Declaration) → IfSome o (InDeclaration (length ws)) → IfSome o (InDeclaration (length (k ∷ ws)))
    here None h = tt
    here (Some d) h = omega (arith, h)

-- ---- lines of a phase
abbrev InDeed : ℕ → Deed → Type 0
InDeed n d = names_in_deed d ≤ n

abbrev InLine : ℕ → ScriptLine → Type 0
InLine n l = names_in_script_line l ≤ n

pairs-few : (ws : List Bytes) → IfSome (pairs ws) (λ ps. length ps ≤ length ws)
pairs-few [] = omega arith
pairs-few (w ∷ ws) =
    some-bound Any (λ (ps : List (Bytes × Value)). length ps ≤ length (w ∷ ws)) (pair w) _ (any (pair w)) (λ p any.
    some-bound (λ (ps : List (Bytes × Value)). length ps ≤ length ws) (λ (ps : List (Bytes × Value)). length ps ≤ length (w ∷ ws)) (pairs ws) _ (pairs-few ws) (λ ps few. omega (arith, few)))

code_ahead-fewer : (ws : List Bytes) → IfSome (code_ahead ws) (Behind 0 (length ws))
code_ahead-fewer [] = tt
code_ahead-fewer (w ∷ ws) = some-mapped Any (Behind 0 (length (w ∷ ws))) (λ n. (Some n, ws)) (code w) (any (code w)) (λ n any. omega arith)

choice_ahead-fewer : (ws : List Bytes) → IfSome (choice_ahead ws) (Behind 0 (length ws))
choice_ahead-fewer [] = omega arith
choice_ahead-fewer (k ∷ ws) = some-either (Behind 0 (length (k ∷ ws))) (is (codes "choice") k) _ _ (weaker (code_ahead ws) (code_ahead-fewer ws)) (omega arith)
  where
    weaker : (o : Option (Option ℕ × List Bytes)) → IfSome o (Behind 0 (length ws)) → IfSome o (Behind 0 (length (k ∷ ws)))
    weaker None h = tt
    weaker (Some p) h = omega (arith, h)

end_behind-few : (c n : Bytes) (ws : List Bytes) → IfSome (end_behind c n ws) (InDeed (length ws + 1))
end_behind-few c n ws =
    some-bound (Behind 0 (length ws)) (InDeed (length ws + 1)) (choice_ahead ws) _ (choice_ahead-fewer ws) (λ choice few.
    some-bound (λ (ps : List (Bytes × Value)). length ps ≤ length choice.1) (InDeed (length ws + 1)) (pairs choice.1) _ (pairs-few choice.1) (λ writes fewer. omega (arith, few, fewer)))

end-few : (ws : List Bytes) → IfSome (end_deed ws) (InDeed (length ws))
end-few ws = some-bound (BehindTwo 2 (length ws)) (InDeed (length ws)) (two_names_ahead ws) _ (names-two_ahead ws) (λ p few. here (length p.2) few (end_behind p.0 p.1 p.2) (end_behind-few p.0 p.1 p.2))
  where
    here : (n : ℕ) → n + 2 ≤ length ws → (o : Option Deed) → IfSome o (InDeed (n + 1)) → IfSome o (InDeed (length ws))
    here n few None h = tt
    here n few (Some d) h = omega (arith, few, h)

named_deed-few : (k n : Bytes) (m : ℕ) → IfSome (named_deed k n) (InDeed m)
named_deed-few k n m =
    some-either (InDeed m) (is (codes "create") k) _ _ (omega arith)
    (some-either (InDeed m) (is (codes "change") k) _ _ (omega arith)
    (some-either (InDeed m) (is (codes "install") k) _ _ (omega arith)
    (some-either (InDeed m) (is (codes "migrate") k) _ _ (omega arith) tt)))

plain_deed-few : (format : ℕ) (k : Bytes) (ws : List Bytes) → IfSome (plain_deed format k ws) (InDeed (length ws))
plain_deed-few format k ws =
    let n = length ws in
    some-either (InDeed n) (is (codes "start") k) _ _ (some-mapped (Among 2 n) (InDeed n) (λ p. to_start p.0 p.1) (two_names ws) (names-two ws) (λ p few. omega (arith, few)))
    (some-either (InDeed n) (is (codes "withdraw") k && nat_le 2 format) _ _ (some-mapped (Among 2 n) (InDeed n) (λ p. to_withdraw p.0 p.1) (two_names ws) (names-two ws) (λ p few. omega (arith, few)))
    (some-bound Any (InDeed n) (one_name ws) _ (any (one_name ws)) (λ m any. named_deed-few k m n)))

deed-few : (format : ℕ) (ws : List Bytes) → IfSome (deed format ws) (InDeed (length ws))
deed-few format [] = tt
deed-few format (k ∷ ws) = here (deed format (k ∷ ws)) (some-either (InDeed (length ws)) (is (codes "end") k) _ _ (end-few ws) (plain_deed-few format k ws))
  where
    here : (o : Option Deed) → IfSome o (InDeed (length ws)) → IfSome o (InDeed (length (k ∷ ws)))
    here None h = tt
    here (Some d) h = omega (arith, h)

deed_line-few : (format : ℕ) (a : Bytes) (ws : List Bytes) → IfSome (deed_line format a ws) (InLine (length ws))
deed_line-few format a ws = some-bound Any (InLine (length ws)) (name a) _ (any (name a)) (λ actor any. some-bound (InDeed (length ws)) (InLine (length ws)) (deed format ws) _ (deed-few format ws) (λ d few. few))

pub script_line-names : (format : ℕ) (ws : List Bytes) → IfSome (script_line format ws) (λ l. names_in_script_line l ≤ length ws)
script_line-names format [] = tt
script_line-names format (k ∷ ws) = some-either (InLine (length (k ∷ ws))) (is (codes "phase") k && length ws == 0) _ _ (omega arith) (here (deed_line format k ws) (deed_line-few format k ws))
  where
    here : (o : Option ScriptLine) → IfSome o (InLine (length ws)) → IfSome o (InLine (length (k ∷ ws)))
    here None h = tt
    here (Some l) h = omega (arith, h)

-- ---- lines of a group
abbrev InOperation : ℕ → OperationLine → Type 0
InOperation n l = names_in_operation l ≤ n

name-code : (ws : List Bytes) → IfSome (name_and_code ws) (Among 2 (length ws))
name-code ws = name-first ws 1 (λ vs. only vs >>= code) (λ a c. Some (a, c)) (λ vs. only-then vs code)

gap-few : (ws : List Bytes) → IfSome (place ws) (Among 2 (length ws))
gap-few [] = tt
gap-few (k ∷ ws) =
    let n = length (k ∷ ws) in
    some-either (Among 2 n) (is (codes "after") k) _ _ (some-mapped (Among 1 (length ws)) (Among 2 n) behind (one_name ws) (name-one ws) (λ x few. omega (arith, few)))
    (some-either (Among 2 n) (is (codes "head") k) _ _ (some-mapped (Among 2 (length ws)) (Among 2 n) (λ p. at_head p.0 p.1) (name_and_code ws) (name-code ws) (λ p few. omega (arith, few))) tt)

role-ahead : (format : ℕ) (ws : List Bytes) → IfSome (role_ahead format ws) (Behind 0 (length ws))
role-ahead format [] = omega arith
role-ahead format (k ∷ ws) = some-either (Behind 0 (length (k ∷ ws))) (is (codes "role") k) _ _ (word-ahead ws) (omega arith)
  where
    word-ahead : (vs : List Bytes) → IfSome (role_word_ahead format vs) (Behind 0 (length (k ∷ vs)))
    word-ahead [] = tt
    word-ahead (r ∷ vs) = some-mapped Any (Behind 0 (length (k ∷ r ∷ vs))) (λ n. (n, vs)) (role_word format r) (any (role_word format r)) (λ n any. omega arith)

abbrev BehindNode : ℕ → ℕ → Bytes × RoleWord × List Bytes → Type 0
BehindNode k n p = length p.2 + k ≤ n

node-ahead : (format : ℕ) (ws : List Bytes) → IfSome (new_node format ws) (BehindNode 1 (length ws))
node-ahead format ws =
    some-bound (Behind 1 (length ws)) (BehindNode 1 (length ws)) (name_ahead ws) _ (name-ahead ws) (λ a few.
    some-bound (Behind 0 (length a.1)) (BehindNode 1 (length ws)) (role_ahead format a.1) _ (role-ahead format a.1) (λ r fewer. omega (arith, few, fewer)))

block-ahead : (ws : List Bytes) → IfSome (with_block ws) (BehindTwo 3 (length ws))
block-ahead [] = tt
block-ahead (k ∷ ws) = some-either (BehindTwo 3 (length (k ∷ ws))) (is (codes "with") k) _ _ (here (two_names_ahead ws) (names-two_ahead ws)) tt
  where
    here : (o : Option (Bytes × Bytes × List Bytes)) → IfSome o (BehindTwo 2 (length ws)) → IfSome o (BehindTwo 3 (length (k ∷ ws)))
    here None h = tt
    here (Some p) h = omega (arith, h)

items-few : (ws : List Bytes) → IfSome (around_items ws) (Among 2 (length ws))
items-few [] = tt
items-few (k ∷ ws) = some-either (Among 2 (length (k ∷ ws))) (is (codes "around") k) _ _ (more 1 (length ws) 2 (length (k ∷ ws)) (first_and_last ws) two (λ few. omega (arith, few))) tt
  where
    two : IfSome (first_and_last ws) (Among 1 (length ws))
    two =
        some-bound (Behind 1 (length ws)) (Among 1 (length ws)) (name_ahead ws) _ (name-ahead ws) (λ a few.
        some-bound Any (Among 1 (length ws)) (last_item a.0 a.1) _ (any (last_item a.0 a.1)) (λ b any. omega (arith, few)))

insert-few : (format : ℕ) (ws : List Bytes) → IfSome (insert_line format ws) (InOperation (length ws))
insert-few format ws =
    some-bound (BehindNode 1 (length ws)) (InOperation (length ws)) (new_node format ws) _ (node-ahead format ws) (λ n few.
    some-bound (Among 2 (length n.2)) (InOperation (length ws)) (place n.2) _ (gap-few n.2) (λ p fewer. omega (arith, few, fewer)))

parallel-few : (format : ℕ) (ws : List Bytes) → IfSome (parallel_line format ws) (InOperation (length ws))
parallel-few format ws =
    some-bound (BehindNode 1 (length ws)) (InOperation (length ws)) (new_node format ws) _ (node-ahead format ws) (λ n few.
    some-bound (BehindTwo 3 (length n.2)) (InOperation (length ws)) (with_block n.2) _ (block-ahead n.2) (λ b fewer.
    some-bound (Among 2 (length b.2)) (InOperation (length ws)) (around_items b.2) _ (items-few b.2) (λ i left. omega (arith, few, fewer, left))))

conditional-few : (format : ℕ) (ws : List Bytes) → IfSome (conditional_line format ws) (InOperation (length ws))
conditional-few format ws =
    some-bound (BehindNode 1 (length ws)) (InOperation (length ws)) (new_node format ws) _ (node-ahead format ws) (λ n few.
    some-bound (BehindTwo 3 (length n.2)) (InOperation (length ws)) (with_block n.2) _ (block-ahead n.2) (λ b fewer.
    some-bound (Among 2 (length b.2)) (InOperation (length ws)) (place b.2) _ (gap-few b.2) (λ p left. omega (arith, few, fewer, left))))

move-few : (ws : List Bytes) → IfSome (move_line ws) (InOperation (length ws))
move-few ws =
    some-bound (Behind 1 (length ws)) (InOperation (length ws)) (name_ahead ws) _ (name-ahead ws) (λ a few.
    some-bound (Among 2 (length a.1)) (InOperation (length ws)) (place a.1) _ (gap-few a.1) (λ p fewer. omega (arith, few, fewer)))

role-few : (format : ℕ) (ws : List Bytes) → IfSome (role_line format ws) (InOperation (length ws))
role-few format ws =
    some-bound (Behind 1 (length ws)) (InOperation (length ws)) (name_ahead ws) _ (name-ahead ws) (λ a few.
    some-bound (Among 1 (length a.1)) (InOperation (length ws)) (only a.1 >>= role_word format) _ (only-then a.1 (role_word format)) (λ r one. omega (arith, few, one)))

nothing-group : (n : ℕ) (ws : List Bytes) → IfSome (nothing_more group_end ws) (InOperation n)
nothing-group n [] = omega arith
nothing-group n (w ∷ ws) = tt

tree_operation-few : (format : ℕ) (k : Bytes) (ws : List Bytes) → IfSome (tree_operation format k ws) (InOperation (length ws))
tree_operation-few format k ws =
    let n = length ws in
    some-either (InOperation n) (is (codes "insert") k) _ _ (insert-few format ws)
    (some-either (InOperation n) (is (codes "parallel") k) _ _ (parallel-few format ws)
    (some-either (InOperation n) (is (codes "conditional") k) _ _ (conditional-few format ws)
    (some-either (InOperation n) (is (codes "delete") k) _ _ (some-mapped (Among 1 n) (InOperation n) delete (one_name ws) (name-one ws) (λ x few. omega (arith, few)))
    (some-either (InOperation n) (is (codes "move") k) _ _ (move-few ws)
    (some-either (InOperation n) (is (codes "end") k) _ _ (nothing-group n ws) tt)))))

edge-few : (k : Bytes) (ws : List Bytes) → IfSome (edge_line k ws) (InOperation (length ws))
edge-few k ws = some-bound (Among 2 (length ws)) (InOperation (length ws)) (two_names ws) _ (names-two ws) (λ p two. one-of p two)
  where
    one-of : (p : Bytes × Bytes) → 2 ≤ length ws → IfSome (edge_operation k p) (InOperation (length ws))
    one-of p two =
        let n = length ws in
        some-either (InOperation n) (is (codes "sync") k) _ _ (omega (arith, two))
        (some-either (InOperation n) (is (codes "unsync") k) _ _ (omega (arith, two))
        (some-either (InOperation n) (is (codes "unread") k) _ _ (omega (arith, two))
        (some-either (InOperation n) (is (codes "write") k) _ _ (omega (arith, two))
        (some-either (InOperation n) (is (codes "unwrite") k) _ _ (omega (arith, two)) tt))))

row-few : (format : ℕ) (k : Bytes) (ws : List Bytes) → IfSome (row_line format k ws) (InOperation (length ws))
row-few format k ws =
    let n = length ws in
    some-either (InOperation n) (is (codes "element") k) _ _ (some-mapped (Among 2 n) (InOperation n) (λ p. element p.0 p.1) (element_and_kind ws) (element-kind ws) (λ p few. omega (arith, few)))
    (some-either (InOperation n) (is (codes "read") k) _ _ (some-mapped (Among 2 n) (InOperation n) (λ p. read p.0 p.1 p.2) (read_edge ws) (edge-read ws) (λ p few. omega (arith, few)))
    (some-either (InOperation n) (is (codes "role") k) _ _ (role-few format ws) tt))

pub operation-names : (format : ℕ) (ws : List Bytes) → IfSome (operation_line format ws) (λ l. names_in_operation l ≤ length ws)
operation-names format [] = tt
operation-names format (k ∷ ws) =
    here (operation_line format (k ∷ ws))
    (some-or (InOperation (length ws)) (tree_operation format k ws) _ (tree_operation-few format k ws)
    (some-or (InOperation (length ws)) (edge_line k ws) (row_line format k ws) (edge-few k ws) (row-few format k ws)))
  where
    here : (o : Option OperationLine) → IfSome o (InOperation (length ws)) → IfSome o (InOperation (length (k ∷ ws)))
    here None h = tt
    here (Some l) h = omega (arith, h)
