-- What the words of a line tell of its form.
use Rattle.unit_files.proofs.Common.{[], ℕ, ◌&&◌, ◌==◌, ◌||◌, ◌∙◌, ◌∷◌, ◌≡◌, a_case, a_deed, a_read, a_sync, a_type, a_write, activity, actor_ahead, actor_line, an_actor, an_element, ap, around_items, begins_reserved, begins_with_change}
use Rattle.unit_files.proofs.Common.{Bool, Bytes, choice_ahead, closes_block, codes, conditional_line, Declaration, declaration_line, Deed, deed, delete, edge_line, edge_operation, element, end_deed, false, first_phase, group_end, IfSome}
use Rattle.unit_files.proofs.Common.{if◌then◌else◌, insert_line, is, is_comment, is_end, is_reserved, is_skipped, Keyword, keyword, length, List, map, move_line, named_deed, nat_le, new_node, next_phase, opens, opens_and, opens_branch}
use Rattle.unit_files.proofs.Common.{opens_loop, opens_xor, operation_line, OperationLine, Option, outer_line, pairs, parallel_line, place, read, refl, role_line, roles_at_end, row_line, script_line, ScriptLine, sym, to_change, to_create}
use Rattle.unit_files.proofs.Common.{to_end, to_install, to_migrate, to_start, to_withdraw, tree_line, tree_operation, true, type_end, type_line, TypeLine, unit_opens, with_block}
use Rattle.std.proofs.lemmas.Slice.Eq.{bytes_eq-Decides}
use Rattle.file_words.specs.{Names.name, Numbers.code}
use Rattle.file_forms.specs.PieceForms.{◌>>=◌, element_and_kind, name_ahead, name_and_role, nothing_more, one_name, only, read_edge, role_word, two_names, two_names_ahead, two_names_and_role}
use Rattle.file_forms.proofs.Options.{some-any, some-bound, some-mapped, some-or}
use Rattle.talk_items.specs.Items as items
use Rattle.talk_items.specs.declared.keywords.Keyword.TheVariants as keywords

abbrev Any : {A : Type 0} → A → Type 0
Any x = Unit {0}

any : {A : Type 0} (o : Option A) → IfSome o Any
any o = some-any Any o (λ x. tt)

-- whatever a step gives
then-any : {A B : Type 0} (P : B → Type 0) (o : Option A) (go : A → Option B) → ((x : A) → IfSome (go x) P) → IfSome (o >>= go) P
then-any P o go h = some-bound Any P o go (any o) (λ x y. h x)

-- a word that is this one, or another
keyed : {A : Type 0} (P : A → Type 0) (k w : Bytes) (x y : Option A) → (w ≡ k → IfSome x P) → (is k w ≡ false → IfSome y P) → IfSome (if is k w then x else y) P
keyed P k w x y h other = by (is k w) refl
  where
    by : (test : Bool) → is k w ≡ test → IfSome (if test then x else y) P
    by true e = h ((bytes_eq-Decides w k).0 e)
    by false e = other e

-- what is told by a word
at-word : (F : Keyword → Bool) (k w : Bytes) → w ≡ k → F (keyword k) ≡ F (keyword w)
at-word F k w is = sym (ap (λ v. F (keyword v)) is)

-- ---- a line is skipped by its words as by its keywords
unless-comment : (test : Bool) (x y : Keyword) (ks : List Keyword) → items.is_skipped (x ∷ ks) ≡ false → items.is_skipped (y ∷ ks) ≡ false → items.is_skipped ((if test then x else y) ∷ ks) ≡ false
unless-comment true x y ks h other = h
unless-comment false x y ks h other = other

word-skipped : (w : Bytes) (ks : List Keyword) → items.is_skipped (keyword w ∷ ks) ≡ is_comment w
word-skipped w ks = by (is_comment w)
  where
    by : (test : Bool)
        → items.is_skipped ((if test then keywords.Comment
        else (if is (codes "?") w then keywords.Question
        else (if is (codes "if") w then keywords.If
        else (if is (codes "move") w then keywords.Move
        else (if is (codes "type") w then keywords.«Type»
        else (if is (codes "actor") w || is (codes "case") w || is (codes "phase") w then keywords.Declaration
        else (if is (codes "change") w || is (codes "install") w then keywords.Change
        else (if is (codes "end") w then keywords.End
        else (if is (codes "adept") w then keywords.Adept
        else (if is (codes "1") w || is (codes "2") w || is (codes "3") w then keywords.Format
        else keywords.Other)))))))))) ∷ ks) ≡ test
    by true = refl
    by false =
        unless-comment (is (codes "?") w) keywords.Question _ ks refl
        (unless-comment (is (codes "if") w) keywords.If _ ks refl
        (unless-comment (is (codes "move") w) keywords.Move _ ks refl
        (unless-comment (is (codes "type") w) keywords.«Type» _ ks refl
        (unless-comment (is (codes "actor") w || is (codes "case") w || is (codes "phase") w) keywords.Declaration _ ks refl
        (unless-comment (is (codes "change") w || is (codes "install") w) keywords.Change _ ks refl
        (unless-comment (is (codes "end") w) keywords.End _ ks refl
        (unless-comment (is (codes "adept") w) keywords.Adept _ ks refl
        (unless-comment (is (codes "1") w || is (codes "2") w || is (codes "3") w) keywords.Format keywords.Other ks refl refl))))))))

pub skipped-same : (ws : List Bytes) → items.is_skipped (map keyword ws) ≡ is_skipped ws
skipped-same [] = refl
skipped-same (w ∷ ws) = word-skipped w (map keyword ws)

-- ---- declarations
abbrev pub opens_declaration : Declaration → Bool
opens_declaration (a_type n) = true
opens_declaration (an_actor n roles) = false
opens_declaration (a_case n kind) = false
opens_declaration first_phase = false

abbrev DeclarationTells : Bool → Declaration → Type 0
DeclarationTells b d = opens_declaration d ≡ b

none-more : {A : Type 0} (P : A → Type 0) (x : A) (ws : List Bytes) → (ws ≡ [] → P x) → IfSome (nothing_more x ws) P
none-more P x [] h = h refl
none-more P x (w ∷ ws) h = tt

pub declaration-tells : (format : ℕ) (ws : List Bytes) → IfSome (declaration_line format ws) (λ d. opens_declaration d ≡ opens (map keyword ws))
declaration-tells format [] = tt
declaration-tells format (k ∷ ws) =
    let F = λ (w : Keyword). opens (w ∷ map keyword ws) in
    let P = DeclarationTells (opens (map keyword (k ∷ ws))) in
    keyed P (codes "actor") k _ _ (λ is. actor (at-word F (codes "actor") k is)) (λ other.
    keyed P (codes "type") k _ _ (λ is. some-mapped Any P a_type (one_name ws) (any (one_name ws)) (λ x any. at-word F (codes "type") k is)) (λ other.
    keyed P (codes "case") k _ _ (λ is. some-mapped Any P (λ p. a_case p.0 p.1) (two_names ws) (any (two_names ws)) (λ x any. at-word F (codes "case") k is)) (λ other.
    keyed P (codes "phase") k _ _ (λ is. none-more P first_phase ws (λ none. at-word F (codes "phase") k is)) (λ other. tt))))
  where
    actor : false ≡ opens (map keyword (k ∷ ws)) → IfSome (actor_line format ws) (DeclarationTells (opens (map keyword (k ∷ ws))))
    actor h =
        let P = DeclarationTells (opens (map keyword (k ∷ ws))) in
        then-any P (actor_ahead format ws) _ (λ a. then-any P (roles_at_end format a.1) _ (λ rs. h))

-- ---- lines of an actor
abbrev pub opens_deed : Deed → Bool
opens_deed (to_create n) = false
opens_deed (to_start n node) = false
opens_deed (to_withdraw n node) = false
opens_deed (to_end n node choice writes) = false
opens_deed (to_change n) = true
opens_deed (to_install n) = true
opens_deed (to_migrate n) = false

abbrev pub opens_script : ScriptLine → Bool
opens_script next_phase = false
opens_script (a_deed actor d) = opens_deed d

abbrev DeedTells : Bool → Deed → Type 0
DeedTells b d = opens_deed d ≡ b

named-tells : (k n : Bytes) (ks : List Keyword) → IfSome (named_deed k n) (DeedTells (begins_with_change (keyword k ∷ ks)))
named-tells k n ks =
    let F = λ (w : Keyword). begins_with_change (w ∷ ks) in
    let P = DeedTells (begins_with_change (keyword k ∷ ks)) in
    keyed P (codes "create") k _ _ (λ is. at-word F (codes "create") k is) (λ other.
    keyed P (codes "change") k _ _ (λ is. at-word F (codes "change") k is) (λ other.
    keyed P (codes "install") k _ _ (λ is. at-word F (codes "install") k is) (λ other.
    keyed P (codes "migrate") k _ _ (λ is. at-word F (codes "migrate") k is) (λ other. tt))))

-- a word that is one and passes another test besides
keyed-and : {A : Type 0} (P : A → Type 0) (k w : Bytes) (more : Bool) (x y : Option A) → (w ≡ k → IfSome x P) → IfSome y P → IfSome (if is k w && more then x else y) P
keyed-and P k w more x y h other = by (is k w) more refl
  where
    by : (test : Bool) (m : Bool) → is k w ≡ test → IfSome (if test && m then x else y) P
    by true true e = h ((bytes_eq-Decides w k).0 e)
    by true false e = other
    by false m e = other

deed-tells : (format : ℕ) (ws : List Bytes) → IfSome (deed format ws) (DeedTells (begins_with_change (map keyword ws)))
deed-tells format [] = tt
deed-tells format (k ∷ ws) =
    let ks = map keyword ws in
    let F = λ (w : Keyword). begins_with_change (w ∷ ks) in
    let P = DeedTells (begins_with_change (keyword k ∷ ks)) in
    keyed P (codes "end") k _ _ (λ is. ended (at-word F (codes "end") k is)) (λ other.
    keyed P (codes "start") k _ _ (λ is. some-mapped Any P (λ p. to_start p.0 p.1) (two_names ws) (any (two_names ws)) (λ p any. at-word F (codes "start") k is)) (λ other.
    keyed-and P (codes "withdraw") k (nat_le 2 format) _ _ (λ is. some-mapped Any P (λ p. to_withdraw p.0 p.1) (two_names ws) (any (two_names ws)) (λ p any. at-word F (codes "withdraw") k is))
    (some-bound Any P (one_name ws) _ (any (one_name ws)) (λ n any. named-tells k n ks))))
  where
    ended : false ≡ begins_with_change (keyword k ∷ map keyword ws) → IfSome (end_deed ws) (DeedTells (begins_with_change (keyword k ∷ map keyword ws)))
    ended h =
        let P = DeedTells (begins_with_change (keyword k ∷ map keyword ws)) in
        then-any P (two_names_ahead ws) _ (λ p. then-any P (choice_ahead p.2) _ (λ choice. then-any P (pairs choice.1) _ (λ writes. h)))

-- a first word that is a name and no declaration's leaves it to the second
or-false : (a b : Bool) → a || b ≡ false → (a ≡ false) × (b ≡ false)
or-false true b h = absurd (cc)
or-false false b h = (refl, h)

chosen : (test : Bool) (x y : Keyword) (ks : List Keyword) → unit_opens (x ∷ ks) ≡ begins_with_change ks → unit_opens (y ∷ ks) ≡ begins_with_change ks → unit_opens ((if test then x else y) ∷ ks) ≡ begins_with_change ks
chosen true x y ks h other = h
chosen false x y ks h other = other

picked : (F : Keyword → Bool) (test : Bool) (x y : Keyword) (b : Bool) → test ≡ false → F y ≡ b → F (if test then x else y) ≡ b
picked F true x y b none h = absurd (cc)
picked F false x y b none h = h

passed : (F : Keyword → Bool) (test : Bool) (x y : Keyword) (b : Bool) → F x ≡ b → F y ≡ b → F (if test then x else y) ≡ b
passed F true x y b h other = h
passed F false x y b h other = other

second-tells : (w : Bytes) (ks : List Keyword) → is_comment w ≡ false → is (codes "?") w ≡ false → is_reserved w ≡ false → opens (keyword w ∷ ks) ≡ begins_with_change ks
second-tells w ks said no_question not_reserved =
    let F = λ (k : Keyword). opens (k ∷ ks) in
    let b = begins_with_change ks in
    let r0 = or-false _ (is (codes "phase") w) not_reserved in
    let r1 = or-false _ (is (codes "case") w) r0.0 in
    let r2 = or-false (is (codes "type") w) (is (codes "actor") w) r1.0 in
    let declares : (is (codes "actor") w || is (codes "case") w || is (codes "phase") w) ≡ false = rw (r2.1, r1.1, r0.1) refl in
    picked F (is_comment w) keywords.Comment _ b said
    (picked F (is (codes "?") w) keywords.Question _ b no_question
    (passed F (is (codes "if") w) keywords.If _ b refl
    (passed F (is (codes "move") w) keywords.Move _ b refl
    (picked F (is (codes "type") w) keywords.«Type» _ b r2.0
    (picked F (is (codes "actor") w || is (codes "case") w || is (codes "phase") w) keywords.Declaration _ b declares
    (passed F (is (codes "change") w || is (codes "install") w) keywords.Change _ b refl
    (passed F (is (codes "end") w) keywords.End _ b refl
    (passed F (is (codes "adept") w) keywords.Adept _ b refl
    (passed F (is (codes "1") w || is (codes "2") w || is (codes "3") w) keywords.Format keywords.Other b refl refl)))))))))

-- a name is not `?`
name-other : (w : Bytes) → IfSome (name w) (λ n. is (codes "?") w ≡ false)
name-other w = by (is (codes "?") w) refl
  where
    question : (b : Bool) → IfSome (name (codes "?")) (λ n. b ≡ false)
    question b = tt

    by : (test : Bool) → is (codes "?") w ≡ test → IfSome (name w) (λ n. test ≡ false)
    by true e = let same : w ≡ codes "?" = (bytes_eq-Decides w (codes "?")).0 e in rw same (question true)
    by false e = some-any (λ n. false ≡ false) (name w) (λ n. refl)

abbrev ScriptTells : Bool → ScriptLine → Type 0
ScriptTells b l = opens_script l ≡ b

pub script-tells : (format : ℕ) (ws : List Bytes) → is_skipped ws ≡ false → begins_reserved ws ≡ false → IfSome (script_line format ws) (λ l. opens_script l ≡ opens (map keyword ws))
script-tells format [] said free = tt
script-tells format (k ∷ ws) said free =
    let ks = map keyword ws in
    let F = λ (w : Keyword). opens (w ∷ ks) in
    let P = ScriptTells (opens (keyword k ∷ ks)) in
    keyed-and P (codes "phase") k (length ws == 0) _ _ (λ is. at-word F (codes "phase") k is)
    (some-bound (λ n. is (codes "?") k ≡ false) P (name k) _ (name-other k) (λ a other.
    some-bound (DeedTells (begins_with_change ks)) P (deed format ws) _ (deed-tells format ws) (λ d tells. tells ∙ sym (second-tells k ks said other free))))

-- ---- lines of a type
abbrev pub closes_type : TypeLine → Bool
closes_type type_end = true
closes_type _ = false

abbrev TypeTells : Bool → TypeLine → Type 0
TypeTells b l = closes_type l ≡ b

tree-tells : (format : ℕ) (k : Bytes) (ws : List Bytes) → IfSome (tree_line format k ws) (TypeTells (is_end (keyword k ∷ map keyword ws)))
tree-tells format k ws =
    let F = λ (w : Keyword). is_end (w ∷ map keyword ws) in
    let P = TypeTells (is_end (keyword k ∷ map keyword ws)) in
    keyed P (codes "act") k _ _ (λ is. some-mapped Any P (λ p. activity p.0 p.1) (name_and_role format ws) (any (name_and_role format ws)) (λ p x. at-word F (codes "act") k is)) (λ other.
    keyed P (codes "and") k _ _ (λ is. some-mapped Any P (λ p. opens_and p.0 p.1) (two_names ws) (any (two_names ws)) (λ p x. at-word F (codes "and") k is)) (λ other.
    keyed P (codes "xor") k _ _ (λ is. some-mapped Any P (λ p. opens_xor p.0 p.1 p.2) (two_names_and_role format ws) (any (two_names_and_role format ws)) (λ p x. at-word F (codes "xor") k is)) (λ other.
    keyed P (codes "loop") k _ _ (λ is. some-mapped Any P (λ p. opens_loop p.0 p.1 p.2) (two_names_and_role format ws) (any (two_names_and_role format ws)) (λ p x. at-word F (codes "loop") k is)) (λ other.
    keyed P (codes "branch") k _ _ (λ is. some-mapped Any P opens_branch (only ws >>= code) (any (only ws >>= code)) (λ p x. at-word F (codes "branch") k is)) (λ other.
    keyed P (codes "done") k _ _ (λ is. none-more P closes_block ws (λ none. at-word F (codes "done") k is)) (λ other. tt))))))

end-word : (k : Bytes) (ws : List Bytes) → k ≡ codes "end" → ws ≡ [] → true ≡ is_end (keyword k ∷ map keyword ws)
end-word k ws is none = sym (ap (λ vs. is_end (keyword k ∷ map keyword vs)) none ∙ ap (λ v. is_end (keyword v ∷ [])) is)

outer-tells : (k : Bytes) (ws : List Bytes) → IfSome (outer_line k ws) (TypeTells (is_end (keyword k ∷ map keyword ws)))
outer-tells k ws =
    let F = λ (w : Keyword). is_end (w ∷ map keyword ws) in
    let P = TypeTells (is_end (keyword k ∷ map keyword ws)) in
    keyed P (codes "sync") k _ _ (λ is. some-mapped Any P (λ p. a_sync p.0 p.1) (two_names ws) (any (two_names ws)) (λ p x. at-word F (codes "sync") k is)) (λ other.
    keyed P (codes "element") k _ _ (λ is. some-mapped Any P (λ p. an_element p.0 p.1) (element_and_kind ws) (any (element_and_kind ws)) (λ p x. at-word F (codes "element") k is)) (λ other.
    keyed P (codes "read") k _ _ (λ is. some-mapped Any P (λ p. a_read p.0 p.1 p.2) (read_edge ws) (any (read_edge ws)) (λ p x. at-word F (codes "read") k is)) (λ other.
    keyed P (codes "write") k _ _ (λ is. some-mapped Any P (λ p. a_write p.0 p.1) (two_names ws) (any (two_names ws)) (λ p x. at-word F (codes "write") k is)) (λ other.
    keyed P (codes "end") k _ _ (λ is. none-more P type_end ws (λ none. end-word k ws is none)) (λ other. tt)))))

pub type-tells : (format : ℕ) (ws : List Bytes) → IfSome (type_line format ws) (λ l. closes_type l ≡ is_end (map keyword ws))
type-tells format [] = tt
type-tells format (k ∷ ws) = some-or (TypeTells (is_end (keyword k ∷ map keyword ws))) (tree_line format k ws) (outer_line k ws) (tree-tells format k ws) (outer-tells k ws)

-- ---- lines of a group
abbrev pub closes_group : OperationLine → Bool
closes_group group_end = true
closes_group _ = false

abbrev GroupTells : Bool → OperationLine → Type 0
GroupTells b l = closes_group l ≡ b

insert-tells : (format : ℕ) (ws : List Bytes) (b : Bool) → false ≡ b → IfSome (insert_line format ws) (GroupTells b)
insert-tells format ws b h = then-any (GroupTells b) (new_node format ws) _ (λ n. then-any (GroupTells b) (place n.2) _ (λ p. h))

parallel-tells : (format : ℕ) (ws : List Bytes) (b : Bool) → false ≡ b → IfSome (parallel_line format ws) (GroupTells b)
parallel-tells format ws b h =
    then-any (GroupTells b) (new_node format ws) _ (λ n. then-any (GroupTells b) (with_block n.2) _ (λ p. then-any (GroupTells b) (around_items p.2) _ (λ i. h)))

conditional-tells : (format : ℕ) (ws : List Bytes) (b : Bool) → false ≡ b → IfSome (conditional_line format ws) (GroupTells b)
conditional-tells format ws b h =
    then-any (GroupTells b) (new_node format ws) _ (λ n. then-any (GroupTells b) (with_block n.2) _ (λ p. then-any (GroupTells b) (place p.2) _ (λ i. h)))

move-tells : (ws : List Bytes) (b : Bool) → false ≡ b → IfSome (move_line ws) (GroupTells b)
move-tells ws b h = then-any (GroupTells b) (name_ahead ws) _ (λ a. then-any (GroupTells b) (place a.1) _ (λ p. h))

role-tells : (format : ℕ) (ws : List Bytes) (b : Bool) → false ≡ b → IfSome (role_line format ws) (GroupTells b)
role-tells format ws b h = then-any (GroupTells b) (name_ahead ws) _ (λ a. then-any (GroupTells b) (only a.1 >>= role_word format) _ (λ r. h))

operations-tell : (format : ℕ) (k : Bytes) (ws : List Bytes) → IfSome (tree_operation format k ws) (GroupTells (is_end (keyword k ∷ map keyword ws)))
operations-tell format k ws =
    let F = λ (w : Keyword). is_end (w ∷ map keyword ws) in
    let b = is_end (keyword k ∷ map keyword ws) in
    let P = GroupTells b in
    keyed P (codes "insert") k _ _ (λ is. insert-tells format ws b (at-word F (codes "insert") k is)) (λ other.
    keyed P (codes "parallel") k _ _ (λ is. parallel-tells format ws b (at-word F (codes "parallel") k is)) (λ other.
    keyed P (codes "conditional") k _ _ (λ is. conditional-tells format ws b (at-word F (codes "conditional") k is)) (λ other.
    keyed P (codes "delete") k _ _ (λ is. some-mapped Any P delete (one_name ws) (any (one_name ws)) (λ p x. at-word F (codes "delete") k is)) (λ other.
    keyed P (codes "move") k _ _ (λ is. move-tells ws b (at-word F (codes "move") k is)) (λ other.
    keyed P (codes "end") k _ _ (λ is. none-more P group_end ws (λ none. end-word k ws is none)) (λ other. tt))))))

edges-tell : (k : Bytes) (ws : List Bytes) → IfSome (edge_line k ws) (GroupTells (is_end (keyword k ∷ map keyword ws)))
edges-tell k ws = then-any (GroupTells (is_end (keyword k ∷ map keyword ws))) (two_names ws) _ (λ p. edge p)
  where
    edge : (p : Bytes × Bytes) → IfSome (edge_operation k p) (GroupTells (is_end (keyword k ∷ map keyword ws)))
    edge p =
        let F = λ (w : Keyword). is_end (w ∷ map keyword ws) in
        let P = GroupTells (is_end (keyword k ∷ map keyword ws)) in
        keyed P (codes "sync") k _ _ (λ is. at-word F (codes "sync") k is) (λ other.
        keyed P (codes "unsync") k _ _ (λ is. at-word F (codes "unsync") k is) (λ other.
        keyed P (codes "unread") k _ _ (λ is. at-word F (codes "unread") k is) (λ other.
        keyed P (codes "write") k _ _ (λ is. at-word F (codes "write") k is) (λ other.
        keyed P (codes "unwrite") k _ _ (λ is. at-word F (codes "unwrite") k is) (λ other. tt)))))

rows-tell : (format : ℕ) (k : Bytes) (ws : List Bytes) → IfSome (row_line format k ws) (GroupTells (is_end (keyword k ∷ map keyword ws)))
rows-tell format k ws =
    let F = λ (w : Keyword). is_end (w ∷ map keyword ws) in
    let b = is_end (keyword k ∷ map keyword ws) in
    let P = GroupTells b in
    keyed P (codes "element") k _ _ (λ is. some-mapped Any P (λ p. element p.0 p.1) (element_and_kind ws) (any (element_and_kind ws)) (λ p x. at-word F (codes "element") k is)) (λ other.
    keyed P (codes "read") k _ _ (λ is. some-mapped Any P (λ p. read p.0 p.1 p.2) (read_edge ws) (any (read_edge ws)) (λ p x. at-word F (codes "read") k is)) (λ other.
    keyed P (codes "role") k _ _ (λ is. role-tells format ws b (at-word F (codes "role") k is)) (λ other. tt)))

pub group-tells : (format : ℕ) (ws : List Bytes) → IfSome (operation_line format ws) (λ l. closes_group l ≡ is_end (map keyword ws))
group-tells format [] = tt
group-tells format (k ∷ ws) =
    let P = GroupTells (is_end (keyword k ∷ map keyword ws)) in
    some-or P (tree_operation format k ws) _ (operations-tell format k ws) (some-or P (edge_line k ws) (row_line format k ws) (edges-tell k ws) (rows-tell format k ws))
