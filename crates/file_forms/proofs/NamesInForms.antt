-- What holds of the words of a line holds of the names and the writes in its form.
use Rattle.std.proofs.Common.{◌≤◌, ℕ, List, [], ◌∷◌, length, ◌==◌, ◌&&◌, Option, None, Some, arith}
use Rattle.std.specs.Prelude.{IfSome, nat_le, nat_lt, codes}
use Rattle.wsm_lists.specs.{Rows.AllRows, declared.values.Value.Value}
use Rattle.file_words.specs.{Lines.Bytes, Names.name, Numbers.{code, role}, Pairs.pair, Words.is}
use Rattle.file_forms.specs.{DeclarationForms.{actor_ahead, actor_line, begins_reserved, declaration_line, plain_line, roles, roles_at_end, some_roles}, Forms.{RoleWord, by_number, by_name, Declaration, a_type, an_actor, a_case}}
use Rattle.file_forms.specs.Forms.{first_phase, TypeLine, activity, opens_and, opens_xor, opens_branch, opens_loop, closes_block, a_sync, an_element, a_read, a_write, type_end, Deed, to_create, to_start, to_withdraw, to_end, to_change}
use Rattle.file_forms.specs.Forms.{to_install, to_migrate, ScriptLine, next_phase, a_deed, NamedGap, behind, at_head, OperationLine, insert, parallel, conditional, delete, move, sync, unsync, element, read, unread, write, unwrite, set_role}
use Rattle.file_forms.specs.{Forms.group_end, NamesInForms.{RoleHas, DeclarationHas, TypeLineHas, DeedHas, ScriptLineHas, GapHas, OperationHas}, OperationForms.{around_items, conditional_line, edge_line, edge_operation, first_and_last}}
use Rattle.file_forms.specs.{OperationForms.{insert_line, last_item, move_line, name_and_code, new_node, operation_line, parallel_line, place, role_ahead, role_line, role_word_ahead, row_line, tree_operation, with_block}, PieceForms.◌>>=◌}
use Rattle.file_forms.specs.PieceForms.{element_and_kind, element_kind, element_read, is_mandatory, low_or_name, name_ahead, name_and_role, nothing_more, one_name, only, read_edge, role_at_end, role_word, two_names, two_names_ahead}
use Rattle.file_forms.specs.{PieceForms.two_names_and_role, ScriptForms.{choice_ahead, code_ahead, deed, deed_line, end_behind, end_deed, named_deed, pairs, plain_deed, script_line}, TypeForms.{outer_line, tree_line, type_line}}
use Rattle.file_forms.proofs.Options.{some-any, some-bound, some-either, some-mapped, some-or}

-- ---- what a word may be
abbrev pub WordHas : (Bytes → Type 0) → (Bytes × Value → Type 0) → Bytes → Type 0
WordHas P W w = IfSome (name w) P × IfSome (pair w) W

abbrev Any : {A : Type 0} → A → Type 0
Any x = Unit {0}

any : {A : Type 0} (o : Option A) → IfSome o Any
any o = some-any Any o (λ x. tt)

none-more : {A : Type 0} (P : A → Type 0) (x : A) (ws : List Bytes) → P x → IfSome (nothing_more x ws) P
none-more P x [] h = h
none-more P x (w ∷ ws) h = tt

module _ (P : Bytes → Type 0) (W : Bytes × Value → Type 0) where
  -- ---- pieces, with the words behind them
  abbrev Words : List Bytes → Type 0
  Words ws = AllRows (WordHas P W) ws

  abbrev First : {A : Type 0} → Bytes × A → Type 0
  First p = P p.0

  abbrev Ahead : Bytes × List Bytes → Type 0
  Ahead p = P p.0 × Words p.1

  abbrev Role_Behind : RoleWord × List Bytes → Type 0
  Role_Behind p = RoleHas P p.0 × Words p.1

  abbrev Node_Ahead : Bytes × RoleWord × List Bytes → Type 0
  Node_Ahead p = P p.0 × RoleHas P p.1 × Words p.2

  abbrev With_Role : Bytes × RoleWord → Type 0
  With_Role p = P p.0 × RoleHas P p.1

  abbrev Both_With_Role : Bytes × Bytes × RoleWord → Type 0
  Both_With_Role p = P p.0 × P p.1 × RoleHas P p.2

  abbrev Both : Bytes × Bytes → Type 0
  Both p = P p.0 × P p.1

  abbrev Both_With : {A : Type 0} → Bytes × Bytes × A → Type 0
  Both_With p = P p.0 × P p.1

  abbrev Both_Ahead : Bytes × Bytes × List Bytes → Type 0
  Both_Ahead p = P p.0 × P p.1 × Words p.2

  abbrev Behind : {A : Type 0} → A × List Bytes → Type 0
  Behind p = Words p.1

  only-is : (ws : List Bytes) → Words ws → IfSome (only ws) (WordHas P W)
  only-is [] h = tt
  only-is (w ∷ ws) h = none-more (WordHas P W) w ws h.0

  one_name-is : (ws : List Bytes) → Words ws → IfSome (one_name ws) P
  one_name-is ws h = some-bound (WordHas P W) P (only ws) name (only-is ws h) (λ w k. k.0)

  name_ahead-is : (ws : List Bytes) → Words ws → IfSome (name_ahead ws) Ahead
  name_ahead-is [] h = tt
  name_ahead-is (w ∷ ws) h = some-mapped P Ahead (λ x. (x, ws)) (name w) h.0.0 (λ x k. (k, h.1))

  two_names-are : (ws : List Bytes) → Words ws → IfSome (two_names ws) Both
  two_names-are ws h = some-bound Ahead Both (name_ahead ws) _ (name_ahead-is ws h) (λ a k. some-bound P Both (one_name a.1) _ (one_name-is a.1 k.1) (λ y l. (k.0, l)))

  two_ahead-are : (ws : List Bytes) → Words ws → IfSome (two_names_ahead ws) Both_Ahead
  two_ahead-are ws h = some-bound Ahead Both_Ahead (name_ahead ws) _ (name_ahead-is ws h) (λ a k. some-bound Ahead Both_Ahead (name_ahead a.1) _ (name_ahead-is a.1 k.1) (λ b l. (k.0, l.0, l.1)))

  low_or_name-is : (number : Option ℕ) (w : Bytes) → WordHas P W w → IfSome (low_or_name number w) (RoleHas P)
  low_or_name-is None w h = some-mapped P (RoleHas P) by_name (name w) h.0 (λ n k. k)
  low_or_name-is (Some n) w h = some-either (RoleHas P) (nat_lt n 2147483648) _ _ tt tt

  role_word-is : (format : ℕ) (w : Bytes) → WordHas P W w → IfSome (role_word format w) (RoleHas P)
  role_word-is format w h = some-either (RoleHas P) (format == 3) _ _ (low_or_name-is (role w) w h) (some-mapped Any (RoleHas P) by_number (role w) (any (role w)) (λ n any. tt))

  role_end-is : (format : ℕ) (ws : List Bytes) → Words ws → IfSome (role_at_end format ws) (RoleHas P)
  role_end-is format [] h = tt
  role_end-is format (k ∷ ws) h =
      some-either (RoleHas P) (is (codes "role") k) _ _ (some-bound (WordHas P W) (RoleHas P) (only ws) (role_word format) (only-is ws h.1) (λ w l. role_word-is format w l)) tt

  name_role-is : (format : ℕ) (ws : List Bytes) → Words ws → IfSome (name_and_role format ws) With_Role
  name_role-is format ws h =
      some-bound Ahead With_Role (name_ahead ws) _ (name_ahead-is ws h) (λ a k. some-bound (RoleHas P) With_Role (role_at_end format a.1) _ (role_end-is format a.1 k.1) (λ r l. (k.0, l)))

  two_role-are : (format : ℕ) (ws : List Bytes) → Words ws → IfSome (two_names_and_role format ws) Both_With_Role
  two_role-are format ws h =
      some-bound Ahead Both_With_Role (name_ahead ws) _ (name_ahead-is ws h) (λ a k.
      some-bound With_Role Both_With_Role (name_and_role format a.1) _ (name_role-is format a.1 k.1) (λ p l. (k.0, l.0, l.1)))

  element_kind-is : (ws : List Bytes) → Words ws → IfSome (element_and_kind ws) First
  element_kind-is ws h = some-bound Ahead First (name_ahead ws) _ (name_ahead-is ws h) (λ a k. some-bound Any First (only a.1 >>= element_kind) _ (any (only a.1 >>= element_kind)) (λ e any. k.0))

  element_read-is : (ws : List Bytes) → Words ws → IfSome (element_read ws) First
  element_read-is ws h = some-bound Ahead First (name_ahead ws) _ (name_ahead-is ws h) (λ a k. some-bound Any First (is_mandatory a.1) _ (any (is_mandatory a.1)) (λ m any. k.0))

  read_edge-is : (ws : List Bytes) → Words ws → IfSome (read_edge ws) Both_With
  read_edge-is ws h = some-bound Ahead Both_With (name_ahead ws) _ (name_ahead-is ws h) (λ a k. some-bound First Both_With (element_read a.1) _ (element_read-is a.1 k.1) (λ p l. (k.0, l)))

  -- ---- declarations
  roles-are : (format : ℕ) (ws : List Bytes) → Words ws → IfSome (roles format ws) (AllRows (RoleHas P))
  roles-are format [] h = tt
  roles-are format (w ∷ ws) h =
      some-bound (RoleHas P) (AllRows (RoleHas P)) (role_word format w) _ (role_word-is format w h.0) (λ r k.
      some-bound (AllRows (RoleHas P)) (AllRows (RoleHas P)) (roles format ws) _ (roles-are format ws h.1) (λ rs more. (k, more)))

  roles_end-are : (format : ℕ) (ws : List Bytes) → Words ws → IfSome (roles_at_end format ws) (AllRows (RoleHas P))
  roles_end-are format [] h = tt
  roles_end-are format (k ∷ ws) h =
      some-either (AllRows (RoleHas P)) (is (codes "roles") k) (some_roles format ws) _
      (some-either (AllRows (RoleHas P)) (nat_lt 0 (length ws)) _ _ (roles-are format ws h.1) tt) tt

  actor_ahead-is : (format : ℕ) (ws : List Bytes) → Words ws → IfSome (actor_ahead format ws) Ahead
  actor_ahead-is format ws h = some-either Ahead (format == 3 && begins_reserved ws) _ _ tt (name_ahead-is ws h)

  actor-has : (format : ℕ) (ws : List Bytes) → Words ws → IfSome (actor_line format ws) (DeclarationHas P)
  actor-has format ws h =
      some-bound Ahead (DeclarationHas P) (actor_ahead format ws) _ (actor_ahead-is format ws h) (λ a k.
      some-bound (AllRows (RoleHas P)) (DeclarationHas P) (roles_at_end format a.1) _ (roles_end-are format a.1 k.1) (λ rs l. (k.0, l)))

  plain-has : (k : Bytes) (ws : List Bytes) → Words ws → IfSome (plain_line k ws) (DeclarationHas P)
  plain-has k ws h =
      some-either (DeclarationHas P) (is (codes "type") k) _ _ (some-mapped P (DeclarationHas P) a_type (one_name ws) (one_name-is ws h) (λ n l. l))
      (some-either (DeclarationHas P) (is (codes "case") k) _ _ (some-mapped Both (DeclarationHas P) (λ p. a_case p.0 p.1) (two_names ws) (two_names-are ws h) (λ p l. l.0))
      (some-either (DeclarationHas P) (is (codes "phase") k) _ _ (none-more (DeclarationHas P) first_phase ws tt) tt))

  pub declaration-has : (format : ℕ) (ws : List Bytes) → Words ws → IfSome (declaration_line format ws) (DeclarationHas P)
  declaration-has format [] h = tt
  declaration-has format (k ∷ ws) h = some-either (DeclarationHas P) (is (codes "actor") k) _ _ (actor-has format ws h.1) (plain-has k ws h.1)

  -- ---- lines of a type
  tree-has : (format : ℕ) (k : Bytes) (ws : List Bytes) → Words ws → IfSome (tree_line format k ws) (TypeLineHas P)
  tree-has format k ws h =
      some-either (TypeLineHas P) (is (codes "act") k) _ _ (some-mapped With_Role (TypeLineHas P) (λ p. activity p.0 p.1) (name_and_role format ws) (name_role-is format ws h) (λ p l. l))
      (some-either (TypeLineHas P) (is (codes "and") k) _ _ (some-mapped Both (TypeLineHas P) (λ p. opens_and p.0 p.1) (two_names ws) (two_names-are ws h) (λ p l. l))
      (some-either (TypeLineHas P) (is (codes "xor") k) _ _ (some-mapped Both_With_Role (TypeLineHas P) (λ p. opens_xor p.0 p.1 p.2) (two_names_and_role format ws) (two_role-are format ws h) (λ p l. l))
      (some-either (TypeLineHas P) (is (codes "loop") k) _ _ (some-mapped Both_With_Role (TypeLineHas P) (λ p. opens_loop p.0 p.1 p.2) (two_names_and_role format ws) (two_role-are format ws h) (λ p l. l))
      (some-either (TypeLineHas P) (is (codes "branch") k) _ _ (some-mapped Any (TypeLineHas P) opens_branch (only ws >>= code) (any (only ws >>= code)) (λ c any. tt))
      (some-either (TypeLineHas P) (is (codes "done") k) _ _ (none-more (TypeLineHas P) closes_block ws tt) tt)))))

  outer-has : (k : Bytes) (ws : List Bytes) → Words ws → IfSome (outer_line k ws) (TypeLineHas P)
  outer-has k ws h =
      some-either (TypeLineHas P) (is (codes "sync") k) _ _ (some-mapped Both (TypeLineHas P) (λ p. a_sync p.0 p.1) (two_names ws) (two_names-are ws h) (λ p l. l))
      (some-either (TypeLineHas P) (is (codes "element") k) _ _ (some-mapped First (TypeLineHas P) (λ p. an_element p.0 p.1) (element_and_kind ws) (element_kind-is ws h) (λ p l. l))
      (some-either (TypeLineHas P) (is (codes "read") k) _ _ (some-mapped Both_With (TypeLineHas P) (λ p. a_read p.0 p.1 p.2) (read_edge ws) (read_edge-is ws h) (λ p l. l))
      (some-either (TypeLineHas P) (is (codes "write") k) _ _ (some-mapped Both (TypeLineHas P) (λ p. a_write p.0 p.1) (two_names ws) (two_names-are ws h) (λ p l. l))
      (some-either (TypeLineHas P) (is (codes "end") k) _ _ (none-more (TypeLineHas P) type_end ws tt) tt))))

  pub type_line-has : (format : ℕ) (ws : List Bytes) → Words ws → IfSome (type_line format ws) (TypeLineHas P)
  type_line-has format [] h = tt
  type_line-has format (k ∷ ws) h = some-or (TypeLineHas P) (tree_line format k ws) (outer_line k ws) (tree-has format k ws h.1) (outer-has k ws h.1)

  -- ---- lines of a phase
  pairs-are : (ws : List Bytes) → Words ws → IfSome (pairs ws) (AllRows W)
  pairs-are [] h = tt
  pairs-are (w ∷ ws) h = some-bound W (AllRows W) (pair w) _ h.0.1 (λ p k. some-bound (AllRows W) (AllRows W) (pairs ws) _ (pairs-are ws h.1) (λ ps more. (k, more)))

  code_ahead-is : (ws : List Bytes) → Words ws → IfSome (code_ahead ws) Behind
  code_ahead-is [] h = tt
  code_ahead-is (w ∷ ws) h = some-mapped Any Behind (λ n. (Some n, ws)) (code w) (any (code w)) (λ n any. h.1)

  choice_ahead-is : (ws : List Bytes) → Words ws → IfSome (choice_ahead ws) Behind
  choice_ahead-is [] h = tt
  choice_ahead-is (k ∷ ws) h = some-either Behind (is (codes "choice") k) _ _ (code_ahead-is ws h.1) h

  end-behind-has : (c n : Bytes) (ws : List Bytes) → P n → Words ws → IfSome (end_behind c n ws) (DeedHas P W)
  end-behind-has c n ws named h =
      some-bound Behind (DeedHas P W) (choice_ahead ws) _ (choice_ahead-is ws h) (λ choice k. some-bound (AllRows W) (DeedHas P W) (pairs choice.1) _ (pairs-are choice.1 k) (λ writes all. (named, all)))

  end-has : (ws : List Bytes) → Words ws → IfSome (end_deed ws) (DeedHas P W)
  end-has ws h = some-bound Both_Ahead (DeedHas P W) (two_names_ahead ws) _ (two_ahead-are ws h) (λ p k. end-behind-has p.0 p.1 p.2 k.1 k.2)

  named_deed-has : (k n : Bytes) → IfSome (named_deed k n) (DeedHas P W)
  named_deed-has k n =
      some-either (DeedHas P W) (is (codes "create") k) _ _ tt
      (some-either (DeedHas P W) (is (codes "change") k) _ _ tt
      (some-either (DeedHas P W) (is (codes "install") k) _ _ tt
      (some-either (DeedHas P W) (is (codes "migrate") k) _ _ tt tt)))

  plain_deed-has : (format : ℕ) (k : Bytes) (ws : List Bytes) → Words ws → IfSome (plain_deed format k ws) (DeedHas P W)
  plain_deed-has format k ws h =
      some-either (DeedHas P W) (is (codes "start") k) _ _ (some-mapped Both (DeedHas P W) (λ p. to_start p.0 p.1) (two_names ws) (two_names-are ws h) (λ p l. l.1))
      (some-either (DeedHas P W) (is (codes "withdraw") k && nat_le 2 format) _ _ (some-mapped Both (DeedHas P W) (λ p. to_withdraw p.0 p.1) (two_names ws) (two_names-are ws h) (λ p l. l.1))
      (some-bound Any (DeedHas P W) (one_name ws) _ (any (one_name ws)) (λ n any. named_deed-has k n)))

  deed-has : (format : ℕ) (ws : List Bytes) → Words ws → IfSome (deed format ws) (DeedHas P W)
  deed-has format [] h = tt
  deed-has format (k ∷ ws) h = some-either (DeedHas P W) (is (codes "end") k) _ _ (end-has ws h.1) (plain_deed-has format k ws h.1)

  deed_line-has : (format : ℕ) (a : Bytes) (ws : List Bytes) → Words ws → IfSome (deed_line format a ws) (ScriptLineHas P W)
  deed_line-has format a ws h = some-bound Any (ScriptLineHas P W) (name a) _ (any (name a)) (λ actor any. some-bound (DeedHas P W) (ScriptLineHas P W) (deed format ws) _ (deed-has format ws h) (λ d k. k))

  pub script_line-has : (format : ℕ) (ws : List Bytes) → Words ws → IfSome (script_line format ws) (ScriptLineHas P W)
  script_line-has format [] h = tt
  script_line-has format (k ∷ ws) h = some-either (ScriptLineHas P W) (is (codes "phase") k && length ws == 0) _ _ tt (deed_line-has format k ws h.1)

  -- ---- lines of a group
  name_code-is : (ws : List Bytes) → Words ws → IfSome (name_and_code ws) First
  name_code-is ws h = some-bound Ahead First (name_ahead ws) _ (name_ahead-is ws h) (λ a k. some-bound Any First (only a.1 >>= code) _ (any (only a.1 >>= code)) (λ c any. k.0))

  place-has : (ws : List Bytes) → Words ws → IfSome (place ws) (GapHas P)
  place-has [] h = tt
  place-has (k ∷ ws) h =
      some-either (GapHas P) (is (codes "after") k) _ _ (some-mapped P (GapHas P) behind (one_name ws) (one_name-is ws h.1) (λ n l. l))
      (some-either (GapHas P) (is (codes "head") k) _ _ (some-mapped First (GapHas P) (λ p. at_head p.0 p.1) (name_and_code ws) (name_code-is ws h.1) (λ p l. l)) tt)

  role_word_ahead-is : (format : ℕ) (ws : List Bytes) → Words ws → IfSome (role_word_ahead format ws) Role_Behind
  role_word_ahead-is format [] h = tt
  role_word_ahead-is format (r ∷ ws) h = some-mapped (RoleHas P) Role_Behind (λ n. (n, ws)) (role_word format r) (role_word-is format r h.0) (λ n k. (k, h.1))

  role_ahead-is : (format : ℕ) (ws : List Bytes) → Words ws → IfSome (role_ahead format ws) Role_Behind
  role_ahead-is format [] h = (tt, tt)
  role_ahead-is format (k ∷ ws) h = some-either Role_Behind (is (codes "role") k) _ _ (role_word_ahead-is format ws h.1) (tt, h)

  new_node-is : (format : ℕ) (ws : List Bytes) → Words ws → IfSome (new_node format ws) Node_Ahead
  new_node-is format ws h =
      some-bound Ahead Node_Ahead (name_ahead ws) _ (name_ahead-is ws h) (λ a k. some-bound Role_Behind Node_Ahead (role_ahead format a.1) _ (role_ahead-is format a.1 k.1) (λ r l. (k.0, l.0, l.1)))

  block-is : (ws : List Bytes) → Words ws → IfSome (with_block ws) Both_Ahead
  block-is [] h = tt
  block-is (k ∷ ws) h = some-either Both_Ahead (is (codes "with") k) _ _ (two_ahead-are ws h.1) tt

  last-is : (first : Bytes) (ws : List Bytes) → P first → Words ws → IfSome (last_item first ws) P
  last-is first ws named h = some-either P (length ws == 0) _ _ named (one_name-is ws h)

  first_last-are : (ws : List Bytes) → Words ws → IfSome (first_and_last ws) Both
  first_last-are ws h = some-bound Ahead Both (name_ahead ws) _ (name_ahead-is ws h) (λ a k. some-bound P Both (last_item a.0 a.1) _ (last-is a.0 a.1 k.0 k.1) (λ y l. (k.0, l)))

  items-are : (ws : List Bytes) → Words ws → IfSome (around_items ws) Both
  items-are [] h = tt
  items-are (k ∷ ws) h = some-either Both (is (codes "around") k) _ _ (first_last-are ws h.1) tt

  insert-has : (format : ℕ) (ws : List Bytes) → Words ws → IfSome (insert_line format ws) (OperationHas P)
  insert-has format ws h = some-bound Node_Ahead (OperationHas P) (new_node format ws) _ (new_node-is format ws h) (λ n k. some-bound (GapHas P) (OperationHas P) (place n.2) _ (place-has n.2 k.2) (λ p l. (k.0, k.1, l)))

  parallel-has : (format : ℕ) (ws : List Bytes) → Words ws → IfSome (parallel_line format ws) (OperationHas P)
  parallel-has format ws h =
      some-bound Node_Ahead (OperationHas P) (new_node format ws) _ (new_node-is format ws h) (λ n k.
      some-bound Both_Ahead (OperationHas P) (with_block n.2) _ (block-is n.2 k.2) (λ b l.
      some-bound Both (OperationHas P) (around_items b.2) _ (items-are b.2 l.2) (λ i m. (k.0, k.1, l.0, l.1, m.0, m.1))))

  conditional-has : (format : ℕ) (ws : List Bytes) → Words ws → IfSome (conditional_line format ws) (OperationHas P)
  conditional-has format ws h =
      some-bound Node_Ahead (OperationHas P) (new_node format ws) _ (new_node-is format ws h) (λ n k.
      some-bound Both_Ahead (OperationHas P) (with_block n.2) _ (block-is n.2 k.2) (λ b l.
      some-bound (GapHas P) (OperationHas P) (place b.2) _ (place-has b.2 l.2) (λ p m. (k.0, k.1, l.0, l.1, m))))

  move-has : (ws : List Bytes) → Words ws → IfSome (move_line ws) (OperationHas P)
  move-has ws h = some-bound Ahead (OperationHas P) (name_ahead ws) _ (name_ahead-is ws h) (λ a k. some-bound (GapHas P) (OperationHas P) (place a.1) _ (place-has a.1 k.1) (λ p l. (k.0, l)))

  role-has : (format : ℕ) (ws : List Bytes) → Words ws → IfSome (role_line format ws) (OperationHas P)
  role-has format ws h = some-bound Ahead (OperationHas P) (name_ahead ws) _ (name_ahead-is ws h) (λ a k.
      some-bound (RoleHas P) (OperationHas P) (only a.1 >>= role_word format) _ (some-bound (WordHas P W) (RoleHas P) (only a.1) (role_word format) (only-is a.1 k.1) (λ w l. role_word-is format w l)) (λ r l. (k.0, l)))

  tree_operation-has : (format : ℕ) (k : Bytes) (ws : List Bytes) → Words ws → IfSome (tree_operation format k ws) (OperationHas P)
  tree_operation-has format k ws h =
      some-either (OperationHas P) (is (codes "insert") k) _ _ (insert-has format ws h)
      (some-either (OperationHas P) (is (codes "parallel") k) _ _ (parallel-has format ws h)
      (some-either (OperationHas P) (is (codes "conditional") k) _ _ (conditional-has format ws h)
      (some-either (OperationHas P) (is (codes "delete") k) _ _ (some-mapped P (OperationHas P) delete (one_name ws) (one_name-is ws h) (λ n l. l))
      (some-either (OperationHas P) (is (codes "move") k) _ _ (move-has ws h)
      (some-either (OperationHas P) (is (codes "end") k) _ _ (none-more (OperationHas P) group_end ws tt) tt)))))

  edge_operation-has : (k : Bytes) (p : Bytes × Bytes) → Both p → IfSome (edge_operation k p) (OperationHas P)
  edge_operation-has k p h =
      some-either (OperationHas P) (is (codes "sync") k) _ _ h
      (some-either (OperationHas P) (is (codes "unsync") k) _ _ h
      (some-either (OperationHas P) (is (codes "unread") k) _ _ h
      (some-either (OperationHas P) (is (codes "write") k) _ _ h
      (some-either (OperationHas P) (is (codes "unwrite") k) _ _ h tt))))

  edge-has : (k : Bytes) (ws : List Bytes) → Words ws → IfSome (edge_line k ws) (OperationHas P)
  edge-has k ws h = some-bound Both (OperationHas P) (two_names ws) _ (two_names-are ws h) (λ p l. edge_operation-has k p l)

  row-has : (format : ℕ) (k : Bytes) (ws : List Bytes) → Words ws → IfSome (row_line format k ws) (OperationHas P)
  row-has format k ws h =
      some-either (OperationHas P) (is (codes "element") k) _ _ (some-mapped First (OperationHas P) (λ p. element p.0 p.1) (element_and_kind ws) (element_kind-is ws h) (λ p l. l))
      (some-either (OperationHas P) (is (codes "read") k) _ _ (some-mapped Both_With (OperationHas P) (λ p. read p.0 p.1 p.2) (read_edge ws) (read_edge-is ws h) (λ p l. l))
      (some-either (OperationHas P) (is (codes "role") k) _ _ (role-has format ws h) tt))

  pub operation-has : (format : ℕ) (ws : List Bytes) → Words ws → IfSome (operation_line format ws) (OperationHas P)
  operation-has format [] h = tt
  operation-has format (k ∷ ws) h =
      some-or (OperationHas P) (tree_operation format k ws) _ (tree_operation-has format k ws h.1)
      (some-or (OperationHas P) (edge_line k ws) (row_line format k ws) (edge-has k ws h.1) (row-has format k ws h.1))
