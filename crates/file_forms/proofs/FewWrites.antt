-- A line has no more writes than words, and a declaration no more roles.
use Rattle.std.proofs.Common.{◌≤◌, ℕ, List, [], ◌∷◌, length, ◌==◌, ◌&&◌, Option, None, Some, arith}
use Rattle.std.specs.Prelude.{IfSome, nat_le, nat_lt, codes}
use Rattle.wsm_lists.specs.declared.values.Value.{Value}
use Rattle.file_words.specs.{Lines.Bytes, Names.name, Numbers.code, Pairs.pair, Words.is}
use Rattle.file_forms.specs.{DeclarationForms.{actor_ahead, actor_line, begins_reserved, declaration_line, plain_line, roles, roles_at_end, some_roles}, Forms.{RoleWord, Declaration, a_type, an_actor, a_case, first_phase, Deed, to_create}}
use Rattle.file_forms.specs.{Forms.{to_start, to_withdraw, to_end, to_change, to_install, to_migrate, ScriptLine, a_deed}, NamesInForms.{roles_in, writes_in_deed, writes_in}, PieceForms.{◌>>=◌, name_ahead, nothing_more, one_name}}
use Rattle.file_forms.specs.{PieceForms.{role_word, two_names, two_names_ahead}, ScriptForms.{choice_ahead, code_ahead, deed, deed_line, end_behind, end_deed, named_deed, pairs, plain_deed, script_line}}
use Rattle.file_forms.proofs.Options.{some-any, some-bound, some-either, some-mapped}

abbrev Any : {A : Type 0} → A → Type 0
Any x = Unit {0}

any : {A : Type 0} (o : Option A) → IfSome o Any
any o = some-any Any o (λ x. tt)

abbrev Behind : {A : Type 0} → ℕ → A × List Bytes → Type 0
Behind n p = length p.1 ≤ n

abbrev FewInDeed : ℕ → Deed → Type 0
FewInDeed n d = writes_in_deed d ≤ n

abbrev FewIn : ℕ → ScriptLine → Type 0
FewIn n l = writes_in l ≤ n

pairs-few : (ws : List Bytes) → IfSome (pairs ws) (λ ps. length ps ≤ length ws)
pairs-few [] = omega arith
pairs-few (w ∷ ws) =
    some-bound Any (λ (ps : List (Bytes × Value)). length ps ≤ length (w ∷ ws)) (pair w) _ (any (pair w)) (λ p any.
    some-bound (λ (ps : List (Bytes × Value)). length ps ≤ length ws) (λ (ps : List (Bytes × Value)). length ps ≤ length (w ∷ ws)) (pairs ws) _ (pairs-few ws) (λ ps few. omega (arith, few)))

name_ahead-fewer : (ws : List Bytes) → IfSome (name_ahead ws) (Behind (length ws))
name_ahead-fewer [] = tt
name_ahead-fewer (w ∷ ws) = some-mapped Any (Behind (length (w ∷ ws))) (λ x. (x, ws)) (name w) (any (name w)) (λ x any. omega arith)

two_ahead-fewer : (ws : List Bytes) → IfSome (two_names_ahead ws) (λ p. length p.2 ≤ length ws)
two_ahead-fewer ws =
    some-bound (Behind (length ws)) (λ (p : Bytes × Bytes × List Bytes). length p.2 ≤ length ws) (name_ahead ws) _ (name_ahead-fewer ws) (λ a few.
    some-bound (Behind (length a.1)) (λ (p : Bytes × Bytes × List Bytes). length p.2 ≤ length ws) (name_ahead a.1) _ (name_ahead-fewer a.1) (λ b fewer. omega (arith, few, fewer)))

code_ahead-fewer : (ws : List Bytes) → IfSome (code_ahead ws) (Behind (length ws))
code_ahead-fewer [] = tt
code_ahead-fewer (w ∷ ws) = some-mapped Any (Behind (length (w ∷ ws))) (λ n. (Some n, ws)) (code w) (any (code w)) (λ n any. omega arith)

choice_ahead-fewer : (ws : List Bytes) → IfSome (choice_ahead ws) (Behind (length ws))
choice_ahead-fewer [] = omega arith
choice_ahead-fewer (k ∷ ws) =
    some-either (Behind (length (k ∷ ws))) (is (codes "choice") k) _ _ (weaker (code_ahead ws) (code_ahead-fewer ws)) (omega arith)
  where
    weaker : (o : Option (Option ℕ × List Bytes)) → IfSome o (Behind (length ws)) → IfSome o (Behind (length (k ∷ ws)))
    weaker None h = tt
    weaker (Some p) h = omega (arith, h)

end_behind-few : (c n : Bytes) (ws : List Bytes) → IfSome (end_behind c n ws) (FewInDeed (length ws))
end_behind-few c n ws =
    some-bound (Behind (length ws)) (FewInDeed (length ws)) (choice_ahead ws) _ (choice_ahead-fewer ws) (λ choice few.
    some-bound (λ (ps : List (Bytes × Value)). length ps ≤ length choice.1) (FewInDeed (length ws)) (pairs choice.1) _ (pairs-few choice.1) (λ writes fewer. omega (arith, few, fewer)))

end-few : (ws : List Bytes) → IfSome (end_deed ws) (FewInDeed (length ws))
end-few ws =
    some-bound (λ (p : Bytes × Bytes × List Bytes). length p.2 ≤ length ws) (FewInDeed (length ws)) (two_names_ahead ws) _ (two_ahead-fewer ws) (λ p few.
    weaker (length p.2) few (end_behind p.0 p.1 p.2) (end_behind-few p.0 p.1 p.2))
  where
    weaker : (n : ℕ) → n ≤ length ws → (o : Option Deed) → IfSome o (FewInDeed n) → IfSome o (FewInDeed (length ws))
    weaker n few None h = tt
    weaker n few (Some d) h = omega (arith, few, h)

named_deed-few : (k n : Bytes) (m : ℕ) → IfSome (named_deed k n) (FewInDeed m)
named_deed-few k n m =
    some-either (FewInDeed m) (is (codes "create") k) _ _ (omega arith)
    (some-either (FewInDeed m) (is (codes "change") k) _ _ (omega arith)
    (some-either (FewInDeed m) (is (codes "install") k) _ _ (omega arith)
    (some-either (FewInDeed m) (is (codes "migrate") k) _ _ (omega arith) tt)))

plain_deed-few : (format : ℕ) (k : Bytes) (ws : List Bytes) (m : ℕ) → IfSome (plain_deed format k ws) (FewInDeed m)
plain_deed-few format k ws m =
    some-either (FewInDeed m) (is (codes "start") k) _ _ (some-mapped Any (FewInDeed m) (λ p. to_start p.0 p.1) (two_names ws) (any (two_names ws)) (λ p any. omega arith))
    (some-either (FewInDeed m) (is (codes "withdraw") k && nat_le 2 format) _ _ (some-mapped Any (FewInDeed m) (λ p. to_withdraw p.0 p.1) (two_names ws) (any (two_names ws)) (λ p any. omega arith))
    (some-bound Any (FewInDeed m) (one_name ws) _ (any (one_name ws)) (λ n any. named_deed-few k n m)))

deed-few : (format : ℕ) (ws : List Bytes) → IfSome (deed format ws) (FewInDeed (length ws))
deed-few format [] = tt
deed-few format (k ∷ ws) = some-either (FewInDeed (length (k ∷ ws))) (is (codes "end") k) _ _ (weaker (end_deed ws) (end-few ws)) (plain_deed-few format k ws (length (k ∷ ws)))
  where
    weaker : (o : Option Deed) → IfSome o (FewInDeed (length ws)) → IfSome o (FewInDeed (length (k ∷ ws)))
    weaker None h = tt
    weaker (Some d) h = omega (arith, h)

deed_line-few : (format : ℕ) (a : Bytes) (ws : List Bytes) → IfSome (deed_line format a ws) (FewIn (length ws))
deed_line-few format a ws = some-bound Any (FewIn (length ws)) (name a) _ (any (name a)) (λ actor any. some-bound (FewInDeed (length ws)) (FewIn (length ws)) (deed format ws) _ (deed-few format ws) (λ d few. few))

pub script_line-few : (format : ℕ) (ws : List Bytes) → IfSome (script_line format ws) (λ l. writes_in l ≤ length ws)
script_line-few format [] = tt
script_line-few format (k ∷ ws) = some-either (FewIn (length (k ∷ ws))) (is (codes "phase") k && length ws == 0) _ _ (omega arith) (weaker (deed_line format k ws) (deed_line-few format k ws))
  where
    weaker : (o : Option ScriptLine) → IfSome o (FewIn (length ws)) → IfSome o (FewIn (length (k ∷ ws)))
    weaker None h = tt
    weaker (Some l) h = omega (arith, h)

-- ---- roles
abbrev FewRoles : ℕ → List RoleWord → Type 0
FewRoles n rs = length rs ≤ n

abbrev RolesIn : ℕ → Declaration → Type 0
RolesIn n d = roles_in d ≤ n

roles-few : (format : ℕ) (ws : List Bytes) → IfSome (roles format ws) (FewRoles (length ws))
roles-few format [] = omega arith
roles-few format (w ∷ ws) =
    some-bound Any (FewRoles (length (w ∷ ws))) (role_word format w) _ (any (role_word format w)) (λ r any.
    some-bound (FewRoles (length ws)) (FewRoles (length (w ∷ ws))) (roles format ws) _ (roles-few format ws) (λ rs few. omega (arith, few)))

roles_end-few : (format : ℕ) (ws : List Bytes) → IfSome (roles_at_end format ws) (FewRoles (length ws))
roles_end-few format [] = omega arith
roles_end-few format (k ∷ ws) =
    some-either (FewRoles (length (k ∷ ws))) (is (codes "roles") k) (some_roles format ws) _
    (some-either (FewRoles (length (k ∷ ws))) (nat_lt 0 (length ws)) _ _ (weaker (roles format ws) (roles-few format ws)) tt) tt
  where
    weaker : (o : Option (List RoleWord)) → IfSome o (FewRoles (length ws)) → IfSome o (FewRoles (length (k ∷ ws)))
    weaker None h = tt
    weaker (Some rs) h = omega (arith, h)

actor-few : (format : ℕ) (ws : List Bytes) → IfSome (actor_line format ws) (RolesIn (length ws))
actor-few format ws =
    some-bound (Behind (length ws)) (RolesIn (length ws)) (actor_ahead format ws) _
    (some-either (Behind (length ws)) (format == 3 && begins_reserved ws) _ _ tt (name_ahead-fewer ws)) (λ a few.
    some-bound (FewRoles (length a.1)) (RolesIn (length ws)) (roles_at_end format a.1) _ (roles_end-few format a.1) (λ rs fewer. omega (arith, few, fewer)))

plain-few : (k : Bytes) (ws : List Bytes) (n : ℕ) → IfSome (plain_line k ws) (RolesIn n)
plain-few k ws n =
    some-either (RolesIn n) (is (codes "type") k) _ _ (some-mapped Any (RolesIn n) a_type (one_name ws) (any (one_name ws)) (λ x any. omega arith))
    (some-either (RolesIn n) (is (codes "case") k) _ _ (some-mapped Any (RolesIn n) (λ p. a_case p.0 p.1) (two_names ws) (any (two_names ws)) (λ p any. omega arith))
    (some-either (RolesIn n) (is (codes "phase") k) _ _ (none-more ws) tt))
  where
    none-more : (ws : List Bytes) → IfSome (nothing_more first_phase ws) (RolesIn n)
    none-more [] = omega arith
    none-more (w ∷ ws) = tt

pub declaration-few : (format : ℕ) (ws : List Bytes) → IfSome (declaration_line format ws) (λ d. roles_in d ≤ length ws)
declaration-few format [] = tt
declaration-few format (k ∷ ws) = some-either (RolesIn (length (k ∷ ws))) (is (codes "actor") k) _ _ (weaker (actor_line format ws) (actor-few format ws)) (plain-few k ws (length (k ∷ ws)))
  where
    weaker : (o : Option Declaration) → IfSome o (RolesIn (length ws)) → IfSome o (RolesIn (length (k ∷ ws)))
    weaker None h = tt
    weaker (Some d) h = omega (arith, h)
