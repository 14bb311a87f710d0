-- Forms of lines, computed from the definitions alone.
use Rattle.std.specs.Prelude.{◌≡◌, pos, neg_ℤ, true, false, [], ◌∷◌, Some, None, refl, codes}
use Rattle.wsm_lists.specs.declared.values.ElementKind.TheVariants as kind
use Rattle.wsm_lists.specs.declared.values.Value.TheVariants as value
use Rattle.file_words.specs.Words.{words_of}
use Rattle.file_forms.specs.Forms.{by_number, by_name, an_actor, a_case, first_phase, activity, opens_xor, opens_branch, an_element, a_read, to_withdraw, to_end, to_create, a_deed, behind, at_head, insert, parallel, conditional, set_role}
use Rattle.file_forms.specs.{Forms.group_end, DeclarationForms.{header, declaration_line}, TypeForms.type_line, ScriptForms.script_line, OperationForms.operation_line}

first_format : header (words_of (codes "\tadept  1 ")) ≡ Some 1
first_format = refl

second_format : header (words_of (codes "adept 2")) ≡ Some 2
second_format = refl

third_format : header (words_of (codes "adept 3")) ≡ Some 3
third_format = refl

other_format : header (words_of (codes "adept 4")) ≡ None
other_format = refl

three_words : header (words_of (codes "adept 1 x")) ≡ None
three_words = refl

actor_without_roles : declaration_line 1 (words_of (codes "actor roles")) ≡ Some (an_actor (codes "roles") [])
actor_without_roles = refl

actor_with_roles : declaration_line 1 (words_of (codes "actor ann roles 7 08")) ≡ Some (an_actor (codes "ann") (by_number 7 ∷ by_number 8 ∷ []))
actor_with_roles = refl

no_role : declaration_line 1 (words_of (codes "actor ann roles")) ≡ None
no_role = refl

a_case_of_a_type : declaration_line 1 (words_of (codes "case c t")) ≡ Some (a_case (codes "c") (codes "t"))
a_case_of_a_type = refl

a_phase : declaration_line 1 (words_of (codes "phase")) ≡ Some first_phase
a_phase = refl

no_keyword : declaration_line 1 (words_of (codes "Type t")) ≡ None
no_keyword = refl

act_without_role : type_line 1 (words_of (codes "act A")) ≡ Some (activity (codes "A") (by_number 0))
act_without_role = refl

act_with_role : type_line 1 (words_of (codes "act A role 7")) ≡ Some (activity (codes "A") (by_number 7))
act_with_role = refl

xor_with_role : type_line 1 (words_of (codes "xor s j role 7")) ≡ Some (opens_xor (codes "s") (codes "j") (by_number 7))
xor_with_role = refl

and_with_role : type_line 1 (words_of (codes "and s j role 7")) ≡ None
and_with_role = refl

branch : type_line 1 (words_of (codes "branch 065")) ≡ Some (opens_branch 65)
branch = refl

element : type_line 1 (words_of (codes "element e text")) ≡ Some (an_element (codes "e") kind.Text)
element = refl

mandatory_read : type_line 1 (words_of (codes "read A e")) ≡ Some (a_read (codes "A") (codes "e") true)
mandatory_read = refl

optional_read : type_line 1 (words_of (codes "read A e optional")) ≡ Some (a_read (codes "A") (codes "e") false)
optional_read = refl

end_with_writes : script_line 1 (words_of (codes "ann end c A choice 2 e=-7 f=\"a b\"")) ≡
    Some (a_deed (codes "ann") (to_end (codes "c") (codes "A") (Some 2) ((codes "e", value.Int (neg_ℤ (pos 7))) ∷ (codes "f", value.Text (codes "a b")) ∷ [])))
end_with_writes = refl

choice_behind_a_write : script_line 1 (words_of (codes "ann end c A e=7 choice 2")) ≡ None
choice_behind_a_write = refl

node_given_back : script_line 2 (words_of (codes "ann withdraw c A")) ≡ Some (a_deed (codes "ann") (to_withdraw (codes "c") (codes "A")))
node_given_back = refl

not_in_the_first_format : script_line 1 (words_of (codes "ann withdraw c A")) ≡ None
not_in_the_first_format = refl

actor_called_phase : script_line 1 (words_of (codes "phase create c")) ≡ Some (a_deed (codes "phase") (to_create (codes "c")))
actor_called_phase = refl

-- ---- format 3: a role may have a name, and no actor has a name that begins a declaration or a phase
act_with_named_role : type_line 3 (words_of (codes "act A role nurse")) ≡ Some (activity (codes "A") (by_name (codes "nurse")))
act_with_named_role = refl

named_in_the_second_format : type_line 2 (words_of (codes "act A role nurse")) ≡ None
named_in_the_second_format = refl

number_of_a_name : type_line 3 (words_of (codes "act A role 2147483648")) ≡ None
number_of_a_name = refl

highest_number : type_line 3 (words_of (codes "act A role 2147483647")) ≡ Some (activity (codes "A") (by_number 2147483647))
highest_number = refl

roles_of_both_kinds : declaration_line 3 (words_of (codes "actor ann roles 7 nurse")) ≡ Some (an_actor (codes "ann") (by_number 7 ∷ by_name (codes "nurse") ∷ []))
roles_of_both_kinds = refl

actor_called_case : declaration_line 3 (words_of (codes "actor case")) ≡ None
actor_called_case = refl

so_before : declaration_line 2 (words_of (codes "actor case")) ≡ Some (an_actor (codes "case") [])
so_before = refl

role_called_after : operation_line 3 (words_of (codes "insert N role after after A")) ≡ Some (insert (codes "N") (by_name (codes "after")) (behind (codes "A")))
role_called_after = refl

given_back_from_then_on : script_line 3 (words_of (codes "ann withdraw c A")) ≡ Some (a_deed (codes "ann") (to_withdraw (codes "c") (codes "A")))
given_back_from_then_on = refl

insert_at_head : operation_line 1 (words_of (codes "insert N role 7 head s 2")) ≡ Some (insert (codes "N") (by_number 7) (at_head (codes "s") 2))
insert_at_head = refl

insert_without_role : operation_line 1 (words_of (codes "insert N after role")) ≡ Some (insert (codes "N") (by_number 0) (behind (codes "role")))
insert_without_role = refl

around_one : operation_line 1 (words_of (codes "parallel N with s j around A")) ≡
    Some (parallel (codes "N") (by_number 0) (codes "s") (codes "j") (codes "A") (codes "A"))
around_one = refl

around_two : operation_line 1 (words_of (codes "parallel N role 7 with s j around A B")) ≡
    Some (parallel (codes "N") (by_number 7) (codes "s") (codes "j") (codes "A") (codes "B"))
around_two = refl

conditional_behind : operation_line 1 (words_of (codes "conditional N with s j after A")) ≡
    Some (conditional (codes "N") (by_number 0) (codes "s") (codes "j") (behind (codes "A")))
conditional_behind = refl

move_with_role : operation_line 1 (words_of (codes "move N role 7 after A")) ≡ None
move_with_role = refl

role_of_a_node : operation_line 1 (words_of (codes "role N 7")) ≡ Some (set_role (codes "N") (by_number 7))
role_of_a_node = refl

the_end : operation_line 1 (words_of (codes "end")) ≡ Some group_end
the_end = refl
