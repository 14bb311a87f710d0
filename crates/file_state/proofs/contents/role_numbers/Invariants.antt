use Rattle.std.proofs.Common.{◌≡◌, ◌≤◌, ◌+◌, ◌++◌, length, map, drop}
use Rattle.wsm_lists.specs.Rows.{AllRows}
use Rattle.file_forms.specs.{NamesInForms.RoleHas, Shown.shown_role}
use Rattle.file_model.specs.{Declaring.{role_numbers, with_roles}, Room.{HasRoom, count_of_names}, ShortForms.IsShort}
use Rattle.file_state.proofs.contents.role_numbers.Given as goal

abbrev pub invariant-loop-role : goal.invariant-loop-role
invariant-loop-role l = record {
  noted : with_roles (map shown_role (drop l.role-index l.roles)) l.contents ≡ with_roles (map shown_role l.roles) l.initial.contents;
  short : AllRows (RoleHas IsShort) (map shown_role (drop l.role-index l.roles));
  room : HasRoom (length (drop l.role-index l.roles)) l.contents;
  numbers : l.numbers ++ role_numbers l.contents.roles (map shown_role (drop l.role-index l.roles)) ≡ role_numbers l.initial.contents.roles (map shown_role l.roles);
  count : count_of_names l.contents + length (drop l.role-index l.roles) ≤ count_of_names l.initial.contents + length l.roles;
}
