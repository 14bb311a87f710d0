-- What a file says of an actor and of a case.
use Rattle.std.specs.Prelude.{ℕ, ◌-◌, List, [], slice_get, position, Option, Some, None}
use Rattle.file_model.specs.{CaseCounts.has_id, declared.files.ActorDecl.ActorDecl, declared.files.File.File}
use Rattle.wsm_sound.specs.declared.versions.CaseId.{CaseId}

-- where a case was declared
abbrev pub place_of : File → CaseId → Option ℕ
place_of f c = position (has_id c) f.cases

-- the roles of the actor with a number, from 1
abbrev pub roles_in : Option ActorDecl → List ℕ
roles_in None = []
roles_in (Some a) = a.roles

abbrev pub roles_of : File → ℕ → List ℕ
roles_of f a = roles_in (slice_get f.actors (a - 1))
