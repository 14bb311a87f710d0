use Rattle.talk_answers.proofs.Common.{[], ℕ, ◌++◌, ◌<◌, ◌∷◌, ◌≡◌, arith, codes, File, gives_as, gives_then, length, List, refl, roles_text, spaced_role}
use Rattle.std.specs.Prelude.{flat_map}
use Rattle.talk_answers.proofs.actors.put_roles.Goals as goal

some-roles : (f : File) (roles : List ℕ) → 0 < length roles → codes " roles" ++ flat_map (spaced_role f) roles ≡ roles_text f roles
some-roles f [] some = absurd (omega (arith, some))
some-roles f (r ∷ rs) some = refl

pub returns-in_default : goal.returns-in_default
returns-in_default g c =
    let some : 0 < length c.args.roles.now = omega (arith, c.in_default.len_at_least) in
    gives_as _ _ _ _ _ _ _ _ (gives_then _ _ _ _ _ _ _ _ _ _ c.put-ok.ensures c.put_each_role.ensures) (some-roles c.args.file.now c.args.roles.now some)
