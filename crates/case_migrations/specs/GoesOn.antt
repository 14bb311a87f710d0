-- Versions of one type.
use Rattle.std.specs.Prelude.{◌≡◌, ◌+◌, ◌≤◌, length, Ok}
use Rattle.wsm_ops.specs.Apply.{applied}
use Rattle.wsm_sound.specs.{VersionModel.VersionModel, Versions.ops_after}

-- a version that goes on from another: the operations since then make its schema
pub record GoesOn (base version : VersionModel) : Type 0 where
  pub counted : version.number ≡ length version.lineage + 1
  pub later : base.number ≤ version.number
  pub numbered : 1 ≤ base.number
  pub made : applied base.schema (ops_after base.number version) ≡ Ok version.schema
