use Rattle.wsm_schema.proofs.{Common.{◌∙◌, sym}, Runs.{place-within, start-from_row}}
use Rattle.wsm_schema.proofs.groups.start_if_there.Goals as goal

pub returns-then-starts_at-clause-bound : goal.returns-then-starts_at-clause-bound
returns-then-starts_at-clause-bound g c = place-within c.args.number c.args.rows.now c.args.at (sym c.starts_at.ensures ∙ c.if-starts_at.true)

pub returns-then-starts_at-clause-place : goal.returns-then-starts_at-clause-place
returns-then-starts_at-clause-place g c = start-from_row c.args.number c.args.rows.now c.args.at c.requires (sym c.starts_at.ensures ∙ c.if-starts_at.true)
