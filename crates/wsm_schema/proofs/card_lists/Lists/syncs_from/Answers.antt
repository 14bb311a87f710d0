use Rattle.wsm_schema.proofs.card_lists.Lists.syncs_from.Goals as goal

pub returns : goal.returns
returns c = rw (← c.self.view_is, ← c.schema.view_is, ← c.rows_of.ensures) c.seconds_of.ensures
