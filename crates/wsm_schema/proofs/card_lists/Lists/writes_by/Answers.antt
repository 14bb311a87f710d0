use Rattle.wsm_schema.proofs.card_lists.Lists.writes_by.Goals as goal

pub returns : goal.returns
returns c = rw (← c.self.view_is, ← c.schema.view_is, ← c.rows_of.ensures) c.seconds_of.ensures
