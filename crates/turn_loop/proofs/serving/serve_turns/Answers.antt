use Rattle.turn_loop.proofs.Ending.{end-acknowledged, end-answered, end-begun, end-long, end-moments, end-short, end-whole}
use Rattle.turn_loop.proofs.serving.serve_turns.Goals as goal

pub returns-clause-whole : goal.returns-clause-whole
returns-clause-whole g c = end-whole c.talk.result c.talk.ensures.ended

pub returns-clause-answered : goal.returns-clause-answered
returns-clause-answered g c = end-answered c.talk.result c.talk.ensures.ended

pub returns-clause-begun : goal.returns-clause-begun
returns-clause-begun g c = end-begun c.talk.result c.talk.ensures.ended

pub returns-clause-any_moment : goal.returns-clause-any_moment
returns-clause-any_moment g c = end-moments c.talk.result c.talk.ensures.ended

pub returns-clause-acknowledged : goal.returns-clause-acknowledged
returns-clause-acknowledged g c = end-acknowledged c.talk.result c.talk.ensures.ended

pub returns-clause-long : goal.returns-clause-long
returns-clause-long g c = end-short c.talk.result c.talk.ensures.ended

pub returns-clause-too_long : goal.returns-clause-too_long
returns-clause-too_long g c = end-long c.talk.result c.talk.ensures.ended
