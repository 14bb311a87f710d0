use Rattle.talk_server.proofs.serving.serve.Given as goal
use Rattle.talk_server.proofs.Common.{held}

abbrev pub ghost-serve_turns : goal.ghost-serve_turns
ghost-serve_turns g a = held (g.D.Disk.content a.disk.now)
