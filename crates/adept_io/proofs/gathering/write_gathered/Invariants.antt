use Rattle.adept_io.specs.Gathered.{known_length}
use Rattle.adept_io.proofs.gathering.write_gathered.Given as goal

abbrev pub ghosts-gather : goal.ghosts-gather
ghosts-gather g a = record { name = a.sink.ghost_name; known = known_length (g.K.Sink.written a.sink.now) }
