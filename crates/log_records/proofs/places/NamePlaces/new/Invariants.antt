use Rattle.log_records.specs.Places.{ArePlacesFrom}
use Rattle.log_records.proofs.places.NamePlaces.new.Given as goal

abbrev pub invariant-loop-index : goal.invariant-loop-index
invariant-loop-index l = ArePlacesFrom l.index l.places.entries l.names
