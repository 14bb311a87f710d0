use Rattle.wsm_marks.proofs.SoundSchemas.{sound-regular}
use Rattle.wsm_sound.proofs.NoFaults.{is_sound}
use Rattle.engine_tests.proofs.adapting.counted.Goals as goal

pub within-requires-clause-net : goal.within-requires-clause-net
within-requires-clause-net g c =
    let s = c.args.new.now in
    (s, c.flat-4.ensures.flat, sound-regular s (is_sound s c.flat-4.ensures.checked.sound).blocks, c.rank.ensures)
