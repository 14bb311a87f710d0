use Rattle.wsm_marks.proofs.SoundSchemas.{sound-regular}
use Rattle.wsm_sound.proofs.NoFaults.{is_sound}
use Rattle.engine_tests.proofs.adapting.moved_by.Goals as goal

pub adapt-requires : goal.adapt-requires
adapt-requires g c =
    let s = c.args.new.now in
    (s, c.flat-4.ensures.flat, sound-regular s (is_sound s c.flat-4.ensures.checked.sound).blocks, c.rank.ensures)
