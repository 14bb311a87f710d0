use Rattle.std.proofs.Common.{[]}
use Rattle.store_tests.proofs.disks.record_is_written.Given as goal

abbrev pub ghost-append : goal.ghost-append
ghost-append g a = []
