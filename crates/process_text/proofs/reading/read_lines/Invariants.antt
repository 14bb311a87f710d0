use Rattle.process_text.proofs.Common.{◌*◌, ◌+◌, ◌≡◌, ◌≤◌, at_place, count_of_names, file_up_to, length, lines_of, Ok, read_from}
use Rattle.process_text.proofs.reading.read_lines.Given as goal

abbrev pub invariant-loop-line : goal.invariant-loop-line
invariant-loop-line l = record {
  counted : l.at + length l.rest ≤ 1 + length l.bytes;
  room : count_of_names l.contents + 7 * length l.rest ≤ 2 + 7 * length l.bytes;
  left : read_from (Ok (at_place l.place l.contents)) l.at (lines_of l.rest).left (lines_of l.rest).ended ≡ file_up_to l.newest l.bytes;
}

abbrev pub decreases-loop-line : goal.decreases-loop-line
decreases-loop-line l = length l.rest
