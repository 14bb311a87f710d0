-- How long the file is at most, line by line, where there are at most 4096 cases.
use Rattle.std.proofs.{Common.{◌≡◌, ℕ, zero, suc, ◌+◌, ◌-◌, ◌*◌, ◌%◌, ◌<◌, ◌≤◌, List, [], ◌∷◌, ◌++◌, length, length-append, lit<, arith}, lemmas.Fmt.length-decimal-le}
use Rattle.std.specs.{List.{flat_map, range_with_len}, Prelude.{codes, decimal}}
use Rattle.adept_load.specs.{Courses.{courses, course_of, visit_lines, first_lines, last_lines}, Lines.{worker, line, create_line, start_line, end_line, activity_lines, entry_lines, change_lines}, Load.{head, declaration, beginning}}
use Rattle.adept_load.specs.{Load.{continuation, each_case, first_phase, second_phase, last_phase, load_text}, declared.courses.Course.Course}
use Rattle.adept_load.specs.declared.courses.Course.TheVariants as course

-- a case's number has at most four digits, and its worker's one
number-length : (i : ℕ) → i ≤ 4096 → length (decimal i) ≤ 4
number-length i h = length-decimal-le 4 i (lit< tt) (omega arith) (omega arith)

worker-length : (i : ℕ) → length (decimal (worker i)) ≤ 1
worker-length i = length-decimal-le 1 (worker i) (lit< tt) (omega arith) (omega arith)

line-length : (i : ℕ) (step said : List ℕ) → i ≤ 4096 → length (line i step said) ≤ 10 + (length step + length said)
unfolding line
line-length i step said h = simp length-append (omega (arith, number-length i h, worker-length i))

start_line-length : (i : ℕ) (act : List ℕ) → i ≤ 4096 → length (start_line i act) ≤ 16 + length act
unfolding start_line
start_line-length i act h = omega (arith, line-length i (codes "start") (codes " " ++ act) h, length-append (codes " ") act)

end_line-length : (i : ℕ) (act : List ℕ) → i ≤ 4096 → length (end_line i act) ≤ 14 + length act
unfolding end_line
end_line-length i act h = omega (arith, line-length i (codes "end") (codes " " ++ act) h, length-append (codes " ") act)

activity_lines-length : (i : ℕ) (act : List ℕ) → i ≤ 4096 → length (activity_lines i act) ≤ 30 + 2 * length act
unfolding activity_lines
activity_lines-length i act h = omega (arith, length-append (start_line i act) (end_line i act), start_line-length i act h, end_line-length i act h)

entry_lines-length : (i : ℕ) → i ≤ 4096 → length (entry_lines i) ≤ 51
unfolding entry_lines
entry_lines-length i h =
    let total = codes "enter total=" ++ decimal i in
    omega (arith, length-append (start_line i (codes "enter")) (end_line i total), start_line-length i (codes "enter") h, end_line-length i total h, length-append (codes "enter total=") (decimal i), number-length i h)

change_lines-length : (i : ℕ) (operation : List ℕ) → i ≤ 4096 → length (change_lines i operation) ≤ 21 + length operation
unfolding change_lines
change_lines-length i operation h =
    simp length-append (omega (arith, line-length i (codes "change") [] h))

visit_lines-length : (i : ℕ) → i ≤ 4096 → length (visit_lines i) ≤ 126
unfolding visit_lines
visit_lines-length i h =
    simp length-append (omega (arith, activity_lines-length i (codes "enquire") h, activity_lines-length i (codes "assess") h, activity_lines-length i (codes "visit") h))

first_lines-length : (c : Course) (i : ℕ) → i ≤ 4096 → length (first_lines c i) ≤ 250
unfolding first_lines
first_lines-length course.Created i h = omega arith
first_lines-length course.Entered i h = omega (arith, entry_lines-length i h)
first_lines-length course.Packing i h = simp length-append (omega (arith, entry_lines-length i h, start_line-length i (codes "pack") h))
first_lines-length course.Sent i h = simp length-append (omega (arith, entry_lines-length i h, activity_lines-length i (codes "pack") h, activity_lines-length i (codes "send") h))
first_lines-length course.Extended i h = omega (arith, change_lines-length i (codes "insert extra after enter") h)
first_lines-length course.Enquired i h = omega (arith, activity_lines-length i (codes "enquire") h)
first_lines-length course.Visited i h = omega (arith, visit_lines-length i h)
first_lines-length course.Assessed i h =
    simp length-append (omega (arith, activity_lines-length i (codes "enquire") h, activity_lines-length i (codes "visit") h, activity_lines-length i (codes "assess") h))
first_lines-length course.Repeated i h =
    simp length-append (omega (arith, visit_lines-length i h, activity_lines-length i (codes "decide") h, start_line-length i (codes "e") h, end_line-length i (codes "e choice 1") h))
first_lines-length course.Linked i h = omega (arith, change_lines-length i (codes "sync visit assess") h)

last_lines-length : (c : Course) (i : ℕ) → i ≤ 4096 → length (last_lines c i) ≤ 50
unfolding last_lines
last_lines-length course.Entered i h = omega (arith, activity_lines-length i (codes "check") h)
last_lines-length course.Packing i h = omega (arith, end_line-length i (codes "pack") h)
last_lines-length _ i h = omega arith

declaration-length : (i : ℕ) → i ≤ 4096 → length (declaration i) ≤ 20
unfolding declaration
declaration-length i h = grind (arith, number-length i h, length-append)

beginning-length : (i : ℕ) → i ≤ 4096 → length (beginning i) ≤ 300
unfolding beginning create_line
beginning-length i h =
    omega (arith, length-append (create_line i) (first_lines (course_of i) i), line-length i (codes "create") [] h, first_lines-length (course_of i) i h)

continuation-length : (i : ℕ) → i ≤ 4096 → length (continuation i) ≤ 50
unfolding continuation
continuation-length i h = last_lines-length (course_of i) i h

-- where no case has more than so many bytes
range-length : (lines : ℕ → List ℕ) (most a n : ℕ) → ((i : ℕ) → i < a + n → length (lines i) ≤ most) → length (flat_map lines (range_with_len a n)) ≤ n * most
range-length lines most a zero each = omega arith
range-length lines most a (suc n) each =
    omega (arith, length-append (lines a) (flat_map lines (range_with_len (a + 1) n)), each a (omega arith), range-length lines most (a + 1) n (λ i h. each i (omega arith)))

each_case-length : (lines : ℕ → List ℕ) (most n : ℕ) → n ≤ 4096 → ((i : ℕ) → i ≤ 4096 → length (lines i) ≤ most) → length (each_case lines n) ≤ n * most
unfolding each_case
each_case-length lines most n h each = range-length lines most 1 n (λ i within. each i (omega arith))

pub load_text_is_short : (n : ℕ) → n ≤ 4096 → length (load_text n) < 4194304
unfolding head second_phase first_phase last_phase load_text
load_text_is_short n h =
    simp length-append (omega (arith, each_case-length declaration 20 n h declaration-length, each_case-length beginning 300 n h beginning-length, each_case-length continuation 50 n h continuation-length))
