-- The text of a large process file: cases of two types, which eight workers work, and whose types an engineer changes.
use Rattle.std.specs.{Prelude.{ℕ, ◌%◌, ◌==◌, List, ◌++◌, if◌then◌else◌, codes, decimal}, List.{flat_map, range_with_len}}
use Rattle.adept_load.specs.{Courses.{course_of, first_lines, last_lines}, Lines.create_line}

-- the types and the actors
unfoldable pub head : List ℕ
head =
    codes "adept 1\n"
    ++ (codes "type order\nelement total int\nact enter\nact pack\nact send\nwrite enter total\nread pack total\nend\n"
    ++ (codes "type claim\nact enquire\nand s j\nbranch 0\nact assess\nbranch 1\nact visit\ndone\nloop l e\nact decide\ndone\nact pay\nend\n"
    ++ codes "actor w1\nactor w2\nactor w3\nactor w4\nactor w5\nactor w6\nactor w7\nactor w8\nactor boss\n"))

-- every second case is an order, the others are claims
unfoldable pub declaration : ℕ → List ℕ
declaration i = codes "case c" ++ (decimal i ++ (codes " " ++ ((if i % 2 == 1 then codes "order" else codes "claim") ++ codes "\n")))

-- the lines of a case in the first phase, and in the last
unfoldable pub beginning : ℕ → List ℕ
beginning i = create_line i ++ first_lines (course_of i) i

unfoldable pub continuation : ℕ → List ℕ
continuation i = last_lines (course_of i) i

-- the lines of the cases from 1 to n, one case behind the other
unfoldable pub each_case : (ℕ → List ℕ) → ℕ → List ℕ
each_case lines n = flat_map lines (range_with_len 1 n)

-- the first phase: the cases begin
unfoldable pub first_phase : ℕ → List ℕ
first_phase n = codes "phase\n" ++ each_case beginning n

-- the second: orders get two new versions and claims one, and the cases migrate
unfoldable pub second_phase : List ℕ
second_phase =
    codes "phase\n"
    ++ (codes "boss install order\ninsert check after enter\nend\n"
    ++ (codes "boss install claim\nsync assess visit\nend\n"
    ++ (codes "boss migrate order\nboss migrate claim\n"
    ++ codes "boss install order\ninsert bill after pack\nend\nboss migrate order\n")))

-- the last: some cases go on
unfoldable pub last_phase : ℕ → List ℕ
last_phase n = codes "phase\n" ++ each_case continuation n

-- the whole file
unfoldable pub load_text : ℕ → List ℕ
load_text n = head ++ (each_case declaration n ++ (first_phase n ++ (second_phase ++ last_phase n)))
