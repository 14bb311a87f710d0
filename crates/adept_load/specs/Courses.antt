-- What becomes of the cases.
use Rattle.std.specs.Prelude.{ℕ, ◌%◌, List, [], ◌∷◌, ◌++◌, codes, slice_index_or}
use Rattle.adept_load.specs.{Lines.{start_line, end_line, activity_lines, entry_lines, change_lines}, declared.courses.Course.Course}
use Rattle.adept_load.specs.declared.courses.Course.TheVariants as course

-- the courses by the last digit of a case's number, from 0
abbrev pub courses : List Course
courses = course.Enquired ∷ course.Created ∷ course.Visited ∷ course.Entered ∷ course.Assessed ∷ course.Packing ∷ course.Repeated ∷ course.Sent ∷ course.Linked ∷ course.Extended ∷ []

unfoldable pub course_of : ℕ → Course
course_of i = slice_index_or courses (i % 10) course.Created

-- a claim is assessed, and then visited
unfoldable pub visit_lines : ℕ → List ℕ
visit_lines i = activity_lines i (codes "enquire") ++ (activity_lines i (codes "assess") ++ activity_lines i (codes "visit"))

-- the lines of a case in the first phase, behind the one that creates it
unfoldable pub first_lines : Course → ℕ → List ℕ
first_lines course.Created i = []
first_lines course.Entered i = entry_lines i
first_lines course.Packing i = entry_lines i ++ start_line i (codes "pack")
first_lines course.Sent i = entry_lines i ++ (activity_lines i (codes "pack") ++ activity_lines i (codes "send"))
first_lines course.Extended i = change_lines i (codes "insert extra after enter")
first_lines course.Enquired i = activity_lines i (codes "enquire")
first_lines course.Visited i = visit_lines i
first_lines course.Assessed i = activity_lines i (codes "enquire") ++ (activity_lines i (codes "visit") ++ activity_lines i (codes "assess"))
first_lines course.Repeated i = visit_lines i ++ (activity_lines i (codes "decide") ++ (start_line i (codes "e") ++ end_line i (codes "e choice 1")))
first_lines course.Linked i = change_lines i (codes "sync visit assess")

-- the lines of a case in the last phase
unfoldable pub last_lines : Course → ℕ → List ℕ
last_lines course.Entered i = activity_lines i (codes "check")
last_lines course.Packing i = end_line i (codes "pack")
last_lines _ i = []
