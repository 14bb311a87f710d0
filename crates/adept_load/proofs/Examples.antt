-- Lines of files, computed from the definitions alone.
use Rattle.std.specs.{Prelude.{◌≡◌, [], refl, codes}, Fmt.digits}
use Rattle.adept_load.specs.{Courses.{course_of, visit_lines, first_lines, last_lines}, Lines.{line, create_line, start_line, end_line, activity_lines, entry_lines, change_lines}, Load.{head, declaration, beginning, continuation}}
use Rattle.adept_load.specs.Load.{each_case, first_phase, second_phase, last_phase, load_text}

-- a file of one case
pub one_case : load_text 1 ≡ codes "adept 1\ntype order\nelement total int\nact enter\nact pack\nact send\nwrite enter total\nread pack total\nend\ntype claim\nact enquire\nand s j\nbranch 0\nact assess\nbranch 1\nact visit\ndone\nloop l e\nact decide\ndone\nact pay\nend\nactor w1\nactor w2\nactor w3\nactor w4\nactor w5\nactor w6\nactor w7\nactor w8\nactor boss\ncase c1 order\nphase\nw1 create c1\nphase\nboss install order\ninsert check after enter\nend\nboss install claim\nsync assess visit\nend\nboss migrate order\nboss migrate claim\nboss install order\ninsert bill after pack\nend\nboss migrate order\nphase\n"
unfolding digits line create_line start_line end_line activity_lines entry_lines change_lines visit_lines course_of first_lines last_lines head declaration beginning continuation each_case first_phase second_phase last_phase load_text
one_case = refl

-- a claim is declared
pub claim : declaration 4096 ≡ codes "case c4096 claim\n"
unfolding digits declaration
claim = refl

-- an order that is created alone
pub created : beginning 11 ≡ codes "w3 create c11\n"
unfolding digits line create_line start_line end_line activity_lines entry_lines change_lines visit_lines course_of first_lines last_lines beginning
created = refl

-- an order that is entered, and what becomes of it in the last phase
pub entered : beginning 2013 ≡ codes "w5 create c2013\nw5 start c2013 enter\nw5 end c2013 enter total=2013\n"
unfolding digits line create_line start_line end_line activity_lines entry_lines change_lines visit_lines course_of first_lines last_lines beginning
entered = refl

pub entered_later : continuation 2013 ≡ codes "w5 start c2013 check\nw5 end c2013 check\n"
unfolding digits line create_line start_line end_line activity_lines entry_lines change_lines visit_lines course_of first_lines last_lines continuation
entered_later = refl

-- an order that is being packed, until the last phase
pub packing : beginning 25 ≡ codes "w1 create c25\nw1 start c25 enter\nw1 end c25 enter total=25\nw1 start c25 pack\n"
unfolding digits line create_line start_line end_line activity_lines entry_lines change_lines visit_lines course_of first_lines last_lines beginning
packing = refl

pub packing_later : continuation 25 ≡ codes "w1 end c25 pack\n"
unfolding digits line create_line start_line end_line activity_lines entry_lines change_lines visit_lines course_of first_lines last_lines continuation
packing_later = refl

-- an order that is sent
pub sent : beginning 7 ≡ codes "w7 create c7\nw7 start c7 enter\nw7 end c7 enter total=7\nw7 start c7 pack\nw7 end c7 pack\nw7 start c7 send\nw7 end c7 send\n"
unfolding digits line create_line start_line end_line activity_lines entry_lines change_lines visit_lines course_of first_lines last_lines beginning
sent = refl

-- an order that is changed
pub extended : beginning 4009 ≡ codes "w1 create c4009\nw1 change c4009\ninsert extra after enter\nend\n"
unfolding digits line create_line start_line end_line activity_lines entry_lines change_lines visit_lines course_of first_lines last_lines beginning
extended = refl

-- a claim that is enquired into
pub enquired : beginning 10 ≡ codes "w2 create c10\nw2 start c10 enquire\nw2 end c10 enquire\n"
unfolding digits line create_line start_line end_line activity_lines entry_lines change_lines visit_lines course_of first_lines last_lines beginning
enquired = refl

-- a claim that is assessed, and then visited
pub visited : beginning 12 ≡ codes "w4 create c12\nw4 start c12 enquire\nw4 end c12 enquire\nw4 start c12 assess\nw4 end c12 assess\nw4 start c12 visit\nw4 end c12 visit\n"
unfolding digits line create_line start_line end_line activity_lines entry_lines change_lines visit_lines course_of first_lines last_lines beginning
visited = refl

-- a claim that is visited, and then assessed
pub assessed : beginning 14 ≡ codes "w6 create c14\nw6 start c14 enquire\nw6 end c14 enquire\nw6 start c14 visit\nw6 end c14 visit\nw6 start c14 assess\nw6 end c14 assess\n"
unfolding digits line create_line start_line end_line activity_lines entry_lines change_lines visit_lines course_of first_lines last_lines beginning
assessed = refl

-- a claim whose decision is made again
pub repeated : beginning 4086 ≡ codes "w6 create c4086\nw6 start c4086 enquire\nw6 end c4086 enquire\nw6 start c4086 assess\nw6 end c4086 assess\nw6 start c4086 visit\nw6 end c4086 visit\nw6 start c4086 decide\nw6 end c4086 decide\nw6 start c4086 e\nw6 end c4086 e choice 1\n"
unfolding digits line create_line start_line end_line activity_lines entry_lines change_lines visit_lines course_of first_lines last_lines beginning
repeated = refl

-- a claim that is changed
pub linked : beginning 18 ≡ codes "w2 create c18\nw2 change c18\nsync visit assess\nend\n"
unfolding digits line create_line start_line end_line activity_lines entry_lines change_lines visit_lines course_of first_lines last_lines beginning
linked = refl

-- the others have no lines in the last phase
pub sent_later : continuation 7 ≡ []
unfolding digits line create_line start_line end_line activity_lines entry_lines change_lines visit_lines course_of first_lines last_lines continuation
sent_later = refl
