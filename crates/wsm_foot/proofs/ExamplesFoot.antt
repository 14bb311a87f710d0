-- What single operations change and use, and what lists of them share.
use Rattle.std.proofs.Common.{◌≡◌, [], ◌∷◌, ◌++◌, Some, None, refl, true, Less, Equal, Greater}
use Rattle.wsm_lists.specs.declared.values.ElementKind.TheVariants.{Text}
use Rattle.wsm_ops.specs.declared.operations.Gap.TheVariants.{After, Head}
use Rattle.wsm_ops.specs.declared.operations.Op.TheVariants as op
use Rattle.wsm_foot.specs.declared.names.Name.TheVariants.{Node, GapAfter, GapHead, Sync, Read, Write, Element, Role}
use Rattle.wsm_foot.specs.{Order.name_cmp, Foot.{footprint, least, least_overlap}}

-- ---- the order
pub by_kind : name_cmp (Role 2) (Node 9) ≡ Greater
by_kind = refl

pub by_first_number : name_cmp (Sync 2 9) (Sync 3 1) ≡ Less
by_first_number = refl

pub by_second_number : name_cmp (GapHead 2 9) (GapHead 2 1) ≡ Greater
by_second_number = refl

pub one_name : name_cmp (Read 2 9) (Read 2 9) ≡ Equal
one_name = refl

pub the_least : least (Role 2 ∷ Sync 2 5 ∷ Node 9 ∷ Node 4 ∷ Element 0 ∷ []) ≡ Some (Node 4)
the_least = refl

pub least_of_none : least [] ≡ None
least_of_none = refl

-- ---- footprints
pub of_an_insert : footprint (op.InsertSerial 7 2 (After 5) ∷ []) ≡ (Node 7 ∷ Role 7 ∷ GapAfter 5 ∷ []) ++ (Node 5 ∷ [])
of_an_insert = refl

pub of_a_parallel_insert : footprint (op.InsertParallel 7 2 8 9 3 4 ∷ []) ≡
    (Node 7 ∷ Node 8 ∷ Node 9 ∷ Role 7 ∷ GapAfter 4 ∷ []) ++ (Node 3 ∷ Node 4 ∷ [])
of_a_parallel_insert = refl

pub of_a_choice : footprint (op.InsertConditional 7 2 8 9 (Head 3 1) ∷ []) ≡
    (Node 7 ∷ Node 8 ∷ Node 9 ∷ Role 7 ∷ Role 8 ∷ GapHead 3 1 ∷ []) ++ (Node 3 ∷ [])
of_a_choice = refl

pub of_a_deletion : footprint (op.DeleteActivity 7 ∷ []) ≡ Node 7 ∷ []
of_a_deletion = refl

pub of_a_move : footprint (op.MoveActivity 7 (After 5) ∷ []) ≡ (Node 7 ∷ GapAfter 5 ∷ []) ++ (Node 5 ∷ [])
of_a_move = refl

pub of_a_sync : footprint (op.InsertSync 7 8 ∷ []) ≡ (Sync 7 8 ∷ []) ++ (Node 7 ∷ Node 8 ∷ [])
of_a_sync = refl

pub of_an_unsync : footprint (op.DeleteSync 7 8 ∷ []) ≡ (Sync 7 8 ∷ []) ++ (Node 7 ∷ Node 8 ∷ [])
of_an_unsync = refl

pub of_an_element : footprint (op.AddElement 3 Text ∷ []) ≡ Element 3 ∷ []
of_an_element = refl

pub of_reads : footprint (op.AddRead 7 3 true ∷ op.RemoveRead 8 4 ∷ []) ≡
    (Read 7 3 ∷ Read 8 4 ∷ []) ++ (Node 7 ∷ Element 3 ∷ Node 8 ∷ Element 4 ∷ [])
of_reads = refl

pub of_writes : footprint (op.AddWrite 7 3 ∷ op.RemoveWrite 8 4 ∷ []) ≡
    (Write 7 3 ∷ Write 8 4 ∷ []) ++ (Node 7 ∷ Element 3 ∷ Node 8 ∷ Element 4 ∷ [])
of_writes = refl

pub of_a_role : footprint (op.SetRole 7 2 ∷ []) ≡ (Role 7 ∷ []) ++ (Node 7 ∷ [])
of_a_role = refl

-- ---- what two lists share
-- two inserts behind one node want one gap
pub one_gap : least_overlap (op.InsertSerial 7 0 (After 5) ∷ []) (op.InsertSerial 8 0 (After 5) ∷ []) ≡ Some (GapAfter 5)
one_gap = refl

-- a node that both use is shared by nobody
pub used_by_both : least_overlap (op.SetRole 5 1 ∷ []) (op.AddWrite 5 3 ∷ []) ≡ None
used_by_both = refl

pub changed_and_used : least_overlap (op.InsertSync 5 6 ∷ []) (op.DeleteActivity 6 ∷ []) ≡ Some (Node 6)
changed_and_used = refl

pub used_and_changed : least_overlap (op.DeleteActivity 6 ∷ []) (op.InsertSync 5 6 ∷ []) ≡ Some (Node 6)
used_and_changed = refl

pub changed_by_both : least_overlap (op.SetRole 6 1 ∷ op.AddElement 2 Text ∷ []) (op.SetRole 6 2 ∷ op.AddElement 2 Text ∷ []) ≡ Some (Element 2)
changed_by_both = refl

-- the least name, wherever it is changed
pub the_least_of_two_sides : least_overlap (op.DeleteActivity 9 ∷ op.InsertSync 4 5 ∷ []) (op.InsertSync 8 9 ∷ op.DeleteActivity 4 ∷ []) ≡ Some (Node 4)
the_least_of_two_sides = refl

pub nothing_shared : least_overlap (op.InsertSerial 7 0 (Head 3 0) ∷ []) (op.InsertSerial 8 0 (Head 3 1) ∷ []) ≡ None
nothing_shared = refl
