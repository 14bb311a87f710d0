-- Whether two cards are equal, as a test that computes.
use Rattle.std.specs.{Prelude.{ℕ, Bool, ◌&&◌, ◌==◌, nat_eq}, Bool.beq, Cmp.Lexicographic.pointwise, Option.option_eq}
use Rattle.wsm_schema.specs.{declared.cards.Card.Card, declared.cards.End.End, declared.cards.NodeKind.NodeKind}
use Rattle.wsm_schema.specs.declared.cards.NodeKind.TheVariants as node

abbrev pub kind_number : NodeKind → ℕ
kind_number node.Start = 0
kind_number node.Finish = 1
kind_number node.Activity = 2
kind_number node.AndSplit = 3
kind_number node.AndJoin = 4
kind_number node.XorSplit = 5
kind_number node.XorJoin = 6
kind_number node.LoopStart = 7
kind_number node.LoopEnd = 8

abbrev pub same_end : End → End → Bool
same_end a b = a.node == b.node && option_eq nat_eq a.label b.label

abbrev pub same_place : Card → Card → Bool
same_place a b = a.node == b.node && kind_number a.kind == kind_number b.kind && option_eq nat_eq a.partner b.partner

abbrev pub same_edges : Card → Card → Bool
same_edges a b = pointwise same_end a.ins b.ins && pointwise same_end a.outs b.outs && pointwise nat_eq a.syncs_in b.syncs_in && pointwise nat_eq a.syncs_out b.syncs_out

abbrev pub same_data : Card → Card → Bool
same_data a b = pointwise (λ r s. r.0 == s.0 && beq r.1 s.1) a.reads b.reads && pointwise nat_eq a.writes b.writes && a.role == b.role

abbrev pub same_card : Card → Card → Bool
same_card a b = same_place a b && same_edges a b && same_data a b
