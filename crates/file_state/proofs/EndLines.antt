-- The end of a node, read step by step.
use Rattle.std.proofs.Common.{◌≡◌, ℕ, List, Option, Some, refl, subst, sym}
use Rattle.file_words.specs.Lines.{Bytes}
use Rattle.file_forms.specs.Forms.{to_end}
use Rattle.file_model.specs.{Scripting.{acted, case_in, if_known, numbered, with_elements, with_line}, Steps.{node_in, with_node}, declared.states.Contents.Contents}
use Rattle.file_model.specs.declared.files.Act.TheVariants as act
use Rattle.wsm_lists.specs.declared.values.Value.{Value}
use Rattle.wsm_sound.specs.declared.versions.CaseId.{CaseId}

-- the case is found, then the node gets its number, then the elements get theirs
pub end_acted : (n m : Bytes) (choice : Option ℕ) (ws : List (Bytes × Value)) (actor at : ℕ) (before noted after : Contents) (id : CaseId) (node : ℕ) (values : List (ℕ × Value))
    → case_in n before ≡ Some id → node ≡ node_in m before → noted ≡ with_node m before → values ≡ numbered ws noted → after ≡ with_elements ws noted
    → acted (to_end n m choice ws) actor at before ≡ with_line at actor (act.End id node choice values) after
end_acted n m choice ws actor at before noted after id node values found number with elements then =
    subst (λ o. if_known o (λ i. with_line at actor (act.End i (node_in m before) choice (numbered ws (with_node m before))) (with_elements ws (with_node m before))) before ≡ with_line at actor (act.End id node choice values) after)
    (sym found) (rw (then, elements, with, number) refl)
