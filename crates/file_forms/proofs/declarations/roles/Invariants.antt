use Rattle.std.proofs.Common.{◌≡◌, ◌++◌, map, drop, option_map}
use Rattle.file_words.specs.Shown.{shown}
use Rattle.file_forms.specs.{DeclarationForms.roles, Shown.shown_role}
use Rattle.file_forms.proofs.declarations.roles.Given as goal

abbrev pub invariant-loop-word : goal.invariant-loop-word
invariant-loop-word l = option_map (λ rs. map shown_role l.all.items ++ rs) (roles l.format (shown (drop l.word-index l.words))) ≡ roles l.format (shown l.words)
