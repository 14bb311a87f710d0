use Rattle.case_audit.proofs.{Common.{◌∙◌, MatchOption, None, Option, Some}, Names.{no-word, word-then}}
use Rattle.case_audit.proofs.callers.begins_with_word.Goals as goal

pub returns-in-None : goal.returns-in-None
returns-in-None c = no-word c.args.word.now c.args.text.now c.in-None.ensures.cases

firsts : {A : Type 0} (o : Option A) (P Q : Type 0) (R S : A → Type 0) → MatchOption o P (λ x. Q × R x × S x) → MatchOption o P (λ x. Q)
firsts None P Q R S h = h
firsts (Some x) P Q R S h = h.0

pub returns-in-Some : goal.returns-in-Some
returns-in-Some c =
    c.is_some.ensures
    ∙ word-then c.args.word.now c.args.text.now c.in-Some.behind.now c.strip_prefix-in-Some.result c.in-Some.ensures.cases.0 c.in-Some.ensures.cases.1 (firsts c.strip_prefix-in-Some.result _ _ _ _ c.strip_prefix-in-Some.ensures.cases)
