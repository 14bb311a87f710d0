-- The tokens of a tree, and the tree of tokens.
use Rattle.wsm_schema.proofs.{Common.{[], ◌∷◌, ◌≡◌, refl, xor_gate}, ExampleSchemas.{choice_tree, writing_loop}}
use Rattle.wsm_schema.specs.Tokens.{tokens, tree_of, an_act, open_gate, open_loop, a_branch, close}

pub tokens_of_a_choice : tokens choice_tree ≡ open_gate xor_gate 2 3 ∷ a_branch 0 ∷ a_branch 1 ∷ an_act 4 ∷ close ∷ an_act 5 ∷ []
tokens_of_a_choice = refl

pub a_choice_again : tree_of (open_gate xor_gate 2 3 ∷ a_branch 0 ∷ a_branch 1 ∷ an_act 4 ∷ close ∷ an_act 5 ∷ []) ≡ choice_tree
a_choice_again = refl

pub tokens_of_a_loop : tokens writing_loop.body ≡ open_loop 2 3 ∷ an_act 4 ∷ open_gate xor_gate 5 6 ∷ a_branch 0 ∷ a_branch 1 ∷ an_act 7 ∷ close ∷ close ∷ []
tokens_of_a_loop = refl
