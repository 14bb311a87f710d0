-- Talks, computed from the definitions alone.
use Rattle.turn_loop.proofs.Common.{codes, held_at_last, line_ends, line_rules, said, split, turns_of}
use Rattle.std.specs.Prelude.{◌≡◌, true, [], ◌∷◌, refl}

two_lines : split line_ends (codes "+a\nb\nrest") ≡ record { items = codes "+a\n" ∷ codes "b\n" ∷ []; rest = codes "rest" }
two_lines = refl

answers_to_all : said line_rules [] (codes "+a\nb\n+c\nrest") ≡ codes "+\n-\n+\n-\n"
answers_to_all = refl

held_of_all : held_at_last line_rules (codes "+x\n" ∷ []) (codes "+a\nb\n+c\nrest") ≡ codes "+x\n" ∷ codes "+a\n" ∷ codes "+c\n" ∷ []
held_of_all = refl

-- an item is of the turn of the read with which it ends, and a read without an end of an item has no turn
turns_of_reads : turns_of line_rules true [] [] (codes "+a\n\nb" ∷ codes "c" ∷ codes "\n+d\nrest" ∷ [])
    ≡ (codes "+a\n" ∷ codes "\n" ∷ []) ∷ (codes "bc\n" ∷ codes "+d\n" ∷ []) ∷ []
turns_of_reads = refl
