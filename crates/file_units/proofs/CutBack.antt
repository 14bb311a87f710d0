-- What was added is taken back.
use Rattle.file_units.proofs.Common.{[], ◌++◌, ◌∙◌, ◌∷◌, ◌≡◌, ap, Begins, Contents, cut, Grows, IsEven, IsSettled, length, List, marks_of, refl, sym, take}

take-front : {A : Type 0} (xs rest : List A) → take (length xs) (xs ++ rest) ≡ xs
take-front [] rest = refl
take-front (x ∷ xs) rest = ap (λ l. x ∷ l) (take-front xs rest)

take-begins : {A : Type 0} (xs all : List A) → Begins xs all → take (length xs) all ≡ xs
take-begins xs all h = ap (take (length xs)) (sym h.1) ∙ take-front xs h.0

-- the names of declarations, of which there are as many as items
take-named : {A B : Type 0} (names all : List A) (items : List B) → length names ≡ length items → Begins names all → take (length items) all ≡ names
take-named names all items even h = ap (λ n. take n all) (sym even) ∙ take-begins names all h

pub cut-grown : (c d : Contents) → IsEven c → IsSettled c → Grows c d → cut (marks_of c) d ≡ c
cut-grown c d even at_rest h =
    rw (
      h.0,
      h.1,
      take-begins c.nodes d.nodes h.2,
      take-begins c.elements d.elements h.3,
      take-begins c.roles d.roles h.4,
      take-named c.types.names d.types.names c.types.items even.types h.5,
      take-begins c.types.items d.types.items h.6,
      take-named c.actors.names d.actors.names c.actors.items even.actors h.7,
      take-begins c.actors.items d.actors.items h.8,
      take-named c.cases.names d.cases.names c.cases.items even.cases h.9,
      take-begins c.cases.items d.cases.items h.10,
    ) (sym at_rest)
