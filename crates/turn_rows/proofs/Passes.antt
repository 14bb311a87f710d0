-- Passes of cells, place by place.
use Rattle.turn_rows.proofs.Common.{[], ℕ, ◌++◌, ◌<◌, ◌∙◌, ◌∷◌, ◌≡◌, ap, AreOf, AreOpened, arith, Cell, cell_id, first_of, get_or, IsPassOf, length, List, Pass, set, suc, sym, view_of, zero}

module _ {M E R W S : Type 0} {g : _} where
  -- the pass at a place is of the cell there
  pub of_cell : (cs : List (Cell M E R W S)) (ps : List (Pass M E R W S g)) (n : ℕ) (c : Cell M E R W S) (d : Pass M E R W S g) → AreOf cs ps → n < length cs → c ≡ get_or cs n c → IsPassOf c (get_or ps n d)
  of_cell [] [] n c d k lt e = absurd (omega arith)
  of_cell [] (q ∷ ps) n c d k lt e = absurd k
  of_cell (b ∷ cs) [] n c d k lt e = absurd k
  of_cell (b ∷ cs) (q ∷ ps) zero c d k lt e = k.0 ∙ ap cell_id (sym e)
  of_cell (b ∷ cs) (q ∷ ps) (suc n) c d k lt e = of_cell cs ps n c d k.1 (omega arith) e

  -- another pass of that cell in its place
  pub AreOf-set : (cs : List (Cell M E R W S)) (ps : List (Pass M E R W S g)) (n : ℕ) (c : Cell M E R W S) (p : Pass M E R W S g) → AreOf cs ps → c ≡ get_or cs n c → IsPassOf c p → AreOf cs (set ps n p)
  AreOf-set [] [] n c p k e new = tt
  AreOf-set [] (q ∷ ps) n c p k e new = absurd k
  AreOf-set (b ∷ cs) [] n c p k e new = absurd k
  AreOf-set (b ∷ cs) (q ∷ ps) zero c p k e new = (new ∙ ap cell_id e, k.1)
  AreOf-set (b ∷ cs) (q ∷ ps) (suc n) c p k e new = (k.0, AreOf-set cs ps n c p k.1 e new)

  -- one cell more, and its pass
  pub AreOf-push : (cs : List (Cell M E R W S)) (ps : List (Pass M E R W S g)) (c : Cell M E R W S) (p : Pass M E R W S g) → AreOf cs ps → IsPassOf c p → AreOf (cs ++ c ∷ []) (ps ++ p ∷ [])
  AreOf-push [] [] c p k new = (new, tt)
  AreOf-push [] (q ∷ ps) c p k new = absurd k
  AreOf-push (b ∷ cs) [] c p k new = absurd k
  AreOf-push (b ∷ cs) (q ∷ ps) c p k new = (k.0, AreOf-push cs ps c p k.1 new)

  pub AreOpened-push : (state : M → S) (ms : List M) (cs : List (Cell M E R W S)) (ps : List (Pass M E R W S g)) (m : M) (c : Cell M E R W S) (p : Pass M E R W S g) → AreOpened state ms cs ps → view_of p ≡ first_of (cell_id c) (state m)
      → AreOpened state (ms ++ m ∷ []) (cs ++ c ∷ []) (ps ++ p ∷ [])
  AreOpened-push state [] [] [] m c p k new = (new, tt)
  AreOpened-push state (l ∷ ms) (b ∷ cs) (q ∷ ps) m c p k new = (k.0, AreOpened-push state ms cs ps m c p k.1 new)
  AreOpened-push state _ _ _ m c p k new = absurd k

  -- the first passes of cells are passes of them
  pub opened-of : (state : M → S) (ms : List M) (cs : List (Cell M E R W S)) (ps : List (Pass M E R W S g)) → AreOpened state ms cs ps → AreOf cs ps
  opened-of state [] [] [] k = tt
  opened-of state (m ∷ ms) (c ∷ cs) (p ∷ ps) k = (ap (λ v. v.cell) k.0, opened-of state ms cs ps k.1)
  opened-of state _ _ _ k = absurd k
