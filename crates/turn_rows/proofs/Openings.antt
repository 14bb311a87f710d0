-- Machines of which the first have cells.
use Rattle.turn_rows.proofs.{Common.{[], ◌++◌, ◌∙◌, ◌∷◌, ◌≡◌, All, All-head, All-tail, ap, append-nil, append_assoc, AreOpened, Cell, cell_id, first_of, length, List, nil_from_length, Pass, refl, sym, view_of}, Passes.AreOpened-push}
use Rattle.turn_cell.specs.declared.machine.Machine.{Ghosts}

module _ {M E R W S : Type 0} {g : Ghosts M E R W S} (state : M → S) (young : M → Type 0) where
  -- The first of ms have the cells cs with the first passes ps, and these machines are left.
  pub record HaveOpened (ms : List M) (cs : List (Cell M E R W S)) (ps : List (Pass M E R W S g)) (left : List M) : Type 0 where
    pub can : All young left
    pub done : List M
    pub opened : AreOpened state done cs ps
    pub parts : ms ≡ done ++ left

  pub none_opened : (ms : List M) → All young ms → HaveOpened ms [] [] ms
  none_opened ms can = record { can = can; done = []; opened = tt; parts = refl }

  module _ {ms : List M} {cs : List (Cell M E R W S)} {ps : List (Pass M E R W S g)} {left : List M} (k : HaveOpened ms cs ps left) where
    module _ {m : M} {then_left : List M} (are : left ≡ m ∷ then_left) where
      pub next_young : young m
      next_young = All-head young m then_left (rw are at k.can)

      pub one_more_opened : (c : Cell M E R W S) (p : Pass M E R W S g) → view_of p ≡ first_of (cell_id c) (state m) → HaveOpened ms (cs ++ c ∷ []) (ps ++ p ∷ []) then_left
      one_more_opened c p first = record {
        can = All-tail young m then_left (rw are at k.can);
        done = k.done ++ m ∷ [];
        opened = AreOpened-push state k.done cs ps m c p k.opened first;
        parts = k.parts ∙ (ap (λ xs. k.done ++ xs) are ∙ sym (append_assoc k.done (m ∷ []) then_left));
      }

    pub all_opened : length left ≡ 0 → AreOpened state ms cs ps
    all_opened none =
        let all : ms ≡ k.done = k.parts ∙ (ap (λ xs. k.done ++ xs) (nil_from_length left none) ∙ append-nil k.done) in
        rw all k.opened
