-- Rows of which the first cells were closed.
use Rattle.turn_rows.proofs.Common.{[], ◌++◌, ◌∙◌, ◌∷◌, ◌≡◌, All, All-head, All-tail, all_zipped_more, AllZip, ap, append-nil, append_assoc, AreOf, CanClose, Cell, IsClosedAs, IsPassOf, length, List, map_push, nil_from_length, Pass, refl}
use Rattle.turn_rows.proofs.Common.{sym, view_of, views}
use Rattle.turn_cell.specs.declared.journal.Closed.{Closed}

module _ {M E R W S : Type 0} (after : S → E → S) (reply : S → E → R) (state : M → S) {g : _} where
  -- The cells of the first of ps were closed, as cs. These cells are left, with these passes.
  pub record HaveClosed (ps : List (Pass M E R W S g)) (cs : List (Closed M E R W S)) (cells_left : List (Cell M E R W S)) (left : List (Pass M E R W S g)) : Type 0 where
    pub of : AreOf cells_left left
    pub can : All CanClose (views left)
    pub done : List (Pass M E R W S g)
    pub closed : AllZip (IsClosedAs after reply state) (views done) cs
    pub parts : ps ≡ done ++ left

  pub none_closed : (cells : List (Cell M E R W S)) (ps : List (Pass M E R W S g)) → AreOf cells ps → All CanClose (views ps) → HaveClosed ps [] cells ps
  none_closed cells ps of can = record { of = of; can = can; done = []; closed = tt; parts = refl }

  module _ {ps : List (Pass M E R W S g)} {cs : List (Closed M E R W S)} {cells_left : List (Cell M E R W S)} {left : List (Pass M E R W S g)} (k : HaveClosed ps cs cells_left left) where
    module _ {c : Cell M E R W S} {cells_then : List (Cell M E R W S)} {p : Pass M E R W S g} {then_left : List (Pass M E R W S g)} (cells_are : cells_left ≡ c ∷ cells_then) (are : left ≡ p ∷ then_left) where
      pub next_of : IsPassOf c p
      next_of = (rw (cells_are, are) at k.of).0

      pub next_can : CanClose (view_of p)
      next_can = All-head CanClose (view_of p) (views then_left) (rw are at k.can)

      pub one_more_closed : (new : Closed M E R W S) → IsClosedAs after reply state (view_of p) new → HaveClosed ps (cs ++ new ∷ []) cells_then then_left
      one_more_closed new is = record {
        of = (rw (cells_are, are) at k.of).1;
        can = All-tail CanClose (view_of p) (views then_left) (rw are at k.can);
        done = k.done ++ p ∷ [];
        closed = rw (map_push view_of k.done p) (all_zipped_more (IsClosedAs after reply state) (views k.done) cs (view_of p) new k.closed is);
        parts = k.parts ∙ (ap (λ xs. k.done ++ xs) are ∙ sym (append_assoc k.done (p ∷ []) then_left));
      }

    pub all_closed : length left ≡ 0 → AllZip (IsClosedAs after reply state) (views ps) cs
    all_closed none =
        let all : ps ≡ k.done = k.parts ∙ (ap (λ xs. k.done ++ xs) (nil_from_length left none) ∙ append-nil k.done) in
        rw all k.closed
