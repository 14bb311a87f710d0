-- What an image begins with, by its first frame.
use Rattle.talk_server.proofs.Common.{[], ℕ, ◌++◌, ◌∙◌, ◌∷◌, ◌≡◌, ap, arith, closed, damaged, frame, framed, Frames, frames, frames_from, header, IsFrame, IsFront, length, List, one_framed, opened, opened_by, opened_from, refl, subst, sym}
use Rattle.talk_server.proofs.Common.{UnitRules, with_gate}
use Rattle.store_disk.specs.declared.frames.Frame.TheVariants as front_frame
use Rattle.talk_server.specs.declared.fronts.Front.TheVariants as front

-- bytes of an image with a gate are framed from their front
pub frames-whole : (image : List ℕ) → with_gate image ≡ image → frames_from 0 0 image ≡ frames image
frames-whole [] gate = absurd cc
frames-whole (b ∷ []) gate = let is : b ≡ 0 = cc in subst (λ x. frames_from 0 0 (x ∷ []) ≡ closed 0) (sym is) refl
frames-whole (b ∷ c ∷ rest) gate = refl

-- the header's record in front
pub header-frames : (image records : List ℕ) → image ≡ framed header ++ records → frames image ≡ frame 0 header (frames_from 13 0 records)
header-frames image records is = ap frames is ∙ one_framed header records 0 (omega arith)

pub header-opened : (rules : UnitRules) (image records : List ℕ) → image ≡ framed header ++ records → opened rules image ≡ opened_from rules [] (frames_from 13 0 records)
header-opened rules image records is = ap (opened_by rules (length image)) (header-frames image records is)

module _ (image : List ℕ) (gate : with_gate image ≡ image) where
  first-is : (f : Frames) → frames_from 0 0 image ≡ f → (rules : UnitRules) → opened rules image ≡ opened_by rules (length image) f
  first-is f is rules = ap (opened_by rules (length image)) (sym (frames-whole image gate) ∙ is)

  pub front-damaged : IsFrame image front_frame.Damaged → IsFront image front.Other
  front-damaged cut = λ rules. first-is (damaged 0) (cut 0) rules
