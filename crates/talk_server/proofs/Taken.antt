-- The records behind the header's, taken one after another.
use Rattle.talk_server.proofs.Common.{[], ℕ, ◌++◌, ◌+◌, ◌<◌, ◌^◌, ◌∙◌, ◌∷◌, ◌≡◌, all_framed, all_short, ap, append_assoc, arith, Bool, Bytes, closes, damaged_at, drop, false, frame, framed, framed-more, frames_from, header, if◌then◌else◌}
use Rattle.talk_server.proofs.Common.{is_next, IsFrame, IsHeld, length, length-append, length-drop, length-take-le, List, one_framed, opened_from, refl, subst, sym, take, true, u32, UnitRules}
use Rattle.std.specs.List.{AllByRecursion}
use Rattle.store_disk.specs.declared.frames.Frame.TheVariants as front

-- how far the records have been taken
pub record Taken {H : Type 0} (rules : UnitRules) (keeps : H → List Bytes → Type 0) (records rest : List ℕ) (place : ℕ) (state : H) : Type 0 where
  pub units : List Bytes
  pub kept : keeps state units
  pub parts : framed header ++ records ≡ all_framed (header ∷ units) ++ rest
  pub stands : place ≡ length (all_framed (header ∷ units))
  pub short : AllByRecursion (λ p. length p < 2 ^ 32) (header ∷ units)
  pub told : opened_from rules units (frames_from place 0 rest) ≡ opened_from rules [] (frames_from 13 0 records)
  pub long : place + length rest ≡ 13 + length records

module _ {H : Type 0} (rules : UnitRules) (keeps : H → List Bytes → Type 0) (records : List ℕ) where
  pub begins : (state : H) → keeps state [] → Taken rules keeps records records 13 state
  begins state kept = record {
    units = [];
    kept = kept;
    parts = refl;
    stands = refl;
    short = (omega arith, tt);
    told = refl;
    long = refl;
  }

  module _ (rest : List ℕ) (place : ℕ) (state : H) (so_far : Taken rules keeps records rest place state) where
    pub ends-here : IsFrame rest front.Closed → IsHeld rules keeps records state place
    ends-here (gate, behind, shut, is) = record {
      units = so_far.units;
      kept = so_far.kept;
      told = sym so_far.told ∙ ap (λ r. opened_from rules so_far.units (frames_from place 0 r)) is ∙ ap (opened_from rules so_far.units) (closes gate behind place shut);
      ends = record {
        gate = gate;
        behind = behind;
        shut = shut;
        stands = so_far.stands;
        short = so_far.short;
        bytes = so_far.parts ∙ ap (λ l. all_framed (header ∷ so_far.units) ++ l) is;
      };
    }

    pub cut-here : IsFrame rest front.Damaged → opened_from rules [] (frames_from 13 0 records) ≡ damaged_at place
    cut-here cut = sym so_far.told ∙ ap (opened_from rules so_far.units) (cut place)

    module _ (len : ℕ) (p after : List ℕ) (here : IsFrame rest (front.Record len)) (bytes : p ≡ take len (drop 5 rest)) (behind : after ≡ drop (5 + len) rest) where
      size : length p ≡ len
      size = ap length bytes ∙ length-take-le len (drop 5 rest) (omega (arith, length-drop 5 rest, here.0))

      cut : rest ≡ framed p ++ after
      cut = here.2 ∙ ap (λ q. framed q ++ drop (5 + len) rest) (sym bytes) ∙ ap (λ a. framed p ++ a) (sym behind)

      first : frames_from place 0 rest ≡ frame place p (frames_from (place + (5 + length p)) 0 after)
      first = ap (frames_from place 0) cut ∙ one_framed p after place (omega (arith, size, here.1))

      -- whether it is the next unit
      by-next : (b : Bool) → is_next rules so_far.units p ≡ b
          → (if b then opened_from rules (so_far.units ++ p ∷ []) (frames_from (place + (5 + length p)) 0 after) else damaged_at place) ≡ opened_from rules [] (frames_from 13 0 records)
      by-next b is =
          sym (ap (opened_from rules so_far.units) first ∙ ap (λ t. if t then opened_from rules (so_far.units ++ p ∷ []) (frames_from (place + (5 + length p)) 0 after) else damaged_at place) is)
          ∙ so_far.told

      -- it is not
      pub refused-here : is_next rules so_far.units p ≡ false → opened_from rules [] (frames_from 13 0 records) ≡ damaged_at place
      refused-here other = sym (by-next false other)

      -- it is
      go-on : (next : H) → is_next rules so_far.units p ≡ true → keeps next (so_far.units ++ p ∷ []) → Taken rules keeps records after (place + (5 + length p)) next
      go-on next same kept =
          let before = header ∷ so_far.units in
          let longer : all_framed (header ∷ (so_far.units ++ p ∷ [])) ≡ all_framed before ++ framed p = framed-more before p in
          record {
            units = so_far.units ++ p ∷ [];
            kept = kept;
            parts = so_far.parts ∙ ap (λ l. all_framed before ++ l) cut ∙ sym (append_assoc (all_framed before) (framed p) after) ∙ ap (λ l. l ++ after) (sym longer);
            stands = omega (arith, so_far.stands, ap length longer, length-append (all_framed before) (framed p), length-append (1 ∷ u32 (length p)) p);
            short = all_short before p so_far.short (omega (arith, size, here.1));
            told = by-next true same;
            long = omega (arith, so_far.long, ap length behind, length-drop (5 + len) rest, size, here.0);
          }

      pub goes-on : (next : H) (at : ℕ) → at ≡ place + (5 + len) → is_next rules so_far.units p ≡ true → keeps next (so_far.units ++ p ∷ []) → Taken rules keeps records after at next
      goes-on next at stands same kept = subst (λ n. Taken rules keeps records after n next) (omega (arith, stands, size)) (go-on next same kept)
