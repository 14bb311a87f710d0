-- What is accepted finds room on the disk.
use Rattle.std.specs.Prelude.{◌≡◌, ℕ, ◌+◌, ◌<◌, ◌^◌, ◌&&◌, not, Bool, true, false, List, [], ◌∷◌, ◌++◌, length}
use Rattle.std.proofs.{Common.{ap, arith}, lemmas.Bool.ltb-true, lemmas.List.length-append}
use Rattle.file_words.specs.Lines.{Bytes}
use Rattle.store_disk.specs.Image.{all_framed, framed, u32}
use Rattle.store_disk.proofs.Framing.{framed-more}
use Rattle.talk_items.specs.Items.{kind}
use Rattle.talk_rules.specs.Units.{UnitRules, fits}
use Rattle.talk_server.specs.Talks.{accepts, is_too_long, is_unit, units_in}

and-right : (a b : Bool) → a && b ≡ true → b ≡ true
and-right true b e = e
and-right false b e = absurd cc

pub fits-more : (ps : List Bytes) (item : Bytes) → fits ps item ≡ true → length (all_framed (ps ++ item ∷ [])) < 2 ^ 30
fits-more ps item fit =
    let n : ℕ = length (all_framed ps) + (5 + length item) in
    let less : n < 2 ^ 30 = ltb-true n (2 ^ 30) fit in
    omega (arith, ap length (framed-more ps item), length-append (all_framed ps) (framed item), length-append (1 ∷ u32 (length item)) item, less)

pub accepted-fits : (rules : UnitRules) (ps : List Bytes) (item : Bytes) → accepts rules ps item ≡ true → length (all_framed (ps ++ item ∷ [])) < 2 ^ 30
accepted-fits rules ps item accepted =
    let read = and-right (is_unit (kind item)) _ (and-right (not (is_too_long item)) _ accepted) in
    fits-more ps item (and-right (rules.reads (units_in ps) item) (fits ps item) read)
