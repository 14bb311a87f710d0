use Rattle.talk_items.proofs.Common.{[], ◌++◌, ◌+◌, ◌∙◌, ◌∷◌, ◌≡◌, ap, arith, Bytes, counted_with, ends, ends_line, first_with, IsScan, length, lines_of, map, MAX_ITEM, min, place_behind, place_of, refl, subst, sym, TellAll, words}
use Rattle.talk_items.proofs.{Fronts.{counted-told, ends-told, first-told, place-told}, Scanned.{ends-feed, feed-scanned, few-counted, part-scanned}}
use Rattle.talk_items.specs.declared.items.Place.TheVariants as places
use Rattle.talk_items.proofs.scanner.Scanner.end_line.Goals as goal

pub counted_with-self-inside-requires : goal.counted_with-self-inside-requires
counted_with-self-inside-requires c = omega (arith, c.self.invariant.count_is, few-counted (map (λ p. p.0) c.self.inside.bytes.items))

pub invariant_of-self : goal.invariant_of-self
invariant_of-self c =
    let i = c.self.inside in
    let rest = c.args.rest.now in
    let bytes = map (λ p. p.0) i.bytes.items in
    let line = words (i.line ++ rest) in
    let next = c.longer-self-inside.result in
    let part : IsScan (bytes ++ rest) i.place i.first i.counted (min (i.len + length rest) (MAX_ITEM + 1)) (i.line ++ rest) =
    part-scanned bytes i.place i.first i.counted i.len i.line rest (min (i.len + length rest) (MAX_ITEM + 1)) (i.line ++ rest) c.self.invariant c.requires refl refl in
    let scan = feed-scanned (bytes ++ rest) i.place i.first i.counted (min (i.len + length rest) (MAX_ITEM + 1)) (i.line ++ rest) next part (omega (arith, c.longer-self-inside.ensures)) in
    let tell = subst (λ l. TellAll l line) (sym c.as_slice-words.ensures.value) c.end-first_words.ensures.words in
    let noted : (bytes ++ rest) ++ 10 ∷ [] ≡ map (λ p. p.0) c.note-2.new.log.items = ap (λ (l : Bytes). l ++ 10 ∷ []) (sym c.note.ensures) ∙ sym c.note-2.ensures in
    let place = sym (place-told tell i.place) ∙ sym c.place_behind-self-inside.ensures in
    let first = sym (first-told tell i.first) ∙ sym c.first_with-self-inside.ensures in
    let count = sym (counted-told tell i.counted next) ∙ sym c.counted_with-self-inside.ensures in
    subst (λ l. IsScan l c.place_behind-self-inside.result c.first_with-self-inside.result c.counted_with-self-inside.result next c.end-first_words.new.self) noted
    (subst (λ p. IsScan ((bytes ++ rest) ++ 10 ∷ []) p c.first_with-self-inside.result c.counted_with-self-inside.result next c.end-first_words.new.self) place
    (subst (λ f. IsScan ((bytes ++ rest) ++ 10 ∷ []) (place_behind i.place line) f c.counted_with-self-inside.result next c.end-first_words.new.self) first
    (subst (λ k. IsScan ((bytes ++ rest) ++ 10 ∷ []) (place_behind i.place line) (first_with i.first line) k next c.end-first_words.new.self) count
    (subst (IsScan ((bytes ++ rest) ++ 10 ∷ []) (place_behind i.place line) (first_with i.first line) (counted_with i.counted next line) next) (sym c.end-first_words.ensures.next) scan))))

pub returns-clause-ends : goal.returns-clause-ends
returns-clause-ends c =
    let i = c.self.inside in
    let rest = c.args.rest.now in
    let bytes = map (λ p. p.0) i.bytes.items in
    let part : IsScan (bytes ++ rest) i.place i.first i.counted (min (i.len + length rest) (MAX_ITEM + 1)) (i.line ++ rest) =
    part-scanned bytes i.place i.first i.counted i.len i.line rest (min (i.len + length rest) (MAX_ITEM + 1)) (i.line ++ rest) c.self.invariant c.requires refl refl in
    let line = words (i.line ++ rest) in
    c.ends_line-is_end.ensures ∙ ends-told (subst (λ l. TellAll l line) (sym c.as_slice-words.ensures.value) c.end-first_words.ensures.words) i.place
    ∙ ap (λ p. ends_line p line) part.stands ∙ ap (λ l. ends_line (place_of places.Front (lines_of (bytes ++ rest)).ended) (words l)) part.left
    ∙ sym (ends-feed (bytes ++ rest)) ∙ ap (λ l. ends (l ++ rest) 10) c.self.view_is
