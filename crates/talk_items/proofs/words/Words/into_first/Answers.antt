use Rattle.talk_items.proofs.{Common.{◌∙◌, ap, cut, keyword, map, sym, words_of, take}, Cutting.words-of-cut}
use Rattle.talk_items.proofs.words.Words.into_first.Goals as goal

pub returns : goal.returns
returns c =
    let i = c.self.invariant in
    let line = map (λ p. p.0) c.self.inside.bytes.items in
    c.add.ensures (cut line).words (cut line).word i.0 (c.as_slice.ensures.value ∙ i.1)
    ∙ ap (λ ws. take 4 (map keyword ws)) (sym (words-of-cut line) ∙ ap words_of c.self.view_is)
