use Rattle.talk_items.proofs.{Common.{[], ◌∙◌, ◌∷◌, ◌≡◌, ap, behind, cut, cut_more, keyword, map, map-append, quoted, subst, sym, take}, Cutting.cut-once-more, Fronts.behind-it}
use Rattle.talk_items.proofs.words.Words.push.Goals as goal

pub invariant_of-self : goal.invariant_of-self
invariant_of-self c =
    let i = c.self.invariant in
    let b = c.args.byte in
    let line = map (λ p. p.0) c.self.inside.bytes.items in
    let put = c.put.ensures (cut line) i.0 i.1 i.2 in
    let quote = c.behind-self-inside.ensures ∙ ap (λ q. behind q b) i.2 ∙ sym (behind-it (cut line) b) in
    let whole : cut_more (cut line) b ≡ cut (map (λ p. p.0) c.and-self-inside.result.items) =
    sym (cut-once-more line b) ∙ ap cut (sym (map-append (λ p. p.0) c.self.inside.bytes.items ((b, b) ∷ [])) ∙ ap (map (λ p. p.0)) (sym c.and-self-inside.ensures)) in
    subst (λ d. (c.put.new.words.items ≡ take 4 (map keyword d.words)) × (c.put.new.word.items ≡ take 8 d.word) × (quoted c.behind-self-inside.result ≡ d.quote)) whole (put.0, put.1, quote)
