use Rattle.talk_items.proofs.{Common.{[], ◌++◌, ◌∙◌, ◌∷◌, ◌≡◌, ap, keyword, map, subst, sym, tell_enough, TellAll, true, words_of}, Fronts.enough-tell, PlainWords.word-more}
use Rattle.std.proofs.Common.{rules}
use Rattle.talk_items.proofs.front.front_words.Goals as goal

pub returns-then-tell_enough : goal.returns-then-tell_enough
returns-then-tell_enough c =
    let line = c.loop-word.rest.now in
    let word = c.in-Some.word.now in
    let more = c.in-Some.more.now in
    let front = c.loop-word.words.items in
    let now = c.push.new.self.items in
    let first : words_of line ≡ word ∷ words_of more = search rules in
    let pushed : now ≡ front ++ keyword word ∷ [] = c.push.ensures.items ∙ ap (λ k. front ++ k ∷ []) c.keyword_of.ensures in
    let enough : tell_enough now ≡ true = ap tell_enough (sym c.as_slice.ensures.value) ∙ sym c.tell_enough.ensures ∙ c.if-tell_enough.true in
    subst (TellAll now) (ap (λ ks. ks ++ map keyword (words_of more)) pushed ∙ word-more front line word more c.args.line.now c.loop-word.invariant.first first) (enough-tell now (map keyword (words_of more)) enough)
