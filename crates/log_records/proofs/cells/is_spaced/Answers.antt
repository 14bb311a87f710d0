use Rattle.std.proofs.Common.{◌≡◌, ◌+◌, ◌≤◌, length, nat_eq, sum_by, ap, ◌∙◌, sym, arith}
use Rattle.file_words.specs.Words.{words_of}
use Rattle.log_records.proofs.Spacing.{short_spread, spaced, spread, spread_shown}
use Rattle.log_records.proofs.cells.is_spaced.Goals as goal

pub spread-requires : goal.spread-requires
spread-requires c =
    let whole : sum_by (λ w. length w.now + 1) c.args.words.now ≡ spread (words_of c.args.line.now) = spread_shown c.args.words.now ∙ ap spread c.requires in
    let short : spread (words_of c.args.line.now) ≤ length c.args.line.now + 1 = short_spread c.args.line.now in
    omega arith

pub returns : goal.returns
returns c =
    let whole : c.spread.result ≡ spread (words_of c.args.line.now) = c.spread.ensures ∙ spread_shown c.args.words.now ∙ ap spread c.requires in
    ap (λ n. nat_eq n (length c.args.line.now + 1)) whole ∙ spaced c.args.line.now (sym c.is_text.ensures ∙ c.if-not-is_text.false) (sym c.contains.ensures.value ∙ c.if-contains.false)
