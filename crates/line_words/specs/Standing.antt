-- Where a byte of a line stands, as the definition of words has it.
use Rattle.file_words.specs.declared.words.Quote.{Quote}
use Rattle.file_words.specs.declared.words.Quote.TheVariants as quotes
use Rattle.line_words.specs.declared.words.Stand.{Stand}
use Rattle.line_words.specs.declared.words.Stand.TheVariants as stands

abbrev pub quoted : Stand → Quote
quoted stands.Outside = quotes.Outside
quoted stands.Inside = quotes.Inside
quoted stands.Escaped = quotes.Escaped
