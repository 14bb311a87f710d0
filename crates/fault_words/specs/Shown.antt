-- Words as contracts see them: without where their bytes lie in memory.
use Rattle.std.specs.Prelude.{List, [], ◌∷◌, ◌++◌, Option, Some, None}
use Rattle.fault_words.specs.{FaultWords.{Word, said, number, node, element}, declared.words.FaultWord.FaultWord, declared.words.FaultWords.FaultWords}
use Rattle.fault_words.specs.declared.words.FaultWord.TheVariants as word

abbrev pub shown_word : FaultWord → Word
shown_word (word.Said w) = said w.now
shown_word (word.Number n) = number n
shown_word (word.Node n) = node n
shown_word (word.Element e) = element e

abbrev pub shown_option : Option FaultWord → List Word
shown_option None = []
shown_option (Some w) = shown_word w ∷ []

abbrev pub shown_words : FaultWords → List Word
shown_words ws = shown_word ws.first ∷ (shown_option ws.second ++ (shown_option ws.third ++ shown_option ws.fourth))
