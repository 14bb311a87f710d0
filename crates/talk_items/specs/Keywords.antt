-- Words that tell what a line is.
use Rattle.std.specs.Prelude.{◌||◌, codes, if◌then◌else◌}
use Rattle.file_words.specs.{Lines.Bytes, Words.{is, is_comment}}
use Rattle.talk_items.specs.declared.keywords.Keyword.{Keyword}
use Rattle.talk_items.specs.declared.keywords.Keyword.TheVariants as keywords

abbrev pub keyword : Bytes → Keyword
keyword w =
    if is_comment w then keywords.Comment
    else (if is (codes "?") w then keywords.Question
    else (if is (codes "if") w then keywords.If
    else (if is (codes "move") w then keywords.Move
    else (if is (codes "type") w then keywords.Type
    else (if is (codes "actor") w || is (codes "case") w || is (codes "phase") w then keywords.Declaration
    else (if is (codes "change") w || is (codes "install") w then keywords.Change
    else (if is (codes "end") w then keywords.End
    else (if is (codes "adept") w then keywords.Adept
    else (if is (codes "1") w || is (codes "2") w || is (codes "3") w then keywords.Format
    else keywords.Other)))))))))
