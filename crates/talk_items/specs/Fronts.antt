-- Words at the front of a line, which tell what it is.
use Rattle.std.specs.Prelude.{◌≡◌, ◌==◌, Bool, true, false, List, ◌∷◌, length}
use Rattle.talk_items.specs.{Items.{is_end, is_skipped, kind_of, opens}, declared.keywords.Keyword.Keyword}
use Rattle.talk_items.specs.declared.keywords.Keyword.TheVariants as keywords

-- some words tell of a line what all of its words do
pub record TellAll (some all : List Keyword) : Type 0 where
  pub skipped : is_skipped some ≡ is_skipped all
  pub open_it : opens some ≡ opens all
  pub end_it : is_end some ≡ is_end all
  pub kind : kind_of some ≡ kind_of all

-- whether so many do, whatever stands behind them
abbrev pub tell_enough : List Keyword → Bool
tell_enough (keywords.Comment ∷ ws) = true
tell_enough (keywords.Type ∷ ws) = true
tell_enough (keywords.Declaration ∷ ws) = true
tell_enough (keywords.Question ∷ ws) = length ws == 3
tell_enough (keywords.Adept ∷ ws) = length ws == 3
tell_enough (w ∷ v ∷ ws) = true
tell_enough ws = false
