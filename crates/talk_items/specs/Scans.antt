-- What is known of the bytes with which an item has begun.
use Rattle.std.specs.{Prelude.{◌≡◌, ◌==◌, ◌||◌, ℕ, ◌+◌, List, length, min, nat_lt, false, Option, Some, None, if◌then◌else◌}, List.AllByRecursion}
use Rattle.file_words.specs.Lines.{Bytes, lines_of}
use Rattle.talk_items.specs.{Items.{counted, first_kind, is_skipped, kind_of, place_of}, declared.items.ItemKind.ItemKind, declared.items.Place.Place, declared.keywords.Keyword.Keyword, declared.limits.TheConstants.MAX_ITEM}
use Rattle.talk_items.specs.declared.items.Place.TheVariants as places

-- with one line more
abbrev pub first_with : Option ItemKind → List Keyword → Option ItemKind
first_with None ws = if is_skipped ws then None else Some (kind_of ws)
first_with (Some kind) ws = Some kind

-- with one more that ends behind so many bytes
abbrev pub counted_with : (count len : ℕ) → List Keyword → ℕ
counted_with count len ws = if nat_lt MAX_ITEM len || is_skipped ws then count else count + 1

pub record IsScan (bytes : Bytes) (place : Place) (first : Option ItemKind) (count len : ℕ) (line : Bytes) : Type 0 where
  pub stands : place ≡ place_of places.Front (lines_of bytes).ended
  pub is_first : first ≡ first_kind (lines_of bytes).ended
  pub count_is : count ≡ counted bytes
  pub len_is : len ≡ min (length bytes) (MAX_ITEM + 1)
  pub left : line ≡ (lines_of bytes).left

-- bytes without a line feed
abbrev pub HasNoFeed : Bytes → Type 0
HasNoFeed bytes = AllByRecursion (λ b. (b == 10) ≡ false) bytes
