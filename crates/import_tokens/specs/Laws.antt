-- The laws of ranges, stated without describing how a range is written.
use Rattle.std.specs.Prelude.{◌≡◌, ℕ, ◌+◌, ◌<◌, true, [], length, slice_get, Some, Ok, map, All}
use Rattle.kmn_lines.specs.Tokens.{is_scalar}
use Rattle.rule_model.specs.declared.program.SrcItem.TheVariants as source
use Rattle.kmn_items.specs.declared.syntax.Where.TheVariants as section
use Rattle.kmn_items.specs.Item.{read_items, unseen}
use Rattle.import_tokens.specs.Ranges.{between, is_char_range, spelled}

-- the characters between two others in order: the numbers between theirs, each of which is a character
pub record IsRange (first last : ℕ) : Type 0 where
  pub count : (first + 1) + length (between first last) ≡ last
  pub inner : (k : ℕ) → k < length (between first last) → slice_get (between first last) k ≡ Some (first + 1 + k)
  pub scalar : All (λ c. is_scalar c ≡ true) (between first last)

-- a range has all characters between its bounds
abbrev pub RangesRise : Type 0
RangesRise = (first last : ℕ) → is_char_range first last ≡ true → IsRange first last

-- the tokens of a range are read as its characters
abbrev pub SpelledCharactersAreRead : Type 0
SpelledCharactersAreRead = (first last at : ℕ) → is_char_range first last ≡ true → read_items section.Store unseen at 0 0 (spelled [] (between first last)) ≡ Ok (map source.Char (between first last))
