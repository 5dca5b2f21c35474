-- The tokens with their texts, taken in parts.
use Rattle.std.proofs.Common.{◌≡◌, ℕ, List, length, drop, take}
use Rattle.std.specs.Prelude.{slice_get, option_map}
use Rattle.std.proofs.lemmas.Option.{slice_get-map}
use Rattle.std.proofs.lemmas.List.{drop-map, take-map, length-map}
use Rattle.kmn_lines.specs.declared.token.Token.{Token}
use Rattle.kmn_items.specs.TokenTexts.{with_texts, with_text}

pub get_with_texts : (source : List ℕ) (tokens : List Token) (place : ℕ) → slice_get (with_texts source tokens) place ≡ option_map (with_text source) (slice_get tokens place)
get_with_texts source tokens place = slice_get-map (with_text source) tokens place

pub drop_with_texts : (source : List ℕ) (tokens : List Token) (n : ℕ) → drop n (with_texts source tokens) ≡ with_texts source (drop n tokens)
drop_with_texts source tokens n = drop-map (with_text source) n tokens

pub take_with_texts : (source : List ℕ) (tokens : List Token) (n : ℕ) → take n (with_texts source tokens) ≡ with_texts source (take n tokens)
take_with_texts source tokens n = take-map (with_text source) n tokens

pub length_with_texts : (source : List ℕ) (tokens : List Token) → length (with_texts source tokens) ≡ length tokens
length_with_texts source tokens = length-map tokens (with_text source)
