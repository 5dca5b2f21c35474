-- The bracket with which a text begins, and the conversion of entries to entries for the current field.
use Rattle.std.proofs.Common.{◌≡◌, Bor, ℕ, ◌+◌, ◌-◌, ◌<◌, ◌≤◌, List, [], ◌∷◌, ◌++◌, append_assoc, length, length-drop, get_or, map, reverse, take, drop, Option, Some, None, option_map, refl, sym, ap, ◌∙◌, inl, inr, arith}
use Rattle.std.proofs.lemmas.Grind.{common_steps}
use Rattle.std.proofs.lemmas.Bool.{cases_Bool}
use Rattle.std.proofs.lemmas.Bool.Decides.{nat_tests}
use Rattle.std.proofs.lemmas.List.{map-append, take_all, reverse-append}
use Rattle.std.proofs.lemmas.List.Splits.{length-slice_split}
use Rattle.std.specs.List.{onto_first, slice_split}
use Rattle.std.specs.Prelude.{position, MatchOption}
use Rattle.rule_model.specs.declared.script.Entry.{Entry}
use Rattle.play_script.specs.Words.{is_closing}
use Rattle.play_script.proofs.LineLaws.{pieces_parted, piece_alone}
use Rattle.text_host.specs.declared.entries.HostEntry.{HostEntry}
use Rattle.text_host.specs.HostEntries.{bracket, on_field}

-- pieces joined with a ] between each two
abbrev joined : List (List ℕ) → List ℕ
joined [] = []
joined (piece ∷ []) = piece
joined (piece ∷ next ∷ more) = piece ++ 93 ∷ joined (next ∷ more)

joined_onto : (c : ℕ) (pieces : List (List ℕ)) → joined (onto_first c pieces) ≡ c ∷ joined pieces
joined_onto c [] = refl
joined_onto c (piece ∷ []) = refl
joined_onto c (piece ∷ next ∷ more) = refl

joined_behind : (pieces : List (List ℕ)) → 0 < length pieces → joined ([] ∷ pieces) ≡ 93 ∷ joined pieces
joined_behind [] some = absurd (omega arith)
joined_behind (piece ∷ more) some = refl

joined_pieces : (text : List ℕ) → joined (slice_split is_closing text) ≡ text
joined_pieces [] = refl
joined_pieces (c ∷ text) = elim (cases_Bool (is_closing c)) [
  | inl closing ↦ grind (arith, common_steps, nat_tests, closing, joined_behind (slice_split is_closing text) (omega (arith, length-slice_split is_closing text)), joined_pieces text)
  | inr other ↦ grind (arith, common_steps, other, joined_onto c (slice_split is_closing text), joined_pieces text)
]

-- if two texts have the same pieces, they are equal
pieces_tell : (text other : List ℕ) → slice_split is_closing text ≡ slice_split is_closing other → text ≡ other
pieces_tell text other same = sym (joined_pieces text) ∙ ap joined same ∙ joined_pieces other

abbrev first_piece : List (List ℕ) → List ℕ
first_piece [] = []
first_piece (piece ∷ more) = piece

-- the text before the first ], and the text after it
abbrev cut : List ℕ → Option (List ℕ × List ℕ)
cut text = option_map (λ at. (take at text, drop (at + 1) text)) (position is_closing text)

not_alone : (text : List ℕ) (piece : List ℕ) (other : List ℕ) → text ∷ [] ≡ piece ∷ slice_split is_closing other → ⊥
not_alone text piece other is = omega (arith, ap length is, length-slice_split is_closing other)

-- if the only piece of a text is the text, it has no ] to cut it at
cut_none_at : (text : List ℕ) (place : Option ℕ) → position is_closing text ≡ place → slice_split is_closing text ≡ text ∷ []
    → option_map {U = List ℕ × List ℕ} (λ at. (take at text, drop (at + 1) text)) place ≡ None
cut_none_at text None is alone = refl
cut_none_at text (Some at) is alone = absurd (not_alone text (take at text) (take (length text - (at + 1)) (drop (at + 1) text)) (sym alone ∙ pieces_parted text at is))

cut_none : (text : List ℕ) → slice_split is_closing text ≡ text ∷ [] → cut text ≡ None
cut_none text alone = cut_none_at text (position is_closing text) refl alone

-- if a text is split into a piece and the pieces of a rest, the cut at the first ] returns that piece and that rest
cut_some_at : (text piece behind : List ℕ) (place : Option ℕ) → position is_closing text ≡ place → slice_split is_closing text ≡ piece ∷ slice_split is_closing behind
    → option_map {U = List ℕ × List ℕ} (λ at. (take at text, drop (at + 1) text)) place ≡ Some (piece, behind)
cut_some_at text piece behind None is parts = absurd (not_alone text piece behind (sym (piece_alone text is) ∙ parts))
cut_some_at text piece behind (Some at) is parts =
    let same : take at text ∷ slice_split is_closing (take (length text - (at + 1)) (drop (at + 1) text)) ≡ piece ∷ slice_split is_closing behind = sym (pieces_parted text at is) ∙ parts in
    let whole : take (length text - (at + 1)) (drop (at + 1) text) ≡ drop (at + 1) text = take_all _ (drop (at + 1) text) (omega (arith, length-drop (at + 1) text)) in
    let first : take at text ≡ piece = ap (λ pieces. first_piece pieces) same in
    let rest : drop (at + 1) text ≡ behind = sym whole ∙ pieces_tell _ behind (ap (λ pieces. drop 1 pieces) same) in
    λ i. Some (first i, rest i)

cut_some : (text piece behind : List ℕ) → slice_split is_closing text ≡ piece ∷ slice_split is_closing behind → cut text ≡ Some (piece, behind)
cut_some text piece behind parts = cut_some_at text piece behind (position is_closing text) refl parts

-- if the first byte of a text is [, the text is [ followed by the rest
pub begun : (text : List ℕ) → 1 ≤ length text → get_or text 0 0 ≡ 91 → text ≡ 91 ∷ take (length text - 1) (drop 1 text)
begun [] some first = absurd (omega arith)
begun (c ∷ text) some first = ap (λ b. b ∷ text) first ∙ ap (λ rest. 91 ∷ rest) (sym (take_all (length (c ∷ text) - 1) text (omega arith)))

-- if a text begins with [, its bracket ends at the first ] after this [
pub bracket_cut : (text inside : List ℕ) (answer : Option (Bor (List ℕ) × Bor (List ℕ))) → text ≡ 91 ∷ inside
    → MatchOption answer (slice_split is_closing inside ≡ inside ∷ []) (λ parts. slice_split is_closing inside ≡ parts.0.now ∷ slice_split is_closing parts.1.now)
    → MatchOption answer (bracket text ≡ None) (λ parts. bracket text ≡ Some (parts.0.now, parts.1.now))
bracket_cut text inside None is parts = ap bracket is ∙ cut_none inside parts
bracket_cut text inside (Some found) is parts = ap bracket is ∙ cut_some inside found.0.now found.1.now parts

-- if the last entry is converted and appended to the converted entries, which are in reverse, the result of the conversion is the same
pub handed_on : (before : List Entry) (last : Entry) (done : List HostEntry) → map on_field (before ++ last ∷ []) ++ reverse done ≡ map on_field before ++ reverse (done ++ on_field last ∷ [])
handed_on before last done =
    ap (λ all. all ++ reverse done) (map-append on_field before (last ∷ [])) ∙ append_assoc (map on_field before) (on_field last ∷ []) (reverse done)
    ∙ ap (λ all. map on_field before ++ all) (sym (reverse-append done (on_field last ∷ [])))
