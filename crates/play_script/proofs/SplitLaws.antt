-- The first word of a text, and its other words.
use Rattle.std.proofs.Common.{◌≡◌, inl, inr, Bool, get_or, ℕ, ◌+◌, ◌<◌, nat_lt, List, [], ◌∷◌, length, take, drop, refl, ap, ◌∙◌, sym, subst, arith}
use Rattle.std.proofs.lemmas.Grind.{common_steps}
use Rattle.std.proofs.lemmas.Bool.{cases_lt}
use Rattle.std.proofs.lemmas.List.{drop_all, drop_more, length-take-le, take_all}
use Rattle.std.proofs.lemmas.List.Splits.{slice_split_first, slice_split_none, slice_split-cons_yes}
use Rattle.std.proofs.lemmas.List.Sums.{fails_before_first, passes_at_first}
use Rattle.std.specs.Prelude.{filter}
use Rattle.std.specs.List.{position_or_len, slice_split}
use Rattle.kmn_base.specs.Bytes.{is_blank}
use Rattle.play_script.specs.Words.{without_blanks, words}

-- leading blanks do not change the words of a text
pub words_without_blanks : (text : List ℕ) → words (without_blanks text) ≡ words text
words_without_blanks [] = refl
words_without_blanks (c ∷ text) = grind (arith, common_steps, words_without_blanks text)

-- the number of bytes before the first blank
abbrev word_length : List ℕ → ℕ
word_length text = position_or_len is_blank text

-- whether a piece between blanks is a word
abbrev is_word : List ℕ → Bool
is_word piece = nat_lt 0 (length piece)

-- if a text does not begin with a blank, its words are its first word and the words of the rest
word_first : (text : List ℕ) → 0 < word_length text → words text ≡ take (word_length text) text ∷ words (drop (word_length text) text)
word_first text some = elim (cases_lt (word_length text) (length text)) [
  | inl within ↦
      let size : length (take (word_length text) text) ≡ word_length text = length-take-le (word_length text) text (omega arith) in
      let first : words text ≡ filter is_word (take (word_length text) text ∷ slice_split is_blank (drop (word_length text + 1) text)) = ap (filter is_word) (slice_split_first is_blank text 0 within) in
      let behind : words (drop (word_length text) text) ≡ words (drop (word_length text + 1) text) =
      ap words (drop_more text (word_length text) 0 within)
      ∙ ap (filter is_word) (slice_split-cons_yes is_blank (get_or text (word_length text) 0) (drop (word_length text + 1) text) (passes_at_first is_blank text 0 within)) in
      grind (arith, common_steps, first, behind, size)
  | inr beyond ↦
      let whole : take (word_length text) text ≡ text = take_all (word_length text) text beyond in
      let none : drop (word_length text) text ≡ [] = drop_all (word_length text) text beyond in
      let alone : words text ≡ filter is_word (text ∷ []) = ap (filter is_word) (slice_split_none is_blank text (λ k d l. fails_before_first is_blank text k d (omega arith))) in
      grind (arith, common_steps, whole, none, alone)
]

-- if a text has a byte that isn't a blank, the text without its leading blanks begins with a word
begins_with_word : (text : List ℕ) → 0 < length (without_blanks text) → 0 < word_length (without_blanks text)
begins_with_word [] some = absurd (omega arith)
begins_with_word (c ∷ text) some = grind (arith, common_steps, begins_with_word text)

-- if a text has a byte that isn't a blank, its words are the first word after its leading blanks and the words of the rest
pub first_word : (text rest : List ℕ) → rest ≡ without_blanks text → 0 < length rest → words text ≡ take (word_length rest) rest ∷ words (drop (word_length rest) rest)
first_word text rest is some =
    let same : words rest ≡ words text = ap words is ∙ words_without_blanks text in
    let first : 0 < word_length rest = subst (λ (t : List ℕ). 0 < word_length t) (sym is) (begins_with_word text (subst (λ (t : List ℕ). 0 < length t) is some)) in
    sym same ∙ word_first rest first

-- if a text consists of blanks, it has no words
pub no_word : (text rest : List ℕ) → rest ≡ without_blanks text → length rest ≡ 0 → words text ≡ []
no_word text [] is none = sym (words_without_blanks text) ∙ ap words (sym is)
no_word text (c ∷ rest) is none = absurd (omega arith)

pub ruleset word_steps = (first_word, no_word)
