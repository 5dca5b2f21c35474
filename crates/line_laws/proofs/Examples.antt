-- Small texts that show by computation what each premise is for.
use Rattle.std.proofs.Common.{◌≡◌, [], ◌∷◌, ◌++◌, refl}
use Rattle.std.specs.Prelude.{true}
use Rattle.kmn_base.specs.Names.{same_name}
use Rattle.kmn_lines.specs.Lines.{physical_lines_at, logicals, parts_in, is_skipped, dropped}
use Rattle.kmn_lines.specs.Tokens.{line_tokens, token_size, token_kind, in_word}
use Rattle.kmn_lines.specs.declared.token.TokenKind.TheVariants.{Word}
use Rattle.kmn_items.specs.TokenTexts.{with_texts}
use Rattle.line_laws.specs.Laws.{lines_in, ends_whole, ends_joined, placed, places, AreLines}

-- x and y without a line end between are one line, and not two
no_end-both : lines_in ((120 ∷ []) ++ (121 ∷ [])) ≡ (120 ∷ 121 ∷ []) ∷ []
no_end-both = refl

no_end-each : lines_in (120 ∷ []) ++ lines_in (121 ∷ []) ≡ (120 ∷ []) ∷ (121 ∷ []) ∷ []
no_end-each = refl

-- so are a CR and an LF
cr_lf-whole : ends_whole (13 ∷ []) ≡ true
cr_lf-whole = refl

cr_lf-both : lines_in ((13 ∷ []) ++ (10 ∷ [])) ≡ (13 ∷ 10 ∷ []) ∷ []
cr_lf-both = refl

cr_lf-each : lines_in (13 ∷ []) ++ lines_in (10 ∷ []) ≡ (13 ∷ []) ∷ (10 ∷ []) ∷ []
cr_lf-each = refl

-- U+FEFF is part of a word, except at the start of the source
mark-line : logicals (0xEF ∷ 0xBB ∷ 0xBF ∷ 120 ∷ []) ≡ record { first_line = 1; from = 3; to = 4 } ∷ []
unfolding logicals
mark-line = refl

mark-first : with_texts (0xEF ∷ 0xBB ∷ 0xBF ∷ 120 ∷ []) (line_tokens (0xEF ∷ 0xBB ∷ 0xBF ∷ 120 ∷ []) (record { first_line = 1; from = 3; to = 4 })) ≡ record { kind = Word; text = 120 ∷ [] } ∷ []
unfolding line_tokens parts_in is_skipped dropped same_name token_size token_kind in_word
mark-first = refl

mark-further : with_texts (10 ∷ 0xEF ∷ 0xBB ∷ 0xBF ∷ 120 ∷ []) (line_tokens (10 ∷ 0xEF ∷ 0xBB ∷ 0xBF ∷ 120 ∷ []) (placed 2 (10 ∷ []) (0xEF ∷ 0xBB ∷ 0xBF ∷ 120 ∷ []))) ≡ record { kind = Word; text = 0xEF ∷ 0xBB ∷ 0xBF ∷ 120 ∷ [] } ∷ []
unfolding line_tokens parts_in is_skipped dropped same_name token_size token_kind in_word
mark-further = refl

-- x, a backslash and an LF are one logical line, and so are they with a y after them
joint-one : logicals (120 ∷ 92 ∷ 10 ∷ []) ≡ record { first_line = 1; from = 0; to = 3 } ∷ []
unfolding logicals
joint-one = refl

joint-both : logicals ((120 ∷ 92 ∷ 10 ∷ []) ++ (121 ∷ [])) ≡ record { first_line = 1; from = 0; to = 4 } ∷ []
unfolding logicals
joint-both = refl

joint-joins : ends_joined (physical_lines_at 1 0 (120 ∷ 92 ∷ 10 ∷ [])) ≡ true
joint-joins = refl

-- x and an LF, and then y, are two lines
two_lines : AreLines ((120 ∷ 10 ∷ []) ∷ (121 ∷ []) ∷ [])
two_lines = (refl, refl, (λ e. refl), refl, refl)

two_lines-places : places 1 [] ((120 ∷ 10 ∷ []) ∷ (121 ∷ []) ∷ []) ≡ record { first_line = 1; from = 0; to = 2 } ∷ record { first_line = 2; from = 2; to = 3 } ∷ []
two_lines-places = refl

-- a comment is never joined: c, a blank, a backslash and an LF twice are two logical lines
comments : logicals ((99 ∷ 32 ∷ 92 ∷ 10 ∷ []) ++ (99 ∷ 32 ∷ 92 ∷ 10 ∷ [])) ≡ record { first_line = 1; from = 0; to = 4 } ∷ record { first_line = 2; from = 4; to = 8 } ∷ []
unfolding logicals
comments = refl
