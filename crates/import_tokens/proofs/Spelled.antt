-- Characters that are spelled are read as these characters.
use Rattle.std.proofs.Common.{◌≡◌, ℕ, zero, suc, ◌+◌, ◌-◌, ◌<◌, Bool, true, false, not, ◌&&◌, List, [], ◌∷◌, ◌++◌, length, take, map, refl, sym, ◌∙◌, ap, if◌then◌else◌, arith, append-nil, append_assoc, length-append}
use Rattle.std.specs.Prelude.{Ok, nat_lt, nat_eq, chars}
use Rattle.std.specs.List.{list_all}
use Rattle.std.specs.Str.{is_utf8, IsAscii}
use Rattle.std.proofs.Math.Seq.{take-append_seam}
use Rattle.std.proofs.lemmas.Bool.{and_parts, cond-true}
use Rattle.std.proofs.lemmas.Bool.Decides.{nat_tests}
use Rattle.std.proofs.lemmas.Str.Ascii.{IsAscii-nil}
use Rattle.std.proofs.lemmas.Str.{chars-IsAscii}
use Rattle.rule_model.specs.declared.program.SrcItem.{SrcItem}
use Rattle.rule_model.specs.declared.program.SrcItem.TheVariants as source
use Rattle.kmn_base.specs.Texts.{decoded}
use Rattle.kmn_items.specs.declared.syntax.Where.TheVariants as section
use Rattle.kmn_items.specs.declared.syntax.Seen.{Seen}
use Rattle.kmn_items.specs.TokenTexts.{LineToken, inside, quoted}
use Rattle.kmn_items.specs.Standing.{seen_count}
use Rattle.kmn_items.specs.Item.{read_item, read_items, prepend, unseen}
use Rattle.kmn_parser.specs.Texts.{char_token, quoted_token}
use Rattle.kmn_parser.proofs.Hex.{is_ascii_byte}
use Rattle.kmn_parser.proofs.Utf8Texts.{ascii}
use Rattle.import_tokens.specs.Ranges.{is_clear, run_tokens, spelled, between}
use Rattle.import_tokens.specs.Laws.{SpelledCharactersAreRead}

clear_byte : (c : ℕ) → is_clear c ≡ true → c < 128
clear_byte c h =
    let a = and_parts _ (not (nat_eq c 39)) h in
    let few = (and_parts (nat_lt 0x20 c) (nat_lt c 0x7F) a.0).1 in
    grind (arith, nat_tests)

clear_bytes : (run : List ℕ) → list_all is_clear run ≡ true → list_all is_ascii_byte run ≡ true
clear_bytes [] h = refl
clear_bytes (c ∷ run) h =
    let parts = and_parts (is_clear c) (list_all is_clear run) h in
    let few = clear_byte c parts.0 in
    let here : is_ascii_byte c ≡ true = grind (arith, nat_tests) in
    ap (λ b. b && list_all is_ascii_byte run) here ∙ clear_bytes run parts.1

clear_all : (run : List ℕ) → list_all is_clear run ≡ true → IsAscii run
clear_all [] h i = IsAscii-nil i
clear_all (c ∷ run) h zero = clear_byte c (and_parts (is_clear c) (list_all is_clear run) h).0
clear_all (c ∷ run) h (suc i) = clear_all run (and_parts (is_clear c) (list_all is_clear run) h).1 i

inside_quotes : (run : List ℕ) → inside (39 ∷ (run ++ (39 ∷ []))) ≡ run
inside_quotes run =
    let size : length (39 ∷ (run ++ (39 ∷ []))) - 2 ≡ length run = omega (arith, length-append run (39 ∷ [])) in
    ap (λ (n : ℕ). take n (run ++ (39 ∷ []))) size ∙ take-append_seam run (39 ∷ [])

-- the characters of a run in quotes
run_quoted : (run : List ℕ) → list_all is_clear run ≡ true → quoted (quoted_token 39 run).text ≡ run
run_quoted run h =
    ap decoded (inside_quotes run)
    ∙ cond-true (is_utf8 run) (chars run) [] (ascii run (clear_bytes run h))
    ∙ chars-IsAscii run (clear_all run h)

module _ (last : ℕ) where
  abbrev Reads : List LineToken → List SrcItem → Type 0
  Reads tokens items = (seen : Seen) (at : ℕ) → read_items section.Store seen last 0 at tokens ≡ Ok items

  quoted_read : (run : List ℕ) (tokens : List LineToken) (items : List SrcItem) → list_all is_clear run ≡ true → Reads tokens items → Reads (quoted_token 39 run ∷ tokens) (map source.Char run ++ items)
  unfolding read_item
  quoted_read run tokens items h more seen at =
      ap (prepend (map source.Char (quoted (quoted_token 39 run).text))) (more (seen_count seen (length (quoted (quoted_token 39 run).text))) (at + 1))
      ∙ ap (λ (cs : List ℕ). Ok (map source.Char cs ++ items)) (run_quoted run h)

  run_read : (run : List ℕ) (tokens : List LineToken) (items : List SrcItem) → list_all is_clear run ≡ true → Reads tokens items → Reads (run_tokens run ++ tokens) (map source.Char run ++ items)
  run_read [] tokens items h more seen at = more seen at
  run_read (c ∷ run) tokens items h more seen at = quoted_read (c ∷ run) tokens items h more seen at

  number_read : (c : ℕ) (tokens : List LineToken) (items : List SrcItem) → Reads tokens items → Reads (char_token c ∷ tokens) (source.Char c ∷ items)
  unfolding read_item
  number_read c tokens items more seen at = ap (prepend (source.Char c ∷ [])) (more (seen_count seen 1) (at + 1))

  clear_more : (run : List ℕ) (c : ℕ) → list_all is_clear run ≡ true → is_clear c ≡ true → list_all is_clear (run ++ c ∷ []) ≡ true
  clear_more [] c h e = ap (λ b. b && true) e
  clear_more (d ∷ run) c h e =
      let parts = and_parts (is_clear d) (list_all is_clear run) h in
      ap (λ b. b && list_all is_clear (run ++ c ∷ [])) parts.0 ∙ clear_more run c parts.1 e

  spelled_read : (cs run : List ℕ) → list_all is_clear run ≡ true → Reads (spelled run cs) (map source.Char (run ++ cs))
  spelled_read [] run h seen at =
      ap (λ (ts : List LineToken). read_items section.Store seen last 0 at ts) (sym (append-nil (run_tokens run)))
      ∙ run_read run [] [] h (λ s a. refl) seen at
      ∙ ap Ok (append-nil (map source.Char run) ∙ ap (map source.Char) (sym (append-nil run)))
  spelled_read (c ∷ cs) run h seen at =
      elim (is_clear c) as (λ (b : Bool). is_clear c ≡ b → read_items section.Store seen last 0 at (if b then spelled (run ++ c ∷ []) cs else run_tokens run ++ (char_token c ∷ spelled [] cs)) ≡ Ok (map source.Char (run ++ c ∷ cs))) [
        | true ↦ λ e. spelled_read cs (run ++ c ∷ []) (clear_more run c h e) seen at ∙ ap (λ (xs : List ℕ). Ok (map source.Char xs)) (append_assoc run (c ∷ []) cs)
        | false ↦ λ e.
            run_read run (char_token c ∷ spelled [] cs) (source.Char c ∷ map source.Char cs) h (number_read c (spelled [] cs) (map source.Char cs) (spelled_read cs [] refl)) seen at
            ∙ ap Ok (joined run)
      ] refl
    where
      joined : (xs : List ℕ) → map source.Char xs ++ (source.Char c ∷ map source.Char cs) ≡ map source.Char (xs ++ c ∷ cs)
      joined [] = refl
      joined (x ∷ xs) = ap (λ (items : List SrcItem). source.Char x ∷ items) (joined xs)

pub spelled_characters_are_read : SpelledCharactersAreRead
spelled_characters_are_read first last at h = spelled_read at (between first last) [] refl unseen 0
