-- A text whose lines are read as statements is read as their program.
use Rattle.std.proofs.Common.{◌≡◌, ℕ, ◌+◌, not, List, [], ◌∷◌, ◌++◌, length, drop, map, Option, None, Some, refl, sym, ◌∙◌, ap, arith, append_assoc, length-append}
use Rattle.std.specs.Prelude.{All, Ok, Err, fold, option_map, nat_lt}
use Rattle.std.specs.Str.{is_utf8}
use Rattle.std.specs.Option.{option_or}
use Rattle.std.proofs.Math.Seq.{drop-append_seam}
use Rattle.std.proofs.lemmas.List.{drop-drop}
use Rattle.std.proofs.lemmas.List.Elements.{All-cons, All-nil}
use Rattle.std.proofs.lemmas.Bool.{cond-false, le-ltb}
use Rattle.kmn_base.specs.declared.refusals.Refusal.{Refusal}
use Rattle.kmn_base.specs.declared.limits.TheConstants.{TEXT_BYTES}
use Rattle.kmn_lines.specs.Lines.{logicals}
use Rattle.kmn_lines.specs.Tokens.{refusal, part_text, parts_tokens, parts_fault, line_tokens, line_refusal, tokens_refusal, scanned, first_fault}
use Rattle.kmn_lines.specs.declared.logical.Logical.{Logical}
use Rattle.kmn_lines.specs.declared.logical.Part.{Part}
use Rattle.kmn_lines.specs.declared.token.Token.{Token}
use Rattle.rule_model.specs.declared.program.Program.{Program}
use Rattle.kmn_parser.specs.declared.statement.LastGroup.{LastGroup}
use Rattle.kmn_parser.specs.declared.statement.LastGroup.TheVariants.{Missing}
use Rattle.kmn_parser.specs.declared.statement.Statement.{Statement}
use Rattle.kmn_items.specs.TokenTexts.{LineToken, with_texts}
use Rattle.kmn_parser.specs.Line.{read_line}
use Rattle.kmn_parser.specs.Source.{at_line, group_after, with_statement, no_program, read_lines, parsed}
use Rattle.kmn_parser.specs.Printed.{printed, rows, sheet}
use Rattle.kmn_parser.proofs.LineForms.{AreReadBack, IsSourceText, IsWholeLine, ReadAsStatements, row_lines, tokens_in}
use Rattle.kmn_parser.proofs.Scans.{tokens_read_back}
use Rattle.kmn_parser.proofs.Rows.{rows_logicals, row_parts, line-text}

append-none : (ts : List Token) → ts ++ [] ≡ ts
append-none [] = refl
append-none (t ∷ ts) = ap (λ (us : List Token). t ∷ us) (append-none ts)

abbrev logical_at : ℕ → ℕ → List ℕ → Logical
logical_at number at line = record { first_line = number; from = at; to = at + length line + 1 }

abbrev part_at : ℕ → ℕ → List ℕ → Part
part_at number at line = record { line = number; from = at; to = at + length line }

row-tokens : (source : List ℕ) (number at : ℕ) (ps : List (Option LineToken)) (rest : List ℕ) → drop at source ≡ printed ps ++ 10 ∷ rest → AreReadBack ps → IsWholeLine (printed ps)
    → with_texts source (line_tokens source (logical_at number at (printed ps))) ≡ tokens_in ps
unfolding line_tokens
row-tokens source number at ps rest e back whole =
    let line = printed ps in
    ap (λ (parts : List Part). with_texts source (parts_tokens source parts)) (row_parts source number at line rest e whole)
    ∙ ap (λ (ts : List Token). with_texts source ts) (append-none (scanned number 0 at (part_text source (part_at number at line))))
    ∙ ap (λ (xs : List ℕ). with_texts source (scanned number 0 at xs)) (line-text source at line (10 ∷ rest) e)
    ∙ (tokens_read_back source number at ps (10 ∷ rest) e back).0

row-refusal : (source : List ℕ) (number at : ℕ) (ps : List (Option LineToken)) (rest : List ℕ) → drop at source ≡ printed ps ++ 10 ∷ rest → AreReadBack ps → IsWholeLine (printed ps)
    → line_refusal source (logical_at number at (printed ps)) ≡ None
unfolding line_refusal
row-refusal source number at ps rest e back whole =
    let line = printed ps in
    ap (λ (parts : List Part). option_map (refusal number) (parts_fault source parts)) (row_parts source number at line rest e whole)
    ∙ ap (λ (xs : List ℕ). option_map (refusal number) (option_or (first_fault 0 xs) None)) (line-text source at line (10 ∷ rest) e)
    ∙ ap (λ f. option_map (refusal number) (option_or f None)) (tokens_read_back source number at ps (10 ∷ rest) e back).1

next-row : (source : List ℕ) (at : ℕ) (line rest : List ℕ) → drop at source ≡ line ++ 10 ∷ rest → drop (at + length line + 1) source ≡ rest
next-row source at line rest e =
    let end : List ℕ = 10 ∷ [] in
    let all : List ℕ = line ++ end in
    let long : length all ≡ length line + 1 = (let l : length all ≡ length line + length end = length-append line end in omega (arith, l)) in
    let place : at + length line + 1 ≡ at + length all = omega (arith, long) in
    ap (λ (n : ℕ). drop n source) place
    ∙ sym (drop-drop (length all) at source)
    ∙ ap (λ (xs : List ℕ). drop (length all) xs) (e ∙ sym (append_assoc line end rest))
    ∙ drop-append_seam all rest

all-whole : (group : LastGroup) (number : ℕ) (lines : List (List (Option LineToken))) (statements : List Statement) → ReadAsStatements group number lines statements → All IsWholeLine (map printed lines)
all-whole group number [] statements prints = All-nil IsWholeLine
all-whole group number (line ∷ lines) [] prints = absurd prints
all-whole group number (line ∷ lines) (s ∷ statements) (back, whole, read, more) = All-cons IsWholeLine (printed line) (map printed lines) whole (all-whole (group_after group s) (number + 1) lines statements more)

none-refused : (source : List ℕ) (group : LastGroup) (number at : ℕ) (lines : List (List (Option LineToken))) (statements : List Statement) → drop at source ≡ rows (map printed lines) → ReadAsStatements group number lines statements
    → tokens_refusal source (row_lines number at (map printed lines)) ≡ None
none-refused source group number at [] statements e prints = refl
none-refused source group number at (line ∷ lines) [] e prints = absurd prints
none-refused source group number at (line ∷ lines) (s ∷ statements) e (back, whole, read, more) =
    ap (λ f. option_or f (tokens_refusal source (row_lines (number + 1) (at + length (printed line) + 1) (map printed lines)))) (row-refusal source number at line (rows (map printed lines)) e back whole)
    ∙ none-refused source (group_after group s) (number + 1) (at + length (printed line) + 1) lines statements (next-row source at (printed line) (rows (map printed lines)) e) more

all-read : (source : List ℕ) (group : LastGroup) (program : Program) (number at : ℕ) (lines : List (List (Option LineToken))) (statements : List Statement) → drop at source ≡ rows (map printed lines) → ReadAsStatements group number lines statements
    → read_lines source group program (row_lines number at (map printed lines)) ≡ Ok (fold with_statement program statements)
all-read source group program number at [] [] e prints = refl
all-read source group program number at [] (s ∷ statements) e prints = absurd cc
all-read source group program number at (line ∷ lines) [] e prints = absurd prints
all-read source group program number at (line ∷ lines) (s ∷ statements) e (back, whole, read, more) =
    ap (λ r. elim r [
      | Ok read ↦ read_lines source (group_after group read) (with_statement program read) (row_lines (number + 1) (at + length (printed line) + 1) (map printed lines))
      | Err found ↦ Err found
    ])
    (ap (λ (ts : List LineToken). at_line number (read_line group number ts)) (row-tokens source number at line (rows (map printed lines)) e back whole) ∙ ap (at_line number) read)
    ∙ all-read source (group_after group s) (with_statement program s) (number + 1) (at + length (printed line) + 1) lines statements (next-row source at (printed line) (rows (map printed lines)) e) more

-- the source of lines that are read as statements is read as the program of these statements
pub sheets_are_read : (lines : List (List (Option LineToken))) (statements : List Statement) → ReadAsStatements Missing 1 lines statements → IsSourceText (sheet lines)
    → parsed (sheet lines) ≡ Ok (fold with_statement no_program statements)
unfolding parsed
sheets_are_read lines statements prints fits =
    let source = sheet lines in
    let ls : logicals source ≡ row_lines 1 0 (map printed lines) = rows_logicals (map printed lines) fits.unmarked (all-whole Missing 1 lines statements prints) in
    cond-false (nat_lt TEXT_BYTES (length source)) _ _ (le-ltb TEXT_BYTES (length source) fits.few)
    ∙ cond-false (not (is_utf8 source)) _ _ (ap not fits.utf8)
    ∙ ap (λ (f : Option Refusal). elim f [ Some found ↦ Err found | None ↦ read_lines source Missing no_program (logicals source) ])
    (ap (tokens_refusal source) ls ∙ none-refused source Missing 1 0 lines statements refl prints)
    ∙ ap (read_lines source Missing no_program) ls
    ∙ all-read source Missing no_program 1 0 lines statements refl prints
