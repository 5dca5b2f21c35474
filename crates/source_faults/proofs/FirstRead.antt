-- The first refusal of all lines is the refusal of the parser.
use Rattle.std.proofs.Common.{◌≡◌, Bool, true, false, List, [], ◌∷◌, ◌++◌, Option, Some, None, Result, Ok, Err, refl, sym, ap, ◌∙◌}
use Rattle.std.proofs.lemmas.Option.{none-some}
use Rattle.std.specs.Prelude.{unwrap_or}
use Rattle.std.specs.Prelude.{ℕ, not, ◌&&◌, ◌||◌}
use Rattle.std.specs.List.{fold}
use Rattle.std.specs.Option.{option_or}
use Rattle.kmn_base.specs.declared.refusals.Refusal.{Refusal}
use Rattle.kmn_lines.specs.Lines.{logicals}
use Rattle.kmn_lines.specs.Tokens.{line_refusal, tokens_refusal}
use Rattle.kmn_lines.specs.declared.logical.Logical.{Logical}
use Rattle.rule_model.specs.declared.program.Program.{Program}
use Rattle.kmn_parser.specs.declared.statement.LastGroup.{LastGroup}
use Rattle.kmn_parser.specs.declared.statement.LastGroup.TheVariants.{Missing}
use Rattle.kmn_parser.specs.declared.statement.Statement.{Statement}
use Rattle.kmn_parser.specs.Source.{line_statement, group_after, with_statement, read_lines, read_text, no_program}
use Rattle.source_faults.specs.declared.found.Found.{Found}
use Rattle.source_faults.specs.Reading.{with_line, read_on, read_all, nothing_read, read_refusals, is_fresh_after, is_group, is_rule}

-- a list that begins with a refusal
abbrev pub Begins : Refusal → List Refusal → Type 0
Begins found list = (more : List Refusal) × (list ≡ found ∷ more)

-- a longer list begins with the same refusal
appended : (found next : Refusal) (list : List Refusal) → Begins found list → Begins found (list ++ next ∷ [])
appended found next list (more, is) = (more ++ next ∷ [], ap (λ l. l ++ next ∷ []) is)

tokens_stay : (found : Refusal) (st : Found) (refused : Option Refusal) (read : Result Statement Refusal) (words : List (List ℕ))
    → Begins found st.tokens → Begins found (with_line st refused read words).tokens
tokens_stay found st (Some other) read words begins = appended found other st.tokens begins
tokens_stay found st None (Ok read) words begins = begins
tokens_stay found st None (Err other) words begins = begins

statements_stay : (found : Refusal) (st : Found) (refused : Option Refusal) (read : Result Statement Refusal) (words : List (List ℕ))
    → Begins found st.statements → Begins found (with_line st refused read words).statements
statements_stay found st (Some other) read words begins = begins
statements_stay found st None (Ok read) words begins = begins
statements_stay found st None (Err other) words begins = appended found other st.statements begins

tokens_kept : (source : List ℕ) (found : Refusal) (lines : List Logical) (st : Found) → Begins found st.tokens → Begins found (fold (read_on source) st lines).tokens
tokens_kept source found [] st begins = begins
tokens_kept source found (line ∷ lines) st begins =
    tokens_kept source found lines (read_on source st line) (tokens_stay found st (line_refusal source line) _ _ begins)

statements_kept : (source : List ℕ) (found : Refusal) (lines : List Logical) (st : Found) → Begins found st.statements → Begins found (fold (read_on source) st lines).statements
statements_kept source found [] st begins = begins
statements_kept source found (line ∷ lines) st begins =
    statements_kept source found lines (read_on source st line) (statements_stay found st (line_refusal source line) _ _ begins)

-- the first refusal of tokens is the first of all
tokens_first : (source : List ℕ) (found : Refusal) (lines : List Logical) (st : Found) → st.tokens ≡ [] → tokens_refusal source lines ≡ Some found
    → Begins found (fold (read_on source) st lines).tokens
tokens_first source found [] st none some = elim (none-some found some) [ ]
tokens_first source found (line ∷ lines) st none some = by_line (line_refusal source line) _ _ some (λ st none some. tokens_first source found lines st none some)
  where
    by_line : (refused : Option Refusal) (read : Result Statement Refusal) (words : List (List ℕ)) → option_or refused (tokens_refusal source lines) ≡ Some found
        → ((st : Found) → st.tokens ≡ [] → tokens_refusal source lines ≡ Some found → Begins found (fold (read_on source) st lines).tokens)
        → Begins found (fold (read_on source) (with_line st refused read words) lines).tokens
    by_line (Some other) read words some again =
        tokens_kept source found lines _ ([], ap (λ l. l ++ other ∷ []) none ∙ ap (λ o. unwrap_or o found ∷ []) some)
    by_line None (Ok read) words some again = again _ none some
    by_line None (Err other) words some again = again _ none some

-- the result of a reading from a state in which the group is known and nothing is refused
abbrev pub Reads : Result Program Refusal → List (List ℕ) → Found → Type 0
Reads (Ok program) words st = (read_refusals st ≡ []) × (st.program ≡ program) × (st.words ≡ words)
Reads (Err found) words st = (st.tokens ≡ []) × Begins found st.statements

-- if no tokens are refused, the list of their refusals is empty
tokens_none : (source : List ℕ) (lines : List Logical) (st : Found) → st.tokens ≡ [] → tokens_refusal source lines ≡ None → (fold (read_on source) st lines).tokens ≡ []
tokens_none source [] st none clean = none
tokens_none source (line ∷ lines) st none clean = by_line (line_refusal source line) _ _ clean (λ st none clean. tokens_none source lines st none clean)
  where
    by_line : (refused : Option Refusal) (read : Result Statement Refusal) (words : List (List ℕ)) → option_or refused (tokens_refusal source lines) ≡ None
        → ((st : Found) → st.tokens ≡ [] → tokens_refusal source lines ≡ None → (fold (read_on source) st lines).tokens ≡ [])
        → (fold (read_on source) (with_line st refused read words) lines).tokens ≡ []
    by_line (Some other) read words some again = elim (none-some other (sym some)) [ ]
    by_line None (Ok read) words clean again = again _ none clean
    by_line None (Err other) words clean again = again _ none clean

-- lines from a state in which the group is known and nothing is refused: the first refused statement is the parser's
reads_on : (source : List ℕ) (lines : List Logical) (program : Program) (group : LastGroup) (fresh opens : Bool) (words : List (List ℕ))
    → tokens_refusal source lines ≡ None
    → Reads (read_lines source group program lines) words
    (fold (read_on source) (record { program = program; group = group; sure = true; fresh = fresh; opens = opens; tokens = []; statements = []; words = words }) lines)
reads_on source [] program group fresh opens words clean = (refl, refl, refl)
reads_on source (line ∷ lines) program group fresh opens words clean =
    by_line (line_refusal source line) (line_statement source group line) _ clean (λ program group fresh opens clean. reads_on source lines program group fresh opens words clean)
  where
    by_line : (refused : Option Refusal) (read : Result Statement Refusal) (more : List (List ℕ)) → option_or refused (tokens_refusal source lines) ≡ None
        → ((program : Program) (group : LastGroup) (fresh opens : Bool) → tokens_refusal source lines ≡ None
        → Reads (read_lines source group program lines) words
        (fold (read_on source) (record { program = program; group = group; sure = true; fresh = fresh; opens = opens; tokens = []; statements = []; words = words }) lines))
        → Reads (elim read [ Ok statement ↦ read_lines source (group_after group statement) (with_statement program statement) lines | Err found ↦ Err found ]) words
        (fold (read_on source) (with_line (record { program = program; group = group; sure = true; fresh = fresh; opens = opens; tokens = []; statements = []; words = words }) refused read more) lines)
    by_line (Some other) read more some again = elim (none-some other (sym some)) [ ]
    by_line None (Ok statement) more clean again = again (with_statement program statement) (group_after group statement) (is_fresh_after fresh statement) (opens && not (is_group statement || is_rule statement)) clean
    by_line None (Err found) more clean again = (tokens_none source lines _ refl clean, statements_kept source found lines _ ([], refl))

-- the first refusal of a text is the parser's, and there are none exactly if there is a program, which is the parser's
abbrev pub FirstIs : Result Program Refusal → Found → Type 0
FirstIs (Ok program) st = (read_refusals st ≡ []) × (st.program ≡ program) × (st.words ≡ [])
FirstIs (Err found) st = Begins found (read_refusals st)

begins_with : (found : Refusal) (ts ss : List Refusal) → Begins found ts → Begins found (ts ++ ss)
begins_with found ts ss (more, is) = (more ++ ss, ap (λ l. l ++ ss) is)

begins_behind : (found : Refusal) (ts ss : List Refusal) → ts ≡ [] → Begins found ss → Begins found (ts ++ ss)
begins_behind found ts ss none (more, is) = (more, ap (λ l. l ++ ss) none ∙ is)

from_lines : (read : Result Program Refusal) (st : Found) → Reads read [] st → FirstIs read st
from_lines (Ok program) st is = is
from_lines (Err found) st (none, begins) = begins_behind found st.tokens st.statements none begins

pub first_read : (source : List ℕ) → FirstIs (read_text source) (read_all source)
unfolding read_all
first_read source = by_tokens (tokens_refusal source (logicals source)) refl
  where
    by_tokens : (refused : Option Refusal) → tokens_refusal source (logicals source) ≡ refused
        → FirstIs (elim refused [ Some found ↦ Err found | None ↦ read_lines source Missing no_program (logicals source) ]) (fold (read_on source) nothing_read (logicals source))
    by_tokens (Some found) some = begins_with found _ _ (tokens_first source found (logicals source) nothing_read refl some)
    by_tokens None clean = from_lines (read_lines source Missing no_program (logicals source)) _ (reads_on source (logicals source) no_program Missing false false [] clean)
