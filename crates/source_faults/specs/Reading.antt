-- Reads all lines of a source, and continues after refused lines.
use Rattle.std.specs.Prelude.{ℕ, ◌-◌, nat_lt, Bool, true, false, not, ◌&&◌, ◌||◌, if◌then◌else◌, List, [], ◌∷◌, ◌++◌, length, slice_get, codes, is_some, Option, None, Some, Result, Ok, Err}
use Rattle.std.specs.List.{fold, list_any}
use Rattle.kmn_base.specs.Names.{same_name}
use Rattle.kmn_base.specs.declared.codes.Code.{Code}
use Rattle.kmn_base.specs.declared.codes.Code.TheVariants.{S01, S03, S07, S08}
use Rattle.kmn_base.specs.declared.refusals.Refusal.{Refusal}
use Rattle.kmn_lines.specs.Lines.{logicals}
use Rattle.kmn_lines.specs.Tokens.{line_tokens, line_refusal}
use Rattle.kmn_lines.specs.declared.logical.Logical.{Logical}
use Rattle.rule_model.specs.declared.program.GroupDef.{GroupDef}
use Rattle.rule_model.specs.declared.program.Program.{Program}
use Rattle.kmn_items.specs.TokenTexts.{LineToken, with_texts}
use Rattle.kmn_parser.specs.declared.statement.LastGroup.{LastGroup}
use Rattle.kmn_parser.specs.declared.statement.LastGroup.TheVariants.{Missing, UsingKeys, WithoutKeys}
use Rattle.kmn_parser.specs.declared.statement.Sign.TheVariants as sign
use Rattle.kmn_parser.specs.declared.statement.Statement.{Statement}
use Rattle.kmn_parser.specs.declared.statement.Statement.TheVariants as statement
use Rattle.kmn_parser.specs.Line.{place_of}
use Rattle.source_faults.specs.declared.found.Found.{Found}
use Rattle.source_faults.specs.Words.{words_of}
use Rattle.kmn_parser.specs.Source.{line_statement, group_after, with_statement, no_program}

-- whether a word is among words, and whether it is the first of them
abbrev pub has_word : List ℕ → List (List ℕ) → Bool
has_word name words = list_any (same_name name) words

abbrev pub begins_with : List ℕ → List (List ℕ) → Bool
begins_with name [] = false
begins_with name (word ∷ words) = same_name name word

-- whether a refused line may be a begin
abbrev pub is_begin : List (List ℕ) → Bool
is_begin words = begins_with (codes "begin") words || has_word (codes "unicode") words

-- a program with a begin for a refused line that may be one, so that C01 does not follow from it
abbrev pub with_begin : Program → ℕ → List (List ℕ) → Program
with_begin program line words =
    if is_begin words
    then record program { begins = program.begins ++ record { line = line; unicode = not (has_word (codes "ansi") words); group = [] } ∷ [] }
    else program

-- codes after which the last group is unknown
abbrev pub hides_group : Code → Bool
hides_group S01 = true
hides_group S03 = true
hides_group other = false

abbrev pub is_of_group : Code → Bool
is_of_group S07 = true
is_of_group S08 = true
is_of_group other = false

-- whether the last group is known after a refused line
abbrev pub is_sure_after : Found → Code → List (List ℕ) → Bool
is_sure_after st code words =
    st.sure && not (begins_with (codes "group") words || hides_group code || (st.fresh && is_of_group code))

-- whether the next rule opens a group, after a refused line that may have opened one
abbrev pub is_opening : Code → Bool
is_opening S01 = true
is_opening other = false

abbrev pub opens_after : Found → Code → List (List ℕ) → Bool
opens_after st code words = st.opens || (begins_with (codes "group") words || is_opening code)

-- what later lines need of a refused line
abbrev pub noted : Found → Refusal → List (List ℕ) → Found
noted st found words =
    record st {
      program = with_begin st.program found.line words;
      sure = is_sure_after st found.code words;
      opens = opens_after st found.code words;
    }

-- a line whose tokens are refused, or whose statement is
abbrev pub token_refused : Found → Refusal → List (List ℕ) → Found
token_refused st found words =
    record (noted st found words) { tokens = st.tokens ++ found ∷ []; words = st.words ++ words }

abbrev pub statement_refused : Found → Refusal → List (List ℕ) → Found
statement_refused st found words =
    record (noted st found words) { statements = st.statements ++ found ∷ []; words = st.words ++ words }

-- whether the last group has no rule yet, after a statement
abbrev pub is_fresh_after : Bool → Statement → Bool
is_fresh_after fresh (statement.Group group) = true
is_fresh_after fresh (statement.Rule rule) = false
is_fresh_after fresh other = fresh

abbrev pub is_group : Statement → Bool
is_group (statement.Group group) = true
is_group other = false

abbrev pub is_rule : Statement → Bool
is_rule (statement.Rule rule) = true
is_rule other = false

-- whether a group fits rules with a key, or without
abbrev pub fits : Bool → Option GroupDef → Bool
fits keys None = false
fits keys (Some group) = if keys then group.using_keys else not group.using_keys

-- a program whose last group fits a rule: a nameless group, which no line states, is opened if the last one does not fit, or if one
-- has to be opened
abbrev pub with_room : Bool → Program → Statement → Program
with_room opens program (statement.Rule rule) =
    if not opens && fits (is_some rule.key) (slice_get program.groups (length program.groups - 1)) then program
    else record program { groups = program.groups ++ record { line = 0; name = []; using_keys = is_some rule.key; rules = [] } ∷ [] }
with_room opens program other = program

-- a line that is read as a statement
abbrev pub accepted : Found → Statement → Found
accepted st read =
    record st {
      program = with_statement (if st.sure then st.program else with_room st.opens st.program read) read;
      group = group_after st.group read;
      sure = st.sure || is_group read;
      fresh = is_fresh_after st.fresh read;
      opens = st.opens && not (is_group read || is_rule read);
    }

-- the group that a line is read in: if it is unknown, one of the kind that the line needs
abbrev pub group_for : Found → List LineToken → LastGroup
group_for st tokens =
    if st.sure then st.group
    else (if nat_lt (place_of sign.Plus tokens) (place_of sign.Arrow tokens) then UsingKeys else WithoutKeys)

-- another line, with the refusal of its tokens, its statement and its words
abbrev pub with_line : Found → Option Refusal → Result Statement Refusal → List (List ℕ) → Found
with_line st (Some found) read words = token_refused st found words
with_line st None (Ok read) words = accepted st read
with_line st None (Err found) words = statement_refused st found words

-- another line
abbrev pub read_on : List ℕ → Found → Logical → Found
read_on source st line =
    with_line st (line_refusal source line)
    (line_statement source (group_for st (with_texts source (line_tokens source line))) line)
    (words_of source line)

abbrev pub nothing_read : Found
nothing_read = record { program = no_program; group = Missing; sure = true; fresh = false; opens = false; tokens = []; statements = []; words = [] }

-- all lines of a source
unfoldable pub read_all : List ℕ → Found
read_all source = fold (read_on source) nothing_read (logicals source)

-- the refusals of reading: of tokens, then of statements
abbrev pub read_refusals : Found → List Refusal
read_refusals st = st.tokens ++ st.statements
