-- All refusals of a source.
use Rattle.std.specs.Prelude.{ℕ, nat_lt, Bool, true, false, not, ◌&&◌, if◌then◌else◌, List, [], ◌∷◌, ◌++◌, length, filter, map, option_to_list, Option, None, Some, Result, Ok, Err}
use Rattle.std.specs.Str.{is_utf8}
use Rattle.kmn_base.specs.declared.codes.Code.TheVariants.{L01, L05}
use Rattle.kmn_base.specs.declared.limits.TheConstants.{TEXT_BYTES}
use Rattle.kmn_base.specs.declared.refusals.Refusal.{Refusal}
use Rattle.kmn_lines.specs.Tokens.{refusal}
use Rattle.rule_model.specs.declared.program.Program.{Program}
use Rattle.source_names.specs.Causes.{cause_refusal}
use Rattle.source_names.specs.declared.causes.NameFault.{NameFault}
use Rattle.source_names.specs.Telling.{names_lacked, reported_causes}
use Rattle.item_checker.specs.Items.{items_refusals}
use Rattle.rule_checker.specs.AllLimits.{limits_refusals}
use Rattle.rule_checker.specs.Refused.{start_refusal}
use Rattle.source_faults.specs.declared.found.Found.{Found}
use Rattle.source_faults.specs.Reading.{read_all, read_refusals}
use Rattle.source_faults.specs.Stubs.{with_words, is_refused, stubbed}

-- refusals in the order of their lines; those at one line stay in their order
abbrev pub inserted : Refusal → List Refusal → List Refusal
inserted found [] = found ∷ []
inserted found (next ∷ refusals) = if nat_lt next.line found.line then next ∷ inserted found refusals else found ∷ next ∷ refusals

abbrev pub in_lines : List Refusal → List Refusal
in_lines [] = []
in_lines (found ∷ refusals) = inserted found (in_lines refusals)

-- the refusals of lines that are not refused yet
abbrev pub further : List Refusal → List Refusal → List Refusal
further refused refusals = filter (λ (found : Refusal). not (is_refused refused found.line)) refusals

abbrev pub is_empty : List Refusal → Bool
is_empty [] = true
is_empty (found ∷ refusals) = false

-- the refusals of a program in which the lines of earlier refusals have stubs: for limits, for items and limits, for names and both.
-- The limits that all statements share are checked if nothing is refused for its text, its start or its names (`shared`). A name that is
-- not defined anywhere is reported once, in the order of lines; for items and limits it counts as a store and a group.
abbrev pub limits_faults : List Refusal → Bool → Program → List Refusal
limits_faults refused shared program = in_lines (further refused (limits_refusals shared program))

abbrev pub items_faults : List Refusal → Bool → Program → List Refusal
items_faults refused shared program =
    let items = further refused (items_refusals program) in
    in_lines items ++ limits_faults (refused ++ items) shared (stubbed (refused ++ items) program)

abbrev pub names_faults : List Refusal → Bool → Program → List Refusal
names_faults refused shared program =
    let causes = reported_causes program in
    let names = further refused (map cause_refusal causes) in
    names ++ items_faults (refused ++ names) (shared && is_empty names) (stubbed (refused ++ names) (with_words program (names_lacked causes)))

-- the causes for which names refuse lines of a source: a name that is not defined anywhere has one
abbrev pub name_faults : List ℕ → List NameFault
name_faults source = reported_causes (with_words (read_all source).program (read_all source).words)

-- the refusals of a program, some of whose lines are refused already: for its start, names, items and limits
abbrev pub program_faults : List Refusal → Program → List Refusal
program_faults refused program =
    let start = option_to_list (start_refusal program) in
    start ++ names_faults refused (is_empty (refused ++ start)) program

-- all refusals of what is found in the lines of a source
unfoldable pub faults_of : Found → List Refusal
faults_of st = read_refusals st ++ program_faults (read_refusals st) (with_words st.program st.words)

-- all refusals of a source, pass by pass, in the order of lines in each pass
unfoldable pub faults : List ℕ → List Refusal
faults source =
    if nat_lt TEXT_BYTES (length source) then refusal 1 L05 ∷ []
    else (if not (is_utf8 source) then refusal 1 L01 ∷ [] else faults_of (read_all source))

-- the first of all refusals, and the refusal of a source that has no program
abbrev pub first_fault : List Refusal → Option Refusal
first_fault [] = None
first_fault (found ∷ refusals) = Some found

abbrev pub refusal_of : Result Program Refusal → Option Refusal
refusal_of (Ok program) = None
refusal_of (Err found) = Some found
