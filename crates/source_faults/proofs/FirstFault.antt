-- The first of all refusals of a source is the one that its compilation reports.
use Rattle.std.proofs.Common.{◌≡◌, ℕ, Bool, true, false, cond, List, [], ◌∷◌, ◌++◌, length, map, Option, Some, None, Result, Ok, Err, refl, sym, ap, ◌∙◌, if◌then◌else◌}
use Rattle.std.specs.Prelude.{nat_lt, not, filter, option_to_list}
use Rattle.std.specs.Str.{is_utf8}
use Rattle.std.specs.Option.{option_or}
use Rattle.kmn_base.specs.Answers.{and_then}
use Rattle.kmn_base.specs.declared.codes.Code.TheVariants.{L01, L05}
use Rattle.kmn_base.specs.declared.limits.TheConstants.{TEXT_BYTES}
use Rattle.kmn_base.specs.declared.refusals.Refusal.{Refusal}
use Rattle.kmn_lines.specs.Tokens.{refusal}
use Rattle.rule_model.specs.declared.program.GroupDef.{GroupDef}
use Rattle.rule_model.specs.declared.program.Program.{Program}
use Rattle.kmn_parser.specs.Source.{parsed, read_text}
use Rattle.kmn_parser.specs.SourceLaws.{IsInOrder}
use Rattle.kmn_parser.proofs.SourceLines.{statements_in_order}
use Rattle.store_table.specs.First.{earlier, first_among, or_refusal}
use Rattle.store_table.specs.Names.{names_refusal}
use Rattle.item_checker.specs.Items.{items_refusal, items_refusals}
use Rattle.item_checker.proofs.FirstItems.{items_least}
use Rattle.rule_checker.specs.Limits.{limits_refusal}
use Rattle.rule_checker.specs.AllLimits.{limits_refusals}
use Rattle.rule_checker.specs.Refused.{refused, start_refusal}
use Rattle.rule_checker.proofs.LimitsLeast.{limits_least}
use Rattle.source_names.specs.declared.causes.NameFault.{NameFault}
use Rattle.source_names.specs.Causes.{cause_refusal}
use Rattle.source_names.specs.Telling.{first_refusal, names_lacked, reported_causes}
use Rattle.source_names.proofs.Reported.{first_reported}
use Rattle.source_faults.specs.declared.found.Found.{Found}
use Rattle.source_faults.specs.Reading.{read_all, read_refusals}
use Rattle.source_faults.specs.Stubs.{with_words, stub_group, stubbed}
use Rattle.source_faults.specs.Faults.{inserted, in_lines, is_empty, limits_faults, items_faults, names_faults, program_faults, faults_of, faults, first_fault, refusal_of}
use Rattle.source_faults.specs.Laws.{FirstIsReported}
use Rattle.source_faults.proofs.FirstRead.{FirstIs, first_read}

first_append : (xs ys : List Refusal) → first_fault (xs ++ ys) ≡ option_or (first_fault xs) (first_fault ys)
first_append [] ys = refl
first_append (x ∷ xs) ys = refl

-- the first in the order of lines is the first among refusals
first_inserted : (found : Refusal) (refusals : List Refusal) → first_fault (inserted found refusals) ≡ earlier (Some found) (first_fault refusals)
first_inserted found [] = refl
first_inserted found (next ∷ refusals) = by (nat_lt next.line found.line)
  where
    by : (t : Bool) → first_fault (if t then next ∷ inserted found refusals else found ∷ next ∷ refusals) ≡ (if t then Some next else Some found)
    by true = refl
    by false = refl

first_in_lines : (refusals : List Refusal) → first_fault (in_lines refusals) ≡ first_among refusals
first_in_lines [] = refl
first_in_lines (found ∷ refusals) = first_inserted found (in_lines refusals) ∙ ap (earlier (Some found)) (first_in_lines refusals)

-- a refusal is there if there are any
some_earlier : (found : Refusal) (other : Option Refusal) → earlier (Some found) other ≡ None → ⊥
some_earlier found None h = absurd (cc)
some_earlier found (Some next) h = by (nat_lt next.line found.line) h
  where
    by : (t : Bool) → cond t (Some next) (Some found) ≡ None → ⊥
    by true e = absurd (cc)
    by false e = absurd (cc)

none_among : (refusals : List Refusal) → first_among refusals ≡ None → refusals ≡ []
none_among [] h = refl
none_among (found ∷ refusals) h = absurd (some_earlier found (first_among refusals) h)

or_same : {A : Type 0} (a b c : Option A) → (a ≡ None → b ≡ c) → option_or a b ≡ option_or a c
or_same None b c same = same refl
or_same (Some x) b c same = refl

-- nothing changes if nothing is refused
all_kept : {X : Type 0} (xs : List X) → filter (λ x. true) xs ≡ xs
all_kept [] = refl
all_kept (x ∷ xs) = ap (λ ys. x ∷ ys) (all_kept xs)

all_same : {X : Type 0} (xs : List X) → map (λ x. x) xs ≡ xs
all_same [] = refl
all_same (x ∷ xs) = ap (λ ys. x ∷ ys) (all_same xs)

groups_stay : (groups : List GroupDef) → map (stub_group []) groups ≡ groups
groups_stay [] = refl
groups_stay (group ∷ groups) = λ j. record group { rules = all_same group.rules j } ∷ groups_stay groups j

none_stubbed : (program : Program) → stubbed [] program ≡ program
none_stubbed program = λ j. record program { stores = all_same program.stores j; groups = groups_stay program.groups j }

limits_first : (program : Program) → IsInOrder program → first_fault (limits_faults [] true program) ≡ limits_refusal program
limits_first program order =
    ap (λ refusals. first_fault (in_lines refusals)) (all_kept (limits_refusals true program))
    ∙ first_in_lines (limits_refusals true program)
    ∙ sym (limits_least program order)

items_first : (program : Program) → IsInOrder program → first_fault (items_faults [] true program) ≡ option_or (items_refusal program) (limits_refusal program)
items_first program order =
    ap (λ items. first_fault (in_lines items ++ limits_faults items true (stubbed items program))) (all_kept (items_refusals program))
    ∙ first_append (in_lines (items_refusals program)) (limits_faults (items_refusals program) true (stubbed (items_refusals program) program))
    ∙ ap (λ first. option_or first (first_fault (limits_faults (items_refusals program) true (stubbed (items_refusals program) program)))) (first_in_lines (items_refusals program) ∙ sym (items_least program))
    ∙ or_same (items_refusal program) (first_fault (limits_faults (items_refusals program) true (stubbed (items_refusals program) program))) (limits_refusal program)
    (λ none.
    ap (λ items. first_fault (limits_faults items true (stubbed items program))) (none_among (items_refusals program) (sym (items_least program) ∙ none))
    ∙ ap (λ whole. first_fault (limits_faults [] true whole)) (none_stubbed program)
    ∙ limits_first program order)

no_words : (program : Program) → with_words program [] ≡ program
no_words program = refl

-- the refusals for names, by the causes that are reported
causes_first : (program : Program) → IsInOrder program → (causes : List NameFault) → first_refusal causes ≡ names_refusal program
    → first_fault (map cause_refusal causes ++ items_faults (map cause_refusal causes) (is_empty (map cause_refusal causes)) (stubbed (map cause_refusal causes) (with_words program (names_lacked causes))))
    ≡ option_or (names_refusal program) (option_or (items_refusal program) (limits_refusal program))
causes_first program order [] is =
    ap (λ whole. first_fault (items_faults [] true (stubbed [] whole))) (no_words program)
    ∙ ap (λ whole. first_fault (items_faults [] true whole)) (none_stubbed program)
    ∙ items_first program order
    ∙ ap (λ first. option_or first (option_or (items_refusal program) (limits_refusal program))) is
causes_first program order (cause ∷ causes) is = ap (λ first. option_or first (option_or (items_refusal program) (limits_refusal program))) is

names_first : (program : Program) → IsInOrder program → first_fault (names_faults [] true program) ≡ option_or (names_refusal program) (option_or (items_refusal program) (limits_refusal program))
names_first program order =
    ap (λ names. first_fault (names ++ items_faults names (is_empty names) (stubbed names (with_words program (names_lacked (reported_causes program)))))) (all_kept (map cause_refusal (reported_causes program)))
    ∙ causes_first program order (reported_causes program) (first_reported program)

program_first : (program : Program) → IsInOrder program → first_fault (program_faults [] program) ≡ refused program
unfolding refused
program_first program order = by (start_refusal program)
  where
    by : (start : Option Refusal) → first_fault (option_to_list start ++ names_faults [] (is_empty (option_to_list start)) program)
        ≡ option_or start (option_or (names_refusal program) (option_or (items_refusal program) (limits_refusal program)))
    by None = names_first program order
    by (Some found) = refl

refusal_is : (program : Program) (found : Option Refusal) → found ≡ refusal_of (or_refusal program found)
refusal_is program None = refl
refusal_is program (Some found) = refl

-- the first of all refusals, by what the parser returns
found_first : (read : Result Program Refusal) (st : Found) → FirstIs read st → ((program : Program) → read ≡ Ok program → IsInOrder program)
    → first_fault (faults_of st) ≡ refusal_of (and_then read (λ (program : Program). or_refusal program (refused program)))
unfolding faults_of
found_first (Err found) st (more, is) order =
    ap (λ refusals. first_fault (refusals ++ program_faults (read_refusals st) (with_words st.program st.words))) is
found_first (Ok program) st (none, same, words) order =
    (λ j. first_fault (none j ++ program_faults (none j) (with_words (same j) (words j))))
    ∙ program_first program (order program refl)
    ∙ refusal_is program (refused program)

parsed_is : (source : List ℕ) → nat_lt TEXT_BYTES (length source) ≡ false → is_utf8 source ≡ true → parsed source ≡ read_text source
unfolding parsed
parsed_is source short utf8 = λ j. if short j then Err (refusal 1 L05) else (if not (utf8 j) then Err (refusal 1 L01) else read_text source)

pub first_is_reported : FirstIsReported
unfolding faults parsed
first_is_reported source = by (nat_lt TEXT_BYTES (length source)) refl (is_utf8 source) refl
  where
    by : (long : Bool) → nat_lt TEXT_BYTES (length source) ≡ long → (utf8 : Bool) → is_utf8 source ≡ utf8
        → first_fault (if long then refusal 1 L05 ∷ [] else (if not utf8 then refusal 1 L01 ∷ [] else faults_of (read_all source)))
        ≡ refusal_of (and_then (if long then Err (refusal 1 L05) else (if not utf8 then Err (refusal 1 L01) else read_text source)) (λ (program : Program). or_refusal program (refused program)))
    by true is utf8 is_text = refl
    by false is false is_text = refl
    by false is true is_text = found_first (read_text source) (read_all source) (first_read source) (λ program read. statements_in_order source program (parsed_is source is is_text ∙ read))
