-- The source of a load is not refused.
use Rattle.std.proofs.Common.{◌≡◌, ℕ, zero, suc, ◌+◌, ◌≤◌, nat_lt, Bool, true, false, if◌then◌else◌, List, [], ◌∷◌, ◌++◌, Option, Some, None, Result, Ok, refl, ap, sym, ◌∙◌, arith}
use Rattle.std.proofs.lemmas.Bool.Decides.{nat_tests}
use Rattle.std.specs.Option.{option_or}
use Rattle.kmn_base.specs.Answers.{and_then}
use Rattle.kmn_base.specs.Names.{same_name}
use Rattle.kmn_base.specs.declared.codes.Code.TheVariants.{C22}
use Rattle.kmn_base.specs.declared.limits.TheConstants.{RECORDS}
use Rattle.kmn_base.specs.declared.refusals.Refusal.{Refusal}
use Rattle.rule_model.specs.declared.program.KeyName.{KeyName}
use Rattle.rule_model.specs.declared.program.Program.{Program}
use Rattle.rule_model.specs.declared.program.RuleDef.{RuleDef}
use Rattle.kmn_parser.specs.Source.{parsed}
use Rattle.kmn_parser.specs.Programs.{program_text}
use Rattle.kmn_parser.proofs.Programs.{programs_read_back}
use Rattle.store_table.specs.First.{at_line, earlier, first_of, or_refusal}
use Rattle.store_table.specs.Names.{is_named, names_refusal, rule_refusal, stated}
use Rattle.store_table.specs.declared.stating.Stated.{Stated}
use Rattle.store_table.specs.Known.{Known, known}
use Rattle.rule_checker.specs.Counting.{capped, no_counts, virtual_count_of}
use Rattle.rule_checker.specs.KeyCodes.{no_codes}
use Rattle.item_checker.specs.Items.{items_refusal, rule_refusal as items_rule_refusal}
use Rattle.rule_checker.specs.Limits.{Statement, in_line_order, limits_refusal}
use Rattle.rule_checker.specs.Refused.{checked, refused}
use Rattle.rule_checker.specs.Walking.{no_totals, walked}
use Rattle.rule_checker.specs.declared.counting.StoreCounts.{StoreCounts}
use Rattle.rule_checker.specs.declared.totals.Totals.{Totals}
use Rattle.rule_checker.specs.declared.walking.Walk.{Walk}
use Rattle.rule_checker.proofs.FirstPassed.{first_passed}
use Rattle.load_maker.specs.Files.{SourcesAreChecked}
use Rattle.load_maker.specs.Programs.{load_program, rule_def, rule_defs}
use Rattle.load_maker.proofs.LoadTexts.{program_spelled, text_is}

-- no rule is refused for its names, and none for its items
names_stand : (stated : Stated) (before : List RuleDef) (i count : ℕ) → first_of (rule_refusal stated) before (rule_defs i count) ≡ None
names_stand stated before i zero = refl
names_stand stated before zero (suc count) = names_stand stated (before ++ rule_def zero ∷ []) 1 count
names_stand stated before (suc i) (suc count) = names_stand stated (before ++ rule_def (suc i) ∷ []) (suc (suc i)) count

items_stand : (known : Known) (before : List RuleDef) (i count : ℕ) → first_of (items_rule_refusal known) before (rule_defs i count) ≡ None
items_stand known before i zero = refl
items_stand known before zero (suc count) = items_stand known (before ++ rule_def zero ∷ []) 1 count
items_stand known before (suc i) (suc count) = items_stand known (before ++ rule_def (suc i) ∷ []) (suc (suc i)) count

no_name_refused : (n : ℕ) → names_refusal (load_program n) ≡ None
unfolding names_refusal is_named same_name
no_name_refused n = ap (λ (found : Option Refusal). earlier found None) (names_stand (stated (load_program n)) [] 0 (suc n))

no_item_refused : (n : ℕ) → items_refusal (load_program n) ≡ None
unfolding items_refusal
no_item_refused n = ap (λ (found : Option Refusal). earlier found None) (items_stand (known (load_program n)) [] 0 (suc n))

-- the totals of rules with a number of records, and a walk over such rules with its first refusal
abbrev totals_of : ℕ → Totals
totals_of records = record no_totals { records = records }

abbrev walk_of : ℕ → Option Refusal → Walk
walk_of records first = record { totals = totals_of records; first = first }

few_records : (line records : ℕ) → records ≤ 2001 → at_line line (if nat_lt RECORDS records then Some C22 else None) ≡ None
few_records line records few = by_test (nat_lt RECORDS records) (grind (arith, nat_tests))
  where
    by_test : (over : Bool) → over ≡ false → at_line line (if over then Some C22 else None) ≡ None
    by_test false is = refl
    by_test true is = absurd (cc)

-- the walk after a rule in a line, with the number of records up to there
abbrev walk_at : ℕ → ℕ → Walk
walk_at line records = walk_of records (at_line line (if nat_lt RECORDS records then Some C22 else None))

-- the key of each rule has one record, since no key is cased
abbrev key_name : KeyName
key_name = record { flags = 0x4000; code = 65; name = [] }

one_record : virtual_count_of (no_counts no_codes) key_name ≡ 1
unfolding no_codes
one_record = refl

module _ (counted : StoreCounts) (one : virtual_count_of counted key_name ≡ 1) where
  walk_behind : (line records : ℕ) (statements : List Statement) → records ≤ 2000
      → (walked counted (walk_at line (capped (records + virtual_count_of counted key_name))) statements).first ≡ (walked counted (walk_of (capped (records + 1)) None) statements).first
  walk_behind line records statements few =
      ap (λ (count : ℕ). (walked counted (walk_at line (capped (records + count))) statements).first) one
      ∙ ap (λ (first : Option Refusal). (walked counted (walk_of (capped (records + 1)) first) statements).first) (few_records line (capped (records + 1)) (omega arith))

  walk_keeps : (i count records : ℕ) → records + count ≤ 2001 → (walked counted (walk_of records None) (in_line_order [] (rule_defs i count ++ []))).first ≡ None
  walk_keeps i zero records few = refl
  walk_keeps zero (suc count) records few =
      walk_behind 3 records (in_line_order [] (rule_defs 1 count ++ [])) (omega arith) ∙ walk_keeps 1 count (capped (records + 1)) (omega arith)
  walk_keeps (suc i) (suc count) records few =
      walk_behind (i + 4) records (in_line_order [] (rule_defs (suc (suc i)) count ++ [])) (omega arith) ∙ walk_keeps (suc (suc i)) count (capped (records + 1)) (omega arith)

no_limit_passed : (n : ℕ) → n ≤ 2000 → limits_refusal (load_program n) ≡ None
unfolding limits_refusal
no_limit_passed n within =
    ap (λ (found : Option Refusal). earlier found None) (sym (first_passed (load_program n)) ∙ walk_keeps (no_counts no_codes) one_record 0 (suc n) 0 (omega arith))

pub nothing_refused : (n : ℕ) → n ≤ 2000 → refused (load_program n) ≡ None
unfolding refused
nothing_refused n within = λ j. option_or (no_name_refused n j) (option_or (no_item_refused n j) (no_limit_passed n within j))

pub program_parsed : (n : ℕ) → n ≤ 2000 → parsed (program_text (load_program n)) ≡ Ok (load_program n)
program_parsed n within = programs_read_back (load_program n) (program_spelled n within)

pub sources_are_checked : SourcesAreChecked
sources_are_checked n within =
    ap checked (sym (text_is n within))
    ∙ ap (λ (read : Result Program Refusal). and_then read (λ program. or_refusal program (refused program))) (program_parsed n within)
    ∙ ap (or_refusal (load_program n)) (nothing_refused n within)
