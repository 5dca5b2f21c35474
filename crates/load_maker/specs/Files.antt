-- What the source of a load compiles to, and the result of its script on the compiled tables.
use Rattle.std.specs.Prelude.{◌≡◌, ℕ, ◌+◌, ◌*◌, ◌≤◌, [], length, Ok}
use Rattle.compile_laws.specs.Ordered.{compiled_tables}
use Rattle.kmx_format.specs.File.{all_rules, file_of}
use Rattle.rule_checker.specs.Refused.{checked}
use Rattle.rule_model.specs.Tab.{tab}
use Rattle.rule_model.specs.Trace.{trace}
use Rattle.rule_model.specs.declared.tables.Tables.{Tables}
use Rattle.load_maker.specs.Loads.{load_source}
use Rattle.kmn_base.specs.declared.limits.TheConstants.{LOAD_RULES}
use Rattle.load_maker.specs.Keyboards.{load_events}
use Rattle.load_maker.specs.Plays.{Plays}
use Rattle.load_maker.specs.Programs.{load_program}

-- the source of a load is read as its program and is not refused
abbrev pub SourcesAreChecked : Type 0
SourcesAreChecked = (n : ℕ) → n ≤ LOAD_RULES → checked (load_source n) ≡ Ok (load_program n)

-- whether tables have `n` rules after the first one, and their file has the size of a load
pub record HasSizes (n : ℕ) (tables : Tables) : Type 0 where
  pub rules : length (all_rules tables) ≡ n + 1
  pub bytes : length (file_of tables []) ≡ 122 + 28 * n

-- the file of a load has a record for each rule of the source, and its size depends only on the number
abbrev pub FilesHaveSizes : Type 0
FilesHaveSizes = (n : ℕ) → n ≤ LOAD_RULES → HasSizes n (compiled_tables (load_program n))

-- the script of a load plays on its compiled tables as on its keyboard: in total the presses output one item for each press
abbrev pub FilesPlay : Type 0
FilesPlay = (n : ℕ) → n ≤ LOAD_RULES → Plays (n + 2) (trace (tab (compiled_tables (load_program n))) (load_events n))
