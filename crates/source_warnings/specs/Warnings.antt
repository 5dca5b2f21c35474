-- What compiles but is probably a mistake.
use Rattle.std.specs.Prelude.{ℕ, List, [], ◌++◌}
use Rattle.rule_model.specs.declared.program.Program.{Program}
use Rattle.source_uses.specs.declared.contents.Contents.{Contents}
use Rattle.source_uses.specs.declared.pairs.Pair.{Pair}
use Rattle.source_uses.specs.declared.used.Part.TheVariants as part
use Rattle.source_uses.specs.declared.used.Role.TheVariants as role
use Rattle.source_uses.specs.Elements.{contents_of}
use Rattle.source_uses.specs.Lines.{in_lines}
use Rattle.source_uses.specs.Pairs.{program_pairs}
use Rattle.source_uses.specs.Uses.{names_of, rule_uses}
use Rattle.name_warnings.specs.declared.warning.Warning.{Warning}
use Rattle.source_warnings.specs.Conditions.{contradictions}
use Rattle.name_warnings.specs.Groups.{groups_never_entered}
use Rattle.source_warnings.specs.Indexes.{longer_indexes, shorter_indexes}
use Rattle.source_warnings.specs.Keys.{keys_never_pressed}
use Rattle.name_warnings.specs.Marks.{mark_warnings}
use Rattle.name_warnings.specs.Options.{options_never_asked, options_never_set, saved_never_set}
use Rattle.source_warnings.specs.Patterns.{empty_patterns}
use Rattle.source_warnings.specs.Repeated.{repeated_elements}
use Rattle.source_warnings.specs.SameKeys.{same_keys}
use Rattle.name_warnings.specs.Stores.{second_systems, unused_stores}
use Rattle.name_warnings.specs.Values.{values_never_set}

-- the names of the stores that statements use as options
abbrev pub option_names : Program → List (List ℕ)
option_names program = names_of (rule_uses role.OptionStore part.Whole program)

-- the warnings of names that are used nowhere, of the stores of `index` and `any`, of options and conditions, and of stores and their
-- elements
abbrev pub named_warnings : Contents → Program → List (List ℕ) → List Warning
named_warnings contents program aside =
    unused_stores program aside ++ (mark_warnings contents program aside ++ groups_never_entered program aside)

unfoldable pub index_warnings : Contents → List Pair → Program → List Warning
index_warnings contents pairs program = shorter_indexes contents pairs ++ repeated_elements contents program.stores pairs

abbrev pub condition_warnings : Contents → Program → List (List ℕ) → List Warning
condition_warnings contents program aside =
    options_never_asked program aside
    ++ (contradictions program.groups
    ++ (options_never_set program aside ++ (values_never_set contents program aside ++ saved_never_set program aside)))

abbrev pub store_warnings : Contents → List (List ℕ) → List Pair → Program → List Warning
store_warnings contents options pairs program =
    keys_never_pressed contents program
    ++ (empty_patterns contents options program
    ++ (same_keys contents program.groups ++ (second_systems [] program.stores ++ longer_indexes contents pairs)))

-- all warnings of a program, in the order of codes; names among `aside` are known to other programs
unfoldable pub warnings_with : Contents → List (List ℕ) → List Pair → Program → List (List ℕ) → List Warning
warnings_with contents options pairs program aside =
    named_warnings contents program aside
    ++ (index_warnings contents pairs program
    ++ (condition_warnings contents program aside ++ store_warnings contents options pairs program))

unfoldable pub all_warnings : Program → List (List ℕ) → List Warning
all_warnings program aside =
    warnings_with (contents_of program) (option_names program) (program_pairs (option_names program) program) program aside

abbrev pub warning_line : Warning → ℕ
warning_line found = found.line

-- the warnings of a program in the order of lines
unfoldable pub warnings : Program → List (List ℕ) → List Warning
warnings program aside = in_lines warning_line (all_warnings program aside)
