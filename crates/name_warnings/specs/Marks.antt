-- W02 and W03: deadkeys that are put and never looked for, or looked for and never put.
use Rattle.std.specs.Prelude.{ℕ, List, ◌++◌}
use Rattle.rule_model.specs.declared.program.Program.{Program}
use Rattle.source_uses.specs.declared.contents.Contents.{Contents}
use Rattle.source_uses.specs.declared.used.Part.TheVariants as part
use Rattle.source_uses.specs.declared.used.Role.TheVariants as role
use Rattle.source_uses.specs.Marks.{mark_uses}
use Rattle.source_uses.specs.Uses.{names_of, rule_uses}
use Rattle.name_warnings.specs.declared.named.Concern.TheVariants as concern
use Rattle.name_warnings.specs.declared.warning.Warning.{Warning}
use Rattle.name_warnings.specs.Named.{lacking}

-- W02: deadkeys of outputs that are deadkeys of no context
abbrev pub marks_never_sought : Contents → Program → List (List ℕ) → List Warning
marks_never_sought contents program aside =
    lacking concern.MarkNeverSought (names_of (mark_uses contents part.Context program) ++ aside) (mark_uses contents part.Output program)

-- W03: deadkeys that a context looks for by their names, and that are deadkeys of no output
abbrev pub marks_never_put : Contents → Program → List (List ℕ) → List Warning
marks_never_put contents program aside =
    lacking concern.MarkNeverPut (names_of (mark_uses contents part.Output program) ++ aside) (rule_uses role.Mark part.Context program)

abbrev pub mark_warnings : Contents → Program → List (List ℕ) → List Warning
mark_warnings contents program aside = marks_never_sought contents program aside ++ marks_never_put contents program aside
