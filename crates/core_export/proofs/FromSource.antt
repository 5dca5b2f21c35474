-- If a source compiles to a file, the file is exported.
use Rattle.std.proofs.Common.{◌≡◌, ◌≢◌, ℕ, ◌≤◌, ◌<◌, Bool, true, false, nat_lt, List, [], ◌∷◌, ◌++◌, length, map, Option, Some, None, refl, sym, ap, subst, ◌∙◌, arith}
use Rattle.std.specs.Prelude.{◌+◌, ◌-◌, ◌/◌, ◌%◌, if◌then◌else◌}
use Rattle.std.specs.Option.{is_some}
use Rattle.std.specs.List.{All, flat_map}
use Rattle.std.specs.Str.{chars}
use Rattle.std.proofs.lemmas.List.Elements.{All-head}
use Rattle.kmn_base.specs.Spelling.{char_units}
use Rattle.rule_model.specs.declared.program.GroupDef.{GroupDef}
use Rattle.rule_model.specs.declared.program.Program.{Program}
use Rattle.rule_model.specs.declared.tables.Tables.{Tables}
use Rattle.kmn_parser.specs.ProgramLaws.{IsName, IsReadGroup, IsReadProgram}
use Rattle.kmn_parser.proofs.ReadPrograms.{programs_are_read}
use Rattle.kmx_format.specs.FileUnits.{name_units}
use Rattle.compile_laws.specs.Compiles.{file_group}
use Rattle.compile_laws.specs.Numbers.{numbers_of}
use Rattle.compile_laws.specs.Ordered.{ordered_group, compiled_tables}
use Rattle.kmn_compiler.specs.Source.{IsCompiledFrom}
use Rattle.rule_checker.proofs.Sources.{accepted_parts}
use Rattle.core_export.specs.Export.{zero_unit}
use Rattle.core_export.specs.ExportLaws.{IsFirstNamed, CompiledFilesAreExported}
use Rattle.core_export.proofs.Filed.{written_files_are_exported}
use Rattle.core_export.proofs.Named.{of_tables}

two_units : (b : Bool) (c d e : ℕ) → (if b then c ∷ [] else d ∷ e ∷ []) ≢ []
two_units true c d e h = absurd (cc)
two_units false c d e h = absurd (cc)

some_append : (xs ys : List ℕ) → xs ≢ [] → xs ++ ys ≢ []
some_append [] ys some h = some refl
some_append (x ∷ xs) ys some h = absurd (cc)

chars_spelled : (cs : List ℕ) → 1 ≤ length cs → flat_map char_units cs ≢ []
chars_spelled [] h = absurd (omega (arith, h))
chars_spelled (c ∷ cs) h = some_append (char_units c) (flat_map char_units cs) (two_units (nat_lt c 0x1_0000) c (0xD800 + (c - 0x1_0000) / 0x400) (0xDC00 + (c - 0x1_0000) % 0x400))

name_spelled : (name : List ℕ) → IsName name → name_units name ≢ []
unfolding name_units
name_spelled name h = chars_spelled (chars name) h.some

first_named : (program : Program) (groups : List GroupDef) → groups ≢ [] → All IsReadGroup groups → IsFirstNamed (map (λ group. ordered_group (file_group (numbers_of program) group)) groups)
first_named program [] some h = absurd (some refl)
first_named program (group ∷ groups) some h = name_spelled group.name (All-head IsReadGroup group groups h).name

-- if tables have a start group, they have a group
some_group : {X : Type 0} (groups : List X) (start : ℕ) → start < length groups → groups ≢ []
some_group [] start h none = absurd (omega (arith, h))
some_group (group ∷ groups) start h none = absurd (cc)

mapped_some : {X Y : Type 0} (f : X → Y) (xs : List X) → map f xs ≢ [] → xs ≢ []
mapped_some f [] h none = h refl
mapped_some f (x ∷ xs) h none = absurd (cc)

tables_named : (program : Program) → (compiled_tables program).groups ≢ [] → IsReadProgram program → IsFirstNamed (compiled_tables program).groups
unfolding compiled_tables
tables_named program some read =
    first_named program program.groups (mapped_some (λ group. ordered_group (file_group (numbers_of program) group)) program.groups some) read.groups

some_unit : (found : Option ℕ) → is_some found ≡ true → (unit : ℕ) × (found ≡ Some unit)
some_unit None h = absurd (cc)
some_unit (Some unit) h = (unit, refl)

pub compiled_files_are_exported : CompiledFilesAreExported
compiled_files_are_exported source picture compiled h =
    let program : Program = h.0 in
    let from : IsCompiledFrom program picture compiled = h.2 in
    let read : IsReadProgram program = programs_are_read source program (accepted_parts source program h.1).0 in
    let some : compiled.tables.groups ≢ [] = some_group compiled.tables.groups compiled.tables.start_unicode from.writable.start_unicode in
    let named : IsFirstNamed compiled.tables.groups =
    subst (λ (tables : Tables). IsFirstNamed tables.groups) (sym from.tables)
    (tables_named program (subst (λ (tables : Tables). tables.groups ≢ []) from.tables some) read) in
    let found = some_unit (zero_unit compiled.bytes)
    (ap (λ (bytes : List ℕ). is_some (zero_unit bytes)) from.bytes
    ∙ of_tables compiled.tables picture from.writable (omega (arith, from.file.file_size, ap length from.bytes)) named) in
    (found.0, found.1, written_files_are_exported compiled.bytes found.0 from.file found.1)
