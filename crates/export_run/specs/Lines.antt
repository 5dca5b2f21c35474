-- The lines that are printed.
use Rattle.std.specs.Prelude.{ℕ, List, [], ◌∷◌, ◌++◌, length, map, flat_map, codes, Some, None}
use Rattle.std.specs.List.{concat}
use Rattle.std.specs.Fmt.{decimal}
use Rattle.rule_model.specs.Lines.{joined}
use Rattle.keyman_words.specs.Reasons.{fault_line}
use Rattle.core_constructs.specs.declared.construct.Construct.{Construct}
use Rattle.core_constructs.specs.declared.construct.Construct.TheVariants as construct
use Rattle.core_constructs.specs.declared.construct.Difference.{Difference}
use Rattle.core_constructs.specs.declared.construct.GroupConstruct.{GroupConstruct}
use Rattle.core_constructs.specs.declared.construct.GroupConstruct.TheVariants as group_construct
use Rattle.core_constructs.specs.declared.construct.GroupDifference.{GroupDifference}
use Rattle.core_constructs.specs.declared.construct.FileConstruct.{FileConstruct}
use Rattle.core_constructs.specs.declared.construct.FileConstruct.TheVariants as file_construct
use Rattle.core_constructs.specs.declared.construct.Told.{Told}
use Rattle.export_run.specs.declared.reading.ExportReason.{ExportReason}
use Rattle.export_run.specs.declared.reading.ExportReason.TheVariants.{File, SavesTwice, Nameless, Unreadable, Overfull, NoZeroUnit, Overlapping}
use Rattle.export_run.specs.declared.reading.Export.{Export}

-- the line with the size of an export
unfoldable pub exported_line : ℕ → List ℕ
exported_line size = concat (codes "exported bytes=" ∷ decimal size ∷ codes "\n" ∷ [])

-- the word of a construct of a record
abbrev pub construct_word : Construct → List ℕ
construct_word construct.Use = codes "use"
construct_word construct.Match = codes "match"
construct_word construct.Nul = codes "nul"
construct_word construct.Offset = codes "offset"
construct_word construct.Empty = codes "empty"
construct_word construct.Sides = codes "sides"
construct_word construct.Right = codes "right"
construct_word construct.Long = codes "long"
construct_word construct.Layer = codes "layer"
construct_word construct.Platform = codes "platform"
construct_word construct.Save = codes "save"
construct_word construct.Keypad = codes "keypad"
construct_word construct.Value = codes "value"

-- the word of a construct of the match or nomatch output of a group
abbrev pub group_word : GroupConstruct → List ℕ
group_word group_construct.Use = codes "use"
group_word group_construct.Save = codes "save"
group_word group_construct.Layer = codes "layer"
group_word group_construct.Nomatch = codes "nomatch"

-- the word of a construct of a file
abbrev pub file_word : FileConstruct → List ℕ
file_word file_construct.Marks = codes "marks"
file_word file_construct.Own = codes "own"
file_word file_construct.Both = codes "both"
file_word file_construct.Budget = codes "budget"
file_word file_construct.Caps = codes "caps"
file_word file_construct.Names = codes "names"

-- the printed line of a difference: a line of the source, and the words of all constructs that its records have
abbrev pub differs_line : Difference → List ℕ
differs_line difference =
    concat (codes "differs " ∷ decimal difference.line ∷ codes " " ∷ joined (map construct_word difference.constructs) ∷ codes "\n" ∷ [])

-- the printed line of a construct of a group: the number of the group, from 0, and the word
abbrev pub group_line : GroupDifference → List ℕ
group_line difference =
    concat (codes "differs group " ∷ decimal difference.group ∷ codes " " ∷ group_word difference.construct ∷ codes "\n" ∷ [])

-- the printed line of a construct of the file: the word
abbrev pub file_line : FileConstruct → List ℕ
file_line construct = concat (codes "differs file " ∷ file_word construct ∷ codes "\n" ∷ [])

-- the printed lines of all that the other engine treats differently: first by line of the source, then by group, then for the file
abbrev pub told_text : Told → List ℕ
told_text told = flat_map differs_line told.lines ++ (flat_map group_line told.groups ++ flat_map file_line told.file)

-- what is printed for an export: its size, and all that the other engine treats differently
abbrev pub exported_text : Export → List ℕ
exported_text export = exported_line (length export.bytes) ++ told_text export.differences

-- the line of the reason why a file isn't exported
abbrev pub unexported_line : ExportReason → List ℕ
unexported_line (File fault) = fault_line fault
unexported_line (SavesTwice line) = concat (codes "refused K01 line " ∷ decimal line ∷ codes "\n" ∷ [])
unexported_line Nameless = codes "refused K02\n"
unexported_line (Unreadable (Some line)) = concat (codes "refused K03 line " ∷ decimal line ∷ codes "\n" ∷ [])
unexported_line (Unreadable None) = codes "refused K03\n"
unexported_line Overfull = codes "refused K04\n"
unexported_line NoZeroUnit = codes "refused K05\n"
unexported_line Overlapping = codes "refused K06\n"
