-- The lines of what the other engine treats differently, printed one after the other.
use Rattle.std.proofs.Common.{◌≡◌, ℕ, ◌+◌, ◌<◌, List, ◌∷◌, ◌++◌, length, drop, flat_map, get_or, ap, sym, ◌∙◌, subst, add-one, drop-cons}
use Rattle.play_transcript.specs.Printing.{AppendsBut, IsBegun}
use Rattle.play_transcript.proofs.PrintingLaws.{none_appended, appended_more, begun_within, begun_front, begun_behind}
use Rattle.core_constructs.specs.declared.construct.Difference.{Difference}
use Rattle.core_constructs.specs.declared.construct.GroupDifference.{GroupDifference}
use Rattle.core_constructs.specs.declared.construct.FileConstruct.{FileConstruct}
use Rattle.core_constructs.specs.declared.construct.Told.{Told}
use Rattle.export_run.specs.Lines.{differs_line, group_line, file_line, told_text, exported_line}

-- before the first line, all lines are still to be printed
pub lines_begin : (differences : List Difference) (before : List ℕ) → AppendsBut (flat_map differs_line differences) before before (flat_map differs_line differences)
lines_begin differences before = none_appended before (flat_map differs_line differences)

pub groups_begin : (differences : List GroupDifference) (before : List ℕ) → AppendsBut (flat_map group_line differences) before before (flat_map group_line differences)
groups_begin differences before = none_appended before (flat_map group_line differences)

pub words_begin : (constructs : List FileConstruct) (before : List ℕ) → AppendsBut (flat_map file_line constructs) before before (flat_map file_line constructs)
words_begin constructs before = none_appended before (flat_map file_line constructs)

module _ {X : Type 0} (line : X → List ℕ) (xs : List X) (i : ℕ) (d x : X) (within : i < length xs) (at : x ≡ get_or xs i d) where
  first_line : flat_map line (drop i xs) ≡ line x ++ flat_map line (drop (i + 1) xs)
  first_line =
      let first : drop i xs ≡ get_or xs i d ∷ drop (i + 1) xs = rw add-one (drop-cons xs i d within) in
      ap (flat_map line) (first ∙ ap (λ (y : X). y ∷ drop (i + 1) xs) (sym at))

  -- if the lines before a line and a first part of it are printed, a first part of all lines is printed
  pub line_begun : (start before after whole : List ℕ) → AppendsBut (flat_map line (drop i xs)) start before whole → IsBegun before after (line x) → IsBegun start after whole
  line_begun start before after whole appended begun =
      begun_within (line x) (flat_map line (drop (i + 1) xs)) start before after whole
      (subst (λ (lines : List ℕ). AppendsBut lines start before whole) first_line appended) begun

  -- if the lines before a line are printed, and then the line, the lines after it are still to be printed
  pub line_printed : (start before after whole : List ℕ) → AppendsBut (flat_map line (drop i xs)) start before whole → after ≡ before ++ line x
      → AppendsBut (flat_map line (drop (i + 1) xs)) start after whole
  line_printed start before after whole appended printed =
      appended_more (line x) (flat_map line (drop (i + 1) xs)) start before after whole
      (subst (λ (lines : List ℕ). AppendsBut lines start before whole) first_line appended) printed

-- a first part of the lines by source line is a first part of all lines
pub told_begun : (before after : List ℕ) (differences : Told) (lines : List Difference) → lines ≡ differences.lines → IsBegun before after (flat_map differs_line lines)
    → IsBegun before after (told_text differences)
told_begun before after differences lines is begun =
    begun_front before after (flat_map differs_line differences.lines) (flat_map group_line differences.groups ++ flat_map file_line differences.file)
    (subst (λ (list : List Difference). IsBegun before after (flat_map differs_line list)) is begun)

-- the lines by source line, followed by a first part of the lines by group, are a first part of all lines
pub told_groups_begun : (before middle after : List ℕ) (differences : Told) (lines : List Difference) (groups : List GroupDifference) → lines ≡ differences.lines
    → groups ≡ differences.groups → middle ≡ before ++ flat_map differs_line lines → IsBegun middle after (flat_map group_line groups)
    → IsBegun before after (told_text differences)
told_groups_begun before middle after differences lines groups are_lines are_groups printed begun =
    begun_behind before middle after (flat_map differs_line differences.lines) (flat_map group_line differences.groups ++ flat_map file_line differences.file)
    (printed ∙ ap (λ (list : List Difference). before ++ flat_map differs_line list) are_lines)
    (begun_front middle after (flat_map group_line differences.groups) (flat_map file_line differences.file)
    (subst (λ (list : List GroupDifference). IsBegun middle after (flat_map group_line list)) are_groups begun))

-- a first part of the line with the size is a first part of all that is printed
pub size_begun : (before after line : List ℕ) (size : ℕ) (differences : Told) → line ≡ exported_line size → IsBegun before after line
    → IsBegun before after (exported_line size ++ told_text differences)
size_begun before after line size differences is begun =
    begun_front before after (exported_line size) (told_text differences) (subst (λ (part : List ℕ). IsBegun before after part) is begun)
