-- The codes and the texts of warnings and notes. Names are printed in the form `shown_text`.
use Rattle.std.specs.Prelude.{ℕ, nat_eq, Bool, true, false, if◌then◌else◌, List, [], ◌∷◌, ◌++◌, length, flat_map, codes, encode_utf8_all}
use Rattle.std.specs.List.{concat}
use Rattle.std.specs.Fmt.{decimal}
use Rattle.name_warnings.specs.declared.warning.WarningKind.{WarningKind}
use Rattle.name_warnings.specs.declared.warning.WarningKind.TheVariants as kind
use Rattle.check_texts.specs.Details.{shown_text}

-- the code of a warning
abbrev pub warning_code : WarningKind → List ℕ
warning_code (kind.UnusedStore store) = codes "W01"
warning_code (kind.MarkNeverSought mark) = codes "W02"
warning_code (kind.MarkNeverPut mark) = codes "W03"
warning_code (kind.GroupNeverEntered group) = codes "W04"
warning_code (kind.ShorterIndex index elements any any_elements) = codes "W05"
warning_code (kind.RepeatedElement place any index) = codes "W06"
warning_code (kind.NeverFirst lines) = codes "W07"
warning_code (kind.NeverFirstNotSought records) = codes "W07"
warning_code (kind.OptionNeverAsked option) = codes "W08"
warning_code kind.ContradictoryConditions = codes "W09"
warning_code (kind.OptionNeverSet option) = codes "W10"
warning_code (kind.ValueNeverSet option value) = codes "W11"
warning_code (kind.SavedNeverSet option) = codes "W12"
warning_code kind.KeyNeverPressed = codes "W13"
warning_code (kind.KeysNeverPressed store count keys) = codes "W13"
warning_code (kind.PatternWithoutElements store) = codes "W14"
warning_code kind.KeyGivesTheSame = codes "W15"
warning_code kind.SecondSystemStore = codes "W16"
warning_code (kind.KeyNotLaid key) = codes "W17"
warning_code (kind.LongerIndex index any) = codes "W18"

-- whether a warning is only a note: the application may put it right, it is often intended, or it is about a search that was not made
unfoldable pub is_note : WarningKind → Bool
is_note (kind.NeverFirstNotSought records) = true
is_note (kind.OptionNeverSet option) = true
is_note (kind.ValueNeverSet option value) = true
is_note kind.KeyGivesTheSame = true
is_note (kind.LongerIndex index any) = true
is_note other = false

-- a text with a name in it, and one with two names
abbrev pub around : List ℕ → List ℕ → List ℕ → List ℕ
around front name rest = concat (front ∷ shown_text name ∷ rest ∷ [])

abbrev pub around_two : List ℕ → List ℕ → List ℕ → List ℕ → List ℕ → List ℕ
around_two front name between other rest = concat (front ∷ shown_text name ∷ between ∷ shown_text other ∷ rest ∷ [])

-- the text of a warning about one name; other warnings have none here
abbrev pub named_text : WarningKind → List ℕ
named_text (kind.UnusedStore store) = around (codes "store '") store (codes "' is used nowhere")
named_text (kind.MarkNeverSought mark) = around (codes "deadkey '") mark (codes "' is put and never looked for")
named_text (kind.MarkNeverPut mark) = around (codes "deadkey '") mark (codes "' is looked for and never put")
named_text (kind.GroupNeverEntered group) = around (codes "group '") group (codes "' is never entered")
named_text (kind.OptionNeverAsked option) = around (codes "option '") option (codes "' is set and never asked for")
named_text (kind.OptionNeverSet option) = around (codes "option '") option (codes "' is asked for, and nothing sets it")
named_text (kind.SavedNeverSet option) = around (codes "option '") option (codes "' is saved, and nothing sets it")
named_text (kind.PatternWithoutElements store) = around (codes "store '") store (codes "' has no character and no deadkey")
named_text (kind.KeyNotLaid key) = around (codes "no key of the layout is '") key (codes "'")
named_text other = []

-- parts of texts that have numbers: two sizes, a place twice, and how many keys
unfoldable pub size_between : ℕ → List ℕ
size_between elements = concat (codes "') has " ∷ decimal elements ∷ codes " elements, any('" ∷ [])

unfoldable pub size_after : ℕ → List ℕ
size_after elements = concat (codes "') " ∷ decimal elements ∷ [])

unfoldable pub element_before : ℕ → List ℕ
element_before place = concat (codes "element " ∷ decimal place ∷ codes " of '" ∷ [])

unfoldable pub element_between : ℕ → List ℕ
element_between place = concat (codes "' stands there before, so element " ∷ decimal place ∷ codes " of '" ∷ [])

unfoldable pub keys_before : ℕ → ℕ → List ℕ
keys_before count keys = concat (decimal count ∷ codes " of " ∷ decimal keys ∷ codes " keys of '" ∷ [])

-- the lines of rules: one line, or several with commas between them
unfoldable pub one_line : ℕ → List ℕ
one_line line = concat (codes "line " ∷ decimal line ∷ [])

unfoldable pub several_lines : ℕ → List ℕ
several_lines line = concat (codes "lines " ∷ decimal line ∷ [])

unfoldable pub next_line : ℕ → List ℕ
next_line line = concat (codes ", " ∷ decimal line ∷ [])

unfoldable pub first_line : ℕ → ℕ → List ℕ
first_line more line = if nat_eq more 0 then one_line line else several_lines line

unfoldable pub listed_lines : List ℕ → List ℕ
listed_lines [] = []
listed_lines (line ∷ lines) = first_line (length lines) line ++ flat_map next_line lines

-- the text of the note that this many records are too many
unfoldable pub too_many_text : ℕ → List ℕ
too_many_text records = concat (decimal records ∷ codes " records are too many to look for dead rules" ∷ [])

-- the text of a warning about several names or numbers; other warnings have none here
abbrev pub joined_text : WarningKind → List ℕ
joined_text (kind.ShorterIndex index elements any any_elements) =
    around_two (codes "index('") index (size_between elements) any (size_after any_elements)
joined_text (kind.RepeatedElement place any index) =
    around_two (element_before place) any (element_between place) index (codes "' never comes")
joined_text (kind.NeverFirst lines) = codes "this rule never comes first, behind " ++ listed_lines lines
joined_text (kind.NeverFirstNotSought records) = too_many_text records
joined_text (kind.ValueNeverSet option value) =
    around_two (codes "option '") option (codes "' is never '") (encode_utf8_all value) (codes "'")
joined_text (kind.KeysNeverPressed store count keys) = around (keys_before count keys) store (codes "' are given by no press")
joined_text (kind.LongerIndex index any) =
    around_two (codes "index('") index (codes "') has more elements than any('") any (codes "')")
joined_text other = []

-- the text of a warning without names; other warnings have none here
abbrev pub fixed_text : WarningKind → List ℕ
fixed_text kind.ContradictoryConditions = codes "these conditions are never true together"
fixed_text kind.KeyNeverPressed = codes "no press gives this key"
fixed_text kind.KeyGivesTheSame = codes "the key gives this without a rule"
fixed_text kind.SecondSystemStore = codes "the first of these statements counts"
fixed_text other = []

-- the text of a warning
unfoldable pub warning_text : WarningKind → List ℕ
warning_text kind = named_text kind ++ (joined_text kind ++ fixed_text kind)
