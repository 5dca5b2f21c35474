-- The number of bytes that the records of rules occupy in a file: each record itself, and its strings.
use Rattle.std.specs.Prelude.{ℕ, ◌+◌, ◌*◌, nat_eq, if◌then◌else◌, List, [], ◌∷◌, length, map, flat_map, Option, Some, None, unwrap_or}
use Rattle.kmn_base.specs.declared.items.Element.{Element}
use Rattle.kmn_base.specs.declared.keys.RuleKey.{RuleKey}
use Rattle.kmn_base.specs.declared.keys.RuleKey.TheVariants as key
use Rattle.rule_model.specs.declared.program.GroupDef.{GroupDef}
use Rattle.rule_model.specs.declared.program.Program.{Program}
use Rattle.rule_model.specs.declared.program.RuleDef.{RuleDef}
use Rattle.rule_model.specs.declared.program.SrcItem.{SrcItem}
use Rattle.rule_model.specs.declared.program.SrcItem.TheVariants as source
use Rattle.rule_model.specs.declared.tables.Group.{Group}
use Rattle.rule_model.specs.declared.tables.Out.{Out}
use Rattle.rule_model.specs.declared.tables.Pat.{Pat}
use Rattle.rule_model.specs.declared.tables.Rule.{Rule}
use Rattle.rule_model.specs.declared.tables.Store.{Store}
use Rattle.rule_model.specs.declared.tables.Tables.{Tables}
use Rattle.rule_model.specs.Hold.{key_of_element}
use Rattle.rule_model.specs.Naming.{elements_named}
use Rattle.kmx_format.specs.declared.sizes.TheConstants.{RULE_BYTES}
use Rattle.compile_laws.specs.Compiles.{file_group, has_halves, own_key}
use Rattle.kmx_format.specs.File.{rule_strings, string}
use Rattle.kmx_format.specs.FileUnits.{output_units, pattern_units}
use Rattle.compile_laws.specs.Numbers.{Numbers}
use Rattle.rule_expand.specs.declared.pieces.Piece.{Piece}
use Rattle.rule_expand.specs.declared.pieces.Piece.TheVariants.{Fixed, AtKey}
use Rattle.rule_expand.specs.declared.records.Template.{Template}
use Rattle.rule_expand.specs.declared.sizes.RuleSizes.{RuleSizes}
use Rattle.rule_expand.specs.Expanded.{without_stores}
use Rattle.rule_expand.specs.Groups.{plain_records}
use Rattle.rule_expand.specs.Pieces.{piece_outs}

-- the bytes of a record and its strings
abbrev pub record_size : Rule → ℕ
record_size rule = RULE_BYTES + length (rule_strings rule)

-- the bytes of records and their strings
abbrev pub records_size : List Rule → ℕ
records_size [] = 0
records_size (rule ∷ rules) = record_size rule + records_size rules

-- ---- counted without records

-- the bytes of a string with this number of units: two for each unit and two for the zero unit, or 0 for an empty string
abbrev pub bytes_of : ℕ → ℕ
bytes_of units = if nat_eq units 0 then 0 else 2 * units + 2

-- a number of units, or the number of units of a `nul` if it is 0
abbrev pub some_units : ℕ → ℕ
some_units units = if nat_eq units 0 then 2 else units

-- the units of an output, counted item by item
abbrev pub outs_size : List Out → ℕ
outs_size [] = 0
outs_size (out ∷ outs) = length (output_units (out ∷ [])) + outs_size outs

-- the units of a context, counted item by item
abbrev pub context_size : List Pat → ℕ
context_size [] = 0
context_size (item ∷ items) = length (pattern_units (item ∷ [])) + context_size items

-- the units of the output of pieces if the key has this place in its store
abbrev pub pieces_size : List Store → Option ℕ → List Piece → ℕ
pieces_size stores place [] = 0
pieces_size stores place (piece ∷ pieces) = outs_size (piece_outs stores place piece) + pieces_size stores place pieces

-- the units of the output of a piece for every key, 0 if the output depends on the key
abbrev pub fixed_units : Piece → ℕ
fixed_units (Fixed out) = length (output_units (out ∷ []))
fixed_units (AtKey store) = 0

-- the units of the outputs of the pieces that do not depend on the key
abbrev pub fixed_size : List Piece → ℕ
fixed_size [] = 0
fixed_size (piece ∷ pieces) = fixed_units piece + fixed_size pieces

-- a piece, if it depends on the key
abbrev pub keyed_of : Piece → List Piece
keyed_of (Fixed out) = []
keyed_of (AtKey store) = AtKey store ∷ []

-- the sizes that the records of a rule have in common
abbrev pub sizes_of : Template → RuleSizes
sizes_of template =
    record {
      context = length (string (pattern_units template.context));
      fixed = fixed_size template.pieces;
      keyed = flat_map keyed_of template.pieces;
    }

-- the bytes of a record of a rule with these sizes if its key has this place in a key store
abbrev pub sized_record : List Store → RuleSizes → Option ℕ → ℕ
sized_record stores sizes place = RULE_BYTES + (sizes.context + bytes_of (some_units (sizes.fixed + pieces_size stores place sizes.keyed)))

-- the bytes of the records for a key: one, or one for each of two halves
abbrev pub sized_halves : Numbers → RuleSizes → Option ℕ → RuleKey → ℕ
sized_halves numbers sizes place wanted =
    if has_halves numbers.cased wanted
    then sized_record numbers.stores sizes place + sized_record numbers.stores sizes place
    else sized_record numbers.stores sizes place

-- the bytes of the records for the elements of a key store, from this place on
abbrev pub sized_places : Numbers → RuleSizes → ℕ → List Element → ℕ
sized_places numbers sizes place [] = 0
sized_places numbers sizes place (e ∷ elements) =
    sized_halves numbers sizes (Some place) (unwrap_or (key_of_element e) key.Any) + sized_places numbers sizes (place + 1) elements

-- the bytes of the records with this key: those for each element if it is a key store, else those for the key
abbrev pub sized_keyed : Numbers → RuleSizes → Option SrcItem → ℕ
sized_keyed numbers sizes (Some (source.Any store)) = sized_places numbers sizes 0 (elements_named numbers.stores store)
sized_keyed numbers sizes item = sized_halves numbers sizes None (own_key numbers item)

-- the bytes of the records of the plain rules among statements
abbrev pub plain_size : Numbers → List RuleDef → ℕ
plain_size numbers [] = 0
plain_size numbers (rule ∷ rules) = records_size (plain_records numbers rule) + plain_size numbers rules

-- the bytes of the records of the plain rules of groups
abbrev pub groups_size : Numbers → List GroupDef → ℕ
groups_size numbers [] = 0
groups_size numbers (group ∷ groups) = plain_size numbers group.rules + groups_size numbers groups

-- ---- tables without records

-- a group without its records
abbrev pub without_rules : Group → Group
without_rules group = record group { rules = [] }

-- tables without the records of their groups
abbrev pub without_records : Tables → Tables
without_records tables = record tables { groups = map without_rules tables.groups }

-- the group of a statement without its records
abbrev pub outline_group : Numbers → GroupDef → Group
outline_group numbers group = without_rules (file_group numbers group)

-- tables by these numbers, without stores and without records
abbrev pub outline_without_stores : Numbers → Program → ℕ → Tables
outline_without_stores numbers program version = record (without_stores numbers program version) { groups = map (outline_group numbers) program.groups }
