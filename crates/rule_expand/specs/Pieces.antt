-- The pieces of an output: the items that are the same for all keys of a key store, and those that depend on the key.
use Rattle.std.specs.Prelude.{ℕ, ◌+◌, ◌*◌, nat_eq, if◌then◌else◌, List, [], ◌∷◌, ◌++◌, map, flat_map, length, Option, Some, None, unwrap_or}
use Rattle.kmn_base.specs.declared.items.Element.{Element}
use Rattle.kmn_base.specs.declared.keys.RuleKey.{RuleKey}
use Rattle.kmn_base.specs.declared.keys.RuleKey.TheVariants as key
use Rattle.rule_model.specs.declared.program.SrcItem.{SrcItem}
use Rattle.rule_model.specs.declared.program.SrcItem.TheVariants as source
use Rattle.rule_model.specs.declared.program.RuleDef.{RuleDef}
use Rattle.rule_model.specs.declared.tables.Out.{Out}
use Rattle.rule_model.specs.declared.tables.Out.TheVariants as output
use Rattle.rule_model.specs.declared.tables.Rule.{Rule}
use Rattle.rule_model.specs.declared.tables.Store.{Store}
use Rattle.rule_model.specs.Match.{element_at}
use Rattle.rule_model.specs.Hold.{key_of_element}
use Rattle.rule_model.specs.Naming.{mark_number, elements_named}
use Rattle.compile_laws.specs.Numbers.{Numbers, number_of_store, number_of_group, number_of_value}
use Rattle.compile_laws.specs.Compiles.{element_outs, element_outs_if_any, file_pattern, or_nul, has_halves, half_key, own_key}
use Rattle.rule_expand.specs.declared.pieces.Piece.{Piece}
use Rattle.rule_expand.specs.declared.pieces.Piece.TheVariants.{Fixed, AtKey}
use Rattle.rule_expand.specs.declared.records.Template.{Template}
use Rattle.rule_expand.specs.Lookups.{place_of_store, elements_at}

-- the output of an item that is neither `outs` nor an `index` with the offset of the key
abbrev pub one_output : Numbers → SrcItem → Out
one_output numbers (source.Char c) = output.Char c
one_output numbers (source.Dead name) = output.Mark (mark_number numbers.names name)
one_output numbers (source.Index store offset) = output.Index (number_of_store numbers store) offset
one_output numbers source.Context = output.Context
one_output numbers (source.ContextAt offset) = output.ContextAt offset
one_output numbers (source.Enter group) = output.Enter (number_of_group numbers group)
one_output numbers (source.Set store value) = output.Set (number_of_store numbers store) (number_of_value numbers value)
one_output numbers (source.SetSystem id value) = output.SetSystem id (number_of_value numbers value)
one_output numbers (source.Save store) = output.Save (number_of_store numbers store)
one_output numbers (source.Reset store) = output.Reset (number_of_store numbers store)
one_output numbers source.Beep = output.Beep
one_output numbers source.Stop = output.Stop
one_output numbers item = output.Nul

-- the pieces of an output item of a rule that has `count` context items
abbrev pub item_pieces : Numbers → ℕ → SrcItem → List Piece
item_pieces numbers count (source.Index store offset) =
    (if nat_eq offset (count + 1)
    then AtKey (place_of_store numbers.stores store)
    else Fixed (output.Index (number_of_store numbers store) offset)) ∷ []
item_pieces numbers count (source.Outs store) = map Fixed (flat_map element_outs (elements_named numbers.stores store))
item_pieces numbers count item = Fixed (one_output numbers item) ∷ []

-- the output of a piece if the key has this place in its store
abbrev pub piece_outs : List Store → Option ℕ → Piece → List Out
piece_outs stores place (Fixed out) = out ∷ []
piece_outs stores place (AtKey store) = element_outs_if_any (element_at (elements_at stores store) place)

-- the output of pieces, or a `nul` if the output is empty
abbrev pub pieces_outputs : List Store → Option ℕ → List Piece → List Out
pieces_outputs stores place pieces = or_nul (flat_map (piece_outs stores place) pieces)

-- what the records of a rule have in common
abbrev pub template_of : Numbers → RuleDef → Template
template_of numbers rule =
    record {
      line = rule.line;
      context = map (file_pattern numbers) rule.context;
      pieces = flat_map (item_pieces numbers (length rule.context)) rule.output;
    }

-- the record of a rule for a key, given the place of the key in a key store, if any, and the number of the half
abbrev pub template_record : List Store → Template → Option ℕ → ℕ → RuleKey → Rule
template_record stores template place half wanted =
    record {
      line = template.line;
      place = 2 * unwrap_or place 0 + half;
      key = wanted;
      context = template.context;
      output = pieces_outputs stores place template.pieces;
    }

-- the records of a rule for a key: one, or one for each of two halves
abbrev pub template_halves : Numbers → Template → Option ℕ → RuleKey → List Rule
template_halves numbers template place wanted =
    if has_halves numbers.cased wanted
    then template_record numbers.stores template place 0 (half_key 0 wanted) ∷ template_record numbers.stores template place 1 (half_key 1 wanted) ∷ []
    else template_record numbers.stores template place 0 wanted ∷ []

-- the records of a rule for the elements of a key store, from this place on
abbrev pub template_records : Numbers → Template → ℕ → List Element → List Rule
template_records numbers template place [] = []
template_records numbers template place (e ∷ elements) =
    template_halves numbers template (Some place) (unwrap_or (key_of_element e) key.Any) ++ template_records numbers template (place + 1) elements

-- the records of a rule with this key: those for each element if it is a key store, else those for the key
abbrev pub template_keyed : Numbers → Template → Option SrcItem → List Rule
template_keyed numbers template (Some (source.Any store)) = template_records numbers template 0 (elements_named numbers.stores store)
template_keyed numbers template item = template_halves numbers template None (own_key numbers item)
