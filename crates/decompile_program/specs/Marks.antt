-- The deadkeys of a file.
use Rattle.std.specs.Prelude.{ℕ, List, [], ◌∷◌, ◌++◌, max, flat_map, fold}
use Rattle.kmn_base.specs.declared.items.Element.{Element}
use Rattle.kmn_base.specs.declared.items.Element.TheVariants as element
use Rattle.rule_model.specs.declared.tables.Pat.{Pat}
use Rattle.rule_model.specs.declared.tables.Pat.TheVariants as pattern
use Rattle.rule_model.specs.declared.tables.Out.{Out}
use Rattle.rule_model.specs.declared.tables.Out.TheVariants as output
use Rattle.rule_model.specs.declared.tables.Rule.{Rule}
use Rattle.rule_model.specs.declared.tables.Store.{Store}
use Rattle.rule_model.specs.declared.tables.Group.{Group}
use Rattle.rule_model.specs.declared.tables.Tables.{Tables}

abbrev pub element_marks : Element → List ℕ
element_marks (element.Mark m) = m ∷ []
element_marks e = []

abbrev pub pattern_marks : Pat → List ℕ
pattern_marks (pattern.Mark m) = m ∷ []
pattern_marks p = []

abbrev pub output_marks : Out → List ℕ
output_marks (output.Mark m) = m ∷ []
output_marks o = []

abbrev pub rule_marks : Rule → List ℕ
rule_marks rule = flat_map pattern_marks rule.context ++ flat_map output_marks rule.output

abbrev pub group_marks : Group → List ℕ
group_marks group = flat_map rule_marks group.rules ++ (flat_map output_marks group.on_match ++ flat_map output_marks group.on_nomatch)

abbrev pub store_marks : Store → List ℕ
store_marks store = flat_map element_marks store.elements

-- the deadkey numbers in the stores and items of tables
unfoldable pub table_marks : Tables → List ℕ
table_marks tables = flat_map store_marks tables.stores ++ flat_map group_marks tables.groups

-- the greatest deadkey number of tables, or 0
abbrev pub greatest_mark : Tables → ℕ
greatest_mark tables = fold max 0 (table_marks tables)
