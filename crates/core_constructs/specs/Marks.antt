-- The marks (deadkeys) that the outputs of a keyboard put.
use Rattle.std.specs.Prelude.{ℕ, if◌then◌else◌, List, [], ◌∷◌, ◌++◌, flat_map}
use Rattle.kmn_base.specs.declared.items.Element.{Element}
use Rattle.kmn_base.specs.declared.items.Element.TheVariants as element
use Rattle.kmn_base.specs.Rising.{is_among, rising}
use Rattle.rule_model.specs.declared.tables.Out.{Out}
use Rattle.rule_model.specs.declared.tables.Out.TheVariants as output
use Rattle.rule_model.specs.declared.tables.Rule.{Rule}
use Rattle.rule_model.specs.declared.tables.Group.{Group}
use Rattle.rule_model.specs.declared.tables.Store.{Store}
use Rattle.rule_model.specs.declared.tables.Tables.{Tables}
use Rattle.rule_model.specs.Tab.{elements_of}
use Rattle.core_constructs.specs.Outputs.{live}

-- ---- the live items of all outputs

abbrev pub rule_items : Rule → List Out
rule_items rule = live rule.output

abbrev pub group_items : Group → List Out
group_items group = (flat_map rule_items group.rules ++ live group.on_match) ++ live group.on_nomatch

abbrev pub live_items : Tables → List Out
live_items tables = flat_map group_items tables.groups

-- ---- marks

abbrev pub item_marks : Out → List ℕ
item_marks (output.Mark mark) = mark ∷ []
item_marks _ = []

abbrev pub element_marks : Element → List ℕ
element_marks (element.Mark mark) = mark ∷ []
element_marks _ = []

abbrev pub store_marks : List Store → ℕ → List ℕ
store_marks stores store = flat_map element_marks (elements_of stores store)

-- the store of which an item puts an element
abbrev pub put_store : Out → List ℕ
put_store (output.Index store offset) = store ∷ []
put_store _ = []

abbrev pub put_stores : List Out → List ℕ
put_stores items = rising (flat_map put_store items)

-- the value that an item sets one of these stores to
abbrev pub set_value : List ℕ → Out → List ℕ
set_value stores (output.Set store value) = if is_among store stores then value ∷ [] else []
set_value stores _ = []

abbrev pub set_values : List Out → List ℕ
set_values items = rising (flat_map (set_value (put_stores items)) items)

-- the marks that these items put: those among them, and those in a store of which they put an element, or in a value that they set it to
abbrev pub marks_of : List Store → List Out → List ℕ
marks_of stores items =
    rising ((flat_map item_marks items ++ flat_map (store_marks stores) (put_stores items)) ++ flat_map (store_marks stores) (set_values items))

-- the marks that a keyboard can put
abbrev pub put_marks : Tables → List ℕ
put_marks tables = marks_of tables.stores (live_items tables)
