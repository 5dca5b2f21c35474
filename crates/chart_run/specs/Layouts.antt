-- What is read of a touch layout.
use Rattle.std.specs.Prelude.{List, Option, Some, None, Result, Ok, Err}
use Rattle.kmn_base.specs.declared.codes.Code.TheVariants.{T7}
use Rattle.rule_model.specs.Tab.{tab}
use Rattle.rule_model.specs.declared.tables.Tables.{Tables}
use Rattle.touch_layout.specs.Faults.{fault, whole_layout}
use Rattle.touch_layout.specs.Layout.{layout_fault}
use Rattle.touch_layout.specs.declared.faults.LayoutFault.{LayoutFault}
use Rattle.touch_board.specs.Layers.{touch_layers}
use Rattle.touch_board.specs.declared.layers.TouchLayer.{TouchLayer}
use Rattle.keyman_words.specs.declared.reason.Reason.{Reason}
use Rattle.keyman_words.specs.declared.reason.Reason.TheVariants as reason
use Rattle.keyman_run.specs.Work.{Reading}
use Rattle.keyman_run.specs.Work.Reading.{Bytes, Over}

-- layers, unless their layout breaks a rule
abbrev pub unless_broken : List TouchLayer → Option LayoutFault → Result (List TouchLayer) Reason
unless_broken layers None = Ok layers
unless_broken layers (Some broken) = Err (reason.Layout broken)

-- the layers of a touch layout, if it keeps all rules for the keyboard of tables, else the first rule that it breaks
abbrev pub layers_of : Tables → Reading → Result (List TouchLayer) Reason
layers_of tables (Bytes layout) = unless_broken (touch_layers (tab tables).dictionary layout) (layout_fault layout tables)
layers_of tables (Over size) = Err (reason.Layout (fault T7 whole_layout))
