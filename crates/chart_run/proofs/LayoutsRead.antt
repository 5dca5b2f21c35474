-- The result of reading a touch layout.
use Rattle.std.proofs.Common.{◌≡◌, List, ℕ, None, Some, Ok, Err, Result, refl, sym, ap, ◌∙◌, subst}
use Rattle.rule_model.specs.Tab.{tab}
use Rattle.rule_model.specs.declared.tables.Tables.{Tables}
use Rattle.touch_board.specs.Layers.{touch_layers}
use Rattle.touch_board.specs.declared.layers.TouchLayer.{TouchLayer}
use Rattle.touch_layout.specs.Layout.{layout_fault}
use Rattle.touch_layout.specs.declared.faults.LayoutError.{LayoutError}
use Rattle.touch_layout.specs.declared.faults.LayoutError.TheVariants as layout_error
use Rattle.touch_layout.specs.declared.faults.LayoutFault.{LayoutFault}
use Rattle.keyman_words.specs.declared.reason.Reason.{Reason}
use Rattle.keyman_run.specs.Steps.{States, itself, layout_stop}
use Rattle.keyman_run.specs.Work.Reading.{Bytes}
use Rattle.chart_run.specs.Layouts.{layers_of, unless_broken}

-- if a layout keeps all rules, its result is its layers
pub layers_stated : (slice layout : List ℕ) (names : List (List ℕ)) (tables : Tables) (layers : List TouchLayer) → slice ≡ layout
    → names ≡ (tab tables).dictionary → layout_fault slice tables ≡ None → layers ≡ touch_layers names slice
    → States itself (layers_of tables (Bytes layout)) (Ok layers)
layers_stated slice layout names tables layers same known sound made =
    let none : layout_fault layout tables ≡ None = subst (λ (bytes : List ℕ). layout_fault bytes tables ≡ None) same sound in
    let is : layers ≡ touch_layers (tab tables).dictionary layout = made ∙ (λ i. touch_layers (known i) (same i)) in
    ap (unless_broken (touch_layers (tab tables).dictionary layout)) none
    ∙ ap (λ (found : List TouchLayer). let read : Result (List TouchLayer) Reason = Ok found in read) (sym is)

-- if a layout breaks a rule, its result is the first rule that it breaks
pub broken_stated : (slice layout : List ℕ) (tables : Tables) (error : LayoutError) → slice ≡ layout
    → ((fault : LayoutFault) → error ≡ layout_error.Refused fault → layout_fault slice tables ≡ Some fault)
    → States {A = List TouchLayer} itself (layers_of tables (Bytes layout)) (Err (layout_stop error))
broken_stated slice layout tables (layout_error.Refused fault) same broken =
    subst (λ (bytes : List ℕ). States {A = List TouchLayer} itself (layers_of tables (Bytes bytes)) (Err (layout_stop (layout_error.Refused fault)))) same
    (ap (unless_broken (touch_layers (tab tables).dictionary slice)) (broken fault refl))
broken_stated slice layout tables layout_error.Memory same broken = tt
