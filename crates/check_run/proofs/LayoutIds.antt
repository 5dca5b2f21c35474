-- The result of reading the ids of a touch layout.
use Rattle.std.proofs.Common.{◌≡◌, List, ℕ, None, Some, Ok, Err, Result, refl, sym, ap, ◌∙◌, subst}
use Rattle.rule_model.specs.declared.tables.Tables.{Tables}
use Rattle.touch_layout.specs.Layout.{layout_fault, layout_ids}
use Rattle.touch_layout.specs.declared.faults.LayoutError.{LayoutError}
use Rattle.touch_layout.specs.declared.faults.LayoutError.TheVariants as layout_error
use Rattle.touch_layout.specs.declared.faults.LayoutFault.{LayoutFault}
use Rattle.keyman_words.specs.declared.reason.Reason.{Reason}
use Rattle.keyman_run.specs.Steps.{States, itself, layout_stop}
use Rattle.keyman_run.specs.Work.Reading.{Bytes}
use Rattle.check_run.specs.Inputs.{ids_in, unless_broken}

-- if a layout keeps all rules, its result is the ids of its keys
pub ids_stated : (slice layout : List ℕ) (tables : Tables) (ids : List (List ℕ)) → slice ≡ layout
    → layout_fault slice tables ≡ None → ids ≡ layout_ids slice
    → States itself (ids_in tables (Bytes layout)) (Ok ids)
ids_stated slice layout tables ids same sound made =
    let none : layout_fault layout tables ≡ None = subst (λ (bytes : List ℕ). layout_fault bytes tables ≡ None) same sound in
    let is : ids ≡ layout_ids layout = made ∙ ap layout_ids same in
    ap (unless_broken (layout_ids layout)) none
    ∙ ap (λ (found : List (List ℕ)). let read : Result (List (List ℕ)) Reason = Ok found in read) (sym is)

-- if a layout breaks a rule, its result is the first rule that it breaks
pub broken_stated : (slice layout : List ℕ) (tables : Tables) (error : LayoutError) → slice ≡ layout
    → ((fault : LayoutFault) → error ≡ layout_error.Refused fault → layout_fault slice tables ≡ Some fault)
    → States {A = List (List ℕ)} itself (ids_in tables (Bytes layout)) (Err (layout_stop error))
broken_stated slice layout tables (layout_error.Refused fault) same broken =
    subst (λ (bytes : List ℕ). States {A = List (List ℕ)} itself (ids_in tables (Bytes bytes)) (Err (layout_stop (layout_error.Refused fault)))) same
    (ap (unless_broken (layout_ids slice)) (broken fault refl))
broken_stated slice layout tables layout_error.Memory same broken = tt
