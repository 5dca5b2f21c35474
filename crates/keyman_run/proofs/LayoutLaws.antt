-- The result of reading a layout, and the run that checks one.
use Rattle.std.proofs.Common.{◌≡◌, List, ℕ, None, Some, Ok, Err, refl, sym, ap, ◌∙◌, subst, append-nil}
use Rattle.kmn_compiler.specs.declared.compiling.Compiled.{Compiled}
use Rattle.rule_model.specs.declared.tables.Tables.{Tables}
use Rattle.touch_layout.specs.Layout.{key_count, layout_fault}
use Rattle.touch_layout.specs.declared.faults.LayoutError.{LayoutError}
use Rattle.touch_layout.specs.declared.faults.LayoutError.TheVariants as layout_error
use Rattle.touch_layout.specs.declared.faults.LayoutFault.{LayoutFault}
use Rattle.keyman_words.specs.declared.status.Status.{Status}
use Rattle.keyman_words.specs.declared.status.Status.TheVariants as status
use Rattle.keyman_run.specs.Endings.{Ending, layout_ending}
use Rattle.keyman_words.specs.Lines.{sound_line}
use Rattle.keyman_run.specs.Inputs.{keys_of, unless_broken}
use Rattle.keyman_run.specs.Orders.{compiled_work, layout_work, tables_layout_work}
use Rattle.keyman_run.specs.Run.{Does}
use Rattle.keyman_words.specs.Seen.{FolderView, SinkView}
use Rattle.keyman_words.specs.Tells.{Tells}
use Rattle.keyman_run.specs.Steps.{States, itself, layout_stop}
use Rattle.keyman_run.specs.Work.{Work, and_then}
use Rattle.keyman_run.specs.Work.Reading.{Bytes}
use Rattle.keyman_run.specs.Work.Work.{Give}
use Rattle.keyman_run.proofs.MeaningLaws.{file_behind}
use Rattle.keyman_run.proofs.RunLaws.{does_told}

-- if a layout keeps all rules, its result is the number of its keys
pub sound_stated : (slice layout : List ℕ) (tables : Tables) (count : ℕ) → slice ≡ layout → (layout_fault slice tables ≡ None) × (count ≡ key_count slice)
    → States itself (keys_of tables (Bytes layout)) (Ok count)
sound_stated slice layout tables count same h =
    subst (λ (bytes : List ℕ). States itself (keys_of tables (Bytes bytes)) (Ok count)) same
    (ap (unless_broken (key_count slice)) h.0 ∙ ap Ok (sym h.1))

-- if a layout breaks a rule, its result is the first rule that it breaks
pub broken_layout : (slice layout : List ℕ) (tables : Tables) (error : LayoutError) → slice ≡ layout
    → ((fault : LayoutFault) → error ≡ layout_error.Refused fault → layout_fault slice tables ≡ Some fault)
    → States {A = ℕ} itself (keys_of tables (Bytes layout)) (Err (layout_stop error))
broken_layout slice layout tables (layout_error.Refused fault) same broken =
    subst (λ (bytes : List ℕ). States {A = ℕ} itself (keys_of tables (Bytes bytes)) (Err (layout_stop (layout_error.Refused fault)))) same
    (ap (unless_broken (key_count slice)) (broken fault refl))
broken_layout slice layout tables layout_error.Memory same broken = tt

-- the work that follows the number of keys, and the work that follows the tables
abbrev pub count_behind : ℕ → Work Ending
count_behind count = Give (layout_ending count)

abbrev pub check_behind : List ℕ → Compiled → Work Ending
check_behind layout compiled = tables_layout_work compiled.tables layout

pub layout_in_steps : (source layout : List ℕ) → and_then (compiled_work source) (check_behind layout) ≡ layout_work source layout
layout_in_steps source layout = file_behind source (check_behind layout)

-- if a run prints the number of keys, it does the work that follows this number
pub does_sound : {F S : Type 0} (count : ℕ) (folders : FolderView F) (folder : F) (sinks : SinkView S) (out out_after : S) (how : Status)
    → Tells status.Done (sound_line count) sinks out out_after how → Does (count_behind count) folders folder folder sinks out out_after how
does_sound count folders folder sinks out out_after how tells =
    does_told (count_behind count) (layout_ending count) folders folder folder sinks out out_after how refl refl
    (λ told. (refl, record { asked = sym (append-nil (folders.calls folder)); files = λ name. refl })) tells
