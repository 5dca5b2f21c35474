-- What is found in a touch layout and in a script, by the result of reading it.
use Rattle.std.proofs.Common.{ℕ, List, Result, Ok, Err, sym, subst}
use Rattle.rule_model.specs.Src.{src}
use Rattle.rule_model.specs.declared.program.Program.{Program}
use Rattle.rule_model.specs.declared.script.Entry.{Entry}
use Rattle.rule_model.specs.declared.tables.Tables.{Tables}
use Rattle.keyman_words.specs.Seen.{FolderView}
use Rattle.keyman_run.specs.Orders.{script_work}
use Rattle.keyman_run.specs.Steps.{Gives, itself}
use Rattle.keyman_run.specs.declared.preparing.Stop.{Stop}
use Rattle.keyman_run.specs.declared.preparing.Stop.TheVariants as stop
use Rattle.check_run.specs.declared.findings.LayoutFindings.{LayoutFindings}
use Rattle.check_run.specs.declared.findings.LayoutFindings.TheVariants as layouts
use Rattle.check_run.specs.declared.findings.ScriptFindings.{ScriptFindings}
use Rattle.check_run.specs.declared.findings.ScriptFindings.TheVariants as script
use Rattle.check_run.specs.Inputs.{FindsIn, LaysIn, layout_read, script_read}
use Rattle.check_run.specs.Orders.{ids_work, named_layout_work, named_script_work}
use Rattle.check_run.proofs.Concluding.{gives_bad, gives_good, gives_lost, gives_unmade, gives_unread}

module _ {F : Type 0} (program : Program) (tables : Tables) (layout : List ℕ) (folders : FolderView F) (folder after : F) where
  -- a found result is the result of the work on a layout
  abbrev IsLaid : Result LayoutFindings Stop → Type 0
  IsLaid result = Gives itself (named_layout_work program tables layout) folders folder after result

  -- the result of reading the ids of a layout is what is found in it, unless an allocation fails
  pub layout_found : (read : Result (List (List ℕ)) Stop) (result : Result LayoutFindings Stop) → LaysIn program read result
      → Gives itself (ids_work tables layout) folders folder after read → IsLaid result
  layout_found (Ok ids) (Ok found) is g =
      subst (λ (f : LayoutFindings). IsLaid (Ok f)) (sym is)
      (gives_good (layout_read program) layouts.Refused (ids_work tables layout) folders folder after ids g)
  layout_found (Ok ids) (Err s) is g =
      subst (λ (t : Stop). IsLaid (Err t)) (sym is)
      (gives_lost (layout_read program) layouts.Refused (ids_work tables layout) folders folder after ids g)
  layout_found (Err (stop.Refused why)) result is g =
      subst IsLaid (sym is)
      (gives_bad (layout_read program) layouts.Refused (ids_work tables layout) folders folder after why g)
  layout_found (Err stop.ReadFault) result is g =
      subst IsLaid (sym is)
      (gives_unread (layout_read program) layouts.Refused (ids_work tables layout) folders folder after g)
  layout_found (Err stop.Memory) result is g =
      subst IsLaid (sym is)
      (gives_unmade (layout_read program) layouts.Refused (ids_work tables layout) folders folder after g)

module _ {F : Type 0} (program : Program) (tables : Tables) (keys : List ℕ) (folders : FolderView F) (folder after : F) where
  -- a found result is the result of the work on a script
  abbrev IsFound : Result ScriptFindings Stop → Type 0
  IsFound result = Gives itself (named_script_work program tables keys) folders folder after result

  -- the result of reading a script is what is found in it, unless an allocation fails
  pub script_found : (read : Result (List Entry) Stop) (result : Result ScriptFindings Stop) → FindsIn tables read result
      → Gives itself (script_work (src program).dictionary keys) folders folder after read → IsFound result
  script_found (Ok entries) (Ok found) is g =
      subst (λ (f : ScriptFindings). IsFound (Ok f)) (sym is)
      (gives_good (script_read tables) script.Refused (script_work (src program).dictionary keys) folders folder after entries g)
  script_found (Ok entries) (Err s) is g =
      subst (λ (t : Stop). IsFound (Err t)) (sym is)
      (gives_lost (script_read tables) script.Refused (script_work (src program).dictionary keys) folders folder after entries g)
  script_found (Err (stop.Refused why)) result is g =
      subst IsFound (sym is)
      (gives_bad (script_read tables) script.Refused (script_work (src program).dictionary keys) folders folder after why g)
  script_found (Err stop.ReadFault) result is g =
      subst IsFound (sym is)
      (gives_unread (script_read tables) script.Refused (script_work (src program).dictionary keys) folders folder after g)
  script_found (Err stop.Memory) result is g =
      subst IsFound (sym is)
      (gives_unmade (script_read tables) script.Refused (script_work (src program).dictionary keys) folders folder after g)
