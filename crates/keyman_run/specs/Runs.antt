-- The effects of a run of command-line arguments on a folder and a sink: the contract of `run`, clause by clause.
use Rattle.std.specs.Prelude.{◌≡◌, ◌⊎◌, ◌↔◌, ℕ, false, IsTrue, List, IsSomeAnd}
use Rattle.kmn_outside.specs.Outside.{Rose}
use Rattle.keyman_words.specs.declared.status.Status.{Status}
use Rattle.keyman_words.specs.declared.status.Status.TheVariants as status
use Rattle.keyman_run.specs.Asked.{AsksBy}
use Rattle.keyman_words.specs.Command.{is_form, request_of}
use Rattle.keyman_run.specs.Endings.{asked, ends}
use Rattle.keyman_run.specs.Orders.{work_of}
use Rattle.keyman_run.specs.Run.{FaultCounts, FieldsAreIndependent, FileMeans, Leaves, LinesAreDead}
use Rattle.keyman_words.specs.Seen.{FolderView, SinkView, seen_folder, seen_sink}

-- a run of arguments from one state of a folder and a sink to another, with this status; its work is `work_of` of the request
-- that the arguments make. If no fault count rose, the run ends as its arguments and files determine, unless an allocation fails
-- (`complete`). A written file means its source, whatever the events are and however the run ended (`means`). No line that a
-- search prints ever fires (`shadows`), and no field of a host affects another field (`hosts`)
pub record Runs {F S : Type 0} (said : List (List ℕ)) (folders : FolderView F) (folder folder_after : F) (sinks : SinkView S) (out out_after : S) (how : Status) : Type 0 where
  pub words : (how ≡ status.Words) ↔ (is_form said ≡ false)
  pub counts : FaultCounts (folders.faults folder) (folders.faults folder_after) (sinks.faults out) (sinks.faults out_after) how
  pub told : (folders.told folder_after ≡ folders.told folder) × (sinks.told out_after ≡ sinks.told out)
  pub asked : IsTrue (folders.told folder)
      → AsksBy (Rose (sinks.faults out) (sinks.faults out_after)) (asked (folders.files folder) (work_of (request_of said))) (folders.calls folder) (folders.calls folder_after) how
  pub leaves : IsTrue (folders.told folder)
      → Leaves (work_of (request_of said)) (seen_folder folders folder) (seen_folder folders folder_after) (seen_sink sinks out) (seen_sink sinks out_after) how
  pub complete : IsTrue (folders.told folder)
      → ¬ Rose (folders.faults folder) (folders.faults folder_after) → ¬ Rose (sinks.faults out) (sinks.faults out_after)
      → (how ≡ status.Memory) ⊎ IsSomeAnd (ends (folders.files folder) (work_of (request_of said))) (λ ending. how ≡ ending.status)
  pub means : IsTrue (folders.told folder)
      → FileMeans (seen_folder folders folder) (seen_folder folders folder_after) (request_of said)
  pub shadows : IsTrue (folders.told folder) → LinesAreDead (folders.files folder) (request_of said)
  pub hosts : IsTrue (folders.told folder) → FieldsAreIndependent (folders.files folder) (request_of said)
