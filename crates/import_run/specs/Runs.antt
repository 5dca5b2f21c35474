-- The contract of `import_run`.
use Rattle.std.specs.Prelude.{◌≡◌, ℕ, List, [], ◌∷◌}
use Rattle.keyman_words.specs.declared.status.Status.{Status}
use Rattle.keyman_words.specs.declared.status.Status.TheVariants as status
use Rattle.keyman_words.specs.Seen.{FolderView, SinkView}
use Rattle.keyman_run.specs.Run.{Does}
use Rattle.import_run.specs.Orders.{import_work}

-- a run of arguments: two arguments are the names of the source and of the target, and other arguments do no work
abbrev pub Runs : {F S : Type 0} → List (List ℕ) → FolderView F → F → F → SinkView S → S → S → Status → Type 0
Runs (source ∷ target ∷ []) folders folder folder_after sinks out out_after how =
    Does (import_work source target) folders folder folder_after sinks out out_after how
Runs _ folders folder folder_after sinks out out_after how = (how ≡ status.Words) × (folder_after ≡ folder) × (out_after ≡ out)
