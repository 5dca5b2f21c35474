-- The contract of `check_run`.
use Rattle.std.specs.Prelude.{◌≡◌, ℕ, List, [], ◌∷◌, Some, None}
use Rattle.keyman_words.specs.declared.status.Status.{Status}
use Rattle.keyman_words.specs.declared.status.Status.TheVariants as status
use Rattle.keyman_words.specs.Seen.{FolderView, SinkView}
use Rattle.keyman_run.specs.Run.{Does}
use Rattle.check_run.specs.Orders.{check_work, last_work}

-- a run of arguments: one to three arguments are the names of the source, the touch layout and the script, and other arguments do no work
abbrev pub Runs : {F S : Type 0} → List (List ℕ) → FolderView F → F → F → SinkView S → S → S → Status → Type 0
Runs (source ∷ []) folders folder folder_after sinks out out_after how =
    Does (check_work source None None) folders folder folder_after sinks out out_after how
Runs (source ∷ last ∷ []) folders folder folder_after sinks out out_after how =
    Does (last_work source last) folders folder folder_after sinks out out_after how
Runs (source ∷ layout ∷ keys ∷ []) folders folder folder_after sinks out out_after how =
    Does (check_work source (Some layout) (Some keys)) folders folder folder_after sinks out out_after how
Runs _ folders folder folder_after sinks out out_after how = (how ≡ status.Words) × (folder_after ≡ folder) × (out_after ≡ out)
