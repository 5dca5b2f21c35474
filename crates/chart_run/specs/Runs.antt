-- The contract of `chart_run`.
use Rattle.std.specs.Prelude.{◌≡◌, ℕ, List, [], ◌∷◌, Some, None}
use Rattle.keyman_words.specs.declared.status.Status.{Status}
use Rattle.keyman_words.specs.declared.status.Status.TheVariants as status
use Rattle.keyman_words.specs.Seen.{FolderView, SinkView}
use Rattle.keyman_run.specs.Run.{Does}
use Rattle.chart_run.specs.Orders.{chart_work, last_work}

-- a run of arguments: two to four arguments are the names of the file, the picture, the script and the touch layout, and other arguments do
-- no work
abbrev pub Runs : {F S : Type 0} → List (List ℕ) → FolderView F → F → F → SinkView S → S → S → Status → Type 0
Runs (file ∷ picture ∷ []) folders folder folder_after sinks out out_after how =
    Does (chart_work file picture None None) folders folder folder_after sinks out out_after how
Runs (file ∷ picture ∷ last ∷ []) folders folder folder_after sinks out out_after how =
    Does (last_work file picture last) folders folder folder_after sinks out out_after how
Runs (file ∷ picture ∷ keys ∷ layout ∷ []) folders folder folder_after sinks out out_after how =
    Does (chart_work file picture (Some keys) (Some layout)) folders folder folder_after sinks out out_after how
Runs _ folders folder folder_after sinks out out_after how = (how ≡ status.Words) × (folder_after ≡ folder) × (out_after ≡ out)
