-- What the contracts see of a folder and a sink in one state.
use Rattle.std.specs.Prelude.{◌≡◌, ℕ, Bool, IsTrue, List}
use Rattle.kmn_outside.specs.Outside.{Files}
use Rattle.kmn_outside.specs.declared.traits.Call.{Call}
use Rattle.kmn_outside.specs.declared.traits.Folder as folder_trait
use Rattle.kmn_outside.specs.declared.traits.Sink as sink_trait

-- the ghost functions with which a folder and a sink describe themselves
abbrev pub FolderView : Type 0 → Type 1
FolderView F = folder_trait.Ghosts F

abbrev pub SinkView : Type 0 → Type 1
SinkView S = sink_trait.Ghosts S

-- a folder in one state
pub record FolderState : Type 0 where
  pub told : Bool
  pub files : Files
  pub calls : List Call
  pub faults : ℕ

-- a sink in one state
pub record SinkState : Type 0 where
  pub told : Bool
  pub written : List ℕ
  pub faults : ℕ

abbrev pub seen_folder : {F : Type 0} → FolderView F → F → FolderState
seen_folder view folder = record { told = view.told folder; files = view.files folder; calls = view.calls folder; faults = view.faults folder }

abbrev pub seen_sink : {S : Type 0} → SinkView S → S → SinkState
seen_sink view sink = record { told = view.told sink; written = view.written sink; faults = view.faults sink }

-- if a sink reports what was written to it, nothing was printed
abbrev pub IsSilent : SinkState → SinkState → Type 0
IsSilent before after = IsTrue before.told → after.written ≡ before.written
