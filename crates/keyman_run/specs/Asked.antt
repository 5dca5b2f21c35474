-- The calls that a run makes to a folder.
use Rattle.std.specs.Prelude.{◌≡◌, ◌⊎◌, ℕ, Bool, true, false, not, ◌&&◌, IsTrue, List, [], ◌∷◌, ◌++◌, map}
use Rattle.std.specs.List.{list_any}
use Rattle.kmn_outside.specs.Outside.{call_of}
use Rattle.kmn_outside.specs.declared.traits.Call.{Call}
use Rattle.keyman_words.specs.declared.status.Status.{Status}
use Rattle.keyman_words.specs.declared.status.Status.TheVariants as status

-- an access to a file: its name, and whether the file is to be written
abbrev pub Ask : Type 0
Ask = List ℕ × Bool

abbrev pub read_of : List ℕ → Ask
read_of name = (name, false)

abbrev pub write_of : List ℕ → Ask
write_of name = (name, true)

-- the call of an access that does not fail, and the call of an access that fails
abbrev pub answered : Ask → Call
answered ask = call_of ask.0 ask.1 false

abbrev pub failed : Ask → Call
failed ask = call_of ask.0 ask.1 true

-- all of these accesses were made in this order, and none failed
abbrev pub AsksAll : List Ask → List Call → List Call → Type 0
AsksAll wanted before after = after ≡ before ++ map answered wanted

-- a first part of these accesses was made, maybe none or all of them, and none failed
pub record AsksFirst (wanted : List Ask) (before after : List Call) : Type 0 where
  pub front : List Ask
  pub rest : List Ask
  pub parts : wanted ≡ front ++ rest
  pub made : after ≡ before ++ map answered front

-- a first part of these accesses was made; the last of them, a write or a read, failed, and those before it did not fail
pub record AsksUntil (is_write : Bool) (wanted : List Ask) (before after : List Call) : Type 0 where
  pub front : List Ask
  pub name : List ℕ
  pub rest : List Ask
  pub parts : wanted ≡ front ++ (name, is_write) ∷ rest
  pub made : after ≡ before ++ (map answered front ++ failed (name, is_write) ∷ [])

-- the calls of a run by its status, where `sink_rose` states that the sink's fault count rose: a run ends with a read fault
-- exactly where its last call is a read that failed, and with a write fault exactly where its last call is a write that failed or
-- the sink failed; a run that doesn't end early makes all accesses, and none fails
abbrev pub AsksBy : Type 0 → List Ask → List Call → List Call → Status → Type 0
AsksBy sink_rose wanted before after status.ReadFault = AsksUntil false wanted before after
AsksBy sink_rose wanted before after status.WriteFault = AsksUntil true wanted before after ⊎ (sink_rose × AsksAll wanted before after)
AsksBy sink_rose wanted before after status.Memory = AsksFirst wanted before after
AsksBy sink_rose wanted before after _ = AsksAll wanted before after

-- whether a call is a write that did not fail
abbrev pub has_written : Call → Bool
has_written call = call.is_write && not call.failed

-- the calls that were made between two states include a write that did not fail
pub record HasWritten (before after : List Call) : Type 0 where
  pub made : List Call
  pub added : after ≡ before ++ made
  pub written : IsTrue (list_any has_written made)
