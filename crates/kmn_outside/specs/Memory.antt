-- What the folder and the sink in memory contain, and how a call changes them.
use Rattle.std.specs.Prelude.{ℕ, ◌+◌, ◌-◌, ◌/◌, ◌^◌, ◌==◌, min, nat_le, Bool, true, false, ◌&&◌, if◌then◌else◌, List, [], ◌∷◌, ◌++◌, length, take, find, slice_set, Option, Some, None, is_none, option_map, Result, Ok, Err}
use Rattle.std.specs.List.{list_any, position}
use Rattle.std.specs.Str.{bytes_eq}
use Rattle.kmn_outside.specs.Outside.{Files, call_of}
use Rattle.kmn_outside.specs.declared.traits.Call.{Call}
use Rattle.kmn_outside.specs.declared.traits.ReadError.{ReadError}
use Rattle.kmn_outside.specs.declared.traits.ReadError.TheVariants as read
use Rattle.kmn_outside.specs.declared.traits.WriteError.{WriteError}
use Rattle.kmn_outside.specs.declared.traits.WriteError.TheVariants as write

-- a folder in memory: its files, the numbers of the calls that fail, its calls so far, and its count of faults
pub record FolderState : Type 0 where
  pub files : List (List ℕ × List ℕ)
  pub fails : List ℕ
  pub calls : List Call
  pub faults : ℕ

-- a sink in memory: the written bytes, the numbers of the calls that fail, the number of calls, and its count of faults
pub record SinkState : Type 0 where
  pub written : List ℕ
  pub fails : List ℕ
  pub made : ℕ
  pub faults : ℕ

-- the number of the next call, counted from 1, which saturates at the maximum of 32 bits
abbrev pub next_number : ℕ → ℕ
next_number made = min (made + 1) (2 ^ 32 - 1)

-- whether the next call is one of the calls that fail
abbrev pub is_due : List ℕ → ℕ → Bool
is_due fails made = list_any (λ number. number == next_number made) fails

-- a count of faults after another fault, which saturates at the maximum of 64 bits
abbrev pub raised : ℕ → ℕ
raised faults = if faults == 2 ^ 64 - 1 then faults else faults + 1

-- the bytes of the first file with a name; None if no file has the name
abbrev pub file_of : List (List ℕ × List ℕ) → Files
file_of files name = option_map (λ file. file.1) (find (λ file. bytes_eq name file.0) files)

-- whether all names are distinct
abbrev pub are_distinct : List (List ℕ × List ℕ) → Bool
are_distinct [] = true
are_distinct (file ∷ files) = is_none (file_of files file.0) && are_distinct files

-- the files after one is stored: at a position, or at the end
abbrev pub put_at : List (List ℕ × List ℕ) → Option ℕ → List ℕ × List ℕ → List (List ℕ × List ℕ)
put_at files None file = files ++ file ∷ []
put_at files (Some place) file = slice_set files place file

-- the files after these bytes replace the first file of the name, or are added at the end if no file has it
abbrev pub put_file : List (List ℕ × List ℕ) → List ℕ → List ℕ → List (List ℕ × List ℕ)
put_file files name bytes = put_at files (position (λ file. bytes_eq name file.0) files) (name, bytes)

-- a file is read whole if it is within the limit; a missing file is a fault
abbrev pub within : Option (List ℕ) → ℕ → Result (List ℕ) ReadError
within None limit = Err read.Failed
within (Some bytes) limit = if nat_le (length bytes) limit then Ok bytes else Err (read.Over (limit + 1))

-- the result of a read, unless an allocation fails
abbrev pub read_answer : FolderState → List ℕ → ℕ → Result (List ℕ) ReadError
read_answer folder name limit =
    if is_due folder.fails (length folder.calls) then Err read.Failed else within (file_of folder.files name) limit

-- the folder with another call in its list, and with another fault if the call failed
abbrev pub listed : FolderState → Call → FolderState
listed folder call = record folder {
  calls = folder.calls ++ call ∷ [];
  faults = if call.failed then raised folder.faults else folder.faults;
}

-- the folder after a read: it is unchanged if an allocation fails, else the call is listed
abbrev pub after_read : FolderState → List ℕ → Result (List ℕ) ReadError → FolderState
after_read folder name (Ok bytes) = listed folder (call_of name false false)
after_read folder name (Err read.Failed) = listed folder (call_of name false true)
after_read folder name (Err (read.Over n)) = listed folder (call_of name false false)
after_read folder name (Err read.Memory) = folder

-- the folder after a write: a write that fails stores the first half of the bytes, as a full disk does
abbrev pub after_write : FolderState → List ℕ → List ℕ → Result (Unit {0}) WriteError → FolderState
after_write folder name bytes (Ok x) =
    record (listed folder (call_of name true false)) { files = put_file folder.files name bytes }
after_write folder name bytes (Err write.Failed) =
    record (listed folder (call_of name true true)) { files = put_file folder.files name (take (length bytes / 2) bytes) }
after_write folder name bytes (Err write.Memory) = folder

-- the sink after a put: a put that fails appends nothing, and a put that runs out of memory is not counted
abbrev pub after_put : SinkState → List ℕ → Result ℕ WriteError → SinkState
after_put sink piece (Ok count) = record sink { written = sink.written ++ piece; made = next_number sink.made }
after_put sink piece (Err write.Failed) = record sink { made = next_number sink.made; faults = raised sink.faults }
after_put sink piece (Err write.Memory) = sink
