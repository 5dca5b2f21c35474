-- What a call of a folder or a sink did, by its result.
use Rattle.std.specs.Prelude.{◌≡◌, ◌≢◌, ℕ, ◌+◌, ◌-◌, ◌^◌, ◌<◌, ◌≤◌, ◌⊎◌, Bool, true, false, List, [], ◌∷◌, ◌++◌, length, take, Option, Some, Result, Ok, Err}
use Rattle.kmn_outside.specs.declared.traits.Call.{Call}
use Rattle.kmn_outside.specs.declared.traits.ReadError.{ReadError}
use Rattle.kmn_outside.specs.declared.traits.ReadError.TheVariants as read
use Rattle.kmn_outside.specs.declared.traits.WriteError.{WriteError}
use Rattle.kmn_outside.specs.declared.traits.WriteError.TheVariants as write

-- files, by name
abbrev pub Files : Type 0
Files = List ℕ → Option (List ℕ)

-- a count of faults rose, or is at the maximum of its type
abbrev pub Rose : ℕ → ℕ → Type 0
Rose before after = (before < after) ⊎ ((before ≡ after) × (after ≡ 2 ^ 64 - 1))

-- a read counts its faults
abbrev pub ReadCounts : ℕ → ℕ → Result (List ℕ) ReadError → Type 0
ReadCounts before after (Ok bytes) = after ≡ before
ReadCounts before after (Err read.Failed) = Rose before after
ReadCounts before after (Err (read.Over n)) = after ≡ before
ReadCounts before after (Err read.Memory) = after ≡ before

-- a read returns at most `limit` bytes, and for a longer file it reports one more than the limit
abbrev pub IsLimited : ℕ → Result (List ℕ) ReadError → Type 0
IsLimited limit (Ok bytes) = length bytes ≤ limit
IsLimited limit (Err read.Failed) = Unit {0}
IsLimited limit (Err (read.Over n)) = n ≡ limit + 1
IsLimited limit (Err read.Memory) = Unit {0}

-- a write counts its faults
abbrev pub WriteCounts : {X : Type 0} → ℕ → ℕ → Result X WriteError → Type 0
WriteCounts before after (Ok x) = after ≡ before
WriteCounts before after (Err write.Failed) = Rose before after
WriteCounts before after (Err write.Memory) = after ≡ before

-- no file is changed
abbrev pub SameFiles : Files → Files → Type 0
SameFiles before after = (name : List ℕ) → after name ≡ before name

-- no file with another name is changed
abbrev pub SameOthers : List ℕ → Files → Files → Type 0
SameOthers name before after = (other : List ℕ) → other ≢ name → after other ≡ before other

-- a call with its name, whether it was a write, and whether it failed
abbrev pub call_of : List ℕ → Bool → Bool → Call
call_of name is_write failed = record { name = name; is_write = is_write; failed = failed }

-- the result of a read that left the files unchanged
abbrev pub ReadAnswer : Files → List Call → List Call → List ℕ → ℕ → Result (List ℕ) ReadError → Type 0
ReadAnswer files before after name limit (Ok bytes) =
    (files name ≡ Some bytes) × (length bytes ≤ limit) × (after ≡ before ++ call_of name false false ∷ [])
ReadAnswer files before after name limit (Err read.Failed) = after ≡ before ++ call_of name false true ∷ []
ReadAnswer files before after name limit (Err (read.Over n)) =
    ((bytes : List ℕ) × (files name ≡ Some bytes) × (limit < length bytes)) × (n ≡ limit + 1) × (after ≡ before ++ call_of name false false ∷ [])
ReadAnswer files before after name limit (Err read.Memory) = after ≡ before

-- a read does not change the files, and returns the bytes of the file if they are within the limit
abbrev pub Reads : Files → Files → List Call → List Call → List ℕ → ℕ → Result (List ℕ) ReadError → Type 0
Reads files after_files before after name limit result = SameFiles files after_files × ReadAnswer files before after name limit result

-- a write stores the bytes as the file of the name; if it fails, all other files are unchanged; if an allocation fails, all files are
-- unchanged
abbrev pub Writes : Files → Files → List Call → List Call → List ℕ → List ℕ → Result (Unit {0}) WriteError → Type 0
Writes files after_files before after name bytes (Ok x) =
    SameOthers name files after_files × (after_files name ≡ Some bytes) × (after ≡ before ++ call_of name true false ∷ [])
Writes files after_files before after name bytes (Err write.Failed) =
    SameOthers name files after_files × (after ≡ before ++ call_of name true true ∷ [])
Writes files after_files before after name bytes (Err write.Memory) = SameFiles files after_files × (after ≡ before)

-- as many bytes of a piece as the result states are appended; after a fault, some first part of the piece, perhaps none
abbrev pub Puts : List ℕ → List ℕ → List ℕ → Result ℕ WriteError → Type 0
Puts before after piece (Ok count) = after ≡ before ++ take count piece
Puts before after piece (Err write.Failed) = (count : ℕ) × (after ≡ before ++ take count piece)
Puts before after piece (Err write.Memory) = after ≡ before
