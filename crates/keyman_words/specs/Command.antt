-- The command that command-line arguments request.
use Rattle.std.specs.Prelude.{Bool, ◌&&◌, nat_lt, nat_le, length, if◌then◌else◌, List, [], ◌∷◌, codes, Option, Some, None, option_map, is_some, ℕ}
use Rattle.std.specs.Str.{bytes_eq}
use Rattle.kmn_base.specs.Digits.{are_digits, bounded_value}
use Rattle.keyman_words.specs.declared.command.Command.{Command}
use Rattle.keyman_words.specs.declared.command.Command.TheVariants as command

-- a command with the names of its files, or its number
pub data Request : Type 0 where
  Compile : (source file : List ℕ) → Request
  Test : (source file keys : List ℕ) → Request
  Verify : (file : List ℕ) → Request
  Decompile : (file source : List ℕ) → Request
  Play : (file keys : List ℕ) → Request
  Layout : (source layout : List ℕ) → Request
  Load : (number : ℕ) → Request
  Trace : (source keys : List ℕ) → Request
  Shadow : (source : List ℕ) → Request
  Host : (file keys : List ℕ) → Request

-- the number that an argument of 1 to 9 decimal digits denotes
abbrev pub load_number : List ℕ → Option ℕ
load_number word =
    if nat_lt 0 (length word) && nat_le (length word) 9 && are_digits 10 word then Some (bounded_value 999999999 10 word) else None

-- the request of `play FILE KEYS` or `host FILE KEYS`
abbrev pub play_request : (word file keys : List ℕ) → Option Request
play_request word file keys =
    if bytes_eq word (codes "play") then Some (Play file keys)
    else if bytes_eq word (codes "host") then Some (Host file keys)
    else None

-- the request of the arguments: a `play_request`, `verify FILE`, `shadow SOURCE`, `load NUMBER`, `compile SOURCE FILE`,
-- `decompile FILE SOURCE`, `layout SOURCE LAYOUT`, `trace SOURCE KEYS` or `test SOURCE FILE KEYS`; None for all other arguments
abbrev pub request_of : List (List ℕ) → Option Request
request_of (word ∷ other ∷ []) =
    if bytes_eq word (codes "verify") then Some (Verify other)
    else if bytes_eq word (codes "shadow") then Some (Shadow other)
    else if bytes_eq word (codes "load") then option_map Load (load_number other)
    else None
request_of (word ∷ first ∷ second ∷ []) =
    if bytes_eq word (codes "compile") then Some (Compile first second)
    else if bytes_eq word (codes "decompile") then Some (Decompile first second)
    else if bytes_eq word (codes "layout") then Some (Layout first second)
    else if bytes_eq word (codes "trace") then Some (Trace first second)
    else play_request word first second
request_of (word ∷ source ∷ file ∷ keys ∷ []) = if bytes_eq word (codes "test") then Some (Test source file keys) else None
request_of _ = None

-- whether arguments are a command
abbrev pub is_form : List (List ℕ) → Bool
is_form words = is_some (request_of words)

-- the request that a command of the program represents
abbrev pub requested : Command → Request
requested (command.Compile source file) = Compile source file
requested (command.Test source file keys) = Test source file keys
requested (command.Verify file) = Verify file
requested (command.Decompile file source) = Decompile file source
requested (command.Play file keys) = Play file keys
requested (command.Layout source layout) = Layout source layout
requested (command.Load number) = Load number
requested (command.Trace source keys) = Trace source keys
requested (command.Shadow source) = Shadow source
requested (command.Host file keys) = Host file keys
