-- The bytes that printing appends to a sink.
use Rattle.std.specs.Prelude.{◌≡◌, ℕ, List, ◌++◌, Result, Ok, Err}

-- a list was appended, except for a rest at its end
pub record AppendsBut {X : Type 0} (rest before after wanted : List X) : Type 0 where
  pub done : List X
  pub parts : wanted ≡ done ++ rest
  pub appended : after ≡ before ++ done

-- the beginning of a list was appended, possibly none or all of it
pub record IsBegun {X : Type 0} (before after wanted : List X) : Type 0 where
  pub rest : List X
  pub begun : AppendsBut rest before after wanted

-- all bytes were printed, or the beginning of them if printing failed
abbrev pub Prints : {A E : Type 0} → List ℕ → List ℕ → List ℕ → Result A E → Type 0
Prints before after bytes (Ok x) = after ≡ before ++ bytes
Prints before after bytes (Err error) = IsBegun before after bytes
