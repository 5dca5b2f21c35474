-- The first refusal of statements: by line, then by reading order in the line, then by code.
use Rattle.std.specs.Prelude.{ℕ, nat_lt, Bool, if◌then◌else◌, List, [], ◌∷◌, ◌++◌, Option, None, Some, option_to_list, Result, Ok, Err}
use Rattle.std.specs.Option.{option_or}
use Rattle.kmn_base.specs.declared.codes.Code.{Code}
use Rattle.kmn_base.specs.declared.refusals.Refusal.{Refusal}

-- the first broken rule of a list of codes in rising order, each with whether its rule is broken
abbrev pub broken : List (Code × Bool) → Option Code
broken [] = None
broken (rule ∷ rules) = if rule.1 then Some rule.0 else broken rules

-- the code of the first item that breaks a rule
abbrev pub first_code : {X : Type 0} → (X → Option Code) → List X → Option Code
first_code code [] = None
first_code code (item ∷ items) = option_or (code item) (first_code code items)

-- the refusal of a statement that breaks a rule, at its line
abbrev pub at_line : ℕ → Option Code → Option Refusal
at_line line None = None
at_line line (Some code) = Some (record { line = line; code = code })

-- the refusal with the earlier line of two optional refusals
abbrev pub earlier : Option Refusal → Option Refusal → Option Refusal
earlier None other = other
earlier (Some one) None = Some one
earlier (Some one) (Some other) = if nat_lt other.line one.line then Some other else Some one

-- the first refusal of statements of one kind; each statement is checked with the statements of its kind that precede it
abbrev pub first_of : {X : Type 0} → (List X → X → Option Refusal) → List X → List X → Option Refusal
first_of refusal before [] = None
first_of refusal before (statement ∷ statements) =
    earlier (refusal before statement) (first_of refusal (before ++ statement ∷ []) statements)

-- all refusals of statements of one kind, in the order of the statements; each is checked with the statements of its kind that precede it
abbrev pub all_of : {X : Type 0} → (List X → X → Option Refusal) → List X → List X → List Refusal
all_of refusal before [] = []
all_of refusal before (statement ∷ statements) =
    option_to_list (refusal before statement) ++ all_of refusal (before ++ statement ∷ []) statements

-- the refusal with the earliest line among refusals, and the first of those at that line
abbrev pub first_among : List Refusal → Option Refusal
first_among [] = None
first_among (refusal ∷ refusals) = earlier (Some refusal) (first_among refusals)

-- a value, or its refusal if there is one
abbrev pub or_refusal : {A : Type 0} → A → Option Refusal → Result A Refusal
or_refusal value None = Ok value
or_refusal value (Some refusal) = Err refusal
