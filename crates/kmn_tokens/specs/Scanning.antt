-- The tokens of a line, and the results of the steps of a scan.
use Rattle.std.specs.Prelude.{◌≡◌, ℕ, ◌+◌, ◌<◌, ◌≤◌, List, ◌++◌, length, drop, Option, None, Some, option_map, Result, Ok, Err}
use Rattle.kmn_base.specs.declared.codes.Code.{Code}
use Rattle.kmn_base.specs.declared.refusals.Refusal.{Refusal}
use Rattle.kmn_base.specs.declared.refusals.CompileError.{CompileError}
use Rattle.kmn_base.specs.declared.refusals.CompileError.TheVariants.{Refused, Memory}
use Rattle.kmn_lines.specs.declared.logical.Logical.{Logical}
use Rattle.kmn_lines.specs.declared.token.Token.{Token}
use Rattle.kmn_lines.specs.Tokens.{refusal, scanned, first_fault, line_tokens, line_refusal}
use Rattle.kmn_tokens.specs.declared.token_error.TokenError.{TokenError}
use Rattle.kmn_tokens.specs.declared.token_error.TokenError.TheVariants.{Fault, NoMemory}

-- the error of a line without tokens
abbrev pub error_at : ℕ → TokenError → CompileError
error_at line (Fault code) = Refused (refusal line code)
error_at line NoMemory = Memory

-- the tokens, or the refusal if there is one
abbrev pub or_refused : Option Refusal → List Token → Result (List Token) Refusal
or_refused None tokens = Ok tokens
or_refused (Some refused) tokens = Err refused

-- the tokens of a logical line, or its first refusal
abbrev pub scanned_line : List ℕ → Logical → Result (List Token) Refusal
scanned_line source line = or_refused (line_refusal source line) (line_tokens source line)

-- the tokens of a text that is line 1, or its first refusal
abbrev pub scanned_text : List ℕ → Result (List Token) Refusal
scanned_text text = or_refused (option_map (refusal 1) (first_fault 0 text)) (scanned 1 0 0 text)

-- the result is the value if there is no fault, else the fault
abbrev pub Gives : {A : Type 0} → Option Code → A → Result A Code → Type 0
Gives fault value (Ok x) = (fault ≡ None) × (x ≡ value)
Gives fault value (Err code) = fault ≡ Some code

-- the tokens are appended if there is no fault, else the fault is returned; `Memory` is not tied to a cause
abbrev pub Appends : List Token → List Token → Option Code → List Token → Result (Unit {0}) TokenError → Type 0
Appends old new fault tokens (Ok x) = (fault ≡ None) × (new ≡ old ++ tokens)
Appends old new fault tokens (Err (Fault code)) = fault ≡ Some code
Appends old new fault tokens (Err NoMemory) = Unit {0}

-- a step over some bytes from a position on has no fault: the appended tokens and the tokens of the rest are all the tokens
abbrev pub Steps : List Token → List Token → ℕ → ℕ → List ℕ → Result ℕ TokenError → Type 0
Steps old new line at bytes (Ok size) =
    (0 < size) × (size ≤ length bytes)
    × (new ++ scanned line 0 (at + size) (drop size bytes) ≡ old ++ scanned line 0 at bytes)
    × (first_fault 0 (drop size bytes) ≡ first_fault 0 bytes)
Steps old new line at bytes (Err (Fault code)) = first_fault 0 bytes ≡ Some code
Steps old new line at bytes (Err NoMemory) = Unit {0}
