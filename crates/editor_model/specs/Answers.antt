-- The results of a caret move and of an edit.
use Rattle.std.specs.Prelude.{◌≡◌, ℕ, List, Option, Some, None, Result, Ok, Err, nat_lt, if◌then◌else◌}
use Rattle.kmn_base.specs.declared.codes.Code.{Code}
use Rattle.kmn_base.specs.declared.codes.Code.TheVariants.{E1, E2}
use Rattle.editor_model.specs.declared.error.EditError.{EditError}
use Rattle.editor_model.specs.declared.error.EditError.TheVariants.{Place, Length, Memory}
use Rattle.editor_model.specs.Text.{EditorText, IsAt, HasTextOf}

-- the refusal that an error reports; `Memory` reports none
abbrev pub code_of : EditError → Option Code
code_of Place = Some E1
code_of Length = Some E2
code_of Memory = None

-- the refusal of a caret move to a position, in a text of `count` characters
abbrev pub caret_refusal : ℕ → ℕ → Option Code
caret_refusal place count = if nat_lt count place then Some E1 else None

-- a refused change returns its refusal; a change that isn't refused succeeds or returns `Memory`
abbrev pub IsAnswerTo : Option Code → Result (Unit {0}) EditError → Type 0
IsAnswerTo refusal (Ok done) = refusal ≡ None
IsAnswerTo refusal (Err error) = refusal ≡ code_of error

-- after a success, an editor has this text with the caret at this position; after an error, it has its old text and caret
abbrev pub Becomes : List ℕ → ℕ → EditorText → EditorText → Result (Unit {0}) EditError → Type 0
Becomes text caret before after (Ok done) = IsAt text caret after
Becomes text caret before after (Err error) = HasTextOf before after
