-- The lines of a script are read one after the other.
use Rattle.std.proofs.Common.{◌≡◌, ℕ, ◌+◌, List, ◌∷◌, Result, Ok, Err, sym, ap, ◌∙◌}
use Rattle.std.specs.Prelude.{IsSomeAnd}
use Rattle.kmn_base.specs.Answers.{and_then}
use Rattle.kmn_base.specs.declared.refusals.Refusal.{Refusal}
use Rattle.play_script.specs.Answers.{refusal_of, Leaves, Answers}
use Rattle.play_script.specs.Entries.{script_text}
use Rattle.play_script.specs.Lines.{text_lines}
use Rattle.play_script.specs.declared.errors.ScriptError.{ScriptError}
use Rattle.play_script.specs.declared.errors.ScriptError.TheVariants as error
use Rattle.play_script.proofs.TextLaws.{text_refused}
use Rattle.text_host.specs.declared.script.HostScript.{HostScript}
use Rattle.text_host.specs.HostEntries.{with_line, with_lines, first_script, host_entries}

-- if a text has a first line, its lines are read as that line and then the lines of the rest
pub next_line : (dictionary : List (List ℕ)) (line : ℕ) (text first behind : List ℕ) (s : HostScript) → text_lines text ≡ first ∷ text_lines behind
    → with_lines dictionary line (text_lines text) s ≡ and_then (with_line dictionary line first s) (with_lines dictionary (line + 1) (text_lines behind))
next_line dictionary line text first behind s parts = ap (λ lines. with_lines dictionary line lines s) parts

-- if a line is refused, the script is refused with the same refusal
pub refused_line : (error : ScriptError) (first : Result HostScript Refusal) (next : HostScript → Result HostScript Refusal) (whole : Result HostScript Refusal) (after : HostScript)
    → Leaves first after (Err error) → and_then first next ≡ whole → Answers (and_then whole (λ script. Ok script.entries)) (Err error)
refused_line error.Memory first next whole after is e = tt
refused_line (error.Refused refusal) first next whole after is e =
    ap (λ all. and_then all (λ script. Ok script.entries)) (sym e ∙ ap (λ s. and_then s next) is)

-- if a script has a text, its entries are those of the lines of this text
pub text_read : (dictionary : List (List ℕ)) (bytes text : List ℕ) → script_text bytes ≡ Ok text
    → host_entries dictionary bytes ≡ and_then (with_lines dictionary 1 (text_lines text) first_script) (λ script. Ok script.entries)
unfolding host_entries
text_read dictionary bytes text is = ap (λ t. and_then t (λ (text : List ℕ). and_then (with_lines dictionary 1 (text_lines text) first_script) (λ script. Ok script.entries))) is

pub script_refused : (dictionary : List (List ℕ)) (bytes : List ℕ) (error : ScriptError)
    → IsSomeAnd (refusal_of error) (λ refusal. script_text bytes ≡ Err refusal) → Answers (host_entries dictionary bytes) (Err error)
unfolding host_entries
script_refused dictionary bytes error is = text_refused (script_text bytes) _ error is
