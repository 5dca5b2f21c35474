-- The laws of compiling a decompiled source, and of decompiling what a source compiles to.
use Rattle.std.specs.Prelude.{◌≡◌, ℕ, List, [], Result, Ok, Err, IfOk}
use Rattle.kmn_base.specs.declared.events.Event.{Event}
use Rattle.kmn_base.specs.declared.refusals.CompileError.{CompileError}
use Rattle.kmn_base.specs.declared.refusals.CompileError.TheVariants.{Refused, TooLarge, Memory}
use Rattle.rule_model.specs.Tab.{tab}
use Rattle.rule_model.specs.Trace.{trace}
use Rattle.rule_checker.specs.Refused.{checked}
use Rattle.kmx_format.specs.TablesOf.{tables_of}
use Rattle.kmn_parser.specs.Programs.{program_text}
use Rattle.decompile_program.specs.Back.{back}
use Rattle.kmx_decompiler.specs.Excess.{excess}
use Rattle.kmx_decompiler.specs.Laws.{HasText}
use Rattle.kmx_decompiler.specs.Unspelled.{unspelled}
use Rattle.kmn_compiler.specs.Source.{CompilesTo}
use Rattle.kmn_compiler.specs.declared.compiling.Compiled.{Compiled}

-- a compilation returns bytes that take the steps of a file for all events, or runs out of memory; it does not refuse the source
abbrev pub TakesStepsOf : List ℕ → Result Compiled CompileError → Type 0
TakesStepsOf bytes (Ok compiled) = (events : List Event) → trace (tab (tables_of compiled.bytes)) events ≡ trace (tab (tables_of bytes)) events
TakesStepsOf bytes (Err (Refused refusal)) = ⊥
TakesStepsOf bytes (Err (TooLarge code size)) = ⊥
TakesStepsOf bytes (Err Memory) = Unit {0}

-- if bytes have a text, each compilation of the text with an empty picture takes the steps of the bytes or runs out of memory
abbrev pub TextsCompile : Type 0
TextsCompile =
    (bytes : List ℕ) → HasText bytes → (result : Result Compiled CompileError) → CompilesTo (checked (program_text (back (tables_of bytes)))) [] result
    → TakesStepsOf bytes result

-- what a source compiles to, with any picture, has a text, unless the text or what it compiles to is too large
abbrev pub CompiledFilesHaveTexts : Type 0
CompiledFilesHaveTexts =
    (source picture : List ℕ) (result : Result Compiled CompileError) → CompilesTo (checked source) picture result
    → IfOk result (λ compiled. unspelled compiled.bytes ≡ excess (back (tables_of compiled.bytes)))
