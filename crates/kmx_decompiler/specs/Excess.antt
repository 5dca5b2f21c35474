-- The first limit that a text, or what it compiles to, exceeds.
use Rattle.std.specs.Prelude.{ℕ, nat_lt, if◌then◌else◌, length, flat_map, Option, Some, None}
use Rattle.kmn_base.specs.declared.limits.TheConstants.{TEXT_BYTES, STORES, ALL_ELEMENTS}
use Rattle.rule_model.specs.declared.program.Program.{Program}
use Rattle.kmx_format.specs.Writable.{elements_of}
use Rattle.compile_laws.specs.Numbers.{compiled_stores}
use Rattle.kmn_parser.specs.Programs.{program_text}
use Rattle.kmx_decompiler.specs.declared.no_spelling.NoSpelling.{NoSpelling}
use Rattle.kmx_decompiler.specs.declared.no_spelling.NoSpelling.TheVariants.{TooLarge, TooManyStores, TooManyElements}

-- the number of bytes of a program's text
unfoldable pub text_size : Program → ℕ
text_size program = length (program_text program)

-- the number of stores that the program compiles to
unfoldable pub store_count : Program → ℕ
store_count program = length (compiled_stores program)

-- the number of elements of all these stores
unfoldable pub element_count : Program → ℕ
element_count program = length (flat_map elements_of (compiled_stores program))

-- the refusal of the first of these numbers that is above its limit, in this order
abbrev pub excess : Program → Option NoSpelling
excess program =
    if nat_lt TEXT_BYTES (text_size program) then Some (TooLarge (text_size program))
    else if nat_lt STORES (store_count program) then Some (TooManyStores (store_count program))
    else if nat_lt ALL_ELEMENTS (element_count program) then Some (TooManyElements (element_count program))
    else None
