-- If the tables of a valid file have no cause, they can be written out, and the names of their dictionary are UTF-8.
use Rattle.std.proofs.Common.{◌≡◌, ℕ, List, None}
use Rattle.std.specs.Prelude.{All}
use Rattle.std.specs.Str.{IsUtf8}
use Rattle.std.proofs.lemmas.List.Elements.{All-weaker}
use Rattle.std.proofs.lemmas.Str.{IsUtf8-from_is_utf8}
use Rattle.rule_model.specs.Tab.{tab_dictionary}
use Rattle.kmx_format.specs.TablesOf.{tables_of}
use Rattle.kmx_format.specs.Playable.{IsPlayable}
use Rattle.decompile_program.specs.WrittenOut.{CanBeWrittenOut}
use Rattle.kmx_decompiler.specs.Places.{cause_places, least}
use Rattle.kmx_decompiler.specs.Unspelled.{disorder}
use Rattle.kmx_decompiler.proofs.Sayable.{no_cause_holds}
use Rattle.kmx_decompiler.proofs.WrittenOut.{no_cause_written_out}
use Rattle.kmx_decompiler.proofs.SpelledKeys.{IsKeyName, no_cause_keys, own_name}

pub written_without_cause : (bytes : List ℕ) → IsPlayable (tables_of bytes) → disorder 0 (tables_of bytes).groups ≡ None → least (cause_places bytes) ≡ None → CanBeWrittenOut (tables_of bytes)
written_without_cause bytes can order places = no_cause_written_out (tables_of bytes) (no_cause_holds bytes order places) can

pub keys_without_cause : (bytes : List ℕ) → disorder 0 (tables_of bytes).groups ≡ None → least (cause_places bytes) ≡ None → All IsUtf8 (tab_dictionary (tables_of bytes).stores)
keys_without_cause bytes order places =
    All-weaker IsKeyName IsUtf8 (λ name h. IsUtf8-from_is_utf8 name (own_name name h).1.utf8) (tab_dictionary (tables_of bytes).stores)
    (no_cause_keys (tables_of bytes) (no_cause_holds bytes order places))
