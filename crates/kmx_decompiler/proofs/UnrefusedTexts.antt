-- If no store that the program of a file's text compiles to has too many elements, no part of the program is refused.
use Rattle.std.proofs.Common.{◌≡◌, ℕ, List, None, refl}
use Rattle.rule_model.specs.declared.program.Program.{Program}
use Rattle.rule_model.specs.declared.tables.Tables.{Tables}
use Rattle.store_table.specs.Names.{names_refusal}
use Rattle.item_checker.specs.Items.{items_refusal}
use Rattle.rule_checker.specs.Limits.{limits_refusal}
use Rattle.rule_checker.specs.Refused.{start_refusal, refused}
use Rattle.kmx_format.specs.TablesOf.{tables_of}
use Rattle.kmx_format.specs.Playable.{IsPlayable}
use Rattle.decompile_program.specs.Back.{back}
use Rattle.kmx_decompiler.specs.Laws.{HasTextNames}
use Rattle.kmx_decompiler.specs.Unspelled.{unspelled}
use Rattle.kmx_decompiler.proofs.Sayable.{sayable}
use Rattle.kmx_decompiler.proofs.WrittenOut.{spelled_written_out}
use Rattle.kmx_decompiler.proofs.Meaning.{is_read}
use Rattle.kmx_decompiler.proofs.CountedSizes.{AreShortStores, limits_unpassed}
use Rattle.kmx_decompiler.proofs.UnrefusedNames.{spelled_names_stand}
use Rattle.kmx_decompiler.proofs.UnrefusedStores.{spelled_items_stand}
use Rattle.kmx_decompiler.proofs.UnrefusedRules.{no-else}

-- the program has a begin statement for Unicode
pub started : (tables : Tables) → start_refusal (back tables) ≡ None
unfolding back
started tables = refl

pub text_unrefused : (bytes : List ℕ) (can : IsPlayable (tables_of bytes)) → HasTextNames (tables_of bytes) → (spelled : unspelled bytes ≡ None)
    → AreShortStores (tables_of bytes) can (spelled_written_out bytes can spelled) → refused (back (tables_of bytes)) ≡ None
unfolding refused
text_unrefused bytes can texts spelled short =
    let tables : Tables = tables_of bytes in
    let program : Program = back tables in
    no-else (start_refusal program) _ (started tables)
    (no-else (names_refusal program) _ (spelled_names_stand bytes can texts spelled)
    (no-else (items_refusal program) (limits_refusal program) (spelled_items_stand bytes can texts spelled)
    (limits_unpassed tables can (spelled_written_out bytes can spelled) (sayable bytes spelled) (is_read bytes can texts spelled) short)))
