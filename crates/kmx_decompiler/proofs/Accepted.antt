-- No part of a file's text is refused, so what the text compiles to means what the file means.
use Rattle.std.proofs.Common.{◌≡◌, ℕ, List, None, sym, ap, ◌∙◌, subst}
use Rattle.std.specs.Prelude.{All, Result}
use Rattle.std.specs.List.{AllByRecursion}
use Rattle.kmn_base.specs.Answers.{and_then}
use Rattle.kmn_base.specs.declared.refusals.Refusal.{Refusal}
use Rattle.kmn_parser.specs.ProgramLaws.{IsOwnKey}
use Rattle.rule_model.specs.declared.program.Program.{Program}
use Rattle.rule_model.specs.declared.tables.Tables.{Tables}
use Rattle.rule_model.specs.Naming.{names_of}
use Rattle.rule_model.specs.Tab.{tab_dictionary}
use Rattle.store_table.specs.First.{or_refusal}
use Rattle.rule_checker.specs.Refused.{IsRead, refused}
use Rattle.kmx_format.specs.TablesOf.{tables_of}
use Rattle.kmx_format.specs.Playable.{IsPlayable}
use Rattle.compile_laws.specs.Numbers.{dictionary_stores}
use Rattle.rule_checker.proofs.Reading.{own_keys_read}
use Rattle.kmn_parser.proofs.Programs.{programs_read_back}
use Rattle.decompile_program.specs.Back.{back}
use Rattle.decompile_program.proofs.Numbering.{keys-are}
use Rattle.decompile_program.proofs.FewNames.{HasFewElements}
use Rattle.kmx_decompiler.specs.Laws.{HasTextNames, HasText, SpelledIsSpelled, SpelledNamesStand, SpelledItemsStand, TextIsAccepted, TextKeepsMeaning}
use Rattle.kmx_decompiler.specs.Unspelled.{unspelled}
use Rattle.kmx_decompiler.proofs.Sayable.{sayable}
use Rattle.kmx_decompiler.proofs.WrittenOut.{spelled_written_out}
use Rattle.kmx_decompiler.proofs.SpelledPrograms.{spelled_is_spelled}
use Rattle.kmx_decompiler.proofs.Meaning.{is_read, keeps_meaning}
use Rattle.kmx_decompiler.proofs.ShortTexts.{stores_short}
use Rattle.kmx_decompiler.proofs.DictionarySizes.{dictionary-total, names-fit}
use Rattle.kmx_decompiler.proofs.UnrefusedNames.{spelled_names_stand}
use Rattle.kmx_decompiler.proofs.UnrefusedStores.{spelled_items_stand}
use Rattle.kmx_decompiler.proofs.UnrefusedTexts.{text_unrefused}
use Rattle.kmx_decompiler.proofs.TextNames.{names_are_text}

unrefused : (bytes : List ℕ) → IsPlayable (tables_of bytes) → HasTextNames (tables_of bytes) → unspelled bytes ≡ None → refused (back (tables_of bytes)) ≡ None
unrefused bytes can texts none =
    let tables : Tables = tables_of bytes in
    let program : Program = back tables in
    let out = spelled_written_out bytes can none in
    let keys = keys-are tables can out in
    let own : All IsOwnKey (tab_dictionary tables.stores) = subst (All IsOwnKey) keys (own_keys_read program (is_read bytes can texts none).statements) in
    let fit = names-fit (tab_dictionary tables.stores) own (dictionary-total tables can) in
    let short : AllByRecursion HasFewElements (dictionary_stores (names_of program).keys) = subst (λ (names : List (List ℕ)). AllByRecursion HasFewElements (dictionary_stores names)) (sym keys) fit.1 in
    text_unrefused bytes can texts none (stores_short tables can out (sayable bytes none) fit.0 short)

-- if a file has a text, its names are UTF-8
texts : (bytes : List ℕ) → HasText bytes → HasTextNames (tables_of bytes)
texts bytes has = names_are_text bytes has.small

pub program_is_spelled : SpelledIsSpelled
program_is_spelled bytes has = spelled_is_spelled bytes has.playable (texts bytes has) has.spelled

pub program_names_stand : SpelledNamesStand
program_names_stand bytes has = spelled_names_stand bytes has.playable (texts bytes has) has.spelled

pub program_items_stand : SpelledItemsStand
program_items_stand bytes has = spelled_items_stand bytes has.playable (texts bytes has) has.spelled

-- if a file has a text, the program of the text is read and not refused
pub program_read : (bytes : List ℕ) → HasText bytes → IsRead (back (tables_of bytes))
program_read bytes has = is_read bytes has.playable (texts bytes has) has.spelled

pub program_unrefused : (bytes : List ℕ) → HasText bytes → refused (back (tables_of bytes)) ≡ None
program_unrefused bytes has = unrefused bytes has.playable (texts bytes has) has.spelled

pub text_is_accepted : TextIsAccepted
text_is_accepted bytes has =
    let program : Program = back (tables_of bytes) in
    ap (λ (read : Result Program Refusal). and_then read (λ p. or_refusal p (refused p))) (programs_read_back program (program_is_spelled bytes has))
    ∙ ap (or_refusal program) (program_unrefused bytes has)

pub text_keeps_meaning : TextKeepsMeaning
text_keeps_meaning bytes has tables compiles events = keeps_meaning bytes has.playable (texts bytes has) has.spelled (program_unrefused bytes has) tables compiles events
