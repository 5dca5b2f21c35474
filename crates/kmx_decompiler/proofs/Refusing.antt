-- The reason why a file has no text, determined part by part.
use Rattle.std.proofs.Common.{◌≡◌, ℕ, ◌≤◌, true, false, List, length, Option, Some, None, ap, sym, subst, ◌∙◌}
use Rattle.std.specs.Prelude.{All, nat_lt, if◌then◌else◌, option_map}
use Rattle.std.specs.Str.{IsUtf8}
use Rattle.std.specs.Option.{option_or}
use Rattle.std.proofs.lemmas.List.Elements.{All-weaker}
use Rattle.kmn_base.specs.declared.limits.TheConstants.{KEY_NAMES, TEXT_BYTES}
use Rattle.rule_model.specs.declared.program.Program.{Program}
use Rattle.rule_model.specs.declared.tables.Tables.{Tables}
use Rattle.rule_model.specs.Tab.{tab_dictionary}
use Rattle.kmx_format.specs.Playable.{IsPlayable, IsPlayableStore}
use Rattle.kmx_format.specs.TablesOf.{tables_of}
use Rattle.kmn_parser.specs.Programs.{program_text}
use Rattle.decompile_program.specs.Back.{back}
use Rattle.decompile_program.specs.WrittenOut.{CanBeWrittenOut}
use Rattle.kmx_decompiler.specs.declared.no_spelling.NoSpelling.{NoSpelling}
use Rattle.kmx_decompiler.specs.declared.no_spelling.NoSpelling.TheVariants.{TooLarge, Unspelled}
use Rattle.kmx_decompiler.specs.Places.{cause_places, least}
use Rattle.kmx_decompiler.specs.Excess.{excess, text_size, store_count, element_count}
use Rattle.kmx_decompiler.specs.Unspelled.{disorder, unspelled}
use Rattle.decompile_program.proofs.FewNames.{HasFewElements, few_names}
use Rattle.kmx_decompiler.specs.Refusals.{too_many}
use Rattle.kmx_decompiler.proofs.NoCauses.{written_without_cause, keys_without_cause}

pub few_keys : (tables : Tables) → IsPlayable tables → length (tab_dictionary tables.stores) ≤ KEY_NAMES
few_keys tables h = few_names tables.stores (All-weaker IsPlayableStore HasFewElements (λ store s. s.element_count) tables.stores h.stores)

-- the excess of a text that is too large, and of one that is not
pub larger_text : (program : Program) (size : ℕ) → size ≡ length (program_text program) → nat_lt TEXT_BYTES size ≡ true → excess program ≡ Some (TooLarge size)
unfolding text_size
larger_text program size is larger =
    rw (← is) (λ i. if larger i then Some (TooLarge size) else too_many (store_count program) (element_count program))

pub text_within : (program : Program) (size : ℕ) → size ≡ length (program_text program) → nat_lt TEXT_BYTES size ≡ false → excess program ≡ too_many (store_count program) (element_count program)
unfolding text_size
text_within program size is within =
    rw (← is) (λ i. if within i then Some (TooLarge size) else too_many (store_count program) (element_count program))

-- the reason why a file has no text is the reason of the first part that has one: the order, the least cause, the excess
pub unspelled_order : (bytes : List ℕ) (why : NoSpelling) → disorder 0 (tables_of bytes).groups ≡ Some why → unspelled bytes ≡ Some why
unfolding unspelled
unspelled_order bytes why e =
    ap (λ first. option_or first (option_or (option_map Unspelled (least (cause_places bytes))) (excess (back (tables_of bytes))))) e

pub unspelled_cause : (bytes : List ℕ) (tables : Tables) (at : ℕ) (place : Option ℕ)
    → tables ≡ tables_of bytes → disorder 0 tables.groups ≡ None → place ≡ least (cause_places bytes) → place ≡ Some at → unspelled bytes ≡ Some (Unspelled at)
unfolding unspelled
unspelled_cause bytes tables at place of_bytes order is found =
    let in_order : disorder 0 (tables_of bytes).groups ≡ None = sym (ap (λ (t : Tables). disorder 0 t.groups) of_bytes) ∙ order in
    ap (λ first. option_or first (option_or (option_map Unspelled (least (cause_places bytes))) (excess (back (tables_of bytes))))) in_order
    ∙ ap (λ p. option_or (option_map Unspelled p) (excess (back (tables_of bytes)))) (sym is ∙ found)

pub unspelled_excess : (bytes : List ℕ) → disorder 0 (tables_of bytes).groups ≡ None → least (cause_places bytes) ≡ None → unspelled bytes ≡ excess (back (tables_of bytes))
unfolding unspelled
unspelled_excess bytes order e =
    ap (λ first. option_or first (option_or (option_map Unspelled (least (cause_places bytes))) (excess (back (tables_of bytes))))) order
    ∙ ap (λ place. option_or (option_map Unspelled place) (excess (back (tables_of bytes)))) e

-- if neither the order nor a cause is a reason, the tables can be written out, and the names of their keys are UTF-8
pub written : (bytes : List ℕ) (tables : Tables) (place : Option ℕ)
    → tables ≡ tables_of bytes → IsPlayable tables → disorder 0 tables.groups ≡ None → place ≡ least (cause_places bytes) → place ≡ None → CanBeWrittenOut tables
written bytes tables place of_bytes can order is none =
    let P : Tables → Type 0 = λ t. (IsPlayable t → disorder 0 t.groups ≡ None → CanBeWrittenOut t) in
    subst P (sym of_bytes) (λ playable in_order. written_without_cause bytes playable in_order (sym is ∙ none)) can order

pub keys : (bytes : List ℕ) (tables : Tables) (place : Option ℕ)
    → tables ≡ tables_of bytes → disorder 0 tables.groups ≡ None → place ≡ least (cause_places bytes) → place ≡ None → All IsUtf8 (tab_dictionary tables.stores)
keys bytes tables place of_bytes order is none =
    let P : Tables → Type 0 = λ t. (disorder 0 t.groups ≡ None → All IsUtf8 (tab_dictionary t.stores)) in
    subst P (sym of_bytes) (λ in_order. keys_without_cause bytes in_order (sym is ∙ none)) order
