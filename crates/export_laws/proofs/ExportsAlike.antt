-- What each press does stays the same from the given file to its export, so both type the same texts.
use Rattle.std.specs.Prelude.{◌≡◌, ℕ, Bool, List, [], ◌∷◌, map}
use Rattle.std.proofs.Common.{refl, sym, ap, ◌∙◌}
use Rattle.std.proofs.Math.Path.{subst}
use Rattle.kmn_base.specs.declared.items.Item.TheVariants as item
use Rattle.kmn_base.specs.declared.keys.KeyPress.{KeyPress}
use Rattle.kmn_base.specs.Lists.{characters}
use Rattle.rule_model.specs.declared.event_state.EventState.{EventState}
use Rattle.rule_model.specs.declared.tables.Tables.{Tables}
use Rattle.rule_model.specs.Event.{State}
use Rattle.rule_model.specs.Keyboard.{Keyboard}
use Rattle.rule_model.specs.KeyEvent.{begin_event, after_key}
use Rattle.rule_model.specs.Tab.{tab, tab_options}
use Rattle.kmx_format.specs.TablesOf.{tables_of}
use Rattle.kmx_verifier.proofs.Playing.{valid_playable}
use Rattle.core_conversions.specs.Laws.{PressesAreSame}
use Rattle.core_conversions.proofs.AllConverted.{conversions_keep_presses}
use Rattle.file_conversions.specs.Conversions.{converted_tables}
use Rattle.file_conversions.specs.declared.conversions.Conversion.{Conversion}
use Rattle.file_conversions.specs.declared.conversions.Conversion.TheVariants as conversion
use Rattle.core_export.specs.Export.{with_played_version, IsAfter, Converted, Unconverted, Unchanged, IsAfterAll, IsConverted}
use Rattle.core_laws.specs.Laws.{own_first, own_texts, own_texts_from, shown_after}
use Rattle.core_laws.proofs.Untold.{untold_keyboards_type_alike}
use Rattle.export_laws.specs.Laws.{UntoldExportsTypeAlike}

-- ---- keyboards whose presses do the same type the same texts

texts_from : (a b : Keyboard) → PressesAreSame a b → (presses : List KeyPress) (s : EventState) → own_texts_from a presses s ≡ own_texts_from b presses s
texts_from a b same [] s = refl
texts_from a b same (press ∷ presses) s =
    ap (shown_after (own_texts_from a presses)) (same.each press (begin_event s.left s.current s.saved))
    ∙ ap (λ (rest : List (List ℕ × Bool)). (characters (after_key b press (begin_event s.left s.current s.saved)).left, (after_key b press (begin_event s.left s.current s.saved)).pass) ∷ rest)
    (texts_from a b same presses (after_key b press (begin_event s.left s.current s.saved)))

same_texts : (a b : Keyboard) → PressesAreSame a b → (text : List ℕ) (presses : List KeyPress) → own_texts a text presses ≡ own_texts b text presses
unfolding own_texts
same_texts a b same text presses =
    texts_from a b same presses (own_first a text)
    ∙ ap (λ (first : State). own_texts_from b presses (begin_event (map item.Char text) first.current first.saved)) same.first

-- ---- from the export back to the given file

itself : (kb : Keyboard) → PressesAreSame kb kb
itself kb = record { first = refl; each = λ press s. refl }

chain : (a b c : Keyboard) → PressesAreSame a b → PressesAreSame b c → PressesAreSame a c
chain a b c one other = record { first = one.first ∙ other.first; each = λ press s. one.each press s ∙ other.each press s }

played_same : (tables : Tables) → PressesAreSame (tab (with_played_version tables)) (tab tables)
unfolding tab tab_options
played_same tables = itself (tab tables)

conversion_same : (how : Conversion) (tables : Tables) → PressesAreSame (tab (converted_tables how tables)) (tab tables)
conversion_same conversion.NulFirst tables = conversions_keep_presses.nul tables
conversion_same conversion.PlainSides tables = conversions_keep_presses.sides tables
conversion_same conversion.EmptyAsNomatch tables = conversions_keep_presses.empty tables

after_same : (how : Conversion) (bytes after : List ℕ) → IsAfter how bytes after → PressesAreSame (tab (tables_of after)) (tab (tables_of bytes))
after_same how bytes after (Converted out converted is) =
    subst (λ (tables : Tables). PressesAreSame (tab tables) (tab (tables_of bytes))) (sym converted.tables) (conversion_same how (tables_of bytes))
after_same how bytes after (Unconverted none is) = subst (λ (xs : List ℕ). PressesAreSame (tab (tables_of xs)) (tab (tables_of bytes))) (sym is) (itself (tab (tables_of bytes)))
after_same how bytes after (Unchanged same is) = subst (λ (xs : List ℕ). PressesAreSame (tab (tables_of xs)) (tab (tables_of bytes))) (sym is) (itself (tab (tables_of bytes)))

all_same : (bytes last : List ℕ) → IsAfterAll bytes last → PressesAreSame (tab (tables_of last)) (tab (tables_of bytes))
all_same bytes last after =
    chain (tab (tables_of last)) (tab (tables_of after.second)) (tab (tables_of bytes)) (after_same conversion.EmptyAsNomatch after.second last after.empty)
    (chain (tab (tables_of after.second)) (tab (tables_of after.first)) (tab (tables_of bytes)) (after_same conversion.PlainSides after.first after.second after.sides)
    (after_same conversion.NulFirst bytes after.first after.nul))

pub untold_exports_type_alike : UntoldExportsTypeAlike
untold_exports_type_alike bytes out small exports untold plain version ended text presses common =
    untold_keyboards_type_alike _ (tables_of out) (valid_playable out small done.exported.2.valid) untold plain version ended text presses common
    ∙ same_texts (tab (tables_of out)) (tab (tables_of bytes)) same text presses
  where
    done : IsConverted bytes out
    done = exports.1

    same : PressesAreSame (tab (tables_of out)) (tab (tables_of bytes))
    same =
        subst (λ (tables : Tables). PressesAreSame (tab tables) (tab (tables_of bytes))) (sym done.exported.1.4.same.tables)
        (chain (tab (with_played_version (tables_of done.last))) (tab (tables_of done.last)) (tab (tables_of bytes)) (played_same (tables_of done.last)) (all_same bytes done.last done.after))
