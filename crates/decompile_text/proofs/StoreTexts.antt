-- The lines of the stores of a file and of the stores before them.
use Rattle.std.proofs.Common.{◌≡◌, ℕ, ◌+◌, Bool, true, false, nat_eq, if◌then◌else◌, List, [], ◌∷◌, ◌++◌, drop, Option, Some, None, map, refl, sym, ap, ◌∙◌, append_assoc, codes, arith}
use Rattle.std.specs.Prelude.{slice_get, unwrap_or}
use Rattle.std.specs.List.{list_any}
use Rattle.std.proofs.lemmas.Bool.Decides.{nat_tests}
use Rattle.rule_model.specs.declared.tables.Store.{Store}
use Rattle.kmn_parser.specs.Printed.{printed, sheet}
use Rattle.kmn_parser.specs.Statements.{store_pieces, system_name}
use Rattle.decompile_program.specs.Items.{Names, back_element}
use Rattle.decompile_program.specs.Names.{is_written, written_ids, keeps_store_name, store_names}
use Rattle.decompile_program.specs.Back.{back_stores}
use Rattle.decompile_text.specs.Texts.{elements_text, store_text, stores_text, if_called}
use Rattle.decompile_text.proofs.LineTexts.{printed_elements}
use Rattle.decompile_text.proofs.WholeTexts.{first_left, one_less}

-- no store that the text contains is `&version`
abbrev NotVersion : List (Option (List ℕ)) → List Store → Type 0
NotVersion [] stores = Unit {0}
NotVersion (called ∷ calls) [] = Unit {0}
NotVersion (None ∷ calls) (store ∷ stores) = NotVersion calls stores
NotVersion (Some name ∷ calls) (store ∷ stores) = (nat_eq store.system 8 ≡ false) × NotVersion calls stores

not_eight : (system : ℕ) (eight : Bool) → nat_eq system 8 ≡ eight → list_any (nat_eq system) written_ids ≡ true → eight ≡ false
not_eight system false e h = refl
not_eight system true e h =
    let is : system ≡ 8 = grind (arith, nat_tests) in
    let wrong : false ≡ true = sym (ap (λ (n : ℕ). list_any (nat_eq n) written_ids) is) ∙ h in
    absurd (grind (arith, wrong))

written_is : (named : List ℕ) (n : ℕ) (store : Store) (ordinary : Bool) → nat_eq store.system 0 ≡ ordinary → is_written named n store ≡ true → nat_eq store.system 8 ≡ false
written_is named n store true e h = grind (arith, nat_tests)
written_is named n store false e h =
    let listed : list_any (nat_eq store.system) written_ids ≡ true =
    ap (λ (ordinary : Bool). if ordinary then list_any (nat_eq n) named else list_any (nat_eq store.system) written_ids) (sym e) ∙ h in
    not_eight store.system (nat_eq store.system 8) refl listed

calls_from : (named : List ℕ) (free earlier : List (List ℕ)) (n : ℕ) (store : Store) (stores : List Store) (written system kept : Bool)
    → is_written named n store ≡ written → nat_eq store.system 0 ≡ system → keeps_store_name earlier store.name ≡ kept
    → ((free earlier : List (List ℕ)) (n : ℕ) → NotVersion (store_names named free earlier n stores) stores)
    → NotVersion (store_names named free earlier n (store ∷ stores)) (store ∷ stores)
calls_from named free earlier n store stores false system kept w s k h = rw w (h free earlier (n + 1))
calls_from named free earlier n store stores true false kept w s k h = rw w (rw s (written_is named n store false s w, h free earlier (n + 1)))
calls_from named free earlier n store stores true true true w s k h = rw w (rw s (rw k (written_is named n store true s w, h free (earlier ++ store.name ∷ []) (n + 1))))
calls_from named free earlier n store stores true true false w s k h = rw w (rw s (rw k (written_is named n store true s w, h (drop 1 free) (earlier ++ store.name ∷ []) (n + 1))))

-- by the names that stores get, no store that the text contains is `&version`
pub called_stores : (named : List ℕ) (free earlier : List (List ℕ)) (n : ℕ) (stores : List Store) → NotVersion (store_names named free earlier n stores) stores
called_stores named free earlier n [] = tt
called_stores named free earlier n (store ∷ stores) =
    calls_from named free earlier n store stores (is_written named n store) (nat_eq store.system 0) (keeps_store_name earlier store.name) refl refl refl
    (λ free earlier n. called_stores named free earlier n stores)

-- the line of a store that is not `&version`, and what follows
store_line : (names : Names) (line : ℕ) (name : List ℕ) (store : Store) (rest : List ℕ) → nat_eq store.system 8 ≡ false
    → printed (store_pieces (record { line = line; system = store.system; name = name; items = map (back_element names) store.elements })) ++ 10 ∷ rest ≡ store_text names name store ++ rest
unfolding store_text
store_line names line name store rest e =
    let called : List ℕ = if nat_eq store.system 0 then name else system_name store.system in
    rw e
    (ap (λ (text : List ℕ). (codes "store(" ++ (called ++ 41 ∷ text)) ++ 10 ∷ rest) (printed_elements names store.elements)
    ∙ ap (λ (text : List ℕ). codes "store(" ++ text)
    (append_assoc called (41 ∷ elements_text names store.elements) (10 ∷ rest)
    ∙ sym (append_assoc (called ++ 41 ∷ []) (elements_text names store.elements ++ 10 ∷ []) rest
    ∙ append_assoc called (41 ∷ []) ((elements_text names store.elements ++ 10 ∷ []) ++ rest)
    ∙ ap (λ (text : List ℕ). called ++ 41 ∷ text) (append_assoc (elements_text names store.elements) (10 ∷ []) rest))))

-- the lines of stores by what they are called
abbrev called_text : Names → List (Option (List ℕ)) → List Store → List ℕ
called_text names calls [] = []
called_text names calls (store ∷ stores) = if_called names (unwrap_or (slice_get calls 0) None) store ++ called_text names (drop 1 calls) stores

none_called : (names : Names) (stores : List Store) → called_text names [] stores ≡ []
none_called names [] = refl
none_called names (store ∷ stores) = none_called names stores

lines_called : (names : Names) (line : ℕ) (calls : List (Option (List ℕ))) (stores : List Store) → NotVersion calls stores
    → sheet (map store_pieces (back_stores names line calls stores)) ≡ called_text names calls stores
lines_called names line [] stores h = sym (none_called names stores)
lines_called names line (called ∷ calls) [] h = refl
lines_called names line (None ∷ calls) (store ∷ stores) h = lines_called names line calls stores h
lines_called names line (Some name ∷ calls) (store ∷ stores) h =
    store_line names line name store _ h.0
    ∙ ap (λ (text : List ℕ). store_text names name store ++ text) (lines_called names (line + 1) calls stores h.1)

from_number : (names : Names) (n : ℕ) (calls : List (Option (List ℕ))) (stores : List Store) → calls ≡ drop n names.stores → called_text names calls stores ≡ stores_text names n stores
from_number names n calls [] e = refl
from_number names n calls (store ∷ stores) e =
    ap (λ (called : Option (Option (List ℕ))). if_called names (unwrap_or called None) store ++ called_text names (drop 1 calls) stores) (ap (λ (left : List (Option (List ℕ))). slice_get left 0) e ∙ first_left names.stores n)
    ∙ ap (λ (text : List ℕ). if_called names (unwrap_or (slice_get names.stores n) None) store ++ text)
    (from_number names (n + 1) (drop 1 calls) stores (ap (drop 1) e ∙ one_less names.stores n))

-- the lines of the stores of a file
pub printed_stores : (names : Names) (line : ℕ) (stores : List Store) → NotVersion names.stores stores
    → sheet (map store_pieces (back_stores names line names.stores stores)) ≡ stores_text names 0 stores
printed_stores names line stores h = lines_called names line names.stores stores h ∙ from_number names 0 names.stores stores refl
