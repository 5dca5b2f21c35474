-- The names of a key dictionary, read code by code.
use Rattle.std.proofs.Common.{◌≡◌, ℕ, zero, suc, ◌+◌, ◌<◌, ◌≤◌, List, [], ◌∷◌, ◌++◌, length, drop, Some, None, get_or, refl, sym, ap, ◌∙◌, arith, append_assoc, append-nil}
use Rattle.std.specs.Prelude.{slice_get}
use Rattle.std.proofs.lemmas.List.{drop_more}
use Rattle.std.proofs.lemmas.Option.{slice_get_within, get_or_from_slice_get}
use Rattle.virtual_keys.specs.Dictionary.{name_in}
use Rattle.virtual_keys.proofs.NamePlaces.{past, name_read}

none_left : {X : Type 0} (xs : List X) (i : ℕ) → length xs ≤ i → drop i xs ≡ []
none_left [] zero h = refl
none_left [] (suc i) h = refl
none_left (x ∷ xs) zero h = absurd (omega arith)
none_left (x ∷ xs) (suc i) h =
    let less : length xs ≤ i = omega arith in
    none_left xs i less

-- reading one more name does not change the whole list of names
pub next_name : (names keys : List (List ℕ)) (place : ℕ) (name : List ℕ) → name_in names (256 + place) ≡ Some name
    → keys ++ drop place names ≡ names → (keys ++ name ∷ []) ++ drop (place + 1) names ≡ names
next_name names keys place name e h =
    let here : slice_get names place ≡ Some name = sym (name_read names place) ∙ e in
    let within : place < length names = slice_get_within names place name here in
    let is : name ≡ get_or names place name = sym (get_or_from_slice_get names place name name here) in
    let split : drop place names ≡ name ∷ drop (place + 1) names =
    drop_more names place name within ∙ ap (λ n. n ∷ drop (place + 1) names) (sym is) in
    append_assoc keys (name ∷ []) (drop (place + 1) names) ∙ sym (ap (λ more. keys ++ more) split) ∙ h

-- if a code has no name, all names are read
pub all_names : (names keys : List (List ℕ)) (place : ℕ) → name_in names (256 + place) ≡ None → keys ++ drop place names ≡ names → keys ≡ names
all_names names keys place e h =
    let none : drop place names ≡ [] = none_left names place (past names place (sym (name_read names place) ∙ e)) in
    sym (append-nil keys) ∙ sym (ap (λ more. keys ++ more) none) ∙ h

-- if all codes are read, all names are read
pub names_ended : (names keys : List (List ℕ)) (place : ℕ) → length names ≤ place → keys ++ drop place names ≡ names → keys ≡ names
names_ended names keys place few h = sym (append-nil keys) ∙ sym (ap (λ more. keys ++ more) (none_left names place few)) ∙ h
