-- The custom keys of a key dictionary, read code by code.
use Rattle.std.proofs.Common.{◌≡◌, ℕ, suc, ◌+◌, ◌<◌, ◌≤◌, List, [], ◌∷◌, ◌++◌, length, drop, Some, None, get_or, refl, sym, ap, ◌∙◌, arith, length-append, append_assoc, append-nil}
use Rattle.std.specs.Prelude.{slice_get, map, ◌^◌}
use Rattle.std.proofs.lemmas.List.{drop_more, drop_all, length-map}
use Rattle.std.proofs.lemmas.Option.{slice_get_within, get_or_from_slice_get}
use Rattle.virtual_keys.specs.Dictionary.{name_in}
use Rattle.virtual_keys.proofs.NamePlaces.{past, name_read}
use Rattle.chart_board.specs.declared.board.Key.{Key}
use Rattle.chart_board.specs.Board.{board_rows, board_key, own_key, own_keys, chart_keys}

-- the key of one more name does not change the whole list of keys
pub own_next : (keys whole : List Key) (names : List (List ℕ)) (place : ℕ) (name : List ℕ) → name_in names (256 + place) ≡ Some name
    → keys ++ own_keys place (drop place names) ≡ whole
    → (keys ++ own_key place name ∷ []) ++ own_keys (place + 1) (drop (place + 1) names) ≡ whole
own_next keys whole names place name e h =
    let here : slice_get names place ≡ Some name = sym (name_read names place) ∙ e in
    let within : place < length names = slice_get_within names place name here in
    let is : name ≡ get_or names place name = sym (get_or_from_slice_get names place name name here) in
    let split : drop place names ≡ name ∷ drop (place + 1) names =
    drop_more names place name within ∙ ap (λ n. n ∷ drop (place + 1) names) (sym is) in
    append_assoc keys (own_key place name ∷ []) (own_keys (place + 1) (drop (place + 1) names))
    ∙ sym (ap (λ more. keys ++ own_keys place more) split) ∙ h

-- if all codes are read, all keys are there
pub own_all : (keys whole : List Key) (names : List (List ℕ)) (place : ℕ) → length names ≤ place → keys ++ own_keys place (drop place names) ≡ whole → keys ≡ whole
own_all keys whole names place few h = sym (append-nil keys) ∙ sym (ap (λ more. keys ++ own_keys place more) (drop_all place names few)) ∙ h

-- if a code has no name, all keys are there
pub own_ended : (keys whole : List Key) (names : List (List ℕ)) (place : ℕ) → name_in names (256 + place) ≡ None → keys ++ own_keys place (drop place names) ≡ whole → keys ≡ whole
own_ended keys whole names place e h = own_all keys whole names place (past names place (sym (name_read names place) ∙ e)) h

own_count : (place : ℕ) (names : List (List ℕ)) → length (own_keys place names) ≡ length names
own_count place [] = refl
own_count place (name ∷ names) = ap suc (own_count (place + 1) names)

-- a chart has fewer keys than twice the codes of 16 bits
pub few_keys : (names : List (List ℕ)) → length names ≤ 65_280 → length (chart_keys names) < 2 ^ 17
unfolding chart_keys board_rows
few_keys names few =
    let both = length-append (map board_key board_rows) (own_keys 0 names) in
    let board = length-map board_rows board_key in
    let own = own_count 0 names in
    omega (arith, both, board, own, few)
