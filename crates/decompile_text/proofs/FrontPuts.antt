-- The stores before the stores of a file, appended part by part.
use Rattle.std.proofs.Common.{◌≡◌, ℕ, List, [], length, refl, ap, ◌∙◌}
use Rattle.std.specs.Prelude.{unwrap_or, slice_get}
use Rattle.rule_model.specs.declared.tables.Tables.{Tables}
use Rattle.rule_model.specs.Tab.{tab_dictionary}
use Rattle.decompile_program.specs.Marks.{greatest_mark}
use Rattle.decompile_program.specs.Back.{free_stores, mark_stores}
use Rattle.decompile_text.specs.declared.page.Page.{Page}
use Rattle.decompile_text.specs.declared.writing.Front.{Front}
use Rattle.decompile_text.specs.Pages.{with_text}
use Rattle.decompile_text.specs.Texts.{version_line, mark_line, key_line}
use Rattle.decompile_text.specs.Whole.{front_text, IsFront}
use Rattle.decompile_text.proofs.Puts.{three}

named_at : (free given : List (List ℕ)) (place other : ℕ) (name : List ℕ) → free ≡ given → place ≡ other → name ≡ unwrap_or (slice_get free place) []
    → name ≡ unwrap_or (slice_get given other) []
named_at free given place other name f p n =
    n ∙ ap (λ (names : List (List ℕ)). unwrap_or (slice_get names place) []) f ∙ ap (λ (k : ℕ). unwrap_or (slice_get given k) []) p

pub front_puts : (tables : Tables) (front : Front) (free keys : List (List ℕ)) (place : ℕ) (first second : List ℕ) (page one two all : Page)
    → IsFront tables front → free ≡ free_stores tables → first ≡ unwrap_or (slice_get free 0) [] → place ≡ length (mark_stores tables)
    → second ≡ unwrap_or (slice_get free place) [] → keys ≡ front.keys.items
    → one ≡ with_text page (version_line tables.version) → two ≡ with_text one (mark_line first front.marks) → all ≡ with_text two (key_line second keys)
    → all ≡ with_text page (front_text tables)
front_puts tables front free keys place first second page one two all h f n p s k a b c =
    let first_is : first ≡ unwrap_or (slice_get (free_stores tables) 0) [] = named_at free (free_stores tables) 0 0 first f refl n in
    let second_is : second ≡ unwrap_or (slice_get (free_stores tables) (length (mark_stores tables))) [] = named_at free (free_stores tables) place (length (mark_stores tables)) second f p s in
    let keys_are : keys ≡ tab_dictionary tables.stores = k ∙ h.keys in
    let marks : List ℕ = mark_line (unwrap_or (slice_get (free_stores tables) 0) []) (greatest_mark tables) in
    c
    ∙ ap (λ (name : List ℕ). with_text two (key_line name keys)) second_is
    ∙ ap (λ (found : List (List ℕ)). with_text two (key_line (unwrap_or (slice_get (free_stores tables) (length (mark_stores tables))) []) found)) keys_are
    ∙ ap (λ (found : Page). with_text found (key_line (unwrap_or (slice_get (free_stores tables) (length (mark_stores tables))) []) (tab_dictionary tables.stores)))
    (b ∙ ap (λ (name : List ℕ). with_text one (mark_line name front.marks)) first_is
    ∙ ap (λ (count : ℕ). with_text one (mark_line (unwrap_or (slice_get (free_stores tables) 0) []) count)) h.marks
    ∙ ap (λ (found : Page). with_text found marks) a)
    ∙ three page (version_line tables.version) marks (key_line (unwrap_or (slice_get (free_stores tables) (length (mark_stores tables))) []) (tab_dictionary tables.stores))
