-- The names of stores, one by one.
use Rattle.std.proofs.Common.{◌≡◌, ℕ, ◌+◌, Bool, true, false, nat_eq, List, [], ◌∷◌, ◌++◌, Option, refl, sym, ap, ◌∙◌, append_assoc}
use Rattle.rule_model.specs.declared.tables.Store.{Store}
use Rattle.decompile_program.specs.Names.{is_written, keeps_store_name, store_names}
use Rattle.decompile_program.specs.Calling.{store_call, free_left, names_met}

by_tests : (named : List ℕ) (free earlier : List (List ℕ)) (n : ℕ) (store : Store) (stores : List Store) (written ordinary kept : Bool)
    → is_written named n store ≡ written → nat_eq store.system 0 ≡ ordinary → keeps_store_name earlier store.name ≡ kept
    → store_names named free earlier n (store ∷ stores)
    ≡ store_call (is_written named n store) free earlier store ∷ store_names named (free_left (is_written named n store) free earlier store) (names_met (is_written named n store) earlier store) (n + 1) stores
by_tests named free earlier n store stores false ordinary kept w o k = rw w refl
by_tests named free earlier n store stores true false kept w o k = rw w (rw o refl)
by_tests named free earlier n store stores true true true w o k = rw w (rw o (rw k refl))
by_tests named free earlier n store stores true true false w o k = rw w (rw o (rw k refl))

pub next_call : (named : List ℕ) (free earlier : List (List ℕ)) (n : ℕ) (store : Store) (stores : List Store)
    → store_names named free earlier n (store ∷ stores)
    ≡ store_call (is_written named n store) free earlier store ∷ store_names named (free_left (is_written named n store) free earlier store) (names_met (is_written named n store) earlier store) (n + 1) stores
next_call named free earlier n store stores =
    by_tests named free earlier n store stores (is_written named n store) (nat_eq store.system 0) (keeps_store_name earlier store.name) refl refl refl

-- naming one more store does not change the whole list of names
pub next_names : (named : List ℕ) (whole : List (Option (List ℕ))) (free left earlier met : List (List ℕ)) (n : ℕ) (store : Store) (here rest : List Store)
    (names more : List (Option (List ℕ))) (name : Option (List ℕ)) (written : Bool)
    → written ≡ is_written named n store → name ≡ store_call written free earlier store → left ≡ free_left written free earlier store → met ≡ names_met written earlier store
    → more ≡ names ++ name ∷ [] → here ≡ store ∷ rest → names ++ store_names named free earlier n here ≡ whole
    → more ++ store_names named left met (n + 1) rest ≡ whole
next_names named whole free left earlier met n store here rest names more name written w c l m is h before =
    let known : Bool = is_written named n store in
    ap (λ (calls : List (Option (List ℕ))). calls ++ store_names named left met (n + 1) rest) is
    ∙ append_assoc names (name ∷ []) (store_names named left met (n + 1) rest)
    ∙ ap (λ (called : Option (List ℕ)). names ++ called ∷ store_names named left met (n + 1) rest) (c ∙ ap (λ (b : Bool). store_call b free earlier store) w)
    ∙ ap (λ (found : List (List ℕ)). names ++ store_call known free earlier store ∷ store_names named found met (n + 1) rest) (l ∙ ap (λ (b : Bool). free_left b free earlier store) w)
    ∙ ap (λ (found : List (List ℕ)). names ++ store_call known free earlier store ∷ store_names named (free_left known free earlier store) found (n + 1) rest) (m ∙ ap (λ (b : Bool). names_met b earlier store) w)
    ∙ ap (λ (calls : List (Option (List ℕ))). names ++ calls) (sym (next_call named free earlier n store rest))
    ∙ ap (λ (stores : List Store). names ++ store_names named free earlier n stores) (sym h) ∙ before
