-- The names by which a text calls stores and groups are names that a source reads.
use Rattle.std.proofs.Common.{◌≡◌, ℕ, zero, suc, ◌+◌, ◌^◌, ◌<◌, ◌≤◌, true, false, not, List, [], ◌∷◌, ◌++◌, length, take, drop, map, Option, None, Some, refl, sym, ◌∙◌, subst, arith, length-drop}
use Rattle.std.specs.Prelude.{All, nat_eq, slice_get, unwrap_or, filter}
use Rattle.std.specs.List.{list_any, AllByRecursion, range_with_len}
use Rattle.std.specs.Str.{is_utf8}
use Rattle.std.proofs.lemmas.Bool.{not-false, cond_both, not-true, and_parts, cond-false}
use Rattle.std.proofs.lemmas.List.Elements.{All-nil, All-cons, All-weaker, All-map, All-filter, All-take, recursion_from_All}
use Rattle.kmn_items.specs.Words.{is_system_name}
use Rattle.rule_model.specs.declared.tables.Store.{Store}
use Rattle.rule_model.specs.declared.tables.Group.{Group}
use Rattle.kmn_parser.specs.Names.{is_source_name}
use Rattle.kmn_parser.specs.Spelled.{IsSpelledName, IsStoreName}
use Rattle.decompile_program.specs.Names.{written_ids, is_written, numbered_name, is_free, free_names, keeps_name, keeps_store_name, store_names, group_names}
use Rattle.decompile_program.specs.WrittenOut.{is_ordinary}
use Rattle.decompile_program.proofs.BackCalls.{written-here}
use Rattle.kmn_lines.proofs.TextSizes.{clash}

range-below : (from count bound : ℕ) → from + count ≤ bound → All (λ n. n < bound) (range_with_len from count)
range-below from zero bound h = All-nil (λ n. n < bound)
range-below from (suc count) bound h =
    All-cons (λ n. n < bound) from (range_with_len (from + 1) count) (omega arith) (range-below (from + 1) count bound (omega arith))

-- free names are names of ordinary stores that a source reads
pub free_spelled : (letter : List ℕ) → ((n : ℕ) → n < 10 ^ 9 → IsStoreName (numbered_name letter n))
    → (taken : List (List ℕ)) (count : ℕ) → 1 + (count + length taken) ≤ 10 ^ 9 → AllByRecursion IsStoreName (free_names letter taken count)
unfolding free_names
free_spelled letter each taken count small =
    let numbers : List ℕ = range_with_len 1 (count + length taken) in
    let candidates : List (List ℕ) = map (numbered_name letter) numbers in
    recursion_from_All IsStoreName (take count (filter (is_free taken) candidates))
    (All-take IsStoreName count (filter (is_free taken) candidates)
    (All-filter (is_free taken) IsStoreName candidates
    (All-map IsStoreName (numbered_name letter) numbers
    (All-weaker (λ n. n < 10 ^ 9) (λ n. IsStoreName (numbered_name letter n)) each numbers (range-below 1 (count + length taken) (10 ^ 9) small)))))

first-name : (names : List (List ℕ)) → 0 < length names → AllByRecursion IsStoreName names → IsStoreName (unwrap_or (slice_get names 0) [])
first-name [] some h = absurd (omega arith)
first-name (name ∷ names) some h = h.0

other-names : (names : List (List ℕ)) → AllByRecursion IsStoreName names → AllByRecursion IsStoreName (drop 1 names)
other-names [] h = tt
other-names (name ∷ names) h = h.1

-- stores numbered from `n` on: a written ordinary store has a name that a source reads, a written system store one of the written ids
abbrev pub AreNamed : List ℕ → ℕ → List (Option (List ℕ)) → List Store → Type 0
AreNamed named n [] [] = Unit {0}
AreNamed named n [] (store ∷ stores) = ⊥
AreNamed named n (call ∷ calls) [] = ⊥
AreNamed named n (None ∷ calls) (store ∷ stores) = (is_written named n store ≡ false) × AreNamed named (n + 1) calls stores
AreNamed named n (Some name ∷ calls) (store ∷ stores) =
    (nat_eq store.system 0 ≡ true → IsStoreName name) × (nat_eq store.system 0 ≡ false → (name ≡ []) × (list_any (nat_eq store.system) written_ids ≡ true)) × AreNamed named (n + 1) calls stores

-- the name of a store is UTF-8
abbrev pub HasText : Store → Type 0
HasText store = is_utf8 store.name ≡ true

kept-name : (earlier : List (List ℕ)) (name : List ℕ) → is_utf8 name ≡ true → keeps_store_name earlier name ≡ true → IsStoreName name
kept-name earlier name utf8 k =
    let one = and_parts (not (is_system_name name)) (keeps_name earlier name) k in
    let two = and_parts (is_source_name name) (is_free earlier name) one.1 in
    record { named = record { utf8 = utf8; read = two.0 }; ordinary = not-true (is_system_name name) one.0 }

pub are_named : (named : List ℕ) (free earlier : List (List ℕ)) (n : ℕ) (stores : List Store) → AllByRecursion IsStoreName free → length stores ≤ length free
    → AllByRecursion HasText stores → AreNamed named n (store_names named free earlier n stores) stores
are_named named free earlier n [] f enough texts = tt
are_named named free earlier n (store ∷ stores) f enough texts =
    cond_both (not (is_written named n store)) _ _ (λ calls. AreNamed named n calls (store ∷ stores))
    (λ w. (not-true (is_written named n store) w, are_named named free earlier (n + 1) stores f (omega arith) texts.1))
    (λ w. cond_both (not (nat_eq store.system 0)) _ _ (λ calls. AreNamed named n calls (store ∷ stores))
    (λ e. (
      (λ o. clash (nat_eq store.system 0) o (not-true (nat_eq store.system 0) e)),
      (λ o. (refl, sym (cond-false (nat_eq store.system 0) (list_any (nat_eq n) named) (list_any (nat_eq store.system) written_ids) o) ∙ not-false (is_written named n store) w)),
      are_named named free earlier (n + 1) stores f (omega arith) texts.1,
    ))
    (λ e. cond_both (keeps_store_name earlier store.name) _ _ (λ calls. AreNamed named n calls (store ∷ stores))
    (λ k. (
      (λ o. kept-name earlier store.name texts.0 k),
      (λ o. clash (nat_eq store.system 0) (not-false (nat_eq store.system 0) e) o),
      are_named named free (earlier ++ store.name ∷ []) (n + 1) stores f (omega arith) texts.1,
    ))
    (λ k. (
      (λ o. first-name free (omega arith) f),
      (λ o. clash (nat_eq store.system 0) (not-false (nat_eq store.system 0) e) o),
      are_named named (drop 1 free) (earlier ++ store.name ∷ []) (n + 1) stores (other-names free f) (let l = length-drop 1 free in omega (arith, l)) texts.1,
    ))))

pub name_called : (named : List ℕ) (k : ℕ) (calls : List (Option (List ℕ))) (stores : List Store) (i n : ℕ) → AreNamed named k calls stores → n ≡ k + i
    → is_ordinary (slice_get stores i) ≡ true → list_any (nat_eq n) named ≡ true → IsStoreName (unwrap_or (unwrap_or (slice_get calls i) None) [])
name_called named k [] [] i n h e o a = absurd (cc)
name_called named k [] (store ∷ stores) i n h e o a = absurd h
name_called named k (call ∷ calls) [] i n h e o a = absurd h
name_called named k (None ∷ calls) (store ∷ stores) zero n h e o a =
    let same : n ≡ k = omega (arith, e) in
    clash (is_written named k store) (written-here named k store o (subst (λ (m : ℕ). list_any (nat_eq m) named ≡ true) same a)) h.0
name_called named k (Some name ∷ calls) (store ∷ stores) zero n h e o a = h.0 o
name_called named k (None ∷ calls) (store ∷ stores) (suc i) n h e o a = name_called named (k + 1) calls stores i n h.1 (omega (arith, e)) o a
name_called named k (Some name ∷ calls) (store ∷ stores) (suc i) n h e o a = name_called named (k + 1) calls stores i n h.2 (omega (arith, e)) o a

-- the name of a group is UTF-8
abbrev pub GroupHasText : Group → Type 0
GroupHasText group = is_utf8 group.name ≡ true

pub groups_named : (free earlier : List (List ℕ)) (groups : List Group) → AllByRecursion IsStoreName free → length groups ≤ length free
    → AllByRecursion GroupHasText groups → AllByRecursion IsSpelledName (group_names free earlier groups)
groups_named free earlier [] f enough texts = tt
groups_named free earlier (group ∷ groups) f enough texts =
    cond_both (keeps_name earlier group.name) _ _ (λ names. AllByRecursion IsSpelledName names)
    (λ k. (
      record { utf8 = texts.0; read = (and_parts (is_source_name group.name) (is_free earlier group.name) k).0 },
      groups_named free (earlier ++ group.name ∷ []) groups f (omega arith) texts.1,
    ))
    (λ k. (
      (first-name free (omega arith) f).named,
      groups_named (drop 1 free) (earlier ++ group.name ∷ []) groups (other-names free f) (let l = length-drop 1 free in omega (arith, l)) texts.1,
    ))

pub group_at : (names : List (List ℕ)) (g : ℕ) → AllByRecursion IsSpelledName names → g < length names → IsSpelledName (unwrap_or (slice_get names g) [])
group_at [] g h less = absurd (omega arith)
group_at (name ∷ names) zero h less = h.0
group_at (name ∷ names) (suc g) h less = group_at names g h.1 (omega arith)
