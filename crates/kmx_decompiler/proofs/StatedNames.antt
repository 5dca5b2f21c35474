-- The program that tables are written out as states all that the items of the tables name.
use Rattle.std.proofs.Common.{◌≡◌, ℕ, zero, suc, ◌+◌, ◌<◌, Bool, true, false, ◌||◌, List, [], ◌∷◌, ◌++◌, length, Option, None, Some, is_some, refl, ◌∙◌, ap, subst, arith, if◌then◌else◌}
use Rattle.std.specs.Prelude.{nat_eq, slice_get, unwrap_or, option_map, position}
use Rattle.std.specs.List.{list_any}
use Rattle.std.proofs.lemmas.Bool.{eqb-true, or_right}
use Rattle.kmn_base.specs.Names.{same_name}
use Rattle.virtual_keys.proofs.NamePlaces.{position_cons}
use Rattle.rule_model.specs.declared.program.StoreDef.{StoreDef}
use Rattle.rule_model.specs.declared.tables.Store.{Store}
use Rattle.rule_model.specs.declared.tables.Group.{Group}
use Rattle.store_table.specs.Names.{is_named, kept_name, store_names, group_names}
use Rattle.decompile_program.specs.Names.{is_written}
use Rattle.decompile_program.specs.Items.{Names}
use Rattle.decompile_program.specs.Back.{back_stores, back_group, back_groups}
use Rattle.decompile_program.specs.WrittenOut.{is_ordinary}
use Rattle.virtual_keys.proofs.NamePlaces.{same_name-self}
use Rattle.decompile_program.proofs.BackCalls.{written-here}
use Rattle.kmx_decompiler.proofs.CalledNames.{AreNamed}
use Rattle.kmn_lines.proofs.TextSizes.{clash}

-- a name is among names if and only if it is the first or among the others
pub named-cons : (x : List ℕ) (names : List (List ℕ)) (name : List ℕ) → is_named (x ∷ names) name ≡ (same_name name x || is_named names name)
unfolding is_named
named-cons x names name = ap is_some (position_cons (same_name name) x names) ∙ by (same_name name x) (position (same_name name) names)
  where
    by : (b : Bool) (o : Option ℕ) → is_some (if b then Some 0 else option_map suc o) ≡ (b || is_some o)
    by true o = refl
    by false None = refl
    by false (Some n) = refl

named-first : (names : List (List ℕ)) (name : List ℕ) → is_named (name ∷ names) name ≡ true
named-first names name = named-cons name names name ∙ ap (λ (b : Bool). b || is_named names name) (same_name-self name)

pub named-behind : (front names : List (List ℕ)) (name : List ℕ) → is_named names name ≡ true → is_named (front ++ names) name ≡ true
named-behind [] names name h = h
named-behind (x ∷ front) names name h = named-cons x (front ++ names) name ∙ or_right (same_name name x) (is_named (front ++ names) name) (named-behind front names name h)

pub named_at : (names : List (List ℕ)) (g : ℕ) → g < length names → is_named names (unwrap_or (slice_get names g) []) ≡ true
named_at [] g less = absurd (omega arith)
named_at (name ∷ names) zero less = named-first names name
named_at (name ∷ names) (suc g) less = named-behind (name ∷ []) names (unwrap_or (slice_get names g) []) (named_at names g (omega arith))

-- the program states groups by the names that they are called by
pub groups_stated : (names : Names) (line : ℕ) (called : List (List ℕ)) (groups : List Group) → length called ≡ length groups → group_names (back_groups names line called groups) ≡ called
groups_stated names line [] [] e = refl
groups_stated names line (name ∷ called) [] e = absurd (omega (arith, e))
groups_stated names line [] (group ∷ groups) e = absurd (omega (arith, e))
groups_stated names line (name ∷ called) (group ∷ groups) e =
    ap (λ (rest : List (List ℕ)). name ∷ rest) (groups_stated names (line + 1 + length (back_group names line name group).rules) called groups (omega (arith, e)))

-- an ordinary store is not dropped
not-dropped : (n : ℕ) → nat_eq n 0 ≡ true → nat_eq n 0xFFFF ≡ false
not-dropped n e = let zero_is : n ≡ 0 = eqb-true n 0 e in ap (λ m. nat_eq m 0xFFFF) zero_is

kept-here : (store : StoreDef) → nat_eq store.system 0 ≡ true → kept_name store ≡ store.name ∷ []
kept-here store e = ap (λ (b : Bool). if b then [] else store.name ∷ []) (not-dropped store.system e)

-- the program states each ordinary store that is named by the name that it is called by
pub store_stated : (names : Names) (named : List ℕ) (k line : ℕ) (calls : List (Option (List ℕ))) (stores : List Store) (i n : ℕ) → AreNamed named k calls stores → n ≡ k + i
    → is_ordinary (slice_get stores i) ≡ true → list_any (nat_eq n) named ≡ true
    → is_named (store_names (back_stores names line calls stores)) (unwrap_or (unwrap_or (slice_get calls i) None) []) ≡ true
store_stated names named k line [] [] i n h e o a = absurd (cc)
store_stated names named k line [] (store ∷ stores) i n h e o a = absurd h
store_stated names named k line (None ∷ calls) [] i n h e o a = absurd h
store_stated names named k line (Some name ∷ calls) [] i n h e o a = absurd h
store_stated names named k line (None ∷ calls) (store ∷ stores) zero n h e o a =
    let same : n ≡ k = omega (arith, e) in
    clash (is_written named k store) (written-here named k store o (subst (λ (m : ℕ). list_any (nat_eq m) named ≡ true) same a)) h.0
store_stated names named k line (Some name ∷ calls) (store ∷ stores) zero n h e o a =
    let rest : List (List ℕ) = store_names (back_stores names (line + 1) calls stores) in
    ap (λ (front : List (List ℕ)). is_named (front ++ rest) name) (kept-here (record { line = line; system = store.system; name = name; items = [] }) o) ∙ named-first rest name
store_stated names named k line (None ∷ calls) (store ∷ stores) (suc i) n h e o a = store_stated names named (k + 1) line calls stores i n h.1 (omega (arith, e)) o a
store_stated names named k line (Some name ∷ calls) (store ∷ stores) (suc i) n h e o a =
    named-behind (kept_name (record { line = line; system = store.system; name = name; items = [] })) (store_names (back_stores names (line + 1) calls stores)) (unwrap_or (unwrap_or (slice_get calls i) None) [])
    (store_stated names named (k + 1) (line + 1) calls stores i n h.2 (omega (arith, e)) o a)
