-- The names of stores in a text are distinct.
use Rattle.std.proofs.Common.{◌≡◌, ℕ, zero, suc, ◌+◌, ◌<◌, ◌≤◌, ◌⊎◌, inl, inr, true, false, not, ◌&&◌, List, [], ◌∷◌, ◌++◌, length, drop, map, Option, None, Some, refl, sym, ◌∙◌, ap, arith, length-drop, is_some}
use Rattle.std.specs.Prelude.{slice_get, unwrap_or, nat_eq}
use Rattle.std.specs.List.{list_any}
use Rattle.std.specs.Str.{str_to_ascii_lowercase, bytes_eq}
use Rattle.std.proofs.lemmas.Slice.Eq.{bytes_eq-Decides}
use Rattle.std.proofs.lemmas.Option.{none-some, same_Some}
use Rattle.std.proofs.lemmas.Bool.{false_from_ne_true, not-true, and_parts, or_parts, cond_both}
use Rattle.kmn_base.specs.Names.{same_name}
use Rattle.virtual_keys.proofs.NamePlaces.{same_name-self}
use Rattle.rule_model.specs.declared.tables.Store.{Store}
use Rattle.decompile_program.specs.Names.{is_free, keeps_name, is_written, store_names}
use Rattle.kmn_parser.specs.Names.{is_source_name}
use Rattle.kmn_items.specs.Words.{is_system_name}
use Rattle.kmn_items.specs.TokenTexts.{is_wordy}
use Rattle.kmn_lines.specs.Tokens.{token_size, token_kind, token_fault}
use Rattle.kmn_lines.proofs.TextSizes.{clash}

-- the name at number n is the first of the names that is the same as a name
abbrev pub StandsFirst : List ℕ → ℕ → List (Option (List ℕ)) → Type 0
StandsFirst name n [] = ⊥
StandsFirst name zero (None ∷ names) = ⊥
StandsFirst name zero (Some other ∷ names) = (other ≡ name) × (same_name name name ≡ true)
StandsFirst name (suc n) (None ∷ names) = StandsFirst name n names
StandsFirst name (suc n) (Some other ∷ names) = (same_name other name ≡ false) × StandsFirst name n names

pub same-turned : (a b : List ℕ) → same_name a b ≡ false → same_name b a ≡ false
unfolding same_name
same-turned a b e =
    false_from_ne_true (bytes_eq (str_to_ascii_lowercase b) (str_to_ascii_lowercase a))
    (λ h. clash (bytes_eq (str_to_ascii_lowercase a) (str_to_ascii_lowercase b)) ((bytes_eq-Decides (str_to_ascii_lowercase a) (str_to_ascii_lowercase b)).1 (sym ((bytes_eq-Decides (str_to_ascii_lowercase b) (str_to_ascii_lowercase a)).0 h))) e)

abbrev pub Has : List ℕ → List (List ℕ) → Type 0
Has x [] = ⊥
Has x (y ∷ ys) = (x ≡ y) ⊎ Has x ys

pub has-append : (x : List ℕ) (xs ys : List (List ℕ)) → Has x xs → Has x (xs ++ ys)
has-append x [] ys h = absurd h
has-append x (y ∷ xs) ys (inl e) = inl e
has-append x (y ∷ xs) ys (inr h) = inr (has-append x xs ys h)

pub has-last : (x : List ℕ) (xs : List (List ℕ)) → Has x (xs ++ x ∷ [])
has-last x [] = inl refl
has-last x (y ∷ xs) = inr (has-last x xs)

pub free-not : (x y : List ℕ) (names : List (List ℕ)) → list_any (same_name y) names ≡ false → Has x names → same_name y x ≡ false
free-not x y [] e h = absurd h
free-not x y (z ∷ names) e (inl k) = ap (same_name y) k ∙ (or_parts (same_name y z) (list_any (same_name y) names) e).0
free-not x y (z ∷ names) e (inr h) = free-not x y names (or_parts (same_name y z) (list_any (same_name y) names) e).1 h

-- a name differs from all names of a list
abbrev pub Differs : List ℕ → List (List ℕ) → Type 0
Differs x [] = Unit {0}
Differs x (y ∷ ys) = (same_name x y ≡ false) × Differs x ys

pub differs-drop : (x : List ℕ) (ys : List (List ℕ)) → Differs x ys → Differs x (drop 1 ys)
differs-drop x [] d = d
differs-drop x (y ∷ ys) d = d.1

pub differs-first : (x : List ℕ) (ys : List (List ℕ)) → same_name x [] ≡ false → Differs x ys → same_name x (unwrap_or (slice_get ys 0) []) ≡ false
differs-first x [] e d = e
differs-first x (y ∷ ys) e d = d.0

-- free names: none is taken, each differs from all later ones, and none is empty
pub record IsFreeName (taken : List (List ℕ)) (name : List ℕ) (names : List (List ℕ)) : Type 0 where
  pub free : is_free taken name ≡ true
  pub some : same_name name [] ≡ false

abbrev pub AreFree : List (List ℕ) → List (List ℕ) → Type 0
AreFree taken [] = Unit {0}
AreFree taken (name ∷ names) = IsFreeName taken name names × Differs name names × AreFree taken names

pub free-drop : (taken names : List (List ℕ)) → AreFree taken names → AreFree taken (drop 1 names)
free-drop taken [] f = f
free-drop taken (name ∷ names) f = f.2

-- if a name is taken, it differs from all free names
pub taken-differs : (x : List ℕ) (taken names : List (List ℕ)) → Has x taken → AreFree taken names → Differs x names
taken-differs x taken [] h f = tt
taken-differs x taken (name ∷ names) h f = (same-turned name x (free-not x name taken (not-true _ f.0.free) h), taken-differs x taken names h f.2)

abbrev pub own_name : Store → List ℕ
own_name store = store.name

-- a name differs from all later names
abbrev pub EachApart : List ℕ → List (Option (List ℕ)) → Type 0
EachApart x [] = Unit {0}
EachApart x (None ∷ names) = EachApart x names
EachApart x (Some y ∷ names) = (same_name x y ≡ false) × EachApart x names

abbrev pub AreApart : List (Option (List ℕ)) → Type 0
AreApart [] = Unit {0}
AreApart (None ∷ names) = AreApart names
AreApart (Some x ∷ names) = (same_name x [] ≡ false → EachApart x names) × AreApart names

pub later : (x : List ℕ) (named : List ℕ) (free earlier : List (List ℕ)) (n : ℕ) (stores : List Store) → same_name x [] ≡ false → Differs x free → (Has x earlier ⊎ Differs x (map own_name stores))
    → EachApart x (store_names named free earlier n stores)
later x named free earlier n [] some d known = tt
later x named free earlier n (store ∷ stores) some d known =
    let rest : Has x earlier ⊎ Differs x (map own_name stores) = elim known [ inl h ↦ inl h | inr k ↦ inr k.1 ] in
    let behind : Has x (earlier ++ store.name ∷ []) ⊎ Differs x (map own_name stores) = elim known [ inl h ↦ inl (has-append x earlier (store.name ∷ []) h) | inr k ↦ inr k.1 ] in
    cond_both (not (is_written named n store)) _ _ (EachApart x) (λ e. later x named free earlier (n + 1) stores some d rest)
    (λ e. cond_both (not (nat_eq store.system 0)) _ _ (EachApart x) (λ e. (some, later x named free earlier (n + 1) stores some d rest))
    (λ e. cond_both (not (is_system_name store.name) && keeps_name earlier store.name) _ _ (EachApart x)
    (λ e. (
      elim known [
        | inl h ↦ same-turned store.name x (free-not x store.name earlier (not-true _ (and_parts (is_source_name store.name) (is_free earlier store.name) (and_parts (not (is_system_name store.name)) (keeps_name earlier store.name) e).1).1) h)
        | inr k ↦ k.0
      ],
      later x named free (earlier ++ store.name ∷ []) (n + 1) stores some d behind,
    ))
    (λ e. (differs-first x free some d, later x named (drop 1 free) (earlier ++ store.name ∷ []) (n + 1) stores some (differs-drop x free d) behind))))

abbrev pub AllTaken : List (List ℕ) → List Store → Type 0
AllTaken taken [] = Unit {0}
AllTaken taken (store ∷ stores) = Has store.name taken × AllTaken taken stores

pub filled : (byte : ℕ) (bytes : List ℕ) → same_name (byte ∷ bytes) [] ≡ false
unfolding same_name
filled byte bytes = refl

pub source-some : (name : List ℕ) → is_source_name name ≡ true → same_name name [] ≡ false
source-some [] e =
    let one = and_parts (nat_eq (token_size []) 0) (is_wordy (token_kind []) && (not (is_some (token_fault [])) && false)) e in
    let two = and_parts (is_wordy (token_kind [])) (not (is_some (token_fault [])) && false) one.1 in
    let three = and_parts (not (is_some (token_fault []))) false two.1 in
    let bad : false ≡ true = three.1 in absurd cc
source-some (byte ∷ bytes) e = filled byte bytes

pub first-free : (taken names : List (List ℕ)) → 0 < length names → AreFree taken names → IsFreeName taken (unwrap_or (slice_get names 0) []) (drop 1 names) × Differs (unwrap_or (slice_get names 0) []) (drop 1 names)
first-free taken [] some f = absurd (omega arith)
first-free taken (name ∷ names) some f = (f.0, f.1)

pub free-differs : (taken : List (List ℕ)) (name : List ℕ) (stores : List Store) → is_free taken name ≡ true → AllTaken taken stores → Differs name (map own_name stores)
free-differs taken name [] f all = tt
free-differs taken name (store ∷ stores) f all = (free-not store.name name taken (not-true _ f) all.0, free-differs taken name stores f all.1)

pub names_apart : (named : List ℕ) (taken free earlier : List (List ℕ)) (n : ℕ) (stores : List Store) → AreFree taken free → length stores ≤ length free → AllTaken taken stores → AreApart (store_names named free earlier n stores)
names_apart named taken free earlier n [] f enough all = tt
names_apart named taken free earlier n (store ∷ stores) f enough all =
    let some_free : 0 < length free = omega arith in
    cond_both (not (is_written named n store)) _ _ AreApart (λ e. names_apart named taken free earlier (n + 1) stores f (omega arith) all.1)
    (λ e. cond_both (not (nat_eq store.system 0)) _ _ AreApart (λ e. (λ k. clash (same_name [] []) (same_name-self []) k, names_apart named taken free earlier (n + 1) stores f (omega arith) all.1))
    (λ e. cond_both (not (is_system_name store.name) && keeps_name earlier store.name) _ _ AreApart
    (λ e. (
      λ k. later store.name named free (earlier ++ store.name ∷ []) (n + 1) stores (source-some store.name (and_parts (is_source_name store.name) _ (and_parts _ (keeps_name earlier store.name) e).1).0)
          (taken-differs store.name taken free all.0 f) (inl (has-last store.name earlier)),
      names_apart named taken free (earlier ++ store.name ∷ []) (n + 1) stores f (omega arith) all.1,
    ))
    (λ e. let head = first-free taken free some_free f in (
      λ k. later (unwrap_or (slice_get free 0) []) named (drop 1 free) (earlier ++ store.name ∷ []) (n + 1) stores head.0.some head.1 (inr (free-differs taken _ stores head.0.free all.1)),
      names_apart named taken (drop 1 free) (earlier ++ store.name ∷ []) (n + 1) stores (free-drop taken free f) (let l = length-drop 1 free in omega (arith, l)) all.1,
    ))))

pub each-at : (x name : List ℕ) (n : ℕ) (names : List (Option (List ℕ))) → EachApart x names → slice_get names n ≡ Some (Some name) → same_name x name ≡ false
each-at x name n [] apart at = absurd (none-some (Some name) at)
each-at x name zero (None ∷ names) apart at = absurd (none-some name (same_Some None (Some name) at))
each-at x name zero (Some y ∷ names) apart at = ap (same_name x) (sym (same_Some y name (same_Some (Some y) (Some name) at))) ∙ apart.0
each-at x name (suc n) (None ∷ names) apart at = each-at x name n names apart at
each-at x name (suc n) (Some y ∷ names) apart at = each-at x name n names apart.1 at

-- if names are distinct, each of them is the first that is the same as it
pub stands_first : (name : List ℕ) (n : ℕ) (names : List (Option (List ℕ))) → same_name name [] ≡ false → AreApart names → slice_get names n ≡ Some (Some name) → StandsFirst name n names
stands_first name n [] some apart at = absurd (none-some (Some name) at)
stands_first name zero (None ∷ names) some apart at = absurd (none-some name (same_Some None (Some name) at))
stands_first name zero (Some x ∷ names) some apart at = (same_Some x name (same_Some (Some x) (Some name) at), same_name-self name)
stands_first name (suc n) (None ∷ names) some apart at = stands_first name n names some apart at
stands_first name (suc n) (Some [] ∷ names) some apart at = (same-turned name [] some, stands_first name n names some apart.1 at)
stands_first name (suc n) (Some (byte ∷ bytes) ∷ names) some apart at = (each-at (byte ∷ bytes) name n names (apart.0 (filled byte bytes)) at, stands_first name n names some apart.1 at)
