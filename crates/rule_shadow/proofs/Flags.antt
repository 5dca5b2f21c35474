-- What the flag of a store states.
use Rattle.std.proofs.Common.{◌≡◌, ℕ, zero, suc, ◌+◌, ◌-◌, ◌<◌, ◌≤◌, Bool, true, false, not, List, [], ◌∷◌, ◌++◌, length, refl, sym, ap, ◌∙◌, arith}
use Rattle.std.specs.Prelude.{is_some, nat_eq, nat_le, slice_get, unwrap_or, replicate}
use Rattle.std.specs.List.{list_any}
use Rattle.std.proofs.lemmas.Bool.Decides.{nat_tests}
use Rattle.kmn_base.proofs.Options.{is_some-if}
use Rattle.rule_model.specs.declared.tables.Store.{Store}
use Rattle.rule_model.specs.declared.tables.Tables.{Tables}
use Rattle.rule_model.specs.Content.{option_of, options_before}
use Rattle.rule_model.specs.System.{system_options}
use Rattle.rule_model.specs.Tab.{tab, tab_options, with_options}
use Rattle.indexed_tables.specs.OptionFlags.{with_flags}
use Rattle.indexed_tables.proofs.OptionFlags.{flag_is}
use Rattle.rule_shadow.specs.Flags.{AreOptionFlags}
use Rattle.rule_shadow.specs.Places.{is_fixed}

-- a store is an option exactly where it is listed
below_listed : (options : List ℕ) (k n o : ℕ) (stores : List Store) → n < length stores
    → is_some (option_of o (slice_get (with_options options k stores ++ system_options) n)) ≡ list_any (nat_eq (k + n)) options
below_listed options k n o [] h = absurd (omega (arith, h))
below_listed options k zero o (s ∷ ss) h = let e : k ≡ k + 0 = omega arith in is_some-if (list_any (nat_eq k) options) o ∙ ap (λ (m : ℕ). list_any (nat_eq m) options) e
below_listed options k (suc n) o (s ∷ ss) h = let e : k + 1 + n ≡ k + suc n = omega arith in below_listed options (k + 1) n o ss (omega (arith, h)) ∙ ap (λ (m : ℕ). list_any (nat_eq m) options) e

-- the two numbers after the stores are options, and no later number is
behind_listed : (options : List ℕ) (k n m o : ℕ) (stores : List Store) → n ≡ length stores + m
    → not (is_some (option_of o (slice_get (with_options options k stores ++ system_options) n))) ≡ nat_le 2 m
behind_listed options k zero zero o [] h = refl
behind_listed options k zero (suc m) o [] h = absurd (omega (arith, h))
behind_listed options k (suc n) zero o [] h = absurd (omega (arith, h))
behind_listed options k (suc zero) (suc zero) o [] h = refl
behind_listed options k (suc zero) (suc (suc m)) o [] h = absurd (omega (arith, h))
behind_listed options k (suc (suc n)) (suc zero) o [] h = absurd (omega (arith, h))
behind_listed options k (suc (suc n)) (suc (suc m)) o [] h = let e : true ≡ nat_le 2 (suc (suc m)) = grind (arith, nat_tests) in e
behind_listed options k zero m o (s ∷ ss) h = absurd (omega (arith, h))
behind_listed options k (suc n) m o (s ∷ ss) h = behind_listed options (k + 1) n m o ss (omega (arith, h))

pub fixed_below : (tables : Tables) (flags : List Bool) (store : ℕ) → AreOptionFlags tables flags → store < length tables.stores
    → not (unwrap_or (slice_get flags store) false) ≡ is_fixed tables store
unfolding tab
fixed_below tables flags store told below =
    let e : store ≡ 0 + store = omega arith in
    ap not (told store below ∙ (ap (λ (m : ℕ). list_any (nat_eq m) (tab_options tables)) e ∙ sym (below_listed (tab_options tables) 0 store (options_before store (tab tables).stores) tables.stores below)))

pub fixed_behind : (tables : Tables) (store : ℕ) → length tables.stores ≤ store → nat_le 2 (store - length tables.stores) ≡ is_fixed tables store
unfolding tab
fixed_behind tables store past = sym (behind_listed (tab_options tables) 0 store (store - length tables.stores) (options_before store (tab tables).stores) tables.stores (omega (arith, past)))

-- setting the flags of the options in a list of `false` produces option flags
pub marked_tell : (tables : Tables) (count : ℕ) → length tables.stores ≤ count → AreOptionFlags tables (with_flags (replicate count false) (tab_options tables))
marked_tell tables count enough store below = flag_is (tab_options tables) count store (omega (arith, enough, below))
