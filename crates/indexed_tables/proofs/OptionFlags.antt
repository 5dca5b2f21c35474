-- Flags that are set store by store, and the option numbers by them.
use Rattle.std.proofs.Common.{◌≡◌, ◌+◌, ◌<◌, ◌||◌, ℕ, zero, suc, Bool, true, false, nat_eq, List, [], ◌∷◌, ◌++◌, length, drop, Some, None, refl, ap, arith, ◌∙◌}
use Rattle.std.specs.Prelude.{if◌then◌else◌, slice_index_or, slice_set, slice_get, replicate, unwrap_or}
use Rattle.std.specs.List.{flat_map, list_any}
use Rattle.std.proofs.lemmas.Bool.Decides.{nat_tests}
use Rattle.std.proofs.lemmas.List.{drop_more}
use Rattle.rule_model.specs.declared.tables.Store.{Store}
use Rattle.rule_model.specs.System.{system_options}
use Rattle.rule_model.specs.Tab.{with_options}
use Rattle.rule_model.specs.Plain.{option_numbers}
use Rattle.indexed_tables.specs.OptionFlags.{with_flags, flag_numbers}

-- setting the flags of two lists of stores, one list after the other
pub with_flags_append : (flags : List Bool) (first second : List ℕ) → with_flags flags (first ++ second) ≡ with_flags (with_flags flags first) second
with_flags_append flags [] second = refl
with_flags_append flags (n ∷ ns) second = with_flags_append (slice_set flags n true) ns second

-- the stores that the first of some items uses, and then those of the other items
pub with_flags_each : {X : Type 0} (used : X → List ℕ) (flags : List Bool) (x : X) (xs : List X)
    → with_flags flags (flat_map used (x ∷ xs)) ≡ with_flags (with_flags flags (used x)) (flat_map used xs)
with_flags_each used flags x xs = with_flags_append flags (used x) (flat_map used xs)

-- the flag of a store that is set, and the flag of any other store
set_here : (flags : List Bool) (n : ℕ) → n < length flags → unwrap_or (slice_get (slice_set flags n true) n) false ≡ true
set_here [] n h = absurd (omega arith)
set_here (flag ∷ flags) zero h = refl
set_here (flag ∷ flags) (suc n) h =
    let less : n < length flags = omega arith in
    set_here flags n less

set_other : (flags : List Bool) (n k : ℕ) → nat_eq k n ≡ false → unwrap_or (slice_get (slice_set flags n true) k) false ≡ unwrap_or (slice_get flags k) false
set_other [] n k e = refl
set_other (flag ∷ flags) zero zero e = absurd (grind (arith, nat_tests))
set_other (flag ∷ flags) zero (suc k) e = refl
set_other (flag ∷ flags) (suc n) zero e = refl
set_other (flag ∷ flags) (suc n) (suc k) e =
    let less : nat_eq k n ≡ false = grind (arith, nat_tests) in
    set_other flags n k less

set_length : (flags : List Bool) (n : ℕ) → length (slice_set flags n true) ≡ length flags
set_length [] n = refl
set_length (flag ∷ flags) zero = refl
set_length (flag ∷ flags) (suc n) = ap suc (set_length flags n)

set_either : (flags : List Bool) (n k : ℕ) (same : Bool) → nat_eq k n ≡ same → k < length flags
    → unwrap_or (slice_get (slice_set flags n true) k) false ≡ (same || unwrap_or (slice_get flags k) false)
set_either flags n k false e h = set_other flags n k e
set_either flags n k true e h =
    let is : k ≡ n = grind (arith, nat_tests) in
    let less : n < length flags = omega arith in
    ap (λ (m : ℕ). unwrap_or (slice_get (slice_set flags n true) m) false) is ∙ set_here flags n less

or_swap : (a b c : Bool) → ((a || b) || c) ≡ (b || (a || c))
or_swap true true c = refl
or_swap true false c = refl
or_swap false true c = refl
or_swap false false c = refl

or_false : (b : Bool) → b ≡ (b || false)
or_false true = refl
or_false false = refl

flag_with : (flags : List Bool) (ns : List ℕ) (k : ℕ) → k < length flags
    → unwrap_or (slice_get (with_flags flags ns) k) false ≡ (unwrap_or (slice_get flags k) false || list_any (nat_eq k) ns)
flag_with flags [] k h = or_false (unwrap_or (slice_get flags k) false)
flag_with flags (n ∷ ns) k h =
    let less : k < length (slice_set flags n true) = rw (set_length flags n) h in
    flag_with (slice_set flags n true) ns k less
    ∙ ap (λ (b : Bool). b || list_any (nat_eq k) ns) (set_either flags n k (nat_eq k n) refl h)
    ∙ or_swap (nat_eq k n) (unwrap_or (slice_get flags k) false) (list_any (nat_eq k) ns)

unset : (count k : ℕ) → unwrap_or (slice_get (replicate count false) k) false ≡ false
unset zero k = refl
unset (suc count) zero = refl
unset (suc count) (suc k) = unset count k

count_unset : (count : ℕ) → length (replicate count false) ≡ count
count_unset zero = refl
count_unset (suc count) = ap suc (count_unset count)

count_with : (flags : List Bool) (ns : List ℕ) → length (with_flags flags ns) ≡ length flags
count_with flags [] = refl
count_with flags (n ∷ ns) = count_with (slice_set flags n true) ns ∙ set_length flags n

-- a flag is set exactly where its store is listed
pub flag_is : (ns : List ℕ) (count k : ℕ) → k < count → unwrap_or (slice_get (with_flags (replicate count false) ns) k) false ≡ list_any (nat_eq k) ns
flag_is ns count k h =
    let less : k < length (replicate count false) = rw (count_unset count) h in
    flag_with (replicate count false) ns k less ∙ ap (λ (b : Bool). b || list_any (nat_eq k) ns) (unset count k)

-- the numbers from a flag on
pub numbers_more : (k n : ℕ) (flags : List Bool) (d : Bool) → n < length flags → flag_numbers k (drop n flags)
    ≡ (if slice_index_or flags n d then Some k ∷ flag_numbers (k + 1) (drop (n + 1) flags) else None ∷ flag_numbers k (drop (n + 1) flags))
numbers_more k n flags d within = ap (flag_numbers k) (drop_more flags n d within)

-- if flags state which stores are listed, they produce the option numbers, followed by the numbers of the system options
numbers_from : (options : List ℕ) (k m : ℕ) (flags : List Bool) (stores : List Store) → length flags ≡ length stores
    → ((i : ℕ) → i < length flags → unwrap_or (slice_get flags i) false ≡ list_any (nat_eq (m + i)) options)
    → flag_numbers k (flags ++ true ∷ true ∷ []) ≡ option_numbers k (with_options options m stores ++ system_options)
numbers_from options k m [] [] count told = refl
numbers_from options k m [] (s ∷ ss) count told = absurd (omega arith)
numbers_from options k m (flag ∷ flags) [] count told = absurd (omega arith)
numbers_from options k m (flag ∷ flags) (s ∷ ss) count told =
    let zeroth : m + 0 ≡ m = omega arith in
    let here : flag ≡ list_any (nat_eq m) options = told 0 (omega arith) ∙ ap (λ (n : ℕ). list_any (nat_eq n) options) zeroth in
    let counted : length flags ≡ length ss = omega arith in
    let behind : (i : ℕ) → i < length flags → unwrap_or (slice_get flags i) false ≡ list_any (nat_eq (m + 1 + i)) options
    = λ i h. let further : m + suc i ≡ m + 1 + i = omega arith in told (suc i) (omega arith) ∙ ap (λ (n : ℕ). list_any (nat_eq n) options) further in
    λ j. if here j then Some k ∷ numbers_from options (k + 1) (m + 1) flags ss counted behind j else None ∷ numbers_from options k (m + 1) flags ss counted behind j

-- the flags of the listed stores, followed by those of the system options, produce the option numbers
pub numbers_by_flags : (options : List ℕ) (stores : List Store)
    → flag_numbers 0 (with_flags (replicate (length stores) false) options ++ true ∷ true ∷ []) ≡ option_numbers 0 (with_options options 0 stores ++ system_options)
numbers_by_flags options stores =
    let count : length (with_flags (replicate (length stores) false) options) ≡ length stores
    = count_with (replicate (length stores) false) options ∙ count_unset (length stores) in
    numbers_from options 0 0 (with_flags (replicate (length stores) false) options) stores count
    (λ i h. let from_zero : i ≡ 0 + i = omega arith in flag_is options (length stores) i (omega (arith, count)) ∙ ap (λ (n : ℕ). list_any (nat_eq n) options) from_zero)
