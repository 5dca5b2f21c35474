-- A condition and the last `nul` after it exchange places, which moves the condition after each of these `nul`.
use Rattle.std.proofs.Common.{◌≡◌, ℕ, suc, ◌+◌, ◌-◌, ◌<◌, ◌≤◌, Bool, true, false, not, List, [], ◌∷◌, ◌++◌, length, take, drop, refl, sym, ap, ap₂, ◌∙◌, subst, append_assoc, length-append, arith, if◌then◌else◌}
use Rattle.std.specs.Prelude.{slice_set, slice_index_or}
use Rattle.std.specs.List.{swap, prefix_len, position_or_len}
use Rattle.std.proofs.lemmas.Bool.{false≢true}
use Rattle.std.proofs.lemmas.List.{drop_more, take_more, take-append-drop, get_or-append_right, set-append_right, length-take-le}
use Rattle.std.proofs.lemmas.List.Edits.{swap_is}
use Rattle.std.proofs.lemmas.List.Sums.{prefix_len_passes, prefix_len-le-length}
use Rattle.rule_model.specs.Patterns.{is_condition, is_nul, is_matched}
use Rattle.rule_model.specs.declared.tables.Pat.{Pat}
use Rattle.rule_model.specs.declared.tables.Pat.TheVariants as pattern
use Rattle.core_conversions.specs.Conversions.{after_nuls, context_with_nul_first}

-- ---- kinds of items

true_false : true ≡ false → ⊥
true_false e = false≢true (sym e)

nul_is : (item : Pat) → is_nul item ≡ true → item ≡ pattern.Nul
nul_is pattern.Nul told = refl
nul_is item told = absurd (false≢true told)

condition_is : (item : Pat) → is_matched item ≡ false → is_nul item ≡ false → is_condition item ≡ true
condition_is (pattern.Equal store value) unmatched told = refl
condition_is (pattern.Unequal store value) unmatched told = refl
condition_is (pattern.SystemEqual id value) unmatched told = refl
condition_is (pattern.SystemUnequal id value) unmatched told = refl
condition_is pattern.Nul unmatched told = absurd (true_false told)
condition_is item unmatched told = absurd (true_false unmatched)

no_nul : (item : Pat) → is_condition item ≡ true → is_nul item ≡ false
no_nul pattern.Nul told = absurd (false≢true told)
no_nul item told = refl

not_false : (b : Bool) → not b ≡ true → b ≡ false
not_false true e = absurd (false≢true e)
not_false false e = refl

-- each item before the first matched one is a condition or `nul`
unmatched_before : (xs : List Pat) (i : ℕ) (d : Pat) → i < position_or_len is_matched xs → is_matched (slice_index_or xs i d) ≡ false
unmatched_before xs i d before = not_false (is_matched (slice_index_or xs i d)) (prefix_len_passes (λ (item : Pat). not (is_matched item)) xs i d before)

-- ---- from the first matched item on, a context is not converted

one_more : (n : ℕ) → 1 + n ≡ suc n
one_more n = omega arith

-- a context that is not converted, and does not begin with `nul`
abbrev Stays : List Pat → Type 0
Stays xs = (context_with_nul_first xs ≡ xs) × (prefix_len is_nul xs ≡ 0)

past : (n : ℕ) (x : Pat) (xs : List Pat) → Stays (drop n xs) → Stays (drop (1 + n) (x ∷ xs))
past n x xs stays = subst (λ (k : ℕ). Stays (drop k (x ∷ xs))) (sym (one_more n)) stays

stays_from : (xs : List Pat) → Stays (drop (position_or_len is_matched xs) xs)
stays_from [] = (refl, refl)
stays_from (pattern.Nul ∷ xs) = past (position_or_len is_matched xs) pattern.Nul xs (stays_from xs)
stays_from (pattern.Equal store value ∷ xs) = past (position_or_len is_matched xs) (pattern.Equal store value) xs (stays_from xs)
stays_from (pattern.Unequal store value ∷ xs) = past (position_or_len is_matched xs) (pattern.Unequal store value) xs (stays_from xs)
stays_from (pattern.SystemEqual id value ∷ xs) = past (position_or_len is_matched xs) (pattern.SystemEqual id value) xs (stays_from xs)
stays_from (pattern.SystemUnequal id value ∷ xs) = past (position_or_len is_matched xs) (pattern.SystemUnequal id value) xs (stays_from xs)
stays_from (x ∷ xs) = (refl, refl)

-- ---- a condition and the `nul` items after it

-- the number of `nul` items at the beginning
abbrev nuls : List Pat → ℕ
nuls = prefix_len is_nul

last_nul : (xs : List Pat) (d : Pat) → slice_index_or (pattern.Nul ∷ xs) (nuls xs) d ≡ pattern.Nul
last_nul [] d = refl
last_nul (pattern.Nul ∷ xs) d = ap (λ (k : ℕ). slice_index_or (pattern.Nul ∷ pattern.Nul ∷ xs) k d) (one_more (nuls xs)) ∙ last_nul xs d
last_nul (x ∷ xs) d = refl

last_set : (item : Pat) (xs : List Pat) → slice_set (pattern.Nul ∷ xs) (nuls xs) item ≡ after_nuls item xs
last_set item [] = refl
last_set item (pattern.Nul ∷ xs) =
    ap (λ (k : ℕ). slice_set (pattern.Nul ∷ pattern.Nul ∷ xs) k item) (one_more (nuls xs)) ∙ ap (λ (ys : List Pat). pattern.Nul ∷ ys) (last_set item xs)
last_set item (x ∷ xs) = refl

-- the items at two places in each other's place
abbrev exchanged : List Pat → ℕ → ℕ → Pat → List Pat
exchanged xs i j d = slice_set (slice_set xs i (slice_index_or xs j d)) j (slice_index_or xs i d)

first_exchanged : (item : Pat) (xs : List Pat) → exchanged (item ∷ xs) 0 (nuls xs) item ≡ after_nuls item xs
first_exchanged item [] = refl
first_exchanged item (pattern.Nul ∷ xs) =
    ap (λ (k : ℕ). exchanged (item ∷ pattern.Nul ∷ xs) 0 k item) (one_more (nuls xs))
    ∙ ap₂ (λ (x : Pat) (ys : List Pat). x ∷ ys) (last_nul xs item) (last_set item xs)
first_exchanged item (x ∷ xs) = refl

-- the same after other items
swapped : (before : List Pat) (item : Pat) (xs : List Pat) (i : ℕ) → length before ≡ i → swap (before ++ item ∷ xs) i (i + nuls xs) ≡ before ++ after_nuls item xs
swapped before item xs i size =
    let all : List Pat = before ++ item ∷ xs in
    let j : ℕ = i + nuls xs in
    let few : nuls xs ≤ length xs = prefix_len-le-length is_nul xs in
    let total : length all ≡ i + suc (length xs) = length-append before (item ∷ xs) ∙ ap (λ (n : ℕ). n + suc (length xs)) size in
    let start : i - i ≡ 0 = omega arith in
    let behind : j - i ≡ nuls xs = omega arith in
    let read_first : slice_index_or all i item ≡ item = get_or-append_right before (item ∷ xs) i i item size (omega arith) ∙ ap (λ (n : ℕ). slice_index_or (item ∷ xs) n item) start in
    let read_last : slice_index_or all j item ≡ slice_index_or (item ∷ xs) (nuls xs) item =
    get_or-append_right before (item ∷ xs) i j item size (omega arith) ∙ ap (λ (n : ℕ). slice_index_or (item ∷ xs) n item) behind in
    let last : Pat = slice_index_or (item ∷ xs) (nuls xs) item in
    sym (swap_is all i j item (omega (arith, total)) (omega (arith, total, few)))
    ∙ ap₂ (λ (x y : Pat). slice_set (slice_set all i x) j y) read_last read_first
    ∙ ap (λ (ys : List Pat). slice_set ys j item) (set-append_right before (item ∷ xs) i i last size (omega arith) ∙ ap (λ (n : ℕ). before ++ slice_set (item ∷ xs) n last) start)
    ∙ set-append_right before (slice_set (item ∷ xs) 0 last) i j item size (omega arith)
    ∙ ap (λ (n : ℕ). before ++ slice_set (slice_set (item ∷ xs) 0 last) n item) behind
    ∙ ap (λ (ys : List Pat). before ++ ys) (first_exchanged item xs)

nuls_kept : (item : Pat) (xs : List Pat) → is_nul item ≡ false → nuls (after_nuls item xs) ≡ nuls xs
nuls_kept item [] other = ap (λ b. if b then 1 + 0 else 0) other
nuls_kept item (pattern.Nul ∷ xs) other = ap (λ (n : ℕ). 1 + n) (nuls_kept item xs other)
nuls_kept item (x ∷ xs) other = ap (λ b. if b then 1 + nuls (x ∷ xs) else 0) other

-- ---- one item more, from the last to the first

converted_condition : (item : Pat) (xs : List Pat) → is_condition item ≡ true → context_with_nul_first (item ∷ xs) ≡ after_nuls item (context_with_nul_first xs)
converted_condition item xs told =
    ap (λ b. if b then after_nuls item (context_with_nul_first xs) else if is_nul item then item ∷ context_with_nul_first xs else item ∷ xs) told

module _ (xs : List Pat) (i : ℕ) (item : Pat) (within : i < length xs) (is : item ≡ slice_index_or xs i item) where
  split : drop i xs ≡ item ∷ drop (i + 1) xs
  split = drop_more xs i item within ∙ ap (λ (x : Pat). x ∷ drop (i + 1) xs) (sym is)

  front : take (i + 1) xs ≡ take i xs ++ item ∷ []
  front = take_more xs i item within ∙ ap (λ (x : Pat). take i xs ++ x ∷ []) (sym is)

  -- the items so far, with the item before the converted ones
  joined : (ys rest : List Pat) → ys ≡ take (i + 1) xs ++ rest → ys ≡ take i xs ++ item ∷ rest
  joined ys rest so_far = so_far ∙ ap (λ (zs : List Pat). zs ++ rest) front ∙ append_assoc (take i xs) (item ∷ []) rest

  condition_converts : is_condition item ≡ true → context_with_nul_first (drop i xs) ≡ after_nuls item (context_with_nul_first (drop (i + 1) xs))
  condition_converts told = ap context_with_nul_first split ∙ converted_condition item (drop (i + 1) xs) told

  nul_converts : is_nul item ≡ true → context_with_nul_first (drop i xs) ≡ item ∷ context_with_nul_first (drop (i + 1) xs)
  nul_converts told =
      ap context_with_nul_first (split ∙ ap (λ (x : Pat). x ∷ drop (i + 1) xs) (nul_is item told))
      ∙ ap (λ (x : Pat). x ∷ context_with_nul_first (drop (i + 1) xs)) (sym (nul_is item told))

  condition_moves : (ys zs : List Pat) (count : ℕ) → is_condition item ≡ true → ys ≡ take (i + 1) xs ++ context_with_nul_first (drop (i + 1) xs)
      → count ≡ nuls (context_with_nul_first (drop (i + 1) xs)) → zs ≡ swap ys i (i + count) → zs ≡ take i xs ++ context_with_nul_first (drop i xs)
  condition_moves ys zs count told so_far is_count moved =
      let rest : List Pat = context_with_nul_first (drop (i + 1) xs) in
      moved ∙ ap₂ (λ (all : List Pat) (n : ℕ). swap all i (i + n)) (joined ys rest so_far) is_count
      ∙ swapped (take i xs) item rest i (length-take-le i xs (omega (arith, within)))
      ∙ ap (λ (all : List Pat). take i xs ++ all) (sym (condition_converts told))

  condition_counts : (count : ℕ) → is_condition item ≡ true → count ≡ nuls (context_with_nul_first (drop (i + 1) xs)) → count ≡ nuls (context_with_nul_first (drop i xs))
  condition_counts count told is_count =
      is_count ∙ sym (ap nuls (condition_converts told) ∙ nuls_kept item (context_with_nul_first (drop (i + 1) xs)) (no_nul item told))

  nul_stays : (ys : List Pat) → is_nul item ≡ true → ys ≡ take (i + 1) xs ++ context_with_nul_first (drop (i + 1) xs) → ys ≡ take i xs ++ context_with_nul_first (drop i xs)
  nul_stays ys told so_far =
      joined ys (context_with_nul_first (drop (i + 1) xs)) so_far ∙ ap (λ (all : List Pat). take i xs ++ all) (sym (nul_converts told))

  nul_counts : (count : ℕ) → is_nul item ≡ true → count ≡ nuls (context_with_nul_first (drop (i + 1) xs)) → count + 1 ≡ nuls (context_with_nul_first (drop i xs))
  nul_counts count told is_count =
      let more : nuls (item ∷ context_with_nul_first (drop (i + 1) xs)) ≡ 1 + nuls (context_with_nul_first (drop (i + 1) xs)) =
      ap (λ b. if b then 1 + nuls (context_with_nul_first (drop (i + 1) xs)) else 0) told in
      omega (arith, is_count, ap nuls (nul_converts told) ∙ more)

-- ---- the item that is read

-- an item of the current context before a place is that of the original one
read_there : (xs ys rest : List Pat) (i : ℕ) (item : Pat) → i < length xs → ys ≡ take (i + 1) xs ++ rest → item ≡ slice_index_or ys i item → item ≡ slice_index_or xs i item
read_there xs ys rest i item within so_far is =
    let size : length (take i xs) ≡ i = length-take-le i xs (omega (arith, within)) in
    let split : ys ≡ take i xs ++ slice_index_or xs i item ∷ rest =
    so_far ∙ ap (λ (zs : List Pat). zs ++ rest) (take_more xs i item within) ∙ append_assoc (take i xs) (slice_index_or xs i item ∷ []) rest in
    let start : i - i ≡ 0 = omega arith in
    is ∙ ap (λ (zs : List Pat). slice_index_or zs i item) split
    ∙ get_or-append_right (take i xs) (slice_index_or xs i item ∷ rest) i i item size (omega arith)
    ∙ ap (λ (n : ℕ). slice_index_or (slice_index_or xs i item ∷ rest) n item) start

-- an item before the first matched one that is not `nul` is a condition
is_condition_there : (xs : List Pat) (i : ℕ) (item : Pat) → i < position_or_len is_matched xs → item ≡ slice_index_or xs i item → is_nul item ≡ false → is_condition item ≡ true
is_condition_there xs i item before is other =
    condition_is item (ap is_matched is ∙ unmatched_before xs i item before) other

-- the context before the first step
pub begins : (xs : List Pat) → xs ≡ take (position_or_len is_matched xs) xs ++ context_with_nul_first (drop (position_or_len is_matched xs) xs)
begins xs =
    sym (ap (λ (rest : List Pat). take (position_or_len is_matched xs) xs ++ rest) (stays_from xs).0 ∙ take-append-drop (position_or_len is_matched xs) xs)

pub begins_without : (xs : List Pat) → 0 ≡ prefix_len is_nul (context_with_nul_first (drop (position_or_len is_matched xs) xs))
begins_without xs = sym (ap nuls (stays_from xs).0 ∙ (stays_from xs).1)

-- ---- one step of the conversion

-- the context with its items from a place on converted, and the number of `nul` there
abbrev pub IsSoFar : List Pat → List Pat → ℕ → ℕ → Type 0
IsSoFar xs ys i count =
    (length ys ≡ length xs) × (i + count ≤ length xs) × (i ≤ position_or_len is_matched xs)
    × (ys ≡ take i xs ++ context_with_nul_first (drop i xs)) × (count ≡ prefix_len is_nul (context_with_nul_first (drop i xs)))

-- the item before the converted ones is that of the original context
item_before : (xs ys : List Pat) (j count : ℕ) (item : Pat) → IsSoFar xs ys (j + 1) count → item ≡ slice_index_or ys j item → item ≡ slice_index_or xs j item
item_before xs ys j count item so_far is =
    read_there xs ys (context_with_nul_first (drop (j + 1) xs)) j item (omega (arith, so_far.1)) so_far.3 is

past_condition : (xs ys zs : List Pat) (j count : ℕ) (item : Pat) → IsSoFar xs ys (j + 1) count → item ≡ slice_index_or ys j item → is_nul item ≡ false
    → zs ≡ swap ys j (j + count) → length zs ≡ length ys → IsSoFar xs zs j count
past_condition xs ys zs j count item so_far is other moved size =
    let within : j < length xs = omega (arith, so_far.1) in
    let there : item ≡ slice_index_or xs j item = item_before xs ys j count item so_far is in
    let told : is_condition item ≡ true = is_condition_there xs j item (omega (arith, so_far.2)) there other in (
      size ∙ so_far.0,
      omega (arith, so_far.1),
      omega (arith, so_far.2),
      condition_moves xs j item within there ys zs count told so_far.3 so_far.4 moved,
      condition_counts xs j item within there count told so_far.4,
    )

past_nul : (xs ys : List Pat) (j count : ℕ) (item : Pat) → IsSoFar xs ys (j + 1) count → item ≡ slice_index_or ys j item → is_nul item ≡ true → IsSoFar xs ys j (count + 1)
past_nul xs ys j count item so_far is told =
    let within : j < length xs = omega (arith, so_far.1) in
    let there : item ≡ slice_index_or xs j item = item_before xs ys j count item so_far is in
    (so_far.0, omega (arith, so_far.1), omega (arith, so_far.2), nul_stays xs j item within there ys told so_far.3, nul_counts xs j item within there count told so_far.4)

-- the same with the place counted down
pub down_condition : (xs ys zs : List Pat) (i count : ℕ) (item : Pat) → 0 < i → IsSoFar xs ys i count → item ≡ slice_index_or ys (i - 1) item → is_nul item ≡ false
    → zs ≡ swap ys (i - 1) (i - 1 + count) → length zs ≡ length ys → IsSoFar xs zs (i - 1) count
down_condition xs ys zs i count item some so_far is other moved size =
    let up : i ≡ i - 1 + 1 = omega (arith, some) in
    past_condition xs ys zs (i - 1) count item (subst (λ (k : ℕ). IsSoFar xs ys k count) up so_far) is other moved size

pub down_nul : (xs ys : List Pat) (i count : ℕ) (item : Pat) → 0 < i → IsSoFar xs ys i count → item ≡ slice_index_or ys (i - 1) item → is_nul item ≡ true → IsSoFar xs ys (i - 1) (count + 1)
down_nul xs ys i count item some so_far is told =
    let up : i ≡ i - 1 + 1 = omega (arith, some) in
    past_nul xs ys (i - 1) count item (subst (λ (k : ℕ). IsSoFar xs ys k count) up so_far) is told
