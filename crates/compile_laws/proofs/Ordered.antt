-- The tables that a program compiles to are in order, and there are no other such tables.
use Rattle.std.proofs.Common.{◌*◌, ◌≡◌, ℕ, zero, suc, ◌+◌, ◌<◌, ◌≤◌, Bool, true, false, not, List, [], ◌∷◌, length, map, get_or, Option, Some, None, refl, ap, sym, ◌∙◌, arith, nat_eq, if◌then◌else◌, nat_cmp, ◌⊎◌, inl, inr}
use Rattle.std.specs.Prelude.{All, Contains, filter, flat_map, unwrap_or, slice_index_or}
use Rattle.std.specs.Cmp.{IsStrictWeakOrder}
use Rattle.std.specs.List.{list_all, list_any, sum_by}
use Rattle.std.specs.List.Sorted.{IsPermutation, IsSortedBy}
use Rattle.std.specs.Ordering.{is_lt, ordering_then}
use Rattle.std.proofs.lemmas.Bool.{cond_both, and_parts, not-true as not_true}
use Rattle.std.proofs.lemmas.Bool.{or_parts}
use Rattle.std.proofs.lemmas.Bool.Decides.{nat_tests}
use Rattle.std.proofs.lemmas.List.{length-map}
use Rattle.std.specs.List.{AllZip}
use Rattle.std.proofs.lemmas.List.Sums.{sum_by-cons}
use Rattle.std.proofs.lemmas.List.Elements.{All-nil, All-cons, All-head, All-tail, All-append, All-weaker, All-contains, All-contains_itself, Contains-append_cases}
use Rattle.std.proofs.lemmas.List.Sorted.{All-permutation, sum_by-IsPermutation, IsPermutation-refl, IsPermutation-sym, IsPermutation-trans, IsPermutation-cons, IsPermutation-middle}
use Rattle.kmn_base.specs.declared.items.Element.{Element}
use Rattle.kmn_base.specs.declared.keys.RuleKey.TheVariants as key
use Rattle.kmn_base.specs.declared.keys.RuleKey.{RuleKey}
use Rattle.rule_model.specs.declared.program.Program.{Program}
use Rattle.rule_model.specs.declared.program.GroupDef.{GroupDef}
use Rattle.rule_model.specs.declared.program.RuleDef.{RuleDef}
use Rattle.rule_model.specs.declared.program.SrcItem.{SrcItem}
use Rattle.rule_model.specs.declared.program.SrcItem.TheVariants as source
use Rattle.rule_model.specs.declared.tables.Group.{Group}
use Rattle.rule_model.specs.declared.tables.Rule.{Rule}
use Rattle.rule_model.specs.Hold.{key_of_element}
use Rattle.rule_model.specs.Naming.{elements_named}
use Rattle.compile_laws.specs.Numbers.{Numbers, numbers_of}
use Rattle.rule_model.specs.Src.{is_plain}
use Rattle.compile_laws.specs.Compiles.{has_halves, half_key, key_records, IsOrderedGroup, file_record, own_key, records_from, keyed_records, rule_records, file_group, precedes}
use Rattle.compile_laws.specs.Ordered.{placed, in_order, ordered_group, compiled_tables}
use Rattle.rule_model.specs.OwnLines.{have_own_lines}
use Rattle.compile_laws.specs.Law.{TablesAreOnlyOnes, ProgramCompiles}
use Rattle.compile_laws.proofs.Choices.{records_order}
use Rattle.compile_laws.proofs.Groups.{ordered_group as group_of_order}
use Rattle.compile_laws.proofs.Known.{plain_lines}
use Rattle.compile_laws.proofs.Least.{Rising, among_cons, rising}
use Rattle.compile_laws.proofs.Options.{ordered_zip}

-- 1 for an element that precedes this one, else 0
abbrev before_it : {X : Type 0} → (X → X → Bool) → X → X → ℕ
before_it lt z w = if lt w z then 1 else 0

none_before : {X : Type 0} (lt : X → X → Bool) (z : X) (xs : List X) → All (λ w. lt w z ≡ false) xs → sum_by (before_it lt z) xs ≡ 0
none_before lt z [] h = refl
none_before lt z (x ∷ xs) h =
    let here : lt x z ≡ false = All-head (λ w. lt w z ≡ false) x xs h in
    let rest : sum_by (before_it lt z) xs ≡ 0 = none_before lt z xs (All-tail (λ w. lt w z ≡ false) x xs h) in
    let one : before_it lt z x ≡ 0 = rw here refl in
    omega (arith, sum_by-cons (before_it lt z) x xs, one, rest)

-- lists with the same elements, by any count
abbrev SameSums : {X : Type 0} → List X → List X → Type 0
SameSums {X} xs ys = (f : X → ℕ) → sum_by f ys ≡ sum_by f xs

module _ {X : Type 0} (lt : X → X → Bool) (order : IsStrictWeakOrder lt) (P : X → Type 0)
    (apart : (a b : X) → P a → P b → lt a b ≡ false → lt b a ≡ false → a ≡ b) where
  irreflexive : (x : X) → lt x x ≡ false
  irreflexive x = by_case (lt x x) refl
    where
      by_case : (c : Bool) → lt x x ≡ c → lt x x ≡ false
      by_case false e = e
      by_case true e = order.one_way x x e

  not_before : (x y : X) (xs ys : List X) → Rising lt (y ∷ ys) → SameSums (x ∷ xs) (y ∷ ys) → (c : Bool) → lt x y ≡ c → lt x y ≡ false
  not_before x y xs ys up same false e = e
  not_before x y xs ys up same true e =
      let low : sum_by (before_it lt y) (y ∷ ys) ≡ 0 = none_before lt y (y ∷ ys) (All-cons (λ w. lt w y ≡ false) y ys (irreflexive y) up.0) in
      let high : sum_by (before_it lt y) (x ∷ xs) ≡ 1 + sum_by (before_it lt y) xs = sum_by-cons (before_it lt y) x xs ∙ rw e refl in
      absurd (omega (arith, low, high, same (before_it lt y)))

  tails : (x y : X) (xs ys : List X) → x ≡ y → SameSums (x ∷ xs) (y ∷ ys) → SameSums xs ys
  tails x y xs ys e same f =
      let a : sum_by f (x ∷ xs) ≡ f x + sum_by f xs = sum_by-cons f x xs in
      let b : sum_by f (y ∷ ys) ≡ f y + sum_by f ys = sum_by-cons f y ys in
      let heads : f x ≡ f y = ap f e in
      omega (arith, a, b, heads, same f)

  -- two rising lists with the same elements are the same, if the order distinguishes the elements
  pub same_rising : (xs ys : List X) → All P xs → All P ys → Rising lt xs → Rising lt ys → SameSums xs ys → ys ≡ xs
  same_rising [] [] h k up risen same = refl
  same_rising [] (y ∷ ys) h k up risen same =
      let one : sum_by (λ z. 1) (y ∷ ys) ≡ 1 + sum_by (λ z. 1) ys = sum_by-cons (λ z. 1) y ys in
      absurd (omega (arith, one, same (λ z. 1)))
  same_rising (x ∷ xs) [] h k up risen same =
      let one : sum_by (λ z. 1) (x ∷ xs) ≡ 1 + sum_by (λ z. 1) xs = sum_by-cons (λ z. 1) x xs in
      absurd (omega (arith, one, same (λ z. 1)))
  same_rising (x ∷ xs) (y ∷ ys) h k up risen same =
      let one_way : lt x y ≡ false = not_before x y xs ys risen same (lt x y) refl in
      let other_way : lt y x ≡ false = not_before y x ys xs up (λ f. sym (same f)) (lt y x) refl in
      let e : x ≡ y = apart x y (All-head P x xs h) (All-head P y ys k) one_way other_way in
      λ i. sym e i ∷ same_rising xs ys (All-tail P x xs h) (All-tail P y ys k) up.1 risen.1 (tails x y xs ys e same) i

-- a record of a rule has its line
abbrev AtLine : ℕ → Rule → Type 0
AtLine line x = x.line ≡ line

key_lines : (numbers : Numbers) (r : RuleDef) (place : Option ℕ) (k : RuleKey) → All (AtLine r.line) (key_records numbers r place k)
key_lines numbers r place k =
    let x : Rule = file_record numbers r place 0 (half_key 0 k) in
    let y : Rule = file_record numbers r place 1 (half_key 1 k) in
    let z : Rule = file_record numbers r place 0 k in
    cond_both (has_halves numbers.cased k) (x ∷ y ∷ []) (z ∷ []) (All (AtLine r.line))
    (λ _. All-cons (AtLine r.line) x (y ∷ []) refl (All-cons (AtLine r.line) y [] refl (All-nil (AtLine r.line))))
    (λ _. All-cons (AtLine r.line) z [] refl (All-nil (AtLine r.line)))

store_lines : (numbers : Numbers) (r : RuleDef) (n : ℕ) (es : List Element) → All (AtLine r.line) (records_from numbers r n es)
store_lines numbers r n [] = All-nil (AtLine r.line)
store_lines numbers r n (e ∷ es) =
    All-append (AtLine r.line) (key_records numbers r (Some n) (unwrap_or (key_of_element e) key.Any)) (records_from numbers r (n + 1) es)
    (key_lines numbers r (Some n) (unwrap_or (key_of_element e) key.Any)) (store_lines numbers r (n + 1) es)

keyed_lines : (numbers : Numbers) (r : RuleDef) (item : Option SrcItem) → All (AtLine r.line) (keyed_records numbers r item)
keyed_lines numbers r (Some (source.Any store)) = store_lines numbers r 0 (elements_named numbers.stores store)
keyed_lines numbers r item = key_lines numbers r None (own_key numbers item)

-- the records of a key store have their positions
abbrev IsFrom : ℕ → Rule → Type 0
IsFrom n x = n ≤ x.place

-- the records of a key have positions from twice its position on, up to the next one
key_places : (numbers : Numbers) (r : RuleDef) (place : Option ℕ) (k : RuleKey) → All (λ (x : Rule). (2 * unwrap_or place 0 ≤ x.place) × (x.place < 2 * unwrap_or place 0 + 2)) (key_records numbers r place k)
key_places numbers r place k =
    let P : Rule → Type 0 = λ x. (2 * unwrap_or place 0 ≤ x.place) × (x.place < 2 * unwrap_or place 0 + 2) in
    let x : Rule = file_record numbers r place 0 (half_key 0 k) in
    let y : Rule = file_record numbers r place 1 (half_key 1 k) in
    let z : Rule = file_record numbers r place 0 k in
    cond_both (has_halves numbers.cased k) (x ∷ y ∷ []) (z ∷ []) (All P)
    (λ _. All-cons P x (y ∷ []) (omega arith, omega arith) (All-cons P y [] (omega arith, omega arith) (All-nil P)))
    (λ _. All-cons P z [] (omega arith, omega arith) (All-nil P))

places_from : (numbers : Numbers) (r : RuleDef) (n m : ℕ) (es : List Element) → n ≤ 2 * m → All (IsFrom n) (records_from numbers r m es)
places_from numbers r n m [] low = All-nil (IsFrom n)
places_from numbers r n m (e ∷ es) low =
    let k = unwrap_or (key_of_element e) key.Any in
    All-append (IsFrom n) (key_records numbers r (Some m) k) (records_from numbers r (m + 1) es)
    (All-weaker (λ (x : Rule). (2 * m ≤ x.place) × (x.place < 2 * m + 2)) (IsFrom n) (λ x is. omega (arith, low, is.0)) (key_records numbers r (Some m) k) (key_places numbers r (Some m) k))
    (places_from numbers r n (m + 1) es (omega (arith, low)))

none_in : {X : Type 0} {R : Type 0} (a : X) → Contains [] a → R
none_in a c = absurd (omega (arith, c.1))

one_apart : (x a b : Rule) → Contains (x ∷ []) a → Contains (x ∷ []) b → a ≡ b
one_apart x a b in_a in_b = by_cases (among_cons x [] a in_a) (among_cons x [] b in_b)
  where
    by_cases : (x ≡ a) ⊎ Contains [] a → (x ≡ b) ⊎ Contains [] b → a ≡ b
    by_cases (inl at_a) (inl at_b) = sym at_a ∙ at_b
    by_cases (inr no_a) at_b = none_in a no_a
    by_cases (inl at_a) (inr no_b) = none_in b no_b

-- of two records with different positions, the one at a position
two_apart : (x y a b : Rule) → x.place < y.place → Contains (x ∷ y ∷ []) a → Contains (x ∷ y ∷ []) b → a.place ≡ b.place → a ≡ b
two_apart x y a b less in_a in_b same = by_cases (among_cons x (y ∷ []) a in_a) (among_cons x (y ∷ []) b in_b)
  where
    at_y : (c : Rule) → Contains (y ∷ []) c → y ≡ c
    at_y c is = one_apart y y c (0, omega arith, refl) is

    by_cases : (x ≡ a) ⊎ Contains (y ∷ []) a → (x ≡ b) ⊎ Contains (y ∷ []) b → a ≡ b
    by_cases (inl at_a) (inl at_b) = sym at_a ∙ at_b
    by_cases (inr in_a) (inr in_b) = sym (at_y a in_a) ∙ at_y b in_b
    by_cases (inl at_a) (inr in_b) = absurd (omega (arith, less, same, ap (λ (x : Rule). x.place) at_a, ap (λ (x : Rule). x.place) (at_y b in_b)))
    by_cases (inr in_a) (inl at_b) = absurd (omega (arith, less, same, ap (λ (x : Rule). x.place) (at_y a in_a), ap (λ (x : Rule). x.place) at_b))

key_apart : (numbers : Numbers) (r : RuleDef) (place : Option ℕ) (k : RuleKey) (a b : Rule) →
    Contains (key_records numbers r place k) a → Contains (key_records numbers r place k) b → a.place ≡ b.place → a ≡ b
key_apart numbers r place k a b =
    let x : Rule = file_record numbers r place 0 (half_key 0 k) in
    let y : Rule = file_record numbers r place 1 (half_key 1 k) in
    let z : Rule = file_record numbers r place 0 k in
    cond_both (has_halves numbers.cased k) (x ∷ y ∷ []) (z ∷ []) (λ xs. Contains xs a → Contains xs b → a.place ≡ b.place → a ≡ b)
    (λ _. two_apart x y a b (omega arith))
    (λ _ in_a in_b same. one_apart z a b in_a in_b)

-- two records of a rule at one position are the same
store_apart : (numbers : Numbers) (r : RuleDef) (n : ℕ) (es : List Element) (a b : Rule) →
    Contains (records_from numbers r n es) a → Contains (records_from numbers r n es) b → a.place ≡ b.place → a ≡ b
store_apart numbers r n [] a b in_a in_b same = none_in a in_a
store_apart numbers r n (e ∷ es) a b in_a in_b same =
    by_cases (λ in_rest also. store_apart numbers r (n + 1) es a b in_rest also same) (Contains-append_cases heads rest a in_a) (Contains-append_cases heads rest b in_b)
  where
    heads : List Rule
    heads = key_records numbers r (Some n) (unwrap_or (key_of_element e) key.Any)

    rest : List Rule
    rest = records_from numbers r (n + 1) es

    behind : (x : Rule) → Contains rest x → 2 * n + 2 ≤ x.place
    behind x c = All-contains (IsFrom (2 * n + 2)) rest x (places_from numbers r (2 * n + 2) (n + 1) es (omega arith)) c

    before : (x : Rule) → Contains heads x → x.place < 2 * n + 2
    before x c = (All-contains (λ (x : Rule). (2 * n ≤ x.place) × (x.place < 2 * n + 2)) heads x (key_places numbers r (Some n) (unwrap_or (key_of_element e) key.Any)) c).1

    by_cases : (Contains rest a → Contains rest b → a ≡ b) → Contains heads a ⊎ Contains rest a → Contains heads b ⊎ Contains rest b → a ≡ b
    by_cases later (inl at_a) (inl at_b) = key_apart numbers r (Some n) (unwrap_or (key_of_element e) key.Any) a b at_a at_b same
    by_cases later (inl at_a) (inr later_b) = absurd (omega (arith, behind b later_b, same, before a at_a))
    by_cases later (inr later_a) (inl at_b) = absurd (omega (arith, behind a later_a, same, before b at_b))
    by_cases later (inr later_a) (inr later_b) = later later_a later_b

keyed_apart : (numbers : Numbers) (r : RuleDef) (item : Option SrcItem) (a b : Rule) →
    Contains (keyed_records numbers r item) a → Contains (keyed_records numbers r item) b → a.place ≡ b.place → a ≡ b
keyed_apart numbers r (Some (source.Any store)) a b in_a in_b same = store_apart numbers r 0 (elements_named numbers.stores store) a b in_a in_b same
keyed_apart numbers r item a b in_a in_b same = key_apart numbers r None (own_key numbers item) a b in_a in_b same

-- records of rules with other lines do not have this line
abbrev OffLine : ℕ → Rule → Type 0
OffLine line x = nat_eq x.line line ≡ false

other_lines : (numbers : Numbers) (line : ℕ) (rs : List RuleDef) → list_any (λ (other : RuleDef). nat_eq other.line line) rs ≡ false → All (OffLine line) (flat_map (rule_records numbers) rs)
other_lines numbers line [] none = All-nil (OffLine line)
other_lines numbers line (r ∷ rs) none =
    let each = or_parts (nat_eq r.line line) (list_any (λ (other : RuleDef). nat_eq other.line line) rs) none in
    All-append (OffLine line) (rule_records numbers r) (flat_map (rule_records numbers) rs)
    (All-weaker (AtLine r.line) (OffLine line) (λ x at. (λ i. nat_eq (at i) line) ∙ each.0) (rule_records numbers r) (keyed_lines numbers r r.key))
    (other_lines numbers line rs each.1)

-- two records of rules with distinct lines, with the same line and the same position, are the same
records_apart : (numbers : Numbers) (rs : List RuleDef) → have_own_lines rs ≡ true → (a b : Rule) →
    Contains (flat_map (rule_records numbers) rs) a → Contains (flat_map (rule_records numbers) rs) b → a.line ≡ b.line → a.place ≡ b.place → a ≡ b
records_apart numbers [] own a b in_a in_b line place = none_in a in_a
records_apart numbers (r ∷ rs) own a b in_a in_b line place =
    let each = and_parts (not (list_any (λ (other : RuleDef). nat_eq other.line r.line) rs)) (have_own_lines rs) own in
    by_cases (λ in_rest also. records_apart numbers rs each.1 a b in_rest also line place) (not_true _ each.0)
    (Contains-append_cases (rule_records numbers r) (flat_map (rule_records numbers) rs) a in_a)
    (Contains-append_cases (rule_records numbers r) (flat_map (rule_records numbers) rs) b in_b)
  where
    here : (x : Rule) → Contains (rule_records numbers r) x → x.line ≡ r.line
    here x c = All-contains (AtLine r.line) (rule_records numbers r) x (keyed_lines numbers r r.key) c

    there : list_any (λ (other : RuleDef). nat_eq other.line r.line) rs ≡ false → (x : Rule) → Contains (flat_map (rule_records numbers) rs) x → nat_eq x.line r.line ≡ false
    there none x c = All-contains (OffLine r.line) (flat_map (rule_records numbers) rs) x (other_lines numbers r.line rs none) c

    apart : {R : Type 0} (m n : ℕ) → m ≡ n → nat_eq m n ≡ false → R
    apart m n same differ = absurd (grind (arith, nat_tests))

    by_cases : (Contains (flat_map (rule_records numbers) rs) a → Contains (flat_map (rule_records numbers) rs) b → a ≡ b) → list_any (λ (other : RuleDef). nat_eq other.line r.line) rs ≡ false →
        Contains (rule_records numbers r) a ⊎ Contains (flat_map (rule_records numbers) rs) a →
        Contains (rule_records numbers r) b ⊎ Contains (flat_map (rule_records numbers) rs) b → a ≡ b
    by_cases rest none (inl here_a) (inl here_b) = keyed_apart numbers r r.key a b here_a here_b place
    by_cases rest none (inl here_a) (inr there_b) = apart b.line r.line (sym line ∙ here a here_a) (there none b there_b)
    by_cases rest none (inr there_a) (inl here_b) = apart a.line r.line (line ∙ here b here_b) (there none a there_a)
    by_cases rest none (inr there_a) (inr there_b) = rest there_a there_b

-- the first record of a list, if any, does not precede this one
abbrev HeadBehind : Rule → List Rule → Type 0
HeadBehind y [] = Unit {0}
HeadBehind y (x ∷ xs) = precedes x y ≡ false

sorted_tail : (x : Rule) (xs : List Rule) → IsSortedBy precedes (x ∷ xs) → IsSortedBy precedes xs
sorted_tail x xs up = λ k d low less.
    let e : suc k + 1 ≡ suc (k + 1) = omega arith in
    ap (λ m. precedes (get_or (x ∷ xs) m d) (get_or xs k d)) (sym e) ∙ up (suc k) d (omega arith) (omega (arith, less))

sorted_head : (x : Rule) (xs : List Rule) → IsSortedBy precedes (x ∷ xs) → HeadBehind x xs
sorted_head x [] up = tt
sorted_head x (y ∷ ys) up = up 0 x (omega arith) (omega arith)

sorted_cons : (x : Rule) (xs : List Rule) → HeadBehind x xs → IsSortedBy precedes xs → IsSortedBy precedes (x ∷ xs)
sorted_cons x [] head up = λ k d low less. absurd (omega (arith, less))
sorted_cons x (y ∷ ys) head up = go
  where
    go : IsSortedBy precedes (x ∷ y ∷ ys)
    go zero d low less = head
    go (suc k) d low less =
        let e : suc k + 1 ≡ suc (k + 1) = omega arith in
        ap (λ m. precedes (get_or (x ∷ y ∷ ys) m d) (get_or (y ∷ ys) k d)) e ∙ up k d (omega arith) (omega (arith, less))

placed_head : (y r : Rule) (xs : List Rule) → precedes r y ≡ false → HeadBehind y xs → HeadBehind y (placed r xs)
placed_head y r [] behind head = behind
placed_head y r (x ∷ xs) behind head = by_case (precedes x r) refl
  where
    by_case : (b : Bool) → precedes x r ≡ b → HeadBehind y (placed r (x ∷ xs))
    by_case true e = rw e head
    by_case false e = rw e behind

placed_sorted : (r : Rule) (xs : List Rule) → IsSortedBy precedes xs → IsSortedBy precedes (placed r xs)
placed_sorted r [] up = sorted_cons r [] tt up
placed_sorted r (x ∷ xs) up = by_case (placed_sorted r xs (sorted_tail x xs up)) (precedes x r) refl
  where
    by_case : IsSortedBy precedes (placed r xs) → (b : Bool) → precedes x r ≡ b → IsSortedBy precedes (placed r (x ∷ xs))
    by_case behind true e =
        rw e (sorted_cons x (placed r xs) (placed_head x r xs (records_order.one_way x r e) (sorted_head x xs up)) behind)
    by_case behind false e = rw e (sorted_cons r (x ∷ xs) e up)

placed_permutes : (r : Rule) (xs : List Rule) → IsPermutation (r ∷ xs) (placed r xs)
placed_permutes r [] = IsPermutation-refl (r ∷ [])
placed_permutes r (x ∷ xs) = by_case (placed_permutes r xs) (precedes x r) refl
  where
    by_case : IsPermutation (r ∷ xs) (placed r xs) → (b : Bool) → precedes x r ≡ b → IsPermutation (r ∷ x ∷ xs) (placed r (x ∷ xs))
    by_case behind true e =
        rw e (IsPermutation-trans (r ∷ x ∷ xs) (x ∷ r ∷ xs) (x ∷ placed r xs)
        (IsPermutation-sym (x ∷ r ∷ xs) (r ∷ x ∷ xs) (IsPermutation-middle (x ∷ []) r xs))
        (IsPermutation-cons x (r ∷ xs) (placed r xs) behind))
    by_case behind false e = rw e (IsPermutation-refl (r ∷ x ∷ xs))

pub in_order_permutes : (rs : List Rule) → IsPermutation rs (in_order rs)
in_order_permutes [] = IsPermutation-refl []
in_order_permutes (r ∷ rs) =
    IsPermutation-trans (r ∷ rs) (r ∷ in_order rs) (placed r (in_order rs)) (IsPermutation-cons r rs (in_order rs) (in_order_permutes rs)) (placed_permutes r (in_order rs))

pub in_order_sorted : (rs : List Rule) → IsSortedBy precedes (in_order rs)
in_order_sorted [] = λ k d low less. absurd (omega (arith, less))
in_order_sorted (r ∷ rs) = placed_sorted r (in_order rs) (in_order_sorted rs)

-- two records that the order does not distinguish have the same line and the same position
keys_same : (la lb line_a line_b place_a place_b : ℕ) →
    is_lt (ordering_then (ordering_then (nat_cmp lb la) (nat_cmp line_a line_b)) (nat_cmp place_a place_b)) ≡ false →
    is_lt (ordering_then (ordering_then (nat_cmp la lb) (nat_cmp line_b line_a)) (nat_cmp place_b place_a)) ≡ false →
    (line_a ≡ line_b) × (place_a ≡ place_b)
keys_same la lb line_a line_b place_a place_b one other = (grind (arith, nat_tests), grind (arith, nat_tests))

sorted_same : (numbers : Numbers) (rs : List RuleDef) → have_own_lines rs ≡ true → (table : List Rule) →
    IsPermutation (flat_map (rule_records numbers) rs) table → IsSortedBy precedes table → table ≡ in_order (flat_map (rule_records numbers) rs)
sorted_same numbers rs own table same sorted =
    let records : List Rule = flat_map (rule_records numbers) rs in
    let among : Rule → Type 0 = Contains records in
    same_rising precedes records_order among
    (λ a b in_a in_b one other.
    let keys = keys_same (length a.context) (length b.context) a.line b.line a.place b.place one other in
    records_apart numbers rs own a b in_a in_b keys.0 keys.1)
    (in_order records) table
    (All-permutation among records (in_order records) (in_order_permutes records) (All-contains_itself records))
    (All-permutation among records table same (All-contains_itself records))
    (rising precedes records_order (in_order records) (in_order_sorted records))
    (rising precedes records_order table sorted)
    (λ f. sum_by-IsPermutation f records table same ∙ sym (sum_by-IsPermutation f records (in_order records) (in_order_permutes records)))

-- a group that a group compiles to is the group with its records in order
group_same : (p : Program) (g : GroupDef) (h : Group) → have_own_lines g.rules ≡ true → IsOrderedGroup (file_group (numbers_of p) g) h → h ≡ ordered_group (file_group (numbers_of p) g)
group_same p g h own o =
    group_of_order p g h o
    ∙ ap (λ table. record (file_group (numbers_of p) g) { rules = table })
    (sorted_same (numbers_of p) (filter is_plain g.rules) (plain_lines g.rules own) h.rules o.records o.in_order)

groups_same : (p : Program) (gs : List GroupDef) (hs : List Group) → list_all (λ (g : GroupDef). have_own_lines g.rules) gs ≡ true →
    AllZip IsOrderedGroup (map (file_group (numbers_of p)) gs) hs → hs ≡ map (λ g. ordered_group (file_group (numbers_of p) g)) gs
groups_same p [] [] own zip = refl
groups_same p [] (h ∷ hs) own zip = absurd zip
groups_same p (g ∷ gs) [] own zip = absurd zip
groups_same p (g ∷ gs) (h ∷ hs) own zip =
    let each = and_parts (have_own_lines g.rules) (list_all (λ (g : GroupDef). have_own_lines g.rules) gs) own in
    λ i. group_same p g h each.0 zip.0 i ∷ groups_same p gs hs each.1 zip.1 i

pub tables_are_only_ones : TablesAreOnlyOnes
unfolding compiled_tables
tables_are_only_ones p t own c = λ i.
    record {
      version = c.version i;
      start_ansi = c.start_ansi i;
      start_unicode = c.start_unicode i;
      stores = c.stores i;
      groups = groups_same p p.groups t.groups own (ordered_zip (map (file_group (numbers_of p)) p.groups) t.groups c.groups) i;
    }

-- a group with its records in order is one that the group compiles to
is_ordered : (group : Group) → IsOrderedGroup group (ordered_group group)
is_ordered group = record { name = refl; using_keys = refl; records = in_order_permutes group.rules; in_order = in_order_sorted group.rules; on_match = refl; on_nomatch = refl }

are_ordered : (p : Program) (gs : List GroupDef) (k : ℕ) (d : Group) → k < length (map (file_group (numbers_of p)) gs) →
    IsOrderedGroup (slice_index_or (map (file_group (numbers_of p)) gs) k d) (slice_index_or (map (λ g. ordered_group (file_group (numbers_of p) g)) gs) k d)
are_ordered p [] k d less = absurd (omega (arith, less))
are_ordered p (g ∷ gs) zero d less = is_ordered (file_group (numbers_of p) g)
are_ordered p (g ∷ gs) (suc k) d less = are_ordered p gs k d (omega (arith, less))

pub program_compiles : ProgramCompiles
unfolding compiled_tables
program_compiles p = record {
  version = refl;
  start_ansi = refl;
  start_unicode = refl;
  stores = refl;
  groups = record {
    count = length-map p.groups (λ g. ordered_group (file_group (numbers_of p) g)) ∙ sym (length-map p.groups (file_group (numbers_of p)));
    each = λ k d less. are_ordered p p.groups k d less;
  };
}
