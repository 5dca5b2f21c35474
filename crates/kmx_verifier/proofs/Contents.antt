-- Strings without a fault are contents that can be played.
use Rattle.std.proofs.Common.{◌≡◌, ℕ, zero, suc, ◌+◌, ◌<◌, ◌≤◌, true, false, ◌&&◌, ◌||◌, nat_eq, List, [], ◌∷◌, ◌++◌, length, map, take, Option, None, Some, refl, sym, ◌∙◌, ap, ap₂, subst, arith, append_assoc, append-nil, not}
use Rattle.std.specs.Prelude.{nat_lt, slice_get, slice_index_or, IsSomeAnd}
use Rattle.std.specs.List.{cons_option, All, list_any, filter_map, flat_map}
use Rattle.std.proofs.lemmas.List.Elements.{All-nil, All-head, All-tail, All-append, All-cons, All-weaker}
use Rattle.std.proofs.lemmas.List.{length-map}
use Rattle.std.proofs.lemmas.Bool.{not-true, and_parts}
use Rattle.item_codec.specs.Walk.{items_given, results_of}
use Rattle.item_codec.proofs.Results.{items_have_one_spelling}
use Rattle.kmn_base.specs.declared.limits.TheConstants.{CONTEXT_ITEMS}
use Rattle.kmn_base.specs.declared.units.UnitItem.{UnitItem}
use Rattle.kmn_base.specs.declared.units.UnitItem.TheVariants as spelled
use Rattle.kmn_base.specs.Spelling.{IsSpellable, unit_bytes}
use Rattle.rule_model.specs.declared.tables.Pat.{Pat}
use Rattle.rule_model.specs.declared.tables.Pat.TheVariants as pattern
use Rattle.rule_model.specs.declared.tables.Out.{Out}
use Rattle.rule_model.specs.declared.tables.Out.TheVariants as output
use Rattle.kmx_format.specs.FileUnits.{unit_item_of_element, unit_item_of_pattern, unit_item_of_output}
use Rattle.kmx_format.specs.TablesOf.{items_of, element_of_unit_item, pattern_of_unit_item, output_of_unit_item}
use Rattle.kmx_format.specs.Writable.{stores_of_pattern, stores_of_output, groups_of_output, has_system_id, sets_system_id, needs_context, IsWritableContext, PointsBack, PointsInto, PointsTo, is_any}
use Rattle.rule_model.specs.Patterns.{is_matched}
use Rattle.kmx_verifier.specs.declared.faults.StringKind.{StringKind}
use Rattle.kmx_verifier.specs.declared.faults.StringKind.TheVariants as of
use Rattle.kmx_verifier.specs.declared.faults.Target.{Target}
use Rattle.kmx_view.specs.View.{store_count, group_count}
use Rattle.kmx_verifier.specs.Items as target
use Rattle.kmx_verifier.specs.Items.{target_at, is_permitted, stores_named, groups_named, target_of, points_right}
use Rattle.kmx_verifier.specs.FaultOf.{walk_fault, context_fault}
use Rattle.kmn_base.proofs.SmallBytes.{AreUnits, unit_bytes-small}
use Rattle.kmx_verifier.proofs.Sound.{walk_readable, walk_stands, context_readable, context_stands, ItemStands, ItemsStand, ContextStands, element_again, pattern_again, output_again}

filter_map_some : {X Y : Type 0} (f : X → Option Y) (x : X) (xs : List X) (y : Y) → f x ≡ Some y → filter_map f (x ∷ xs) ≡ y ∷ filter_map f xs
filter_map_some f x xs y h = ap (λ o. cons_option o (filter_map f xs)) h

-- if each item is read as a value that converts back to it, the values of a list convert back to the list
read_all : {X : Type 0} (there : X → UnitItem) (again : UnitItem → Option X) (P : UnitItem → Type 0)
    → ((item : UnitItem) → P item → (x : X) × (again item ≡ Some x) × (there x ≡ item))
    → (items : List UnitItem) → All P items → map there (filter_map again items) ≡ items
read_all there again P one [] h = refl
read_all {X} there again P one (item ∷ items) h =
    let read = one item (All-head P item items h) in
    ap (map there) (filter_map_some again item items read.0 read.1)
    ∙ ap (λ i. i ∷ map there (filter_map again items)) read.2
    ∙ ap (λ (is : List UnitItem). item ∷ is) (read_all there again P one items (All-tail P item items h))

unmapped : {X : Type 0} (Q : UnitItem → Type 0) (f : X → UnitItem) (xs : List X) → All Q (map f xs) → All (λ x. Q (f x)) xs
unmapped Q f [] h = All-nil (λ x. Q (f x))
unmapped Q f (x ∷ xs) h = All-cons (λ y. Q (f y)) x xs (All-head Q (f x) (map f xs) h) (unmapped Q f xs (All-tail Q (f x) (map f xs) h))

flat_all : {X : Type 0} (P : ℕ → Type 0) (f : X → List ℕ) (xs : List X) → All (λ x. All P (f x)) xs → All P (flat_map f xs)
flat_all P f [] h = All-nil P
flat_all P f (x ∷ xs) h = All-append P (f x) (flat_map f xs) (All-head (λ y. All P (f y)) x xs h) (flat_all P f xs (All-tail (λ y. All P (f y)) x xs h))

both_all : {X : Type 0} (P Q : X → Type 0) (xs : List X) → All P xs → All Q xs → All (λ x. P x × Q x) xs
both_all P Q [] p q = All-nil (λ x. P x × Q x)
both_all P Q (x ∷ xs) p q = All-cons (λ y. P y × Q y) x xs (All-head P x xs p, All-head Q x xs q) (both_all P Q xs (All-tail P x xs p) (All-tail Q x xs q))

items_all : (bytes : List ℕ) (kind : StringKind) (targets : List Target) (items : List UnitItem) → ItemsStand bytes kind targets items → All (ItemStands bytes kind targets) items
items_all bytes kind targets [] h = All-nil (ItemStands bytes kind targets)
items_all bytes kind targets (item ∷ items) h = All-cons (ItemStands bytes kind targets) item items h.0 (items_all bytes kind targets items h.1)

-- an item is allowed in a string of a kind and has a spelling
abbrev MayStand : StringKind → UnitItem → Type 0
MayStand kind item = (is_permitted kind item ≡ true) × IsSpellable item

-- the values that are read from the units of a string without a fault
pub record Contents {X : Type 0} (there : X → UnitItem) (bytes : List ℕ) (kind : StringKind) (targets : List Target) (units : List ℕ) (xs : List X) : Type 0 where
  pub spellable : All (λ x. IsSpellable (there x)) xs
  pub stand : All (λ x. ItemStands bytes kind targets (there x)) xs
  pub count : length xs ≡ length (items_of units)

contents : {X : Type 0} (there : X → UnitItem) (again : UnitItem → Option X) (kind : StringKind)
    → ((item : UnitItem) → MayStand kind item → (x : X) × (again item ≡ Some x) × (there x ≡ item))
    → (bytes : List ℕ) (targets : List Target) (at : ℕ) (units : List ℕ) → AreUnits units
    → walk_fault bytes kind targets at (results_of (unit_bytes units)) ≡ None
    → Contents there bytes kind targets units (filter_map again (items_of units))
unfolding items_of
contents there again kind one bytes targets at units small h =
    let items : List UnitItem = items_given (results_of (unit_bytes units)) in
    let spellable : All IsSpellable items =
    (items_have_one_spelling (unit_bytes units) items (unit_bytes-small units small) (walk_readable bytes kind targets at (results_of (unit_bytes units)) h)).0 in
    let stand : All (ItemStands bytes kind targets) items = items_all bytes kind targets items (walk_stands bytes kind targets at (results_of (unit_bytes units)) h) in
    let may : All (MayStand kind) items =
    both_all (λ item. is_permitted kind item ≡ true) IsSpellable items
    (All-weaker (ItemStands bytes kind targets) (λ item. is_permitted kind item ≡ true) (λ item s. s.stands) items stand) spellable in
    let same : map there (filter_map again items) ≡ items = read_all there again (MayStand kind) one items may in
    record {
      spellable = unmapped IsSpellable there (filter_map again items) (subst (All IsSpellable) (sym same) spellable);
      stand = unmapped (ItemStands bytes kind targets) there (filter_map again items) (subst (All (ItemStands bytes kind targets)) (sym same) stand);
      count = sym (length-map (filter_map again items) there) ∙ ap length same;
    }

pub elements_read : (bytes : List ℕ) (at : ℕ) (units : List ℕ) → AreUnits units → walk_fault bytes of.Store [] at (results_of (unit_bytes units)) ≡ None
    → Contents unit_item_of_element bytes of.Store [] units (filter_map element_of_unit_item (items_of units))
elements_read bytes at units small h = contents unit_item_of_element element_of_unit_item of.Store (λ item s. element_again item s.0 s.1) bytes [] at units small h

pub outputs_read : (bytes : List ℕ) (targets : List Target) (at : ℕ) (units : List ℕ) → AreUnits units → walk_fault bytes of.Output targets at (results_of (unit_bytes units)) ≡ None
    → Contents unit_item_of_output bytes of.Output targets units (filter_map output_of_unit_item (items_of units))
outputs_read bytes targets at units small h = contents unit_item_of_output output_of_unit_item of.Output (λ item s. output_again item s.0 s.1) bytes targets at units small h

-- if an item is allowed in a match output, it is allowed in every output
match_is_output : (item : UnitItem) → is_permitted of.Match item ≡ true → is_permitted of.Output item ≡ true
match_is_output (spelled.Char c) h = h
match_is_output (spelled.Any store) h = h
match_is_output (spelled.Index store offset) h = refl
match_is_output spelled.Context h = refl
match_is_output spelled.Nul h = h
match_is_output (spelled.Enter group) h = h
match_is_output spelled.Stop h = h
match_is_output spelled.Beep h = h
match_is_output (spelled.Dead mark) h = h
match_is_output (spelled.Key flags code) h = h
match_is_output (spelled.ContextAt offset) h = refl
match_is_output (spelled.NotAny store) h = h
match_is_output (spelled.Set store value) h = h
match_is_output (spelled.Test store comparison value) h = h
match_is_output (spelled.SystemTest system comparison value) h = h
match_is_output (spelled.SetSystem system value) h = h
match_is_output (spelled.Save store) h = h
match_is_output (spelled.Reset store) h = h

pub match_outputs_read : (bytes : List ℕ) (at : ℕ) (units : List ℕ) → AreUnits units → walk_fault bytes of.Match [] at (results_of (unit_bytes units)) ≡ None
    → Contents unit_item_of_output bytes of.Match [] units (filter_map output_of_unit_item (items_of units))
match_outputs_read bytes at units small h =
    contents unit_item_of_output output_of_unit_item of.Match (λ item s. output_again item (match_is_output item s.0) s.1) bytes [] at units small h

-- two ids of system options are equal if and only if they are equal when counted from 1, as a file does
counted : (id number : ℕ) → nat_eq (id + 1) (number + 1) ≡ nat_eq id number
counted id number = grind arith

-- an output is allowed in an output string if and only if it does not set a system option that no file can set
pub output_stands : (o : Out) → is_permitted of.Output (unit_item_of_output o) ≡ sets_system_id o
output_stands (output.Char c) = refl
output_stands (output.Mark mark) = refl
output_stands (output.Index store offset) = refl
output_stands output.Context = refl
output_stands (output.ContextAt offset) = refl
output_stands (output.Enter group) = refl
output_stands (output.Set store value) = refl
output_stands (output.SetSystem id value) = counted id 33
output_stands (output.Save store) = refl
output_stands (output.Reset store) = refl
output_stands output.Nul = refl
output_stands output.Beep = refl
output_stands output.Stop = refl

-- an output is allowed in a match output if and only if it needs no context and does not set a system option that no file can set
pub stands_alone : (o : Out) → is_permitted of.Match (unit_item_of_output o) ≡ (not (needs_context o) && sets_system_id o)
stands_alone (output.Char c) = refl
stands_alone (output.Mark mark) = refl
stands_alone (output.Index store offset) = refl
stands_alone output.Context = refl
stands_alone (output.ContextAt offset) = refl
stands_alone (output.Enter group) = refl
stands_alone (output.Set store value) = refl
stands_alone (output.SetSystem id value) = counted id 33
stands_alone (output.Save store) = refl
stands_alone (output.Reset store) = refl
stands_alone output.Nul = refl
stands_alone output.Beep = refl
stands_alone output.Stop = refl

pub acts_alone : (o : Out) → is_permitted of.Match (unit_item_of_output o) ≡ true → needs_context o ≡ false
acts_alone o h = not-true (needs_context o) (and_parts (not (needs_context o)) (sets_system_id o) (sym (stands_alone o) ∙ h)).0

-- the stores and groups that an output names are below the counts
output_stores : (n g : ℕ) (o : Out) → (list_any (nat_lt n) (stores_named (unit_item_of_output o)) || list_any (nat_lt g) (groups_named (unit_item_of_output o))) ≡ false
    → All (λ store. store < n) (stores_of_output o)
output_stores n g (output.Index store offset) h = grind (arith, h)
output_stores n g (output.Set store value) h = grind (arith, h)
output_stores n g (output.SetSystem id value) h = grind (arith, h)
output_stores n g (output.Save store) h = grind (arith, h)
output_stores n g (output.Reset store) h = grind (arith, h)
output_stores n g (output.Char c) h = grind arith
output_stores n g (output.Mark mark) h = grind arith
output_stores n g output.Context h = grind arith
output_stores n g (output.ContextAt offset) h = grind arith
output_stores n g (output.Enter group) h = grind arith
output_stores n g output.Nul h = grind arith
output_stores n g output.Beep h = grind arith
output_stores n g output.Stop h = grind arith

output_groups : (n g : ℕ) (o : Out) → (list_any (nat_lt n) (stores_named (unit_item_of_output o)) || list_any (nat_lt g) (groups_named (unit_item_of_output o))) ≡ false
    → All (λ group. group < g) (groups_of_output o)
output_groups n g (output.Enter group) h = grind (arith, h)
output_groups n g (output.Index store offset) h = grind arith
output_groups n g (output.Set store value) h = grind arith
output_groups n g (output.SetSystem id value) h = grind arith
output_groups n g (output.Save store) h = grind arith
output_groups n g (output.Reset store) h = grind arith
output_groups n g (output.Char c) h = grind arith
output_groups n g (output.Mark mark) h = grind arith
output_groups n g output.Context h = grind arith
output_groups n g (output.ContextAt offset) h = grind arith
output_groups n g output.Nul h = grind arith
output_groups n g output.Beep h = grind arith
output_groups n g output.Stop h = grind arith

pub outputs_stores : (bytes : List ℕ) (kind : StringKind) (targets : List Target) (outputs : List Out) → All (λ o. ItemStands bytes kind targets (unit_item_of_output o)) outputs
    → All (λ store. store < store_count bytes) (flat_map stores_of_output outputs)
outputs_stores bytes kind targets outputs h =
    flat_all (λ store. store < store_count bytes) stores_of_output outputs
    (All-weaker (λ o. ItemStands bytes kind targets (unit_item_of_output o)) (λ o. All (λ store. store < store_count bytes) (stores_of_output o))
    (λ o s. output_stores (store_count bytes) (group_count bytes) o s.named) outputs h)

pub outputs_groups : (bytes : List ℕ) (kind : StringKind) (targets : List Target) (outputs : List Out) → All (λ o. ItemStands bytes kind targets (unit_item_of_output o)) outputs
    → All (λ group. group < group_count bytes) (flat_map groups_of_output outputs)
outputs_groups bytes kind targets outputs h =
    flat_all (λ group. group < group_count bytes) groups_of_output outputs
    (All-weaker (λ o. ItemStands bytes kind targets (unit_item_of_output o)) (λ o. All (λ group. group < group_count bytes) (groups_of_output o))
    (λ o s. output_groups (store_count bytes) (group_count bytes) o s.named) outputs h)

-- if outputs have no fault, a file can set the system options that they set
pub outputs_systems : (bytes : List ℕ) (targets : List Target) (outputs : List Out) → All (λ o. ItemStands bytes of.Output targets (unit_item_of_output o)) outputs
    → All (λ o. sets_system_id o ≡ true) outputs
outputs_systems bytes targets outputs h =
    All-weaker (λ o. ItemStands bytes of.Output targets (unit_item_of_output o)) (λ o. sets_system_id o ≡ true) (λ o s. sym (output_stands o) ∙ s.stands) outputs h

pub match_systems : (bytes : List ℕ) (targets : List Target) (outputs : List Out) → All (λ o. ItemStands bytes of.Match targets (unit_item_of_output o)) outputs
    → All (λ o. sets_system_id o ≡ true) outputs
match_systems bytes targets outputs h =
    All-weaker (λ o. ItemStands bytes of.Match targets (unit_item_of_output o)) (λ o. sets_system_id o ≡ true)
    (λ o s. sym (output_stands o) ∙ match_is_output (unit_item_of_output o) s.stands) outputs h

-- ---- contexts

-- a pattern is allowed in a context if and only if it is not a condition on a system option that no file can test
pub pattern_stands : (p : Pat) → is_permitted of.Context (unit_item_of_pattern p) ≡ has_system_id p
pattern_stands (pattern.Any store) = refl
pattern_stands (pattern.NotAny store) = refl
pattern_stands (pattern.Index store offset) = refl
pattern_stands (pattern.Equal store value) = refl
pattern_stands (pattern.Unequal store value) = refl
pattern_stands (pattern.SystemEqual id value) = ap₂ (λ a b. a || b) (counted id 31) (counted id 33)
pattern_stands (pattern.SystemUnequal id value) = ap₂ (λ a b. a || b) (counted id 31) (counted id 33)
pattern_stands (pattern.Char c) = refl
pattern_stands (pattern.Mark mark) = refl
pattern_stands (pattern.ContextAt offset) = refl
pattern_stands pattern.Nul = refl

-- if a context has no fault, all its items are patterns
pub patterns_again : (bytes : List ℕ) (before : List Target) (items : List UnitItem) → ContextStands bytes before items → All IsSpellable items
    → map unit_item_of_pattern (filter_map pattern_of_unit_item items) ≡ items
patterns_again bytes before [] h s = refl
patterns_again bytes before (item ∷ items) h s =
    let p = pattern_again item h.0.stands (All-head IsSpellable item items s) in
    ap (map unit_item_of_pattern) (filter_map_some pattern_of_unit_item item items p.0 p.1)
    ∙ ap (λ i. i ∷ map unit_item_of_pattern (filter_map pattern_of_unit_item items)) p.2
    ∙ ap (λ (is : List UnitItem). item ∷ is) (patterns_again bytes (before ++ target_of item ∷ []) items h.1 (All-tail IsSpellable item items s))

-- the stores that a pattern names are below the count
pattern_stores : (n g : ℕ) (p : Pat) → (list_any (nat_lt n) (stores_named (unit_item_of_pattern p)) || list_any (nat_lt g) (groups_named (unit_item_of_pattern p))) ≡ false
    → All (λ store. store < n) (stores_of_pattern p)
pattern_stores n g (pattern.Any store) h = grind (arith, h)
pattern_stores n g (pattern.NotAny store) h = grind (arith, h)
pattern_stores n g (pattern.Index store offset) h = grind (arith, h)
pattern_stores n g (pattern.Equal store value) h = grind (arith, h)
pattern_stores n g (pattern.Unequal store value) h = grind (arith, h)
pattern_stores n g (pattern.SystemEqual id value) h = grind (arith, h)
pattern_stores n g (pattern.SystemUnequal id value) h = grind (arith, h)
pattern_stores n g (pattern.Char c) h = grind arith
pattern_stores n g (pattern.Mark mark) h = grind arith
pattern_stores n g (pattern.ContextAt offset) h = grind arith
pattern_stores n g pattern.Nul h = grind arith

any_of : (p : Pat) → target.is_any (Some (target_of (unit_item_of_pattern p))) ≡ true → is_any p ≡ true
any_of (pattern.Any store) h = refl
any_of (pattern.NotAny store) h = absurd (cc)
any_of (pattern.Index store offset) h = absurd (cc)
any_of (pattern.Equal store value) h = absurd (cc)
any_of (pattern.Unequal store value) h = absurd (cc)
any_of (pattern.SystemEqual id value) h = absurd (cc)
any_of (pattern.SystemUnequal id value) h = absurd (cc)
any_of (pattern.Char c) h = absurd (cc)
any_of (pattern.Mark mark) h = absurd (cc)
any_of (pattern.ContextAt offset) h = absurd (cc)
any_of pattern.Nul h = absurd (cc)

pattern_of : (p : Pat) → target.is_pattern (Some (target_of (unit_item_of_pattern p))) ≡ true → is_matched p ≡ true
pattern_of (pattern.Any store) h = refl
pattern_of (pattern.NotAny store) h = refl
pattern_of (pattern.Index store offset) h = refl
pattern_of (pattern.Equal store value) h = absurd (cc)
pattern_of (pattern.Unequal store value) h = absurd (cc)
pattern_of (pattern.SystemEqual id value) h = absurd (cc)
pattern_of (pattern.SystemUnequal id value) h = absurd (cc)
pattern_of (pattern.Char c) h = refl
pattern_of (pattern.Mark mark) h = refl
pattern_of (pattern.ContextAt offset) h = refl
pattern_of pattern.Nul h = absurd (cc)

-- the targets of the patterns of a context
abbrev pub targets_of : List Pat → List Target
targets_of before = map target_of (map unit_item_of_pattern before)

points_to_any : (before : List Pat) (place : ℕ) → target.is_any (slice_get (targets_of before) place) ≡ true → IsSomeAnd (slice_get before place) (λ p. is_any p ≡ true)
points_to_any [] place h = absurd (cc)
points_to_any (p ∷ before) zero h = any_of p h
points_to_any (p ∷ before) (suc place) h = points_to_any before place h

points_to_matched : (before : List Pat) (place : ℕ) → target.is_pattern (slice_get (targets_of before) place) ≡ true → IsSomeAnd (slice_get before place) (λ p. is_matched p ≡ true)
points_to_matched [] place h = absurd (cc)
points_to_matched (p ∷ before) zero h = pattern_of p h
points_to_matched (p ∷ before) (suc place) h = points_to_matched before place h

index_points : (before : List Pat) (offset : ℕ) → target.is_any (target_at (targets_of before) offset) ≡ true → PointsTo is_any before offset
index_points before zero h = absurd (cc)
index_points before (suc place) h = points_to_any before place h

context_at_points : (before : List Pat) (offset : ℕ) → target.is_pattern (target_at (targets_of before) offset) ≡ true → PointsTo is_matched before offset
context_at_points before zero h = absurd (cc)
context_at_points before (suc place) h = points_to_matched before place h

points_back : (before : List Pat) (p : Pat) → points_right (targets_of before) (unit_item_of_pattern p) ≡ true → PointsBack before p
points_back before (pattern.Index store offset) h = index_points before offset h
points_back before (pattern.ContextAt offset) h = context_at_points before offset h
points_back before (pattern.Any store) h = tt
points_back before (pattern.NotAny store) h = tt
points_back before (pattern.Equal store value) h = tt
points_back before (pattern.Unequal store value) h = tt
points_back before (pattern.SystemEqual id value) h = tt
points_back before (pattern.SystemUnequal id value) h = tt
points_back before (pattern.Char c) h = tt
points_back before (pattern.Mark mark) h = tt
points_back before pattern.Nul h = tt

pub targets_more : (before : List Pat) (p : Pat) → targets_of before ++ target_of (unit_item_of_pattern p) ∷ [] ≡ targets_of (before ++ p ∷ [])
targets_more [] p = refl
targets_more (q ∷ before) p = ap (λ (targets : List Target). target_of (unit_item_of_pattern q) ∷ targets) (targets_more before p)

-- if a context has no fault, each of its items points back
pub context_points : (bytes : List ℕ) (before context : List Pat) → ContextStands bytes (targets_of before) (map unit_item_of_pattern context)
    → (place : ℕ) (d : Pat) → place < length context → PointsBack (before ++ take place context) (slice_index_or context place d)
context_points bytes before [] h place d below = absurd (omega arith)
context_points bytes before (p ∷ context) h zero d below = subst (λ b. PointsBack b p) (sym (append-nil before)) (points_back before p h.0.points)
context_points bytes before (p ∷ context) h (suc place) d below =
    subst (λ b. PointsBack b (slice_index_or context place d)) (append_assoc before (p ∷ []) (take place context))
    (context_points bytes (before ++ p ∷ []) context
    (subst (λ targets. ContextStands bytes targets (map unit_item_of_pattern context)) (targets_more before p) h.1) place d (omega arith))

-- if a context has no fault, the stores that it names are below the count
pub context_stores : (bytes : List ℕ) (targets : List Target) (context : List Pat) → ContextStands bytes targets (map unit_item_of_pattern context)
    → All (λ store. store < store_count bytes) (flat_map stores_of_pattern context)
context_stores bytes targets [] h = grind arith
context_stores bytes targets (p ∷ context) h =
    All-append (λ store. store < store_count bytes) (stores_of_pattern p) (flat_map stores_of_pattern context)
    (pattern_stores (store_count bytes) (group_count bytes) p h.0.named)
    (context_stores bytes (targets ++ target_of (unit_item_of_pattern p) ∷ []) context h.1)

-- if a context has no fault, a file can test the system options that it tests
pub context_systems : (bytes : List ℕ) (targets : List Target) (context : List Pat) → ContextStands bytes targets (map unit_item_of_pattern context)
    → All (λ p. has_system_id p ≡ true) context
context_systems bytes targets [] h = All-nil (λ p. has_system_id p ≡ true)
context_systems bytes targets (p ∷ context) h =
    All-cons (λ q. has_system_id q ≡ true) p context (sym (pattern_stands p) ∙ h.0.stands)
    (context_systems bytes (targets ++ target_of (unit_item_of_pattern p) ∷ []) context h.1)

-- the patterns that are read from a context without a fault are writable and convert back to its items
pub record ContextRead (bytes units : List ℕ) (context : List Pat) : Type 0 where
  pub writable : IsWritableContext (store_count bytes) context
  pub again : map unit_item_of_pattern context ≡ items_of units

pub context_read : (bytes units : List ℕ) (at : ℕ) → AreUnits units
    → context_fault bytes [] at (results_of (unit_bytes units)) ≡ None → length (items_of units) ≤ CONTEXT_ITEMS
    → ContextRead bytes units (filter_map pattern_of_unit_item (items_of units))
unfolding items_of
context_read bytes units at small h few =
    let items : List UnitItem = items_given (results_of (unit_bytes units)) in
    let context : List Pat = filter_map pattern_of_unit_item items in
    let spellable : All IsSpellable items =
    (items_have_one_spelling (unit_bytes units) items (unit_bytes-small units small) (context_readable bytes [] at (results_of (unit_bytes units)) h)).0 in
    let stands : ContextStands bytes [] items = context_stands bytes [] at (results_of (unit_bytes units)) h in
    let same : map unit_item_of_pattern context ≡ items = patterns_again bytes [] items stands spellable in
    let patterns_stand : ContextStands bytes [] (map unit_item_of_pattern context) = subst (ContextStands bytes []) (sym same) stands in
    record {
      writable = record {
        items = unmapped IsSpellable unit_item_of_pattern context (subst (All IsSpellable) (sym same) spellable);
        stores = context_stores bytes [] context patterns_stand;
        systems = context_systems bytes [] context patterns_stand;
        offsets = context_points bytes [] context patterns_stand;
        item_count = omega (arith, few, ap length same, length-map context unit_item_of_pattern);
      };
      again = same;
    }

-- if the offset of an output points at an allowed target, it points into the context
pub points_into : (context : List Pat) (o : Out) → points_right (targets_of context) (unit_item_of_output o) ≡ true → PointsInto context o
points_into context (output.Index store offset) h = index_points context offset h
points_into context (output.ContextAt offset) h = context_at_points context offset h
points_into context (output.Char c) h = tt
points_into context (output.Mark mark) h = tt
points_into context output.Context h = tt
points_into context (output.Enter group) h = tt
points_into context (output.Set store value) h = tt
points_into context (output.SetSystem id value) h = tt
points_into context (output.Save store) h = tt
points_into context (output.Reset store) h = tt
points_into context output.Nul h = tt
points_into context output.Beep h = tt
points_into context output.Stop h = tt
