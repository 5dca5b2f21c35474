-- The targets that offsets can reach.
use Rattle.std.proofs.Common.{◌≡◌, ◌≢◌, length-append, ℕ, zero, suc, ◌<◌, ◌≤◌, min, not, List, [], ◌∷◌, ◌++◌, length, map, take, None, refl, sym, ◌∙◌, ap, arith}
use Rattle.std.specs.Prelude.{slice_get}
use Rattle.std.specs.Option.{option_or}
use Rattle.std.proofs.lemmas.List.{take_all, take_at, length-take, length-map}
use Rattle.kmn_base.specs.declared.codes.Code.TheVariants.{V12, V13}
use Rattle.kmn_base.specs.declared.limits.TheConstants.{CONTEXT_ITEMS}
use Rattle.kmn_base.specs.declared.units.UnitItem.{UnitItem}
use Rattle.kmn_base.specs.declared.units.UnitItem.TheVariants.{Char, Any, Index, Context, Nul, Enter, Stop, Beep, Dead, Key, ContextAt, NotAny, Set, Test, SystemTest, SetSystem, Save, Reset}
use Rattle.kmx_verifier.specs.declared.contexts.TheConstants.{OFFSET_REACH}
use Rattle.kmx_verifier.specs.declared.faults.StringKind.{StringKind}
use Rattle.kmx_verifier.specs.declared.faults.Target.{Target}
use Rattle.kmx_verifier.specs.Items.{target_of, reached, target_at, is_any, is_pattern, points_right, is_permitted, code_of, HasSmallOffset}
use Rattle.kmx_verifier.specs.FaultOf.{broken, broken_by, names_outside, item_fault}

take-more : {X : Type 0} (n : ℕ) (xs : List X) (x : X) → take n (take n xs ++ x ∷ []) ≡ take n (xs ++ x ∷ [])
take-more zero xs x = refl
take-more (suc n) [] x = refl
take-more {X} (suc n) (y ∷ xs) x = ap (λ (ys : List X). y ∷ ys) (take-more n xs x)

-- omitting the targets past the reach before a target is appended does not change the reached targets
pub reached-more : (targets : List Target) (t : Target) → reached (reached targets ++ t ∷ []) ≡ reached (targets ++ t ∷ [])
unfolding reached
reached-more targets t = take-more 65535 targets t

pub length-reached : (targets : List Target) → length (reached targets) ≤ OFFSET_REACH
unfolding reached
length-reached targets = omega (arith, length-take 65535 targets)

-- a target that is appended is kept if offsets reach it, and omitted if they don't
pub reached_all : (targets : List Target) (t : Target) → length targets ≤ OFFSET_REACH → length targets ≢ OFFSET_REACH → targets ++ t ∷ [] ≡ reached (targets ++ t ∷ [])
unfolding reached
reached_all targets t few some = sym (take_all 65535 (targets ++ t ∷ []) (omega (arith, few, some, length-append targets (t ∷ []))))

pub reached_full : (targets : List Target) (t : Target) → length targets ≡ OFFSET_REACH → targets ≡ reached (targets ++ t ∷ [])
unfolding reached
reached_full targets t full = sym (take_at targets (t ∷ []) 65535 full)

-- if at most `CONTEXT_ITEMS` targets are reached, they are the targets of all items
pub few_reached : (targets : List Target) (items : List UnitItem) → targets ≡ reached (map target_of items) → length targets ≤ CONTEXT_ITEMS
    → (targets ≡ map target_of items) × (length items ≤ CONTEXT_ITEMS)
unfolding reached
few_reached targets items is few =
    let count : length targets ≡ min 65535 (length (map target_of items)) = ap length is ∙ length-take 65535 (map target_of items) in
    let all : length (map target_of items) ≤ CONTEXT_ITEMS = omega (arith, count, few) in
    (is ∙ take_all 65535 (map target_of items) (omega (arith, all)), omega (arith, all, length-map items target_of))

-- if more than `CONTEXT_ITEMS` targets are reached, there are more than `CONTEXT_ITEMS` items
pub many_reached : (targets : List Target) (items : List UnitItem) → targets ≡ reached (map target_of items) → CONTEXT_ITEMS < length targets
    → CONTEXT_ITEMS < length items
unfolding reached
many_reached targets items is many =
    let count : length targets ≡ min 65535 (length (map target_of items)) = ap length is ∙ length-take 65535 (map target_of items) in
    omega (arith, count, many, length-map items target_of)

slice_get-taken : (n : ℕ) (xs : List Target) (i : ℕ) → i < n → slice_get (take n xs) i ≡ slice_get xs i
slice_get-taken zero xs i h = absurd (omega arith)
slice_get-taken (suc n) [] i h = refl
slice_get-taken (suc n) (x ∷ xs) zero h = refl
slice_get-taken (suc n) (x ∷ xs) (suc i) h = slice_get-taken n xs i (omega arith)

target_at-reached : (targets : List Target) (offset : ℕ) → offset < 65536 → target_at (reached targets) offset ≡ target_at targets offset
unfolding reached
target_at-reached targets zero h = refl
target_at-reached targets (suc place) h = slice_get-taken 65535 targets place (omega arith)

points_right-reached : (targets : List Target) (item : UnitItem) → HasSmallOffset item → points_right (reached targets) item ≡ points_right targets item
points_right-reached targets (Index store offset) h = ap is_any (target_at-reached targets offset h)
points_right-reached targets (ContextAt offset) h = ap is_pattern (target_at-reached targets offset h)
points_right-reached targets (Char c) h = refl
points_right-reached targets (Dead mark) h = refl
points_right-reached targets (Key flags code) h = refl
points_right-reached targets (Any store) h = refl
points_right-reached targets (NotAny store) h = refl
points_right-reached targets Context h = refl
points_right-reached targets Nul h = refl
points_right-reached targets (Enter group) h = refl
points_right-reached targets Stop h = refl
points_right-reached targets Beep h = refl
points_right-reached targets (Set store value) h = refl
points_right-reached targets (Test store comparison value) h = refl
points_right-reached targets (SystemTest system comparison value) h = refl
points_right-reached targets (SetSystem system value) h = refl
points_right-reached targets (Save store) h = refl
points_right-reached targets (Reset store) h = refl

-- if the offset of an item is a unit, omitting the targets past the reach does not change the fault of the item
pub item_reached : (bytes : List ℕ) (kind : StringKind) (targets : List Target) (item : UnitItem) (at : ℕ) → HasSmallOffset item
    → item_fault bytes kind (reached targets) item at ≡ item_fault bytes kind targets item at
item_reached bytes kind targets item at h =
    ap (λ points. option_or (broken_by (code_of item) at (not (is_permitted kind item))) (option_or (broken V12 at (names_outside bytes item)) (option_or (broken V13 at (not points)) None)))
    (points_right-reached targets item h)
