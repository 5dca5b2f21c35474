-- The converse of `Sound`: items that meet `ItemsStand` have no fault.
use Rattle.std.proofs.Common.{◌≡◌, ℕ, ◌+◌, Bool, true, false, not, List, [], ◌∷◌, ◌++◌, map, Option, None, refl, ◌∙◌, ap}
use Rattle.std.specs.Prelude.{Ok}
use Rattle.std.specs.Option.{option_or}
use Rattle.kmn_base.specs.declared.codes.Code.{Code}
use Rattle.kmn_base.specs.declared.units.UnitItem.{UnitItem}
use Rattle.item_codec.specs.Walk.{spelled_size}
use Rattle.kmx_verifier.specs.declared.faults.Fault.{Fault}
use Rattle.kmx_verifier.specs.declared.faults.StringKind.{StringKind}
use Rattle.kmx_verifier.specs.declared.faults.StringKind.TheVariants as of
use Rattle.kmx_verifier.specs.declared.faults.Target.{Target}
use Rattle.kmx_verifier.specs.Items.{target_of}
use Rattle.kmx_verifier.specs.FaultOf.{broken, broken_by, item_fault, walk_fault, context_fault}
use Rattle.kmx_verifier.proofs.Sound.{ItemStands, ItemsStand, ContextStands}

pub both : (a b : Option Fault) → a ≡ None → b ≡ None → option_or a b ≡ None
both a b h g = ap (λ f. option_or f b) h ∙ g

pub unbroken : (code : Code) (at : ℕ) (c : Bool) → c ≡ false → broken code at c ≡ None
unbroken code at c h = ap (broken code at) h

pub unbroken_by : (unit at : ℕ) (c : Bool) → c ≡ false → broken_by unit at c ≡ None
unbroken_by unit at c h = ap (broken_by unit at) h

pub unbroken_not : (code : Code) (at : ℕ) (c : Bool) → c ≡ true → broken code at (not c) ≡ None
unbroken_not code at c h = ap (λ b. broken code at (not b)) h

item_clean : (bytes : List ℕ) (kind : StringKind) (targets : List Target) (item : UnitItem) (at : ℕ) → ItemStands bytes kind targets item → item_fault bytes kind targets item at ≡ None
item_clean bytes kind targets item at h =
    both _ _ (unbroken_by _ at _ (ap not h.stands)) (both _ _ (unbroken _ at _ h.named) (both _ _ (unbroken_not _ at _ h.points) refl))

pub walk_clean : (bytes : List ℕ) (kind : StringKind) (targets : List Target) (at : ℕ) (items : List UnitItem) → ItemsStand bytes kind targets items → walk_fault bytes kind targets at (map Ok items) ≡ None
walk_clean bytes kind targets at [] h = refl
walk_clean bytes kind targets at (item ∷ items) h = both _ _ (item_clean bytes kind targets item at h.0) (walk_clean bytes kind targets (at + spelled_size item) items h.1)

pub context_clean : (bytes : List ℕ) (before : List Target) (at : ℕ) (items : List UnitItem) → ContextStands bytes before items → context_fault bytes before at (map Ok items) ≡ None
context_clean bytes before at [] h = refl
context_clean bytes before at (item ∷ items) h =
    both _ _ (item_clean bytes of.Context before item at h.0) (context_clean bytes (before ++ target_of item ∷ []) (at + spelled_size item) items h.1)
