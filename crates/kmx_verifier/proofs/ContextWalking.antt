-- A scan of the items of a context, as a loop does it.
use Rattle.std.proofs.Common.{◌≡◌, ℕ, ◌+◌, ◌<◌, ◌≤◌, List, [], ◌∷◌, ◌++◌, length, map, Option, None, Some, refl, sym, ◌∙◌, ap, arith, append_assoc}
use Rattle.std.specs.Prelude.{Ok}
use Rattle.std.specs.List.{All}
use Rattle.std.specs.Option.{option_or}
use Rattle.kmn_base.specs.declared.units.UnitItem.{UnitItem}
use Rattle.item_codec.specs.Walk.{spelled_size, items_given, results_of}
use Rattle.kmx_verifier.specs.declared.contexts.TheConstants.{OFFSET_REACH}
use Rattle.kmx_verifier.specs.declared.faults.Fault.{Fault}
use Rattle.kmx_verifier.specs.declared.faults.VerifyError.{VerifyError}
use Rattle.kmx_verifier.specs.declared.faults.VerifyError.TheVariants.{Refused, Memory}
use Rattle.kmx_verifier.specs.declared.faults.StringKind.TheVariants as of
use Rattle.kmx_verifier.specs.declared.faults.Target.{Target}
use Rattle.kmx_verifier.specs.Items.{target_of, reached}
use Rattle.kmx_verifier.specs.FaultOf.{item_fault, context_fault, IsRefusal}
use Rattle.kmx_verifier.proofs.Reach.{reached-more, length-reached}
use Rattle.item_codec.proofs.Sizes.{sizes, sizes_within}
use Rattle.item_codec.proofs.Results.{Results}

-- a scan from a place on, after some items, has the result and the targets of the whole scan
pub record ContextWalksOn (bytes : List ℕ) (answer : Option Fault) (total : List Target) (end at : ℕ) (targets : List Target) (results : Results) : Type 0 where
  pub before : List Target
  pub is_reached : targets ≡ reached before
  pub fault : context_fault bytes before at results ≡ answer
  pub all : before ++ map target_of (items_given results) ≡ total
  pub room : at + sizes results ≤ end

pub context_starts : (bytes string : List ℕ) (end at : ℕ) → All (λ byte. byte < 256) string → at + length string ≤ end
    → ContextWalksOn bytes (context_fault bytes [] at (results_of string)) (map target_of (items_given (results_of string))) end at [] (results_of string)
unfolding reached
context_starts bytes string end at h within = record { before = []; is_reached = refl; fault = refl; all = refl; room = omega (arith, sizes_within string h, within) }

-- at most `OFFSET_REACH` targets are kept
pub context_few : (bytes : List ℕ) (answer : Option Fault) (total : List Target) (end at : ℕ) (targets : List Target) (results : Results)
    → ContextWalksOn bytes answer total end at targets results → length targets ≤ OFFSET_REACH
context_few bytes answer total end at targets results h = omega (arith, ap length h.is_reached, length-reached h.before)

pub context_goes_on : (bytes : List ℕ) (answer : Option Fault) (total : List Target) (end at : ℕ) (targets more : List Target) (item : UnitItem) (results : Results)
    → ContextWalksOn bytes answer total end at targets (Ok item ∷ results)
    → ((before : List Target) → targets ≡ reached before → (item_fault bytes of.Context before item at ≡ None) × Unit {0})
    → more ≡ reached (targets ++ target_of item ∷ [])
    → ContextWalksOn bytes answer total end (at + spelled_size item) more results
context_goes_on bytes answer total end at targets more item results h none is =
    let before : List Target = h.before ++ target_of item ∷ [] in
    record {
      before = before;
      is_reached = is ∙ ap (λ (ts : List Target). reached (ts ++ target_of item ∷ [])) h.is_reached ∙ reached-more h.before (target_of item);
      fault = sym (ap (λ fault. option_or fault (context_fault bytes before (at + spelled_size item) results)) (none h.before h.is_reached).0) ∙ h.fault;
      all = append_assoc h.before (target_of item ∷ []) (map target_of (items_given results)) ∙ h.all;
      room = omega (arith, h.room);
    }

-- if an item has a fault, the scan ends with it
pub context_stops : (bytes : List ℕ) (answer : Option Fault) (total : List Target) (end at : ℕ) (targets : List Target) (item : UnitItem) (results : Results) (error : VerifyError)
    → ContextWalksOn bytes answer total end at targets (Ok item ∷ results)
    → ((before : List Target) → targets ≡ reached before → IsRefusal error (λ found. item_fault bytes of.Context before item at ≡ Some found))
    → IsRefusal error (λ found. answer ≡ Some found)
context_stops bytes answer total end at targets item results (Refused found) h is =
    sym h.fault ∙ ap (λ fault. option_or fault (context_fault bytes (h.before ++ target_of item ∷ []) (at + spelled_size item) results)) (is h.before h.is_reached)
context_stops bytes answer total end at targets item results Memory h is = tt
