-- A scan of the items of a string, as a loop does it.
use Rattle.std.proofs.Common.{◌≡◌, ℕ, ◌+◌, ◌/◌, ◌<◌, ◌≤◌, List, [], ◌∷◌, length, Option, None, refl, sym, ◌∙◌, ap, arith, append-nil}
use Rattle.std.specs.Prelude.{Ok}
use Rattle.std.specs.List.{All}
use Rattle.std.specs.Option.{option_or}
use Rattle.kmn_base.specs.declared.units.UnitItem.{UnitItem}
use Rattle.kmn_base.specs.Spelling.{unit_bytes}
use Rattle.kmn_base.proofs.UnitBytes.{length-unit_bytes}
use Rattle.kmn_base.proofs.Spelling.{spellings_are_short}
use Rattle.item_codec.specs.Walk.{spelled_size, items_given, results_of}
use Rattle.item_codec.proofs.Sizes.{sizes, sizes_within}
use Rattle.item_codec.proofs.Results.{Results}
use Rattle.kmx_verifier.specs.declared.faults.Fault.{Fault}
use Rattle.kmx_verifier.specs.declared.faults.StringKind.{StringKind}
use Rattle.kmx_verifier.specs.declared.faults.Target.{Target}
use Rattle.kmx_verifier.specs.FaultOf.{item_fault, walk_fault}

-- a scan from a place on, after a number of items, has the result of the whole scan
pub record WalksOn (bytes : List ℕ) (kind : StringKind) (targets : List Target) (answer : Option Fault) (total end at count : ℕ) (results : Results) : Type 0 where
  pub fault : walk_fault bytes kind targets at results ≡ answer
  pub counted : count + length (items_given results) ≡ total
  pub room : at + sizes results ≤ end
  pub few : count ≤ at

pub walk_starts : (bytes : List ℕ) (kind : StringKind) (targets : List Target) (string : List ℕ) (end at : ℕ)
    → All (λ byte. byte < 256) string → at + length string ≤ end
    → WalksOn bytes kind targets (walk_fault bytes kind targets at (results_of string)) (length (items_given (results_of string))) end at 0 (results_of string)
walk_starts bytes kind targets string end at h within =
    record { fault = refl; counted = omega arith; room = omega (arith, sizes_within string h, within); few = omega arith }

-- if the next item has no fault, the scan continues after it
pub walks_on : (bytes : List ℕ) (kind : StringKind) (targets : List Target) (answer : Option Fault) (total end at count : ℕ) (item : UnitItem) (results : Results)
    → item_fault bytes kind targets item at ≡ None
    → WalksOn bytes kind targets answer total end at count (Ok item ∷ results)
    → WalksOn bytes kind targets answer total end (at + spelled_size item) (count + 1) results
walks_on bytes kind targets answer total end at count item results none h = record {
  fault = sym (ap (λ fault. option_or fault (walk_fault bytes kind targets (at + spelled_size item) results)) none) ∙ h.fault;
  counted = omega (arith, h.counted);
  room = omega (arith, h.room);
  few = omega (arith, h.few, (spellings_are_short item).0);
}

-- half the length of a string in bytes is its number of units
pub string_halved : (string units : List ℕ) → string ≡ unit_bytes units → length string / 2 ≡ length units
string_halved string units is = omega (arith, ap length is, length-unit_bytes units [], ap length (append-nil (unit_bytes units)))
