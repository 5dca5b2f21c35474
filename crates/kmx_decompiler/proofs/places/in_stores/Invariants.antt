use Rattle.std.proofs.Common.{◌≡◌, ◌+◌, ◌*◌, drop, None}
use Rattle.rule_model.specs.Tab.{tab_options}
use Rattle.kmx_format.specs.declared.sizes.TheConstants.{STORE_BYTES}
use Rattle.kmx_decompiler.specs.Places.{store_causes}
use Rattle.kmx_decompiler.specs.Least.{lesser}
use Rattle.kmx_decompiler.proofs.places.in_stores.Given as goal

abbrev pub invariant-loop-number : goal.invariant-loop-number
invariant-loop-number l = record {
  least : lesser (store_causes l.names (tab_options l.options) l.place l.number (drop l.number l.stores)) l.least
      ≡ lesser (store_causes l.names (tab_options l.options) l.fn.place 0 l.stores) None;
  place : l.place ≡ l.fn.place + STORE_BYTES * l.number;
}
