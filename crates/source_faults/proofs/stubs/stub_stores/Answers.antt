use Rattle.std.proofs.Common.{length, ◌<◌, arith, ap, sym, ◌∙◌}
use Rattle.std.specs.Prelude.{slice_set}
use Rattle.std.proofs.lemmas.List.Edits.{map_over_more}
use Rattle.rule_model.specs.declared.program.StoreDef.{StoreDef}
use Rattle.source_faults.specs.Stubs.{code_at, stub_store}
use Rattle.source_faults.proofs.stubs.stub_stores.Goals as goal

pub loop-store-preserved : goal.loop-store-preserved
loop-store-preserved c =
    let within : c.loop-store.store-index < length c.args.stores.now = omega (arith, c.loop-store-test.true) in
    ap (slice_set c.loop-store.stores c.loop-store.store-index) (c.in_ok-stub_store.ensures ∙ ap (λ (store : StoreDef). stub_store (code_at c.args.refused.now store.line) store) (sym c.store-item.is))
    ∙ map_over_more (λ (store : StoreDef). stub_store (code_at c.args.refused.now store.line) store) c.args.stores.now c.loop-store.stores c.loop-store.store-index c.store-item.result within c.loop-store.invariant c.store-item.is
