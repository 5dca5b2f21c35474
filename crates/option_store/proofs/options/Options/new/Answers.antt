use Rattle.std.proofs.Common.{arith}
use Rattle.option_store.proofs.FirstCells.{pushed_cell, all_made}
use Rattle.option_store.proofs.options.Options.new.Goals as goal

pub loop-store-preserved : goal.loop-store-preserved
loop-store-preserved c = (pushed_cell c.loop-store.cells.items c.push.new.self.items _ c.new.result c.loop-store.store c.args.stores (omega (arith, c.loop-store-test.true)) c.new.ensures c.in_ok-push.ensures.items c.loop-store.invariant.0, omega (arith, c.loop-store-test.true))

pub returns-clause-count : goal.returns-clause-count
returns-clause-count c = all_made c.loop-store.cells.items c.loop-store.store c.args.stores (omega (arith, c.loop-store-test.false)) c.loop-store.invariant.0
