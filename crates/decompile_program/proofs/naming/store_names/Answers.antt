use Rattle.std.proofs.Common.{◌∷◌, ◌+◌, List, ℕ, drop, sym, ap, ◌∙◌, arith}
use Rattle.std.proofs.lemmas.List.{drop_more}
use Rattle.rule_model.specs.declared.tables.Store.{Store}
use Rattle.decompile_program.specs.Names.{named_stores}
use Rattle.decompile_program.proofs.Calls.{next_names}
use Rattle.std.proofs.lemmas.Grind.{common_steps}
use Rattle.decompile_program.proofs.naming.store_names.Goals as goal

pub loop-number-preserved : goal.loop-number-preserved
loop-number-preserved c =
    let xs : List Store = c.args.stores.now in
    let store : Store = c.index-stores-number.result in
    let n : ℕ = c.loop-number.number in
    next_names (named_stores c.args.file.now) _ c.loop-number.naming.free.now c.store_name.new.self.free.now c.loop-number.naming.earlier c.store_name.new.self.earlier n store (drop n xs) (drop (n + 1) xs)
    c.loop-number.names.items c.push.new.self.items c.in_ok-name.name c.is_written-written.result
    c.is_written-written.ensures c.in_ok-name.ensures.name c.in_ok-name.ensures.left c.in_ok-name.ensures.met c.in_ok-push.ensures.items
    (drop_more xs n store c.loop-number-test.true ∙ ap (λ (s : Store). s ∷ drop (n + 1) xs) (sym c.index-stores-number.is)) c.loop-number.invariant

pub returns : goal.returns
returns c = grind (arith, common_steps)
