use Rattle.std.proofs.Common.{sym, ◌∙◌, ap, arith}
use Rattle.rule_matching.proofs.StoreContents.{option_within}
use Rattle.play_session.specs.Changes.{are_of_one_store}
use Rattle.play_session.proofs.Comparing.{held_as_before}
use Rattle.play_session.proofs.changes.is_current.Goals as goal

pub current-requires : goal.current-requires
current-requires c =
    let within = option_within c.args.engine.now.tables c.args.store c.args.option c.requires in
    omega (arith, within, c.options.ensures.stores)

pub returns-then-are_of_one_store : goal.returns-then-are_of_one_store
returns-then-are_of_one_store c =
    let within = option_within c.args.engine.now.tables c.args.store c.args.option c.requires in
    let one = ap (are_of_one_store c.args.was.now.current) (sym c.current.ensures) ∙ sym c.are_of_one_store.ensures ∙ c.if-are_of_one_store.true in
    held_as_before c.args.engine.now c.options.result.now c.args.was.now c.args.store c.args.option c.requires
    (omega (arith, within, c.options.ensures.stores)) c.options.ensures.current one
