use Rattle.std.proofs.Common.{rules, ◌≡◌, ℕ, ◌-◌, length, sym, ◌∙◌, ap, subst}
use Rattle.std.proofs.lemmas.List.Elements.{All-tail}
use Rattle.rule_model.specs.declared.tables.Tables.{Tables}
use Rattle.rule_model.specs.Tab.{tab}
use Rattle.rule_engine.specs.Event.{AllChangeOwn, ChangesOwn, EventValue}
use Rattle.rule_engine.proofs.Stores.{behind_own, layer_before}
use Rattle.rule_engine.proofs.entering.+acts.Goals as goal

pub act-loop-output-preserved : goal.act-loop-output-preserved
act-loop-output-preserved t c =
    let count : ℕ = length c.loop-output.event.tables.stores in
    let all = subst (AllChangeOwn count) c.in-Some.ensures.steps c.loop-output.invariant.own in
    record {
      state = search rules;
      own = subst (λ (event : EventValue). AllChangeOwn (length event.tables.stores) c.next.new.self) (sym c.act_next.ensures)
          (All-tail (ChangesOwn count) c.in-Some.output c.next.new.self all);
    }

pub act_one-set_current-requires-clause-store : goal.act_one-set_current-requires-clause-store
act_one-set_current-requires-clause-store t c =
    let own = subst (ChangesOwn (length c.args.event.now.tables.stores)) c.in-Set.is c.requires in
    behind_own c.args.event.now.tables c.in-Set.store own.0

pub act_one-set_current-requires-in-SetSystem-clause-store : goal.act_one-set_current-requires-in-SetSystem-clause-store
act_one-set_current-requires-in-SetSystem-clause-store t c =
    let place : c.layer.result ≡ length (tab c.args.event.now.tables).stores - 2
    = c.layer.ensures ∙ ap (λ (tables : Tables). length (tab tables).stores - 2) c.indexed.ensures.value in
    layer_before c.args.event.now.tables c.layer.result place
