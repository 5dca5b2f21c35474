use Rattle.std.proofs.Common.{◌≡◌, subst}
use Rattle.option_store.specs.Meaning.{option_values}
use Rattle.rule_model.specs.declared.tables.Tables.{Tables}
use Rattle.rule_model.specs.Content.{content}
use Rattle.rule_model.specs.Keyboard.{Numbered}
use Rattle.rule_model.specs.Tab.{tab}
use Rattle.rule_matching.specs.StoreValues.{elements_in}
use Rattle.rule_engine.specs.Engine.{EngineState}
use Rattle.rule_engine.proofs.engine.Engine.content.Goals as goal

pub returns : goal.returns
returns c =
    let here = subst (λ (t : Tables). elements_in c.content.result ≡ content (tab t).stores (option_values (tab t).stores c.self.inside.workspace.options) (Numbered c.args.store))
    c.deref.ensures c.content.ensures in
    subst (λ (e : EngineState). elements_in c.content.result ≡ content (tab e.tables).stores e.current (Numbered c.args.store)) c.self.view_is here
