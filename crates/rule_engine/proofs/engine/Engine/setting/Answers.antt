use Rattle.std.proofs.Common.{◌≡◌, ◌<◌, ℕ, length, Option, ◌∙◌, subst, arith}
use Rattle.std.specs.Prelude.{MatchOption, option_and_then, position}
use Rattle.rule_model.specs.declared.tables.Tables.{Tables}
use Rattle.rule_model.specs.Content.{option_number}
use Rattle.rule_model.specs.Event.{has_name}
use Rattle.rule_model.specs.Keyboard.{Numbered}
use Rattle.rule_model.specs.Plain.{option_names}
use Rattle.rule_model.specs.Tab.{tab}
use Rattle.option_store.specs.Cells.{changed, host_cell}
use Rattle.rule_engine.specs.Event.{HoldTheSame}
use Rattle.rule_engine.specs.Engine.{EngineState, engine_with, option_named}
use Rattle.rule_engine.proofs.Engines.{values_set_engine}
use Rattle.std.proofs.lemmas.Grind.{common_steps}
use Rattle.rule_engine.proofs.engine.Engine.setting.Goals as goal

pub set_option-requires-clause-store : goal.set_option-requires-clause-store
set_option-requires-clause-store c =
    subst (λ (found : Option ℕ). MatchOption found (Unit {0}) (λ store. store < length (tab c.deref-indexed.result.now).stores)) c.in-Some.is c.in_ok-named.ensures.within

pub returns-clause-engine : goal.returns-clause-engine
returns-clause-engine c =
    let found : c.in-Some.store < length (tab c.deref-indexed.result.now).stores
    = subst (λ (found : Option ℕ). MatchOption found (Unit {0}) (λ store. store < length (tab c.deref-indexed.result.now).stores)) c.in-Some.is c.in_ok-named.ensures.within in
    let within : c.in-Some.store < length (tab c.self.inside.indexed.value).stores
    = subst (λ (tables : Tables). c.in-Some.store < length (tab tables).stores) c.deref-indexed.ensures found in
    let few : c.in-Some.store < length c.self.inside.workspace.options = omega (arith, within, c.self.invariant.stores) in
    let engine : Tables → EngineState = λ (tables : Tables). engine_with tables c.self.inside.workspace.cache.items c.self.inside.workspace.options c.self.inside.workspace.inserted.text c.self.inside.workspace.chosen.items in
    let named : option_number (tab c.deref-indexed.result.now).stores (Numbered c.in-Some.store) ≡ option_named c.args.name.now (engine c.deref-indexed.result.now)
    = subst (λ (found : Option ℕ). option_and_then (λ store. option_number (tab c.deref-indexed.result.now).stores (Numbered store)) found
    ≡ position (has_name c.args.name.now) (option_names (tab c.deref-indexed.result.now).stores)) c.in-Some.is c.in_ok-named.ensures.option in
    let here = subst (λ (tables : Tables). option_number (tab tables).stores (Numbered c.in-Some.store) ≡ option_named c.args.name.now (engine tables)) c.deref-indexed.ensures named in
    let option = subst (λ (e : EngineState). option_number (tab e.tables).stores (Numbered c.in-Some.store) ≡ option_named c.args.name.now e) c.self.view_is here in
    let after = c.set_option.new.self in
    let same : HoldTheSame (tab c.self.inside.indexed.value).stores after.options (changed c.in-Some.store (host_cell c.args.value.now) c.self.inside.workspace.options)
    = subst (λ (tables : Tables). HoldTheSame (tab tables).stores after.options (changed c.in-Some.store (host_cell c.args.value.now) c.self.inside.workspace.options)) c.deref-indexed.ensures c.in_ok-set_option.ensures.options in
    (λ i. engine_with c.self.inside.indexed.value (c.in_ok-set_option.ensures.cache i).items after.options (c.in_ok-set_option.ensures.inserted i).text (c.in_ok-set_option.ensures.chosen i).items)
    ∙ values_set_engine c.self.inside.indexed.value c.self.inside.workspace.cache.items c.self.inside.workspace.options after.options c.self.inside.workspace.inserted.text c.self.inside.workspace.chosen.items c.in-Some.store
    c.args.name.now c.args.value.now c.args.self.now few same c.self.view_is option

pub returns-in_default-clause-found : goal.returns-in_default-clause-found
returns-in_default-clause-found c = grind (arith, common_steps)

pub returns-in_default-clause-engine : goal.returns-in_default-clause-engine
returns-in_default-clause-engine c = grind (arith, common_steps)

pub returns-clause-found : goal.returns-clause-found
returns-clause-found c = grind (arith, common_steps)
