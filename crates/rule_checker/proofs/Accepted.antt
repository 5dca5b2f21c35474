-- What isn't refused of an accepted program, kind by kind of statement.
use Rattle.std.proofs.Common.{◌≡◌, true, [], ◌∷◌, None}
use Rattle.std.specs.List.{list_any}
use Rattle.std.specs.Option.{option_or}
use Rattle.std.proofs.lemmas.Bool.{not-false}
use Rattle.kmn_base.specs.declared.codes.Code.TheVariants.{C01}
use Rattle.kmn_base.proofs.Options.{option_or-none}
use Rattle.rule_model.specs.declared.program.Program.{Program}
use Rattle.rule_model.specs.Src.{is_unicode}
use Rattle.store_table.specs.First.{broken, earlier, first_of}
use Rattle.store_table.specs.Names.{stated, begin_refusal, store_refusal, group_refusal, rules_refusal, names_refusal}
use Rattle.store_table.specs.Known.{known}
use Rattle.item_checker.specs.Items.{items_refusal, store_refusal as items_store_refusal, rules_refusal as items_rules_refusal}
use Rattle.rule_checker.specs.Limits.{limits_refusal}
use Rattle.rule_checker.specs.Refused.{has_no_start, start_refusal, refused}
use Rattle.rule_checker.proofs.Unrefused.{none_earlier, none_at_line, none_broken}

-- for each kind of statement, none is refused for its names, and none for its items; no limit is passed
pub record IsUnrefused (program : Program) : Type 0 where
  pub start : list_any is_unicode program.begins ≡ true
  pub begins : first_of (begin_refusal (stated program)) [] program.begins ≡ None
  pub stores : first_of (store_refusal (stated program)) [] program.stores ≡ None
  pub groups : first_of group_refusal [] program.groups ≡ None
  pub rules : first_of (rules_refusal (stated program)) [] program.groups ≡ None
  pub store_items : first_of (items_store_refusal (known program)) [] program.stores ≡ None
  pub rule_items : first_of (items_rules_refusal (known program)) [] program.groups ≡ None
  pub limits : limits_refusal program ≡ None

pub unrefused : (program : Program) → refused program ≡ None → IsUnrefused program
unfolding refused names_refusal items_refusal
unrefused program h =
    let one = option_or-none (start_refusal program) (option_or (names_refusal program) (option_or (items_refusal program) (limits_refusal program))) h in
    let two = option_or-none (names_refusal program) (option_or (items_refusal program) (limits_refusal program)) one.1 in
    let three = option_or-none (items_refusal program) (limits_refusal program) two.1 in
    let begins = none_earlier (first_of (begin_refusal (stated program)) [] program.begins)
    (earlier (first_of (store_refusal (stated program)) [] program.stores) (earlier (first_of group_refusal [] program.groups) (first_of (rules_refusal (stated program)) [] program.groups))) two.0 in
    let stores = none_earlier (first_of (store_refusal (stated program)) [] program.stores)
    (earlier (first_of group_refusal [] program.groups) (first_of (rules_refusal (stated program)) [] program.groups)) begins.1 in
    let groups = none_earlier (first_of group_refusal [] program.groups) (first_of (rules_refusal (stated program)) [] program.groups) stores.1 in
    let items = none_earlier (first_of (items_store_refusal (known program)) [] program.stores) (first_of (items_rules_refusal (known program)) [] program.groups) three.0 in
    record {
      start = not-false (list_any is_unicode program.begins)
          (none_broken C01 (has_no_start program) [] (none_at_line 1 (broken ((C01, has_no_start program) ∷ [])) one.0)).0;
      begins = begins.0;
      stores = stores.0;
      groups = groups.0;
      rules = groups.1;
      store_items = items.0;
      rule_items = items.1;
      limits = three.1;
    }
