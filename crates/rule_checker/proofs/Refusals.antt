-- The first refusal over the passes.
use Rattle.std.proofs.Common.{◌≡◌, Option, None, Some, Ok, refl, ◌∙◌, arith}
use Rattle.std.specs.Option.{option_or}
use Rattle.kmn_base.specs.declared.refusals.Refusal.{Refusal}
use Rattle.rule_model.specs.declared.program.Program.{Program}
use Rattle.store_table.specs.First.{or_refusal}
use Rattle.store_table.specs.Names.{names_refusal}
use Rattle.store_table.specs.Numbering.{NameLists, lists_of, numbered}
use Rattle.item_checker.specs.Items.{items_refusal}
use Rattle.rule_checker.specs.Limits.{limits_refusal}
use Rattle.rule_checker.specs.Refused.{refused, start_refusal}

-- if the result is a value, there is no refusal
not_refused : {A : Type 0} (value answer : A) (refusal : Option Refusal) → or_refusal value refusal ≡ Ok answer → refusal ≡ None
not_refused value answer None is = refl
not_refused value answer (Some refusal) is = grind (arith, is)

-- a program with a start and with names is refused for its items or its limits
pub refused_later : (program : Program) (names : NameLists) (found : Option Refusal) → start_refusal program ≡ None → numbered program ≡ Ok names
    → option_or (items_refusal program) (limits_refusal program) ≡ found → refused program ≡ found
unfolding refused
refused_later program names found started named later =
    (λ j. option_or (started j) (option_or (not_refused (lists_of program) names (names_refusal program) named j) (option_or (items_refusal program) (limits_refusal program))))
    ∙ later
