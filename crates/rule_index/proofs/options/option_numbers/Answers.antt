use Rattle.std.proofs.Common.{[], ◌∷◌, ◌++◌, ◌≡◌, ◌∙◌, Bool, IfOk, List, Option, ap, subst, true, ℕ}
use Rattle.rule_model.specs.Tab.{tab_options}
use Rattle.indexed_tables.specs.OptionFlags.{flag_numbers}
use Rattle.indexed_tables.proofs.OptionFlags.{numbers_by_flags}
use Rattle.rule_index.proofs.options.option_numbers.Goals as goal

pub returns : goal.returns
returns c =
    subst (λ (numbers : List (Option ℕ)). IfOk c.numbers_by_flags.result (λ made. made.items ≡ numbers))
    (ap (λ (flags : List Bool). flag_numbers 0 (flags ++ true ∷ true ∷ [])) c.in_ok-flags.ensures ∙ numbers_by_flags (tab_options c.args.file.now) c.args.file.now.stores)
    c.numbers_by_flags.ensures
