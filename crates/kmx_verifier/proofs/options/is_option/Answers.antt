use Rattle.std.proofs.Common.{◌≡◌, ◌∙◌, rules}
use Rattle.std.specs.List.{list_any}
use Rattle.kmx_verifier.specs.Options.{used_in_group}
use Rattle.kmx_verifier.proofs.NamedOptions.{options_used}
use Rattle.kmx_verifier.proofs.options.is_option.Goals as goal

pub returns : goal.returns
returns c =
    let is : c.groups_use.result ≡ list_any (λ group. used_in_group c.args.store group) c.args.file.now.groups = search rules in
    is ∙ options_used c.args.file.now c.args.store
