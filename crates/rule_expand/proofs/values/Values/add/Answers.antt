use Rattle.std.proofs.Common.{ℕ, [], ◌∷◌, List, map, ap, ◌∙◌, Bor}
use Rattle.std.specs.Str.{bytes_eq}
use Rattle.rule_model.specs.Tab.{distinct_onto}
use Rattle.store_table.proofs.TextSets.{inserted}
use Rattle.rule_expand.proofs.values.Values.add.Goals as goal

pub returns : goal.returns
returns c =
    ap (map (λ (v : Bor (List ℕ)). v.now)) c.in_ok-insert.ensures.keys
    ∙ (inserted (λ (v : Bor (List ℕ)). v.now) c.self.inside.found.keys c.args.value
    ∙ ap (λ values. distinct_onto bytes_eq values (c.args.value.now ∷ [])) c.self.view_is)
