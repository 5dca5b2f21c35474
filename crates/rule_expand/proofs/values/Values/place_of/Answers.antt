use Rattle.std.proofs.Common.{ℕ, List, ap, ◌∙◌, Bor}
use Rattle.std.specs.Prelude.{position}
use Rattle.std.specs.Str.{bytes_eq}
use Rattle.store_table.proofs.TextSets.{place_by_text}
use Rattle.rule_expand.proofs.values.Values.place_of.Goals as goal

pub returns : goal.returns
returns c =
    c.get_index_of.ensures.index
    ∙ (place_by_text (λ (v : Bor (List ℕ)). v.now) c.self.inside.found.keys c.args.value.now
    ∙ ap (position (λ known. bytes_eq known c.args.value.now)) c.self.view_is)
