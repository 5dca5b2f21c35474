use Rattle.std.proofs.Common.{◌∙◌, ap, map}
use Rattle.indexed_tables.proofs.Sets.{number_found}
use Rattle.indexed_tables.proofs.store_sets.StoreSets.has.Goals as goal

pub returns : goal.returns
returns c = λ stores are.
    c.has_number.ensures
    ∙ number_found stores c.args.self.now (map (λ set. set.keys) c.as_slice.result.now) c.args.store c.number_of.result c.args.item
    (ap (map (λ set. set.keys)) c.as_slice.ensures.value ∙ c.self.view_is) c.number_of.ensures are
