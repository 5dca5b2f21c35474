use Rattle.std.proofs.Common.{◌≡◌, ◌∙◌, length, refl, ap, arith}
use Rattle.kmn_base.proofs.SmallBytes.{bytes_small}
use Rattle.decompile_program.specs.Items.{Names}
use Rattle.kmx_decompiler.specs.Places.{group_causes}
use Rattle.kmx_decompiler.specs.Least.{lesser}
use Rattle.kmx_decompiler.proofs.LeastPlaces.{least_is}
use Rattle.kmx_decompiler.proofs.RecordPlaces.{stores_near, groups_near}
use Rattle.kmx_decompiler.proofs.places.least_cause.Goals as goal

pub in_stores-requires-clause-near : goal.in_stores-requires-clause-near
in_stores-requires-clause-near c =
    let near = stores_near c.args.bytes.now c.args.file.now (bytes_small _ c.type_inv.bytes) c.requires.valid c.requires.tables in
    let all : c.elements.result.now ≡ c.args.file.now.stores = c.elements.ensures ∙ ap (λ (names : Names). names.elements) c.requires.names in
    omega (arith, near, c.word_at-stores.ensures, ap length all)

pub in_groups-requires : goal.in_groups-requires
in_groups-requires c =
    rw c.word_at-groups.ensures
    (groups_near c.args.bytes.now c.args.file.now (bytes_small _ c.type_inv.bytes) c.requires.valid c.requires.tables)

pub returns : goal.returns
returns c =
    least_is c.args.bytes.now c.args.file.now c.args.options.now c.args.names.now c.word_at-stores.result c.word_at-groups.result
    c.elements.result.now c.args.file.now.groups c.in_ok-least.least c.in_groups.result c.requires.tables c.requires.options c.requires.names
    c.word_at-stores.ensures c.word_at-groups.ensures (c.elements.ensures ∙ ap (λ (names : Names). names.elements) c.requires.names) refl c.in_ok-least.ensures
    (c.in_groups.ensures
    ∙ ap (λ (names : Names). lesser (group_causes c.args.bytes.now names c.word_at-groups.result c.args.file.now.groups) c.in_ok-least.least) c.in_ok-judged.ensures)
