use Rattle.std.proofs.Common.{◌≡◌, ◌++◌, ◌∷◌, [], length, length-append, map, reverse, sym, ap, ◌∙◌, arith}
use Rattle.text_host.specs.HostEntries.{on_field}
use Rattle.text_host.proofs.BracketLaws.{handed_on}
use Rattle.text_host.proofs.lines.on_fields.Goals as goal

pub loop-entry-smaller : goal.loop-entry-smaller
loop-entry-smaller c =
    let parts : c.loop-entry.entries ≡ c.pop.new.self ++ c.in-Some.entry ∷ [] = c.in-Some.ensures in
    omega (arith, ap length parts, length-append c.pop.new.self (c.in-Some.entry ∷ []))

pub loop-entry-preserved : goal.loop-entry-preserved
loop-entry-preserved c =
    let parts : c.loop-entry.entries ≡ c.pop.new.self ++ c.in-Some.entry ∷ [] = c.in-Some.ensures in
    (λ i. map on_field c.pop.new.self ++ reverse (c.in_ok-push.ensures.items i))
    ∙ (λ i. map on_field c.pop.new.self ++ reverse (c.loop-entry.all.items ++ c.on_field.ensures i ∷ []))
    ∙ sym (handed_on c.pop.new.self c.in-Some.entry c.loop-entry.all.items) ∙ ap (λ all. map on_field all ++ reverse c.loop-entry.all.items) (sym parts) ∙ c.loop-entry.invariant
