use Rattle.std.proofs.Common.{◌≡◌, ◌∙◌, ◌++◌, ◌∷◌, ◌+◌, sym, subst, List, ℕ, [], slice_index_or, arith}
use Rattle.std.proofs.lemmas.List.{get_or_default}
use Rattle.rule_index.specs.Values.{known_in, IsNumbered}
use Rattle.rule_index.proofs.Numbering.{AreKnown}
use Rattle.rule_index.proofs.Numbering.{one_more, numbered_all}
use Rattle.rule_index.proofs.values.value_numbers.Goals as goal

pub loop-place-preserved : goal.loop-place-preserved
loop-place-preserved c =
    let n : ℕ = c.loop-place.place in
    let values : List (List ℕ) = c.args.values.now in
    let here : c.as_slice.result.now ≡ slice_index_or values n []
    = c.as_slice.ensures ∙ c.index-values-place.is ∙ get_or_default values n _ [] (omega arith) in
    let number : IsNumbered (known_in c.loop-place.known) (known_in c.numbered.new.known) (slice_index_or values n []) n c.in_ok-number.number
    = subst (λ (v : List ℕ). IsNumbered (known_in c.loop-place.known) (known_in c.numbered.new.known) v n c.in_ok-number.number) here c.in_ok-number.ensures in
    let more : AreKnown values (known_in c.numbered.new.known) (c.loop-place.numbers.items ++ c.in_ok-number.number ∷ []) (n + 1)
    = one_more values _ _ c.loop-place.numbers.items n c.in_ok-number.number (omega arith) c.loop-place.invariant number in
    subst (λ (xs : List ℕ). AreKnown values (known_in c.numbered.new.known) xs (n + 1)) (sym c.in_ok-push.ensures.items) more

pub returns : goal.returns
returns c = numbered_all c.args.values.now (known_in c.loop-place.known) c.loop-place.numbers.items (subst (λ (n : ℕ). AreKnown c.args.values.now (known_in c.loop-place.known) c.loop-place.numbers.items n) (omega arith) c.loop-place.invariant)
