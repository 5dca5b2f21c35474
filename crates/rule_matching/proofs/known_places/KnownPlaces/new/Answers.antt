use Rattle.std.proofs.Common.{◌≡◌, ◌∙◌, List, replicate, slice_get, sym, ap, arith, rules}
use Rattle.rule_matching.specs.declared.known_places.StorePlaces.{StorePlaces}
use Rattle.rule_matching.specs.KnownPlaces.{known_of}
use Rattle.rule_matching.proofs.Remembering.{each_is_the_one, blanks_are_unknown}
use Rattle.rule_matching.proofs.known_places.KnownPlaces.new.Goals as goal

pub invariant_of-result : goal.invariant_of-result
invariant_of-result c = λ n places is.
    let made : c.in_ok-vec.field-0.items ≡ replicate c.args.stores c.blank.result = c.in_ok-vec.ensures.items_if_clones_equal (λ y clone. search rules) in
    let same : c.blank.result ≡ places = each_is_the_one c.args.stores n c.blank.result places (sym (ap (λ (xs : List StorePlaces). slice_get xs n) made) ∙ is) in
    let asked : places.asked ≡ 0 = sym (ap (λ (q : StorePlaces). q.asked) same) ∙ c.blank.ensures.asked in
    omega arith

pub returns-clause-unknown : goal.returns-clause-unknown
returns-clause-unknown c = λ store distance.
    let made : c.in_ok-vec.field-0.items ≡ replicate c.args.stores c.blank.result = c.in_ok-vec.ensures.items_if_clones_equal (λ y clone. search rules) in
    ap (λ (xs : List StorePlaces). known_of 0 (slice_get xs store) distance) made ∙ blanks_are_unknown 0 c.args.stores c.blank.result c.blank.ensures.blank store distance
