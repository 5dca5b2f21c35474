use Rattle.std.proofs.Common.{◌≡◌, ◌∙◌, ◌⊎◌, ◌<◌, List, length, set, slice_get, sym, ap, subst, arith, rules}
use Rattle.std.specs.Prelude.{Some}
use Rattle.std.proofs.lemmas.Option.{slice_get-get_or}
use Rattle.rule_matching.specs.declared.known_places.StorePlaces.{StorePlaces}
use Rattle.rule_matching.specs.KnownPlaces.{Remembered, known_of, known_place}
use Rattle.rule_matching.proofs.Remembering.{only_this_is_new, others_stay_remembered, this_is_known}
use Rattle.rule_matching.proofs.known_places.KnownPlaces.remember.Goals as goal

pub returns-then-distance-lt-WINDOW_ITEMS-clause-only : goal.returns-then-distance-lt-WINDOW_ITEMS-clause-only
returns-then-distance-lt-WINDOW_ITEMS-clause-only c = λ s d p known.
    let stores : List StorePlaces = c.self.inside.stores.items in
    let before : StorePlaces = c.index_mut.result.now in
    let within : c.args.store < length stores = omega arith in
    let was : slice_get stores c.args.store ≡ Some before = slice_get-get_or stores c.args.store before within ∙ ap Some (sym c.index_mut.ensures.value) in
    subst (λ (m : Remembered). (known_place m s d ≡ Some p) ⊎ ((s ≡ c.args.store) × (d ≡ c.args.distance) × (p ≡ c.args.place))) c.self.view_is
    (only_this_is_new c.self.inside.choice c.args.store c.args.distance c.args.place stores before c.write.new.self within was (c.write.ensures.written ∙ c.cell_of.ensures) c.write.ensures.others s d p known)

pub returns-then-distance-lt-WINDOW_ITEMS-clause-others : goal.returns-then-distance-lt-WINDOW_ITEMS-clause-others
returns-then-distance-lt-WINDOW_ITEMS-clause-others c = λ s d other.
    let stores : List StorePlaces = c.self.inside.stores.items in
    let before : StorePlaces = c.index_mut.result.now in
    let within : c.args.store < length stores = omega arith in
    let was : slice_get stores c.args.store ≡ Some before = slice_get-get_or stores c.args.store before within ∙ ap Some (sym c.index_mut.ensures.value) in
    let stay : known_of c.self.inside.choice (slice_get (set stores c.args.store c.write.new.self) s) d ≡ known_of c.self.inside.choice (slice_get stores s) d =
    others_stay_remembered c.self.inside.choice c.args.store c.args.distance stores before c.write.new.self within was c.write.ensures.others s d other in
    stay ∙ ap (λ (m : Remembered). known_place m s d) c.self.view_is

pub returns-then-distance-lt-WINDOW_ITEMS-clause-known : goal.returns-then-distance-lt-WINDOW_ITEMS-clause-known
returns-then-distance-lt-WINDOW_ITEMS-clause-known c = λ room near.
    let within : c.args.store < length c.self.inside.stores.items = omega arith in
    this_is_known c.self.inside.choice c.args.store c.args.distance c.self.inside.stores.items c.write.new.self within ∙ c.write.ensures.written ∙ c.cell_of.ensures

pub returns-then-distance-lt-WINDOW_ITEMS-clause-room : goal.returns-then-distance-lt-WINDOW_ITEMS-clause-room
returns-then-distance-lt-WINDOW_ITEMS-clause-room c = search rules

pub returns-else-store-len-clause-only : goal.returns-else-store-len-clause-only
returns-else-store-len-clause-only c = search rules

pub returns-else-store-len-clause-known : goal.returns-else-store-len-clause-known
returns-else-store-len-clause-known c = search rules

pub returns-else-store-len-clause-others : goal.returns-else-store-len-clause-others
returns-else-store-len-clause-others c = search rules

pub returns-else-store-len-clause-room : goal.returns-else-store-len-clause-room
returns-else-store-len-clause-room c = search rules
