use Rattle.std.proofs.Common.{◌≡◌, ◌≢◌, ◌∙◌, ◌<◌, ◌+◌, ◌∷◌, ◌++◌, [], ℕ, List, slice_index_or, length, rules, arith, subst, sym}
use Rattle.std.proofs.lemmas.List.{get_or_default}
use Rattle.rule_index.specs.declared.holding.Holding.{Holding}
use Rattle.rule_index.specs.declared.row.Row.{Row}
use Rattle.rule_index.proofs.Gathering.{ArePassed, none_passed, same_passed, first_passed, all_passed}
use Rattle.rule_index.proofs.holdings.put_firsts.Goals.{then-class-last+in_ok-push, else-class-last}
use Rattle.rule_index.proofs.holdings.put_firsts.Goals as goal

pub loop-row-init : goal.loop-row-init
loop-row-init c = λ stores index gathered. none_passed stores c.args.store c.args.places.now c.args.rows.now.items gathered

pub loop-row-preserved : goal.loop-row-preserved
loop-row-preserved c = λ stores index gathered.
    let store : ℕ = c.args.store in
    let places : List Row = c.args.places.now in
    let rows : List Holding = c.loop-row.rows.items in
    let count : ℕ = c.loop-row.row-index in
    let row : Row = c.row-item.result in
    let within : count < length places = omega arith in
    let at : (d : Row) → slice_index_or places count d ≡ row = λ d. get_or_default places count d row within ∙ sym c.row-item.is in
    let passed : ArePassed stores store places rows count c.loop-row.last = c.loop-row.invariant stores index gathered in
    elim c.if-class-last.branch [
      | then-class-last+in_ok-push w ↦
          let first : row.class ≢ c.loop-row.last = omega (arith, w.if-class-last.true, c.number-class.ensures.value) in
          let small : row.number < 65536 = subst (λ (r : Row). r.number < 65536) (at row) (c.requires.numbers count row within) in
          let made = first_passed stores store places rows count c.loop-row.last row index within at passed first (search rules) small in
          let last_is : row.class ≡ c.if-class-last.last = cc in
          let rows_are : rows ++ record { item = row.class; store = store; place = row.number } ∷ [] ≡ c.if-class-last.rows.items = cc (w.in_ok-push.ensures.items, c.number-class.ensures.value) in
          subst (λ (put : List Holding). ArePassed stores store places put (count + 1) c.if-class-last.last) rows_are
          (subst (λ (last : ℕ). ArePassed stores store places (rows ++ record { item = row.class; store = store; place = row.number } ∷ []) (count + 1) last) last_is made)
      | else-class-last w ↦
          let same : row.class ≡ c.loop-row.last = omega (arith, w.if-class-last.false, c.number-class.ensures.value) in
          let last_is : c.loop-row.last ≡ c.if-class-last.last = cc in
          let rows_are : rows ≡ c.if-class-last.rows.items = cc in
          subst (λ (put : List Holding). ArePassed stores store places put (count + 1) c.if-class-last.last) rows_are
          (subst (λ (last : ℕ). ArePassed stores store places rows (count + 1) last) last_is (same_passed stores store places rows count c.loop-row.last row index within at passed same))
    ]

pub returns : goal.returns
returns c = λ stores index gathered.
    all_passed stores c.args.store c.loop-row.last c.args.places.now c.loop-row.rows.items index
    (subst (λ (n : ℕ). ArePassed stores c.args.store c.args.places.now c.loop-row.rows.items n c.loop-row.last) (omega arith) (c.loop-row.invariant stores index gathered))
