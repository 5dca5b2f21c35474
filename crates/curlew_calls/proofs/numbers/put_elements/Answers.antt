use Rattle.std.proofs.Common.{rules, ◌≡◌, ◌+◌, ◌<◌, ◌∷◌, ◌++◌, length, get_or, take, drop, ap, sym, ◌∙◌, arith}
use Rattle.std.proofs.lemmas.List.{at_drop_more}
use Rattle.kmn_base.specs.declared.items.Element.TheVariants.{Char}
use Rattle.curlew_calls.specs.Numbers.{written, element_numbers, element_number}
use Rattle.curlew_calls.proofs.Writing.{put_next, put_done_mapped}
use Rattle.curlew_calls.proofs.numbers.put_elements.Goals as goal

pub loop-place-preserved : goal.loop-place-preserved
loop-place-preserved c =
    let p = c.loop-place.place in let room = c.loop-place.room in let xs = c.args.elements.now in let n = c.element_number.result in let rest = element_numbers (drop (p + 1) xs) in
    let within : p < length xs = search rules in
    let is : element_number (get_or xs p (Char 0)) ≡ n = search rules in
    record {
      room = search rules;
      same = put_next p room n rest (search rules) ∙ ap (λ all. take p room ++ written all (drop p room)) (sym (at_drop_more element_numbers xs p (Char 0) within ∙ ap (λ m. m ∷ rest) is)) ∙ c.loop-place.invariant.same;
    }

pub returns-clause-room : goal.returns-clause-room
returns-clause-room c = sym (put_done_mapped element_number c.loop-place.place c.args.elements.now c.loop-place.room (omega (arith, c.min-place-end.ensures, c.loop-place.invariant.room, c.loop-place-test.false))) ∙ c.loop-place.invariant.same
