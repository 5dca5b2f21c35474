use Rattle.std.proofs.Common.{rules, ◌≡◌, ◌+◌, ◌<◌, ◌∷◌, ◌++◌, length, get_or, take, drop, ap, sym, ◌∙◌, arith}
use Rattle.std.proofs.lemmas.List.{drop_more}
use Rattle.curlew_calls.specs.Numbers.{written}
use Rattle.curlew_calls.proofs.Writing.{put_next, put_done}
use Rattle.curlew_calls.proofs.numbers.put_characters.Goals as goal

pub loop-place-preserved : goal.loop-place-preserved
loop-place-preserved c =
    let p = c.loop-place.place in let room = c.loop-place.room in let xs = c.args.text.now in let n = c.index-text-place.result in let rest = (drop (p + 1) xs) in
    let within : p < length xs = search rules in
    let is : get_or xs p n ≡ n = search rules in
    record {
      room = search rules;
      same = put_next p room n rest (search rules) ∙ ap (λ all. take p room ++ written all (drop p room)) (sym (drop_more xs p n within ∙ ap (λ m. m ∷ rest) is)) ∙ c.loop-place.invariant.same;
    }

pub returns-clause-room : goal.returns-clause-room
returns-clause-room c = sym (put_done c.loop-place.place c.args.text.now c.loop-place.room (omega (arith, c.min-place-end.ensures, c.loop-place.invariant.room, c.loop-place-test.false))) ∙ c.loop-place.invariant.same
