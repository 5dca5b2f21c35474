use Rattle.std.proofs.Common.{◌≡◌, ◌+◌, ◌∷◌, ◌++◌, length, take, drop, encode_utf8, encode_utf8_all, ap, sym, ◌∙◌, arith}
use Rattle.std.proofs.lemmas.List.{drop_more, length-append}
use Rattle.curlew_calls.specs.Numbers.{written}
use Rattle.curlew_calls.proofs.Writing.{put_at}
use Rattle.curlew_calls.proofs.numbers.put_utf8.Goals as goal

pub loop-c-preserved : goal.loop-c-preserved
loop-c-preserved c =
    let p = c.loop-c.end in let i = c.loop-c.c-index in let room = c.loop-c.room in let xs = c.args.text.now in let ch = c.c-item.result in
    let rest = encode_utf8_all (drop (i + 1) xs) in let q = p + c.put_character-end.result in
    let seen : drop i xs ≡ ch ∷ drop (i + 1) xs = drop_more xs i ch c.loop-c-test.true ∙ ap (λ m. m ∷ drop (i + 1) xs) (sym c.c-item.is) in
    let now : encode_utf8_all (drop i xs) ≡ encode_utf8 ch ++ rest = ap encode_utf8_all seen in
    record {
      few = omega (arith, c.loop-c.invariant.few, c.put_character-end.ensures.few);
      whole = omega (arith, c.loop-c.invariant.whole, c.put_character-end.ensures.length, ap length now, length-append (encode_utf8 ch) rest);
      same = ap (λ r. take q r ++ written rest (drop q r)) c.put_character-end.ensures.room
          ∙ put_at p q room (encode_utf8 ch) rest (ap (λ m. p + m) c.put_character-end.ensures.length)
          ∙ ap (λ all. take p room ++ written all (drop p room)) (sym now) ∙ c.loop-c.invariant.same;
    }
