use Rattle.std.proofs.Common.{◌≡◌, ℕ, ◌+◌, [], ◌∷◌, ◌++◌, length, take, drop, drop-cons, add-one, get_or, List, Option, None, ap, sym, ◌∙◌, arith}
use Rattle.std.proofs.lemmas.List.{length-append, take-append-drop}
use Rattle.play_session.specs.Changes.{options_from}
use Rattle.curlew_calls.specs.Numbers.{written}
use Rattle.curlew_calls.proofs.OptionPlaces.{option_and_more, no_more_options}
use Rattle.curlew_calls.proofs.Writing.{put_at}
use Rattle.curlew_calls.proofs.numbers.put_options.Goals as goal

pub returns-clause-length : goal.returns-clause-length
returns-clause-length c =
    let none = ap length (no_more_options c.loop-store.store c.args.numbers.now (omega (arith, c.loop-store-test.false, c.requires))) in
    omega (arith, c.loop-store.invariant.whole, none)

pub returns-clause-room : goal.returns-clause-room
returns-clause-room c =
    let p = c.loop-store.count in let room = c.loop-store.room in
    let none = no_more_options c.loop-store.store c.args.numbers.now (omega (arith, c.loop-store-test.false, c.requires)) in
    sym (take-append-drop p room)
    ∙ sym (ap (λ left. take p room ++ written left (drop p room)) none)
    ∙ c.loop-store.invariant.same

pub loop-store-preserved : goal.loop-store-preserved
loop-store-preserved c =
    let p = c.loop-store.count in let i = c.loop-store.store in let room = c.loop-store.room in let xs = c.args.numbers.now in
    let number : Option ℕ = get_or xs i None in let q = p + c.put_option-count.result in
    let one : List ℕ = options_from i (number ∷ []) in let rest : List ℕ = options_from (i + 1) (drop (i + 1) xs) in
    let seen : drop i xs ≡ number ∷ drop (i + 1) xs = rw add-one (drop-cons xs i None (omega (arith, c.loop-store-test.true, c.requires))) in
    let now : options_from i (drop i xs) ≡ one ++ rest = ap (options_from i) seen ∙ option_and_more i number (drop (i + 1) xs) in
    record {
      few = omega (arith, c.loop-store.invariant.few, c.put_option-count.ensures.few);
      whole = omega (arith, c.loop-store.invariant.whole, c.put_option-count.ensures.length, ap length now, length-append one rest);
      same = ap (λ r. take q r ++ written rest (drop q r)) c.put_option-count.ensures.room
          ∙ put_at p q room one rest (ap (λ m. p + m) c.put_option-count.ensures.length)
          ∙ ap (λ all. take p room ++ written all (drop p room)) (sym now) ∙ c.loop-store.invariant.same;
    }
