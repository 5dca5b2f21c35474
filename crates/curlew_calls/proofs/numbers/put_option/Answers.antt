use Rattle.std.proofs.Common.{◌≡◌, ◌+◌, Bool, true, cond, [], ◌∷◌, ◌++◌, take, drop, slice_set, ap, sym, ◌∙◌, rules}
use Rattle.std.specs.Prelude.{is_some}
use Rattle.std.proofs.lemmas.List.{take-append-drop}
use Rattle.curlew_calls.specs.Numbers.{written}
use Rattle.curlew_calls.proofs.Writing.{put_next}
use Rattle.curlew_calls.proofs.numbers.put_option.Goals as goal

pub returns-then-place-room-clause-room : goal.returns-then-place-room-clause-room
returns-then-place-room-clause-room c =
    let p = c.args.place in let room = c.args.room.now in let n = c.args.store in
    let is : is_some c.args.number ≡ true = search rules in
    sym (take-append-drop (p + 1) (slice_set room p n)) ∙ put_next p room n [] c.if-place-room.true
    ∙ ap (λ (b : Bool). take p room ++ written (cond b (n ∷ []) []) (drop p room)) (sym is)
