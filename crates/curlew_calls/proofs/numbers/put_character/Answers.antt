use Rattle.std.proofs.Common.{◌≡◌, ◌-◌, ◌++◌, length, take, drop, encode_utf8, ap, sym, ◌∙◌, arith}
use Rattle.curlew_calls.specs.Numbers.{written}
use Rattle.curlew_calls.proofs.Writing.{put_part, put_past}
use Rattle.curlew_calls.proofs.numbers.put_character.Goals as goal
use Rattle.curlew_calls.proofs.numbers.put_character.Goals.{then-place-room, else-place-room}

pub returns-clause-room : goal.returns-clause-room
returns-clause-room c =
    let p = c.args.place in let room = c.args.room.now in let bytes = c.as_bytes-utf8.result.now in
    let same : bytes ≡ encode_utf8 c.args.c = c.as_bytes-utf8.ensures.value ∙ c.encode_utf8.ensures.value in
    elim c.if-place-room.branch [
      | then-place-room w ↦ w.room-is ∙ put_part p (length room - p) room bytes w.put_bytes.new.room (omega (arith, w.if-place-room.true)) w.put_bytes.ensures.room
          ∙ ap (λ all. take p room ++ written all (drop p room)) same
      | else-place-room w ↦ w.room-is ∙ sym (put_past p (encode_utf8 c.args.c) room (omega arith))
    ]
