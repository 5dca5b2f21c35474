use Rattle.std.proofs.Common.{rules, ◌≡◌, ◌++◌, take, drop, ap, ◌∙◌}
use Rattle.curlew_calls.proofs.Writing.{written_count}
use Rattle.curlew_calls.proofs.numbers.put_bytes.Goals as goal

pub returns-clause-room : goal.returns-clause-room
returns-clause-room c =
    let count = c.min-count.result in
    let copied : c.copy_from_slice.new.self ≡ take count c.args.bytes.now = search rules in
    ap (λ front. front ++ drop count c.args.room.now) copied ∙ written_count count c.args.bytes.now c.args.room.now c.min-count.ensures
