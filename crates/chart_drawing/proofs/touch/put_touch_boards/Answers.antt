use Rattle.std.proofs.Common.{◌≡◌, ℕ, List, [], ◌++◌, drop, sym, ◌∙◌, ap, append-nil, arith}
use Rattle.std.specs.String.{string_bytes}
use Rattle.chart_drawing.specs.Touch.{touch_boards}
use Rattle.chart_drawing.proofs.Touched.{boards_drawn}
use Rattle.chart_drawing.proofs.touch.put_touch_boards.Goals as goal

pub returns : goal.returns
returns c =
    let none : touch_boards c.loop-number.place (drop c.loop-number.number c.args.layers.now) (drop c.loop-number.number c.args.taps.now) ≡ []
    = boards_drawn c.loop-number.place c.loop-number.number c.args.layers.now c.args.taps.now (omega (arith, c.loop-number-test.false, c.min-number-end.ensures)) in
    sym (append-nil (string_bytes c.loop-number.text)) ∙ ap (λ (more : List ℕ). string_bytes c.loop-number.text ++ more) (sym none)
    ∙ c.loop-number.invariant
