use Rattle.std.proofs.Common.{◌≡◌, ℕ, List, [], ◌++◌, drop, sym, ◌∙◌, ap, append-nil, arith}
use Rattle.std.specs.String.{string_bytes}
use Rattle.chart_drawing.specs.Touch.{touch_keys}
use Rattle.chart_drawing.proofs.Touched.{keys_drawn}
use Rattle.chart_drawing.proofs.touch.put_touch_keys.Goals as goal

pub returns : goal.returns
returns c =
    let none : touch_keys c.args.mods (drop c.loop-number.number c.args.keys.now) (drop c.loop-number.number c.args.cells.now) ≡ []
    = keys_drawn c.args.mods c.loop-number.number c.args.keys.now c.args.cells.now (omega (arith, c.loop-number-test.false, c.min-number-end.ensures)) in
    sym (append-nil (string_bytes c.loop-number.text)) ∙ ap (λ (more : List ℕ). string_bytes c.loop-number.text ++ more) (sym none)
    ∙ c.loop-number.invariant
