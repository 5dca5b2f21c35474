use Rattle.std.proofs.Common.{◌≡◌, ℕ, List, [], ◌++◌, drop, sym, ◌∙◌, ap, append-nil, arith}
use Rattle.std.specs.String.{string_bytes}
use Rattle.chart_drawing.specs.Boards.{key_drawings}
use Rattle.chart_drawing.proofs.Drawings.{drawn_all}
use Rattle.chart_drawing.proofs.drawing.put_keys.Goals as goal

pub returns : goal.returns
returns c =
    let none : key_drawings c.args.mods (drop c.loop-number.number c.args.keys.now) (drop c.loop-number.number c.args.cells.now) ≡ []
    = drawn_all c.args.mods c.loop-number.number c.args.keys.now c.args.cells.now (omega (arith, c.loop-number-test.false, c.min-number-end.ensures)) in
    sym (append-nil (string_bytes c.loop-number.text)) ∙ ap (λ (more : List ℕ). string_bytes c.loop-number.text ++ more) (sym none)
    ∙ c.loop-number.invariant
