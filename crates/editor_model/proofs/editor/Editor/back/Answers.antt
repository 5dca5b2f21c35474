use Rattle.std.proofs.Common.{◌≡◌, ℕ, ◌≤◌, List, length, take, ap, arith}
use Rattle.std.proofs.lemmas.List.{length-take-le}
use Rattle.editor_model.specs.Text.{EditorText}
use Rattle.editor_model.proofs.Moves.{right_after_back}
use Rattle.editor_model.proofs.editor.Editor.back.Goals as goal

pub returns-clause-right : goal.returns-clause-right
returns-clause-right c =
    let xs : List ℕ = c.self.inside.cells.items in
    let count : length (take c.self.inside.start xs) ≡ c.self.inside.start = length-take-le c.self.inside.start xs (omega arith) in
    let few : c.args.n ≤ c.self.inside.start = omega (arith, ap (λ (t : EditorText). length t.left) c.self.view_is) in
    rw (c.copy_within.ensures.items, ← c.self.view_is) (right_after_back xs c.self.inside.start c.self.inside.end c.args.n few (omega arith) (omega arith))
