-- Consecutive items can be separated again.
use Rattle.std.specs.Prelude.{◌≡◌, true, false, List, [], ◌∷◌, Option, None}
use Rattle.std.proofs.Common.{refl}
use Rattle.rule_model.specs.declared.program.SrcItem.{SrcItem}
use Rattle.kmn_items.specs.declared.syntax.Where.{Where}
use Rattle.kmn_items.specs.declared.syntax.Seen.{Seen}
use Rattle.kmn_items.specs.TokenTexts.{LineToken}
use Rattle.kmn_parser.specs.Printed.{printed}
use Rattle.kmn_parser.specs.Items.{spaced_items, joined_items}
use Rattle.kmn_parser.proofs.LineForms.{ends_word, AreSound}
use Rattle.kmn_parser.proofs.Forms.{ArePrinted}
use Rattle.kmn_parser.proofs.SoundItems.{item_sound}

pub joined-ends : (items : List SrcItem) → ends_word (printed (joined_items items)) ≡ true
joined-ends [] = refl
joined-ends (i ∷ items) = refl

pub joined-sound : (place : Where) (seen : Seen) (items : List SrcItem) → ArePrinted place seen items → AreSound false true (joined_items items)
joined-sound place seen [] ok = refl
joined-sound place seen (i ∷ items) (ok, stands, more) = item_sound place true true i (joined_items items) ok (joined-ends items) (joined-sound place _ items more)

pub spaced-sound : (place : Where) (seen : Seen) (items : List SrcItem) (rest : List (Option LineToken)) → ArePrinted place seen items → AreSound true true rest → AreSound true true (spaced_items items rest)
spaced-sound place seen [] rest ok sound = sound
spaced-sound place seen (i ∷ items) rest (ok, stands, more) sound = item_sound place true true i (None ∷ spaced_items items rest) ok refl (spaced-sound place _ items rest more sound)
