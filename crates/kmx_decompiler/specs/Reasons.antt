-- The printed form of the reason why a file has no text.
use Rattle.std.specs.Prelude.{ℕ, List, [], ◌∷◌, codes}
use Rattle.std.specs.List.{concat}
use Rattle.std.specs.Fmt.{decimal}
use Rattle.kmx_decompiler.specs.declared.no_spelling.NoSpelling.{NoSpelling}
use Rattle.kmx_decompiler.specs.declared.no_spelling.NoSpelling.TheVariants.{Order, Unspelled, TooLarge, TooManyStores, TooManyElements}

-- the record that is out of order, the place of what no source can express, or the number that is too large
unfoldable pub reason_text : NoSpelling → List ℕ
reason_text (Order group rule) = concat (codes "X1 group " ∷ decimal group ∷ codes " rule " ∷ decimal rule ∷ [])
reason_text (Unspelled at) = concat (codes "X2 at " ∷ decimal at ∷ [])
reason_text (TooLarge size) = concat (codes "X3 size " ∷ decimal size ∷ [])
reason_text (TooManyStores stores) = concat (codes "X3 stores " ∷ decimal stores ∷ [])
reason_text (TooManyElements elements) = concat (codes "X3 elements " ∷ decimal elements ∷ [])
