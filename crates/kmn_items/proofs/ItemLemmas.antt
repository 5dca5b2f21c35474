-- Items that are read one after the other.
use Rattle.std.proofs.Common.{◌≡◌, ℕ, zero, suc, ◌+◌, ◌<◌, List, [], ◌∷◌, ◌++◌, length, drop, refl, sym, ap, subst, ◌∙◌, append_assoc, arith}
use Rattle.std.specs.Prelude.{Result, Ok, Err}
use Rattle.std.specs.Result.{IsErrAnd}
use Rattle.rule_model.specs.declared.program.SrcItem.{SrcItem}
use Rattle.kmn_items.specs.declared.syntax.TokenRefusal.{TokenRefusal}
use Rattle.kmn_items.specs.declared.syntax.LineError.{LineError}
use Rattle.kmn_items.specs.declared.syntax.LineError.TheVariants.{Refused, Memory}
use Rattle.kmn_items.specs.declared.syntax.Where.{Where}
use Rattle.kmn_items.specs.declared.syntax.Seen.{Seen}
use Rattle.kmn_items.specs.declared.syntax.Taken.{Taken}
use Rattle.kmn_items.specs.TokenTexts.{LineToken, Reads}
use Rattle.kmn_items.specs.Item.{read_item, read_items, prepend, then_items, last_item}

-- tokens that an item has used are skipped
pub items_skip : (place : Where) (seen : Seen) (last skip at : ℕ) (tokens : List LineToken)
    → read_items place seen last skip at tokens ≡ read_items place seen last 0 (at + skip) (drop skip tokens)
items_skip place seen last zero at [] = refl
items_skip place seen last (suc skip) at [] = refl
items_skip place seen last zero at (token ∷ tokens) =
    let same : at ≡ at + 0 = omega arith in ap (λ n. read_items place seen last 0 n (token ∷ tokens)) same
items_skip place seen last (suc skip) at (token ∷ tokens) =
    let same : (at + 1) + skip ≡ at + suc skip = omega arith in
    items_skip place seen last skip (at + 1) tokens ∙ ap (λ n. read_items place seen last 0 n (drop skip tokens)) same

pub prepend_prepend : (first second : List SrcItem) (rest : Result (List SrcItem) TokenRefusal) → prepend first (prepend second rest) ≡ prepend (first ++ second) rest
prepend_prepend first second (Ok items) = ap Ok (sym (append_assoc first second items))
prepend_prepend first second (Err fault) = refl

-- an item is followed by the items of the remaining tokens
pub items_step : (place : Where) (seen : Seen) (last at : ℕ) (items : List SrcItem) (tokens : List LineToken) (taken : Taken)
    → 0 < length tokens → read_item place seen last at tokens ≡ Ok taken
    → prepend items (read_items place seen last 0 at tokens)
    ≡ prepend (items ++ taken.items) (read_items place taken.seen last 0 (at + (1 + taken.more)) (drop (1 + taken.more) tokens))
items_step place seen last at items [] taken some read = absurd (omega (arith, some))
items_step place seen last at items (token ∷ tokens) taken some read =
    let place_is : (at + 1) + taken.more ≡ at + (1 + taken.more) = omega arith in
    let more_is : suc taken.more ≡ 1 + taken.more = omega arith in
    let rest = items_skip place taken.seen last taken.more (at + 1) tokens
    ∙ (λ j. read_items place taken.seen last 0 (place_is j) (drop (more_is j) (token ∷ tokens))) in
    ap (λ r. prepend items (then_items r (λ (k : Taken). read_items place k.seen last k.more (at + 1) tokens))) read
    ∙ prepend_prepend items taken.items (read_items place taken.seen last taken.more (at + 1) tokens)
    ∙ ap (prepend (items ++ taken.items)) rest

-- if an item is refused, so are all items
pub items_stop : (place : Where) (seen : Seen) (last at : ℕ) (items : List SrcItem) (tokens : List LineToken) (error : LineError)
    → 0 < length tokens → Reads (read_item place seen last at tokens) (Err error)
    → Reads (prepend items (read_items place seen last 0 at tokens)) (Err error)
items_stop place seen last at items [] error some read = absurd (omega (arith, some))
items_stop place seen last at items (token ∷ tokens) Memory some read = tt
items_stop place seen last at items (token ∷ tokens) (Refused fault) some read =
    ap (λ r. prepend items (then_items r (λ (k : Taken). read_items place k.seen last k.more (at + 1) tokens))) read

-- the result for an error is this error
pub passed_on : {A : Type 0} (read : Result A TokenRefusal) (error : LineError) (answer : Result A LineError)
    → IsErrAnd answer (λ given. given ≡ error) → Reads read (Err error) → Reads read answer
passed_on read error (Ok value) is says = absurd is
passed_on read error (Err given) is says = subst (λ (t : LineError). Reads read (Err t)) (sym is) says

-- the last item after an item is appended
pub last_item_push : (none : TokenRefusal) (items : List SrcItem) (item : SrcItem) → last_item none (items ++ item ∷ []) ≡ Ok item
last_item_push none [] item = refl
last_item_push none (first ∷ []) item = refl
last_item_push none (first ∷ second ∷ items) item = last_item_push none (second ∷ items) item
