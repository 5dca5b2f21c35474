-- The items of a section are read as they are written.
use Rattle.std.proofs.Common.{◌≡◌, ℕ, ◌+◌, false, List, [], ◌∷◌, ◌++◌, length, Option, None, Some, refl, sym, ◌∙◌, ap, append_assoc}
use Rattle.std.specs.Prelude.{Ok, min}
use Rattle.kmn_base.specs.declared.codes.Code.TheVariants.{S05}
use Rattle.rule_model.specs.declared.program.SrcItem.{SrcItem}
use Rattle.rule_model.specs.declared.program.SrcItem.TheVariants as source
use Rattle.kmn_items.specs.declared.syntax.Where.{Where}
use Rattle.kmn_items.specs.declared.syntax.Where.TheVariants as section
use Rattle.kmn_items.specs.declared.syntax.Seen.{Seen}
use Rattle.kmn_base.specs.Answers.{and_then}
use Rattle.kmn_items.specs.TokenTexts.{LineToken, begins_open, fault}
use Rattle.kmn_items.specs.Item.{unseen, read_items, read_key, last_item}
use Rattle.kmn_parser.specs.Items.{item_pieces, joined_items, spaced_items}
use Rattle.kmn_parser.proofs.Forms.{ArePrinted}
use Rattle.kmn_parser.proofs.LineForms.{items_tokens, tokens_in}
use Rattle.kmn_parser.proofs.Items.{ReadsAs, item_reads}

-- tokens of pieces
pub tokens-append : (ps qs : List (Option LineToken)) → tokens_in (ps ++ qs) ≡ tokens_in ps ++ tokens_in qs
tokens-append [] qs = refl
tokens-append (None ∷ ps) qs = tokens-append ps qs
tokens-append (Some token ∷ ps) qs = ap (λ (ts : List LineToken). token ∷ ts) (tokens-append ps qs)

pub tokens-spaced : (items : List SrcItem) (more : List (Option LineToken)) → tokens_in (spaced_items items more) ≡ items_tokens items ++ tokens_in more
tokens-spaced [] more = refl
tokens-spaced (i ∷ items) more =
    tokens-append (item_pieces i) (None ∷ spaced_items items more)
    ∙ ap (λ (ts : List LineToken). tokens_in (item_pieces i) ++ ts) (tokens-spaced items more)
    ∙ sym (append_assoc (tokens_in (item_pieces i)) (items_tokens items) (tokens_in more))

pub tokens-joined : (items : List SrcItem) → tokens_in (joined_items items) ≡ items_tokens items
tokens-joined [] = refl
tokens-joined (i ∷ items) = tokens-append (item_pieces i) (joined_items items) ∙ ap (λ (ts : List LineToken). tokens_in (item_pieces i) ++ ts) (tokens-joined items)

-- no item begins with a parenthesis
item-closed : (i : SrcItem) (rest : List LineToken) → begins_open rest ≡ false → begins_open (tokens_in (item_pieces i) ++ rest) ≡ false
item-closed (source.Outs name) rest e = e
item-closed (source.Call name) rest e = e
item-closed source.OutOfProfile rest e = e
item-closed i rest e = refl

items-closed : (items : List SrcItem) → begins_open (items_tokens items) ≡ false
items-closed [] = refl
items-closed (i ∷ items) = item-closed i (items_tokens items) (items-closed items)

-- items are read as they are printed
pub items_read : (place : Where) (seen : Seen) (items : List SrcItem) → ArePrinted place seen items → ReadsAs place seen (items_tokens items) items
items_read place seen [] ok = λ last at. refl
items_read place seen (i ∷ items) (ok, stands, more) = item_reads place seen i (items_tokens items) items ok stands (items-closed items) (items_read place _ items more)

append-none : (ts : List LineToken) → ts ++ [] ≡ ts
append-none [] = refl
append-none (t ∷ ts) = ap (λ (us : List LineToken). t ∷ us) (append-none ts)

pub key_reads : (key : SrcItem) → ArePrinted section.Key unseen (key ∷ []) → (last at : ℕ) → read_key last at (tokens_in (item_pieces key)) ≡ Ok key
key_reads key ok last at =
    ap (λ r. and_then r (last_item (fault (min (at + length (tokens_in (item_pieces key))) last) S05)))
    (ap (λ (ts : List LineToken). read_items section.Key unseen last 0 at ts) (sym (append-none (tokens_in (item_pieces key)))) ∙ items_read section.Key unseen (key ∷ []) ok last at)
