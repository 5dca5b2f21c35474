-- A key contains only one item.
use Rattle.std.proofs.Common.{◌≡◌, ℕ, zero, suc, ◌+◌, ◌≤◌, Bool, true, false, if◌then◌else◌, List, [], ◌∷◌, length, length-append, ◌||◌, nat_lt, refl, arith}
use Rattle.std.specs.Prelude.{Result, Ok, Err, Option, Some, None}
use Rattle.std.proofs.lemmas.Bool.Decides.{nat_tests}
use Rattle.std.proofs.lemmas.List.{length-map}
use Rattle.rule_model.specs.declared.program.SrcItem.{SrcItem}
use Rattle.rule_model.specs.declared.program.SrcItem.TheVariants as source
use Rattle.kmn_items.specs.declared.syntax.TokenRefusal.{TokenRefusal}
use Rattle.kmn_items.specs.declared.syntax.ItemWord.{ItemWord}
use Rattle.kmn_items.specs.declared.syntax.ItemWord.TheVariants as word
use Rattle.kmn_items.specs.declared.syntax.Lead.{Lead}
use Rattle.kmn_items.specs.declared.syntax.Lead.TheVariants as lead
use Rattle.kmn_items.specs.declared.syntax.Where.TheVariants as section
use Rattle.kmn_items.specs.declared.syntax.Seen.{Seen}
use Rattle.kmn_items.specs.declared.syntax.Taken.{Taken}
use Rattle.kmn_base.specs.Answers.{and_then}
use Rattle.kmn_items.specs.TokenTexts.{LineToken}
use Rattle.kmn_items.specs.Item.{unseen, formed, read_quoted, read_led, read_item, read_items, prepend, then_items, last_item}
use Rattle.kmn_items.specs.ItemLaws.{KeysAreOneItem}

-- the number of items that a key can still contain
abbrev room : Seen → ℕ
room seen = if seen.pattern then 0 else 1

-- if an item is read, it fits, and so do those that may follow it
abbrev ItemFits : Seen → Result Taken TokenRefusal → Type 0
ItemFits seen (Ok taken) = length taken.items + room taken.seen ≤ room seen
ItemFits seen (Err fault) = Unit {0}

-- if items are read, they fit
abbrev ItemsFit : Seen → Result (List SrcItem) TokenRefusal → Type 0
ItemsFit seen (Ok items) = length items ≤ room seen
ItemsFit seen (Err fault) = Unit {0}

-- after one item, a key can contain no more
formed_fits : (nul : Bool) (fault : Option TokenRefusal) (item : SrcItem) (more : ℕ)
    → ItemFits (record { pattern = false; nul = nul }) (formed fault (record { items = item ∷ []; more = more; seen = record { pattern = true; nul = nul } }))
formed_fits nul None item more = omega arith
formed_fits nul (Some fault) item more = tt

fits_if : (seen : Seen) (b : Bool) (fault : TokenRefusal) (taken : Taken) → (b ≡ false → ItemFits seen (Ok taken)) → ItemFits seen (if b then Err fault else Ok taken)
fits_if seen true fault taken fits = tt
fits_if seen false fault taken fits = fits refl

count_fits : (pattern : Bool) (m n : ℕ) → m ≡ n → nat_lt (if pattern then 0 else 1) n ≡ false → m + (if pattern || nat_lt 0 n then 0 else 1) ≤ (if pattern then 0 else 1)
count_fits true m n same few = grind (arith, nat_tests)
count_fits false m n same few = grind (arith, nat_tests)

quoted_fits : (seen : Seen) (at : ℕ) (characters : List ℕ) → ItemFits seen (read_quoted section.Key seen at characters)
quoted_fits seen at characters = fits_if seen _ _ _ (count_fits seen.pattern _ _ (length-map characters source.Char))

word_fits : (pattern nul : Bool) (last at : ℕ) (word : ItemWord) (tokens : List LineToken)
    → ItemFits (record { pattern = pattern; nul = nul }) (read_led section.Key (record { pattern = pattern; nul = nul }) last at (lead.Named word) tokens)
word_fits true nul last at word.Any tokens = tt
word_fits false nul last at word.Any tokens = formed_fits nul _ _ _
word_fits pattern nul last at word.Dead tokens = tt
word_fits pattern nul last at word.NotAny tokens = tt
word_fits pattern nul last at word.Index tokens = tt
word_fits pattern nul last at word.Context tokens = tt
word_fits pattern nul last at word.ContextAt tokens = tt
word_fits pattern nul last at word.If tokens = tt
word_fits pattern nul last at word.Nul tokens = tt
word_fits pattern nul last at word.Outs tokens = tt
word_fits pattern nul last at word.Dollar tokens = tt
word_fits pattern nul last at word.Use tokens = tt
word_fits pattern nul last at word.Set tokens = tt
word_fits pattern nul last at word.Save tokens = tt
word_fits pattern nul last at word.Reset tokens = tt
word_fits pattern nul last at word.Beep tokens = tt
word_fits pattern nul last at word.Return tokens = tt
word_fits pattern nul last at word.Call tokens = tt
word_fits pattern nul last at word.Switch tokens = tt
word_fits pattern nul last at word.ClearContext tokens = tt
word_fits pattern nul last at word.Fix tokens = tt
word_fits pattern nul last at word.Layer tokens = tt
word_fits pattern nul last at word.Platform tokens = tt
word_fits pattern nul last at word.BaseLayout tokens = tt

led_fits : (pattern nul : Bool) (last at : ℕ) (lead : Lead) (tokens : List LineToken)
    → ItemFits (record { pattern = pattern; nul = nul }) (read_led section.Key (record { pattern = pattern; nul = nul }) last at lead tokens)
led_fits pattern nul last at lead.Characters tokens = quoted_fits _ at _
led_fits true nul last at (lead.One c) tokens = tt
led_fits false nul last at (lead.One c) tokens = omega arith
led_fits pattern nul last at (lead.Named word) tokens = word_fits pattern nul last at word tokens
led_fits true nul last at lead.Bracket tokens = tt
led_fits false nul last at lead.Bracket tokens = formed_fits nul _ _ _
led_fits true nul last at (lead.Wrong code) tokens = tt
led_fits false nul last at (lead.Wrong code) tokens = tt
led_fits pattern nul last at lead.Misplaced tokens = tt

item_fits : (seen : Seen) (last at : ℕ) (tokens : List LineToken) → ItemFits seen (read_item section.Key seen last at tokens)
unfolding read_item
item_fits seen last at tokens = led_fits seen.pattern seen.nul last at _ tokens

prepend_fits : (seen : Seen) (taken : Taken) (rest : Result (List SrcItem) TokenRefusal) → ItemFits seen (Ok taken) → ItemsFit taken.seen rest → ItemsFit seen (prepend taken.items rest)
prepend_fits seen taken (Ok items) fits rest = omega (arith, length-append taken.items items, fits, rest)
prepend_fits seen taken (Err fault) fits rest = tt

then_fits : (seen : Seen) (read : Result Taken TokenRefusal) (more : Taken → Result (List SrcItem) TokenRefusal)
    → ItemFits seen read → ((taken : Taken) → ItemsFit taken.seen (more taken)) → ItemsFit seen (then_items read more)
then_fits seen (Ok taken) more fits rest = prepend_fits seen taken (more taken) fits (rest taken)
then_fits seen (Err fault) more fits rest = tt

items_fit : (seen : Seen) (last skip at : ℕ) (tokens : List LineToken) → ItemsFit seen (read_items section.Key seen last skip at tokens)
items_fit seen last skip at [] = omega arith
items_fit seen last (suc skip) at (token ∷ tokens) = items_fit seen last skip (at + 1) tokens
items_fit seen last zero at (token ∷ tokens) =
    then_fits seen (read_item section.Key seen last at (token ∷ tokens)) _ (item_fits seen last at (token ∷ tokens))
    (λ taken. items_fit taken.seen last taken.more (at + 1) tokens)

one_item : (none : TokenRefusal) (read : Result (List SrcItem) TokenRefusal) (item : SrcItem) → ItemsFit unseen read
    → and_then read (last_item none) ≡ Ok item → read ≡ Ok (item ∷ [])
one_item none (Err fault) item fits is = cc
one_item none (Ok []) item fits is = cc
one_item none (Ok (first ∷ [])) item fits is = cc
one_item none (Ok (first ∷ second ∷ items)) item fits is = absurd (omega (arith, fits))

pub keys_are_one_item : KeysAreOneItem
keys_are_one_item last at tokens item is = one_item _ (read_items section.Key unseen last 0 at tokens) item (items_fit unseen last 0 at tokens) is
