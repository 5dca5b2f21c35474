-- The readings of a section's items use up its tokens: no token is left over, and no token is read twice.
use Rattle.std.proofs.Common.{◌≡◌, ℕ, zero, suc, ◌+◌, ◌-◌, ◌<◌, ◌≤◌, Bool, true, false, if◌then◌else◌, List, [], ◌∷◌, ◌++◌, map, length, take, drop, Option, None, Some, Result, Ok, Err, refl, ap, subst, arith, length-drop}
use Rattle.std.specs.Prelude.{flat_map}
use Rattle.kmn_base.specs.declared.codes.Code.{Code}
use Rattle.kmn_base.specs.declared.codes.Code.TheVariants.{S05}
use Rattle.rule_model.specs.declared.program.SrcItem.{SrcItem}
use Rattle.rule_model.specs.declared.program.SrcItem.TheVariants as source
use Rattle.kmn_items.specs.declared.syntax.TokenRefusal.{TokenRefusal}
use Rattle.kmn_items.specs.declared.syntax.Where.{Where}
use Rattle.kmn_items.specs.declared.syntax.Seen.{Seen}
use Rattle.kmn_items.specs.declared.syntax.Slot.{Slot}
use Rattle.kmn_items.specs.declared.syntax.Slot.TheVariants as slot
use Rattle.kmn_items.specs.declared.syntax.Lead.{Lead}
use Rattle.kmn_items.specs.declared.syntax.Lead.TheVariants as lead
use Rattle.kmn_items.specs.declared.syntax.ItemWord.{ItemWord}
use Rattle.kmn_items.specs.declared.syntax.Taken.{Taken}
use Rattle.kmn_items.specs.TokenTexts.{LineToken, fault, text_at, quoted}
use Rattle.kmn_items.specs.Slots.{slot_fault, or_fault, broken}
use Rattle.kmn_items.specs.Leads.{lead_of}
use Rattle.kmn_items.specs.Standing.{standing_code, seen_word, seen_count, is_crowded}
use Rattle.kmn_items.specs.Forms.{word_slots, word_item}
use Rattle.kmn_items.specs.Brackets.{flags_of, named_key, key_item, modifier_count}
use Rattle.kmn_items.specs.Item.{formed, read_word, read_quoted, read_bracket, read_form, read_item, prepend, then_items, read_items}
use Rattle.kmn_items.specs.ItemLaws.{TakesUp, TokensAreTakenUp}

later_none : (at : ℕ) (code : Option Code) (later : Option TokenRefusal) → or_fault at code later ≡ None → later ≡ None
later_none at None later e = e
later_none at (Some code) later e = cc

-- if a form is not broken, there are enough tokens
enough : (last at : ℕ) (slots : List Slot) (tokens : List LineToken) → broken last at slots tokens ≡ None → length slots ≤ length tokens
enough last at [] tokens e = omega arith
enough last at (wanted ∷ slots) [] e = cc
enough last at (wanted ∷ slots) (token ∷ tokens) e =
    let rest = enough last (at + 1) slots tokens (later_none at (slot_fault wanted token) (broken last (at + 1) slots tokens) e) in
    omega (arith, rest)

-- an item that is read has fewer tokens after its first than there are
abbrev Fits : ℕ → Result Taken TokenRefusal → Type 0
Fits n (Ok taken) = taken.more < n
Fits n (Err found) = Unit {0}

formed_fits : (n : ℕ) (found : Option TokenRefusal) (taken : Taken) → (found ≡ None → taken.more < n) → Fits n (formed found taken)
formed_fits n None taken fits = fits refl
formed_fits n (Some found) taken fits = tt

word_fits : (place : Where) (seen : Seen) (last at : ℕ) (word : ItemWord) (tokens : List LineToken) → 0 < length tokens
    → Fits (length tokens) (read_word place seen last at word tokens)
word_fits place seen last at word tokens some =
    formed_fits (length tokens) (broken last at (word_slots word) tokens)
    (record { items = word_item place word tokens ∷ []; more = length (word_slots word) - 1; seen = seen_word seen word })
    (λ e. let long = enough last at (word_slots word) tokens e in omega (arith, long, some))

either_fits : (n : ℕ) (test : Bool) (found : TokenRefusal) (taken : Taken) → taken.more < n → Fits n (if test then Err found else Ok taken)
either_fits n true found taken fits = tt
either_fits n false found taken fits = fits

quoted_fits : (place : Where) (seen : Seen) (at : ℕ) (characters : List ℕ) (n : ℕ) → 0 < n → Fits n (read_quoted place seen at characters)
quoted_fits place seen at characters n some =
    either_fits n (is_crowded place seen (length characters)) (fault at S05)
    (record { items = map source.Char characters; more = 0; seen = seen_count seen (length characters) }) some

bracket_fits : (place : Where) (seen : Seen) (last at count : ℕ) (rest : List LineToken) (n : ℕ) → length rest + 1 ≤ n → Fits n (read_bracket place seen last at count rest)
bracket_fits place seen last at count rest n le =
    formed_fits n (broken last (at + 1 + count) (slot.KeyName ∷ slot.KeyEnd ∷ []) (drop count rest))
    (record {
      items = key_item place (named_key (flags_of (take count rest)) (text_at count rest)) ∷ [];
      more = count + 2;
      seen = seen_count seen 1;
    })
    (λ e.
    let long = enough last (at + 1 + count) (slot.KeyName ∷ slot.KeyEnd ∷ []) (drop count rest) e in
    let left = length-drop count rest in
    omega (arith, long, left, le))

form_fits : (place : Where) (seen : Seen) (last at : ℕ) (first : Lead) (tokens : List LineToken) → 0 < length tokens → Fits (length tokens) (read_form place seen last at first tokens)
form_fits place seen last at lead.Characters tokens some = quoted_fits place seen at (quoted (text_at 0 tokens)) (length tokens) some
form_fits place seen last at (lead.One c) tokens some = some
form_fits place seen last at (lead.Named word) tokens some = word_fits place seen last at word tokens some
form_fits place seen last at lead.Bracket tokens some =
    let left = length-drop 1 tokens in
    bracket_fits place seen last at (modifier_count (drop 1 tokens)) (drop 1 tokens) (length tokens) (omega (arith, left, some))
form_fits place seen last at (lead.Wrong code) tokens some = tt
form_fits place seen last at lead.Misplaced tokens some = tt

item_fits : (place : Where) (seen : Seen) (last at : ℕ) (tokens : List LineToken) → 0 < length tokens → Fits (length tokens) (read_item place seen last at tokens)
unfolding read_item
item_fits place seen last at tokens some =
    let first = lead_of tokens in
    elim (standing_code place seen first) as (λ code. Fits (length tokens) (elim code [ Some c ↦ Err (fault at c) | None ↦ read_form place seen last at first tokens ])) [
      | Some c ↦ tt
      | None ↦ form_fits place seen last at first tokens some
    ]

-- if items are read, they use up the tokens
abbrev Parts : Where → Seen → ℕ → ℕ → List LineToken → Result (List SrcItem) TokenRefusal → Type 0
Parts place seen last at tokens (Ok items) = (parts : List Taken) × TakesUp place seen last at parts tokens × (flat_map (λ (taken : Taken). taken.items) parts ≡ items)
Parts place seen last at tokens (Err found) = Unit {0}

one_more_part : (place : Where) (seen : Seen) (last at : ℕ) (tokens : List LineToken) (taken : Taken) (next : ℕ) (rest : List LineToken) (read : Result (List SrcItem) TokenRefusal)
    → read_item place seen last at tokens ≡ Ok taken → taken.more < length tokens
    → next ≡ at + (1 + taken.more) → rest ≡ drop (1 + taken.more) tokens
    → Parts place taken.seen last next rest read → Parts place seen last at tokens (prepend taken.items read)
one_more_part place seen last at tokens taken next rest (Err found) item fits e f parts = tt
one_more_part place seen last at tokens taken next rest (Ok items) item fits e f (parts, takes, same) =
    let here = subst (λ n. TakesUp place taken.seen last n parts rest) e takes in
    (taken ∷ parts, (item, fits, subst (λ ts. TakesUp place taken.seen last (at + (1 + taken.more)) parts ts) f here), ap (λ more. taken.items ++ more) same)

parts_of : (place : Where) (seen : Seen) (last skip at : ℕ) (tokens : List LineToken) → skip ≤ length tokens
    → Parts place seen last (at + skip) (drop skip tokens) (read_items place seen last skip at tokens)
parts_of place seen last zero at [] le = ([], refl, refl)
parts_of place seen last (suc skip) at [] le = absurd (omega (arith, le))
parts_of place seen last (suc skip) at (token ∷ tokens) le =
    let same : at + 1 + skip ≡ at + suc skip = omega arith in
    subst (λ n. Parts place seen last n (drop skip tokens) (read_items place seen last skip (at + 1) tokens)) same
    (parts_of place seen last skip (at + 1) tokens (omega (arith, le)))
parts_of place seen last zero at (token ∷ tokens) le =
    let all = token ∷ tokens in
    let rest = λ (taken : Taken). read_items place taken.seen last taken.more (at + 1) tokens in
    let same : at ≡ at + 0 = omega arith in
    subst (λ n. Parts place seen last n all (then_items (read_item place seen last at all) rest)) same
    ((elim (read_item place seen last at all) as (λ read. read_item place seen last at all ≡ read → Fits (length all) read → Parts place seen last at all (then_items read rest)) [
      | Ok taken ↦ λ item fits.
          one_more_part place seen last at all taken (at + 1 + taken.more) (drop taken.more tokens) (rest taken) item fits (omega arith)
          (let more : suc taken.more ≡ 1 + taken.more = omega arith in ap (λ n. drop n all) more)
          (parts_of place taken.seen last taken.more (at + 1) tokens (omega (arith, fits)))
      | Err found ↦ λ item fits. tt
    ]) refl (item_fits place seen last at all (omega arith)))

pub tokens_taken_up : TokensAreTakenUp
tokens_taken_up place seen last at tokens items e =
    let same : at + 0 ≡ at = omega arith in
    subst (Parts place seen last at tokens) e
    (subst (λ n. Parts place seen last n tokens (read_items place seen last 0 at tokens)) same (parts_of place seen last 0 at tokens (omega arith)))
