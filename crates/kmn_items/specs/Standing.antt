-- Where items are allowed, and after which items.
use Rattle.std.specs.Prelude.{ℕ, Bool, true, false, ◌&&◌, ◌||◌, nat_lt, if◌then◌else◌, Option, Some, None}
use Rattle.kmn_base.specs.declared.codes.Code.{Code}
use Rattle.kmn_base.specs.declared.codes.Code.TheVariants.{S05, S06, S09, S10}
use Rattle.kmn_items.specs.declared.syntax.Where.{Where}
use Rattle.kmn_items.specs.declared.syntax.Where.TheVariants as section
use Rattle.kmn_items.specs.declared.syntax.Seen.{Seen}
use Rattle.kmn_items.specs.declared.syntax.ItemWord.{ItemWord}
use Rattle.kmn_items.specs.declared.syntax.ItemWord.TheVariants as word
use Rattle.kmn_items.specs.declared.syntax.Lead.{Lead}
use Rattle.kmn_items.specs.declared.syntax.Lead.TheVariants as lead

-- whether an item is allowed in stores, contexts, keys and outputs
pub record Stands : Type 0 where
  pub store : Bool
  pub context : Bool
  pub key : Bool
  pub output : Bool

abbrev pub stands_in : Where → Stands → Bool
stands_in section.Store stands = stands.store
stands_in section.Context stands = stands.context
stands_in section.Key stands = stands.key
stands_in section.Output stands = stands.output

-- the four truth values, in the order store, context, key, output
abbrev pub stands : Bool → Bool → Bool → Bool → Stands
stands store context key output = record { store = store; context = context; key = key; output = output }

-- where the item of each word is allowed
abbrev pub word_sections : ItemWord → Stands
word_sections word.Dead = stands true true false true
word_sections word.Any = stands false true true false
word_sections word.NotAny = stands false true false false
word_sections word.Index = stands false true false true
word_sections word.Context = stands false false false true
word_sections word.ContextAt = stands false true false true
word_sections word.If = stands false true false false
word_sections word.Nul = stands false true false true
word_sections word.Outs = stands true false false true
word_sections word.Dollar = stands true false false true
word_sections word.Layer = stands false true false true
word_sections word.Platform = stands false true false false
word_sections word.BaseLayout = stands false true false false
word_sections other = stands false false false true

-- where each kind of item is allowed
abbrev pub lead_stands : Lead → Stands
lead_stands (lead.Named word) = word_sections word
lead_stands lead.Bracket = stands true false true true
lead_stands lead.Misplaced = stands false false false false
lead_stands other = stands true true true true

-- the rule that a token breaks if it is not allowed in a section
abbrev pub misplaced_code : Where → Code
misplaced_code section.Store = S06
misplaced_code section.Context = S05
misplaced_code section.Key = S05
misplaced_code section.Output = S06

-- whether an item is a condition, which must precede all patterns
abbrev pub is_condition : ItemWord → Bool
is_condition word.If = true
is_condition word.Layer = true
is_condition word.Platform = true
is_condition word.BaseLayout = true
is_condition other = false

abbrev pub is_nul : ItemWord → Bool
is_nul word.Nul = true
is_nul other = false

-- the rule on the order of a context's items that a word breaks: no condition or `nul` after a pattern, and one `nul`
abbrev pub order_code : Seen → ItemWord → Option Code
order_code seen word =
    if seen.pattern && (is_nul word || is_condition word) then Some S09
    else (if seen.nul && is_nul word then Some S10 else None)

-- the rule that a token breaks because of the items before it: a key has one item
abbrev pub crowded_code : Where → Seen → Lead → Option Code
crowded_code section.Context seen (lead.Named word) = order_code seen word
crowded_code section.Key seen lead.Characters = None
crowded_code section.Key seen other = if seen.pattern then Some S05 else None
crowded_code place seen other = None

-- the rule that a token breaks only by its position
abbrev pub standing_code : Where → Seen → Lead → Option Code
standing_code place seen lead =
    if stands_in place (lead_stands lead) then crowded_code place seen lead else Some (misplaced_code place)

-- what a section has seen after the item of a word
abbrev pub seen_word : Seen → ItemWord → Seen
seen_word seen word =
    if is_nul word then record { pattern = seen.pattern; nul = true }
    else (if is_condition word then seen else record { pattern = true; nul = seen.nul })

-- what a section has seen after a number of characters or keys
abbrev pub seen_count : Seen → ℕ → Seen
seen_count seen count = record { pattern = seen.pattern || nat_lt 0 count; nul = seen.nul }

-- whether there are more characters than a key can still contain
abbrev pub is_crowded : Where → Seen → ℕ → Bool
is_crowded section.Key seen count = nat_lt (if seen.pattern then 0 else 1) count
is_crowded other seen count = false
