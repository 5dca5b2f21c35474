-- The items that are read from sound tokens, and which of them are allowed as a key.
use Rattle.std.proofs.Common.{◌≡◌, ℕ, zero, suc, ◌+◌, Bool, true, false, ◌&&◌, ◌||◌, if◌then◌else◌, nat_eq, List, [], ◌∷◌, length, take, drop, Option, None, Some, Result, Ok, Err, refl, subst}
use Rattle.std.specs.Prelude.{All, IsUtf8, chars}
use Rattle.std.specs.List.{list_all}
use Rattle.std.specs.Char.{is_digit}
use Rattle.std.specs.Str.{is_utf8}
use Rattle.std.proofs.lemmas.Bool.{and_parts, cond_both, eqb-false, or_parts}
use Rattle.std.proofs.lemmas.List.Elements.{All-cons, All-nil, All-append, All-head, All-tail, All-drop, All-map}
use Rattle.std.proofs.lemmas.Str.{IsUtf8-nil, IsUtf8-from_is_utf8}
use lib.Utf8.{scalar}
use Rattle.kmn_base.specs.declared.codes.Code.{Code}
use Rattle.kmn_base.specs.declared.codes.Code.TheVariants.{L04, S05, S11}
use Rattle.kmn_lines.specs.declared.token.TokenKind.{TokenKind}
use Rattle.kmn_lines.specs.declared.token.TokenKind.TheVariants as kind
use Rattle.kmn_lines.specs.Tokens.{has_forbidden}
use Rattle.rule_model.specs.declared.program.KeyName.{KeyName}
use Rattle.rule_model.specs.declared.program.SrcItem.{SrcItem}
use Rattle.rule_model.specs.declared.program.SrcItem.TheVariants as source
use Rattle.kmn_items.specs.declared.syntax.TokenRefusal.{TokenRefusal}
use Rattle.kmn_items.specs.declared.syntax.Where.{Where}
use Rattle.kmn_items.specs.declared.syntax.Where.TheVariants as section
use Rattle.kmn_items.specs.declared.syntax.Seen.{Seen}
use Rattle.kmn_items.specs.declared.syntax.Slot.TheVariants as slot
use Rattle.kmn_items.specs.declared.syntax.Lead.{Lead}
use Rattle.kmn_items.specs.declared.syntax.Lead.TheVariants as lead
use Rattle.kmn_items.specs.declared.syntax.ItemWord.{ItemWord}
use Rattle.kmn_items.specs.declared.syntax.ItemWord.TheVariants as word
use Rattle.kmn_items.specs.declared.syntax.Taken.{Taken}
use Rattle.kmn_base.specs.Answers.{and_then}
use Rattle.kmn_items.specs.TokenTexts.{LineToken, fault, text_at, inside, quoted, begins_open, is_word}
use Rattle.kmn_items.specs.Words.{is_system_name, bare_name, item_word, is_key_name}
use Rattle.kmn_items.specs.Numbers.{character_lead, digits_lead, number_base, number_digits}
use Rattle.kmn_base.specs.Digits.{bounded_value}
use Rattle.kmn_items.specs.Slots.{unless, or_fault, broken}
use Rattle.kmn_items.specs.Leads.{named_lead, word_lead, token_lead, lead_of}
use Rattle.kmn_items.specs.Standing.{standing_code, is_crowded}
use Rattle.kmn_items.specs.Forms.{word_slots, option_ids, option_id, is_option_id, system_condition, condition, system_setting, setting, layer_item, equal_at, word_item}
use Rattle.kmn_items.specs.Brackets.{flags_of, named_key, key_item, modifier_count}
use Rattle.kmn_items.specs.Item.{unseen, formed, read_word, read_quoted, read_bracket, read_led, read_item, prepend, then_items, read_items, last_item, read_key}
use Rattle.kmn_parser.specs.ProgramLaws.{IsCharacter, IsReadKey, IsReadItem, IsRuleKey}
use Rattle.kmn_parser.proofs.CleanTexts.{clean-take, clean-drop, clean-characters}
use Rattle.kmn_parser.proofs.SoundTokens.{IsSoundKind, IsSoundToken}
use Rattle.kmn_parser.proofs.SoundKeys.{row-found, key-read}

-- a text in UTF-8 without U+0000 and U+FFFF
pub record IsClean (text : List ℕ) : Type 0 where
  pub utf8 : IsUtf8 text
  pub clean : has_forbidden text ≡ false

-- the text of the token at an index, or an empty text if there is none
pub text-clean : (place : ℕ) (tokens : List LineToken) → All IsSoundToken tokens → IsClean (text_at place tokens)
text-clean place [] sound = record { utf8 = IsUtf8-nil; clean = refl }
text-clean zero (token ∷ tokens) sound =
    let here = All-head IsSoundToken token tokens sound in record { utf8 = here.utf8; clean = here.clean }
text-clean (suc place) (token ∷ tokens) sound = text-clean place tokens (All-tail IsSoundToken token tokens sound)

-- the characters between quotes
quoted-characters : (text : List ℕ) → IsClean text → All IsCharacter (quoted text)
quoted-characters text clean =
    cond_both (is_utf8 (inside text)) (chars (inside text)) [] (All IsCharacter)
    (λ e. clean-characters (inside text) (IsUtf8-from_is_utf8 (inside text) e) (clean-take _ (drop 1 text) (clean-drop 1 text clean.clean)))
    (λ e. All-nil IsCharacter)

-- if a token begins a character item, its number is a character
abbrev IsSoundLead : Lead → Type 0
IsSoundLead (lead.One c) = IsCharacter c
IsSoundLead other = Unit {0}

character-sound : (c : ℕ) → IsSoundLead (character_lead c)
character-sound c =
    cond_both (nat_eq c 0 || nat_eq c 0xFFFF) _ _ IsSoundLead (λ wrong. tt)
    (λ right.
    let other = or_parts (nat_eq c 0) (nat_eq c 0xFFFF) right in
    cond_both (scalar c) _ _ IsSoundLead
    (λ valid. record { valid = valid; not_first = eqb-false c 0 other.0; not_last = eqb-false c 0xFFFF other.1 })
    (λ invalid. tt))

digits-sound : (base : ℕ) (digits : List ℕ) → IsSoundLead (digits_lead base digits)
digits-sound base digits =
    cond_both (list_all (λ b. is_digit b base) digits) (character_lead (bounded_value 0x110000 base digits)) (lead.Wrong L04) IsSoundLead
    (λ e. character-sound (bounded_value 0x110000 base digits)) (λ e. tt)

named-sound : (opened : Bool) (found : Option ItemWord) → IsSoundLead (named_lead opened found)
named-sound opened None = tt
named-sound opened (Some named) = tt

word-sound : (opened : Bool) (text : List ℕ) → IsSoundLead (word_lead opened text)
word-sound opened text =
    elim (number_base text) as (λ found. IsSoundLead (elim found [
      | Some base ↦ digits_lead base (number_digits text)
      | None ↦ named_lead opened (item_word text)
    ])) [
      | Some base ↦ digits-sound base (number_digits text)
      | None ↦ named-sound opened (item_word text)
    ]

token-lead-sound : (opened : Bool) (sort : TokenKind) (text : List ℕ) → IsSoundKind sort → IsSoundLead (token_lead opened (record { kind = sort; text = text }))
token-lead-sound opened kind.Quoted text sound = tt
token-lead-sound opened (kind.Number c) text sound = sound
token-lead-sound opened kind.Word text sound = word-sound opened text
token-lead-sound opened kind.BracketOpen text sound = tt
token-lead-sound opened other text sound = tt

lead-sound : (tokens : List LineToken) → All IsSoundToken tokens → IsSoundLead (lead_of tokens)
lead-sound [] sound = tt
lead-sound (token ∷ tokens) sound = token-lead-sound (begins_open tokens) token.kind token.text (All-head IsSoundToken token tokens sound).number

-- what an item is in a section
abbrev StandsIn : Where → SrcItem → Type 0
StandsIn section.Key item = IsRuleKey item
StandsIn other item = Unit {0}

-- an item that is read in a section
pub record IsReadIn (place : Where) (item : SrcItem) : Type 0 where
  pub itself : IsReadItem item
  pub stands : StandsIn place item

abbrev ItemsRead : Where → Result Taken TokenRefusal → Type 0
ItemsRead place (Ok taken) = All (IsReadIn place) taken.items
ItemsRead place (Err found) = Unit {0}

one-item : (place : Where) (item : SrcItem) → IsReadIn place item → All (IsReadIn place) (item ∷ [])
one-item place item read = All-cons (IsReadIn place) item [] read (All-nil (IsReadIn place))

formed-read : (place : Where) (found : Option TokenRefusal) (taken : Taken) → (found ≡ None → All (IsReadIn place) taken.items) → ItemsRead place (formed found taken)
formed-read place None taken read = read refl
formed-read place (Some found) taken read = tt

character-stands : (place : Where) (c : ℕ) → StandsIn place (source.Char c)
character-stands section.Key c = tt
character-stands section.Store c = tt
character-stands section.Context c = tt
character-stands section.Output c = tt

character-read : (place : Where) (c : ℕ) → IsCharacter c → IsReadIn place (source.Char c)
character-read place c sound = record { itself = sound; stands = character-stands place c }

quoted-read : (place : Where) (seen : Seen) (at : ℕ) (characters : List ℕ) → All IsCharacter characters → ItemsRead place (read_quoted place seen at characters)
quoted-read place seen at characters sound =
    cond_both (is_crowded place seen (length characters)) _ _ (ItemsRead place) (λ e. tt)
    (λ e. All-map (IsReadIn place) source.Char characters (λ k d l. character-read place _ (sound k d l)))

-- the id of the system option that a name names
option-known : (name : List ℕ) (id : ℕ) → option_id name ≡ Some id → is_option_id id ≡ true
unfolding option_ids
option-known name id found = row-found is_option_id option_ids (bare_name name) id found refl

system_condition-read : (found : Option ℕ) (equal : Bool) (value : List ℕ) → ((id : ℕ) → found ≡ Some id → is_option_id id ≡ true) → All IsCharacter value
    → IsReadItem (system_condition found equal value)
system_condition-read None equal value known sound = tt
system_condition-read (Some id) equal value known sound =
    cond_both equal _ _ IsReadItem (λ e. (known id refl, sound)) (λ e. (known id refl, sound))

condition-read : (name : List ℕ) (equal : Bool) (value : List ℕ) → All IsCharacter value → IsReadItem (condition name equal value)
condition-read name equal value sound =
    cond_both (is_system_name name) _ _ IsReadItem
    (λ e. system_condition-read (option_id name) equal value (option-known name) sound)
    (λ e. cond_both equal _ _ IsReadItem (λ f. sound) (λ f. sound))

system_setting-read : (found : Option ℕ) (value : List ℕ) → All IsCharacter value → IsReadItem (system_setting found value)
system_setting-read None value sound = tt
system_setting-read (Some id) value sound = cond_both (nat_eq id 33) _ _ IsReadItem (λ e. (e, sound)) (λ e. tt)

setting-read : (name value : List ℕ) → All IsCharacter value → IsReadItem (setting name value)
setting-read name value sound =
    cond_both (is_system_name name) _ _ IsReadItem (λ e. system_setting-read (option_id name) value sound) (λ e. sound)

layer-read : (place : Where) (value : List ℕ) → All IsCharacter value → IsReadItem (layer_item place value)
layer-read section.Output value sound = (refl, sound)
layer-read section.Store value sound = (refl, sound)
layer-read section.Context value sound = (refl, sound)
layer-read section.Key value sound = (refl, sound)

value-read : (place : ℕ) (tokens : List LineToken) → All IsSoundToken tokens → All IsCharacter (quoted (text_at place tokens))
value-read place tokens sound = quoted-characters (text_at place tokens) (text-clean place tokens sound)

word-read : (place : Where) (named : ItemWord) (tokens : List LineToken) → All IsSoundToken tokens → IsReadItem (word_item place named tokens)
word-read place word.If tokens sound = condition-read (text_at 2 tokens) (equal_at 3 tokens) (quoted (text_at 4 tokens)) (value-read 4 tokens sound)
word-read place word.Set tokens sound = setting-read (text_at 2 tokens) (quoted (text_at 4 tokens)) (value-read 4 tokens sound)
word-read place word.Layer tokens sound = layer-read place (quoted (text_at 2 tokens)) (value-read 2 tokens sound)
word-read place word.Platform tokens sound = (refl, value-read 2 tokens sound)
word-read place other tokens sound = tt

either-led : (place : Where) (test : Bool) (code other : Option Code) (at : ℕ) (read : Result Taken TokenRefusal) → ItemsRead place read
    → ItemsRead place (elim (if test then code else other) [ Some c ↦ Err (fault at c) | None ↦ read ])
either-led place true None other at read items = items
either-led place true (Some c) other at read items = tt
either-led place false code None at read items = items
either-led place false code (Some c) at read items = tt

item-of-word : (place : Where) (seen : Seen) (last at : ℕ) (named : ItemWord) (tokens : List LineToken) → All IsSoundToken tokens
    → StandsIn place (word_item place named tokens) → ItemsRead place (read_word place seen last at named tokens)
item-of-word place seen last at named tokens sound stands =
    formed-read place (broken last at (word_slots named) tokens) _
    (λ e. one-item place (word_item place named tokens) (record { itself = word-read place named tokens sound; stands = stands }))

-- of the words, only `any` is allowed as a key
key-of-word : (seen : Seen) (last at : ℕ) (named : ItemWord) (tokens : List LineToken) → All IsSoundToken tokens
    → ItemsRead section.Key (read_led section.Key seen last at (lead.Named named) tokens)
key-of-word seen last at word.Any tokens sound =
    either-led section.Key seen.pattern (Some S05) None at (read_word section.Key seen last at word.Any tokens) (item-of-word section.Key seen last at word.Any tokens sound tt)
key-of-word seen last at other tokens sound = tt

led-if : (place : Where) (code : Option Code) (at : ℕ) (read : Result Taken TokenRefusal) → ItemsRead place read
    → ItemsRead place (elim code [ Some c ↦ Err (fault at c) | None ↦ read ])
led-if place None at read items = items
led-if place (Some c) at read items = tt

led-word : (place : Where) (seen : Seen) (last at : ℕ) (named : ItemWord) (tokens : List LineToken) → All IsSoundToken tokens
    → ItemsRead place (read_led place seen last at (lead.Named named) tokens)
led-word section.Key seen last at named tokens sound = key-of-word seen last at named tokens sound
led-word section.Store seen last at named tokens sound =
    led-if section.Store (standing_code section.Store seen (lead.Named named)) at _ (item-of-word section.Store seen last at named tokens sound tt)
led-word section.Context seen last at named tokens sound =
    led-if section.Context (standing_code section.Context seen (lead.Named named)) at _ (item-of-word section.Context seen last at named tokens sound tt)
led-word section.Output seen last at named tokens sound =
    led-if section.Output (standing_code section.Output seen (lead.Named named)) at _ (item-of-word section.Output seen last at named tokens sound tt)

key_item-read : (place : Where) (key : KeyName) → IsReadKey key → IsReadIn place (key_item place key)
key_item-read section.Key key read = record { itself = read; stands = tt }
key_item-read section.Store key read = record { itself = read; stands = tt }
key_item-read section.Context key read = record { itself = read; stands = tt }
key_item-read section.Output key read = record { itself = tt; stands = tt }

pub no-fault : (at : ℕ) (test : Bool) (code : Code) (later : Option TokenRefusal) → or_fault at (unless test code) later ≡ None → test ≡ true
no-fault at true code later e = refl
no-fault at false code later e = cc

-- the key in brackets, by the token of its name
bracket-key : (place : Where) (last at : ℕ) (flags tokens : List LineToken) → All IsSoundToken tokens
    → broken last at (slot.KeyName ∷ slot.KeyEnd ∷ []) tokens ≡ None
    → IsReadIn place (key_item place (named_key (flags_of flags) (text_at 0 tokens)))
bracket-key place last at flags [] sound whole = cc
bracket-key place last at flags (token ∷ tokens) sound whole =
    let here = no-fault at (is_word token.kind && is_key_name token.text) S11 (broken last (at + 1) (slot.KeyEnd ∷ []) tokens) whole in
    let both = and_parts (is_word token.kind) (is_key_name token.text) here in
    key_item-read place _ (key-read flags token (All-head IsSoundToken token tokens sound) both.0 both.1)

pub text_at-drop : (place : ℕ) (tokens : List LineToken) → text_at 0 (drop place tokens) ≡ text_at place tokens
text_at-drop zero tokens = refl
text_at-drop (suc place) [] = refl
text_at-drop (suc place) (token ∷ tokens) = text_at-drop place tokens

bracket-read : (place : Where) (seen : Seen) (last at count : ℕ) (tokens : List LineToken) → All IsSoundToken tokens
    → ItemsRead place (read_bracket place seen last at count tokens)
bracket-read place seen last at count tokens sound =
    formed-read place (broken last (at + 1 + count) (slot.KeyName ∷ slot.KeyEnd ∷ []) (drop count tokens)) _
    (λ whole.
    one-item place _
    (subst (λ (name : List ℕ). IsReadIn place (key_item place (named_key (flags_of (take count tokens)) name))) (text_at-drop count tokens)
    (bracket-key place last (at + 1 + count) (take count tokens) (drop count tokens) (All-drop IsSoundToken count tokens sound) whole)))

led-read : (place : Where) (seen : Seen) (last at : ℕ) (first : Lead) (tokens : List LineToken) → All IsSoundToken tokens → IsSoundLead first
    → ItemsRead place (read_led place seen last at first tokens)
led-read place seen last at lead.Characters tokens sound number =
    led-if place (standing_code place seen lead.Characters) at _ (quoted-read place seen at (quoted (text_at 0 tokens)) (value-read 0 tokens sound))
led-read place seen last at (lead.One c) tokens sound number =
    led-if place (standing_code place seen (lead.One c)) at _ (one-item place (source.Char c) (character-read place c number))
led-read place seen last at (lead.Named named) tokens sound number = led-word place seen last at named tokens sound
led-read place seen last at lead.Bracket tokens sound number =
    led-if place (standing_code place seen lead.Bracket) at _
    (bracket-read place seen last at (modifier_count (drop 1 tokens)) (drop 1 tokens) (All-drop IsSoundToken 1 tokens sound))
led-read place seen last at (lead.Wrong code) tokens sound number = led-if place (standing_code place seen (lead.Wrong code)) at _ tt
led-read place seen last at lead.Misplaced tokens sound number = led-if place (standing_code place seen lead.Misplaced) at _ tt

item-read : (place : Where) (seen : Seen) (last at : ℕ) (tokens : List LineToken) → All IsSoundToken tokens → ItemsRead place (read_item place seen last at tokens)
unfolding read_item
item-read place seen last at tokens sound = led-read place seen last at (lead_of tokens) tokens sound (lead-sound tokens sound)

-- if items are read, they are items of the section
abbrev pub AllRead : Where → Result (List SrcItem) TokenRefusal → Type 0
AllRead place (Ok items) = All (IsReadIn place) items
AllRead place (Err found) = Unit {0}

prepend-read : (place : Where) (items : List SrcItem) (rest : Result (List SrcItem) TokenRefusal) → All (IsReadIn place) items → AllRead place rest → AllRead place (prepend items rest)
prepend-read place items (Ok more) here read = All-append (IsReadIn place) items more here read
prepend-read place items (Err found) here read = tt

then-read : (place : Where) (first : Result Taken TokenRefusal) (more : Taken → Result (List SrcItem) TokenRefusal) → ItemsRead place first
    → ((taken : Taken) → AllRead place (more taken)) → AllRead place (then_items first more)
then-read place (Ok taken) more here rest = prepend-read place taken.items (more taken) here (rest taken)
then-read place (Err found) more here rest = tt

-- the items of a section
pub items-read : (place : Where) (seen : Seen) (last skip at : ℕ) (tokens : List LineToken) → All IsSoundToken tokens
    → AllRead place (read_items place seen last skip at tokens)
items-read place seen last skip at [] sound = All-nil (IsReadIn place)
items-read place seen last (suc skip) at (token ∷ tokens) sound = items-read place seen last skip (at + 1) tokens (All-tail IsSoundToken token tokens sound)
items-read place seen last zero at (token ∷ tokens) sound =
    then-read place (read_item place seen last at (token ∷ tokens)) (λ (taken : Taken). read_items place taken.seen last taken.more (at + 1) tokens)
    (item-read place seen last at (token ∷ tokens) sound)
    (λ taken. items-read place taken.seen last taken.more (at + 1) tokens (All-tail IsSoundToken token tokens sound))

-- if an item is read, it is allowed as a key
abbrev pub KeyRead : Result SrcItem TokenRefusal → Type 0
KeyRead (Ok item) = IsReadIn section.Key item
KeyRead (Err found) = Unit {0}

last-read : (none : TokenRefusal) (items : List SrcItem) → All (IsReadIn section.Key) items → KeyRead (last_item none items)
last-read none [] read = tt
last-read none (item ∷ []) read = All-head (IsReadIn section.Key) item [] read
last-read none (item ∷ next ∷ items) read = last-read none (next ∷ items) (All-tail (IsReadIn section.Key) item (next ∷ items) read)

then-key : (none : TokenRefusal) (items : Result (List SrcItem) TokenRefusal) → AllRead section.Key items → KeyRead (and_then items (last_item none))
then-key none (Ok items) read = last-read none items read
then-key none (Err found) read = tt

-- the key of a rule
pub one_key-read : (last at : ℕ) (tokens : List LineToken) → All IsSoundToken tokens → KeyRead (read_key last at tokens)
one_key-read last at tokens sound = then-key _ (read_items section.Key unseen last 0 at tokens) (items-read section.Key unseen last 0 at tokens sound)
