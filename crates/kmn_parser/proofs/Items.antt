-- Each item is read as it is printed.
use Rattle.std.proofs.Common.{◌≡◌, ℕ, suc, ◌+◌, ◌-◌, length, Bool, true, false, ◌&&◌, if◌then◌else◌, List, [], ◌∷◌, ◌++◌, Option, None, Some, refl, sym, ◌∙◌, ap, subst, arith, add-one, append_assoc, take, drop}
use Rattle.std.specs.Prelude.{Ok, Err, codes}
use Rattle.std.specs.Prelude.{not, nat_eq, bit_and, filter, map}
use Rattle.std.specs.List.{list_all}
use Rattle.std.specs.Fmt.{decimal}
use Rattle.std.proofs.lemmas.Bool.{cond-true, cond-false, and_from, and_parts}
use Rattle.virtual_keys.specs.Keys.{shift_flags}
use Rattle.rule_model.specs.declared.program.KeyName.{KeyName}
use Rattle.kmn_items.specs.Brackets.{flags_of, named_key, key_item, modifier_count}
use Rattle.kmn_items.proofs.ItemLemmas.{items_skip}
use Rattle.kmn_base.specs.Names.{same_name}
use Rattle.rule_model.specs.declared.program.SrcItem.{SrcItem}
use Rattle.rule_model.specs.declared.program.SrcItem.TheVariants as source
use Rattle.kmn_items.specs.declared.syntax.Where.{Where}
use Rattle.kmn_items.specs.declared.syntax.Seen.{Seen}
use Rattle.kmn_items.specs.declared.syntax.Taken.{Taken}
use Rattle.kmn_items.specs.declared.syntax.ItemWord.{ItemWord}
use Rattle.kmn_items.specs.declared.syntax.ItemWord.TheVariants as item
use Rattle.kmn_items.specs.TokenTexts.{LineToken, fault, begins_open, text_at}
use Rattle.kmn_items.specs.Words.{is_name, is_system_name, bare_name, is_modifier, is_key_name, item_words}
use Rattle.kmn_items.specs.Item.{one_character, read_bracket, read_led, read_form, formed, read_item, read_items, prepend, then_items}
use Rattle.kmn_items.specs.Slots.{unless, slot_fault, or_fault, broken}
use Rattle.kmn_items.specs.Standing.{standing_code, seen_word, seen_count}
use Rattle.kmn_base.specs.declared.codes.Code.{Code}
use Rattle.kmn_base.specs.declared.codes.Code.TheVariants.{S02, S11, L04}
use Rattle.kmn_items.specs.declared.syntax.TokenRefusal.{TokenRefusal}
use Rattle.kmn_items.specs.declared.syntax.Lead.{Lead}
use Rattle.kmn_items.specs.declared.syntax.Lead.TheVariants as lead
use Rattle.kmn_items.specs.declared.syntax.Slot.{Slot}
use Rattle.kmn_items.specs.declared.syntax.Slot.TheVariants as slot
use Rattle.kmn_items.specs.Forms.{word_slots, word_item, condition, setting, system_condition, system_setting}
use Rattle.kmn_items.specs.Leads.{lead_of, word_lead}
use Rattle.kmn_parser.specs.Items.{flag_words, item_pieces, key_text, option_name, spaced_words, value_token}
use Rattle.kmn_parser.specs.Spelled.{item_lead, seen_lead}
use Rattle.kmn_parser.specs.Texts.{bracket_closing, bracket_opening, char_token, closing, comma, equal, name_token, opening, unequal, word}
use Rattle.kmn_parser.proofs.Forms.{IsPrinted, IsPrintedName, IsPrintedOffset, IsPrintedOption, IsPrintedSystem}
use Rattle.kmn_parser.proofs.LineForms.{tokens_in}
use Rattle.kmn_parser.proofs.SoundItems.{wordy-name}

-- tokens are read as items, at each position in their line
abbrev pub ReadsAs : Where → Seen → List LineToken → List SrcItem → Type 0
ReadsAs place seen tokens items = (last at : ℕ) → read_items place seen last 0 at tokens ≡ Ok items

named-read : (place : Where) (seen : Seen) (last at : ℕ) (w : ItemWord) (tokens : List LineToken) → lead_of tokens ≡ lead.Named w → standing_code place seen (lead.Named w) ≡ None → broken last at (word_slots w) tokens ≡ None
    → read_item place seen last at tokens ≡ Ok (record { items = word_item place w tokens ∷ []; more = length (word_slots w) - 1; seen = seen_word seen w })
unfolding read_item
named-read place seen last at w tokens e f g =
    ap (λ (l : Lead). read_led place seen last at l tokens) e
    ∙ ap (λ (c : Option Code). elim c [ Some code ↦ Err (fault at code) | None ↦ read_form place seen last at (lead.Named w) tokens ]) f
    ∙ ap (λ (b : Option TokenRefusal). formed b (record { items = word_item place w tokens ∷ []; more = length (word_slots w) - 1; seen = seen_word seen w })) g

-- an item of one word and `taken.more` more tokens, followed by the rest
then-rest : (place : Where) (seen : Seen) (last at : ℕ) (token : LineToken) (tokens : List LineToken) (taken : Taken) (items : List SrcItem)
    → read_item place seen last at (token ∷ tokens) ≡ Ok taken → read_items place taken.seen last taken.more (at + 1) tokens ≡ Ok items
    → read_items place seen last 0 at (token ∷ tokens) ≡ Ok (taken.items ++ items)
then-rest place seen last at token tokens taken items e f =
    ap (λ r. then_items r (λ (k : Taken). read_items place k.seen last k.more (at + 1) tokens)) e
    ∙ ap (prepend taken.items) f

name-fits : (name : List ℕ) → IsPrintedName name → slot_fault slot.Name (name_token name) ≡ None
name-fits name ok = ap (λ b. unless (b && is_name name) S02) (wordy-name name) ∙ ap (λ b. unless b S02) ok.fits

-- an option has no & in front
pub store-name-fits : (name : List ℕ) → IsPrintedName name → is_system_name name ≡ false → slot_fault slot.StoreName (name_token name) ≡ None
store-name-fits name ok other =
    ap (λ b. unless (b && is_name (bare_name name)) S02) (wordy-name name)
    ∙ ap (λ (n : List ℕ). unless (is_name n) S02) (cond-false (is_system_name name) (drop 1 name) name other) ∙ ap (λ b. unless b S02) ok.fits

-- a system option has one
system-name-fits : (id : ℕ) (value : List ℕ) → IsPrintedSystem id value → slot_fault slot.StoreName (name_token (option_name id)) ≡ None
system-name-fits id value ok = ap (λ b. unless (b && is_name (bare_name (option_name id))) S02) (wordy-name (option_name id)) ∙ ap (λ b. unless b S02) ok.bare

-- a name in parentheses
call-fits : (last at : ℕ) (first : LineToken) (name : List ℕ) (rest : List LineToken) → IsPrintedName name
    → broken last at (slot.Lead ∷ slot.Open ∷ slot.Name ∷ slot.Close ∷ []) (first ∷ opening ∷ name_token name ∷ closing ∷ rest) ≡ None
call-fits last at first name rest ok = ap (λ f. or_fault (at + 1 + 1) f None) (name-fits name ok)

-- an item of a word, followed by the items of the rest
named-then : (place : Where) (seen : Seen) (last at : ℕ) (w : ItemWord) (token : LineToken) (tokens : List LineToken) (items : List SrcItem)
    → lead_of (token ∷ tokens) ≡ lead.Named w → standing_code place seen (lead.Named w) ≡ None → broken last at (word_slots w) (token ∷ tokens) ≡ None
    → read_items place (seen_word seen w) last (length (word_slots w) - 1) (at + 1) tokens ≡ Ok items
    → read_items place seen last 0 at (token ∷ tokens) ≡ Ok (word_item place w (token ∷ tokens) ∷ items)
named-then place seen last at w token tokens items e f g h =
    then-rest place seen last at token tokens
    (record { items = word_item place w (token ∷ tokens) ∷ []; more = length (word_slots w) - 1; seen = seen_word seen w }) items
    (named-read place seen last at w (token ∷ tokens) e f g) h

abbrev in_call : List ℕ → List LineToken → List LineToken
in_call name rest = opening ∷ name_token name ∷ closing ∷ rest

abbrev in_test : List ℕ → LineToken → List ℕ → List LineToken → List LineToken
in_test name sign value rest = opening ∷ name_token name ∷ sign ∷ value_token value ∷ closing ∷ rest

-- the form of a comparison or of a `set`
test-fits : (last at : ℕ) (first : LineToken) (name value : List ℕ) (sign : LineToken) (rest : List LineToken) (s : Slot)
    → slot_fault slot.StoreName (name_token name) ≡ None → slot_fault s sign ≡ None
    → broken last at (slot.Lead ∷ slot.Open ∷ slot.StoreName ∷ s ∷ slot.Value ∷ slot.Close ∷ []) (first ∷ in_test name sign value rest) ≡ None
test-fits last at first name value sign rest s named fits =
    ap (λ f. or_fault (at + 1 + 1) f (or_fault (at + 1 + 1 + 1) (slot_fault s sign) None)) named ∙ ap (λ f. or_fault (at + 1 + 1 + 1) f None) fits

-- an offset
offset-fits : (offset : ℕ) → IsPrintedOffset offset → slot_fault slot.Offset (word (decimal offset)) ≡ None
offset-fits offset ok = ap (λ b. unless b L04) ok.fits

option-fits : (name value : List ℕ) → IsPrintedOption name value → slot_fault slot.StoreName (name_token name) ≡ None
option-fits name value ok = store-name-fits name ok.named ok.ordinary

-- a condition and a `set` denote these items
choose-condition : (equal : Bool) (name value read : List ℕ) → is_system_name name ≡ false → read ≡ value → condition name equal read ≡ (if equal then source.Equal name value else source.Unequal name value)
choose-condition equal name value read e f = cond-false (is_system_name name) _ _ e ∙ ap (λ (v : List ℕ). if equal then source.Equal name v else source.Unequal name v) f

choose-set : (name value read : List ℕ) → is_system_name name ≡ false → read ≡ value → setting name read ≡ source.Set name value
choose-set name value read e f = cond-false (is_system_name name) _ _ e ∙ ap (source.Set name) f

choose-system : (equal : Bool) (id : ℕ) (value read : List ℕ) → IsPrintedSystem id value → read ≡ value
    → condition (option_name id) equal read ≡ (if equal then source.SystemEqual id value else source.SystemUnequal id value)
choose-system equal id value read ok f =
    cond-true (is_system_name (option_name id)) _ _ ok.system
    ∙ ap (λ (o : Option ℕ). system_condition o equal read) ok.known ∙ ap (λ (v : List ℕ). system_condition (Some id) equal v) f

choose-layer : (id : ℕ) (value read : List ℕ) → nat_eq id 33 ≡ true → IsPrintedSystem id value → read ≡ value → setting (option_name id) read ≡ source.SetSystem id value
choose-layer id value read is ok f =
    cond-true (is_system_name (option_name id)) _ _ ok.system
    ∙ ap (λ (o : Option ℕ). system_setting o read) ok.known ∙ cond-true (nat_eq id 33) _ _ is ∙ ap (source.SetSystem id) f

-- a virtual key
abbrev in_bracket : List (List ℕ) → List ℕ → List LineToken → List LineToken
in_bracket texts name rest = map word texts ++ word name ∷ bracket_closing ∷ rest

spaced-tokens : (texts : List (List ℕ)) (more : List (Option LineToken)) → tokens_in (spaced_words texts more) ≡ map word texts ++ tokens_in more
spaced-tokens [] more = refl
spaced-tokens (text ∷ texts) more = ap (λ (ts : List LineToken). word text ∷ ts) (spaced-tokens texts more)

modifiers-counted : (texts : List (List ℕ)) (name : List ℕ) (rest : List LineToken) → list_all is_modifier texts ≡ true → is_modifier name ≡ false
    → modifier_count (map word texts ++ word name ∷ rest) ≡ length texts
modifiers-counted [] name rest e f = cond-false (is_modifier name) _ _ f
modifiers-counted (text ∷ texts) name rest e f =
    let two = and_parts (is_modifier text) (list_all is_modifier texts) e in
    cond-true (is_modifier text) _ _ two.0 ∙ (let more = modifiers-counted texts name rest two.1 f in omega (arith, more))

drop-bracket : (texts : List (List ℕ)) (more : List LineToken) → drop (length texts) (map word texts ++ more) ≡ more
drop-bracket [] more = refl
drop-bracket (text ∷ texts) more = drop-bracket texts more

drop-behind : (texts : List (List ℕ)) (name : List ℕ) (rest : List LineToken) → drop (length texts + 2) (in_bracket texts name rest) ≡ rest
drop-behind [] name rest = refl
drop-behind (text ∷ texts) name rest = let e : length texts + 2 + 1 ≡ suc (length texts) + 2 = omega arith in
    ap (λ (n : ℕ). drop n (in_bracket (text ∷ texts) name rest)) (sym e ∙ add-one (length texts + 2)) ∙ drop-behind texts name rest

take-bracket : (texts : List (List ℕ)) (more : List LineToken) → take (length texts) (map word texts ++ more) ≡ map word texts
take-bracket [] more = refl
take-bracket (text ∷ texts) more = ap (λ (ts : List LineToken). word text ∷ ts) (take-bracket texts more)

text-bracket : (texts : List (List ℕ)) (name : List ℕ) (more : List LineToken) → text_at (length texts) (map word texts ++ word name ∷ more) ≡ name
text-bracket [] name more = refl
text-bracket (text ∷ texts) name more = text-bracket texts name more

bracket-read : (place : Where) (seen : Seen) (last at : ℕ) (texts : List (List ℕ)) (name : List ℕ) (rest : List LineToken) (key : KeyName)
    → list_all is_modifier texts ≡ true → is_modifier name ≡ false → is_key_name name ≡ true
    → flags_of (map word texts) ≡ key.flags → named_key key.flags name ≡ key → key_item place key ≡ source.Key key
    → read_form place seen last at lead.Bracket (bracket_opening ∷ in_bracket texts name rest)
    ≡ Ok (record { items = source.Key key ∷ []; more = length texts + 2; seen = seen_count seen 1 })
bracket-read place seen last at texts name rest key all none known flags named stays =
    let tokens = in_bracket texts name rest in
    let behind : drop (length texts) tokens ≡ word name ∷ bracket_closing ∷ rest = drop-bracket texts (word name ∷ bracket_closing ∷ rest) in
    let item : key_item place (named_key (flags_of (take (length texts) tokens)) (text_at (length texts) tokens)) ≡ source.Key key =
    ap (λ (k : KeyName). key_item place k)
    (ap (λ (ts : List LineToken). named_key (flags_of ts) (text_at (length texts) tokens)) (take-bracket texts (word name ∷ bracket_closing ∷ rest))
    ∙ ap (λ (t : List ℕ). named_key (flags_of (map word texts)) t) (text-bracket texts name (bracket_closing ∷ rest))
    ∙ ap (λ (f : ℕ). named_key f name) flags ∙ named) ∙ stays in
    ap (λ (n : ℕ). read_bracket place seen last at n tokens) (modifiers-counted texts name (bracket_closing ∷ rest) all none)
    ∙ ap (λ (f : Option TokenRefusal). formed f (record { items = key_item place (named_key (flags_of (take (length texts) tokens)) (text_at (length texts) tokens)) ∷ []; more = length texts + 2; seen = seen_count seen 1 }))
    (ap (λ (ts : List LineToken). broken last (at + 1 + length texts) (slot.KeyName ∷ slot.KeyEnd ∷ []) ts) behind
    ∙ ap (λ (b : Bool). or_fault (at + 1 + length texts) (unless b S11) None) known)
    ∙ ap (λ (i : SrcItem). Ok (record { items = i ∷ []; more = length texts + 2; seen = seen_count seen 1 })) item

key-reads : (place : Where) (seen : Seen) (texts : List (List ℕ)) (name : List ℕ) (rest : List LineToken) (key : KeyName) (items : List SrcItem)
    → list_all is_modifier texts ≡ true → is_modifier name ≡ false → is_key_name name ≡ true
    → flags_of (map word texts) ≡ key.flags → named_key key.flags name ≡ key → key_item place key ≡ source.Key key
    → standing_code place seen lead.Bracket ≡ None → ReadsAs place (seen_count seen 1) rest items
    → ReadsAs place seen (bracket_opening ∷ in_bracket texts name rest) (source.Key key ∷ items)
unfolding read_item
key-reads place seen texts name rest key items all none known flags named stays stands more last at =
    then-rest place seen last at bracket_opening (in_bracket texts name rest) (record { items = source.Key key ∷ []; more = length texts + 2; seen = seen_count seen 1 }) items
    (ap (λ (f : Option Code). elim f [ Some code ↦ Err (fault at code) | None ↦ read_form place seen last at lead.Bracket (bracket_opening ∷ in_bracket texts name rest) ]) stands
    ∙ bracket-read place seen last at texts name rest key all none known flags named stays)
    (items_skip place (seen_count seen 1) last (length texts + 2) (at + 1) (in_bracket texts name rest)
    ∙ ap (λ (ts : List LineToken). read_items place (seen_count seen 1) last 0 (at + 1 + (length texts + 2)) ts) (drop-behind texts name rest)
    ∙ more last (at + 1 + (length texts + 2)))

all-mapped : (flags : ℕ) (rows : List (List ℕ × ℕ)) → list_all (λ row. is_modifier row.0) rows ≡ true
    → list_all is_modifier (map (λ row. row.0) (filter (λ row. not (nat_eq (bit_and flags row.1) 0)) rows)) ≡ true
all-mapped flags [] e = refl
all-mapped flags (row ∷ rows) e =
    let two = and_parts (is_modifier row.0) _ e in
    elim (not (nat_eq (bit_and flags row.1) 0)) as (λ b. list_all is_modifier (map (λ row. row.0) (if b then row ∷ filter (λ row. not (nat_eq (bit_and flags row.1) 0)) rows else filter (λ row. not (nat_eq (bit_and flags row.1) 0)) rows)) ≡ true) [
      | true ↦ and_from _ _ two.0 (all-mapped flags rows two.1)
      | false ↦ all-mapped flags rows two.1
    ]

table-words : list_all (λ row. is_modifier row.0) shift_flags ≡ true
unfolding shift_flags same_name
table-words = refl

pub item_reads : (place : Where) (seen : Seen) (i : SrcItem) (rest : List LineToken) (items : List SrcItem) → IsPrinted place i → standing_code place seen (item_lead i) ≡ None → begins_open rest ≡ false
    → ReadsAs place (seen_lead seen (item_lead i)) rest items → ReadsAs place seen (tokens_in (item_pieces i) ++ rest) (i ∷ items)
unfolding read_item same_name item_words
item_reads place seen (source.Char c) rest items ok stands apart more last at =
    then-rest place seen last at (char_token c) rest (one_character seen c) items
    (ap (λ (f : Option Code). elim f [ Some code ↦ Err (fault at code) | None ↦ Ok (one_character seen c) ]) stands) (more last (at + 1))
item_reads place seen (source.Dead name) rest items ok stands apart more last at =
    named-then place seen last at item.Dead (word (codes "dk")) (in_call name rest) items refl stands (call-fits last at (word (codes "dk")) name rest ok) (more last (at + 1 + 1 + 1 + 1))
item_reads place seen (source.Any name) rest items ok stands apart more last at =
    named-then place seen last at item.Any (word (codes "any")) (in_call name rest) items refl stands (call-fits last at (word (codes "any")) name rest ok) (more last (at + 1 + 1 + 1 + 1))
item_reads place seen (source.NotAny name) rest items ok stands apart more last at =
    named-then place seen last at item.NotAny (word (codes "notany")) (in_call name rest) items refl stands (call-fits last at (word (codes "notany")) name rest ok) (more last (at + 1 + 1 + 1 + 1))
item_reads place seen (source.Index name offset) rest items (named, k) stands apart more last at =
    named-then place seen last at item.Index (word (codes "index")) (opening ∷ name_token name ∷ comma ∷ word (decimal offset) ∷ closing ∷ rest) items refl stands
    (ap (λ f. or_fault (at + 1 + 1) f (or_fault (at + 1 + 1 + 1 + 1) (slot_fault slot.Offset (word (decimal offset))) None)) (name-fits name named)
    ∙ ap (λ f. or_fault (at + 1 + 1 + 1 + 1) f None) (offset-fits offset k)) (more last (at + 1 + 1 + 1 + 1 + 1 + 1))
    ∙ ap (λ (n : ℕ). Ok (source.Index name n ∷ items)) k.value
item_reads place seen source.Context rest items ok stands apart more last at =
    named-then place seen last at item.Context (word (codes "context")) rest items (ap (λ b. word_lead b (codes "context")) apart) stands refl (more last (at + 1))
item_reads place seen (source.ContextAt offset) rest items ok stands apart more last at =
    named-then place seen last at item.ContextAt (word (codes "context")) (opening ∷ word (decimal offset) ∷ closing ∷ rest) items refl stands
    (ap (λ f. or_fault (at + 1 + 1) f None) (offset-fits offset ok)) (more last (at + 1 + 1 + 1 + 1))
    ∙ ap (λ (n : ℕ). Ok (source.ContextAt n ∷ items)) ok.value
item_reads place seen (source.Equal name value) rest items ok stands apart more last at =
    named-then place seen last at item.If (word (codes "if")) (in_test name equal value rest) items refl stands
    (test-fits last at (word (codes "if")) name value equal rest slot.Comparison (option-fits name value ok) refl) (more last (at + 1 + 1 + 1 + 1 + 1 + 1))
    ∙ ap (λ (i : SrcItem). Ok (i ∷ items)) (choose-condition true name value _ ok.ordinary ok.read)
item_reads place seen (source.Unequal name value) rest items ok stands apart more last at =
    named-then place seen last at item.If (word (codes "if")) (in_test name unequal value rest) items refl stands
    (test-fits last at (word (codes "if")) name value unequal rest slot.Comparison (option-fits name value ok) refl) (more last (at + 1 + 1 + 1 + 1 + 1 + 1))
    ∙ ap (λ (i : SrcItem). Ok (i ∷ items)) (choose-condition false name value _ ok.ordinary ok.read)
item_reads place seen (source.SystemEqual id value) rest items ok stands apart more last at =
    named-then place seen last at item.If (word (codes "if")) (in_test (option_name id) equal value rest) items refl stands
    (test-fits last at (word (codes "if")) (option_name id) value equal rest slot.Comparison (system-name-fits id value ok) refl) (more last (at + 1 + 1 + 1 + 1 + 1 + 1))
    ∙ ap (λ (i : SrcItem). Ok (i ∷ items)) (choose-system true id value _ ok ok.read)
item_reads place seen (source.SystemUnequal id value) rest items ok stands apart more last at =
    named-then place seen last at item.If (word (codes "if")) (in_test (option_name id) unequal value rest) items refl stands
    (test-fits last at (word (codes "if")) (option_name id) value unequal rest slot.Comparison (system-name-fits id value ok) refl) (more last (at + 1 + 1 + 1 + 1 + 1 + 1))
    ∙ ap (λ (i : SrcItem). Ok (i ∷ items)) (choose-system false id value _ ok ok.read)
item_reads place seen source.Nul rest items ok stands apart more last at =
    named-then place seen last at item.Nul (word (codes "nul")) rest items (ap (λ b. word_lead b (codes "nul")) apart) stands refl (more last (at + 1))
item_reads place seen (source.Enter name) rest items ok stands apart more last at =
    named-then place seen last at item.Use (word (codes "use")) (in_call name rest) items refl stands (call-fits last at (word (codes "use")) name rest ok) (more last (at + 1 + 1 + 1 + 1))
item_reads place seen (source.Set name value) rest items ok stands apart more last at =
    named-then place seen last at item.Set (word (codes "set")) (in_test name equal value rest) items refl stands
    (test-fits last at (word (codes "set")) name value equal rest slot.Equal (option-fits name value ok) refl) (more last (at + 1 + 1 + 1 + 1 + 1 + 1))
    ∙ ap (λ (i : SrcItem). Ok (i ∷ items)) (choose-set name value _ ok.ordinary ok.read)
item_reads place seen (source.SetSystem id value) rest items ok stands apart more last at =
    named-then place seen last at item.Set (word (codes "set")) (in_test (option_name id) equal value rest) items refl stands
    (test-fits last at (word (codes "set")) (option_name id) value equal rest slot.Equal (system-name-fits id value ok.1) refl) (more last (at + 1 + 1 + 1 + 1 + 1 + 1))
    ∙ ap (λ (i : SrcItem). Ok (i ∷ items)) (choose-layer id value _ ok.0 ok.1 ok.1.read)
item_reads place seen (source.Save name) rest items ok stands apart more last at =
    named-then place seen last at item.Save (word (codes "save")) (in_call name rest) items refl stands (call-fits last at (word (codes "save")) name rest ok) (more last (at + 1 + 1 + 1 + 1))
item_reads place seen (source.Reset name) rest items ok stands apart more last at =
    named-then place seen last at item.Reset (word (codes "reset")) (in_call name rest) items refl stands (call-fits last at (word (codes "reset")) name rest ok) (more last (at + 1 + 1 + 1 + 1))
item_reads place seen source.Beep rest items ok stands apart more last at =
    named-then place seen last at item.Beep (word (codes "beep")) rest items (ap (λ b. word_lead b (codes "beep")) apart) stands refl (more last (at + 1))
item_reads place seen source.Stop rest items ok stands apart more last at =
    named-then place seen last at item.Return (word (codes "return")) rest items (ap (λ b. word_lead b (codes "return")) apart) stands refl (more last (at + 1))
item_reads place seen (source.Key key) rest items ok stands apart more last at =
    let texts = flag_words key.flags in
    let name = key_text key in
    let tail : List (Option LineToken) = Some (word name) ∷ Some bracket_closing ∷ [] in
    let same : bracket_opening ∷ in_bracket texts name rest ≡ bracket_opening ∷ (tokens_in (spaced_words texts tail) ++ rest) =
    ap (λ (ts : List LineToken). bracket_opening ∷ ts) (sym (ap (λ (ts : List LineToken). ts ++ rest) (spaced-tokens texts tail) ∙ append_assoc (map word texts) (tokens_in tail) rest)) in
    subst (λ (ts : List LineToken). read_items place seen last 0 at ts ≡ Ok (source.Key key ∷ items)) same
    (key-reads place seen texts name rest key items (all-mapped key.flags shift_flags table-words) ok.0.apart ok.0.known ok.0.flagged ok.0.named ok.1 stands more last at)
item_reads place seen other rest items ok stands apart more last at = absurd ok
