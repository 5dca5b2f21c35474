-- Items that are read from whole tokens are items as a source writes them, and a context has them in order.
use Rattle.std.proofs.Common.{◌≡◌, ℕ, zero, suc, ◌+◌, ◌≤◌, Bool, true, false, not, ◌&&◌, ◌||◌, if◌then◌else◌, List, [], ◌∷◌, ◌++◌, length, take, drop, map, Option, None, Some, Result, Ok, Err, refl, sym, ◌∙◌, ap, subst, arith, length-append}
use Rattle.std.specs.Prelude.{All, filter, nat_lt, nat_eq}
use Rattle.std.specs.List.{list_all, list_any}
use Rattle.std.proofs.lemmas.Bool.{and_parts, cond_both, and_right, or_right}
use Rattle.std.proofs.lemmas.Bool.Decides.{nat_tests}
use Rattle.std.proofs.lemmas.List.Elements.{All-cons, All-nil, All-append, All-head, All-tail, All-drop, filter-append}
use Rattle.std.proofs.lemmas.List.Folds.{list_all-append}
use Rattle.std.proofs.Math.Bool.{or-false, or_assoc}
use Rattle.kmn_base.specs.declared.codes.Code.{Code}
use Rattle.kmn_base.specs.declared.codes.Code.TheVariants.{S09, S10}
use Rattle.kmn_base.specs.Answers.{and_then}
use Rattle.rule_model.specs.declared.program.KeyName.{KeyName}
use Rattle.rule_model.specs.declared.program.SrcItem.{SrcItem}
use Rattle.rule_model.specs.declared.program.SrcItem.TheVariants as source
use Rattle.kmn_items.specs.declared.syntax.TokenRefusal.{TokenRefusal}
use Rattle.kmn_items.specs.declared.syntax.Where.{Where}
use Rattle.kmn_items.specs.declared.syntax.Where.TheVariants as section
use Rattle.kmn_items.specs.declared.syntax.Seen.{Seen}
use Rattle.kmn_items.specs.declared.syntax.Slot.TheVariants as slot
use Rattle.kmn_items.specs.declared.syntax.Lead.{Lead}
use Rattle.kmn_items.specs.declared.syntax.Lead.TheVariants as lead
use Rattle.kmn_items.specs.declared.syntax.ItemWord.{ItemWord}
use Rattle.kmn_items.specs.declared.syntax.ItemWord.TheVariants as word
use Rattle.kmn_items.specs.declared.syntax.Taken.{Taken}
use Rattle.kmn_items.specs.TokenTexts.{LineToken, fault, text_at, quoted, is_word}
use Rattle.kmn_items.specs.Words.{is_system_name, is_key_name}
use Rattle.kmn_items.specs.Slots.{broken}
use Rattle.kmn_items.specs.Leads.{lead_of}
use Rattle.kmn_items.specs.Standing.{standing_code, is_crowded, seen_count}
use Rattle.kmn_items.specs.Forms.{word_slots, option_id, system_condition, condition, system_setting, setting, layer_item, equal_at, word_item}
use Rattle.kmn_items.specs.Brackets.{flags_of, named_key, key_item, modifier_count}
use Rattle.kmn_items.specs.Item.{unseen, formed, read_word, read_quoted, read_bracket, read_led, read_item, prepend, then_items, read_items, last_item, read_key}
use Rattle.kmn_parser.proofs.ReadItems.{text_at-drop}
use Rattle.kmn_parser.proofs.ReadStatements.{unless-none}
use Rattle.item_checker.specs.Items.{is_pattern_item}
use Rattle.kmn_parser.specs.Spelled.{IsSpelledName, IsSpelledValue, IsSpelledKey}
use Rattle.kmx_decompiler.specs.Written.{IsWrittenItem, is_allowed_in_context, has_late_item, is_nul_item, IsWrittenContext}
use Rattle.kmx_decompiler.proofs.CompiledStores.{all_at}
use Rattle.kmx_decompiler.proofs.WholeTokens.{IsWholeToken}
use Rattle.kmx_decompiler.proofs.WrittenNames.{filled, text_is, named_at, store_at, value_at, key_spelled}

-- ---- each item

abbrev ItemsWritten : Result Taken TokenRefusal → Type 0
ItemsWritten (Ok taken) = All IsWrittenItem taken.items
ItemsWritten (Err found) = Unit {0}

formed-written : (found : Option TokenRefusal) (taken : Taken) → (found ≡ None → All IsWrittenItem taken.items) → ItemsWritten (formed found taken)
formed-written None taken h = h refl
formed-written (Some found) taken h = tt

one-item : (item : SrcItem) → IsWrittenItem item → All IsWrittenItem (item ∷ [])
one-item item h = All-cons IsWrittenItem item [] h (All-nil IsWrittenItem)

characters-written : (cs : List ℕ) → All IsWrittenItem (map source.Char cs)
characters-written [] = All-nil IsWrittenItem
characters-written (c ∷ cs) = All-cons IsWrittenItem (source.Char c) (map source.Char cs) tt (characters-written cs)

quoted-written : (place : Where) (seen : Seen) (at : ℕ) (cs : List ℕ) → ItemsWritten (read_quoted place seen at cs)
quoted-written place seen at cs = cond_both (is_crowded place seen (length cs)) _ _ ItemsWritten (λ e. tt) (λ e. characters-written cs)

system-written : (id : Option ℕ) (equal : Bool) (value : List ℕ) → IsSpelledValue value → IsWrittenItem (system_condition id equal value)
system-written None equal value valued = tt
system-written (Some id) true value valued = valued
system-written (Some id) false value valued = valued

condition-written : (name : List ℕ) (equal : Bool) (value : List ℕ) → (is_system_name name ≡ false → IsSpelledName name) → IsSpelledValue value → IsWrittenItem (condition name equal value)
condition-written name equal value named valued =
    cond_both (is_system_name name) _ _ IsWrittenItem (λ e. system-written (option_id name) equal value valued) (λ e. cond_both equal _ _ IsWrittenItem (λ f. (named e, valued)) (λ f. (named e, valued)))

system-setting : (id : Option ℕ) (value : List ℕ) → IsSpelledValue value → IsWrittenItem (system_setting id value)
system-setting None value valued = tt
system-setting (Some id) value valued = cond_both (nat_eq id 33) _ _ IsWrittenItem (λ e. valued) (λ e. tt)

setting-written : (name value : List ℕ) → (is_system_name name ≡ false → IsSpelledName name) → IsSpelledValue value → IsWrittenItem (setting name value)
setting-written name value named valued =
    cond_both (is_system_name name) _ _ IsWrittenItem (λ e. system-setting (option_id name) value valued) (λ e. (named e, valued))

layer-written : (place : Where) (value : List ℕ) → IsSpelledValue value → IsWrittenItem (layer_item place value)
layer-written section.Store value valued = valued
layer-written section.Context value valued = valued
layer-written section.Key value valued = valued
layer-written section.Output value valued = valued

word-written : (place : Where) (last at : ℕ) (named : ItemWord) (tokens : List LineToken) → All IsWholeToken tokens → broken last at (word_slots named) tokens ≡ None → IsWrittenItem (word_item place named tokens)
word-written place last at word.Any tokens ok whole = named_at last at 2 (word_slots word.Any) tokens ok whole refl
word-written place last at word.NotAny tokens ok whole = named_at last at 2 (word_slots word.NotAny) tokens ok whole refl
word-written place last at word.Index tokens ok whole = named_at last at 2 (word_slots word.Index) tokens ok whole refl
word-written place last at word.Save tokens ok whole = named_at last at 2 (word_slots word.Save) tokens ok whole refl
word-written place last at word.Reset tokens ok whole = named_at last at 2 (word_slots word.Reset) tokens ok whole refl
word-written place last at word.If tokens ok whole =
    condition-written (text_at 2 tokens) (equal_at 3 tokens) (quoted (text_at 4 tokens)) (λ e. store_at last at 2 (word_slots word.If) tokens ok whole refl e)
    (value_at last at 4 (word_slots word.If) tokens ok whole refl)
word-written place last at word.Set tokens ok whole =
    setting-written (text_at 2 tokens) (quoted (text_at 4 tokens)) (λ e. store_at last at 2 (word_slots word.Set) tokens ok whole refl e)
    (value_at last at 4 (word_slots word.Set) tokens ok whole refl)
word-written place last at word.Layer tokens ok whole = layer-written place (quoted (text_at 2 tokens)) (value_at last at 2 (word_slots word.Layer) tokens ok whole refl)
word-written place last at word.Platform tokens ok whole = value_at last at 2 (word_slots word.Platform) tokens ok whole refl
word-written place last at other tokens ok whole = tt

led-if : (code : Option Code) (at : ℕ) (read : Result Taken TokenRefusal) → ItemsWritten read → ItemsWritten (elim code [ Some c ↦ Err (fault at c) | None ↦ read ])
led-if None at read h = h
led-if (Some c) at read h = tt

key-written : (place : Where) (key : KeyName) → IsSpelledKey key → IsWrittenItem (key_item place key)
key-written section.Key key ok = ok
key-written section.Store key ok = ok
key-written section.Context key ok = ok
key-written section.Output key ok = tt

bracket-key : (place : Where) (last at : ℕ) (flags tokens : List LineToken) → All IsWholeToken tokens → broken last at (slot.KeyName ∷ slot.KeyEnd ∷ []) tokens ≡ None
    → IsWrittenItem (key_item place (named_key (flags_of flags) (text_at 0 tokens)))
bracket-key place last at flags tokens ok whole =
    let here = filled last at 0 (slot.KeyName ∷ slot.KeyEnd ∷ []) tokens slot.KeyName whole refl in
    let test = and_parts (is_word here.token.kind) (is_key_name here.token.text) (unless-none _ _ here.fits) in
    key-written place (named_key (flags_of flags) (text_at 0 tokens))
    (subst (λ (text : List ℕ). IsSpelledKey (named_key (flags_of flags) text)) (sym (text_is 0 tokens here.token here.at))
    (key_spelled flags here.token (all_at IsWholeToken tokens ok 0 here.token here.at) test.0 test.1))

bracket-written : (place : Where) (seen : Seen) (last at count : ℕ) (tokens : List LineToken) → All IsWholeToken tokens → ItemsWritten (read_bracket place seen last at count tokens)
bracket-written place seen last at count tokens ok =
    formed-written (broken last (at + 1 + count) (slot.KeyName ∷ slot.KeyEnd ∷ []) (drop count tokens)) _
    (λ whole.
    one-item _
    (subst (λ (name : List ℕ). IsWrittenItem (key_item place (named_key (flags_of (take count tokens)) name))) (text_at-drop count tokens)
    (bracket-key place last (at + 1 + count) (take count tokens) (drop count tokens) (All-drop IsWholeToken count tokens ok) whole)))

form-written : (place : Where) (seen : Seen) (last at : ℕ) (first : Lead) (tokens : List LineToken) → All IsWholeToken tokens → ItemsWritten (read_led place seen last at first tokens)
form-written place seen last at lead.Characters tokens ok = led-if (standing_code place seen lead.Characters) at _ (quoted-written place seen at (quoted (text_at 0 tokens)))
form-written place seen last at (lead.One c) tokens ok = led-if (standing_code place seen (lead.One c)) at _ (one-item (source.Char c) tt)
form-written place seen last at (lead.Named named) tokens ok =
    led-if (standing_code place seen (lead.Named named)) at (read_word place seen last at named tokens)
    (formed-written (broken last at (word_slots named) tokens) _ (λ whole. one-item (word_item place named tokens) (word-written place last at named tokens ok whole)))
form-written place seen last at lead.Bracket tokens ok =
    led-if (standing_code place seen lead.Bracket) at _ (bracket-written place seen last at (modifier_count (drop 1 tokens)) (drop 1 tokens) (All-drop IsWholeToken 1 tokens ok))
form-written place seen last at (lead.Wrong code) tokens ok = led-if (standing_code place seen (lead.Wrong code)) at _ tt
form-written place seen last at lead.Misplaced tokens ok = led-if (standing_code place seen lead.Misplaced) at _ tt

item-written : (place : Where) (seen : Seen) (last at : ℕ) (tokens : List LineToken) → All IsWholeToken tokens → ItemsWritten (read_item place seen last at tokens)
unfolding read_item
item-written place seen last at tokens ok = form-written place seen last at (lead_of tokens) tokens ok

-- the items that are read in a section are items as a source writes them, unless they are refused
abbrev pub AllWritten : Result (List SrcItem) TokenRefusal → Type 0
AllWritten (Ok items) = All IsWrittenItem items
AllWritten (Err found) = Unit {0}

prepend-written : (items : List SrcItem) (rest : Result (List SrcItem) TokenRefusal) → All IsWrittenItem items → AllWritten rest → AllWritten (prepend items rest)
prepend-written items (Ok more) here rest = All-append IsWrittenItem items more here rest
prepend-written items (Err found) here rest = tt

then-written : (first : Result Taken TokenRefusal) (more : Taken → Result (List SrcItem) TokenRefusal) → ItemsWritten first → ((taken : Taken) → AllWritten (more taken)) → AllWritten (then_items first more)
then-written (Ok taken) more here rest = prepend-written taken.items (more taken) here (rest taken)
then-written (Err found) more here rest = tt

pub items_written : (place : Where) (seen : Seen) (last skip at : ℕ) (tokens : List LineToken) → All IsWholeToken tokens → AllWritten (read_items place seen last skip at tokens)
items_written place seen last skip at [] ok = All-nil IsWrittenItem
items_written place seen last (suc skip) at (token ∷ tokens) ok = items_written place seen last skip (at + 1) tokens (All-tail IsWholeToken token tokens ok)
items_written place seen last zero at (token ∷ tokens) ok =
    then-written (read_item place seen last at (token ∷ tokens)) (λ (taken : Taken). read_items place taken.seen last taken.more (at + 1) tokens)
    (item-written place seen last at (token ∷ tokens) ok)
    (λ taken. items_written place taken.seen last taken.more (at + 1) tokens (All-tail IsWholeToken token tokens ok))

-- the key that is read is a key as a source writes it, unless it is refused
abbrev pub KeyWritten : Result SrcItem TokenRefusal → Type 0
KeyWritten (Ok item) = IsWrittenItem item
KeyWritten (Err found) = Unit {0}

last-written : (none : TokenRefusal) (items : List SrcItem) → All IsWrittenItem items → KeyWritten (last_item none items)
last-written none [] h = tt
last-written none (item ∷ []) h = All-head IsWrittenItem item [] h
last-written none (item ∷ next ∷ items) h = last-written none (next ∷ items) (All-tail IsWrittenItem item (next ∷ items) h)

then-key : (none : TokenRefusal) (items : Result (List SrcItem) TokenRefusal) → AllWritten items → KeyWritten (and_then items (last_item none))
then-key none (Ok items) h = last-written none items h
then-key none (Err found) h = tt

pub key_written : (last at : ℕ) (tokens : List LineToken) → All IsWholeToken tokens → KeyWritten (read_key last at tokens)
key_written last at tokens ok = then-key _ (read_items section.Key unseen last 0 at tokens) (items_written section.Key unseen last 0 at tokens ok)

-- ---- the order of a context

abbrev nuls : Bool → ℕ
nuls true = 1
nuls false = 0

-- items that come after what was seen, and what is seen after them
record AreInOrder (seen after : Seen) (items : List SrcItem) : Type 0 where
  stand : list_all is_allowed_in_context items ≡ true
  order : has_late_item seen.pattern items ≡ false
  patterns : after.pattern ≡ (seen.pattern || list_any is_pattern_item items)
  count : nuls after.nul ≡ nuls seen.nul + length (filter is_nul_item items)

abbrev TakenInOrder : Seen → Result Taken TokenRefusal → Type 0
TakenInOrder seen (Ok taken) = AreInOrder seen taken.seen taken.items
TakenInOrder seen (Err found) = Unit {0}

-- a pattern item, which is allowed anywhere in a context
record IsPatternAlone (item : SrcItem) : Type 0 where
  stands : is_allowed_in_context item ≡ true
  pattern : is_pattern_item item ≡ true
  nul : is_nul_item item ≡ false

pattern-order : (seen : Seen) (item : SrcItem) → IsPatternAlone item → AreInOrder seen (record { pattern = true; nul = seen.nul }) (item ∷ [])
pattern-order seen item is = record {
  stand = λ i. is.stands i && true;
  order = (λ i. (seen.pattern && not (is.pattern i)) || false) ∙ (λ i. and_right seen.pattern false refl i || false);
  patterns = sym ((λ i. seen.pattern || (is.pattern i || false)) ∙ or_right seen.pattern true refl);
  count = let none : length (filter is_nul_item (item ∷ [])) ≡ 0 = ap (λ (b : Bool). length (if b then item ∷ [] else [])) is.nul in omega (arith, none);
}

-- a condition, which is allowed if no pattern was seen
record IsConditionAlone (item : SrcItem) : Type 0 where
  stands : is_allowed_in_context item ≡ true
  pattern : is_pattern_item item ≡ false
  nul : is_nul_item item ≡ false

condition-order : (seen : Seen) (item : SrcItem) → seen.pattern ≡ false → IsConditionAlone item → AreInOrder seen seen (item ∷ [])
condition-order seen item free is = record {
  stand = λ i. is.stands i && true;
  order = λ i. (free i && not (is.pattern i)) || false;
  patterns = sym (or-false seen.pattern) ∙ (λ i. seen.pattern || (sym is.pattern i || false));
  count = let none : length (filter is_nul_item (item ∷ [])) ≡ 0 = ap (λ (b : Bool). length (if b then item ∷ [] else [])) is.nul in omega (arith, none);
}

nul-order : (seen : Seen) → seen.pattern ≡ false → seen.nul ≡ false → AreInOrder seen (record { pattern = seen.pattern; nul = true }) (source.Nul ∷ [])
nul-order seen free one = record {
  stand = refl;
  order = λ i. (free i && true) || false;
  patterns = sym (or-false seen.pattern);
  count = let none : nuls seen.nul ≡ 0 = ap nuls one in omega (arith, none);
}

characters-stand : (cs : List ℕ) → list_all is_allowed_in_context (map source.Char cs) ≡ true
characters-stand [] = refl
characters-stand (c ∷ cs) = characters-stand cs

characters-late : (matched : Bool) (cs : List ℕ) → has_late_item matched (map source.Char cs) ≡ false
characters-late matched [] = refl
characters-late matched (c ∷ cs) = (λ i. and_right matched false refl i || has_late_item (matched || true) (map source.Char cs)) ∙ characters-late (matched || true) cs

characters-patterns : (matched : Bool) (cs : List ℕ) → (matched || nat_lt 0 (length cs)) ≡ (matched || list_any is_pattern_item (map source.Char cs))
characters-patterns matched [] = refl
characters-patterns matched (c ∷ cs) = ap (λ (b : Bool). matched || b) (some (length cs))
  where
    some : (n : ℕ) → nat_lt 0 (suc n) ≡ true
    some n = grind (arith, nat_tests)

characters-nuls : (cs : List ℕ) → length (filter is_nul_item (map source.Char cs)) ≡ 0
characters-nuls [] = refl
characters-nuls (c ∷ cs) = characters-nuls cs

characters-order : (seen : Seen) (cs : List ℕ) → AreInOrder seen (seen_count seen (length cs)) (map source.Char cs)
characters-order seen cs = record {
  stand = characters-stand cs;
  order = characters-late seen.pattern cs;
  patterns = characters-patterns seen.pattern cs;
  count = let none = characters-nuls cs in omega (arith, none);
}

led-order : (seen : Seen) (code : Option Code) (at : ℕ) (read : Result Taken TokenRefusal) → (code ≡ None → TakenInOrder seen read) → TakenInOrder seen (elim code [ Some c ↦ Err (fault at c) | None ↦ read ])
led-order seen None at read h = h refl
led-order seen (Some c) at read h = tt

formed-order : (seen : Seen) (found : Option TokenRefusal) (taken : Taken) → AreInOrder seen taken.seen taken.items → TakenInOrder seen (formed found taken)
formed-order seen None taken h = h
formed-order seen (Some found) taken h = tt

free-condition : (p n : Bool) → (if p && true then Some S09 else (if n && false then Some S10 else None)) ≡ None → p ≡ false
free-condition true n e = absurd (cc)
free-condition false n e = refl

free-nul : (p n : Bool) → (if p && true then Some S09 else (if n && true then Some S10 else None)) ≡ None → (p ≡ false) × (n ≡ false)
free-nul true n e = absurd (cc)
free-nul false true e = absurd (cc)
free-nul false false e = (refl, refl)

system-alone : (id : Option ℕ) (equal : Bool) (value : List ℕ) → IsConditionAlone (system_condition id equal value)
system-alone None equal value = record { stands = refl; pattern = refl; nul = refl }
system-alone (Some id) true value = record { stands = refl; pattern = refl; nul = refl }
system-alone (Some id) false value = record { stands = refl; pattern = refl; nul = refl }

condition-alone : (name : List ℕ) (equal : Bool) (value : List ℕ) → IsConditionAlone (condition name equal value)
condition-alone name equal value =
    cond_both (is_system_name name) _ _ IsConditionAlone (λ e. system-alone (option_id name) equal value)
    (λ e. cond_both equal _ _ IsConditionAlone (λ f. record { stands = refl; pattern = refl; nul = refl }) (λ f. record { stands = refl; pattern = refl; nul = refl }))

module _ (seen : Seen) (last at : ℕ) (tokens : List LineToken) where
  abbrev Ordered : ItemWord → Type 0
  Ordered named = TakenInOrder seen (read_led section.Context seen last at (lead.Named named) tokens)

  as-pattern : (named : ItemWord) → IsPatternAlone (word_item section.Context named tokens) → AreInOrder seen (record { pattern = true; nul = seen.nul }) (word_item section.Context named tokens ∷ [])
  as-pattern named is = pattern-order seen (word_item section.Context named tokens) is

  word-order : (named : ItemWord) → Ordered named
  word-order word.Dead = led-order seen (standing_code section.Context seen (lead.Named word.Dead)) at _ (λ e. formed-order seen _ _ (as-pattern word.Dead (record { stands = refl; pattern = refl; nul = refl })))
  word-order word.Any = led-order seen (standing_code section.Context seen (lead.Named word.Any)) at _ (λ e. formed-order seen _ _ (as-pattern word.Any (record { stands = refl; pattern = refl; nul = refl })))
  word-order word.NotAny = led-order seen (standing_code section.Context seen (lead.Named word.NotAny)) at _ (λ e. formed-order seen _ _ (as-pattern word.NotAny (record { stands = refl; pattern = refl; nul = refl })))
  word-order word.Index = led-order seen (standing_code section.Context seen (lead.Named word.Index)) at _ (λ e. formed-order seen _ _ (as-pattern word.Index (record { stands = refl; pattern = refl; nul = refl })))
  word-order word.ContextAt = led-order seen (standing_code section.Context seen (lead.Named word.ContextAt)) at _ (λ e. formed-order seen _ _ (as-pattern word.ContextAt (record { stands = refl; pattern = refl; nul = refl })))
  word-order word.If =
      led-order seen (standing_code section.Context seen (lead.Named word.If)) at _
      (λ e. formed-order seen _ _ (condition-order seen (word_item section.Context word.If tokens) (free-condition seen.pattern seen.nul e) (condition-alone (text_at 2 tokens) (equal_at 3 tokens) (quoted (text_at 4 tokens)))))
  word-order word.Layer =
      led-order seen (standing_code section.Context seen (lead.Named word.Layer)) at _
      (λ e. formed-order seen _ _ (condition-order seen (word_item section.Context word.Layer tokens) (free-condition seen.pattern seen.nul e) (record { stands = refl; pattern = refl; nul = refl })))
  word-order word.Platform =
      led-order seen (standing_code section.Context seen (lead.Named word.Platform)) at _
      (λ e. formed-order seen _ _ (condition-order seen (word_item section.Context word.Platform tokens) (free-condition seen.pattern seen.nul e) (record { stands = refl; pattern = refl; nul = refl })))
  word-order word.BaseLayout =
      led-order seen (standing_code section.Context seen (lead.Named word.BaseLayout)) at _
      (λ e. formed-order seen _ _ (condition-order seen source.OutOfProfile (free-condition seen.pattern seen.nul e) (record { stands = refl; pattern = refl; nul = refl })))
  word-order word.Nul =
      led-order seen (standing_code section.Context seen (lead.Named word.Nul)) at _
      (λ e. let free = free-nul seen.pattern seen.nul e in formed-order seen _ _ (nul-order seen free.0 free.1))
  word-order other = tt

  lead-order : (first : Lead) → TakenInOrder seen (read_led section.Context seen last at first tokens)
  lead-order lead.Characters = characters-order seen (quoted (text_at 0 tokens))
  lead-order (lead.One c) = characters-order seen (c ∷ [])
  lead-order (lead.Named named) = word-order named
  lead-order lead.Bracket = tt
  lead-order (lead.Wrong code) = tt
  lead-order lead.Misplaced = tt

item-order : (seen : Seen) (last at : ℕ) (tokens : List LineToken) → TakenInOrder seen (read_item section.Context seen last at tokens)
unfolding read_item
item-order seen last at tokens = lead-order seen last at tokens (lead_of tokens)

-- the items of a context after what was seen
record IsContextBehind (seen : Seen) (items : List SrcItem) : Type 0 where
  stand : list_all is_allowed_in_context items ≡ true
  order : has_late_item seen.pattern items ≡ false
  count : nuls seen.nul + length (filter is_nul_item items) ≤ 1

abbrev ContextBehind : Seen → Result (List SrcItem) TokenRefusal → Type 0
ContextBehind seen (Ok items) = IsContextBehind seen items
ContextBehind seen (Err found) = Unit {0}

few-nuls : (b : Bool) → nuls b ≤ 1
few-nuls true = omega arith
few-nuls false = omega arith

late-append : (matched : Bool) (xs ys : List SrcItem) → has_late_item matched (xs ++ ys) ≡ (has_late_item matched xs || has_late_item (matched || list_any is_pattern_item xs) ys)
late-append matched [] ys = λ i. has_late_item (sym (or-false matched) i) ys
late-append matched (x ∷ xs) ys =
    (λ i. (matched && not (is_pattern_item x)) || late-append (matched || is_pattern_item x) xs ys i)
    ∙ ((λ i. (matched && not (is_pattern_item x)) || (has_late_item (matched || is_pattern_item x) xs || has_late_item (or_assoc matched (is_pattern_item x) (list_any is_pattern_item xs) i) ys))
    ∙ sym (or_assoc (matched && not (is_pattern_item x)) (has_late_item (matched || is_pattern_item x) xs) (has_late_item (matched || (is_pattern_item x || list_any is_pattern_item xs)) ys)))

prepend-order : (seen after : Seen) (items : List SrcItem) (rest : Result (List SrcItem) TokenRefusal) → AreInOrder seen after items → ContextBehind after rest → ContextBehind seen (prepend items rest)
prepend-order seen after items (Err found) here rest = tt
prepend-order seen after items (Ok more) here rest = record {
  stand = list_all-append is_allowed_in_context items more ∙ (λ i. here.stand i && rest.stand i);
  order =
      late-append seen.pattern items more
      ∙ ((λ i. here.order i || has_late_item (sym here.patterns i) more) ∙ rest.order);
  count =
      let few = rest.count in
      let same = here.count in
      let all = ap length (filter-append is_nul_item items more) in
      let parts = length-append (filter is_nul_item items) (filter is_nul_item more) in
      omega (arith, few, same, all, parts);
}

then-order : (seen : Seen) (first : Result Taken TokenRefusal) (more : Taken → Result (List SrcItem) TokenRefusal) → TakenInOrder seen first → ((taken : Taken) → ContextBehind taken.seen (more taken))
    → ContextBehind seen (then_items first more)
then-order seen (Ok taken) more here rest = prepend-order seen taken.seen taken.items (more taken) here (rest taken)
then-order seen (Err found) more here rest = tt

context-order : (seen : Seen) (last skip at : ℕ) (tokens : List LineToken) → ContextBehind seen (read_items section.Context seen last skip at tokens)
context-order seen last skip at [] = record { stand = refl; order = refl; count = let few = few-nuls seen.nul in omega (arith, few) }
context-order seen last (suc skip) at (token ∷ tokens) = context-order seen last skip (at + 1) tokens
context-order seen last zero at (token ∷ tokens) =
    then-order seen (read_item section.Context seen last at (token ∷ tokens)) (λ (taken : Taken). read_items section.Context taken.seen last taken.more (at + 1) tokens)
    (item-order seen last at (token ∷ tokens)) (λ taken. context-order taken.seen last taken.more (at + 1) tokens)

-- the context that is read is a context as a source writes it, unless it is refused
abbrev pub ContextWritten : Result (List SrcItem) TokenRefusal → Type 0
ContextWritten (Ok items) = IsWrittenContext items
ContextWritten (Err found) = Unit {0}

whole-context : (read : Result (List SrcItem) TokenRefusal) → ContextBehind unseen read → ContextWritten read
whole-context (Ok items) h = record { stand = h.stand; order = h.order; one_nul = let few = h.count in omega (arith, few) }
whole-context (Err found) h = tt

pub context_written : (last at : ℕ) (tokens : List LineToken) → ContextWritten (read_items section.Context unseen last 0 at tokens)
context_written last at tokens = whole-context (read_items section.Context unseen last 0 at tokens) (context-order unseen last 0 at tokens)
