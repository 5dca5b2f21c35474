-- The statement that is read from a line's sound tokens.
use Rattle.std.proofs.Common.{◌≡◌, ◌≢◌, ℕ, suc, ◌+◌, ◌-◌, Bool, true, false, not, ◌&&◌, ◌||◌, if◌then◌else◌, nat_lt, nat_le, nat_eq, List, [], ◌∷◌, length, take, drop, codes, Option, None, Some, is_some, option_map, unwrap_or, Result, Ok, Err, refl, sym, ◌∙◌, subst, arith}
use Rattle.std.specs.Prelude.{All, IfSome}
use Rattle.std.specs.Option.{option_or}
use Rattle.std.proofs.lemmas.Bool.{and_parts, cond_both, eqb-false, ne_eqb, ltb-true, leb-true, not-true}
use Rattle.std.proofs.lemmas.List.Elements.{All-nil, All-drop, All-take, All-weaker}
use Rattle.kmn_base.specs.declared.codes.Code.{Code}
use Rattle.kmn_base.specs.declared.codes.Code.TheVariants as code
use Rattle.kmn_base.specs.Names.{named_in}
use Rattle.rule_model.specs.declared.program.SrcItem.{SrcItem}
use Rattle.rule_model.specs.declared.program.RuleDef.{RuleDef}
use Rattle.rule_model.specs.declared.program.RuleKind.{RuleKind}
use Rattle.rule_model.specs.declared.program.RuleKind.TheVariants.{Plain, OnMatch, OnNoMatch}
use Rattle.kmn_items.specs.declared.syntax.TokenRefusal.{TokenRefusal}
use Rattle.kmn_items.specs.declared.syntax.Slot.{Slot}
use Rattle.kmn_items.specs.declared.syntax.Slot.TheVariants as slot
use Rattle.kmn_items.specs.declared.syntax.Where.{Where}
use Rattle.kmn_items.specs.declared.syntax.Where.TheVariants as section
use Rattle.kmn_parser.specs.declared.statement.Sign.TheVariants as sign
use Rattle.kmn_parser.specs.declared.statement.LastGroup.{LastGroup}
use Rattle.kmn_parser.specs.declared.statement.LastGroup.TheVariants.{Missing, UsingKeys, WithoutKeys}
use Rattle.kmn_parser.specs.declared.statement.Statement.{Statement}
use Rattle.kmn_parser.specs.declared.statement.Statement.TheVariants as statement
use Rattle.kmn_base.specs.Answers.{and_then}
use Rattle.kmn_items.specs.TokenTexts.{LineToken, fault, text_at, begins_open, is_wordy}
use Rattle.kmn_items.specs.Words.{is_system_name, bare_name, is_name}
use Rattle.kmn_base.specs.Texts.{character_count}
use Rattle.kmn_base.proofs.Options.{option_or-none}
use Rattle.kmn_items.specs.Slots.{unless, broken}
use Rattle.kmn_items.specs.Item.{unseen, read_items, read_key}
use Rattle.kmn_parser.specs.Line.{place_of, begins_word, is_none_left, checked, first_of, tokens_after_close, system_stores, store_system, store_form, store_fault, store_def, read_store, begin_head, begin_fault, read_begin, group_head, group_fault, read_group, no_group, no_output, match_fault, read_match, begins_rule, uses_keys, rule_head, rule_key, rule_body, earliest, rule_at, read_rule, read_tokens, read_line}
use Rattle.kmn_parser.specs.Source.{last_group}
use Rattle.kmn_parser.specs.ProgramLaws.{IsName, IsReadItem, IsRuleKey, IsLine, IsReadStore, IsReadBegin, IsReadRule}
use Rattle.kmn_parser.proofs.CleanTexts.{clean-characters, counted-characters}
use Rattle.kmn_parser.proofs.SoundTokens.{IsSoundToken}
use Rattle.kmn_parser.proofs.SoundKeys.{row-found}
use Rattle.kmn_parser.proofs.ReadItems.{IsClean, text-clean, no-fault, text_at-drop, IsReadIn, AllRead, items-read, KeyRead, one_key-read}

-- a name of 1 to 80 characters
name-read : (text : List ℕ) → IsClean text → is_name text ≡ true → IsName text
name-read text clean named =
    let both = and_parts (nat_lt 0 (character_count text)) (nat_le (character_count text) 80) named in
    let some = ltb-true 0 (character_count text) both.0 in
    let few = leb-true (character_count text) 80 both.1 in
    let same = counted-characters text clean.utf8 in
    record {
      utf8 = clean.utf8;
      characters = clean-characters text clean.utf8 clean.clean;
      some = omega (arith, some, same);
      few = omega (arith, few, same);
    }

-- the name at the beginning of the tokens of a form
form-named : (last at : ℕ) (slots : List Slot) (tokens : List LineToken) → broken last at (slot.Name ∷ slots) tokens ≡ None → is_name (text_at 0 tokens) ≡ true
form-named last at slots [] whole = cc
form-named last at slots (token ∷ tokens) whole =
    let here = no-fault at (is_wordy token.kind && is_name token.text) code.S02 (broken last (at + 1) slots tokens) whole in
    (and_parts (is_wordy token.kind) (is_name token.text) here).1

form-store : (last at : ℕ) (slots : List Slot) (tokens : List LineToken) → broken last at (slot.StoreName ∷ slots) tokens ≡ None → is_name (bare_name (text_at 0 tokens)) ≡ true
form-store last at slots [] whole = cc
form-store last at slots (token ∷ tokens) whole =
    let here = no-fault at (is_wordy token.kind && is_name (bare_name token.text)) code.S02 (broken last (at + 1) slots tokens) whole in
    (and_parts (is_wordy token.kind) (is_name (bare_name token.text)) here).1

-- the name at an index of a line
named-at : (last at place : ℕ) (slots : List Slot) (tokens : List LineToken) → All IsSoundToken tokens
    → broken last at (slot.Name ∷ slots) (drop place tokens) ≡ None → IsName (text_at place tokens)
named-at last at place slots tokens sound whole =
    name-read (text_at place tokens) (text-clean place tokens sound)
    (subst (λ (text : List ℕ). is_name text ≡ true) (text_at-drop place tokens) (form-named last at slots (drop place tokens) whole))

-- the items of a section
section-read : (place : Where) (items : List SrcItem) → All (IsReadIn place) items → All IsReadItem items
section-read place items read = All-weaker (IsReadIn place) IsReadItem (λ item in_place. in_place.itself) items read

-- what is read from a line with a number, after a group
abbrev pub IsReadStatement : LastGroup → Statement → Type 0
IsReadStatement group statement.Nothing = Unit {0}
IsReadStatement group (statement.Store store) = IsReadStore store
IsReadStatement group (statement.Begin start) = IsReadBegin start
IsReadStatement group (statement.Group opened) = IsLine opened.line × IsName opened.name × (opened.rules ≡ [])
IsReadStatement group (statement.Rule rule) = (using_keys : Bool) × (group ≡ last_group using_keys) × IsReadRule using_keys rule

abbrev pub StatementRead : LastGroup → Result Statement TokenRefusal → Type 0
StatementRead group (Ok stated) = IsReadStatement group stated
StatementRead group (Err found) = Unit {0}

checked-read : (group : LastGroup) (found : Option TokenRefusal) (read : Result Statement TokenRefusal) → (found ≡ None → StatementRead group read) → StatementRead group (checked found read)
checked-read group None read whole = whole refl
checked-read group (Some found) read whole = tt

then-read : (group : LastGroup) (place : Where) (items : Result (List SrcItem) TokenRefusal) (next : List SrcItem → Result Statement TokenRefusal) → AllRead place items
    → ((xs : List SrcItem) → All IsReadItem xs → StatementRead group (next xs)) → StatementRead group (and_then items next)
then-read group place (Ok items) next read more = more items (section-read place items read)
then-read group place (Err found) next read more = tt

pub first-none : (head : Option Code) (later : Option TokenRefusal) → first_of head later ≡ None → (head ≡ None) × (later ≡ None)
first-none None later e = (refl, e)
first-none (Some head) later e = cc

pub unless-none : (test : Bool) (wrong : Code) → unless test wrong ≡ None → test ≡ true
unless-none true wrong e = refl
unless-none false wrong e = cc

pub mapped-none : {A B : Type 0} (f : A → B) (o : Option A) → option_map f o ≡ None → o ≡ None
mapped-none f None e = refl
mapped-none f (Some x) e = cc

-- the id of a system store in a file
abbrev is_id : ℕ → Bool
is_id id = nat_lt 0 id && (nat_lt id 0x1_0000 && not (nat_eq id 34))

system-store : (line : ℕ) (name : List ℕ) (items : List SrcItem) (found : Option ℕ) → IsLine line → All IsReadItem items
    → named_in system_stores name ≡ found → is_some found ≡ true
    → IsReadStore (record { line = line; system = unwrap_or found 0; name = []; items = items })
unfolding system_stores
system-store line name items None placed read e known = cc
system-store line name items (Some id) placed read e known =
    let both = and_parts (nat_lt 0 id) (nat_lt id 0x1_0000 && not (nat_eq id 34)) (row-found is_id system_stores name id e refl) in
    let more = and_parts (nat_lt id 0x1_0000) (not (nat_eq id 34)) both.1 in
    let some = ltb-true 0 id both.0 in
    let fits = ltb-true id 0x1_0000 more.0 in
    record {
      line = placed;
      system = omega (arith, fits);
      no_dictionary = eqb-false id 34 (not-true (nat_eq id 34) more.1);
      named = λ ordinary. absurd (omega (arith, some, ordinary));
      unnamed = λ other. refl;
      items = read;
    }

ordinary-store : (line : ℕ) (name : List ℕ) (items : List SrcItem) → IsLine line → All IsReadItem items → IsName name
    → IsReadStore (record { line = line; system = 0; name = name; items = items })
ordinary-store line name items placed read named = record {
  line = placed;
  system = omega arith;
  no_dictionary = λ e. omega (arith, e);
  named = λ ordinary. named;
  unnamed = λ other. absurd (other refl);
  items = read;
}

abbrev bare : Bool → List ℕ → List ℕ
bare system name = if system then drop 1 name else name

abbrev id_of : Bool → List ℕ → Option ℕ
id_of system name = if system then named_in system_stores (bare system name) else Some 0

store-read : (line : ℕ) (name : List ℕ) (items : List SrcItem) → IsLine line → All IsReadItem items → IsClean name
    → is_name (bare_name name) ≡ true → is_some (store_system name) ≡ true → IsReadStore (store_def line name items)
store-read line name items placed read clean named known =
    (elim (is_system_name name) as (λ (system : Bool). is_name (bare system name) ≡ true → is_some (id_of system name) ≡ true → IsReadStore (record { line = line; system = unwrap_or (id_of system name) 0; name = if system then [] else name; items = items })) [
      | true ↦ λ e f. system-store line (drop 1 name) items (named_in system_stores (drop 1 name)) placed read refl f
      | false ↦ λ e f. ordinary-store line name items placed read (name-read name clean e)
    ]) named known

-- a form that continues is not at its end
goes-on : (last at : ℕ) (wanted : Slot) (tokens : List LineToken) → broken last at (wanted ∷ []) tokens ≡ None → is_none_left tokens ≡ false
goes-on last at wanted [] whole = cc
goes-on last at wanted (token ∷ tokens) whole = ne_eqb (suc (length tokens)) 0 (λ e. omega (arith, e))

known-then : (end known : Bool) → (end || known) ≡ true → end ≡ false → known ≡ true
known-then true known e f = cc
known-then false known e f = e

store-of-form : (line last : ℕ) (tokens : List LineToken) (items : List SrcItem) → IsLine line → All IsSoundToken tokens → store_form last tokens ≡ None → All IsReadItem items
    → IsReadStore (store_def line (text_at 2 tokens) items)
store-of-form line last tokens items placed sound whole read =
    let name : List ℕ = text_at 2 tokens in
    let first = option_or-none (broken last 2 (slot.StoreName ∷ []) (drop 2 tokens)) _ whole in
    let second = option_or-none (option_map (fault 2) (unless (is_none_left (drop 3 tokens) || is_some (store_system name)) code.S12)) (broken last 3 (slot.Close ∷ []) (drop 3 tokens)) first.1 in
    let either = unless-none (is_none_left (drop 3 tokens) || is_some (store_system name)) code.S12 (mapped-none (fault 2) _ second.0) in
    store-read line name items placed read (text-clean 2 tokens sound)
    (subst (λ (text : List ℕ). is_name (bare_name text) ≡ true) (text_at-drop 2 tokens) (form-store last 2 [] (drop 2 tokens) first.0))
    (known-then (is_none_left (drop 3 tokens)) (is_some (store_system name)) either (goes-on last 3 slot.Close (drop 3 tokens) second.1))

store-line : (group : LastGroup) (line last : ℕ) (tokens : List LineToken) → IsLine line → All IsSoundToken tokens → StatementRead group (read_store line last tokens)
unfolding read_store store_fault
store-line group line last tokens placed sound =
    checked-read group (store_fault last tokens) _
    (λ whole.
    then-read group section.Store (read_items section.Store unseen last 0 4 (drop 4 tokens)) (λ items. Ok (statement.Store (store_def line (text_at 2 tokens) items)))
    (items-read section.Store unseen last 0 4 (drop 4 tokens) (All-drop IsSoundToken 4 tokens sound))
    (λ items read. store-of-form line last tokens items placed sound (first-none (unless (begins_open (drop 1 tokens)) code.S01) (store_form last tokens) whole).1 read))

begin-line : (group : LastGroup) (line last : ℕ) (tokens : List LineToken) → IsLine line → All IsSoundToken tokens → StatementRead group (read_begin line last tokens)
unfolding read_begin begin_fault
begin-line group line last tokens placed sound =
    checked-read group (begin_fault last tokens) _
    (λ whole.
    let form = (first-none (begin_head (place_of sign.Arrow tokens) tokens) (broken last 5 (slot.Name ∷ slot.Close ∷ []) (drop 5 tokens)) whole).1 in
    record { line = placed; group = named-at last 5 5 (slot.Close ∷ []) tokens sound form })

group-line : (group : LastGroup) (line last : ℕ) (tokens : List LineToken) → IsLine line → All IsSoundToken tokens → StatementRead group (read_group line last tokens)
unfolding read_group group_fault
group-line group line last tokens placed sound =
    checked-read group (group_fault last tokens) _
    (λ whole.
    let form = (first-none (group_head tokens (tokens_after_close (drop 2 tokens))) (broken last 2 (slot.Name ∷ slot.Close ∷ []) (drop 2 tokens)) whole).1 in
    (placed, named-at last 2 2 (slot.Close ∷ []) tokens sound form, refl))

-- a group before a line
some-group : (group : LastGroup) → no_group group ≡ None → group ≡ last_group (uses_keys group)
some-group Missing e = cc
some-group UsingKeys e = refl
some-group WithoutKeys e = refl

bare-rule : (using_keys : Bool) (line : ℕ) (kind : RuleKind) (output : List SrcItem) → IsLine line → kind ≢ Plain → All IsReadItem output
    → IsReadRule using_keys (record { line = line; kind = kind; context = []; key = None; output = output })
bare-rule using_keys line kind output placed other read = record {
  line = placed;
  context = All-nil IsReadItem;
  key = tt;
  output = read;
  keyed = λ plain. absurd (other plain);
  bare = λ e. (refl, refl);
}

match-line : (kind : RuleKind) (group : LastGroup) (line last : ℕ) (tokens : List LineToken) → kind ≢ Plain → IsLine line → All IsSoundToken tokens
    → StatementRead group (read_match kind group line last tokens)
unfolding read_match match_fault
match-line kind group line last tokens other placed sound =
    checked-read group (match_fault group (place_of sign.Arrow tokens) tokens) _
    (λ whole.
    let head = (first-none (option_or (no_group group) (no_output (place_of sign.Arrow tokens) tokens)) _ whole).0 in
    let opened = some-group group (option_or-none (no_group group) (no_output (place_of sign.Arrow tokens) tokens) head).0 in
    then-read group section.Output (read_items section.Output unseen last 0 2 (drop 2 tokens)) _
    (items-read section.Output unseen last 0 2 (drop 2 tokens) (All-drop IsSoundToken 2 tokens sound))
    (λ output read. (uses_keys group, opened, bare-rule (uses_keys group) line kind output placed other read)))

-- the key of a rule: it is present exactly after a +, and only in a group with keys
abbrev RuleKeyRead : Bool → Bool → Result (Option SrcItem) TokenRefusal → Type 0
RuleKeyRead using_keys plus (Ok key) = IfSome key (λ item. IsRuleKey item × IsReadItem item) × (is_some key ≡ plus) × (plus ≡ true → using_keys ≡ true)
RuleKeyRead using_keys plus (Err found) = Unit {0}

key-if : (using_keys plus : Bool) (read : Result SrcItem TokenRefusal) (wrong : TokenRefusal) → KeyRead read
    → RuleKeyRead using_keys plus (if not plus then Ok None else (if using_keys then and_then read (λ key. Ok (Some key)) else Err wrong))
key-if using_keys false read wrong known = (tt, refl, λ e. cc)
key-if false true read wrong known = tt
key-if true true (Ok item) wrong known = ((known.stands, known.itself), refl, λ e. refl)
key-if true true (Err found) wrong known = tt

-- a plain rule with a number
record IsPlainRule (using_keys plus : Bool) (line : ℕ) (rule : RuleDef) : Type 0 where
  at : rule.line ≡ line
  plain : rule.kind ≡ Plain
  context : All IsReadItem rule.context
  key : IfSome rule.key (λ item. IsRuleKey item × IsReadItem item)
  output : All IsReadItem rule.output
  keyed : is_some rule.key ≡ plus
  keys : plus ≡ true → using_keys ≡ true

abbrev BodyRead : Bool → Bool → ℕ → Result RuleDef TokenRefusal → Type 0
BodyRead using_keys plus line (Ok rule) = IsPlainRule using_keys plus line rule
BodyRead using_keys plus line (Err found) = Unit {0}

body-of : (using_keys plus : Bool) (line : ℕ) (contexts : Result (List SrcItem) TokenRefusal) (keys : Result (Option SrcItem) TokenRefusal) (outputs : Result (List SrcItem) TokenRefusal)
    → AllRead section.Context contexts → RuleKeyRead using_keys plus keys → AllRead section.Output outputs
    → BodyRead using_keys plus line (and_then contexts (λ context. and_then keys (λ key. and_then outputs (λ output. Ok (record { line = line; kind = Plain; context = context; key = key; output = output })))))
body-of using_keys plus line (Err found) keys outputs c k o = tt
body-of using_keys plus line (Ok context) (Err found) outputs c k o = tt
body-of using_keys plus line (Ok context) (Ok key) (Err found) c k o = tt
body-of using_keys plus line (Ok context) (Ok key) (Ok output) c k o = record {
  at = refl;
  plain = refl;
  context = section-read section.Context context c;
  key = k.0;
  output = section-read section.Output output o;
  keyed = k.1;
  keys = k.2;
}

body-read : (group : LastGroup) (line last arrow plus : ℕ) (tokens : List LineToken) → All IsSoundToken tokens
    → BodyRead (uses_keys group) (nat_lt plus arrow) line (rule_body group line last arrow plus tokens)
unfolding rule_body rule_key
body-read group line last arrow plus tokens sound =
    let key_tokens = drop (plus + 1) (take arrow tokens) in
    let read = one_key-read last (plus + 1) key_tokens (All-drop IsSoundToken (plus + 1) (take arrow tokens) (All-take IsSoundToken arrow tokens sound)) in
    body-of (uses_keys group) (nat_lt plus arrow) line _ (rule_key group last arrow plus tokens) _
    (items-read section.Context unseen last 0 0 (take plus tokens) (All-take IsSoundToken plus tokens sound))
    (key-if (uses_keys group) (nat_lt plus arrow) (read_key last (plus + 1) key_tokens) (fault plus code.S07) read)
    (items-read section.Output unseen last 0 (arrow + 1) (drop (arrow + 1) tokens) (All-drop IsSoundToken (arrow + 1) tokens sound))

-- there is a key exactly where the group uses keys
same-keys : (using_keys plus key : Bool) → key ≡ plus → (plus ≡ true → using_keys ≡ true) → (not using_keys || plus) ≡ true → key ≡ using_keys
same-keys true plus key e f g = e ∙ g
same-keys false true key e f g = let no : false ≡ true = f refl in absurd (cc)
same-keys false false key e f g = e

rule-of : (using_keys plus : Bool) (line : ℕ) (rule : RuleDef) → IsLine line → (not using_keys || plus) ≡ true → IsPlainRule using_keys plus line rule → IsReadRule using_keys rule
rule-of using_keys plus line rule placed needed read = record {
  line = subst IsLine (sym read.at) placed;
  context = read.context;
  key = read.key;
  output = read.output;
  keyed = λ plain. same-keys using_keys plus (is_some rule.key) read.keyed read.keys needed;
  bare = λ other. absurd (other read.plain);
}

-- if there is no code at the first token, there is a group before, and a rule of a group that uses keys has a key
abbrev IsReadHead : LastGroup → Bool → Type 0
IsReadHead group plus = (group ≡ last_group (uses_keys group)) × ((not (uses_keys group) || plus) ≡ true)

earliest-read : (group : LastGroup) (plus : Bool) (line : ℕ) (head : Option Code) (body : Result RuleDef TokenRefusal) → IsLine line → (head ≡ None → IsReadHead group plus)
    → BodyRead (uses_keys group) plus line body → StatementRead group (earliest head body)
earliest-read group plus line None (Ok rule) placed opened read =
    let both = opened refl in (uses_keys group, both.0, rule-of (uses_keys group) plus line rule placed both.1 read)
earliest-read group plus line None (Err found) placed opened read = tt
earliest-read group plus line (Some head) (Ok rule) placed opened read = tt
earliest-read group plus line (Some head) (Err found) placed opened read = tt

head-read : (group : LastGroup) (arrow plus : ℕ) (tokens : List LineToken) → rule_head group arrow plus tokens ≡ None → IsReadHead group (nat_lt plus arrow)
unfolding rule_head
head-read group arrow plus tokens whole =
    let behind = (option_or-none (unless (nat_lt arrow (length tokens) || begins_rule tokens) code.S01) _ whole).1 in
    let opened = option_or-none (no_group group) _ behind in
    let keyed = (option_or-none (no_output arrow tokens) (unless (not (uses_keys group) || nat_lt plus arrow) code.S08) opened.1).1 in
    (some-group group opened.0, unless-none (not (uses_keys group) || nat_lt plus arrow) code.S08 keyed)

rule-line : (group : LastGroup) (line last arrow plus : ℕ) (tokens : List LineToken) → IsLine line → All IsSoundToken tokens
    → StatementRead group (rule_at group line last arrow plus tokens)
rule-line group line last arrow plus tokens placed sound =
    earliest-read group (nat_lt plus arrow) line (rule_head group arrow plus tokens) (rule_body group line last arrow plus tokens) placed
    (head-read group arrow plus tokens) (body-read group line last arrow plus tokens sound)

rule-read : (group : LastGroup) (line last : ℕ) (tokens : List LineToken) → IsLine line → All IsSoundToken tokens → StatementRead group (read_rule group line last tokens)
unfolding read_rule
rule-read group line last tokens placed sound =
    let arrow = place_of sign.Arrow tokens in rule-line group line last arrow (place_of sign.Plus (take arrow tokens)) tokens placed sound

tokens-read : (group : LastGroup) (line last : ℕ) (tokens : List LineToken) → IsLine line → All IsSoundToken tokens → StatementRead group (read_tokens group line last tokens)
tokens-read group line last tokens placed sound =
    let P : Result Statement TokenRefusal → Type 0 = StatementRead group in
    cond_both (begins_word (codes "store") tokens) _ _ P (λ e. store-line group line last tokens placed sound)
    (λ e. cond_both (begins_word (codes "begin") tokens) _ _ P (λ f. begin-line group line last tokens placed sound)
    (λ f. cond_both (begins_word (codes "group") tokens) _ _ P (λ g. group-line group line last tokens placed sound)
    (λ g. cond_both (begins_word (codes "match") tokens) _ _ P (λ h. match-line OnMatch group line last tokens (λ same. cc) placed sound)
    (λ h. cond_both (begins_word (codes "nomatch") tokens) _ _ P (λ i. match-line OnNoMatch group line last tokens (λ same. cc) placed sound)
    (λ i. rule-read group line last tokens placed sound)))))

-- the statement of a line
pub line-read : (group : LastGroup) (line : ℕ) (tokens : List LineToken) → IsLine line → All IsSoundToken tokens → StatementRead group (read_line group line tokens)
line-read group line tokens placed sound =
    cond_both (is_none_left tokens) _ _ (StatementRead group) (λ e. tt) (λ e. tokens-read group line (length tokens - 1) tokens placed sound)
