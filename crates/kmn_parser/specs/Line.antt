-- The statement of a logical line's tokens, or the first fault in it.
use Rattle.std.specs.Prelude.{ℕ, ◌+◌, ◌-◌, ◌==◌, nat_eq, nat_lt, Bool, true, false, not, ◌&&◌, ◌||◌, if◌then◌else◌, List, [], ◌∷◌, length, take, drop, find, codes, Option, None, Some, is_some, unwrap_or, option_map, Result, Ok, Err}
use Rattle.std.specs.List.{list_any, position_or_len}
use Rattle.std.specs.Ordering.{nat_cmp, is_lt}
use Rattle.std.specs.Cmp.Lexicographic.{slice_cmp}
use Rattle.std.specs.Option.{option_or}
use Rattle.kmn_base.specs.CodeTexts.{code_text}
use Rattle.kmn_base.specs.declared.codes.Code.{Code}
use Rattle.kmn_base.specs.declared.codes.Code.TheVariants as code
use Rattle.kmn_lines.specs.declared.token.TokenKind.{TokenKind}
use Rattle.kmn_lines.specs.declared.token.TokenKind.TheVariants as kind
use Rattle.kmn_base.specs.Names.{same_name}
use Rattle.kmn_base.specs.Names.{named_in}
use Rattle.rule_model.specs.declared.program.SrcItem.{SrcItem}
use Rattle.rule_model.specs.declared.program.StoreDef.{StoreDef}
use Rattle.rule_model.specs.declared.program.RuleDef.{RuleDef}
use Rattle.rule_model.specs.declared.program.RuleKind.{RuleKind}
use Rattle.rule_model.specs.declared.program.RuleKind.TheVariants.{Plain, OnMatch, OnNoMatch}
use Rattle.rule_model.specs.declared.system.TheConstants.{BITMAP, VERSION, MNEMONIC_LAYOUT, CASED_KEYS, LEFT_OUT, DROPPED}
use Rattle.kmn_items.specs.declared.syntax.TokenRefusal.{TokenRefusal}
use Rattle.kmn_items.specs.declared.syntax.Slot.TheVariants as slot
use Rattle.kmn_items.specs.declared.syntax.Where.TheVariants as section
use Rattle.kmn_parser.specs.declared.statement.LastGroup.{LastGroup}
use Rattle.kmn_parser.specs.declared.statement.LastGroup.TheVariants.{Missing, UsingKeys}
use Rattle.kmn_parser.specs.declared.statement.Sign.{Sign}
use Rattle.kmn_parser.specs.declared.statement.Sign.TheVariants as sign
use Rattle.kmn_parser.specs.declared.statement.Statement.{Statement}
use Rattle.kmn_parser.specs.declared.statement.Statement.TheVariants as statement
use Rattle.kmn_base.specs.Answers.{and_then}
use Rattle.kmn_items.specs.TokenTexts.{LineToken, fault, text_at, begins_open, is_quoted, is_word, is_number}
use Rattle.kmn_items.specs.Words.{is_system_name, bare_name}
use Rattle.kmn_items.specs.Slots.{unless, broken}
use Rattle.kmn_items.specs.Item.{unseen, is_item_word, read_items, read_key}

-- whether a token is a symbol that separates the sections of a statement
abbrev pub is_sign : Sign → TokenKind → Bool
is_sign sign.Arrow kind.Arrow = true
is_sign sign.Plus kind.Plus = true
is_sign sign.Close kind.Close = true
is_sign wanted other = false

-- the index of the first token that is a symbol, or the number of tokens
abbrev pub place_of : Sign → List LineToken → ℕ
place_of wanted tokens = position_or_len (λ (token : LineToken). is_sign wanted token.kind) tokens

-- whether tokens begin with a word, in any ASCII case
abbrev pub begins_word : List ℕ → List LineToken → Bool
begins_word word [] = false
begins_word word (token ∷ tokens) = is_word token.kind && same_name word token.text

abbrev pub is_none_left : List LineToken → Bool
is_none_left tokens = length tokens == 0

-- the fault, or what is read if there is no fault
abbrev pub checked : {A : Type 0} → Option TokenRefusal → Result A TokenRefusal → Result A TokenRefusal
checked (Some found) read = Err found
checked None read = read

-- a code at the line's first token, else a later fault
abbrev pub first_of : Option Code → Option TokenRefusal → Option TokenRefusal
first_of (Some head) later = Some (fault 0 head)
first_of None later = later

-- the tokens after the first )
abbrev pub tokens_after_close : List LineToken → List LineToken
tokens_after_close tokens = drop (place_of sign.Close tokens + 1) tokens

-- the id in a file of each system store of a source; DROPPED is read and dropped, and the checker refuses LEFT_OUT as not supported
unfoldable pub system_stores : List (List ℕ × ℕ)
system_stores =
    (codes "bitmap", BITMAP) ∷ (codes "copyright", 2) ∷ (codes "hotkey", 3) ∷ (codes "message", 6) ∷ (codes "name", 7) ∷
    (codes "version", VERSION) ∷ (codes "mnemoniclayout", MNEMONIC_LAYOUT) ∷ (codes "visualkeyboard", 24) ∷
    (codes "layoutfile", 35) ∷ (codes "keyboardversion", 36) ∷ (codes "targets", 38) ∷ (codes "casedkeys", CASED_KEYS) ∷
    (codes "includecodes", LEFT_OUT) ∷ (codes "capsalwaysoff", LEFT_OUT) ∷ (codes "capsononly", LEFT_OUT) ∷
    (codes "shiftfreescaps", LEFT_OUT) ∷ (codes "ethnologuecode", DROPPED) ∷ (codes "windowslanguages", DROPPED) ∷
    (codes "language", DROPPED) ∷ (codes "layout", DROPPED) ∷ (codes "languagename", DROPPED) ∷ (codes "displaymap", DROPPED) ∷
    (codes "kmw_rtl", DROPPED) ∷ (codes "kmw_helpfile", DROPPED) ∷ (codes "kmw_helptext", DROPPED) ∷
    (codes "kmw_embedjs", DROPPED) ∷ (codes "kmw_embedcss", DROPPED) ∷ []

-- the name without & of the system store with an id: the first name by which a source can define it
abbrev pub system_store_name : ℕ → List ℕ
system_store_name id = unwrap_or (option_map (λ row. row.0) (find (λ row. nat_eq row.1 id) system_stores)) []

-- the id of a store by its name: 0 for a name without &, None for an unknown system store
abbrev pub store_system : List ℕ → Option ℕ
store_system name = if is_system_name name then named_in system_stores (bare_name name) else Some 0

-- store: a known name and ); if the line breaks off at the name, this is reported before an unknown name
abbrev pub store_form : ℕ → List LineToken → Option TokenRefusal
store_form last tokens =
    option_or (broken last 2 (slot.StoreName ∷ []) (drop 2 tokens))
    (option_or (option_map (fault 2) (unless (is_none_left (drop 3 tokens) || is_some (store_system (text_at 2 tokens))) code.S12))
    (broken last 3 (slot.Close ∷ []) (drop 3 tokens)))

-- store: a ( after the word, then the form
unfoldable pub store_fault : ℕ → List LineToken → Option TokenRefusal
store_fault last tokens = first_of (unless (begins_open (drop 1 tokens)) code.S01) (store_form last tokens)

-- a store with a name and its items; only an ordinary store keeps the name
abbrev pub store_def : ℕ → List ℕ → List SrcItem → StoreDef
store_def line name items =
    record { line = line; system = unwrap_or (store_system name) 0; name = if is_system_name name then [] else name; items = items }

-- store ( name ) items, store ( &name ) items
unfoldable pub read_store : ℕ → ℕ → List LineToken → Result Statement TokenRefusal
read_store line last tokens =
    checked (store_fault last tokens)
    (and_then (read_items section.Store unseen last 0 4 (drop 4 tokens))
    (λ items. Ok (statement.Store (store_def line (text_at 2 tokens) items))))

-- whether tokens begin with one of the two kinds of begin
abbrev pub begins_kind : List LineToken → Bool
begins_kind tokens = begins_word (codes "Unicode") tokens || begins_word (codes "ANSI") tokens

-- whether tokens are use ( .. ) without tokens after it
abbrev pub is_use : List LineToken → Bool
is_use tokens = begins_word (codes "use") tokens && begins_open (drop 1 tokens) && is_none_left (tokens_after_close (drop 2 tokens))

-- begin, with the index of its first >: a form that lacks only its > has another code than a different form
abbrev pub begin_head : ℕ → List LineToken → Option Code
begin_head arrow tokens =
    option_or (unless (begins_kind (drop 1 tokens) && is_use (drop (if arrow == 2 then 3 else 2) tokens)) code.S01)
    (unless (arrow == 2) code.S04)

unfoldable pub begin_fault : ℕ → List LineToken → Option TokenRefusal
begin_fault last tokens =
    first_of (begin_head (place_of sign.Arrow tokens) tokens) (broken last 5 (slot.Name ∷ slot.Close ∷ []) (drop 5 tokens))

-- begin Unicode > use ( name ), begin ANSI > use ( name )
unfoldable pub read_begin : ℕ → ℕ → List LineToken → Result Statement TokenRefusal
read_begin line last tokens =
    checked (begin_fault last tokens)
    (Ok (statement.Begin (record { line = line; unicode = begins_word (codes "Unicode") (drop 1 tokens); group = text_at 5 tokens })))

-- whether tokens are using keys without tokens after it
abbrev pub is_using_keys : List LineToken → Bool
is_using_keys tokens = begins_word (codes "using") tokens && begins_word (codes "keys") (drop 1 tokens) && is_none_left (drop 2 tokens)

-- group: a ( after the word, and after the first ) either no tokens or using keys
abbrev pub group_head : List LineToken → List LineToken → Option Code
group_head tokens tail = unless (begins_open (drop 1 tokens) && (is_none_left tail || is_using_keys tail)) code.S01

unfoldable pub group_fault : ℕ → List LineToken → Option TokenRefusal
group_fault last tokens =
    first_of (group_head tokens (tokens_after_close (drop 2 tokens))) (broken last 2 (slot.Name ∷ slot.Close ∷ []) (drop 2 tokens))

-- group ( name ), group ( name ) using keys
unfoldable pub read_group : ℕ → ℕ → List LineToken → Result Statement TokenRefusal
read_group line last tokens =
    checked (group_fault last tokens)
    (Ok (statement.Group (record { line = line; name = text_at 2 tokens; using_keys = is_using_keys (tokens_after_close (drop 2 tokens)); rules = [] })))

-- the code if there is no group before
abbrev pub no_group : LastGroup → Option Code
no_group Missing = Some code.S03
no_group other = None

-- whether a token is two quotes with nothing between them, which denote no item
abbrev pub is_empty_quote : LineToken → Bool
is_empty_quote token = is_quoted token.kind && (length token.text == 2)

-- whether some token denotes an item
abbrev pub has_items : List LineToken → Bool
has_items tokens = list_any (λ token. not (is_empty_quote token)) tokens

-- the code if there is no >, or no item after it, given the index of the first >
abbrev pub no_output : ℕ → List LineToken → Option Code
no_output arrow tokens = option_or (unless (nat_lt arrow (length tokens)) code.S04) (unless (has_items (drop (arrow + 1) tokens)) code.S06)

-- match: the > comes directly after the word
unfoldable pub match_fault : LastGroup → ℕ → List LineToken → Option TokenRefusal
match_fault group arrow tokens =
    first_of (option_or (no_group group) (no_output arrow tokens)) (option_map (fault 1) (unless (arrow == 1) code.S05))

-- match > output, nomatch > output
unfoldable pub read_match : RuleKind → LastGroup → ℕ → ℕ → List LineToken → Result Statement TokenRefusal
read_match kind group line last tokens =
    checked (match_fault group (place_of sign.Arrow tokens) tokens)
    (and_then (read_items section.Output unseen last 0 2 (drop 2 tokens))
    (λ output. Ok (statement.Rule (record { line = line; kind = kind; context = []; key = None; output = output }))))

-- whether tokens without > begin like a rule: with a quoted token, a number, + or an item's word
abbrev pub begins_rule : List LineToken → Bool
begins_rule [] = false
begins_rule (token ∷ tokens) =
    is_quoted token.kind || is_number token.kind || is_sign sign.Plus token.kind || (is_word token.kind && is_item_word token.text)

-- whether the group before uses keys
abbrev pub uses_keys : LastGroup → Bool
uses_keys UsingKeys = true
uses_keys other = false

-- the code of a rule at its first token, given the indexes of the first > and of the first + before it
unfoldable pub rule_head : LastGroup → ℕ → ℕ → List LineToken → Option Code
rule_head group arrow plus tokens =
    option_or (unless (nat_lt arrow (length tokens) || begins_rule tokens) code.S01)
    (option_or (no_group group)
    (option_or (no_output arrow tokens) (unless (not (uses_keys group) || nat_lt plus arrow) code.S08)))

-- the key between + and >, which is allowed only in a group with keys
unfoldable pub rule_key : LastGroup → ℕ → ℕ → ℕ → List LineToken → Result (Option SrcItem) TokenRefusal
rule_key group last arrow plus tokens =
    if not (nat_lt plus arrow) then Ok None
    else (if uses_keys group
    then and_then (read_key last (plus + 1) (drop (plus + 1) (take arrow tokens))) (λ key. Ok (Some key))
    else Err (fault plus code.S07))

-- the items of a rule, section by section
unfoldable pub rule_body : LastGroup → ℕ → ℕ → ℕ → ℕ → List LineToken → Result RuleDef TokenRefusal
rule_body group line last arrow plus tokens =
    and_then (read_items section.Context unseen last 0 0 (take plus tokens)) (λ context.
    and_then (rule_key group last arrow plus tokens) (λ key.
    and_then (read_items section.Output unseen last 0 (arrow + 1) (drop (arrow + 1) tokens)) (λ output.
    Ok (record { line = line; kind = Plain; context = context; key = key; output = output }))))

-- whether a code is less than another, by their texts
abbrev pub is_lesser : Code → Code → Bool
is_lesser code other = is_lt (slice_cmp nat_cmp (code_text code) (code_text other))

-- the earlier of a code at the first token and a fault; if both are at the first token, the lesser code
abbrev pub earlier : Code → TokenRefusal → TokenRefusal
earlier head found = if (found.at == 0) && is_lesser found.code head then found else fault 0 head

-- what is read, unless a code at the first token is earlier
abbrev pub earliest : Option Code → Result RuleDef TokenRefusal → Result Statement TokenRefusal
earliest None (Ok rule) = Ok (statement.Rule rule)
earliest None (Err found) = Err found
earliest (Some head) (Ok rule) = Err (fault 0 head)
earliest (Some head) (Err found) = Err (earlier head found)

-- a rule, given the index of the first > and of the first + before it, which is the index of the > if there is no +
abbrev pub rule_at : LastGroup → ℕ → ℕ → ℕ → ℕ → List LineToken → Result Statement TokenRefusal
rule_at group line last arrow plus tokens =
    earliest (rule_head group arrow plus tokens) (rule_body group line last arrow plus tokens)

-- context + key > output, or context > output in a group without keys
unfoldable pub read_rule : LastGroup → ℕ → ℕ → List LineToken → Result Statement TokenRefusal
read_rule group line last tokens =
    let arrow = place_of sign.Arrow tokens in
    rule_at group line last arrow (place_of sign.Plus (take arrow tokens)) tokens

-- the statement of a line's tokens, of which there is at least one, by the first word
abbrev pub read_tokens : LastGroup → ℕ → ℕ → List LineToken → Result Statement TokenRefusal
read_tokens group line last tokens =
    if begins_word (codes "store") tokens then read_store line last tokens
    else (if begins_word (codes "begin") tokens then read_begin line last tokens
    else (if begins_word (codes "group") tokens then read_group line last tokens
    else (if begins_word (codes "match") tokens then read_match OnMatch group line last tokens
    else (if begins_word (codes "nomatch") tokens then read_match OnNoMatch group line last tokens
    else read_rule group line last tokens))))

-- the statement of a line's tokens, after the last group before the line
abbrev pub read_line : LastGroup → ℕ → List LineToken → Result Statement TokenRefusal
read_line group line tokens =
    if is_none_left tokens then Ok statement.Nothing else read_tokens group line (length tokens - 1) tokens
