-- Each statement except a plain rule is read as it is written.
use Rattle.std.proofs.Common.{◌≡◌, ℕ, suc, ◌-◌, Bool, true, false, ◌||◌, if◌then◌else◌, ◌==◌, List, [], ◌∷◌, length, Option, None, Some, is_some, refl, ◌∙◌, ap, arith}
use Rattle.std.specs.Prelude.{Ok, codes, nat_lt, unwrap_or, option_map}
use Rattle.std.specs.Option.{option_or}
use Rattle.std.proofs.lemmas.Bool.{lt-ltb, ne_eqb, or_right, cond-false}
use Rattle.kmn_base.specs.Answers.{and_then}
use Rattle.kmn_base.specs.Names.{same_name}
use Rattle.kmn_base.specs.declared.codes.Code.TheVariants.{S02, S04, S06, S12}
use Rattle.kmn_lines.specs.declared.token.TokenKind.{TokenKind}
use Rattle.kmn_lines.specs.declared.token.TokenKind.TheVariants as kind
use Rattle.rule_model.specs.declared.program.SrcItem.{SrcItem}
use Rattle.rule_model.specs.declared.program.RuleKind.TheVariants.{OnMatch, OnNoMatch}
use Rattle.kmn_items.specs.declared.syntax.Where.TheVariants as section
use Rattle.kmn_items.specs.declared.syntax.Slot.TheVariants as slot
use Rattle.kmn_items.specs.TokenTexts.{LineToken, fault, is_wordy}
use Rattle.kmn_items.specs.Words.{is_name, is_system_name}
use Rattle.kmn_items.specs.Slots.{unless, slot_fault, or_fault}
use Rattle.kmn_items.specs.Item.{unseen, read_items}
use Rattle.kmn_parser.specs.declared.statement.LastGroup.{LastGroup}
use Rattle.kmn_parser.specs.declared.statement.Statement.TheVariants as statement
use Rattle.kmn_parser.specs.Line.{checked, first_of, is_none_left, no_group, store_system, store_fault, store_def, read_store, begin_fault, read_begin, group_fault, read_group, has_items, match_fault, read_match, read_line}
use Rattle.kmn_parser.specs.Source.{last_group}
use Rattle.kmn_parser.specs.Texts.{arrow, closing, opening, name_token, word}
use Rattle.kmn_parser.proofs.LineForms.{items_tokens}
use Rattle.kmn_parser.proofs.Forms.{ArePrinted}
use Rattle.kmn_parser.proofs.Items.{ReadsAs}
use Rattle.kmn_parser.proofs.Sections.{items_read}

-- a store with a name
store-fits : (last system : ℕ) (name : List ℕ) (items : List LineToken) → slot_fault slot.StoreName (name_token name) ≡ None → store_system name ≡ Some system
    → store_fault last (word (codes "store") ∷ opening ∷ name_token name ∷ closing ∷ items) ≡ None
unfolding store_fault
store-fits last system name items fits known =
    ap (λ f. option_or (or_fault 2 f None) (option_or (option_map (fault 2) (unless (is_none_left (closing ∷ items) || is_some (store_system name)) S12)) None)) fits
    ∙ ap (λ b. option_or (option_map (fault 2) (unless b S12)) None) (or_right (is_none_left (closing ∷ items)) (is_some (store_system name)) (ap is_some known))

pub store_read : (group : LastGroup) (line system : ℕ) (name kept : List ℕ) (content : List LineToken) (items : List SrcItem)
    → slot_fault slot.StoreName (name_token name) ≡ None → store_system name ≡ Some system → (if is_system_name name then [] else name) ≡ kept → ReadsAs section.Store unseen content items
    → read_line group line (word (codes "store") ∷ opening ∷ name_token name ∷ closing ∷ content)
    ≡ Ok (statement.Store (record { line = line; system = system; name = kept; items = items }))
unfolding same_name read_store
store_read group line system name kept content items fits known is reads =
    let tokens : List LineToken = word (codes "store") ∷ opening ∷ name_token name ∷ closing ∷ content in
    let last = length tokens - 1 in
    cond-false (length tokens == 0) _ _ (ne_eqb (length tokens) 0 (omega arith))
    ∙ ap (λ f. checked f (and_then (read_items section.Store unseen last 0 4 content) (λ items. Ok (statement.Store (store_def line name items))))) (store-fits last system name content fits known)
    ∙ ap (λ r. and_then r (λ items. Ok (statement.Store (store_def line name items)))) (reads last 4)
    ∙ ap (λ (o : Option ℕ). Ok (statement.Store (record { line = line; system = unwrap_or o 0; name = if is_system_name name then [] else name; items = items }))) known
    ∙ ap (λ (k : List ℕ). Ok (statement.Store (record { line = line; system = system; name = k; items = items }))) is

-- a start statement, by the kind of its name as a token
abbrev begin_tokens : TokenKind → Bool → List ℕ → List LineToken
begin_tokens k unicode name =
    word (codes "begin") ∷ word (if unicode then codes "Unicode" else codes "ANSI") ∷ arrow ∷ word (codes "use") ∷ opening ∷ record { kind = k; text = name } ∷ closing ∷ []

pub begin_read : (k : TokenKind) (group : LastGroup) (line : ℕ) (unicode : Bool) (name : List ℕ) → is_wordy k ≡ true → is_name name ≡ true
    → read_line group line (begin_tokens k unicode name) ≡ Ok (statement.Begin (record { line = line; unicode = unicode; group = name }))
unfolding same_name read_begin begin_fault
begin_read kind.Word group line true name wordy ok = ap (λ b. checked (or_fault 5 (unless b S02) None) (Ok (statement.Begin (record { line = line; unicode = true; group = name })))) ok
begin_read kind.Word group line false name wordy ok = ap (λ b. checked (or_fault 5 (unless b S02) None) (Ok (statement.Begin (record { line = line; unicode = false; group = name })))) ok
begin_read (kind.Number c) group line true name wordy ok = ap (λ b. checked (or_fault 5 (unless b S02) None) (Ok (statement.Begin (record { line = line; unicode = true; group = name })))) ok
begin_read (kind.Number c) group line false name wordy ok = ap (λ b. checked (or_fault 5 (unless b S02) None) (Ok (statement.Begin (record { line = line; unicode = false; group = name })))) ok
begin_read other group line unicode name wordy ok = absurd cc

-- a group statement, by the kind of its name as a token
abbrev group_tokens : TokenKind → Bool → List ℕ → List LineToken
group_tokens k using_keys name =
    word (codes "group") ∷ opening ∷ record { kind = k; text = name } ∷ closing ∷ (if using_keys then word (codes "using") ∷ word (codes "keys") ∷ [] else [])

pub group_read : (k : TokenKind) (group : LastGroup) (line : ℕ) (using_keys : Bool) (name : List ℕ) → is_wordy k ≡ true → is_name name ≡ true
    → read_line group line (group_tokens k using_keys name) ≡ Ok (statement.Group (record { line = line; name = name; using_keys = using_keys; rules = [] }))
unfolding same_name read_group group_fault
group_read kind.Word group line true name wordy ok = ap (λ b. checked (or_fault 2 (unless b S02) None) (Ok (statement.Group (record { line = line; name = name; using_keys = true; rules = [] })))) ok
group_read kind.Word group line false name wordy ok = ap (λ b. checked (or_fault 2 (unless b S02) None) (Ok (statement.Group (record { line = line; name = name; using_keys = false; rules = [] })))) ok
group_read (kind.Number c) group line true name wordy ok = ap (λ b. checked (or_fault 2 (unless b S02) None) (Ok (statement.Group (record { line = line; name = name; using_keys = true; rules = [] })))) ok
group_read (kind.Number c) group line false name wordy ok = ap (λ b. checked (or_fault 2 (unless b S02) None) (Ok (statement.Group (record { line = line; name = name; using_keys = false; rules = [] })))) ok
group_read other group line using_keys name wordy ok = absurd cc

-- match and nomatch
group-there : (using_keys : Bool) → no_group (last_group using_keys) ≡ None
group-there true = refl
group-there false = refl

match-fits : (using_keys : Bool) (first : LineToken) (items : List LineToken) → has_items items ≡ true → match_fault (last_group using_keys) 1 (first ∷ arrow ∷ items) ≡ None
unfolding match_fault
match-fits using_keys first items some =
    ap (λ c. first_of (option_or c (option_or (unless (nat_lt 1 (suc (suc (length items)))) S04) (unless (has_items items) S06))) None) (group-there using_keys)
    ∙ ap (λ b. first_of (option_or (unless b S04) (unless (has_items items) S06)) None) (lt-ltb 1 (suc (suc (length items))) (omega arith))
    ∙ ap (λ b. first_of (unless b S06) None) some

pub match_read : (using_keys : Bool) (line : ℕ) (output : List SrcItem) → has_items (items_tokens output) ≡ true → ArePrinted section.Output unseen output
    → read_line (last_group using_keys) line (word (codes "match") ∷ arrow ∷ items_tokens output) ≡ Ok (statement.Rule (record { line = line; kind = OnMatch; context = []; key = None; output = output }))
unfolding same_name read_match
match_read using_keys line output some printed =
    let tokens : List LineToken = word (codes "match") ∷ arrow ∷ items_tokens output in
    let last = length tokens - 1 in
    cond-false (length tokens == 0) _ _ (ne_eqb (length tokens) 0 (omega arith))
    ∙ ap (λ f. checked f (and_then (read_items section.Output unseen last 0 2 (items_tokens output)) (λ output. Ok (statement.Rule (record { line = line; kind = OnMatch; context = []; key = None; output = output })))))
    (match-fits using_keys (word (codes "match")) (items_tokens output) some)
    ∙ ap (λ r. and_then r (λ output. Ok (statement.Rule (record { line = line; kind = OnMatch; context = []; key = None; output = output })))) (items_read section.Output unseen output printed last 2)

pub nomatch_read : (using_keys : Bool) (line : ℕ) (output : List SrcItem) → has_items (items_tokens output) ≡ true → ArePrinted section.Output unseen output
    → read_line (last_group using_keys) line (word (codes "nomatch") ∷ arrow ∷ items_tokens output) ≡ Ok (statement.Rule (record { line = line; kind = OnNoMatch; context = []; key = None; output = output }))
unfolding same_name read_match
nomatch_read using_keys line output some printed =
    let tokens : List LineToken = word (codes "nomatch") ∷ arrow ∷ items_tokens output in
    let last = length tokens - 1 in
    cond-false (length tokens == 0) _ _ (ne_eqb (length tokens) 0 (omega arith))
    ∙ ap (λ f. checked f (and_then (read_items section.Output unseen last 0 2 (items_tokens output)) (λ output. Ok (statement.Rule (record { line = line; kind = OnNoMatch; context = []; key = None; output = output })))))
    (match-fits using_keys (word (codes "nomatch")) (items_tokens output) some)
    ∙ ap (λ r. and_then r (λ output. Ok (statement.Rule (record { line = line; kind = OnNoMatch; context = []; key = None; output = output })))) (items_read section.Output unseen output printed last 2)
