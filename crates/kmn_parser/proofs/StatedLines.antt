-- The statement of a line has the line's number.
use Rattle.std.proofs.Common.{◌≡◌, ℕ, ◌+◌, ◌-◌, Bool, true, false, if◌then◌else◌, List, [], length, take, drop, codes, Option, None, Some, Result, Ok, Err, refl}
use Rattle.kmn_base.specs.declared.codes.Code.{Code}
use Rattle.rule_model.specs.declared.program.SrcItem.{SrcItem}
use Rattle.rule_model.specs.declared.program.RuleDef.{RuleDef}
use Rattle.rule_model.specs.declared.program.RuleKind.{RuleKind}
use Rattle.rule_model.specs.declared.program.RuleKind.TheVariants.{Plain, OnMatch, OnNoMatch}
use Rattle.kmn_items.specs.declared.syntax.TokenRefusal.{TokenRefusal}
use Rattle.kmn_items.specs.declared.syntax.Where.TheVariants as section
use Rattle.kmn_parser.specs.declared.statement.Sign.TheVariants as sign
use Rattle.kmn_parser.specs.declared.statement.LastGroup.{LastGroup}
use Rattle.kmn_parser.specs.declared.statement.Statement.{Statement}
use Rattle.kmn_parser.specs.declared.statement.Statement.TheVariants as statement
use Rattle.kmn_base.specs.Answers.{and_then}
use Rattle.kmn_items.specs.TokenTexts.{LineToken, text_at}
use Rattle.kmn_items.specs.Item.{unseen, read_items}
use Rattle.kmn_parser.specs.Line.{place_of, begins_word, tokens_after_close, is_none_left, checked, store_fault, store_def, begin_fault, is_using_keys, group_fault, match_fault, earliest, read_store, read_begin, read_group, read_match, rule_body, rule_head, rule_key, read_rule, read_tokens, read_line}

-- a statement has the number of a line; an empty line contains no statement
abbrev pub StandsAt : ℕ → Statement → Type 0
StandsAt line statement.Nothing = Unit {0}
StandsAt line (statement.Store store) = store.line ≡ line
StandsAt line (statement.Begin start) = start.line ≡ line
StandsAt line (statement.Group group) = (group.line ≡ line) × (group.rules ≡ [])
StandsAt line (statement.Rule rule) = rule.line ≡ line

-- if a statement is read, it has a number
abbrev pub ReadsAt : ℕ → Result Statement TokenRefusal → Type 0
ReadsAt line (Ok read) = StandsAt line read
ReadsAt line (Err found) = Unit {0}

abbrev pub RuleAt : ℕ → Result RuleDef TokenRefusal → Type 0
RuleAt line (Ok rule) = rule.line ≡ line
RuleAt line (Err found) = Unit {0}

pub checked-at : (line : ℕ) (found : Option TokenRefusal) (read : Result Statement TokenRefusal) → ReadsAt line read → ReadsAt line (checked found read)
checked-at line None read at = at
checked-at line (Some f) read at = tt

pub then-at : {A : Type 0} (line : ℕ) (first : Result A TokenRefusal) (next : A → Result Statement TokenRefusal) → ((x : A) → ReadsAt line (next x)) → ReadsAt line (and_then first next)
then-at line (Ok x) next at = at x
then-at line (Err f) next at = tt

pub rule_then-at : {A : Type 0} (line : ℕ) (first : Result A TokenRefusal) (next : A → Result RuleDef TokenRefusal) → ((x : A) → RuleAt line (next x)) → RuleAt line (and_then first next)
rule_then-at line (Ok x) next at = at x
rule_then-at line (Err f) next at = tt

pub if-at : (line : ℕ) (test : Bool) (a b : Result Statement TokenRefusal) → ReadsAt line a → ReadsAt line b → ReadsAt line (if test then a else b)
if-at line true a b x y = x
if-at line false a b x y = y

abbrev store_items : ℕ → ℕ → List LineToken → Result Statement TokenRefusal
store_items line last tokens =
    and_then (read_items section.Store unseen last 0 4 (drop 4 tokens)) (λ items. Ok (statement.Store (store_def line (text_at 2 tokens) items)))

pub store-at : (line last : ℕ) (tokens : List LineToken) → ReadsAt line (read_store line last tokens)
unfolding read_store
store-at line last tokens =
    checked-at line (store_fault last tokens) (store_items line last tokens)
    (then-at line (read_items section.Store unseen last 0 4 (drop 4 tokens)) (λ items. Ok (statement.Store (store_def line (text_at 2 tokens) items))) (λ items. refl))

abbrev begin_of : ℕ → List LineToken → Result Statement TokenRefusal
begin_of line tokens =
    Ok (statement.Begin (record { line = line; unicode = begins_word (codes "Unicode") (drop 1 tokens); group = text_at 5 tokens }))

pub begin-at : (line last : ℕ) (tokens : List LineToken) → ReadsAt line (read_begin line last tokens)
unfolding read_begin
begin-at line last tokens = checked-at line (begin_fault last tokens) (begin_of line tokens) refl

abbrev group_of : ℕ → List LineToken → Result Statement TokenRefusal
group_of line tokens =
    Ok (statement.Group (record { line = line; name = text_at 2 tokens; using_keys = is_using_keys (tokens_after_close (drop 2 tokens)); rules = [] }))

pub group-at : (line last : ℕ) (tokens : List LineToken) → ReadsAt line (read_group line last tokens)
unfolding read_group
group-at line last tokens = checked-at line (group_fault last tokens) (group_of line tokens) (refl, refl)

abbrev match_of : RuleKind → ℕ → List SrcItem → Result Statement TokenRefusal
match_of kind line output = Ok (statement.Rule (record { line = line; kind = kind; context = []; key = None; output = output }))

pub match-at : (kind : RuleKind) (group : LastGroup) (line last : ℕ) (tokens : List LineToken) → ReadsAt line (read_match kind group line last tokens)
unfolding read_match
match-at kind group line last tokens =
    let items = read_items section.Output unseen last 0 2 (drop 2 tokens) in
    checked-at line (match_fault group (place_of sign.Arrow tokens) tokens) (and_then items (match_of kind line))
    (then-at line items (match_of kind line) (λ output. refl))

abbrev rule_of : ℕ → List SrcItem → Option SrcItem → List SrcItem → Result RuleDef TokenRefusal
rule_of line context key output = Ok (record { line = line; kind = Plain; context = context; key = key; output = output })

pub body-at : (group : LastGroup) (line last arrow plus : ℕ) (tokens : List LineToken) → RuleAt line (rule_body group line last arrow plus tokens)
unfolding rule_body
body-at group line last arrow plus tokens =
    let contexts = read_items section.Context unseen last 0 0 (take plus tokens) in
    let keys = rule_key group last arrow plus tokens in
    let outputs = read_items section.Output unseen last 0 (arrow + 1) (drop (arrow + 1) tokens) in
    rule_then-at line contexts (λ context. and_then keys (λ key. and_then outputs (rule_of line context key))) (λ context.
    rule_then-at line keys (λ key. and_then outputs (rule_of line context key)) (λ key.
    rule_then-at line outputs (rule_of line context key) (λ output. refl)))

pub earliest-at : (line : ℕ) (head : Option Code) (body : Result RuleDef TokenRefusal) → RuleAt line body → ReadsAt line (earliest head body)
earliest-at line None (Ok rule) at = at
earliest-at line None (Err f) at = tt
earliest-at line (Some head) (Ok rule) at = tt
earliest-at line (Some head) (Err f) at = tt

pub rule-at : (group : LastGroup) (line last : ℕ) (tokens : List LineToken) → ReadsAt line (read_rule group line last tokens)
unfolding read_rule
rule-at group line last tokens =
    let arrow = place_of sign.Arrow tokens in
    let plus = place_of sign.Plus (take arrow tokens) in
    earliest-at line (rule_head group arrow plus tokens) (rule_body group line last arrow plus tokens) (body-at group line last arrow plus tokens)

pub tokens-at : (group : LastGroup) (line last : ℕ) (tokens : List LineToken) → ReadsAt line (read_tokens group line last tokens)
tokens-at group line last tokens =
    let store = begins_word (codes "store") tokens in
    let begins = begins_word (codes "begin") tokens in
    let groups = begins_word (codes "group") tokens in
    let matches = begins_word (codes "match") tokens in
    let nomatches = begins_word (codes "nomatch") tokens in
    let rule = read_rule group line last tokens in
    let nomatch = if nomatches then read_match OnNoMatch group line last tokens else rule in
    let match = if matches then read_match OnMatch group line last tokens else nomatch in
    let group_line = if groups then read_group line last tokens else match in
    let begin = if begins then read_begin line last tokens else group_line in
    if-at line store (read_store line last tokens) begin (store-at line last tokens)
    (if-at line begins (read_begin line last tokens) group_line (begin-at line last tokens)
    (if-at line groups (read_group line last tokens) match (group-at line last tokens)
    (if-at line matches (read_match OnMatch group line last tokens) nomatch (match-at OnMatch group line last tokens)
    (if-at line nomatches (read_match OnNoMatch group line last tokens) rule (match-at OnNoMatch group line last tokens) (rule-at group line last tokens)))))

pub line-at : (group : LastGroup) (line : ℕ) (tokens : List LineToken) → ReadsAt line (read_line group line tokens)
line-at group line tokens =
    if-at line (is_none_left tokens) (Ok statement.Nothing) (read_tokens group line (length tokens - 1) tokens) tt (tokens-at group line (length tokens - 1) tokens)
