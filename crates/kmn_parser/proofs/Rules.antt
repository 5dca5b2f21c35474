-- A rule with a key is read as it is written.
use Rattle.std.proofs.Common.{◌≡◌, ℕ, ◌+◌, ◌-◌, ◌<◌, true, false, not, ◌||◌, ◌==◌, List, [], ◌∷◌, ◌++◌, length, take, drop, None, Some, refl, sym, ◌∙◌, ap, subst, arith, append_assoc, length-append}
use Rattle.std.specs.Prelude.{Ok, codes, nat_lt}
use Rattle.std.specs.List.{list_all}
use Rattle.std.proofs.Math.Seq.{take-append_seam, drop-append-add}
use Rattle.std.proofs.lemmas.List.Folds.{list_all-append}
use Rattle.std.specs.Fmt.{decimal}
use Rattle.std.specs.Option.{option_or}
use Rattle.std.proofs.lemmas.Bool.{and_from, lt-ltb, ne_eqb, cond_both, cond-true, cond-false, and_parts}
use Rattle.kmn_base.specs.Names.{same_name}
use Rattle.kmn_base.specs.declared.codes.Code.TheVariants.{S01, S04, S06, S08}
use Rattle.kmn_lines.specs.Tokens.{starts_number, hex_value}
use Rattle.kmn_lines.specs.declared.token.TokenKind.TheVariants as kind
use Rattle.kmn_items.specs.Slots.{unless}
use Rattle.rule_model.specs.declared.program.SrcItem.{SrcItem}
use Rattle.rule_model.specs.declared.program.SrcItem.TheVariants as source
use Rattle.rule_model.specs.declared.program.RuleKind.TheVariants.{Plain}
use Rattle.kmn_items.specs.declared.syntax.Where.TheVariants as section
use Rattle.kmn_parser.specs.declared.statement.LastGroup.{LastGroup}
use Rattle.kmn_parser.specs.declared.statement.LastGroup.TheVariants.{UsingKeys}
use Rattle.kmn_parser.specs.declared.statement.Sign.{Sign}
use Rattle.kmn_parser.specs.declared.statement.Sign.TheVariants as sign
use Rattle.kmn_parser.specs.declared.statement.Statement.TheVariants as statement
use Rattle.kmn_base.specs.Answers.{and_then}
use Rattle.kmn_items.specs.TokenTexts.{LineToken}
use Rattle.kmn_items.specs.Item.{unseen, read_items, read_key}
use Rattle.kmn_parser.specs.Line.{is_sign, place_of, begins_word, begins_rule, has_items, rule_head, rule_key, rule_body, rule_at, earliest, read_rule, read_line}
use Rattle.kmn_parser.specs.Items.{value_token, flag_words, item_pieces, joined_items, key_text, spaced_words, option_name}
use Rattle.kmn_parser.specs.Statements.{plain_pieces}
use Rattle.kmn_parser.specs.Texts.{arrow, bracket_closing, closing, comma, equal, name_token, plus, unequal, word}
use Rattle.kmn_parser.proofs.Forms.{ArePrinted}
use Rattle.kmn_parser.proofs.LineForms.{items_tokens, tokens_in}
use Rattle.kmn_parser.proofs.Sections.{tokens-append, tokens-spaced, tokens-joined, items_read, key_reads}

-- tokens that do not contain a symbol
abbrev pub Without : Sign → List LineToken → Type 0
Without wanted tokens = list_all (λ (t : LineToken). not (is_sign wanted t.kind)) tokens ≡ true

spaced-arrow : (texts : List (List ℕ)) (name : List ℕ) → Without sign.Arrow (tokens_in (spaced_words texts (Some (word name) ∷ Some bracket_closing ∷ [])))
spaced-arrow [] name = refl
spaced-arrow (text ∷ texts) name = spaced-arrow texts name

spaced-plus : (texts : List (List ℕ)) (name : List ℕ) → Without sign.Plus (tokens_in (spaced_words texts (Some (word name) ∷ Some bracket_closing ∷ [])))
spaced-plus [] name = refl
spaced-plus (text ∷ texts) name = spaced-plus texts name

without-append : (wanted : Sign) (xs ys : List LineToken) → Without wanted xs → Without wanted ys → Without wanted (xs ++ ys)
without-append wanted xs ys e f = list_all-append (λ (t : LineToken). not (is_sign wanted t.kind)) xs ys ∙ and_from _ _ e f

-- a name is not a symbol
name-without : (wanted : Sign) (name : List ℕ) (rest : List LineToken) → is_sign wanted kind.Word ≡ false → ((c : ℕ) → is_sign wanted (kind.Number c) ≡ false)
    → Without wanted rest → Without wanted (name_token name ∷ rest)
name-without wanted name rest word number more =
    and_from _ _ (ap not (cond_both (starts_number name) (kind.Number (hex_value 0 (drop 2 name))) kind.Word (λ k. is_sign wanted k ≡ false) (λ e. number _) (λ e. word))) more

name-arrow : (name : List ℕ) (rest : List LineToken) → Without sign.Arrow rest → Without sign.Arrow (name_token name ∷ rest)
name-arrow name rest more = name-without sign.Arrow name rest refl (λ c. refl) more

name-plus : (name : List ℕ) (rest : List LineToken) → Without sign.Plus rest → Without sign.Plus (name_token name ∷ rest)
name-plus name rest more = name-without sign.Plus name rest refl (λ c. refl) more

item-arrow : (i : SrcItem) → Without sign.Arrow (tokens_in (item_pieces i))
item-arrow (source.Key key) = spaced-arrow (flag_words key.flags) (key_text key)
item-arrow (source.Dead name) = name-arrow name (closing ∷ []) refl
item-arrow (source.Any name) = name-arrow name (closing ∷ []) refl
item-arrow (source.NotAny name) = name-arrow name (closing ∷ []) refl
item-arrow (source.Enter name) = name-arrow name (closing ∷ []) refl
item-arrow (source.Save name) = name-arrow name (closing ∷ []) refl
item-arrow (source.Reset name) = name-arrow name (closing ∷ []) refl
item-arrow (source.Index name offset) = name-arrow name (comma ∷ word (decimal offset) ∷ closing ∷ []) refl
item-arrow (source.Equal name value) = name-arrow name (equal ∷ value_token value ∷ closing ∷ []) refl
item-arrow (source.SystemEqual id value) = name-arrow (option_name id) (equal ∷ value_token value ∷ closing ∷ []) refl
item-arrow (source.Unequal name value) = name-arrow name (unequal ∷ value_token value ∷ closing ∷ []) refl
item-arrow (source.SystemUnequal id value) = name-arrow (option_name id) (unequal ∷ value_token value ∷ closing ∷ []) refl
item-arrow (source.Set name value) = name-arrow name (equal ∷ value_token value ∷ closing ∷ []) refl
item-arrow (source.SetSystem id value) = name-arrow (option_name id) (equal ∷ value_token value ∷ closing ∷ []) refl
item-arrow i = refl

item-plus : (i : SrcItem) → Without sign.Plus (tokens_in (item_pieces i))
item-plus (source.Key key) = spaced-plus (flag_words key.flags) (key_text key)
item-plus (source.Dead name) = name-plus name (closing ∷ []) refl
item-plus (source.Any name) = name-plus name (closing ∷ []) refl
item-plus (source.NotAny name) = name-plus name (closing ∷ []) refl
item-plus (source.Enter name) = name-plus name (closing ∷ []) refl
item-plus (source.Save name) = name-plus name (closing ∷ []) refl
item-plus (source.Reset name) = name-plus name (closing ∷ []) refl
item-plus (source.Index name offset) = name-plus name (comma ∷ word (decimal offset) ∷ closing ∷ []) refl
item-plus (source.Equal name value) = name-plus name (equal ∷ value_token value ∷ closing ∷ []) refl
item-plus (source.SystemEqual id value) = name-plus (option_name id) (equal ∷ value_token value ∷ closing ∷ []) refl
item-plus (source.Unequal name value) = name-plus name (unequal ∷ value_token value ∷ closing ∷ []) refl
item-plus (source.SystemUnequal id value) = name-plus (option_name id) (unequal ∷ value_token value ∷ closing ∷ []) refl
item-plus (source.Set name value) = name-plus name (equal ∷ value_token value ∷ closing ∷ []) refl
item-plus (source.SetSystem id value) = name-plus (option_name id) (equal ∷ value_token value ∷ closing ∷ []) refl
item-plus i = refl

pub items-arrow : (items : List SrcItem) → Without sign.Arrow (items_tokens items)
items-arrow [] = refl
items-arrow (i ∷ items) = without-append sign.Arrow (tokens_in (item_pieces i)) (items_tokens items) (item-arrow i) (items-arrow items)

pub items-plus : (items : List SrcItem) → Without sign.Plus (items_tokens items)
items-plus [] = refl
items-plus (i ∷ items) = without-append sign.Plus (tokens_in (item_pieces i)) (items_tokens items) (item-plus i) (items-plus items)

pub place-found : (wanted : Sign) (before : List LineToken) (token : LineToken) (behind : List LineToken) → Without wanted before → is_sign wanted token.kind ≡ true → place_of wanted (before ++ token ∷ behind) ≡ length before
place-found wanted [] token behind none is = cond-false (not (is_sign wanted token.kind)) _ _ (ap not is)
place-found wanted (first ∷ before) token behind none is =
    let two = and_parts (not (is_sign wanted first.kind)) (list_all (λ (t : LineToken). not (is_sign wanted t.kind)) before) none in
    cond-true (not (is_sign wanted first.kind)) _ _ two.0 ∙ (let more = place-found wanted before token behind two.1 is in omega (arith, more))

-- an output has an item
pub output-has : (i : SrcItem) (rest : List LineToken) → 0 < length (tokens_in (item_pieces i)) → has_items (tokens_in (item_pieces i) ++ rest) ≡ true
output-has (source.Outs name) rest some = absurd (omega arith)
output-has (source.Call name) rest some = absurd (omega arith)
output-has source.OutOfProfile rest some = absurd (omega arith)
output-has i rest some = refl

head-none : (arrow plus : ℕ) (tokens : List LineToken) → nat_lt arrow (length tokens) ≡ true → has_items (drop (arrow + 1) tokens) ≡ true → nat_lt plus arrow ≡ true → rule_head UsingKeys arrow plus tokens ≡ None
unfolding rule_head
head-none arrow plus tokens e f g =
    ap (λ b. option_or (unless (b || begins_rule tokens) S01) (option_or (option_or (unless b S04) (unless (has_items (drop (arrow + 1) tokens)) S06)) (unless (nat_lt plus arrow) S08))) e
    ∙ ap (λ b. option_or (unless b S06) (unless (nat_lt plus arrow) S08)) f ∙ ap (λ b. unless b S08) g

body-ok : (line last arrow plus : ℕ) (tokens : List LineToken) (context output : List SrcItem) (key : SrcItem) (c k : List LineToken)
    → take plus tokens ≡ c → read_items section.Context unseen last 0 0 c ≡ Ok context
    → nat_lt plus arrow ≡ true → drop (plus + 1) (take arrow tokens) ≡ k → read_key last (plus + 1) k ≡ Ok key
    → read_items section.Output unseen last 0 (arrow + 1) (drop (arrow + 1) tokens) ≡ Ok output
    → rule_body UsingKeys line last arrow plus tokens ≡ Ok (record { line = line; kind = Plain; context = context; key = Some key; output = output })
unfolding rule_body rule_key
body-ok line last arrow plus tokens context output key c k is e less behind f g =
    ap (λ r. and_then r (λ context. and_then (rule_key UsingKeys last arrow plus tokens) (λ key.
    and_then (read_items section.Output unseen last 0 (arrow + 1) (drop (arrow + 1) tokens)) (λ output.
    Ok (record { line = line; kind = Plain; context = context; key = key; output = output })))))
    (ap (λ (ts : List LineToken). read_items section.Context unseen last 0 0 ts) is ∙ e)
    ∙ ap (λ r. and_then r (λ key.
    and_then (read_items section.Output unseen last 0 (arrow + 1) (drop (arrow + 1) tokens)) (λ output.
    Ok (record { line = line; kind = Plain; context = context; key = key; output = output }))))
    (cond-false (not (nat_lt plus arrow)) _ _ (ap not less)
    ∙ ap (λ r. and_then r (λ key. Ok (Some key))) (ap (λ (ts : List LineToken). read_key last (plus + 1) ts) behind ∙ f))
    ∙ ap (λ r. and_then r (λ output. Ok (record { line = line; kind = Plain; context = context; key = Some key; output = output }))) g

-- a rule with a key: its context, + and its key, > and its output
rule-parts : (line : ℕ) (context output : List SrcItem) (key : SrcItem) (c k o : List LineToken) (last : ℕ)
    → Without sign.Arrow c → Without sign.Plus c → Without sign.Arrow k → has_items o ≡ true
    → ((last at : ℕ) → read_items section.Context unseen last 0 at c ≡ Ok context) → ((last at : ℕ) → read_key last at k ≡ Ok key) → ((last at : ℕ) → read_items section.Output unseen last 0 at o ≡ Ok output)
    → read_rule UsingKeys line last ((c ++ plus ∷ k) ++ arrow ∷ o) ≡ Ok (statement.Rule (record { line = line; kind = Plain; context = context; key = Some key; output = output }))
unfolding read_rule
rule-parts line context output key c k o last ca cp ka some rc rk ro =
    let b : List LineToken = c ++ plus ∷ k in
    let t : List LineToken = b ++ arrow ∷ o in
    let long : length b ≡ length c + (1 + length k) = (let l : length b ≡ length c + length (plus ∷ k) = length-append c (plus ∷ k) in omega (arith, l)) in
    let arrow_at : place_of sign.Arrow t ≡ length b = place-found sign.Arrow b arrow o (without-append sign.Arrow c (plus ∷ k) ca ka) refl in
    let taken : take (length b) t ≡ b = take-append_seam b (arrow ∷ o) in
    let plus_at : place_of sign.Plus (take (length b) t) ≡ length c = ap (place_of sign.Plus) taken ∙ place-found sign.Plus c plus k cp refl in
    let less : nat_lt (length c) (length b) ≡ true = lt-ltb (length c) (length b) (omega (arith, long)) in
    let within : nat_lt (length b) (length t) ≡ true = lt-ltb (length b) (length t) (let l : length t ≡ length b + length (arrow ∷ o) = length-append b (arrow ∷ o) in omega (arith, l)) in
    let behind : drop (length b + 1) t ≡ o = drop-append-add b (arrow ∷ o) 1 in
    let front : take (length c) t ≡ c = ap (take (length c)) (append_assoc c (plus ∷ k) (arrow ∷ o)) ∙ take-append_seam c (plus ∷ (k ++ arrow ∷ o)) in
    let middle : drop (length c + 1) (take (length b) t) ≡ k = ap (drop (length c + 1)) taken ∙ drop-append-add c (plus ∷ k) 1 in
    ap (λ (n : ℕ). rule_at UsingKeys line last n (place_of sign.Plus (take n t)) t) arrow_at
    ∙ ap (λ (n : ℕ). rule_at UsingKeys line last (length b) n t) plus_at
    ∙ ap (λ h. earliest h (rule_body UsingKeys line last (length b) (length c) t)) (head-none (length b) (length c) t within (ap has_items behind ∙ some) less)
    ∙ ap (earliest None) (body-ok line last (length b) (length c) t context output key c k front (rc last 0) less middle (rk last (length c + 1)) (ap (read_items section.Output unseen last 0 (length b + 1)) behind ∙ ro last (length b + 1)))

-- the first token of a line is not the word of another statement
abbrev pub BeginsRule : List LineToken → Type 0
BeginsRule tokens = (begins_word (codes "store") tokens ≡ false) × (begins_word (codes "begin") tokens ≡ false) × (begins_word (codes "group") tokens ≡ false)
    × (begins_word (codes "match") tokens ≡ false) × (begins_word (codes "nomatch") tokens ≡ false)

item-begins : (i : SrcItem) (rest : List LineToken) → BeginsRule rest → BeginsRule (tokens_in (item_pieces i) ++ rest)
unfolding same_name
item-begins (source.Outs name) rest e = e
item-begins (source.Call name) rest e = e
item-begins source.OutOfProfile rest e = e
item-begins i rest e = (refl, refl, refl, refl, refl)

pub items-begin : (items : List SrcItem) (rest : List LineToken) → BeginsRule rest → BeginsRule (items_tokens items ++ rest)
items-begin [] rest e = e
items-begin (i ∷ items) rest e =
    subst BeginsRule (sym (append_assoc (tokens_in (item_pieces i)) (items_tokens items) rest)) (item-begins i (items_tokens items ++ rest) (items-begin items rest e))

pub rule-line : (group : LastGroup) (line : ℕ) (tokens : List LineToken) → 0 < length tokens → BeginsRule tokens → read_line group line tokens ≡ read_rule group line (length tokens - 1) tokens
rule-line group line [] some begins = absurd (omega arith)
rule-line group line (token ∷ tokens) some (a, b, c, d, e) =
    cond-false (length (token ∷ tokens) == 0) _ _ (ne_eqb _ 0 (omega arith)) ∙ cond-false _ _ _ a ∙ cond-false _ _ _ b ∙ cond-false _ _ _ c ∙ cond-false _ _ _ d ∙ cond-false _ _ _ e

pub keyed_rule_read : (line : ℕ) (context output : List SrcItem) (key first : SrcItem) → ArePrinted section.Context unseen context → ArePrinted section.Key unseen (key ∷ []) → ArePrinted section.Output unseen (first ∷ output)
    → 0 < length (tokens_in (item_pieces first))
    → read_line UsingKeys line (tokens_in (plain_pieces (record { line = line; kind = Plain; context = context; key = Some key; output = first ∷ output })))
    ≡ Ok (statement.Rule (record { line = line; kind = Plain; context = context; key = Some key; output = first ∷ output }))
keyed_rule_read line context output key first cok kok ook some =
    let c = items_tokens context in
    let k = tokens_in (item_pieces key) in
    let o = items_tokens (first ∷ output) in
    let t : List LineToken = (c ++ plus ∷ k) ++ arrow ∷ o in
    let is : tokens_in (plain_pieces (record { line = line; kind = Plain; context = context; key = Some key; output = first ∷ output })) ≡ t =
    tokens-spaced context (Some plus ∷ None ∷ (item_pieces key ++ None ∷ Some arrow ∷ joined_items (first ∷ output)))
    ∙ ap (λ (ts : List LineToken). c ++ plus ∷ ts) (tokens-append (item_pieces key) (None ∷ Some arrow ∷ joined_items (first ∷ output)))
    ∙ ap (λ (ts : List LineToken). c ++ plus ∷ (k ++ arrow ∷ ts)) (tokens-joined (first ∷ output))
    ∙ sym (append_assoc c (plus ∷ k) (arrow ∷ o)) in
    let some_there : 0 < length t = (let l : length t ≡ length (c ++ plus ∷ k) + length (arrow ∷ o) = length-append (c ++ plus ∷ k) (arrow ∷ o) in omega (arith, l)) in
    let begins : BeginsRule t = subst BeginsRule (sym (append_assoc c (plus ∷ k) (arrow ∷ o))) (items-begin context (plus ∷ (k ++ arrow ∷ o)) (refl, refl, refl, refl, refl)) in
    ap (read_line UsingKeys line) is
    ∙ rule-line UsingKeys line t some_there begins
    ∙ rule-parts line context (first ∷ output) key c k o (length t - 1) (items-arrow context) (items-plus context) (item-arrow key) (output-has first (items_tokens output) some)
    (items_read section.Context unseen context cok) (key_reads key kok) (items_read section.Output unseen (first ∷ output) ook)
