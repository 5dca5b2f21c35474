-- A rule without a key is read as it is written.
use Rattle.std.proofs.Common.{◌≡◌, ℕ, ◌+◌, ◌-◌, ◌<◌, true, false, not, ◌||◌, List, [], ◌∷◌, ◌++◌, length, take, drop, None, Some, refl, ◌∙◌, ap, arith, length-append}
use Rattle.std.specs.Prelude.{Ok, nat_lt}
use Rattle.std.specs.List.{list_all}
use Rattle.std.specs.Option.{option_or}
use Rattle.std.proofs.Math.Seq.{take-append_seam, drop-append-add}
use Rattle.std.proofs.lemmas.Bool.{lt-ltb, cond-true, and_parts}
use Rattle.kmn_base.specs.declared.codes.Code.TheVariants.{S01, S04, S06}
use Rattle.kmn_items.specs.Slots.{unless}
use Rattle.rule_model.specs.declared.program.SrcItem.{SrcItem}
use Rattle.rule_model.specs.declared.program.RuleKind.TheVariants.{Plain}
use Rattle.kmn_items.specs.declared.syntax.Where.TheVariants as section
use Rattle.kmn_parser.specs.declared.statement.LastGroup.TheVariants.{WithoutKeys}
use Rattle.kmn_parser.specs.declared.statement.Sign.{Sign}
use Rattle.kmn_parser.specs.declared.statement.Sign.TheVariants as sign
use Rattle.kmn_parser.specs.declared.statement.Statement.TheVariants as statement
use Rattle.kmn_base.specs.Answers.{and_then}
use Rattle.kmn_items.specs.TokenTexts.{LineToken}
use Rattle.kmn_items.specs.Item.{unseen, read_items}
use Rattle.kmn_parser.specs.Line.{is_sign, place_of, begins_rule, has_items, rule_head, rule_key, rule_body, rule_at, earliest, read_rule, read_line}
use Rattle.kmn_parser.specs.Items.{item_pieces, joined_items}
use Rattle.kmn_parser.specs.Statements.{plain_pieces}
use Rattle.kmn_parser.specs.Texts.{arrow, plus}
use Rattle.kmn_parser.proofs.Forms.{ArePrinted}
use Rattle.kmn_parser.proofs.LineForms.{items_tokens, tokens_in}
use Rattle.kmn_parser.proofs.Sections.{tokens-spaced, tokens-joined, items_read}
use Rattle.kmn_parser.proofs.Rules.{Without, place-found, items-arrow, items-plus, items-begin, rule-line, output-has}

-- a rule without a key
place-none : (wanted : Sign) (tokens : List LineToken) → Without wanted tokens → place_of wanted tokens ≡ length tokens
place-none wanted [] none = refl
place-none wanted (first ∷ tokens) none =
    let two = and_parts (not (is_sign wanted first.kind)) (list_all (λ (t : LineToken). not (is_sign wanted t.kind)) tokens) none in
    cond-true (not (is_sign wanted first.kind)) _ _ two.0 ∙ (let more = place-none wanted tokens two.1 in omega (arith, more))

free-head : (arrow place : ℕ) (tokens : List LineToken) → nat_lt arrow (length tokens) ≡ true → has_items (drop (arrow + 1) tokens) ≡ true → rule_head WithoutKeys arrow place tokens ≡ None
unfolding rule_head
free-head arrow place tokens e f =
    ap (λ b. option_or (unless (b || begins_rule tokens) S01) (option_or (option_or (unless b S04) (unless (has_items (drop (arrow + 1) tokens)) S06)) None)) e
    ∙ ap (λ b. option_or (unless b S06) None) f

free-body : (line last arrow plus : ℕ) (tokens : List LineToken) (context output : List SrcItem) (c : List LineToken)
    → take plus tokens ≡ c → read_items section.Context unseen last 0 0 c ≡ Ok context → nat_lt plus arrow ≡ false
    → read_items section.Output unseen last 0 (arrow + 1) (drop (arrow + 1) tokens) ≡ Ok output
    → rule_body WithoutKeys line last arrow plus tokens ≡ Ok (record { line = line; kind = Plain; context = context; key = None; output = output })
unfolding rule_body rule_key
free-body line last arrow plus tokens context output c is e less g =
    ap (λ r. and_then r (λ context. and_then (rule_key WithoutKeys last arrow plus tokens) (λ key.
    and_then (read_items section.Output unseen last 0 (arrow + 1) (drop (arrow + 1) tokens)) (λ output.
    Ok (record { line = line; kind = Plain; context = context; key = key; output = output })))))
    (ap (λ (ts : List LineToken). read_items section.Context unseen last 0 0 ts) is ∙ e)
    ∙ ap (λ r. and_then r (λ key.
    and_then (read_items section.Output unseen last 0 (arrow + 1) (drop (arrow + 1) tokens)) (λ output.
    Ok (record { line = line; kind = Plain; context = context; key = key; output = output }))))
    (cond-true (not (nat_lt plus arrow)) _ _ (ap not less))
    ∙ ap (λ r. and_then r (λ output. Ok (record { line = line; kind = Plain; context = context; key = None; output = output }))) g

pub free_rule_read : (line : ℕ) (context output : List SrcItem) (first : SrcItem) → ArePrinted section.Context unseen context → ArePrinted section.Output unseen (first ∷ output)
    → 0 < length (tokens_in (item_pieces first))
    → read_line WithoutKeys line (tokens_in (plain_pieces (record { line = line; kind = Plain; context = context; key = None; output = first ∷ output })))
    ≡ Ok (statement.Rule (record { line = line; kind = Plain; context = context; key = None; output = first ∷ output }))
unfolding read_rule
free_rule_read line context output first cok ook some =
    let c = items_tokens context in
    let o = items_tokens (first ∷ output) in
    let t : List LineToken = c ++ arrow ∷ o in
    let last = length t - 1 in
    let is : tokens_in (plain_pieces (record { line = line; kind = Plain; context = context; key = None; output = first ∷ output })) ≡ t =
    tokens-spaced context (Some arrow ∷ joined_items (first ∷ output)) ∙ ap (λ (ts : List LineToken). c ++ arrow ∷ ts) (tokens-joined (first ∷ output)) in
    let long : length t ≡ length c + (1 + length o) = (let l : length t ≡ length c + length (arrow ∷ o) = length-append c (arrow ∷ o) in omega (arith, l)) in
    let arrow_at : place_of sign.Arrow t ≡ length c = place-found sign.Arrow c arrow o (items-arrow context) refl in
    let taken : take (length c) t ≡ c = take-append_seam c (arrow ∷ o) in
    let plus_at : place_of sign.Plus (take (length c) t) ≡ length c = ap (place_of sign.Plus) taken ∙ place-none sign.Plus c (items-plus context) in
    let behind : drop (length c + 1) t ≡ o = drop-append-add c (arrow ∷ o) 1 in
    ap (read_line WithoutKeys line) is
    ∙ rule-line WithoutKeys line t (omega (arith, long)) (items-begin context (arrow ∷ o) (refl, refl, refl, refl, refl))
    ∙ ap (λ (n : ℕ). rule_at WithoutKeys line last n (place_of sign.Plus (take n t)) t) arrow_at
    ∙ ap (λ (n : ℕ). rule_at WithoutKeys line last (length c) n t) plus_at
    ∙ ap (λ h. earliest h (rule_body WithoutKeys line last (length c) (length c) t)) (free-head (length c) (length c) t (lt-ltb (length c) (length t) (omega (arith, long))) (ap has_items behind ∙ output-has first (items_tokens output) some))
    ∙ ap (earliest None) (free-body line last (length c) (length c) t context (first ∷ output) c taken (items_read section.Context unseen context cok last 0) (not-less (length c))
    (ap (read_items section.Output unseen last 0 (length c + 1)) behind ∙ items_read section.Output unseen (first ∷ output) ook last (length c + 1)))
  where
    not-less : (n : ℕ) → nat_lt n n ≡ false
    not-less n = grind arith
