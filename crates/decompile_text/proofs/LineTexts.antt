-- The printed lines of statements, as they are appended one by one.
use Rattle.std.proofs.Common.{◌≡◌, ℕ, ◌+◌, List, [], ◌∷◌, ◌++◌, Option, Some, None, map, refl, sym, ap, ◌∙◌, append_assoc, codes}
use Rattle.std.specs.Fmt.{decimal}
use Rattle.kmn_base.specs.declared.items.Element.{Element}
use Rattle.kmn_base.specs.declared.keys.RuleKey.TheVariants as key
use Rattle.virtual_keys.specs.Keys.{shift_flags}
use Rattle.rule_model.specs.declared.program.SrcItem.{SrcItem}
use Rattle.rule_model.specs.declared.program.SrcItem.TheVariants as source
use Rattle.rule_model.specs.declared.program.RuleKind.TheVariants.{OnMatch, OnNoMatch}
use Rattle.rule_model.specs.declared.tables.Pat.{Pat}
use Rattle.rule_model.specs.declared.tables.Out.{Out}
use Rattle.rule_model.specs.declared.tables.Rule.{Rule}
use Rattle.kmn_items.specs.TokenTexts.{LineToken}
use Rattle.kmn_parser.specs.Texts.{arrow}
use Rattle.kmn_parser.specs.Printed.{printed, sheet}
use Rattle.kmn_parser.specs.Items.{item_pieces, key_pieces, spaced_items, joined_items}
use Rattle.kmn_parser.specs.Statements.{key_part}
use Rattle.kmn_parser.specs.Programs.{rule_line}
use Rattle.kmn_parser.proofs.Lengths.{printed_append}
use Rattle.decompile_program.specs.Items.{Names, back_element, back_pattern, back_output, back_key, key_called, some_items}
use Rattle.decompile_program.specs.Back.{back_rule, back_rules, back_statement}
use Rattle.decompile_text.specs.Texts.{element_text, elements_text, pattern_text, context_text, output_text, outputs_text, some_outputs_text, key_text, virtual_text, rule_text, rules_text, statement_text, marks_text, keys_line}

-- the printed elements of a store are their `elements_text`
pub printed_elements : (names : Names) (elements : List Element) → printed (joined_items (map (back_element names) elements)) ≡ elements_text names elements
unfolding element_text
printed_elements names [] = refl
printed_elements names (element ∷ elements) =
    ap (λ (text : List ℕ). 32 ∷ text)
    (printed_append (item_pieces (back_element names element)) (joined_items (map (back_element names) elements))
    ∙ ap (λ (text : List ℕ). printed (item_pieces (back_element names element)) ++ text) (printed_elements names elements))

-- the printed items of an output are their `outputs_text`
pub printed_outputs : (names : Names) (outputs : List Out) → printed (joined_items (map (back_output names) outputs)) ≡ outputs_text names outputs
unfolding output_text
printed_outputs names [] = refl
printed_outputs names (output ∷ outputs) =
    ap (λ (text : List ℕ). 32 ∷ text)
    (printed_append (item_pieces (back_output names output)) (joined_items (map (back_output names) outputs))
    ∙ ap (λ (text : List ℕ). printed (item_pieces (back_output names output)) ++ text) (printed_outputs names outputs))

pub printed_some : (names : Names) (outputs : List Out) → printed (joined_items (some_items (map (back_output names) outputs))) ≡ some_outputs_text names outputs
printed_some names [] = refl
printed_some names (output ∷ outputs) = printed_outputs names (output ∷ outputs)

-- the printed items of a context are their `context_text`, whatever follows
pub printed_context : (names : Names) (context : List Pat) (more : List (Option LineToken))
    → printed (spaced_items (map (back_pattern names) context) more) ≡ context_text names context ++ printed more
unfolding pattern_text
printed_context names [] more = refl
printed_context names (pattern ∷ patterns) more =
    printed_append (item_pieces (back_pattern names pattern)) (None ∷ spaced_items (map (back_pattern names) patterns) more)
    ∙ ap (λ (text : List ℕ). printed (item_pieces (back_pattern names pattern)) ++ 32 ∷ text) (printed_context names patterns more)
    ∙ sym (append_assoc (printed (item_pieces (back_pattern names pattern))) (32 ∷ context_text names patterns) (printed more))

key_parted : (part : Option SrcItem) (more : List (Option LineToken)) → printed (key_part part more) ≡ printed (key_part part []) ++ printed more
key_parted None more = refl
key_parted (Some item) more =
    ap (λ (text : List ℕ). 43 ∷ 32 ∷ text)
    (printed_append (item_pieces item) (None ∷ more)
    ∙ sym (append_assoc (printed (item_pieces item)) (32 ∷ []) (printed more))
    ∙ ap (λ (text : List ℕ). text ++ printed more) (sym (printed_append (item_pieces item) (None ∷ []))))

-- the text of a record's key that is a virtual key is a plus and the key, each followed by a space
pub virtual_part : (names : Names) (flags code : ℕ) → key_text names (key.Virtual flags code) ≡ 43 ∷ 32 ∷ (virtual_text names flags code ++ 32 ∷ [])
unfolding key_text virtual_text
virtual_part names flags code = ap (λ (text : List ℕ). 43 ∷ 32 ∷ text) (printed_append (key_pieces (key_called names flags code)) (None ∷ []))

-- the printed line of a record is its `rule_text`
pub printed_rule : (names : Names) (line : ℕ) (rule : Rule) → printed (rule_line (back_rule names line rule)) ++ 10 ∷ [] ≡ rule_text names rule
unfolding rule_text key_text
printed_rule names line rule =
    let part : Option SrcItem = back_key names rule.key in
    let behind : List (Option LineToken) = Some arrow ∷ joined_items (some_items (map (back_output names) rule.output)) in
    ap (λ (text : List ℕ). text ++ 10 ∷ [])
    (printed_context names rule.context (key_part part behind)
    ∙ ap (λ (text : List ℕ). context_text names rule.context ++ text)
    (key_parted part behind ∙ ap (λ (text : List ℕ). printed (key_part part []) ++ 62 ∷ text) (printed_some names rule.output)))
    ∙ append_assoc (context_text names rule.context) (printed (key_part part []) ++ 62 ∷ some_outputs_text names rule.output) (10 ∷ [])
    ∙ ap (λ (text : List ℕ). context_text names rule.context ++ text) (append_assoc (printed (key_part part [])) (62 ∷ some_outputs_text names rule.output) (10 ∷ []))

-- the printed lines of records are their `rules_text`
pub printed_rules : (names : Names) (line : ℕ) (rules : List Rule) → sheet (map rule_line (back_rules names line rules)) ≡ rules_text names rules
printed_rules names line [] = refl
printed_rules names line (rule ∷ rules) =
    sym (append_assoc (printed (rule_line (back_rule names line rule))) (10 ∷ []) (sheet (map rule_line (back_rules names (line + 1) rules))))
    ∙ ap (λ (text : List ℕ). text ++ sheet (map rule_line (back_rules names (line + 1) rules))) (printed_rule names line rule)
    ∙ ap (λ (text : List ℕ). rule_text names rule ++ text) (printed_rules names (line + 1) rules)

-- a printed match or nomatch line is its `statement_text`
pub printed_match : (names : Names) (line : ℕ) (outputs : List Out)
    → sheet (map rule_line (back_statement names OnMatch line outputs)) ≡ statement_text names (codes "match") outputs
printed_match names line [] = refl
printed_match names line (output ∷ outputs) = ap (λ (text : List ℕ). codes "match >" ++ (text ++ 10 ∷ [])) (printed_outputs names (output ∷ outputs))

pub printed_nomatch : (names : Names) (line : ℕ) (outputs : List Out)
    → sheet (map rule_line (back_statement names OnNoMatch line outputs)) ≡ statement_text names (codes "nomatch") outputs
printed_nomatch names line [] = refl
printed_nomatch names line (output ∷ outputs) = ap (λ (text : List ℕ). codes "nomatch >" ++ (text ++ 10 ∷ [])) (printed_outputs names (output ∷ outputs))

-- the printed deadkeys are their `marks_text`, and the printed custom keys are their `keys_line`
pub printed_marks : (marks : List ℕ) → printed (joined_items (map (λ m. source.Dead (decimal m)) marks)) ≡ marks_text marks
printed_marks [] = refl
printed_marks (mark ∷ marks) =
    ap (λ (text : List ℕ). codes " dk(" ++ (decimal mark ++ 41 ∷ text)) (printed_marks marks)

pub printed_keys : (keys : List (List ℕ)) → printed (joined_items (map (λ (name : List ℕ). source.Key (record { flags = 0x4000; code = 0; name = name })) keys)) ≡ keys_line keys
unfolding shift_flags
printed_keys [] = refl
printed_keys (key ∷ keys) = ap (λ (text : List ℕ). codes " [" ++ (key ++ 93 ∷ text)) (printed_keys keys)
