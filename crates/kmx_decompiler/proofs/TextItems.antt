-- A text has at least four bytes for each item of a rule.
use Rattle.std.proofs.Common.{◌≡◌, ℕ, suc, ◌+◌, ◌*◌, ◌≤◌, Bool, List, [], ◌∷◌, ◌++◌, length, map, Option, None, Some, ap, arith, length-append}
use Rattle.std.specs.Prelude.{flat_map}
use Rattle.std.specs.List.{sum_by}
use Rattle.std.proofs.lemmas.List.Sums.{sum_by-cons}
use Rattle.rule_model.specs.declared.program.SrcItem.{SrcItem}
use Rattle.rule_model.specs.declared.program.SrcItem.TheVariants as source
use Rattle.rule_model.specs.declared.program.RuleKind.{RuleKind}
use Rattle.rule_model.specs.declared.program.RuleKind.TheVariants.{Plain, OnMatch, OnNoMatch}
use Rattle.rule_model.specs.declared.program.RuleDef.{RuleDef}
use Rattle.rule_model.specs.declared.program.GroupDef.{GroupDef}
use Rattle.rule_model.specs.declared.program.Program.{Program}
use Rattle.kmn_items.specs.TokenTexts.{LineToken}
use Rattle.kmn_items.specs.declared.syntax.Where.{Where}
use Rattle.kmn_items.specs.declared.syntax.Where.TheVariants as section
use Rattle.kmn_items.specs.declared.syntax.Seen.{Seen}
use Rattle.kmn_items.specs.Item.{unseen}
use Rattle.kmn_parser.specs.Printed.{printed, sheet}
use Rattle.kmn_parser.specs.Texts.{arrow}
use Rattle.kmn_parser.specs.Items.{item_pieces, spaced_items, joined_items}
use Rattle.kmn_parser.specs.Statements.{store_pieces, begin_pieces, group_pieces, key_part, rule_pieces}
use Rattle.kmn_parser.specs.Programs.{rule_line, group_lines, program_text}
use Rattle.kmn_parser.specs.Spelled.{IsSpelledItem, item_lead, seen_lead, AreSpelled, IsSpelledKind, AreSpelledRules, AreSpelledGroups, IsSpelled}
use Rattle.kmn_parser.proofs.Lengths.{sheet_append, sheet_length, printed_append, least_length, item_long}

-- the number of items of a rule of a source, not counting its key
abbrev pub stated_size : RuleDef → ℕ
stated_size rule = length rule.context + length rule.output

abbrev pub rules_size : GroupDef → ℕ
rules_size group = sum_by stated_size group.rules

least-three : (place : Where) (i : SrcItem) → IsSpelledItem place i → 3 ≤ least_length i
least-three place (source.Char c) ok = omega arith
least-three place (source.Dead name) ok = omega arith
least-three place (source.Key key) ok = omega arith
least-three place (source.Any name) ok = omega arith
least-three place (source.NotAny name) ok = omega arith
least-three place (source.Index name offset) ok = omega arith
least-three place source.Context ok = omega arith
least-three place (source.ContextAt offset) ok = omega arith
least-three place (source.Equal name value) ok = omega arith
least-three place (source.Unequal name value) ok = omega arith
least-three place (source.SystemEqual id value) ok = omega arith
least-three place (source.SystemUnequal id value) ok = omega arith
least-three place source.Nul ok = omega arith
least-three place (source.Enter name) ok = omega arith
least-three place (source.Set name value) ok = omega arith
least-three place (source.SetSystem id value) ok = omega arith
least-three place (source.Save name) ok = omega arith
least-three place (source.Reset name) ok = omega arith
least-three place source.Beep ok = omega arith
least-three place source.Stop ok = omega arith
least-three place other ok = absurd ok

item-three : (place : Where) (i : SrcItem) → IsSpelledItem place i → 3 ≤ length (printed (item_pieces i))
item-three place i ok = let least = least-three place i ok in let long = item_long place i ok in omega (arith, least, long)

module _ (place : Where) where
  spaced-long : (seen : Seen) (items : List SrcItem) (more : List (Option LineToken)) → AreSpelled place seen items
      → 4 * length items + length (printed more) ≤ length (printed (spaced_items items more))
  spaced-long seen [] more ok = omega arith
  spaced-long seen (i ∷ items) more ok =
      let rest = spaced-long (seen_lead seen (item_lead i)) items more ok.2 in
      let here = item-three place i ok.0 in
      let all : length (printed (spaced_items (i ∷ items) more)) ≡ length (printed (item_pieces i) ++ 32 ∷ printed (spaced_items items more)) =
      ap length (printed_append (item_pieces i) (None ∷ spaced_items items more)) in
      let parts : length (printed (item_pieces i) ++ 32 ∷ printed (spaced_items items more)) ≡ length (printed (item_pieces i)) + length (32 ∷ printed (spaced_items items more)) =
      length-append (printed (item_pieces i)) (32 ∷ printed (spaced_items items more)) in
      omega (arith, rest, here, all, parts)

  joined-long : (seen : Seen) (items : List SrcItem) → AreSpelled place seen items → 4 * length items ≤ length (printed (joined_items items))
  joined-long seen [] ok = omega arith
  joined-long seen (i ∷ items) ok =
      let rest = joined-long (seen_lead seen (item_lead i)) items ok.2 in
      let here = item-three place i ok.0 in
      let all : length (printed (joined_items (i ∷ items))) ≡ suc (length (printed (item_pieces i) ++ printed (joined_items items))) =
      ap (λ (text : List ℕ). suc (length text)) (printed_append (item_pieces i) (joined_items items)) in
      let parts : length (printed (item_pieces i) ++ printed (joined_items items)) ≡ length (printed (item_pieces i)) + length (printed (joined_items items)) =
      length-append (printed (item_pieces i)) (printed (joined_items items)) in
      omega (arith, rest, here, all, parts)

key-long : (key : Option SrcItem) (more : List (Option LineToken)) → length (printed more) ≤ length (printed (key_part key more))
key-long None more = omega arith
key-long (Some key) more =
    let all : length (printed (key_part (Some key) more)) ≡ suc (suc (length (printed (item_pieces key) ++ 32 ∷ printed more))) =
    ap (λ (text : List ℕ). suc (suc (length text))) (printed_append (item_pieces key) (None ∷ more)) in
    let parts : length (printed (item_pieces key) ++ 32 ∷ printed more) ≡ length (printed (item_pieces key)) + length (32 ∷ printed more) =
    length-append (printed (item_pieces key)) (32 ∷ printed more) in
    omega (arith, all, parts)

no-items : (xs : List SrcItem) → xs ≡ [] → length xs ≡ 0
no-items xs none = ap length none

rule-long : (using_keys : Bool) (kind : RuleKind) (rule : RuleDef) → IsSpelledKind using_keys kind rule → AreSpelled section.Output unseen rule.output
    → 4 * stated_size rule ≤ length (printed (rule_pieces kind rule))
rule-long using_keys Plain rule ok out =
    let more : List (Option LineToken) = Some arrow ∷ joined_items rule.output in
    let context = spaced-long section.Context unseen rule.context (key_part rule.key more) ok.0 in
    let key = key-long rule.key more in
    let output = joined-long section.Output unseen rule.output out in
    omega (arith, context, key, output)
rule-long using_keys OnMatch rule ok out =
    let none = no-items rule.context ok.0 in
    let output = joined-long section.Output unseen rule.output out in
    omega (arith, none, output)
rule-long using_keys OnNoMatch rule ok out =
    let none = no-items rule.context ok.0 in
    let output = joined-long section.Output unseen rule.output out in
    omega (arith, none, output)

rules-long : (using_keys : Bool) (line : ℕ) (rules : List RuleDef) → AreSpelledRules using_keys line rules → 4 * sum_by stated_size rules ≤ length (sheet (map rule_line rules))
rules-long using_keys line [] ok = omega arith
rules-long using_keys line (rule ∷ rules) ok =
    let here = rule-long using_keys rule.kind rule ok.1.kind ok.1.output in
    let rest = rules-long using_keys (line + 1) rules ok.2 in
    let sum = sum_by-cons stated_size rule rules in
    let all = sheet_length (rule_line rule) (map rule_line rules) in
    omega (arith, here, rest, sum, all)

groups-long : (line : ℕ) (groups : List GroupDef) → AreSpelledGroups line groups → 4 * sum_by rules_size groups ≤ length (sheet (flat_map group_lines groups))
groups-long line [] ok = omega arith
groups-long line (group ∷ groups) ok =
    let here = rules-long group.using_keys (line + 1) group.rules ok.2 in
    let rest = groups-long (line + 1 + length group.rules) groups ok.3 in
    let sum = sum_by-cons rules_size group groups in
    let all = ap length (sheet_append (group_lines group) (flat_map group_lines groups)) in
    let parts = length-append (sheet (group_lines group)) (sheet (flat_map group_lines groups)) in
    let first = sheet_length (group_pieces group) (map rule_line group.rules) in
    omega (arith, here, rest, sum, all, parts, first)

pub text_long : (program : Program) → IsSpelled program → 4 * sum_by rules_size program.groups ≤ length (program_text program)
unfolding program_text
text_long program ok =
    let stores = map store_pieces program.stores in
    let begins = map begin_pieces program.begins in
    let groups = flat_map group_lines program.groups in
    let long = groups-long (1 + length program.stores + length program.begins) program.groups ok.groups in
    let all = ap length (sheet_append stores (begins ++ groups)) in
    let parts = length-append (sheet stores) (sheet (begins ++ groups)) in
    let more = ap length (sheet_append begins groups) in
    let parts2 = length-append (sheet begins) (sheet groups) in
    omega (arith, long, all, parts, more, parts2)
