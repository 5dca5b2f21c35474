-- The text of tables, part by part.
use Rattle.std.proofs.Common.{◌≡◌, ℕ, zero, suc, ◌+◌, Bool, true, false, if◌then◌else◌, List, [], ◌∷◌, ◌++◌, length, drop, Option, map, flat_map, refl, sym, ap, ◌∙◌, append_assoc, codes, arith}
use Rattle.std.proofs.lemmas.List.{map-append}
use Rattle.std.specs.Prelude.{slice_get, unwrap_or}
use Rattle.rule_model.specs.declared.program.RuleKind.TheVariants.{OnMatch, OnNoMatch}
use Rattle.rule_model.specs.declared.program.GroupDef.{GroupDef}
use Rattle.rule_model.specs.declared.program.RuleDef.{RuleDef}
use Rattle.rule_model.specs.declared.tables.Group.{Group}
use Rattle.kmn_items.specs.TokenTexts.{LineToken}
use Rattle.kmn_parser.specs.Printed.{printed, sheet}
use Rattle.kmn_parser.specs.Statements.{group_pieces}
use Rattle.kmn_parser.specs.Programs.{rule_line, group_lines}
use Rattle.kmn_parser.proofs.Lengths.{sheet_append}
use Rattle.decompile_program.specs.Items.{Names, group_called}
use Rattle.decompile_program.specs.Back.{back_rules, back_statement, back_group, back_groups, match_line, nomatch_line}
use Rattle.decompile_text.specs.Texts.{rules_text, statement_text, group_text, groups_text, call_text}
use Rattle.decompile_text.proofs.LineTexts.{printed_rules, printed_match, printed_nomatch}

-- the lines of joined statements are the lines of the first statements, then the lines of the second
pub statements_append : {X : Type 0} (line : X → List (Option LineToken)) (first second : List X) → sheet (map line (first ++ second)) ≡ sheet (map line first) ++ sheet (map line second)
statements_append line first second = ap sheet (map-append line first second) ∙ sheet_append (map line first) (map line second)

-- the line of a group, and what follows
group_header : (group : GroupDef) (name : List ℕ) (using_keys : Bool) (rest : List ℕ) → group.name ≡ name → group.using_keys ≡ using_keys
    → printed (group_pieces group) ++ 10 ∷ rest ≡ call_text (codes "group") name ++ ((if using_keys then codes " using keys\n" else codes "\n") ++ rest)
group_header group name true rest n u =
    rw n (rw u
    (ap (λ (text : List ℕ). codes "group(" ++ text)
    (append_assoc name (codes ") using keys") (10 ∷ rest) ∙ sym (append_assoc name (41 ∷ []) (codes " using keys\n" ++ rest)))))
group_header group name false rest n u =
    rw n (rw u
    (ap (λ (text : List ℕ). codes "group(" ++ text)
    (append_assoc name (41 ∷ []) (10 ∷ rest) ∙ sym (append_assoc name (41 ∷ []) (10 ∷ rest)))))

-- the lines of a group
printed_group : (names : Names) (line : ℕ) (name : List ℕ) (group : Group) → sheet (group_lines (back_group names line name group)) ≡ group_text names name group
unfolding group_text
printed_group names line name group =
    let first : List RuleDef = back_rules names (line + 1) group.rules in
    let second : List RuleDef = back_statement names OnMatch (match_line line group) group.on_match in
    let third : List RuleDef = back_statement names OnNoMatch (nomatch_line names line group) group.on_nomatch in
    ap (λ (text : List ℕ). printed (group_pieces (back_group names line name group)) ++ 10 ∷ text)
    (statements_append rule_line first (second ++ third)
    ∙ ap (λ (text : List ℕ). sheet (map rule_line first) ++ text) (statements_append rule_line second third)
    ∙ ap (λ (text : List ℕ). text ++ (sheet (map rule_line second) ++ sheet (map rule_line third))) (printed_rules names (line + 1) group.rules)
    ∙ ap (λ (text : List ℕ). rules_text names group.rules ++ (text ++ sheet (map rule_line third))) (printed_match names (match_line line group) group.on_match)
    ∙ ap (λ (text : List ℕ). rules_text names group.rules ++ (statement_text names (codes "match") group.on_match ++ text)) (printed_nomatch names (nomatch_line names line group) group.on_nomatch))
    ∙ group_header (back_group names line name group) name group.using_keys _ refl refl

-- the first element of the rest of a list from an index on is the element at the index
pub first_left : {X : Type 0} (xs : List X) (n : ℕ) → slice_get (drop n xs) 0 ≡ slice_get xs n
first_left [] zero = refl
first_left [] (suc n) = refl
first_left (x ∷ xs) zero = refl
first_left (x ∷ xs) (suc n) = first_left xs n

one_by_one : {X : Type 0} (xs : List X) (n : ℕ) → drop 1 (drop n xs) ≡ drop (suc n) xs
one_by_one [] zero = refl
one_by_one [] (suc n) = refl
one_by_one (x ∷ xs) zero = refl
one_by_one (x ∷ xs) (suc n) = one_by_one xs n

pub one_less : {X : Type 0} (xs : List X) (n : ℕ) → drop 1 (drop n xs) ≡ drop (n + 1) xs
one_less xs n =
    let next : suc n ≡ n + 1 = omega arith in
    one_by_one xs n ∙ ap (λ (m : ℕ). drop m xs) next

-- the lines of groups that have the names from a number on
printed_groups_from : (names : Names) (line n : ℕ) (called : List (List ℕ)) (groups : List Group) → called ≡ drop n names.groups
    → sheet (flat_map group_lines (back_groups names line called groups)) ≡ groups_text names n groups
printed_groups_from names line n called [] e = refl
printed_groups_from names line n called (group ∷ groups) e =
    let name : List ℕ = unwrap_or (slice_get called 0) [] in
    let back : GroupDef = back_group names line name group in
    let next : ℕ = line + 1 + length back.rules in
    let is : name ≡ group_called names n = ap (λ (left : List (List ℕ)). unwrap_or (slice_get left 0) []) e ∙ ap (λ (found : Option (List ℕ)). unwrap_or found []) (first_left names.groups n) in
    sheet_append (group_lines back) (flat_map group_lines (back_groups names next (drop 1 called) groups))
    ∙ ap (λ (text : List ℕ). text ++ sheet (flat_map group_lines (back_groups names next (drop 1 called) groups))) (printed_group names line name group ∙ ap (λ (found : List ℕ). group_text names found group) is)
    ∙ ap (λ (text : List ℕ). group_text names (group_called names n) group ++ text)
    (printed_groups_from names next (n + 1) (drop 1 called) groups (ap (drop 1) e ∙ one_less names.groups n))

pub printed_groups : (names : Names) (line : ℕ) (groups : List Group) → sheet (flat_map group_lines (back_groups names line names.groups groups)) ≡ groups_text names 0 groups
printed_groups names line groups = printed_groups_from names line 0 names.groups groups refl
