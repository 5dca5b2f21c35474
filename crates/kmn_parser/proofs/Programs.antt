-- The text of a program is read as the program.
use Rattle.std.proofs.Common.{◌≡◌, ℕ, suc, ◌+◌, ◌≤◌, Bool, true, false, List, [], ◌∷◌, ◌++◌, length, map, Option, None, Some, refl, sym, ◌∙◌, ap, subst, arith}
use Rattle.std.specs.Prelude.{Ok, codes, flat_map}
use Rattle.kmn_lines.specs.Tokens.{begins_forbidden}
use Rattle.rule_model.specs.declared.program.SrcItem.{SrcItem}
use Rattle.rule_model.specs.declared.program.SrcItem.TheVariants as source
use Rattle.rule_model.specs.declared.program.StoreDef.{StoreDef}
use Rattle.rule_model.specs.declared.program.RuleKind.{RuleKind}
use Rattle.rule_model.specs.declared.program.RuleKind.TheVariants.{Plain, OnMatch, OnNoMatch}
use Rattle.rule_model.specs.declared.program.RuleDef.{RuleDef}
use Rattle.rule_model.specs.declared.program.GroupDef.{GroupDef}
use Rattle.rule_model.specs.declared.program.BeginDef.{BeginDef}
use Rattle.rule_model.specs.declared.program.Program.{Program}
use Rattle.kmn_items.specs.declared.syntax.Where.{Where}
use Rattle.kmn_items.specs.declared.syntax.Where.TheVariants as section
use Rattle.kmn_parser.specs.declared.statement.Statement.{Statement}
use Rattle.kmn_parser.specs.declared.statement.Statement.TheVariants as statement
use Rattle.kmn_items.specs.TokenTexts.{LineToken}
use Rattle.kmn_parser.specs.Line.{read_line}
use Rattle.kmn_items.specs.Item.{unseen}
use Rattle.kmn_parser.specs.declared.statement.LastGroup.{LastGroup}
use Rattle.kmn_parser.specs.declared.statement.LastGroup.TheVariants.{Missing, UsingKeys, WithoutKeys}
use Rattle.kmn_parser.specs.Source.{group_after, last_group}
use Rattle.kmn_parser.specs.Items.{item_pieces, joined_items, spaced_items}
use Rattle.kmn_parser.specs.Printed.{printed}
use Rattle.kmn_parser.specs.Programs.{group_lines, program_lines, program_text}
use Rattle.kmn_parser.specs.Spelled.{IsSpelledKind, IsSpelledRule, AreSpelledRules, AreSpelledGroups, AreSpelledBegins, AreSpelledStores, IsSpelled}
use Rattle.kmn_parser.specs.TextLaws.{ProgramsAreReadBack}
use Rattle.kmn_parser.specs.Statements.{content_pieces, begin_pieces, group_pieces, plain_pieces, rule_pieces, store_name, store_pieces}
use Rattle.kmn_parser.specs.Texts.{name_kind, arrow, closing, plus, word}
use Rattle.kmn_parser.proofs.Forms.{ArePrinted, IsPrinted, IsPrintedName}
use Rattle.kmn_parser.proofs.LineForms.{AreSound, ReadAsStatements, begins_plainly, items_tokens, tokens_in}
use Rattle.kmn_parser.proofs.Sound.{sound_back, sound_whole}
use Rattle.kmn_parser.proofs.SoundItems.{name_sound, item_sound, wordy-name}
use Rattle.kmn_parser.proofs.Lines.{joined-sound, spaced-sound}
use Rattle.kmn_parser.proofs.Names.{spelled_name}
use Rattle.kmn_parser.proofs.SpelledItems.{spelled_items, item_some}
use Rattle.kmn_parser.proofs.Stores.{IsPrintedStore, spelled_store}
use Rattle.kmn_parser.proofs.Utf8Lines.{program_utf8, program_unmarked}
use Rattle.kmn_parser.proofs.Made.{group_statements, program_statements, made}
use Rattle.kmn_parser.proofs.Sections.{tokens-joined}
use Rattle.kmn_parser.proofs.Rules.{output-has, keyed_rule_read}
use Rattle.kmn_parser.proofs.KeylessRules.{free_rule_read}
use Rattle.kmn_parser.proofs.Statements.{store_read, begin_read, group_read, match_read, nomatch_read}
use Rattle.kmn_parser.proofs.Whole.{sheets_are_read}

item-plain : (place : Where) (i : SrcItem) (rest : List (Option LineToken)) → IsPrinted place i → begins_plainly (printed (item_pieces i ++ rest)) ≡ true
item-plain place (source.Outs name) rest ok = absurd ok
item-plain place (source.Call name) rest ok = absurd ok
item-plain place source.OutOfProfile rest ok = absurd ok
item-plain place i rest ok = refl

-- a line that is sound, begins plainly and is read as a statement prints it
line-prints : (group : LastGroup) (number : ℕ) (line : List (Option LineToken)) (s : Statement) (lines : List (List (Option LineToken))) (statements : List Statement)
    → AreSound true true line → begins_plainly (printed line) ≡ true → read_line group number (tokens_in line) ≡ Ok s → ReadAsStatements (group_after group s) (number + 1) lines statements
    → ReadAsStatements group number (line ∷ lines) (s ∷ statements)
line-prints group number line s lines statements sound plain read more = (sound_back true true line sound, sound_whole line sound plain, read, more)

-- stores
store-line : (store : StoreDef) → IsPrintedStore store → AreSound true true (store_pieces store)
unfolding begins_forbidden
store-line store ok =
    ((refl, refl), (refl, λ e. refl), (refl, tt, name_sound true (store_name store) (Some closing ∷ content_pieces store) ok.named refl (λ c. (refl, tt, ok.sound))))

stores-print : (group : LastGroup) (number : ℕ) (stores : List StoreDef) (lines : List (List (Option LineToken))) (statements : List Statement) → AreSpelledStores number stores → ReadAsStatements group (number + length stores) lines statements
    → ReadAsStatements group number (map store_pieces stores ++ lines) (map statement.Store stores ++ statements)
stores-print group number [] lines statements ok more = let e : number + 0 ≡ number = omega arith in subst (λ n. ReadAsStatements group n lines statements) e more
stores-print group number (store ∷ stores) lines statements (at, ok, rest) more =
    let e : number + suc (length stores) ≡ number + 1 + length stores = omega arith in
    let printed = spelled_store store ok in
    line-prints group number (store_pieces store) (statement.Store store) _ _ (store-line store printed) refl
    (store_read group number store.system (store_name store) store.name (tokens_in (content_pieces store)) store.items printed.fits printed.known printed.kept printed.reads
    ∙ ap (λ (n : ℕ). Ok (statement.Store (record store { line = n }))) (sym at))
    (stores-print group (number + 1) stores lines statements rest (subst (λ n. ReadAsStatements group n lines statements) e more))

-- start statements
begin-line : (start : BeginDef) → IsPrintedName start.group → (unicode : Bool) → AreSound true true (begin_pieces (record start { unicode = unicode }))
unfolding begins_forbidden
begin-line start ok true =
    ((refl, refl), (refl, λ e. refl), ((refl, refl), (refl, λ e. refl), (refl, tt, ((refl, refl), (refl, λ e. refl), (refl, tt, name_sound true start.group (Some closing ∷ []) ok refl (λ c. (refl, tt, refl)))))))
begin-line start ok false =
    ((refl, refl), (refl, λ e. refl), ((refl, refl), (refl, λ e. refl), (refl, tt, ((refl, refl), (refl, λ e. refl), (refl, tt, name_sound true start.group (Some closing ∷ []) ok refl (λ c. (refl, tt, refl)))))))

begins-print : (group : LastGroup) (number : ℕ) (begins : List BeginDef) (lines : List (List (Option LineToken))) (statements : List Statement) → AreSpelledBegins number begins → ReadAsStatements group (number + length begins) lines statements
    → ReadAsStatements group number (map begin_pieces begins ++ lines) (map statement.Begin begins ++ statements)
begins-print group number [] lines statements ok more = let e : number + 0 ≡ number = omega arith in subst (λ n. ReadAsStatements group n lines statements) e more
begins-print group number (start ∷ begins) lines statements (at, ok, rest) more =
    let e : number + suc (length begins) ≡ number + 1 + length begins = omega arith in
    let named = spelled_name start.group ok in
    line-prints group number (begin_pieces start) (statement.Begin start) _ _ (begin-line start named start.unicode) refl
    (begin_read (name_kind start.group) group number start.unicode start.group (wordy-name start.group) named.fits ∙ ap (λ (n : ℕ). Ok (statement.Begin (record start { line = n }))) (sym at))
    (begins-print group (number + 1) begins lines statements rest (subst (λ n. ReadAsStatements group n lines statements) e more))

-- rules
rule-plain : (context : List SrcItem) (rest : List (Option LineToken)) → ArePrinted section.Context unseen context → begins_plainly (printed rest) ≡ true → begins_plainly (printed (spaced_items context rest)) ≡ true
rule-plain [] rest ok plain = plain
rule-plain (i ∷ items) rest (ok, stands, more) plain = item-plain section.Context i (None ∷ spaced_items items rest) ok

parts-print : (using : Bool) (kind : RuleKind) (number : ℕ) (context : List SrcItem) (key : Option SrcItem) (output : List SrcItem) (lines : List (List (Option LineToken))) (statements : List Statement)
    → IsSpelledKind using kind (record { line = number; kind = kind; context = context; key = key; output = output }) → ArePrinted section.Output unseen output → 1 ≤ length output
    → ReadAsStatements (last_group using) (number + 1) lines statements
    → ReadAsStatements (last_group using) number (rule_pieces kind (record { line = number; kind = kind; context = context; key = key; output = output }) ∷ lines) (statement.Rule (record { line = number; kind = kind; context = context; key = key; output = output }) ∷ statements)
unfolding begins_forbidden
parts-print using kind number context key [] lines statements ok printed some more = absurd (omega arith)
parts-print true Plain number context None (first ∷ output) lines statements (cok, kok) printed some more = absurd kok
parts-print false Plain number context (Some key) (first ∷ output) lines statements (cok, kok) printed some more = absurd kok
parts-print true Plain number context (Some key) (first ∷ output) lines statements (ctx, kok) printed some more =
    let cok = spelled_items section.Context unseen context ctx in
    let kpr = spelled_items section.Key unseen (key ∷ []) kok in
    let tail : List (Option LineToken) = Some arrow ∷ joined_items (first ∷ output) in
    line-prints UsingKeys number (plain_pieces (record { line = number; kind = Plain; context = context; key = Some key; output = first ∷ output })) (statement.Rule (record { line = number; kind = Plain; context = context; key = Some key; output = first ∷ output })) lines statements
    (spaced-sound section.Context unseen context (Some plus ∷ None ∷ (item_pieces key ++ None ∷ tail)) cok
    (refl, tt, item_sound section.Key true true key (None ∷ tail) kpr.0 refl (refl, tt, joined-sound section.Output unseen (first ∷ output) printed)))
    (rule-plain context (Some plus ∷ None ∷ (item_pieces key ++ None ∷ tail)) cok refl)
    (keyed_rule_read number context output key first cok kpr printed (item_some section.Output first printed.0)) more
parts-print false Plain number context None (first ∷ output) lines statements (ctx, kok) printed some more =
    let cok = spelled_items section.Context unseen context ctx in
    line-prints WithoutKeys number (plain_pieces (record { line = number; kind = Plain; context = context; key = None; output = first ∷ output })) (statement.Rule (record { line = number; kind = Plain; context = context; key = None; output = first ∷ output })) lines statements
    (spaced-sound section.Context unseen context (Some arrow ∷ joined_items (first ∷ output)) cok (refl, tt, joined-sound section.Output unseen (first ∷ output) printed))
    (rule-plain context (Some arrow ∷ joined_items (first ∷ output)) cok refl)
    (free_rule_read number context output first cok printed (item_some section.Output first printed.0)) more
parts-print using OnMatch number context key (first ∷ output) lines statements (none, keyless) printed some more =
    line-prints (last_group using) number (Some (word (codes "match")) ∷ None ∷ Some arrow ∷ joined_items (first ∷ output)) (statement.Rule (record { line = number; kind = OnMatch; context = context; key = key; output = first ∷ output })) lines statements
    ((refl, refl), (refl, λ e. refl), (refl, tt, joined-sound section.Output unseen (first ∷ output) printed)) refl
    (ap (λ (ts : List LineToken). read_line (last_group using) number (word (codes "match") ∷ arrow ∷ ts)) (tokens-joined (first ∷ output))
    ∙ match_read using number (first ∷ output) (output-has first (items_tokens output) (item_some section.Output first printed.0)) printed
    ∙ (λ i. Ok (statement.Rule (record { line = number; kind = OnMatch; context = sym none i; key = sym keyless i; output = first ∷ output })))) more
parts-print using OnNoMatch number context key (first ∷ output) lines statements (none, keyless) printed some more =
    line-prints (last_group using) number (Some (word (codes "nomatch")) ∷ None ∷ Some arrow ∷ joined_items (first ∷ output)) (statement.Rule (record { line = number; kind = OnNoMatch; context = context; key = key; output = first ∷ output })) lines statements
    ((refl, refl), (refl, λ e. refl), (refl, tt, joined-sound section.Output unseen (first ∷ output) printed)) refl
    (ap (λ (ts : List LineToken). read_line (last_group using) number (word (codes "nomatch") ∷ arrow ∷ ts)) (tokens-joined (first ∷ output))
    ∙ nomatch_read using number (first ∷ output) (output-has first (items_tokens output) (item_some section.Output first printed.0)) printed
    ∙ (λ i. Ok (statement.Rule (record { line = number; kind = OnNoMatch; context = sym none i; key = sym keyless i; output = first ∷ output })))) more

rule-prints : (using : Bool) (number : ℕ) (rule : RuleDef) (lines : List (List (Option LineToken))) (statements : List Statement) → rule.line ≡ number → IsSpelledRule using rule
    → ReadAsStatements (last_group using) (number + 1) lines statements → ReadAsStatements (last_group using) number (rule_pieces rule.kind rule ∷ lines) (statement.Rule rule ∷ statements)
rule-prints using number rule lines statements at ok more =
    subst (λ (n : ℕ). ReadAsStatements (last_group using) n (rule_pieces rule.kind rule ∷ lines) (statement.Rule rule ∷ statements)) at
    (parts-print using rule.kind rule.line rule.context rule.key rule.output lines statements ok.kind (spelled_items section.Output unseen rule.output ok.output) ok.some (subst (λ (n : ℕ). ReadAsStatements (last_group using) (n + 1) lines statements) (sym at) more))

rules-print : (using : Bool) (number : ℕ) (rules : List RuleDef) (lines : List (List (Option LineToken))) (statements : List Statement) → AreSpelledRules using number rules → ReadAsStatements (last_group using) (number + length rules) lines statements
    → ReadAsStatements (last_group using) number (map (λ (rule : RuleDef). rule_pieces rule.kind rule) rules ++ lines) (map statement.Rule rules ++ statements)
rules-print using number [] lines statements ok more = let e : number + 0 ≡ number = omega arith in subst (λ n. ReadAsStatements (last_group using) n lines statements) e more
rules-print using number (rule ∷ rules) lines statements (at, ok, rest) more =
    let e : number + suc (length rules) ≡ number + 1 + length rules = omega arith in
    rule-prints using number rule _ _ at ok (rules-print using (number + 1) rules lines statements rest (subst (λ n. ReadAsStatements (last_group using) n lines statements) e more))

-- groups
group-line : (group : GroupDef) → IsPrintedName group.name → (using : Bool) → AreSound true true (group_pieces (record group { using_keys = using }))
unfolding begins_forbidden
group-line group ok true = (
  (refl, refl),
  (refl, λ e. refl),
  (
    refl,
    tt,
    name_sound true group.name (Some closing ∷ None ∷ Some (word (codes "using")) ∷ None ∷ Some (word (codes "keys")) ∷ []) ok refl
        (λ c. (refl, tt, ((refl, refl), (refl, λ e. refl), ((refl, refl), (refl, λ e. refl), refl)))),
  ),
)
group-line group ok false = ((refl, refl), (refl, λ e. refl), (refl, tt, name_sound true group.name (Some closing ∷ []) ok refl (λ c. (refl, tt, refl))))

read-group : (before : LastGroup) (number : ℕ) (group : GroupDef) → IsPrintedName group.name → (using : Bool) → group.line ≡ number
    → read_line before number (tokens_in (group_pieces (record group { using_keys = using }))) ≡ Ok (statement.Group (record group { rules = []; using_keys = using }))
read-group before number group ok true at =
    group_read (name_kind group.name) before number true group.name (wordy-name group.name) ok.fits
    ∙ ap (λ (n : ℕ). Ok (statement.Group (record { line = n; name = group.name; using_keys = true; rules = [] }))) (sym at)
read-group before number group ok false at =
    group_read (name_kind group.name) before number false group.name (wordy-name group.name) ok.fits
    ∙ ap (λ (n : ℕ). Ok (statement.Group (record { line = n; name = group.name; using_keys = false; rules = [] }))) (sym at)

groups-print : (before : LastGroup) (number : ℕ) (groups : List GroupDef) → AreSpelledGroups number groups → ReadAsStatements before number (flat_map group_lines groups) (group_statements groups)
groups-print before number [] ok = refl
groups-print before number (group ∷ groups) (at, spelled, rules, rest) =
    let named = spelled_name group.name spelled in
    line-prints before number (group_pieces group) (statement.Group (record group { rules = [] })) _ _ (group-line group named group.using_keys) refl (read-group before number group named group.using_keys at)
    (rules-print group.using_keys (number + 1) group.rules (flat_map group_lines groups) (group_statements groups) rules (groups-print (last_group group.using_keys) (number + 1 + length group.rules) groups rest))

lines_are_read : (p : Program) → IsSpelled p → ReadAsStatements Missing 1 (program_lines p) (program_statements p)
lines_are_read p ok =
    stores-print Missing 1 p.stores _ _ ok.stores
    (begins-print Missing (1 + length p.stores) p.begins _ _ ok.begins (groups-print Missing (1 + length p.stores + length p.begins) p.groups ok.groups))

pub programs_read_back : ProgramsAreReadBack
unfolding program_text
programs_read_back p ok =
    sheets_are_read (program_lines p) (program_statements p) (lines_are_read p ok)
    (record { few = ok.short; utf8 = program_utf8 p ok; unmarked = program_unmarked p })
    ∙ ap Ok (made p)
