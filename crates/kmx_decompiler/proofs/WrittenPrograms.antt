-- A program that is read from a source is a program as a source writes it.
use Rattle.std.proofs.Common.{◌≡◌, ℕ, ◌+◌, ◌-◌, ◌⊎◌, inl, inr, Bool, true, false, not, if◌then◌else◌, nat_lt, List, [], ◌∷◌, ◌++◌, length, take, drop, codes, Option, None, Some, Result, Ok, Err, refl, sym, ◌∙◌, ap, subst, arith, append-nil}
use Rattle.std.specs.Prelude.{All, IsUtf8, chars, flat_map, option_to_list}
use Rattle.std.specs.Str.{is_utf8}
use Rattle.std.proofs.lemmas.Bool.{cond_both, not-false}
use Rattle.std.proofs.lemmas.List.Concat.{flat_map-append}
use Rattle.std.proofs.lemmas.List.Elements.{All-cons, All-nil, All-append, All-drop, All-take, All-head, All-tail, All-push}
use Rattle.std.proofs.lemmas.Str.{IsUtf8-from_is_utf8, chars-nil}
use Rattle.kmn_base.specs.declared.limits.TheConstants.{TEXT_BYTES}
use Rattle.kmn_base.specs.declared.codes.Code.{Code}
use Rattle.kmn_base.specs.declared.codes.Code.TheVariants as code
use Rattle.kmn_base.specs.declared.refusals.Refusal.{Refusal}
use Rattle.kmn_base.specs.Answers.{and_then}
use Rattle.kmn_base.proofs.Options.{option_or-none}
use Rattle.kmn_base.proofs.Elements.{All-append_parts}
use Rattle.kmn_lines.specs.declared.logical.Logical.{Logical}
use Rattle.kmn_lines.specs.Lines.{logicals}
use Rattle.kmn_lines.specs.Tokens.{line_tokens, tokens_refusal}
use Rattle.kmn_lines.proofs.TextLines.{tokens_are_text}
use Rattle.rule_model.specs.declared.program.SrcItem.{SrcItem}
use Rattle.rule_model.specs.declared.program.StoreDef.{StoreDef}
use Rattle.rule_model.specs.declared.program.RuleDef.{RuleDef}
use Rattle.rule_model.specs.declared.program.RuleKind.{RuleKind}
use Rattle.rule_model.specs.declared.program.RuleKind.TheVariants.{Plain, OnMatch, OnNoMatch}
use Rattle.rule_model.specs.declared.program.GroupDef.{GroupDef}
use Rattle.rule_model.specs.declared.program.Program.{Program}
use Rattle.kmn_items.specs.declared.syntax.TokenRefusal.{TokenRefusal}
use Rattle.kmn_items.specs.declared.syntax.Slot.TheVariants as slot
use Rattle.kmn_items.specs.declared.syntax.Where.TheVariants as section
use Rattle.kmn_items.specs.TokenTexts.{LineToken, fault, text_at, begins_open, with_texts}
use Rattle.kmn_items.specs.Words.{is_system_name}
use Rattle.kmn_items.specs.Slots.{unless, broken}
use Rattle.kmn_items.specs.Item.{unseen, read_items, read_key}
use Rattle.kmn_parser.specs.declared.statement.Sign.TheVariants as sign
use Rattle.kmn_parser.specs.declared.statement.LastGroup.{LastGroup}
use Rattle.kmn_parser.specs.declared.statement.LastGroup.TheVariants.{Missing}
use Rattle.kmn_parser.specs.declared.statement.Statement.{Statement}
use Rattle.kmn_parser.specs.declared.statement.Statement.TheVariants as statement
use Rattle.kmn_parser.specs.Line.{place_of, begins_word, is_none_left, checked, store_form, store_fault, store_def, read_store, begin_fault, read_begin, group_fault, read_group, match_fault, read_match, uses_keys, rule_head, rule_key, rule_body, earliest, read_rule, read_tokens, read_line}
use Rattle.kmn_parser.specs.Source.{at_line, line_statement, group_after, with_rule, with_statement, no_program, read_lines, read_text, parsed}
use Rattle.kmn_parser.specs.ProgramLaws.{IsName, IsReadStore, IsReadProgram}
use Rattle.kmn_parser.proofs.ReadItems.{text_at-drop}
use Rattle.kmn_parser.proofs.ReadStatements.{first-none}
use Rattle.kmn_parser.proofs.ReadPrograms.{programs_are_read}
use Rattle.kmn_parser.specs.Spelled.{IsSpelledName, IsStoreName}
use Rattle.kmx_decompiler.specs.Laws.{ReadWasWritten}
use Rattle.kmx_decompiler.specs.Written.{IsWrittenItem, IsWrittenContext, IsWrittenRule, IsWrittenStore}
use Rattle.kmx_decompiler.proofs.WholeTokens.{IsWholeToken, HasWholeTokens, lines_whole}
use Rattle.kmx_decompiler.proofs.WrittenNames.{store_at}
use Rattle.kmx_decompiler.proofs.WrittenItems.{AllWritten, items_written, KeyWritten, key_written, ContextWritten, context_written}
use Rattle.kmx_decompiler.proofs.GroupRules.{rules_of}

-- a store that has no name or the name of an ordinary store
record IsNamedStore (store : StoreDef) : Type 0 where
  name : (store.name ≡ []) ⊎ IsStoreName store.name
  items : All IsWrittenItem store.items

-- a statement as a source writes it
abbrev IsWrittenStatement : Statement → Type 0
IsWrittenStatement (statement.Store store) = IsNamedStore store
IsWrittenStatement (statement.Group group) = group.rules ≡ []
IsWrittenStatement (statement.Rule rule) = IsWrittenRule rule
IsWrittenStatement other = Unit {0}

abbrev StatementWritten : Result Statement TokenRefusal → Type 0
StatementWritten (Ok stated) = IsWrittenStatement stated
StatementWritten (Err found) = Unit {0}

checked-written : (found : Option TokenRefusal) (read : Result Statement TokenRefusal) → (found ≡ None → StatementWritten read) → StatementWritten (checked found read)
checked-written None read h = h refl
checked-written (Some found) read h = tt

then-written : (items : Result (List SrcItem) TokenRefusal) (next : List SrcItem → Result Statement TokenRefusal) → AllWritten items
    → ((xs : List SrcItem) → All IsWrittenItem xs → StatementWritten (next xs)) → StatementWritten (and_then items next)
then-written (Ok items) next h more = more items h
then-written (Err found) next h more = tt

-- ---- stores

store-named : (line : ℕ) (name : List ℕ) (items : List SrcItem) → All IsWrittenItem items → (is_system_name name ≡ false → IsStoreName name) → IsNamedStore (store_def line name items)
store-named line name items ok named = record {
  name = cond_both (is_system_name name) [] name (λ (own : List ℕ). (own ≡ []) ⊎ IsStoreName own) (λ e. inl refl) (λ e. inr (named e));
  items = ok;
}

store-name : (last : ℕ) (tokens : List LineToken) → All IsWholeToken tokens → store_form last tokens ≡ None → is_system_name (text_at 2 tokens) ≡ false → IsStoreName (text_at 2 tokens)
store-name last tokens ok whole ordinary =
    let first = option_or-none (broken last 2 (slot.StoreName ∷ []) (drop 2 tokens)) _ whole in
    let same = text_at-drop 2 tokens in
    record {
      named = subst IsSpelledName same (store_at last 2 0 (slot.StoreName ∷ []) (drop 2 tokens) (All-drop IsWholeToken 2 tokens ok) first.0 refl (ap is_system_name same ∙ ordinary));
      ordinary = ordinary;
    }

store-line : (line last : ℕ) (tokens : List LineToken) → All IsWholeToken tokens → StatementWritten (read_store line last tokens)
unfolding read_store store_fault
store-line line last tokens ok =
    checked-written (store_fault last tokens) _
    (λ whole.
    then-written (read_items section.Store unseen last 0 4 (drop 4 tokens)) (λ items. Ok (statement.Store (store_def line (text_at 2 tokens) items)))
    (items_written section.Store unseen last 0 4 (drop 4 tokens) (All-drop IsWholeToken 4 tokens ok))
    (λ items h. store-named line (text_at 2 tokens) items h (store-name last tokens ok (first-none (unless (begins_open (drop 1 tokens)) code.S01) (store_form last tokens) whole).1)))

begin-line : (line last : ℕ) (tokens : List LineToken) → StatementWritten (read_begin line last tokens)
unfolding read_begin
begin-line line last tokens = checked-written (begin_fault last tokens) _ (λ whole. tt)

group-line : (line last : ℕ) (tokens : List LineToken) → StatementWritten (read_group line last tokens)
unfolding read_group
group-line line last tokens = checked-written (group_fault last tokens) _ (λ whole. refl)

-- ---- rules

no-context : IsWrittenContext []
no-context = record { stand = refl; order = refl; one_nul = omega arith }

match-line : (kind : RuleKind) (group : LastGroup) (line last : ℕ) (tokens : List LineToken) → All IsWholeToken tokens → StatementWritten (read_match kind group line last tokens)
unfolding read_match
match-line kind group line last tokens ok =
    checked-written (match_fault group (place_of sign.Arrow tokens) tokens) _
    (λ whole.
    then-written (read_items section.Output unseen last 0 2 (drop 2 tokens)) _
    (items_written section.Output unseen last 0 2 (drop 2 tokens) (All-drop IsWholeToken 2 tokens ok))
    (λ output h. record { items = h; context = no-context }))

abbrev OneKeyWritten : Result (Option SrcItem) TokenRefusal → Type 0
OneKeyWritten (Ok key) = All IsWrittenItem (option_to_list key)
OneKeyWritten (Err found) = Unit {0}

some-key : (read : Result SrcItem TokenRefusal) → KeyWritten read → OneKeyWritten (and_then read (λ key. Ok (Some key)))
some-key (Ok item) h = All-cons IsWrittenItem item [] h (All-nil IsWrittenItem)
some-key (Err found) h = tt

key-if : (using_keys plus : Bool) (read : Result SrcItem TokenRefusal) (wrong : TokenRefusal) → KeyWritten read
    → OneKeyWritten (if not plus then Ok None else (if using_keys then and_then read (λ key. Ok (Some key)) else Err wrong))
key-if using_keys false read wrong h = All-nil IsWrittenItem
key-if false true read wrong h = tt
key-if true true read wrong h = some-key read h

abbrev BodyWritten : Result RuleDef TokenRefusal → Type 0
BodyWritten (Ok rule) = IsWrittenRule rule
BodyWritten (Err found) = Unit {0}

body-of : (line : ℕ) (contexts : Result (List SrcItem) TokenRefusal) (keys : Result (Option SrcItem) TokenRefusal) (outputs : Result (List SrcItem) TokenRefusal)
    → AllWritten contexts → ContextWritten contexts → OneKeyWritten keys → AllWritten outputs
    → BodyWritten (and_then contexts (λ context. and_then keys (λ key. and_then outputs (λ output. Ok (record { line = line; kind = Plain; context = context; key = key; output = output })))))
body-of line (Err found) keys outputs c o k h = tt
body-of line (Ok context) (Err found) outputs c o k h = tt
body-of line (Ok context) (Ok key) (Err found) c o k h = tt
body-of line (Ok context) (Ok key) (Ok output) c o k h = record {
  items = All-append IsWrittenItem context (option_to_list key ++ output) c (All-append IsWrittenItem (option_to_list key) output k h);
  context = o;
}

body-written : (group : LastGroup) (line last arrow plus : ℕ) (tokens : List LineToken) → All IsWholeToken tokens → BodyWritten (rule_body group line last arrow plus tokens)
unfolding rule_body rule_key
body-written group line last arrow plus tokens ok =
    let key_tokens = drop (plus + 1) (take arrow tokens) in
    body-of line (read_items section.Context unseen last 0 0 (take plus tokens)) (rule_key group last arrow plus tokens) (read_items section.Output unseen last 0 (arrow + 1) (drop (arrow + 1) tokens))
    (items_written section.Context unseen last 0 0 (take plus tokens) (All-take IsWholeToken plus tokens ok))
    (context_written last 0 (take plus tokens))
    (key-if (uses_keys group) (nat_lt plus arrow) (read_key last (plus + 1) key_tokens) (fault plus code.S07)
    (key_written last (plus + 1) key_tokens (All-drop IsWholeToken (plus + 1) (take arrow tokens) (All-take IsWholeToken arrow tokens ok))))
    (items_written section.Output unseen last 0 (arrow + 1) (drop (arrow + 1) tokens) (All-drop IsWholeToken (arrow + 1) tokens ok))

earliest-written : (head : Option Code) (body : Result RuleDef TokenRefusal) → BodyWritten body → StatementWritten (earliest head body)
earliest-written None (Ok rule) h = h
earliest-written None (Err found) h = tt
earliest-written (Some head) (Ok rule) h = tt
earliest-written (Some head) (Err found) h = tt

rule-line : (group : LastGroup) (line last : ℕ) (tokens : List LineToken) → All IsWholeToken tokens → StatementWritten (read_rule group line last tokens)
unfolding read_rule
rule-line group line last tokens ok =
    let arrow = place_of sign.Arrow tokens in
    let plus = place_of sign.Plus (take arrow tokens) in
    earliest-written (rule_head group arrow plus tokens) (rule_body group line last arrow plus tokens) (body-written group line last arrow plus tokens ok)

-- ---- lines

tokens-written : (group : LastGroup) (line last : ℕ) (tokens : List LineToken) → All IsWholeToken tokens → StatementWritten (read_tokens group line last tokens)
tokens-written group line last tokens ok =
    let P : Result Statement TokenRefusal → Type 0 = StatementWritten in
    cond_both (begins_word (codes "store") tokens) _ _ P (λ e. store-line line last tokens ok)
    (λ e. cond_both (begins_word (codes "begin") tokens) _ _ P (λ f. begin-line line last tokens)
    (λ f. cond_both (begins_word (codes "group") tokens) _ _ P (λ g. group-line line last tokens)
    (λ g. cond_both (begins_word (codes "match") tokens) _ _ P (λ h. match-line OnMatch group line last tokens ok)
    (λ h. cond_both (begins_word (codes "nomatch") tokens) _ _ P (λ i. match-line OnNoMatch group line last tokens ok)
    (λ i. rule-line group line last tokens ok)))))

line-written : (group : LastGroup) (line : ℕ) (tokens : List LineToken) → All IsWholeToken tokens → StatementWritten (read_line group line tokens)
line-written group line tokens ok =
    cond_both (is_none_left tokens) _ _ StatementWritten (λ e. tt) (λ e. tokens-written group line (length tokens - 1) tokens ok)

-- ---- programs

record IsWrittenSoFar (program : Program) : Type 0 where
  stores : All IsNamedStore program.stores
  rules : All IsWrittenRule (flat_map rules_of program.groups)

rule-joins : (groups : List GroupDef) (rule : RuleDef) → IsWrittenRule rule → All IsWrittenRule (flat_map rules_of groups) → All IsWrittenRule (flat_map rules_of (with_rule groups rule))
rule-joins [] rule ok all = all
rule-joins (group ∷ []) rule ok all =
    let own : All IsWrittenRule group.rules = subst (All IsWrittenRule) (append-nil group.rules) all in
    subst (All IsWrittenRule) (sym (append-nil (group.rules ++ rule ∷ []))) (All-push IsWrittenRule group.rules rule own ok)
rule-joins (group ∷ next ∷ groups) rule ok all =
    let parts = All-append_parts IsWrittenRule group.rules (flat_map rules_of (next ∷ groups)) all in
    All-append IsWrittenRule group.rules (flat_map rules_of (with_rule (next ∷ groups) rule)) parts.0 (rule-joins (next ∷ groups) rule ok parts.1)

one-more : (program : Program) (stated : Statement) → IsWrittenSoFar program → IsWrittenStatement stated → IsWrittenSoFar (with_statement program stated)
one-more program statement.Nothing far h = far
one-more program (statement.Store store) far h = record { stores = All-push IsNamedStore program.stores store far.stores h; rules = far.rules }
one-more program (statement.Begin start) far h = record { stores = far.stores; rules = far.rules }
one-more program (statement.Group group) far h = record {
  stores = far.stores;
  rules =
      let none : flat_map rules_of (group ∷ []) ≡ [] = append-nil group.rules ∙ h in
      let same : flat_map rules_of (program.groups ++ group ∷ []) ≡ flat_map rules_of program.groups =
      flat_map-append rules_of program.groups (group ∷ []) ∙ (ap (λ (more : List RuleDef). flat_map rules_of program.groups ++ more) none ∙ append-nil (flat_map rules_of program.groups)) in
      subst (All IsWrittenRule) (sym same) far.rules;
}
one-more program (statement.Rule rule) far h = record { stores = far.stores; rules = rule-joins program.groups rule h far.rules }

abbrev WholeWritten : Result Program Refusal → Type 0
WholeWritten (Ok program) = IsWrittenSoFar program
WholeWritten (Err found) = Unit {0}

abbrev LineWritten : Result Statement Refusal → Type 0
LineWritten (Ok stated) = IsWrittenStatement stated
LineWritten (Err found) = Unit {0}

at-line : (line : ℕ) (read : Result Statement TokenRefusal) → StatementWritten read → LineWritten (at_line line read)
at-line line (Ok stated) h = h
at-line line (Err found) h = tt

lines-written : (source : List ℕ) (group : LastGroup) (program : Program) (lines : List Logical) → All (HasWholeTokens source) lines → IsWrittenSoFar program → WholeWritten (read_lines source group program lines)
lines-written source group program [] ok far = far
lines-written source group program (line ∷ lines) ok far =
    let tokens = with_texts source (line_tokens source line) in
    let here = line-written group line.first_line tokens (All-head (HasWholeTokens source) line lines ok) in
    (elim (line_statement source group line) as (λ (read : Result Statement Refusal). LineWritten read → WholeWritten (elim read [
      | Ok stated ↦ read_lines source (group_after group stated) (with_statement program stated) lines
      | Err found ↦ Err found
    ])) [
      | Ok stated ↦ λ stands.
          lines-written source (group_after group stated) (with_statement program stated) lines (All-tail (HasWholeTokens source) line lines ok) (one-more program stated far stands)
      | Err found ↦ λ stands. tt
    ]) (at-line line.first_line (read_line group line.first_line tokens) here)

text-written : (source : List ℕ) → IsUtf8 source → WholeWritten (read_text source)
text-written source utf8 =
    (elim (tokens_refusal source (logicals source)) as (λ (found : Option Refusal). tokens_refusal source (logicals source) ≡ found
    → WholeWritten (elim found [ Some first ↦ Err first | None ↦ read_lines source Missing no_program (logicals source) ])) [
      | Some first ↦ λ e. tt
      | None ↦ λ e.
          lines-written source Missing no_program (logicals source) (lines_whole source (tokens_are_text source utf8) e)
          (record { stores = All-nil IsNamedStore; rules = All-nil IsWrittenRule })
    ]) refl

whole-written : (source : List ℕ) → WholeWritten (parsed source)
unfolding parsed
whole-written source =
    cond_both (nat_lt TEXT_BYTES (length source)) _ _ WholeWritten (λ long. tt)
    (λ short. cond_both (not (is_utf8 source)) _ _ WholeWritten (λ other. tt)
    (λ text. text-written source (IsUtf8-from_is_utf8 source (not-false (is_utf8 source) text))))

-- if a store was read and is an ordinary one, it has a name
named-store : (store : StoreDef) → IsNamedStore store → IsReadStore store → IsWrittenStore store
named-store store ok read = record {
  name = λ ordinary. by ok.name (read.named ordinary);
  items = ok.items;
}
  where
    by : (store.name ≡ []) ⊎ IsStoreName store.name → IsName store.name → IsStoreName store.name
    by (inl none) named =
        let some = named.some in
        let empty : length (chars store.name) ≡ 0 = ap (λ (name : List ℕ). length (chars name)) none ∙ ap length chars-nil in
        absurd (omega (arith, some, empty))
    by (inr own) named = own

all-named : (stores : List StoreDef) → All IsNamedStore stores → All IsReadStore stores → All IsWrittenStore stores
all-named [] ok read = All-nil IsWrittenStore
all-named (store ∷ stores) ok read =
    All-cons IsWrittenStore store stores (named-store store (All-head IsNamedStore store stores ok) (All-head IsReadStore store stores read))
    (all-named stores (All-tail IsNamedStore store stores ok) (All-tail IsReadStore store stores read))

pub read_was_written : ReadWasWritten
read_was_written source program e =
    let far : IsWrittenSoFar program = subst WholeWritten e (whole-written source) in
    let read : IsReadProgram program = programs_are_read source program e in
    record { stores = all-named program.stores far.stores read.stores; rules = far.rules }
