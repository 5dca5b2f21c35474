-- The stores and groups that are read have names, and no statement is at line 0 if nothing is refused.
use Rattle.std.proofs.Common.{◌≡◌, ℕ, zero, suc, ◌+◌, ◌-◌, ◌<◌, ◌≤◌, Bool, true, false, List, [], ◌∷◌, ◌++◌, length, Option, Some, None, Result, Ok, Err, refl, sym, ap, subst, if◌then◌else◌, arith, get_or}
use Rattle.std.specs.Prelude.{nat_eq, not, ◌&&◌, ◌||◌, codes, is_some, slice_get, chars, All, IsUtf8}
use Rattle.std.specs.List.{fold, AllByRecursion}
use Rattle.std.proofs.lemmas.List.Elements.{All-head, All-tail}
use Rattle.std.proofs.lemmas.Str.{chars-nil}
use Rattle.kmn_base.specs.Names.{same_name}
use Rattle.kmn_base.specs.declared.limits.TheConstants.{TEXT_BYTES}
use Rattle.kmn_base.specs.declared.refusals.Refusal.{Refusal}
use Rattle.kmn_lines.specs.Laws.{is_line_end, line_ends}
use Rattle.kmn_lines.specs.Lines.{logicals}
use Rattle.kmn_lines.specs.Tokens.{line_tokens, line_refusal}
use Rattle.kmn_lines.specs.declared.logical.Logical.{Logical}
use Rattle.kmn_lines.proofs.Numbered.{lines_are_numbered}
use Rattle.kmn_lines.proofs.TextLines.{tokens_are_text}
use Rattle.rule_model.specs.declared.program.StoreDef.{StoreDef}
use Rattle.rule_model.specs.declared.program.BeginDef.{BeginDef}
use Rattle.rule_model.specs.declared.program.RuleDef.{RuleDef}
use Rattle.rule_model.specs.declared.program.GroupDef.{GroupDef}
use Rattle.rule_model.specs.declared.program.Program.{Program}
use Rattle.kmn_items.specs.declared.syntax.TokenRefusal.{TokenRefusal}
use Rattle.kmn_items.specs.TokenTexts.{with_texts}
use Rattle.kmn_parser.specs.declared.statement.LastGroup.{LastGroup}
use Rattle.kmn_parser.specs.declared.statement.Statement.{Statement}
use Rattle.kmn_parser.specs.declared.statement.Statement.TheVariants as statement
use Rattle.kmn_parser.specs.Line.{read_line}
use Rattle.kmn_parser.specs.ProgramLaws.{IsLine}
use Rattle.kmn_parser.specs.Source.{at_line, line_statement, with_rule, with_statement}
use Rattle.kmn_parser.proofs.ReadStatements.{IsReadStatement, StatementRead, line-read}
use Rattle.kmn_parser.proofs.SoundTokens.{HasTexts, tokens-sound}
use Rattle.kmn_parser.proofs.StatedLines.{StandsAt}
use Rattle.source_faults.specs.declared.found.Found.{Found}
use Rattle.source_faults.specs.Words.{words_of}
use Rattle.source_faults.specs.Reading.{is_begin, has_word, with_begin, fits, with_room, with_line, group_for, is_group, read_on, read_all, read_refusals, nothing_read, accepted, statement_refused, token_refused}
use Rattle.fault_laws.proofs.Counts.{same_numbers, stated_at}
use Rattle.fault_laws.proofs.ReadOnce.{ReadAt, adds_statement, begun_at, other_tick, statement_at}

-- an ordinary store has a name, and so has a group that a line states
abbrev pub NamedStore : StoreDef → Type 0
NamedStore store = nat_eq store.system 0 ≡ true → same_name store.name [] ≡ false

abbrev pub NamedGroup : GroupDef → Type 0
NamedGroup group = 0 < group.line → same_name group.name [] ≡ false

some_name : (name : List ℕ) → 1 ≤ length (chars name) → same_name name [] ≡ false
unfolding same_name
some_name [] h = absurd (omega (arith, h, ap length chars-nil))
some_name (byte ∷ bytes) h = refl

abbrev Named : Statement → Type 0
Named (statement.Store store) = NamedStore store
Named (statement.Group group) = NamedGroup group
Named other = Unit {0}

named : (group : LastGroup) (read : Statement) → IsReadStatement group read → Named read
named group statement.Nothing is = tt
named group (statement.Store store) is = λ ordinary. some_name store.name (is.named (same_numbers store.system 0 ordinary)).some
named group (statement.Begin start) is = tt
named group (statement.Group opened) (line, name, none) = λ h. some_name opened.name name.some
named group (statement.Rule rule) is = tt

abbrev NamedRead : Result Statement Refusal → Type 0
NamedRead (Ok read) = Named read
NamedRead (Err found) = Unit {0}

named_at : (n : ℕ) (group : LastGroup) (read : Result Statement TokenRefusal) → StatementRead group read → NamedRead (at_line n read)
named_at n group (Ok read) is = named group read is
named_at n group (Err found) is = tt

abbrev HasLine : Logical → Type 0
HasLine line = IsLine line.first_line

line_named : (source : List ℕ) (group : LastGroup) (line : Logical) → HasLine line → HasTexts source line → line_refusal source line ≡ None → NamedRead (line_statement source group line)
line_named source group line placed texts none =
    named_at line.first_line group (read_line group line.first_line (with_texts source (line_tokens source line)))
    (line-read group line.first_line (with_texts source (line_tokens source line)) placed (tokens-sound source line texts none))

few_ends : (n : ℕ) (text : List ℕ) → line_ends n text ≤ length text
few_ends zero text = omega arith
few_ends (suc n) [] = omega arith
few_ends (suc n) (byte ∷ bytes) =
    let rest = few_ends n bytes in
    (elim (is_line_end byte bytes) as (λ (ends : Bool). (if ends then 1 else 0) + line_ends n bytes ≤ suc (length bytes)) [
      | true ↦ omega (arith, rest)
      | false ↦ omega (arith, rest)
    ])

lines_placed : (source : List ℕ) → length source ≤ TEXT_BYTES → All HasLine (logicals source)
lines_placed source short = λ k d l.
    let line : Logical = get_or (logicals source) k d in
    let number = lines_are_numbered source k d l in
    let few = few_ends line.from source in
    record { first = omega (arith, number); last = omega (arith, number, few, short) }

-- the names of what is read, and that no statement is at line 0 if nothing is refused
pub record HasNames (st : Found) : Type 0 where
  pub stores : AllByRecursion NamedStore st.program.stores
  pub groups : AllByRecursion NamedGroup st.program.groups
  pub quiet : read_refusals st ≡ [] → (st.sure ≡ true) × (stated_at 0 st.program + begun_at 0 st.program ≡ 0)

pushed : {X : Type 0} (P : X → Type 0) (xs : List X) (x : X) → AllByRecursion P xs → P x → AllByRecursion P (xs ++ x ∷ [])
pushed P [] x all here = (here, tt)
pushed P (y ∷ xs) x (first, rest) here = (first, pushed P xs x rest here)

-- with a line that is refused
stores_with_begin : (program : Program) (line : ℕ) (words : List (List ℕ)) → ((with_begin program line words).stores ≡ program.stores) × ((with_begin program line words).groups ≡ program.groups)
stores_with_begin program line words = by (is_begin words)
  where
    start : BeginDef
    start = record { line = line; unicode = not (has_word (codes "ansi") words); group = [] }

    by : (t : Bool) → ((if t then record program { begins = program.begins ++ start ∷ [] } else program).stores ≡ program.stores)
        × ((if t then record program { begins = program.begins ++ start ∷ [] } else program).groups ≡ program.groups)
    by true = (refl, refl)
    by false = (refl, refl)

never : {X : Type 0} (xs ys : List X) (x : X) → (xs ++ x ∷ []) ++ ys ≡ [] → ⊥
never [] ys x h = absurd (cc)
never (y ∷ xs) ys x h = absurd (cc)

never_behind : {X : Type 0} (xs ys : List X) (x : X) → xs ++ (ys ++ x ∷ []) ≡ [] → ⊥
never_behind [] [] x h = absurd (cc)
never_behind [] (y ∷ ys) x h = absurd (cc)
never_behind (z ∷ xs) ys x h = absurd (cc)

names_token : (st : Found) (found : Refusal) (words : List (List ℕ)) → HasNames st → HasNames (token_refused st found words)
names_token st found words has =
    let same = stores_with_begin st.program found.line words in
    record {
      stores = subst (AllByRecursion NamedStore) (sym same.0) has.stores;
      groups = subst (AllByRecursion NamedGroup) (sym same.1) has.groups;
      quiet = λ none. absurd (never st.tokens st.statements found none);
    }

names_refused : (st : Found) (found : Refusal) (words : List (List ℕ)) → HasNames st → HasNames (statement_refused st found words)
names_refused st found words has =
    let same = stores_with_begin st.program found.line words in
    record {
      stores = subst (AllByRecursion NamedStore) (sym same.0) has.stores;
      groups = subst (AllByRecursion NamedGroup) (sym same.1) has.groups;
      quiet = λ none. absurd (never_behind st.tokens st.statements found none);
    }

-- with a statement
named_rule : (groups : List GroupDef) (rule : RuleDef) → AllByRecursion NamedGroup groups → AllByRecursion NamedGroup (with_rule groups rule)
named_rule [] rule all = tt
named_rule (group ∷ []) rule (here, rest) = (here, tt)
named_rule (group ∷ next ∷ groups) rule (here, rest) = (here, named_rule (next ∷ groups) rule rest)

stores_with : (program : Program) (read : Statement) → Named read → AllByRecursion NamedStore program.stores → AllByRecursion NamedStore (with_statement program read).stores
stores_with program statement.Nothing is all = all
stores_with program (statement.Store store) is all = pushed NamedStore program.stores store all is
stores_with program (statement.Begin start) is all = all
stores_with program (statement.Group group) is all = all
stores_with program (statement.Rule rule) is all = all

groups_with : (program : Program) (read : Statement) → Named read → AllByRecursion NamedGroup program.groups → AllByRecursion NamedGroup (with_statement program read).groups
groups_with program statement.Nothing is all = all
groups_with program (statement.Store store) is all = all
groups_with program (statement.Begin start) is all = all
groups_with program (statement.Group group) is all = pushed NamedGroup program.groups group all is
groups_with program (statement.Rule rule) is all = named_rule program.groups rule all

room_named : (opens : Bool) (program : Program) (read : Statement) → AllByRecursion NamedStore program.stores → AllByRecursion NamedGroup program.groups
    → AllByRecursion NamedStore (with_room opens program read).stores × AllByRecursion NamedGroup (with_room opens program read).groups
room_named opens program statement.Nothing stores groups = (stores, groups)
room_named opens program (statement.Store store) stores groups = (stores, groups)
room_named opens program (statement.Begin start) stores groups = (stores, groups)
room_named opens program (statement.Group group) stores groups = (stores, groups)
room_named opens program (statement.Rule rule) stores groups = by (not opens && fits (is_some rule.key) (slice_get program.groups (length program.groups - 1)))
  where
    opened : GroupDef
    opened = record { line = 0; name = []; using_keys = is_some rule.key; rules = [] }

    by : (t : Bool) → AllByRecursion NamedStore (if t then program else record program { groups = program.groups ++ opened ∷ [] }).stores
        × AllByRecursion NamedGroup (if t then program else record program { groups = program.groups ++ opened ∷ [] }).groups
    by true = (stores, groups)
    by false = (stores, pushed NamedGroup program.groups opened groups (λ h. absurd (omega (arith, h))))

sure_named : (sure opens : Bool) (program : Program) (read : Statement) → AllByRecursion NamedStore program.stores → AllByRecursion NamedGroup program.groups
    → AllByRecursion NamedStore (if sure then program else with_room opens program read).stores × AllByRecursion NamedGroup (if sure then program else with_room opens program read).groups
sure_named true opens program read stores groups = (stores, groups)
sure_named false opens program read stores groups = room_named opens program read stores groups

names_statement : (n : ℕ) → 0 < n → (st : Found) (read : Statement) → StandsAt n read → Named read → HasNames st → HasNames (accepted st read)
names_statement n positive st read at is has =
    let before = sure_named st.sure st.opens st.program read has.stores has.groups in
    let program = if st.sure then st.program else with_room st.opens st.program read in
    record {
      stores = stores_with program read is before.0;
      groups = groups_with program read is before.1;
      quiet = λ none. still (has.quiet none);
    }
  where
    whole : (sure : Bool) → sure ≡ true → (if sure then st.program else with_room st.opens st.program read) ≡ st.program
    whole true e = refl
    whole false e = absurd (cc)

    still : (st.sure ≡ true) × (stated_at 0 st.program + begun_at 0 st.program ≡ 0)
        → ((st.sure || is_group read) ≡ true)
        × (stated_at 0 (with_statement (if st.sure then st.program else with_room st.opens st.program read) read)
        + begun_at 0 (with_statement (if st.sure then st.program else with_room st.opens st.program read) read) ≡ 0)
    still (sure, zero_there) = (
      (λ j. sure j || is_group read),
      subst (λ program. stated_at 0 (with_statement program read) + begun_at 0 (with_statement program read) ≡ 0) (sym (whole st.sure sure))
          (let adds = adds_statement n st.program read at in let none = other_tick 0 n (λ e. omega (arith, e, positive)) in omega (arith, zero_there, none, adds.both 0)),
    )

names_line : (n : ℕ) → 0 < n → (st : Found) (refused : Option Refusal) (read : Result Statement Refusal) (words : List (List ℕ)) → ReadAt n read → (refused ≡ None → NamedRead read)
    → HasNames st → HasNames (with_line st refused read words)
names_line n positive st (Some found) read words at is has = names_token st found words has
names_line n positive st None (Ok read) words at is has = names_statement n positive st read at (is refl) has
names_line n positive st None (Err found) words at is has = names_refused st found words has

names_read : (source : List ℕ) (lines : List Logical) (st : Found) → All HasLine lines → All (HasTexts source) lines → HasNames st → HasNames (fold (read_on source) st lines)
names_read source [] st placed texts has = has
names_read source (line ∷ lines) st placed texts has =
    let group = group_for st (with_texts source (line_tokens source line)) in
    let here = All-head HasLine line lines placed in
    names_read source lines (read_on source st line) (All-tail HasLine line lines placed) (All-tail (HasTexts source) line lines texts)
    (names_line line.first_line (omega (arith, here.first)) st (line_refusal source line) (line_statement source group line) (words_of source line)
    (statement_at source group line) (line_named source group line here (All-head (HasTexts source) line lines texts)) has)

nothing_named : HasNames nothing_read
nothing_named = record { stores = tt; groups = tt; quiet = λ none. (refl, omega arith) }

pub all_named : (source : List ℕ) → length source ≤ TEXT_BYTES → IsUtf8 source → HasNames (read_all source)
unfolding read_all
all_named source short utf8 = names_read source (logicals source) nothing_read (lines_placed source short) (tokens_are_text source utf8) nothing_named
