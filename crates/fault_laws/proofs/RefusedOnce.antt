-- No line of a source is refused twice, apart from C01.
use Rattle.std.proofs.Common.{◌≡◌, ℕ, zero, suc, ◌+◌, ◌<◌, ◌≤◌, inl, inr, Bool, true, false, List, [], ◌∷◌, ◌++◌, length, map, Option, Some, None, Result, Ok, Err, refl, sym, ap, subst, ◌∙◌, if◌then◌else◌, arith}
use Rattle.std.specs.Prelude.{nat_lt, not, ◌&&◌, option_to_list}
use Rattle.std.specs.Str.{is_utf8}
use Rattle.std.proofs.lemmas.List.Elements.{filter-append}
use Rattle.kmn_base.specs.Rising.{times}
use Rattle.kmn_base.specs.declared.codes.Code.{Code}
use Rattle.kmn_base.specs.declared.codes.Code.TheVariants.{C01, L01, L05}
use Rattle.kmn_base.specs.declared.limits.TheConstants.{TEXT_BYTES}
use Rattle.kmn_base.specs.declared.refusals.Refusal.{Refusal}
use Rattle.kmn_lines.specs.Tokens.{refusal}
use Rattle.rule_model.specs.declared.program.StoreDef.{StoreDef}
use Rattle.rule_model.specs.declared.program.RuleDef.{RuleDef}
use Rattle.rule_model.specs.declared.program.GroupDef.{GroupDef}
use Rattle.rule_model.specs.declared.program.Program.{Program}
use Rattle.kmn_parser.specs.Source.{read_text}
use Rattle.kmn_parser.specs.SourceLaws.{IsInOrder, store_lines, group_lines, lines_of_rules, rule_lines}
use Rattle.kmn_parser.proofs.SourceLines.{IsOrdered, text-ordered}
use Rattle.store_table.specs.First.{at_line, broken}
use Rattle.store_table.specs.Names.{store_names, group_names}
use Rattle.item_checker.specs.Items.{items_refusals}
use Rattle.rule_checker.specs.AllLimits.{limits_refusals}
use Rattle.rule_checker.specs.Refused.{has_no_start, start_refusal}
use Rattle.source_names.specs.declared.causes.NameFault.{NameFault}
use Rattle.source_names.specs.Causes.{cause_refusal}
use Rattle.source_names.specs.Telling.{names_lacked, reported_causes}
use Rattle.source_faults.specs.declared.found.Found.{Found}
use Rattle.source_faults.specs.Reading.{read_all, read_refusals}
use Rattle.source_faults.specs.Stubs.{code_at, is_refused, new_words, stub_group, stub_rule, stub_store, stubbed, with_words, word_group, word_store}
use Rattle.source_faults.specs.Faults.{in_lines, further, is_empty, limits_faults, items_faults, names_faults, program_faults, faults_of, faults}
use Rattle.fault_laws.specs.Laws.{AreAtOwnLines, LinesAreRefusedOnce, is_of_start, of_statements}
use Rattle.source_faults.proofs.FirstRead.{FirstIs, first_read}
use Rattle.fault_laws.proofs.Counts.{count_at, count-append, count-filter, count-in_lines, count-items, count-limits, further_once, not_refused, not_refused_before, stated_at, tick, tick-most}
use Rattle.fault_laws.proofs.ReadOnce.{IsReadBefore, all_read, unread_at, zero_tick}
use Rattle.fault_laws.proofs.NamesOnce.{names_once}

-- stubs are at the lines of the statements
stub_store_line : (code : Option Code) (store : StoreDef) → (stub_store code store).line ≡ store.line
stub_store_line None store = refl
stub_store_line (Some code) store = refl

stub_rule_line : (code : Option Code) (rule : RuleDef) → (stub_rule code rule).line ≡ rule.line
stub_rule_line None rule = refl
stub_rule_line (Some code) rule = refl

stub_store_lines : (refused : List Refusal) (stores : List StoreDef) → store_lines (map (λ (store : StoreDef). stub_store (code_at refused store.line) store) stores) ≡ store_lines stores
stub_store_lines refused [] = refl
stub_store_lines refused (store ∷ stores) = λ j. stub_store_line (code_at refused store.line) store j ∷ stub_store_lines refused stores j

stub_lines : (refused : List Refusal) (rules : List RuleDef) → lines_of_rules (map (λ (rule : RuleDef). stub_rule (code_at refused rule.line) rule) rules) ≡ lines_of_rules rules
stub_lines refused [] = refl
stub_lines refused (rule ∷ rules) = λ j. stub_rule_line (code_at refused rule.line) rule j ∷ stub_lines refused rules j

stub_rule_lines : (refused : List Refusal) (groups : List GroupDef) → rule_lines (map (stub_group refused) groups) ≡ rule_lines groups
stub_rule_lines refused [] = refl
stub_rule_lines refused (group ∷ groups) = λ j. stub_lines refused group.rules j ++ stub_rule_lines refused groups j

pub stub_group_lines : (refused : List Refusal) (groups : List GroupDef) → group_lines (map (stub_group refused) groups) ≡ group_lines groups
stub_group_lines refused [] = refl
stub_group_lines refused (group ∷ groups) = ap (λ lines. group.line ∷ lines) (stub_group_lines refused groups)

pub stated_stubbed : (line : ℕ) (refused : List Refusal) (program : Program) → stated_at line (stubbed refused program) ≡ stated_at line program
stated_stubbed line refused program = λ j.
    times line (stub_store_lines refused program.stores j)
    + (times line (stub_group_lines refused program.groups j) + times line (stub_rule_lines refused program.groups j))

-- the stores and groups of words are at line 0
word_store_lines : (line : ℕ) → 0 < line → (words : List (List ℕ)) (stores : List StoreDef) → times line (store_lines (map word_store words ++ stores)) ≡ times line (store_lines stores)
word_store_lines line h [] stores = refl
word_store_lines line h (word ∷ words) stores = omega (arith, zero_tick line h, word_store_lines line h words stores)

word_group_lines : (line : ℕ) → 0 < line → (words : List (List ℕ)) (groups : List GroupDef) → times line (group_lines (map word_group words ++ groups)) ≡ times line (group_lines groups)
word_group_lines line h [] groups = refl
word_group_lines line h (word ∷ words) groups = omega (arith, zero_tick line h, word_group_lines line h words groups)

word_rule_lines : (words : List (List ℕ)) (groups : List GroupDef) → rule_lines (map word_group words ++ groups) ≡ rule_lines groups
word_rule_lines [] groups = refl
word_rule_lines (word ∷ words) groups = word_rule_lines words groups

pub stated_words : (line : ℕ) → 0 < line → (program : Program) (words : List (List ℕ)) → stated_at line (with_words program words) ≡ stated_at line program
stated_words line h program words = λ j.
    word_store_lines line h (new_words (store_names program.stores) words) program.stores j
    + (word_group_lines line h (new_words (group_names program.groups) words) program.groups j
    + times line (word_rule_lines (new_words (group_names program.groups) words) program.groups j))

pub no_words : (program : Program) → with_words program [] ≡ program
no_words program = refl

-- refusals of which no two are at one line, and a program in which the other lines have one statement each
abbrev pub Once : List Refusal → Type 0
Once refused = (line : ℕ) → count_at line refused ≤ 1

abbrev pub Apart : List Refusal → Program → Type 0
Apart refused program = (line : ℕ) → is_refused refused line ≡ false → stated_at line program ≤ 1

-- after the refusals for limits, and for items and limits
limits_once : (refused : List Refusal) (shared : Bool) (program : Program) → Once refused → Apart refused program → Once (refused ++ limits_faults refused shared program)
limits_once refused shared program once apart line =
    let limits = further refused (limits_refusals shared program) in
    let found = further_once line refused (limits_refusals shared program) (once line)
    (λ free. let most = count-limits line shared program in let one = apart line free in omega (arith, most, one)) in
    let split = count-append line refused limits in
    let sorted = count-in_lines line limits in
    let all = count-append line refused (in_lines limits) in
    omega (arith, found, split, sorted, all)

items_step : (refused : List Refusal) (program : Program) → Once refused → Apart refused program → Once (refused ++ further refused (items_refusals program))
items_step refused program once apart line =
    further_once line refused (items_refusals program) (once line)
    (λ free. let most = count-items line program in let one = apart line free in omega (arith, most, one))

stubbed_apart : (refused more : List Refusal) (program : Program) → Apart refused program → Apart (refused ++ more) (stubbed (refused ++ more) program)
stubbed_apart refused more program apart line free =
    let same = stated_stubbed line (refused ++ more) program in
    let one = apart line (not_refused_before refused more line free) in
    omega (arith, same, one)

items_once : (refused : List Refusal) (shared : Bool) (program : Program) → Once refused → Apart refused program → Once (refused ++ items_faults refused shared program)
items_once refused shared program once apart line =
    let items = further refused (items_refusals program) in
    let told = refused ++ items in
    let limits = limits_faults told shared (stubbed told program) in
    let found = limits_once told shared (stubbed told program) (items_step refused program once apart) (stubbed_apart refused items program apart) line in
    let split = count-append line told limits in
    let parts = count-append line refused items in
    let sorted = count-in_lines line items in
    let all = count-append line refused (in_lines items ++ limits) in
    let rest = count-append line (in_lines items) limits in
    omega (arith, found, split, parts, sorted, all, rest)

-- nothing is refused for names if a program has no causes
pub both_empty : {X : Type 0} (xs ys : List X) → xs ++ ys ≡ [] → (xs ≡ []) × (ys ≡ [])
both_empty [] ys none = (refl, none)
both_empty (x ∷ xs) ys none = absurd (cc)

nothing_further : (xs : List Refusal) → further [] xs ≡ [] → xs ≡ []
nothing_further [] none = refl
nothing_further (x ∷ xs) none = absurd (cc)

no_causes : (causes : List NameFault) → map cause_refusal causes ≡ [] → names_lacked causes ≡ []
no_causes [] none = refl
no_causes (cause ∷ causes) none = absurd (cc)

pub quiet_causes : (refused : List Refusal) (causes : List NameFault) → refused ++ further refused (map cause_refusal causes) ≡ [] → names_lacked causes ≡ []
quiet_causes refused causes none =
    let parts = both_empty refused (further refused (map cause_refusal causes)) none in
    no_causes causes (nothing_further (map cause_refusal causes)
    (ap (λ before. further before (map cause_refusal causes)) (sym parts.0) ∙ parts.1))

-- a program with the names that it lacks
lacked_apart : (refused : List Refusal) (program : Program) → Apart refused program
    → Apart (refused ++ further refused (map cause_refusal (reported_causes program))) (with_words program (names_lacked (reported_causes program)))
lacked_apart refused program apart line free =
    let causes = reported_causes program in
    let names = further refused (map cause_refusal causes) in
    let one = apart line (not_refused_before refused names line free) in
    elim (not_refused (refused ++ names) line free) [
      | inl none ↦
          let same : stated_at line (with_words program (names_lacked causes)) ≡ stated_at line program =
          ap (λ words. stated_at line (with_words program words)) (quiet_causes refused causes none) ∙ ap (stated_at line) (no_words program) in
          omega (arith, same, one)
      | inr (positive, none) ↦ omega (arith, stated_words line positive program (names_lacked causes), one)
    ]

again_apart : (refused : List Refusal) (program : Program) → Apart refused program → Apart refused (stubbed refused program)
again_apart refused program apart line free = omega (arith, stated_stubbed line refused program, apart line free)

names_faults_once : (refused : List Refusal) (shared : Bool) (program : Program) → Once refused → Apart refused program → Once (refused ++ names_faults refused shared program)
names_faults_once refused shared program once apart line =
    let causes = reported_causes program in
    let names = further refused (map cause_refusal causes) in
    let told = refused ++ names in
    let next = stubbed told (with_words program (names_lacked causes)) in
    let rest = items_faults told (shared && is_empty names) next in
    let found = items_once told (shared && is_empty names) next
    (λ l. further_once l refused (map cause_refusal causes) (once l) (λ free. names_once program l))
    (again_apart told (with_words program (names_lacked causes)) (lacked_apart refused program apart)) line in
    let split = count-append line told rest in
    let parts = count-append line refused names in
    let all = count-append line refused (names ++ rest) in
    let both = count-append line names rest in
    omega (arith, found, split, parts, all, both)

-- all refusals of a program, with that for its start
start_is : (program : Program) → of_statements (option_to_list (start_refusal program)) ≡ []
start_is program = by (has_no_start program)
  where
    by : (t : Bool) → of_statements (option_to_list (at_line 1 (broken ((C01, t) ∷ [])))) ≡ []
    by true = refl
    by false = refl

start_most : (program : Program) (line : ℕ) → count_at line (option_to_list (start_refusal program)) ≤ times line (1 ∷ [])
start_most program line = by (has_no_start program)
  where
    by : (t : Bool) → count_at line (option_to_list (at_line 1 (broken ((C01, t) ∷ [])))) ≤ times line (1 ∷ [])
    by true = omega arith
    by false = omega arith

with_start : (refused start rest : List Refusal) → Once (refused ++ rest) → of_statements start ≡ [] → ((line : ℕ) → count_at line start ≤ times line (1 ∷ [])) → AreAtOwnLines (refused ++ (start ++ rest))
with_start refused start rest once none most = record {
  statements = λ line.
      let test = λ (found : Refusal). not (is_of_start found.code) in
      let outer = ap (count_at line) (filter-append test refused (start ++ rest)) in
      let inner = ap (count_at line) (filter-append test start rest ∙ ap (λ first. first ++ of_statements rest) none) in
      let both = count-append line (of_statements refused) (of_statements (start ++ rest)) in
      let front = count-filter line test refused in
      let back = count-filter line test rest in
      let one = once line in
      let split = count-append line refused rest in
      omega (arith, outer, inner, both, front, back, one, split);
  all = λ line.
      let both = count-append line refused (start ++ rest) in
      let inner = count-append line start rest in
      let one = once line in
      let split = count-append line refused rest in
      let first = most line in
      omega (arith, both, inner, one, split, first);
}

program_once : (refused : List Refusal) (program : Program) → Once refused → Apart refused program → AreAtOwnLines (refused ++ program_faults refused program)
program_once refused program once apart =
    let start = option_to_list (start_refusal program) in
    let shared = is_empty (refused ++ start) in
    with_start refused start (names_faults refused shared program) (names_faults_once refused shared program once apart) (start_is program) (start_most program)

-- if nothing is refused in reading, the program is in order and there are no words
pub quiet : (read : Result Program Refusal) (st : Found) → FirstIs read st → IsOrdered read → read_refusals st ≡ [] → IsInOrder st.program × (st.words ≡ [])
quiet (Ok program) st (none, same, words) order nothing = (subst IsInOrder (sym same) order, words)
quiet (Err found) st (more, is) order nothing = let some : found ∷ more ≡ [] = sym is ∙ nothing in absurd (cc)

-- the refusals of reading, and the program that is read
read_once : (source : List ℕ) (st : Found) (last : ℕ) → IsReadBefore last st → Once (read_refusals st)
read_once source st last before line =
    let split = count-append line st.tokens st.statements in
    zero_or line (λ e. omega (arith, split, before.above, ap (λ n. unread_at n st) e)) (λ positive. let one = before.refused line positive in omega (arith, split, one))
  where
    zero_or : (n : ℕ) → (n ≡ 0 → count_at line (read_refusals st) ≤ 1) → (0 < n → count_at line (read_refusals st) ≤ 1) → count_at line (read_refusals st) ≤ 1
    zero_or zero at_zero above = at_zero refl
    zero_or (suc n) at_zero above = above (omega arith)

read_apart : (source : List ℕ) (st : Found) (last : ℕ) → FirstIs (read_text source) st → IsReadBefore last st → Apart (read_refusals st) (with_words st.program st.words)
read_apart source st last first before line free =
    elim (not_refused (read_refusals st) line free) [
      | inl none ↦
          let still = quiet (read_text source) st first (text-ordered source) none in
          let same : stated_at line (with_words st.program st.words) ≡ stated_at line st.program =
          ap (λ words. stated_at line (with_words st.program words)) still.1 ∙ ap (stated_at line) (no_words st.program) in
          let one = still.0.apart line in
          omega (arith, same, one)
      | inr (positive, none) ↦
          let one = before.refused line positive in
          omega (arith, stated_words line positive st.program st.words, one)
    ]

found_once : (source : List ℕ) (st : Found) (last : ℕ) → FirstIs (read_text source) st → IsReadBefore last st → AreAtOwnLines (faults_of st)
unfolding faults_of
found_once source st last first before =
    program_once (read_refusals st) (with_words st.program st.words) (read_once source st last before) (read_apart source st last first before)

alone : (code : Code) → is_of_start code ≡ false → AreAtOwnLines (refusal 1 code ∷ [])
alone code other = record {
  statements = λ line.
      let same : count_at line (of_statements (refusal 1 code ∷ [])) ≡ tick line 1 + 0 = ap (λ t. count_at line (if not t then refusal 1 code ∷ [] else [])) other in
      let most = tick-most line 1 in
      omega (arith, same, most);
  all = λ line. omega arith;
}

pub lines_are_refused_once : LinesAreRefusedOnce
unfolding faults
lines_are_refused_once source = by (nat_lt TEXT_BYTES (length source)) (is_utf8 source)
  where
    by : (long utf8 : Bool) → AreAtOwnLines (if long then refusal 1 L05 ∷ [] else (if not utf8 then refusal 1 L01 ∷ [] else faults_of (read_all source)))
    by true utf8 = alone L05 refl
    by false false = alone L01 refl
    by false true = found_once source (read_all source) (all_read source).0 (first_read source) (all_read source).1
