-- As far as the lines of a source are read, no line has two refusals or statements.
use Rattle.std.proofs.Common.{◌≡◌, ℕ, ◌+◌, ◌-◌, ◌<◌, ◌≤◌, inl, inr, Bool, true, false, List, [], ◌∷◌, ◌++◌, map, length, Option, Some, None, Result, Ok, Err, refl, ap, ◌∙◌, if◌then◌else◌, arith}
use Rattle.std.proofs.lemmas.Bool.Decides.{eqb_tells}
use Rattle.std.specs.Prelude.{not, ◌&&◌, codes, is_some, slice_get, option_map}
use Rattle.std.specs.List.{fold}
use Rattle.kmn_base.specs.Rising.{times}
use Rattle.kmn_base.proofs.Rising.{times-push}
use Rattle.kmn_base.specs.declared.codes.Code.{Code}
use Rattle.kmn_base.specs.declared.refusals.Refusal.{Refusal}
use Rattle.kmn_lines.specs.Lines.{logicals, parts_in}
use Rattle.kmn_lines.specs.Tokens.{line_tokens, line_refusal, parts_fault, refusal}
use Rattle.kmn_lines.specs.declared.logical.Logical.{Logical}
use Rattle.rule_model.specs.declared.program.StoreDef.{StoreDef}
use Rattle.rule_model.specs.declared.program.BeginDef.{BeginDef}
use Rattle.rule_model.specs.declared.program.RuleDef.{RuleDef}
use Rattle.rule_model.specs.declared.program.GroupDef.{GroupDef}
use Rattle.rule_model.specs.declared.program.Program.{Program}
use Rattle.kmn_items.specs.declared.syntax.TokenRefusal.{TokenRefusal}
use Rattle.kmn_items.specs.TokenTexts.{with_texts}
use Rattle.kmn_parser.specs.declared.statement.LastGroup.{LastGroup}
use Rattle.kmn_parser.specs.declared.statement.Statement.{Statement}
use Rattle.kmn_parser.specs.declared.statement.Statement.TheVariants as statement
use Rattle.kmn_parser.specs.Source.{at_line, line_statement, with_rule, with_statement}
use Rattle.kmn_parser.specs.SourceLaws.{begin_lines, rule_lines}
use Rattle.kmn_parser.proofs.StatedLines.{StandsAt, ReadsAt, line-at}
use Rattle.kmn_parser.proofs.SourceLines.{LinesFrom, logicals_from, group_lines-with_rule, rule_lines-with_rule, rule_lines-open}
use Rattle.source_faults.specs.declared.found.Found.{Found}
use Rattle.source_faults.specs.Words.{words_of}
use Rattle.source_faults.specs.Reading.{is_begin, has_word, with_begin, fits, with_room, with_line, group_for, read_on, read_all, nothing_read, accepted, statement_refused, token_refused}
use Rattle.fault_laws.proofs.Counts.{count_at, stated_at, tick, tick-most}

-- the begins at a line, and the refusals of reading at a line
abbrev pub begun_at : ℕ → Program → ℕ
begun_at line program = times line (begin_lines program.begins)

abbrev pub unread_at : ℕ → Found → ℕ
unread_at line st = count_at line st.tokens + count_at line st.statements

-- a list with another element
pushed : {X : Type 0} (line_of : X → ℕ) (n line : ℕ) (x : X) → line_of x ≡ n → (xs : List X) → times line (map line_of (xs ++ x ∷ [])) ≡ times line (map line_of xs) + tick line n
pushed line_of n line x at [] = let here = ap (tick line) at in omega (arith, here)
pushed line_of n line x at (y ∷ xs) = let rest = pushed line_of n line x at xs in omega (arith, rest)

-- a program with at most one more statement, which is at a line
pub record Adds (n : ℕ) (old new : Program) : Type 0 where
  pub stated : (line : ℕ) → stated_at line new ≤ stated_at line old + tick line n
  pub begun : (line : ℕ) → begun_at line new ≤ begun_at line old + tick line n
  pub both : (line : ℕ) → stated_at line new + begun_at line new ≤ (stated_at line old + begun_at line old) + tick line n

adds_none : (n : ℕ) (program : Program) → Adds n program program
adds_none n program = record { stated = λ line. omega arith; begun = λ line. omega arith; both = λ line. omega arith }

abbrev of_parts : List StoreDef → List BeginDef → List GroupDef → Program
of_parts stores begins groups = record { stores = stores; begins = begins; groups = groups }

rule_pushed : (n line : ℕ) (rule : RuleDef) → rule.line ≡ n → (group : GroupDef) (groups : List GroupDef)
    → times line (rule_lines (with_rule (group ∷ groups) rule)) ≡ times line (rule_lines (group ∷ groups)) + tick line n
rule_pushed n line rule at group groups =
    ap (times line) (rule_lines-with_rule group groups rule)
    ∙ times-push line rule.line (rule_lines (group ∷ groups))
    ∙ ap (λ m. times line (rule_lines (group ∷ groups)) + tick line m) at

adds_rule : (n : ℕ) (stores : List StoreDef) (begins : List BeginDef) (groups : List GroupDef) (rule : RuleDef) → rule.line ≡ n
    → Adds n (of_parts stores begins groups) (of_parts stores begins (with_rule groups rule))
adds_rule n stores begins [] rule at = adds_none n (of_parts stores begins [])
adds_rule n stores begins (group ∷ groups) rule at =
    let same = group_lines-with_rule (group ∷ groups) rule in
    record {
      stated = λ line. omega (arith, ap (times line) same, rule_pushed n line rule at group groups);
      begun = λ line. omega arith;
      both = λ line. omega (arith, ap (times line) same, rule_pushed n line rule at group groups);
    }

adds_store : (n : ℕ) (program : Program) (store : StoreDef) → store.line ≡ n → Adds n program (with_statement program (statement.Store store))
adds_store n program store at = record {
  stated = λ line. omega (arith, pushed (λ (s : StoreDef). s.line) n line store at program.stores);
  begun = λ line. omega arith;
  both = λ line. omega (arith, pushed (λ (s : StoreDef). s.line) n line store at program.stores);
}

adds_begin : (n : ℕ) (program : Program) (start : BeginDef) → start.line ≡ n → Adds n program (with_statement program (statement.Begin start))
adds_begin n program start at = record {
  stated = λ line. omega arith;
  begun = λ line. omega (arith, pushed (λ (s : BeginDef). s.line) n line start at program.begins);
  both = λ line. omega (arith, pushed (λ (s : BeginDef). s.line) n line start at program.begins);
}

adds_group : (n : ℕ) (program : Program) (group : GroupDef) → group.line ≡ n → group.rules ≡ [] → Adds n program (with_statement program (statement.Group group))
adds_group n program group at none =
    let same = rule_lines-open program.groups group none in
    record {
      stated = λ line. omega (arith, pushed (λ (g : GroupDef). g.line) n line group at program.groups, ap (times line) same);
      begun = λ line. omega arith;
      both = λ line. omega (arith, pushed (λ (g : GroupDef). g.line) n line group at program.groups, ap (times line) same);
    }

pub adds_statement : (n : ℕ) (program : Program) (read : Statement) → StandsAt n read → Adds n program (with_statement program read)
adds_statement n program statement.Nothing at = adds_none n program
adds_statement n program (statement.Store store) at = adds_store n program store at
adds_statement n program (statement.Begin start) at = adds_begin n program start at
adds_statement n program (statement.Group group) (at, none) = adds_group n program group at none
adds_statement n program (statement.Rule rule) at = adds_rule n program.stores program.begins program.groups rule at

-- a refused line may count as a begin
adds_refused : (n line : ℕ) (program : Program) (words : List (List ℕ)) → line ≡ n → Adds n program (with_begin program line words)
adds_refused n line program words at = by (is_begin words)
  where
    start : BeginDef
    start = record { line = line; unicode = not (has_word (codes "ansi") words); group = [] }

    by : (t : Bool) → Adds n program (if t then record program { begins = program.begins ++ start ∷ [] } else program)
    by true = adds_begin n program start at
    by false = adds_none n program

-- a nameless group that is opened for a rule is at line 0
pub zero_tick : (line : ℕ) → 0 < line → tick line 0 ≡ 0
zero_tick line h =
    elim (eqb_tells line 0) [
      | inl (same, e) ↦ absurd (omega (arith, h, e))
      | inr (differs, e) ↦ ap (λ t. if t then 1 else 0) differs
    ]

room_is : (line : ℕ) → 0 < line → (opens : Bool) (program : Program) (read : Statement)
    → (stated_at line (with_room opens program read) ≡ stated_at line program) × (begun_at line (with_room opens program read) ≡ begun_at line program)
room_is line h opens program statement.Nothing = (refl, refl)
room_is line h opens program (statement.Store store) = (refl, refl)
room_is line h opens program (statement.Begin start) = (refl, refl)
room_is line h opens program (statement.Group group) = (refl, refl)
room_is line h opens program (statement.Rule rule) = by (not opens && fits (is_some rule.key) (slice_get program.groups (length program.groups - 1)))
  where
    group : GroupDef
    group = record { line = 0; name = []; using_keys = is_some rule.key; rules = [] }

    by : (t : Bool) → (stated_at line (if t then program else record program { groups = program.groups ++ group ∷ [] }) ≡ stated_at line program)
        × (begun_at line (if t then program else record program { groups = program.groups ++ group ∷ [] }) ≡ begun_at line program)
    by true = (refl, refl)
    by false =
        let zero = zero_tick line h in
        let groups = pushed (λ (g : GroupDef). g.line) 0 line group refl program.groups in
        let rules = ap (times line) (rule_lines-open program.groups group refl) in
        (omega (arith, zero, groups, rules), refl)

sure_room : (line : ℕ) → 0 < line → (sure opens : Bool) (program : Program) (read : Statement)
    → (stated_at line (if sure then program else with_room opens program read) ≡ stated_at line program)
    × (begun_at line (if sure then program else with_room opens program read) ≡ begun_at line program)
sure_room line h true opens program read = (refl, refl)
sure_room line h false opens program read = room_is line h opens program read

-- what reading a line adds: one refusal or one statement, and perhaps a begin
record Reads (n : ℕ) (old new : Found) : Type 0 where
  pub refused : (line : ℕ) → 0 < line → unread_at line new + stated_at line new.program ≤ (unread_at line old + stated_at line old.program) + tick line n
  pub stated : (line : ℕ) → 0 < line → stated_at line new.program + begun_at line new.program ≤ (stated_at line old.program + begun_at line old.program) + tick line n
  pub begun : (line : ℕ) → 0 < line → begun_at line new.program ≤ begun_at line old.program + tick line n
  pub unread : (line : ℕ) → unread_at line new ≤ unread_at line old + tick line n

stated_with_begin : (at line : ℕ) (program : Program) (words : List (List ℕ)) → stated_at at (with_begin program line words) ≡ stated_at at program
stated_with_begin at line program words = by (is_begin words)
  where
    start : BeginDef
    start = record { line = line; unicode = not (has_word (codes "ansi") words); group = [] }

    by : (t : Bool) → stated_at at (if t then record program { begins = program.begins ++ start ∷ [] } else program) ≡ stated_at at program
    by true = refl
    by false = refl

reads_token : (n : ℕ) (st : Found) (found : Refusal) (words : List (List ℕ)) → found.line ≡ n → Reads n st (token_refused st found words)
reads_token n st found words at =
    let adds = adds_refused n found.line st.program words at in
    record {
      refused = λ line h. omega (arith, pushed (λ (r : Refusal). r.line) n line found at st.tokens, stated_with_begin line found.line st.program words);
      stated = λ line h. adds.both line;
      begun = λ line h. adds.begun line;
      unread = λ line. omega (arith, pushed (λ (r : Refusal). r.line) n line found at st.tokens);
    }

reads_refused : (n : ℕ) (st : Found) (found : Refusal) (words : List (List ℕ)) → found.line ≡ n → Reads n st (statement_refused st found words)
reads_refused n st found words at =
    let adds = adds_refused n found.line st.program words at in
    record {
      refused = λ line h. omega (arith, pushed (λ (r : Refusal). r.line) n line found at st.statements, stated_with_begin line found.line st.program words);
      stated = λ line h. adds.both line;
      begun = λ line h. adds.begun line;
      unread = λ line. omega (arith, pushed (λ (r : Refusal). r.line) n line found at st.statements);
    }

reads_statement : (n : ℕ) (st : Found) (read : Statement) → StandsAt n read → Reads n st (accepted st read)
reads_statement n st read at =
    let adds = adds_statement n (if st.sure then st.program else with_room st.opens st.program read) read at in
    record {
      refused = λ line h. omega (arith, adds.stated line, (sure_room line h st.sure st.opens st.program read).0);
      stated = λ line h. omega (arith, adds.both line, (sure_room line h st.sure st.opens st.program read).0, (sure_room line h st.sure st.opens st.program read).1);
      begun = λ line h. omega (arith, adds.begun line, (sure_room line h st.sure st.opens st.program read).1);
      unread = λ line. omega arith;
    }

-- a refusal of a line, and a statement that is read from it, are at the line
abbrev RefusedAt : ℕ → Option Refusal → Type 0
RefusedAt n None = Unit {0}
RefusedAt n (Some found) = found.line ≡ n

abbrev pub ReadAt : ℕ → Result Statement Refusal → Type 0
ReadAt n (Ok read) = StandsAt n read
ReadAt n (Err found) = found.line ≡ n

refused_at : (n : ℕ) (fault : Option Code) → RefusedAt n (option_map (refusal n) fault)
refused_at n None = tt
refused_at n (Some code) = refl

tokens_at : (source : List ℕ) (line : Logical) → RefusedAt line.first_line (line_refusal source line)
unfolding line_refusal
tokens_at source line = refused_at line.first_line (parts_fault source (parts_in source line))

read_at : (n : ℕ) (read : Result Statement TokenRefusal) → ReadsAt n read → ReadAt n (at_line n read)
read_at n (Ok read) at = at
read_at n (Err found) at = refl

pub statement_at : (source : List ℕ) (group : LastGroup) (line : Logical) → ReadAt line.first_line (line_statement source group line)
statement_at source group line = read_at line.first_line _ (line-at group line.first_line (with_texts source (line_tokens source line)))

reads_line : (n : ℕ) (st : Found) (refused : Option Refusal) (read : Result Statement Refusal) (words : List (List ℕ)) → RefusedAt n refused → ReadAt n read
    → Reads n st (with_line st refused read words)
reads_line n st (Some found) read words here at = reads_token n st found words here
reads_line n st None (Ok read) words here at = reads_statement n st read at
reads_line n st None (Err found) words here at = reads_refused n st found words at

-- all that is read is before a line, and no line has two refusals or statements. A begin may be at a refused line
pub record IsReadBefore (n : ℕ) (st : Found) : Type 0 where
  pub late : (line : ℕ) → 0 < line → n ≤ line → unread_at line st + (stated_at line st.program + begun_at line st.program) ≡ 0
  pub refused : (line : ℕ) → 0 < line → unread_at line st + stated_at line st.program ≤ 1
  pub stated : (line : ℕ) → 0 < line → stated_at line st.program + begun_at line st.program ≤ 1
  pub above : unread_at 0 st ≡ 0

nothing_before : IsReadBefore 1 nothing_read
nothing_before = record { late = λ line h le. omega arith; refused = λ line h. omega arith; stated = λ line h. omega arith; above = omega arith }

pub other_tick : (line n : ℕ) → (line ≡ n → ⊥) → tick line n ≡ 0
other_tick line n other =
    elim (eqb_tells line n) [
      | inl (same, e) ↦ absurd (other e)
      | inr (differs, e) ↦ ap (λ t. if t then 1 else 0) differs
    ]

read_next : (n m : ℕ) (old new : Found) → 0 < m → n ≤ m → Reads m old new → IsReadBefore n old → IsReadBefore (m + 1) new
read_next n m old new positive le adds before = record {
  late = λ line h after.
      let none = other_tick line m (λ e. omega (arith, e, after)) in
      let zero = before.late line h (omega (arith, le, after)) in
      omega (arith, none, zero, adds.refused line h, adds.begun line h);
  refused = λ line h. elim (eqb_tells line m) [
    | inl (same, e) ↦ omega (arith, before.late line h (omega (arith, e, le)), adds.refused line h, tick-most line m)
    | inr (differs, e) ↦ omega (arith, before.refused line h, adds.refused line h, other_tick line m e)
  ];
  stated = λ line h. elim (eqb_tells line m) [
    | inl (same, e) ↦ omega (arith, before.late line h (omega (arith, e, le)), adds.stated line h, tick-most line m)
    | inr (differs, e) ↦ omega (arith, before.stated line h, adds.stated line h, other_tick line m e)
  ];
  above = omega (arith, before.above, adds.unread 0, other_tick 0 m (λ e. omega (arith, e, positive)));
}

lines_read : (source : List ℕ) (n : ℕ) (lines : List Logical) (st : Found) → 0 < n → LinesFrom n lines → IsReadBefore n st
    → (last : ℕ) × IsReadBefore last (fold (read_on source) st lines)
lines_read source n [] st positive from before = (n, before)
lines_read source n (line ∷ lines) st positive (here, rest) before =
    lines_read source (line.first_line + 1) lines (read_on source st line) (omega arith) rest
    (read_next n line.first_line st (read_on source st line) (omega (arith, positive, here)) here
    (reads_line line.first_line st (line_refusal source line) (line_statement source (group_for st (with_texts source (line_tokens source line))) line) (words_of source line)
    (tokens_at source line) (statement_at source (group_for st (with_texts source (line_tokens source line))) line)) before)

pub all_read : (source : List ℕ) → (last : ℕ) × IsReadBefore last (read_all source)
unfolding read_all
all_read source = lines_read source 1 (logicals source) nothing_read (omega arith) (logicals_from source) nothing_before
