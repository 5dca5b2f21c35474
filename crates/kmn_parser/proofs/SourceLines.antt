-- The statements of a source are in the order of their lines, and each has its own line.
use Rattle.std.proofs.Common.{◌≡◌, ℕ, ◌+◌, ◌==◌, ◌<◌, ◌≤◌, Bool, true, false, not, ◌||◌, ◌&&◌, if◌then◌else◌, nat_eq, nat_lt, List, [], ◌∷◌, ◌++◌, drop, length, Option, None, Some, Result, Ok, Err, inl, inr, refl, sym, ap, subst, ◌∙◌, append_assoc, arith}
use Rattle.std.proofs.lemmas.Bool.{and_parts, ne_eqb}
use Rattle.std.proofs.lemmas.Bool.Decides.{eqb_tells}
use Rattle.std.proofs.lemmas.List.{map-append, append-nil}
use Rattle.std.proofs.lemmas.List.Folds.{list_any-append}
use Rattle.std.specs.Str.{is_utf8}
use Rattle.std.specs.List.{list_all, list_any}
use Rattle.kmn_base.specs.declared.codes.Code.TheVariants.{L01, L05}
use Rattle.kmn_base.specs.declared.limits.TheConstants.{TEXT_BYTES}
use Rattle.kmn_base.specs.declared.refusals.Refusal.{Refusal}
use Rattle.kmn_lines.specs.declared.line_state.LineState.{LineState}
use Rattle.kmn_lines.specs.declared.line_state.PhysicalLine.{PhysicalLine}
use Rattle.kmn_lines.specs.declared.logical.Logical.{Logical}
use Rattle.kmn_lines.specs.Bytes.{first_or_end}
use Rattle.kmn_base.specs.Texts.{bom_size}
use Rattle.kmn_lines.specs.Lines.{ends_line, line_start, after_byte, physical_line, physical_lines, extended, gather, logicals}
use Rattle.kmn_lines.specs.Tokens.{line_tokens, refusal, tokens_refusal}
use Rattle.rule_model.specs.declared.program.StoreDef.{StoreDef}
use Rattle.rule_model.specs.declared.program.BeginDef.{BeginDef}
use Rattle.rule_model.specs.declared.program.RuleDef.{RuleDef}
use Rattle.rule_model.specs.declared.program.GroupDef.{GroupDef}
use Rattle.rule_model.specs.declared.program.Program.{Program}
use Rattle.rule_model.specs.OwnLines.{have_own_lines}
use Rattle.kmn_items.specs.declared.syntax.TokenRefusal.{TokenRefusal}
use Rattle.kmn_parser.specs.declared.statement.LastGroup.{LastGroup}
use Rattle.kmn_parser.specs.declared.statement.LastGroup.TheVariants.{Missing}
use Rattle.kmn_parser.specs.declared.statement.Statement.{Statement}
use Rattle.kmn_parser.specs.declared.statement.Statement.TheVariants as statement
use Rattle.kmn_items.specs.TokenTexts.{with_texts}
use Rattle.kmn_base.specs.Rising.{Rises, times}
use Rattle.kmn_base.proofs.Rising.{AllBelow, AllBelow-more, AllBelow-push, AllBelow-front, AllBelow-back, Rises-push, times-push, times-none}
use Rattle.kmn_parser.specs.Source.{at_line, line_statement, group_after, with_rule, with_statement, no_program, read_lines, read_text, parsed}
use Rattle.kmn_parser.specs.SourceLaws.{store_lines, begin_lines, group_lines, lines_of_rules, rule_lines, statements_at, has_own_lines, IsInOrder, StatementsAreInOrder}
use Rattle.kmn_parser.proofs.StatedLines.{StandsAt}
use Rattle.kmn_parser.proofs.StatedLines.{ReadsAt, line-at}

-- the number of each logical line is above the numbers of the lines before it, and the first is at least a bound
abbrev pub LinesFrom : ℕ → List Logical → Type 0
LinesFrom low [] = Unit {0}
LinesFrom low (line ∷ lines) = (low ≤ line.first_line) × LinesFrom (line.first_line + 1) lines

-- physical lines are numbered consecutively
abbrev pub PhysicalLinesFrom : ℕ → List PhysicalLine → Type 0
PhysicalLinesFrom n [] = Unit {0}
PhysicalLinesFrom n (p ∷ ps) = (p.line ≡ n) × PhysicalLinesFrom (n + 1) ps

pub physical_lines_from : (line from : ℕ) (r : LineState) (at : ℕ) (bytes : List ℕ) → PhysicalLinesFrom line (physical_lines line from r at bytes)
physical_lines_from line from r at [] =
    elim (from == at) as (λ b. PhysicalLinesFrom line (if b then [] else physical_line line from at at r ∷ [])) [ true ↦ tt | false ↦ (refl, tt) ]
physical_lines_from line from r at (byte ∷ bytes) =
    elim (ends_line byte (first_or_end bytes)) as (λ b. PhysicalLinesFrom line (if b then physical_line line from at (at + 1) r ∷ physical_lines (line + 1) (at + 1) line_start (at + 1) bytes else physical_lines line from (after_byte r at byte (first_or_end bytes)) (at + 1) bytes)) [
      | true ↦ (refl, physical_lines_from (line + 1) (at + 1) line_start (at + 1) bytes)
      | false ↦ physical_lines_from line from (after_byte r at byte (first_or_end bytes)) (at + 1) bytes
    ]

pub LinesFrom-less : (low high : ℕ) (lines : List Logical) → low ≤ high → LinesFrom high lines → LinesFrom low lines
LinesFrom-less low high [] le from = tt
LinesFrom-less low high (line ∷ lines) le (here, rest) = (omega (arith, here, le), rest)

-- the logical lines of physical lines from a number on, after one that was begun before
abbrev pub GathersFrom : ℕ → ℕ → Option Logical → List PhysicalLine → Type 0
GathersFrom low n None ps = low ≡ n → LinesFrom low (gather None ps)
GathersFrom low n (Some line) ps = low ≤ line.first_line → line.first_line < n → LinesFrom low (gather (Some line) ps)

pub gather_from : (low n : ℕ) (begun : Option Logical) (ps : List PhysicalLine) → PhysicalLinesFrom n ps → GathersFrom low n begun ps
gather_from low n None [] from = λ e. tt
gather_from low n (Some line) [] from = λ le lt. (le, tt)
gather_from low n None (p ∷ ps) (here, rest) = λ e.
    elim p.joined as (λ b. LinesFrom low (if b then gather (Some (extended None p)) ps else extended None p ∷ gather None ps)) [
      | true ↦ gather_from low (n + 1) (Some (extended None p)) ps rest (omega (arith, e, here)) (omega (arith, here))
      | false ↦ (omega (arith, e, here), LinesFrom-less (p.line + 1) (n + 1) (gather None ps) (omega (arith, here)) (gather_from (n + 1) (n + 1) None ps rest refl))
    ]
gather_from low n (Some line) (p ∷ ps) (here, rest) = λ le lt.
    elim p.joined as (λ b. LinesFrom low (if b then gather (Some (extended (Some line) p)) ps else extended (Some line) p ∷ gather None ps)) [
      | true ↦ gather_from low (n + 1) (Some (extended (Some line) p)) ps rest le (omega (arith, lt))
      | false ↦ (le, LinesFrom-less (line.first_line + 1) (n + 1) (gather None ps) (omega (arith, lt)) (gather_from (n + 1) (n + 1) None ps rest refl))
    ]

-- the line numbers of the logical lines of a source rise from 1
pub logicals_from : (source : List ℕ) → LinesFrom 1 (logicals source)
unfolding logicals
logicals_from source = gather_from 1 1 None _ (physical_lines_from 1 (bom_size source) line_start (bom_size source) (drop (bom_size source) source)) refl

-- adding a rule keeps the lines of the groups, and adds a line to those of the rules
pub group_lines-with_rule : (groups : List GroupDef) (rule : RuleDef) → group_lines (with_rule groups rule) ≡ group_lines groups
group_lines-with_rule [] rule = refl
group_lines-with_rule (group ∷ []) rule = refl
group_lines-with_rule (group ∷ next ∷ groups) rule = ap (λ lines. group.line ∷ lines) (group_lines-with_rule (next ∷ groups) rule)

pub rule_lines-with_rule : (group : GroupDef) (groups : List GroupDef) (rule : RuleDef)
    → rule_lines (with_rule (group ∷ groups) rule) ≡ rule_lines (group ∷ groups) ++ rule.line ∷ []
rule_lines-with_rule group [] rule =
    append-nil (lines_of_rules (group.rules ++ rule ∷ []))
    ∙ map-append (λ (r : RuleDef). r.line) group.rules (rule ∷ [])
    ∙ sym (ap (λ lines. lines ++ rule.line ∷ []) (append-nil (lines_of_rules group.rules)))
rule_lines-with_rule group (next ∷ groups) rule =
    ap (λ lines. lines_of_rules group.rules ++ lines) (rule_lines-with_rule next groups rule)
    ∙ sym (append_assoc (lines_of_rules group.rules) (rule_lines (next ∷ groups)) (rule.line ∷ []))

-- a group without rules adds no lines of rules
pub rule_lines-open : (groups : List GroupDef) (group : GroupDef) → group.rules ≡ [] → rule_lines (groups ++ group ∷ []) ≡ rule_lines groups
rule_lines-open [] group none = ap (λ rules. lines_of_rules rules ++ []) none
rule_lines-open (first ∷ groups) group none = ap (λ lines. lines_of_rules first.rules ++ lines) (rule_lines-open groups group none)

or-last : (a b : Bool) → b ≡ false → (a || (b || false)) ≡ a
or-last true b none = refl
or-last false b none = λ j. none j || false

abbrev at_line_of : RuleDef → RuleDef → Bool
at_line_of rule other = nat_eq other.line rule.line

pub own-push : (rules : List RuleDef) (rule : RuleDef) → AllBelow rule.line (lines_of_rules rules) → have_own_lines rules ≡ true → have_own_lines (rules ++ rule ∷ []) ≡ true
own-push [] rule below own = refl
own-push (first ∷ rules) rule (here, below) own =
    let other : nat_eq rule.line first.line ≡ false = ne_eqb rule.line first.line (λ e. omega (arith, here, e)) in
    let same = list_any-append (at_line_of first) rules (rule ∷ []) ∙ or-last (list_any (at_line_of first) rules) (nat_eq rule.line first.line) other in
    let rest = own-push rules rule below (and_parts _ _ own).1 in
    let none = (and_parts _ _ own).0 in
    (λ j. not (same j) && rest j) ∙ (λ j. none j && true)

pub own-with_rule : (groups : List GroupDef) (rule : RuleDef) → AllBelow rule.line (rule_lines groups) → list_all has_own_lines groups ≡ true → list_all has_own_lines (with_rule groups rule) ≡ true
own-with_rule [] rule below own = refl
own-with_rule (group ∷ []) rule below own =
    let here = own-push group.rules rule (AllBelow-front rule.line (lines_of_rules group.rules) [] below) (and_parts (have_own_lines group.rules) true own).0 in
    λ j. here j && true
own-with_rule (group ∷ next ∷ groups) rule below own =
    let here = (and_parts (have_own_lines group.rules) _ own).0 in
    let rest = own-with_rule (next ∷ groups) rule (AllBelow-back rule.line (lines_of_rules group.rules) (rule_lines (next ∷ groups)) below) (and_parts (have_own_lines group.rules) _ own).1 in
    λ j. here j && rest j

pub own-open : (groups : List GroupDef) (group : GroupDef) → group.rules ≡ [] → list_all has_own_lines groups ≡ true → list_all has_own_lines (groups ++ group ∷ []) ≡ true
own-open [] group none own = λ j. have_own_lines (none j) && true
own-open (first ∷ groups) group none own =
    let here = (and_parts (have_own_lines first.rules) _ own).0 in
    let rest = own-open groups group none (and_parts (have_own_lines first.rules) _ own).1 in
    λ j. here j && rest j

-- a program whose statements are in order and before a line
pub record IsBefore (line : ℕ) (program : Program) : Type 0 where
  pub order : IsInOrder program
  pub stores : AllBelow line (store_lines program.stores)
  pub begins : AllBelow line (begin_lines program.begins)
  pub groups : AllBelow line (group_lines program.groups)
  pub rules : AllBelow line (rule_lines program.groups)

pub nothing_before : (line : ℕ) → IsBefore line no_program
nothing_before line = record {
  order = record { stores = tt; begins = tt; groups = tt; rules = tt; apart = λ l. omega arith; own = refl };
  stores = tt;
  begins = tt;
  groups = tt;
  rules = tt;
}

pub IsBefore-more : (low high : ℕ) (program : Program) → low ≤ high → IsBefore low program → IsBefore high program
IsBefore-more low high program le before = record {
  order = before.order;
  stores = AllBelow-more low high (store_lines program.stores) le before.stores;
  begins = AllBelow-more low high (begin_lines program.begins) le before.begins;
  groups = AllBelow-more low high (group_lines program.groups) le before.groups;
  rules = AllBelow-more low high (rule_lines program.groups) le before.rules;
}

abbrev tick : ℕ → ℕ → ℕ
tick line n = if line == n then 1 else 0

-- if all statements are before a line, a statement at this line does not share its line
pub one_more : (n line : ℕ) (program : Program) → IsBefore n program → statements_at line program + tick line n ≤ 1
one_more n line program before =
    elim (eqb_tells line n) [
      | inl (same, e) ↦
          let a = times-none n (store_lines program.stores) before.stores in
          let b = times-none n (begin_lines program.begins) before.begins in
          let c = times-none n (group_lines program.groups) before.groups in
          let d = times-none n (rule_lines program.groups) before.rules in
          let none : statements_at n program ≡ 0 = omega (arith, a, b, c, d) in
          let here : statements_at line program ≡ 0 = subst (λ m. statements_at m program ≡ 0) (sym e) none in
          let one : tick line n ≡ 1 = ap (λ b. if b then 1 else 0) same in
          omega (arith, here, one)
      | inr (differs, e) ↦
          let apart = before.order.apart line in
          let zero : tick line n ≡ 0 = ap (λ b. if b then 1 else 0) differs in
          omega (arith, apart, zero)
    ]

-- a list of lines with another line appended
module _ (n : ℕ) (old new : List ℕ) (e : new ≡ old ++ n ∷ []) where
  pub grown-rises : AllBelow n old → Rises old → Rises new
  grown-rises below rises = subst Rises (sym e) (Rises-push n old below rises)

  pub grown-below : AllBelow n old → AllBelow (n + 1) new
  grown-below below =
      subst (AllBelow (n + 1)) (sym e) (AllBelow-push (n + 1) n old (omega arith) (AllBelow-more n (n + 1) old (omega arith) below))

  pub grown-times : (line : ℕ) → times line new ≡ times line old + tick line n
  grown-times line = ap (times line) e ∙ times-push line n old

pub before-store : (n : ℕ) (program : Program) (store : StoreDef) → store.line ≡ n → IsBefore n program → IsBefore (n + 1) (with_statement program (statement.Store store))
before-store n program store at before =
    let old = store_lines program.stores in
    let new = store_lines (program.stores ++ store ∷ []) in
    let e : new ≡ old ++ n ∷ [] = map-append (λ (s : StoreDef). s.line) program.stores (store ∷ []) ∙ ap (λ l. old ++ l ∷ []) at in
    let more = IsBefore-more n (n + 1) program (omega arith) before in
    record {
      order = record {
        stores = grown-rises n old new e before.stores before.order.stores;
        begins = before.order.begins;
        groups = before.order.groups;
        rules = before.order.rules;
        apart = λ line. omega (arith, one_more n line program before, grown-times n old new e line);
        own = before.order.own;
      };
      stores = grown-below n old new e before.stores;
      begins = more.begins;
      groups = more.groups;
      rules = more.rules;
    }

pub before-begin : (n : ℕ) (program : Program) (start : BeginDef) → start.line ≡ n → IsBefore n program → IsBefore (n + 1) (with_statement program (statement.Begin start))
before-begin n program start at before =
    let old = begin_lines program.begins in
    let new = begin_lines (program.begins ++ start ∷ []) in
    let e : new ≡ old ++ n ∷ [] = map-append (λ (s : BeginDef). s.line) program.begins (start ∷ []) ∙ ap (λ l. old ++ l ∷ []) at in
    let more = IsBefore-more n (n + 1) program (omega arith) before in
    record {
      order = record {
        stores = before.order.stores;
        begins = grown-rises n old new e before.begins before.order.begins;
        groups = before.order.groups;
        rules = before.order.rules;
        apart = λ line. omega (arith, one_more n line program before, grown-times n old new e line);
        own = before.order.own;
      };
      stores = more.stores;
      begins = grown-below n old new e before.begins;
      groups = more.groups;
      rules = more.rules;
    }

pub before-group : (n : ℕ) (program : Program) (group : GroupDef) → group.line ≡ n → group.rules ≡ [] → IsBefore n program → IsBefore (n + 1) (with_statement program (statement.Group group))
before-group n program group at none before =
    let old = group_lines program.groups in
    let new = group_lines (program.groups ++ group ∷ []) in
    let e : new ≡ old ++ n ∷ [] = map-append (λ (g : GroupDef). g.line) program.groups (group ∷ []) ∙ ap (λ l. old ++ l ∷ []) at in
    let r = rule_lines-open program.groups group none in
    let more = IsBefore-more n (n + 1) program (omega arith) before in
    record {
      order = record {
        stores = before.order.stores;
        begins = before.order.begins;
        groups = grown-rises n old new e before.groups before.order.groups;
        rules = subst Rises (sym r) before.order.rules;
        apart = λ line. omega (arith, one_more n line program before, grown-times n old new e line, ap (times line) r);
        own = own-open program.groups group none before.order.own;
      };
      stores = more.stores;
      begins = more.begins;
      groups = grown-below n old new e before.groups;
      rules = subst (AllBelow (n + 1)) (sym r) more.rules;
    }

abbrev of_parts : List StoreDef → List BeginDef → List GroupDef → Program
of_parts stores begins groups = record { stores = stores; begins = begins; groups = groups }

pub before-rule : (n : ℕ) (stores : List StoreDef) (begins : List BeginDef) (groups : List GroupDef) (rule : RuleDef) → rule.line ≡ n
    → IsBefore n (of_parts stores begins groups) → IsBefore (n + 1) (of_parts stores begins (with_rule groups rule))
before-rule n stores begins [] rule at before = IsBefore-more n (n + 1) (of_parts stores begins []) (omega arith) before
before-rule n stores begins (group ∷ groups) rule at before =
    let program = of_parts stores begins (group ∷ groups) in
    let old = rule_lines (group ∷ groups) in
    let new = rule_lines (with_rule (group ∷ groups) rule) in
    let e : new ≡ old ++ n ∷ [] = rule_lines-with_rule group groups rule ∙ ap (λ l. old ++ l ∷ []) at in
    let g = group_lines-with_rule (group ∷ groups) rule in
    let more = IsBefore-more n (n + 1) program (omega arith) before in
    record {
      order = record {
        stores = before.order.stores;
        begins = before.order.begins;
        groups = subst Rises (sym g) before.order.groups;
        rules = grown-rises n old new e before.rules before.order.rules;
        apart = λ line. omega (arith, one_more n line program before, grown-times n old new e line, ap (times line) g);
        own = own-with_rule (group ∷ groups) rule (subst (λ m. AllBelow m old) (sym at) before.rules) before.order.own;
      };
      stores = more.stores;
      begins = more.begins;
      groups = subst (AllBelow (n + 1)) (sym g) more.groups;
      rules = grown-below n old new e before.rules;
    }

pub before-statement : (n : ℕ) (program : Program) (stated : Statement) → StandsAt n stated → IsBefore n program → IsBefore (n + 1) (with_statement program stated)
before-statement n program statement.Nothing at before = IsBefore-more n (n + 1) program (omega arith) before
before-statement n program (statement.Store store) at before = before-store n program store at before
before-statement n program (statement.Begin start) at before = before-begin n program start at before
before-statement n program (statement.Group group) (at, none) before = before-group n program group at none before
before-statement n program (statement.Rule rule) at before = before-rule n program.stores program.begins program.groups rule at before

-- a statement that is read from a line has the line's number
abbrev pub AnswersAt : ℕ → Result Statement Refusal → Type 0
AnswersAt n (Ok stated) = StandsAt n stated
AnswersAt n (Err found) = Unit {0}

pub at_line-at : (n line : ℕ) (read : Result Statement TokenRefusal) → ReadsAt n read → AnswersAt n (at_line line read)
at_line-at n line (Ok stated) at = at
at_line-at n line (Err found) at = tt

-- if a program is read, it is in order
abbrev pub IsOrdered : Result Program Refusal → Type 0
IsOrdered (Ok program) = IsInOrder program
IsOrdered (Err found) = Unit {0}

pub lines-ordered : (source : List ℕ) (group : LastGroup) (low : ℕ) (program : Program) (lines : List Logical)
    → LinesFrom low lines → IsBefore low program → IsOrdered (read_lines source group program lines)
lines-ordered source group low program [] from before = before.order
lines-ordered source group low program (line ∷ lines) (here, rest) before =
    let at = at_line-at line.first_line line.first_line _ (line-at group line.first_line (with_texts source (line_tokens source line))) in
    (elim (line_statement source group line) as (λ read. AnswersAt line.first_line read → IsOrdered (elim read [
      | Ok stated ↦ read_lines source (group_after group stated) (with_statement program stated) lines
      | Err found ↦ Err found
    ])) [
      | Ok stated ↦ λ stands. lines-ordered source (group_after group stated) (line.first_line + 1) (with_statement program stated) lines rest
          (before-statement line.first_line program stated stands (IsBefore-more low line.first_line program here before))
      | Err found ↦ λ stands. tt
    ]) at

pub text-ordered : (source : List ℕ) → IsOrdered (read_text source)
text-ordered source =
    elim (tokens_refusal source (logicals source)) as (λ found. IsOrdered (elim found [ Some first ↦ Err first | None ↦ read_lines source Missing no_program (logicals source) ])) [
      | Some first ↦ tt
      | None ↦ lines-ordered source Missing 1 no_program (logicals source) (logicals_from source) (nothing_before 1)
    ]

pub parsed-ordered : (source : List ℕ) → IsOrdered (parsed source)
unfolding parsed
parsed-ordered source =
    elim (nat_lt TEXT_BYTES (length source)) as (λ b. IsOrdered (if b then Err (refusal 1 L05) else (if not (is_utf8 source) then Err (refusal 1 L01) else read_text source))) [
      | true ↦ tt
      | false ↦ elim (not (is_utf8 source)) as (λ b. IsOrdered (if b then Err (refusal 1 L01) else read_text source)) [ true ↦ tt | false ↦ text-ordered source ]
    ]

pub statements_in_order : StatementsAreInOrder
statements_in_order source program e = subst IsOrdered e (parsed-ordered source)
