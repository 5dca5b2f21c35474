-- The program of a source is read: its lines are numbered, its tokens are sound, and each statement is the statement of its line.
use Rattle.std.proofs.Common.{◌≡◌, ℕ, zero, suc, ◌+◌, ◌≤◌, Bool, true, false, not, if◌then◌else◌, nat_lt, get_or, List, [], ◌∷◌, ◌++◌, length, Option, None, Some, Result, Ok, Err, refl, sym, subst, arith}
use Rattle.std.specs.Prelude.{All, IsUtf8}
use Rattle.std.specs.Str.{is_utf8}
use Rattle.std.proofs.lemmas.Bool.{cond_both, ltb-false, not-false}
use Rattle.std.proofs.lemmas.List.Elements.{All-cons, All-nil, All-head, All-tail, All-push}
use Rattle.std.proofs.lemmas.Str.{IsUtf8-from_is_utf8}
use Rattle.kmn_base.specs.declared.limits.TheConstants.{TEXT_BYTES}
use Rattle.kmn_base.specs.declared.refusals.Refusal.{Refusal}
use Rattle.kmn_lines.specs.declared.logical.Logical.{Logical}
use Rattle.kmn_lines.specs.Lines.{logicals}
use Rattle.kmn_lines.specs.Tokens.{line_tokens, tokens_refusal}
use Rattle.kmn_lines.specs.Laws.{is_line_end, line_ends}
use Rattle.kmn_lines.proofs.Numbered.{lines_are_numbered}
use Rattle.kmn_lines.proofs.TextLines.{tokens_are_text}
use Rattle.rule_model.specs.declared.program.RuleDef.{RuleDef}
use Rattle.rule_model.specs.declared.program.GroupDef.{GroupDef}
use Rattle.rule_model.specs.declared.program.Program.{Program}
use Rattle.kmn_items.specs.declared.syntax.TokenRefusal.{TokenRefusal}
use Rattle.kmn_parser.specs.declared.statement.LastGroup.{LastGroup}
use Rattle.kmn_parser.specs.declared.statement.LastGroup.TheVariants.{Missing}
use Rattle.kmn_parser.specs.declared.statement.Statement.{Statement}
use Rattle.kmn_parser.specs.declared.statement.Statement.TheVariants as statement
use Rattle.kmn_items.specs.TokenTexts.{with_texts}
use Rattle.kmn_parser.specs.Line.{read_line}
use Rattle.kmn_parser.specs.Source.{at_line, line_statement, last_group, group_after, with_rule, with_statement, no_program, read_lines, read_text, parsed}
use Rattle.kmn_parser.specs.ProgramLaws.{IsLine, IsReadStore, IsReadBegin, IsReadRule, IsReadGroup, IsReadProgram, ProgramsAreRead}
use Rattle.kmn_parser.proofs.SoundTokens.{HasSoundTokens, lines-sound}
use Rattle.kmn_parser.proofs.ReadStatements.{IsReadStatement, StatementRead, line-read}

-- a text has no more line ends than bytes
few-ends : (n : ℕ) (text : List ℕ) → line_ends n text ≤ length text
few-ends zero text = omega arith
few-ends (suc n) [] = omega arith
few-ends (suc n) (byte ∷ bytes) =
    let rest = few-ends n bytes in
    (elim (is_line_end byte bytes) as (λ (ends : Bool). (if ends then 1 else 0) + line_ends n bytes ≤ suc (length bytes)) [
      | true ↦ omega (arith, rest)
      | false ↦ omega (arith, rest)
    ])

abbrev HasLine : Logical → Type 0
HasLine line = IsLine line.first_line

lines-numbered : (source : List ℕ) → length source ≤ TEXT_BYTES → All HasLine (logicals source)
lines-numbered source short = λ k d l.
    let line : Logical = get_or (logicals source) k d in
    let number = lines_are_numbered source k d l in
    let few = few-ends line.from source in
    record { first = omega (arith, number); last = omega (arith, number, few, short) }

-- the last of the groups is the known one
abbrev Knows : LastGroup → List GroupDef → Type 0
Knows group [] = group ≡ Missing
Knows group (last ∷ []) = group ≡ last_group last.using_keys
Knows group (first ∷ next ∷ groups) = Knows group (next ∷ groups)

-- a program that is read so far
record IsReadSoFar (group : LastGroup) (program : Program) : Type 0 where
  read : IsReadProgram program
  knows : Knows group program.groups

knows-opened : (groups : List GroupDef) (group : GroupDef) → Knows (last_group group.using_keys) (groups ++ group ∷ [])
knows-opened [] group = refl
knows-opened (first ∷ []) group = refl
knows-opened (first ∷ next ∷ groups) group = knows-opened (next ∷ groups) group

same-group : (a b : Bool) → last_group a ≡ last_group b → a ≡ b
same-group true true e = refl
same-group true false e = cc
same-group false true e = cc
same-group false false e = refl

-- if the last group is known among the groups after another, it is known among all
knows-behind : (known : LastGroup) (group next : GroupDef) (groups : List GroupDef) (rule : RuleDef)
    → Knows known (with_rule (next ∷ groups) rule) → Knows known (group ∷ with_rule (next ∷ groups) rule)
knows-behind known group next [] rule knows = knows
knows-behind known group next (more ∷ groups) rule knows = knows

-- a rule joins the last group, which uses keys as the rule requires
rule-joins : (using_keys : Bool) (groups : List GroupDef) (rule : RuleDef) → Knows (last_group using_keys) groups → IsReadRule using_keys rule
    → All IsReadGroup groups → All IsReadGroup (with_rule groups rule) × Knows (last_group using_keys) (with_rule groups rule)
rule-joins using_keys [] rule knows read all = (all, knows)
rule-joins using_keys (group ∷ []) rule knows read all =
    let here = All-head IsReadGroup group [] all in
    let same = same-group using_keys group.using_keys knows in
    let joined : IsReadRule group.using_keys rule = subst (λ (keys : Bool). IsReadRule keys rule) same read in (
      All-cons IsReadGroup (record group { rules = group.rules ++ rule ∷ [] }) []
          (record { line = here.line; name = here.name; rules = All-push (IsReadRule group.using_keys) group.rules rule here.rules joined }) (All-nil IsReadGroup),
      knows,
    )
rule-joins using_keys (group ∷ next ∷ groups) rule knows read all =
    let rest = rule-joins using_keys (next ∷ groups) rule knows read (All-tail IsReadGroup group (next ∷ groups) all) in (
      All-cons IsReadGroup group (with_rule (next ∷ groups) rule) (All-head IsReadGroup group (next ∷ groups) all) rest.0,
      knows-behind (last_group using_keys) group next groups rule rest.1,
    )

-- a program with another statement
one-more : (group : LastGroup) (program : Program) (stated : Statement) → IsReadSoFar group program → IsReadStatement group stated
    → IsReadSoFar (group_after group stated) (with_statement program stated)
one-more group program statement.Nothing far stated = far
one-more group program (statement.Store store) far stated = record {
  read = record { stores = All-push IsReadStore program.stores store far.read.stores stated; begins = far.read.begins; groups = far.read.groups };
  knows = far.knows;
}
one-more group program (statement.Begin start) far stated = record {
  read = record { stores = far.read.stores; begins = All-push IsReadBegin program.begins start far.read.begins stated; groups = far.read.groups };
  knows = far.knows;
}
one-more group program (statement.Group opened) far (placed, named, none) = record {
  read = record {
    stores = far.read.stores;
    begins = far.read.begins;
    groups = All-push IsReadGroup program.groups opened far.read.groups
        (record { line = placed; name = named; rules = subst (All (IsReadRule opened.using_keys)) (sym none) (All-nil (IsReadRule opened.using_keys)) });
  };
  knows = knows-opened program.groups opened;
}
one-more group program (statement.Rule rule) far (using_keys, known, read) =
    let joined = rule-joins using_keys program.groups rule (subst (λ (g : LastGroup). Knows g program.groups) known far.knows) read far.read.groups in
    record {
      read = record { stores = far.read.stores; begins = far.read.begins; groups = joined.0 };
      knows = subst (λ (g : LastGroup). Knows g (with_rule program.groups rule)) (sym known) joined.1;
    }

-- if a program is read, it is a read program
abbrev WholeRead : Result Program Refusal → Type 0
WholeRead (Ok program) = IsReadProgram program
WholeRead (Err found) = Unit {0}

abbrev LineRead : LastGroup → Result Statement Refusal → Type 0
LineRead group (Ok stated) = IsReadStatement group stated
LineRead group (Err found) = Unit {0}

at_line-read : (group : LastGroup) (line : ℕ) (read : Result Statement TokenRefusal) → StatementRead group read → LineRead group (at_line line read)
at_line-read group line (Ok stated) read = read
at_line-read group line (Err found) read = tt

lines-read : (source : List ℕ) (group : LastGroup) (program : Program) (lines : List Logical) → All HasLine lines → All (HasSoundTokens source) lines
    → IsReadSoFar group program → WholeRead (read_lines source group program lines)
lines-read source group program [] numbered sound far = far.read
lines-read source group program (line ∷ lines) numbered sound far =
    let tokens = with_texts source (line_tokens source line) in
    let placed = All-head HasLine line lines numbered in
    let here = line-read group line.first_line tokens placed (All-head (HasSoundTokens source) line lines sound) in
    (elim (line_statement source group line) as (λ (read : Result Statement Refusal). LineRead group read → WholeRead (elim read [
      | Ok stated ↦ read_lines source (group_after group stated) (with_statement program stated) lines
      | Err found ↦ Err found
    ])) [
      | Ok stated ↦ λ stands.
          lines-read source (group_after group stated) (with_statement program stated) lines
          (All-tail HasLine line lines numbered) (All-tail (HasSoundTokens source) line lines sound) (one-more group program stated far stands)
      | Err found ↦ λ stands. tt
    ]) (at_line-read group line.first_line (read_line group line.first_line tokens) here)

nothing-read : IsReadSoFar Missing no_program
nothing-read = record {
  read = record { stores = All-nil IsReadStore; begins = All-nil IsReadBegin; groups = All-nil IsReadGroup };
  knows = refl;
}

text-read : (source : List ℕ) → length source ≤ TEXT_BYTES → IsUtf8 source → WholeRead (read_text source)
text-read source short utf8 =
    (elim (tokens_refusal source (logicals source)) as (λ (found : Option Refusal). tokens_refusal source (logicals source) ≡ found
    → WholeRead (elim found [ Some first ↦ Err first | None ↦ read_lines source Missing no_program (logicals source) ])) [
      | Some first ↦ λ e. tt
      | None ↦ λ e.
          lines-read source Missing no_program (logicals source) (lines-numbered source short)
          (lines-sound source (logicals source) (tokens_are_text source utf8) e) nothing-read
    ]) refl

whole-read : (source : List ℕ) → WholeRead (parsed source)
unfolding parsed
whole-read source =
    cond_both (nat_lt TEXT_BYTES (length source)) _ _ WholeRead (λ long. tt)
    (λ short. cond_both (not (is_utf8 source)) _ _ WholeRead (λ other. tt)
    (λ text. text-read source (ltb-false TEXT_BYTES (length source) short) (IsUtf8-from_is_utf8 source (not-false (is_utf8 source) text))))

pub programs_are_read : ProgramsAreRead
programs_are_read source program e = subst WholeRead e (whole-read source)
