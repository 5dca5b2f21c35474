-- The tokens of a line's sections, the remaining lines of an iteration, and the group of a rule.
use Rattle.std.proofs.Common.{◌≡◌, ℕ, ◌+◌, ◌≤◌, nat_lt, List, [], ◌∷◌, ◌++◌, length, Option, None, Some, Result, Ok, Err, refl, sym, ap, cond, not, ◌∙◌}
use Rattle.std.specs.Prelude.{IsUtf8}
use Rattle.std.specs.Str.{is_utf8}
use Rattle.std.proofs.lemmas.Str.{is_utf8-from_IsUtf8, IsUtf8-from_is_utf8}
use Rattle.kmn_base.specs.declared.codes.Code.TheVariants.{L01, L05}
use Rattle.kmn_base.specs.declared.refusals.Refusal.{Refusal}
use Rattle.kmn_lines.specs.declared.logical.Logical.{Logical}
use Rattle.kmn_base.specs.declared.limits.TheConstants.{TEXT_BYTES}
use Rattle.kmn_base.proofs.Tests.{second_fails, both_hold}
use Rattle.kmn_lines.specs.Tokens.{refusal}
use Rattle.std.specs.List.{All, AllByRecursion, position_or_len}
use Rattle.std.proofs.lemmas.List.Elements.{All-head, All-tail}
use Rattle.std.proofs.lemmas.Bool.{le-ltb}
use Rattle.kmn_lines.specs.declared.token.Token.{Token}
use Rattle.rule_model.specs.declared.program.RuleDef.{RuleDef}
use Rattle.rule_model.specs.declared.program.GroupDef.{GroupDef}
use Rattle.rule_model.specs.declared.program.Program.{Program}
use Rattle.kmn_parser.specs.declared.reading.Reading.{Reading}
use Rattle.kmn_parser.specs.declared.statement.LastGroup.{LastGroup}
use Rattle.kmn_parser.specs.declared.statement.Statement.{Statement}
use Rattle.kmn_parser.specs.declared.statement.Sign.{Sign}
use Rattle.kmn_items.specs.TokenTexts.{with_texts}
use Rattle.kmn_parser.specs.Line.{is_sign, place_of}
use Rattle.kmn_parser.specs.Source.{line_statement, group_after, with_statement, read_lines, with_rule, read_text, parsed}
use Rattle.kmn_parser.specs.Reading.{read_further, reading_after}

-- what is read, followed by all remaining lines
abbrev pub read_behind : List ℕ → Reading → List Logical → Result Program Refusal
read_behind source reading lines = elim reading.refused [
  | None ↦ read_lines source reading.group reading.program lines
  | Some found ↦ Err found
]

-- a symbol has the same index among the tokens with their texts
pub place_with_texts : (source : List ℕ) (wanted : Sign) (tokens : List Token) → place_of wanted (with_texts source tokens) ≡ position_or_len (λ (token : Token). is_sign wanted token.kind) tokens
place_with_texts source wanted [] = refl
place_with_texts source wanted (token ∷ tokens) = ap (λ n. cond (not (is_sign wanted token.kind)) (1 + n) 0) (place_with_texts source wanted tokens)

-- a property of all elements, element by element
pub by_recursion : {X : Type 0} (P : X → Type 0) (xs : List X) → All P xs → AllByRecursion P xs
by_recursion P [] all = tt
by_recursion P (x ∷ xs) all = (All-head P x xs all, by_recursion P xs (All-tail P x xs all))

read_one : (group : LastGroup) (program : Program) (refused : Option Refusal) (source : List ℕ) (line : Logical) (lines : List Logical)
    → let reading : Reading = record { program = program; group = group; refused = refused } in
    read_behind source (reading_after source reading line) lines ≡ read_behind source reading (line ∷ lines)
read_one group program None source line lines =
    elim (line_statement source group line) as (λ (read : Result Statement Refusal). read_behind source (read_further group program read) lines ≡ elim read [
      | Ok statement ↦ read_lines source (group_after group statement) (with_statement program statement) lines
      | Err found ↦ Err found
    ]) [ Ok statement ↦ refl | Err found ↦ refl ]
read_one group program (Some found) source line lines = refl

-- the next line is the first of the remaining lines
pub reads_on : (source : List ℕ) (reading : Reading) (line : Logical) (lines : List Logical)
    → read_behind source (reading_after source reading line) lines ≡ read_behind source reading (line ∷ lines)
reads_on source reading line lines = read_one reading.group reading.program reading.refused source line lines

-- a rule goes to the last group
pub rule_goes_last : (groups : List GroupDef) (group : GroupDef) (rule : RuleDef)
    → with_rule (groups ++ group ∷ []) rule ≡ groups ++ record group { rules = group.rules ++ rule ∷ [] } ∷ []
rule_goes_last [] group rule = refl
rule_goes_last (first ∷ []) group rule = refl
rule_goes_last (first ∷ next ∷ groups) group rule = ap (λ gs. first ∷ gs) (rule_goes_last (next ∷ groups) group rule)

-- a source that is short enough and in UTF-8 is read as text
pub parsed_text : (source text : List ℕ) → length source ≤ TEXT_BYTES → text ≡ source → IsUtf8 source → parsed source ≡ read_text text
unfolding parsed
parsed_text source text short same utf8 =
    both_hold (nat_lt TEXT_BYTES (length source)) (is_utf8 source) (Err (refusal 1 L05)) (Err (refusal 1 L01)) (read_text source)
    (le-ltb TEXT_BYTES (length source) short) (is_utf8-from_IsUtf8 source utf8)
    ∙ ap read_text (sym same)

-- a source that is short enough and not in UTF-8 is refused as such
pub parsed_other : (source : List ℕ) → length source ≤ TEXT_BYTES → ¬ (IsUtf8 source) → parsed source ≡ Err (refusal 1 L01)
unfolding parsed
parsed_other source short other =
    second_fails (nat_lt TEXT_BYTES (length source)) (is_utf8 source) (Err (refusal 1 L05)) (Err (refusal 1 L01)) (read_text source)
    (le-ltb TEXT_BYTES (length source) short) (λ e. other (IsUtf8-from_is_utf8 source e))
