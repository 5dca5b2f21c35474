-- The laws of lines that are joined, and of a line that is moved within a text.
use Rattle.std.specs.Prelude.{◌≡◌, ℕ, ◌+◌, ◌==◌, Bool, true, false, ◌||◌, List, [], ◌∷◌, ◌++◌, length, map, Option, None, option_map}
use Rattle.kmn_base.specs.Texts.{bom_size}
use Rattle.kmn_lines.specs.Lines.{physical_lines_at, gather, logicals}
use Rattle.kmn_lines.specs.Laws.{bytes_between, last_or, line_ends}
use Rattle.kmn_lines.specs.Tokens.{line_tokens, line_refusal}
use Rattle.kmn_base.specs.declared.codes.Code.{Code}
use Rattle.kmn_base.specs.declared.refusals.Refusal.{Refusal}
use Rattle.kmn_lines.specs.declared.line_state.PhysicalLine.{PhysicalLine}
use Rattle.kmn_lines.specs.declared.logical.Logical.{Logical}
use Rattle.kmn_items.specs.TokenTexts.{with_texts}

-- whether bytes begin with an LF
abbrev pub begins_lf : List ℕ → Bool
begins_lf [] = false
begins_lf (b ∷ bs) = b == 10

-- whether bytes end with a CR, which ends a line unless an LF follows
abbrev pub ends_cr : List ℕ → Bool
ends_cr [] = false
ends_cr (b ∷ []) = b == 13
ends_cr (b ∷ c ∷ bs) = ends_cr (c ∷ bs)

-- the physical lines of bytes, with their line ends
abbrev pub lines_in : List ℕ → List (List ℕ)
lines_in bytes = map (λ (p : PhysicalLine). bytes_between bytes p.from p.next) (physical_lines_at 1 0 bytes)

-- whether bytes end with a line end
abbrev pub ends_whole : List ℕ → Bool
ends_whole bytes = ends_cr bytes || (last_or 0 bytes == 10)

-- if the first bytes end with a line end, and this is not a CR before an LF, the lines of both together are those of each
abbrev pub LinesOfBoth : Type 0
LinesOfBoth = (a b : List ℕ) → ends_whole a ≡ true → (ends_cr a ≡ true → begins_lf b ≡ false) → lines_in (a ++ b) ≡ lines_in a ++ lines_in b

-- the logical line with a number that some bytes are after others
abbrev pub placed : ℕ → List ℕ → List ℕ → Logical
placed number front line = record { first_line = number; from = length front; to = length front + length line }

-- bytes that are one logical line have the same tokens wherever they are in a text
abbrev pub TokensAreOfTheirLine : Type 0
TokensAreOfTheirLine =
    (number : ℕ) (front line behind : List ℕ) (l : Logical) → bom_size line ≡ 0 → logicals line ≡ l ∷ []
    → let whole = front ++ (line ++ behind) in with_texts whole (line_tokens whole (placed number front line)) ≡ with_texts line (line_tokens line l)

-- the code of a refusal
abbrev pub code_of : Option Refusal → Option Code
code_of refused = option_map (λ (r : Refusal). r.code) refused

-- bytes that are one logical line have the same first fault wherever they are in a text
abbrev pub FaultsAreOfTheirLine : Type 0
FaultsAreOfTheirLine =
    (number : ℕ) (front line behind : List ℕ) (l : Logical) → bom_size line ≡ 0 → logicals line ≡ l ∷ []
    → code_of (line_refusal (front ++ (line ++ behind)) (placed number front line)) ≡ code_of (line_refusal line l)

-- the same of physical lines after other bytes, with their numbers and positions
abbrev pub PhysicalLinesOfBoth : Type 0
PhysicalLinesOfBoth =
    (line : ℕ) (front a b : List ℕ) → ends_whole a ≡ true → (ends_cr a ≡ true → begins_lf b ≡ false)
    → let whole = front ++ (a ++ b) in
    physical_lines_at line (length front) whole
    ≡ physical_lines_at line (length front) (front ++ a) ++ physical_lines_at (line + line_ends (length a) a) (length front + length a) whole

-- whether the last of physical lines is joined with the next
abbrev pub ends_joined : List PhysicalLine → Bool
ends_joined [] = false
ends_joined (p ∷ []) = p.joined
ends_joined (p ∷ q ∷ ps) = ends_joined (q ∷ ps)

-- the same of logical lines, if no backslash joins both
abbrev pub LogicalsOfBoth : Type 0
LogicalsOfBoth =
    (line : ℕ) (front a b : List ℕ) → ends_whole a ≡ true → (ends_cr a ≡ true → begins_lf b ≡ false)
    → ends_joined (physical_lines_at line (length front) (front ++ a)) ≡ false
    → let whole = front ++ (a ++ b) in
    gather None (physical_lines_at line (length front) whole)
    ≡ gather None (physical_lines_at line (length front) (front ++ a)) ++ gather None (physical_lines_at (line + line_ends (length a) a) (length front + length a) whole)

-- bytes that are one logical line are one wherever they begin a line and end the text
abbrev pub LinesStandAlone : Type 0
LinesStandAlone =
    (number : ℕ) (front line : List ℕ) (l : Logical) → bom_size line ≡ 0 → logicals line ≡ l ∷ []
    → gather None (physical_lines_at number (length front) (front ++ line)) ≡ placed number front line ∷ []

-- whether a backslash joins bytes with the next line depends on these bytes only
abbrev pub JointsStandAlone : Type 0
JointsStandAlone = (number : ℕ) (front line : List ℕ) → ends_joined (physical_lines_at number (length front) (front ++ line)) ≡ ends_joined (physical_lines_at 1 0 line)

-- the tokens of any bytes are the same wherever these are in a text
abbrev pub TokensMove : Type 0
TokensMove =
    (n m : ℕ) (line front behind before after : List ℕ)
    → let here = front ++ (line ++ behind) in let there = before ++ (line ++ after) in
    with_texts here (line_tokens here (placed n front line)) ≡ with_texts there (line_tokens there (placed m before line))

-- lines that are joined
abbrev pub together : List (List ℕ) → List ℕ
together [] = []
together (line ∷ lines) = line ++ together lines

-- bytes are one logical line
abbrev pub IsOneLine : List ℕ → Type 0
IsOneLine line = length (gather None (physical_lines_at 1 0 line)) ≡ 1

-- each is one logical line, and each except the last ends with a line end that does not merge with the next byte
abbrev pub AreLines : List (List ℕ) → Type 0
AreLines [] = Unit {0}
AreLines (line ∷ []) = IsOneLine line
AreLines (line ∷ next ∷ lines) =
    IsOneLine line × (ends_whole line ≡ true) × (ends_cr line ≡ true → begins_lf (together (next ∷ lines)) ≡ false)
    × (ends_joined (physical_lines_at 1 0 line) ≡ false) × AreLines (next ∷ lines)

-- the positions of lines after other bytes, and their numbers
abbrev pub places : ℕ → List ℕ → List (List ℕ) → List Logical
places number front [] = []
places number front (line ∷ lines) = placed number front line ∷ places (number + line_ends (length line) line) (front ++ line) lines

-- the logical lines of joined lines are these, one for one
abbrev pub LinesOfMany : Type 0
LinesOfMany = (number : ℕ) (front : List ℕ) (lines : List (List ℕ)) → AreLines lines → gather None (physical_lines_at number (length front) (front ++ together lines)) ≡ places number front lines

-- texts of one or more lines: each except the last ends with a line end that does not merge with the next byte, and with no backslash
-- that joins it with the next text
abbrev pub AreTexts : List (List ℕ) → Type 0
AreTexts [] = Unit {0}
AreTexts (text ∷ []) = Unit {0}
AreTexts (text ∷ next ∷ texts) =
    (ends_whole text ≡ true) × (ends_cr text ≡ true → begins_lf (together (next ∷ texts)) ≡ false)
    × (ends_joined (physical_lines_at 1 0 text) ≡ false) × AreTexts (next ∷ texts)

-- the logical lines of each text, after those before it
abbrev pub lines_of_texts : ℕ → List ℕ → List (List ℕ) → List Logical
lines_of_texts number front [] = []
lines_of_texts number front (text ∷ texts) =
    gather None (physical_lines_at number (length front) (front ++ text)) ++ lines_of_texts (number + line_ends (length text) text) (front ++ text) texts

-- the logical lines of joined texts are those of each text
abbrev pub LinesOfTexts : Type 0
LinesOfTexts = (number : ℕ) (front : List ℕ) (texts : List (List ℕ)) → AreTexts texts → gather None (physical_lines_at number (length front) (front ++ together texts)) ≡ lines_of_texts number front texts
