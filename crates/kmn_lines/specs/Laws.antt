-- The laws of lines and tokens, stated without describing how a text is read.
use Rattle.std.specs.Prelude.{◌≡◌, ℕ, zero, suc, ◌+◌, ◌-◌, ◌<◌, ◌≤◌, ◌==◌, ◌⊎◌, Bool, true, false, not, ◌&&◌, ◌||◌, if◌then◌else◌, List, [], ◌∷◌, ◌++◌, length, take, drop, flat_map, Option, None, Some, is_some, All, IsUtf8, codes}
use Rattle.std.specs.List.{list_all}
use Rattle.kmn_base.specs.Bytes.{is_blank, is_quote}
use Rattle.kmn_base.specs.Names.{same_name}
use Rattle.kmn_base.specs.Texts.{bom_size}
use Rattle.kmn_lines.specs.Lines.{physical_lines_at, logicals, is_skipped, dropped, opening_parts, parts_in}
use Rattle.kmn_lines.specs.Places.{IsPlaced}
use Rattle.kmn_lines.specs.Tokens.{single, part_text, line_tokens}
use Rattle.kmn_lines.specs.declared.line_state.PhysicalLine.{PhysicalLine}
use Rattle.kmn_lines.specs.declared.logical.Logical.{Logical}
use Rattle.kmn_lines.specs.declared.logical.Part.{Part}
use Rattle.kmn_lines.specs.declared.token.Token.{Token}
use Rattle.kmn_lines.specs.declared.token.TokenKind.TheVariants.{Word}

-- whether a text has only blanks
abbrev pub IsBlankText : List ℕ → Type 0
IsBlankText text = list_all is_blank text ≡ true

-- tokens cover a text that begins at a position: each has a byte, none overlaps the previous one, none ends past the text, and there are
-- only blanks before, between and after them; each token and its text have a given property
abbrev pub Covers : (Token → List ℕ → Type 0) → ℕ → List ℕ → List Token → Type 0
Covers holds at text [] = IsBlankText text
Covers holds at text (t ∷ ts) =
    (at ≤ t.from) × (t.from < t.to) × (t.to ≤ at + length text)
    × IsBlankText (take (t.from - at) text)
    × holds t (take (t.to - t.from) (drop (t.from - at) text))
    × Covers holds t.to (drop (t.to - at) text) ts

-- tokens that cover a part of a source and have its line number
pub record CoversPart (holds : Token → List ℕ → Type 0) (source : List ℕ) (p : Part) (ts : List Token) : Type 0 where
  pub covers : Covers holds p.from (part_text source p) ts
  pub numbered : All (λ (t : Token). t.line ≡ p.line) ts

-- tokens are the tokens of parts, one part after the other, and cover each part
abbrev pub CoversParts : (Token → List ℕ → Type 0) → List ℕ → List Part → List Token → Type 0
CoversParts holds source [] ts = ts ≡ []
CoversParts holds source (p ∷ ps) ts = (here : List Token) × (behind : List Token) × (ts ≡ here ++ behind) × CoversPart holds source p here × CoversParts holds source ps behind

-- a byte that a word may have: not a blank, not a quote, and not one of ( ) [ ] > + = ,
pub record IsPlain (byte : ℕ) : Type 0 where
  pub blank : is_blank byte ≡ false
  pub quote : is_quote byte ≡ false
  pub alone : is_some (single byte) ≡ false

-- the tokens of a line cover its parts
abbrev pub TokensCoverParts : Type 0
TokensCoverParts = (source : List ℕ) (l : Logical) → CoversParts (λ t text. Unit {0}) source (parts_in source l) (line_tokens source l)

-- a word has no blank, no quote and no byte that is a token by itself
abbrev pub WordsArePlain : Type 0
WordsArePlain = (source : List ℕ) (l : Logical) → CoversParts (λ t text. t.kind ≡ Word → All IsPlain text) source (parts_in source l) (line_tokens source l)

-- the bytes between two positions
abbrev pub bytes_between : List ℕ → ℕ → ℕ → List ℕ
bytes_between source from to = drop from (take to source)

-- the physical lines with their line ends, joined after a byte order mark, are the source
abbrev pub PhysicalLinesMakeTheSource : Type 0
PhysicalLinesMakeTheSource = (source : List ℕ) → take (bom_size source) source ++ flat_map (λ (p : PhysicalLine). bytes_between source p.from p.next) (physical_lines_at 1 (bom_size source) source) ≡ source

-- the logical lines, joined after a byte order mark, are the source
abbrev pub LinesMakeTheSource : Type 0
LinesMakeTheSource = (source : List ℕ) → take (bom_size source) source ++ flat_map (λ (l : Logical). bytes_between source l.from l.to) (logicals source) ≡ source

-- parts between two positions, each after the end of the previous one
abbrev pub InOrder : ℕ → ℕ → List Part → Type 0
InOrder at end [] = at ≤ end
InOrder at end (p ∷ ps) = (at ≤ p.from) × (p.from ≤ p.to) × InOrder p.to end ps

-- the parts of a line are in it in rising order
abbrev pub PartsStandInOrder : Type 0
PartsStandInOrder = (source : List ℕ) (l : Logical) → IsPlaced source l → InOrder l.from l.to (parts_in source l)

-- whether a byte, followed by these bytes, ends a physical line: an LF, or a CR that no LF follows
abbrev pub is_line_end : ℕ → List ℕ → Bool
is_line_end byte [] = (byte == 10) || (byte == 13)
is_line_end byte (next ∷ bytes) = (byte == 10) || ((byte == 13) && not (next == 10))

-- the number of line ends among the first n bytes of a text
abbrev pub line_ends : ℕ → List ℕ → ℕ
line_ends zero text = 0
line_ends (suc n) [] = 0
line_ends (suc n) (byte ∷ bytes) = (if is_line_end byte bytes then 1 else 0) + line_ends n bytes

-- the number of a logical line is one more than the number of line ends before it
abbrev pub LinesAreNumbered : Type 0
LinesAreNumbered = (source : List ℕ) → All (λ (l : Logical). l.first_line ≡ 1 + line_ends l.from source) (logicals source)

-- the tokens of the lines of a UTF-8 source are UTF-8: each begins and ends between characters
abbrev pub TokensAreText : Type 0
TokensAreText = (source : List ℕ) → IsUtf8 source → All (λ (l : Logical). All (λ (t : Token). IsUtf8 (bytes_between source t.from t.to)) (line_tokens source l)) (logicals source)

-- the quote that is open after a byte: a quote opens, and the same quote closes
abbrev pub quote_behind : Option ℕ → ℕ → Option ℕ
quote_behind None byte = if is_quote byte then Some byte else None
quote_behind (Some quote) byte = if byte == quote then None else Some quote

-- the quote that is open after a text
abbrev pub open_quote : Option ℕ → List ℕ → Option ℕ
open_quote quote [] = quote
open_quote quote (byte ∷ bytes) = open_quote (quote_behind quote byte) bytes

-- the first and the last byte of a text; a given byte if the text is empty
abbrev pub first_or : ℕ → List ℕ → ℕ
first_or other [] = other
first_or other (byte ∷ bytes) = byte

abbrev pub last_or : ℕ → List ℕ → ℕ
last_or other [] = other
last_or other (byte ∷ bytes) = last_or byte bytes

-- whether a position of a physical line is outside quotes
abbrev pub is_outside : List ℕ → ℕ → Bool
is_outside line at = not (is_some (open_quote None (take at line)))

-- whether a text is a c or C followed by a blank or the end
abbrev pub is_lone_c : List ℕ → Bool
is_lone_c [] = false
is_lone_c (byte ∷ bytes) = ((byte == 99) || (byte == 67)) && is_blank (first_or 32 bytes)

-- whether a comment begins at a position of a physical line: outside quotes, after a blank or at the start, there is a c or C before a
-- blank or the end
abbrev pub comment_at : List ℕ → ℕ → Bool
comment_at line at = is_outside line at && (is_blank (last_or 32 (take at line)) && is_lone_c (drop at line))

-- whether a text is a backslash followed only by blanks
abbrev pub is_lone_backslash : List ℕ → Bool
is_lone_backslash [] = false
is_lone_backslash (byte ∷ bytes) = (byte == 92) && list_all is_blank bytes

-- whether there is a joining backslash at a position of a physical line: outside quotes, followed only by blanks
abbrev pub joint_at : List ℕ → ℕ → Bool
joint_at line at = is_outside line at && is_lone_backslash (drop at line)

-- a byte inside a line: not LF and not CR
abbrev pub IsInLine : ℕ → Type 0
IsInLine byte = ((byte == 10) || (byte == 13)) ≡ false

-- the end of a physical line, before a text: LF, CR LF, a CR that no LF follows, or nothing at the end of the source
abbrev pub IsLineEnd : List ℕ → List ℕ → Type 0
IsLineEnd end behind = (end ≡ 10 ∷ []) ⊎ ((end ≡ 13 ∷ 10 ∷ []) ⊎ (((end ≡ 13 ∷ []) × ((first_or 32 behind == 10) ≡ false)) ⊎ ((end ≡ []) × (behind ≡ []))))

-- the text of a physical line has the bytes before the first position at which a comment begins or there is a joining backslash, and all
-- bytes if there is none; only the backslash joins
pub record IsCut (line : List ℕ) (size : ℕ) (joined : Bool) : Type 0 where
  pub within : size ≤ length line
  pub no_comment : (k : ℕ) → k < size → comment_at line k ≡ false
  pub no_joint : (k : ℕ) → k < size → joint_at line k ≡ false
  pub here : ((size ≡ length line) × (joined ≡ false)) ⊎ (((comment_at line size ≡ true) × (joined ≡ false)) ⊎ ((joint_at line size ≡ true) × (joined ≡ true)))

-- a physical line of a source: its bytes are a line and the line's end, and its text is the text of the line
pub record IsPhysicalLine (source : List ℕ) (p : PhysicalLine) : Type 0 where
  pub line : List ℕ
  pub end : List ℕ
  pub whole : bytes_between source p.from p.next ≡ line ++ end
  pub in_line : All IsInLine line
  pub ended : IsLineEnd end (drop p.next source)
  pub size : ℕ
  pub to : p.to ≡ p.from + size
  pub cut : IsCut line size p.joined

-- a physical line is joined if another one follows in its logical line; the last one is joined only if the source ends
abbrev pub IsJoined : List ℕ → PhysicalLine → List PhysicalLine → Type 0
IsJoined source p [] = p.joined ≡ true → p.next ≡ length source
IsJoined source p (q ∷ qs) = p.joined ≡ true

-- physical lines of a source that follow one another between two positions, numbered and joined
abbrev pub AreJoined : List ℕ → ℕ → ℕ → ℕ → List PhysicalLine → Type 0
AreJoined source line at end [] = at ≡ end
AreJoined source line at end (p ∷ ps) =
    (p.line ≡ line) × (p.from ≡ at) × IsPhysicalLine source p × IsJoined source p ps
    × AreJoined source (line + 1) p.next end ps

-- the parts of a logical line are the texts of its physical lines, without its prefix
abbrev pub PartsAreTexts : Type 0
PartsAreTexts = (source : List ℕ) → All (λ (l : Logical). (ps : List PhysicalLine) × AreJoined source l.first_line l.from l.to ps × (parts_in source l ≡ opening_parts source ps)) (logicals source)

-- a text begins with blanks and a word, in any ASCII case, and these are its first n bytes
abbrev pub IsPrefix : List ℕ → List ℕ → ℕ → Type 0
IsPrefix word text n = (k : ℕ) × (n ≡ k + length word) × IsBlankText (take k text) × (same_name (take (length word) (drop k text)) word ≡ true)

-- what is dropped from the first text that is not blank is empty, or blanks and $keyman: or $keymanonly:; a text with which a line is
-- skipped begins with blanks and $keymanweb: or $kmfl:
abbrev pub PrefixesAreDropped : Type 0
PrefixesAreDropped =
    (text : List ℕ)
    → ((dropped text ≡ 0) ⊎ (IsPrefix (codes "$keyman:") text (dropped text) ⊎ IsPrefix (codes "$keymanonly:") text (dropped text)))
    × (is_skipped text ≡ true → (n : ℕ) × (IsPrefix (codes "$keymanweb:") text n ⊎ IsPrefix (codes "$kmfl:") text n))
