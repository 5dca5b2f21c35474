-- How a source is split into physical lines, how these are joined to logical lines, and which parts of a logical line are tokenized.
use Rattle.std.specs.Prelude.{ℕ, ◌+◌, ◌==◌, Bool, true, false, not, ◌&&◌, ◌||◌, if◌then◌else◌, List, [], ◌∷◌, length, take, drop, map, codes, Option, None, Some, is_some, unwrap_or}
use Rattle.std.specs.List.{list_all}
use Rattle.kmn_base.specs.Bytes.{is_blank, is_quote}
use Rattle.kmn_base.specs.Names.{same_name}
use Rattle.kmn_base.specs.Texts.{bom_size}
use Rattle.kmn_lines.specs.Bytes.{first_or_end}
use Rattle.kmn_lines.specs.declared.line_state.LineState.{LineState}
use Rattle.kmn_lines.specs.declared.line_state.PhysicalLine.{PhysicalLine}
use Rattle.kmn_lines.specs.declared.logical.Logical.{Logical}
use Rattle.kmn_lines.specs.declared.logical.Part.{Part}

-- whether a byte ends a physical line: an LF, or a CR that no LF follows
abbrev pub ends_line : ℕ → ℕ → Bool
ends_line byte next = (byte == 10) || ((byte == 13) && not (next == 10))

-- whether a byte begins a comment: a c between a blank or the line's start and a blank or the line's end
abbrev pub starts_comment : Bool → ℕ → ℕ → Bool
starts_comment after_blank byte next = after_blank && ((byte == 99) || (byte == 67)) && (is_blank next || (next == 10) || (next == 13))

-- the state at the start of a physical line
abbrev pub line_start : LineState
line_start = record { quote = None; after_blank = true; slash = None; stop = None }

-- the state after a byte outside quotes
abbrev pub outside : LineState → ℕ → ℕ → ℕ → LineState
outside r at byte next =
    if is_blank byte then record r { after_blank = true }
    else if starts_comment r.after_blank byte next then record r { slash = None; stop = Some at }
    else if byte == 92 then record r { after_blank = false; slash = Some at }
    else record r { quote = if is_quote byte then Some byte else None; after_blank = false; slash = None }

-- the state after a byte inside quotes
abbrev pub inside : LineState → ℕ → ℕ → LineState
inside r quote byte = if byte == quote then record r { quote = None } else r

-- the state after a byte, if the line is not stopped
abbrev pub in_line : Option ℕ → LineState → ℕ → ℕ → ℕ → LineState
in_line None r at byte next = outside r at byte next
in_line (Some quote) r at byte next = inside r quote byte

-- the state after a byte that does not end the line, given its position and the next byte; a CR here precedes an LF
abbrev pub after_byte : LineState → ℕ → ℕ → ℕ → LineState
after_byte r at byte next =
    if is_some r.stop then r
    else if byte == 13 then record r { stop = Some at }
    else in_line r.quote r at byte next

-- the physical line that ends at a position, given the position of the next
abbrev pub physical_line : ℕ → ℕ → ℕ → ℕ → LineState → PhysicalLine
physical_line line from at next r = record { line = line; from = from; to = unwrap_or r.slash (unwrap_or r.stop at); next = next; joined = is_some r.slash }

-- the rest of the physical line that begins at a position, given its state so far, and the lines after it
abbrev pub physical_lines : ℕ → ℕ → LineState → ℕ → List ℕ → List PhysicalLine
physical_lines line from r at [] = if from == at then [] else physical_line line from at at r ∷ []
physical_lines line from r at (byte ∷ bytes) =
    if ends_line byte (first_or_end bytes)
    then physical_line line from at (at + 1) r ∷ physical_lines (line + 1) (at + 1) line_start (at + 1) bytes
    else physical_lines line from (after_byte r at byte (first_or_end bytes)) (at + 1) bytes

-- the physical lines from a position on
abbrev pub physical_lines_at : ℕ → ℕ → List ℕ → List PhysicalLine
physical_lines_at line at bytes = physical_lines line at line_start at (drop at bytes)

-- a logical line with a physical line that begins or continues it
abbrev pub extended : Option Logical → PhysicalLine → Logical
extended None p = record { first_line = p.line; from = p.from; to = p.next }
extended (Some l) p = record l { to = p.next }

-- the logical lines of physical lines; the first continues the line that was begun
abbrev pub gather : Option Logical → List PhysicalLine → List Logical
gather None [] = []
gather (Some l) [] = l ∷ []
gather begun (p ∷ ps) = if p.joined then gather (Some (extended begun p)) ps else extended begun p ∷ gather None ps

-- the logical lines of a source
unfoldable pub logicals : List ℕ → List Logical
logicals source = gather None (physical_lines_at 1 (bom_size source) source)

-- the number of blanks at the beginning of a text
abbrev pub blanks : List ℕ → ℕ
blanks [] = 0
blanks (byte ∷ bytes) = if is_blank byte then 1 + blanks bytes else 0

-- whether a text begins with a word, without ASCII case
abbrev pub begins_with : List ℕ → List ℕ → Bool
begins_with text word = same_name (take (length word) text) word

-- whether words are skipped: they begin with $keymanweb: or $kmfl:
abbrev pub begins_other : List ℕ → Bool
begins_other words = begins_with words (codes "$keymanweb:") || begins_with words (codes "$kmfl:")

-- whether a text is skipped, whatever blanks it begins with
unfoldable pub is_skipped : List ℕ → Bool
is_skipped text = begins_other (drop (blanks text) text)

-- the number of bytes that are dropped from a text: its blanks and a $keyman: or $keymanonly: after them
unfoldable pub dropped : List ℕ → ℕ
dropped text =
    let words = drop (blanks text) text in
    if begins_with words (codes "$keyman:") then blanks text + 8
    else if begins_with words (codes "$keymanonly:") then blanks text + 12
    else 0

-- the text of a physical line
abbrev pub physical_text : List ℕ → PhysicalLine → List ℕ
physical_text source p = drop p.from (take p.to source)

-- a physical line as a part, without its first bytes
abbrev pub part_after : ℕ → PhysicalLine → Part
part_after n p = record { line = p.line; from = p.from + n; to = p.to }

-- the parts of a logical line from its first text on: its prefix is dropped, and after a skipping prefix there are no parts; a joining
-- backslash counts as a blank, so blank parts may precede the prefix
abbrev pub opening_parts : List ℕ → List PhysicalLine → List Part
opening_parts source [] = []
opening_parts source (p ∷ ps) =
    if is_skipped (physical_text source p) then []
    else part_after (dropped (physical_text source p)) p
    ∷ (if list_all is_blank (physical_text source p) then opening_parts source ps else map (part_after 0) ps)

-- the physical lines of a logical line
abbrev pub physical_lines_in : List ℕ → Logical → List PhysicalLine
physical_lines_in source l = physical_lines_at l.first_line l.from (take l.to source)

-- the parts of a logical line, which is split into its physical lines again
unfoldable pub parts_in : List ℕ → Logical → List Part
parts_in source l =
    let bytes = take l.to source in
    opening_parts bytes (physical_lines_at l.first_line l.from bytes)
