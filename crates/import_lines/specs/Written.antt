-- How a line that became another one is written, and when this counts.
use Rattle.std.specs.Prelude.{is_some, not, nat_eq, nat_le, ◌&&◌, Option, Some, None, ℕ, ◌+◌, ◌==◌, Bool, true, false, ◌||◌, if◌then◌else◌, List, [], ◌∷◌, ◌++◌, length, take, flat_map, codes}
use Rattle.std.specs.List.{list_all}
use Rattle.std.specs.Bool.{beq}
use Rattle.std.specs.Str.{is_utf8}
use Rattle.kmn_base.specs.Bytes.{is_blank}
use Rattle.kmn_base.specs.declared.limits.TheConstants.{TEXT_BYTES}
use Rattle.kmn_lines.specs.Bytes.{first_or_end}
use Rattle.kmn_lines.specs.Lines.{ends_line, physical_lines_at, physical_lines_in, physical_text, dropped, logicals}
use Rattle.kmn_lines.specs.Laws.{bytes_between, last_or}
use Rattle.kmn_lines.specs.Tokens.{line_tokens, line_refusal}
use Rattle.kmn_lines.specs.declared.line_state.PhysicalLine.{PhysicalLine}
use Rattle.kmn_lines.specs.declared.logical.Logical.{Logical}
use Rattle.kmn_lines.specs.declared.token.TokenKind.{TokenKind}
use Rattle.kmn_items.specs.TokenTexts.{LineToken, with_texts, is_open, is_close, is_comma, is_bracket_close}
use Rattle.import_tokens.specs.Bounds.{is_bracket_open}
use Rattle.import_lines.specs.declared.change_kind.ChangeKind.{ChangeKind}
use Rattle.import_lines.specs.declared.rewrite.Form.{Form}
use Rattle.import_lines.specs.declared.rewrite.Form.TheVariants.{Unchanged, Rebuilt, WebOnly, Commented}
use Rattle.import_lines.specs.declared.rewrite.Rewrite.{Rewrite}
use Rattle.import_lines.specs.declared.rewrite.WrittenLine.{WrittenLine}
use Rattle.import_outline.specs.declared.outline.Outline.{Outline}
use Rattle.import_lines.specs.declared.in_group.InGroup.{InGroup}
use Rattle.import_tokens.specs.Scan.{tokens_of}
use Rattle.import_outline.specs.LineKinds.{line_kind}
use Rattle.import_lines.specs.Rewrites.{same_texts, line_rewrite, group_after}

-- whether no blank is written before a token: before ( ) ] and a comma
abbrev pub is_unspaced : TokenKind → Bool
is_unspaced kind = is_open kind || is_close kind || is_bracket_close kind || is_comma kind

-- the text of a token, after a blank unless the token is joined to the one before
abbrev pub spaced_token : Bool → LineToken → List ℕ
spaced_token joined token = (if joined || is_unspaced token.kind then [] else 32 ∷ []) ++ token.text

-- the texts of tokens with a blank before each, but not before the first, before ( ) ] and a comma, and after ( and [
abbrev pub spaced : Bool → List LineToken → List ℕ
spaced joined [] = []
spaced joined (token ∷ tokens) = spaced_token joined token ++ spaced (is_open token.kind || is_bracket_open token.kind) tokens

-- the prefix before the first text of a logical line
abbrev pub prefix : List ℕ → List PhysicalLine → List ℕ
prefix source [] = []
prefix source (p ∷ ps) =
    let text = physical_text source p in
    if list_all is_blank text then prefix source ps else take (dropped text) text

-- the rest of a physical line, with a blank before its comment or its backslash
abbrev pub before_rest : List ℕ → List ℕ
before_rest rest = if (first_or_end rest == 10) || (first_or_end rest == 13) then rest else 32 ∷ rest

-- a text in the last of physical lines: of the lines only backslashes, comments and line ends are kept
abbrev pub in_last_line : List ℕ → List ℕ → List PhysicalLine → List ℕ
in_last_line source text [] = []
in_last_line source text (p ∷ []) = text ++ before_rest (bytes_between source p.to p.next)
in_last_line source text (p ∷ q ∷ ps) = bytes_between source p.to p.next ++ in_last_line source text (q ∷ ps)

-- a prefix with a blank after it
abbrev pub spaced_prefix : List ℕ → List ℕ
spaced_prefix [] = []
spaced_prefix (b ∷ bs) = (b ∷ bs) ++ 32 ∷ []

-- a logical line with other tokens
abbrev pub rebuilt_line : List ℕ → Logical → List LineToken → List ℕ
rebuilt_line source l tokens =
    let ps = physical_lines_in source l in
    in_last_line source (spaced_prefix (prefix source ps) ++ spaced true tokens) ps

-- whether bytes are one logical line without a fault that has these tokens, given their logical lines
abbrev pub is_read_as : List LineToken → List ℕ → List Logical → Bool
is_read_as tokens line [] = false
is_read_as tokens line (l ∷ []) = not (is_some (line_refusal line l)) && same_texts tokens (with_texts line (line_tokens line l))
is_read_as tokens line (l ∷ m ∷ ls) = false

-- whether bytes are a line that is read as these tokens, and no longer than a source
abbrev pub is_line_of : List LineToken → List ℕ → Bool
is_line_of tokens line = nat_le (length line) TEXT_BYTES && is_utf8 line && is_read_as tokens line (logicals line)

-- physical lines as comments
abbrev pub commented_line : List ℕ → List PhysicalLine → List ℕ
commented_line source ps = flat_map (λ (p : PhysicalLine). codes "c " ++ bytes_between source p.from p.next) ps

-- the bytes of a logical line
abbrev pub line_bytes : List ℕ → Logical → List ℕ
line_bytes source l = bytes_between source l.from l.to

-- a logical line after `$keymanweb:`; a line with its own prefix is a comment
abbrev pub web_only_line : List ℕ → Logical → List ℕ
web_only_line source l =
    let ps = physical_lines_in source l in
    if length (prefix source ps) == 0 then codes "$keymanweb: " ++ line_bytes source l else commented_line source ps

-- the bytes of a line in a form; None if it is kept, or if it would not be read as its tokens
abbrev pub form_bytes : List ℕ → Logical → Form → Option (List ℕ)
form_bytes source l Unchanged = None
form_bytes source l WebOnly = Some (web_only_line source l)
form_bytes source l Commented = Some (commented_line source (physical_lines_in source l))
form_bytes source l (Rebuilt tokens) =
    let line = rebuilt_line source l tokens in
    if is_line_of tokens line then Some line else None

-- whether bytes begin with an LF
abbrev pub begins_lf : List ℕ → Bool
begins_lf [] = false
begins_lf (b ∷ bs) = b == 10

-- whether bytes end with a CR, which ends a line unless an LF follows
abbrev pub ends_cr : List ℕ → Bool
ends_cr [] = false
ends_cr (b ∷ []) = b == 13
ends_cr (b ∷ c ∷ bs) = ends_cr (c ∷ bs)

-- the number of lines that end in bytes, without a CR at their end
abbrev pub inner_ends : List ℕ → ℕ
inner_ends [] = 0
inner_ends (b ∷ []) = if b == 10 then 1 else 0
inner_ends (b ∷ c ∷ bs) = (if ends_line b c then 1 else 0) + inner_ends (c ∷ bs)

-- whether bytes end with a line end
abbrev pub ends_whole : List ℕ → Bool
ends_whole bytes = ends_cr bytes || (last_or 0 bytes == 10)

-- whether a backslash joins bytes with the next line
abbrev pub ends_joined : List PhysicalLine → Bool
ends_joined [] = false
ends_joined (p ∷ []) = p.joined
ends_joined (p ∷ q ∷ ps) = ends_joined (q ∷ ps)

-- whether there is no byte
abbrev pub is_empty : List ℕ → Bool
is_empty [] = true
is_empty (b ∷ bs) = false

-- whether as many lines end in bytes as in others, and they begin and end with the same ones, given whether a backslash joins each with the
-- next line
abbrev pub has_same_ends : List ℕ → List ℕ → Bool → Bool → Bool
has_same_ends old new old_joined new_joined =
    nat_eq (inner_ends new) (inner_ends old) && (beq (begins_lf new) (begins_lf old) && (beq (ends_cr new) (ends_cr old) && (beq (is_empty new) (is_empty old)
    && (beq (ends_whole new) (ends_whole old) && beq new_joined old_joined))))

-- the same, with whether a backslash joins the bytes themselves with the next line
abbrev pub has_same_line_ends : List ℕ → List ℕ → Bool
has_same_line_ends old new = has_same_ends old new (ends_joined (physical_lines_at 1 0 old)) (ends_joined (physical_lines_at 1 0 new))

-- whether new bytes can replace old ones between lines: they are UTF-8 and no longer than a source, and their line ends are the same
abbrev pub can_replace : List ℕ → List ℕ → Bool
can_replace old new = nat_le (length new) TEXT_BYTES && is_utf8 new && has_same_line_ends old new

-- a line that is kept
abbrev pub unchanged_line : List ℕ → WrittenLine
unchanged_line old = record { bytes = old; kinds = [] }

-- new bytes with their changes if they can replace the old ones, else the old ones
abbrev pub if_same_line_ends : List ℕ → List ChangeKind → Option (List ℕ) → WrittenLine
if_same_line_ends old kinds None = unchanged_line old
if_same_line_ends old [] (Some new) = unchanged_line old
if_same_line_ends old (kind ∷ kinds) (Some new) = if can_replace old new then record { bytes = new; kinds = kind ∷ kinds } else unchanged_line old

-- a logical line after its rewrite
abbrev pub written_line : List ℕ → Logical → Rewrite → WrittenLine
written_line source l r = if_same_line_ends (line_bytes source l) r.kinds (form_bytes source l r.form)

-- a logical line after its rewrite in the group before it, and the group after it
abbrev pub line_in_group : List ℕ → Outline → List ℕ → Logical → InGroup
line_in_group source outline group l =
    let tokens = tokens_of source l in
    let here = group_after group (line_kind tokens) in
    record { line = written_line source l (line_rewrite outline here tokens); group = here }
