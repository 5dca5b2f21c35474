-- What a line of the whole Keyman language states, as far as it matters for its rewriting.
use Rattle.std.specs.Prelude.{ℕ, ◌==◌, Bool, false, not, ◌&&◌, ◌||◌, nat_lt, if◌then◌else◌, List, [], ◌∷◌, length, drop, codes, Option, Some, None, option_map, unwrap_or}
use Rattle.std.specs.Str.{byte, str_to_ascii_lowercase}
use Rattle.kmn_items.specs.TokenTexts.{LineToken, text_at, begins_open, is_close}
use Rattle.kmn_parser.specs.Line.{begins_word, place_of, is_use, is_none_left}
use Rattle.kmn_parser.specs.declared.statement.Sign.TheVariants as sign
use Rattle.import_outline.specs.declared.line_kinds.LineKind.{LineKind}
use Rattle.import_outline.specs.declared.line_kinds.LineKind.TheVariants.{Header, CapsHeader, Store, Begin, Group, Match, Rule, Other}
use Rattle.import_outline.specs.declared.line_kinds.Start.{Start}
use Rattle.import_outline.specs.declared.line_kinds.Start.TheVariants.{Keys, Layers, Unnamed}
use Rattle.import_outline.specs.Names.{has_name}

-- the words of old headers, each of which is a system store now
unfoldable pub header_words : List (List ℕ)
header_words =
    codes "NAME" ∷ codes "BITMAP" ∷ codes "VERSION" ∷ codes "COPYRIGHT" ∷ codes "HOTKEY" ∷ codes "MESSAGE" ∷ codes "LANGUAGE" ∷
    codes "LAYOUT" ∷ []

-- the name of the system store of an old header
abbrev pub header_store : List ℕ → List ℕ
header_store word = byte "&" ∷ str_to_ascii_lowercase word

-- a line without > is an old header if its first word is one, and one token follows that is not a parenthesis
abbrev pub header_kind : List LineToken → LineKind
header_kind tokens =
    if has_name header_words (text_at 0 tokens) && length tokens == 2 && not (begins_open (drop 1 tokens)) then Header (header_store (text_at 0 tokens))
    else Other

-- whether tokens are these three words
abbrev pub are_words : List ℕ → List ℕ → List ℕ → List LineToken → Bool
are_words a b c tokens = begins_word a tokens && begins_word b (drop 1 tokens) && begins_word c (drop 2 tokens) && is_none_left (drop 3 tokens)

-- whether tokens are an old header for caps lock
abbrev pub is_caps_header : List LineToken → Bool
is_caps_header tokens =
    are_words (codes "CAPS") (codes "ALWAYS") (codes "OFF") tokens || are_words (codes "CAPS") (codes "ON") (codes "ONLY") tokens
    || are_words (codes "SHIFT") (codes "FREES") (codes "CAPS") tokens

-- whether a parenthesis closes at the first token
abbrev pub begins_close : List LineToken → Bool
begins_close [] = false
begins_close (token ∷ tokens) = is_close token.kind

-- whether ( name ) follows the first token
abbrev pub is_named : List LineToken → Bool
is_named tokens = begins_open (drop 1 tokens) && begins_close (drop 3 tokens)

-- the events that a begin statement with this word is for
abbrev pub start_of : List LineToken → Option Start
start_of tokens =
    if begins_word (codes "Unicode") tokens || begins_word (codes "ANSI") tokens then Some Keys
    else if begins_word (codes "NewContext") tokens || begins_word (codes "PostKeystroke") tokens then Some Layers
    else None

-- begin WORD > use(group), begin > use(group), given the index of the first >
abbrev pub begin_kind : ℕ → List LineToken → LineKind
begin_kind arrow tokens =
    if arrow == 2 && is_use (drop 3 tokens) then unwrap_or (option_map (λ (start : Start). Begin start (text_at 5 tokens)) (start_of (drop 1 tokens))) Other
    else if arrow == 1 && is_use (drop 2 tokens) then Begin Unnamed (text_at 4 tokens)
    else Other

-- whether tokens are `readonly`
abbrev pub is_readonly : List LineToken → Bool
is_readonly tokens = begins_word (codes "readonly") tokens && is_none_left (drop 1 tokens)

-- group ( name ) and what follows
abbrev pub group_kind : List LineToken → LineKind
group_kind tokens = if is_named tokens then Group (text_at 2 tokens) (is_readonly (drop 4 tokens)) else Other

-- store ( name ) and what follows
abbrev pub store_kind : List LineToken → LineKind
store_kind tokens = if is_named tokens then Store (text_at 2 tokens) else Other

-- whether tokens have a >
abbrev pub has_arrow : List LineToken → Bool
has_arrow tokens = nat_lt (place_of sign.Arrow tokens) (length tokens)

-- a line that begins with no word of a statement
abbrev pub plain_kind : List LineToken → LineKind
plain_kind tokens = if has_arrow tokens then Rule else if is_caps_header tokens then CapsHeader else header_kind tokens

-- the kind of a line by its tokens
abbrev pub line_kind : List LineToken → LineKind
line_kind tokens =
    if begins_word (codes "store") tokens then store_kind tokens
    else if begins_word (codes "begin") tokens then begin_kind (place_of sign.Arrow tokens) tokens
    else if begins_word (codes "group") tokens then group_kind tokens
    else if begins_word (codes "match") tokens || begins_word (codes "nomatch") tokens then Match
    else plain_kind tokens
