-- What a whole source states of its groups and system stores, and the groups that keys reach.
use Rattle.std.specs.Prelude.{ℕ, zero, suc, ◌+◌, Bool, true, false, not, ◌&&◌, ◌||◌, if◌then◌else◌, List, [], ◌∷◌, ◌++◌, length, map, filter, fold, drop, codes}
use Rattle.std.specs.List.{list_all}
use Rattle.kmn_base.specs.Names.{same_name}
use Rattle.kmn_items.specs.TokenTexts.{LineToken, text_at, is_word, is_open, is_close, begins_open}
use Rattle.kmn_lines.specs.Lines.{logicals}
use Rattle.kmn_parser.specs.Line.{begins_word, place_of}
use Rattle.kmn_parser.specs.declared.statement.Sign.TheVariants as sign
use Rattle.import_tokens.specs.Scan.{tokens_of}
use Rattle.import_outline.specs.declared.line_kinds.LineKind.{LineKind}
use Rattle.import_outline.specs.declared.line_kinds.LineKind.TheVariants.{Store, Begin, Group, Match, Rule}
use Rattle.import_outline.specs.declared.line_kinds.Start.TheVariants.{Keys, Layers, Unnamed}
use Rattle.import_outline.specs.declared.outline.Outline.{Outline}
use Rattle.import_outline.specs.declared.outline.GroupUse.{GroupUse}
use Rattle.import_outline.specs.Names.{has_name}
use Rattle.import_outline.specs.LineKinds.{line_kind}

-- before the first line
abbrev pub empty_outline : Outline
empty_outline = record { group = []; for_keys = []; for_layers = []; stated = []; readonly = []; writing = []; uses = []; stores = [] }

-- whether a token is a word, in any ASCII case
abbrev pub is_the_word : List ℕ → LineToken → Bool
is_the_word word token = is_word token.kind && same_name token.text word

-- the group that a `use` item at the beginning of tokens names, with the group that has it
abbrev pub use_at : List ℕ → LineToken → List LineToken → List GroupUse
use_at group token tokens = if is_the_word (codes "use") token && begins_open tokens then record { user = group; used = text_at 1 tokens } ∷ [] else []

-- the groups that the `use` items of an output name
abbrev pub uses_in : List ℕ → List LineToken → List GroupUse
uses_in group [] = []
uses_in group (token ∷ tokens) = use_at group token tokens ++ uses_in group tokens

-- whether a parenthesis is open after a token
abbrev pub inside_after : Bool → LineToken → Bool
inside_after inside token = if is_open token.kind then true else if is_close token.kind then false else inside

-- the words of the items that an output of a readonly group may have
unfoldable pub readonly_words : List (List ℕ)
readonly_words =
    codes "layer" ∷ codes "set" ∷ codes "save" ∷ codes "reset" ∷ codes "use" ∷ codes "nul" ∷ codes "beep" ∷ codes "return" ∷ []

-- whether tokens begin with `context` without a parenthesis after it
abbrev pub begins_context : List LineToken → Bool
begins_context tokens = begins_word (codes "context") tokens && not (begins_open (drop 1 tokens))

-- whether a token is in parentheses, a parenthesis, or a word of readonly groups
abbrev pub is_readonly_token : Bool → LineToken → Bool
is_readonly_token inside token = inside || is_open token.kind || is_close token.kind || (is_word token.kind && has_name readonly_words token.text)

-- whether the tokens outside parentheses are words of readonly groups
abbrev pub are_readonly_items : Bool → List LineToken → Bool
are_readonly_items inside [] = true
are_readonly_items inside (token ∷ tokens) = is_readonly_token inside token && are_readonly_items (inside_after inside token) tokens

-- whether an output changes no text: after a first `context` it has items of readonly groups only
abbrev pub is_readonly_output : List LineToken → Bool
is_readonly_output output = are_readonly_items false (if begins_context output then drop 1 output else output)

-- the tokens after the first >
abbrev pub output_of : List LineToken → List LineToken
output_of tokens = drop (place_of sign.Arrow tokens + 1) tokens

-- an outline with another output of its last group
abbrev pub with_output : Outline → List LineToken → Outline
with_output outline output =
    record outline {
      writing = if is_readonly_output output then outline.writing else outline.writing ++ outline.group ∷ [];
      uses = outline.uses ++ uses_in outline.group output;
    }

-- an outline with another line of a kind
abbrev pub with_kind : Outline → LineKind → List LineToken → Outline
with_kind outline (Begin Keys group) tokens = record outline { for_keys = outline.for_keys ++ group ∷ [] }
with_kind outline (Begin Unnamed group) tokens = record outline { for_keys = outline.for_keys ++ group ∷ [] }
with_kind outline (Begin Layers group) tokens = record outline { for_layers = outline.for_layers ++ group ∷ [] }
with_kind outline (Group name readonly) tokens =
    record outline {
      group = name;
      stated = outline.stated ++ name ∷ [];
      readonly = if readonly then outline.readonly ++ name ∷ [] else outline.readonly;
    }
with_kind outline (Store name) tokens = record outline { stores = outline.stores ++ name ∷ [] }
with_kind outline Match tokens = with_output outline (output_of tokens)
with_kind outline Rule tokens = with_output outline (output_of tokens)
with_kind outline _ tokens = outline

-- an outline with another line
abbrev pub with_line : Outline → List LineToken → Outline
with_line outline tokens = with_kind outline (line_kind tokens) tokens

-- the outline of lines, each given as its tokens
abbrev pub outline_of : List (List LineToken) → Outline
outline_of lines = fold with_line empty_outline lines

-- the outline of a source
abbrev pub source_outline : List ℕ → Outline
source_outline source = outline_of (map (tokens_of source) (logicals source))

-- the groups that groups among names use and that are not among them
abbrev pub new_uses : List GroupUse → List (List ℕ) → List (List ℕ)
new_uses uses names = map (λ (entry : GroupUse). entry.used) (filter (λ (entry : GroupUse). has_name names entry.user && not (has_name names entry.used)) uses)

-- names with the groups that groups among them use
abbrev pub with_used : List GroupUse → List (List ℕ) → List (List ℕ)
with_used uses names = names ++ new_uses uses names

-- the same, a number of times
abbrev pub with_used_times : ℕ → List GroupUse → List (List ℕ) → List (List ℕ)
with_used_times zero uses names = names
with_used_times (suc n) uses names = with_used_times n uses (with_used uses names)

-- all groups that names reach: each step but the last one adds the end of another use
abbrev pub reachable : List GroupUse → List (List ℕ) → List (List ℕ)
reachable uses names = with_used_times (length uses) uses names

-- the groups that are reached without a key
abbrev pub layered_groups : Outline → List (List ℕ)
layered_groups outline = reachable outline.uses outline.for_layers

-- the stated groups that are not reached without a key
abbrev pub unlayered : List (List ℕ) → List (List ℕ) → List (List ℕ)
unlayered layered stated = filter (λ (name : List ℕ). not (has_name layered name)) stated

-- the groups that are kept: those that keys reach, and those that no begin statement reaches
abbrev pub kept_groups : Outline → List (List ℕ)
kept_groups outline = reachable outline.uses (outline.for_keys ++ unlayered (layered_groups outline) outline.stated)

-- whether a group is entered only without a key, so that only the web's engine uses it
abbrev pub is_web_only : Outline → List ℕ → Bool
is_web_only outline name = has_name (layered_groups outline) name && not (has_name (kept_groups outline) name)

-- whether all groups that a group uses are readonly
abbrev pub uses_readonly : List (List ℕ) → List ℕ → List GroupUse → Bool
uses_readonly readonly name uses = list_all (λ (entry : GroupUse). not (same_name name entry.user) || has_name readonly entry.used) uses

-- whether a readonly group that keys reach can be an ordinary group that changes no text
abbrev pub is_plain_readonly : Outline → List ℕ → Bool
is_plain_readonly outline name =
    has_name outline.readonly name && not (is_web_only outline name) && not (has_name outline.writing name) && uses_readonly outline.readonly name outline.uses
