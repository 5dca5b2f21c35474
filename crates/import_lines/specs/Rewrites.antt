-- What a line becomes.
use Rattle.std.specs.Prelude.{ℕ, ◌+◌, ◌==◌, bytes_eq, Bool, true, false, not, ◌&&◌, if◌then◌else◌, List, [], ◌∷◌, ◌++◌, length, take, drop, map, codes}
use Rattle.kmn_base.specs.declared.limits.TheConstants.{STORE_ELEMENTS}
use Rattle.kmn_base.specs.Names.{same_name}
use Rattle.kmn_items.specs.TokenTexts.{LineToken, is_quoted, inside}
use Rattle.kmn_parser.specs.Line.{place_of}
use Rattle.kmn_parser.specs.Texts.{word, opening, closing, quoted_token}
use Rattle.kmn_parser.specs.declared.statement.Sign.TheVariants as sign
use Rattle.import_tokens.specs.Bounds.{no_token}
use Rattle.import_tokens.specs.Ranges.{without_ranges}
use Rattle.import_tokens.specs.Keys.{with_key_names}
use Rattle.import_lines.specs.declared.change_kind.ChangeKind.{ChangeKind}
use Rattle.import_lines.specs.declared.change_kind.ChangeKind.TheVariants as change
use Rattle.import_outline.specs.declared.line_kinds.LineKind.{LineKind}
use Rattle.import_outline.specs.declared.line_kinds.LineKind.TheVariants.{Header, CapsHeader, Store, Begin, Group, Match, Rule, Other}
use Rattle.import_outline.specs.declared.line_kinds.Start.{Start}
use Rattle.import_outline.specs.declared.line_kinds.Start.TheVariants.{Keys, Layers, Unnamed}
use Rattle.import_outline.specs.declared.outline.Outline.{Outline}
use Rattle.import_lines.specs.declared.rewrite.Form.{Form}
use Rattle.import_lines.specs.declared.rewrite.Form.TheVariants.{Unchanged, Rebuilt, WebOnly, Commented}
use Rattle.import_lines.specs.declared.rewrite.Rewrite.{Rewrite}
use Rattle.import_lines.specs.declared.rewrite.Changed.{Changed}
use Rattle.import_outline.specs.Names.{has_name}
use Rattle.import_outline.specs.LineKinds.{line_kind}
use Rattle.import_outline.specs.Outline.{is_web_only, is_plain_readonly, begins_context}

-- a rewrite with one change
abbrev pub rewrite : Form → ChangeKind → Rewrite
rewrite form kind = record { form = form; kinds = kind ∷ [] }

-- a line that is kept as it is
abbrev pub unchanged : Rewrite
unchanged = record { form = Unchanged; kinds = [] }

-- whether two lists of tokens have the same texts
abbrev pub same_texts : List LineToken → List LineToken → Bool
same_texts [] [] = true
same_texts [] (u ∷ us) = false
same_texts (t ∷ ts) [] = false
same_texts (t ∷ ts) (u ∷ us) = bytes_eq t.text u.text && same_texts ts us

-- tokens after another step, with the kind of its change if it changed a text
abbrev pub and_changed : ChangeKind → List LineToken → Changed → Changed
and_changed kind tokens c = record { tokens = tokens; kinds = if same_texts c.tokens tokens then c.kinds else c.kinds ++ kind ∷ [] }

-- tokens without a change
abbrev pub not_changed : List LineToken → Changed
not_changed tokens = record { tokens = tokens; kinds = [] }

-- the items of a rule: each key has a name
abbrev pub rule_items : Changed → Changed
rule_items c = and_changed change.Key (with_key_names no_token c.tokens) c

-- the items of a store: each key has a name, and ranges are written out
abbrev pub store_items : Changed → Changed
store_items c =
    let named = rule_items c in
    and_changed change.Range (without_ranges STORE_ELEMENTS no_token named.tokens) named

-- a line that is written from its tokens if they were changed
abbrev pub rebuilt : Changed → Rewrite
rebuilt c = if length c.kinds == 0 then unchanged else record { form = Rebuilt c.tokens; kinds = c.kinds }

-- the versions that are older than those that a file can have
unfoldable pub old_versions : List (List ℕ)
old_versions = codes "1.0" ∷ codes "2.0" ∷ codes "3.0" ∷ codes "3.1" ∷ codes "3.2" ∷ codes "4.0" ∷ codes "5.0" ∷ codes "5.01" ∷ []

-- the text of a value, without its quotes
abbrev pub bare_text : LineToken → List ℕ
bare_text token = if is_quoted token.kind then inside token.text else token.text

-- whether tokens are one value that is an old version
abbrev pub is_old_version : List LineToken → Bool
is_old_version (token ∷ []) = has_name old_versions (bare_text token)
is_old_version other = false

-- the system stores for caps lock
unfoldable pub caps_stores : List (List ℕ)
caps_stores = codes "&capsalwaysoff" ∷ codes "&capsononly" ∷ codes "&shiftfreescaps" ∷ []

-- whether tokens are one value that is 1
abbrev pub is_one : List LineToken → Bool
is_one (token ∷ []) = bytes_eq (bare_text token) (codes "1")
is_one other = false

-- whether a store of these tokens states a mnemonic layout
abbrev pub states_mnemonic : List ℕ → List LineToken → Bool
states_mnemonic name tokens = same_name name (codes "&mnemoniclayout") && is_one (drop 4 tokens)

-- whether it does, in a source without a list of cased keys
abbrev pub is_mnemonic : Outline → List ℕ → List LineToken → Bool
is_mnemonic outline name tokens = states_mnemonic name tokens && not (has_name outline.stores (codes "&casedkeys"))

-- a store statement
abbrev pub store_line : Outline → List ℕ → List LineToken → Rewrite
store_line outline name tokens =
    if has_name caps_stores name then rewrite Commented change.Caps
    else if same_name name (codes "&version") && is_old_version (drop 4 tokens) then rewrite Commented change.Version
    else if is_mnemonic outline name tokens then rewrite Commented change.Mnemonic
    else rebuilt (store_items (not_changed tokens))

-- the value of an old header in quotes
abbrev pub in_quotes : LineToken → LineToken
in_quotes token = if is_quoted token.kind then token else quoted_token 34 token.text

-- the statement of the system store of an old header
abbrev pub store_tokens : List ℕ → List LineToken → List LineToken
store_tokens store values = word (codes "store") ∷ opening ∷ word store ∷ closing ∷ map in_quotes values

-- an old header
abbrev pub header_line : List ℕ → List LineToken → Rewrite
header_line store tokens =
    if same_name store (codes "&version") && is_old_version (drop 1 tokens) then rewrite Commented change.Version
    else rewrite (Rebuilt (store_tokens store (drop 1 tokens))) change.Header

-- `begin ANSI` of the tokens of a `begin` without a word
abbrev pub ansi_tokens : List LineToken → List LineToken
ansi_tokens tokens = take 1 tokens ++ (word (codes "ANSI") ∷ drop 1 tokens)

-- a begin statement; one for layers is kept if its group is not readonly
abbrev pub begin_line : Outline → Start → List ℕ → List LineToken → Rewrite
begin_line outline Keys group tokens = unchanged
begin_line outline Unnamed group tokens = rewrite (Rebuilt (ansi_tokens tokens)) change.Begin
begin_line outline Layers group tokens = if has_name outline.readonly group then rewrite WebOnly change.Layer else unchanged

-- a group statement; a readonly group that keys reach loses its `readonly`
abbrev pub group_line : Outline → List ℕ → List LineToken → Rewrite
group_line outline name tokens =
    if is_web_only outline name then rewrite WebOnly change.Layer
    else if is_plain_readonly outline name then rewrite (Rebuilt (take 4 tokens)) change.Readonly
    else unchanged

-- tokens with `context` first in the output, given the index of the first >
abbrev pub with_context : ℕ → List LineToken → List LineToken
with_context arrow tokens =
    if begins_context (drop (arrow + 1) tokens) then tokens else take (arrow + 1) tokens ++ (word (codes "context") ∷ drop (arrow + 1) tokens)

-- a rule of a readonly group that keys reach puts again what it matched
abbrev pub giving_back : Bool → List LineToken → Changed
giving_back readonly tokens =
    if readonly then and_changed change.Readonly (with_context (place_of sign.Arrow tokens) tokens) (not_changed tokens) else not_changed tokens

-- a rule in a group
abbrev pub rule_line : Outline → List ℕ → List LineToken → Rewrite
rule_line outline group tokens =
    if is_web_only outline group then rewrite WebOnly change.Layer else rebuilt (rule_items (giving_back (is_plain_readonly outline group) tokens))

-- a match or nomatch in a group
abbrev pub match_line : Outline → List ℕ → List LineToken → Rewrite
match_line outline group tokens = if is_web_only outline group then rewrite WebOnly change.Layer else rebuilt (rule_items (not_changed tokens))

-- a line of a kind in a group
abbrev pub line_of_kind : Outline → List ℕ → LineKind → List LineToken → Rewrite
line_of_kind outline group (Header store) tokens = header_line store tokens
line_of_kind outline group CapsHeader tokens = rewrite Commented change.Caps
line_of_kind outline group (Store name) tokens = store_line outline name tokens
line_of_kind outline group (Begin start entered) tokens = begin_line outline start entered tokens
line_of_kind outline group (Group name readonly) tokens = group_line outline name tokens
line_of_kind outline group Match tokens = match_line outline group tokens
line_of_kind outline group Rule tokens = rule_line outline group tokens
line_of_kind outline group Other tokens = unchanged

-- what a line with these tokens becomes in a group
abbrev pub line_rewrite : Outline → List ℕ → List LineToken → Rewrite
line_rewrite outline group tokens = line_of_kind outline group (line_kind tokens) tokens

-- the group after a line
abbrev pub group_after : List ℕ → LineKind → List ℕ
group_after group (Group name readonly) = name
group_after group _ = group
