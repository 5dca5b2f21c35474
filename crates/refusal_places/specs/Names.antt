-- The token of a line that names a store or a group that is not defined anywhere.
use Rattle.std.specs.Prelude.{ℕ, nat_eq, ◌==◌, Bool, false, not, ◌&&◌, ◌||◌, if◌then◌else◌, List, [], ◌∷◌, length, codes, Option, None, Some}
use Rattle.kmn_base.specs.Names.{same_name}
use Rattle.kmn_base.specs.declared.codes.Code.{Code}
use Rattle.kmn_base.specs.declared.codes.Code.TheVariants.{C05, C06}
use Rattle.kmn_lines.specs.declared.token.Token.{Token}
use Rattle.kmn_items.specs.TokenTexts.{is_open, text_of}
use Rattle.source_names.specs.declared.causes.Cause.{Cause}
use Rattle.source_names.specs.declared.causes.Cause.TheVariants as because
use Rattle.source_names.specs.declared.causes.NameFault.{NameFault}

-- the name that a cause lacks, and the one that the cause at a line lacks
abbrev pub name_of : Cause → List ℕ
name_of (because.NoStore name) = name
name_of (because.NoGroup name) = name
name_of (because.Broken code) = []

abbrev pub name_at : ℕ → List NameFault → List ℕ
name_at line [] = []
name_at line (fault ∷ faults) = if nat_eq fault.line line then name_of fault.cause else name_at line faults

-- whether a word stands before the parenthesis of a store name: there is one, and it is not that of another name
abbrev pub is_store_word : List ℕ → Bool
is_store_word word =
    not ((length word == 0) || same_name (codes "use") word || same_name (codes "dk") word || same_name (codes "deadkey") word
    || same_name (codes "call") word)

-- whether a text is $ and a name
abbrev pub is_dollar_name : List ℕ → List ℕ → Bool
is_dollar_name name [] = false
is_dollar_name name (byte ∷ bytes) = nat_eq byte 36 && same_name name bytes

-- whether the text of a token is a store name (C05) or a group name (C06), behind a parenthesis that follows a word
abbrev pub names : Code → List ℕ → List ℕ → List ℕ → Bool
names C05 word name text = (is_store_word word && same_name name text) || is_dollar_name name text
names C06 word name text = same_name (codes "use") word && same_name name text
names other word name text = false

-- the word before a parenthesis, for the text before a token
abbrev pub opened_by : List ℕ → Token → List ℕ
opened_by previous token = if is_open token.kind then previous else []

-- the first token that has a name, behind a text and behind the word of a parenthesis that opens there
abbrev pub named_token : List ℕ → Code → List ℕ → List ℕ → List ℕ → List Token → Option Token
named_token source code name previous word [] = None
named_token source code name previous word (token ∷ tokens) =
    if names code word name (text_of source token) then Some token
    else named_token source code name (text_of source token) (opened_by previous token) tokens
