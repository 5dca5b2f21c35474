-- The words of the language: those that begin an item, names, and the words in a virtual key.
use Rattle.std.specs.Prelude.{ℕ, Bool, false, ◌&&◌, ◌||◌, nat_le, nat_lt, nat_eq, if◌then◌else◌, List, [], ◌∷◌, length, take, drop, codes, Option, Some, is_some}
use Rattle.std.specs.Str.{byte}
use Rattle.kmn_base.specs.Names.{same_name, named_in}
use Rattle.kmn_base.specs.Texts.{character_count}
use Rattle.kmn_base.specs.declared.limits.TheConstants.{SOURCE_NAME_CHARS}
use Rattle.virtual_keys.specs.Dictionary.{name_chars}
use Rattle.virtual_keys.specs.Keys.{key_code, shift_flag}
use Rattle.kmn_items.specs.declared.syntax.ItemWord.{ItemWord}
use Rattle.kmn_items.specs.declared.syntax.ItemWord.TheVariants as word

-- each word that begins an item
unfoldable pub item_words : List (List ℕ × ItemWord)
item_words =
    (codes "dk", word.Dead) ∷ (codes "deadkey", word.Dead) ∷ (codes "any", word.Any) ∷ (codes "notany", word.NotAny) ∷
    (codes "index", word.Index) ∷ (codes "context", word.Context) ∷ (codes "if", word.If) ∷ (codes "nul", word.Nul) ∷
    (codes "outs", word.Outs) ∷ (codes "use", word.Use) ∷ (codes "set", word.Set) ∷ (codes "save", word.Save) ∷
    (codes "reset", word.Reset) ∷ (codes "beep", word.Beep) ∷ (codes "return", word.Return) ∷ (codes "call", word.Call) ∷
    (codes "switch", word.Switch) ∷ (codes "clearcontext", word.ClearContext) ∷ (codes "fix", word.Fix) ∷
    (codes "layer", word.Layer) ∷ (codes "platform", word.Platform) ∷ (codes "baselayout", word.BaseLayout) ∷ []

-- whether a text begins with a byte
abbrev pub begins_with : ℕ → List ℕ → Bool
begins_with wanted [] = false
begins_with wanted (b ∷ bs) = nat_eq b wanted

-- the item word that a text is, in any ASCII case; a text that begins with `$` is one too
abbrev pub item_word : List ℕ → Option ItemWord
item_word text =
    if begins_with (byte "$") text then Some word.Dollar
    else named_in item_words text

-- whether a name is the name of a system store
abbrev pub is_system_name : List ℕ → Bool
is_system_name text = begins_with (byte "&") text

-- a name without the `&` of a system store
abbrev pub bare_name : List ℕ → List ℕ
bare_name text = if is_system_name text then drop 1 text else text

-- whether a name has 1 to 80 characters
abbrev pub is_name : List ℕ → Bool
is_name text = nat_lt 0 (character_count text) && nat_le (character_count text) SOURCE_NAME_CHARS

-- whether a word is `T_` and at least one more character, of at most 80 characters
abbrev pub is_touch_name : List ℕ → Bool
is_touch_name text = same_name (take 2 text) (codes "T_") && nat_lt 2 (length text) && nat_le (character_count text) SOURCE_NAME_CHARS

-- whether a word names a custom key
abbrev pub is_own_key : List ℕ → Bool
is_own_key text = is_touch_name text || is_some (name_chars text)

-- whether a word names a key
abbrev pub is_key_name : List ℕ → Bool
is_key_name text = is_some (key_code text) || is_own_key text

-- whether a word is a modifier
abbrev pub is_modifier : List ℕ → Bool
is_modifier text = is_some (shift_flag text)
