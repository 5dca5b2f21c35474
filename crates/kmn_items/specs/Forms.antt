-- The forms of the items that begin with a word, and the items that they denote.
use Rattle.std.specs.Prelude.{ℕ, Bool, false, ◌||◌, nat_eq, if◌then◌else◌, List, [], ◌∷◌, drop, slice_get, unwrap_or, option_map, codes, Option, Some, None}
use Rattle.kmn_base.specs.Names.{named_in}
use Rattle.rule_model.specs.declared.program.SrcItem.{SrcItem}
use Rattle.rule_model.specs.declared.program.SrcItem.TheVariants as source
use Rattle.kmn_items.specs.declared.syntax.Where.{Where}
use Rattle.kmn_items.specs.declared.syntax.Where.TheVariants as section
use Rattle.kmn_items.specs.declared.syntax.ItemWord.{ItemWord}
use Rattle.kmn_items.specs.declared.syntax.ItemWord.TheVariants as word
use Rattle.kmn_items.specs.declared.syntax.Slot.{Slot}
use Rattle.kmn_items.specs.declared.syntax.Slot.TheVariants as slot
use Rattle.kmn_items.specs.TokenTexts.{LineToken, text_at, is_equal, quoted}
use Rattle.kmn_items.specs.Words.{is_system_name, bare_name}
use Rattle.kmn_items.specs.Numbers.{offset_value}
use Rattle.rule_model.specs.declared.system.TheConstants.{LAYER, PLATFORM}

-- the form of the item of each word, its own word first
abbrev pub word_slots : ItemWord → List Slot
word_slots word.Dead = slot.Lead ∷ slot.Open ∷ slot.Name ∷ slot.Close ∷ []
word_slots word.Any = slot.Lead ∷ slot.Open ∷ slot.Name ∷ slot.Close ∷ []
word_slots word.NotAny = slot.Lead ∷ slot.Open ∷ slot.Name ∷ slot.Close ∷ []
word_slots word.Index = slot.Lead ∷ slot.Open ∷ slot.Name ∷ slot.Comma ∷ slot.Offset ∷ slot.Close ∷ []
word_slots word.Context = slot.Lead ∷ []
word_slots word.ContextAt = slot.Lead ∷ slot.Open ∷ slot.Offset ∷ slot.Close ∷ []
word_slots word.If = slot.Lead ∷ slot.Open ∷ slot.StoreName ∷ slot.Comparison ∷ slot.Value ∷ slot.Close ∷ []
word_slots word.Nul = slot.Lead ∷ []
word_slots word.Outs = slot.Lead ∷ slot.Open ∷ slot.Name ∷ slot.Close ∷ []
word_slots word.Dollar = slot.DollarName ∷ []
word_slots word.Use = slot.Lead ∷ slot.Open ∷ slot.Name ∷ slot.Close ∷ []
word_slots word.Set = slot.Lead ∷ slot.Open ∷ slot.StoreName ∷ slot.Equal ∷ slot.Value ∷ slot.Close ∷ []
word_slots word.Save = slot.Lead ∷ slot.Open ∷ slot.Name ∷ slot.Close ∷ []
word_slots word.Reset = slot.Lead ∷ slot.Open ∷ slot.Name ∷ slot.Close ∷ []
word_slots word.Beep = slot.Lead ∷ []
word_slots word.Return = slot.Lead ∷ []
word_slots word.Call = slot.Lead ∷ slot.Open ∷ slot.Argument ∷ slot.Close ∷ []
word_slots word.Switch = slot.Lead ∷ slot.Open ∷ slot.Argument ∷ slot.Close ∷ []
word_slots word.ClearContext = slot.Lead ∷ []
word_slots word.Fix = slot.Lead ∷ []
word_slots word.Layer = slot.Lead ∷ slot.Open ∷ slot.Value ∷ slot.Close ∷ []
word_slots word.Platform = slot.Lead ∷ slot.Open ∷ slot.Value ∷ slot.Close ∷ []
word_slots word.BaseLayout = slot.Lead ∷ slot.Open ∷ slot.Argument ∷ slot.Close ∷ []

-- whether the token at an index is `=`
abbrev pub equal_at : ℕ → List LineToken → Bool
equal_at place tokens = unwrap_or (option_map (λ (token : LineToken). is_equal token.kind) (slice_get tokens place)) false

-- the system options that an item can name after `&`, each with its id
unfoldable pub option_ids : List (List ℕ × ℕ)
option_ids = (codes "platform", PLATFORM) ∷ (codes "layer", LAYER) ∷ []

-- the id of the system option with a name; None for another system store
abbrev pub option_id : List ℕ → Option ℕ
option_id name = named_in option_ids (bare_name name)

-- whether an id is the id of a system option
abbrev pub is_option_id : ℕ → Bool
is_option_id id = nat_eq id PLATFORM || nat_eq id LAYER

-- a condition on a system option; other system stores are not supported
abbrev pub system_condition : Option ℕ → Bool → List ℕ → SrcItem
system_condition None equal value = source.OutOfProfile
system_condition (Some id) equal value = if equal then source.SystemEqual id value else source.SystemUnequal id value

-- a condition on a store or a system option
abbrev pub condition : List ℕ → Bool → List ℕ → SrcItem
condition name equal value =
    if is_system_name name then system_condition (option_id name) equal value
    else (if equal then source.Equal name value else source.Unequal name value)

-- a `set` of a system option; only the layer is supported
abbrev pub system_setting : Option ℕ → List ℕ → SrcItem
system_setting None value = source.OutOfProfile
system_setting (Some id) value = if nat_eq id LAYER then source.SetSystem id value else source.OutOfProfile

-- a `set` of a store or of the layer
abbrev pub setting : List ℕ → List ℕ → SrcItem
setting name value = if is_system_name name then system_setting (option_id name) value else source.Set name value

-- the item of `layer`: it sets the layer in an output, and is a condition elsewhere
abbrev pub layer_item : Where → List ℕ → SrcItem
layer_item section.Output value = source.SetSystem LAYER value
layer_item place value = source.SystemEqual LAYER value

-- the item of a word in a section, from tokens in its form; the word has the index 0
abbrev pub word_item : Where → ItemWord → List LineToken → SrcItem
word_item place word.Dead tokens = source.Dead (text_at 2 tokens)
word_item place word.Any tokens = source.Any (text_at 2 tokens)
word_item place word.NotAny tokens = source.NotAny (text_at 2 tokens)
word_item place word.Index tokens = source.Index (text_at 2 tokens) (offset_value (text_at 4 tokens))
word_item place word.Context tokens = source.Context
word_item place word.ContextAt tokens = source.ContextAt (offset_value (text_at 2 tokens))
word_item place word.If tokens = condition (text_at 2 tokens) (equal_at 3 tokens) (quoted (text_at 4 tokens))
word_item place word.Nul tokens = source.Nul
word_item place word.Outs tokens = source.Outs (text_at 2 tokens)
word_item place word.Dollar tokens = source.Outs (drop 1 (text_at 0 tokens))
word_item place word.Use tokens = source.Enter (text_at 2 tokens)
word_item place word.Set tokens = setting (text_at 2 tokens) (quoted (text_at 4 tokens))
word_item place word.Save tokens = source.Save (text_at 2 tokens)
word_item place word.Reset tokens = source.Reset (text_at 2 tokens)
word_item place word.Beep tokens = source.Beep
word_item place word.Return tokens = source.Stop
word_item place word.Call tokens = source.Call (text_at 2 tokens)
word_item place word.Layer tokens = layer_item place (quoted (text_at 2 tokens))
word_item place word.Platform tokens = source.SystemEqual PLATFORM (quoted (text_at 2 tokens))
word_item place other tokens = source.OutOfProfile
