-- Forms: lists of the required tokens, and the first token that breaks a form.
use Rattle.std.specs.Prelude.{ℕ, ◌+◌, min, Bool, true, false, not, ◌&&◌, ◌||◌, if◌then◌else◌, List, [], ◌∷◌, drop, Option, Some, None}
use Rattle.kmn_base.specs.declared.codes.Code.{Code}
use Rattle.kmn_base.specs.declared.codes.Code.TheVariants.{L04, S02, S11}
use Rattle.kmn_items.specs.declared.syntax.TokenRefusal.{TokenRefusal}
use Rattle.kmn_items.specs.declared.syntax.Slot.{Slot}
use Rattle.kmn_items.specs.declared.syntax.Slot.TheVariants as slot
use Rattle.kmn_items.specs.TokenTexts.{LineToken, fault, is_quoted, is_word, is_wordy, is_open, is_close, is_bracket_close, is_comma, is_equal, is_unequal}
use Rattle.kmn_items.specs.Words.{bare_name, is_name, is_key_name}
use Rattle.kmn_items.specs.Numbers.{is_offset}

abbrev pub unless : Bool → Code → Option Code
unless true code = None
unless false code = Some code

-- the rule that a token breaks as an offset: a word or number must be an offset, and no other token is one
abbrev pub offset_fault : LineToken → Option Code
offset_fault token = if is_wordy token.kind then unless (is_offset token.text) L04 else Some S02

-- the rule that a token breaks at an index of a form
abbrev pub slot_fault : Slot → LineToken → Option Code
slot_fault slot.Lead token = None
slot_fault slot.DollarName token = unless (is_name (drop 1 token.text)) S02
slot_fault slot.Open token = unless (is_open token.kind) S02
slot_fault slot.Close token = unless (is_close token.kind) S02
slot_fault slot.Comma token = unless (is_comma token.kind) S02
slot_fault slot.Equal token = unless (is_equal token.kind) S02
slot_fault slot.Comparison token = unless (is_equal token.kind || is_unequal token.kind) S02
slot_fault slot.Name token = unless (is_wordy token.kind && is_name token.text) S02
slot_fault slot.StoreName token = unless (is_wordy token.kind && is_name (bare_name token.text)) S02
slot_fault slot.Offset token = offset_fault token
slot_fault slot.Value token = unless (is_quoted token.kind) S02
slot_fault slot.Argument token = unless (not (is_close token.kind)) S02
slot_fault slot.KeyName token = unless (is_word token.kind && is_key_name token.text) S11
slot_fault slot.KeyEnd token = unless (is_bracket_close token.kind) S11

-- the rule that is broken if the tokens end before an index of a form
abbrev pub cut_code : Slot → Code
cut_code slot.KeyName = S11
cut_code slot.KeyEnd = S11
cut_code other = S02

-- the fault of one token, else a later fault
abbrev pub or_fault : ℕ → Option Code → Option TokenRefusal → Option TokenRefusal
or_fault at (Some code) later = Some (fault at code)
or_fault at None later = later

-- the first token that breaks a form, from the index `at` on; if the tokens end too soon, this is the token after them, or the line's
-- last token, at `last`
abbrev pub broken : ℕ → ℕ → List Slot → List LineToken → Option TokenRefusal
broken last at [] tokens = None
broken last at (slot ∷ slots) [] = Some (fault (min at last) (cut_code slot))
broken last at (slot ∷ slots) (token ∷ tokens) = or_fault at (slot_fault slot token) (broken last (at + 1) slots tokens)
