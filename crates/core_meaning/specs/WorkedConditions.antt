-- Conditions on the layer and the platform: what both versions of the engine typed.
use Rattle.std.specs.Prelude.{[], ◌∷◌, ◌++◌, codes}
use Rattle.std.specs.Str.{byte}
use Rattle.rule_model.specs.declared.tables.Tables.{Tables}
use Rattle.rule_model.specs.declared.tables.Pat.TheVariants as pattern
use Rattle.rule_model.specs.declared.tables.Out.TheVariants as output
use Rattle.rule_model.specs.declared.system.TheConstants.{LAYER, PLATFORM}
use Rattle.rule_model.specs.WorkedTraces.{value}
use Rattle.core_meaning.specs.Typed.{file, with_keys, without_keys, on_char, without_key, reads, puts, keys, BothType}

-- + 'a' > `layer('caps')`; `if(&layer = 'caps')` + 'b' > 'B'
abbrev pub layer_set_and_asked_rules : Tables
layer_set_and_asked_rules = file (value (codes "caps") ∷ value (codes "caps") ∷ [])
    (with_keys [] []
    (on_char (pattern.SystemEqual LAYER 1 ∷ []) (byte "b") (puts (codes "B"))
    ∷ on_char [] (byte "a") (output.SetSystem LAYER 0 ∷ []) ∷ [])
    ∷ [])

-- `if(&layer != 'caps')` + 'a' > 'x'
abbrev pub layer_unequal_rules : Tables
layer_unequal_rules = file (value (codes "caps") ∷ [])
    (with_keys [] []
    (on_char (pattern.SystemUnequal LAYER 0 ∷ []) (byte "a") (puts (codes "x")) ∷ [])
    ∷ [])

-- layer('default') + 'a' > 'x'
abbrev pub layer_default_rules : Tables
layer_default_rules = file (value (codes "default") ∷ [])
    (with_keys [] []
    (on_char (pattern.SystemEqual LAYER 0 ∷ []) (byte "a") (puts (codes "x")) ∷ [])
    ∷ [])

-- + 'a' > 'x' layer('shift')
abbrev pub layer_only_set_rules : Tables
layer_only_set_rules = file (value (codes "shift") ∷ [])
    (with_keys [] []
    (on_char [] (byte "a") (puts (codes "x") ++ (output.SetSystem LAYER 0 ∷ [])) ∷ [])
    ∷ [])

-- + 'a' > use(t); group(t); 'q' > 'r'; nomatch > 'n' layer('shift')
abbrev pub layer_in_nomatch_rules : Tables
layer_in_nomatch_rules = file (value (codes "shift") ∷ [])
    (with_keys [] []
    (on_char [] (byte "a") (output.Enter 1 ∷ []) ∷ [])
    ∷ without_keys [] (puts (codes "n") ++ (output.SetSystem LAYER 0 ∷ []))
    (without_key (reads (codes "q")) (puts (codes "r")) ∷ [])
    ∷ [])

-- platform('windows') + 'a' > 'x'; platform('NATIVE Windows') + 'b' > 'y'
abbrev pub platform_word_rules : Tables
platform_word_rules = file (value (codes "windows") ∷ value (codes "NATIVE Windows") ∷ [])
    (with_keys [] []
    (on_char (pattern.SystemEqual PLATFORM 0 ∷ []) (byte "a") (puts (codes "x"))
    ∷ on_char (pattern.SystemEqual PLATFORM 1 ∷ []) (byte "b") (puts (codes "y")) ∷ [])
    ∷ [])

-- platform(' windows') + 'a' > 'x'
abbrev pub platform_blank_ahead_rules : Tables
platform_blank_ahead_rules = file (value (codes " windows") ∷ [])
    (with_keys [] []
    (on_char (pattern.SystemEqual PLATFORM 0 ∷ []) (byte "a") (puts (codes "x")) ∷ [])
    ∷ [])

-- if(&platform != 'touch ') + 'a' > 'x'; if(&platform != 'native ') + 'b' > 'y'
abbrev pub platform_blank_behind_rules : Tables
platform_blank_behind_rules = file (value (codes "touch ") ∷ value (codes "native ") ∷ [])
    (with_keys [] []
    (on_char (pattern.SystemUnequal PLATFORM 0 ∷ []) (byte "a") (puts (codes "x"))
    ∷ on_char (pattern.SystemUnequal PLATFORM 1 ∷ []) (byte "b") (puts (codes "y")) ∷ [])
    ∷ [])

-- platform('windows   native') + 'a' > 'x'
abbrev pub platform_blanks_between_rules : Tables
platform_blanks_between_rules = file (value (codes "windows   native") ∷ [])
    (with_keys [] []
    (on_char (pattern.SystemEqual PLATFORM 0 ∷ []) (byte "a") (puts (codes "x")) ∷ [])
    ∷ [])

-- platform(' ') + 'a' > 'x'
abbrev pub platform_only_blank_rules : Tables
platform_only_blank_rules = file (value (codes " ") ∷ [])
    (with_keys [] []
    (on_char (pattern.SystemEqual PLATFORM 0 ∷ []) (byte "a") (puts (codes "x")) ∷ [])
    ∷ [])

-- the texts after the presses, and which presses were passed on
pub record AreWorkedConditions : Type 0 where
  -- no store has the layer, so a condition on it never holds, and setting it does nothing
  pub layer_set_and_asked : BothType layer_set_and_asked_rules (keys (codes "BAB"))
      (codes "bb") (codes "000")
  -- nor does it hold for unequal
  pub layer_unequal : BothType layer_unequal_rules (keys (codes "A"))
      (codes "a") (codes "0")
  -- nor for the layer that is shown at first
  pub layer_default : BothType layer_default_rules (keys (codes "A"))
      (codes "a") (codes "0")
  -- an output that sets the layer does nothing else with it
  pub layer_only_set : BothType layer_only_set_rules (keys (codes "AA"))
      (codes "xx") (codes "00")
  -- nor does it in a nomatch output
  pub layer_in_nomatch : BothType layer_in_nomatch_rules (keys (codes "AQA"))
      (codes "nr") (codes "000")
  -- the platform has each word of the value, in any case and order
  pub platform_word : BothType platform_word_rules (keys (codes "AB"))
      (codes "xy") (codes "00")
  -- a blank at the front makes an empty word, which no platform has
  pub platform_blank_ahead : BothType platform_blank_ahead_rules (keys (codes "A"))
      (codes "a") (codes "0")
  -- so does a blank at the end, and then the platform is unequal
  pub platform_blank_behind : BothType platform_blank_behind_rules (keys (codes "AB"))
      (codes "xy") (codes "00")
  -- several blanks between two words are one
  pub platform_blanks_between : BothType platform_blanks_between_rules (keys (codes "A"))
      (codes "x") (codes "0")
  -- a value of one blank has two empty words
  pub platform_only_blank : BothType platform_only_blank_rules (keys (codes "A"))
      (codes "a") (codes "0")
