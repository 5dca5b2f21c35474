-- Keyboards played by computation: the results of a few events that were worked out by hand.
use Rattle.std.specs.Prelude.{◌≡◌, ℕ, List, [], ◌∷◌, map, Option, Some, codes, true}
use Rattle.kmn_base.specs.declared.items.Item.{Item}
use Rattle.kmn_base.specs.declared.items.Item.TheVariants as item
use Rattle.kmn_base.specs.declared.items.Element.TheVariants as element
use Rattle.kmn_base.specs.declared.keys.RuleKey.TheVariants as key
use Rattle.kmn_base.specs.declared.events.Event.{Event}
use Rattle.kmn_base.specs.declared.events.Event.TheVariants as event
use Rattle.rule_model.specs.declared.tables.Tables.{Tables}
use Rattle.rule_model.specs.declared.tables.Rule.{Rule}
use Rattle.rule_model.specs.declared.tables.Store.{Store}
use Rattle.rule_model.specs.declared.tables.Pat.{Pat}
use Rattle.rule_model.specs.declared.tables.Pat.TheVariants as pattern
use Rattle.rule_model.specs.declared.tables.Out.{Out}
use Rattle.rule_model.specs.declared.tables.Out.TheVariants as output
use Rattle.rule_model.specs.declared.program.SrcItem.{SrcItem}
use Rattle.rule_model.specs.declared.program.SrcItem.TheVariants as source
use Rattle.rule_model.specs.declared.program.StoreDef.{StoreDef}
use Rattle.rule_model.specs.declared.program.RuleDef.{RuleDef}
use Rattle.rule_model.specs.declared.program.RuleKind.TheVariants.{Plain}
use Rattle.rule_model.specs.declared.program.Program.{Program}
use Rattle.rule_model.specs.declared.system.TheConstants.{CASED_KEYS, LAYER, PLATFORM, NO_GROUP}
use Rattle.rule_model.specs.Keyboard.{Keyboard}
use Rattle.rule_model.specs.Src.{src}
use Rattle.rule_model.specs.Tab.{tab}
use Rattle.rule_model.specs.Trace.{Step, trace}

-- tables of version 10.0 with one group, which is called main and uses keys
abbrev pub one_group : List Store → List Rule → Tables
one_group stores rules = record {
  version = 0x0A00;
  start_ansi = NO_GROUP;
  start_unicode = 0;
  stores = stores;
  groups = record { name = codes "main"; using_keys = true; rules = rules; on_match = []; on_nomatch = [] } ∷ [];
}

abbrev pub rule : ℕ → ℕ → List Pat → List Out → Rule
rule line c ctx out = record { line = line; place = 0; key = key.Char c; context = ctx; output = out }

-- a store without a name, such as the value of an option
abbrev pub value : List ℕ → Store
value text = record { system = 0; name = []; elements = map element.Char text }

abbrev pub named : List ℕ → List ℕ → Store
named name text = record { system = 0; name = name; elements = map element.Char text }

abbrev pub held : ℕ → ℕ → Event
held mods code = event.Key (record { code = code; mods = mods })

abbrev pub press : ℕ → Event
press code = held 0 code

-- the visible part of each step: its number, what it deleted and inserted, and the items before the caret
abbrev pub seen_of : Step → ℕ × ℕ × List ℕ × List Item
seen_of step = (step.number, step.happened.outcome.delete, step.happened.inserted, step.happened.after.left)

abbrev pub seen : Keyboard → List Event → List (ℕ × ℕ × List ℕ × List Item)
seen kb events = map seen_of (trace kb events).done

-- the number of groups that each step entered, and of items that it put
abbrev pub entered : Keyboard → List Event → List (ℕ × ℕ)
entered kb events = map (λ step. (step.happened.outcome.entered, step.happened.outcome.put)) (trace kb events).done

abbrev pub inserted : Keyboard → List Event → List (List ℕ)
inserted kb events = map (λ step. step.happened.inserted) (trace kb events).done

-- two rules for one key, the one with the longer context first
abbrev pub two_contexts : Tables
two_contexts = one_group [] (rule 4 99 (pattern.Char 97 ∷ []) (output.Char 121 ∷ []) ∷ rule 3 99 [] (output.Char 120 ∷ []) ∷ [])

-- `any` and `index` over stores, with the same element twice in the first store
abbrev pub repeated : Tables
repeated = one_group (named (codes "v") (codes "aea") ∷ named (codes "w") (codes "xyz") ∷ [])
    (rule 3 49 (pattern.Any 0 ∷ []) (output.Index 1 1 ∷ []) ∷ [])

-- a group that enters itself
abbrev pub again : Tables
again = one_group [] (rule 3 97 [] (output.Char 120 ∷ output.Enter 0 ∷ []) ∷ [])

-- a deadkey
abbrev pub accent : Tables
accent = one_group [] (rule 4 97 (pattern.Mark 1 ∷ []) (output.Char 0xE0 ∷ []) ∷ rule 3 96 [] (output.Mark 1 ∷ []) ∷ [])

-- a condition on the layer, and an output that sets it
abbrev pub layered : Tables
layered = one_group (value (codes "s") ∷ [])
    (rule 3 97 (pattern.SystemEqual LAYER 0 ∷ []) (output.Char 98 ∷ [])
    ∷ rule 4 97 (pattern.SystemUnequal LAYER 0 ∷ []) (output.Char 97 ∷ [])
    ∷ rule 5 99 [] (output.SetSystem LAYER 0 ∷ []) ∷ [])

-- conditions on the platform
abbrev pub on_platform : Tables
on_platform = one_group (value (codes "Native  WINDOWS") ∷ value (codes "windows web") ∷ [])
    (rule 3 97 (pattern.SystemEqual PLATFORM 0 ∷ pattern.SystemUnequal PLATFORM 1 ∷ []) (output.Char 98 ∷ []) ∷ [])

abbrev pub statement : ℕ → List SrcItem → Option SrcItem → List SrcItem → RuleDef
statement line context key output = record { line = line; kind = Plain; context = context; key = key; output = output }

-- a store v of a, e and a, and a store w of the elements of v and then z
abbrev pub vowels : StoreDef
vowels = record { line = 1; system = 0; name = codes "v"; items = source.Char 97 ∷ source.Char 101 ∷ source.Char 97 ∷ [] }

abbrev pub letters : StoreDef
letters = record { line = 2; system = 0; name = codes "w"; items = source.Outs (codes "V") ∷ source.Char 122 ∷ [] }

-- a program of one group
abbrev pub of_rules : List StoreDef → List RuleDef → Program
of_rules stores rules = record {
  stores = stores;
  begins = record { line = 3; unicode = true; group = codes "main" } ∷ [];
  groups = record { line = 4; name = codes "main"; using_keys = true; rules = rules } ∷ [];
}

-- a line with a longer context after a line with a shorter one
abbrev pub indexing : Program
indexing = of_rules (vowels ∷ letters ∷ [])
    (statement 5 [] (Some (source.Char 49)) (source.Char 49 ∷ [])
    ∷ statement 6 (source.Any (codes "v") ∷ []) (Some (source.Char 49)) (source.Index (codes "w") 1 ∷ source.Dead (codes "d") ∷ [])
    ∷ [])

-- `any` as the key
abbrev pub keyed : Program
keyed = of_rules (vowels ∷ letters ∷ [])
    (statement 5 [] (Some (source.Any (codes "v"))) (source.Index (codes "w") 1 ∷ source.Char 33 ∷ []) ∷ [])

-- the key K_B, which is one of `&casedkeys`
abbrev pub key_b : SrcItem
key_b = source.Key (record { flags = 0x4000; code = 66; name = [] })

abbrev pub cased : Program
cased = of_rules (record { line = 1; system = CASED_KEYS; name = []; items = key_b ∷ [] } ∷ [])
    (statement 5 [] (Some key_b) (source.Char 120 ∷ []) ∷ [])

pub record AreWorkedTraces : Type 0 where
  -- the rule with the longer context is selected, and the edit deletes the items that it matched
  pub longest :
      seen (tab two_contexts) (press 65 ∷ press 67 ∷ [])
      ≡ (1, 0, codes "a", item.Char 97 ∷ []) ∷ (2, 1, codes "y", item.Char 121 ∷ []) ∷ []
  -- `index` uses the first position of a repeated element
  pub indexed :
      seen (tab repeated) (press 65 ∷ press 49 ∷ [])
      ≡ (1, 0, codes "a", item.Char 97 ∷ []) ∷ (2, 1, codes "x", item.Char 120 ∷ []) ∷ []
  -- an event enters 50 groups at most
  pub budget : entered (tab again) (press 65 ∷ []) ≡ (50, 50) ∷ []
  -- a mark is lost when the caret leaves its position, and the key then has its default
  pub marks :
      seen (tab accent) (press 88 ∷ press 192 ∷ event.Caret 0 ∷ event.Caret 1 ∷ press 65 ∷ [])
      ≡ (1, 0, codes "x", item.Char 120 ∷ [])
      ∷ (2, 0, [], item.Char 120 ∷ item.Mark 1 ∷ [])
      ∷ (3, 0, [], [])
      ∷ (4, 0, [], item.Char 120 ∷ [])
      ∷ (5, 0, codes "a", item.Char 120 ∷ item.Char 97 ∷ [])
      ∷ []
  -- in a source, an earlier line with a shorter context comes after a later line with a longer one, and a store has the elements of an
  -- earlier store
  pub best_of_source :
      seen (src indexing) (press 69 ∷ press 49 ∷ [])
      ≡ (1, 0, codes "e", item.Char 101 ∷ []) ∷ (2, 0, [], item.Char 101 ∷ item.Mark 1 ∷ []) ∷ []
  -- `any` as the key matches each element, and `index` at the key's offset uses the first position that fits
  pub key_store_of_source : seen (src keyed) (press 69 ∷ []) ≡ (1, 0, codes "e!", item.Char 101 ∷ item.Char 33 ∷ []) ∷ []
  -- a condition on the layer, an option change by the host, and the effect of an output on the layer
  pub layers :
      inserted (tab layered) (
      press 65 ∷ event.Setting (codes "&Layer") (codes "s") ∷ press 65 ∷ event.Setting (codes "&layer") (codes "t")
      ∷ press 65 ∷ press 67 ∷ press 65 ∷ [])
      ≡ codes "a" ∷ [] ∷ codes "b" ∷ [] ∷ codes "a" ∷ [] ∷ codes "b" ∷ []
  -- the platform is compared word by word, in any order and case
  pub platforms :
      inserted (tab on_platform) (press 65 ∷ event.Setting (codes "&platform") (codes "native web windows") ∷ press 65 ∷ [])
      ≡ codes "b" ∷ [] ∷ codes "a" ∷ []
  -- a cased key without SHIFT: shift and caps lock are both on or both off
  pub cased_key_of_source :
      inserted (src cased) (held 0 66 ∷ held 256 66 ∷ held 272 66 ∷ held 16 66 ∷ []) ≡ codes "x" ∷ codes "B" ∷ codes "x" ∷ codes "B" ∷ []
