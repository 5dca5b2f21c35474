-- Files that no source makes: what both versions of the engine typed.
use Rattle.std.specs.Prelude.{[], ◌∷◌, ◌++◌, codes}
use Rattle.std.specs.Str.{byte}
use Rattle.rule_model.specs.declared.tables.Tables.{Tables}
use Rattle.rule_model.specs.declared.tables.Pat.TheVariants as pattern
use Rattle.rule_model.specs.declared.tables.Out.TheVariants as output
use Rattle.rule_model.specs.WorkedTraces.{value, named}
use Rattle.core_meaning.specs.Typed.{file, with_keys, without_keys, on_char, on_key, without_key, reads, puts, held, keys, BothType}

-- store 0 '1' and store 1 '1', without names; + 'r' > reset(store 0); if(store 0 = store 1) + 'a' > 'X'
abbrev pub nameless_reset_alone_rules : Tables
nameless_reset_alone_rules = file (value (codes "1") ∷ value (codes "1") ∷ [])
    (with_keys [] []
    (on_char [] (byte "r") (output.Reset 0 ∷ [])
    ∷ on_char (pattern.Equal 0 1 ∷ []) (byte "a") (puts (codes "X")) ∷ [])
    ∷ [])

-- store 0 and store 1 are both o '1'; + 'a' > set(store 0 = '2') save(store 0); + 'b' > reset(store 1); if(store 1 = '2') +
-- 'c' > 'X'
abbrev pub two_options_of_a_name_rules : Tables
two_options_of_a_name_rules = file (named (codes "o") (codes "1") ∷ named (codes "o") (codes "1") ∷ value (codes "2") ∷ [])
    (with_keys [] []
    (on_char [] (byte "a") (output.Set 0 2 ∷ output.Save 0 ∷ [])
    ∷ on_char [] (byte "b") (output.Reset 1 ∷ [])
    ∷ on_char (pattern.Equal 1 2 ∷ []) (byte "c") (puts (codes "X")) ∷ [])
    ∷ [])

-- store(o) '1'; store(p) '1'; + 's' > set(p = '2'); if(o = p) + 'a' > 'X'
abbrev pub value_that_is_an_option_rules : Tables
value_that_is_an_option_rules = file (named (codes "o") (codes "1") ∷ named (codes "p") (codes "1") ∷ value (codes "2") ∷ [])
    (with_keys [] []
    (on_char [] (byte "s") (output.Set 1 2 ∷ [])
    ∷ on_char (pattern.Equal 0 1 ∷ []) (byte "a") (puts (codes "X")) ∷ [])
    ∷ [])

-- 'a' nul + 'b' > 'x'
abbrev pub nul_behind_an_item_rules : Tables
nul_behind_an_item_rules = file []
    (with_keys [] []
    (on_char (reads (codes "a") ++ (pattern.Nul ∷ [])) (byte "b") (puts (codes "x")) ∷ [])
    ∷ [])

-- nul nul 'a' + 'b' > 'x'
abbrev pub two_nul_rules : Tables
two_nul_rules = file []
    (with_keys [] []
    (on_char (pattern.Nul ∷ pattern.Nul ∷ reads (codes "a")) (byte "b") (puts (codes "x")) ∷ [])
    ∷ [])

-- store(o) '1'; 'a' if(o = '1') 'b' + 'c' > context(1) context(3); 'x' 'y' if(o = '1') + 'z' > context(2)
abbrev pub condition_between_items_rules : Tables
condition_between_items_rules = file (named (codes "o") (codes "1") ∷ [])
    (with_keys [] []
    (on_char (reads (codes "a") ++ (pattern.Equal 0 0 ∷ reads (codes "b"))) (byte "c") (output.ContextAt 1 ∷ output.ContextAt 3 ∷ [])
    ∷ on_char (reads (codes "xy") ++ (pattern.Equal 0 0 ∷ [])) (byte "z") (output.ContextAt 2 ∷ []) ∷ [])
    ∷ [])

-- + 'a' > 'q' use(h); group(h); > 'n'; 'q' > 'r'
abbrev pub empty_context_not_last_rules : Tables
empty_context_not_last_rules = file []
    (with_keys [] []
    (on_char [] (byte "a") (puts (codes "q") ++ (output.Enter 1 ∷ [])) ∷ [])
    ∷ without_keys [] []
    (without_key [] (puts (codes "n"))
    ∷ without_key (reads (codes "q")) (puts (codes "r")) ∷ [])
    ∷ [])

-- + [LCTRL RCTRL K_A] > 'x'
abbrev pub both_sides_in_flags_rules : Tables
both_sides_in_flags_rules = file []
    (with_keys [] []
    (on_key [] 0x4003 65 (puts (codes "x")) ∷ [])
    ∷ [])

-- the texts after the presses, and which presses were passed on
pub record AreWorkedTables : Type 0 where
  -- reset of a store without a name changes nothing
  pub nameless_reset_alone : BothType nameless_reset_alone_rules (keys (codes "RA"))
      (codes "X") (codes "00")
  -- two options of one name have one saved value
  pub two_options_of_a_name : BothType two_options_of_a_name_rules (keys (codes "ABC"))
      (codes "X") (codes "000")
  -- a condition compares with the value that the other store has now
  pub value_that_is_an_option : BothType value_that_is_an_option_rules (keys (codes "ASA"))
      (codes "Xa") (codes "000")
  -- a nul after an item never holds
  pub nul_behind_an_item : BothType nul_behind_an_item_rules (keys (codes "AB"))
      (codes "ab") (codes "00")
  -- nor does a second nul
  pub two_nul : BothType two_nul_rules (keys (codes "AB"))
      (codes "ab") (codes "00")
  -- context(k) of an output counts all conditions of the context, also those after its item
  pub condition_between_items : BothType condition_between_items_rules (keys (codes "ABCXYZ"))
      (codes "abx") (codes "000000")
  -- a record with an empty context is passed over, and a record after it is taken
  pub empty_context_not_last : BothType empty_context_not_last_rules (keys (codes "A"))
      (codes "r") (codes "0")
  -- flags with both sides of control fit nothing
  pub both_sides_in_flags : BothType both_sides_in_flags_rules (held 0x3 65 ∷ held 0x1 65 ∷ [])
      [] (codes "11")
