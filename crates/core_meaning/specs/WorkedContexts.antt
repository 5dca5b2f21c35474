-- Contexts: what both versions of the engine typed.
use Rattle.std.specs.Prelude.{[], ◌∷◌, ◌++◌, codes}
use Rattle.std.specs.Str.{byte}
use Rattle.rule_model.specs.declared.tables.Tables.{Tables}
use Rattle.rule_model.specs.declared.tables.Pat.TheVariants as pattern
use Rattle.rule_model.specs.declared.tables.Out.TheVariants as output
use Rattle.rule_model.specs.WorkedTraces.{value, named}
use Rattle.core_meaning.specs.Typed.{file, with_keys, without_keys, on_char, without_key, reads, puts, keys, BothType, EachTypes}

-- store(o) '1'; if(o = '1') nul + 'c' > 'd'; + 'x' > set(o = '1')
abbrev pub nul_behind_if_rules : Tables
nul_behind_if_rules = file (named (codes "o") (codes "1") ∷ value (codes "1") ∷ value (codes "1") ∷ [])
    (with_keys [] []
    (on_char (pattern.Equal 0 1 ∷ pattern.Nul ∷ []) (byte "c") (puts (codes "d"))
    ∷ on_char [] (byte "x") (output.Set 0 2 ∷ []) ∷ [])
    ∷ [])

-- store(o) '1'; nul if(o = '1') + 'c' > 'd'; + 'x' > set(o = '1')
abbrev pub nul_before_if_rules : Tables
nul_before_if_rules = file (named (codes "o") (codes "1") ∷ value (codes "1") ∷ value (codes "1") ∷ [])
    (with_keys [] []
    (on_char (pattern.Nul ∷ pattern.Equal 0 1 ∷ []) (byte "c") (puts (codes "d"))
    ∷ on_char [] (byte "x") (output.Set 0 2 ∷ []) ∷ [])
    ∷ [])

-- store(o) '1'; store(v) 'ab'; if(o = '1') any(v) context(2) + 'x' > 'y'; + 'z' > set(o = '1')
abbrev pub context_k_behind_if_rules : Tables
context_k_behind_if_rules = file (named (codes "o") (codes "1") ∷ named (codes "v") (codes "ab") ∷ value (codes "1") ∷ value (codes "1") ∷ [])
    (with_keys [] []
    (on_char (pattern.Equal 0 2 ∷ pattern.Any 1 ∷ pattern.ContextAt 2 ∷ []) (byte "x") (puts (codes "y"))
    ∷ on_char [] (byte "z") (output.Set 0 3 ∷ []) ∷ [])
    ∷ [])

-- store(v) 'ab'; any(v) context(1) + 'x' > 'y'
abbrev pub context_k_plain_rules : Tables
context_k_plain_rules = file (named (codes "v") (codes "ab") ∷ [])
    (with_keys [] []
    (on_char (pattern.Any 0 ∷ pattern.ContextAt 1 ∷ []) (byte "x") (puts (codes "y")) ∷ [])
    ∷ [])

-- store(o) '1'; if(o = '1') 'a' 'b' + 'x' > context(3) context(2); + 'z' > set(o = '1')
abbrev pub context_k_out_behind_if_rules : Tables
context_k_out_behind_if_rules = file (named (codes "o") (codes "1") ∷ value (codes "1") ∷ value (codes "1") ∷ [])
    (with_keys [] []
    (on_char (pattern.Equal 0 1 ∷ reads (codes "ab")) (byte "x") (output.ContextAt 3 ∷ output.ContextAt 2 ∷ [])
    ∷ on_char [] (byte "z") (output.Set 0 2 ∷ []) ∷ [])
    ∷ [])

-- store(v) 'ab'; store(w) 'xy'; nul any(v) + 'i' > index(w, 2)
abbrev pub index_behind_nul_rules : Tables
index_behind_nul_rules = file (named (codes "v") (codes "ab") ∷ named (codes "w") (codes "xy") ∷ [])
    (with_keys [] []
    (on_char (pattern.Nul ∷ pattern.Any 0 ∷ []) (byte "i") (output.Index 1 2 ∷ []) ∷ [])
    ∷ [])

-- store(o) '1'; store(v) 'ab'; store(w) 'xy'; if(o = '1') any(v) + 'i' > index(w, 2); + 'z' > set(o = '1')
abbrev pub index_behind_if_rules : Tables
index_behind_if_rules = file (named (codes "o") (codes "1") ∷ named (codes "v") (codes "ab") ∷ named (codes "w") (codes "xy") ∷ value (codes "1") ∷ value (codes "1") ∷ [])
    (with_keys [] []
    (on_char (pattern.Equal 0 3 ∷ pattern.Any 1 ∷ []) (byte "i") (output.Index 2 2 ∷ [])
    ∷ on_char [] (byte "z") (output.Set 0 4 ∷ []) ∷ [])
    ∷ [])

-- nul 'a' + 'b' > context 'x'
abbrev pub context_behind_nul_rules : Tables
context_behind_nul_rules = file []
    (with_keys [] []
    (on_char (pattern.Nul ∷ reads (codes "a")) (byte "b") (output.Context ∷ puts (codes "x")) ∷ [])
    ∷ [])

-- + 'a' > 'x' use(t); group(t); 'q' > 'r'; > 'n'
abbrev pub empty_context_rules : Tables
empty_context_rules = file []
    (with_keys [] []
    (on_char [] (byte "a") (puts (codes "x") ++ (output.Enter 1 ∷ [])) ∷ [])
    ∷ without_keys [] []
    (without_key (reads (codes "q")) (puts (codes "r"))
    ∷ without_key [] (puts (codes "n")) ∷ [])
    ∷ [])

-- + 'a' > 'x' use(t); group(t); 'q' > 'r'; > 'n'; match > 'm'
abbrev pub empty_context_with_match_rules : Tables
empty_context_with_match_rules = file []
    (with_keys [] []
    (on_char [] (byte "a") (puts (codes "x") ++ (output.Enter 1 ∷ [])) ∷ [])
    ∷ without_keys (puts (codes "m")) []
    (without_key (reads (codes "q")) (puts (codes "r"))
    ∷ without_key [] (puts (codes "n")) ∷ [])
    ∷ [])

-- + 'a' > 'x'; group(t); 'x' > use(u) 'y'; > 'n'; group(u); 'p' > 'q'
abbrev pub unreached_group_rules : Tables
unreached_group_rules = file []
    (with_keys [] []
    (on_char [] (byte "a") (puts (codes "x")) ∷ [])
    ∷ without_keys [] []
    (without_key (reads (codes "x")) (output.Enter 2 ∷ puts (codes "y"))
    ∷ without_key [] (puts (codes "n")) ∷ [])
    ∷ without_keys [] []
    (without_key (reads (codes "p")) (puts (codes "q")) ∷ [])
    ∷ [])

-- the texts after the presses, and which presses were passed on
pub record AreWorkedContexts : Type 0 where
  -- a nul after a condition never holds
  pub nul_behind_if : BothType nul_behind_if_rules (keys (codes "CC"))
      (codes "cc") (codes "00")
  -- a nul before the condition can hold
  pub nul_before_if : BothType nul_before_if_rules (keys (codes "CC"))
      (codes "dc") (codes "00")
  -- context(k) of a context counts no condition, and holds if it comes before its item
  pub context_k_behind_if : BothType context_k_behind_if_rules (keys (codes "ABX"))
      (codes "y") (codes "000")
  -- without conditions it counts all items
  pub context_k_plain : BothType context_k_plain_rules (keys (codes "ABXAAX"))
      (codes "abxy") (codes "000000")
  -- context(k) of an output counts conditions
  pub context_k_out_behind_if : BothType context_k_out_behind_if_rules (keys (codes "ABX"))
      (codes "ba") (codes "000")
  -- version 16 does not count a first nul for index, version 18 does
  pub index_behind_nul : EachTypes index_behind_nul_rules (keys (codes "BI"))
      (codes "x") (codes "00")
      (codes "y") (codes "00")
  -- both count a condition
  pub index_behind_if : BothType index_behind_if_rules (keys (codes "BI"))
      (codes "y") (codes "00")
  -- an output that begins with context deletes nothing
  pub context_behind_nul : BothType context_behind_nul_rules (keys (codes "AB"))
      (codes "ax") (codes "00")
  -- in a group without keys, a record with an empty context is passed over
  pub empty_context : BothType empty_context_rules (keys (codes "A"))
      (codes "x") (codes "0")
  -- and its group does not do its match output
  pub empty_context_with_match : BothType empty_context_with_match_rules (keys (codes "A"))
      (codes "x") (codes "0")
  -- a group that no output uses does nothing
  pub unreached_group : BothType unreached_group_rules (keys (codes "A"))
      (codes "x") (codes "0")
