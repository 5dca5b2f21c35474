-- Outputs: what both versions of the engine typed. The flag that output has ended is down at first.
use Rattle.std.specs.Prelude.{[], ◌∷◌, ◌++◌, codes}
use Rattle.std.specs.Str.{byte}
use Rattle.rule_model.specs.declared.tables.Tables.{Tables}
use Rattle.rule_model.specs.declared.tables.Pat.TheVariants as pattern
use Rattle.rule_model.specs.declared.tables.Out.TheVariants as output
use Rattle.rule_model.specs.WorkedTraces.{value, named}
use Rattle.core_meaning.specs.Typed.{file, with_keys, without_keys, on_char, without_key, reads, puts, keys, BothType}

-- + 'r' > return; + 'a' > use(t) 'x'; group(t); 'q' > 'r'
abbrev pub item_behind_use_rules : Tables
item_behind_use_rules = file []
    (with_keys [] []
    (on_char [] (byte "r") (output.Stop ∷ [])
    ∷ on_char [] (byte "a") (output.Enter 1 ∷ puts (codes "x")) ∷ [])
    ∷ without_keys [] []
    (without_key (reads (codes "q")) (puts (codes "r")) ∷ [])
    ∷ [])

-- + 'r' > return; + 'a' > 'x' use(t) nul; group(t); 'x' > 'y'
abbrev pub nul_behind_use_rules : Tables
nul_behind_use_rules = file []
    (with_keys [] []
    (on_char [] (byte "r") (output.Stop ∷ [])
    ∷ on_char [] (byte "a") (puts (codes "x") ++ (output.Enter 1 ∷ output.Nul ∷ [])) ∷ [])
    ∷ without_keys [] []
    (without_key (reads (codes "x")) (puts (codes "y")) ∷ [])
    ∷ [])

-- + 'r' > return; + 'a' > 'x' use(t) return; match > 'm'; group(t); 'x' > 'y'
abbrev pub return_behind_use_rules : Tables
return_behind_use_rules = file []
    (with_keys (puts (codes "m")) []
    (on_char [] (byte "r") (output.Stop ∷ [])
    ∷ on_char [] (byte "a") (puts (codes "x") ++ (output.Enter 1 ∷ output.Stop ∷ [])) ∷ [])
    ∷ without_keys [] []
    (without_key (reads (codes "x")) (puts (codes "y")) ∷ [])
    ∷ [])

-- + 'a' > use(t) return 'x'; group(t); 'q' > 'r'
abbrev pub item_behind_return_rules : Tables
item_behind_return_rules = file []
    (with_keys [] []
    (on_char [] (byte "a") (output.Enter 1 ∷ output.Stop ∷ puts (codes "x")) ∷ [])
    ∷ without_keys [] []
    (without_key (reads (codes "q")) (puts (codes "r")) ∷ [])
    ∷ [])

-- + 'a' > 'x' use(t) use(u); group(t); 'x' > 'y'; group(u); 'y' > 'z'
abbrev pub two_uses_rules : Tables
two_uses_rules = file []
    (with_keys [] []
    (on_char [] (byte "a") (puts (codes "x") ++ (output.Enter 1 ∷ output.Enter 2 ∷ [])) ∷ [])
    ∷ without_keys [] []
    (without_key (reads (codes "x")) (puts (codes "y")) ∷ [])
    ∷ without_keys [] []
    (without_key (reads (codes "y")) (puts (codes "z")) ∷ [])
    ∷ [])

-- + 'a' > 'x' use(t); match > 'm'; group(t); 'x' > 'y'
abbrev pub match_behind_use_rules : Tables
match_behind_use_rules = file []
    (with_keys (puts (codes "m")) []
    (on_char [] (byte "a") (puts (codes "x") ++ (output.Enter 1 ∷ [])) ∷ [])
    ∷ without_keys [] []
    (without_key (reads (codes "x")) (puts (codes "y")) ∷ [])
    ∷ [])

-- + 'a' > 'x' use(t); match > nul; group(t); 'x' > 'y'
abbrev pub match_nul_behind_use_rules : Tables
match_nul_behind_use_rules = file []
    (with_keys (output.Nul ∷ []) []
    (on_char [] (byte "a") (puts (codes "x") ++ (output.Enter 1 ∷ [])) ∷ [])
    ∷ without_keys [] []
    (without_key (reads (codes "x")) (puts (codes "y")) ∷ [])
    ∷ [])

-- + 'a' > 'x' use(t); match > return; group(t); 'x' > 'y'
abbrev pub match_return_behind_use_rules : Tables
match_return_behind_use_rules = file []
    (with_keys (output.Stop ∷ []) []
    (on_char [] (byte "a") (puts (codes "x") ++ (output.Enter 1 ∷ [])) ∷ [])
    ∷ without_keys [] []
    (without_key (reads (codes "x")) (puts (codes "y")) ∷ [])
    ∷ [])

-- + 'r' > return; + 'a' > 'x'; match > use(t) 'm'; group(t); 'x' > 'y'
abbrev pub match_with_use_and_item_rules : Tables
match_with_use_and_item_rules = file []
    (with_keys (output.Enter 1 ∷ puts (codes "m")) []
    (on_char [] (byte "r") (output.Stop ∷ [])
    ∷ on_char [] (byte "a") (puts (codes "x")) ∷ [])
    ∷ without_keys [] []
    (without_key (reads (codes "x")) (puts (codes "y")) ∷ [])
    ∷ [])

-- + 'a' > 'x'; match > use(t); group(t); 'x' > 'y'
abbrev pub match_ends_in_use_rules : Tables
match_ends_in_use_rules = file []
    (with_keys (output.Enter 1 ∷ []) []
    (on_char [] (byte "a") (puts (codes "x")) ∷ [])
    ∷ without_keys [] []
    (without_key (reads (codes "x")) (puts (codes "y")) ∷ [])
    ∷ [])

-- store(o) '0'; + 's' > set(o = '1') save(o) set(o = '2'); + 'r' > reset(o); if(o = '1') + 'a' > 'x'
abbrev pub save_then_set_rules : Tables
save_then_set_rules = file (named (codes "o") (codes "0") ∷ value (codes "1") ∷ value (codes "2") ∷ value (codes "1") ∷ [])
    (with_keys [] []
    (on_char (pattern.Equal 0 3 ∷ []) (byte "a") (puts (codes "x"))
    ∷ on_char [] (byte "s") (output.Set 0 1 ∷ output.Save 0 ∷ output.Set 0 2 ∷ [])
    ∷ on_char [] (byte "r") (output.Reset 0 ∷ []) ∷ [])
    ∷ [])

-- store(o) '0'; + 's' > set(o = '1') save(o) reset(o); if(o = '1') + 'a' > 'x'
abbrev pub save_then_reset_rules : Tables
save_then_reset_rules = file (named (codes "o") (codes "0") ∷ value (codes "1") ∷ value (codes "1") ∷ [])
    (with_keys [] []
    (on_char (pattern.Equal 0 2 ∷ []) (byte "a") (puts (codes "x"))
    ∷ on_char [] (byte "s") (output.Set 0 1 ∷ output.Save 0 ∷ output.Reset 0 ∷ []) ∷ [])
    ∷ [])

-- store(o) '0'; + 's' > set(o = '1') save(o); + 't' > set(o = '2'); + 'r' > reset(o); if(o = '1') + 'a' > 'x'
abbrev pub save_alone_rules : Tables
save_alone_rules = file (named (codes "o") (codes "0") ∷ value (codes "1") ∷ value (codes "2") ∷ value (codes "1") ∷ [])
    (with_keys [] []
    (on_char (pattern.Equal 0 3 ∷ []) (byte "a") (puts (codes "x"))
    ∷ on_char [] (byte "s") (output.Set 0 1 ∷ output.Save 0 ∷ [])
    ∷ on_char [] (byte "t") (output.Set 0 2 ∷ [])
    ∷ on_char [] (byte "r") (output.Reset 0 ∷ []) ∷ [])
    ∷ [])

-- store(o) '0'; + 's' > set(o = '1') save(o) use(t); + 'r' > reset(o); if(o = '1') + 'a' > 'x'; group(t); nomatch > set(o =
-- '2')
abbrev pub save_then_change_in_used_group_rules : Tables
save_then_change_in_used_group_rules = file (named (codes "o") (codes "0") ∷ value (codes "1") ∷ value (codes "1") ∷ value (codes "2") ∷ [])
    (with_keys [] []
    (on_char (pattern.Equal 0 2 ∷ []) (byte "a") (puts (codes "x"))
    ∷ on_char [] (byte "s") (output.Set 0 1 ∷ output.Save 0 ∷ output.Enter 1 ∷ [])
    ∷ on_char [] (byte "r") (output.Reset 0 ∷ []) ∷ [])
    ∷ without_keys [] (output.Set 0 3 ∷ []) []
    ∷ [])

-- store(o) '0'; + 's' > set(o = '1') save(o); if(o = '1') + 'a' > 'x' return; + 'r' > reset(o) return; match > set(o = '2')
abbrev pub save_then_change_in_match_rules : Tables
save_then_change_in_match_rules = file (named (codes "o") (codes "0") ∷ value (codes "1") ∷ value (codes "1") ∷ value (codes "2") ∷ [])
    (with_keys (output.Set 0 3 ∷ []) []
    (on_char (pattern.Equal 0 2 ∷ []) (byte "a") (puts (codes "x") ++ (output.Stop ∷ []))
    ∷ on_char [] (byte "s") (output.Set 0 1 ∷ output.Save 0 ∷ [])
    ∷ on_char [] (byte "r") (output.Reset 0 ∷ output.Stop ∷ []) ∷ [])
    ∷ [])

-- store(o) '0'; store(p) '0'; + 's' > set(o = '1') save(o) set(p = '2'); + 'r' > reset(o); if(o = '1') + 'a' > 'x'
abbrev pub save_of_another_rules : Tables
save_of_another_rules = file (named (codes "o") (codes "0") ∷ named (codes "p") (codes "0") ∷ value (codes "1") ∷ value (codes "2") ∷ value (codes "1") ∷ [])
    (with_keys [] []
    (on_char (pattern.Equal 0 4 ∷ []) (byte "a") (puts (codes "x"))
    ∷ on_char [] (byte "s") (output.Set 0 2 ∷ output.Save 0 ∷ output.Set 1 3 ∷ [])
    ∷ on_char [] (byte "r") (output.Reset 0 ∷ []) ∷ [])
    ∷ [])

-- the texts after the presses, and which presses were passed on
pub record AreWorkedOutputs : Type 0 where
  -- a return of an earlier press ends each output after a use
  pub item_behind_use : BothType item_behind_use_rules (keys (codes "ARA"))
      (codes "x") (codes "000")
  -- nothing is lost if only a nul follows
  pub nul_behind_use : BothType nul_behind_use_rules (keys (codes "ARA"))
      (codes "yy") (codes "000")
  -- nor if only a return follows
  pub return_behind_use : BothType return_behind_use_rules (keys (codes "ARA"))
      (codes "yy") (codes "000")
  -- nothing is done after a return
  pub item_behind_return : BothType item_behind_return_rules (keys (codes "AA"))
      [] (codes "00")
  -- an output can use two groups while no return was done
  pub two_uses : BothType two_uses_rules (keys (codes "A"))
      (codes "z") (codes "0")
  -- the match output is not done after an output that used a group
  pub match_behind_use : BothType match_behind_use_rules (keys (codes "A"))
      (codes "y") (codes "0")
  -- this makes no difference if it only has a nul
  pub match_nul_behind_use : BothType match_nul_behind_use_rules (keys (codes "A"))
      (codes "y") (codes "0")
  -- or only a return
  pub match_return_behind_use : BothType match_return_behind_use_rules (keys (codes "A"))
      (codes "y") (codes "0")
  -- a return of an earlier press also ends a match output after its use
  pub match_with_use_and_item : BothType match_with_use_and_item_rules (keys (codes "ARA"))
      (codes "ymy") (codes "000")
  -- a match output can use a group
  pub match_ends_in_use : BothType match_ends_in_use_rules (keys (codes "A"))
      (codes "y") (codes "0")
  -- save takes the value at the end of the event
  pub save_then_set : BothType save_then_set_rules (keys (codes "SRA"))
      (codes "a") (codes "000")
  -- also if a reset follows
  pub save_then_reset : BothType save_then_reset_rules (keys (codes "SA"))
      (codes "a") (codes "00")
  -- reset takes the saved value
  pub save_alone : BothType save_alone_rules (keys (codes "STRA"))
      (codes "x") (codes "0000")
  -- a used group can change what is saved
  pub save_then_change_in_used_group : BothType save_then_change_in_used_group_rules (keys (codes "SRA"))
      (codes "a") (codes "000")
  -- and so can the match output
  pub save_then_change_in_match : BothType save_then_change_in_match_rules (keys (codes "SRA"))
      (codes "a") (codes "000")
  -- another option does not matter
  pub save_of_another : BothType save_of_another_rules (keys (codes "SRA"))
      (codes "x") (codes "000")
