-- The window, marks and K_BKSP: what both versions of the engine typed.
use Rattle.std.specs.Prelude.{[], ◌∷◌, ◌++◌, replicate, codes}
use Rattle.std.specs.Str.{byte}
use Rattle.rule_model.specs.declared.tables.Tables.{Tables}
use Rattle.rule_model.specs.declared.tables.Pat.TheVariants as pattern
use Rattle.rule_model.specs.declared.tables.Out.TheVariants as output
use Rattle.rule_model.specs.WorkedTraces.{named}
use Rattle.core_meaning.specs.Typed.{file, with_keys, without_keys, on_char, without_key, reads, puts, press, keys, BothType, EachTypes}

-- + 'd' > dk(1); dk(1) (21 times) + 'x' > 'y'
abbrev pub sixty_two_marks_units_rules : Tables
sixty_two_marks_units_rules = file []
    (with_keys [] []
    (on_char (replicate 21 (pattern.Mark 1)) (byte "x") (puts (codes "y"))
    ∷ on_char [] (byte "d") (output.Mark 1 ∷ []) ∷ [])
    ∷ [])

-- + 'd' > dk(1); dk(1) (22 times) + 'x' > 'y'
abbrev pub sixty_six_marks_units_rules : Tables
sixty_six_marks_units_rules = file []
    (with_keys [] []
    (on_char (replicate 22 (pattern.Mark 1)) (byte "x") (puts (codes "y"))
    ∷ on_char [] (byte "d") (output.Mark 1 ∷ []) ∷ [])
    ∷ [])

-- store(v) 'a'; any(v) (60 times) + 'x' > 'y'
abbrev pub sixty_characters_rules : Tables
sixty_characters_rules = file (named (codes "v") (codes "a") ∷ [])
    (with_keys [] []
    (on_char (replicate 60 (pattern.Any 0)) (byte "x") (puts (codes "y")) ∷ [])
    ∷ [])

-- + 'e' > U+1F600; U+1F600 (32 times) + 'x' > 'y'
abbrev pub emoji_thirty_two_rules : Tables
emoji_thirty_two_rules = file []
    (with_keys [] []
    (on_char (replicate 32 (pattern.Char 0x1F600)) (byte "x") (puts (codes "y"))
    ∷ on_char [] (byte "e") (output.Char 0x1F600 ∷ []) ∷ [])
    ∷ [])

-- + 'e' > U+1F600; nul U+1F600 (31 times) + 'x' > 'y'
abbrev pub nul_with_thirty_one_emoji_rules : Tables
nul_with_thirty_one_emoji_rules = file []
    (with_keys [] []
    (on_char (pattern.Nul ∷ replicate 31 (pattern.Char 0x1F600)) (byte "x") (puts (codes "y"))
    ∷ on_char [] (byte "e") (output.Char 0x1F600 ∷ []) ∷ [])
    ∷ [])

-- store(v) 'a'; any(v) (40 times) + 'b' > use(t); group(t); 'a' (30 times) > 'Y'; nomatch > 'n'
abbrev pub window_spent_before_use_rules : Tables
window_spent_before_use_rules = file (named (codes "v") (codes "a") ∷ [])
    (with_keys [] []
    (on_char (replicate 40 (pattern.Any 0)) (byte "b") (output.Enter 1 ∷ []) ∷ [])
    ∷ without_keys [] (puts (codes "n"))
    (without_key (replicate 30 (pattern.Char 97)) (puts (codes "Y")) ∷ [])
    ∷ [])

-- store(v) 'a'; any(v) (59 times) + 'b' > use(t); group(t); nul 'a' 'a' > 'Y'; nomatch > 'n'
abbrev pub nul_behind_window_just_enough_rules : Tables
nul_behind_window_just_enough_rules = file (named (codes "v") (codes "a") ∷ [])
    (with_keys [] []
    (on_char (replicate 59 (pattern.Any 0)) (byte "b") (output.Enter 1 ∷ []) ∷ [])
    ∷ without_keys [] (puts (codes "n"))
    (without_key (pattern.Nul ∷ reads (codes "aa")) (puts (codes "Y")) ∷ [])
    ∷ [])

-- store(v) 'a'; any(v) (60 times) + 'b' > use(t); group(t); nul 'a' 'a' 'a' > 'Y'; nomatch > 'n'
abbrev pub nul_behind_spent_window_rules : Tables
nul_behind_spent_window_rules = file (named (codes "v") (codes "a") ∷ [])
    (with_keys [] []
    (on_char (replicate 60 (pattern.Any 0)) (byte "b") (output.Enter 1 ∷ []) ∷ [])
    ∷ without_keys [] (puts (codes "n"))
    (without_key (pattern.Nul ∷ reads (codes "aaa")) (puts (codes "Y")) ∷ [])
    ∷ [])

-- + 'q' > dk(1); dk(1) + 'a' > 'x'
abbrev pub backspace_on_a_mark_rules : Tables
backspace_on_a_mark_rules = file []
    (with_keys [] []
    (on_char (pattern.Mark 1 ∷ []) (byte "a") (puts (codes "x"))
    ∷ on_char [] (byte "q") (output.Mark 1 ∷ []) ∷ [])
    ∷ [])

-- + 'q' > 'z' dk(1); dk(1) + 'a' > 'x'
abbrev pub passed_key_on_a_mark_rules : Tables
passed_key_on_a_mark_rules = file []
    (with_keys [] []
    (on_char (pattern.Mark 1 ∷ []) (byte "a") (puts (codes "x"))
    ∷ on_char [] (byte "q") (puts (codes "z") ++ (output.Mark 1 ∷ [])) ∷ [])
    ∷ [])

-- + 'q' > dk(1) (22 times)
abbrev pub twenty_two_marks_deleted_rules : Tables
twenty_two_marks_deleted_rules = file []
    (with_keys [] []
    (on_char [] (byte "q") (replicate 22 (output.Mark 1)) ∷ [])
    ∷ [])

-- store(v) 'x' (600 times); + 'a' > outs(v) use(t); group(t); nomatch > outs(v)
abbrev pub over_1024_items_rules : Tables
over_1024_items_rules = file (named (codes "v") (replicate 600 (byte "x")) ∷ [])
    (with_keys [] []
    (on_char [] (byte "a") (replicate 600 (output.Char 120) ++ (output.Enter 1 ∷ [])) ∷ [])
    ∷ without_keys [] (replicate 600 (output.Char 120)) []
    ∷ [])

-- the texts after the presses, and which presses were passed on
pub record AreWorkedWindows : Type 0 where
  -- 21 marks have 63 units, which a context can ask for
  pub sixty_two_marks_units : BothType sixty_two_marks_units_rules (replicate 21 (press 68) ++ keys (codes "X"))
      (codes "y") (replicate 22 48)
  -- 22 marks have 66, and it never holds
  pub sixty_six_marks_units : BothType sixty_six_marks_units_rules (replicate 22 (press 68) ++ keys (codes "X"))
      (codes "x") (replicate 23 48)
  -- 60 characters have 60 units
  pub sixty_characters : BothType sixty_characters_rules (replicate 60 (press 65) ++ keys (codes "X"))
      (codes "y") (replicate 61 48)
  -- 32 characters past U+FFFF have 64 units, and a context with them never holds
  pub emoji_thirty_two : BothType emoji_thirty_two_rules (replicate 32 (press 69) ++ keys (codes "X"))
      (replicate 32 0x1F600 ++ codes "x") (replicate 33 48)
  -- a nul means the start of the window, which has only 31 of 33 such characters
  pub nul_with_thirty_one_emoji : BothType nul_with_thirty_one_emoji_rules (replicate 33 (press 69) ++ keys (codes "X"))
      (0x1F600 ∷ 0x1F600 ∷ codes "y") (replicate 34 48)
  -- the window does not grow again in the event: 23 of its 63 characters are left
  pub window_spent_before_use : BothType window_spent_before_use_rules (replicate 75 (press 65) ++ keys (codes "B"))
      (replicate 35 97 ++ codes "n") (replicate 76 48)
  -- 4 characters are left in it, so a nul before two does not hold
  pub nul_behind_window_just_enough : BothType nul_behind_window_just_enough_rules (replicate 65 (press 65) ++ keys (codes "B"))
      (codes "aaaaaan") (replicate 66 48)
  -- 3 are left in it, so a nul before three holds, though the text has more
  pub nul_behind_spent_window : BothType nul_behind_spent_window_rules (replicate 65 (press 65) ++ keys (codes "B"))
      (codes "aaY") (replicate 66 48)
  -- if there are only marks, K_BKSP deletes them and is passed on
  pub backspace_on_a_mark : BothType backspace_on_a_mark_rules (keys (codes "Q") ++ (press 8 ∷ keys (codes "A")))
      (codes "a") (codes "010")
  -- a passed key removes the marks in version 18
  pub passed_key_on_a_mark : EachTypes passed_key_on_a_mark_rules (keys (codes "Q") ++ (press 116 ∷ keys (codes "A")))
      (codes "zx") (codes "010")
      (codes "za") (codes "010")
  -- 21 of 22 marks are in the window, and no character, so K_BKSP is passed on
  pub twenty_two_marks_deleted : BothType twenty_two_marks_deleted_rules (keys (codes "ZQ") ++ (press 8 ∷ []))
      (codes "z") (codes "001")
  -- what follows 1,024 effects of an event is lost
  pub over_1024_items : BothType over_1024_items_rules (keys (codes "AB"))
      (replicate 1024 120 ++ codes "b") (codes "00")
