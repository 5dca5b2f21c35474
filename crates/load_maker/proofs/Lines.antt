-- One line more of each text.
use Rattle.std.proofs.Common.{◌≡◌, ℕ, suc, ◌+◌, ◌++◌, codes, refl, arith}
use Rattle.load_maker.specs.Loads.{rule_line, rule_lines, press_lines}

pub one_rule_more : (n : ℕ) → rule_lines (n + 1) ≡ rule_lines n ++ rule_line (n + 1)
one_rule_more n = let e : n + 1 ≡ suc n = omega arith in rw e refl

pub one_press_more : (n : ℕ) → press_lines (n + 1) ≡ press_lines n ++ codes "[K_A]\n"
one_press_more n = let e : n + 1 ≡ suc n = omega arith in rw e refl
