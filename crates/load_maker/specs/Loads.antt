-- The source and the script of a load. Each line ends with a line feed.
use Rattle.std.specs.Prelude.{ℕ, zero, suc, ◌+◌, ◌-◌, List, [], ◌++◌, codes, Bool, true, ◌&&◌, nat_le}
use Rattle.std.specs.Fmt.{digits}
use Rattle.kmn_base.specs.declared.limits.TheConstants.{LOAD_RULES}
use Rattle.load_maker.specs.declared.load.TheConstants.{FIRST}

-- whether a number has a load
abbrev pub is_in_range : ℕ → Bool
is_in_range n = nat_le 1 n && nat_le n LOAD_RULES

-- a number in upper-case hexadecimal
abbrev pub hexadecimal : ℕ → List ℕ
hexadecimal n = digits 16 true n

-- the rule of a number, counted from 1 after the first rule: after the character that the rule before it outputs, K_A replaces
-- this character with the next one
abbrev pub rule_line : ℕ → List ℕ
rule_line i =
    codes "U+" ++ hexadecimal (FIRST + i - 1) ++ codes " + [K_A] > U+" ++ hexadecimal (FIRST + i) ++ codes "\n"

-- the rules 1 to n
abbrev pub rule_lines : ℕ → List ℕ
rule_lines zero = []
rule_lines (suc n) = rule_lines n ++ rule_line (suc n)

-- the begin statement, the group, and the first rule
abbrev pub first_lines : List ℕ
first_lines =
    codes "begin Unicode > use(main)\n" ++ codes "group(main) using keys\n" ++ codes "+ [K_A] > U+4E00\n"

abbrev pub load_source : ℕ → List ℕ
load_source n = first_lines ++ rule_lines n

-- `n` lines that press K_A
abbrev pub press_lines : ℕ → List ℕ
press_lines zero = []
press_lines (suc n) = press_lines n ++ codes "[K_A]\n"

-- a press of K_A for each rule, including the first one, and a press of K_SPACE
abbrev pub load_script : ℕ → List ℕ
load_script n = press_lines (n + 1) ++ codes "[K_SPACE]\n"
