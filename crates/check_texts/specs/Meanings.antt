-- What each code means, in a few words.
use Rattle.std.specs.Prelude.{ℕ, List, [], codes, ◌++◌}
use Rattle.kmn_base.specs.declared.codes.Code.{Code}
use Rattle.kmn_base.specs.declared.codes.Code.TheVariants.{L01, L02, L03, L04, L05, S01, S02, S03, S04, S05, S06, S07, S08, S09, S10, S11, S12, C01, C02, C03, C04, C05, C06, C07, C08, C09, C10, C11, C12, C13, C14, C15, C16, C17, C18, C19, C20, C21, C22, C23, C24, C25, P01, P02, P03, P04, P05, P06, P07, P08, T1, T2, T3, T4, T5, T6, T7}

-- the meaning of a code of a source, a line or a token; other codes have none here
abbrev pub token_meaning : Code → List ℕ
token_meaning L01 = codes "a source that is not UTF-8"
token_meaning L02 = codes "a character that no keyboard can have"
token_meaning L03 = codes "a quote that is not closed"
token_meaning L04 = codes "a number that is no character"
token_meaning L05 = codes "a source that is too long"
token_meaning other = []

-- the meaning of a code of a statement; other codes have none here
abbrev pub statement_meaning : Code → List ℕ
statement_meaning S01 = codes "a line that is no statement"
statement_meaning S02 = codes "parentheses that are not as they should be"
statement_meaning S03 = codes "a rule before the first group"
statement_meaning S04 = codes "a statement without its >"
statement_meaning S05 = codes "an item that may not stand before the >"
statement_meaning S06 = codes "an item that may not stand in an output or a store"
statement_meaning S07 = codes "a + in a group without keys"
statement_meaning S08 = codes "no + in a group with keys"
statement_meaning S09 = codes "a condition behind a pattern"
statement_meaning S10 = codes "a second nul"
statement_meaning S11 = codes "a bracket that is no virtual key"
statement_meaning S12 = codes "a system store that there is not"
statement_meaning other = []

-- the meaning of a code of a program; other codes have none here
abbrev pub program_meaning : Code → List ℕ
program_meaning C01 = codes "no begin Unicode"
program_meaning C02 = codes "a second begin of its kind"
program_meaning C03 = codes "a store stated twice"
program_meaning C04 = codes "a group stated twice"
program_meaning C05 = codes "a store that is not stated"
program_meaning C06 = codes "a group that is not stated"
program_meaning C07 = codes "a store that is put before it is stated"
program_meaning C08 = codes "an offset that points nowhere"
program_meaning C09 = codes "an index that does not point at any"
program_meaning C10 = codes "a key that no key press can give"
program_meaning C11 = codes "a call"
program_meaning C12 = codes "something that is left out"
program_meaning C13 = codes "an option store in the wrong place"
program_meaning C14 = codes "a store whose elements must be characters"
program_meaning C15 = codes "a second match or nomatch"
program_meaning C16 = codes "a context that is too long"
program_meaning C17 = codes "an output that is too long"
program_meaning C18 = codes "too many elements"
program_meaning C19 = codes "too many stores"
program_meaning C20 = codes "too many groups"
program_meaning C21 = codes "too many deadkeys"
program_meaning C22 = codes "too many key records"
program_meaning C23 = codes "a file that is too long"
program_meaning C24 = codes "a picture that is too long"
program_meaning C25 = codes "a cased key that is none"
program_meaning other = []

-- the meaning of a code of a script; other codes have none here
abbrev pub script_meaning : Code → List ℕ
script_meaning P01 = codes "a script that is not UTF-8"
script_meaning P02 = codes "a line that no script has"
script_meaning P03 = codes "a bracket that is no key press"
script_meaning P04 = codes "a text or name that is missing"
script_meaning P05 = codes "a number that is missing"
script_meaning P06 = codes "a script that is too long"
script_meaning P07 = codes "too many events"
script_meaning P08 = codes "more on a line that is complete"
script_meaning other = []

-- the meaning of a code of a touch layout; other codes have none here
abbrev pub layout_meaning : Code → List ℕ
layout_meaning T1 = codes "a layout that is no JSON"
layout_meaning T2 = codes "a layout of another shape"
layout_meaning T3 = codes "an id that no key has"
layout_meaning T4 = codes "a layer that is not there"
layout_meaning T5 = codes "a key that does nothing"
layout_meaning T6 = codes "two layers of one id"
layout_meaning T7 = codes "a layout that is too long"
layout_meaning other = []

-- the meaning of a code of an input
unfoldable pub meaning : Code → List ℕ
meaning code = token_meaning code ++ (statement_meaning code ++ (program_meaning code ++ (script_meaning code ++ layout_meaning code)))
