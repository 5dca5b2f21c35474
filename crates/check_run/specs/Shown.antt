-- Which refusals of a source are printed, with their places and details.
use Rattle.std.specs.Prelude.{ℕ, ◌-◌, nat_eq, List, ◌++◌, length, take, drop, find, option_to_list, Option, Some, None}
use Rattle.kmn_base.specs.declared.refusals.Refusal.{Refusal}
use Rattle.source_faults.specs.Faults.{in_lines}
use Rattle.refusal_details.specs.Explained.{explained}
use Rattle.check_run.specs.declared.findings.Findings.{Findings}
use Rattle.check_run.specs.declared.findings.Findings.TheVariants as findings
use Rattle.check_run.specs.declared.shown.TheConstants.{SHOWN}

-- the refusal that compilation reports, if it is among the others
abbrev pub late : Refusal → List Refusal → Option Refusal
late first others = find (λ (found : Refusal). nat_eq found.line first.line) others

-- the number of the others that are not printed
abbrev pub rest_count : List Refusal → Option Refusal → ℕ
rest_count others None = length others
rest_count others (Some found) = length others - 1

-- the refusals that are printed, of all in the order of lines: the first ones, and the one that compilation reports
abbrev pub shown : Refusal → List Refusal → List Refusal
shown first sorted = take SHOWN sorted ++ option_to_list (late first (drop SHOWN sorted))

-- what is found in bytes with refused lines, for the refusals in the order of lines: those that are printed, each at its place with its
-- detail, and the number of those that are not
abbrev pub sorted_lines : (bytes : List ℕ) → Refusal → List Refusal → Findings
sorted_lines bytes first sorted =
    findings.Refused first (explained bytes (shown first sorted)) (rest_count (drop SHOWN sorted) (late first (drop SHOWN sorted)))

-- what is found in bytes with these refusals, the first of which compilation reports
abbrev pub refused_lines : (bytes : List ℕ) → Refusal → List Refusal → Findings
refused_lines bytes first refusals = sorted_lines bytes first (in_lines refusals)
