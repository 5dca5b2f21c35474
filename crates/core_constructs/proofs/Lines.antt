-- The lines that the code collects are the lines of each construct.
use Rattle.std.proofs.Common.{◌≡◌, ℕ, Bool, true, false, if◌then◌else◌, List, [], ◌∷◌, ◌++◌, filter, flat_map, map, refl, ap, ◌∙◌}
use Rattle.kmn_base.specs.Rising.{is_among, rising}
use Rattle.rule_model.specs.declared.tables.Tables.{Tables}
use Rattle.core_constructs.specs.declared.construct.Construct.{Construct}
use Rattle.core_constructs.specs.declared.construct.Difference.{Difference}
use Rattle.core_constructs.specs.declared.facts.Facts.{Facts}
use Rattle.core_constructs.specs.declared.line_list.ConstructLines.{ConstructLines}
use Rattle.core_constructs.specs.Records.{constructs}
use Rattle.core_constructs.specs.Told.{lines_with, difference_at, line_differences}
use Rattle.core_constructs.specs.Found.{found_of, found_lines, found_construct, found_at, told_at}

-- the collected constructs of a line are those that have the line among their lines
found_is : (tables : Tables) (facts : Facts) (spent : List ℕ) (line : ℕ) (some : List Construct) → found_at (map (found_of tables facts spent) some) line ≡ filter (λ construct. is_among line (lines_with tables facts spent construct)) some
found_is tables facts spent line [] = refl
found_is tables facts spent line (construct ∷ some) = by (is_among line (lines_with tables facts spent construct)) (found_is tables facts spent line some)
  where
    by : (b : Bool) → found_at (map (found_of tables facts spent) some) line ≡ filter (λ construct. is_among line (lines_with tables facts spent construct)) some
        → map found_construct (if b then found_of tables facts spent construct ∷ filter (λ found. is_among line (found_lines found)) (map (found_of tables facts spent) some) else filter (λ found. is_among line (found_lines found)) (map (found_of tables facts spent) some))
        ≡ (if b then construct ∷ filter (λ construct. is_among line (lines_with tables facts spent construct)) some else filter (λ construct. is_among line (lines_with tables facts spent construct)) some)
    by true rest = ap (λ list. construct ∷ list) rest
    by false rest = rest

lines_are : (tables : Tables) (facts : Facts) (spent : List ℕ) (some : List Construct) → flat_map found_lines (map (found_of tables facts spent) some) ≡ flat_map (lines_with tables facts spent) some
lines_are tables facts spent [] = refl
lines_are tables facts spent (construct ∷ some) = ap (λ list. lines_with tables facts spent construct ++ list) (lines_are tables facts spent some)

told_is : (tables : Tables) (facts : Facts) (spent : List ℕ) (line : ℕ) → told_at (map (found_of tables facts spent) constructs) line ≡ difference_at tables facts spent line
told_is tables facts spent line = λ i. record { line = line; constructs = found_is tables facts spent line constructs i }

-- the collected lines with their constructs are the differences
told_differences : (tables : Tables) (facts : Facts) (spent : List ℕ) → map (told_at (map (found_of tables facts spent) constructs)) (rising (flat_map found_lines (map (found_of tables facts spent) constructs))) ≡ line_differences tables facts spent
unfolding line_differences
told_differences tables facts spent = λ i. map (λ line. told_is tables facts spent line i) (rising (lines_are tables facts spent constructs i))

pub told_so : (tables : Tables) (facts : Facts) (spent : List ℕ) (all some others : List ConstructLines) (lines listed told_of : List ℕ) (told : List Difference)
    → all ≡ map (found_of tables facts spent) constructs → some ≡ all → lines ≡ rising (flat_map found_lines some) → listed ≡ lines → others ≡ all → told_of ≡ listed
    → told ≡ map (told_at others) told_of → told ≡ line_differences tables facts spent
told_so tables facts spent all some others lines listed told_of told is_all is_some are_lines are_listed is_others are_told_of is_told =
    let same : List ConstructLines = map (found_of tables facts spent) constructs in
    let at : told_of ≡ rising (flat_map found_lines same) = are_told_of ∙ are_listed ∙ are_lines ∙ ap (λ (xs : List ConstructLines). rising (flat_map found_lines xs)) (is_some ∙ is_all) in
    is_told ∙ ap (λ (xs : List ConstructLines). map (told_at xs) told_of) (is_others ∙ is_all) ∙ ap (λ (xs : List ℕ). map (told_at same) xs) at ∙ told_differences tables facts spent
