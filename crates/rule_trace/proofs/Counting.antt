-- The hits after lines are counted.
use Rattle.std.proofs.Common.{◌≡◌, ℕ, ◌+◌, ◌<◌, ◌≤◌, Bool, List, [], ◌∷◌, length, map, drop, get_or, set, refl, sym, ap, ◌∙◌, subst, arith, if◌then◌else◌, ◌⊎◌, inl, inr}
use Rattle.std.specs.Prelude.{All}
use Rattle.std.specs.List.{Contains}
use Rattle.std.specs.List.Sorted.{IsStrictlyIncreasing, IsNonDecreasingBy}
use Rattle.std.proofs.lemmas.Bool.{cases_eq, eq-eqb, ne_eqb}
use Rattle.std.proofs.lemmas.List.{ext_get_or, get_or-set_same, get_or-set_other, get_or-map, get_or_default, length-map, length-set, drop_all}
use Rattle.std.proofs.lemmas.List.Kept.{AllPairs-from_increasing}
use Rattle.kmn_base.specs.Rising.{times}
use Rattle.kmn_base.proofs.RisingLines.{rising_increases, rising_has}
use Rattle.kmn_base.proofs.Elements.{drop-next}
use Rattle.rule_trace.specs.declared.coverage.Hit.{Hit}
use Rattle.rule_model.specs.declared.tables.Tables.{Tables}
use Rattle.rule_trace.specs.Coverage.{record_lines, lines_of_tables, hit_lines, AreLinesOf, not_chosen, once_more, more, with_times, with_lines}

-- adding 0 to a count does not change it
more-none : (count : ℕ) → more count 0 ≡ count
more-none count = grind (arith)

more-more : (count n m : ℕ) → more (more count n) m ≡ more count (n + m)
more-more count n m = grind (arith)

pub with_lines-none : (hits : List Hit) → with_lines [] hits ≡ hits
unfolding with_lines
with_lines-none [] = refl
with_lines-none (hit ∷ hits) = λ i. record hit { count = more-none hit.count i } ∷ with_lines-none hits i

times-next : (line : ℕ) (lines : List ℕ) (own : ℕ) → times own (line ∷ []) + times own lines ≡ times own (line ∷ lines)
times-next line lines own = omega arith

pub with_lines-next : (line : ℕ) (lines : List ℕ) (hits : List Hit) → with_lines lines (with_lines (line ∷ []) hits) ≡ with_lines (line ∷ lines) hits
unfolding with_lines
with_lines-next line lines [] = refl
with_lines-next line lines (hit ∷ hits) =
    λ i. record hit { count = (more-more hit.count (times hit.line (line ∷ [])) (times hit.line lines) ∙ ap (more hit.count) (times-next line lines hit.line)) i } ∷ with_lines-next line lines hits i

pub with_lines-lines : (lines : List ℕ) (hits : List Hit) → hit_lines (with_lines lines hits) ≡ hit_lines hits
unfolding with_lines
with_lines-lines lines [] = refl
with_lines-lines lines (hit ∷ hits) = ap (λ rest. hit.line ∷ rest) (with_lines-lines lines hits)

-- if the lines of hits are increasing, each line is below all later lines
apart : (hits : List Hit) → IsStrictlyIncreasing (hit_lines hits) → (i j : ℕ) (d : Hit) → i < j → j < length hits → (get_or hits i d).line < (get_or hits j d).line
apart hits rising i j d before within =
    let own : Hit → ℕ = λ (hit : Hit). hit.line in
    let below = AllPairs-from_increasing (hit_lines hits) rising i j (own d) before (omega (arith, length-map hits own)) in
    subst (λ n. n < own (get_or hits j d)) (get_or-map own hits i d (own d) (omega arith))
    (subst (λ n. get_or (hit_lines hits) i (own d) < n) (get_or-map own hits j d (own d) within) below)

pub lines_rise : (hits : List Hit) → IsStrictlyIncreasing (hit_lines hits) → IsNonDecreasingBy (λ (hit : Hit). hit.line) hits
lines_rise hits rising i j d before within = grind (arith, apart hits rising i j d, cases_eq i j)

-- if a line is among the lines of hits, the search finds it
pub found_line : (hits : List Hit) (line place : ℕ) → IsStrictlyIncreasing (hit_lines hits) → Contains (hit_lines hits) line
    → ((k : ℕ) (d : Hit) → k < place → k < length hits → (get_or hits k d).line < line)
    → ((k : ℕ) (d : Hit) → place ≤ k → k < length hits → line ≤ (get_or hits k d).line)
    → (place < length hits) × ((d : Hit) → (get_or hits place d).line ≡ line)
found_line hits line place rising among before behind =
    let own : Hit → ℕ = λ (hit : Hit). hit.line in
    let k = among.0 in
    let within : k < length hits = omega (arith, among.1, length-map hits own) in
    let here : (d : Hit) → (get_or hits k d).line ≡ line = λ d. sym (get_or-map own hits k d line within) ∙ among.2 in
    let far : place ≤ k = grind (arith, before k (record { line = 0; count = 0 }), here (record { line = 0; count = 0 })) in
    (omega arith, λ d. grind (arith, here d, behind place d, lines_rise hits rising place k d))

times-other : (line own : ℕ) → (own ≡ line → ⊥) → times own (line ∷ []) ≡ 0
times-other line own other = ap (λ (b : Bool). (if b then 1 else 0) + 0) (ne_eqb own line other)

times-own : (line own : ℕ) → own ≡ line → times own (line ∷ []) ≡ 1
times-own line own same = ap (λ (b : Bool). (if b then 1 else 0) + 0) (eq-eqb own line same)

with_times-own : (line : ℕ) (hit : Hit) → hit.line ≡ line → once_more hit ≡ with_times (line ∷ []) hit
with_times-own line hit same = λ i. record hit { count = more hit.count (sym (times-own line hit.line same) i) }

-- if a hit has a different line, counting the line does not change it
with_times-other : (line : ℕ) (hit : Hit) → (hit.line ≡ line → ⊥) → with_times (line ∷ []) hit ≡ hit
with_times-other line hit other = λ i. record hit { count = (ap (more hit.count) (times-other line hit.line other) ∙ more-none hit.count) i }

module _ (hits : List Hit) (line place : ℕ) (new : Hit) (rising : IsStrictlyIncreasing (hit_lines hits)) (within : place < length hits)
    (here : (d : Hit) → (get_or hits place d).line ≡ line) (one_more : new ≡ once_more (get_or hits place (record { line = 0; count = 0 }))) where
  is_new : (d : Hit) → new ≡ with_times (line ∷ []) (get_or hits place d)
  is_new d = one_more ∙ (ap once_more (get_or_default hits place (record { line = 0; count = 0 }) d within) ∙ with_times-own line (get_or hits place d) (here d))

  set_at : (k : ℕ) (d : Hit) → k < length hits → (k ≡ place) ⊎ (k ≡ place → ⊥) → get_or (set hits place new) k d ≡ with_times (line ∷ []) (get_or hits k d)
  set_at k d below (inl same) =
      subst (λ n. get_or (set hits place new) n d ≡ with_times (line ∷ []) (get_or hits n d)) (sym same) (get_or-set_same hits place new d within ∙ is_new d)
  set_at k d below (inr other) =
      get_or-set_other hits place k new d other
      ∙ sym (with_times-other line (get_or hits k d) (λ e. grind (arith, other, here d, e, apart hits rising k place d, apart hits rising place k d)))

  -- changing the hit of a line counts the line once in all hits
  pub set_is_with : set hits place new ≡ with_lines (line ∷ []) hits
  unfolding with_lines
  set_is_with =
      let d : Hit = record { line = 0; count = 0 } in
      ext_get_or d (set hits place new) (map (with_times (line ∷ [])) hits) (length-set hits place new ∙ sym (length-map hits (with_times (line ∷ []))))
      (λ k below. set_at k d (omega (arith, below, length-set hits place new)) (cases_eq k place) ∙ sym (get_or-map (with_times (line ∷ [])) hits k d d (omega (arith, below, length-set hits place new))))

-- the hits of lines that weren't chosen have these lines
not_chosen-lines : (lines : List ℕ) → hit_lines (map not_chosen lines) ≡ lines
not_chosen-lines [] = refl
not_chosen-lines (line ∷ lines) = ap (λ rest. line ∷ rest) (not_chosen-lines lines)

module _ (lines : List ℕ) (hits : List Hit) (fresh : hits ≡ map not_chosen lines) where
  fresh-lines : lines ≡ hit_lines hits
  fresh-lines = sym (ap hit_lines fresh ∙ not_chosen-lines lines)

  module _ (tables : Tables) (are : lines ≡ lines_of_tables tables) where
    pub fresh_are_lines : AreLinesOf tables hits
    fresh_are_lines = sym fresh-lines ∙ are

    pub fresh_rise : IsStrictlyIncreasing (hit_lines hits)
    unfolding lines_of_tables
    fresh_rise = subst IsStrictlyIncreasing (sym fresh_are_lines) (rising_increases (record_lines tables))

  pub fresh_counts : All (λ (hit : Hit). hit.count ≡ 0) hits
  fresh_counts =
      subst (All (λ (hit : Hit). hit.count ≡ 0)) (sym fresh)
      (λ k d within. ap (λ (hit : Hit). hit.count) (get_or-map not_chosen lines k 0 d (omega (arith, within, length-map lines not_chosen))))

-- if one line is counted, counting the lines after it has the same result as counting all lines from it on
pub with_lines-from : (lines : List ℕ) (n : ℕ) (hits next : List Hit) → n < length lines → next ≡ with_lines (get_or lines n 0 ∷ []) hits
    → with_lines (drop (n + 1) lines) next ≡ with_lines (drop n lines) hits
with_lines-from lines n hits next within one =
    ap (with_lines (drop (n + 1) lines)) one
    ∙ (with_lines-next (get_or lines n 0) (drop (n + 1) lines) hits
    ∙ ap (λ left. with_lines left hits) (sym (drop-next lines n 0 within)))

-- if no lines are left to count, the hits are the result
pub counted_all : (lines : List ℕ) (n : ℕ) (hits : List Hit) → length lines ≤ n → hits ≡ with_lines (drop n lines) hits
counted_all lines n hits over = sym (ap (λ left. with_lines left hits) (drop_all n lines over) ∙ with_lines-none hits)

-- if hits are the hits of tables, each line of a record is among their lines
pub lines_are_covered : (tables : Tables) (hits : List Hit) (line : ℕ) → AreLinesOf tables hits → Contains (record_lines tables) line → Contains (hit_lines hits) line
unfolding lines_of_tables
lines_are_covered tables hits line are has = subst (λ (lines : List ℕ). Contains lines line) (sym are) (rising_has line (record_lines tables) has)
