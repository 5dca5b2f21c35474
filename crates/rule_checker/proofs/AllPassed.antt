-- The list over the statements has all refusals for limits, given the statements up to each.
use Rattle.std.proofs.Common.{◌≡◌, ℕ, Bool, true, false, List, [], ◌∷◌, ◌++◌, length, refl, sym, ap, ◌∙◌, arith, if◌then◌else◌, append-nil, append_assoc, option_to_list}
use Rattle.std.specs.Prelude.{nat_lt, not, ◌&&◌}
use Rattle.std.specs.List.{list_any}
use Rattle.std.proofs.Math.Bool.{or-false}
use Rattle.kmn_base.specs.declared.limits.TheConstants.{CONTEXT_ITEMS, OUTPUT_ITEMS, STORE_ELEMENTS, RECORDS, DEADKEYS}
use Rattle.rule_model.specs.declared.program.StoreDef.{StoreDef}
use Rattle.rule_model.specs.declared.program.Program.{Program}
use Rattle.rule_model.specs.Naming.{is_dropped, all_rules}
use Rattle.store_table.specs.First.{at_line, all_of}
use Rattle.store_table.specs.Known.{Known, known, statement_elements}
use Rattle.rule_checker.specs.declared.counting.StoreCounts.{StoreCounts}
use Rattle.rule_checker.specs.declared.totals.Totals.{Totals}
use Rattle.rule_checker.specs.declared.listing.Listing.{Listing}
use Rattle.rule_checker.specs.Limits.{Statement, OfStore, OfRule, in_line_order, store_size, all_records, output_size}
use Rattle.rule_checker.specs.AllLimits.{passed, listed_code, listed_refusal}
use Rattle.rule_checker.specs.Cased.{codes_of_cased}
use Rattle.rule_checker.specs.Counting.{total, count_of, output_count_of, with_stores, no_counts}
use Rattle.rule_checker.specs.Walking.{after_store, after_rule}
use Rattle.rule_checker.specs.Listing.{totals_passed, is_large, listed, listed_statement, no_listing}
use Rattle.rule_checker.proofs.Counted.{AreCounts, items_count, output_counted, program_counts}
use Rattle.rule_checker.proofs.FirstPassed.{AreTotals, totals_store, totals_rule, not_capped, few, much, none_told}

module _ (shared : Bool) (known : Known) (counted : StoreCounts) (are : AreCounts counted known.cased known.stores) where
  passed_is : (through : List Statement) (totals : Totals) → AreTotals known through totals → totals_passed totals ≡ passed known through
  passed_is through totals are_totals =
      λ j. record {
        elements = much known counted are through totals are_totals j;
        stores = few known counted are through totals are_totals j;
        marks = nat_lt DEADKEYS (length (are_totals.marks j));
        records = (ap (nat_lt RECORDS) are_totals.records ∙ not_capped known counted are RECORDS (all_records known through) (omega arith)) j;
      }

  large_is : (store : StoreDef) → is_large counted store ≡ list_any (nat_lt STORE_ELEMENTS) (store_size known store)
  large_is store =
      by (is_dropped store) (nat_lt STORE_ELEMENTS (total (count_of counted) 0 store.items)) (length (statement_elements known store))
      (ap (nat_lt STORE_ELEMENTS) (items_count known.names counted known.cased known.stores are store.items) ∙ not_capped known counted are STORE_ELEMENTS (length (statement_elements known store)) (omega arith))
    where
      by : (dropped many : Bool) (size : ℕ) → many ≡ nat_lt STORE_ELEMENTS size → (not dropped && many) ≡ list_any (nat_lt STORE_ELEMENTS) (if dropped then [] else size ∷ [])
      by true many size e = refl
      by false many size e = e ∙ sym (or-false (nat_lt STORE_ELEMENTS size))

  lists : (before : List Statement) (listing : Listing) (statement : Statement) → AreTotals known before listing.totals
      → AreTotals known (before ++ statement ∷ []) (listed_statement shared counted listing statement).totals
      × ((listed_statement shared counted listing statement).refusals ≡ listing.refusals ++ option_to_list (listed_refusal shared known before statement))
  lists before listing (OfStore store) are_totals =
      let next = totals_store known counted are before listing.totals store are_totals in (
        next,
        (λ j. listing.refusals ++ option_to_list (at_line store.line (listed_code shared (passed_is before listing.totals are_totals j) (passed_is (before ++ OfStore store ∷ []) (after_store counted listing.totals store) next j) false false (large_is store j)))),
      )
  lists before listing (OfRule rule) are_totals =
      let next = totals_rule known counted are before listing.totals rule are_totals in
      let context = nat_lt CONTEXT_ITEMS (length rule.context) in
      let size = output_size known.stores rule.output in
      let long : nat_lt OUTPUT_ITEMS (total (output_count_of counted) 0 rule.output) ≡ nat_lt OUTPUT_ITEMS size =
      ap (nat_lt OUTPUT_ITEMS) (output_counted counted known.cased known.stores are rule.output) ∙ not_capped known counted are OUTPUT_ITEMS size (omega arith) in (
        next,
        (λ j. listing.refusals ++ option_to_list (at_line rule.line (listed_code shared (passed_is before listing.totals are_totals j) (passed_is (before ++ OfRule rule ∷ []) (after_rule counted listing.totals rule) next j) context (long j) false))),
      )

  all_listed : (before : List Statement) (listing : Listing) (statements : List Statement) → AreTotals known before listing.totals
      → (listed shared counted listing statements).refusals ≡ listing.refusals ++ all_of (listed_refusal shared known) before statements
  all_listed before listing [] are_totals = sym (append-nil listing.refusals)
  all_listed before listing (s ∷ statements) are_totals =
      let next = lists before listing s are_totals in
      all_listed (before ++ s ∷ []) (listed_statement shared counted listing s) statements next.0
      ∙ ap (λ refusals. refusals ++ all_of (listed_refusal shared known) (before ++ s ∷ []) statements) next.1
      ∙ append_assoc listing.refusals (option_to_list (listed_refusal shared known before s)) (all_of (listed_refusal shared known) (before ++ s ∷ []) statements)

-- the list over a program with the counts of its stores
pub all_passed : (shared : Bool) (program : Program)
    → (listed shared (with_stores (no_counts (codes_of_cased program.stores)) program.stores) no_listing (in_line_order program.stores (all_rules program))).refusals
    ≡ all_of (listed_refusal shared (known program)) [] (in_line_order program.stores (all_rules program))
unfolding known
all_passed shared program =
    let counted = with_stores (no_counts (codes_of_cased program.stores)) program.stores in
    all_listed shared (known program) counted (program_counts program) [] no_listing (in_line_order program.stores (all_rules program)) (none_told (known program) counted (program_counts program))
