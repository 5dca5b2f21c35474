-- Lists the refusals for limits statement by statement, with the counts up to each statement.
use Rattle.std.specs.Prelude.{Bool, false, not, ◌&&◌, nat_lt, List, [], ◌∷◌, ◌++◌, length, option_to_list}
use Rattle.kmn_base.specs.declared.limits.TheConstants.{CONTEXT_ITEMS, OUTPUT_ITEMS, STORE_ELEMENTS, STORES, RECORDS, DEADKEYS}
use Rattle.rule_model.specs.declared.program.StoreDef.{StoreDef}
use Rattle.rule_model.specs.declared.program.RuleDef.{RuleDef}
use Rattle.rule_model.specs.Naming.{is_dropped}
use Rattle.store_table.specs.First.{at_line}
use Rattle.rule_checker.specs.declared.counting.StoreCounts.{StoreCounts}
use Rattle.rule_checker.specs.declared.totals.Totals.{Totals}
use Rattle.rule_checker.specs.declared.totals.Passed.{Passed}
use Rattle.rule_checker.specs.declared.listing.Listing.{Listing}
use Rattle.rule_checker.specs.Counting.{total, count_of, output_count_of}
use Rattle.rule_checker.specs.Limits.{Statement, OfStore, OfRule}
use Rattle.rule_checker.specs.AllLimits.{listed_code}
use Rattle.rule_checker.specs.Walking.{after_store, after_rule, passes_elements, store_count, no_totals}

-- which limits of all statements the counts pass
abbrev pub totals_passed : Totals → Passed
totals_passed totals =
    record {
      elements = passes_elements totals;
      stores = nat_lt STORES (store_count totals);
      marks = nat_lt DEADKEYS (length totals.marks);
      records = nat_lt RECORDS totals.records;
    }

-- whether the store of a statement has too many elements
abbrev pub is_large : StoreCounts → StoreDef → Bool
is_large counted store = not (is_dropped store) && nat_lt STORE_ELEMENTS (total (count_of counted) 0 store.items)

abbrev pub listed_store : Bool → StoreCounts → Listing → StoreDef → Listing
listed_store shared counted listing store =
    let totals = after_store counted listing.totals store in
    let code = listed_code shared (totals_passed listing.totals) (totals_passed totals) false false (is_large counted store) in
    record { totals = totals; refusals = listing.refusals ++ option_to_list (at_line store.line code) }

abbrev pub listed_rule : Bool → StoreCounts → Listing → RuleDef → Listing
listed_rule shared counted listing rule =
    let totals = after_rule counted listing.totals rule in
    let context = nat_lt CONTEXT_ITEMS (length rule.context) in
    let output = nat_lt OUTPUT_ITEMS (total (output_count_of counted) 0 rule.output) in
    let code = listed_code shared (totals_passed listing.totals) (totals_passed totals) context output false in
    record { totals = totals; refusals = listing.refusals ++ option_to_list (at_line rule.line code) }

-- a list with the refusal of a further statement, and then of all of some statements
abbrev pub listed_statement : Bool → StoreCounts → Listing → Statement → Listing
listed_statement shared counted listing (OfStore store) = listed_store shared counted listing store
listed_statement shared counted listing (OfRule rule) = listed_rule shared counted listing rule

abbrev pub listed : Bool → StoreCounts → Listing → List Statement → Listing
listed shared counted listing [] = listing
listed shared counted listing (statement ∷ statements) =
    listed shared counted (listed_statement shared counted listing statement) statements

abbrev pub no_listing : Listing
no_listing = record { totals = no_totals; refusals = [] }
