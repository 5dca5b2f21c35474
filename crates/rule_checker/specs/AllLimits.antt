-- All limits that a program passes, and the statements at which they are passed.
use Rattle.std.specs.Prelude.{Bool, not, ◌&&◌, ◌||◌, nat_lt, if◌then◌else◌, List, [], ◌∷◌, ◌++◌, Option}
use Rattle.std.specs.List.{list_any}
use Rattle.kmn_base.specs.declared.codes.Code.{Code}
use Rattle.kmn_base.specs.declared.codes.Code.TheVariants.{C16, C17, C18, C19, C20, C21, C22}
use Rattle.kmn_base.specs.declared.limits.TheConstants.{STORE_ELEMENTS}
use Rattle.kmn_base.specs.declared.refusals.Refusal.{Refusal}
use Rattle.rule_model.specs.declared.program.GroupDef.{GroupDef}
use Rattle.rule_model.specs.declared.program.Program.{Program}
use Rattle.rule_model.specs.Naming.{all_rules}
use Rattle.store_table.specs.First.{broken, at_line, all_of}
use Rattle.store_table.specs.Known.{Known, known}
use Rattle.rule_checker.specs.declared.totals.Passed.{Passed}
use Rattle.rule_checker.specs.Limits.{Statement, in_line_order, line_of, sizes, statement_size, is_long_context, is_long_output, have_many_elements, are_many_stores, have_many_marks, have_many_records, are_many_groups}

-- which of the limits that all statements share are passed by some statements
abbrev pub passed : Known → List Statement → Passed
passed known statements =
    record {
      elements = have_many_elements (sizes known statements);
      stores = are_many_stores (sizes known statements);
      marks = have_many_marks statements;
      records = have_many_records known statements;
    }

-- C18 of one store: too many elements of the store of a statement
abbrev pub is_large_store : Known → Statement → Bool
is_large_store known statement = list_any (nat_lt STORE_ELEMENTS) (statement_size known statement)

-- the first limit that a statement passes by itself, or that all statements pass with it (`now`) and not before it; those of all
-- statements only if they are checked (`shared`)
abbrev pub listed_code : Bool → Passed → Passed → Bool → Bool → Bool → Option Code
listed_code shared before now context output large =
    broken ((C16, context) ∷ (C17, output) ∷ (C18, large || (shared && (now.elements && not before.elements)))
    ∷ (C19, shared && (now.stores && not before.stores)) ∷ (C21, shared && (now.marks && not before.marks))
    ∷ (C22, shared && (now.records && not before.records)) ∷ [])

abbrev pub listed_refusal : Bool → Known → List Statement → Statement → Option Refusal
listed_refusal shared known before statement =
    at_line (line_of statement)
    (listed_code shared (passed known before) (passed known (before ++ statement ∷ []))
    (is_long_context statement) (is_long_output known statement) (is_large_store known statement))

-- C20 at the first group that is one too many
abbrev pub listed_group_refusal : List GroupDef → GroupDef → Option Refusal
listed_group_refusal before group =
    at_line group.line (broken ((C20, are_many_groups (before ++ group ∷ []) && not (are_many_groups before)) ∷ []))

-- all refusals for limits: of stores and rules in the order of lines, then of groups
unfoldable pub limits_refusals : Bool → Program → List Refusal
limits_refusals shared program =
    all_of (listed_refusal shared (known program)) [] (in_line_order program.stores (all_rules program))
    ++ (if shared then all_of listed_group_refusal [] program.groups else [])
