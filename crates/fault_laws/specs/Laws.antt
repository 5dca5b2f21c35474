-- The laws of the refusals of a source.
use Rattle.std.specs.Prelude.{◌≡◌, ℕ, ◌+◌, ◌≤◌, nat_eq, Bool, true, false, not, ◌&&◌, List, [], ◌∷◌, ◌++◌, length, filter, map, IsUtf8}
use Rattle.std.specs.List.{list_any}
use Rattle.kmn_base.specs.Rising.{times}
use Rattle.kmn_base.specs.declared.codes.Code.{Code}
use Rattle.kmn_base.specs.declared.codes.Code.TheVariants.{C01}
use Rattle.kmn_base.specs.declared.limits.TheConstants.{TEXT_BYTES}
use Rattle.kmn_base.specs.declared.refusals.Refusal.{Refusal}
use Rattle.rule_model.specs.declared.program.StoreDef.{StoreDef}
use Rattle.rule_model.specs.declared.program.Program.{Program}
use Rattle.item_checker.specs.Items.{items_refusals}
use Rattle.source_names.specs.Causes.{cause_refusal, name_causes}
use Rattle.source_names.specs.Telling.{names_lacked, reported_causes}
use Rattle.source_faults.specs.Faults.{faults, further}
use Rattle.source_faults.specs.Reading.{read_all, read_refusals}
use Rattle.source_faults.specs.Stubs.{stubbed, with_words}

-- the lines of refusals
abbrev pub lines_of : List Refusal → List ℕ
lines_of refusals = map (λ (found : Refusal). found.line) refusals

-- the refusals other than C01, which the whole program is refused for
abbrev pub is_of_start : Code → Bool
is_of_start C01 = true
is_of_start other = false

abbrev pub of_statements : List Refusal → List Refusal
of_statements refusals = filter (λ (found : Refusal). not (is_of_start found.code)) refusals

-- no line has two refusals other than C01, and no line but line 1 has two refusals
pub record AreAtOwnLines (refusals : List Refusal) : Type 0 where
  pub statements : (line : ℕ) → times line (lines_of (of_statements refusals)) ≤ 1
  pub all : (line : ℕ) → times line (lines_of refusals) ≤ 1 + times line (1 ∷ [])

-- no line of a source is refused twice: only line 1 may have a refusal and C01
abbrev pub LinesAreRefusedOnce : Type 0
LinesAreRefusedOnce = (source : List ℕ) → AreAtOwnLines (faults source)

-- the refusals of a program up to those for names, if some of its lines are refused already
abbrev pub refused_to_names : List Refusal → Program → List Refusal
refused_to_names refused program = refused ++ further refused (map cause_refusal (reported_causes program))

-- the program whose items are checked: refused statements have stubs, and names that are not defined count as defined
abbrev pub defined_program : List Refusal → Program → Program
defined_program refused program = stubbed (refused_to_names refused program) (with_words program (names_lacked (reported_causes program)))

-- what names still refuse in the program whose items are checked
abbrev pub names_left : List Refusal → Program → List Refusal
names_left refused program = further (refused_to_names refused program) (map cause_refusal (name_causes (defined_program refused program)))

-- each statement whose items are checked has no cause to be refused for names: all that it names is defined
abbrev pub NamesAreDefined : Type 0
NamesAreDefined =
    (source : List ℕ) → length source ≤ TEXT_BYTES → IsUtf8 source
    → names_left (read_refusals (read_all source)) (with_words (read_all source).program (read_all source).words) ≡ []

-- the refusals of a program up to those for items, and the program whose limits are checked: statements that are refused for their items
-- have stubs, too
abbrev pub refused_to_items : List Refusal → Program → List Refusal
refused_to_items refused program =
    refused_to_names refused program ++ further (refused_to_names refused program) (items_refusals (defined_program refused program))

abbrev pub last_program : List Refusal → Program → Program
last_program refused program = stubbed (refused_to_items refused program) (defined_program refused program)

-- whether a system store is at a line
abbrev pub has_system : Program → ℕ → Bool
has_system program line = list_any (λ (store : StoreDef). nat_eq store.line line && not (nat_eq store.system 0)) program.stores

-- what items still refuse in the program whose limits are checked
abbrev pub items_left : List Refusal → Program → List Refusal
items_left refused program = further (refused_to_items refused program) (items_refusals (last_program refused program))

-- each statement whose limits are checked has no item to be refused for, unless it is a system store: its text may be that of a stub
abbrev pub OnlySystemStoresAreLeft : Type 0
OnlySystemStoresAreLeft =
    (source : List ℕ) → let program : Program = with_words (read_all source).program (read_all source).words in
    filter (λ (found : Refusal). not (has_system (last_program (read_refusals (read_all source)) program) found.line)) (items_left (read_refusals (read_all source)) program) ≡ []

-- what names still refuse in the program whose limits are checked
abbrev pub names_left_last : List Refusal → Program → List Refusal
names_left_last refused program = further (refused_to_items refused program) (map cause_refusal (name_causes (last_program refused program)))

-- each statement whose limits are checked still has no cause to be refused for names
abbrev pub NamesStayDefined : Type 0
NamesStayDefined =
    (source : List ℕ) → length source ≤ TEXT_BYTES → IsUtf8 source
    → names_left_last (read_refusals (read_all source)) (with_words (read_all source).program (read_all source).words) ≡ []
