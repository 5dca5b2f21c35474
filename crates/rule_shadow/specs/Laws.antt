-- Laws of certificates and of the records that are found.
use Rattle.std.specs.Prelude.{◌≡◌, ◌≢◌, ℕ, ◌<◌, Bool, true, is_some, List, position, slice_get, Option, Some}
use Rattle.kmn_base.specs.declared.items.Item.{Item}
use Rattle.kmn_base.specs.declared.items.Element.{Element}
use Rattle.kmn_base.specs.declared.keys.KeyPress.{KeyPress}
use Rattle.rule_model.specs.declared.event_state.EventState.{EventState}
use Rattle.rule_model.specs.declared.program.Program.{Program}
use Rattle.rule_model.specs.declared.program.GroupDef.{GroupDef}
use Rattle.rule_model.specs.declared.tables.Rule.{Rule}
use Rattle.rule_model.specs.declared.tables.Group.{Group}
use Rattle.rule_model.specs.declared.tables.Tables.{Tables}
use Rattle.rule_model.specs.Content.{content}
use Rattle.rule_model.specs.Hold.{holds}
use Rattle.rule_model.specs.Choose.{Chosen}
use Rattle.rule_model.specs.Enter.{chosen_in}
use Rattle.rule_model.specs.Naming.{names_of}
use Rattle.rule_model.specs.Src.{src, src_group}
use Rattle.rule_model.specs.Tab.{tab, tab_rule}
use Rattle.compile_laws.specs.WellNamed.{IsWellNamed}
use Rattle.compile_laws.specs.Compiles.{Compiles}
use Rattle.rule_shadow.specs.declared.cert.Cert.{Cert}
use Rattle.kmx_format.specs.Writable.{IsWritable}
use Rattle.rule_shadow.specs.declared.finding.Found.{Found}
use Rattle.rule_shadow.specs.declared.finding.Found.TheVariants as finding
use Rattle.rule_shadow.specs.Covers.{covers}
use Rattle.rule_shadow.specs.Finding.{found}

-- whether a record of a group holds, in a state with these option values
abbrev pub is_held : Tables → Group → List (List Element) → List Item → KeyPress → Rule → Bool
is_held tables group values left press rule = is_some (holds (content (tab tables).stores values) left press (tab_rule tables.stores group.using_keys rule))

-- the number of the first record that holds
abbrev pub first_number : Tables → Group → List (List Element) → List Item → KeyPress → Option ℕ
first_number tables group values left press = position (is_held tables group values left press) group.rules

-- a record with a certificate is in no state and for no press the first that holds. The tables are those that a file can have: each
-- accepted program and each valid file has such tables. No file has other tables: their contexts may be longer than a narrowing of
-- `covers`, and their records may lack a key in a group with keys
abbrev pub CoveredNeverGoFirst : Type 0
CoveredNeverGoFirst =
    (tables : Tables) (n number : ℕ) (group : Group) (cert : Cert) → IsWritable tables → slice_get tables.groups n ≡ Some group → covers tables n number cert ≡ true →
    (values : List (List Element)) (left : List Item) (press : KeyPress) → first_number tables group values left press ≢ Some number

-- a record is one of the records that were found
abbrev pub Names : Found → ℕ → Type 0
Names finding.NotFound by = ⊥
Names (finding.ByRule q) by = by ≡ q
Names (finding.SplitAt place qs) by = (k : ℕ) × (slice_get qs k ≡ Some by)

-- if a record holds for which something is found, one of the records found for it is earlier and holds too
abbrev pub FoundHoldBefore : Type 0
FoundHoldBefore =
    (tables : Tables) (n number : ℕ) (group : Group) (r : Rule) → IsWritable tables → slice_get tables.groups n ≡ Some group → slice_get group.rules number ≡ Some r →
    found tables n number ≢ finding.NotFound → (values : List (List Element)) (left : List Item) (press : KeyPress) → is_held tables group values left press r ≡ true →
    (by : ℕ) × (q : Rule) × (by < number) × (slice_get group.rules by ≡ Some q) × Names (found tables n number) by × (is_held tables group values left press q ≡ true)

-- a rule in a line of a group is selected in no state and for no press; each rule of a group has its own line
abbrev pub IsDead : Program → GroupDef → ℕ → Type 0
IsDead program group line =
    (s : EventState) (press : KeyPress) (chosen : Chosen) → chosen_in (src program) press (src_group (names_of program) group) s ≡ Some chosen → chosen.0.line ≢ line

-- each record of a line of a group has a certificate
abbrev pub AreCovered : Tables → ℕ → Group → ℕ → Type 0
AreCovered tables n group line =
    (number : ℕ) (r : Rule) → slice_get group.rules number ≡ Some r → r.line ≡ line → (cert : Cert) × (covers tables n number cert ≡ true)

-- if all records of a rule of a program have certificates, the rule is dead. A file can have the tables of each accepted program, so the
-- third premise excludes none of them
abbrev pub CoveredRulesAreDead : Type 0
CoveredRulesAreDead =
    (program : Program) (tables : Tables) → IsWellNamed program → Compiles program tables → IsWritable tables →
    (n : ℕ) (group : GroupDef) (compiled : Group) → slice_get program.groups n ≡ Some group → slice_get tables.groups n ≡ Some compiled →
    (line : ℕ) → AreCovered tables n compiled line → IsDead program group line
