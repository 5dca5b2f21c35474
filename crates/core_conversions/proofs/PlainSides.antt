-- Flags with CTRL or ALT fit the same modifiers without its sides.
use Rattle.std.proofs.Common.{◌≡◌, ℕ, Bool, true, false, not, ◌&&◌, nat_eq, List, [], Option, None, Some, refl, sym, ◌∙◌, ap, if◌then◌else◌}
use Rattle.std.specs.Prelude.{◌-◌, ◌||◌, bit_and, drop, length}
use Rattle.std.specs.List.{list_all}
use Rattle.std.specs.Bool.{beq}
use Rattle.std.proofs.lemmas.Nat.{and_assoc}
use Rattle.kmn_base.specs.declared.keys.KeyPress.{KeyPress}
use Rattle.kmn_base.specs.declared.keys.RuleKey.{RuleKey}
use Rattle.kmn_base.specs.declared.keys.RuleKey.TheVariants as key
use Rattle.virtual_keys.specs.Fits.{shift, caps, no_caps, has, has_either, either_control, left_control, right_control, either_alt, left_alt, right_alt, sides_fit, flags_fit, key_fits}
use Rattle.rule_model.specs.declared.tables.Rule.{Rule}
use Rattle.rule_model.specs.Match.{catches_from}
use Rattle.rule_model.specs.Hold.{is_true, has_room, pattern_count, caught_by}
use Rattle.rule_model.specs.Tab.{tab_rule}
use Rattle.core_conversions.specs.Conversions.{without_control_sides, without_alt_sides, plain_flags, plain_key, plain_rule, plain_sides}
use Rattle.core_conversions.specs.Laws.{KeepsPresses, PlainSidesKeepTraces}
use Rattle.core_conversions.proofs.SameTraces.{RulesAlike, presses_same, rules_alike, traces_same}

-- a mask keeps a bit that it has
has_masked : (flags mask bit : ℕ) → bit_and mask bit ≡ bit → has (bit_and flags mask) bit ≡ has flags bit
has_masked flags mask bit kept = ap (λ (n : ℕ). not (nat_eq n 0)) (and_assoc bit flags mask ∙ ap (bit_and flags) kept)

-- whether flags fit modifiers, by what the flags have
abbrev parts_fit : ℕ → (shifted locked unlocked control alt : Bool) → Bool
parts_fit mods shifted locked unlocked control alt =
    beq shifted (has mods shift) && ((not locked || has mods caps) && (not unlocked || not (has mods caps))) && control && alt

control_cleared : (flags mods : ℕ) (named : Bool) → has flags either_control ≡ named → flags_fit (if named then bit_and flags 0xFFFF_FFFC else flags) mods ≡ flags_fit flags mods
control_cleared flags mods false told = refl
control_cleared flags mods true told =
    let mask : ℕ = 0xFFFF_FFFC in
    let cleared : ℕ = bit_and flags mask in
    let named : has cleared either_control ≡ true = has_masked flags mask either_control refl ∙ told in
    (λ i. parts_fit mods (has_masked flags mask shift refl i) (has_masked flags mask caps refl i) (has_masked flags mask no_caps refl i)
    (if named i then has_either mods left_control right_control else (beq (has cleared left_control) (has mods left_control) && beq (has cleared right_control) (has mods right_control)))
    (if has_masked flags mask either_alt refl i then has_either mods left_alt right_alt
    else (beq (has_masked flags mask left_alt refl i) (has mods left_alt) && beq (has_masked flags mask right_alt refl i) (has mods right_alt))))
    ∙ sym (λ i. parts_fit mods (has flags shift) (has flags caps) (has flags no_caps)
    (if told i then has_either mods left_control right_control else (beq (has flags left_control) (has mods left_control) && beq (has flags right_control) (has mods right_control)))
    (sides_fit either_alt left_alt right_alt flags mods))

alt_cleared : (flags mods : ℕ) (named : Bool) → has flags either_alt ≡ named → flags_fit (if named then bit_and flags 0xFFFF_FFF3 else flags) mods ≡ flags_fit flags mods
alt_cleared flags mods false told = refl
alt_cleared flags mods true told =
    let mask : ℕ = 0xFFFF_FFF3 in
    let cleared : ℕ = bit_and flags mask in
    let named : has cleared either_alt ≡ true = has_masked flags mask either_alt refl ∙ told in
    (λ i. parts_fit mods (has_masked flags mask shift refl i) (has_masked flags mask caps refl i) (has_masked flags mask no_caps refl i)
    (if has_masked flags mask either_control refl i then has_either mods left_control right_control
    else (beq (has_masked flags mask left_control refl i) (has mods left_control) && beq (has_masked flags mask right_control refl i) (has mods right_control)))
    (if named i then has_either mods left_alt right_alt else (beq (has cleared left_alt) (has mods left_alt) && beq (has cleared right_alt) (has mods right_alt))))
    ∙ sym (λ i. parts_fit mods (has flags shift) (has flags caps) (has flags no_caps)
    (sides_fit either_control left_control right_control flags mods)
    (if told i then has_either mods left_alt right_alt else (beq (has flags left_alt) (has mods left_alt) && beq (has flags right_alt) (has mods right_alt))))

-- plain flags fit the same modifiers
pub plain_flags_fit : (flags mods : ℕ) → flags_fit (plain_flags flags) mods ≡ flags_fit flags mods
plain_flags_fit flags mods =
    let inner : ℕ = without_control_sides flags in
    alt_cleared inner mods (has inner either_alt) refl ∙ control_cleared flags mods (has flags either_control) refl

plain_key_fits : (k : RuleKey) (press : KeyPress) → key_fits (plain_key k) press ≡ key_fits k press
unfolding key_fits
plain_key_fits key.Any press = refl
plain_key_fits (key.Char c) press = refl
plain_key_fits (key.Virtual flags code) press = ap (λ (fits : Bool). nat_eq code press.code && fits) (plain_flags_fit flags press.mods)

used_key_fits : (using_keys : Bool) (k : RuleKey) (press : KeyPress) → key_fits (if using_keys then plain_key k else key.Any) press ≡ key_fits (if using_keys then k else key.Any) press
used_key_fits true k press = plain_key_fits k press
used_key_fits false k press = refl

plain_alike : RulesAlike plain_rule
plain_alike =
    record {
      output = λ rule. refl;
      options = λ rule n. refl;
      holds = λ stores using_keys content left press rule.
          let context = (tab_rule stores using_keys rule).context in
          λ i. if list_all (is_true content) context && has_room context left
          then caught_by (catches_from content [] context (drop (length left - pattern_count context) left)) (if used_key_fits using_keys rule.key press i then Some None else None)
          else None;
    }

pub plain_sides_keep_traces : PlainSidesKeepTraces
plain_sides_keep_traces = traces_same _ (rules_alike plain_rule plain_alike)

pub plain_sides_keep_presses : KeepsPresses plain_sides
plain_sides_keep_presses = presses_same _ (rules_alike plain_rule plain_alike)
