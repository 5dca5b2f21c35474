-- A cased key fits exactly where one of its two halves fits.
use Rattle.std.proofs.Common.{◌≡◌, ℕ, Bool, true, false, not, ◌&&◌, ◌-◌, drop, length, List, [], ◌∷◌, Option, Some, None, refl, ap, sym, ◌∙◌, if◌then◌else◌, nat_eq}
use Rattle.std.specs.Prelude.{bit_and, bit_or, ◌||◌}
use Rattle.std.specs.Bool.{beq}
use Rattle.std.proofs.lemmas.Nat.{and_or_self, and_or_apart, and_assoc}
use Rattle.std.specs.Int.Bits.{and_zero_r}
use Rattle.kmn_base.specs.declared.keys.RuleKey.TheVariants as key
use Rattle.kmn_base.specs.declared.keys.KeyPress.{KeyPress}
use Rattle.virtual_keys.specs.Fits.{shift, caps, no_caps, has, has_either, either_control, left_control, right_control, either_alt, left_alt, right_alt, sides_fit, key_fits}
use Rattle.std.proofs.lemmas.Bool.{and_parts, not-true}
use Rattle.std.specs.List.{list_any, list_all}
use Rattle.rule_model.specs.declared.event_state.Catch.{Catch}
use Rattle.rule_model.specs.Match.{catches_from}
use Rattle.rule_model.specs.Hold.{is_true, has_room, pattern_count, caught_by, is_exchanged, exchanged_fit, virtual_fits, fits_cased, fitting_place_with}
use Rattle.rule_model.specs.CasedKeys.{small_flags, with_other_shift, large_flags, either_caught, CasedKeysFitByHalves, CasedRulesHoldByHalves}

abbrev tests : ℕ → Bool
tests n = not (nat_eq n 0)

-- a bit that is set, and bits that are unchanged
has_set : (flags bit : ℕ) → tests bit ≡ true → has (bit_or flags bit) bit ≡ true
has_set flags bit e = ap tests (and_or_self bit flags) ∙ e

has_kept : (flags bit other : ℕ) → bit_and bit other ≡ 0 → has (bit_or flags bit) other ≡ has flags other
has_kept flags bit other e = ap tests (and_or_apart other flags bit e)

-- the bits that a mask keeps and removes
has_masked : (flags mask bit kept : ℕ) → bit_and mask bit ≡ kept → has (bit_and flags mask) bit ≡ has flags kept
has_masked flags mask bit kept e = ap tests (and_assoc bit flags mask ∙ ap (bit_and flags) e)

has_nothing : (flags : ℕ) → has flags 0 ≡ false
has_nothing flags = ap tests (and_zero_r flags)

-- exchanging shift inverts the bit of shift and leaves all other bits unchanged
shift_exchanged : (flags : ℕ) → has (with_other_shift flags) shift ≡ not (has flags shift)
shift_exchanged flags =
    elim (has flags shift) as (λ (b : Bool). has (if b then bit_and flags 0xFFFF_FFEF else bit_or flags shift) shift ≡ not b) [
      | true ↦ has_masked flags 0xFFFF_FFEF shift 0 refl ∙ has_nothing flags
      | false ↦ has_set flags shift refl
    ]

others_kept : (flags bit : ℕ) → bit_and 0xFFFF_FFEF bit ≡ bit → bit_and shift bit ≡ 0 → has (with_other_shift flags) bit ≡ has flags bit
others_kept flags bit mask apart =
    elim (has flags shift) as (λ (b : Bool). has (if b then bit_and flags 0xFFFF_FFEF else bit_or flags shift) bit ≡ has flags bit) [
      | true ↦ has_masked flags 0xFFFF_FFEF bit bit mask
      | false ↦ has_kept flags shift bit apart
    ]

large_kept : (flags bit : ℕ) → bit_and caps bit ≡ 0 → bit_and 0xFFFF_FFEF bit ≡ bit → bit_and shift bit ≡ 0 → has (large_flags flags) bit ≡ has flags bit
large_kept flags bit apart mask other = has_kept (with_other_shift flags) caps bit apart ∙ others_kept flags bit mask other

-- whether flags fit, by the modifiers that they name
abbrev parts_fit : (shift_named caps_named no_caps_named shift_on caps_on control alt : Bool) → Bool
parts_fit shift_named caps_named no_caps_named shift_on caps_on control alt =
    beq shift_named shift_on && ((not caps_named || caps_on) && (not no_caps_named || not caps_on)) && control && alt

abbrev control_fit : ℕ → ℕ → Bool
control_fit flags mods = sides_fit either_control left_control right_control flags mods

abbrev alt_fit : ℕ → ℕ → Bool
alt_fit flags mods = sides_fit either_alt left_alt right_alt flags mods

side_same : (f g mods either left right : ℕ) → has f either ≡ has g either → has f left ≡ has g left → has f right ≡ has g right → sides_fit either left right f mods ≡ sides_fit either left right g mods
side_same f g mods either left right e l r = λ i. if e i then has_either mods left right else (beq (l i) (has mods left) && beq (r i) (has mods right))

small_decides : (code shift_named shift_on caps_on control alt : Bool) →
    (code && parts_fit shift_named false true shift_on caps_on control alt) ≡ (not caps_on && (code && (beq shift_named (not (beq shift_on caps_on)) && (control && alt))))
small_decides true true true true true alt = refl
small_decides true true true true false alt = refl
small_decides true true true false true alt = refl
small_decides true true true false false alt = refl
small_decides true true false true true alt = refl
small_decides true true false true false alt = refl
small_decides true true false false true alt = refl
small_decides true true false false false alt = refl
small_decides true false true true true alt = refl
small_decides true false true true false alt = refl
small_decides true false true false true alt = refl
small_decides true false true false false alt = refl
small_decides true false false true true alt = refl
small_decides true false false true false alt = refl
small_decides true false false false true alt = refl
small_decides true false false false false alt = refl
small_decides false true true true true alt = refl
small_decides false true true true false alt = refl
small_decides false true true false true alt = refl
small_decides false true true false false alt = refl
small_decides false true false true true alt = refl
small_decides false true false true false alt = refl
small_decides false true false false true alt = refl
small_decides false true false false false alt = refl
small_decides false false true true true alt = refl
small_decides false false true true false alt = refl
small_decides false false true false true alt = refl
small_decides false false true false false alt = refl
small_decides false false false true true alt = refl
small_decides false false false true false alt = refl
small_decides false false false false true alt = refl
small_decides false false false false false alt = refl

large_decides : (code shift_named shift_on caps_on control alt : Bool) →
    (code && parts_fit (not shift_named) true false shift_on caps_on control alt) ≡ (caps_on && (code && (beq shift_named (not (beq shift_on caps_on)) && (control && alt))))
large_decides true true true true true alt = refl
large_decides true true true true false alt = refl
large_decides true true true false true alt = refl
large_decides true true true false false alt = refl
large_decides true true false true true alt = refl
large_decides true true false true false alt = refl
large_decides true true false false true alt = refl
large_decides true true false false false alt = refl
large_decides true false true true true alt = refl
large_decides true false true true false alt = refl
large_decides true false true false true alt = refl
large_decides true false true false false alt = refl
large_decides true false false true true alt = refl
large_decides true false false true false alt = refl
large_decides true false false false true alt = refl
large_decides true false false false false alt = refl
large_decides false true true true true alt = refl
large_decides false true true true false alt = refl
large_decides false true true false true alt = refl
large_decides false true true false false alt = refl
large_decides false true false true true alt = refl
large_decides false true false true false alt = refl
large_decides false true false false true alt = refl
large_decides false true false false false alt = refl
large_decides false false true true true alt = refl
large_decides false false true true false alt = refl
large_decides false false true false true alt = refl
large_decides false false true false false alt = refl
large_decides false false false true true alt = refl
large_decides false false false true false alt = refl
large_decides false false false false true alt = refl
large_decides false false false false false alt = refl

fit_by_parts : (flags code : ℕ) (press : KeyPress) → key_fits (key.Virtual flags code) press
    ≡ (nat_eq code press.code && parts_fit (has flags shift) (has flags caps) (has flags no_caps) (has press.mods shift) (has press.mods caps) (control_fit flags press.mods) (alt_fit flags press.mods))
unfolding key_fits
fit_by_parts flags code press = refl

pub cased_keys_fit_by_halves : CasedKeysFitByHalves
cased_keys_fit_by_halves flags code press no_large no_small =
    let s = small_flags flags in
    let l = large_flags flags in
    let mods = press.mods in
    record {
      small =
          fit_by_parts s code press
          ∙ ((λ i. nat_eq code press.code && parts_fit (has_kept flags no_caps shift refl i) ((has_kept flags no_caps caps refl ∙ no_large) i) (has_set flags no_caps refl i) (has mods shift) (has mods caps)
          (side_same s flags mods either_control left_control right_control (has_kept flags no_caps either_control refl) (has_kept flags no_caps left_control refl) (has_kept flags no_caps right_control refl) i)
          (side_same s flags mods either_alt left_alt right_alt (has_kept flags no_caps either_alt refl) (has_kept flags no_caps left_alt refl) (has_kept flags no_caps right_alt refl) i))
          ∙ small_decides (nat_eq code press.code) (has flags shift) (has mods shift) (has mods caps) (control_fit flags mods) (alt_fit flags mods));
      large =
          fit_by_parts l code press
          ∙ ((λ i. nat_eq code press.code && parts_fit ((has_kept (with_other_shift flags) caps shift refl ∙ shift_exchanged flags) i) (has_set (with_other_shift flags) caps refl i) ((large_kept flags no_caps refl refl refl ∙ no_small) i) (has mods shift) (has mods caps)
          (side_same l flags mods either_control left_control right_control (large_kept flags either_control refl refl refl) (large_kept flags left_control refl refl refl) (large_kept flags right_control refl refl refl) i)
          (side_same l flags mods either_alt left_alt right_alt (large_kept flags either_alt refl refl refl) (large_kept flags left_alt refl refl refl) (large_kept flags right_alt refl refl refl) i))
          ∙ large_decides (nat_eq code press.code) (has flags shift) (has mods shift) (has mods caps) (control_fit flags mods) (alt_fit flags mods));
    }

-- the fit of a virtual key on a keyboard with cased keys
pub fits_virtual : (cased : List ℕ) (flags code : ℕ) (press : KeyPress) → fits_cased cased (key.Virtual flags code) press ≡ virtual_fits (is_exchanged cased flags code) flags code press
fits_virtual [] flags code press = refl
fits_virtual (c ∷ cs) flags code press = refl

-- one key that fits, or None
abbrev place_if : Bool → Option (Option ℕ)
place_if fits = if fits then Some None else None

halves_decide : (stands : Bool) (catches : Option (List Catch)) (caps_on fits : Bool) →
    (if stands then caught_by catches (place_if fits) else None)
    ≡ either_caught (if stands then caught_by catches (place_if (not caps_on && fits)) else None) (if stands then caught_by catches (place_if (caps_on && fits)) else None)
halves_decide false catches caps_on fits = refl
halves_decide true None caps_on fits = refl
halves_decide true (Some catches) true true = refl
halves_decide true (Some catches) true false = refl
halves_decide true (Some catches) false true = refl
halves_decide true (Some catches) false false = refl

pub cased_rules_hold_by_halves : CasedRulesHoldByHalves
cased_rules_hold_by_halves cased content left press rule flags code keyed exchanged =
    let uncapped = (and_parts (list_any (nat_eq code) cased) (not (has flags caps) && not (has flags no_caps)) exchanged).1 in
    let each = and_parts (not (has flags caps)) (not (has flags no_caps)) uncapped in
    let halves = cased_keys_fit_by_halves flags code press (not-true (has flags caps) each.0) (not-true (has flags no_caps) each.1) in
    let stands = list_all (is_true content) rule.context && has_room rule.context left in
    let catches = catches_from content [] rule.context (drop (length left - pattern_count rule.context) left) in
    let fits = nat_eq code press.code && exchanged_fit flags press.mods in
    (λ i. if stands then caught_by catches (fitting_place_with cased content press (keyed i)) else None)
    ∙ ((λ i. if stands then caught_by catches (place_if ((fits_virtual cased flags code press ∙ ap (λ b. virtual_fits b flags code press) exchanged) i)) else None)
    ∙ (halves_decide stands catches (has press.mods caps) fits
    ∙ sym (λ i. either_caught (if stands then caught_by catches (place_if (halves.small i)) else None) (if stands then caught_by catches (place_if (halves.large i)) else None))))
