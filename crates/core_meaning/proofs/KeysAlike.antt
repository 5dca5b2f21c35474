-- A key fits a press in Keyman's own engine as in this product, with four exceptions.
use Rattle.std.specs.Prelude.{◌≡◌, ℕ, Bool, true, false, not, ◌&&◌, ◌||◌, nat_eq, if◌then◌else◌, None}
use Rattle.std.proofs.Common.{refl, sym, ap, ◌∙◌, arith}
use Rattle.std.specs.Bool.{beq}
use Rattle.std.specs.Option.{option_map_or}
use Rattle.kmn_base.specs.declared.keys.RuleKey.TheVariants.{Any, Char, Virtual}
use Rattle.virtual_keys.specs.Fits.{left_control, right_control, left_alt, right_alt, shift, either_control, either_alt, has, has_either, caps_fit, sides_fit, flags_fit, char_of_press, key_fits}
use Rattle.core_meaning.specs.Keys.{has_both_sides, has_side, names_either, eithers_fit, names_alt_gr, right_alt_alone, sides_named_fit, core_flags_fit}
use Rattle.core_meaning.specs.Laws.{TwiceNamedFitNothing, BothSidesHeldFitNothing, AreCommonFlags, CommonKeysFitAlike}

-- if neither of two is true, each is false
left_false : (a b : Bool) → (a || b) ≡ false → a ≡ false
left_false true b none = none
left_false false b none = refl

right_false : (a b : Bool) → (a || b) ≡ false → b ≡ false
right_false true b none = absurd (true_no_false none)
  where
    true_no_false : true ≡ false → ⊥
    true_no_false e = grind arith
right_false false b none = none

-- if the first of two is true but not both, the second is false
second_false : (a b : Bool) → (a && b) ≡ false → a ≡ true → b ≡ false
second_false true b none first = none
second_false false b none first = absurd (false_no_true first)
  where
    false_no_true : false ≡ true → ⊥
    false_no_true e = grind arith

-- the test of flags that name no side, with its parts in the order of this product
either_order : (caps_ok same_shift control alt : Bool) → ((caps_ok && true) && (same_shift && ((true && control) && alt))) ≡ (((same_shift && caps_ok) && control) && alt)
either_order true true true alt = refl
either_order true true false alt = refl
either_order true false control alt = refl
either_order false true control alt = refl
either_order false false control alt = refl

-- the test of flags that name sides, with its parts in the order of this product
sides_order : (caps_ok same_shift control alt : Bool) → ((caps_ok && true) && ((same_shift && (control && alt)) || false)) ≡ (((same_shift && caps_ok) && control) && alt)
sides_order true true true true = refl
sides_order true true true false = refl
sides_order true true false alt = refl
sides_order true false control alt = refl
sides_order false true control alt = refl
sides_order false false control alt = refl

-- a modifier whose sides are not named fits as in this product
half_fits : (named left right : Bool) → beq named (left || right) ≡ (if named then (left || right) else (beq false left && beq false right))
half_fits true true right = refl
half_fits true false true = refl
half_fits true false false = refl
half_fits false true right = refl
half_fits false false true = refl
half_fits false false false = refl

no_side_fits : (either left right flags mods : ℕ) → has flags left ≡ false → has flags right ≡ false → beq (has flags either) (has_either mods left right) ≡ sides_fit either left right flags mods
no_side_fits either left right flags mods no_left no_right =
    half_fits (has flags either) (has mods left) (has mods right)
    ∙ sym (λ i. if has flags either then has_either mods left right else (beq (no_left i) (has mods left) && beq (no_right i) (has mods right)))

either_alike : (flags mods : ℕ) → has_both_sides mods ≡ false → names_either flags ≡ true → has_side flags ≡ false → core_flags_fit flags mods ≡ flags_fit flags mods
either_alike flags mods one_side named no_side =
    (λ i. (caps_fit flags mods && not (one_side i)) && (if named i then (same_shift && ((not (no_side i) && control) && alt)) else sides_named_fit flags mods))
    ∙ either_order (caps_fit flags mods) same_shift control alt
    ∙ (λ i. ((same_shift && caps_fit flags mods) && control_fits i) && alt_fits i)
  where
    same_shift : Bool
    same_shift = beq (has flags shift) (has mods shift)

    control : Bool
    control = beq (has flags either_control) (has_either mods left_control right_control)

    alt : Bool
    alt = beq (has flags either_alt) (has_either mods left_alt right_alt)

    no_control : has_either flags left_control right_control ≡ false
    no_control = left_false (has_either flags left_control right_control) (has_either flags left_alt right_alt) no_side

    no_alt : has_either flags left_alt right_alt ≡ false
    no_alt = right_false (has_either flags left_control right_control) (has_either flags left_alt right_alt) no_side

    control_fits : beq (has flags either_control) (has_either mods left_control right_control) ≡ sides_fit either_control left_control right_control flags mods
    control_fits = no_side_fits either_control left_control right_control flags mods (left_false (has flags left_control) (has flags right_control) no_control) (right_false (has flags left_control) (has flags right_control) no_control)

    alt_fits : beq (has flags either_alt) (has_either mods left_alt right_alt) ≡ sides_fit either_alt left_alt right_alt flags mods
    alt_fits = no_side_fits either_alt left_alt right_alt flags mods (left_false (has flags left_alt) (has flags right_alt) no_alt) (right_false (has flags left_alt) (has flags right_alt) no_alt)

sides_alike : (flags mods : ℕ) → has_both_sides mods ≡ false → names_either flags ≡ false → names_alt_gr flags ≡ false → core_flags_fit flags mods ≡ flags_fit flags mods
sides_alike flags mods one_side none no_alt_gr =
    (λ i. (caps_fit flags mods && not (one_side i)) && (if none i then (same_shift && eithers_fit flags mods) else ((same_shift && (control && alt)) || (no_alt_gr i && right_alt_alone mods))))
    ∙ sides_order (caps_fit flags mods) same_shift control alt
    ∙ sym (λ i. ((same_shift && caps_fit flags mods) && (if no_control i then has_either mods left_control right_control else control)) && (if no_alt i then has_either mods left_alt right_alt else alt))
  where
    same_shift : Bool
    same_shift = beq (has flags shift) (has mods shift)

    control : Bool
    control = beq (has flags left_control) (has mods left_control) && beq (has flags right_control) (has mods right_control)

    alt : Bool
    alt = beq (has flags left_alt) (has mods left_alt) && beq (has flags right_alt) (has mods right_alt)

    no_control : has flags either_control ≡ false
    no_control = left_false (has flags either_control) (has flags either_alt) none

    no_alt : has flags either_alt ≡ false
    no_alt = right_false (has flags either_control) (has flags either_alt) none

flags_alike : (flags mods : ℕ) → has_both_sides mods ≡ false → AreCommonFlags flags → core_flags_fit flags mods ≡ flags_fit flags mods
flags_alike flags mods one_side common = by_either (names_either flags) refl
  where
    by_either : (named : Bool) → names_either flags ≡ named → core_flags_fit flags mods ≡ flags_fit flags mods
    by_either true told = either_alike flags mods one_side told (second_false (names_either flags) (has_side flags) common.sides told)
    by_either false told = sides_alike flags mods one_side told common.right

pub common_keys_fit_alike : CommonKeysFitAlike
unfolding key_fits
common_keys_fit_alike Any press key common = refl
common_keys_fit_alike (Char c) press key common = λ i. option_map_or (nat_eq c) (if common.no_keypad i then None else char_of_press press) false
common_keys_fit_alike (Virtual flags code) press key common = λ i. nat_eq code press.code && flags_alike flags press.mods common.one_side key i

and_false : (b : Bool) → (b && false) ≡ false
and_false true = refl
and_false false = refl

-- if two are true, each is
both_true : (a b : Bool) → (a && b) ≡ true → (a ≡ true) × (b ≡ true)
both_true a true both = grind arith
both_true true false both = grind arith
both_true false false both = grind arith

pub twice_named_fit_nothing : TwiceNamedFitNothing
twice_named_fit_nothing flags code press twice =
    (λ i. nat_eq code press.code && ((caps_fit flags press.mods && not (has_both_sides press.mods)) && (if parts.0 i then (same_shift && ((not (parts.1 i) && control) && alt)) else sides_named_fit flags press.mods)))
    ∙ ap (λ (b : Bool). nat_eq code press.code && ((caps_fit flags press.mods && not (has_both_sides press.mods)) && b)) (and_false same_shift)
    ∙ ap (λ (b : Bool). nat_eq code press.code && b) (and_false (caps_fit flags press.mods && not (has_both_sides press.mods)))
    ∙ and_false (nat_eq code press.code)
  where
    parts : (names_either flags ≡ true) × (has_side flags ≡ true)
    parts = both_true (names_either flags) (has_side flags) twice

    same_shift : Bool
    same_shift = beq (has flags shift) (has press.mods shift)

    control : Bool
    control = beq (has flags either_control) (has_either press.mods left_control right_control)

    alt : Bool
    alt = beq (has flags either_alt) (has_either press.mods left_alt right_alt)

pub both_sides_held_fit_nothing : BothSidesHeldFitNothing
both_sides_held_fit_nothing flags code press both =
    (λ i. nat_eq code press.code && ((caps_fit flags press.mods && not (both i)) && rest))
    ∙ ap (λ (b : Bool). nat_eq code press.code && (b && rest)) (and_false (caps_fit flags press.mods))
    ∙ and_false (nat_eq code press.code)
  where
    rest : Bool
    rest = if names_either flags then (beq (has flags shift) (has press.mods shift) && eithers_fit flags press.mods) else sides_named_fit flags press.mods
