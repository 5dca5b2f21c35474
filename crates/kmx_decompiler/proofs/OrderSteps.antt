-- The first record with a longer context than the record before it, found record by record and group by group.
use Rattle.std.proofs.Common.{◌≡◌, ℕ, ◌+◌, true, false, List, [], ◌∷◌, length, Option, Some, None, drop, refl, sym, ap, ◌∙◌}
use Rattle.std.specs.Prelude.{slice_get, nat_lt, if◌then◌else◌, option_map}
use Rattle.std.specs.Option.{option_or}
use Rattle.rule_model.specs.declared.tables.Rule.{Rule}
use Rattle.rule_model.specs.declared.tables.Group.{Group}
use Rattle.decompile_text.proofs.Reached.{reached}
use Rattle.kmx_decompiler.specs.declared.no_spelling.NoSpelling.{NoSpelling}
use Rattle.kmx_decompiler.specs.declared.no_spelling.NoSpelling.TheVariants.{Order}
use Rattle.kmx_decompiler.specs.Unspelled.{longer_behind, first_longer, disorder}

-- a group without a first record has none
pub none_longer : (rules : List Rule) → None ≡ slice_get rules 0 → None ≡ first_longer rules
none_longer [] none = refl
none_longer (rule ∷ rules) none = cc

-- the search begins behind the first record
pub first_behind : (rules : List Rule) (first : Rule) (previous : ℕ) → Some first ≡ slice_get rules 0 → previous ≡ length first.context
    → longer_behind 1 previous (drop 1 rules) ≡ first_longer rules
first_behind rules first previous at is =
    ap (λ (n : ℕ). longer_behind 1 n (drop 1 rules)) is ∙ sym (ap first_longer (reached rules 0 first at))

-- a record whose context isn't longer is passed
pub longer_after : (rules : List Rule) (n previous size : ℕ) (rule : Rule) (whole : Option ℕ) → Some rule ≡ slice_get rules n → size ≡ length rule.context
    → nat_lt previous size ≡ false → longer_behind n previous (drop n rules) ≡ whole → longer_behind (n + 1) size (drop (n + 1) rules) ≡ whole
longer_after rules n previous size rule whole at is shorter so_far =
    let rest : List Rule = drop (n + 1) rules in
    let short : nat_lt previous (length rule.context) ≡ false = ap (nat_lt previous) (sym is) ∙ shorter in
    ap (λ (k : ℕ). longer_behind (n + 1) k rest) is
    ∙ (sym (ap (λ b. if b then Some n else longer_behind (n + 1) (length rule.context) rest) short)
    ∙ (sym (ap (longer_behind n previous) (reached rules n rule at)) ∙ so_far))

-- a record whose context is longer is the first
pub longer_here : (rules : List Rule) (n previous size : ℕ) (rule : Rule) (whole : Option ℕ) → Some rule ≡ slice_get rules n → size ≡ length rule.context
    → nat_lt previous size ≡ true → longer_behind n previous (drop n rules) ≡ whole → Some n ≡ whole
longer_here rules n previous size rule whole at is longer so_far =
    let rest : List Rule = drop (n + 1) rules in
    let long : nat_lt previous (length rule.context) ≡ true = ap (nat_lt previous) (sym is) ∙ longer in
    sym (ap (λ b. if b then Some n else longer_behind (n + 1) (length rule.context) rest) long)
    ∙ (sym (ap (longer_behind n previous) (reached rules n rule at)) ∙ so_far)

-- a group whose records are in order is passed
pub disorder_after : (groups : List Group) (g : ℕ) (group : Group) (whole : Option NoSpelling) → Some group ≡ slice_get groups g → None ≡ first_longer group.rules
    → disorder g (drop g groups) ≡ whole → disorder (g + 1) (drop (g + 1) groups) ≡ whole
disorder_after groups g group whole at none so_far =
    let rest : List Group = drop (g + 1) groups in
    ap (λ (first : Option ℕ). option_or (option_map (λ rule. Order g rule) first) (disorder (g + 1) rest)) none
    ∙ (sym (ap (disorder g) (reached groups g group at)) ∙ so_far)

-- a group that has such a record is the first
pub disorder_here : (groups : List Group) (g rule : ℕ) (group : Group) (whole : Option NoSpelling) → Some group ≡ slice_get groups g → Some rule ≡ first_longer group.rules
    → disorder g (drop g groups) ≡ whole → Some (Order g rule) ≡ whole
disorder_here groups g rule group whole at some so_far =
    let rest : List Group = drop (g + 1) groups in
    ap (λ (first : Option ℕ). option_or (option_map (λ rule. Order g rule) first) (disorder (g + 1) rest)) some
    ∙ (sym (ap (disorder g) (reached groups g group at)) ∙ so_far)
