-- Writing the key records group by group.
use Rattle.std.proofs.Common.{◌≡◌, ℕ, ◌+◌, ◌<◌, List, ◌++◌, length, get_or, drop, sym, ap, ◌∙◌, append_assoc, length-append, arith}
use Rattle.std.specs.List.{flat_map}
use Rattle.std.proofs.lemmas.List.{drop_more}
use Rattle.std.proofs.lemmas.List.Concat.{flat_map-append}
use Rattle.rule_model.specs.declared.tables.Rule.{Rule}
use Rattle.rule_model.specs.declared.tables.Group.{Group}
use Rattle.kmx_format.specs.File.{rules_of, rule_strings, rule_records}
use Rattle.kmx_format.proofs.FileRecords.{rule_records-append}

-- the rules from a group on are its own rules and the rules of the groups after it
pub rules_from_group : (groups : List Group) (i : ℕ) (group : Group) → i < length groups → group ≡ get_or groups i group
    → flat_map rules_of (drop i groups) ≡ group.rules ++ flat_map rules_of (drop (i + 1) groups)
rules_from_group groups i group below is =
    ap (flat_map rules_of) (drop_more groups i group below) ∙ ap (λ (g : Group). g.rules ++ flat_map rules_of (drop (i + 1) groups)) (sym is)

-- the written bytes and the remaining rules result in all bytes, and the strings of the remaining rules begin at a place
pub record PutsOn (out : List ℕ) (place : ℕ) (rules : List Rule) (all : List ℕ) (behind : ℕ) : Type 0 where
  pub places : place + length (flat_map rule_strings rules) ≡ behind
  pub bytes : out ++ rule_records place rules ≡ all

pub puts_on : (out new : List ℕ) (place next : ℕ) (rules first others : List Rule) (all : List ℕ) (behind : ℕ) → rules ≡ first ++ others
    → next ≡ place + length (flat_map rule_strings first) → new ≡ out ++ rule_records place first
    → PutsOn out place rules all behind → PutsOn new next others all behind
puts_on out new place next rules first others all behind rules_are next_is new_is h = record {
  places = omega (
    arith,
    h.places,
    ap (λ rs. length (flat_map rule_strings rs)) rules_are,
    ap length (flat_map-append rule_strings first others),
    length-append (flat_map rule_strings first) (flat_map rule_strings others),
  );
  bytes =
      ap (λ (xs : List ℕ). xs ++ rule_records next others) new_is
      ∙ ap (λ p. (out ++ rule_records place first) ++ rule_records p others) next_is
      ∙ append_assoc out (rule_records place first) (rule_records (place + length (flat_map rule_strings first)) others)
      ∙ ap (λ (xs : List ℕ). out ++ xs) (sym (rule_records-append place first others) ∙ ap (rule_records place) (sym rules_are)) ∙ h.bytes;
}
