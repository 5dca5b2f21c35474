-- What is known of each rule of a well-named program.
use Rattle.std.proofs.Common.{◌≡◌, Bool, true, false, not, ◌||◌, List, [], ◌∷◌, length, Option, Some, None, refl, ap, sym, ◌∙◌, nat_eq}
use Rattle.std.specs.Prelude.{filter, find, option_to_list}
use Rattle.std.specs.List.{list_all, list_any, AllByRecursion}
use Rattle.std.proofs.lemmas.Bool.{and_parts, and_from, or_parts, or_from, not-true, false≢true, eqb-true, cond_both, not_from_false}
use Rattle.std.proofs.lemmas.List.Folds.{list_all-append}
use Rattle.rule_model.specs.declared.program.Program.{Program}
use Rattle.rule_model.specs.declared.program.GroupDef.{GroupDef}
use Rattle.rule_model.specs.declared.program.RuleDef.{RuleDef}
use Rattle.rule_model.specs.declared.program.RuleKind.{RuleKind}
use Rattle.rule_model.specs.declared.program.RuleKind.TheVariants.{Plain, OnMatch, OnNoMatch}
use Rattle.rule_model.specs.declared.program.SrcItem.{SrcItem}
use Rattle.rule_model.specs.Naming.{rule_items}
use Rattle.rule_model.specs.Src.{is_plain, is_plain_kind, is_match_kind, is_nomatch_kind, is_on_match, is_on_nomatch}
use Rattle.compile_laws.specs.Numbers.{item_values}
use Rattle.compile_laws.specs.WellNamed.{is_known_pattern, is_known_key, is_known_output, is_known_rule, is_known_group}
use Rattle.rule_model.specs.OwnLines.{have_own_lines}
use Rattle.compile_laws.proofs.Linked.{is_value}

-- whether the value of an item is one of the program's
abbrev pub has_values : Program → SrcItem → Bool
has_values p x = list_all (is_value p) (item_values x)

-- a rule names only what is defined, and its values are the program's
pub record KnownRule (p : Program) (using_keys : Bool) (r : RuleDef) : Type 0 where
  pub context : list_all (is_known_pattern p) r.context ≡ true
  pub key : is_known_key p using_keys r.key ≡ true
  pub output : list_all (is_known_output p (length r.context)) r.output ≡ true
  pub context_values : list_all (has_values p) r.context ≡ true
  pub output_values : list_all (has_values p) r.output ≡ true

-- an optional match or nomatch statement
abbrev pub KnownStatement : Program → Option RuleDef → Type 0
KnownStatement p None = Unit {0}
KnownStatement p (Some r) = (list_all (is_known_output p 0) r.output ≡ true) × (list_all (has_values p) r.output ≡ true) × (length r.context ≡ 0)

pub record KnownGroup (p : Program) (g : GroupDef) : Type 0 where
  pub rules : AllByRecursion (KnownRule p g.using_keys) (filter is_plain g.rules)
  pub lines : have_own_lines (filter is_plain g.rules) ≡ true
  pub on_match : KnownStatement p (find is_on_match g.rules)
  pub on_nomatch : KnownStatement p (find is_on_nomatch g.rules)

-- the parts of what is known of a rule
pub record RuleParts (p : Program) (using_keys : Bool) (r : RuleDef) : Type 0 where
  pub statement : is_plain r ≡ false → length r.context ≡ 0
  pub rule : KnownRule p using_keys r

rule_parts : (p : Program) (using_keys : Bool) (r : RuleDef) → is_known_rule p using_keys r ≡ true → list_all (has_values p) (rule_items r) ≡ true → RuleParts p using_keys r
rule_parts p using_keys r known valued =
    let whole = and_parts (is_plain r || nat_eq (length r.context) 0) _ known in
    let context = and_parts (list_all (is_known_pattern p) r.context) _ whole.1 in
    let rest = and_parts (is_known_key p using_keys r.key) (list_all (is_known_output p (length r.context)) r.output) context.1 in
    let items = and_parts (list_all (has_values p) r.context) _ (sym (list_all-append (has_values p) r.context _) ∙ valued) in
    let outputs = and_parts (list_all (has_values p) (option_to_list r.key)) _ (sym (list_all-append (has_values p) (option_to_list r.key) r.output) ∙ items.1) in
    record {
      statement = λ e. eqb-true (length r.context) 0 ((λ i. sym e i || nat_eq (length r.context) 0) ∙ whole.0);
      rule = record { context = context.0; key = rest.0; output = rest.1; context_values = items.0; output_values = outputs.1 };
    }

plain_known : (p : Program) (using_keys : Bool) (rs : List RuleDef) → list_all (is_known_rule p using_keys) rs ≡ true → list_all (λ r. list_all (has_values p) (rule_items r)) rs ≡ true →
    AllByRecursion (KnownRule p using_keys) (filter is_plain rs)
plain_known p using_keys [] known valued = tt
plain_known p using_keys (r ∷ rs) known valued =
    let k = and_parts (is_known_rule p using_keys r) (list_all (is_known_rule p using_keys) rs) known in
    let v = and_parts (list_all (has_values p) (rule_items r)) (list_all (λ r. list_all (has_values p) (rule_items r)) rs) valued in
    let rest = plain_known p using_keys rs k.1 v.1 in
    cond_both (is_plain r) (r ∷ filter is_plain rs) (filter is_plain rs) (AllByRecursion (KnownRule p using_keys))
    (λ _. ((rule_parts p using_keys r k.0 v.0).rule, rest)) (λ _. rest)

fewer_lines : (r : RuleDef) (rs : List RuleDef) → list_any (λ (other : RuleDef). nat_eq other.line r.line) rs ≡ false → list_any (λ (other : RuleDef). nat_eq other.line r.line) (filter is_plain rs) ≡ false
fewer_lines r [] h = refl
fewer_lines r (other ∷ rs) h =
    let each = or_parts (nat_eq other.line r.line) (list_any (λ (other : RuleDef). nat_eq other.line r.line) rs) h in
    let rest = fewer_lines r rs each.1 in
    cond_both (is_plain other) (other ∷ filter is_plain rs) (filter is_plain rs) (λ xs. list_any (λ (other : RuleDef). nat_eq other.line r.line) xs ≡ false)
    (λ _. or_from (nat_eq other.line r.line) _ each.0 rest) (λ _. rest)

pub plain_lines : (rs : List RuleDef) → have_own_lines rs ≡ true → have_own_lines (filter is_plain rs) ≡ true
plain_lines [] h = refl
plain_lines (r ∷ rs) h =
    let each = and_parts (not (list_any (λ (other : RuleDef). nat_eq other.line r.line) rs)) (have_own_lines rs) h in
    let rest = plain_lines rs each.1 in
    cond_both (is_plain r) (r ∷ filter is_plain rs) (filter is_plain rs) (λ xs. have_own_lines xs ≡ true)
    (λ _. and_from _ _ (not_from_false _ (fewer_lines r rs (not-true _ each.0))) rest) (λ _. rest)

statement_known : (p : Program) (using_keys : Bool) (q : RuleDef → Bool) → ((r : RuleDef) → q r ≡ true → is_plain r ≡ false) → (rs : List RuleDef) →
    list_all (is_known_rule p using_keys) rs ≡ true → list_all (λ r. list_all (has_values p) (rule_items r)) rs ≡ true → KnownStatement p (find q rs)
statement_known p using_keys q other [] known valued = tt
statement_known p using_keys q other (r ∷ rs) known valued =
    let k = and_parts (is_known_rule p using_keys r) (list_all (is_known_rule p using_keys) rs) known in
    let v = and_parts (list_all (has_values p) (rule_items r)) (list_all (λ r. list_all (has_values p) (rule_items r)) rs) valued in
    let parts = rule_parts p using_keys r k.0 v.0 in
    cond_both (q r) (Some r) (find q rs) (KnownStatement p)
    (λ e. (ap (λ n. list_all (is_known_output p n) r.output) (sym (parts.statement (other r e))) ∙ parts.rule.output, parts.rule.output_values, parts.statement (other r e)))
    (λ _. statement_known p using_keys q other rs k.1 v.1)

-- a match or nomatch statement is not a rule with a context
pub match_kind : (k : RuleKind) → is_match_kind k ≡ true → is_plain_kind k ≡ false
match_kind Plain h = absurd (false≢true h)
match_kind OnMatch h = refl
match_kind OnNoMatch h = refl

pub nomatch_kind : (k : RuleKind) → is_nomatch_kind k ≡ true → is_plain_kind k ≡ false
nomatch_kind Plain h = absurd (false≢true h)
nomatch_kind OnMatch h = refl
nomatch_kind OnNoMatch h = refl

-- what is known of a group
pub group_known : (p : Program) (g : GroupDef) → is_known_group p g ≡ true → list_all (λ r. list_all (has_values p) (rule_items r)) g.rules ≡ true → KnownGroup p g
group_known p g known valued =
    let each = and_parts (have_own_lines g.rules) (list_all (is_known_rule p g.using_keys) g.rules) known in
    record {
      rules = plain_known p g.using_keys g.rules each.1 valued;
      lines = plain_lines g.rules each.0;
      on_match = statement_known p g.using_keys is_on_match (λ r. match_kind r.kind) g.rules each.1 valued;
      on_nomatch = statement_known p g.using_keys is_on_nomatch (λ r. nomatch_kind r.kind) g.rules each.1 valued;
    }
