-- The program of a load means its keyboard: it has no store, no custom key and no cased key.
use Rattle.std.proofs.Common.{◌≡◌, ℕ, zero, suc, true, List, [], ◌∷◌, map, None, refl, ap, ◌∙◌, append-nil}
use Rattle.std.specs.Prelude.{codes, filter, find, flat_map, option_map}
use Rattle.rule_model.specs.declared.program.SrcItem.{SrcItem}
use Rattle.rule_model.specs.declared.program.GroupDef.{GroupDef}
use Rattle.rule_model.specs.Keyboard.{RuleMeaning, Named, Best}
use Rattle.rule_model.specs.System.{system_options}
use Rattle.rule_model.specs.Naming.{SourceNames, items_from, key_names, names_of, source_items, stores_of}
use Rattle.rule_model.specs.Src.{cased_keys, is_plain, is_on_match, is_on_nomatch, src, src_group, src_outputs, src_rule}
use Rattle.rule_model.specs.Tab.{distinct_onto}
use Rattle.kmn_base.specs.Names.{same_name}
use Rattle.load_maker.specs.Keyboards.{load_group, load_rule, rules_from}
use Rattle.load_maker.specs.Programs.{ProgramsMean, load_program, rule_defs}

no_keys : (i count : ℕ) → flat_map key_names (items_from [] (rule_defs i count)) ≡ []
no_keys i zero = refl
no_keys zero (suc count) = no_keys 1 count
no_keys (suc i) (suc count) = no_keys (suc (suc i)) count

pub no_match : (i count : ℕ) → find is_on_match (rule_defs i count) ≡ None
no_match i zero = refl
no_match zero (suc count) = no_match 1 count
no_match (suc i) (suc count) = no_match (suc (suc i)) count

pub no_nomatch : (i count : ℕ) → find is_on_nomatch (rule_defs i count) ≡ None
no_nomatch i zero = refl
no_nomatch zero (suc count) = no_nomatch 1 count
no_nomatch (suc i) (suc count) = no_nomatch (suc (suc i)) count

same_rules : (names : SourceNames) (i count : ℕ) → map (src_rule names) (filter is_plain (rule_defs i count)) ≡ rules_from i count
same_rules names i zero = refl
same_rules names zero (suc count) = ap (λ (rules : List RuleMeaning). load_rule zero ∷ rules) (same_rules names 1 count)
same_rules names (suc i) (suc count) = ap (λ (rules : List RuleMeaning). load_rule (suc i) ∷ rules) (same_rules names (suc (suc i)) count)

abbrev group_def : ℕ → GroupDef
group_def n = record { line = 2; name = codes "main"; using_keys = true; rules = rule_defs 0 (suc n) }

group_means : (n : ℕ) (names : SourceNames) → src_group names (group_def n) ≡ load_group n
group_means n names = λ i.
    record {
      name = codes "main";
      using_keys = true;
      rules = same_rules names 0 (suc n) i;
      on_match = option_map (src_outputs names) (no_match 0 (suc n) i);
      on_nomatch = option_map (src_outputs names) (no_nomatch 0 (suc n) i);
    }

all_items : (n : ℕ) → source_items (load_program n) ≡ items_from [] (rule_defs 0 (suc n))
all_items n = ap (items_from []) (append-nil (rule_defs 0 (suc n)))

pub no_dictionary : (n : ℕ) → (names_of (load_program n)).keys ≡ []
unfolding names_of
no_dictionary n = ap (λ (items : List SrcItem). distinct_onto same_name [] (flat_map key_names items)) (all_items n) ∙ ap (distinct_onto same_name []) (no_keys 0 (suc n))

pub programs_mean : ProgramsMean
unfolding src cased_keys stores_of
programs_mean n = λ i.
    record {
      start = Named (codes "main");
      stores = system_options;
      groups = group_means n (names_of (load_program n)) i ∷ [];
      dictionary = no_dictionary n i;
      cased = [];
      choice = Best;
    }
