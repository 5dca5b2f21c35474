-- The statements of a program make up the program.
use Rattle.std.proofs.Common.{◌≡◌, List, [], ◌∷◌, ◌++◌, map, refl, sym, ◌∙◌, ap, append_assoc}
use Rattle.std.specs.Prelude.{fold, flat_map}
use Rattle.std.proofs.lemmas.List.{append-nil}
use Rattle.rule_model.specs.declared.program.StoreDef.{StoreDef}
use Rattle.rule_model.specs.declared.program.RuleDef.{RuleDef}
use Rattle.rule_model.specs.declared.program.GroupDef.{GroupDef}
use Rattle.rule_model.specs.declared.program.BeginDef.{BeginDef}
use Rattle.rule_model.specs.declared.program.Program.{Program}
use Rattle.kmn_parser.specs.declared.statement.Statement.{Statement}
use Rattle.kmn_parser.specs.declared.statement.Statement.TheVariants as statement
use Rattle.kmn_parser.specs.Source.{with_statement, no_program}
use Rattle.kmn_parser.proofs.LineLemmas.{rule_goes_last}

abbrev pub group_statements : List GroupDef → List Statement
group_statements groups = flat_map (λ (group : GroupDef). statement.Group (record group { rules = [] }) ∷ map statement.Rule group.rules) groups

-- the statements of a program
abbrev pub program_statements : Program → List Statement
program_statements p = map statement.Store p.stores ++ (map statement.Begin p.begins ++ group_statements p.groups)

fold-append : (p : Program) (xs ys : List Statement) → fold with_statement p (xs ++ ys) ≡ fold with_statement (fold with_statement p xs) ys
fold-append p [] ys = refl
fold-append p (x ∷ xs) ys = fold-append (with_statement p x) xs ys

append-one : {A : Type 0} (xs : List A) (y : A) (ys : List A) → (xs ++ y ∷ []) ++ ys ≡ xs ++ y ∷ ys
append-one xs y ys = append_assoc xs (y ∷ []) ys

fold-stores : (p : Program) (stores : List StoreDef) → fold with_statement p (map statement.Store stores) ≡ record p { stores = p.stores ++ stores }
fold-stores p [] = ap (λ (s : List StoreDef). record p { stores = s }) (sym (append-nil p.stores))
fold-stores p (s ∷ stores) = fold-stores (record p { stores = p.stores ++ s ∷ [] }) stores ∙ ap (λ (k : List StoreDef). record p { stores = k }) (append-one p.stores s stores)

fold-begins : (p : Program) (begins : List BeginDef) → fold with_statement p (map statement.Begin begins) ≡ record p { begins = p.begins ++ begins }
fold-begins p [] = ap (λ (s : List BeginDef). record p { begins = s }) (sym (append-nil p.begins))
fold-begins p (s ∷ begins) = fold-begins (record p { begins = p.begins ++ s ∷ [] }) begins ∙ ap (λ (k : List BeginDef). record p { begins = k }) (append-one p.begins s begins)

fold-rules : (p : Program) (before : List GroupDef) (g : GroupDef) (rules : List RuleDef) → fold with_statement (record p { groups = before ++ g ∷ [] }) (map statement.Rule rules) ≡ record p { groups = before ++ record g { rules = g.rules ++ rules } ∷ [] }
fold-rules p before g [] = ap (λ (k : List RuleDef). record p { groups = before ++ record g { rules = k } ∷ [] }) (sym (append-nil g.rules))
fold-rules p before g (rule ∷ rules) =
    ap (λ (gs : List GroupDef). fold with_statement (record p { groups = gs }) (map statement.Rule rules)) (rule_goes_last before g rule)
    ∙ fold-rules p before (record g { rules = g.rules ++ rule ∷ [] }) rules
    ∙ ap (λ (k : List RuleDef). record p { groups = before ++ record g { rules = k } ∷ [] }) (append-one g.rules rule rules)

fold-groups : (p : Program) (groups : List GroupDef) → fold with_statement p (group_statements groups) ≡ record p { groups = p.groups ++ groups }
fold-groups p [] = ap (λ (s : List GroupDef). record p { groups = s }) (sym (append-nil p.groups))
fold-groups p (g ∷ groups) =
    fold-append (record p { groups = p.groups ++ record g { rules = [] } ∷ [] }) (map statement.Rule g.rules) (group_statements groups)
    ∙ ap (λ (q : Program). fold with_statement q (group_statements groups)) (fold-rules p p.groups (record g { rules = [] }) g.rules)
    ∙ fold-groups (record p { groups = p.groups ++ g ∷ [] }) groups
    ∙ ap (λ (k : List GroupDef). record p { groups = k }) (append-one p.groups g groups)

pub made : (p : Program) → fold with_statement no_program (program_statements p) ≡ p
made p =
    fold-append no_program (map statement.Store p.stores) (map statement.Begin p.begins ++ group_statements p.groups)
    ∙ ap (λ (q : Program). fold with_statement q (map statement.Begin p.begins ++ group_statements p.groups)) (fold-stores no_program p.stores)
    ∙ fold-append (record { stores = p.stores; begins = []; groups = [] }) (map statement.Begin p.begins) (group_statements p.groups)
    ∙ ap (λ (q : Program). fold with_statement q (group_statements p.groups)) (fold-begins (record { stores = p.stores; begins = []; groups = [] }) p.begins)
    ∙ fold-groups (record { stores = p.stores; begins = p.begins; groups = [] }) p.groups
