-- Two keyboards that behave the same, whatever the names and numbers of their stores and groups are.
use Rattle.std.specs.Prelude.{◌≡◌, List, [], Option, Some, None}
use Rattle.std.specs.List.{AllZip}
use Rattle.kmn_base.specs.declared.items.Element.{Element}
use Rattle.kmn_base.specs.declared.keys.RuleKey.{RuleKey}
use Rattle.kmn_base.specs.declared.keys.KeyPress.{KeyPress}
use Rattle.virtual_keys.specs.Fits.{key_fits}
use Rattle.rule_model.specs.declared.event_state.EventState.{EventState}
use Rattle.rule_model.specs.declared.event_state.Caught.{Caught}
use Rattle.rule_model.specs.Keyboard.{Ref, Output, OneKey, RuleMeaning, GroupMeaning, Keyboard, First}
use Rattle.rule_model.specs.Content.{content, group_at}
use Rattle.rule_model.specs.Act.{act}
use Rattle.rule_model.specs.Choose.{first, choose}
use Rattle.rule_model.specs.Trace.{first_state}
use Rattle.compile_laws.proofs.Patterns.{SameContext}

-- entering corresponding groups has the same effect
abbrev pub SameEntry : (Ref → Ref → Type 0) → (Ref → EventState → EventState) → (Ref → EventState → EventState) → Type 0
SameEntry groups e f = (g h : Ref) → groups g h → (s : EventState) → e g s ≡ f h s

-- two outputs have the same effect
abbrev pub SameOutputs : Keyboard → Keyboard → (Ref → Ref → Type 0) → List Output → List Output → Type 0
SameOutputs a b groups xs ys = (e f : Ref → EventState → EventState) → SameEntry groups e f → (c : Caught) (s : EventState) → act a e c xs s ≡ act b f c ys s

abbrev pub SameOptional : Keyboard → Keyboard → (Ref → Ref → Type 0) → Option (List Output) → Option (List Output) → Type 0
SameOptional a b groups None None = Unit {0}
SameOptional a b groups None (Some ys) = ⊥
SameOptional a b groups (Some xs) None = ⊥
SameOptional a b groups (Some xs) (Some ys) = SameOutputs a b groups xs ys

-- two rules have the same conditions and the same effect
pub record SameRule (a b : Keyboard) (groups : Ref → Ref → Type 0) (x y : RuleMeaning) : Type 0 where
  pub context : (values : List (List Element)) → SameContext (content a.stores values) (content b.stores values) x.context y.context
  pub first_wanted : RuleKey
  pub second_wanted : RuleKey
  pub first_key : x.key ≡ OneKey first_wanted
  pub second_key : y.key ≡ OneKey second_wanted
  pub fits : (press : KeyPress) → key_fits first_wanted press ≡ key_fits second_wanted press
  pub output : SameOutputs a b groups x.output y.output

pub record SameGroup (a b : Keyboard) (groups : Ref → Ref → Type 0) (x y : GroupMeaning) : Type 0 where
  pub chosen : (caught : RuleMeaning → Option Caught) → choose a.choice caught x.rules ≡ first caught x.rules
  pub keys : x.using_keys ≡ y.using_keys
  pub rules : AllZip (SameRule a b groups) x.rules y.rules
  pub matched : SameOptional a b groups x.on_match y.on_match
  pub unmatched : SameOptional a b groups x.on_nomatch y.on_nomatch

abbrev pub SameIfAny : Keyboard → Keyboard → (Ref → Ref → Type 0) → Option GroupMeaning → Option GroupMeaning → Type 0
SameIfAny a b groups None None = Unit {0}
SameIfAny a b groups None (Some y) = ⊥
SameIfAny a b groups (Some x) None = ⊥
SameIfAny a b groups (Some x) (Some y) = SameGroup a b groups x y

-- two keyboards behave the same
pub record Alike (a b : Keyboard) (groups : Ref → Ref → Type 0) : Type 0 where
  pub first : first_state a ≡ first_state b
  pub dictionary : a.dictionary ≡ b.dictionary
  pub first_cased : a.cased ≡ []
  pub second_cased : b.cased ≡ []
  pub choice : b.choice ≡ First
  pub start : groups a.start b.start
  pub each : (g h : Ref) → groups g h → SameIfAny a b groups (group_at a.groups g) (group_at b.groups h)
