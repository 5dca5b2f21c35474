use Rattle.std.proofs.Common.{◌+◌, ◌<◌, List, length, Result, Err, sym, ap, subst, ◌∙◌, arith, length-drop}
use Rattle.std.proofs.lemmas.Grind.{common_steps}
use Rattle.rule_model.specs.declared.program.SrcItem.{SrcItem}
use Rattle.kmn_items.specs.declared.syntax.TokenRefusal.{TokenRefusal}
use Rattle.kmn_items.specs.TokenTexts.{texts, Reads}
use Rattle.kmn_items.specs.Item.{prepend, read_items}
use Rattle.kmn_items.proofs.ItemLemmas.{items_step, items_stop, passed_on}
use Rattle.kmn_items.proofs.items.read_items.Goals as goal

pub items-preserved : goal.items-preserved
items-preserved c =
    let rest = texts c.items.rest in
    let many : 0 < length rest = let t = c.items-test in let e = c.is_empty.ensures in grind (arith, common_steps, t, e) in
    let step = items_step c.args.place c.items.seen c.args.last c.items.next c.items.items rest c.in_ok-taken.taken many c.in_ok-taken.ensures.read in
    let behind = c.behind-rest.ensures in
    let appended = c.in_ok-items.ensures in
    let sizes = ap length behind ∙ length-drop (1 + c.in_ok-taken.taken.more) rest in
    let before = c.items.invariant.few many in
    record {
      read = (λ j. prepend (appended j) (read_items c.args.place c.in_ok-taken.taken.seen c.args.last 0 (c.items.next + (1 + c.in_ok-taken.taken.more)) (behind j))) ∙ sym step ∙ c.items.invariant.read;
      few = λ left. omega (arith, sizes, before, left);
    }

pub returns-in_err-taken : goal.returns-in_err-taken
returns-in_err-taken c =
    let rest = texts c.items.rest in
    let many : 0 < length rest = let t = c.items-test in let e = c.is_empty.ensures in grind (arith, common_steps, t, e) in
    let error = c.in_err-taken.field-0.0 in
    let stops = items_stop c.args.place c.items.seen c.args.last c.items.next c.items.items rest error many c.in_err-taken.ensures.read in
    let says = subst (λ (read : Result (List SrcItem) TokenRefusal). Reads read (Err error)) c.items.invariant.read stops in
    passed_on _ error c.from_residual.result c.from_residual.ensures.1 says

pub returns : goal.returns
returns c = grind (arith, common_steps)
