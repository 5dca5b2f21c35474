-- A press inserts at most as many characters as it puts items.
use Rattle.std.proofs.Common.{◌≡◌, ℕ, ◌+◌, ◌-◌, ◌≤◌, min, zero, suc, List, [], ◌∷◌, ◌++◌, length, take, drop, leb, refl, sym, ◌∙◌, ap, arith, length-append, length-drop}
use Rattle.std.proofs.lemmas.Bool.{cond_both, eq-eqb}
use Rattle.std.proofs.lemmas.List.{take-append-drop, take-append-le, take-take}
use Rattle.kmn_base.specs.declared.items.Item.{Item}
use Rattle.kmn_base.specs.declared.items.Item.TheVariants.{Char, Mark}
use Rattle.kmn_base.specs.Lists.{characters, without_last, put}
use Rattle.kmn_base.proofs.Lists.{characters-append, characters_of_put}
use Rattle.rule_model.specs.declared.event_state.EventState.{EventState}
use Rattle.rule_model.specs.KeyEvent.{begin_event, after_key, common_prefix}
use Rattle.rule_model.specs.StepLaws.{PressInsertsAtMostWhatItPuts}
use Rattle.rule_model.proofs.Kept.{IsKept, after_key_keeps}
use Rattle.rule_model.proofs.Edits.{prefix-same}

-- if the first n characters of two texts are equal, their common prefix has at least n characters
alike_so_far : (cs ds : List ℕ) (n : ℕ) → n ≤ length cs → n ≤ length ds → take n cs ≡ take n ds → n ≤ common_prefix cs ds
alike_so_far cs ds zero a b e = omega arith
alike_so_far [] ds (suc n) a b e = absurd (omega arith)
alike_so_far (c ∷ cs) [] (suc n) a b e = absurd (omega arith)
alike_so_far (c ∷ cs) (d ∷ ds) (suc n) a b e =
    let first : c ≡ d = cc in
    let rest : take n cs ≡ take n ds = cc in
    let behind : n ≤ common_prefix cs ds = alike_so_far cs ds n (omega arith) (omega arith) rest in
    let count : common_prefix (c ∷ cs) (d ∷ ds) ≡ suc (common_prefix cs ds) = prefix-same c d cs ds (eq-eqb c d first) in
    omega arith

-- the text before the caret begins with `kept` characters of the old text, followed by at most as many characters as items were put
record Inserts (old : List ℕ) (left : List Item) (count : ℕ) : Type 0 where
  kept : ℕ
  within_old : kept ≤ length old
  within_new : kept ≤ length (characters left)
  alike : take kept old ≡ take kept (characters left)
  few : length (characters left) ≤ kept + count

abbrev HasInserted : List ℕ → EventState → Type 0
HasInserted old s = Inserts old s.left s.put

pub characters-one : (x : Item) → length (characters (x ∷ [])) ≤ 1
characters-one (Char c) = omega arith
characters-one (Mark m) = omega arith

-- a put adds the characters of its item
pub length-put : (items : List Item) (x : Item) → length (characters (put items x)) ≡ length (characters items) + length (characters (x ∷ []))
length-put items x =
    let parts : characters (put items x) ≡ characters items ++ characters (x ∷ []) = characters_of_put items x ∙ characters-append items (x ∷ []) in
    ap length parts ∙ length-append (characters items) (characters (x ∷ []))

after_put : (old : List ℕ) (x : Item) (s : EventState) → Inserts old s.left s.put → Inserts old (put s.left x) (s.put + 1)
after_put old x s h =
    let text : List ℕ = characters s.left in
    let more : List ℕ = characters (x ∷ []) in
    let parts : characters (put s.left x) ≡ text ++ more = characters_of_put s.left x ∙ characters-append s.left (x ∷ []) in
    let counts : length (characters (put s.left x)) ≡ length text + length more = length-put s.left x in
    record {
      kept = h.kept;
      within_old = h.within_old;
      within_new = omega arith;
      alike = h.alike ∙ sym (ap (take h.kept) parts ∙ take-append-le h.kept text more h.within_new);
      few = omega (arith, characters-one x);
    }

after_take : (old : List ℕ) (n : ℕ) (s : EventState) → Inserts old s.left s.put → Inserts old (without_last n s.left) s.put
after_take old n s h =
    let at : ℕ = length s.left - n in
    let text : List ℕ = characters (take at s.left) in
    let behind : List ℕ = characters (drop at s.left) in
    let parts : characters s.left ≡ text ++ behind = ap characters (sym (take-append-drop at s.left)) ∙ characters-append (take at s.left) (drop at s.left) in
    let counts : length (characters s.left) ≡ length text + length behind = ap length parts ∙ length-append text behind in
    let kept : ℕ = min h.kept (length text) in
    let same : take kept old ≡ take kept (characters s.left)
    = sym (take-take kept h.kept old (omega arith)) ∙ ap (take kept) h.alike ∙ take-take kept h.kept (characters s.left) (omega arith) in
    record {
      kept = kept;
      within_old = omega (arith, h.within_old);
      within_new = omega arith;
      alike = same ∙ ap (take kept) parts ∙ take-append-le kept text behind (omega arith);
      few = omega (arith, h.few);
    }

inserting_kept : (old : List ℕ) → IsKept (HasInserted old)
inserting_kept old = record {
  puts = λ x s h.
      cond_both s.stopped _ _ (HasInserted old) (λ _. h)
      (λ _. cond_both (leb 4096 s.put) _ _ (HasInserted old) (λ _. h) (λ _. after_put old x s h));
  takes = λ n s h. after_take old n s h;
  stops = λ s h. h;
  passes = λ s h. h;
  beeps = λ s h. h;
  sets = λ values s h. h;
  saves = λ values s h. h;
  enters = λ s few h. h;
}

pub press_inserts_at_most_what_it_puts : PressInsertsAtMostWhatItPuts
press_inserts_at_most_what_it_puts kb press left current saved =
    let old : List ℕ = characters left in
    let h : Inserts old left 0 = record { kept = length old; within_old = omega arith; within_new = omega arith; alike = refl; few = omega arith } in
    let s : EventState = after_key kb press (begin_event left current saved) in
    let after : Inserts old s.left s.put = after_key_keeps (HasInserted old) (inserting_kept old) kb press (begin_event left current saved) (omega arith) h in
    let new : List ℕ = characters s.left in
    let alike : after.kept ≤ common_prefix old new = alike_so_far old new after.kept after.within_old after.within_new after.alike in
    omega (arith, length-drop (common_prefix old new) new, after.few)
