-- The folder of a name, searched from the end of the name.
use Rattle.std.proofs.Common.{◌≡◌, ℕ, zero, suc, ◌-◌, ◌<◌, ◌≤◌, Bool, ◌||◌, true, false, List, [], ◌∷◌, ◌++◌, length, take, get_or, refl, ap, sym, ◌∙◌, if◌then◌else◌, arith}
use Rattle.std.proofs.Math.Seq.{take-suc}
use Rattle.std.specs.List.{list_any}
use Rattle.std.proofs.lemmas.List.Folds.{list_any-append}
use Rattle.keyman_words.specs.Beside.{is_slash, folder_part}

-- if a byte other than a slash is appended to a name, the folder is unchanged
pub without_last : (name : List ℕ) (byte : ℕ) → is_slash byte ≡ false → folder_part (name ++ byte ∷ []) ≡ folder_part name
without_last [] byte is = rw is refl
without_last (first ∷ name) byte is = rw (list_any-append is_slash name (byte ∷ []), is, without_last name byte is) (same (is_slash first) (list_any is_slash name))
  where
    same : (a b : Bool) → (if a || (b || false) then first ∷ folder_part name else []) ≡ (if a || b then first ∷ folder_part name else [])
    same true b = refl
    same false true = refl
    same false false = refl

-- if a name ends with a slash, the whole name is its folder
pub whole_part : (name : List ℕ) (byte : ℕ) → is_slash byte ≡ true → folder_part (name ++ byte ∷ []) ≡ name ++ byte ∷ []
whole_part [] byte is = rw is refl
whole_part (first ∷ name) byte is = rw (list_any-append is_slash name (byte ∷ []), is, whole_part name byte is) (same (is_slash first) (list_any is_slash name))
  where
    same : (a b : Bool) → (if a || (b || true) then first ∷ (name ++ byte ∷ []) else []) ≡ first ∷ (name ++ byte ∷ [])
    same true b = refl
    same false true = refl
    same false false = refl

-- if the last byte of a prefix is not a slash, removing it does not change the folder; if it is, the whole prefix is its folder
pub without_last_at : (name : List ℕ) (end : ℕ) → 0 < end → end ≤ length name → is_slash (get_or name (end - 1) 0) ≡ false → folder_part (take (end - 1) name) ≡ folder_part (take end name)
without_last_at name zero some within is = absurd (omega arith)
without_last_at name (suc j) some within is =
    let e : suc j - 1 ≡ j = omega arith in
    rw e (sym (ap folder_part (take-suc name j 0 (omega arith)) ∙ without_last (take j name) (get_or name j 0) (rw e at is)))

pub whole_part_at : (name : List ℕ) (end : ℕ) → 0 < end → end ≤ length name → is_slash (get_or name (end - 1) 0) ≡ true → folder_part (take end name) ≡ take end name
whole_part_at name zero some within is = absurd (omega arith)
whole_part_at name (suc j) some within is =
    let e : suc j - 1 ≡ j = omega arith in
    let last : take (suc j) name ≡ take j name ++ get_or name j 0 ∷ [] = take-suc name j 0 (omega arith) in
    ap folder_part last ∙ whole_part (take j name) (get_or name j 0) (rw e at is) ∙ sym last
