-- The first free names differ from all names of stores.
use Rattle.std.proofs.Common.{◌≡◌, ℕ, zero, suc, ◌<◌, inl, inr, true, false, List, [], ◌∷◌, length, drop, map, refl, arith}
use Rattle.std.specs.Prelude.{slice_get, unwrap_or}
use Rattle.kmn_base.specs.Names.{same_name}
use Rattle.rule_model.specs.declared.tables.Store.{Store}
use Rattle.decompile_program.specs.Names.{is_free}
use Rattle.decompile_program.proofs.Apart.{Differs, AreFree, AllTaken, own_name}

-- the own names of a file's stores are taken
taken-more : (y : List ℕ) (ys : List (List ℕ)) (stores : List Store) → AllTaken ys stores → AllTaken (y ∷ ys) stores
taken-more y ys [] h = tt
taken-more y ys (s ∷ stores) h = (inr h.0, taken-more y ys stores h.1)

pub all-taken : (stores : List Store) → AllTaken (map own_name stores) stores
all-taken [] = tt
all-taken (s ∷ stores) = (inl refl, taken-more s.name (map own_name stores) stores (all-taken stores))

-- if names are free, those after the first k are free
pub drop-free : (taken : List (List ℕ)) (k : ℕ) (names : List (List ℕ)) → AreFree taken names → AreFree taken (drop k names)
drop-free taken zero names f = f
drop-free taken (suc k) [] f = f
drop-free taken (suc k) (name ∷ names) f = drop-free taken k names f.2

differs-behind : (x : List ℕ) (k : ℕ) (names : List (List ℕ)) → Differs x names → Differs x (drop k names)
differs-behind x zero names d = d
differs-behind x (suc k) [] d = d
differs-behind x (suc k) (y ∷ names) d = differs-behind x k names d.1

pub record IsFresh (taken behind : List (List ℕ)) (name : List ℕ) : Type 0 where
  pub free : is_free taken name ≡ true
  pub some : same_name name [] ≡ false
  pub others : Differs name behind

pub fresh-at : (taken : List (List ℕ)) (i k : ℕ) (names : List (List ℕ)) → AreFree taken names → i < length names → i < k → IsFresh taken (drop k names) (unwrap_or (slice_get names i) [])
fresh-at taken i k [] f less before = absurd (omega arith)
fresh-at taken zero zero (name ∷ names) f less before = absurd (omega arith)
fresh-at taken zero (suc k) (name ∷ names) f less before = record { free = f.0.free; some = f.0.some; others = differs-behind name k names f.1 }
fresh-at taken (suc i) zero (name ∷ names) f less before = absurd (omega arith)
fresh-at taken (suc i) (suc k) (name ∷ names) f less before = fresh-at taken i k names f.2 (omega arith) (omega arith)
