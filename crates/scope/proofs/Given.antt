-- The scope of the declared variables, bound from the last to the first.
-- Assumes nothing.
use Rattle.std.specs.Prelude as Std
use mathlib.Core.Path.{◌≡◌, sym, subst}
use mathlib.Core.List.{List, ◌∷◌}
use Prim.Native.Nat.{ℕ, suc, ◌+◌, ◌-◌, ◌≤◌, ◌<◌}
use native.Mathlib.Omega.{arith}
use native.Mathlib.Numerals.{add-one}
use lib.ListN.{length, drop, replicate, length-set, drop_of_length-le, get_or-replicate}
use lib.Seq.{drop-cons}
use Rattle.meaning.specs.Base.{At, find}
use Rattle.meaning.specs.Records as Records
use Rattle.meaning.specs.Formed.{VarsRead}
use Rattle.meaning.proofs.Lists.{at_is}
use Rattle.words.specs.declared.Entry.{Entry}
use Rattle.tables.specs.Rows.{var_in, var_at}
use Rattle.scope.specs.declared.Scope.{Scope}
use Rattle.scope.specs.declared.Var.{Var}
use Rattle.scope.specs.Shows.{var_of, bound, Shows}
use Rattle.scope.proofs.Slots.{shows_bind}

module _ (V : List (ℕ × Records.Var)) (read : VarsRead 4096 V) where
  -- the variable at a place, by its words
  module _ (w : Entry) {i : ℕ} (l : i < length V) (is : var_in w ≡ var_at V i) where
    var_low : w.a < 64
    var_low = omega (arith, read.low i w.a _ (subst (At V i) (sym is) (at_is V i (0, Records.var_of 0 0) l)))

    declared_one : (s : Scope) (x : Var) (v : ℕ) → var_of x ≡ Records.var_of w.kind w.b → v ≡ w.a → length s.slots ≡ 64 → Shows s (drop (i + 1) V) → Shows (bound s v (Std.Some x)) (drop i V)
    declared_one s x v e q long h =
        let here : (v, var_of x) ≡ var_at V i = rw (q, e) is in
        rw (drop-cons V i (0, Records.var_of 0 0) l)
        (subst (λ (y : ℕ × Records.Var). Shows (bound s v (Std.Some x)) (y ∷ drop (suc i) V)) here (shows_bind s (drop (suc i) V) v (omega (arith, var_low, long)) x (rw add-one at h)))

  -- a turn of the loop
  module _ (i : ℕ) (w : Entry) (some : 0 < i) (most : i ≤ length V) (is : var_in w ≡ var_at V (i - 1)) where
    pub turn_low : {v : ℕ} → v ≡ w.a → v < 64
    turn_low q = rw q (var_low w (omega arith) is)

    pub turn_shows : (s r : Scope) (x : Var) (v : ℕ) → var_of x ≡ Records.var_of w.kind w.b → v ≡ w.a → r ≡ bound s v (Std.Some x)
        → length s.slots ≡ 64 → Shows s (drop i V) → (i - 1 ≤ length V) × (length r.slots ≡ 64) × Shows r (drop (i - 1) V)
    turn_shows s r x v p q e long f =
        let k : i ≡ i - 1 + 1 = omega arith in
        (omega arith, rw (e, length-set) long, rw e (declared_one w (omega arith) is s x v p q long (rw k at f)))

-- an empty scope shows no variable
pub shows_none : (V : List (ℕ × Records.Var)) (n : ℕ) → length V ≤ n → Shows (record { slots = replicate 64 Std.None }) (drop n V)
unfolding find
shows_none V n m v l = rw (get_or-replicate {A = Std.Option Var} 64 v Std.None Std.None l, drop_of_length-le V {i = n} m)
