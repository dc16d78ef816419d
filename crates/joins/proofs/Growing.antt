-- A step of the walk grows the table, so that the types of the variables in scope stay among its entries.
-- Assumes nothing.
use Rattle.std.specs.Prelude as Std
use Rattle.std.specs.Prelude.{Result}
use mathlib.Core.Path.{◌≡◌, ap, sym, ◌∙◌, subst}
use mathlib.Core.List.{List}
use mathlib.Core.Option.{some}
use Prim.Native.Nat.{ℕ, ◌≤◌, ◌<◌}
use native.Mathlib.Omega.{arith}
use native.Mathlib.Decide.{ℕ_discrete, dec_lt}
use lib.ListN.{length, get_or, set, length-set}
use lib.Seq.{get_or-set_same, get_or-set_other}
use Rattle.meaning.specs.Base.{Out, type_capacity}
use Rattle.meaning.specs.Types.{Table, Defs}
use Rattle.meaning.specs.Records as Records
use Rattle.meaning.specs.Records.{type_in}
use Rattle.meaning.specs.Queries.{Query}
use Rattle.meaning.specs.Typing.{State}
use Rattle.meaning.proofs.Lists.{absurd_option}
use Rattle.meaning.proofs.Ends.{Ends, gives, stops}
use Rattle.meaning.proofs.Nodes.{InQuery}
use Rattle.meaning.proofs.Labels.{Labels}
use Rattle.meaning.proofs.Grow.{Grew, Late, Scoped, type_ends}
use Rattle.words.specs.Tables.{table_of}
use Rattle.words.proofs.Tables.{table_length}
use Rattle.scope.specs.declared.Scope.{Scope}
use Rattle.scope.specs.declared.Var.{Var}
use Rattle.scope.specs.Shows.{found, var_of, bound}
use Rattle.conds.proofs.Told.{shown, shows_shown, shown_none}
use Rattle.grow.specs.declared.Made.{Made}
use Rattle.grow.proofs.Steps.{made, kept_count}
use Rattle.refusals.specs.declared.Refusal.{Refusal}
use Rattle.leaves.specs.Walk.{Within, tabled, walked, Begins, Walks}

ends_tabled : {D : Defs} {room : ℕ} {T : Table} {R : ℕ → ℕ → Type 0} {x : Out (State × ℕ)} → Ends (λ r. Grew D room T (r.0.types, r.1)) R x → Ends (Grew D room T) R (tabled x)
ends_tabled (gives h) = gives h
ends_tabled (stops h) = stops h

-- the scope that the words show has its types among the entries
shown_scoped : {n : ℕ} (s : Scope) (T : Table) → length T ≡ n → Within s n → Scoped T (shown s)
shown_scoped {n} s T p w v x e = go (dec_lt v 64)
  where
    go : Dec (v < 64) → type_in x < length T
    go (yes l) = omega (arith, p, w.low v x l (shows_shown s v l ∙ e))
    go (no l) = absurd_option (sym (shown_none s v (omega arith)) ∙ e)

module _ {D : Defs} {ws cs : List ℕ} {count : ℕ} {s : Scope} (b : Begins D ws cs count s) (q : Query) (labels : Labels q) (nodes : InQuery (λ _. Unit {0}) q) where
  walk_ends : Ends (Grew D (type_capacity (length ws)) (table_of ws count)) (Late (λ _. Unit {0})) (walked (type_capacity (length ws)) D q (shown s) (table_of ws count))
  unfolding walked
  walk_ends =
      ends_tabled
      (type_ends (type_capacity (length ws)) D (omega arith) (λ _. Unit {0}) q (shown s) (record { types = table_of ws count }) b.ready.formed (omega (arith, b.ready.lent.fits, table_length ws count)) (shown_scoped s (table_of ws count) (table_length ws count) b.within) labels nodes)

  pub walk_grew : {us ds : List ℕ} {r : Result Made Refusal} {m : Made} → r ≡ Std.Ok m → Walks D ws us cs ds count q s r → Grew D (type_capacity (length ws)) (table_of ws count) (table_of us m.count, m.at)
  walk_grew p h = made walk_ends p (h.is (shown s) (shows_shown s))

  pub walk_count : {us ds : List ℕ} {r : Result Made Refusal} {m : Made} → r ≡ Std.Ok m → Walks D ws us cs ds count q s r → count ≤ m.count
  walk_count {us} {m = m} p h = kept_count ws us count m.count (walk_grew p h).grows

-- more entries
pub within_more : {s : Scope} {n m : ℕ} → n ≤ m → Within s n → Within s m
within_more l w = record { wide = w.wide; low = λ v x k e. omega (arith, l, w.low v x k e) }

-- one more variable, of a type among the entries
pub within_bind : {s : Scope} {n v : ℕ} (x : Var) → type_in (var_of x) < n → v < 64 → Within s n → Within (bound s v (Std.Some x)) n
within_bind {s} {n} {v} x l k w =
    record { wide = length-set s.slots v (Std.Some x) ∙ w.wide; low = λ i z j f. go i z j f (ℕ_discrete i v) }
  where
    go : (i : ℕ) (z : Records.Var) → i < 64 → found (get_or (set s.slots v (Std.Some x)) i Std.None) ≡ some z → Dec (i ≡ v) → type_in z < n
    go i z j f (yes p) =
        let here : get_or (set s.slots v (Std.Some x)) i Std.None ≡ Std.Some x = rw p (get_or-set_same s.slots v (Std.Some x) Std.None (omega (arith, w.wide))) in
        let same : some (var_of x) ≡ some z = sym (ap found here) ∙ f in
        let q : var_of x ≡ z = cc in
        subst (λ (u : Records.Var). type_in u < n) q l
    go i z j f (no p) = w.low i z j (sym (ap found (get_or-set_other s.slots v i (Std.Some x) Std.None p)) ∙ f)
