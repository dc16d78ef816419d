-- After a source: what 14 says of the variable. That refusals pass through, the search finds.
-- Assumes nothing.
use Rattle.std.specs.Prelude as Std
use Rattle.std.specs.Prelude.{Result}
use mathlib.Core.Path.{◌≡◌, sym, ap, ◌∙◌}
use Prim.Native.Nat.{ℕ, ◌≤◌}
use Rattle.meaning.specs.Base as Base
use Rattle.meaning.specs.Base.{Out, ok, refused}
use Rattle.meaning.specs.Types.{Table}
use Rattle.meaning.specs.Rules.{from_out}
use Rattle.meaning.specs.Typing.{unbound}
use Rattle.refusals.specs.declared.Refusal.{Refusal}
use Rattle.words.specs.Tables.{table_of}
use Rattle.scope.specs.declared.Scope.{Scope}
use Rattle.conds.specs.Says.{Answers}
use Rattle.conds.proofs.Told.{unbound_free}
use Rattle.grow.specs.declared.Made.{Made}
use Rattle.grow.proofs.Steps.{left_here, left_after, left_ready}
use Rattle.leaves.proofs.Steps.{left_as}
use Rattle.joins.specs.Joins.{Frees}

-- the rule after a source, by what 14 says
freed : {o : Out (Unit {0})} (e : ℕ) (T : Table) → ok tt ≡ o → from_out (Base.◌>>=◌ o (λ _. ok e)) T ≡ ok (T, e)
freed e T p = ap (λ (o : Out (Unit {0})). from_out (Base.◌>>=◌ o (λ _. ok e)) T) (sym p)

pub free_frees : (n v : ℕ) {s : Scope} {source : Result Made Refusal} {m : Made} → source ≡ Std.Ok m → v ≤ 63 → Answers s (ok tt) (λ g. unbound n g v) → Frees n v s source (Std.Ok m)
free_frees n v {m = m} p l a =
    record {
      is = λ g h D ws us cs ds y w.
          let r = left_ready p w in
          left_after (λ room e. from_out (Base.◌>>=◌ (unbound n g v) λ _. ok e)) p w (left_as (left_here r.0 r.1) (sym (freed m.at (table_of us m.count) (a.is g h))));
      entry = λ i q. (p ∙ q, unbound_free n v l a);
    }
