-- filter by its test word, and child: content, then filter.
-- Assumes nothing.
use mathlib.Core.Path.{◌≡◌}
use mathlib.Core.Logic.{◌≢◌}
use mathlib.Core.List.{List}
use Prim.Native.Nat.{ℕ}
use borrow.Author.Tests.{ne_eqb}
use lib.ListN.{length}
use Rattle.std.specs.Prelude as Std
use Rattle.std.specs.Prelude.{Result}
use Rattle.refusals.specs.declared.Refusal.{Refusal}
use Rattle.meaning.specs.Base.{ok, type_capacity}
use Rattle.meaning.specs.Types.{Table, Defs}
use Rattle.meaning.specs.Shapes.{shape}
use Rattle.meaning.specs.Rules.{content, sift, filter, child_rule}
use Rattle.words.specs.Tables.{table_of}
use Rattle.grow.specs.Grow.{Left}
use Rattle.grow.specs.declared.Made.{Made}
use Rattle.grow.proofs.Steps.{left_stop, left_after}

module _ (room node : ℕ) (D : Defs) (e : ℕ) (T : Table) {test : ℕ} where
  pub filter_all : test ≡ 0 → filter room node D test e T ≡ ok (T, e)
  unfolding filter
  filter_all p = rw p

  pub filter_some : test ≢ 0 → filter room node D test e T ≡ sift room node test (shape D T e) T
  unfolding filter
  filter_some p = simp (filter, ne_eqb test 0 p)

module _ {D : Defs} {ws us cs ds : List ℕ} (n e : ℕ) {r : Result Made Refusal} (node test : ℕ)
    (g : Left D ws us cs ds r (content (type_capacity (length ws)) node (shape D (table_of ws n) e) (table_of ws n))) where
  pub child_stop : {x : Refusal} → r ≡ Std.Err x → Left D ws us cs ds r (child_rule (type_capacity (length ws)) node D test e (table_of ws n))
  unfolding child_rule
  child_stop p = left_stop (λ c. filter (type_capacity (length ws)) node D test c) p g

  pub child_done : {m : Made} {vs es : List ℕ} {s : Result Made Refusal} → r ≡ Std.Ok m → Left D us vs ds es s (filter (type_capacity (length us)) node D test m.at (table_of us m.count))
      → Left D ws vs cs es s (child_rule (type_capacity (length ws)) node D test e (table_of ws n))
  unfolding child_rule
  child_done p f = left_after (λ room c. filter room node D test c) p g f
