-- Conditions of one node that have variables: `$1 = $2` and `empty $1`.
-- Assumes nothing.
use mathlib.Core.Path.{refl}
use mathlib.Core.List.{List}
use Prim.Native.Nat.{ℕ, suc}
use native.Mathlib.Omega.{arith}
use Rattle.meaning.specs.Kinds
use Rattle.meaning.specs.Records.{node}
use Rattle.meaning.specs.Queries.{equal, empty}
use Rattle.meaning.specs.Texts.{here, one, expect, variable_at, cond_nodes}
use Rattle.refusals.specs.declared.Refusal.{Refusal}
use Rattle.std.specs.Prelude as Std
use Rattle.rows.specs.declared.Part.{Part}
use Rattle.meaning.specs.Tokens
use Rattle.steps.specs.Says.{Goes, Gives}
use Rattle.steps.specs.declared.Got.{Got}
use Rattle.conditions.specs.declared.Act.{Act}
use Rattle.conditions.specs.Frames.{equal_with, equal_to, equal_at, empty_at, Builds, Leaf}
use Rattle.conditions.proofs.Acting.{leaf_got, leaf_not_got, leaf_went, leaf_not_went, leaf_built, leaf_lower}

-- `$1 = $2`, behind its sign and behind its first variable
module _ {s : List ℕ} {at : ℕ} (code : List ℕ) (nodes v : ℕ) where
  with_not : {x : Refusal} → Gives s at (Std.Err x) (λ n. variable_at s (here at n)) → Leaf s at at code nodes (equal_with s v) (Std.Err x) code
  unfolding equal_with
  with_not g = leaf_not_got (variable_at s) code nodes (λ x. one s (λ n. equal n v x)) at g

  with_on : {w : Got} → Gives s at (Std.Ok w) (λ n. variable_at s (here at n)) → {r : Part} {u : List ℕ} → Builds w.next nodes (node Kinds.condition·equal v w.value 0) code r u → Leaf s at at code nodes (equal_with s v) (Std.Ok (Act.Done r)) u
  unfolding equal_with cond_nodes
  with_on {w} g b = leaf_lower (omega arith) (leaf_got (variable_at s) code nodes (λ x. one s (λ n. equal n v x)) g (leaf_built b s (λ n. equal n v w.value) g.onward.1 (λ n. refl) (λ n. refl)))

  to_not : {x : Refusal} → Goes s at (Std.Err x) (λ n. expect s Tokens.token·equals (here at n)) → Leaf s at at code nodes (equal_to s v) (Std.Err x) code
  unfolding equal_to
  to_not g = leaf_not_went (expect s Tokens.token·equals) code nodes (equal_with s v) at g

  to_on : {next : ℕ} → Goes s at (Std.Ok next) (λ n. expect s Tokens.token·equals (here at n)) → {r : Std.Result Act Refusal} {u : List ℕ} → Leaf s next next code nodes (equal_with s v) r u → Leaf s at at code nodes (equal_to s v) r u
  unfolding equal_to
  to_on g l = leaf_lower (omega arith) (leaf_went (expect s Tokens.token·equals) code nodes (equal_with s v) g l)

module _ {s : List ℕ} {at : ℕ} (code : List ℕ) (nodes : ℕ) where
  -- all of it
  pub equal_not : {x : Refusal} → Gives s at (Std.Err x) (λ n. variable_at s (here at n)) → Leaf s (suc at) at code nodes (equal_at s) (Std.Err x) code
  unfolding equal_at
  equal_not g = leaf_not_got (variable_at s) code nodes (equal_to s) (suc at) g

  equal_on : {v : Got} → Gives s at (Std.Ok v) (λ n. variable_at s (here at n)) → {r : Std.Result Act Refusal} {u : List ℕ} → Leaf s v.next v.next code nodes (equal_to s v.value) r u → Leaf s (suc at) at code nodes (equal_at s) r u
  unfolding equal_at
  equal_on g l = leaf_got (variable_at s) code nodes (equal_to s) g l

  module _ {v : Got} (g : Gives s at (Std.Ok v) (λ n. variable_at s (here at n))) where
    pub equal_no_sign : {x : Refusal} → Goes s v.next (Std.Err x) (λ n. expect s Tokens.token·equals (here v.next n)) → Leaf s (suc at) at code nodes (equal_at s) (Std.Err x) code
    equal_no_sign h = equal_on g (to_not code nodes v.value h)

    module _ {next : ℕ} (h : Goes s v.next (Std.Ok next) (λ n. expect s Tokens.token·equals (here v.next n))) where
      pub equal_no_second : {x : Refusal} → Gives s next (Std.Err x) (λ n. variable_at s (here next n)) → Leaf s (suc at) at code nodes (equal_at s) (Std.Err x) code
      equal_no_second i = equal_on g (to_on code nodes v.value h (with_not code nodes v.value i))

      pub equal_both : {w : Got} → Gives s next (Std.Ok w) (λ n. variable_at s (here next n)) → {r : Part} {u : List ℕ} → Builds w.next nodes (node Kinds.condition·equal v.value w.value 0) code r u → Leaf s (suc at) at code nodes (equal_at s) (Std.Ok (Act.Done r)) u
      equal_both i b = equal_on g (to_on code nodes v.value h (with_on code nodes v.value i b))

  -- `empty $1`
  pub empty_not : {x : Refusal} → Gives s at (Std.Err x) (λ n. variable_at s (here at n)) → Leaf s at at code nodes (empty_at s) (Std.Err x) code
  unfolding empty_at
  empty_not g = leaf_not_got (variable_at s) code nodes (λ x. one s (λ n. empty n x)) at g

  pub empty_on : {v : Got} → Gives s at (Std.Ok v) (λ n. variable_at s (here at n)) → {r : Part} {u : List ℕ} → Builds v.next nodes (node Kinds.condition·empty v.value 0 0) code r u → Leaf s at at code nodes (empty_at s) (Std.Ok (Act.Done r)) u
  unfolding empty_at cond_nodes
  empty_on {v} g b = leaf_lower (omega arith) (leaf_got (variable_at s) code nodes (λ x. one s (λ n. empty n x)) g (leaf_built b s (λ n. empty n v.value) g.onward.1 (λ n. refl) (λ n. refl)))
