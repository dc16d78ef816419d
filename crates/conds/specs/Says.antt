-- What the answers of this crate say in the terms of `meaning`: a condition by its node, and when an answer is a rule's.
-- Assumes nothing.
use Rattle.std.specs.Prelude.{◌≡◌, ℕ, Result}
use Rattle.meaning.specs.Base.{Out}
use Rattle.meaning.specs.Records as Records
use Rattle.meaning.specs.Records.{Node}
use Rattle.meaning.specs.Queries as Queries
use Rattle.meaning.specs.Queries.{expand_cond}
use Rattle.meaning.specs.Typing as Typing
use Rattle.refusals.specs.declared.Reason.{Reason}
use Rattle.refusals.specs.declared.Refusal.{Refusal}
use Rattle.refusals.specs.Says.{out}
use Rattle.scope.specs.Shows.{var_of, Shows}
use Rattle.scope.specs.declared.Scope.{Scope}
use Rattle.scope.specs.declared.Var.{Var}
use Rattle.conds.specs.declared.Cond.{Cond}

-- an entry, or nothing, or a refusal
abbrev pub told : {A : Type 0} → Result A Refusal → Out A
told r = out (λ a. a) r

-- a variable, or a refusal
abbrev pub variable_told : Result Var Refusal → Out Records.Var
variable_told r = out var_of r

-- 13 at node n
abbrev pub missing_at : ℕ → Refusal
missing_at n = record { reason = Reason.NotInScope; place = n }

-- the condition at node n, from those at the nodes that it names
abbrev pub cond_of : ℕ → (ℕ → Queries.Cond) → Cond → Queries.Cond
cond_of n f Cond.True = Queries.always n
cond_of n f Cond.False = Queries.never n
cond_of n f (Cond.Equal v w) = Queries.equal n v w
cond_of n f (Cond.Empty v) = Queries.empty n v
cond_of n f (Cond.Or p q) = Queries.or n (f p) (f q)
cond_of n f (Cond.Not p) = Queries.not n (f p)

-- node n, which is x, is this condition
pub record Says (n : ℕ) (x : Node) (c : Cond) : Type 0 where
  pub is : (f : ℕ → Queries.Cond) → cond_of n f c ≡ expand_cond n f x

-- an answer is the rule's in every scope that this one shows
pub record Answers {A : Type 0} (s : Scope) (told : Out A) (rule : Typing.Scope → Out A) : Type 0 where
  pub is : (g : Typing.Scope) → Shows s g → told ≡ rule g
