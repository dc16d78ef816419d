-- A step of the typing walk: what it is given, what it answers, and the walk as a rule on the type table.
-- Assumes nothing.
use Rattle.std.specs.Prelude.{◌≡◌, List, ℕ, ◌<◌, length, get_or, Result, None}
use Rattle.std.proofs.Math.Option.{some}
use Rattle.meaning.specs.Base.{Out, ok, refused, type_capacity}
use Rattle.meaning.specs.Types.{Table, Defs}
use Rattle.meaning.specs.Records as Records
use Rattle.meaning.specs.Records.{type_in}
use Rattle.meaning.specs.Queries.{Query}
use Rattle.meaning.specs.Rules.{Rule}
use Rattle.meaning.specs.Typing as Typing
use Rattle.meaning.specs.Typing.{State, type_of}
use Rattle.refusals.specs.declared.Refusal.{Refusal}
use Rattle.words.specs.Tables.{table_of}
use Rattle.scope.specs.declared.Scope.{Scope}
use Rattle.scope.specs.Shows.{found, Shows}
use Rattle.grow.specs.Grow.{Ready, Left}
use Rattle.grow.specs.declared.Made.{Made}

-- a scope of 64 places, in which each variable has its type among the first n entries
pub record Within (s : Scope) (n : ℕ) : Type 0 where
  pub wide : length s.slots ≡ 64
  pub low : (v : ℕ) (x : Records.Var) → v < 64 → found (get_or s.slots v None) ≡ some x → type_in x < n

-- a step of the walk as a rule on the type table, which is all of its state
abbrev pub tabled : Out (State × ℕ) → Out (Table × ℕ)
tabled (ok r) = ok (r.0.types, r.1)
tabled (refused n place) = refused n place

-- the walk of a query in a scope
unfoldable pub walked : ℕ → Defs → Query → Typing.Scope → Rule ℕ
walked room D q g = λ t. tabled (type_of room D q g (record { types = t }))

-- WHAT A STEP IS GIVEN: a formed table of types with their classes, and a scope of types that there are
pub record Begins (D : Defs) (types classes : List ℕ) (count : ℕ) (s : Scope) : Type 0 where
  pub ready : Ready D types classes count
  pub within : Within s count

-- WHAT IT LEAVES: what the query's walk leaves in every scope that this one shows
pub record Walks (D : Defs) (ws us cs ds : List ℕ) (count : ℕ) (q : Query) (s : Scope) (r : Result Made Refusal) : Type 0 where
  pub is : (g : Typing.Scope) → Shows s g → Left D ws us cs ds r (walked (type_capacity (length ws)) D q g (table_of ws count))
