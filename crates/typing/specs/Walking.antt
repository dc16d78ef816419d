-- The typing walk as a loop over a stack: what a query does when a part of it has answered, and what the steps down and up leave.
-- Assumes nothing.
use Rattle.std.specs.Prelude.{◌≡◌, Result, Ok, Err, Some, None, List, [], ◌∷◌, ◌++◌, ℕ, zero, suc, ◌+◌, ◌*◌, ◌≤◌, ◌<◌, length, get_or, set}
use Rattle.std.proofs.Math.Option.{Option, none, some}
use Rattle.meaning.specs.Base as Base
use Rattle.meaning.specs.Base.{Out, ok, type_capacity}
use Rattle.meaning.specs.Types as Types
use Rattle.meaning.specs.Types.{Table, Defs}
use Rattle.meaning.specs.Records as Records
use Rattle.meaning.specs.Records.{Node}
use Rattle.meaning.specs.Queries as Queries
use Rattle.meaning.specs.Queries.{Query, query_at}
use Rattle.meaning.specs.Rules.{after, from_out, append, times}
use Rattle.meaning.specs.Typing as Typing
use Rattle.meaning.specs.Typing.{unbound}
use Rattle.refusals.specs.declared.Refusal.{Refusal}
use Rattle.words.specs.Tables.{table_of}
use Rattle.uses.specs.Counts.{Lowers}
use Rattle.classes.specs.Classes.{class_of}
use Rattle.scope.specs.declared.Scope.{Scope}
use Rattle.scope.specs.declared.Var.{Var}
use Rattle.scope.specs.Shows.{Shows, bound}
use Rattle.grow.specs.Grow.{Left}
use Rattle.grow.specs.declared.Made.{Made}
use Rattle.leaves.specs.Walk.{Begins, walked, Walks}
use Rattle.joins.specs.Joins.{loop}
use Rattle.typing.specs.declared.Next.{Next}

-- WHAT IS LEFT OF A QUERY in a scope, when a part of it has answered o. It keeps 0 while its first part is done. While its second part is done it keeps
-- one more than a number: a pair its first part's entry, a for its source's class.
unfoldable pub onward : ℕ → Defs → Query → ℕ → Typing.Scope → Out (Table × ℕ) → Out (Table × ℕ)
onward room D (Queries.nothing n) k g o = o
onward room D (Queries.text n t) k g o = o
onward room D (Queries.element n l q) k g o = after o (λ e. append room n (Types.element l e))
onward room D (Queries.pair n p q) zero g o = after o (λ x t. after (walked room D q g t) (λ y. append room n (Types.pair x y)))
onward room D (Queries.pair n p q) (suc x) g o = after o (λ y. append room n (Types.pair x y))
onward room D (Queries.variable n v) k g o = o
onward room D (Queries.child n v w) k g o = o
onward room D (Queries.dos n v w) k g o = o
onward room D (Queries.for n v p q) zero g o = after (after o (λ e. from_out (Base.◌>>=◌ (unbound n g v) λ _. ok e))) (loop room D n g v q)
onward room D (Queries.for n v p q) (suc c) g o = after o (λ u. times room n u (class_of c))
onward room D (Queries.let_in n v p q) zero g o = after (after o (λ e. from_out (Base.◌>>=◌ (unbound n g v) λ _. ok e))) (λ e. walked room D q ((v, Records.forest e) ∷ g))
onward room D (Queries.let_in n v p q) (suc x) g o = o
onward room D (Queries.when n p q) k g o = after o (λ x. append room n (Types.opt x))

-- an entry that a query keeps is among the first n
abbrev pub Kept : ℕ → Query → ℕ → Type 0
Kept n (Queries.nothing m) k = Unit {0}
Kept n (Queries.text m t) k = Unit {0}
Kept n (Queries.element m l q) k = Unit {0}
Kept n (Queries.pair m p q) k = k ≤ n
Kept n (Queries.variable m v) k = Unit {0}
Kept n (Queries.child m v w) k = Unit {0}
Kept n (Queries.dos m v w) k = Unit {0}
Kept n (Queries.for m v p q) k = Unit {0}
Kept n (Queries.let_in m v p q) k = Unit {0}
Kept n (Queries.when m p q) k = Unit {0}

-- THE VARIABLE that for and let bind, while their second part is done: what it adds to a scope of `meaning`, to the code's scope, and the scope without it
unfoldable pub binder : Query → Option ℕ
binder (Queries.nothing n) = none
binder (Queries.text n t) = none
binder (Queries.element n l q) = none
binder (Queries.pair n p q) = none
binder (Queries.variable n v) = none
binder (Queries.child n v w) = none
binder (Queries.dos n v w) = none
binder (Queries.for n v p q) = some v
binder (Queries.let_in n v p q) = some v
binder (Queries.when n p q) = none

abbrev pub named : Option ℕ → ℕ → Records.Var → Typing.Scope
named none k y = []
named (some v) zero y = []
named (some v) (suc k) y = (v, y) ∷ []

abbrev pub coded : Records.Var → Var
coded (Records.tree e) = Var.Tree e
coded (Records.forest e) = Var.Forest e

abbrev pub inside : Option ℕ → ℕ → Records.Var → Scope → Scope
inside none k y s = s
inside (some v) zero y s = s
inside (some v) (suc k) y s = bound s v (Some (coded y))

abbrev pub outside : Option ℕ → ℕ → Scope → Scope
outside none k s = s
outside (some v) zero s = s
outside (some v) (suc k) s = bound s v None

-- nothing stands for a variable, so that binding and unbinding it gives the scope back
pub record Free (s : Scope) (v : ℕ) : Type 0 where
  pub few : v ≤ 63
  pub is : get_or s.slots v None ≡ None

abbrev pub Freed : Option ℕ → ℕ → Scope → Type 0
Freed none k s = Unit {0}
Freed (some v) zero s = Unit {0}
Freed (some v) (suc k) s = Free s v

-- HOW MUCH there is to do: for a query, and for one of which a part is being done
unfoldable pub size : Query → ℕ
size (Queries.nothing n) = 1
size (Queries.text n t) = 1
size (Queries.element n l q) = 1 + size q
size (Queries.pair n p q) = 1 + size p + size q
size (Queries.variable n v) = 1
size (Queries.child n v w) = 1
size (Queries.dos n v w) = 1
size (Queries.for n v p q) = 1 + size p + size q
size (Queries.let_in n v p q) = 1 + size p + size q
size (Queries.when n p q) = 1 + size q

abbrev pub half_cost : ℕ → ℕ → ℕ
half_cost s zero = 3 * s + 2
half_cost s (suc k) = 1

unfoldable pub cost : Query → ℕ → ℕ
cost (Queries.nothing n) k = 1
cost (Queries.text n t) k = 1
cost (Queries.element n l q) k = 1
cost (Queries.pair n p q) k = half_cost (size q) k
cost (Queries.variable n v) k = 1
cost (Queries.child n v w) k = 1
cost (Queries.dos n v w) k = 1
cost (Queries.for n v p q) k = half_cost (size q) k
cost (Queries.let_in n v p q) k = half_cost (size q) k
cost (Queries.when n p q) k = 1

-- STEPS. Up with what a node made, or its refusal; and the stack with a frame for node n
abbrev pub rose : Result Made Refusal → ℕ → Result Next Refusal
rose (Ok m) top = Ok (Next.Up m top)
rose (Err r) top = Err r

abbrev pub begun : List ℕ → ℕ → ℕ → List ℕ
begun st top n = set (set st (2 * top) n) (2 * top + 1) 0

-- what the walk of node n is given: types, classes and a scope to begin with; marks, definitions and the query's nodes
pub record Here (types classes marks : List ℕ) (D : Defs) (code : List Node) (count n : ℕ) (s : Scope) : Type 0 where
  pub begins : Begins D types classes count s
  pub marked : 8192 ≤ length marks
  pub lowers : Lowers code
  pub low : n < length code

-- and what a frame is given, whose part has answered `at`
pub record Framed (D : Defs) (types classes marks : List ℕ) (code : List Node) (count : ℕ) (s : Scope) (st : List ℕ) (i at : ℕ) : Type 0 where
  pub begins : Begins D types classes count s
  pub marked : 4096 ≤ length marks
  pub lowers : Lowers code
  pub low : get_or st (2 * i) 0 < length code
  pub room : 2 * i + 1 < length st
  pub there : at < count
  pub kept : Kept count (query_at code (get_or st (2 * i) 0)) (get_or st (2 * i + 1) 0)

-- A STEP DOWN at node n, over `top` frames: the node is done, or it is begun and a part of it comes first
pub data Goes (D : Defs) (code : List Node) (ws us cs ds : List ℕ) (count : ℕ) (s : Scope) (n : ℕ) (st st' : List ℕ) (top : ℕ) (r : Result Next Refusal) : Type 0 where
  done : (w : Result Made Refusal) → Walks D ws us cs ds count (query_at code n) s w → st' ≡ st → r ≡ rose w top → Goes D code ws us cs ds count s n st st' top r
  first : (q : ℕ) → q < n → us ≡ ws → ds ≡ cs → st' ≡ begun st top n → r ≡ Ok (Next.Down q count (suc top))
      → cost (query_at code n) 0 + 3 * size (query_at code q) < 3 * size (query_at code n)
      → ((room : ℕ) (g : Typing.Scope) (t : Table) → Shows s g → walked room D (query_at code n) g t ≡ onward room D (query_at code n) 0 g (walked room D (query_at code q) g t))
      → Goes D code ws us cs ds count s n st st' top r

-- A STEP UP to node n, the frame over i others, which keeps k and whose part has answered `at`: the node is done, or its second part comes, with
-- variable y; from scope s to scope t
pub data Turns (D : Defs) (code : List Node) (ws us cs ds : List ℕ) (count : ℕ) (s : Scope) (n k at : ℕ) (st st' : List ℕ) (i : ℕ) (r : Result Next Refusal) (t : Scope) : Type 0 where
  done : (made : Result Made Refusal) → st' ≡ st → r ≡ rose made i → t ≡ outside (binder (query_at code n)) k s → ((m : Made) → made ≡ Ok m → count ≤ m.count)
      → ((g : Typing.Scope) → Shows (outside (binder (query_at code n)) k s) g → Left D ws us cs ds made (onward (type_capacity (length ws)) D (query_at code n) k g (ok (table_of ws count, at))))
      → Turns D code ws us cs ds count s n k at st st' i r t
  second : (q x m : ℕ) (y : Records.Var) → k ≡ 0 → q < n → st' ≡ set st (2 * i + 1) (suc x) → r ≡ Ok (Next.Down q m (suc i)) → t ≡ inside (binder (query_at code n)) (suc x) y s
      → Begins D us ds m (inside (binder (query_at code n)) (suc x) y s) → count ≤ m → length us ≡ length ws → length ds ≡ length cs → Kept m (query_at code n) (suc x) → Freed (binder (query_at code n)) (suc x) s
      → cost (query_at code n) (suc x) + 3 * size (query_at code q) < cost (query_at code n) 0
      → ((g : Typing.Scope) → Shows s g → onward (type_capacity (length ws)) D (query_at code n) 0 g (ok (table_of ws count, at)) ≡ onward (type_capacity (length ws)) D (query_at code n) (suc x) g (walked (type_capacity (length ws)) D (query_at code q) (named (binder (query_at code n)) (suc x) y ++ g) (table_of us m)))
      → Turns D code ws us cs ds count s n k at st st' i r t

-- WHAT THE WALK LEAVES: what the query's walk leaves in every scope that this one shows
pub record Typed (D : Defs) (ws us cs ds : List ℕ) (count : ℕ) (q : Query) (s : Scope) (made : Result Made Refusal) : Type 0 where
  pub is : (g : Typing.Scope) → Shows s g → Left D ws us cs ds made (walked (type_capacity (length ws)) D q g (table_of ws count))
