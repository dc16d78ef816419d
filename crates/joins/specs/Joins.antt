-- What a query adds to the walks of its parts: the steps of this crate, for whatever rule the part followed.
-- Assumes nothing.
use Rattle.std.specs.Prelude.{◌≡◌, Result, Ok, None, List, ◌∷◌, ℕ, ◌<◌, length, get_or}
use Rattle.meaning.specs.Base as Base
use Rattle.meaning.specs.Base.{Out, ok, type_capacity}
use Rattle.meaning.specs.Types.{Entry, Table, Defs}
use Rattle.meaning.specs.Shapes.{shape, quant}
use Rattle.meaning.specs.Records as Records
use Rattle.meaning.specs.Queries.{Query}
use Rattle.meaning.specs.Rules.{after, from_out, Rule, append, prime, times}
use Rattle.meaning.specs.Typing as Typing
use Rattle.meaning.specs.Typing.{unbound}
use Rattle.refusals.specs.declared.Refusal.{Refusal}
use Rattle.words.specs.Tables.{table_of}
use Rattle.classes.specs.Classes.{class_of}
use Rattle.scope.specs.Shows.{Shows}
use Rattle.scope.specs.declared.Scope.{Scope}
use Rattle.grow.specs.Grow.{Ready, Left, New}
use Rattle.grow.specs.declared.Made.{Made}
use Rattle.leaves.specs.Walk.{walked}

-- LET AND FOR walk their source, and then their variable has to be free (14)
unfoldable pub sourced : ℕ → Defs → ℕ → Typing.Scope → ℕ → Query → Rule ℕ
sourced room D n g v p = λ t. after (walked room D p g t) (λ e. from_out (Base.◌>>=◌ (unbound n g v) λ _. ok e))

-- for, after its source: the variable has the prime of the source's type e, and the body's type is repeated as often as the source has trees
abbrev pub loop : ℕ → Defs → ℕ → Typing.Scope → ℕ → Query → ℕ → Rule ℕ
loop room D n g v q e = λ t. after (prime room n (shape D t e) t) (λ x s. after (walked room D q ((v, Records.tree x) ∷ g) s) (λ u. times room n u (quant (shape D t e))))

-- ADD: where entry x has this kind, first field a and the part's entry, it is appended to any table that these words show
pub record Adds (ws us cs ds : List ℕ) (count n kind a at : ℕ) (r : Result Made Refusal) : Type 0 where
  pub is : (D : Defs) (x : Entry) → New count kind a at x → Ready D ws cs count → Left D ws us cs ds r (append (type_capacity (length ws)) n x (table_of ws count))

-- REPEAT: U.q of the part's entry
pub record Repeats (ws us cs ds : List ℕ) (count n class at : ℕ) (r : Result Made Refusal) : Type 0 where
  pub is : (D : Defs) → Ready D ws cs count → at < count → Left D ws us cs ds r (times (type_capacity (length ws)) n at (class_of class) (table_of ws count))

-- FREE: after any rule x that the source followed, variable v has to be free; an entry that is answered is the source's, and then nothing stands for v
pub record Frees (n v : ℕ) (s : Scope) (source r : Result Made Refusal) : Type 0 where
  pub is : (g : Typing.Scope) → Shows s g → (D : Defs) (ws us cs ds : List ℕ) (x : Out (Table × ℕ)) → Left D ws us cs ds source x → Left D ws us cs ds r (after x (λ e. from_out (Base.◌>>=◌ (unbound n g v) λ _. ok e)))
  pub entry : (m : Made) → r ≡ Ok m → (source ≡ Ok m) × (get_or s.slots v None ≡ None)
