-- A lent type table that typing grows, with the class of every entry; and a rule's answer in the code, read as an answer of `meaning`.
-- Assumes nothing.
use Rattle.std.specs.Prelude.{◌≡◌, Result, Ok, Err, List, [], ◌∷◌, ℕ, ◌<◌, ◌≤◌, length}
use Rattle.std.proofs.Math.Option.{none}
use Rattle.meaning.specs.Base.{At, Out, padded, type_capacity}
use Rattle.meaning.specs.Types.{Entry, Table, Defs, entry_words, table_words, entry_of, name_of}
use Rattle.meaning.specs.Formed.{Lower, Formed}
use Rattle.refusals.specs.declared.Refusal.{Refusal}
use Rattle.refusals.specs.Says.{out}
use Rattle.words.specs.Tables.{table_of}
use Rattle.words.specs.declared.Entry as Words
use Rattle.classes.specs.Classes.{Filled}
use Rattle.grow.specs.declared.Made.{Made}

-- the words w are those of entry e
pub record Shows (T : Table) (e : ℕ) (w : Words.Entry) : Type 0 where
  pub is : At T e (entry_of w.kind w.a w.b)

-- lent words: n entries, which they have room for, and then zeros
pub record Lent (ws : List ℕ) (n : ℕ) : Type 0 where
  pub fits : n ≤ type_capacity (length ws)
  pub is : ws ≡ padded (length ws) (table_words (table_of ws n))

-- what a rule is given: a formed table of n entries in lent words ws, and their classes in cs
pub record Ready (D : Defs) (ws cs : List ℕ) (n : ℕ) : Type 0 where
  pub formed : Formed D (table_of ws n)
  pub lent : Lent ws n
  pub filled : Filled D (table_of ws n) cs
  pub long : 4096 ≤ length cs

-- the code's answer, with the words that it left
abbrev pub answer_of : Result Made Refusal → List ℕ → Out (Table × ℕ)
answer_of r us = out (λ m. (table_of us m.count, m.at)) r

-- what the next rule is given, and that the answer is an entry of the table
abbrev pub After : Defs → List ℕ → List ℕ → Result Made Refusal → Type 0
After D us ds (Ok m) = Ready D us ds m.count × (m.at < m.count)
After D us ds (Err r) = Unit {0}

-- From words ws and classes cs the code left us and ds and answered r, as x says, the answer of a rule of `meaning`. A refusal leaves what it leaves:
-- typing clears it.
pub record Left (D : Defs) (ws us cs ds : List ℕ) (r : Result Made Refusal) (x : Out (Table × ℕ)) : Type 0 where
  pub answer : answer_of r us ≡ x
  pub long : length us ≡ length ws
  pub longs : length ds ≡ length cs
  pub ready : After D us ds r

-- an entry x, no name, that may come after n others, and its words
pub record New (n k a b : ℕ) (x : Entry) : Type 0 where
  pub words : entry_words x ≡ k ∷ a ∷ b ∷ []
  pub low : Lower n x
  pub plain : name_of x ≡ none
