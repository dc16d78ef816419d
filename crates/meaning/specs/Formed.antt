-- The one well-formedness of a type table with its definitions: reading and refusals 9 and 10 guarantee it, typing keeps it. And that of query
-- nodes, which reading guarantees.
-- Assumes nothing.
use Rattle.std.specs.Prelude.{◌≡◌, Bool, true, false, List, ℕ, ◌≤◌, ◌<◌, length}
use Rattle.meaning.specs.Base.{At}
use Rattle.meaning.specs.Types.{Entry, Table, Defs}
use Rattle.meaning.specs.Reach.{Path}
use Rattle.meaning.specs.Kinds
use Rattle.meaning.specs.Records.{Var, type_in, Node, node, node_at, is_condition}

-- "Children have lower numbers", "labels 1 to 65,534", definition numbers at most 63: an entry as a record may give it when n stand before it
pub data Lower (n : ℕ) : Entry → Type 0 where
  element : {l c : ℕ} → 1 ≤ l → l ≤ 65534 → c < n → Lower n (Entry.element l c)
  pair : {a b : ℕ} → a < n → b < n → Lower n (Entry.pair a b)
  union : {a b : ℕ} → a < n → b < n → Lower n (Entry.union a b)
  star : {a : ℕ} → a < n → Lower n (Entry.star a)
  plus : {a : ℕ} → a < n → Lower n (Entry.plus a)
  opt : {a : ℕ} → a < n → Lower n (Entry.opt a)
  name : {d : ℕ} → d ≤ 63 → Lower n (Entry.name d)

-- no definition reaches a name of itself without entering an element (S definition 3.2, element-guarded)
abbrev pub Guarded : Defs → Table → Type 0
Guarded D T = (d c i : ℕ) → At D d c → Path false D T c i → At T i (Entry.name d) → ⊥

pub record Formed (D : Defs) (T : Table) : Type 0 where
  pub two : 2 ≤ length T
  pub few : length T ≤ 4096
  pub zeroth : At T 0 Entry.empty
  pub first : At T 1 Entry.string
  pub lower : (e : ℕ) (x : Entry) → 2 ≤ e → At T e x → Lower e x
  pub few_defs : length D ≤ 64
  pub defined : (d c : ℕ) → At D d c → c < length T
  pub named : (e d : ℕ) → At T e (Entry.name d) → d < length D
  pub guarded : Guarded D T

-- "reference .. to a lower .. entry of the right sort": w names a node before node n, a condition or not
pub record Names (code : List Node) (n : ℕ) (condition : Bool) (w : ℕ) : Type 0 where
  pub low : w < n
  pub sort : is_condition (node_at code w).kind ≡ condition

-- a query node as a record may give it when n stand before it: what it names stands before it and is of the right sort; unused words are 0
pub data NodeLow (code : List Node) (n : ℕ) : Node → Type 0 where
  query·empty : NodeLow code n (node Kinds.query·empty 0 0 0)
  query·text : {t : ℕ} → NodeLow code n (node Kinds.query·text t 0 0)
  query·element : {l q : ℕ} → 1 ≤ l → l ≤ 65534 → Names code n false q → NodeLow code n (node Kinds.query·element l q 0)
  query·pair : {p q : ℕ} → Names code n false p → Names code n false q → NodeLow code n (node Kinds.query·pair p q 0)
  query·variable : {v : ℕ} → v ≤ 63 → NodeLow code n (node Kinds.query·variable v 0 0)
  query·child : {v w : ℕ} → v ≤ 63 → NodeLow code n (node Kinds.query·child v w 0)
  query·dos : {v w : ℕ} → v ≤ 63 → NodeLow code n (node Kinds.query·dos v w 0)
  query·for : {v p q : ℕ} → v ≤ 63 → Names code n false p → Names code n false q → NodeLow code n (node Kinds.query·for v p q)
  query·let : {v p q : ℕ} → v ≤ 63 → Names code n false p → Names code n false q → NodeLow code n (node Kinds.query·let v p q)
  query·when : {p q : ℕ} → Names code n true p → Names code n false q → NodeLow code n (node Kinds.query·when p q 0)
  condition·true : NodeLow code n (node Kinds.condition·true 0 0 0)
  condition·false : NodeLow code n (node Kinds.condition·false 0 0 0)
  condition·equal : {v w : ℕ} → v ≤ 63 → w ≤ 63 → NodeLow code n (node Kinds.condition·equal v w 0)
  condition·empty : {v : ℕ} → v ≤ 63 → NodeLow code n (node Kinds.condition·empty v 0 0)
  condition·or : {p q : ℕ} → Names code n true p → Names code n true q → NodeLow code n (node Kinds.condition·or p q 0)
  condition·not : {p : ℕ} → Names code n true p → NodeLow code n (node Kinds.condition·not p 0 0)

-- WHAT READING LEAVES, table by table, before the checks: with room for so many entries, and with n type entries
pub record TypesRead (room : ℕ) (T : Table) : Type 0 where
  pub two : 2 ≤ length T
  pub fits : length T ≤ room
  pub zeroth : At T 0 Entry.empty
  pub first : At T 1 Entry.string
  pub lower : (e : ℕ) (x : Entry) → 2 ≤ e → At T e x → Lower e x

pub record DefsRead (n : ℕ) (D : Defs) : Type 0 where
  pub few : length D ≤ 64
  pub defined : (d c : ℕ) → At D d c → c < n

pub record VarsRead (n : ℕ) (vars : List (ℕ × Var)) : Type 0 where
  pub few : length vars ≤ 16
  pub low : (i v : ℕ) (x : Var) → At vars i (v, x) → v ≤ 63
  pub scoped : (i v : ℕ) (x : Var) → At vars i (v, x) → type_in x < n
  pub once : (i j v : ℕ) (x y : Var) → At vars i (v, x) → At vars j (v, y) → i ≡ j

pub record CodeRead (room : ℕ) (code : List Node) : Type 0 where
  pub few : length code ≤ room
  pub nodes : (n : ℕ) (x : Node) → At code n x → NodeLow code n x
