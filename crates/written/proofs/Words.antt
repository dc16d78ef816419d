-- The words of a node on the stack: its number, how many are open around it, and that it is inside the table.
-- Assumes nothing.
use mathlib.Core.Path.{◌≡◌, refl}
use mathlib.Core.Bool.{Bool}
use mathlib.Core.List.{List}
use mathlib.Core.Logic.{◌⊎◌, inl, inr}
use mathlib.Core.Option.{Option, none, some}
use Prim.Native.Nat.{ℕ, zero, suc, ◌≤◌, ◌<◌}
use native.Mathlib.Omega.{arith}
use lib.ListN.{length}
use Rattle.meaning.specs.Base.{find, otherwise}
use Rattle.meaning.specs.Records.{Node, node_at}
use Rattle.meaning.specs.Queries as Queries
use Rattle.meaning.specs.Queries.{Cond, Query, choose, expand_cond, expand_query, cond_in, query_in}
use Rattle.meaning.proofs.Finding.{Rows, end, ◌&◌, find_row}
use Rattle.meaning.proofs.Nodes.{InCond, InQuery}
use Rattle.queries.proofs.Named.{top, top_cond}
use Rattle.parts.specs.Items.{Item, piece, query, cond}
use Rattle.parts.specs.Stacks.{item_of, Inside}
use Rattle.parts.specs.declared.Part.{Part}
use Rattle.written.proofs.Flat.{Whole, weigh, some_query, some_cond, Within}
use Rattle.written.proofs.Deep.{node, depth}

-- THE NUMBER of the query and of the condition at a node is the node's
chosen_of : {A : Type 0} (P : A → Type 0) (k : ℕ) (rows : List (ℕ × (Unit {0} → A))) (d : A) → Rows (λ j f. P (f tt)) rows → P d → (o : Option (Unit {0} → A)) → find k rows ≡ o → P (otherwise (λ _. d) o tt)
chosen_of P k rows d h z none e = z
chosen_of P k rows d h z (some f) e = find_row k f h e

chosen : {A : Type 0} (P : A → Type 0) (k : ℕ) (rows : List (ℕ × (Unit {0} → A))) (d : A) → Rows (λ j f. P (f tt)) rows → P d → P (choose k rows d)
chosen P k rows d h z = chosen_of P k rows d h z (find k rows) refl

top_query : (k : ℕ) (C : List Node) (n : ℕ) → top (query_in k C n) ≡ n
unfolding query_in expand_query
top_query zero C n = refl
top_query (suc k) C n =
    chosen (λ (q : Query). top q ≡ n) (node_at C n).kind _ (Queries.nothing n) (refl & refl & refl & refl & refl & refl & refl & refl & refl & end) refl

top_cond_lem : (k : ℕ) (C : List Node) (n : ℕ) → top_cond (cond_in k C n) ≡ n
unfolding cond_in expand_cond
top_cond_lem zero C n = refl
top_cond_lem (suc k) C n =
    chosen (λ (p : Cond). top_cond p ≡ n) (node_at C n).kind _ (Queries.never n) (refl & refl & refl & refl & refl & refl & end) refl

-- it is inside the table
in_cond : (n : ℕ) (p : Cond) → InCond (λ i. i < n) p → top_cond p < n
unfolding InCond
in_cond n (Queries.always i) h = h
in_cond n (Queries.never i) h = h
in_cond n (Queries.equal i v w) h = h
in_cond n (Queries.empty i v) h = h
in_cond n (Queries.or i p q) h = h.0
in_cond n (Queries.not i p) h = h.0

in_query : (n : ℕ) (q : Query) → InQuery (λ i. i < n) q → top q < n
unfolding InQuery
in_query n (Queries.nothing i) h = h
in_query n (Queries.text i t) h = h
in_query n (Queries.element i l q) h = h.0
in_query n (Queries.pair i p q) h = h.0
in_query n (Queries.variable i v) h = h
in_query n (Queries.child i v w) h = h
in_query n (Queries.dos i v w) h = h
in_query n (Queries.for i v p q) h = h.0
in_query n (Queries.let_in i v p q) h = h.0
in_query n (Queries.when i p q) h = h.0

pub in_item : (n : ℕ) (x : Item) → Whole x → Within n x → node x < n
in_item n (piece k v) h w = absurd h
in_item n (query m d q) h w = in_query n q w
in_item n (cond d p) h w = in_cond n p w

-- a node weighs six or more
pub heavy : (x : Item) → Whole x → 6 ≤ weigh x
heavy (piece k v) h = absurd h
heavy (query m d q) h = omega (arith, some_query q)
heavy (cond d p) h = omega (arith, some_cond p)

-- A PART of a node: what is at it, how many are open around it, and its number
pub record Named (x : Item) (d a : ℕ) : Type 0 where
  pub whole : Whole x
  pub open_around : depth x ≡ d
  pub number : node x ≡ a

-- a part that is a query or a condition of a node
abbrev pub IsOf : Part → ℕ → ℕ → Type 0
IsOf x d a = ((m : Bool) × (x ≡ Part.Query m d a)) ⊎ (x ≡ Part.Cond d a)

pub named : (C : List Node) {x y : Part} {d a : ℕ} → x ≡ y → IsOf y d a → Named (item_of C x) d a
named C {d = d} {a = a} e (inl h) = rw (e, h.1) (record { whole = tt; open_around = refl; number = top_query (length C) C a })
named C {d = d} {a = a} e (inr h) = rw (e, h) (record { whole = tt; open_around = refl; number = top_cond_lem (length C) C a })

pub inside_named : {nodes : ℕ} {x y : Part} {d a : ℕ} → x ≡ y → IsOf y d a → a < nodes → Inside nodes x
inside_named e (inl h) l = rw (e, h.1) l
inside_named e (inr h) l = rw (e, h) l
