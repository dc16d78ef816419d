-- The items of a text, read over a stack of what is open: what each frame goes on with is the rest of the definition behind the part that is read.
-- Assumes nothing.
use Rattle.std.specs.Prelude.{◌≡◌, Bool, true, false, List, [], ◌∷◌, ◌++◌, ℕ, suc, ◌+◌, ◌≤◌, ◌<◌, length}
use Rattle.meaning.specs.Base.{ok, ◌>>=◌}
use Rattle.meaning.specs.Records.{Node}
use Rattle.meaning.specs.Queries.{Cond, Query, pair, element, for, let_in, when}
use Rattle.meaning.specs.Kinds
use Rattle.meaning.specs.Tokens
use Rattle.meaning.specs.Texts.{Here, Read, one, expect, cond_at, item_by, joined_by, query_at, cond_no, query_no, cond_nodes, query_nodes}
use Rattle.items.specs.declared.Binder.{Binder}
use Rattle.items.specs.declared.Open.{Open}

-- an item, whose parts are read k deep
abbrev pub item_at : List ℕ → ℕ → ℕ → Here → Read Query
item_at s k deep h = item_by s (λ o i. query_at s k true o i) (λ o i. query_at s k false o i) (λ o i. cond_at s k o i) deep h

-- a for or a let, the kind of its node, and the sign behind its variable
abbrev pub bound : Binder → ℕ → ℕ → Query → Query → Query
bound Binder.For n v p q = for n v p q
bound Binder.Let n v p q = let_in n v p q

abbrev pub bound_kind : Binder → ℕ
bound_kind Binder.For = Kinds.query·for
bound_kind Binder.Let = Kinds.query·let

abbrev pub sign_of : Binder → ℕ
sign_of Binder.For = Tokens.token·in
sign_of Binder.Let = Tokens.token·gets

-- pairs of first parts that are not kept, the innermost first
unfoldable pub folded : List ℕ → List Query → Query × Here → Read Query
folded s [] p = ok p
folded s (m ∷ ms) p = one s (λ n. pair n m p.0) p.1 >>= λ q. folded s ms q

-- WHAT IS OPEN: items that commas may follow; the second part of a pair; `(`; `[` of a label; the source of a for or let, and its body; the body of a when
pub data Frame : Type 0 where
  tail : (k deep : ℕ) (ms : List Query) → Frame
  second : (m : Query) → Frame
  group : Frame
  inside : (l : ℕ) → Frame
  source : (b : Binder) (v k deep : ℕ) → Frame
  body : (b : Binder) (v : ℕ) (p : Query) → Frame
  guarded : (c : Cond) → Frame

unfoldable pub cont : List ℕ → Frame → Query × Here → Read Query
cont s (tail k deep ms) p = joined_by s (λ i. query_at s k true deep i) true p >>= λ q. folded s ms q
cont s (second m) q = one s (λ n. pair n m q.0) q.1
cont s group q = do
  i ← expect s Tokens.token·closes q.1
  ok (q.0, i)
cont s (inside l) q = do
  j ← expect s Tokens.token·outside q.1
  one s (λ n. element n l q.0) j
cont s (source b v k deep) p = do
  l ← expect s Tokens.token·return p.1
  q ← query_at s k false deep l
  one s (λ n. bound b n v p.0 q.0) q.1
cont s (body b v p) q = one s (λ n. bound b n v p q.0) q.1
cont s (guarded c) q = one s (λ n. when n c q.0) q.1

-- the whole behind a part
unfoldable pub plug : List ℕ → List Frame → Read Query → Read Query
plug s [] x = x
plug s (f ∷ fs) x = plug s fs (x >>= λ p. cont s f p)

-- THE NODES of the parts that are kept, from the first on
abbrev pub held : Frame → List Node
held (tail k deep ms) = []
held (second m) = query_nodes m
held group = []
held (inside l) = []
held (source b v k deep) = []
held (body b v p) = query_nodes p
held (guarded c) = cond_nodes c

unfoldable pub rows_of : List Frame → List Node
rows_of [] = []
rows_of (f ∷ fs) = rows_of fs ++ held f

-- HOW MANY are open, and how many pairs wait
abbrev pub opens : Frame → ℕ → ℕ
opens (tail k deep ms) n = n
opens (second m) n = n
opens group n = suc n
opens (inside l) n = suc n
opens (source b v k deep) n = suc n
opens (body b v p) n = suc n
opens (guarded c) n = suc n

unfoldable pub depth : List Frame → ℕ
depth [] = 0
depth (f ∷ fs) = opens f (depth fs)

abbrev pub waits : Frame → ℕ → ℕ
waits (tail k deep ms) n = n
waits (second m) n = suc n
waits group n = n
waits (inside l) n = n
waits (source b v k deep) n = n
waits (body b v p) n = n
waits (guarded c) n = n

unfoldable pub pairs : List Frame → ℕ
pairs [] = 0
pairs (f ∷ fs) = waits f (pairs fs)

-- no tail stands on a tail
abbrev pub flat : Frame → Type 0
flat (tail k deep ms) = ⊥
flat (second m) = Unit {0}
flat group = Unit {0}
flat (inside l) = Unit {0}
flat (source b v k deep) = Unit {0}
flat (body b v p) = Unit {0}
flat (guarded c) = Unit {0}

abbrev pub Flat : List Frame → Type 0
Flat [] = Unit {0}
Flat (f ∷ fs) = flat f

-- a frame on others: one that knows how many are open knows it right
abbrev pub Stands : Frame → List Frame → Type 0
Stands (tail k deep ms) fs = (deep ≡ depth fs) × Flat fs
Stands (second m) fs = Flat fs
Stands group fs = Unit {0}
Stands (inside l) fs = Unit {0}
Stands (source b v k deep) fs = deep ≡ suc (depth fs)
Stands (body b v p) fs = Unit {0}
Stands (guarded c) fs = Unit {0}

unfoldable pub Level : List Frame → Type 0
Level [] = Unit {0}
Level (f ∷ fs) = Stands f fs × Level fs

-- what a frame still has to read from an offset on is not deeper than it reads
abbrev pub Deep : List ℕ → ℕ → Frame → Type 0
Deep s at (tail k deep ms) = length s ≤ k + at
Deep s at (second m) = Unit {0}
Deep s at group = Unit {0}
Deep s at (inside l) = Unit {0}
Deep s at (source b v k deep) = length s < k + at
Deep s at (body b v p) = Unit {0}
Deep s at (guarded c) = Unit {0}

unfoldable pub AllDeep : List ℕ → ℕ → List Frame → Type 0
AllDeep s at [] = Unit {0}
AllDeep s at (f ∷ fs) = Deep s at f × AllDeep s at fs

-- only beyond 1,024 nodes is a first part not kept
abbrev pub Kept : ℕ → List Query → Type 0
Kept n [] = Unit {0}
Kept n (m ∷ ms) = 1024 < n

-- WHAT THE CODE KEEPS of a frame, where there are n nodes: beyond 1,024 the number of a part does not matter
pub data Shown (n : ℕ) : Frame → Open → Type 0 where
  shows_tail : {k deep : ℕ} {ms : List Query} → Kept n ms → Shown n (tail k deep ms) (Open.Tail deep)
  shows_second : {m : Query} {a : ℕ} → (n ≤ 1024 → a ≡ query_no m) → Shown n (second m) (Open.Second a)
  shows_group : Shown n group Open.Group
  shows_inside : {l : ℕ} → Shown n (inside l) (Open.Inside l)
  shows_source : {b : Binder} {v k deep : ℕ} → Shown n (source b v k deep) (Open.Source b v deep)
  shows_body : {b : Binder} {v a : ℕ} {p : Query} → (n ≤ 1024 → a ≡ query_no p) → Shown n (body b v p) (Open.Body b v a)
  shows_guarded : {c : Cond} {a : ℕ} → (n ≤ 1024 → a ≡ cond_no c) → Shown n (guarded c) (Open.Guarded a)

-- which frames have items behind them that commas may follow
abbrev pub many : Frame → Bool
many (tail k deep ms) = true
many (second m) = true
many group = true
many (inside l) = true
many (source b v k deep) = false
many (body b v p) = false
many (guarded c) = false
