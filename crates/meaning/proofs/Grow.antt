-- Typing only grows a formed table, keeps it formed and answers an entry of it, or refuses: a rule 16 at its node, the walk 13 to 16 at a node of the
-- query.
-- Assumes nothing.
use mathlib.Core.Path.{◌≡◌, refl, ap, sym, ◌∙◌, subst}
use mathlib.Core.Bool.{Bool, true, false, not, cond}
use mathlib.Core.List.{List, [], ◌∷◌, ◌++◌}
use mathlib.Core.Option.{none, some}
use Prim.Native.Nat.{ℕ, suc, ◌≤◌, ◌<◌}
use native.Mathlib.Omega.{arith}
use borrow.Author.Tests.{ltb-true}
use lib.Dec.{ltb, eqb}
use lib.ListN.{length, length-append}
use Rattle.meaning.specs.Base.{Out, ok, At, In, first, later, find, is_some}
use Rattle.meaning.specs.Forests.{text, label, passes}
use Rattle.meaning.specs.Types as Types
use Rattle.meaning.specs.Types.{Entry, Table, Defs, name_of}
use Rattle.meaning.specs.Reach.{steps_of, Path, here, step, atoms_below}
use Rattle.meaning.specs.Formed as Formed
use Rattle.meaning.specs.Formed.{Lower, Formed}
use Rattle.meaning.specs.Shapes.{Shape, empty, string, element, pair, union, star, plus, opt, name, shape, Class, one, maybe, more, any, quant}
use Rattle.meaning.specs.Records.{Var, tree, forest}
use Rattle.meaning.specs.Queries as Queries
use Rattle.meaning.specs.Queries.{Query, Cond}
use Rattle.meaning.specs.Rules.{after, Rule, append_if, append, prime, content, sift, filter, child_rule, times, unions, star_of, dos_rule}
use Rattle.meaning.specs.Records.{type_in}
use Rattle.meaning.specs.Typing.{Scope, lookup, unbound, only_tree, tree_type, State, Walk, leaving, type_cond, for_rule, type_of}
use Rattle.meaning.proofs.Lists.{absurd_option, at_low, at_get_or, at_is, at_one, at_append, at_old, Grows, grows_refl, grows_trans, grows_one, grows_length, at_grows}
use Rattle.meaning.proofs.Ends.{Ends, gives, stops, Any, ends_bind, ends_after, ends_map, ends_by, ends_require, ends_given, ends_leaving, ends_from_lem}
use Rattle.meaning.proofs.Nodes.{InCond, InQuery}
use Rattle.meaning.proofs.Labels.{Labels}
use Rattle.meaning.proofs.Reach.{atoms_low}
use Rattle.meaning.proofs.Guard.{steps_low}
use Rattle.meaning.proofs.Shaped.{Shaped, is_empty, is_string, is_element, is_pair, is_union, is_star, is_plus, is_opt, is_name}
use Rattle.meaning.proofs.Shapes.{shape_shaped}

-- A TABLE THAT GROWS. What stands in it below the old length stood there, and from an old entry old entries are reached, by old steps
pub at_older : {T U : Table} {i : ℕ} {y : Entry} → Grows T U → i < length T → At U i y → At T i y
at_older {T} {i = i} g l h = let o = at_is T i Types.empty l in subst (At T i) (at_one (at_grows g o) h) o

pub path_older : {enter : Bool} {D : Defs} {T U : Table} {c i : ℕ} → Formed D T → Grows T U → c < length T → Path enter D U c i → Path enter D T c i × (i < length T)
path_older F g l here = (here, l)
path_older {enter} {D} {T} F g l (step q h k) =
    let o = path_older F g l q in
    let t = at_older g o.1 h in
    (step o.0 t k, steps_low D T F enter _ _ o.1 (rw (at_get_or t Types.empty) k))

pub path_grows : {enter : Bool} {D : Defs} {T U : Table} {c i : ℕ} → Grows T U → Path enter D T c i → Path enter D U c i
path_grows g here = here
path_grows g (step q h k) = step (path_grows g q) (at_grows g h) k

-- one entry more, which is no name
pub formed_append : (D : Defs) (T : Table) → Formed D T → length T < 4096 → (x : Entry) → Lower (length T) x → name_of x ≡ none → Formed D (T ++ (x ∷ []))
unfolding name_of
formed_append D T F few x low plain =
    record {
      two = omega (arith, long);
      few = omega (arith, long);
      zeroth = at_append (x ∷ []) F.zeroth;
      first = at_append (x ∷ []) F.first;
      lower = λ e y h k. at_old (Lower e y) k (F.lower e y h) (λ p q. rw (p, ← q) low);
      few_defs = F.few_defs;
      defined = λ d c h. omega (arith, long, F.defined d c h);
      named = λ e d h. at_old (d < length D) h (F.named e d) (λ p q. absurd_option (sym plain ∙ ap name_of q));
      guarded = λ d c i h p r. let o = path_older F (grows_one T x) (F.defined d c h) p in F.guarded d c i h o.0 (at_older (grows_one T x) o.1 r);
    }
  where
    long : length (T ++ (x ∷ [])) ≡ suc (length T)
    long = omega (arith, length-append T (x ∷ []))

-- the answer of a rule on a table: a table that grew from it and is formed, and an entry of that
pub record Grew (D : Defs) (room : ℕ) (T : Table) (r : Table × ℕ) : Type 0 where
  pub grows : Grows T r.0
  pub formed : Formed D r.0
  pub fits : length r.0 ≤ room
  pub low : r.1 < length r.0

-- the refusal of a rule for node n
abbrev pub Full : ℕ → ℕ → ℕ → Type 0
Full n k p = (k ≡ 16) × (p ≡ n)

pub grew_none : {D : Defs} {room : ℕ} {T : Table} {e : ℕ} → Formed D T → length T ≤ room → e < length T → Grew D room T (T, e)
grew_none F h l = record { grows = grows_refl; formed = F; fits = h; low = l }

pub grew_on : {D : Defs} {room : ℕ} {T U : Table} {r : Table × ℕ} → Grows T U → Grew D room U r → Grew D room T r
grew_on g h = record { grows = grows_trans g h.grows; formed = h.formed; fits = h.fits; low = h.low }

pub grew_after : {D : Defs} {room : ℕ} {T : Table} {R : ℕ → ℕ → Type 0} {m : Out (Table × ℕ)} {f : ℕ → Rule ℕ} → Ends (Grew D room T) R m
    → ((U : Table) (x : ℕ) → Grew D room T (U, x) → Ends (Grew D room U) R (f x U)) → Ends (Grew D room T) R (after m f)
grew_after h k = ends_after h λ U x g. ends_map (k U x g) (λ r j. grew_on g.grows j)

-- SHAPES whose entries stand in a table of n entries
unfoldable pub Within : ℕ → Shape → Type 0
Within n (empty e) = e < n
Within n (string e) = e < n
Within n (element e l c) = (e < n) × (c < n)
Within n (pair s t) = Within n s × Within n t
Within n (union s t) = Within n s × Within n t
Within n (star s) = Within n s
Within n (plus s) = Within n s
Within n (opt s) = Within n s
Within n (name s) = Within n s

pub within_more : (s : Shape) {n m : ℕ} → n ≤ m → Within n s → Within m s
unfolding Within
within_more (empty e) h w = omega arith
within_more (string e) h w = omega arith
within_more (element e l c) h w = (omega arith, omega arith)
within_more (pair s t) h w = (within_more s h w.0, within_more t h w.1)
within_more (union s t) h w = (within_more s h w.0, within_more t h w.1)
within_more (star s) h w = within_more s h w
within_more (plus s) h w = within_more s h w
within_more (opt s) h w = within_more s h w
within_more (name s) h w = within_more s h w

pub shaped_within : {D : Defs} {T : Table} {e : ℕ} {s : Shape} → Formed D T → Shaped D T e s → Within (length T) s
unfolding Within steps_of
shaped_within F (is_empty h) = at_low h
shaped_within F (is_string h) = at_low h
shaped_within {D} {T} F (is_element {e = e} {c = c} h) = (at_low h, steps_low D T F true e c (at_low h) (rw (at_get_or h Types.empty) first))
shaped_within F (is_pair h p q) = (shaped_within F p, shaped_within F q)
shaped_within F (is_union h p q) = (shaped_within F p, shaped_within F q)
shaped_within F (is_star h p) = shaped_within F p
shaped_within F (is_plus h p) = shaped_within F p
shaped_within F (is_opt h p) = shaped_within F p
shaped_within F (is_name h d p) = shaped_within F p

pub shape_within : {D : Defs} {T : Table} {e : ℕ} → Formed D T → e < length T → Within (length T) (shape D T e)
shape_within {D} {T} {e} F l = shaped_within F (shape_shaped D T F e l)

-- THE RULES
module _ (D : Defs) (room : ℕ) (most : room ≤ 4096) (n : ℕ) where
  pub append_ends : (x : Entry) (T : Table) → Formed D T → length T ≤ room → Lower (length T) x → name_of x ≡ none → Ends (Grew D room T) (Full n) (append room n x T)
  append_ends x T F h l p = go (ltb (length T) room) refl
    where
      go : (b : Bool) → ltb (length T) room ≡ b → Ends (Grew D room T) (Full n) (append_if room n b x T)
      go true e =
          let r = ltb-true (length T) room e in
          let long = length-append T (x ∷ []) in
          gives {a = (T ++ (x ∷ []), length T)} (record { grows = grows_one T x; formed = formed_append D T F (omega arith) x l p; fits = omega arith; low = omega arith })
      go false e = stops (refl, refl)

  -- a part, then an entry for it; both sides, then an entry for them
  one_ends : {T : Table} {m : Out (Table × ℕ)} (make : ℕ → Entry) → ((k a : ℕ) → a < k → Lower k (make a)) → ((a : ℕ) → name_of (make a) ≡ none)
      → Ends (Grew D room T) (Full n) m → Ends (Grew D room T) (Full n) (after m (λ x. append room n (make x)))
  one_ends make low plain h = grew_after h λ U x g. append_ends (make x) U g.formed g.fits (low (length U) x g.low) (plain x)

  both_ends : {T : Table} {m : Out (Table × ℕ)} {f : Rule ℕ} (make : ℕ → ℕ → Entry) → ((k a b : ℕ) → a < k → b < k → Lower k (make a b)) → ((a b : ℕ) → name_of (make a b) ≡ none)
      → Ends (Grew D room T) (Full n) m → ((U : Table) → length T ≤ length U → Formed D U → length U ≤ room → Ends (Grew D room U) (Full n) (f U))
      → Ends (Grew D room T) (Full n) (after m (λ x. λ U. after (f U) (λ y. append room n (make x y))))
  both_ends make low plain h k =
      grew_after h λ U x g. grew_after (k U (grows_length g.grows) g.formed g.fits) λ W y j.
      append_ends (make x y) W j.formed j.fits (low (length W) x y (omega (arith, g.low, grows_length j.grows)) j.low) (plain x y)

  pub prime_ends : (s : Shape) (T : Table) → Formed D T → length T ≤ room → Within (length T) s → Ends (Grew D room T) (Full n) (prime room n s T)
  unfolding prime Within name_of
  prime_ends (empty e) T F h w = gives (grew_none F h w)
  prime_ends (string e) T F h w = gives (grew_none F h w)
  prime_ends (element e l c) T F h w = gives (grew_none F h w.0)
  prime_ends (pair s t) T F h w = both_ends Types.union (λ k a b. Formed.union) (λ a b. refl) (prime_ends s T F h w.0) (λ U g K j. prime_ends t U K j (within_more t g w.1))
  prime_ends (union s t) T F h w = both_ends Types.union (λ k a b. Formed.union) (λ a b. refl) (prime_ends s T F h w.0) (λ U g K j. prime_ends t U K j (within_more t g w.1))
  prime_ends (star s) T F h w = prime_ends s T F h w
  prime_ends (plus s) T F h w = prime_ends s T F h w
  prime_ends (opt s) T F h w = prime_ends s T F h w
  prime_ends (name s) T F h w = prime_ends s T F h w

  zero_ends : (T : Table) → Formed D T → length T ≤ room → Ends (Grew D room T) (Full n) (ok (T, 0))
  zero_ends T F h = gives (grew_none {e = 0} F h (omega (arith, F.two)))

  pub content_ends : (s : Shape) (T : Table) → Formed D T → length T ≤ room → Within (length T) s → Ends (Grew D room T) (Full n) (content room n s T)
  unfolding content Within name_of
  content_ends (empty e) T F h w = zero_ends T F h
  content_ends (string e) T F h w = zero_ends T F h
  content_ends (element e l c) T F h w = gives (grew_none F h w.1)
  content_ends (pair s t) T F h w = zero_ends T F h
  content_ends (union s t) T F h w = both_ends Types.union (λ k a b. Formed.union) (λ a b. refl) (content_ends s T F h w.0) (λ U g K j. content_ends t U K j (within_more t g w.1))
  content_ends (star s) T F h w = zero_ends T F h
  content_ends (plus s) T F h w = zero_ends T F h
  content_ends (opt s) T F h w = zero_ends T F h
  content_ends (name s) T F h w = zero_ends T F h

  kept_ends : (b : Bool) (e : ℕ) (T : Table) → Formed D T → length T ≤ room → e < length T → Ends (Grew D room T) (Full n) (ok (T, cond b e 0))
  kept_ends true e T F h l = gives (grew_none F h l)
  kept_ends false e T F h l = zero_ends T F h

  pub sift_ends : (w : ℕ) (s : Shape) (T : Table) → Formed D T → length T ≤ room → Within (length T) s → Ends (Grew D room T) (Full n) (sift room n w s T)
  unfolding sift Within name_of
  sift_ends w (empty e) T F h i = gives (grew_none F h i)
  sift_ends w (string e) T F h i = kept_ends (passes w text) e T F h i
  sift_ends w (element e l c) T F h i = kept_ends (passes w (label l)) e T F h i.0
  sift_ends w (pair s t) T F h i = both_ends Types.pair (λ k a b. Formed.pair) (λ a b. refl) (sift_ends w s T F h i.0) (λ U g K j. sift_ends w t U K j (within_more t g i.1))
  sift_ends w (union s t) T F h i = both_ends Types.union (λ k a b. Formed.union) (λ a b. refl) (sift_ends w s T F h i.0) (λ U g K j. sift_ends w t U K j (within_more t g i.1))
  sift_ends w (star s) T F h i = one_ends Types.star (λ k a. Formed.star) (λ a. refl) (sift_ends w s T F h i)
  sift_ends w (plus s) T F h i = one_ends Types.plus (λ k a. Formed.plus) (λ a. refl) (sift_ends w s T F h i)
  sift_ends w (opt s) T F h i = one_ends Types.opt (λ k a. Formed.opt) (λ a. refl) (sift_ends w s T F h i)
  sift_ends w (name s) T F h i = sift_ends w s T F h i

  pub filter_ends : (w e : ℕ) (T : Table) → Formed D T → length T ≤ room → e < length T → Ends (Grew D room T) (Full n) (filter room n D w e T)
  unfolding filter
  filter_ends w e T F h l = go (eqb w 0)
    where
      go : (b : Bool) → Ends (Grew D room T) (Full n) (elim b [ true ↦ ok (T, e) | false ↦ sift room n w (shape D T e) T ])
      go true = gives (grew_none F h l)
      go false = sift_ends w (shape D T e) T F h (shape_within F l)

  pub child_rule_ends : (w e : ℕ) (T : Table) → Formed D T → length T ≤ room → e < length T → Ends (Grew D room T) (Full n) (child_rule room n D w e T)
  unfolding child_rule
  child_rule_ends w e T F h l = grew_after (content_ends (shape D T e) T F h (shape_within F l)) λ U c g. filter_ends w c U g.formed g.fits g.low

  pub times_ends : (u : ℕ) (q : Class) (T : Table) → Formed D T → length T ≤ room → u < length T → Ends (Grew D room T) (Full n) (times room n u q T)
  unfolding times name_of
  times_ends u one T F h l = gives (grew_none F h l)
  times_ends u maybe T F h l = append_ends (Types.opt u) T F h (Formed.opt l) refl
  times_ends u more T F h l = append_ends (Types.plus u) T F h (Formed.plus l) refl
  times_ends u any T F h l = append_ends (Types.star u) T F h (Formed.star l) refl

  pub unions_ends : (x : ℕ) (xs : List ℕ) (T : Table) → Formed D T → length T ≤ room → x < length T → ((i : ℕ) → In i xs → i < length T) → Ends (Grew D room T) (Full n) (unions room n x xs T)
  unfolding unions name_of
  unions_ends x [] T F h l k = gives (grew_none F h l)
  unions_ends x (y ∷ ys) T F h l k =
      grew_after (append_ends (Types.union x y) T F h (Formed.union l (k y first)) refl) λ U u g.
      unions_ends u ys U g.formed g.fits g.low (λ i j. omega (arith, k i (later j), grows_length g.grows))

  pub star_of_ends : (xs : List ℕ) (T : Table) → Formed D T → length T ≤ room → ((i : ℕ) → In i xs → i < length T) → Ends (Grew D room T) (Full n) (star_of room n xs T)
  unfolding star_of name_of
  star_of_ends [] T F h k = zero_ends T F h
  star_of_ends (x ∷ xs) T F h k = one_ends Types.star (λ k a. Formed.star) (λ a. refl) (unions_ends x xs T F h (k x first) (λ i j. k i (later j)))

  pub dos_rule_ends : (w e : ℕ) (T : Table) → Formed D T → length T ≤ room → Ends (Grew D room T) (Full n) (dos_rule room n D w e T)
  unfolding dos_rule
  dos_rule_ends w e T F h = star_of_ends (atoms_below w D T e) T F h (atoms_low w D T e)

-- THE WALK. Its refusals: 13 to 16, at a node that has the property P
pub record Late (P : ℕ → Type 0) (k p : ℕ) : Type 0 where
  pub from : 13 ≤ k
  pub to : k ≤ 16
  pub node : P p

-- the types of the variables in scope stand in the table
abbrev pub Scoped : Table → Scope → Type 0
Scoped T g = (v : ℕ) (x : Var) → find v g ≡ some x → type_in x < length T

-- the answer of a step of the walk
abbrev pub Grown : Defs → ℕ → State → State × ℕ → Type 0
Grown D room s r = Grew D room s.types (r.0.types, r.1)

pub scoped_grows : {T U : Table} (g : Scope) → Grows T U → Scoped T g → Scoped U g
scoped_grows g h k v x e = omega (arith, k v x e, grows_length h)

pub scoped_bind : (T : Table) (g : Scope) (v : ℕ) (x : Var) → Scoped T g → type_in x < length T → Scoped T ((v, x) ∷ g)
unfolding find
scoped_bind T g v x k l w y = go (eqb w v)
  where
    go : (b : Bool) → elim b [ true ↦ some x | false ↦ find w g ] ≡ some y → type_in y < length T
    go true e = let q : x ≡ y = cc in rw (← q) l
    go false e = k w y e

module _ (P : ℕ → Type 0) where
  late : (k n : ℕ) → 13 ≤ k → k ≤ 16 → P n → Late P k n
  late k n h l p = record { from = h; to = l; node = p }

  pub full_late : {A : Type 0} {Q : A → Type 0} {m : Out A} {n : ℕ} → P n → Ends Q (Full n) m → Ends Q (Late P) m
  full_late p h = ends_by h (λ k j e. late k j (omega arith) (omega arith) (rw e.1 p))

  lookup_ends : (n v : ℕ) (T : Table) (g : Scope) → P n → Scoped T g → Ends (λ x. type_in x < length T) (Late P) (lookup n g v)
  lookup_ends n v T g p k = ends_map (ends_given (find v g) 13 n (late 13 n (omega arith) (omega arith) p)) (k v)

  tree_ends : (n v : ℕ) (T : Table) (g : Scope) → P n → Scoped T g → Ends (λ e. e < length T) (Late P) (tree_type n g v)
  tree_ends n v T g p k = ends_bind (lookup_ends n v T g p k) only
    where
      only : (x : Var) → type_in x < length T → Ends (λ e. e < length T) (Late P) (only_tree n x)
      only (tree e) l = gives l
      only (forest e) l = stops (late 15 n (omega arith) (omega arith) p)

  unbound_ends : (n v : ℕ) (g : Scope) → P n → Ends Any (Late P) (unbound n g v)
  unbound_ends n v g p = ends_map (ends_require (not (is_some (find v g))) 14 n (late 14 n (omega arith) (omega arith) p)) (λ _ _. tt)

  pub cond_ends : (c : Cond) (T : Table) (g : Scope) → Scoped T g → InCond P c → Ends Any (Late P) (type_cond c g)
  unfolding type_cond InCond
  cond_ends (Queries.always n) T g k p = gives tt
  cond_ends (Queries.never n) T g k p = gives tt
  cond_ends (Queries.equal n v w) T g k p = ends_bind (lookup_ends n v T g p k) λ x h. ends_bind (lookup_ends n w T g p k) λ y j. gives tt
  cond_ends (Queries.empty n v) T g k p = ends_bind (lookup_ends n v T g p k) λ x h. gives tt
  cond_ends (Queries.or n c d) T g k p = ends_bind (cond_ends c T g k p.1) λ x h. cond_ends d T g k p.2
  cond_ends (Queries.not n c) T g k p = cond_ends c T g k p.1

module _ (room : ℕ) (D : Defs) (most : room ≤ 4096) (P : ℕ → Type 0) where
  -- a rule on the state's table, and a step after another
  leaving_ends : {s : State} {n : ℕ} {m : Out (Table × ℕ)} → P n → Ends (Grew D room s.types) (Full n) m → Ends (Grown D room s) (Late P) (leaving s m)
  leaving_ends {s} p h = ends_leaving s (full_late P p h)

  then_ends : {s : State} {m : Out (State × ℕ)} {f : ℕ → Walk ℕ} → Ends (Grown D room s) (Late P) m
      → ((u : State) (x : ℕ) → Grown D room s (u, x) → Ends (Grown D room u) (Late P) (f x u)) → Ends (Grown D room s) (Late P) (after m f)
  then_ends h k = ends_after h λ u x g. ends_map (k u x g) (λ r j. grew_on g.grows j)

  -- FOR, whatever its body does
  pub for_rule_ends : (n e : ℕ) (body : ℕ → Walk ℕ) (s : State) → P n → Formed D s.types → length s.types ≤ room → e < length s.types
      → ((u : State) (x : ℕ) → Grown D room s (u, x) → Ends (Grown D room u) (Late P) (body x u)) → Ends (Grown D room s) (Late P) (for_rule room D n e body s)
  unfolding for_rule
  for_rule_ends n e body s p F h l k =
      let shaped = shape D s.types e in
      then_ends (leaving_ends p (prime_ends D room most n shaped s.types F h (shape_within F l))) λ u x g.
      then_ends (k u x g) λ w y j. leaving_ends p (times_ends D room most n y (quant shaped) w.types j.formed j.fits j.low)

  pub type_ends : (q : Query) (g : Scope) (s : State) → Formed D s.types → length s.types ≤ room → Scoped s.types g → Labels q → InQuery P q
      → Ends (λ r. Grew D room s.types (r.0.types, r.1)) (Late P) (type_of room D q g s)
  unfolding type_of Labels InQuery name_of
  type_ends (Queries.nothing n) g s F h k l p = gives (grew_none {e = 0} F h (omega (arith, F.two)))
  type_ends (Queries.text n t) g s F h k l p = gives (grew_none {e = 1} F h (omega (arith, F.two)))
  type_ends (Queries.element n i q) g s F h k l p =
      then_ends (type_ends q g s F h k l.2 p.1) λ u x a. leaving_ends p.0 (append_ends D room most n (Types.element i x) u.types a.formed a.fits (Formed.element l.0 l.1 a.low) refl)
  type_ends (Queries.pair n q r) g s F h k l p =
      then_ends (type_ends q g s F h k l.0 p.1) λ u x a. then_ends (type_ends r g u a.formed a.fits (scoped_grows g a.grows k) l.1 p.2) λ w y b.
      leaving_ends p.0 (append_ends D room most n (Types.pair x y) w.types b.formed b.fits (Formed.pair (omega (arith, a.low, grows_length b.grows)) b.low) refl)
  type_ends (Queries.variable n v) g s F h k l p = ends_from_lem s _ (lookup_ends P n v s.types g p k) λ x j. gives (grew_none F h j)
  type_ends (Queries.child n v w) g s F h k l p = ends_from_lem s _ (tree_ends P n v s.types g p k) λ e j. leaving_ends p (child_rule_ends D room most n w e s.types F h j)
  type_ends (Queries.dos n v w) g s F h k l p = ends_from_lem s _ (tree_ends P n v s.types g p k) λ e j. leaving_ends p (dos_rule_ends D room most n w e s.types F h)
  type_ends (Queries.for n v q r) g s F h k l p =
      then_ends (type_ends q g s F h k l.0 p.1) λ u e a. ends_from_lem u _ (unbound_ends P n v g p.0) λ _ _.
      for_rule_ends n e (λ x. type_of room D r ((v, tree x) ∷ g)) u p.0 a.formed a.fits a.low λ w x b.
      type_ends r ((v, tree x) ∷ g) w b.formed b.fits (scoped_bind w.types g v (tree x) (scoped_grows g (grows_trans a.grows b.grows) k) b.low) l.1 p.2
  type_ends (Queries.let_in n v q r) g s F h k l p =
      then_ends (type_ends q g s F h k l.0 p.1) λ u e a. ends_from_lem u _ (unbound_ends P n v g p.0) λ _ _.
      type_ends r ((v, forest e) ∷ g) u a.formed a.fits (scoped_bind u.types g v (forest e) (scoped_grows g a.grows k) a.low) l.1 p.2
  type_ends (Queries.when n c q) g s F h k l p =
      ends_from_lem s _ (cond_ends P c s.types g k p.1) λ _ _. then_ends (type_ends q g s F h k l p.2) λ u x a.
      leaving_ends p.0 (append_ends D room most n (Types.opt x) u.types a.formed a.fits (Formed.opt a.low) refl)
