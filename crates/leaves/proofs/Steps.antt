-- The walk of a query without parts: what it answers by what is found in the scope, and that the code's answer is that.
-- Assumes nothing.
use Rattle.std.specs.Prelude as Std
use Rattle.std.specs.Prelude.{Result}
use mathlib.Core.Path.{◌≡◌, refl, sym, ap, ◌∙◌}
use mathlib.Core.List.{List}
use mathlib.Core.Option.{Option, none, some}
use Prim.Native.Nat.{ℕ, ◌≤◌, ◌<◌}
use native.Mathlib.Omega.{arith}
use lib.ListN.{length}
use Rattle.meaning.specs.Base.{Out, ok, refused, given, find, type_capacity}
use Rattle.meaning.specs.Base as Base
use Rattle.meaning.specs.Types.{Table, Defs}
use Rattle.meaning.specs.Records as Records
use Rattle.meaning.specs.Records.{type_in}
use Rattle.meaning.specs.Queries as Queries
use Rattle.meaning.specs.Rules.{Rule, after, answer, from_out, child_rule, dos_rule}
use Rattle.meaning.specs.Typing as Typing
use Rattle.meaning.specs.Typing.{State, leaving, on_types, lookup, tree_type, type_of}
use Rattle.words.specs.Tables.{table_of}
use Rattle.words.proofs.Tables.{table_length}
use Rattle.scope.specs.declared.Scope.{Scope}
use Rattle.refusals.specs.declared.Refusal.{Refusal}
use Rattle.refusals.specs.Says.{number_of}
use Rattle.conds.specs.Says.{Answers}
use Rattle.conds.proofs.Told.{shown, shows_shown, variable_found, tree_found}
use Rattle.grow.specs.Grow.{Left}
use Rattle.grow.specs.declared.Made.{Made}
use Rattle.grow.proofs.Steps.{left_here}
use Rattle.leaves.specs.Walk.{tabled, walked, Begins, Walks}

-- A RULE on the type table is the same rule as a step of the walk
pub tabled_leaving : (s : State) (x : Out (Table × ℕ)) → tabled (leaving s x) ≡ x
tabled_leaving s (ok r) = refl
tabled_leaving s (refused n place) = refl

-- a rule for the entry that a tree variable has, or the refusal in its place
abbrev tree_step : (ℕ → Rule ℕ) → Table → Out ℕ → Out (Table × ℕ)
tree_step f T o = tabled (after (from_out o (record { types = T })) (λ e. on_types (f e)))

tree_ok : (f : ℕ → Rule ℕ) (T : Table) {o : Out ℕ} {e : ℕ} → o ≡ ok e → tree_step f T o ≡ f e T
tree_ok f T {e = e} p = ap (tree_step f T) p ∙ tabled_leaving (record { types = T }) (f e T)

tree_refused : (f : ℕ → Rule ℕ) (T : Table) {o : Out ℕ} {k place : ℕ} → o ≡ refused k place → tree_step f T o ≡ refused k place
tree_refused f T p = ap (tree_step f T) p

-- an entry of a table that stays as it is, or a refusal
abbrev pub here : Table → Out ℕ → Out (Table × ℕ)
here T (ok e) = ok (T, e)
here T (refused n place) = refused n place

here_given : (o : Option Records.Var) (n : ℕ) (T : Table)
    → tabled (after {S = State} (from_out (given o 13 n) (record { types = T })) (λ x. answer (type_in x))) ≡ here T (Base.◌>>=◌ (given o 13 n) (λ y. ok (type_in y)))
here_given none n T = refl
here_given (some x) n T = refl

-- THE WALK of each
module _ (room : ℕ) (D : Defs) (n : ℕ) (g : Typing.Scope) (T : Table) where
  pub walked_nothing : walked room D (Queries.nothing n) g T ≡ ok (T, 0)
  unfolding walked type_of
  walked_nothing = refl

  pub walked_text : (t : ℕ) → walked room D (Queries.text n t) g T ≡ ok (T, 1)
  unfolding walked type_of
  walked_text t = refl

  pub walked_variable : (v : ℕ) → walked room D (Queries.variable n v) g T ≡ here T (Base.◌>>=◌ (lookup n g v) (λ y. ok (type_in y)))
  unfolding walked type_of
  walked_variable v = here_given (find v g) n T

  module _ (v w : ℕ) where
    pub walked_child : {e : ℕ} → tree_type n g v ≡ ok e → walked room D (Queries.child n v w) g T ≡ child_rule room n D w e T
    unfolding walked type_of
    walked_child p = tree_ok (child_rule room n D w) T p

    pub child_refused : {k place : ℕ} → tree_type n g v ≡ refused k place → walked room D (Queries.child n v w) g T ≡ refused k place
    unfolding walked type_of
    child_refused p = tree_refused (child_rule room n D w) T p

    pub walked_dos : {e : ℕ} → tree_type n g v ≡ ok e → walked room D (Queries.dos n v w) g T ≡ dos_rule room n D w e T
    unfolding walked type_of
    walked_dos p = tree_ok (dos_rule room n D w) T p

    pub dos_refused : {k place : ℕ} → tree_type n g v ≡ refused k place → walked room D (Queries.dos n v w) g T ≡ refused k place
    unfolding walked type_of
    dos_refused p = tree_refused (dos_rule room n D w) T p

-- WHAT IS LEFT, by the answer's equation
pub left_as : {D : Defs} {ws us cs ds : List ℕ} {r : Result Made Refusal} {x y : Out (Table × ℕ)} → Left D ws us cs ds r x → x ≡ y → Left D ws us cs ds r y
left_as g q = record { answer = g.answer ∙ q; long = g.long; longs = g.longs; ready = g.ready }

pub left_refused : {D : Defs} {ws cs : List ℕ} {r : Refusal} {y : Out (Table × ℕ)} → y ≡ refused (number_of r.reason) r.place → Left D ws ws cs cs (Std.Err r) y
left_refused q = record { answer = sym q; long = refl; longs = refl; ready = tt }

-- () AND TEXT: entries 0 and 1 are there
module _ {D : Defs} {ws cs : List ℕ} {count : ℕ} {s : Scope} (n : ℕ) (B : Begins D ws cs count s) where
  pub nothing_walks : Walks D ws ws cs cs count (Queries.nothing n) s (Std.Ok (record { at = 0; count = count }))
  nothing_walks =
      let R = B.ready in
      let low : 0 < count = omega (arith, R.formed.two, table_length ws count) in
      record { is = λ g h. left_as (left_here R low) (sym (walked_nothing (type_capacity (length ws)) D n g (table_of ws count))) }

  pub text_walks : (t : ℕ) → Walks D ws ws cs cs count (Queries.text n t) s (Std.Ok (record { at = 1; count = count }))
  text_walks t =
      let R = B.ready in
      let low : 1 < count = omega (arith, R.formed.two, table_length ws count) in
      record { is = λ g h. left_as (left_here R low) (sym (walked_text (type_capacity (length ws)) D n g (table_of ws count) t)) }

-- A VARIABLE: an entry that is found in the scope is one of the table
module _ {D : Defs} {ws cs : List ℕ} {count : ℕ} {s : Scope} (n v : ℕ) (B : Begins D ws cs count s) (l : v ≤ 63) where
  variable_low : {e : ℕ} → Answers s (ok e) (λ g. Base.◌>>=◌ (lookup n g v) (λ y. ok (type_in y))) → e < count
  variable_low {e} a =
      let low : v < 64 = omega arith in
      let y = variable_found n v (shown s) a (shows_shown s) in
      let m : type_in y.0 < count = B.within.low v y.0 low (shows_shown s v low ∙ y.1.0) in
      omega (arith, y.1.1)

  pub tree_low : {e : ℕ} → Answers s (ok e) (λ g. tree_type n g v) → e < count
  tree_low {e} a =
      let low : v < 64 = omega arith in
      B.within.low v (Records.tree e) low (shows_shown s v low ∙ tree_found n v (shown s) a (shows_shown s))

  pub variable_walks : {e i : ℕ} → Answers s (ok e) (λ g. Base.◌>>=◌ (lookup n g v) (λ y. ok (type_in y))) → i ≡ e → Walks D ws ws cs cs count (Queries.variable n v) s (Std.Ok (record { at = i; count = count }))
  variable_walks {e} {i} a p =
      let T = table_of ws count in
      let low : i < count = omega (arith, p, variable_low a) in
      record { is = λ g h. left_as (left_here B.ready low) (ap (λ (j : ℕ). ok (T, j)) p ∙ ap (here T) (a.is g h) ∙ sym (walked_variable (type_capacity (length ws)) D n g T v)) }

pub variable_stops : {D : Defs} {ws cs : List ℕ} {count : ℕ} {s : Scope} (n v : ℕ) {r : Refusal} → Answers s (refused (number_of r.reason) r.place) (λ g. Base.◌>>=◌ (lookup n g v) (λ y. ok (type_in y)))
    → Walks D ws ws cs cs count (Queries.variable n v) s (Std.Err r)
variable_stops {D} {ws} {cs} {count} n v a =
    let T = table_of ws count in
    record { is = λ g h. left_refused (walked_variable (type_capacity (length ws)) D n g T v ∙ ap (here T) (sym (a.is g h))) }

-- CHILD AND DOS: the refusal, or the rule for the entry
module _ {D : Defs} {ws cs : List ℕ} (count : ℕ) {s : Scope} (n v w : ℕ) where
  module _ {r : Refusal} (a : Answers s (refused (number_of r.reason) r.place) (λ g. tree_type n g v)) where
    pub child_stops : Walks D ws ws cs cs count (Queries.child n v w) s (Std.Err r)
    child_stops = record { is = λ g h. left_refused (child_refused (type_capacity (length ws)) D n g (table_of ws count) v w (sym (a.is g h))) }

    pub dos_stops : Walks D ws ws cs cs count (Queries.dos n v w) s (Std.Err r)
    dos_stops = record { is = λ g h. left_refused (dos_refused (type_capacity (length ws)) D n g (table_of ws count) v w (sym (a.is g h))) }

  module _ {us ds : List ℕ} {e i : ℕ} {r : Result Made Refusal} (a : Answers s (ok e) (λ g. tree_type n g v)) (p : i ≡ e) where
    pub child_walks : Left D ws us cs ds r (child_rule (type_capacity (length ws)) n D w i (table_of ws count)) → Walks D ws us cs ds count (Queries.child n v w) s r
    child_walks left =
        let room = type_capacity (length ws) in
        let T = table_of ws count in
        record { is = λ g h. left_as left (ap (λ (j : ℕ). child_rule room n D w j T) p ∙ sym (walked_child room D n g T v w (sym (a.is g h)))) }

    pub dos_walks : Left D ws us cs ds r (dos_rule (type_capacity (length ws)) n D w i (table_of ws count)) → Walks D ws us cs ds count (Queries.dos n v w) s r
    dos_walks left =
        let room = type_capacity (length ws) in
        let T = table_of ws count in
        record { is = λ g h. left_as left (ap (λ (j : ℕ). dos_rule room n D w j T) p ∙ sym (walked_dos room D n g T v w (sym (a.is g h)))) }
