-- The operations whole: which refusals each gives, with every place below 2^32; more capacity changes no accepted answer; and what an accepted
-- typing is.
-- Assumes nothing.
use mathlib.Core.Path.{◌≡◌, refl, ap}
use mathlib.Core.Bool.{true}
use mathlib.Core.List.{List}
use Prim.Native.Nat.{ℕ, ◌-◌, ◌^◌, ◌≤◌, ◌<◌}
use native.Mathlib.Omega.{arith}
use lib.Dec.{leb}
use lib.ListN.{length, take}
use borrow.Author.Tests.{leb-true, le-leb}
use Rattle.meaning.specs.Base.{Out, ok, refused, ◌>>=◌, Caps}
use Rattle.meaning.specs.Shapes.{Shape, empty, string, element, pair, union, star, plus, opt, name, shape, is_atoms}
use Rattle.meaning.specs.Records.{tree, forest, Tables}
use Rattle.meaning.specs.Checks.{read_job}
use Rattle.meaning.specs.Typing.{State, Typed, typed_as, root, type_of, type_tables, type_job}
use Rattle.meaning.specs.Answers.{answer_file, fitted, answer_job, read_answer}
use Rattle.meaning.specs.Running.{run_job}
use Rattle.meaning.proofs.Lists.{never, both_true}
use Rattle.meaning.proofs.Ends.{Ends, gives, stops, ends_bind, ends_map, ends_by, ends_require, Keeps, kept, free, keeps_bind, keeps_require}
use Rattle.meaning.proofs.Nodes.{InQuery}
use Rattle.meaning.proofs.Labels.{Labels}
use Rattle.meaning.proofs.Shapes.{shape_shaped}
use Rattle.meaning.proofs.Reading.{Small}
use Rattle.meaning.proofs.Accepting.{Accepted, accepts, back_accepts}
use Rattle.meaning.proofs.Codes.{query_nodes_lem, query_labels}
use Rattle.meaning.proofs.Larger.{read_keeps}
use Rattle.meaning.proofs.Prefix.{prefix_job}
use Rattle.meaning.proofs.FileLength.{file_short}
use Rattle.meaning.proofs.Grow.{Grown, type_ends}
use Rattle.meaning.proofs.Roomier.{type_keeps}
use Rattle.meaning.proofs.Values.{Bytes, load_ends, load_keeps}
use Rattle.meaning.proofs.Running.{eval_ends, eval_keeps}
use Rattle.meaning.proofs.RuleMembers.{Flat}
use Rattle.meaning.proofs.Sound.{Trees, Ready}

-- a refusal that the list has, between two numbers, at a place that 32 bits hold
pub record Listed (from to n p : ℕ) : Type 0 where
  pub least : from ≤ n
  pub most : n ≤ to
  pub place : p < 2 ^ 32

-- READING A JOB: 1 to 12
pub read_refuses : {caps : Caps} (s : List ℕ) → Small caps → Ends (Accepted caps) (Listed 1 12) (read_job caps s)
read_refuses s small = ends_by (accepts s small) (λ n p r. record { least = r.0; most = r.1; place = r.2 })

-- READING AN ANSWER FILE: 1 to 6 and 8 to 10
pub back_refuses : {caps : Caps} (s : List ℕ) → Small caps → Ends (λ b. b.result < length b.tables.types) (λ n p. Listed 1 10 n p × (n ≡ 7 → ⊥)) (read_answer caps s)
back_refuses s small = ends_by (ends_map (back_accepts s small) (λ b h. h.1)) (λ n p r. (record { least = r.0; most = r.1; place = r.3 }, r.2))

-- AN ACCEPTED JOB is ready to be typed: its root's nodes are nodes, its labels are labels, its variables are in scope, tree variables flat
module _ {caps : Caps} {t : Tables} (a : Accepted caps t) where
  pub root_nodes : InQuery (λ i. i < length t.code) (root t)
  root_nodes = query_nodes_lem t.code a.nodes (length t.code - 1) (omega (arith, a.rooted))

  pub root_labels : Labels (root t)
  root_labels = query_labels t.code a.nodes (length t.code - 1) (omega (arith, a.rooted))

  atoms_flat : (s : Shape) → is_atoms s ≡ true → Flat s
  unfolding is_atoms Flat
  atoms_flat (empty e) h = tt
  atoms_flat (string e) h = tt
  atoms_flat (element e l c) h = tt
  atoms_flat (pair s u) h = never h
  atoms_flat (union s u) h = let b = both_true (is_atoms s) (is_atoms u) h in (atoms_flat s b.0, atoms_flat u b.1)
  atoms_flat (star s) h = never h
  atoms_flat (plus s) h = never h
  atoms_flat (opt s) h = never h
  atoms_flat (name s) h = never h

  flat_vars : Trees t.defs t.types t.vars
  flat_vars v (tree e) p =
      record { form = shape t.defs t.types e; shaped = shape_shaped t.defs t.types a.formed e (a.scoped v (tree e) p); flat = atoms_flat _ (a.trees v e p) }
  flat_vars v (forest e) p = tt

  pub job_ready : Ready t.defs caps.types t.types t.vars
  job_ready = record { formed = a.formed; fits = a.fits; scoped = a.scoped; trees = flat_vars }

-- TYPING: what reading accepted, grown; refusals 1 to 16
pub record TypedWell (caps : Caps) (r : Typed) : Type 0 where
  pub accepted : Accepted caps r.job
  pub grown : Grown r.job.defs caps.types (record { types = r.job.types }) (r.left, r.result)
  pub is : type_of caps.types r.job.defs (root r.job) r.job.vars (record { types = r.job.types }) ≡ ok (r.left, r.result)

typed_ends : {P : State × ℕ → Type 0} {R : ℕ → ℕ → Type 0} (t : Tables) (o m : Out (State × ℕ)) → o ≡ m → Ends P R m → Ends (λ r. (r.job ≡ t) × P (r.left, r.result) × (o ≡ ok (r.left, r.result))) R (typed_as t m)
typed_ends t o (ok r) e (gives h) = gives (refl, h, e)
typed_ends t o (refused n p) e (stops h) = stops h

pub type_refuses : {caps : Caps} (s : List ℕ) → Small caps → Ends (TypedWell caps) (Listed 1 16) (type_job caps s)
unfolding type_job type_tables
type_refuses {caps} s small =
    ends_bind (ends_by (read_refuses s small) (λ n p r. record { least = r.least; most = omega (arith, r.most); place = r.place })) λ t a.
    ends_map (ends_by
    (typed_ends t _ _ refl (type_ends caps.types t.defs small.types (λ i. i < length t.code) (root t) t.vars (record { types = t.types }) a.formed a.fits a.scoped (root_labels a) (root_nodes a)))
    (λ n p r. record { least = omega (arith, r.from); most = r.to; place = omega (arith, r.node, a.few_code, small.code) })) λ r h.
    record { accepted = rw h.0 a; grown = rw h.0 h.1; is = rw h.0 h.2 }

-- ANSWERING: 1 to 17
pub answer_refuses : {caps : Caps} (room : ℕ) (s : List ℕ) → Small caps → Ends (λ r. TypedWell caps r.typed × (length r.file ≤ room)) (Listed 1 17) (answer_job caps room s)
unfolding answer_job
answer_refuses {caps} room s small =
    ends_bind (ends_by (type_refuses s small) (λ n p r. record { least = r.least; most = omega (arith, r.most); place = r.place })) λ t w.
    ends_bind (fits t w) λ file h. gives (w, h)
  where
    fits : (t : Typed) → TypedWell caps t → Ends (λ file. length file ≤ room) (Listed 1 17) (fitted room (answer_file t.left.types t.job.defs t.result))
    fits t w =
        let file = answer_file t.left.types t.job.defs t.result in
        let short = file_short t.left.types t.job.defs t.result in
        ends_bind (ends_require (leb (length file) room) 17 (length file) (record { least = omega arith; most = omega arith; place = omega (arith, w.grown.fits, w.accepted.formed.few_defs, small.types) })) λ _ h.
        gives (leb-true (length file) room h)

-- RUNNING: 1 to 16 and 18 to 21
pub data Runs (n p : ℕ) : Type 0 where
  as_typing : Listed 1 16 n p → Runs n p
  as_running : Listed 18 21 n p → Runs n p

pub run_refuses : {caps : Caps} (room : ℕ) (s values : List ℕ) → Small caps → Bytes values → Ends (λ r. TypedWell caps r.typed) Runs (run_job caps room s values)
unfolding run_job
run_refuses room s values small bytes =
    ends_bind (ends_by (type_refuses s small) (λ n p r. as_typing r)) λ t w.
    ends_bind (ends_by (load_ends room t.job.vars values bytes w.accepted.vars.few) (λ n p r. as_running (record { least = r.0; most = omega (arith, r.1); place = r.2 }))) λ vs h.
    ends_bind (ends_by (eval_ends (λ i. i < length t.job.code) room (root t.job) _ _ (root_nodes w.accepted)) (λ n p r. as_running (record { least = omega (arith, r.0); most = omega (arith, r.0); place = omega (arith, r.1, w.accepted.few_code, small.code) }))) λ f k.
    gives w

-- MORE ROOM: a job accepted at one capacity is accepted at every larger one, with the same tables, entries, answer and forest
typed_keeps : (t : Tables) {m o : Out (State × ℕ)} → Keeps m o → Keeps (typed_as t m) (typed_as t o)
typed_keeps t kept = kept
typed_keeps t free = free

module _ (caps more : Caps) (types : caps.types ≤ more.types) (code : caps.code ≤ more.code) where
  pub typing_keeps : (s : List ℕ) → Keeps (type_job caps s) (type_job more s)
  unfolding type_job type_tables
  typing_keeps s = keeps_bind (read_keeps caps more types code s) λ t. typed_keeps t (type_keeps caps.types more.types types t.defs (root t) t.vars (record { types = t.types }))

  fitted_keeps : (room wide : ℕ) (file : List ℕ) → room ≤ wide → Keeps (fitted room file) (fitted wide file)
  fitted_keeps room wide file l =
      keeps_bind (keeps_require (leb (length file) room) (leb (length file) wide) 17 (length file) 17 (length file) (λ h. le-leb (length file) wide (omega (arith, leb-true (length file) room h)))) λ _. kept

  pub answering_keeps : (room wide : ℕ) (s : List ℕ) → room ≤ wide → Keeps (answer_job caps room s) (answer_job more wide s)
  unfolding answer_job
  answering_keeps room wide s l =
      keeps_bind (typing_keeps s) λ t. keeps_bind (fitted_keeps room wide (answer_file t.left.types t.job.defs t.result) l) λ file. kept {a = record { typed = t; file = file }}

  pub running_keeps : (room wide : ℕ) (s values : List ℕ) → room ≤ wide → Keeps (run_job caps room s values) (run_job more wide s values)
  unfolding run_job
  running_keeps room wide s values l =
      keeps_bind (typing_keeps s) λ t. keeps_bind (load_keeps t.job.vars values l) λ vs. keeps_bind (eval_keeps l (root t.job) _ _) λ f. kept

-- A LONGER JOB is typed as its first 43,520 bytes are
pub prefix_typing : {caps : Caps} → Small caps → (n : ℕ) → 43520 ≤ n → (s : List ℕ) → type_job caps (take n s) ≡ type_job caps s
unfolding type_job
prefix_typing {caps} small n far s = ap (λ (o : Out Tables). o >>= λ t. type_tables caps.types t) (prefix_job small n far s)
