-- What reading a job or an answer file accepts: a formed type table, variables of types that it has, and a query that is a tree.
-- Assumes nothing.
use mathlib.Core.Path.{◌≡◌, refl, ap, sym, ◌∙◌}
use mathlib.Core.Bool.{Bool, true, false, not}
use mathlib.Core.List.{List, [], ◌∷◌}
use mathlib.Core.Option.{Option, none, some}
use Prim.Native.Nat.{ℕ, zero, suc, ◌-◌, ◌^◌, ◌≤◌, ◌<◌}
use native.Mathlib.Omega.{arith}
use borrow.Author.Tests.{leb-false, ltb-true, eqb-true, not-true, not-false}
use lib.Dec.{ltb}
use lib.ListN.{length, get_elem?}
use Rattle.meaning.specs.Base.{find, lowest, count, At, Caps}
use Rattle.meaning.specs.Types as Types
use Rattle.meaning.specs.Types.{Entry, Table, Defs, name_of}
use Rattle.meaning.specs.Reach.{loops}
use Rattle.meaning.specs.Formed.{Formed, NodeLow, TypesRead, DefsRead, VarsRead}
use Rattle.meaning.specs.Shapes.{shape, is_atoms}
use Rattle.meaning.specs.Records as Records
use Rattle.meaning.specs.Records.{Var, Node, node_at, is_condition, Tables}
use Rattle.meaning.specs.Checks.{has_root, check_root, is_undefined, undefined_name, check_types, is_tangled, tangled, check_vars, uses, misused, check_uses, check_job, read_job}
use Rattle.meaning.specs.Records.{type_in}
use Rattle.meaning.specs.Answers.{read_answer}
use Rattle.meaning.proofs.Lists.{absurd_option, both_true, at_low, at_get_or}
use Rattle.meaning.proofs.Ends.{Ends, gives, ends_bind, ends_map, ends_by, ends_require, ends_given, ends_refuse_at}
use Rattle.meaning.proofs.Searches.{lowest_none, lowest_at}
use Rattle.meaning.proofs.Finding.{find_at}
use Rattle.meaning.proofs.Reading.{Small, weight_bound, reads}
use Rattle.meaning.proofs.Guard.{unlooped_guarded}

-- an accepted job's tables
pub record Accepted (caps : Caps) (t : Tables) : Type 0 where
  pub formed : Formed t.defs t.types
  pub fits : length t.types ≤ caps.types
  pub trees : (v e : ℕ) → find v t.vars ≡ some (Records.tree e) → is_atoms (shape t.defs t.types e) ≡ true
  pub scoped : (v : ℕ) (x : Var) → find v t.vars ≡ some x → type_in x < length t.types
  pub vars : VarsRead (length t.types) t.vars
  pub few_code : length t.code ≤ caps.code
  pub nodes : (n : ℕ) (x : Node) → At t.code n x → NodeLow t.code n x
  pub rooted : 0 < length t.code
  pub root : is_condition (node_at t.code (length t.code - 1)).kind ≡ false
  pub once : (q : ℕ) → q < length t.code - 1 → count q (uses t.code) ≡ 1

-- 8
root_holds : (n : ℕ) (code : List Node) → Ends (λ _. (0 < length code) × (is_condition (node_at code (length code - 1)).kind ≡ false)) (λ k p. (k ≡ 8) × (p ≡ n)) (check_root n code)
unfolding check_root
root_holds n code =
    ends_map (ends_require (has_root code) 8 n (refl, refl)) λ _ h.
    let both = both_true (ltb 0 (length code)) (not (is_condition (node_at code (length code - 1)).kind)) h in
    (ltb-true _ _ both.0, not-true _ both.1)

-- 9: names are defined
names_defined : (D : Defs) (T : Table) → lowest (undefined_name D T) (length T) ≡ none → (e d : ℕ) → At T e (Types.name d) → d < length D
unfolding name_of
names_defined D T h e d p =
    leb-false _ _ (sym (ap (λ (x : Entry). is_undefined D (name_of x)) (at_get_or p Types.empty)) ∙ lowest_none (undefined_name D T) (length T) h e (at_low p))

-- 11: tree variables are unions of atoms
module _ (D : Defs) (T : Table) where
  untangled_here : (r : ℕ × Var) (o : Option ℕ) (c : Bool) → ◌≡◌ {A = Option ℕ} (elim c as (λ _. Option ℕ) [ true ↦ some r.0 | false ↦ o ]) none → (c ≡ false) × (o ≡ none)
  untangled_here r o true h = absurd_option (sym h)
  untangled_here r o false h = (refl, h)

  untangled : (vars : List (ℕ × Var)) → tangled D T vars ≡ none → (i v : ℕ) (x : Var) → get_elem? vars i ≡ some (v, x) → is_tangled D T x ≡ false
  unfolding tangled
  untangled [] h i v x p = absurd_option p
  untangled (r ∷ vars) h zero v x p =
      let same : r ≡ (v, x) = cc in
      ap (λ (r : ℕ × Var). is_tangled D T r.1) (sym same) ∙ (untangled_here r (tangled D T vars) (is_tangled D T r.1) h).0
  untangled (r ∷ vars) h (suc i) v x p = untangled vars (untangled_here r (tangled D T vars) (is_tangled D T r.1) h).1 i v x p

  abbrev Declared : List (ℕ × Var) → ℕ → Type 0
  Declared vars v = (i : ℕ) × (x : Var) × At vars i (v, x)

  tangled_here : (r : ℕ × Var) (vars : List (ℕ × Var)) (v : ℕ) (o : Option ℕ) (c : Bool) → (elim c as (λ _. Option ℕ) [ true ↦ some r.0 | false ↦ o ]) ≡ some v → (o ≡ some v → Declared vars v) → Declared (r ∷ vars) v
  tangled_here r vars v o true h k = let same : r.0 ≡ v = cc in (0, r.1, record { is = λ i. some (same i, r.1) })
  tangled_here r vars v o false h k = let d = k h in (suc d.0, d.1, record { is = d.2.is })

  tangled_declared : (vars : List (ℕ × Var)) (v : ℕ) → tangled D T vars ≡ some v → Declared vars v
  unfolding tangled
  tangled_declared [] v h = absurd_option h
  tangled_declared (r ∷ vars) v h = tangled_here r vars v (tangled D T vars) (is_tangled D T r.1) h (tangled_declared vars v)

  vars_atoms : {n : ℕ} (vars : List (ℕ × Var)) → VarsRead n vars → Ends (λ _. (v e : ℕ) → find v vars ≡ some (Records.tree e) → is_atoms (shape D T e) ≡ true) (λ k p. (k ≡ 11) × (p ≤ 63)) (check_vars D T vars)
  unfolding check_vars
  vars_atoms vars h =
      ends_map (ends_refuse_at 11 (tangled D T vars) (λ p q. let d = tangled_declared vars p q in (refl, h.low d.0 p d.1 d.2))) λ _ q v e f.
      let d = find_at v vars (Records.tree e) f in
      not-false _ (untangled vars q d.0 v (Records.tree e) d.1.is)

-- 12: the query is a tree
uses_once : (code : List Node) → Ends (λ _. (q : ℕ) → q < length code - 1 → count q (uses code) ≡ 1) (λ k p. (k ≡ 12) × (p < length code)) (check_uses code)
unfolding check_uses
uses_once code =
    ends_map (ends_refuse_at 12 (lowest (misused code) (length code - 1)) (λ p e. (refl, omega (arith, (lowest_at (misused code) (length code - 1) p e).0)))) λ _ h q l.
    eqb-true _ _ (not-false _ (lowest_none (misused code) (length code - 1) h q l))

-- 9 and 10: the type table is formed
pub types_formed : {room : ℕ} {D : Defs} {T : Table} → room ≤ 4096 → TypesRead room T → DefsRead (length T) D → Ends (λ _. Formed D T) (λ n p. (9 ≤ n) × (n ≤ 10) × (p < 4096)) (check_types D T)
unfolding check_types
types_formed {D = D} {T = T} small t d =
    ends_bind (ends_refuse_at 9 (lowest (undefined_name D T) (length T)) (λ p e. (omega arith, omega arith, omega (arith, t.fits, (lowest_at (undefined_name D T) (length T) p e).0)))) λ _ named.
    ends_map (ends_refuse_at 10 (lowest (loops D T) (length D)) (λ p e. (omega arith, omega arith, omega (arith, d.few, (lowest_at (loops D T) (length D) p e).0)))) λ _ unlooped.
    record {
      two = t.two;
      few = omega (arith, t.fits);
      zeroth = t.zeroth;
      first = t.first;
      lower = t.lower;
      few_defs = d.few;
      defined = d.defined;
      named = names_defined D T named;
      guarded = unlooped_guarded D T d.defined (lowest_none (loops D T) (length D) unlooped);
    }

pub accepts : {caps : Caps} (s : List ℕ) → Small caps → Ends (Accepted caps) (λ n p. (1 ≤ n) × (n ≤ 12) × (p < 2 ^ 32)) (read_job caps s)
unfolding read_job check_job
accepts s small =
    ends_bind (ends_by (reads Records.job s refl small) (λ n p r. (r.0, omega arith, omega arith))) λ t h.
    let r = h.read in
    let place = weight_bound small r in
    ends_bind (ends_by (root_holds (length s) t.code) (λ n p q. (omega arith, omega arith, omega (arith, h.all)))) λ _ rooted.
    ends_bind (ends_by (types_formed small.types r.types r.defs) (λ n p q. (omega arith, omega arith, omega arith))) λ _ formed.
    ends_bind (ends_by (vars_atoms t.defs t.types t.vars r.vars) (λ n p q. (omega arith, omega arith, omega arith))) λ _ trees.
    ends_bind (ends_by (uses_once t.code) (λ n p q. (omega arith, omega arith, omega (arith, r.code.few, small.code)))) λ _ once.
    gives (record {
      formed = formed;
      fits = r.types.fits;
      trees = trees;
      scoped = λ v x e. let d = find_at v t.vars x e in r.vars.scoped d.0 v x d.1;
      vars = r.vars;
      few_code = r.code.few;
      nodes = r.code.nodes;
      rooted = rooted.0;
      root = rooted.1;
      once = once;
    })

pub back_accepts : {caps : Caps} (s : List ℕ) → Small caps → Ends (λ b. Formed b.tables.defs b.tables.types × (b.result < length b.tables.types) × (length b.tables.types ≤ caps.types)) (λ n p. (1 ≤ n) × (n ≤ 10) × (n ≡ 7 → ⊥) × (p < 2 ^ 32)) (read_answer caps s)
unfolding read_answer
back_accepts s small =
    ends_bind (ends_by (reads Records.answer s refl small) (λ n p r. (r.0, omega arith, (λ e. omega arith), omega arith))) λ t h.
    let r = h.read in
    let place = weight_bound small r in
    ends_bind (ends_given t.result 8 (length s) (omega arith, omega arith, (λ e. omega arith), omega (arith, h.all))) λ e is.
    ends_bind (ends_by (types_formed small.types r.types r.defs) (λ n p q. (omega arith, omega arith, (λ e. omega arith), omega arith))) λ _ formed.
    gives (formed, r.result e is, r.types.fits)
