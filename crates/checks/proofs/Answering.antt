-- The checks one after the other are `check_job`, and what reading leaves is what each of them asks.
-- Assumes nothing.
use mathlib.Core.Path.{◌≡◌, refl, ap, ◌∙◌, subst}
use mathlib.Core.Bool.{Bool, true, false}
use mathlib.Core.List.{List}
use mathlib.Core.Option.{Option}
use Prim.Native.Nat.{ℕ, ◌-◌, ◌≤◌}
use native.Mathlib.Omega.{arith}
use lib.ListN.{length}
use Rattle.meaning.specs.Base.{Out, ok, refused, ◌>>=◌, require, refuse_at, lowest}
use Rattle.meaning.specs.Types.{Table, Defs}
use Rattle.meaning.specs.Records.{Var, Node, Tables}
use Rattle.meaning.specs.Formed.{Formed}
use Rattle.meaning.specs.Checks.{has_root, check_root, check_types, tangled, check_vars, misused, check_uses, check_job}
use Rattle.meaning.proofs.Ends.{ends_ok, Ends}
use Rattle.meaning.proofs.Accepting.{types_formed}
use Rattle.guard.specs.Says.{outcome, Given}
use Rattle.atoms.specs.Marks.{Typed, Scoped}
use Rattle.atoms.proofs.Variables.{scoped_read}
use Rattle.uses.specs.Counts.{Lowers}
use Rattle.uses.proofs.Counting.{lowers_read}
use Rattle.checks.specs.Says.{passed, from_vars, Ready, Stored}
use Rattle.std.specs.Prelude as Std
use Rattle.refusals.specs.Says.{number_of}
use Rattle.refusals.specs.declared.Reason.{Reason}
use Rattle.refusals.specs.declared.Refusal.{Refusal}

-- 11, then 12
module _ (D : Defs) (T : Table) (V : List (ℕ × Var)) (C : List Node) {one : Option ℕ} (p : one ≡ tangled D T V) where
  vars_uses : {other : Option ℕ} → other ≡ lowest (misused C) (length C - 1) → (refuse_at 11 one >>= λ _. refuse_at 12 other) ≡ from_vars D T V C
  unfolding from_vars check_vars check_uses
  vars_uses q = rw (p, q)

  pub vars_refused : (r : Refusal) → refused (number_of r.reason) r.place ≡ refuse_at 11 one → refused (number_of r.reason) r.place ≡ from_vars D T V C
  vars_refused r e = ap (λ (x : Out (Unit {0})). x >>= λ _. refuse_at 12 (lowest (misused C) (length C - 1))) e ∙ vars_uses refl

  pub vars_passed : {other : Option ℕ} (r : Std.Result (Unit {0}) Refusal) → ok tt ≡ refuse_at 11 one → other ≡ lowest (misused C) (length C - 1) → outcome r ≡ refuse_at 12 other → outcome r ≡ from_vars D T V C
  vars_passed {other} r e q u = u ∙ ap (λ (x : Out (Unit {0})). x >>= λ _. refuse_at 12 other) e ∙ vars_uses q

-- what reading leaves is what each check asks
module _ {T : Table} {D : Defs} {V : List (ℕ × Var)} {C : List Node} (r : Ready T D V C) where
  pub ready_given : Given T D
  ready_given = record { room = r.room; types_read = r.types_read; defs_read = r.defs_read }

  pub ready_few : length T ≤ 4096
  ready_few = omega (arith, r.small, r.types_read.fits)

  pub ready_formed : check_types D T ≡ ok tt → Formed D T
  ready_formed e = ends_ok (subst (Ends _ _) e (types_formed r.small r.types_read r.defs_read))

  pub ready_typed : check_types D T ≡ ok tt → Typed T
  ready_typed e = record { defs = D; formed = ready_formed e }

  pub ready_scoped : Scoped (length T) V
  ready_scoped = scoped_read r.vars_read

  pub ready_lowers : Lowers C
  ready_lowers = lowers_read C (omega arith) r.code_read

-- THE CHECKS IN ORDER: a root or not, then types and definitions, then the rest
abbrev pub in_order : ℕ → Tables → Bool → Out (Unit {0}) → Out (Unit {0}) → Out Tables
in_order n t root types rest = require root 8 n >>= λ _. types >>= λ _. rest >>= λ _. ok t

regroup : (x y : Out (Unit {0})) (t : Tables) → ((x >>= λ _. y) >>= λ _. ok t) ≡ (x >>= λ _. y >>= λ _. ok t)
regroup (ok _) y t = refl
regroup (refused n p) y t = refl

pub job_checks : (n : ℕ) (t : Tables) → in_order n t (has_root t.code) (check_types t.defs t.types) (from_vars t.defs t.types t.vars t.code) ≡ check_job n t
unfolding check_job check_root from_vars
job_checks n t =
    ap (λ (rest : Out Tables). require (has_root t.code) 8 n >>= λ _. check_types t.defs t.types >>= λ _. rest)
    (regroup (check_vars t.defs t.types t.vars) (check_uses t.code) t)

module _ {T : Table} {D : Defs} {V : List (ℕ × Var)} {C : List Node} (n : ℕ) {t : Tables} (s : Stored T D V C t) where
  stored_checks : in_order n t (has_root C) (check_types D T) (from_vars D T V C) ≡ check_job n t
  stored_checks = rw (s.types_are, s.defs_are, s.vars_are, s.code_are, job_checks n t)

  pub rootless : false ≡ has_root C → passed t (Std.Err (record { reason = Reason.NoQuery; place = n })) ≡ check_job n t
  rootless p = ap (λ (b : Bool). in_order n t b (check_types D T) (from_vars D T V C)) p ∙ stored_checks

  pub unsound : (r : Refusal) → true ≡ has_root C → refused (number_of r.reason) r.place ≡ check_types D T → passed t (Std.Err r) ≡ check_job n t
  unsound r p q =
      ap (λ (b : Bool). in_order n t b (refused (number_of r.reason) r.place) (from_vars D T V C)) p
      ∙ ap (λ (x : Out (Unit {0})). in_order n t (has_root C) x (from_vars D T V C)) q
      ∙ stored_checks

  passes : (r : Std.Result (Unit {0}) Refusal) → passed t r ≡ in_order n t true (ok tt) (outcome r)
  passes (Std.Ok _) = refl
  passes (Std.Err r) = refl

  pub settled : (r : Std.Result (Unit {0}) Refusal) → true ≡ has_root C → ok tt ≡ check_types D T → outcome r ≡ from_vars D T V C → passed t r ≡ check_job n t
  settled r p q v =
      passes r
      ∙ ap (λ (b : Bool). in_order n t b (ok tt) (outcome r)) p
      ∙ ap (λ (x : Out (Unit {0})). in_order n t (has_root C) x (outcome r)) q
      ∙ ap (λ (y : Out (Unit {0})). in_order n t (has_root C) (check_types D T) y) v
      ∙ stored_checks
