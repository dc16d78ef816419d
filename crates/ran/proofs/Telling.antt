-- For callers: what an accepted answer tells, and what an accepted run was made of.
-- Assumes nothing.
use mathlib.Core.Path.{◌≡◌, refl, ap}
use mathlib.Core.List.{List, ◌++◌}
use Prim.Native.Nat.{ℕ}
use lib.ListN.{length}
use Rattle.meaning.specs.Base.{Out, ok, refused, padded, Caps}
use Rattle.meaning.specs.Forests.{size, forest_words}
use Rattle.meaning.specs.Typing.{root, type_job}
use Rattle.meaning.specs.Values.{Value, load_values, joined}
use Rattle.meaning.specs.Running as Running
use Rattle.meaning.specs.Running.{eval, env_of, run_job}
use Rattle.std.specs.Prelude as Std
use Rattle.refusals.specs.declared.Refusal.{Refusal}
use Rattle.refusals.specs.Says.{number_of}
use Rattle.reading.specs.Says.{given_of}
use Rattle.values.proofs.Stepping.{bound}
use Rattle.ran.specs.declared.Ran.{Ran}
use Rattle.ran.specs.Says.{seen, ran_of, Left}

-- AN ACCEPTED ANSWER
pub record Accepts (ww : ℕ) (r : Ran) (x : List ℕ) (o : Out Running.Ran) : Type 0 where
  pub ran : Running.Ran
  pub is : o ≡ ok ran
  pub first_is : r.first ≡ size ran.loaded
  pub length_is : r.length ≡ size ran.result
  pub named : r.result ≡ ran.typed.result
  pub entries : r.types ≡ length ran.typed.left.types
  pub nodes_are : r.nodes ≡ length ran.typed.job.code
  pub given_is : r.given ≡ given_of ran.typed.job
  pub work : x ≡ padded ww (forest_words ran.loaded ++ forest_words ran.result)

module _ {tw cw ww : ℕ} {u w x : List ℕ} where
  pub told_accepted : (o : Out Running.Ran) {r : Ran} → Left tw cw ww (Std.Ok r) u w x o → Accepts ww r x o
  unfolding ran_of
  told_accepted (ok a) {r} l =
      let q : r ≡ seen a = cc (l.answer) in
      record {
        ran = a;
        is = refl;
        first_is = ap (λ (y : Ran). y.first) q;
        length_is = ap (λ (y : Ran). y.length) q;
        named = ap (λ (y : Ran). y.result) q;
        entries = ap (λ (y : Ran). y.types) q;
        nodes_are = ap (λ (y : Ran). y.nodes) q;
        given_is = ap (λ (y : Ran). y.given) q;
        work = l.work;
      }
  told_accepted (refused n place) l = cc (l.answer)

  pub told_refused : (o : Out Running.Ran) {d : Refusal} → Left tw cw ww (Std.Err d) u w x o → o ≡ refused (number_of d.reason) d.place
  unfolding ran_of
  told_refused (ok a) l = cc (l.answer)
  told_refused (refused n place) l = cc (l.answer)

-- AN ACCEPTED RUN: the job was typed, its values were loaded, and its query was evaluated behind them
pub record Made (caps : Caps) (room : ℕ) (s values : List ℕ) (a : Running.Ran) : Type 0 where
  pub is_typed_lem : type_job caps s ≡ ok a.typed
  pub forests : List Value
  pub is_loaded : load_values room a.typed.job.vars values ≡ ok forests
  pub loaded_are : a.loaded ≡ joined forests
  pub is_evaluated : eval room (root a.typed.job) (env_of forests) (size (joined forests)) ≡ ok a.result

pub run_made : {caps : Caps} {room : ℕ} {s values : List ℕ} {a : Running.Ran} → run_job caps room s values ≡ ok a → Made caps room s values a
unfolding run_job
run_made {caps} {room} {s} {values} {a} e =
    bound (type_job caps s) _ e λ t f g.
    bound (load_values room t.job.vars values) _ g λ vs h i.
    bound (eval room (root t.job) (env_of vs) (size (joined vs))) _ i λ x j k.
    let z : ◌≡◌ {A = Running.Ran} (record { typed = t; loaded = joined vs; result = x }) a = cc in
    rw (← z) (record { is_typed_lem = f; forests = vs; is_loaded = h; loaded_are = refl; is_evaluated = j })
