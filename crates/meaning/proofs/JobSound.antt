-- Demand 3 about the definitions: for an accepted job and values of their declared types, the forest that evaluation answers is in the result entry
-- of the table that typing left.
-- Assumes nothing.
use mathlib.Core.Path.{◌≡◌}
use mathlib.Core.Bool.{Bool, true, false}
use mathlib.Core.List.{List, [], ◌∷◌, map}
use mathlib.Core.Option.{some}
use Prim.Native.Nat.{ℕ}
use lib.Dec.{eqb}
use Rattle.meaning.specs.Base.{ok, In, first, later, find, otherwise, Caps}
use Rattle.meaning.specs.Forests.{Forest, end}
use Rattle.meaning.specs.Types.{Table, Defs}
use Rattle.meaning.specs.Members.{Has}
use Rattle.meaning.specs.Records.{type_in}
use Rattle.meaning.specs.Typing.{Typed, type_job, root}
use Rattle.meaning.specs.Values.{Value, load_values}
use Rattle.meaning.specs.Running.{Env, value_of, meaning_of, eval, env_of, run_job}
use Rattle.meaning.proofs.Lists.{absurd_option}
use Rattle.meaning.proofs.Ends.{Ends, gives, Anyhow, ends_ok, ends_any, ends_bind, ends_by, ends_and}
use Rattle.meaning.proofs.Reading.{Small}
use Rattle.meaning.proofs.Running.{eval_means}
use Rattle.meaning.proofs.Values.{Bytes, load_ends}
use Rattle.meaning.proofs.Sound.{Agree, sound}
use Rattle.meaning.proofs.Jobs.{TypedWell, type_refuses, root_labels, job_ready}

-- each value is in its variable's declared type
pub record InTypes (D : Defs) (T : Table) (vs : List Value) : Type 0 where
  pub each : (v : Value) → In v vs → Has D T (type_in v.declared.1) v.part.forest

-- the environment of values that are in their declared types agrees with the declarations
pub values_agree : (D : Defs) (T : Table) (vs : List Value) → ((v : Value) → In v vs → Has D T (type_in v.declared.1) v.part.forest) → Agree D T (map (λ (v : Value). v.declared) vs) (env_of vs)
unfolding find
values_agree D T [] h v x = absurd_option
values_agree D T (w ∷ ws) h v x = go (eqb v w.declared.0) (values_agree D T ws (λ u i. h u (later i)) v x)
  where
    go : (c : Bool) → (find v (map (λ (u : Value). u.declared) ws) ≡ some x → Has D T (type_in x) (value_of (env_of ws) v))
        → elim c [ true ↦ some w.declared.1 | false ↦ find v (map (λ (u : Value). u.declared) ws) ] ≡ some x
        → Has D T (type_in x) (otherwise end (elim c [ true ↦ some w.part.forest | false ↦ find v (env_of ws) ]))
    go true rest e = let q : w.declared.1 ≡ x = cc in rw (← q) (h w first)
    go false rest e = rest e

-- whatever typing accepts is right in every environment that agrees with the declarations
module _ {caps : Caps} (small : Small caps) where
  well_sound : (t : Typed) → TypedWell caps t → (r : Env) → Agree t.job.defs t.job.types t.job.vars r → Has t.job.defs t.left.types t.result (meaning_of (root t.job) r)
  well_sound t w r a =
      (ends_ok (rw w.is at (sound caps.types t.job.defs small.types (root t.job) t.job.vars (record { types = t.job.types }) (job_ready w.accepted) (root_labels w.accepted)))).gives r a

  pub typing_sound : (s : List ℕ) (t : Typed) → type_job caps s ≡ ok t → (r : Env) → Agree t.job.defs t.job.types t.job.vars r
      → Has t.job.defs t.left.types t.result (meaning_of (root t.job) r)
  typing_sound s t e r a = well_sound t (ends_ok (rw e at (type_refuses s small))) r a

  -- if evaluation with room answers a forest, at whatever place of the work table, it is in the result entry
  pub eval_sound : (s : List ℕ) (t : Typed) → type_job caps s ≡ ok t → (r : Env) → Agree t.job.defs t.job.types t.job.vars r
      → (room at : ℕ) (f : Forest) → eval room (root t.job) r at ≡ ok f → Has t.job.defs t.left.types t.result f
  eval_sound s t e r a room at f k = rw (ends_ok (rw k at (eval_means room (root t.job) r at))) (typing_sound s t e r a)

  -- A RUN: values in their declared types give a result in the type that typing gave
  pub run_sound : (room : ℕ) (s values : List ℕ) → Bytes values
      → Ends (λ r. ((vs : List Value) → load_values room r.typed.job.vars values ≡ ok vs → InTypes r.typed.job.defs r.typed.job.types vs) → Has r.typed.job.defs r.typed.left.types r.typed.result r.result)
      Anyhow (run_job caps room s values)
  unfolding run_job
  run_sound room s values bytes =
      ends_bind (ends_by (type_refuses s small) (λ n p _. tt)) λ t w.
      ends_bind (ends_by (ends_and (ends_any (load_values room t.job.vars values)) (load_ends room t.job.vars values bytes w.accepted.vars.few)) (λ n p _. tt)) λ vs h.
      ends_bind (ends_by (eval_means room (root t.job) (env_of vs) _) (λ n p _. tt)) λ f k.
      gives (λ given.
      rw k (well_sound t w (env_of vs) (rw h.1.declared at (values_agree t.job.defs t.job.types vs (given vs h.0).each))))
