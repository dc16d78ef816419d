-- What is left after the evaluation and after the loader, by their answers; and typing with these after it is `run_job`.
-- Assumes nothing.
use Rattle.std.specs.Prelude as Std
use mathlib.Core.Path.{◌≡◌, refl, ap, sym, subst, ◌∙◌}
use mathlib.Core.List.{List, ◌++◌}
use Prim.Native.Nat.{ℕ, ◌*◌, ◌-◌, ◌≤◌}
use native.Mathlib.Omega.{arith}
use lib.ListN.{length, drop}
use Rattle.meaning.specs.Base.{Caps, Out, ok, refused, ◌>>=◌, concat_map, zeros, caps_of, work_capacity, type_width, code_width}
use Rattle.meaning.specs.Forests.{Forest, size}
use Rattle.meaning.specs.Records.{Node, Var}
use Rattle.meaning.specs.Queries.{Query, query_at}
use Rattle.meaning.specs.Typing as Typing
use Rattle.meaning.specs.Typing.{root, type_job, typed_types, typed_code}
use Rattle.meaning.specs.Values.{Value, load_values, joined}
use Rattle.meaning.specs.Running.{eval, env_of, run_job}
use Rattle.meaning.proofs.Reading.{caps_of_small, vars_wider}
use Rattle.words.specs.Tables.{code_of, vars_of}
use Rattle.words.proofs.Rows.{padded_most, rows_length}
use Rattle.words.proofs.Tables.{table_inside, table_cleared, code_inside, code_cleared}
use Rattle.refusals.specs.declared.Refusal.{Refusal}
use Rattle.refusals.specs.Says.{told, number_of}
use Rattle.reading.specs.Says.{var_words}
use Rattle.reading.proofs.Decoding.{var_wide}
use Rattle.typed.specs.declared.Typed.{Typed}
use Rattle.typed.specs.Says as Types
use Rattle.typed.specs.Says.{Holds}
use Rattle.typed.proofs.Telling.{holds_vars, holds_code, Accepts, told_accepted, told_refused}
use Rattle.copies.specs.Fills.{Made, no_room}
use Rattle.copies.proofs.Filling.{differ}
use Rattle.values.specs.declared.Loaded.{Loaded}
use Rattle.values.specs.Says as Values
use Rattle.values.specs.Says.{loaded_of}
use Rattle.values.proofs.Loading as Loading
use Rattle.values.proofs.Loading.{turned_away, load_declared, load_fits}
use Rattle.ran.specs.declared.Ran.{Ran}
use Rattle.ran.specs.Says as Says
use Rattle.ran.specs.Says.{ran_of, Left, Loads, Ready, Begins, Evaluated, Evaluates, Settles, running, Answers}

-- WHAT IS LEFT OF TABLES that typing left, once their entries are cleared: nothing
abbrev frontless : ℕ → ℕ → List ℕ → List ℕ
frontless width n t = zeros (width * n) ++ drop (width * n) t

module _ {types query : List ℕ} {r : Typed} {t : Typing.Typed} (h : Holds types query r t) where
  types_cleared : {u : List ℕ} → u ≡ frontless type_width r.types types → u ≡ zeros (length types)
  types_cleared e = table_cleared (length types) t.left.types h.entries h.words refl e

  code_gone : {w : List ℕ} → w ≡ frontless code_width r.nodes query → w ≡ zeros (length query)
  code_gone e = code_cleared (length query) t.job.code h.nodes_are h.code refl e

-- AFTER THE EVALUATION, by its answer
module _ {types query : List ℕ} {y : Typed} {t : Typing.Typed} (h : Holds types query y t) {f : Forest} {first : ℕ} (e : first ≡ size f) {words : ℕ} {work : List ℕ} where
  done_leaves : {k : ℕ} {made : Made} {o : Out Forest} → made ≡ Std.Ok k → Evaluated words work f made o
      → Left (length types) (length query) words (Std.Ok (record { first = first; length = k; result = y.result; types = y.types; nodes = y.nodes; given = y.given })) types query work (o >>= λ x. ok (record { typed = t; loaded = f; result = x }))
  unfolding ran_of
  done_leaves {k} q (Says.done {k = j} c l) =
      let p : j ≡ k = cc in
      record { answer = rw (e, ← p, ← c, h.named, h.entries, h.nodes_are, h.is); types = h.words; code = h.code; work = l }
  done_leaves q Says.full = differ (cc)

  full_leaves : {d : Refusal} {made : Made} {o : Out Forest} {u w x : List ℕ} → made ≡ Std.Err d → u ≡ frontless type_width y.types types → w ≡ frontless code_width y.nodes query → x ≡ zeros words → Evaluated words work f made o
      → Left (length types) (length query) words (Std.Err d) u w x (o >>= λ x. ok (record { typed = t; loaded = f; result = x }))
  unfolding ran_of
  full_leaves q u w x (Says.done c l) = differ (cc)
  full_leaves {d} q u w x (Says.full {n = m}) = let p : no_room m ≡ d = cc in record { answer = ap (λ (z : Refusal). told {A = Ran} (Std.Err z)) (sym p); types = types_cleared h u; code = code_gone h w; work = x }

module _ (types query work : List ℕ) (first : ℕ) (y : Typed) {made : Made} where
  pub done_settles : {k : ℕ} → made ≡ Std.Ok k → Settles types query work first y made (Std.Ok (record { first = first; length = k; result = y.result; types = y.types; nodes = y.nodes; given = y.given })) types query work
  done_settles q = record { leaves = λ t f o h e x. done_leaves h e q x }

  pub full_settles : {d : Refusal} {u w x : List ℕ} → made ≡ Std.Err d → u ≡ frontless type_width y.types types → w ≡ frontless code_width y.nodes query → x ≡ zeros (length work) → Settles types query work first y made (Std.Err d) u w x
  full_settles q u w x = record { leaves = λ t f o h e z. full_leaves h e q u w x z }

-- THE QUERY in the tables
abbrev code_in : List ℕ → Typed → List Node
code_in query y = code_of query y.nodes

abbrev vars_in : Typed → List (ℕ × Var)
vars_in y = vars_of y.given.vars y.given.declared

root_is : {types query : List ℕ} {y : Typed} {t : Typing.Typed} → Holds types query y t → query_at (code_in query y) (length (code_in query y) - 1) ≡ root t.job
root_is h = ap (λ (C : List Node). query_at C (length C - 1)) (holds_code h)

-- AFTER THE LOADER, by its answer
module _ {words : ℕ} {work : List ℕ} (values : List ℕ) (y : Typed) where
  module _ {l : Loaded} (x : Values.Left words (Std.Ok l) work (load_values (work_capacity words) (vars_in y) values)) (long : length work ≡ words) where
    accepts : Loading.Accepts words l work (load_values (work_capacity words) (vars_in y) values)
    accepts = Loading.accepted (load_values (work_capacity words) (vars_in y) values) x

    loads : Loads (vars_in y) l.ends l.entries work accepts.values
    unfolding loaded_of
    loads =
        record {
          declared = load_declared (work_capacity words) (vars_in y) values accepts.is;
          ends_are = let z : l ≡ loaded_of accepts.values = cc (accepts.left.answer) in ap (λ (k : Loaded). k.ends) z;
          entries = accepts.entries;
          laid = rw long accepts.left.work;
          fits = rw (long, accepts.entries) (load_fits (work_capacity words) (vars_in y) values accepts.is);
        }

    pub load_begins : Begins (vars_in y) l work
    load_begins = record { values = accepts.values; loads = loads }

    run_of : {types query : List ℕ} {t : Typing.Typed} → Holds types query y t
        → running (work_capacity words) values t ≡ (eval (work_capacity words) (query_at (code_in query y) (length (code_in query y) - 1)) (env_of accepts.values) l.entries >>= λ e. ok (record { typed = t; loaded = joined accepts.values; result = e }))
    run_of {query = query} {t} h =
        let vs = accepts.values in
        let loaded : load_values (work_capacity words) t.job.vars values ≡ ok vs = ap (λ vars. load_values (work_capacity words) vars values) (sym (holds_vars h)) ∙ accepts.is in
        ap (λ (o : Out (List Value)). o >>= λ us. eval (work_capacity words) (root t.job) (env_of us) (size (joined us)) >>= λ e. ok (record { typed = t; loaded = joined us; result = e })) loaded
        ∙ ap (λ (q : Query). eval (work_capacity words) q (env_of vs) (size (joined vs)) >>= λ e. ok (record { typed = t; loaded = joined vs; result = e })) (sym (root_is h))
        ∙ ap (λ (m : ℕ). eval (work_capacity words) (query_at (code_in query y) (length (code_in query y) - 1)) (env_of vs) m >>= λ e. ok (record { typed = t; loaded = joined vs; result = e })) (sym accepts.entries)

    pub load_settled : {types query after : List ℕ} {made : Made} {r : Std.Result Ran Refusal} {u w v : List ℕ} → length after ≡ words → Evaluates (code_in query y) (vars_in y) l work after made
        → Settles types query after l.entries y made r u w v → Answers values types query words y r u w v
    load_settled {types} {query} {after} {made} {r} {u} {w} {v} kept e s = record { leaves = leaves }
      where
        leaves : (t : Typing.Typed) → Holds types query y t → Left (length types) (length query) words r u w v (running (work_capacity words) values t)
        leaves t h =
            let vs = accepts.values in
            let o = eval (work_capacity words) (query_at (code_in query y) (length (code_in query y) - 1)) (env_of vs) l.entries in
            let ran : Evaluated words after (joined vs) made o = subst (λ (m : ℕ). Evaluated m after (joined vs) made (eval (work_capacity m) (query_at (code_in query y) (length (code_in query y) - 1)) (env_of vs) l.entries)) long (e.is vs loads) in
            let left : Left (length types) (length query) (length after) r u w v (o >>= λ x. ok (record { typed = t; loaded = joined vs; result = x })) = s.leaves t (joined vs) o h accepts.entries (subst (λ (m : ℕ). Evaluated m after (joined vs) made o) (sym kept) ran) in
            subst (Left (length types) (length query) words r u w v) (sym (run_of h)) (subst (λ (m : ℕ). Left (length types) (length query) m r u w v (o >>= λ x. ok (record { typed = t; loaded = joined vs; result = x }))) kept left)

  pub load_stopped : {d : Refusal} {types query : List ℕ} {u w : List ℕ} → Values.Left words (Std.Err d) work (load_values (work_capacity words) (vars_in y) values) → u ≡ frontless type_width y.types types → w ≡ frontless code_width y.nodes query
      → Answers values types query words y (Std.Err d) u w work
  unfolding ran_of
  load_stopped {d} {types} {query} {u} {w} x b c = record { leaves = leaves }
    where
      leaves : (t : Typing.Typed) → Holds types query y t → Left (length types) (length query) words (Std.Err d) u w work (running (work_capacity words) values t)
      leaves t h =
          let z = turned_away (load_values (work_capacity words) (vars_in y) values) x in
          let none : load_values (work_capacity words) t.job.vars values ≡ refused (number_of d.reason) d.place = ap (λ vars. load_values (work_capacity words) vars values) (sym (holds_vars h)) ∙ z.0 in
          rw none (record { answer = refl; types = types_cleared h b; code = code_gone h c; work = z.1 })

-- AFTER TYPING, by its answer: where it is refused, so is the run
unrun : (caps : Caps) (s : List ℕ) {n place : ℕ} (room : ℕ) (values : List ℕ) → type_job caps s ≡ refused n place → run_job caps room s values ≡ refused n place
unfolding run_job
unrun caps s room values e = rw e

module _ {tw cw : ℕ} {u w : List ℕ} (s : List ℕ) where
  module _ {r : Typed} (l : Types.Left tw cw (Std.Ok r) u w (type_job (caps_of tw cw) s)) where
    accepted_lem : Accepts tw cw s r u w
    accepted_lem = told_accepted s l

    pub job_long : type_width * r.types ≤ length u
    job_long = let h = accepted_lem.holds in table_inside (length u) accepted_lem.typed.left.types h.entries h.words

    pub job_code : code_width * r.nodes ≤ length w
    job_code = let h = accepted_lem.holds in code_inside (length w) accepted_lem.typed.job.code h.nodes_are h.code

    pub job_vars : 3 * r.given.declared ≤ length r.given.vars
    job_vars =
        let vars = accepted_lem.typed.job.vars in
        rw accepted_lem.holds.is (omega (arith, rows_length var_words 3 var_wide vars, padded_most 48 (concat_map var_words vars)))

    pub job_ready : Ready (code_of w r.nodes) (vars_of r.given.vars r.given.declared)
    job_ready =
        let h = accepted_lem.holds in
        let a = accepted_lem.well.accepted in
        let small = caps_of_small tw cw in
        rw (holds_code h, holds_vars h)
        (record { lowers = record { few = omega (arith, a.few_code, small.code); low = a.nodes }; rooted = a.rooted; read = vars_wider (omega (arith, a.fits, small.types)) a.vars })

    run_typed : (room : ℕ) (values : List ℕ) → run_job (caps_of tw cw) room s values ≡ running room values accepted_lem.typed
    unfolding run_job
    run_typed room values = rw accepted_lem.is

    pub job_settled : {words : ℕ} {values : List ℕ} {a : Std.Result Ran Refusal} {x y z : List ℕ} → Answers values u w words r a x y z → Left tw cw words a x y z (run_job (caps_of tw cw) (work_capacity words) s values)
    job_settled {words} {values} {a} {x} {y} {z} k =
        let o = run_job (caps_of tw cw) (work_capacity words) s values in
        let left : Left (length u) (length w) words a x y z o = subst (Left (length u) (length w) words a x y z) (sym (run_typed (work_capacity words) values)) (k.leaves accepted_lem.typed accepted_lem.holds) in
        subst (λ (m : ℕ). Left tw m words a x y z o) accepted_lem.code_long (subst (λ (m : ℕ). Left m (length w) words a x y z o) accepted_lem.types_long left)

  pub job_stopped : {d : Refusal} {words : ℕ} (values : List ℕ) {x : List ℕ} → Types.Left tw cw (Std.Err d) u w (type_job (caps_of tw cw) s) → x ≡ zeros words → Left tw cw words (Std.Err d) u w x (run_job (caps_of tw cw) (work_capacity words) s values)
  unfolding ran_of
  job_stopped {words = words} values l z =
      let e = told_refused s l in
      let b = unrun (caps_of tw cw) s (work_capacity words) values e in
      rw b (record { answer = refl; types = l.types ∙ ap (typed_types tw) e; code = l.code ∙ ap (typed_code cw) e; work = z })
