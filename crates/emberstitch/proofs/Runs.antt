-- Runs by the promise. Demand 3 over the operations: the forest that a run leaves in the work table is in the result entry of the table that typing left.
-- Job J runs in 6 forest entries, so what writes nothing and what refuses every job is no run, and in 5 it is refused, 21 at 8. A for over two trees
-- leaves both bodies, so what runs its body on the first tree and copies that result is none, nor what moves bodies down one by one over the second tree.
-- dos leaves the tree itself too.
-- Assumes nothing.
use mathlib.Core.Path.{◌≡◌, refl, ap, sym, subst, ◌∙◌}
use mathlib.Core.List.{List, [], ◌∷◌, ◌++◌, append_assoc}
use mathlib.Core.Option.{none}
use Prim.Native.Nat.{ℕ, ◌*◌, ◌-◌, ◌≤◌, ◌<◌}
use native.Mathlib.Omega.{arith}
use lib.ListN.{length, get_or, take, drop, get_or-replicate}
use lib.Seq.{take_at, drop_at}
use Rattle.meaning.specs.Base.{Out, ok, refused, At, zeros, padded, forest_width, type_capacity, code_capacity, work_capacity, caps_of}
use Rattle.meaning.specs.Forests.{Forest, end, tree, size, trees, forest_words}
use Rattle.meaning.specs.Types.{Table, Defs, element, pair, union, star, plus, base, table_words}
use Rattle.meaning.specs.Members.{Has}
use Rattle.meaning.specs.Records as Records
use Rattle.meaning.specs.Records.{node}
use Rattle.meaning.specs.Typing as Typing
use Rattle.meaning.specs.Typing.{type_job, typed_types, typed_code}
use Rattle.meaning.specs.Answers.{full}
use Rattle.meaning.specs.Values.{Value, read_values, load_values, joined}
use Rattle.meaning.specs.Running as Running
use Rattle.meaning.specs.Running.{env_of, run_job, ran_typed, work_words}
use Rattle.meaning.specs.Worked.{job_of, dos_job, dos_types}
use Rattle.meaning.proofs.Ends.{ends_ok, keeps_ok}
use Rattle.meaning.proofs.Forests.{length_words, words_determine}
use Rattle.meaning.proofs.Reading.{caps_of_small}
use Rattle.meaning.proofs.Values.{Bytes, load_places}
use Rattle.meaning.proofs.Sound.{Agree}
use Rattle.meaning.proofs.Jobs.{typing_keeps, running_keeps}
use Rattle.meaning.proofs.JobSound.{InTypes, values_agree, eval_sound}
use Rattle.meaning.proofs.Worked.{everything}
use Rattle.words.specs.Tables.{table_of, vars_of}
use Rattle.words.proofs.Tables.{table_lent}
use Rattle.reading.specs.Says.{given_of}
use Rattle.std.specs.Prelude.{Result, Ok, Err}
use Rattle.refusals.specs.declared.Reason.{Reason}
use Rattle.refusals.specs.declared.Refusal.{Refusal}
use Rattle.refusals.specs.Says.{told, number_of}
use Rattle.refusals.proofs.Told.{told_ok, told_same}
use Rattle.typed.specs.declared.Typed.{Typed}
use Rattle.typed.proofs.Telling as Typings
use Rattle.typed.proofs.Telling.{holds_table, holds_defs, holds_vars}
use Rattle.values.proofs.Loading.{load_read, load_declared}
use Rattle.ran.specs.declared.Ran.{Ran}
use Rattle.ran.specs.Says.{ran_of}
use Rattle.ran.proofs.Telling as Telling
use Rattle.ran.proofs.Telling.{run_made}
use Rattle.emberstitch.specs.Promises.{TypeJob, RunJob}
use Rattle.emberstitch.proofs.Typings.{J, J_tables, J_typed, room, J_least, typed_with}
use Rattle.emberstitch.proofs.Older.{has_older}

-- A FOREST IN THE WORK TABLE: its words stand there from entry `first` on, so many entries
pub record Stands (work : List ℕ) (first n : ℕ) (f : Forest) : Type 0 where
  pub entries : size f ≡ n
  pub words : take (forest_width * n) (drop (forest_width * first) work) ≡ forest_words f

-- two tables that a job is typed in, of whatever lengths, have one typing
typed_one : (job : List ℕ) (types query types₁ query₁ : ℕ) {t t₁ : Typing.Typed} → type_job (caps_of types query) job ≡ ok t → type_job (caps_of types₁ query₁) job ≡ ok t₁ → t ≡ t₁
typed_one job types query types₁ query₁ {t} {t₁} e f =
    let p : type_job full job ≡ ok t = keeps_ok (typing_keeps (caps_of types query) full (omega arith) (omega arith) job) e in
    let q : type_job full job ≡ ok t₁ = keeps_ok (typing_keeps (caps_of types₁ query₁) full (omega arith) (omega arith) job) f in
    let z : ok t ≡ ok t₁ = sym p ∙ q in
    cc

-- WHAT A RUN LEAVES, in terms of what typing left: one forest stands where the answer says; it is in the result entry; what the run says of the typing is
-- what typing says; and each tree variable has one tree
pub record InResult (values : List ℕ) (r : Typed) (u : List ℕ) (a : Ran) (x z : List ℕ) : Type 0 where
  pub forest : Forest
  pub stands : Stands z a.first a.length forest
  pub only : (g : Forest) → Stands z a.first a.length g → g ≡ forest
  pub has : Has (take r.given.used r.given.defs) (table_of u r.types) r.result forest
  pub same_answer : (a.result ≡ r.result) × (a.types ≡ r.types) × (a.nodes ≡ r.nodes)
  pub same_given : a.given ≡ r.given
  pub same_table : table_of x a.types ≡ table_of u r.types
  pub one_tree_lem : Bytes values → (vs : List Value) → read_values (vars_of r.given.vars r.given.declared) values 0 ≡ ok vs → (i : ℕ) (v : Value) → At vs i v → (e : ℕ) → v.declared.1 ≡ Records.tree e → trees v.part.forest ≡ 1

module _ {job values u w x y z : List ℕ} {types query types₁ query₁ work : ℕ} {r : Typed} {a : Ran} (p : TypeJob job types query (Ok r) u w) (q : RunJob job values types₁ query₁ work (Ok a) x y z) where
  typing : Typings.Accepts types query job r u w
  typing = Typings.told_accepted job (record { answer = p.answer; types = p.types_left; code = p.query_left })

  ran : Telling.Accepts work a z (run_job (caps_of types₁ query₁) (work_capacity work) job values)
  ran = Telling.told_accepted (run_job (caps_of types₁ query₁) (work_capacity work) job values) (record { answer = q.answer; types = q.types_left; code = q.query_left; work = q.work_left })

  made : Telling.Made (caps_of types₁ query₁) (work_capacity work) job values ran.ran
  made = run_made ran.is

  t : Typing.Typed
  t = typing.typed

  -- both typed it alike
  alike : ran.ran.typed ≡ t
  unfolding t
  alike = sym (typed_one job types query types₁ query₁ typing.is made.is_typed_lem)

  -- the forests read were loaded, and are in their declared types in the table as it was read
  loaded : load_values (work_capacity work) t.job.vars values ≡ ok made.forests
  loaded = ap (λ (s : Typing.Typed). load_values (work_capacity work) s.job.vars values) (sym alike) ∙ made.is_loaded

  read : read_values (vars_of r.given.vars r.given.declared) values 0 ≡ ok made.forests
  unfolding t
  read = ap (λ vars. read_values vars values 0) (holds_vars typing.holds) ∙ (load_read (work_capacity work) t.job.vars values loaded).0

  module _ (given : (vs : List Value) → read_values (vars_of r.given.vars r.given.declared) values 0 ≡ ok vs → InTypes (take r.given.used r.given.defs) (table_of u r.types) vs) where
    agree : Agree t.job.defs t.job.types t.job.vars (env_of made.forests)
    unfolding t
    agree v x i =
        let h = typing.holds in
        let held : InTypes t.job.defs t.left.types made.forests = rw (holds_defs h, holds_table h) at (given made.forests read) in
        let now : Agree t.job.defs t.left.types t.job.vars (env_of made.forests) = rw (load_declared (work_capacity work) t.job.vars values loaded) at (values_agree t.job.defs t.left.types made.forests held.each) in
        has_older typing.well.accepted.formed typing.well.grown.grows (typing.well.accepted.scoped v x i) (now v x i)

    in_result : Has (take r.given.used r.given.defs) (table_of u r.types) r.result ran.ran.result
    unfolding t
    in_result =
        let h = typing.holds in
        let g = ran.ran.result in
        let sound : Has t.job.defs t.left.types t.result g
        = eval_sound (caps_of_small types query) job t typing.is (env_of made.forests) agree (work_capacity work) _ g (ap (λ (s : Typing.Typed). Running.eval (work_capacity work) (Typing.root s.job) (env_of made.forests) (size (joined made.forests))) (sym alike) ∙ made.is_evaluated) in
        subst (λ (d : Defs). Has d (table_of u r.types) r.result g) (sym (holds_defs h)) (subst (λ (T : Table). Has t.job.defs T r.result g) (sym (holds_table h)) (subst (λ (k : ℕ). Has t.job.defs t.left.types k g) (sym h.named) sound))

    -- where the answer says
    result_stands : Stands z a.first a.length ran.ran.result
    result_stands =
        let front = forest_words ran.ran.loaded in
        let back = forest_words ran.ran.result in
        let blank = zeros (work - length (front ++ back)) in
        record {
          entries = sym ran.length_is;
          words =
              ap (λ (l : List ℕ). take (forest_width * a.length) (drop (forest_width * a.first) l)) (ran.work ∙ append_assoc front back blank)
              ∙ ap (take (forest_width * a.length)) (drop_at front (back ++ blank) (forest_width * a.first) (omega (arith, length_words ran.ran.loaded, ran.first_is)))
              ∙ take_at back blank (forest_width * a.length) (omega (arith, length_words ran.ran.result, ran.length_is));
        }

    -- the run's own type table
    own_table : table_of x a.types ≡ table_of u r.types
    unfolding t
    own_table =
        let left : x ≡ padded types₁ (table_words t.left.types) = q.types_left ∙ ap (λ (o : Out Running.Ran). typed_types types₁ (ran_typed o)) ran.is ∙ ap (λ (s : Typing.Typed). padded types₁ (table_words s.left.types)) alike in
        let many : a.types ≡ length t.left.types = ran.entries ∙ ap (λ (s : Typing.Typed). length s.left.types) alike in
        ap (table_of x) many ∙ ap (λ (ws : List ℕ). table_of ws (length t.left.types)) left ∙ table_lent types₁ t.left.types ∙ sym (holds_table typing.holds)

    -- DEMAND 3: if each forest read from the values file is in its variable's declared type, the forest that the run leaves is in the result entry
    pub run_in_type : InResult values r u a x z
    unfolding t
    run_in_type =
        let h = typing.holds in
        record {
          forest = ran.ran.result;
          stands = result_stands;
          only = λ g s. words_determine g ran.ran.result (sym s.words ∙ result_stands.words);
          has = in_result;
          same_answer = (ran.named ∙ ap (λ (s : Typing.Typed). s.result) alike ∙ sym h.named, ran.entries ∙ ap (λ (s : Typing.Typed). length s.left.types) alike ∙ sym h.entries, ran.nodes_are ∙ ap (λ (s : Typing.Typed). length s.job.code) alike ∙ sym h.nodes_are);
          same_given = ran.given_is ∙ ap (λ (s : Typing.Typed). given_of s.job) alike ∙ sym h.is;
          same_table = own_table;
          one_tree_lem = λ bytes vs k i v at.
              let same : ok vs ≡ ok made.forests = sym k ∙ read in
              let here : vs ≡ made.forests = cc in
              (ends_ok (rw loaded at (load_places (work_capacity work) t.job.vars values bytes))).one_tree i v (subst (λ (l : List Value). At l i v) here at);
        }

-- THE JOBS. J, which has no variable, on no values; a for over two trees: a forest variable $0 of type 2[],3[], for $1 in $0 return 7[$1], on
-- 2[],3[]
unfoldable pub two : List ℕ
two = job_of ((3 ∷ 2 ∷ 0 ∷ []) ∷ (3 ∷ 3 ∷ 0 ∷ []) ∷ (4 ∷ 2 ∷ 3 ∷ []) ∷ (18 ∷ 0 ∷ 4 ∷ []) ∷ (36 ∷ 0 ∷ []) ∷ (36 ∷ 1 ∷ []) ∷ (34 ∷ 7 ∷ 1 ∷ []) ∷ (39 ∷ 1 ∷ 0 ∷ 2 ∷ []) ∷ [])

unfoldable pub two_values : List ℕ
two_values = job_of ((66 ∷ 0 ∷ 2 ∷ []) ∷ (65 ∷ 2 ∷ 0 ∷ []) ∷ (65 ∷ 3 ∷ 0 ∷ []) ∷ [])

-- P5, the tree of a tree variable and all below it, on 2[3[]]
unfoldable pub P5 : List ℕ
P5 = dos_job 0

unfoldable pub nested_values : List ℕ
nested_values = job_of ((66 ∷ 0 ∷ 2 ∷ []) ∷ (65 ∷ 2 ∷ 1 ∷ []) ∷ (65 ∷ 3 ∷ 0 ∷ []) ∷ [])

-- their forests
unfoldable pub J_forest : Forest
J_forest = tree 2 end (tree 3 end (tree 2 end end))

unfoldable pub two_forest : Forest
two_forest = tree 2 end (tree 3 end end)

unfoldable pub two_result : Forest
two_result = tree 7 (tree 2 end end) (tree 7 (tree 3 end end) end)

unfoldable pub nested : Forest
nested = tree 2 (tree 3 end end) end

pub two_typed : Typing.Typed
two_typed =
    record {
      job = record {
        types = base ++ (element 2 0 ∷ element 3 0 ∷ pair 2 3 ∷ []);
        defs = [];
        vars = (0, Records.forest 4) ∷ [];
        code = node 36 0 0 0 ∷ node 36 1 0 0 ∷ node 34 7 1 0 ∷ node 39 1 0 2 ∷ [];
        result = none;
        section = Records.query;
      };
      left = record { types = base ++ (element 2 0 ∷ element 3 0 ∷ pair 2 3 ∷ union 2 3 ∷ element 7 5 ∷ plus 6 ∷ []) };
      result = 7;
    }

-- with the least room; and with more
J_runs : run_job (room 10 10) 6 J [] ≡ ok (record { typed = J_typed; loaded = end; result = J_forest })
unfolding everything J J_typed J_tables J_forest
J_runs = refl

two_runs : run_job (room 8 4) 8 two two_values ≡ ok (record { typed = two_typed; loaded = two_forest; result = two_result })
unfolding everything two two_values two_typed two_forest two_result
two_runs = refl

pub nested_typed : Typing.Typed
nested_typed =
    record {
      job = record {
        types = dos_types;
        defs = [];
        vars = (0, Records.tree 3) ∷ [];
        code = node 38 0 0 0 ∷ [];
        result = none;
        section = Records.query;
      };
      left = record { types = dos_types ++ (union 2 3 ∷ star 4 ∷ []) };
      result = 5;
    }

nested_runs : run_job (room 6 1) 5 P5 nested_values ≡ ok (record { typed = nested_typed; loaded = nested; result = tree 2 (tree 3 end end) (tree 3 end end) })
unfolding everything P5 nested_values nested_typed nested
nested_runs = refl

ran_with : (job values : List ℕ) {a : Running.Ran} (n m k types query work : ℕ) → run_job (room n m) k job values ≡ ok a → n ≤ type_capacity types → m ≤ code_capacity query → k ≤ work_capacity work → run_job (caps_of types query) (work_capacity work) job values ≡ ok a
ran_with job values n m k types query work e i j l = keeps_ok (running_keeps (room n m) (caps_of types query) i j k (work_capacity work) job values l) e

-- in 5 entries: the values, none, are loaded, and the last of the three bodies has no room
J_full : load_values 5 J_typed.job.vars [] ≡ ok []
unfolding everything J_typed J_tables
J_full = refl

J_stops : Running.eval 5 (Typing.root J_typed.job) (env_of []) (size (joined [])) ≡ refused 21 8
unfolding everything J_typed J_tables
J_stops = refl

J_refused : (types query work : ℕ) → 30 ≤ types → 40 ≤ query → 15 ≤ work → work < 18 → run_job (caps_of types query) (work_capacity work) J [] ≡ refused 21 8
unfolding run_job
J_refused types query work i j k l =
    let five : work_capacity work ≡ 5 = omega (arith, k, l) in
    rw (typed_with J 10 10 types query J_least (omega (arith, i)) (omega (arith, j)), five, J_full, J_stops)

-- WHAT A PROMISE GIVES for an accepted run, and for a refused one
module _ {job values u w x : List ℕ} {types query work : ℕ} {r : Result Ran Refusal} (p : RunJob job values types query work r u w x) where
  accepted_leaves : {a : Running.Ran} → run_job (caps_of types query) (work_capacity work) job values ≡ ok a → (told r ≡ ran_of (ok a)) × (x ≡ padded work (forest_words a.loaded ++ forest_words a.result))
  accepted_leaves e = (p.answer ∙ ap ran_of e, p.work_left ∙ ap (work_words work) e)

  refused_leaves : (d : Refusal) → run_job (caps_of types query) (work_capacity work) job values ≡ refused (number_of d.reason) d.place → (r ≡ Err d) × (u ≡ zeros types) × (w ≡ zeros query) × (x ≡ zeros work)
  unfolding ran_of
  refused_leaves d e =
      (told_same r (Err d) (p.answer ∙ ap ran_of e), p.types_left ∙ ap (λ (o : Out Running.Ran). typed_types types (ran_typed o)) e, p.query_left ∙ ap (λ (o : Out Running.Ran). typed_code query (ran_typed o)) e, p.work_left ∙ ap (work_words work) e)

module _ {types query work : ℕ} {r : Result Ran Refusal} {u w x : List ℕ} where
  -- J IN 6 ENTRIES OR MORE: three entries from the first on, and zeros
  pub runs_J : 30 ≤ types → 40 ≤ query → 18 ≤ work → RunJob J [] types query work r u w x → (r ≡ Ok (record { first = 0; length = 3; result = 9; types = 10; nodes = 10; given = given_of J_tables })) × (x ≡ padded work (65 ∷ 2 ∷ 0 ∷ 65 ∷ 3 ∷ 0 ∷ 65 ∷ 2 ∷ 0 ∷ []))
  unfolding ran_of J_typed J_tables J_forest size forest_words everything
  runs_J i j k p =
      let a = accepted_leaves p (ran_with J [] 10 10 6 types query work J_runs (omega (arith, i)) (omega (arith, j)) (omega (arith, k))) in
      (told_ok r a.0, a.1)

  -- so what refuses is no run of it, whatever the number and the place; nor is what writes nothing
  pub J_not_refused : 30 ≤ types → 40 ≤ query → 18 ≤ work → RunJob J [] types query work r u w x → (d : Refusal) → r ≡ Err d → ⊥
  J_not_refused i j k p d e = let q = sym (runs_J i j k p).0 ∙ e in cc

  pub J_not_blank : 30 ≤ types → 40 ≤ query → 18 ≤ work → RunJob J [] types query work r u w x → x ≡ zeros work → ⊥
  unfolding zeros
  J_not_blank i j k p e = omega (arith, ap (λ (l : List ℕ). get_or l 0 0) (sym (runs_J i j k p).1 ∙ e), get_or-replicate {A = ℕ} work 0 0 0 (omega (arith, k)))

  -- J IN 5 ENTRIES: 21 at 8, and every word of the three tables is zero
  pub refuses_J : 30 ≤ types → 40 ≤ query → 15 ≤ work → work < 18 → RunJob J [] types query work r u w x → (r ≡ Err (record { reason = Reason.WorkFull; place = 8 })) × (u ≡ zeros types) × (w ≡ zeros query) × (x ≡ zeros work)
  refuses_J i j k l p = refused_leaves p (record { reason = Reason.WorkFull; place = 8 }) (J_refused types query work i j k l)

  -- TWO TREES: 7[2[]] and 7[3[]] behind the values
  pub runs_two : 24 ≤ types → 16 ≤ query → 24 ≤ work → RunJob two two_values types query work r u w x
      → (r ≡ Ok (record { first = 2; length = 4; result = 7; types = 8; nodes = 4; given = given_of two_typed.job })) × (x ≡ padded work (65 ∷ 2 ∷ 0 ∷ 65 ∷ 3 ∷ 0 ∷ 65 ∷ 7 ∷ 1 ∷ 65 ∷ 2 ∷ 0 ∷ 65 ∷ 7 ∷ 1 ∷ 65 ∷ 3 ∷ 0 ∷ []))
  unfolding ran_of two_typed two_forest two_result size forest_words everything
  runs_two i j k p =
      let a = accepted_leaves p (ran_with two two_values 8 4 8 types query work two_runs (omega (arith, i)) (omega (arith, j)) (omega (arith, k))) in
      (told_ok r a.0, a.1)

  -- so what runs the body on the first tree and copies that result for the rest is no run of it; nor what moves the first body down before the second tree
  -- is read, which then finds 2[] in its place
  pub two_not_first_twice : 24 ≤ types → 16 ≤ query → 24 ≤ work → RunJob two two_values types query work r u w x
      → x ≡ padded work (65 ∷ 2 ∷ 0 ∷ 65 ∷ 3 ∷ 0 ∷ 65 ∷ 7 ∷ 1 ∷ 65 ∷ 2 ∷ 0 ∷ 65 ∷ 7 ∷ 1 ∷ 65 ∷ 2 ∷ 0 ∷ []) → ⊥
  two_not_first_twice i j k p e = omega (arith, ap (λ (l : List ℕ). get_or l 16 0) (sym (runs_two i j k p).1 ∙ e))

  -- P5 ON 2[3[]]: the tree and what is below it
  pub runs_nested : 18 ≤ types → 4 ≤ query → 15 ≤ work → RunJob P5 nested_values types query work r u w x
      → (r ≡ Ok (record { first = 2; length = 3; result = 5; types = 6; nodes = 1; given = given_of nested_typed.job })) × (x ≡ padded work (65 ∷ 2 ∷ 1 ∷ 65 ∷ 3 ∷ 0 ∷ 65 ∷ 2 ∷ 1 ∷ 65 ∷ 3 ∷ 0 ∷ 65 ∷ 3 ∷ 0 ∷ []))
  unfolding ran_of nested_typed nested size forest_words everything
  runs_nested i j k p =
      let a = accepted_leaves p (ran_with P5 nested_values 6 1 5 types query work nested_runs (omega (arith, i)) (omega (arith, j)) (omega (arith, k))) in
      (told_ok r a.0, a.1)

  -- so a dos without the tree itself is none
  pub nested_not_below_alone : 18 ≤ types → 4 ≤ query → 15 ≤ work → RunJob P5 nested_values types query work r u w x → x ≡ padded work (65 ∷ 2 ∷ 1 ∷ 65 ∷ 3 ∷ 0 ∷ 65 ∷ 3 ∷ 0 ∷ []) → ⊥
  nested_not_below_alone i j k p e = omega (arith, ap (λ (l : List ℕ). get_or l 7 0) (sym (runs_nested i j k p).1 ∙ e))
