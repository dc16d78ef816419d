-- Typed jobs by the promise. P10 is accepted with tables of 6 and 4 words or more, so what refuses every job is no typer. Its type is String, and that
-- of the query () alone is (), so what calls every output the same type is none. Job J has document 01's entries, and with room for 9 it is refused,
-- 16 at 9, and every word is zero. What is typed is settled by a job's first 43,520 bytes.
-- Assumes nothing.
use mathlib.Core.Path.{◌≡◌, refl, ap, sym, ◌∙◌}
use mathlib.Core.List.{List, [], ◌∷◌, ◌++◌}
use mathlib.Core.Option.{Option, none, some}
use Prim.Native.Nat.{ℕ, ◌≤◌, ◌<◌}
use native.Mathlib.Omega.{arith}
use lib.ListN.{take}
use Rattle.meaning.specs.Base.{ok, refused, zeros, padded, type_capacity, code_capacity, Caps, caps_of}
use Rattle.meaning.specs.Types as Types
use Rattle.meaning.specs.Types.{Entry, element, pair, union, plus, base, table_words}
use Rattle.meaning.specs.Records as Records
use Rattle.meaning.specs.Records.{node, Tables}
use Rattle.meaning.specs.Checks.{read_job}
use Rattle.meaning.specs.Typing as Typing
use Rattle.meaning.specs.Typing.{type_tables, type_job, typed_types, typed_code}
use Rattle.meaning.specs.Worked as Worked
use Rattle.meaning.specs.Worked.{P10}
use Rattle.meaning.proofs.Ends.{keeps_ok}
use Rattle.meaning.proofs.Reading.{caps_of_small}
use Rattle.meaning.proofs.Larger.{read_keeps}
use Rattle.meaning.proofs.Jobs.{typing_keeps, prefix_typing}
use Rattle.meaning.proofs.Worked.{everything}
use Rattle.words.specs.Tables.{entry_at}
use Rattle.std.specs.Prelude.{Result, Ok, Err}
use Rattle.refusals.specs.declared.Reason.{Reason}
use Rattle.refusals.specs.declared.Refusal.{Refusal}
use Rattle.refusals.specs.Says.{told, number_of}
use Rattle.refusals.proofs.Told.{told_ok, told_same}
use Rattle.reading.specs.Says.{given_of}
use Rattle.typed.specs.declared.Typed.{Typed}
use Rattle.typed.specs.Says.{typed_of}
use Rattle.emberstitch.specs.Promises.{TypeJob}
use Rattle.emberstitch.proofs.Jobs.{P10_tables}

-- THE JOBS. P10; one record, the query (); and document 01's J
P10_typed : Typing.Typed
P10_typed = record { job = P10_tables; left = record { types = base }; result = 1 }

unfoldable pub nothing : List ℕ
nothing = Worked.job_of ((32 ∷ []) ∷ [])

pub nothing_typed : Typing.Typed
nothing_typed = record { job = record { types = base; defs = []; vars = []; code = node 32 0 0 0 ∷ []; result = none; section = Records.query }; left = record { types = base }; result = 0 }

unfoldable pub J : List ℕ
J =
    Worked.job_of
    ((32 ∷ []) ∷ (34 ∷ 2 ∷ 0 ∷ []) ∷ (32 ∷ []) ∷ (34 ∷ 3 ∷ 2 ∷ []) ∷ (32 ∷ []) ∷ (34 ∷ 2 ∷ 4 ∷ []) ∷ (35 ∷ 3 ∷ 5 ∷ []) ∷ (35 ∷ 1 ∷ 6 ∷ []) ∷ (36 ∷ 0 ∷ []) ∷ (39 ∷ 0 ∷ 7 ∷ 8 ∷ []) ∷ [])

unfoldable pub J_tables : Tables
J_tables =
    record {
      types = base;
      defs = [];
      vars = [];
      code = node 32 0 0 0 ∷ node 34 2 0 0 ∷ node 32 0 0 0 ∷ node 34 3 2 0 ∷ node 32 0 0 0 ∷ node 34 2 4 0 ∷ node 35 3 5 0 ∷ node 35 1 6 0 ∷ node 36 0 0 0 ∷ node 39 0 7 8 ∷ [];
      result = none;
      section = Records.query;
    }

unfoldable pub J_typed : Typing.Typed
J_typed =
    record {
      job = J_tables;
      left = record { types = base ++ (element 2 0 ∷ element 3 0 ∷ element 2 0 ∷ pair 3 4 ∷ pair 2 5 ∷ union 3 4 ∷ union 2 7 ∷ plus 8 ∷ []) };
      result = 9;
    }

-- the words of the paper's lines
unfoldable pub J_words : List ℕ
J_words =
    1 ∷ 0 ∷ 0
    ∷ 2 ∷ 0 ∷ 0
    ∷ 3 ∷ 2 ∷ 0
    ∷ 3 ∷ 3 ∷ 0
    ∷ 3 ∷ 2 ∷ 0
    ∷ 4 ∷ 3 ∷ 4
    ∷ 4 ∷ 2 ∷ 5
    ∷ 5 ∷ 3 ∷ 4
    ∷ 5 ∷ 2 ∷ 7
    ∷ 7 ∷ 8 ∷ 0
    ∷ []

J_written : table_words J_typed.left.types ≡ J_words
unfolding everything J_typed J_words
J_written = refl

-- with the least room; and with more
abbrev pub room : ℕ → ℕ → Caps
room types code = record { types = types; code = code }

P10_least : type_job (room 2 1) P10 ≡ ok P10_typed
unfolding everything P10_typed P10_tables
P10_least = refl

nothing_least : type_job (room 2 1) nothing ≡ ok nothing_typed
unfolding everything nothing nothing_typed
nothing_least = refl

pub J_least : type_job (room 10 10) J ≡ ok J_typed
unfolding everything J J_typed J_tables
J_least = refl

J_reads : read_job (room 2 10) J ≡ ok J_tables
unfolding everything J J_tables
J_reads = refl

J_full : type_tables 9 J_tables ≡ refused 16 9
unfolding everything J_tables
J_full = refl

pub typed_with : (job : List ℕ) {t : Typing.Typed} (n m types query : ℕ) → type_job (room n m) job ≡ ok t → n ≤ type_capacity types → m ≤ code_capacity query → type_job (caps_of types query) job ≡ ok t
typed_with job n m types query e l k = keeps_ok (typing_keeps (room n m) (caps_of types query) l k job) e

J_refused : (types query : ℕ) → 27 ≤ types → types < 30 → 40 ≤ query → type_job (caps_of types query) J ≡ refused 16 9
unfolding type_job
J_refused types query l k m =
    let nine : type_capacity types ≡ 9 = omega (arith, l, k) in
    rw (keeps_ok (read_keeps (room 2 10) (caps_of types query) (omega (arith, l)) (omega (arith, m)) J) J_reads, nine) J_full

-- WHAT A PROMISE GIVES for an accepted job, and for a refused one
module _ {job u w : List ℕ} {types query : ℕ} {r : Result Typed Refusal} (p : TypeJob job types query r u w) where
  accepted_leaves : {t : Typing.Typed} → type_job (caps_of types query) job ≡ ok t → (told r ≡ typed_of (ok t)) × (u ≡ padded types (table_words t.left.types))
  accepted_leaves e = (p.answer ∙ ap typed_of e, p.types_left ∙ ap (typed_types types) e)

  refused_leaves : (x : Refusal) → type_job (caps_of types query) job ≡ refused (number_of x.reason) x.place → (r ≡ Err x) × (u ≡ zeros types) × (w ≡ zeros query)
  unfolding typed_of
  refused_leaves x e = (told_same r (Err x) (p.answer ∙ ap typed_of e), p.types_left ∙ ap (typed_types types) e, p.query_left ∙ ap (typed_code query) e)

-- the entry that an answer names, in the words that are left
abbrev pub named : Result Typed Refusal → List ℕ → Option Entry
named (Ok t) u = some (entry_at u t.result)
named (Err r) u = none

module _ {types query : ℕ} {r : Result Typed Refusal} {u w : List ℕ} where
  -- P10: result 1, two entries
  pub types_P10 : 6 ≤ types → 4 ≤ query → TypeJob P10 types query r u w → (r ≡ Ok (record { result = 1; types = 2; nodes = 1; given = given_of P10_tables })) × (named r u ≡ some Types.string)
  unfolding typed_of P10_typed P10_tables everything
  types_P10 l m p =
      let a = accepted_leaves p (typed_with P10 2 1 types query P10_least (omega (arith, l)) (omega (arith, m))) in
      let e : r ≡ Ok (record { result = 1; types = 2; nodes = 1; given = given_of P10_tables }) = told_ok r a.0 in
      (e, rw (e, a.1))

  -- the query (): result 0
  pub types_nothing : 6 ≤ types → 4 ≤ query → TypeJob nothing types query r u w → (r ≡ Ok (record { result = 0; types = 2; nodes = 1; given = given_of nothing_typed.job })) × (named r u ≡ some Types.empty)
  unfolding typed_of nothing_typed everything
  types_nothing l m p =
      let a = accepted_leaves p (typed_with nothing 2 1 types query nothing_least (omega (arith, l)) (omega (arith, m))) in
      let e : r ≡ Ok (record { result = 0; types = 2; nodes = 1; given = given_of nothing_typed.job }) = told_ok r a.0 in
      (e, rw (e, a.1))

  -- J: result 9, ten entries
  pub types_J : 30 ≤ types → 40 ≤ query → TypeJob J types query r u w → (r ≡ Ok (record { result = 9; types = 10; nodes = 10; given = given_of J_tables })) × (u ≡ padded types J_words)
  unfolding typed_of J_typed J_tables
  types_J l m p =
      let a = accepted_leaves p (typed_with J 10 10 types query J_least (omega (arith, l)) (omega (arith, m))) in
      (told_ok r a.0, a.1 ∙ ap (padded types) J_written)

  pub refuses_J : 27 ≤ types → types < 30 → 40 ≤ query → TypeJob J types query r u w → (r ≡ Err (record { reason = Reason.TypesFull; place = 9 })) × (u ≡ zeros types) × (w ≡ zeros query)
  refuses_J l k m p = refused_leaves p (record { reason = Reason.TypesFull; place = 9 }) (J_refused types query l k m)

  -- A LONGER JOB is typed as its first 43,520 bytes are
  pub prefix : (n : ℕ) → 43520 ≤ n → (s : List ℕ) → TypeJob (take n s) types query r u w → TypeJob s types query r u w
  prefix n far s p =
      let e = prefix_typing (caps_of_small types query) n far s in
      record { answer = p.answer ∙ ap typed_of e; types_left = p.types_left ∙ ap (typed_types types) e; query_left = p.query_left ∙ ap (typed_code query) e }

-- NO ONE ANSWER is that of P10 and that of the query ()
pub no_one_answer : {types query : ℕ} {r : Result Typed Refusal} {u w u₁ w₁ : List ℕ} → 6 ≤ types → 4 ≤ query → TypeJob P10 types query r u w → TypeJob nothing types query r u₁ w₁ → ⊥
no_one_answer l m p q =
    let e : ◌≡◌ {A = Result Typed Refusal} (Ok (record { result = 1; types = 2; nodes = 1; given = given_of P10_tables })) (Ok (record { result = 0; types = 2; nodes = 1; given = given_of nothing_typed.job }))
    = sym (types_P10 l m p).0 ∙ (types_nothing l m q).0 in
    let z : ◌≡◌ {A = Typed} (record { result = 1; types = 2; nodes = 1; given = given_of P10_tables }) (record { result = 0; types = 2; nodes = 1; given = given_of nothing_typed.job }) = cc in
    omega (arith, ap (λ (t : Typed). t.result) z)

-- and no one type
pub no_one_type : {types query types₁ query₁ : ℕ} {r r₁ : Result Typed Refusal} {u w u₁ w₁ : List ℕ} → 6 ≤ types → 4 ≤ query → 6 ≤ types₁ → 4 ≤ query₁ → TypeJob P10 types query r u w → TypeJob nothing types₁ query₁ r₁ u₁ w₁
    → (x : Entry) → named r u ≡ some x → named r₁ u₁ ≡ some x → ⊥
no_one_type l m l₁ m₁ p q x e f =
    let k : some Types.string ≡ some Types.empty = sym (types_P10 l m p).1 ∙ e ∙ sym f ∙ (types_nothing l₁ m₁ q).1 in
    let z : ◌≡◌ {A = ℕ} 0 1 = cc in
    omega arith
