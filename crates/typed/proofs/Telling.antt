-- For callers: what an answer tells. An accepted job's tables are held, and it is typed well; a refused one is refused so.
-- Assumes nothing.
use mathlib.Core.Path.{◌≡◌, refl, ap, ◌∙◌}
use mathlib.Core.List.{List}
use Prim.Native.Nat.{ℕ, ◌-◌, ◌≤◌}
use native.Mathlib.Omega.{arith}
use lib.ListN.{length, take, length-append}
use lib.Seq.{take_at}
use Rattle.meaning.specs.Base.{Out, ok, refused, concat_map, zeros, padded, caps_of, type_width, code_width}
use Rattle.meaning.specs.Types.{entry_words, table_words}
use Rattle.meaning.specs.Records.{node_words}
use Rattle.meaning.specs.Typing as Typing
use Rattle.meaning.specs.Typing.{type_job}
use Rattle.meaning.proofs.Ends.{ends_ok}
use Rattle.meaning.proofs.Jobs.{TypedWell, type_refuses}
use Rattle.meaning.proofs.Reading.{caps_of_small}
use Rattle.words.specs.Tables.{table_of, code_of, vars_of}
use Rattle.words.proofs.Rows.{zeros_length, rows_length}
use Rattle.words.proofs.Tables.{entry_wide, node_wide, table_lent, code_lent}
use Rattle.std.specs.Prelude as Std
use Rattle.refusals.specs.declared.Refusal.{Refusal}
use Rattle.refusals.specs.Says.{number_of}
use Rattle.reading.specs.declared.Given.{Given}
use Rattle.reading.proofs.Decoding.{vars_lent}
use Rattle.typed.specs.declared.Typed.{Typed}
use Rattle.typed.specs.Says.{seen, typed_of, Left, Holds}

-- TABLES THAT ARE HELD: read as entries, definitions, variables and nodes they are the typed job's
module _ {types query : List ℕ} {r : Typed} {t : Typing.Typed} (h : Holds types query r t) where
  pub holds_table : table_of types r.types ≡ t.left.types
  holds_table = ap (table_of types) h.entries ∙ ap (λ (ws : List ℕ). table_of ws (length t.left.types)) h.words ∙ table_lent (length types) t.left.types

  pub holds_defs : take r.given.used r.given.defs ≡ t.job.defs
  holds_defs = ap (λ (x : Given). take x.used x.defs) h.is ∙ take_at t.job.defs (zeros (64 - length t.job.defs)) (length t.job.defs) refl

  pub holds_vars : vars_of r.given.vars r.given.declared ≡ t.job.vars
  holds_vars = ap (λ (x : Given). vars_of x.vars x.declared) h.is ∙ vars_lent 48 t.job.vars

  pub holds_code : code_of query r.nodes ≡ t.job.code
  holds_code = ap (code_of query) h.nodes_are ∙ ap (λ (ws : List ℕ). code_of ws (length t.job.code)) h.code ∙ code_lent (length query) t.job.code

-- AN ACCEPTED JOB
pub record Accepts (tw cw : ℕ) (s : List ℕ) (r : Typed) (u w : List ℕ) : Type 0 where
  pub typed : Typing.Typed
  pub is : type_job (caps_of tw cw) s ≡ ok typed
  pub well : TypedWell (caps_of tw cw) typed
  pub types_long : length u ≡ tw
  pub code_long : length w ≡ cw
  pub holds : Holds u w r typed

padded_long : {n : ℕ} {u : List ℕ} (ws : List ℕ) → length ws ≤ n → u ≡ padded n ws → length u ≡ n
padded_long {n} ws h e = omega (arith, ap length e, length-append ws (zeros (n - length ws)), zeros_length (n - length ws))

module _ {tw cw : ℕ} {u w : List ℕ} (s : List ℕ) where
  told_ok : {r : Typed} (o : Out Typing.Typed) → type_job (caps_of tw cw) s ≡ o → Left tw cw (Std.Ok r) u w o → Accepts tw cw s r u w
  unfolding typed_of
  told_ok {r} (ok t) e k =
      let q : r ≡ seen t = cc (k.answer) in
      let grew : TypedWell (caps_of tw cw) t = ends_ok (rw e at (type_refuses s (caps_of_small tw cw))) in
      let i : length u ≡ tw = padded_long (table_words t.left.types) (omega (arith, rows_length entry_words type_width entry_wide t.left.types, grew.grown.fits)) k.types in
      let j : length w ≡ cw = padded_long (concat_map node_words t.job.code) (omega (arith, rows_length node_words code_width node_wide t.job.code, grew.accepted.few_code)) k.code in
      record {
        typed = t;
        is = e;
        well = grew;
        types_long = i;
        code_long = j;
        holds = record {
          formed = grew.grown.formed;
          low = grew.grown.low;
          words = rw i k.types;
          code = rw j k.code;
          named = ap (λ (x : Typed). x.result) q;
          entries = ap (λ (x : Typed). x.types) q;
          nodes_are = ap (λ (x : Typed). x.nodes) q;
          is = ap (λ (x : Typed). x.given) q;
        };
      }
  told_ok (refused n place) e k = cc (k.answer)

  pub told_accepted : {r : Typed} → Left tw cw (Std.Ok r) u w (type_job (caps_of tw cw) s) → Accepts tw cw s r u w
  told_accepted l = told_ok (type_job (caps_of tw cw) s) refl l

  told_not : {r : Refusal} (o : Out Typing.Typed) → Left tw cw (Std.Err r) u w o → o ≡ refused (number_of r.reason) r.place
  unfolding typed_of
  told_not (ok t) k = cc (k.answer)
  told_not (refused m at) k = cc (k.answer)

  pub told_refused : {r : Refusal} → Left tw cw (Std.Err r) u w (type_job (caps_of tw cw) s) → type_job (caps_of tw cw) s ≡ refused (number_of r.reason) r.place
  told_refused l = told_not (type_job (caps_of tw cw) s) l
