-- The loop's invariant: reading on from here, onto the tables that the lists hold, is reading the whole.
-- Assumes nothing.
use mathlib.Core.Path.{◌≡◌, refl, sym, ap, ◌∙◌}
use mathlib.Core.Bool.{Bool, true, false}
use mathlib.Core.List.{List, [], ◌++◌}
use Prim.Native.Nat.{ℕ, zero, suc, ◌+◌, ◌*◌, ◌-◌, ◌≤◌, ◌<◌}
use native.Mathlib.Omega.{arith}
use borrow.Author.Tests.{le-leb, lt-ltb, le-ltb}
use lib.ListN.{length, drop}
use Rattle.meaning.specs.Base.{Out, ok, ◌>>=◌, zeros, type_width, code_width}
use Rattle.meaning.specs.Records as Records
use Rattle.meaning.specs.Records.{has_section, Tables, fresh, read_record, read_from, read_records}
use Rattle.meaning.proofs.Ends.{ends_ok}
use Rattle.meaning.proofs.Reading.{Small, Read, record_reads, Through, reads}
use Rattle.std.specs.Prelude as Std
use Rattle.refusals.specs.declared.Reason.{Reason}
use Rattle.words.specs.Tables.{vars_of, code_of}
use Rattle.words.proofs.Tables.{code_lent, table_cleared, code_cleared}
use Rattle.records.specs.declared.Section.{Section}
use Rattle.records.specs.declared.File.{File}
use Rattle.records.specs.Says.{file_of, item_of}
use Rattle.records.proofs.Found.{Known-there, there}
use Rattle.reading.specs.declared.Counts.{Counts}
use Rattle.reading.specs.declared.Step.{Step}
use Rattle.reading.specs.Says.{caps}
use Rattle.reading.specs.Steps.{Counted, Shown, with, stepped, Next, Advances}
use Rattle.reading.specs.Lists.{Lists, Holds, Space, Stores, Begun, Finished, Stopped}
use Rattle.reading.proofs.Decoding.{vars_lent}
use Rattle.reading.proofs.Storing.{worded, counted_with, counted_at}
use Rattle.reading.proofs.Storing as Storing

-- reading the whole
abbrev pub all : File → List ℕ → ℕ → ℕ → Out Tables
all file s room limit = read_from (length s) (file_of file) (caps room limit) s 0 fresh

pub record Going (file : File) (s : List ℕ) (room limit : ℕ) (k l : Lists) (here : Counts) : Type 0 where
  pub tables : Tables
  pub fuel : ℕ
  pub within : here.at ≤ length s
  pub enough : length s ≤ fuel + here.at
  pub reads : read_from fuel (file_of file) (caps room limit) s here.at tables ≡ all file s room limit
  pub read : Read (caps room limit) here.at tables
  pub counts : Counted here tables
  pub holds : Holds (length k.types) (length k.code) l tables
  pub begun : Begun room limit k
  pub types_same : length l.types ≡ length k.types
  pub code_same : length l.code ≡ length k.code
  pub defs_same : length l.defs ≡ length k.defs
  pub vars_same : length l.vars ≡ length k.vars

-- THE START
fresh_is : (file : Records.File) (room limit : ℕ) → 2 ≤ room → read_records file (caps room limit) [] ≡ ok fresh
unfolding read_records read_from
fresh_is file room limit h = rw (le-leb 2 room h)

fresh_read : (file : Records.File) (room limit : ℕ) → has_section file Records.value ≡ false → 2 ≤ room → room ≤ 4096 → limit ≤ 1024 → Read (caps room limit) 0 fresh
fresh_read file room limit n h a b =
    let small : Small (caps room limit) = record { types = a; code = b } in
    let through : Through (caps room limit) [] fresh = ends_ok (rw (fresh_is file room limit h) at (reads file [] n small)) in
    let zero : through.at ≡ 0 = omega (arith, through.read.weighs) in
    rw (← zero) through.read

abbrev pub start : Counts
start = record { at = 0; types = 2; defs = 0; vars = 0; nodes = 0; section = Section.Types; result = Std.None }

-- neither a job nor an answer file has values
no_values : (file : File) → has_section (file_of file) Records.value ≡ false
no_values File.Job = refl
no_values File.Answer = refl

pub begin : (file : File) (s : List ℕ) (room limit : ℕ) (k : Lists) → Begun room limit k → Going file s room limit k k start
begin file s room limit k b =
    record {
      tables = fresh;
      fuel = length s;
      within = omega arith;
      enough = omega arith;
      reads = refl;
      read = fresh_read (file_of file) room limit (no_values file) b.least b.few_types b.few_nodes;
      counts = record { types = refl; defs = refl; vars = refl; nodes = refl; section = refl; result = refl };
      holds = b.holds;
      begun = b;
      types_same = refl;
      code_same = refl;
      defs_same = refl;
      vars_same = refl;
    }

-- A TURN
turn : (f : ℕ) (file : Records.File) (room limit : ℕ) (s : List ℕ) (at : ℕ) (t : Tables) → at < length s
    → read_from (suc f) file (caps room limit) s at t ≡ (read_record file (caps room limit) s at t >>= λ r. read_from f file (caps room limit) s r.1 r.0)
unfolding read_from
turn f file room limit s at t l =
    ap (λ (b : Bool). elim b as (λ _. Out Tables) [ true ↦ read_record file (caps room limit) s at t >>= λ r. read_from f file (caps room limit) s r.1 r.0 | false ↦ ok t ]) (lt-ltb at (length s) l)

last : (f : ℕ) (file : Records.File) (room limit : ℕ) (s : List ℕ) (at : ℕ) (t : Tables) → length s ≤ at → read_from f file (caps room limit) s at t ≡ ok t
unfolding read_from
last zero file room limit s at t l = refl
last (suc f) file room limit s at t l =
    ap (λ (b : Bool). elim b as (λ _. Out Tables) [ true ↦ read_record file (caps room limit) s at t >>= λ r. read_from f file (caps room limit) s r.1 r.0 | false ↦ ok t ]) (le-ltb at (length s) l)

module _ {file : File} {s : List ℕ} {room limit : ℕ} {k l : Lists} {here : Counts} (g : Going file s room limit k l here) where
  -- what the counts and the lists show
  shown : Shown here (vars_of l.vars here.vars) (code_of l.code here.nodes) g.tables
  shown =
      record {
        counts = g.counts;
        vars = rw (g.holds.vars, g.counts.vars) (vars_lent 48 g.tables.vars);
        code = rw (g.holds.code, g.counts.nodes) (code_lent (length k.code) g.tables.code);
      }

  -- after the loop
  pub done : length s ≤ here.at → Finished (length k.types) (length k.code) l (all file s room limit) here
  done h =
      record {
        tables = g.tables;
        is = sym g.reads ∙ last g.fuel (file_of file) room limit s here.at g.tables h;
        counts = g.counts;
        holds = g.holds;
      }

  module _ (more : here.at < length s) {x : Std.Result Step Reason} (a : Advances (file_of file) s room limit here (vars_of l.vars here.vars) (code_of l.code here.nodes) x) where
    less_fuel : g.fuel ≡ suc (g.fuel - 1)
    less_fuel = omega (arith, g.enough)

    onward : (y : Std.Result Step Reason) → x ≡ y → (stepped g.tables here.at y >>= λ r. read_from (g.fuel - 1) (file_of file) (caps room limit) s r.1 r.0) ≡ all file s room limit
    onward y e =
        ap (λ (o : Out (Tables × ℕ)). o >>= λ r. read_from (g.fuel - 1) (file_of file) (caps room limit) s r.1 r.0) (ap (stepped g.tables here.at) (sym e) ∙ sym (a.steps g.tables shown))
        ∙ sym (turn (g.fuel - 1) (file_of file) room limit s here.at g.tables more)
        ∙ ap (λ (f : ℕ). read_from f (file_of file) (caps room limit) s here.at g.tables) (sym less_fuel)
        ∙ g.reads

    -- the entries and the nodes that were stored are cleared again, and so are all
    pub refuses : (e : Reason) → x ≡ Std.Err e → (m : Lists) → m.types ≡ zeros (type_width * here.types) ++ drop (type_width * here.types) l.types → m.code ≡ zeros (code_width * here.nodes) ++ drop (code_width * here.nodes) l.code
        → Stopped (length k.types) (length k.code) m (all file s room limit) (record { reason = e; place = here.at })
    refuses e p m t c =
        record {
          is = sym (onward (Std.Err e) p);
          types = table_cleared (length k.types) g.tables.types g.counts.types g.holds.types g.types_same t;
          code = code_cleared (length k.code) g.tables.code g.counts.nodes g.holds.code g.code_same c;
        }

    module _ (y : Step) (e : x ≡ Std.Ok y) where
      moves : Next (file_of file) s here y.item y.next
      moves = rw e at a.goes

      stands : Known-there (file_of file) s here.at (item_of y.item)
      stands = there (file_of file) s here.at (item_of y.item) moves.item

      step_reads : Read (caps room limit) y.item.next (with g.tables y.item) × (here.at + 4 ≤ y.item.next)
      step_reads = ends_ok (rw (a.steps g.tables shown, e) at (record_reads (file_of file) s (no_values file) g.read))

      next_at : y.next.at ≡ y.item.next
      next_at = ap (λ (c : Counts). c.at) moves.counts ∙ counted_at here y.item y.item.form.section

      pub space : Space y.item here l
      space =
          let b = g.begun in
          Storing.space step_reads.0 g.counts (omega (arith, b.types_long, g.types_same)) (omega (arith, b.code_long, g.code_same)) (g.defs_same ∙ b.defs_long) (g.vars_same ∙ b.vars_long)

      pub less : length s - y.next.at < length s - here.at
      less = omega (arith, step_reads.1, next_at)

      pub goes : (m : Lists) → Stores y.item here l m → length m.types ≡ length l.types → length m.code ≡ length l.code → length m.defs ≡ length l.defs → length m.vars ≡ length l.vars → Going file s room limit k m y.next
      goes m st tl cl dl vl =
          let b = g.begun in
          record {
            tables = with g.tables y.item;
            fuel = g.fuel - 1;
            within = omega (arith, next_at, stands.within);
            enough = omega (arith, next_at, step_reads.1, g.enough);
            reads = rw next_at (onward (Std.Ok y) e);
            read = rw next_at step_reads.0;
            counts = rw moves.counts (counted_with y.item (no_values file) stands g.counts);
            holds = rw (← g.types_same, ← g.code_same) (st g.tables (worded stands moves.filled) g.counts (rw (g.types_same, g.code_same) g.holds) (g.defs_same ∙ b.defs_long) (g.vars_same ∙ b.vars_long));
            begun = b;
            types_same = tl ∙ g.types_same;
            code_same = cl ∙ g.code_same;
            defs_same = dl ∙ g.defs_same;
            vars_same = vl ∙ g.vars_same;
          }
