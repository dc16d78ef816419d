-- A file read whole: where the loop starts, and what is left after acceptance and after a refusal.
-- Assumes nothing.
use mathlib.Core.Path.{◌≡◌, refl, sym, ap, ◌∙◌}
use mathlib.Core.List.{List, [], ◌∷◌}
use Prim.Native.Nat.{ℕ, ◌*◌, ◌-◌, ◌≤◌, ◌<◌}
use native.Mathlib.Omega.{arith}
use borrow.Author.Tests.{le-leb}
use lib.ListN.{length}
use Rattle.meaning.specs.Base.{Out, ok, refused, concat_map, zeros, padded, type_width, type_capacity, code_capacity, caps_of}
use Rattle.meaning.specs.Types.{kind_of, fields_of, table_words, base}
use Rattle.meaning.specs.Types as Types
use Rattle.meaning.specs.Records as Records
use Rattle.meaning.specs.Records.{node_words, Tables, fresh, read_from, read_records}
use Rattle.meaning.proofs.Reading.{reads_nothing}
use Rattle.std.specs.Prelude as Std
use Rattle.refusals.specs.declared.Reason.{Reason}
use Rattle.refusals.specs.declared.Refusal.{Refusal}
use Rattle.refusals.specs.Says.{number_of}
use Rattle.words.specs.Tables.{stored}
use Rattle.words.proofs.Rows.{zeros_length}
use Rattle.words.proofs.Tables.{table_more}
use Rattle.reading.specs.declared.Counts.{Counts}
use Rattle.reading.specs.declared.Read.{Read}
use Rattle.reading.specs.Says.{caps, seen, read_of, Left}
use Rattle.reading.specs.Steps.{Counted}
use Rattle.reading.specs.Lists.{Lists, lists, Holds, Blank, Begun, Ends}

-- A CLEARED TABLE, and one with entries 0 and 1
nothing_held : (n : ℕ) → zeros n ≡ padded n []
nothing_held n = ap zeros {x = n} {y = n - 0} (omega arith)

pub cleared : {t : List ℕ} (n : ℕ) → t ≡ zeros n → t ≡ zeros (length t)
cleared n e = e ∙ ap zeros (sym (ap length e ∙ zeros_length n))

pub base_held : {t a u : List ℕ} → Blank t → a ≡ stored t (type_width * 0) (1 ∷ 0 ∷ 0 ∷ []) → u ≡ stored a (type_width * 1) (2 ∷ 0 ∷ 0 ∷ []) → u ≡ padded (length t) (table_words base)
unfolding concat_map kind_of fields_of zeros
base_held {t} {a} blank first second =
    let room = blank.room in
    let one : a ≡ padded (length t) (table_words (Types.empty ∷ [])) = first ∙ ap (λ (l : List ℕ). stored l 0 (1 ∷ 0 ∷ 0 ∷ [])) (blank.clear ∙ nothing_held (length t)) ∙ table_more (length t) [] Types.empty 1 0 0 refl (omega arith) in
    second ∙ ap (λ (l : List ℕ). stored l 3 (2 ∷ 0 ∷ 0 ∷ [])) one ∙ table_more (length t) (Types.empty ∷ []) Types.string 2 0 0 refl (omega arith)

-- WHERE THE LOOP STARTS
module _ {room limit : ℕ} {t u w d v : List ℕ} (blank : Blank t) (p : room ≡ type_capacity (length t)) (q : limit ≡ code_capacity (length w)) where
  pub begun : length u ≡ length t → u ≡ padded (length t) (table_words base) → w ≡ zeros (length w) → d ≡ zeros 64 → v ≡ zeros 48 → Begun room limit (lists u w d v)
  unfolding concat_map
  begun ul held wc dc vc =
      let two = blank.room in
      record {
        least = omega arith;
        few_types = omega arith;
        few_nodes = omega arith;
        types_long = omega arith;
        code_long = omega arith;
        defs_long = ap length dc ∙ zeros_length 64;
        vars_long = ap length vc ∙ zeros_length 48;
        holds = record {
          types = rw ul held;
          code = wc ∙ nothing_held (length w);
          defs = dc ∙ nothing_held 64;
          vars = vc ∙ nothing_held 48;
        };
      }

-- WHAT IS LEFT
read_is : (file : Records.File) (tw cw room limit : ℕ) (s : List ℕ) → room ≡ type_capacity tw → limit ≡ code_capacity cw → 2 ≤ type_capacity tw → read_records file (caps_of tw cw) s ≡ read_from (length s) file (caps room limit) s 0 fresh
unfolding read_records
read_is file tw cw room limit s p q two = rw (← p, ← q, le-leb 2 room (omega (arith, two)))

-- the answer, from what the counts and the lists hold
answer_is : {tw cw : ℕ} (l : Lists) (c : Counts) {t : Tables} → Counted c t → Holds tw cw l t
    → ◌≡◌ {A = Read} (record { types = c.types; nodes = c.nodes; result = c.result; given = record { defs = l.defs; vars = l.vars; used = c.defs; declared = c.vars } }) (seen t)
answer_is l c n h j = record { types = n.types j; nodes = n.nodes j; result = n.result j; given = record { defs = h.defs j; vars = h.vars j; used = n.defs j; declared = n.vars j } }

module _ {tw cw : ℕ} {u w : List ℕ} where
  refused_left : (r : Refusal) (o : Out Tables) → o ≡ refused (number_of r.reason) r.place → u ≡ zeros tw → w ≡ zeros cw → Left tw cw (Std.Err r) u w o
  unfolding read_of
  refused_left r o e q k = record { answer = rw e; types = rw e q; code = rw e k }

  -- under 2 entries of room
  pub left_small : (file : Records.File) (s : List ℕ) → type_capacity tw < 2 → u ≡ zeros tw → w ≡ zeros cw → Left tw cw (Std.Err (record { reason = Reason.TooMany; place = 0 })) u w (read_records file (caps_of tw cw) s)
  left_small file s h = refused_left (record { reason = Reason.TooMany; place = 0 }) (read_records file (caps_of tw cw) s) (reads_nothing (caps_of tw cw) file s h)

  module _ (file : Records.File) (s : List ℕ) {room limit : ℕ} (p : room ≡ type_capacity tw) (q : limit ≡ code_capacity cw) (two : 2 ≤ type_capacity tw)
      {tl cl : ℕ} (tlong : tl ≡ tw) (clong : cl ≡ cw) (l : Lists) (ut : u ≡ l.types) (wc : w ≡ l.code) where
    pub left_refused : (r : Refusal) → Ends tl cl l (read_from (length s) file (caps room limit) s 0 fresh) (Std.Err r) → Left tw cw (Std.Err r) u w (read_records file (caps_of tw cw) s)
    left_refused r f = refused_left r (read_records file (caps_of tw cw) s) (read_is file tw cw room limit s p q two ∙ f.is) (ut ∙ f.types ∙ ap zeros tlong) (wc ∙ f.code ∙ ap zeros clong)

    pub left_done : (c : Counts) → Ends tl cl l (read_from (length s) file (caps room limit) s 0 fresh) (Std.Ok c)
        → Left tw cw (Std.Ok (record { types = c.types; nodes = c.nodes; result = c.result; given = record { defs = l.defs; vars = l.vars; used = c.defs; declared = c.vars } })) u w (read_records file (caps_of tw cw) s)
    unfolding read_of
    left_done c f =
        let is : read_records file (caps_of tw cw) s ≡ ok f.tables = read_is file tw cw room limit s p q two ∙ f.is in
        let h = f.holds in
        rw is (record {
          answer = ap (λ (x : Read). ok x) (answer_is l c f.counts h);
          types = ut ∙ h.types ∙ ap (λ (k : ℕ). padded k (table_words f.tables.types)) tlong;
          code = wc ∙ h.code ∙ ap (λ (k : ℕ). padded k (concat_map node_words f.tables.code)) clong;
        })

-- the same for tables of the same lengths
pub left_same : {a b tw cw : ℕ} {r : Std.Result Read Refusal} {u w : List ℕ} (file : Records.File) (s : List ℕ) → a ≡ tw → b ≡ cw → Left a b r u w (read_records file (caps_of a b) s) → Left tw cw r u w (read_records file (caps_of tw cw) s)
left_same file s p q h = rw (← p, ← q) h
