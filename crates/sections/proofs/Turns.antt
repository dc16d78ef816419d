-- The turns of the two loops over a query table's nodes: the bytes so far, and the records put so far; and what the writer leaves.
-- Assumes nothing.
use mathlib.Core.Path.{◌≡◌, refl, sym, ap, subst, ◌∙◌}
use mathlib.Core.List.{List}
use Prim.Native.Nat.{ℕ, ◌+◌, ◌≤◌, ◌<◌}
use native.Mathlib.Omega.{arith}
use lib.ListN.{length, take}
use borrow.Author.Tests.{le-leb, lt-leb}
use Rattle.meaning.specs.Base.{ok, refused, concat_map, zeros, padded}
use Rattle.meaning.specs.Records.{Node, node, node_at}
use Rattle.meaning.specs.Texts.{node_record, fitted}
use Rattle.meaning.proofs.FileLength.{concat_short}
use Rattle.words.specs.declared.Node as Words
use Rattle.answers.specs.Parts.{Extends}
use Rattle.answers.proofs.Extending.{all_held}
use Rattle.answers.proofs.Putting.{coming, coming_length, coming_end, Putting, putting_none, putting_room, putting_more, putting_all}
use Rattle.refusals.specs.declared.Reason.{Reason}
use Rattle.std.specs.Prelude as Std
use Rattle.sections.specs.Says.{size_of, Left}
use Rattle.sections.proofs.Fields.{few, record_size}

abbrev zero_node : Node
zero_node = node 0 0 0 0

abbrev as_node : Words.Node → Node
as_node w = node w.kind w.a w.b w.c

-- a node that was read
abbrev pub Read : List Node → ℕ → Words.Node → Type 0
Read C i w = as_node w ≡ node_at C i

module _ (C : List Node) where
  abbrev pub all : List ℕ
  all = concat_map node_record C

  next_length : {i : ℕ} → i < length C → (w : Words.Node) → Read C i w → length (coming node_record C i) ≡ size_of w.kind + length (coming node_record C (i + 1))
  next_length {i} h w e =
      coming_length node_record C zero_node i (omega arith)
      ∙ ap (λ (x : Node). length (node_record x) + length (coming node_record C (i + 1))) (sym e)
      ∙ ap (λ (n : ℕ). n + length (coming node_record C (i + 1))) (record_size (as_node w))

  short : length C ≤ 1024 → length all ≤ 10240
  short l = omega (arith, concat_short node_record 10 (λ x. omega (arith, record_size x, few x.kind)) C, l)

  -- n bytes so far
  pub record Sizing (n i : ℕ) : Type 0 where
    pub to : i ≤ length C
    pub most : length all ≤ 10240
    pub whole : n + length (coming node_record C i) ≡ length all

  pub sizing_none : length C ≤ 1024 → Sizing 0 0
  sizing_none l = record { to = omega arith; most = short l; whole = omega arith }

  module _ {n i r : ℕ} (s : Sizing n i) (h : i < length C) (w : Words.Node) (p : Read C i w) (e : r ≡ size_of w.kind) where
    pub sizing_more : Sizing (n + r) (i + 1)
    sizing_more = record { to = omega arith; most = s.most; whole = omega (arith, s.whole, next_length h w p, e) }

    pub sizing_room : n + r ≤ 10240
    sizing_room = omega (arith, s.most, s.whole, next_length h w p, e)

  pub sizing_all : {n i : ℕ} → Sizing n i → length C ≤ i → n ≡ length all
  sizing_all {i = i} s h = omega (arith, s.whole, coming_end node_record C i (omega arith))

  -- the records so far
  pub record Recording (before buffer : List ℕ) (place i : ℕ) : Type 0 where
    pub to : i ≤ length C
    pub long : length buffer ≡ length before
    pub fits : length all ≤ length before
    pub put : Putting node_record C 0 0 before buffer place i

  pub recording_none : {t : List ℕ} → length all ≤ length t → Recording t t 0 0
  recording_none h = record { to = omega arith; long = refl; fits = h; put = putting_none node_record C }

  module _ {t u : List ℕ} {place i : ℕ} (s : Recording t u place i) (h : i < length C) (w : Words.Node) (p : Read C i w) where
    pub recording_room : place + size_of w.kind ≤ length u
    recording_room = omega (arith, s.long, s.fits, putting_room node_record C s.put, next_length h w p)

    pub recording_more : {v : List ℕ} {next : ℕ} → length v ≡ length u → Extends place next (node_record (as_node w)) u v → Recording t v next (i + 1)
    recording_more {v} {next} l x =
        record {
          to = omega arith;
          long = l ∙ s.long;
          fits = s.fits;
          put = putting_more node_record C zero_node s.put (omega arith) (subst (λ (y : Node). Extends place next (node_record y) u v) p x);
        }

  pub recording_all : {t u : List ℕ} {place i : ℕ} → Recording t u place i → length C ≤ i → Extends 0 (length all) all t u
  recording_all {t} {u} {place} s h =
      let x = putting_all node_record C s.put (omega arith) in
      let n : place ≡ length all = omega (arith, x.next) in
      subst (λ (m : ℕ). Extends 0 m all t u) n x

  -- WHAT IS LEFT: the section with zeros after it, or zeros
  pub left_written : (room : ℕ) {n : ℕ} {t u v : List ℕ} → n ≡ length all → n ≤ room → Extends 0 (length all) all t u → length u ≡ room → v ≡ padded (length u) (take n u) → Left room (Std.Ok n) v (fitted room all)
  left_written room {n} {u = u} e h x l z =
      let held : take n u ≡ all = ap (λ (k : ℕ). take k u) e ∙ all_held x in
      record { answer = simp (le-leb (length all) room (omega arith)) (ap (λ (k : ℕ). ok k) e); bytes = simp (le-leb (length all) room (omega arith)) (z ∙ rw (l, held) refl) }

  pub left_short : (room : ℕ) {n : ℕ} {u : List ℕ} → n ≡ length all → room < n → u ≡ zeros room → Left room (Std.Err (record { reason = Reason.RoomShort; place = n })) u (fitted room all)
  left_short room e h z = record { answer = simp (lt-leb (length all) room (omega arith)) (ap (λ (k : ℕ). refused 30 k) e); bytes = simp (lt-leb (length all) room (omega arith)) z }
