-- The whole file: its length, its parts one behind the other, and what is left in the buffer where it fits and where it does not.
-- Assumes nothing.
use mathlib.Core.Path.{◌≡◌, refl, ap, subst, ◌∙◌}
use mathlib.Core.List.{List, [], ◌∷◌, ◌++◌}
use Prim.Native.Nat.{ℕ, ◌+◌, ◌*◌, ◌≤◌, ◌<◌}
use native.Mathlib.Omega.{arith}
use lib.ListN.{length, take, length-append}
use borrow.Author.Tests.{le-leb, lt-leb}
use Rattle.meaning.specs.Base.{ok, refused, zeros, padded}
use Rattle.meaning.specs.Kinds
use Rattle.meaning.specs.Types.{Table, Defs}
use Rattle.meaning.specs.Answers.{record_of, answer_file, fitted}
use Rattle.meaning.proofs.FileLength.{record_length, file_short}
use Rattle.std.specs.Prelude as Std
use Rattle.refusals.specs.declared.Reason.{Reason}
use Rattle.answers.specs.Says.{Ready, Left}
use Rattle.answers.specs.Parts.{type_bytes, def_bytes, Typed, Extends}
use Rattle.answers.proofs.Extending.{extends_then, all_held}
use Rattle.answers.proofs.Turns.{def_length}

module _ {T : Table} {D : Defs} {result : ℕ} (r : Ready T D result) where
  abbrev file : List ℕ
  file = answer_file T D result

  pub typed : Typed T
  typed = record { defs = D; formed = r.formed }

  pub file_length : length file ≡ length (type_bytes T) + 6 * length D + 6
  unfolding answer_file
  file_length =
      let last = record_of Kinds.record·result (result ∷ []) in
      omega (
        arith,
        length-append (type_bytes T) (def_bytes D ++ last),
        length-append (def_bytes D) last,
        def_length D,
        record_length Kinds.record·result (result ∷ []),
      )

  pub file_small : length file ≤ 33158
  file_small = omega (arith, file_short T D result, r.formed.few, r.formed.few_defs)

  pub result_small : result < 4096
  result_small = omega (arith, r.low, r.formed.few)

  -- its parts, one behind the other
  pub file_put : {from last here next : ℕ} {t u v x : List ℕ} → Extends 0 from (type_bytes T) t u → Extends from last (def_bytes D) u v
      → here ≡ last → Extends here next (record_of Kinds.record·result (result ∷ [])) v x → Extends 0 (length file) file t x
  unfolding answer_file
  file_put {next = next} {t = t} {v = v} {x = x} one two behind three =
      let end = subst (λ (n : ℕ). Extends n next (record_of Kinds.record·result (result ∷ [])) v x) behind three in
      let all = extends_then one (extends_then two end) in
      let place : next ≡ length file = omega (arith, all.next) in
      subst (λ (n : ℕ). Extends 0 n file t x) place all

  -- what is left: the file with zeros after it, or zeros
  pub left_written : (room : ℕ) {n : ℕ} {t u v : List ℕ} → n ≡ length file → n ≤ room → Extends 0 (length file) file t u → length u ≡ room → v ≡ padded (length u) (take n u) → Left room (Std.Ok n) v (fitted room file)
  left_written room {n} {u = u} e h x l z =
      let held : take n u ≡ file = ap (λ (k : ℕ). take k u) e ∙ all_held x in
      record { answer = simp (le-leb (length file) room (omega arith)) (ap (λ (k : ℕ). ok k) e); bytes = simp (le-leb (length file) room (omega arith)) (z ∙ rw (l, held) refl) }

  pub left_short : (room : ℕ) {n : ℕ} {u : List ℕ} → n ≡ length file → room < n → u ≡ zeros room → Left room (Std.Err (record { reason = Reason.AnswerShort; place = n })) u (fitted room file)
  left_short room e h z =
      record { answer = simp (lt-leb (length file) room (omega arith)) (ap (λ (k : ℕ). refused 17 k) e); bytes = simp (lt-leb (length file) room (omega arith)) z }
