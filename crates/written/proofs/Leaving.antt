-- What the writer leaves: the text with zeros after it, or zeros.
-- Assumes nothing.
use mathlib.Core.Path.{◌≡◌, sym, ap, subst, ◌∙◌}
use mathlib.Core.Bool.{true}
use mathlib.Core.List.{List}
use mathlib.Core.Option.{Option, none, some}
use Prim.Native.Nat.{ℕ, ◌≤◌, ◌<◌}
use native.Mathlib.Omega.{arith}
use lib.ListN.{length, take}
use borrow.Author.Tests.{le-leb, lt-leb}
use Rattle.std.specs.Prelude as Std
use Rattle.meaning.specs.Base.{Out, ok, refused, ◌>>=◌, refuse_at, lent, zeros, padded}
use Rattle.meaning.specs.Queries.{Query}
use Rattle.meaning.specs.Texts.{fitted}
use Rattle.meaning.specs.Written.{text_of, deep_query, least, spoken}
use Rattle.refusals.specs.declared.Reason.{Reason}
use Rattle.words.specs.Says.{found}
use Rattle.words.proofs.Stores.{blanked_whole}
use Rattle.written.specs.declared.Told.{Told}
use Rattle.written.specs.Says.{Tells, Left}

-- WHAT IS LEFT: the text with zeros after it, or zeros
module _ {q : Query} {t u : List ℕ} {r : Told} (x : Tells q r t u) where
  abbrev room : ℕ
  room = length t

  abbrev said : Option ℕ → Out (List ℕ)
  said o = refuse_at 23 o >>= λ _. fitted room (text_of q)

  abbrev size_of : Out (List ℕ) → Out ℕ
  size_of o = o >>= λ bytes. ok (length bytes)

  blank : {v : List ℕ} → v ≡ padded (length u) (take 0 u) → v ≡ zeros room
  blank z = blanked_whole u z ∙ ap zeros x.long

  pub left_deep : {n : ℕ} {v : List ℕ} → r.deep ≡ Std.Some n → v ≡ padded (length u) (take 0 u) → Left room (Std.Err (record { reason = Reason.TooDeep; place = n })) v (spoken room q)
  left_deep {n} e z =
      let p : some n ≡ least (deep_query true 0 q) = sym (ap found e) ∙ x.deep in
      record { answer = ap (λ (o : Option ℕ). size_of (said o)) p; bytes = blank z ∙ ap (λ (o : Option ℕ). lent room (λ (bytes : List ℕ). bytes) (said o)) p }

  module _ (e : r.deep ≡ Std.None) where
    shallow : none ≡ least (deep_query true 0 q)
    shallow = sym (ap found e) ∙ x.deep

    pub left_short : {v : List ℕ} → length u < r.bytes → v ≡ padded (length u) (take 0 u) → Left room (Std.Err (record { reason = Reason.RoomShort; place = r.bytes })) v (spoken room q)
    left_short {v} h z =
        let l : room < length (text_of q) = omega (arith, x.size, x.long) in
        let fits = lt-leb (length (text_of q)) room l in
        subst (λ (o : Option ℕ). Left room (Std.Err (record { reason = Reason.RoomShort; place = r.bytes })) v (said o)) shallow
        (record { answer = simp fits (ap (λ (n : ℕ). refused 30 n) x.size); bytes = simp fits (blank z) })

    pub left_written : {v : List ℕ} → r.bytes ≤ length u → v ≡ padded (length u) (take r.bytes u) → Left room (Std.Ok r.bytes) v (spoken room q)
    left_written {v} h z =
        let l : length (text_of q) ≤ room = omega (arith, x.size, x.long) in
        let fits = le-leb (length (text_of q)) room l in
        let held = x.holds (omega (arith, x.long)) in
        subst (λ (o : Option ℕ). Left room (Std.Ok r.bytes) v (said o)) shallow
        (record { answer = simp fits (ap ok x.size); bytes = simp fits (z ∙ (λ i. padded (x.long i) (held i))) })
