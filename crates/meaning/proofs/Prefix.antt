-- Reading looks at a bounded part of a file: the tables' limits end it by byte 43,510, and a record has at most 10 bytes. So a program that takes the
-- first 43,520 bytes of any input does what it would do with all of it.
-- Assumes nothing.
use mathlib.Core.Path.{◌≡◌, refl, sym, ap, ◌∙◌}
use mathlib.Core.Bool.{Bool, true, false}
use mathlib.Core.List.{List, [], ◌∷◌}
use mathlib.Core.Option.{Option, none, some}
use Prim.Native.Nat.{ℕ, zero, suc, ◌+◌, ◌*◌, ◌≤◌, ◌<◌}
use native.Mathlib.Omega.{arith}
use native.Mathlib.Decide.{dec_le}
use borrow.Author.Tests.{le-leb, leb-true, lt-ltb}
use lib.Dec.{leb, eqb}
use lib.ListN.{length, take, length-take}
use lib.Seq.{get_or-take, take_all}
use Rattle.meaning.specs.Base.{Out, ok, refused, ◌>>=◌, require, given, find, word, Caps}
use Rattle.meaning.specs.Records as Records
use Rattle.meaning.specs.Records.{Section, Sort, Form, forms, File, has_section, form_in, Record, fields_at, length_of, record_at, Tables, read_record, read_from, read_records, fresh}
use Rattle.meaning.specs.Checks.{check_job, read_job}
use Rattle.meaning.proofs.Ends.{Ends, gives, stops}
use Rattle.meaning.proofs.Grammar.{form_length, longest, own_form_lem}
use Rattle.meaning.proofs.Reading as Reading
use Rattle.meaning.proofs.Reading.{Small, Read, weight_bound, record_reads, fresh_reads, Through, Stopped, reads}

-- one record of what is left
pub one_step : (k : ℕ) (file : File) (caps : Caps) (s : List ℕ) (at : ℕ) (t : Tables) → at < length s → read_from (suc k) file caps s at t ≡ (read_record file caps s at t >>= λ r. read_from k file caps s r.1 r.0)
unfolding read_from
one_step k file caps s at t h = simp (lt-ltb at (length s) h, read_from)

module _ (s : List ℕ) (n : ℕ) (cut : n ≤ length s) where
  -- the first n bytes
  abbrev front : List ℕ
  front = take n s

  front_length : length front ≡ n
  front_length = omega (arith, length-take n s)

  front_word : (at : ℕ) → at + 2 ≤ n → word front at ≡ word s at
  front_word at h = rw (get_or-take n s at 0 (omega arith), get_or-take n s (at + 1) 0 (omega arith))

  front_fields : (ss : List Sort) (at : ℕ) → at + 2 * length ss ≤ n → fields_at front at ss ≡ fields_at s at ss
  unfolding fields_at
  front_fields [] at h = refl
  front_fields (x ∷ ss) at h = rw (front_word at (omega arith), front_fields ss (at + 2) (omega arith))

  longest_ten : (section : Section) → longest section ≤ 10
  longest_ten Records.types = omega arith
  longest_ten Records.definitions = omega arith
  longest_ten Records.variables = omega arith
  longest_ten Records.query = omega arith
  longest_ten Records.result = omega arith
  longest_ten Records.value = omega arith

  form_ten : (file : File) (k : ℕ) (f : Form) → form_in file k ≡ some f → length_of f ≤ 10
  form_ten file k f e = let own = own_form_lem file (find k forms) f e in omega (arith, (form_length k own.0).1, longest_ten f.section)

  -- a record that ends within them is the same
  abbrev behind : List ℕ → ℕ → Form → Out Record
  behind s at f =
      do
        _ ← require (eqb (word s at) (length_of f)) 3 at
        _ ← require (leb (at + length_of f) (length s)) 1 at
        ok (record { kind = word s (at + 2); form = f; fields = fields_at s (at + 4) f.sorts; next = at + length_of f })

  front_behind : (at : ℕ) (f : Form) → length_of f ≤ 10 → at + 10 ≤ n → behind front at f ≡ behind s at f
  front_behind at f short h =
      rw (front_word at (omega arith), front_word (at + 2) (omega arith), le-leb (at + length_of f) (length front) (omega (arith, front_length)), le-leb (at + length_of f) (length s) (omega arith), front_fields f.sorts (at + 4) (omega arith))

  front_given : (at : ℕ) (file : File) (o : Option Form) → form_in file (word s (at + 2)) ≡ o → at + 10 ≤ n → (given o 2 at >>= behind front at) ≡ (given o 2 at >>= behind s at)
  front_given at file none e h = refl
  front_given at file (some f) e h = front_behind at f (form_ten file (word s (at + 2)) f e) h

  front_record : (file : File) (at : ℕ) → at + 10 ≤ n → record_at file front at ≡ record_at file s at
  unfolding record_at
  front_record file at h =
      rw (le-leb (at + 4) (length front) (omega (arith, front_length)), le-leb (at + 4) (length s) (omega arith))
      (ap (λ (k : ℕ). given (form_in file k) 2 at >>= behind front at) (front_word (at + 2) (omega arith)) ∙ front_given at file (form_in file (word s (at + 2))) refl h)

  front_reads : (file : File) (caps : Caps) (at : ℕ) (t : Tables) → at + 10 ≤ n → read_record file caps front at t ≡ read_record file caps s at t
  unfolding read_record
  front_reads file caps at t h = rw (front_record file at h)

  -- reading on from any place that reading comes to
  module _ {caps : Caps} (small : Small caps) (file : File) (no_value : has_section file Records.value ≡ false) (far : 43520 ≤ n) where
    on_reads : (k j at : ℕ) (t : Tables) → Read caps at t → length s ≤ at + k → n ≤ at + j → read_from j file caps front at t ≡ read_from k file caps s at t
    on_reads zero j at t h l m = absurd (omega (arith, weight_bound small h))
    on_reads (suc k) zero at t h l m = absurd (omega (arith, weight_bound small h))
    on_reads (suc k) (suc j) at t h l m =
        let here = weight_bound small h in
        one_step j file caps front at t (omega (arith, front_length))
        ∙ ap (λ (o : Out (Tables × ℕ)). o >>= λ r. read_from j file caps front r.1 r.0) (front_reads file caps at t (omega arith))
        ∙ go (read_record file caps s at t) (record_reads file s no_value h) (λ r q e. on_reads k j r.1 r.0 q (omega arith) (omega arith))
        ∙ sym (one_step k file caps s at t (omega arith))
      where
        go : (o : Out (Tables × ℕ)) → Ends (λ r. Read caps r.1 r.0 × (at + 4 ≤ r.1)) (λ n p. (1 ≤ n) × (n ≤ Reading.last file) × (p ≡ at)) o
            → ((r : Tables × ℕ) → Read caps r.1 r.0 → at + 4 ≤ r.1 → read_from j file caps front r.1 r.0 ≡ read_from k file caps s r.1 r.0)
            → (o >>= λ r. read_from j file caps front r.1 r.0) ≡ (o >>= λ r. read_from k file caps s r.1 r.0)
        go (ok r) (gives q) f = f r q.0 q.1
        go (refused c p) (stops q) f = refl

    cut_reads : read_records file caps front ≡ read_records file caps s
    unfolding read_records
    cut_reads = go (leb 2 caps.types) refl
      where
        go : (b : Bool) → leb 2 caps.types ≡ b → (require b 5 0 >>= λ _. read_from (length front) file caps front 0 fresh) ≡ (require b 5 0 >>= λ _. read_from (length s) file caps s 0 fresh)
        go true e = on_reads (length s) (length front) 0 fresh (fresh_reads (leb-true 2 caps.types e)) (omega arith) (omega (arith, front_length))
        go false e = refl

-- a file's first bytes, enough of them, are read as the file is
pub prefix_reads : {caps : Caps} → Small caps → (file : File) → has_section file Records.value ≡ false → (n : ℕ) → 43520 ≤ n → (s : List ℕ) → read_records file caps (take n s) ≡ read_records file caps s
prefix_reads {caps} small file no_value n far s = go (dec_le n (length s))
  where
    go : Dec (n ≤ length s) → read_records file caps (take n s) ≡ read_records file caps s
    go (yes h) = cut_reads s n h small file no_value far
    go (no h) = rw (take_all n s (omega arith))

-- so the job is read as its first bytes are, with all the checks: a longer one never comes to them
pub prefix_job : {caps : Caps} → Small caps → (n : ℕ) → 43520 ≤ n → (s : List ℕ) → read_job caps (take n s) ≡ read_job caps s
unfolding read_job
prefix_job {caps} small n far s = go (dec_le n (length s))
  where
    long : (o : Out Tables) → Ends (Through caps s) (Stopped Records.job) o → n ≤ length s → (o >>= λ t. check_job (length (take n s)) t) ≡ (o >>= λ t. check_job (length s) t)
    long (ok t) (gives h) l = absurd (omega (arith, weight_bound small h.read, h.all))
    long (refused k p) h l = refl

    go : Dec (n ≤ length s) → (read_records Records.job caps (take n s) >>= λ t. check_job (length (take n s)) t) ≡ (read_records Records.job caps s >>= λ t. check_job (length s) t)
    go (yes l) =
        ap (λ (o : Out Tables). o >>= λ t. check_job (length (take n s)) t) (prefix_reads small Records.job refl n far s)
        ∙ long (read_records Records.job caps s) (reads Records.job s refl small) l
    go (no l) = rw (take_all n s (omega arith))
