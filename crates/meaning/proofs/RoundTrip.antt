-- THE ROUND TRIP. Reading a written answer file gives back the table, the definitions and the result where there is room, and refusal 5 at the first
-- record without room where there is not.
-- Assumes nothing.
use mathlib.Core.Path.{◌≡◌, refl, ap, ap₂, sym, ◌∙◌, subst}
use mathlib.Core.Bool.{true, false}
use mathlib.Core.List.{List, [], ◌∷◌, ◌++◌, append_assoc, append-nil}
use mathlib.Core.Option.{Option, none, some}
use Prim.Native.Nat.{ℕ, zero, suc, ◌+◌, ◌-◌, ◌≤◌, ◌<◌}
use native.Mathlib.Omega.{arith}
use lib.Dec.{leb}
use lib.ListN.{length, get_or, take, drop, length-append, length-take, length-drop}
use lib.Seq.{split_at}
use borrow.Author.Tests.{le-leb, lt-leb, lt-ltb, le-ltb}
use Rattle.meaning.specs.Base.{Out, ok, refused, find, concat_map, At, Caps}
use Rattle.meaning.specs.Kinds
use Rattle.meaning.specs.Types as Types
use Rattle.meaning.specs.Types.{Entry, Table, Defs, kind_of, fields_of, entry_of, name_of, at, base}
use Rattle.meaning.specs.Reach.{loops}
use Rattle.meaning.specs.Formed.{Lower, Formed}
use Rattle.meaning.specs.Records as Records
use Rattle.meaning.specs.Records.{Section, order, Sort, label, entry_no, def_no, form, forms, answer, form_in, Tables, fresh, all_fit, put, read_record, read_from, read_records}
use Rattle.meaning.specs.Checks.{is_undefined, undefined_name, check_types}
use Rattle.meaning.specs.Typing.{Typed, type_job}
use Rattle.meaning.specs.Answers.{record_of, type_record, def_record, answer_file, fitted, answer_job, Back, read_answer}
use Rattle.meaning.proofs.Lists.{at_append, at_last, at_get_or, at_is, concat_append}
use Rattle.meaning.proofs.Ends.{Ends, gives, Anyhow, ends_ok, ends_bind, ends_by, ends_require}
use Rattle.meaning.proofs.Searches.{none_lowest}
use Rattle.meaning.proofs.Guard.{guarded_unlooped}
use Rattle.meaning.proofs.Reading.{Small}
use Rattle.meaning.proofs.FileLength.{record_length}
use Rattle.meaning.proofs.Written.{record_back}
use Rattle.meaning.proofs.Jobs.{TypedWell, type_refuses}

-- WHAT IS READ BACK. The tables while an answer file is read, and its tables and result when it has been read
abbrev tables : Table → Defs → Option ℕ → Section → Tables
tables T D e z = record { types = T; defs = D; vars = []; code = []; result = e; section = z }

abbrev pub back_of : Table → Defs → ℕ → Back
back_of T D e = record { tables = tables T D (some e) Records.result; result = e }

-- ONE TYPE RECORD: what the grammar says of an entry that may stand behind n others
record Typable (n : ℕ) (x : Entry) : Type 0 where
  sorts : List Sort
  known : form_in answer (kind_of x) ≡ some (form Records.types sorts)
  sized : length sorts ≡ length (fields_of x)
  fit : all_fit n [] sorts (fields_of x) ≡ true
  same : (t : Tables) → put Records.types (kind_of x) (get_or (fields_of x) 0 0) (get_or (fields_of x) 1 0) (get_or (fields_of x) 2 0) t ≡ record { types = t.types ++ (x ∷ []); defs = t.defs; vars = t.vars; code = t.code; result = t.result; section = Records.types }

typable : {n : ℕ} {x : Entry} → Lower n x → Typable n x
unfolding kind_of fields_of forms find all_fit put entry_of
typable {n} (Lower.element {l} {c} g h i) =
    record { sorts = label ∷ entry_no ∷ []; known = refl; sized = refl; fit = simp (le-leb 1 l g, le-leb l 65534 h, lt-ltb c n i); same = λ t. refl }
typable {n} (Lower.pair {a} {b} g h) = record { sorts = entry_no ∷ entry_no ∷ []; known = refl; sized = refl; fit = simp (lt-ltb a n g, lt-ltb b n h); same = λ t. refl }
typable {n} (Lower.union {a} {b} g h) = record { sorts = entry_no ∷ entry_no ∷ []; known = refl; sized = refl; fit = simp (lt-ltb a n g, lt-ltb b n h); same = λ t. refl }
typable {n} (Lower.star {a} h) = record { sorts = entry_no ∷ []; known = refl; sized = refl; fit = simp (lt-ltb a n h); same = λ t. refl }
typable {n} (Lower.plus {a} h) = record { sorts = entry_no ∷ []; known = refl; sized = refl; fit = simp (lt-ltb a n h); same = λ t. refl }
typable {n} (Lower.opt {a} h) = record { sorts = entry_no ∷ []; known = refl; sized = refl; fit = simp (lt-ltb a n h); same = λ t. refl }
typable {n} (Lower.name {d} h) = record { sorts = def_no ∷ []; known = refl; sized = refl; fit = simp (le-leb d 63 h); same = λ t. refl }

module _ (caps : Caps) where
  abbrev here : Tables → List ℕ → List ℕ → Out (Tables × ℕ)
  here t before rest = read_record answer caps (before ++ rest) (length before) t

  type_read : (T : Table) (x : Entry) (before rest : List ℕ) → Lower (length T) x → length T < caps.types
      → here (tables T [] none Records.types) before (type_record x ++ rest) ≡ ok (tables (T ++ (x ∷ [])) [] none Records.types, length before + length (type_record x))
  unfolding read_record
  type_read T x before rest low room =
      let w : Typable (length T) x = typable low in
      simp (
        record_back answer (form Records.types w.sorts) before rest (fields_of x) (kind_of x) w.known w.sized,
        lt-ltb (length T) caps.types room,
        w.fit,
        w.same (tables T [] none Records.types),
      )

  type_full : (T : Table) (x : Entry) (before rest : List ℕ) → Lower (length T) x → caps.types ≤ length T
      → here (tables T [] none Records.types) before (type_record x ++ rest) ≡ refused 5 (length before)
  unfolding read_record
  type_full T x before rest low full =
      let w : Typable (length T) x = typable low in
      simp (record_back answer (form Records.types w.sorts) before rest (fields_of x) (kind_of x) w.known w.sized, le-ltb (length T) caps.types full)

  -- A DEFINITION RECORD, behind type records or definition records; record 80
  def_read : (T : Table) (D : Defs) (z : Section) (c : ℕ) (before rest : List ℕ) → order z ≤ 1 → length D < 64 → c < length T
      → here (tables T D none z) before (def_record c ++ rest) ≡ ok (tables T (D ++ (c ∷ [])) none Records.definitions, length before + length (def_record c))
  unfolding read_record all_fit put forms find
  def_read T D z c before rest early room low =
      simp (
        record_back answer (form Records.definitions (entry_no ∷ [])) before rest (c ∷ []) Kinds.record·definition refl refl,
        le-leb (order z) 1 early,
        lt-ltb (length D) 64 room,
        lt-ltb c (length T) low,
      )

  result_read : (T : Table) (D : Defs) (z : Section) (e : ℕ) (before rest : List ℕ) → order z ≤ 1 → e < length T
      → here (tables T D none z) before (record_of Kinds.record·result (e ∷ []) ++ rest)
      ≡ ok (tables T D (some e) Records.result, length before + length (record_of Kinds.record·result (e ∷ [])))
  unfolding read_record all_fit put forms find
  result_read T D z e before rest early low =
      simp (
        record_back answer (form Records.result (entry_no ∷ [])) before rest (e ∷ []) Kinds.record·result refl refl,
        le-leb (order z) 4 (omega arith),
        lt-ltb e (length T) low,
      )

  -- READING ON. Behind `before`, with these tables, what is left comes to o
  record On (before rest : List ℕ) (t : Tables) (o : Out Tables) : Type 0 where
    comes : (k : ℕ) → length rest ≤ k → read_from k answer caps (before ++ rest) (length before) t ≡ o

  at_end : (before : List ℕ) (t : Tables) (k : ℕ) → read_from k answer caps (before ++ []) (length before) t ≡ ok t
  unfolding read_from
  at_end before t zero = refl
  at_end before t (suc k) = simp (le-ltb (length before) (length (before ++ [])) (omega (arith, length-append before [])), read_from)

  on_end : {before : List ℕ} {t : Tables} → On before [] t (ok t)
  on_end {before} {t} = record { comes = λ k h. at_end before t k }

  -- one record, and then on; a refusal at the next record is the whole's
  next_on : (before r rest : List ℕ) (t u : Tables) (o : Out Tables) → here t before (r ++ rest) ≡ ok (u, length before + length r) → 1 ≤ length r
      → On (before ++ r) rest u o → (k : ℕ) → length (r ++ rest) ≤ k → read_from k answer caps (before ++ (r ++ rest)) (length before) t ≡ o
  unfolding read_from
  next_on before r rest t u o e long on zero h = absurd (omega (arith, length-append r rest))
  next_on before r rest t u o e long on (suc k) h =
      simp (lt-ltb (length before) (length (before ++ (r ++ rest))) (omega (arith, length-append before (r ++ rest), length-append r rest)), read_from, e)
      (ap₂ (λ (s : List ℕ) (n : ℕ). read_from k answer caps s n u) (sym (append_assoc before r rest)) (sym (length-append before r))
      ∙ on.comes k (omega (arith, length-append r rest)))

  on_record : {before rest : List ℕ} {t u : Tables} {o : Out Tables} (kind : ℕ) (ws : List ℕ)
      → here t before (record_of kind ws ++ rest) ≡ ok (u, length before + length (record_of kind ws)) → On (before ++ record_of kind ws) rest u o
      → On before (record_of kind ws ++ rest) t o
  on_record {before} {rest} {t} {u} {o} kind ws e on = record { comes = next_on before (record_of kind ws) rest t u o e (omega (arith, record_length kind ws)) on }

  stops_on : (before rest : List ℕ) (t : Tables) (n place : ℕ) → here t before rest ≡ refused n place → 1 ≤ length rest
      → (k : ℕ) → length rest ≤ k → read_from k answer caps (before ++ rest) (length before) t ≡ refused n place
  unfolding read_from
  stops_on before rest t n place e long zero h = absurd (omega arith)
  stops_on before rest t n place e long (suc k) h = simp (lt-ltb (length before) (length (before ++ rest)) (omega (arith, length-append before rest)), read_from, e)

  -- A FORMED TABLE'S records
  module _ {D : Defs} {T : Table} (F : Formed D T) where
    -- what stands behind t in it
    next_low : (t v : Table) (x : Entry) → T ≡ t ++ (x ∷ v) → 2 ≤ length t → Lower (length t) x
    next_low t v x e two = F.lower (length t) x two (rw (e, ← append_assoc t (x ∷ []) v) (at_append v (at_last t x)))

    on_types_lem : (u t v : Table) {before rest : List ℕ} {o : Out Tables} → T ≡ t ++ (u ++ v) → 2 ≤ length t → length t + length u ≤ caps.types
        → On (before ++ concat_map type_record u) rest (tables (t ++ u) [] none Records.types) o → On before (concat_map type_record u ++ rest) (tables t [] none Records.types) o
    unfolding concat_map
    on_types_lem [] t v {before} e two room on = rw (append-nil before, append-nil t) at on
    on_types_lem (x ∷ u) t v {before} {rest} e two room on =
        rw append_assoc
        (on_record (kind_of x) (fields_of x) (type_read t x before (concat_map type_record u ++ rest) (next_low t (u ++ v) x e two) (omega arith))
        (on_types_lem u (t ++ (x ∷ [])) v (rw (append_assoc t (x ∷ []) (u ++ v)) e) (omega (arith, length-append t (x ∷ []))) (omega (arith, length-append t (x ∷ [])))
        (rw (append_assoc before (type_record x) (concat_map type_record u), append_assoc t (x ∷ []) u) on)))

    on_defs : (ds d : Defs) (z : Section) {before rest : List ℕ} {o : Out Tables} → D ≡ d ++ ds → order z ≤ 1
        → ((y : Section) → order y ≤ 1 → On (before ++ concat_map def_record ds) rest (tables T (d ++ ds) none y) o) → On before (concat_map def_record ds ++ rest) (tables T d none z) o
    unfolding concat_map
    on_defs [] d z {before} e early on = rw (append-nil before, append-nil d) at (on z early)
    on_defs (c ∷ ds) d z {before} {rest} e early on =
        rw append_assoc
        (on_record Kinds.record·definition (c ∷ [])
        (def_read T d z c before (concat_map def_record ds ++ rest) early (omega (arith, F.few_defs, ap length e, length-append d (c ∷ ds)))
        (F.defined (length d) c (rw (e, ← append_assoc d (c ∷ []) ds) (at_append ds (at_last d c)))))
        (on_defs ds (d ++ (c ∷ [])) Records.definitions (rw (append_assoc d (c ∷ []) ds) e) (omega arith)
        (λ y l. rw (append_assoc before (def_record c) (concat_map def_record ds), append_assoc d (c ∷ []) ds) (on y l))))

    on_result : {before : List ℕ} (z : Section) (e : ℕ) → order z ≤ 1 → e < length T → On before (record_of Kinds.record·result (e ∷ [])) (tables T D none z) (ok (tables T D (some e) Records.result))
    on_result {before} z e early low =
        subst (λ (r : List ℕ). On before r (tables T D none z) (ok (tables T D (some e) Records.result))) (append-nil (record_of Kinds.record·result (e ∷ [])))
        (on_record Kinds.record·result (e ∷ []) (result_read T D z e before [] early low) on_end)

    -- entries 0 and 1 are not written: they are there when reading begins
    two_first : (U : Table) → At U 0 Types.empty → At U 1 Types.string → 2 ≤ length U → U ≡ base ++ drop 2 U
    two_first [] zeroth first two = absurd (omega arith)
    two_first (x ∷ []) zeroth first two = absurd (omega arith)
    two_first (x ∷ y ∷ U) zeroth first two = ap₂ (λ (a b : Entry). a ∷ b ∷ U) (at_get_or zeroth Types.empty) (at_get_or first Types.empty)

    begins : T ≡ base ++ drop 2 T
    begins = two_first T F.zeroth F.first F.two

    -- the whole file, if there is room
    on_file : (e : ℕ) → e < length T → length T ≤ caps.types → On [] (answer_file T D e) fresh (ok (tables T D (some e) Records.result))
    unfolding answer_file
    on_file e low room =
        let u = drop 2 T in
        on_types_lem u base [] (begins ∙ ap (base ++◌) (sym (append-nil u))) (omega arith) (omega (arith, length-drop 2 T, F.two))
        (subst (λ (U : Table). On (concat_map type_record u) (concat_map def_record D ++ record_of Kinds.record·result (e ∷ [])) (tables U [] none Records.types) (ok (tables T D (some e) Records.result))) begins
        (on_defs D [] Records.types refl (omega arith) (λ z early. on_result z e early low)))

    -- 9 and 10 find nothing
    is_defined : (e : ℕ) (x : Entry) → At T e x → is_undefined D (name_of x) ≡ false
    unfolding name_of
    is_defined e Types.empty h = refl
    is_defined e Types.string h = refl
    is_defined e (Types.element l c) h = refl
    is_defined e (Types.pair a b) h = refl
    is_defined e (Types.union a b) h = refl
    is_defined e (Types.star a) h = refl
    is_defined e (Types.plus a) h = refl
    is_defined e (Types.opt a) h = refl
    is_defined e (Types.name d) h = lt-leb (length D) d (F.named e d h)

    types_pass : check_types D T ≡ ok tt
    unfolding check_types
    types_pass =
        rw (
          none_lowest (undefined_name D T) (length T) (λ e l. is_defined e (at T e) (at_is T e Types.empty l)),
          none_lowest (loops D T) (length D) (guarded_unlooped D T F.defined F.guarded),
        )

    -- WITH ROOM for its entries, what was written is read back whole
    pub round_trip : (e : ℕ) → e < length T → length T ≤ caps.types → read_answer caps (answer_file T D e) ≡ ok (back_of T D e)
    unfolding read_answer read_records
    round_trip e low room =
        let file = answer_file T D e in
        let whole : read_from (length file) answer caps file 0 fresh ≡ ok (tables T D (some e) Records.result) = (on_file e low room).comes (length file) (omega arith) in
        rw (le-leb 2 caps.types (omega (arith, F.two)), whole, types_pass)

    -- WITHOUT: refusal 5 at the first record that has no room
    full_at : (u v : Table) (x : Entry) (last : List ℕ) → T ≡ base ++ (u ++ x ∷ v) → 2 + length u ≡ caps.types
        → On [] (concat_map type_record (u ++ x ∷ v) ++ last) fresh (refused 5 (length (concat_map type_record u)))
    unfolding concat_map
    full_at u v x last e full =
        let before = concat_map type_record u in
        let rest = concat_map type_record v ++ last in
        rw (concat_append type_record u (x ∷ v), append_assoc, append_assoc (type_record x))
        (on_types_lem u base (x ∷ v) e (omega arith) (omega arith)
        (record {
          comes = stops_on before (type_record x ++ rest) (tables (base ++ u) [] none Records.types) 5 (length before)
              (type_full (base ++ u) x before rest (next_low (base ++ u) v x e (omega arith)) (omega arith))
              (omega (arith, record_length (kind_of x) (fields_of x), length-append (type_record x) rest));
        }))

    pub no_room : (e : ℕ) → 2 ≤ caps.types → caps.types < length T → read_answer caps (answer_file T D e) ≡ refused 5 (length (concat_map type_record (take (caps.types - 2) (drop 2 T))))
    unfolding read_answer read_records answer_file
    no_room e two short =
        let n = caps.types - 2 in
        let u = drop 2 T in
        let parts : u ≡ take n u ++ at u n ∷ drop (suc n) u = split_at u n Types.empty (omega (arith, length-drop 2 T)) in
        let last : List ℕ = concat_map def_record D ++ record_of Kinds.record·result (e ∷ []) in
        let full : On [] (concat_map type_record u ++ last) fresh (refused 5 (length (concat_map type_record (take n u))))
        = subst (λ (w : Table). On [] (concat_map type_record w ++ last) fresh (refused 5 (length (concat_map type_record (take n u))))) (sym parts)
        (full_at (take n u) (drop (suc n) u) (at u n) last (begins ∙ ap (base ++◌) parts) (omega (arith, length-take n u, length-drop 2 T))) in
        rw (le-leb 2 caps.types two, full.comes (length (answer_file T D e)) (omega arith))

-- A TYPED JOB'S answer, read back at any capacities: the table that typing left, the job's definitions and the result
module _ {caps : Caps} (small : Small caps) (s : List ℕ) (r : Typed) (is : type_job caps s ≡ ok r) (again : Caps) where
  abbrev written : List ℕ
  written = answer_file r.left.types r.job.defs r.result

  grew : TypedWell caps r
  grew = ends_ok (rw is at (type_refuses s small))

  pub typed_back : length r.left.types ≤ again.types → read_answer again written ≡ ok (back_of r.left.types r.job.defs r.result)
  typed_back room = round_trip again grew.grown.formed r.result grew.grown.low room

  pub typed_no_room : 2 ≤ again.types → again.types < length r.left.types
      → read_answer again written ≡ refused 5 (length (concat_map type_record (take (again.types - 2) (drop 2 r.left.types))))
  typed_no_room two short = no_room again grew.grown.formed r.result two short

-- AN ANSWER FILE that was written is read back at the capacities that it was written at, and at larger ones
pub answer_back : {caps : Caps} → Small caps → (room : ℕ) (s : List ℕ) (again : Caps) → caps.types ≤ again.types
    → Ends (λ a. read_answer again a.file ≡ ok (back_of a.typed.left.types a.typed.job.defs a.typed.result)) Anyhow (answer_job caps room s)
unfolding answer_job
answer_back {caps} small room s again more =
    ends_bind (ends_by (type_refuses s small) (λ n p _. tt)) λ t w.
    let file = answer_file t.left.types t.job.defs t.result in
    ends_bind (fits file (round_trip again w.grown.formed t.result w.grown.low (omega (arith, w.grown.fits)))) λ f h. gives h
  where
    fits : {o : Out Back} (file : List ℕ) → read_answer again file ≡ o → Ends (λ f. read_answer again f ≡ o) Anyhow (fitted room file)
    fits file h = ends_bind (ends_require (leb (length file) room) 17 (length file) tt) λ _ _. gives h
