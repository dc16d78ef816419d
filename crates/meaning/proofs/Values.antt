-- The values file: each record takes 4 to 8 bytes, so where reading can refuse is bounded; what was read has an entry for each record announced;
-- what is loaded has the declared variables' values and fits the work table, and more room changes no answer.
-- Assumes nothing.
use mathlib.Core.Path.{◌≡◌, refl, ap, sym}
use mathlib.Core.Bool.{Bool, true, false, ◌&&◌}
use mathlib.Core.List.{List, [], ◌∷◌, ◌++◌, map}
use mathlib.Core.Option.{Option, none, some}
use Prim.Native.Nat.{ℕ, suc, zero, ◌+◌, ◌*◌, ◌-◌, ◌^◌, ◌≤◌, ◌<◌}
use native.Mathlib.Omega.{arith}
use lib.Dec.{leb, ltb, eqb}
use lib.ListN.{length, get_or, length-append}
use borrow.Author.Tests.{leb-true, leb-false, le-leb, ltb-true, ltb-false, eqb-true, not-false}
use Rattle.meaning.specs.Base.{Out, refuse_at, find, At, In, first, later, concat_map, word}
use Rattle.meaning.specs.Kinds.{forest·text, forest·label, value·variable}
use Rattle.meaning.specs.Records as Records
use Rattle.meaning.specs.Records.{Section, Sort, Form, forms, has_section, form_in, Record, field, fields_at, length_of, record_at, all_fit, Var}
use Rattle.meaning.specs.Forests.{Forest, end, leaf, tree, size, trees}
use Rattle.meaning.specs.Values.{as18, value_at, Part, read_forest, read_value, Value, read_values, is_odd, odd, entry_places, load_values, joined}
use Rattle.meaning.proofs.Lists.{absurd_option, never, both_true, in_cons, in_none, in_both, at_in, get_or_has}
use Rattle.meaning.proofs.Ends.{Ends, gives, stops, ends_bind, ends_map, ends_by, ends_require, ends_given, ends_refuse_at, Keeps, kept, keeps_refl, keeps_bind, keeps_require, ends_test, ends_elim}
use Rattle.meaning.proofs.Grammar.{own_form_lem, form_length, longest}
use Rattle.meaning.proofs.Forests.{size_join}

-- FORMS. A record of a values file has at most 8 bytes
values_short : (section : Section) → has_section Records.values section ≡ true → longest section ≤ 8
values_short Records.types h = omega arith
values_short Records.definitions h = omega arith
values_short Records.variables h = omega arith
values_short Records.query h = never h
values_short Records.result h = omega arith
values_short Records.value h = omega arith

form_short : (k : ℕ) (f : Form) → form_in Records.values k ≡ some f → length_of f ≤ 8
form_short k f e =
    let own = own_form_lem Records.values (find k forms) f e in
    omega (arith, (form_length k own.0).1, values_short f.section own.1)

-- ONE RECORD
-- refusal 18, at a place by b and inside the file or at its end
abbrev pub Wrong : List ℕ → ℕ → ℕ → ℕ → Type 0
Wrong s b n p = (n ≡ 18) × (p ≤ b) × (p ≤ length s)

-- a record that was read at an offset
pub record ReadAt (s : List ℕ) (at : ℕ) (r : Record) : Type 0 where
  pub within : r.next ≤ length s
  pub past : at + 4 ≤ r.next
  pub near : r.next ≤ at + 8
  pub kind : r.kind ≡ word s (at + 2)
  pub fields : r.fields ≡ fields_at s (at + 4) r.form.sorts

record_ends : (s : List ℕ) (at : ℕ) → Ends (ReadAt s at) (λ n p. p ≡ at) (record_at Records.values s at)
unfolding record_at
record_ends s at =
    ends_bind (ends_require (leb (at + 4) (length s)) 1 at refl) λ _ _.
    ends_bind (ends_given (form_in Records.values (word s (at + 2))) 2 at refl) λ f e.
    ends_bind (ends_require (eqb (word s at) (length_of f)) 3 at refl) λ _ _.
    ends_bind (ends_require (leb (at + length_of f) (length s)) 1 at refl) λ _ h.
    let short = form_short (word s (at + 2)) f e in
    gives (record { within = leb-true (at + length_of f) (length s) h; past = omega arith; near = omega arith; kind = refl; fields = refl })

ends_as18 : {A : Type 0} {P : A → Type 0} {R S : ℕ → ℕ → Type 0} {o : Out A} → Ends P R o → ((n p : ℕ) → R n p → S 18 p) → Ends P S (as18 o)
ends_as18 (gives h) k = gives h
ends_as18 (stops r) k = stops (k _ _ r)

pub value_ends : (s : List ℕ) (at : ℕ) → Ends (ReadAt s at) (Wrong s at) (value_at s at)
unfolding value_at
value_ends s at =
    -- where a record is due past the end, the refusal stands at the end
    ends_bind (ends_test (ltb at (length s)) 18 (length s) (λ e. (refl, ltb-false at (length s) e, omega arith))) λ _ e.
    let h = ltb-true at (length s) e in
    ends_bind (ends_as18 (record_ends s at) (λ n p e. (refl, omega arith, omega arith))) λ r k.
    ends_bind (ends_require (all_fit 0 [] r.form.sorts r.fields) 18 at (refl, omega arith, omega arith)) λ _ _.
    gives k

-- a file is bytes, so a field is at most 65,535
abbrev pub Bytes : List ℕ → Type 0
Bytes s = (i : ℕ) → get_or s i 0 < 256

fields_small : (s : List ℕ) → Bytes s → (at : ℕ) (sorts : List Sort) (i : ℕ) → get_or (fields_at s at sorts) i 0 ≤ 65535
unfolding fields_at
fields_small s b at [] i = omega arith
fields_small s b at (x ∷ xs) zero = omega (arith, b at, b (at + 1))
fields_small s b at (x ∷ xs) (suc i) = fields_small s b (at + 2) xs i

pub field_small : {s : List ℕ} {at : ℕ} {r : Record} → Bytes s → ReadAt s at r → (i : ℕ) → field r i ≤ 65535
field_small {s = s} {at = at} {r = r} b h i = rw h.fields (fields_small s b (at + 4) r.form.sorts i)

-- A FOREST of n records from an offset on
-- a place by b, inside the file
abbrev pub By : List ℕ → ℕ → ℕ → Type 0
By s b p = (p ≤ b) × (p ≤ length s)

pub record Stretch (s : List ℕ) (at n : ℕ) (p : Part) : Type 0 where
  pub entries : size p.forest ≡ n
  pub records : length p.places ≡ n
  pub onward : at ≤ p.next
  pub near : p.next ≤ at + 8 * n
  pub within : at ≤ length s → p.next ≤ length s
  pub places : (x : ℕ) → In x p.places → By s (at + 8 * n) x

module _ (s : List ℕ) where
  -- more bytes for the same places
  pub places_by : {b c : ℕ} {l : List ℕ} → b ≤ c → ((x : ℕ) → In x l → By s b x) → (x : ℕ) → In x l → By s c x
  places_by h k x i = let y = k x i in (omega arith, y.1)

  pub wrong_by : {b c : ℕ} → b ≤ c → (n p : ℕ) → Wrong s b n p → Wrong s c n p
  wrong_by h n p w = (w.0, omega arith, w.2)

  none_read : (at n : ℕ) → n ≤ 0 → Stretch s at n (record { forest = end; places = []; next = at })
  unfolding size
  none_read at n h = record { entries = omega arith; records = omega arith; onward = omega arith; near = omega arith; within = λ low. low; places = λ x i. in_none i }

  text_read : {at n : ℕ} {r : Record} {p : Part} → ReadAt s at r → Stretch s r.next n p → Stretch s at (suc n) (record { forest = leaf (field r 0) p.forest; places = at ∷ p.places; next = p.next })
  unfolding size
  text_read {at = at} {n = n} v h =
      record {
        entries = omega arith;
        records = omega arith;
        onward = omega arith;
        near = omega arith;
        within = λ _. h.within v.within;
        places = in_cons (omega arith, omega arith) (places_by {c = at + 8 * suc n} (omega arith) h.places);
      }

  tree_read : {at n m : ℕ} {r : Record} {p q : Part} → ReadAt s at r → m ≤ n → Stretch s r.next m p → Stretch s p.next (n - m) q → Stretch s at (suc n) (record { forest = tree (field r 0) p.forest q.forest; places = at ∷ (p.places ++ q.places); next = q.next })
  unfolding size
  tree_read {at = at} {n = n} {p = p} {q = q} v low h k =
      record {
        entries = omega arith;
        records = omega (arith, length-append p.places q.places);
        onward = omega arith;
        near = omega arith;
        within = λ _. k.within (h.within v.within);
        places = in_cons (omega arith, omega arith) (in_both p.places (places_by {c = at + 8 * suc n} (omega arith) h.places) (places_by (omega arith) k.places));
      }

  pub forest_ends : (k at n : ℕ) → n ≤ k → Ends (Stretch s at n) (Wrong s (at + 8 * n)) (read_forest k s at n)
  unfolding read_forest
  forest_ends zero at n h = gives (none_read at n h)
  forest_ends (suc k) at zero h = gives (none_read at zero (omega arith))
  forest_ends (suc k) at (suc n) h =
      ends_bind (ends_by (value_ends s at) (wrong_by (omega arith))) λ r v.
      ends_elim (eqb r.kind forest·text) (λ _.
      ends_bind (ends_by (forest_ends k r.next n (omega arith)) (wrong_by (omega arith))) λ p i.
      gives (text_read v i)) (λ _.
      ends_bind (ends_require (eqb r.kind forest·label && leb (field r 1) n) 18 at (refl, omega arith, omega arith)) λ _ e.
      let low = leb-true (field r 1) n (both_true (eqb r.kind forest·label) (leb (field r 1) n) e).1 in
      ends_bind (ends_by (forest_ends k r.next (field r 1) (omega arith)) (wrong_by (omega arith))) λ p i.
      ends_bind (ends_by (forest_ends k p.next (n - field r 1) (omega arith)) (wrong_by (omega arith))) λ q j.
      gives (tree_read v low i j))

-- ONE VARIABLE: its record 66 takes 8 bytes and announces at most 65,535 records of at most 8 bytes each
abbrev pub span : ℕ
span = 8 + 8 * 65535

pub record Whole (s : List ℕ) (at : ℕ) (p : Part) : Type 0 where
  pub entries : length p.places ≡ size p.forest
  pub head : at < length s
  pub near : p.next ≤ at + span
  pub within : p.next ≤ length s
  pub places : (x : ℕ) → In x p.places → By s (at + span) x

-- ALL VARIABLES, read to the end, all places by b
pub record Read (s : List ℕ) (vars : List (ℕ × Var)) (b : ℕ) (vs : List Value) : Type 0 where
  pub declared : map (λ (v : Value). v.declared) vs ≡ vars
  pub entries : length (entry_places vs) ≡ size (joined vs)
  pub heads : (v : Value) → In v vs → By s b v.place
  pub places : (x : ℕ) → In x (entry_places vs) → By s b x

module _ (s : List ℕ) (bytes : Bytes s) where
  pub read_value_ends : (v at : ℕ) → Ends (Whole s at) (Wrong s (at + span)) (read_value v s at)
  unfolding read_value
  read_value_ends v at =
      ends_bind (ends_by (value_ends s at) (wrong_by s (omega arith))) λ r h.
      ends_bind (ends_require (eqb r.kind value·variable && eqb (field r 0) v) 18 at (refl, omega arith, omega arith)) λ _ _.
      let small = field_small bytes h 1 in
      ends_map (ends_by (forest_ends s (field r 1) r.next (field r 1) (omega arith)) (wrong_by s (omega arith))) λ p i.
      record { entries = omega arith; head = omega arith; near = omega arith; within = i.within h.within; places = places_by s (omega arith) i.places }

  values_none : (at : ℕ) → Read s [] at []
  unfolding size joined concat_map
  values_none at = record { declared = refl; entries = refl; heads = λ v i. in_none i; places = λ x i. in_none i }

  values_one : {x : ℕ × Var} {xs : List (ℕ × Var)} {at b c : ℕ} {p : Part} {vs : List Value} → Whole s at p → Read s xs b vs → at + span ≤ c → b ≤ c → Read s (x ∷ xs) c (record { declared = x; place = at; part = p } ∷ vs)
  unfolding size joined concat_map
  values_one {x = x} {c = c} {p = p} {vs = vs} w r h k =
      record {
        declared = ap (x ∷◌) r.declared;
        entries = omega (arith, length-append p.places (entry_places vs), size_join p.forest (joined vs), w.entries, r.entries);
        heads = in_cons (omega arith, omega arith) (λ v i. let y = r.heads v i in (omega arith, y.1));
        places = in_both p.places (places_by s h w.places) (places_by s k r.places);
      }

  pub values_ends : (xs : List (ℕ × Var)) (at : ℕ) → Ends (Read s xs (at + span * length xs)) (Wrong s (at + span * length xs)) (read_values xs s at)
  unfolding read_values
  values_ends [] at = ends_bind (ends_test (leb (length s) at) 18 at (λ e. (refl, omega arith, omega (arith, leb-false (length s) at e)))) λ _ _. gives (values_none (at + 0))
  values_ends (x ∷ xs) at =
      ends_bind (ends_by (read_value_ends x.0 at) (wrong_by s (omega arith))) λ p w.
      ends_bind (ends_by (values_ends xs p.next) (wrong_by s (omega arith))) λ vs r.
      gives (values_one w r (omega arith) (omega arith))

-- 19. Where there is an odd value its place has what all have, and where none is odd each is not
abbrev is_odd_value : Value → Bool
is_odd_value v = is_odd v.declared.1 v.part.forest

odd_has : (P : ℕ → Type 0) (vs : List Value) (p : ℕ) → ((v : Value) → In v vs → P v.place) → odd vs ≡ some p → P p
unfolding odd
odd_has P [] p h e = absurd_option e
odd_has P (v ∷ vs) p h e = go (is_odd_value v) e (odd_has P vs p (λ w i. h w (later i)))
  where
    go : (b : Bool) → elim b [ true ↦ some v.place | false ↦ odd vs ] ≡ some p → (odd vs ≡ some p → P p) → P p
    go true e again = let q : v.place ≡ p = cc in rw q at (h v first)
    go false e again = again e

odd_none : (vs : List Value) → odd vs ≡ none → (v : Value) → In v vs → is_odd_value v ≡ false
unfolding odd
odd_none [] e = λ v i. in_none i
odd_none (w ∷ vs) e = go (is_odd_value w) refl e (odd_none vs)
  where
    go : (b : Bool) → is_odd_value w ≡ b → ◌≡◌ {A = Option ℕ} (elim b [ true ↦ some w.place | false ↦ odd vs ]) none → (odd vs ≡ none → (v : Value) → In v vs → is_odd_value v ≡ false) → (v : Value) → In v (w ∷ vs) → is_odd_value v ≡ false
    go true q e again = absurd_option (sym e)
    go false q e again = in_cons q (again e)

one_tree_lem : (x : Var) (f : Forest) (e : ℕ) → is_odd x f ≡ false → x ≡ Records.tree e → trees f ≡ 1
one_tree_lem (Records.tree d) f e h q = eqb-true (trees f) 1 (not-false (eqb (trees f) 1) h)
one_tree_lem (Records.forest d) f e h q = let z : ◌≡◌ {A = ℕ} 0 1 = cc in absurd (omega arith)

-- LOADED: the declared variables' values, one tree for a tree variable, inside the work table
pub record Loaded (vars : List (ℕ × Var)) (room : ℕ) (vs : List Value) : Type 0 where
  pub declared : map (λ (v : Value). v.declared) vs ≡ vars
  pub one_tree : (i : ℕ) (v : Value) → At vs i v → (e : ℕ) → v.declared.1 ≡ Records.tree e → trees v.part.forest ≡ 1
  pub fits : size (joined vs) ≤ room

pub load_places : (room : ℕ) (vars : List (ℕ × Var)) (s : List ℕ) → Bytes s → Ends (Loaded vars room) (λ n p. (18 ≤ n) × (n ≤ 20) × By s (span * length vars) p) (load_values room vars s)
unfolding load_values
load_places room vars s b =
    ends_bind (ends_by (values_ends s b vars 0) (λ n p w. (omega arith, omega arith, (omega arith, w.2)))) λ vs r.
    ends_bind (ends_refuse_at 19 (odd vs) (λ p e. let y = odd_has (By s (0 + span * length vars)) vs p r.heads e in (omega arith, omega arith, (omega arith, y.1)))) λ _ e.
    let y = get_or_has {P = By s (0 + span * length vars)} (entry_places vs) room 0 r.places (omega arith, omega arith) in
    ends_bind (ends_require (leb (length (entry_places vs)) room) 20 (get_or (entry_places vs) room 0) (omega arith, omega arith, (omega arith, y.1))) λ _ k.
    gives (
    record {
      declared = r.declared;
      one_tree = λ i v a t q. one_tree_lem v.declared.1 v.part.forest t (odd_none vs e v (at_in a)) q;
      fits = omega (arith, leb-true (length (entry_places vs)) room k, r.entries);
    }
    )

-- 16 variables of at most 65,535 records end by 16 * (8 + 8 * 65535) = 8,388,608 bytes, so a place fits 32 bits
pub load_ends : (room : ℕ) (vars : List (ℕ × Var)) (s : List ℕ) → Bytes s → length vars ≤ 16 → Ends (Loaded vars room) (λ n p. (18 ≤ n) × (n ≤ 20) × (p < 2 ^ 32)) (load_values room vars s)
load_ends room vars s b h = ends_by (load_places room vars s b) λ n p w. let near = w.2.0 in (w.0, w.1, omega arith)

pub load_keeps : {room more : ℕ} (vars : List (ℕ × Var)) (s : List ℕ) → room ≤ more → Keeps (load_values room vars s) (load_values more vars s)
unfolding load_values
load_keeps {room = room} {more = more} vars s h =
    keeps_bind (keeps_refl (read_values vars s 0)) λ vs.
    keeps_bind (keeps_refl (refuse_at 19 (odd vs))) λ _.
    keeps_bind (keeps_require (leb (length (entry_places vs)) room) (leb (length (entry_places vs)) more) 20 _ 20 _ (λ e. le-leb (length (entry_places vs)) more (omega (arith, leb-true (length (entry_places vs)) room e)))) λ _.
    kept
