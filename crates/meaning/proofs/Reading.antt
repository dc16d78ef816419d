-- What reading leaves, as an invariant that every record keeps: low references, few of everything, and no more bytes than the tables' limits allow.
-- Assumes nothing.
use mathlib.Core.Path.{◌≡◌, refl, ap, sym, ◌∙◌}
use mathlib.Core.Bool.{Bool, true, false, not, ◌&&◌}
use mathlib.Core.List.{List, [], ◌∷◌, ◌++◌}
use mathlib.Core.Option.{Option, none, some}
use Prim.Native.Nat.{ℕ, zero, suc, ◌+◌, ◌*◌, ◌-◌, ◌≤◌, ◌<◌}
use native.Mathlib.Omega.{arith}
use borrow.Author.Tests.{leb-true, ltb-true, ltb-false, not-true, eqb-true, not-false, lt-leb}
use lib.Dec.{leb, ltb, eqb}
use lib.ListN.{length, get_or, length-append, get_or-append}
use Rattle.meaning.specs.Base.{Out, ok, refused, ◌>>=◌, find, is_some, At, Caps, caps_of, word}
use Rattle.meaning.specs.Kinds
use Rattle.meaning.specs.Types.{Entry, Table, Defs, entry_of}
use Rattle.meaning.specs.Formed.{Lower, Names, NodeLow, TypesRead, DefsRead, VarsRead, CodeRead}
use Rattle.meaning.specs.Records as Records
use Rattle.meaning.specs.Records.{Section, Sort, forms, File, has_section, form_in, order, Record, field, fields_at, length_of, record_at, Var, var_of, Node, node, Tables, fresh, in_order, has_room, is_condition, all_fit, declared_again, put, read_record, read_from, read_records}
use Rattle.meaning.specs.Records.{type_in}
use Rattle.meaning.proofs.Lists.{absurd_option, never, both_true, at_append, at_old, at_low}
use Rattle.meaning.proofs.Ends.{Ends, gives, ends_bind, ends_by, ends_require, ends_test, ends_given}
use Rattle.meaning.proofs.Finding.{find_absent}
use Rattle.meaning.proofs.Grammar.{Row, form_row, form_length, longest, own_form_lem, AllFit, all_fit_lem}

-- CAPACITIES that a lent table can have
pub record Small (caps : Caps) : Type 0 where
  pub types : caps.types ≤ 4096
  pub code : caps.code ≤ 1024

pub caps_of_small : (a b : ℕ) → Small (caps_of a b)
caps_of_small a b = record { types = omega arith; code = omega arith }

-- NODES: more nodes behind do not matter
module _ {code : List Node} {n : ℕ} (more : List Node) (low : n ≤ length code) where
  names_grow : {b : Bool} {w : ℕ} → Names code n b w → Names (code ++ more) n b w
  names_grow {w = w} h =
      record { low = h.low; sort = ap (λ (x : Node). is_condition x.kind) (get_or-append code more (node 0 0 0 0) w (omega arith)) ∙ h.sort }

  pub low_grow : {x : Node} → NodeLow code n x → NodeLow (code ++ more) n x
  low_grow NodeLow.query·empty = NodeLow.query·empty
  low_grow NodeLow.query·text = NodeLow.query·text
  low_grow (NodeLow.query·element h k q) = NodeLow.query·element h k (names_grow q)
  low_grow (NodeLow.query·pair p q) = NodeLow.query·pair (names_grow p) (names_grow q)
  low_grow (NodeLow.query·variable v) = NodeLow.query·variable v
  low_grow (NodeLow.query·child v) = NodeLow.query·child v
  low_grow (NodeLow.query·dos v) = NodeLow.query·dos v
  low_grow (NodeLow.query·for v p q) = NodeLow.query·for v (names_grow p) (names_grow q)
  low_grow (NodeLow.query·let v p q) = NodeLow.query·let v (names_grow p) (names_grow q)
  low_grow (NodeLow.query·when p q) = NodeLow.query·when (names_grow p) (names_grow q)
  low_grow NodeLow.condition·true = NodeLow.condition·true
  low_grow NodeLow.condition·false = NodeLow.condition·false
  low_grow (NodeLow.condition·equal v w) = NodeLow.condition·equal v w
  low_grow (NodeLow.condition·empty v) = NodeLow.condition·empty v
  low_grow (NodeLow.condition·or p q) = NodeLow.condition·or (names_grow p) (names_grow q)
  low_grow (NodeLow.condition·not p) = NodeLow.condition·not (names_grow p)

-- the most bytes that the records behind these tables can have
abbrev pub ended : Option ℕ → ℕ
ended none = 0
ended (some e) = 6

abbrev pub weight : Tables → ℕ
weight t = 8 * (length t.types - 2) + 6 * length t.defs + 8 * length t.vars + 10 * length t.code + ended t.result

-- what has been read up to a byte offset
pub record Read (caps : Caps) (at : ℕ) (t : Tables) : Type 0 where
  pub types : TypesRead caps.types t.types
  pub defs : DefsRead (length t.types) t.defs
  pub vars : VarsRead (length t.types) t.vars
  pub code : CodeRead caps.code t.code
  pub result : (e : ℕ) → t.result ≡ some e → e < length t.types
  pub weighs : at ≤ weight t

ended_small : (o : Option ℕ) → ended o ≤ 6
ended_small none = omega arith
ended_small (some e) = omega arith

-- the tables' limits end reading here
pub weight_bound : {caps : Caps} {at : ℕ} {t : Tables} → Small caps → Read caps at t → at ≤ 43510
weight_bound {t = t} small h = omega (arith, ended_small t.result, h.types.fits, h.defs.few, h.vars.few, h.code.few, h.weighs)

-- ONE MORE of each
types_more : {room : ℕ} {T : Table} {x : Entry} → TypesRead room T → length T < room → Lower (length T) x → TypesRead room (T ++ (x ∷ []))
types_more {T = T} {x = x} h room low =
    record {
      two = omega (arith, length-append T (x ∷ []), h.two);
      fits = omega (arith, length-append T (x ∷ []));
      zeroth = at_append (x ∷ []) h.zeroth;
      first = at_append (x ∷ []) h.first;
      lower = λ e y k p. at_old (Lower e y) p (h.lower e y k) (λ same is. rw (same, ← is) low);
    }

defs_wider : {n m : ℕ} {D : Defs} → n ≤ m → DefsRead n D → DefsRead m D
defs_wider w h = record { few = h.few; defined = λ d c p. omega (arith, h.defined d c p) }

pub vars_wider : {n m : ℕ} {vars : List (ℕ × Var)} → n ≤ m → VarsRead n vars → VarsRead m vars
vars_wider w h = record { few = h.few; low = h.low; scoped = λ i v x p. omega (arith, h.scoped i v x p); once = h.once }

defs_more : {n : ℕ} {D : Defs} {c : ℕ} → DefsRead n D → length D < 64 → c < n → DefsRead n (D ++ (c ∷ []))
defs_more {D = D} {c = c} h room low =
    record { few = omega (arith, length-append D (c ∷ [])); defined = λ d b p. at_old (b < _) p (h.defined d b) (λ same is. rw (← is) low) }

vars_more : {n : ℕ} {vars : List (ℕ × Var)} {v : ℕ} (x : Var) → VarsRead n vars → length vars < 16 → v ≤ 63 → type_in x < n → is_some (find v vars) ≡ false → VarsRead n (vars ++ ((v, x) ∷ []))
vars_more {n} {vars} {v} x h room low scoped new =
    record {
      few = omega (arith, length-append vars ((v, x) ∷ []));
      low = λ i w y p. at_old (w ≤ 63) p (h.low i w y) (λ same is. rw (ap (λ (r : ℕ × Var). r.0) (sym is)) low);
      scoped = λ i w y p. at_old (type_in y < n) p (h.scoped i w y) (λ same is. rw (ap (λ (r : ℕ × Var). r.1) (sym is)) scoped);
      once = λ i j w y z p q.
          at_old (i ≡ j) p
          (λ a. at_old (i ≡ j) q (h.once i j w y z a) (λ same is. absurd (other i w y z is a)))
          (λ same is. at_old (i ≡ j) q (λ b. absurd (other j w z y is b)) (λ too _. same ∙ sym too));
    }
  where
    other : (i w : ℕ) (y z : Var) → ◌≡◌ {A = ℕ × Var} (v, x) (w, z) → At vars i (w, y) → ⊥
    other i w y z is a = find_absent w vars i y (rw (ap (λ (r : ℕ × Var). r.0) (sym is)) new) a.is

code_more : {room : ℕ} {code : List Node} {x : Node} → CodeRead room code → length code < room → NodeLow code (length code) x → CodeRead room (code ++ (x ∷ []))
code_more {code = code} {x = x} h room low =
    record {
      few = omega (arith, length-append code (x ∷ []));
      nodes = λ n y p. at_old (NodeLow _ n y) p
          (λ q. low_grow (x ∷ []) (omega (arith, at_low q)) (h.nodes n y q))
          (λ same is. rw (same, ← is) (low_grow (x ∷ []) (omega arith) low));
    }

-- FROM FIELDS. The entry and the node that a record of these fields gives are low.
module _ (n : ℕ) (code : List Node) (s : List ℕ) (at : ℕ) where
  entry_low : {k : ℕ} {ss : List Sort} → Row Records.types k ss → AllFit n code ss (fields_at s at ss) → Lower n (entry_of k (get_or (fields_at s at ss) 0 0) (get_or (fields_at s at ss) 1 0))
  unfolding fields_at entry_of find
  entry_low Row.type·element h = Lower.element h.0.0 h.0.1 h.1.0
  entry_low Row.type·pair h = Lower.pair h.0 h.1.0
  entry_low Row.type·union h = Lower.union h.0 h.1.0
  entry_low Row.type·star h = Lower.star h.0
  entry_low Row.type·plus h = Lower.plus h.0
  entry_low Row.type·opt h = Lower.opt h.0
  entry_low Row.type·name h = Lower.name h.0

  node_low : {k : ℕ} {ss : List Sort} → Row Records.query k ss → AllFit n code ss (fields_at s at ss) → NodeLow code (length code) (node k (get_or (fields_at s at ss) 0 0) (get_or (fields_at s at ss) 1 0) (get_or (fields_at s at ss) 2 0))
  unfolding fields_at
  node_low Row.query·empty h = NodeLow.query·empty
  node_low Row.query·text h = NodeLow.query·text
  node_low Row.query·element h = NodeLow.query·element h.0.0 h.0.1 h.1.0
  node_low Row.query·pair h = NodeLow.query·pair h.0 h.1.0
  node_low Row.query·variable h = NodeLow.query·variable h.0
  node_low Row.query·child h = NodeLow.query·child h.0
  node_low Row.query·dos h = NodeLow.query·dos h.0
  node_low Row.query·for h = NodeLow.query·for h.0 h.1.0 h.1.1.0
  node_low Row.query·let h = NodeLow.query·let h.0 h.1.0 h.1.1.0
  node_low Row.query·when h = NodeLow.query·when h.0 h.1.0
  node_low Row.condition·true h = NodeLow.condition·true
  node_low Row.condition·false h = NodeLow.condition·false
  node_low Row.condition·equal h = NodeLow.condition·equal h.0 h.1.0
  node_low Row.condition·empty h = NodeLow.condition·empty h.0
  node_low Row.condition·or h = NodeLow.condition·or h.0 h.1.0
  node_low Row.condition·not h = NodeLow.condition·not h.0

-- what a record that is accepted has passed: 4, 5, 6 and 7
record Passed (caps : Caps) (t : Tables) (section : Section) (ss : List Sort) (ws : List ℕ) : Type 0 where
  open_still : is_some t.result ≡ false
  room : has_room caps t section ≡ true
  fit : AllFit (length t.types) t.code ss ws
  new : declared_again t section (get_or ws 0 0) ≡ false

not_ended : (o : Option ℕ) → is_some o ≡ false → ended o ≡ 0
not_ended none h = refl
not_ended (some e) h = never (sym h)

abbrev put_at : Section → ℕ → List ℕ → Tables → Tables
put_at section k ws t = put section k (get_or ws 0 0) (get_or ws 1 0) (get_or ws 2 0) t

module _ {caps : Caps} {at : ℕ} {t : Tables} (h : Read caps at t) (s : List ℕ) (from w : ℕ) where
  put_type_lem : {k : ℕ} {ss : List Sort} → Row Records.types k ss → w ≤ 8 → Passed caps t Records.types ss (fields_at s from ss) → Read caps (at + w) (put_at Records.types k (fields_at s from ss) t)
  unfolding put
  put_type_lem {k} {ss} row short p =
      let ws = fields_at s from ss in
      let x = entry_of k (get_or ws 0 0) (get_or ws 1 0) in
      let long = length-append t.types (x ∷ []) in
      record {
        types = types_more h.types (ltb-true _ _ p.room) (entry_low (length t.types) t.code s from row p.fit);
        defs = defs_wider (omega arith) h.defs;
        vars = vars_wider (omega arith) h.vars;
        code = h.code;
        result = λ e q. omega (arith, h.result e q, long);
        weighs = omega (arith, h.weighs, h.types.two, long);
      }

  put_definition : {k : ℕ} {ss : List Sort} → Row Records.definitions k ss → w ≤ 6 → Passed caps t Records.definitions ss (fields_at s from ss) → Read caps (at + w) (put_at Records.definitions k (fields_at s from ss) t)
  unfolding put fields_at
  put_definition Row.definition short p =
      record {
        types = h.types;
        defs = defs_more h.defs (ltb-true _ _ p.room) p.fit.0;
        vars = h.vars;
        code = h.code;
        result = h.result;
        weighs = omega (arith, h.weighs, length-append t.defs (word s from ∷ []));
      }

  declared : (k v : ℕ) (x : Var) → var_of k (type_in x) ≡ x → w ≤ 8 → length t.vars < 16 → v ≤ 63 → type_in x < length t.types → is_some (find v t.vars) ≡ false → (c : ℕ) → Read caps (at + w) (put Records.variables k v (type_in x) c t)
  unfolding put
  declared k v x is short room low scoped new c =
      rw is (record {
        types = h.types;
        defs = h.defs;
        vars = vars_more x h.vars room low scoped new;
        code = h.code;
        result = h.result;
        weighs = omega (arith, h.weighs, length-append t.vars ((v, x) ∷ []));
      })

  put_variable : {k : ℕ} {ss : List Sort} → Row Records.variables k ss → w ≤ 8 → Passed caps t Records.variables ss (fields_at s from ss) → Read caps (at + w) (put_at Records.variables k (fields_at s from ss) t)
  unfolding fields_at
  put_variable Row.tree short p = declared Kinds.record·tree (word s from) (Records.tree (word s (from + 2))) refl short (ltb-true _ _ p.room) p.fit.0 p.fit.1.0 p.new 0
  put_variable Row.forest short p = declared Kinds.record·forest (word s from) (Records.forest (word s (from + 2))) refl short (ltb-true _ _ p.room) p.fit.0 p.fit.1.0 p.new 0

  put_query : {k : ℕ} {ss : List Sort} → Row Records.query k ss → w ≤ 10 → Passed caps t Records.query ss (fields_at s from ss) → Read caps (at + w) (put_at Records.query k (fields_at s from ss) t)
  unfolding put
  put_query {k} {ss} row short p =
      let ws = fields_at s from ss in
      let x = node k (get_or ws 0 0) (get_or ws 1 0) (get_or ws 2 0) in
      record {
        types = h.types;
        defs = h.defs;
        vars = h.vars;
        code = code_more h.code (ltb-true _ _ p.room) (node_low (length t.types) t.code s from row p.fit);
        result = h.result;
        weighs = omega (arith, h.weighs, length-append t.code (x ∷ []));
      }

  put_result : {k : ℕ} {ss : List Sort} → Row Records.result k ss → w ≤ 6 → Passed caps t Records.result ss (fields_at s from ss) → Read caps (at + w) (put_at Records.result k (fields_at s from ss) t)
  unfolding put fields_at
  put_result Row.record·result short p =
      record {
        types = h.types;
        defs = h.defs;
        vars = h.vars;
        code = h.code;
        result = λ e q. let same : word s from ≡ e = cc in rw (← same) p.fit.0;
        weighs = omega (arith, h.weighs, not_ended t.result p.open_still);
      }

  put_reads : (file : File) (section : Section) {k : ℕ} {ss : List Sort} → has_section file Records.value ≡ false → has_section file section ≡ true → Row section k ss → w ≤ longest section → Passed caps t section ss (fields_at s from ss) → Read caps (at + w) (put_at section k (fields_at s from ss) t)
  put_reads file Records.types no_value own row short p = put_type_lem row short p
  put_reads file Records.definitions no_value own row short p = put_definition row short p
  put_reads file Records.variables no_value own row short p = put_variable row short p
  put_reads file Records.query no_value own row short p = put_query row short p
  put_reads file Records.result no_value own row short p = put_result row short p
  put_reads file Records.value no_value own row short p = never (sym no_value ∙ own)

-- ONE RECORD, whole: 1, 2 and 3
record Whole (file : File) (s : List ℕ) (at : ℕ) (r : Record) : Type 0 where
  known : find r.kind forms ≡ some r.form
  own : has_section file r.form.section ≡ true
  fields : r.fields ≡ fields_at s (at + 4) r.form.sorts
  next : r.next ≡ at + length_of r.form

abbrev Early : ℕ → ℕ → ℕ → ℕ → Type 0
Early last at n p = (1 ≤ n) × (n ≤ last) × (p ≡ at)

record_whole : (file : File) (s : List ℕ) (at last : ℕ) → 3 ≤ last → Ends (Whole file s at) (Early last at) (record_at file s at)
unfolding record_at
record_whole file s at last l =
    ends_bind (ends_require (leb (at + 4) (length s)) 1 at (omega arith, omega arith, refl)) λ _ _.
    ends_bind (ends_given (form_in file (word s (at + 2))) 2 at (omega arith, omega arith, refl)) λ f e.
    ends_bind (ends_require (eqb (word s at) (length_of f)) 3 at (omega arith, omega arith, refl)) λ _ _.
    ends_bind (ends_require (leb (at + length_of f) (length s)) 1 at (omega arith, omega arith, refl)) λ _ _.
    let own = own_form_lem file (find (word s (at + 2)) forms) f e in
    gives (record { known = own.0; own = own.1; fields = refl; next = refl })

-- the last refusal of reading a file: only a job declares variables
abbrev pub last : File → ℕ
last Records.job = 7
last Records.answer = 6
last Records.values = 6

pub last_six : (file : File) → 6 ≤ last file
last_six Records.job = omega arith
last_six Records.answer = omega arith
last_six Records.values = omega arith

is_variables : (section : Section) (b : Bool) → (eqb (order section) (order Records.variables) && b) ≡ true → order section ≡ order Records.variables
is_variables section b again = eqb-true _ _ (both_true (eqb (order section) (order Records.variables)) b again).0

declares : (file : File) (section : Section) (b : Bool) → has_section file section ≡ true → (eqb (order section) (order Records.variables) && b) ≡ true → 7 ≤ last file
declares Records.job section b own again = omega arith
declares Records.answer section b own again = never (rw (is_variables section b again) at own)
declares Records.values section b own again = never (rw (is_variables section b again) at own)

-- a record keeps the invariant, and moves on
pub record_reads : {caps : Caps} {at : ℕ} {t : Tables} (file : File) (s : List ℕ) → has_section file Records.value ≡ false → Read caps at t → Ends (λ r. Read caps r.1 r.0 × (at + 4 ≤ r.1)) (λ n p. (1 ≤ n) × (n ≤ last file) × (p ≡ at)) (read_record file caps s at t)
unfolding read_record
record_reads {caps} {at} {t} file s no_value h =
    let six = last_six file in
    ends_bind (record_whole file s at (last file) (omega arith)) λ r whole.
    let section = r.form.section in
    ends_bind (ends_require (in_order t section) 4 at (omega arith, omega arith, refl)) λ _ ordered.
    ends_bind (ends_require (has_room caps t section) 5 at (omega arith, omega arith, refl)) λ _ room.
    ends_bind (ends_require (all_fit (length t.types) t.code r.form.sorts r.fields) 6 at (omega arith, omega arith, refl)) λ _ fit.
    ends_bind (ends_test (not (declared_again t section (field r 0))) 7 at (λ again. (omega arith, declares file section (is_some (find (field r 0) t.vars)) whole.own (not-false _ again), refl))) λ _ new.
    gives (kept r whole ordered room fit new, omega (arith, whole.next))
  where
    kept : (r : Record) → Whole file s at r → in_order t r.form.section ≡ true → has_room caps t r.form.section ≡ true
        → all_fit (length t.types) t.code r.form.sorts r.fields ≡ true → not (declared_again t r.form.section (field r 0)) ≡ true
        → Read caps r.next (put_at r.form.section r.kind r.fields t)
    kept r whole ordered room fit new =
        let passed : Passed caps t r.form.section r.form.sorts (fields_at s (at + 4) r.form.sorts) =
        rw (← whole.fields) (record {
          open_still = not-true _ (both_true (leb (order t.section) (order r.form.section)) (not (is_some t.result)) ordered).1;
          room = room;
          fit = all_fit_lem _ _ _ _ fit;
          new = not-true _ new;
        }) in
        rw (whole.next, whole.fields)
        (put_reads h s (at + 4) (length_of r.form) file r.form.section no_value whole.own (form_row r.kind whole.known) (form_length r.kind whole.known).1 passed)

-- A FILE: what was read to its end
pub record Through (caps : Caps) (s : List ℕ) (t : Tables) : Type 0 where
  pub at : ℕ
  pub read : Read caps at t
  pub all : length s ≤ at

abbrev pub Stopped : File → ℕ → ℕ → Type 0
Stopped file n p = (1 ≤ n) × (n ≤ last file) × (p ≤ 43510)

-- where reading begins
pub fresh_reads : {caps : Caps} → 2 ≤ caps.types → Read caps 0 fresh
fresh_reads l =
    record {
      types = record { two = omega arith; fits = l; zeroth = record { is = refl }; first = record { is = refl }; lower = λ e x k p. absurd (omega (arith, at_low p)) };
      defs = record { few = omega arith; defined = λ d c p. absurd (omega (arith, at_low p)) };
      vars = record {
        few = omega arith;
        low = λ i v x p. absurd (omega (arith, at_low p));
        scoped = λ i v x p. absurd (omega (arith, at_low p));
        once = λ i j v x y p q. absurd (omega (arith, at_low p));
      };
      code = record { few = omega arith; nodes = λ n x p. absurd (omega (arith, at_low p)) };
      result = λ e p. absurd_option p;
      weighs = omega arith;
    }

module _ {caps : Caps} (file : File) (s : List ℕ) (no_value : has_section file Records.value ≡ false) (small : Small caps) where
  step_reads : (k at : ℕ) (t : Tables) (c : Bool) → ltb at (length s) ≡ c → Read caps at t
      → ((r : Tables × ℕ) → Read caps r.1 r.0 → at + 4 ≤ r.1 → Ends (Through caps s) (Stopped file) (read_from k file caps s r.1 r.0))
      → Ends (Through caps s) (Stopped file) (elim c as (λ _. Out Tables) [ true ↦ read_record file caps s at t >>= λ r. read_from k file caps s r.1 r.0 | false ↦ ok t ])
  step_reads k at t true e h go =
      ends_bind (ends_by (record_reads file s no_value h) (λ n p r. (r.0, r.1, omega (arith, weight_bound small h)))) λ r q. go r q.0 q.1
  step_reads k at t false e h go = gives (record { at = at; read = h; all = ltb-false _ _ e })

  from_reads : (k at : ℕ) (t : Tables) → Read caps at t → length s ≤ at + k → Ends (Through caps s) (Stopped file) (read_from k file caps s at t)
  unfolding read_from
  from_reads zero at t h l = gives (record { at = at; read = h; all = omega arith })
  from_reads (suc k) at t h l = step_reads k at t (ltb at (length s)) refl h (λ r q m. from_reads k r.1 r.0 q (omega arith))

  pub reads : Ends (Through caps s) (Stopped file) (read_records file caps s)
  unfolding read_records
  reads =
      let six = last_six file in
      ends_bind (ends_require (leb 2 caps.types) 5 0 (omega arith, omega arith, omega arith)) λ _ two.
      from_reads (length s) 0 fresh (fresh_reads (leb-true _ _ two)) (omega arith)

-- "type capacity under 2 gives this before all else, place 0"
pub reads_nothing : (caps : Caps) (file : File) (s : List ℕ) → caps.types < 2 → read_records file caps s ≡ refused 5 0
unfolding read_records
reads_nothing caps file s h = rw (lt-leb 2 caps.types h)
