-- Values that were loaded: where they stand in the work table; and the scope of the declared variables, bound from the last to the first, shows them.
-- Assumes nothing.
use Rattle.std.specs.Prelude as Std
use mathlib.Core.Path.{◌≡◌, refl, sym, ap, ◌∙◌, subst}
use mathlib.Core.Logic.{◌≢◌}
use mathlib.Core.List.{List, [], ◌∷◌, ◌++◌, append-nil, map}
use Prim.Native.Nat.{ℕ, zero, suc, ◌*◌, ◌-◌, ◌≤◌, ◌<◌}
use native.Mathlib.Omega.{arith}
use lib.ListN.{length, get_or, take, drop, drop_of_length-le}
use lib.Seq.{drop-cons}
use Rattle.meaning.specs.Base.{ok, At, zeros, padded}
use Rattle.meaning.specs.Forests.{end, size, forest_words}
use Rattle.meaning.specs.Records.{Var, var_of}
use Rattle.meaning.specs.Formed.{VarsRead}
use Rattle.meaning.specs.Values.{Value, joined}
use Rattle.meaning.specs.Running.{env_of}
use Rattle.meaning.proofs.Lists.{at_is}
use Rattle.meaning.proofs.Forests.{length_words}
use Rattle.words.specs.declared.Entry.{Entry}
use Rattle.tables.specs.Rows.{var_in, var_at}
use Rattle.spans.specs.Shows.{bound, none, part, Shows, Inside}
use Rattle.spans.specs.declared.Span.{Span}
use Rattle.spans.specs.declared.Spans.{Spans}
use Rattle.spans.proofs.Binding.{inside_bind, shows_bind, inside_none, shows_none}
use Rattle.values.specs.declared.Loaded.{Loaded}
use Rattle.values.specs.Says as Values
use Rattle.values.specs.Says.{ends_of, loaded_of}
use Rattle.values.proofs.Loading.{start_of, Held, held}
use Rattle.ran.specs.Says.{Loads, Spread}

map_length : {A B : Type 0} (f : A → B) (l : List A) → length (map f l) ≡ length l
map_length f [] = refl
map_length f (x ∷ l) = ap suc (map_length f l)

map_at : {A B : Type 0} (f : A → B) (l : List A) (i : ℕ) (z : A) → get_or (map f l) i (f z) ≡ f (get_or l i z)
map_at f [] i z = refl
map_at f (x ∷ l) zero z = refl
map_at f (x ∷ l) (suc i) z = map_at f l i z

none_like : Value
none_like = record { declared = (0, var_of 0 0); place = 0; part = record { forest = end; places = []; next = 0 } }

-- VALUES THAT WERE LOADED
module _ {vars : List (ℕ × Var)} {ends : List ℕ} {count : ℕ} {work : List ℕ} {vs : List Value} (h : Loads vars ends count work vs) where
  pub loads_length : length (forest_words (joined vs)) ≡ 3 * count
  loads_length = length_words (joined vs) ∙ ap (λ (n : ℕ). 3 * n) (sym h.entries)

  loaded : Loaded
  loaded = record { entries = size (joined vs); ends = padded 16 (ends_of vs) }

  -- as the loader leaves them, with zeros behind them and without
  left_table : Values.Left (length work) (Std.Ok loaded) work (ok vs)
  unfolding loaded_of loaded
  left_table = record { answer = refl; work = h.laid }

  left_alone : Values.Left (3 * count) (Std.Ok loaded) (forest_words (joined vs)) (ok vs)
  unfolding loaded_of loaded zeros
  left_alone = let z : 3 * count - length (forest_words (joined vs)) ≡ 0 = omega (arith, loads_length) in record { answer = refl; work = sym (ap (λ (k : ℕ). forest_words (joined vs) ++ zeros k) z ∙ append-nil (forest_words (joined vs))) }

  stands : (i : ℕ) (v : Value) → At vs i v → Held ends work i v.part.forest
  unfolding loaded
  stands i v a = subst (λ (es : List ℕ). Held es work i v.part.forest) (sym h.ends_are) (held left_table i v a)

  below : (i : ℕ) (v : Value) → At vs i v → get_or ends i 0 ≤ count
  unfolding loaded
  below i v a = omega (arith, ap (λ (es : List ℕ). get_or es i 0) h.ends_are, (held left_alone i v a).within, loads_length)

  -- the i-th of them
  ith : ℕ → Value
  ith i = get_or vs i none_like

  pub loads_count : length vs ≡ length vars
  loads_count = sym (map_length (λ (v : Value). v.declared) vs) ∙ ap length h.declared

  module _ (i : ℕ) (l : i < length vs) where
    ith_at : At vs i (ith i)
    unfolding ith
    ith_at = at_is vs i none_like l

    ith_part : part work (start_of ends i) (get_or ends i 0) ≡ forest_words (ith i).part.forest
    unfolding part
    ith_part =
        let x = stands i (ith i) ith_at in
        let n : 3 * get_or ends i 0 - 3 * start_of ends i ≡ 3 * size (ith i).part.forest = omega (arith, x.end_is) in
        ap (λ (k : ℕ). take k (drop (3 * start_of ends i) work)) n ∙ x.words

    ith_env : env_of (drop i vs) ≡ ((ith i).declared.0, (ith i).part.forest) ∷ env_of (drop (suc i) vs)
    unfolding ith
    ith_env = ap env_of (drop-cons vs i none_like l)

-- THE SCOPE of those from the i-th on
pub record From (vars : List (ℕ × Var)) (ends : List ℕ) (i : ℕ) (s : Spans) : Type 0 where
  pub is : (count : ℕ) (work : List ℕ) (vs : List Value) → Loads vars ends count work vs → Inside s count × Shows work s (env_of (drop i vs))

pub from_none : (V : List (ℕ × Var)) (ends : List ℕ) {n : ℕ} → n ≡ length V → {s : Spans} → s ≡ none → From V ends n s
from_none V ends {n} long e =
    rw e
    (record { is = λ count work vs h. (inside_none count, rw (drop_of_length-le vs {i = n} (omega (arith, loads_count h))) (shows_none work)) })

pub from_all : {vars : List (ℕ × Var)} {ends : List ℕ} {s : Spans} {i : ℕ} → i ≡ 0 → From vars ends i s → Spread vars ends s
from_all {vars} {ends} {s} e f = record { is = (subst (λ (k : ℕ). From vars ends k s) e f).is }

-- a turn of the loop, whatever names the code has for its parts
var_low : (V : List (ℕ × Var)) → VarsRead 4096 V → (i : ℕ) → i < length V → (var_at V i).0 < 64
var_low V read i l = omega (arith, read.low i (var_at V i).0 (var_at V i).1 (at_is V i (0, var_of 0 0) l))

pub turn_low : (V : List (ℕ × Var)) → VarsRead 4096 V → (i v : ℕ) (x : Entry) → 0 < i → i ≤ length V → var_in x ≡ var_at V (i - 1) → v ≡ x.a → v < 64
turn_low V read i v x h l p q = omega (arith, ap (λ (y : ℕ × Var). y.0) p, var_low V read (i - 1) (omega arith))

module _ (V : List (ℕ × Var)) (ends : List ℕ) (read : VarsRead 4096 V) where
  from_one : (s : Spans) (i : ℕ) → i < length V → From V ends (suc i) s → From V ends i (bound s (var_at V i).0 (record { from = start_of ends i; to = get_or ends i 0 }))
  unfolding ith none_like
  from_one s i l f = record { is = go }
    where
      go : (count : ℕ) (work : List ℕ) (vs : List Value) → Loads V ends count work vs
          → Inside (bound s (var_at V i).0 (record { from = start_of ends i; to = get_or ends i 0 })) count × Shows work (bound s (var_at V i).0 (record { from = start_of ends i; to = get_or ends i 0 })) (env_of (drop i vs))
      go count work vs h =
          let low : i < length vs = omega (arith, loads_count h) in
          let was = f.is count work vs h in
          let v = (var_at V i).0 in
          let x : Span = record { from = start_of ends i; to = get_or ends i 0 } in
          let y = ith h i in
          let a = ith_at h i low in
          let named : y.declared ≡ var_at V i =
          sym (map_at (λ (u : Value). u.declared) vs i none_like) ∙ ap (λ (us : List (ℕ × Var)). get_or us i none_like.declared) h.declared in
          let here = shows_bind was.0 v (var_low V read i l) x y.part.forest (ith_part h i low) was.1 in
          let env : (v, y.part.forest) ∷ env_of (drop (suc i) vs) ≡ env_of (drop i vs) = ap (λ (k : ℕ). (k, y.part.forest) ∷ env_of (drop (suc i) vs)) (sym (ap (λ (d : ℕ × Var). d.0) named)) ∙ sym (ith_env h i low) in
          (inside_bind was.0 v (var_low V read i l) x (omega (arith, (stands h i y a).end_is)) (below h i y a), subst (Shows work (bound s v x)) env here)

  pub turn_from : (i : ℕ) {s r : Spans} (x : Entry) (v from to : ℕ) → 0 < i → i ≤ length V → var_in x ≡ var_at V (i - 1) → v ≡ x.a
      → from ≡ start_of ends (i - 1) → to ≡ get_or ends (i - 1) 0 → r ≡ bound s v (record { from = from; to = to }) → From V ends i s → (i - 1 ≤ length V) × From V ends (i - 1) r
  turn_from i {s} x v from to h l p q a b e f =
      let m : i ≡ suc (i - 1) = omega arith in
      let named : v ≡ (var_at V (i - 1)).0 = q ∙ ap (λ (y : ℕ × Var). y.0) p in
      (omega arith, rw (e, named, a, b) (from_one s (i - 1) (omega arith) (subst (λ (k : ℕ). From V ends k s) m f)))

-- where those of a later variable begin
pub start_later : (ends : List ℕ) (i : ℕ) → i ≢ 0 → get_or ends (i - 1) 0 ≡ get_or (0 ∷ ends) i 0
start_later ends zero h = absurd (h refl)
start_later ends (suc i) h = let e : suc i - 1 ≡ i = omega arith in ap (λ (k : ℕ). get_or ends k 0) e
