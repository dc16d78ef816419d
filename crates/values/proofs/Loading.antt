-- For callers: after an accepted load each variable's entries stand between the end of the one before it and its own end, as the words of its forest.
-- Assumes nothing.
use mathlib.Core.Path.{◌≡◌, refl, sym, ap, ◌∙◌}
use mathlib.Core.Bool.{◌&&◌}
use mathlib.Core.List.{List, [], ◌∷◌, ◌++◌, append_assoc, map}
use Prim.Native.Nat.{ℕ, zero, suc, ◌+◌, ◌*◌, ◌-◌, ◌≤◌, ◌<◌}
use native.Mathlib.Omega.{arith}
use lib.Dec.{leb, eqb}
use borrow.Author.Tests.{leb-true}
use lib.ListN.{length, get_or, take, drop, length-append, get_or-append}
use lib.Seq.{take_at, drop_at}
use Rattle.meaning.specs.Base.{Out, ok, refused, refuse_at, At, concat_map, zeros, padded, forest_width}
use Rattle.meaning.specs.Kinds.{value·variable}
use Rattle.meaning.specs.Forests.{Forest, size, forest_words}
use Rattle.meaning.specs.Records.{field, Var}
use Rattle.meaning.specs.Values.{Part, value_at, read_value, Value, read_values, odd, entry_places, load_values, joined}
use Rattle.meaning.proofs.Lists.{absurd_option, at_low}
use Rattle.meaning.proofs.Ends.{ends_ok}
use Rattle.meaning.proofs.Forests.{size_join, words_join, length_words}
use Rattle.meaning.proofs.Values.{forest_ends}
use Rattle.std.specs.Prelude as Std
use Rattle.refusals.specs.declared.Refusal.{Refusal}
use Rattle.refusals.specs.Says.{number_of}
use Rattle.values.specs.declared.Loaded.{Loaded}
use Rattle.values.specs.Says.{ends_from, ends_of, loaded_of, Left}
use Rattle.values.proofs.Stepping.{bound, tested_ok, absurd_out}
use Rattle.values.proofs.Scanning.{ends_length}

-- where the entries of the i-th variable begin, by the ends
abbrev pub start_of : List ℕ → ℕ → ℕ
start_of ends i = get_or (0 ∷ ends) i 0

-- the i-th variable's forest stands in these words
pub record Held (ends w : List ℕ) (i : ℕ) (f : Forest) : Type 0 where
  pub end_is : get_or ends i 0 ≡ start_of ends i + size f
  pub within : forest_width * get_or ends i 0 ≤ length w
  pub words : take (forest_width * size f) (drop (forest_width * start_of ends i) w) ≡ forest_words f

-- the same behind n entries
record HeldFrom (n : ℕ) (es w : List ℕ) (i : ℕ) (f : Forest) : Type 0 where
  pub end_is : get_or es i 0 ≡ get_or (n ∷ es) i 0 + size f
  pub within : forest_width * get_or es i 0 ≤ length w
  pub words : take (forest_width * size f) (drop (forest_width * get_or (n ∷ es) i 0) w) ≡ forest_words f

held_first : (n : ℕ) (f : Forest) (es front back w : List ℕ) → length front ≡ forest_width * n → w ≡ front ++ (forest_words f ++ back) → HeldFrom n ((n + size f) ∷ es) w 0 f
held_first n f es front back w l q =
    let long = length_words f in
    record {
      end_is = refl;
      within = omega (arith, ap length q, length-append front (forest_words f ++ back), length-append (forest_words f) back);
      words = rw (q, drop_at front (forest_words f ++ back) (forest_width * n) l) (take_at (forest_words f) back (forest_width * size f) long);
    }

held_from : (n : ℕ) (vs : List Value) (front back w : List ℕ) → length front ≡ forest_width * n → w ≡ front ++ (forest_words (joined vs) ++ back) → (i : ℕ) (v : Value) → At vs i v → HeldFrom n (ends_from n vs) w i v.part.forest
unfolding ends_from joined
held_from n [] front back w l q i v a = absurd_option a.is
held_from n (x ∷ vs) front back w l q zero v a =
    let z : x ≡ v = cc in
    let f = x.part.forest in
    let y : w ≡ front ++ (forest_words f ++ (forest_words (joined vs) ++ back)) = q ∙ ap (front ++◌) (ap (λ (ws : List ℕ). ws ++ back) (words_join f (joined vs)) ∙ append_assoc (forest_words f) (forest_words (joined vs)) back) in
    rw (← z) (held_first n f (ends_from (n + size f) vs) front (forest_words (joined vs) ++ back) w l y)
held_from n (x ∷ vs) front back w l q (suc i) v a =
    let f = x.part.forest in
    let y : w ≡ (front ++ forest_words f) ++ (forest_words (joined vs) ++ back) =
    q
    ∙ ap (front ++◌) (ap (λ (ws : List ℕ). ws ++ back) (words_join f (joined vs)) ∙ append_assoc (forest_words f) (forest_words (joined vs)) back)
    ∙ sym (append_assoc front (forest_words f) (forest_words (joined vs) ++ back)) in
    let h = held_from (n + size f) vs (front ++ forest_words f) back w (omega (arith, l, length_words f, length-append front (forest_words f))) y i v (record { is = a.is }) in
    record { end_is = h.end_is; within = h.within; words = h.words }

-- zeros behind the ends change nothing
start_padded : (n : ℕ) (es : List ℕ) (i : ℕ) → i < length es → (get_or (padded n es) i 0 ≡ get_or es i 0) × (start_of (padded n es) i ≡ start_of es i)
start_padded n es zero h = (get_or-append es (zeros (n - length es)) 0 0 h, refl)
start_padded n es (suc i) h = (get_or-append es (zeros (n - length es)) 0 (suc i) h, get_or-append es (zeros (n - length es)) 0 i (omega arith))

-- WHAT AN ANSWER TELLS: the values that were loaded, or the refusal
pub record Accepts (tw : ℕ) (r : Loaded) (w : List ℕ) (o : Out (List Value)) : Type 0 where
  pub values : List Value
  pub is : o ≡ ok values
  pub entries : r.entries ≡ size (joined values)
  pub left : Left tw (Std.Ok r) w (ok values)

module _ {tw : ℕ} {w : List ℕ} where
  pub accepted : (o : Out (List Value)) {r : Loaded} → Left tw (Std.Ok r) w o → Accepts tw r w o
  unfolding loaded_of
  accepted (ok vs) {r} left = record { values = vs; is = refl; entries = let z : r ≡ loaded_of vs = let y = left.answer in cc in ap (λ (x : Loaded). x.entries) z; left = left }
  accepted (refused k p) left = absurd_out (sym left.answer)

  pub turned_away : (o : Out (List Value)) {e : Refusal} → Left tw (Std.Err e) w o → (o ≡ refused (number_of e.reason) e.place) × (w ≡ zeros tw)
  turned_away (ok vs) left = absurd_out left.answer
  turned_away (refused j p) {e} left =
      let a : j ≡ number_of e.reason = let y = left.answer in cc in
      let b : p ≡ e.place = let y = left.answer in cc in
      ((λ i. refused (a i) (b i)), left.work)

-- AFTER AN ACCEPTED LOAD
pub held : {tw : ℕ} {r : Loaded} {w : List ℕ} {vs : List Value} → Left tw (Std.Ok r) w (ok vs) → (i : ℕ) (v : Value) → At vs i v → Held r.ends w i v.part.forest
unfolding loaded_of
held {tw} {r} {w} {vs} left i v a =
    let h = held_from 0 vs [] (zeros (tw - length (forest_words (joined vs)))) w (omega arith) left.work i v a in
    let z : r ≡ loaded_of vs = let y = left.answer in cc in
    let e : r.ends ≡ padded 16 (ends_of vs) = ap (λ (x : Loaded). x.ends) z in
    let p = start_padded 16 (ends_of vs) i (omega (arith, at_low a, ends_length 0 vs)) in
    rw e (record { end_is = rw (p.0, p.1) h.end_is; within = rw p.0 h.within; words = rw p.1 h.words })

-- the values are those of the declared variables, in their order
values_declared : (xs : List (ℕ × Var)) (s : List ℕ) (at : ℕ) {vs : List Value} → read_values xs s at ≡ ok vs → map (λ (v : Value). v.declared) vs ≡ xs
unfolding read_values
values_declared [] s at {vs} e = let z : [] ≡ vs = let t = (tested_ok (leb (length s) at) 18 at e).1 in cc in ap (map (λ (v : Value). v.declared)) (sym z)
values_declared (x ∷ xs) s at {vs} e =
    bound (read_value x.0 s at) _ e λ p f g.
    bound (read_values xs s p.next) _ g λ ws h k.
    let z : record { declared = x; place = at; part = p } ∷ ws ≡ vs = cc in
    ap (map (λ (v : Value). v.declared)) (sym z) ∙ ap (x ∷◌) (values_declared xs s p.next h)

-- what was loaded was read, and has room
pub load_read : (room : ℕ) (vars : List (ℕ × Var)) (s : List ℕ) {vs : List Value} → load_values room vars s ≡ ok vs → (read_values vars s 0 ≡ ok vs) × (length (entry_places vs) ≤ room)
unfolding load_values
load_read room vars s {vs} e =
    bound (read_values vars s 0) _ e λ ws f g.
    bound (refuse_at 19 (odd ws)) _ g λ _ _ k.
    let t = tested_ok (leb (length (entry_places ws)) room) 20 (get_or (entry_places ws) room 0) k in
    let z : ws ≡ vs = let u = t.1 in cc in
    rw (← z) (f, leb-true (length (entry_places ws)) room t.0)

pub load_declared : (room : ℕ) (vars : List (ℕ × Var)) (s : List ℕ) {vs : List Value} → load_values room vars s ≡ ok vs → map (λ (v : Value). v.declared) vs ≡ vars
load_declared room vars s e = values_declared vars s 0 (load_read room vars s e).0

-- and they have an entry for each record, so they fit
value_sized : (v : ℕ) (s : List ℕ) (at : ℕ) {p : Part} → read_value v s at ≡ ok p → length p.places ≡ size p.forest
unfolding read_value
value_sized v s at {p} e =
    bound (value_at s at) _ e λ r f g.
    let t = (tested_ok (eqb r.kind value·variable && eqb (field r 0) v) 18 at g).1 in
    let x = ends_ok (rw t at (forest_ends s (field r 1) r.next (field r 1) (omega arith))) in
    omega (arith, x.entries, x.records)

values_sized : (xs : List (ℕ × Var)) (s : List ℕ) (at : ℕ) {vs : List Value} → read_values xs s at ≡ ok vs → length (entry_places vs) ≡ size (joined vs)
unfolding read_values joined concat_map size
values_sized [] s at {vs} e = let z : [] ≡ vs = let t = (tested_ok (leb (length s) at) 18 at e).1 in cc in rw (← z) refl
values_sized (x ∷ xs) s at {vs} e =
    bound (read_value x.0 s at) _ e λ p f g.
    bound (read_values xs s p.next) _ g λ ws h k.
    let z : record { declared = x; place = at; part = p } ∷ ws ≡ vs = cc in
    rw (← z) (omega (arith, length-append p.places (entry_places ws), size_join p.forest (joined ws), value_sized x.0 s at f, values_sized xs s p.next h))

pub load_fits : (room : ℕ) (vars : List (ℕ × Var)) (s : List ℕ) {vs : List Value} → load_values room vars s ≡ ok vs → size (joined vs) ≤ room
load_fits room vars s e = let r = load_read room vars s e in omega (arith, r.1, values_sized vars s 0 r.0)
