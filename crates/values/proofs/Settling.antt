-- After all values are read: the refusals in turn are the definition's, and what is left is what it says.
-- Assumes nothing.
use mathlib.Core.Path.{◌≡◌, refl, sym, ap, ◌∙◌, subst}
use mathlib.Core.Bool.{Bool, true, false}
use mathlib.Core.List.{List}
use mathlib.Core.Option.{Option, none, some}
use Prim.Native.Nat.{ℕ, ◌*◌, ◌≤◌}
use native.Mathlib.Omega.{arith}
use lib.Dec.{leb}
use lib.ListN.{length, get_or, take}
use borrow.Author.Tests.{leb-true}
use Rattle.meaning.specs.Base.{Out, ok, refused, ◌>>=◌, require, refuse_at, zeros, padded, forest_width, work_capacity}
use Rattle.meaning.specs.Forests.{size, forest_words}
use Rattle.meaning.specs.Records.{Var}
use Rattle.meaning.specs.Values.{Value, read_values, odd, entry_places, fitting, load_values, joined}
use Rattle.meaning.proofs.Lists.{absurd_option}
use Rattle.meaning.proofs.Forests.{length_words}
use Rattle.std.specs.Prelude as Std
use Rattle.refusals.specs.declared.Refusal.{Refusal}
use Rattle.refusals.specs.Says.{number_of}
use Rattle.words.specs.Says.{found}
use Rattle.values.specs.declared.Scan.{Scan}
use Rattle.values.specs.declared.Loaded.{Loaded}
use Rattle.values.specs.Says as Says
use Rattle.values.specs.Says.{loaded_of, Left, overfull, Deep, Blank, Scans, judged, Fitting, Settles}
use Rattle.values.proofs.Stepping.{absurd_out}

-- room for all of them
fitting_turn : (room : ℕ) (vs : List Value) → fitting room vs ≡ (refuse_at 20 (overfull room (entry_places vs)) >>= λ _. ok vs)
unfolding overfull
fitting_turn room vs = go (leb (length (entry_places vs)) room)
  where
    go : (b : Bool) → (require b 20 (get_or (entry_places vs) room 0) >>= λ _. ok vs) ≡ (refuse_at 20 (elim b as (λ _. Option ℕ) [ true ↦ none | false ↦ some (get_or (entry_places vs) room 0) ]) >>= λ _. ok vs)
    go true = refl
    go false = refl

overfull_low : (room : ℕ) (ps : List ℕ) → overfull room ps ≡ none → length ps ≤ room
unfolding overfull
overfull_low room ps e = go (leb (length ps) room) refl e
  where
    go : (b : Bool) → leb (length ps) room ≡ b → ◌≡◌ {A = Option ℕ} (elim b as (λ _. Option ℕ) [ true ↦ none | false ↦ some (get_or ps room 0) ]) none → length ps ≤ room
    go true q e = leb-true (length ps) room q
    go false q e = absurd_option (sym e)

-- 19 and 20 in turn
abbrev in_turn : Option ℕ → Option ℕ → Out (Unit {0})
in_turn b c = refuse_at 19 b >>= λ _. refuse_at 20 c

-- the definition's refusals, of values that were read
load_turn : (room : ℕ) (vars : List (ℕ × Var)) (s : List ℕ) (vs : List Value) → read_values vars s 0 ≡ ok vs
    → load_values room vars s ≡ (in_turn (odd vs) (overfull room (entry_places vs)) >>= λ _. ok vs)
unfolding load_values
load_turn room vars s vs e = ap (λ (o : Out (List Value)). o >>= λ ws. refuse_at 19 (odd ws) >>= λ _. fitting room ws) e ∙ go (odd vs)
  where
    go : (o : Option ℕ) → (refuse_at 19 o >>= λ _. fitting room vs) ≡ (in_turn o (overfull room (entry_places vs)) >>= λ _. ok vs)
    go none = fitting_turn room vs
    go (some p) = refl

load_wrong : (room : ℕ) (vars : List (ℕ × Var)) (s : List ℕ) {n p : ℕ} → read_values vars s 0 ≡ refused n p → load_values room vars s ≡ refused n p
unfolding load_values
load_wrong room vars s e = ap (λ (o : Out (List Value)). o >>= λ ws. refuse_at 19 (odd ws) >>= λ _. fitting room ws) e

-- nothing was found, and so many entries were read
record Passed (r : Std.Result Scan Refusal) (n : ℕ) : Type 0 where
  scan : Scan
  is : r ≡ Std.Ok scan
  no_odd : found scan.odd ≡ none
  no_full : found scan.kept.full ≡ none
  entries : n ≡ scan.kept.entries

passed : (r : Std.Result Scan Refusal) {n : ℕ} → ok n ≡ judged r → Passed r n
passed (Std.Err e) q = absurd_out (sym q)
passed (Std.Ok c) {n} q = go (found c.odd) (found c.kept.full) refl refl q
  where
    go : (a b : Option ℕ) → found c.odd ≡ a → found c.kept.full ≡ b → ok n ≡ (refuse_at 19 a >>= λ _. refuse_at 20 b >>= λ _. ok c.kept.entries) → Passed (Std.Ok c) n
    go none none x y q = record { scan = c; is = refl; no_odd = x; no_full = y; entries = cc }
    go none (some p) x y q = absurd_out (sym q)
    go (some p) b x y q = absurd_out (sym q)

-- the work table is cleared behind them
module _ (c : Std.Result Scan Refusal) where
  pub passed_low : {n : ℕ} {w : List ℕ} → ok n ≡ judged c → Fitting c w → forest_width * n ≤ length w
  passed_low q h = let p = passed c q in rw p.entries (h.low p.scan p.is p.no_full)

  pub stays : {tw n : ℕ} {ends w u : List ℕ} → ok n ≡ judged c → tw ≡ length w → u ≡ padded (length w) (take (forest_width * n) w) → Settles tw c ends w (Std.Ok (record { entries = n; ends = ends })) u
  unfolding loaded_of
  stays {tw} {n} {ends} {w} {u} q lent kept = record { leaves = λ room vars s h. go room vars s (subst (λ (r : Std.Result Scan Refusal). Scans room tw (read_values vars s 0) ends w r) p.is h) }
    where
      p : Passed c n
      p = passed c q

      go : (room : ℕ) (vars : List (ℕ × Var)) (s : List ℕ) → Scans room tw (read_values vars s 0) ends w (Std.Ok p.scan) → Left tw (Std.Ok (record { entries = n; ends = ends })) u (load_values room vars s)
      go room vars s (Says.read vs x o r k es) =
          let none_odd : odd vs ≡ none = sym o ∙ p.no_odd in
          let none_over : overfull room (entry_places vs) ≡ none = ap (λ (m : ℕ). overfull m (entry_places vs)) (sym r) ∙ sym k.over ∙ p.no_full in
          let low = overfull_low room (entry_places vs) none_over in
          let z : load_values room vars s ≡ ok vs = load_turn room vars s vs x ∙ λ j. in_turn (none_odd j) (none_over j) >>= λ _. ok vs in
          let sized : n ≡ size (joined vs) = omega (arith, p.entries, k.count, k.even, length_words (joined vs)) in
          let many : forest_width * n ≡ length (forest_words (joined vs)) = omega (arith, p.entries, k.count, k.even) in
          let front : take (forest_width * n) w ≡ forest_words (joined vs) = ap (λ (m : ℕ). take m w) many ∙ k.front (omega (arith, low, r)) in
          rw z (record { answer = λ j. ok (record { entries = sized j; ends = es low j }); work = kept ∙ λ j. padded (sym lent j) (front j) })

  -- it is cleared
  pub goes : {tw : ℕ} {e : Refusal} {ends w u : List ℕ} → refused (number_of e.reason) e.place ≡ judged c → u ≡ zeros tw → Settles tw c ends w (Std.Err e) u
  goes {tw} {e} {ends} {w} {u} q clear = record { leaves = λ room vars s h. go room vars s c h q }
    where
      n : ℕ
      n = number_of e.reason

      left : (o : Out (List Value)) → refused n e.place ≡ o → Left tw (Std.Err e) u o
      left o z = rw (← z) (record { answer = refl; work = clear })

      behind : (vs : List Value) (c : Scan) → refused n e.place ≡ judged (Std.Ok c) → refused n e.place ≡ (in_turn (found c.odd) (found c.kept.full) >>= λ _. ok vs)
      behind vs c q = turn (found c.odd) (found c.kept.full) q
        where
          turn : (a b : Option ℕ) → refused n e.place ≡ (refuse_at 19 a >>= λ _. refuse_at 20 b >>= λ _. ok c.kept.entries) → refused n e.place ≡ (in_turn a b >>= λ _. ok vs)
          turn none none q = absurd_out q
          turn none (some p) q = cc
          turn (some p) b q = cc

      go : (room : ℕ) (vars : List (ℕ × Var)) (s : List ℕ) (r : Std.Result Scan Refusal) → Scans room tw (read_values vars s 0) ends w r → refused n e.place ≡ judged r → Left tw (Std.Err e) u (load_values room vars s)
      go room vars s (Std.Err f) (Says.wrong x) q = left (load_values room vars s) (let k : number_of f.reason ≡ n = cc in let l : f.place ≡ e.place = cc in sym (λ i. refused (k i) (l i)) ∙ sym (load_wrong room vars s x))
      go room vars s (Std.Ok c) (Says.read vs x o r k es) q =
          left (load_values room vars s) (behind vs c q ∙ (λ j. in_turn (o j) ((k.over ∙ ap (λ (m : ℕ). overfull m (entry_places vs)) r) j) >>= λ _. ok vs) ∙ sym (load_turn room vars s vs x))

-- THE WHOLE
module _ (w : List ℕ) {room : ℕ} (q : room ≡ work_capacity (length w)) where
  pub blank : {s : List ℕ} {V : List (ℕ × Var)} {stack : List ℕ} → length V ≤ 16 → Deep s (length stack) → Blank s V stack (zeros 16) w room
  blank k l = record { few = k; deep = l; sixteen = refl; long = omega (arith, q); most = omega (arith, q) }

  -- the entries are in the table
  pub fits : {o : Out (List Value)} {r : Std.Result Scan Refusal} {ends v : List ℕ} → Scans room (length w) o ends v r → length v ≡ length w → Fitting r v
  fits (Says.wrong x) same = record { low = λ c e. cc }
  fits (Says.read {c = c} vs x o r k es) same = record { low = λ d e b. let z : c ≡ d = cc in rw (← z) (let y : found c.kept.full ≡ none = rw (← z) at b in omega (arith, q, r, k.count, same, overfull_low c.kept.room (entry_places vs) (sym k.over ∙ y))) }

  pub loads : (vars : List (ℕ × Var)) (s : List ℕ) {scan : Std.Result Scan Refusal} {ends v u : List ℕ} {r : Std.Result Loaded Refusal} → Scans room (length w) (read_values vars s 0) ends v scan → length v ≡ length w → Settles (length v) scan ends v r u
      → Left (length w) r u (load_values (work_capacity (length w)) vars s)
  loads vars s {scan} {ends} {v} {u} {r} h same k =
      let x : Left (length v) r u (load_values room vars s) = k.leaves room vars s (subst (λ (n : ℕ). Scans room n (read_values vars s 0) ends v scan) (sym same) h) in
      subst (λ (n : ℕ). Left (length w) r u (load_values n vars s)) q (subst (λ (n : ℕ). Left n r u (load_values room vars s)) same x)
