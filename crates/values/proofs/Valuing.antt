-- One variable's value: its record 66, and the forest behind it.
-- Assumes nothing.
use mathlib.Core.Path.{◌≡◌, refl, sym, ap, ◌∙◌}
use mathlib.Core.Bool.{Bool, true, false, ◌&&◌}
use mathlib.Core.List.{List}
use Prim.Native.Nat.{ℕ, ◌≤◌}
use native.Mathlib.Omega.{arith}
use lib.Dec.{eqb}
use lib.ListN.{length}
use Rattle.meaning.specs.Base.{Out, ok, ◌>>=◌, require}
use Rattle.meaning.specs.Kinds.{value·variable}
use Rattle.meaning.specs.Records.{Record, field}
use Rattle.meaning.specs.Values.{value_at, Part, read_forest, read_value}
use Rattle.meaning.proofs.Values.{value_ends, forest_ends}
use Rattle.std.specs.Prelude as Std
use Rattle.refusals.specs.declared.Refusal.{Refusal}
use Rattle.values.specs.declared.Line.{Line}
use Rattle.values.specs.declared.Kept.{Kept}
use Rattle.values.specs.declared.Valued.{Valued}
use Rattle.values.specs.Says.{Stands, head_at, Reads, wrong, reached, Odd, Gives, read}
use Rattle.values.proofs.Standing.{refuses, seen}
use Rattle.values.proofs.Stepping.{of_ok, by_value, bound, tested_ok}

-- THE FOREST
module _ {kind tw : ℕ} {w u : List ℕ} {k l : Kept} where
  pub forest_wrong : {o : Out Part} {r : Refusal} → Reads tw w k u l o (Std.Err r) → Gives kind tw w k u l o (Std.Err r)
  forest_wrong (wrong e) = wrong e

  pub forest_given : (s : List ℕ) (start n : ℕ) {next : ℕ} {bad : Bool} → Reads tw w k u l (read_forest n s start n) (Std.Ok next)
      → n ≤ 65535 → Odd kind (read_forest n s start n) bad → Gives kind tw w k u l (read_forest n s start n) (Std.Ok (record { next = next; odd = bad }))
  forest_given s start n (reached p e q a) small b = read p e (omega (arith, (of_ok (forest_ends s n start n (omega arith)) e).records)) q b a

-- ITS RECORD
abbrev behind : List ℕ → Record → Out Part
behind s r = read_forest (field r 1) s r.next (field r 1)

pub value_head : (v : ℕ) (s : List ℕ) (at : ℕ) → read_value v s at ≡ (head_at v s at >>= behind s)
unfolding read_value head_at
value_head v s at = by_value (value_at s at) _ _ (behind s) (λ r _. go r (eqb r.kind value·variable && eqb (field r 0) v))
  where
    go : (r : Record) (b : Bool) → (require b 18 at >>= λ _. behind s r) ≡ ((require b 18 at >>= λ _. ok r) >>= behind s)
    go r true = refl
    go r false = refl

-- a head that was read lies in the file
head_within : (v : ℕ) (s : List ℕ) (at : ℕ) {r : Record} → head_at v s at ≡ ok r → r.next ≤ length s
unfolding head_at
head_within v s at {r} e =
    bound (value_at s at) _ e λ x f g.
    let z : x ≡ r = let t = (tested_ok (eqb x.kind value·variable && eqb (field x 0) v) 18 at g).1 in cc in
    rw z at (of_ok (value_ends s at) f).within

pub value_within : (v : ℕ) (s : List ℕ) (at : ℕ) {p : Part} → read_value v s at ≡ ok p → p.next ≤ length s
value_within v s at {p} e =
    bound (head_at v s at) (behind s) (sym (value_head v s at) ∙ e) λ r f g.
    (of_ok (forest_ends s (field r 1) r.next (field r 1) (omega arith)) g).within (head_within v s at f)

value_by : (v : ℕ) (s : List ℕ) (at : ℕ) {o : Out Record} → head_at v s at ≡ o → read_value v s at ≡ (o >>= behind s)
value_by v s at q = value_head v s at ∙ ap (λ (o : Out Record). o >>= behind s) q

pub value_inside : (v : ℕ) (s : List ℕ) (at : ℕ) {x : Line} → Stands (head_at v s at) (Std.Ok x) → x.next ≤ length s
value_inside v s at st = omega (arith, head_within v s at (seen st).is, (seen st).shows.next)

module _ (v : ℕ) (s : List ℕ) (at : ℕ) {kind tw : ℕ} {w u : List ℕ} {k l : Kept} where
  pub value_stops : {e : Refusal} → Stands (head_at v s at) (Std.Err e) → Gives kind tw w k u l (read_value v s at) (Std.Err e)
  value_stops st = wrong (value_by v s at (refuses st))

  pub value_gives : {x : Line} → Stands (head_at v s at) (Std.Ok x) → {r : Std.Result Valued Refusal} → Gives kind tw w k u l (read_forest x.b s x.next x.b) r → Gives kind tw w k u l (read_value v s at) r
  value_gives {x} st h =
      let f = (seen st).shows in
      let z : read_value v s at ≡ read_forest x.b s x.next x.b = value_by v s at (seen st).is ∙ λ j. read_forest (sym f.b j) s (sym f.next j) (sym f.b j) in
      rw z h
