-- What an arm of the `match` over record kinds knows: the kind is one of some single numbers, or it is none of all single numbers and lies in a range.
-- In a values file: it is one of three, or none of them.
-- Assumes nothing.
use mathlib.Core.Path.{◌≡◌, refl, sym, ap, ◌∙◌}
use mathlib.Core.Bool.{Bool, true, false, not, ◌||◌, ◌&&◌}
use mathlib.Core.Logic.{inl, inr}
use mathlib.Core.List.{List, [], ◌∷◌}
use mathlib.Core.Option.{Option, none, some}
use Prim.Native.Nat.{ℕ, zero, suc, ◌+◌, ◌-◌, ◌≤◌, ◌<◌}
use native.Mathlib.Omega.{arith}
use native.Mathlib.Decide.{ℕ_discrete}
use lib.Dec.{ltb, leb, eqb}
use borrow.Author.Tests.{ne_eqb, le-ltb, lt-leb}
use types.Run.{OneOf}
use Rattle.meaning.specs.Base.{find}
use Rattle.meaning.specs.Records.{Section, Sort, Form, form, forms, values, has_section, own_form, form_in}
use Rattle.meaning.proofs.Lists.{never, both_true}
use Rattle.meaning.proofs.Finding.{find_row, test_rows}
use Rattle.std.specs.Prelude as Std
use Rattle.records.specs.declared.Form as Code
use Rattle.records.specs.Says.{Has, Formed, Owned}

-- SINGLE KINDS of the arms, the last arm first
abbrev pub singles : List (List ℕ)
singles =
    (80 ∷ []) ∷ (53 ∷ []) ∷ (52 ∷ []) ∷ (50 ∷ []) ∷ (41 ∷ []) ∷ (36 ∷ 51 ∷ []) ∷ (35 ∷ []) ∷ (34 ∷ []) ∷ (33 ∷ []) ∷ (32 ∷ []) ∷ (16 ∷ [])
    ∷ (9 ∷ []) ∷ (3 ∷ []) ∷ []

unfoldable pub one_of : List ℕ → ℕ → Bool
one_of [] k = false
one_of (x ∷ xs) k = eqb k x || one_of xs k

unfoldable pub single : List (List ℕ) → ℕ → Bool
single [] k = false
single (r ∷ rs) k = one_of r k || single rs k

none_of : (ks : List ℕ) (k : ℕ) → (OneOf ks k → ⊥) → one_of ks k ≡ false
unfolding one_of
none_of [] k h = refl
none_of (x ∷ []) k h = rw (ne_eqb k x h)
none_of (x ∷ y ∷ ks) k h = rw (ne_eqb k x (λ e. h (inl e))) (none_of (y ∷ ks) k (λ e. h (inr e)))

-- the number is none of them, as the `match` says it
abbrev pub Rest : List (List ℕ) → ℕ → Type 0
Rest [] k = Unit {0}
Rest (r ∷ rs) k = Rest rs k × (OneOf r k → ⊥)

not_single : (rs : List (List ℕ)) (k : ℕ) → Rest rs k → single rs k ≡ false
unfolding single
not_single [] k h = refl
not_single (r ∷ rs) k h = rw (none_of r k h.1) (not_single rs k h.0)

-- AN ARM OF SINGLE NUMBERS: at each of them the row is this one
abbrev pub AllAt : Option Form → List ℕ → Type 0
AllAt v [] = Unit {0}
AllAt v (x ∷ xs) = (v ≡ find x forms) × AllAt v xs

all_at : (v : Option Form) (ks : List ℕ) (k : ℕ) → AllAt v ks → OneOf ks k → v ≡ find k forms
all_at v [] k a h = absurd h
all_at v (x ∷ []) k a h = a.0 ∙ ap (λ (j : ℕ). find j forms) (sym h)
all_at v (x ∷ y ∷ ks) k a (inl h) = a.0 ∙ ap (λ (j : ℕ). find j forms) (sym h)
all_at v (x ∷ y ∷ ks) k a (inr h) = all_at v (y ∷ ks) k a.1 h

pub keyed : {s : Section} {ss : List Sort} {f : Code.Form} {k : ℕ} (ks : List ℕ) → Has s ss f → AllAt (some (form s ss)) ks → OneOf ks k → Formed k (Std.Some f)
keyed {s} {ss} {f} {k} ks x a h = record { is = ap some x.is ∙ all_at (some (form s ss)) ks k a h; sized = x.sized }

-- AN ARM OF A RANGE: from lo on, n numbers, at each of which the row is this one unless it is a single number
abbrev pub Here : Option Form → ℕ → Bool → Type 0
Here v j true = Unit {0}
Here v j false = v ≡ find j forms

abbrev pub Within : Option Form → ℕ → ℕ → Type 0
Within v lo zero = Unit {0}
Within v lo (suc n) = Here v lo (single singles lo) × Within v (suc lo) n

here : (v : Option Form) (j : ℕ) (b : Bool) → b ≡ false → Here v j b → v ≡ find j forms
here v j true e h = never (sym e)
here v j false e h = h

in_range : (v : Option Form) (lo n k : ℕ) → Within v lo n → single singles k ≡ false → lo ≤ k → k < lo + n → v ≡ find k forms
in_range v lo zero k w s l h = absurd (omega arith)
in_range v lo (suc n) k w s l h = go (ℕ_discrete k lo) (λ l h. in_range v (suc lo) n k w.1 s l h)
  where
    go : Dec (k ≡ lo) → (suc lo ≤ k → k < suc lo + n → v ≡ find k forms) → v ≡ find k forms
    go (yes p) on = here v lo (single singles lo) (ap (single singles) (sym p) ∙ s) w.0 ∙ ap (λ (j : ℕ). find j forms) (sym p)
    go (no p) on = on (omega arith) (omega arith)

pub ranged : {s : Section} {ss : List Sort} {f : Code.Form} {k : ℕ} (lo n : ℕ) → Has s ss f → Within (some (form s ss)) lo n → Rest singles k → lo ≤ k → k < lo + n → Formed k (Std.Some f)
ranged {s} {ss} {f} {k} lo n x w r l h = record { is = ap some x.is ∙ in_range (some (form s ss)) lo n k w (not_single singles k r) l h; sized = x.sized }

-- AN ARM OF UNKNOWN KINDS: no row lies in the range but single numbers
abbrev pub apart : ℕ → ℕ → ℕ → Bool
apart lo hi j = ltb j lo || (leb hi j || single singles j)

abbrev pub clear : ℕ → ℕ → List (ℕ × Form) → Bool
clear lo hi [] = true
clear lo hi (r ∷ rs) = apart lo hi r.0 && clear lo hi rs

not_apart : (lo hi k : ℕ) → single singles k ≡ false → lo ≤ k → k < hi → apart lo hi k ≡ true → ⊥
not_apart lo hi k s l h e = never (rw (le-ltb k lo l, lt-leb hi k h, s) at e)

in_gap : (lo hi k : ℕ) (rows : List (ℕ × Form)) → clear lo hi rows ≡ true → single singles k ≡ false → lo ≤ k → k < hi → none ≡ find k rows
unfolding find
in_gap lo hi k [] e s l h = refl
in_gap lo hi k (r ∷ rs) e s l h =
    let both = both_true (apart lo hi r.0) (clear lo hi rs) e in
    rw (find, ne_eqb k r.0 (λ p. not_apart lo hi k s l h (rw p both.0))) (in_gap lo hi k rs both.1 s l h)

pub unknown : {k : ℕ} (lo hi : ℕ) → clear lo hi forms ≡ true → Rest singles k → lo ≤ k → k < hi → Formed k Std.None
unknown {k} lo hi e r l h = record { is = in_gap lo hi k forms e (not_single singles k r) l h; sized = tt }

-- KINDS OF A VALUES FILE
pub a_value : {s : Section} {ss : List Sort} {f : Code.Form} {k : ℕ} (x : ℕ) → Has s ss f → some (form s ss) ≡ form_in values x → k ≡ x → Owned values k (Std.Some f)
a_value x o a h = record { is = ap some o.is ∙ a ∙ ap (form_in values) (sym h); sized = o.sized }

is_value : ℕ → Form → Bool
is_value k f = not (has_section values f.section) || one_of (64 ∷ 65 ∷ 66 ∷ []) k

value_row : (k : ℕ) (f : Form) → find k forms ≡ some f → is_value k f ≡ true
unfolding forms is_value one_of
value_row k f e = find_row k f (test_rows is_value forms refl) e

not_first : (b c : Bool) → (not b || c) ≡ true → c ≡ false → b ≡ false
not_first true c e h = never (sym h ∙ e)
not_first false c e h = refl

foreign : (k : ℕ) → one_of (64 ∷ 65 ∷ 66 ∷ []) k ≡ false → (o : Option Form) → find k forms ≡ o → none ≡ own_form values o
unfolding is_value
foreign k h none e = refl
foreign k h (some f) e =
    ap (λ (b : Bool). elim b as (λ _. Option Form) [ true ↦ some f | false ↦ none ])
    (sym (not_first (has_section values f.section) (one_of (64 ∷ 65 ∷ 66 ∷ []) k) (value_row k f e) h))

pub no_value : {k : ℕ} → (k ≡ 64 → ⊥) → (k ≡ 65 → ⊥) → (k ≡ 66 → ⊥) → Owned values k Std.None
unfolding one_of
no_value {k} x y z = record { is = foreign k (rw (ne_eqb k 64 x, ne_eqb k 65 y, ne_eqb k 66 z)) (find k forms) refl; sized = tt }

-- an arm of them all: what they are in a values file they are among all kinds
values_are : (n : ℕ) → n < 3 → form_in values (64 + n) ≡ find (64 + n) forms
unfolding forms find
values_are zero h = refl
values_are (suc zero) h = refl
values_are (suc (suc zero)) h = refl
values_are (suc (suc (suc n))) h = absurd (omega arith)

pub own_values : {k : ℕ} {v : Std.Option Code.Form} → Owned values k v → 64 ≤ k → k < 67 → Formed k v
own_values {k} o l h =
    let e : k ≡ 64 + (k - 64) = omega arith in
    record { is = o.is ∙ ap (form_in values) e ∙ values_are (k - 64) (omega arith) ∙ ap (λ (j : ℕ). find j forms) (sym e); sized = o.sized }
