-- The token at a place, by the byte that stands there.
-- Assumes nothing.
use mathlib.Core.Path.{◌≡◌, refl, sym, ap, subst, ◌∙◌}
use mathlib.Core.Logic.{◌≢◌}
use mathlib.Core.Bool.{Bool, true, false}
use mathlib.Core.List.{List, [], ◌∷◌}
use Prim.Native.Nat.{ℕ, zero, suc, ◌+◌, ◌-◌, ◌≤◌, ◌<◌, min}
use native.Mathlib.Omega.{arith}
use lib.ListN.{length, get_or, take, drop, length-take, length-drop, drop_of_length-le}
use lib.Seq.{drop-cons, get_or-take, get_or-drop}
use Rattle.meaning.specs.Forests.{same_words}
use Rattle.meaning.specs.Tokens
use Rattle.meaning.specs.Tokens.{is_blank, is_letter, is_digit, words, signs, run, word_among, sign_among, decimal, front, token_at}
use Rattle.tokens.specs.declared.Token.{Token}
use Rattle.tokens.specs.declared.Placed.{Placed}
use Rattle.tokens.specs.Says.{Digits, Shows, Draws, Tells}

-- A RUN by its first byte
pub run_by : (f : ℕ → Bool) (c : ℕ) (s : List ℕ) (b : Bool) → f c ≡ b → run f (c ∷ s) ≡ elim b [ true ↦ suc (run f s) | false ↦ 0 ]
unfolding run
run_by f c s b e = ap (λ (x : Bool). elim x [ true ↦ suc (run f s) | false ↦ 0 ]) e

-- it lies inside the bytes
more_inside : (f : ℕ → Bool) (c : ℕ) (s : List ℕ) (b : Bool) → f c ≡ b → run f s ≤ length s → run f (c ∷ s) ≤ suc (length s)
more_inside f c s true e h = omega (arith, run_by f c s true e)
more_inside f c s false e h = omega (arith, run_by f c s false e)

pub run_inside : (f : ℕ → Bool) (s : List ℕ) → run f s ≤ length s
unfolding run
run_inside f [] = omega arith
run_inside f (c ∷ s) = more_inside f c s (f c) refl (run_inside f s)

pub run_within_lem : (f : ℕ → Bool) (s : List ℕ) (at : ℕ) → at ≤ length s → at + run f (drop at s) ≤ length s
run_within_lem f s at h = omega (arith, run_inside f (drop at s), length-drop at s)

-- and all of it passes
all_first : (f : ℕ → Bool) (c : ℕ) (s : List ℕ) (b : Bool) → f c ≡ b → 0 < run f (c ∷ s) → f c ≡ true
all_first f c s true e h = e
all_first f c s false e h = absurd (omega (arith, run_by f c s false e))

all_later : (f : ℕ → Bool) (c : ℕ) (s : List ℕ) (b : Bool) (i : ℕ) → f c ≡ b → suc i < run f (c ∷ s) → i < run f s
all_later f c s true i e h = omega (arith, run_by f c s true e)
all_later f c s false i e h = absurd (omega (arith, run_by f c s false e))

run_all : (f : ℕ → Bool) (s : List ℕ) (i : ℕ) → i < run f s → f (get_or s i 0) ≡ true
unfolding run
run_all f [] i h = absurd (omega arith)
run_all f (c ∷ s) zero h = all_first f c s (f c) refl h
run_all f (c ∷ s) (suc i) h = run_all f s i (all_later f c s (f c) i refl h)

-- the letters of a word are all its bytes
abbrev row_or : ℕ × List ℕ → List (ℕ × List ℕ) → List ℕ → Bool → Tokens.Token
row_or w ws s b = elim b [ true ↦ Tokens.token w.0 0 (length s) | false ↦ word_among ws s ]

bytes_by : (w : ℕ × List ℕ) (ws : List (ℕ × List ℕ)) (s : List ℕ) (b : Bool) → (word_among ws s).bytes ≡ length s → (row_or w ws s b).bytes ≡ length s
bytes_by w ws s true h = refl
bytes_by w ws s false h = h

pub word_bytes : (ws : List (ℕ × List ℕ)) (s : List ℕ) → (word_among ws s).bytes ≡ length s
unfolding word_among
word_bytes [] s = refl
word_bytes (w ∷ ws) s = bytes_by w ws s (same_words w.1 s) (word_bytes ws s)

-- THE TOKEN behind blanks
module _ (s : List ℕ) (at : ℕ) {place : ℕ} (e : place ≡ at + run is_blank (drop at s)) where
  tells : {x : Tokens.Token} {r : Placed} → front (drop place s) ≡ x → Shows x r.token → r.place ≡ place → r.next ≡ place + x.bytes → Tells (token_at s at) r
  unfolding token_at
  tells {x} {r} f t p n =
      let z : record { token = x; place = place } ≡ token_at s at = ap (λ (y : Tokens.Token). record { token = y; place = place }) (sym f) ∙ ap (λ (i : ℕ). record { token = front (drop i s); place = i }) e in
      subst (λ (y : Tokens.Placed). Tells y r) z (record { token = t; place = p; next = n })

  pub end_tells : place ≡ length s → Tells (token_at s at) (record { token = Token.End; place = place; next = place })
  unfolding front
  end_tells h = tells (ap front (drop_of_length-le s {i = place} (omega (arith, h)))) (record { kind = refl; value = refl }) refl (omega arith)

  module _ (more : place < length s) where
    abbrev rest : List ℕ
    rest = drop (suc place) s

    cut : drop place s ≡ get_or s place 0 ∷ rest
    cut = drop-cons s place 0 more

    -- by whether it is a letter, and whether it is a digit
    abbrev by : Bool → Bool → Tokens.Token
    by letter digit =
        elim letter [
          | true ↦ word_among words (take (run is_letter (get_or s place 0 ∷ rest)) (get_or s place 0 ∷ rest))
          | false ↦ elim digit [
            | true ↦ Tokens.token Tokens.token·number (decimal 0 (take (run is_digit (get_or s place 0 ∷ rest)) (get_or s place 0 ∷ rest))) (run is_digit (get_or s place 0 ∷ rest))
            | false ↦ sign_among signs (get_or s place 0 ∷ rest)
          ]
        ]

    front_by : {a b : Bool} → is_letter (get_or s place 0) ≡ a → is_digit (get_or s place 0) ≡ b → front (drop place s) ≡ by a b
    unfolding front
    front_by {a} l d = ap front cut ∙ ap (λ (x : Bool). by x (is_digit (get_or s place 0))) l ∙ ap (λ (x : Bool). by a x) d

    -- letters
    front_letters : is_letter (get_or s place 0) ≡ true → front (drop place s) ≡ word_among words (take (run is_letter (drop place s)) (drop place s))
    front_letters l = front_by l refl ∙ ap (λ (z : List ℕ). word_among words (take (run is_letter z) z)) (sym cut)

    pub letters_tell : {b : Bool} → b ≡ is_letter (get_or s place 0) → b ≡ true → {next : ℕ} → next ≡ place + run is_letter (drop place s) → {t : Token} → Shows (word_among words (take (next - place) (drop place s))) t → Tells (token_at s at) (record { token = t; place = place; next = next })
    letters_tell eb bt {next} en {t} h =
        let n : next - place ≡ run is_letter (drop place s) = omega (arith, en) in
        let z = subst (λ (i : ℕ). Shows (word_among words (take i (drop place s))) t) n h in
        tells (front_letters (sym eb ∙ bt)) z refl (en ∙ omega (arith, word_bytes words (take (run is_letter (drop place s)) (drop place s)), length-take (run is_letter (drop place s)) (drop place s), run_inside is_letter (drop place s)))

    -- digits
    front_digits : is_letter (get_or s place 0) ≡ false → is_digit (get_or s place 0) ≡ true → front (drop place s) ≡ Tokens.token Tokens.token·number (decimal 0 (take (run is_digit (drop place s)) (drop place s))) (run is_digit (drop place s))
    front_digits l d = front_by l d ∙ ap (λ (z : List ℕ). Tokens.token Tokens.token·number (decimal 0 (take (run is_digit z) z)) (run is_digit z)) (sym cut)

    pub digits_are : {next : ℕ} → next ≡ place + run is_digit (drop place s) → Digits (take (next - place) (drop place s))
    digits_are {next} en =
        record {
          is = λ i h.
              let n : next - place ≡ run is_digit (drop place s) = omega (arith, en) in
              let l : i < run is_digit (drop place s) = omega (arith, n, length-take (next - place) (drop place s)) in
              ap is_digit (get_or-take (next - place) (drop place s) i 0 (omega (arith, n))) ∙ run_all is_digit (drop place s) i l;
        }

    pub digits_tell : {a b : Bool} → a ≡ is_letter (get_or s place 0) → a ≡ false → b ≡ is_digit (get_or s place 0) → b ≡ true → {next : ℕ} → next ≡ place + run is_digit (drop place s) → {n : ℕ} → n ≡ min (decimal 0 (take (next - place) (drop place s))) 65536 → Tells (token_at s at) (record { token = Token.Number n; place = place; next = next })
    digits_tell ea af eb bt {next} en {n} h =
        let i : next - place ≡ run is_digit (drop place s) = omega (arith, en) in
        tells (front_digits (sym ea ∙ af) (sym eb ∙ bt)) (record { kind = refl; value = h ∙ ap (λ (j : ℕ). min (decimal 0 (take j (drop place s))) 65536) i }) refl en

    -- a sign
    pub sign_tells : {a b : Bool} → a ≡ is_letter (get_or s place 0) → a ≡ false → b ≡ is_digit (get_or s place 0) → b ≡ false → {d : ℕ} → d ≡ get_or s (place + 1) 0 → {r : Token × ℕ} → ((t : List ℕ) → d ≡ get_or t 0 0 → Draws (sign_among signs (get_or s place 0 ∷ t)) r)
        → Tells (token_at s at) (record { token = r.0; place = place; next = place + r.1 })
    sign_tells ea af eb bf {d} ed {r} h =
        let n : place + 1 ≡ suc place + 0 = omega arith in
        let z = h rest (ed ∙ ap (λ (i : ℕ). get_or s i 0) n ∙ sym (get_or-drop (suc place) s 0 0)) in
        tells (front_by (sym ea ∙ af) (sym eb ∙ bf)) z.token refl (ap (λ (i : ℕ). place + i) z.bytes)

-- where the blanks end there is a byte, or the end
pub some_left : (s : List ℕ) (at : ℕ) → at ≤ length s → {place : ℕ} → place ≡ at + run is_blank (drop at s) → place ≢ length s → place < length s
some_left s at h {place} e n = omega (arith, run_within_lem is_blank s at h, e, n)
