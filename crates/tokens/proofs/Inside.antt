-- A token lies inside the text, and has a byte unless it is the end.
-- Assumes nothing.
use mathlib.Core.Path.{◌≡◌, refl, sym, ap, subst}
use mathlib.Core.Logic.{◌≢◌}
use mathlib.Core.Bool.{Bool, true, false, ◌&&◌}
use mathlib.Core.List.{List, [], ◌∷◌}
use Prim.Native.Nat.{ℕ, suc, ◌+◌, ◌≤◌, ◌<◌}
use native.Mathlib.Omega.{arith}
use lib.Dec.{leb, eqb}
use native.Mathlib.Decide.{ℕ_discrete}
use lib.ListN.{length, get_or, take, drop, length-take, length-drop, drop_of_length-le}
use lib.Seq.{drop-cons}
use borrow.Author.Tests.{leb-true}
use Rattle.meaning.specs.Forests.{same_words}
use Rattle.meaning.specs.Tokens
use Rattle.meaning.specs.Tokens.{is_blank, is_letter, is_digit, words, signs, run, word_among, sign_among, decimal, front, token_at}
use Rattle.meaning.proofs.Lists.{never, both_true}
use Rattle.tokens.proofs.Fronts.{run_by, run_within_lem, run_inside, word_bytes}

-- lists that are the same are as long
same_long : (a b : List ℕ) → same_words a b ≡ true → length a ≡ length b
unfolding same_words
same_long [] [] e = refl
same_long [] (y ∷ b) e = never e
same_long (x ∷ a) [] e = never e
same_long (x ∷ a) (y ∷ b) e = ap suc (same_long a b (both_true (eqb x y) (same_words a b) e).1)

-- SIGNS
abbrev sign_or : ℕ × List ℕ → List (ℕ × List ℕ) → List ℕ → Bool → Tokens.Token
sign_or g gs s b = elim b [ true ↦ Tokens.token g.0 0 (length g.1) | false ↦ sign_among gs s ]

sign_by : (g : ℕ × List ℕ) (gs : List (ℕ × List ℕ)) (s : List ℕ) (b : Bool) → same_words g.1 (take (length g.1) s) ≡ b → (sign_among gs s).bytes ≤ length s → (sign_or g gs s b).bytes ≤ length s
sign_by g gs s true e h = omega (arith, same_long g.1 (take (length g.1) s) e, length-take (length g.1) s)
sign_by g gs s false e h = h

sign_inside : (gs : List (ℕ × List ℕ)) (s : List ℕ) → 0 < length s → (sign_among gs s).bytes ≤ length s
unfolding sign_among
sign_inside [] s h = h
sign_inside (g ∷ gs) s h = sign_by g gs s (same_words g.1 (take (length g.1) s)) refl (sign_inside gs s h)

-- every sign has a byte
abbrev has_byte : ℕ × List ℕ → Bool
has_byte g = leb 1 (length g.1)

abbrev all_have : List (ℕ × List ℕ) → Bool
all_have [] = true
all_have (g ∷ gs) = has_byte g && all_have gs

some_by : (g : ℕ × List ℕ) (gs : List (ℕ × List ℕ)) (s : List ℕ) (b : Bool) → 1 ≤ length g.1 → 0 < (sign_among gs s).bytes → 0 < (sign_or g gs s b).bytes
some_by g gs s true e h = e
some_by g gs s false e h = h

sign_some : (gs : List (ℕ × List ℕ)) (s : List ℕ) → all_have gs ≡ true → 0 < (sign_among gs s).bytes
unfolding sign_among
sign_some [] s e = omega arith
sign_some (g ∷ gs) s e = let both = both_true (has_byte g) (all_have gs) e in some_by g gs s (same_words g.1 (take (length g.1) s)) (leb-true 1 (length g.1) both.0) (sign_some gs s both.1)

signs_have : all_have signs ≡ true
unfolding signs
signs_have = refl

-- A TOKEN at the front
pub record Sized (s : List ℕ) (x : Tokens.Token) : Type 0 where
  pub some : 0 < x.bytes
  pub inside : x.bytes ≤ length s

run_some : (f : ℕ → Bool) (c : ℕ) (s : List ℕ) → f c ≡ true → 0 < run f (c ∷ s)
run_some f c s e = omega (arith, run_by f c s true e)

abbrev by : ℕ → List ℕ → Bool → Bool → Tokens.Token
by c s letter digit =
    elim letter [
      | true ↦ word_among words (take (run is_letter (c ∷ s)) (c ∷ s))
      | false ↦ elim digit [ true ↦ Tokens.token Tokens.token·number (decimal 0 (take (run is_digit (c ∷ s)) (c ∷ s))) (run is_digit (c ∷ s)) | false ↦ sign_among signs (c ∷ s) ]
    ]

sized_by : (c : ℕ) (s : List ℕ) (a b : Bool) → is_letter c ≡ a → is_digit c ≡ b → Sized (c ∷ s) (by c s a b)
sized_by c s true b l d =
    let n = word_bytes words (take (run is_letter (c ∷ s)) (c ∷ s)) in
    let m = length-take (run is_letter (c ∷ s)) (c ∷ s) in
    record { some = omega (arith, n, m, run_some is_letter c s l, run_inside is_letter (c ∷ s)); inside = omega (arith, n, m) }
sized_by c s false true l d = record { some = run_some is_digit c s d; inside = run_inside is_digit (c ∷ s) }
sized_by c s false false l d = record { some = sign_some signs (c ∷ s) signs_have; inside = sign_inside signs (c ∷ s) (omega arith) }

front_sized : (c : ℕ) (s : List ℕ) → Sized (c ∷ s) (front (c ∷ s))
unfolding front
front_sized c s = sized_by c s (is_letter c) (is_digit c) refl refl

-- THE NEXT TOKEN of a text
pub record Within (s : List ℕ) (at : ℕ) : Type 0 where
  pub from : at ≤ (token_at s at).place
  pub to : (token_at s at).place + (token_at s at).token.bytes ≤ length s
  pub some : (token_at s at).place < length s → 0 < (token_at s at).token.bytes
  pub byte : (token_at s at).token.kind ≢ Tokens.token·end → 0 < (token_at s at).token.bytes

sized_at : (s : List ℕ) (i : ℕ) → i < length s → Sized (drop i s) (front (drop i s))
sized_at s i h = subst (λ (l : List ℕ). Sized l (front l)) (sym (drop-cons s i 0 h)) (front_sized (get_or s i 0) (drop (suc i) s))

end_bytes : (s : List ℕ) (i : ℕ) → i ≡ length s → (front (drop i s)).bytes ≡ 0
unfolding front
end_bytes s i e = ap (λ (l : List ℕ). (front l).bytes) (drop_of_length-le s {i = i} (omega (arith, e)))

end_kind : (s : List ℕ) (i : ℕ) → i ≡ length s → (front (drop i s)).kind ≡ Tokens.token·end
unfolding front
end_kind s i e = ap (λ (l : List ℕ). (front l).kind) (drop_of_length-le s {i = i} (omega (arith, e)))

pub token_within : (s : List ℕ) (at : ℕ) → at ≤ length s → Within s at
unfolding token_at
token_within s at h = go (ℕ_discrete (at + run is_blank (drop at s)) (length s))
  where
    here : at + run is_blank (drop at s) ≤ length s
    here = run_within_lem is_blank s at h

    ends : at + run is_blank (drop at s) ≡ length s → (front (drop (at + run is_blank (drop at s)) s)).bytes ≡ 0
    ends e = end_bytes s (at + run is_blank (drop at s)) e

    kind : at + run is_blank (drop at s) ≡ length s → (front (drop (at + run is_blank (drop at s)) s)).kind ≡ Tokens.token·end
    kind e = end_kind s (at + run is_blank (drop at s)) e

    go : Dec (at + run is_blank (drop at s) ≡ length s) → Within s at
    go (yes e) = record { from = omega arith; to = omega (arith, here, ends e); some = λ l. absurd (omega (arith, e)); byte = λ k. absurd (k (kind e)) }
    go (no n) =
        let l : at + run is_blank (drop at s) < length s = omega (arith, here, n) in
        let z = sized_at s (at + run is_blank (drop at s)) l in
        record { from = omega arith; to = omega (arith, z.inside, length-drop (at + run is_blank (drop at s)) s); some = λ _. z.some; byte = λ _. z.some }
