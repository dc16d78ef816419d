-- A forest at the front of a part that is zeros behind it: how it comes there, that it is one forest, and another forest behind it.
-- Assumes nothing.
use mathlib.Core.Path.{◌≡◌, refl, sym, ap, subst, ◌∙◌}
use mathlib.Core.List.{List, ◌++◌, append_assoc}
use Prim.Native.Nat.{ℕ, ◌+◌, ◌*◌, ◌-◌, ◌/◌, ◌≤◌, ◌<◌}
use native.Mathlib.Omega.{arith}
use lib.ListN.{length, take, drop, length-append}
use lib.Seq.{take_at, drop_at}
use Rattle.meaning.specs.Base.{zeros}
use Rattle.meaning.specs.Forests.{Forest, end, join, size, forest_words}
use Rattle.meaning.proofs.Forests.{size_join, words_join, length_words, words_determine}
use Rattle.words.specs.Tables.{stored}
use Rattle.words.proofs.Rows.{zeros_length}
use Rattle.copies.specs.Fills.{Made, no_room, Filled, Copied, done, full}
use Rattle.std.specs.Prelude as Std
use Rattle.refusals.specs.declared.Refusal.{Refusal}
use Rattle.copies.proofs.Lent.{drop_zeros, lent, back}

-- what follows from two answers that differ
pub differ : {A : Type 0} → ◌≡◌ {A = ℕ} 0 1 → A
differ z = absurd (omega arith)

-- no forest yet
pub filled_none : {room : ℕ} {us : List ℕ} → us ≡ zeros room → Filled room us 0 end
unfolding size forest_words
filled_none {room} e = let z : room ≡ room - 3 * 0 = omega arith in record { count = refl; fits = omega arith; laid = e ∙ ap zeros z }

-- a forest's words stored at the front of zeros
pub filled_stored : {us ws rest : List ℕ} {k : ℕ} (f : Forest) → ws ≡ forest_words f → rest ≡ zeros (length rest) → length ws ≤ length rest → k ≡ length ws / 3 → us ≡ stored rest 0 ws → Filled (length rest) us k f
unfolding stored
filled_stored {us} {ws} {rest} {k} f e b fits q s =
    let n : length ws ≡ 3 * size f = ap length e ∙ length_words f in
    let c : size f ≡ k = omega (arith, q, n) in
    let z : length rest - (0 + length ws) ≡ length rest - 3 * k = omega arith in
    record {
      count = c;
      fits = omega (arith, n, c);
      laid = s ∙ ap (λ (l : List ℕ). l ++ drop (0 + length ws) rest) e ∙ ap (λ (l : List ℕ). forest_words f ++ drop (0 + length ws) l) b ∙ ap (λ (l : List ℕ). forest_words f ++ l) (drop_zeros (0 + length ws) (length rest) ∙ ap zeros z);
    }

-- WHAT A COPY SAYS
pub copied_done : {room : ℕ} {us : List ℕ} {n k : ℕ} {r : Made} {f : Forest} → r ≡ Std.Ok k → Copied room us n r f → Filled room us k f
copied_done {room} {us} {k = k} {f = f} e (done {k = j} h) = let p : j ≡ k = cc in subst (λ (x : ℕ). Filled room us x f) p h
copied_done e (full h) = differ (cc)

pub copied_full : {room : ℕ} {us : List ℕ} {n : ℕ} {x : Refusal} {r : Made} {f : Forest} → r ≡ Std.Err x → Copied room us n r f → (x ≡ no_room n) × (room < 3 * size f)
copied_full e (done h) = differ (cc)
copied_full e (full h) = (cc, h)

pub full_is : {room : ℕ} {us : List ℕ} {n : ℕ} {x : Refusal} {f : Forest} → x ≡ no_room n → room < 3 * size f → Copied room us n (Std.Err x) f
full_is p h = rw p (full h)

pub copied_as : {room : ℕ} {us : List ℕ} {n : ℕ} {r : Made} {f g : Forest} → g ≡ f → Copied room us n r f → Copied room us n r g
copied_as {room} {us} {n} {r} p c = subst (λ (x : Forest). Copied room us n r x) (sym p) c

-- A FOREST THAT STANDS THERE
module _ {room k : ℕ} {us : List ℕ} {f : Forest} (h : Filled room us k f) where
  pub filled_words : length (forest_words f) ≡ 3 * k
  filled_words = length_words f ∙ ap (λ (n : ℕ). 3 * n) h.count

  pub filled_length : length us ≡ room
  filled_length = omega (arith, ap length h.laid, length-append (forest_words f) (zeros (room - 3 * k)), filled_words, zeros_length (room - 3 * k), h.fits)

  pub filled_self : Filled (length us) us k f
  filled_self = subst (λ (n : ℕ). Filled n us k f) (sym filled_length) h

  -- the forest's words, and the zeros behind them
  pub filled_front : take (3 * k) us ≡ forest_words f
  filled_front = ap (λ (l : List ℕ). take (3 * k) l) h.laid ∙ take_at (forest_words f) (zeros (room - 3 * k)) (3 * k) filled_words

  pub filled_blank : drop (3 * k) us ≡ zeros (room - 3 * k)
  filled_blank = ap (λ (l : List ℕ). drop (3 * k) l) h.laid ∙ drop_at (forest_words f) (zeros (room - 3 * k)) (3 * k) filled_words

  -- they are no other forest's
  pub filled_one : {g : Forest} → Filled room us k g → g ≡ f
  filled_one {g} i = words_determine g f (sym (ap (λ (l : List ℕ). take (3 * k) l) i.laid ∙ take_at (forest_words g) (zeros (room - 3 * k)) (3 * k) (length_words g ∙ ap (λ (n : ℕ). 3 * n) i.count)) ∙ filled_front)

  -- the part behind it, as it is lent
  pub behind_blank : take (length us - 3 * k) (drop (3 * k) us) ≡ zeros (room - 3 * k)
  behind_blank = lent (3 * k) us ∙ filled_blank

  pub behind_length : length (take (length us - 3 * k) (drop (3 * k) us)) ≡ room - 3 * k
  behind_length = ap length behind_blank ∙ zeros_length (room - 3 * k)

  -- and another forest that was left there
  pub behind_filled : {vs : List ℕ} {m : ℕ} {g : Forest} → Filled (room - 3 * k) vs m g → Filled room (take (3 * k) us ++ (vs ++ drop (length us - 3 * k) (drop (3 * k) us))) (k + m) (join f g)
  behind_filled {vs} {m} {g} i =
      let z : room - 3 * k - 3 * m ≡ room - 3 * (k + m) = omega arith in
      record {
        count = size_join f g ∙ ap (λ (n : ℕ). n + size g) h.count ∙ ap (λ (n : ℕ). k + n) i.count;
        fits = omega (arith, h.fits, i.fits);
        laid =
            back (3 * k) us vs
            ∙ ap (λ (l : List ℕ). l ++ vs) filled_front
            ∙ ap (λ (l : List ℕ). forest_words f ++ l) i.laid
            ∙ sym (append_assoc (forest_words f) (forest_words g) (zeros (room - 3 * k - 3 * m)))
            ∙ ap (λ (l : List ℕ). l ++ zeros (room - 3 * k - 3 * m)) (sym (words_join f g))
            ∙ ap (λ (n : ℕ). forest_words (join f g) ++ zeros n) z;
      }

  -- one forest more is copied there, or has no room
  pub behind_done : {n m : ℕ} {g : Forest} {vs : List ℕ} → Copied (length (take (length us - 3 * k) (drop (3 * k) us))) vs n (Std.Ok m) g → Filled room (take (3 * k) us ++ (vs ++ drop (length us - 3 * k) (drop (3 * k) us))) (k + m) (join f g)
  behind_done {m = m} {g} {vs} c = behind_filled (subst (λ (j : ℕ). Filled j vs m g) behind_length (copied_done refl c))

  pub behind_full : (ws : List ℕ) {n : ℕ} {g : Forest} {vs : List ℕ} {x : Refusal} → Copied (length (take (length us - 3 * k) (drop (3 * k) us))) vs n (Std.Err x) g → Copied room ws n (Std.Err x) (join f g)
  behind_full ws {n} {g} c = let d = copied_full refl c in full_is d.0 (omega (arith, d.1, behind_length, size_join f g, h.count))
