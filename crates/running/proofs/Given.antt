-- What a part of a query is given: at first, behind entries that stand there already, and with a variable bound.
-- Assumes nothing.
use mathlib.Core.Path.{◌≡◌, refl, sym, ap, subst, ◌∙◌}
use mathlib.Core.List.{List, ◌∷◌, ◌++◌}
use Prim.Native.Nat.{ℕ, ◌+◌, ◌*◌, ◌-◌, ◌/◌, ◌≤◌, ◌<◌}
use native.Mathlib.Omega.{arith}
use lib.ListN.{length, take, drop}
use lib.Seq.{take-take, take_at, drop_at, length-take-le}
use Rattle.meaning.specs.Base.{zeros}
use Rattle.meaning.specs.Forests.{Forest, forest_words}
use Rattle.words.specs.Tables.{stored}
use Rattle.words.proofs.Rows.{zeros_length}
use Rattle.spans.specs.declared.Span.{Span}
use Rattle.spans.specs.declared.Spans.{Spans}
use Rattle.spans.specs.Shows.{bound, part, Shows, Inside}
use Rattle.spans.proofs.Binding.{inside_more, inside_bind, shows_bind, shows_below}
use Rattle.copies.specs.Fills.{Filled}
use Rattle.copies.proofs.Lent.{drop_zeros, blank_self}
use Rattle.copies.proofs.Filling.{filled_front, filled_words}
use Rattle.running.specs.Evaluates.{Begins, Among}

-- entries below n that are kept are kept below fewer
pub fewer : (held after : List ℕ) (n m : ℕ) → m ≤ n → take (3 * n) after ≡ take (3 * n) held → take (3 * m) after ≡ take (3 * m) held
fewer held after n m h k = sym (take-take (3 * m) (3 * n) after (omega arith)) ∙ ap (λ (l : List ℕ). take (3 * m) l) k ∙ take-take (3 * m) (3 * n) held (omega arith)

-- BEHIND k ENTRIES of the part: a scope that was handed back, forests held that are kept, and zeros
pub record Behind (s : Spans) (held rest : List ℕ) (at k : ℕ) (t : Spans) (after ws : List ℕ) : Type 0 where
  pub fits : 3 * k ≤ length rest
  pub same : t ≡ s
  pub long : length after ≡ length held
  pub kept : take (3 * at) after ≡ take (3 * at) held
  pub blank : ws ≡ zeros (length rest - 3 * k)

module _ {s : Spans} {held rest : List ℕ} {at : ℕ} (b : Begins s held rest at) where
  module _ {k : ℕ} {t : Spans} {after ws : List ℕ} (x : Behind s held rest at k t after ws) where
    pub behind_words : length ws ≡ length rest - 3 * k
    behind_words = ap length x.blank ∙ zeros_length (length rest - 3 * k)

    -- what stands there from entry at + k on
    pub begins_on : Begins t after ws (at + k)
    begins_on =
        let n = behind_words in
        record {
          blank = blank_self (length rest - 3 * k) x.blank;
          whole = omega (arith, n, b.whole);
          few = omega (arith, n, b.few, b.whole, x.fits);
          room = omega (arith, n, b.room, b.whole, x.long, x.fits);
          inside = subst (λ (y : Spans). Inside y (at + k)) (sym x.same) (inside_more (omega arith) b.inside);
          env = b.env;
          shows = subst (λ (y : Spans). Shows after y b.env) (sym x.same) (shows_below b.inside x.kept b.shows);
        }

    -- the room is the same
    pub top_same : at + k + length ws / 3 ≡ at + length rest / 3
    top_same = omega (arith, behind_words, b.whole, x.fits)

  -- behind the place of an element's entry
  pub behind_first : 3 ≤ length rest → Behind s held rest at 1 s held (drop 3 rest)
  behind_first h = record { fits = omega arith; same = refl; long = refl; kept = refl; blank = ap (λ (l : List ℕ). drop 3 l) b.blank ∙ drop_zeros 3 (length rest) }

  -- a variable bound
  pub begins_bind : {v i : ℕ} {t : Spans} (x : Span) → v ≤ 63 → i ≡ v → x.from ≤ x.to → x.to ≤ at → (f : Forest) → part held x.from x.to ≡ forest_words f → t ≡ bound s i x → Begins t held rest at
  begins_bind {v} {i} x low p o l f e q =
      let j : i < 64 = omega arith in
      record {
        blank = b.blank;
        whole = b.whole;
        few = b.few;
        room = b.room;
        inside = subst (λ (y : Spans). Inside y at) (sym q) (inside_bind b.inside i j x o l);
        env = (i, f) ∷ b.env;
        shows = subst (λ (y : Spans). Shows held y ((i, f) ∷ b.env)) (sym q) (shows_bind b.inside i j x f e b.shows);
      }

-- A SOURCE HELD: the forest that stands at the front, copied to entry `at` of the forests held
module _ (held after us : List ℕ) (at k : ℕ) {room : ℕ} {f : Forest} (filled : Filled room us k f) (fits : 3 * at ≤ length held) (e : after ≡ stored held (3 * at) (take (3 * k) us)) where
  pub held_below : take (3 * at) after ≡ take (3 * at) held
  unfolding stored
  held_below = ap (λ (l : List ℕ). take (3 * at) l) e ∙ take_at (take (3 * at) held) (take (3 * k) us ++ drop (3 * at + length (take (3 * k) us)) held) (3 * at) (length-take-le (3 * at) held fits)

  pub held_part : part after at (at + k) ≡ forest_words f
  unfolding stored part
  held_part =
      let n : 3 * (at + k) - 3 * at ≡ 3 * k = omega arith in
      let w : length (take (3 * k) us) ≡ 3 * k = ap length (filled_front filled) ∙ filled_words filled in
      ap (λ (j : ℕ). take j (drop (3 * at) after)) n
      ∙ ap (λ (l : List ℕ). take (3 * k) (drop (3 * at) l)) e
      ∙ ap (λ (l : List ℕ). take (3 * k) l) (drop_at (take (3 * at) held) (take (3 * k) us ++ drop (3 * at + length (take (3 * k) us)) held) (3 * at) (length-take-le (3 * at) held fits))
      ∙ take_at (take (3 * k) us) (drop (3 * at + length (take (3 * k) us)) held) (3 * k) w
      ∙ filled_front filled

  pub held_among : Among after at (at + k) (at + k)
  held_among = record { ordered = omega arith; below = omega arith; forest = f; is = held_part }
