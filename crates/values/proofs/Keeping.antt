-- Entries kept where there is room: one more, one after another, and which place has the first without room.
-- Assumes nothing.
use mathlib.Core.Path.{◌≡◌, refl, sym, ap, ◌∙◌}
use mathlib.Core.List.{List, [], ◌∷◌, ◌++◌, append_assoc, append-nil}
use mathlib.Core.Option.{none, some}
use Prim.Native.Nat.{ℕ, ◌+◌, ◌*◌, ◌≤◌, ◌<◌}
use native.Mathlib.Omega.{arith}
use native.Mathlib.Decide.{ℕ_discrete}
use lib.ListN.{length, get_or, take, drop, length-append, get_or-append}
use lib.Seq.{get_or-append_seam, take_at}
use borrow.Author.Tests.{le-leb, lt-leb}
use Rattle.std.specs.Prelude as Std
use Rattle.std.specs.Option.{option_or}
use Rattle.meaning.specs.Base.{forest_width}
use Rattle.meaning.proofs.Lists.{absurd_option}
use Rattle.words.specs.Tables.{stored}
use Rattle.words.specs.Says.{found}
use Rattle.words.proofs.Rows.{stored_length}
use Rattle.values.specs.declared.Kept.{Kept}
use Rattle.values.specs.declared.Line.{Line}
use Rattle.values.specs.Says.{words_of, overfull, Keeping, Adds}

pub overfull_none : (room : ℕ) (ps : List ℕ) → length ps ≤ room → overfull room ps ≡ none
unfolding overfull
overfull_none room ps h = simp (overfull, le-leb (length ps) room h) refl

pub overfull_some : (room : ℕ) (ps : List ℕ) → room < length ps → overfull room ps ≡ some (get_or ps room 0)
unfolding overfull
overfull_some room ps h = simp (overfull, lt-leb (length ps) room h) refl

-- words stored behind the first
stored_front : (w ws xs : List ℕ) → take (length ws) w ≡ ws → take (length (ws ++ xs)) (stored w (length ws) xs) ≡ ws ++ xs
unfolding stored
stored_front w ws xs e =
    ap (take (length (ws ++ xs))) (ap (λ (y : List ℕ). y ++ (xs ++ drop (length ws + length xs) w)) e ∙ sym (append_assoc ws xs (drop (length ws + length xs) w)))
    ∙ take_at (ws ++ xs) (drop (length ws + length xs) w) (length (ws ++ xs)) refl

-- NO ENTRY, and those of two parts
pub adds_none : {tw : ℕ} {w : List ℕ} {k : Kept} → Adds tw w k w k [] []
adds_none {tw} {w} {k} = record { room = refl; more = omega arith; adds = λ ws ps h. rw (append-nil ws, append-nil ps) h }

pub adds_both : {tw : ℕ} {w u v : List ℕ} {f g h : Kept} {xs ys ps qs : List ℕ} → Adds tw w f u g xs ps → Adds tw u g v h ys qs → Adds tw w f v h (xs ++ ys) (ps ++ qs)
adds_both {xs = xs} {ys = ys} {ps = ps} {qs = qs} a b =
    record {
      room = b.room ∙ a.room;
      more = omega (arith, a.more, b.more, length-append ps qs);
      adds = λ ws os k.
          let z = b.adds (ws ++ xs) (os ++ ps) (a.adds ws os k) in
          rw (← append_assoc ws xs ys, ← append_assoc os ps qs) z;
    }

-- ONE ENTRY
abbrev pub kept_more : Kept → Std.Option ℕ → Kept
kept_more k full = record { room = k.room; entries = k.entries + 1; full = full }

module _ (i : Line) (at : ℕ) {tw : ℕ} {w : List ℕ} {k : Kept} (long : forest_width * k.room ≤ tw) where
  module _ {ws ps : List ℕ} (h : Keeping tw ws ps w k) where
    more : length (ps ++ (at ∷ [])) ≡ k.entries + 1
    more = omega (arith, length-append ps (at ∷ []), h.count)

    even_more : length (ws ++ words_of i) ≡ forest_width * length (ps ++ (at ∷ []))
    even_more = omega (arith, length-append ws (words_of i), length-append ps (at ∷ []), h.even)

    one_kept : {u : List ℕ} → k.entries < k.room → u ≡ stored w (forest_width * k.entries) (words_of i) → Keeping tw (ws ++ words_of i) (ps ++ (at ∷ [])) u (kept_more k k.full)
    one_kept {u} l q =
        record {
          even = even_more;
          count = sym more;
          long = ap length q ∙ stored_length w (words_of i) (forest_width * k.entries) (omega (arith, h.long)) ∙ h.long;
          front = λ _.
              let z : forest_width * k.entries ≡ length ws = omega (arith, h.even, h.count) in
              ap (take (length (ws ++ words_of i))) (q ∙ ap (λ (n : ℕ). stored w n (words_of i)) z) ∙ stored_front w ws (words_of i) (h.front (omega (arith, h.count)));
          over = h.over ∙ overfull_none k.room ps (omega (arith, h.count)) ∙ sym (overfull_none k.room (ps ++ (at ∷ [])) (omega (arith, more)));
        }

    -- the first without room
    first_over : k.entries ≡ k.room → found (option_or k.full (Std.Some at)) ≡ overfull k.room (ps ++ (at ∷ []))
    first_over l =
        go k.full (h.over ∙ overfull_none k.room ps (omega (arith, h.count)))
        ∙ sym (overfull_some k.room (ps ++ (at ∷ [])) (omega (arith, more)) ∙ ap (λ (j : ℕ). some (get_or (ps ++ (at ∷ [])) j 0)) z ∙ ap some (get_or-append_seam ps at [] 0))
      where
        z : k.room ≡ length ps
        z = omega (arith, h.count)

        go : (g : Std.Option ℕ) → found g ≡ none → found (option_or g (Std.Some at)) ≡ some at
        go (Std.Some x) q = absurd_option (sym q)
        go Std.None q = refl

    -- and those after it
    over_still : k.room < k.entries → found (option_or k.full (Std.Some at)) ≡ overfull k.room (ps ++ (at ∷ []))
    over_still l =
        let low : k.room < length ps = omega (arith, h.count) in
        go k.full (h.over ∙ overfull_some k.room ps low ∙ ap some (sym (get_or-append ps (at ∷ []) 0 k.room low))) ∙ sym (overfull_some k.room (ps ++ (at ∷ [])) (omega (arith, more)))
      where
        go : {x : ℕ} (g : Std.Option ℕ) → found g ≡ some x → found (option_or g (Std.Some at)) ≡ some x
        go (Std.Some y) q = q
        go Std.None q = absurd_option q

    past_room : k.room ≤ k.entries → Keeping tw (ws ++ words_of i) (ps ++ (at ∷ [])) w (kept_more k (option_or k.full (Std.Some at)))
    past_room l = record { even = even_more; count = sym more; long = h.long; front = λ low. absurd (omega (arith, more)); over = go (ℕ_discrete k.entries k.room) }
      where
        go : Dec (k.entries ≡ k.room) → found (option_or k.full (Std.Some at)) ≡ overfull k.room (ps ++ (at ∷ []))
        go (yes q) = first_over q
        go (no q) = over_still (omega arith)

  pub keeps_one : {u : List ℕ} → k.entries < k.room → u ≡ stored w (forest_width * k.entries) (words_of i) → Adds tw w k u (kept_more k k.full) (words_of i) (at ∷ [])
  keeps_one l q = record { room = refl; more = refl; adds = λ ws ps h. one_kept h l q }

  pub keeps_none : {g : Std.Option ℕ} → k.room ≤ k.entries → g ≡ option_or k.full (Std.Some at) → Adds tw w k w (kept_more k g) (words_of i) (at ∷ [])
  keeps_none l q = rw q (record { room = refl; more = refl; adds = λ ws ps h. past_room h l })
