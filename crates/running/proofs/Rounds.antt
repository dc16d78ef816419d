-- The rounds of a for: the bodies that stand there already, and the trees still to come.
-- Assumes nothing.
use Rattle.std.specs.Prelude as Std
use mathlib.Core.Path.{◌≡◌, refl, sym, ap, subst, ◌∙◌}
use mathlib.Core.List.{List, ◌++◌}
use Prim.Native.Nat.{ℕ, ◌+◌, ◌*◌, ◌/◌, ◌≤◌, ◌<◌}
use native.Mathlib.Omega.{arith}
use lib.ListN.{length, get_or, take, drop}
use Rattle.meaning.specs.Base.{Out, ok, refused, ◌>>=◌}
use Rattle.meaning.specs.Forests.{Forest, end, join, size, forest_words}
use Rattle.meaning.specs.Queries.{Query}
use Rattle.meaning.specs.Running.{Env, for_each}
use Rattle.meaning.proofs.Forests.{join_end, join_assoc, words_determine}
use Rattle.spans.specs.declared.Spans.{Spans}
use Rattle.spans.specs.Shows.{part, Shows}
use Rattle.spans.proofs.Parts.{part_below}
use Rattle.copies.specs.Fills.{first, Filled}
use Rattle.copies.proofs.Filling.{filled_none, filled_length, filled_blank}
use Rattle.copies.proofs.Firsts.{others, some, stretch_none, tree_size, tree_inside, tree_words, others_words}
use Rattle.running.specs.Evaluates.{Step, Begins, Among, done, Evaluates, bodied, looped, Rounds}
use Rattle.running.proofs.Given.{Behind}
use Rattle.running.proofs.Leaving.{left_done, left_as, laid_behind, each_first}
use Rattle.running.proofs.Wholes.{behind_left, behind_kept, behind_below}

-- one forest before another before a third
join_again : (f g : Forest) (o : Out Forest) → ((o >>= λ h. ok (join g h)) >>= λ h. ok (join f h)) ≡ (o >>= λ h. ok (join (join f g) h))
join_again f g (ok h) = ap ok (sym (join_assoc f g h))
join_again f g (refused n place) = refl

module _ {v : ℕ} {q : Query} {s : Spans} {held start : List ℕ} {at a e : ℕ} (b : Begins s held start at) (m : Among held a e at) where
  pub rounds_start : Rounds v q s held start at a e held start s a 0
  unfolding join
  rounds_start =
      record {
        kept = refl;
        below = refl;
        long = refl;
        source = m.forest;
        was = m.is;
        ordered = m.ordered;
        coming = m.forest;
        is = m.is;
        so_far = λ env h. let z : at ≡ at + 0 = omega arith in record { forest = end; filled = filled_none b.blank; goes = none_yet (looped v m.forest q (at + length start / 3) env at) ∙ ap (λ (i : ℕ). looped v m.forest q (at + length start / 3) env i >>= λ h. ok (join end h)) z };
      }
    where
      none_yet : (o : Out Forest) → o ≡ (o >>= λ h. ok h)
      none_yet (ok f) = refl
      none_yet (refused n place) = refl

  module _ {after rest : List ℕ} {t : Spans} {j k : ℕ} (r : Rounds v q s held start at a e after rest t j k) where
    filled : Filled (length start) rest k (r.so_far b.env b.shows).forest
    filled = (r.so_far b.env b.shows).filled

    pub rounds_fit : 3 * k ≤ length rest
    rounds_fit = omega (arith, filled.fits, filled_length filled)

    pub rounds_long : length rest ≡ length start
    rounds_long = filled_length filled

    inside_held : 3 * e ≤ length after
    inside_held = omega (arith, m.below, b.room, r.long)

    is_now : part after j e ≡ forest_words r.coming
    is_now = part_below held after j e at r.ordered m.below r.below ∙ r.is

    -- whatever the caller takes the source for, it is this one
    rounds_same : {last us : List ℕ} {x : Step} → Evaluates s held last (length start) us at x (looped v r.source q) → (f : Forest) → part held a e ≡ forest_words f → Evaluates s held last (length start) us at x (looped v f q)
    rounds_same {last} {us} {x} w f p = subst (λ (y : Forest). Evaluates s held last (length start) us at x (looped v y q)) (sym (words_determine f r.source (sym p ∙ r.was))) w

    pub rounds_end : e ≤ j → (f : Forest) → part held a e ≡ forest_words f → Evaluates s held after (length start) rest at (record { made = Std.Ok k; scope = t }) (looped v f q)
    unfolding for_each
    rounds_end l =
        let c = stretch_none after j e r.coming inside_held is_now l in
        rounds_same (record { kept = r.kept; below = r.below; is = λ env h. let x = r.so_far env h in left_as (x.goes ∙ ap (λ (y : Forest). looped v y q (at + length start / 3) env (at + k) >>= λ g. ok (join x.forest g)) c ∙ ap ok (join_end x.forest)) (done x.filled) })

    pub turn_behind : Behind s held start at k t after (drop (3 * k) rest)
    turn_behind = record { fits = filled.fits; same = r.kept; long = r.long; kept = r.below; blank = filled_blank filled }

    -- A ROUND, for a tree that ends at entry next
    module _ (more : j < e) {next : ℕ} (there : next ≡ j + get_or after (3 * j + 2) 0 + 1) where
      next_is : next ≡ j + size (first r.coming)
      next_is = omega (arith, there, tree_size after j e r.coming inside_held is_now more)

      pub turn_ends : (j < next) × (next ≤ e)
      turn_ends = (omega (arith, there), omega (arith, next_is, tree_inside after j e r.coming inside_held is_now more))

      pub tree_is : part after j next ≡ forest_words (first r.coming)
      tree_is = ap (λ (i : ℕ). part after j i) next_is ∙ tree_words after j e r.coming inside_held is_now more

      pub turn_among : Among after j next (at + k)
      turn_among = record { ordered = omega (arith, turn_ends.0); below = omega (arith, turn_ends.1, m.below); forest = first r.coming; is = tree_is }

      -- what is left to do is this tree's body, and then the others'
      turn_goes : (env : Env) → looped v r.coming q (at + length start / 3) env (at + k) ≡ (bodied v (first r.coming) q (at + length start / 3) env (at + k) >>= λ g. looped v (others r.coming) q (at + length start / 3) env (at + k + size g) >>= λ h. ok (join g h))
      turn_goes env = each_first _ r.coming (at + k) (some after j e r.coming inside_held is_now more)

      pub turn_stops : (env : Env) → Shows held s env → {n : ℕ} → bodied v (first r.coming) q (at + length start / 3) env (at + k) ≡ refused 21 n → looped v r.source q (at + length start / 3) env at ≡ refused 21 n
      turn_stops env h o = let x = r.so_far env h in x.goes ∙ ap (λ (y : Out Forest). y >>= λ g. ok (join x.forest g)) (turn_goes env ∙ ap (λ (y : Out Forest). y >>= λ g. looped v (others r.coming) q (at + length start / 3) env (at + k + size g) >>= λ h. ok (join g h)) o)

      module _ {last vs : List ℕ} {body : Step} (w : (f : Forest) → part after j next ≡ forest_words f → Evaluates t after last (length (drop (3 * k) rest)) vs (at + k) body (bodied v f q)) where
        tree_left : Evaluates t after last (length (drop (3 * k) rest)) vs (at + k) body (bodied v (first r.coming) q)
        tree_left = w (first r.coming) tree_is

        pub turn_next : {i : ℕ} → body.made ≡ Std.Ok i → length last ≡ length after → Rounds v q s held start at a e last (take (3 * k) rest ++ vs) body.scope next (k + i)
        turn_next {i} p n =
            record {
              kept = behind_kept b turn_behind tree_left;
              below = behind_below b turn_behind tree_left;
              long = n ∙ r.long;
              source = r.source;
              was = r.was;
              ordered = turn_ends.1;
              coming = others r.coming;
              is = sym (part_below held after next e at turn_ends.1 m.below r.below) ∙ ap (λ (z : ℕ). part after z e) next_is ∙ others_words after j e r.coming inside_held is_now more;
              so_far = λ env h.
                  let x = r.so_far env h in
                  let y = left_done p (behind_left b turn_behind tree_left env h) in
                  let z : at + k + size y.forest ≡ at + (k + i) = omega (arith, y.filled.count) in
                  record {
                    forest = join x.forest y.forest;
                    filled = laid_behind x.filled y.filled;
                    goes =
                        x.goes
                        ∙ ap (λ (o : Out Forest). o >>= λ g. ok (join x.forest g)) (turn_goes env ∙ ap (λ (o : Out Forest). o >>= λ g. looped v (others r.coming) q (at + length start / 3) env (at + k + size g) >>= λ h. ok (join g h)) y.is)
                        ∙ join_again x.forest y.forest (looped v (others r.coming) q (at + length start / 3) env (at + k + size y.forest))
                        ∙ ap (λ (n : ℕ). looped v (others r.coming) q (at + length start / 3) env n >>= λ h. ok (join (join x.forest y.forest) h)) z;
                  };
            }
