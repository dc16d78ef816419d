-- A query's evaluation from those of its parts, as the members of the cycle do it.
-- Assumes nothing.
use Rattle.std.specs.Prelude as Std
use mathlib.Core.Path.{◌≡◌, refl, sym, ap, subst, ◌∙◌}
use mathlib.Core.Bool.{Bool, false}
use mathlib.Core.List.{List, ◌∷◌, ◌++◌}
use Prim.Native.Nat.{ℕ, ◌+◌, ◌*◌, ◌-◌, ◌/◌, ◌≤◌, ◌<◌}
use native.Mathlib.Omega.{arith}
use lib.ListN.{length, take, drop, length-append, length-drop}
use lib.Seq.{drop_at, length-take-le}
use Rattle.meaning.specs.Base.{Out, ok}
use Rattle.meaning.specs.Forests.{Forest, size, forest_words}
use Rattle.meaning.specs.Queries as Queries
use Rattle.meaning.specs.Queries.{Query, Cond}
use Rattle.meaning.specs.Running.{Env, value_of, written, eval}
use Rattle.words.specs.Tables.{stored}
use Rattle.spans.specs.declared.Span.{Span}
use Rattle.spans.specs.declared.Spans.{Spans}
use Rattle.spans.specs.Shows.{start, stop, bound, part, Shows}
use Rattle.spans.proofs.Binding.{unbind_bind, shows_bind, shows_below}
use Rattle.copies.specs.Fills.{Made, no_room, Filled}
use Rattle.copies.proofs.Filling.{filled_none, filled_blank}
use Rattle.picks.specs.Picks.{Picks, Within}
use Rattle.moves.specs.Moves.{Room, Wraps, Moves}
use Rattle.truths.specs.Tells.{Places, Tells}
use Rattle.running.specs.Evaluates.{Step, Begins, Among, Left, done, full, Evaluates, valued, bodied}
use Rattle.running.proofs.Given.{fewer, Behind, behind_words, top_same, behind_first, held_below, held_part, held_among}
use Rattle.running.proofs.Leaving.{Got, lifted, left_done, left_as, left_made, left_written, left_join, left_wrap, left_move, nothing_is, element_is, element_not, pair_is, when_not}

-- a scope that was handed back shows what it showed
again : {held : List ℕ} {s t : Spans} {env : Env} → t ≡ s → Shows held s env → Shows held t env
again {held} {env = env} p h = subst (λ (x : Spans). Shows held x env) (sym p) h

-- the first words as they were, and others behind them
over_drop : (n : ℕ) (xs ys : List ℕ) → n ≤ length xs → drop n (take n xs ++ ys) ≡ ys
over_drop n xs ys h = drop_at (take n xs) ys n (length-take-le n xs h)

pub over_length : (n : ℕ) (xs ys : List ℕ) → n ≤ length xs → length ys ≡ length (drop n xs) → length (take n xs ++ ys) ≡ length xs
over_length n xs ys h e = length-append (take n xs) ys ∙ omega (arith, length-take-le n xs h, e, length-drop n xs)

module _ {s : Spans} {held rest : List ℕ} {at : ℕ} (b : Begins s held rest at) where
  -- what a part got, in the environment that there is
  pub part_got : {after us : List ℕ} {r : Step} {o : ℕ → Env → ℕ → Out Forest} {k : ℕ} → Evaluates s held after (length rest) us at r o → r.made ≡ Std.Ok k → Got (length rest) us k (o (at + length rest / 3) b.env at)
  part_got w e = left_done e (w.is b.env b.shows)

  -- NOTHING
  pub nothing_leaves : {us : List ℕ} (n : ℕ) → us ≡ rest → Evaluates s held held (length rest) us at (record { made = Std.Ok 0; scope = s }) (valued (Queries.nothing n))
  nothing_leaves n u = record { kept = refl; below = refl; is = λ env h. left_as (nothing_is (at + length rest / 3) n env at) (done (filled_none (u ∙ b.blank))) }

  -- A COPY
  pub picked : {us : List ℕ} {made : Made} (n : ℕ) (chosen : Env → Forest) (q : Query) → ((top : ℕ) (env : Env) → eval top q env at ≡ written top n at (chosen env)) → Picks s held (length rest) us n made chosen → Evaluates s held held (length rest) us at (record { made = made; scope = s }) (valued q)
  picked n chosen q law p = record { kept = refl; below = refl; is = λ env h. left_as (law (at + length rest / 3) env) (left_written at (p.is env h)) }

  -- WHAT STANDS BEHIND k entries, in the same work table
  module _ {t : Spans} {after last ws vs : List ℕ} {k : ℕ} {r : Step} {o : ℕ → Env → ℕ → Out Forest} (x : Behind s held rest at k t after ws) (w : Evaluates t after last (length ws) vs (at + k) r o) where
    pub behind_left : (env : Env) → Shows held s env → Left (length rest - 3 * k) vs r.made (o (at + length rest / 3) env (at + k))
    behind_left env h =
        subst (λ (n : ℕ). Left n vs r.made (o (at + length rest / 3) env (at + k))) (behind_words b x)
        (subst (λ (n : ℕ). Left (length ws) vs r.made (o n env (at + k))) (top_same b x) (w.is env (again x.same (shows_below b.inside x.kept h))))

    pub behind_kept : r.scope ≡ s
    behind_kept = w.kept ∙ x.same

    pub behind_below : take (3 * at) last ≡ take (3 * at) held
    behind_below = fewer after last (at + k) at (omega arith) w.below ∙ x.kept

    pub behind_room : {m : ℕ} → r.made ≡ Std.Ok m → Room (length rest) k m
    behind_room e = let g = left_done e (behind_left b.env b.shows) in record { few = omega (arith, b.few, b.whole); fits = omega (arith, g.filled.fits, x.fits) }

  -- behind a part, and behind a source that is held
  module _ {us after : List ℕ} {r : Step} {o : ℕ → Env → ℕ → Out Forest} {k : ℕ} (w : Evaluates s held after (length rest) us at r o) (e : r.made ≡ Std.Ok k) (long : length after ≡ length held) where
    pub behind_part : Behind s held rest at k r.scope after (drop (3 * k) us)
    behind_part = let g = part_got w e in record { fits = g.filled.fits; same = w.kept; long = long; kept = w.below; blank = filled_blank g.filled }

    module _ {final : List ℕ} (put : final ≡ stored after (3 * at) (take (3 * k) us)) (as_long : length final ≡ length after) where
      at_fits : 3 * at ≤ length after
      at_fits = omega (arith, b.room, long)

      pub behind_held : Behind s held rest at k r.scope final (drop (3 * k) us)
      behind_held = let g = part_got w e in record { fits = g.filled.fits; same = w.kept; long = as_long ∙ long; kept = held_below after final us at k g.filled at_fits put ∙ w.below; blank = filled_blank g.filled }

      pub among_held : Among final at (at + k) (at + k)
      among_held = let g = part_got w e in held_among after final us at k g.filled at_fits put

      -- in every environment it is that environment's source that is held
      pub source_held : {f : Forest} → Filled (length rest) us k f → part final at (at + k) ≡ forest_words f
      source_held h = held_part after final us at k h at_fits put

  -- ELEMENT
  module _ (n l : ℕ) (q : Query) where
    pub element_stops : {us : List ℕ} → length rest < 3 → Evaluates s held held (length rest) us at (record { made = Std.Err (no_room n); scope = s }) (valued (Queries.element n l q))
    element_stops h = record { kept = refl; below = refl; is = λ env i. left_as (element_not (at + length rest / 3) n env at l q (omega (arith, b.whole))) full }

    pub element_leaves : {last vs us : List ℕ} {k : ℕ} {t : Spans} → (h : 3 ≤ length rest) → Evaluates s held last (length (drop 3 rest)) vs (at + 1) (record { made = Std.Ok k; scope = t }) (valued q) → length vs ≡ length (drop 3 rest)
        → Wraps (take 3 rest ++ vs) us l k → Evaluates s held last (length rest) us at (record { made = Std.Ok (1 + k); scope = t }) (valued (Queries.element n l q))
    element_leaves {vs = vs} h w long z =
        let x = behind_first b h in
        record {
          kept = behind_kept x w;
          below = behind_below x w;
          is = λ env i. left_as (element_is (at + length rest / 3) n env at l q (omega (arith, b.whole))) (left_wrap (over_length 3 rest vs h long) (over_drop 3 rest vs h) z (behind_left x w env i));
        }

    pub element_room : {last vs : List ℕ} {k : ℕ} {t : Spans} → (h : 3 ≤ length rest) → Evaluates s held last (length (drop 3 rest)) vs (at + 1) (record { made = Std.Ok k; scope = t }) (valued q) → length vs ≡ length (drop 3 rest) → Room (length (take 3 rest ++ vs)) 1 k
    element_room {vs = vs} {k} h w long = subst (λ (m : ℕ). Room m 1 k) (sym (over_length 3 rest vs h long)) (behind_room (behind_first b h) w refl)

  -- PAIR
  module _ (n : ℕ) (p q : Query) {us after : List ℕ} {first : Step} (w : Evaluates s held after (length rest) us at first (valued p)) where
    pub pair_leaves : {last vs : List ℕ} {second r : Step} {k : ℕ} (e : first.made ≡ Std.Ok k) → length after ≡ length held → Evaluates first.scope after last (length (drop (3 * k) us)) vs (at + k) second (valued q) → r ≡ lifted k second
        → Evaluates s held last (length rest) (take (3 * k) us ++ vs) at r (valued (Queries.pair n p q))
    pair_leaves {last} {vs} {second} {r} {k} e long v z =
        let x = behind_part w e long in
        record {
          kept = ap (λ (y : Step). y.scope) z ∙ behind_kept x v;
          below = behind_below x v;
          is = λ env h. let i = left_done e (w.is env h) in left_as (pair_is (at + length rest / 3) n env at p q i.is i.filled.count) (left_made (ap (λ (y : Step). y.made) z) (left_join i.filled (behind_left x v env h)));
        }

  -- LET AND FOR: a source, held, and what follows it, moved down
  module _ (p whole : Query) (rule : Forest → ℕ → Env → ℕ → Out Forest) {us after : List ℕ} {source : Step} (w : Evaluates s held after (length rest) us at source (valued p)) where
    module _ {k : ℕ} (e : source.made ≡ Std.Ok k) (long : length after ≡ length held) (us_long : length us ≡ length rest) {final : List ℕ} (put : final ≡ stored after (3 * at) (take (3 * k) us)) (as_long : length final ≡ length after) where
      pub bound_leaves : ((top : ℕ) (env : Env) (f : Forest) → eval top p env at ≡ ok f → size f ≡ k → eval top whole env at ≡ rule f top env (at + k))
          → {last vs xs : List ℕ} {m : ℕ} {t : Spans} → ((f : Forest) → part final at (at + k) ≡ forest_words f → Evaluates source.scope final last (length (drop (3 * k) us)) vs (at + k) (record { made = Std.Ok m; scope = t }) (rule f))
          → length vs ≡ length (drop (3 * k) us) → Moves (take (3 * k) us ++ vs) xs k m
          → Evaluates s held last (length rest) xs at (record { made = Std.Ok m; scope = t }) (valued whole)
      bound_leaves law {vs = vs} v n z =
          let x = behind_held w e long put as_long in
          let a = among_held w e long put as_long in
          let fits : 3 * k ≤ length us = omega (arith, x.fits, us_long) in
          record {
            kept = behind_kept x (v a.forest a.is);
            below = behind_below x (v a.forest a.is);
            is = λ env h.
                let i = left_done e (w.is env h) in
                left_as (law (at + length rest / 3) env i.forest i.is i.filled.count)
                (left_move k (over_length (3 * k) us vs fits n ∙ us_long) (over_drop (3 * k) us vs fits) z (behind_left x (v i.forest (source_held w e long put as_long i.filled)) env h));
          }

  -- WHEN
  module _ (n : ℕ) (c : Cond) (q : Query) {told : Bool} (h : Tells s held told c) where
    pub when_none : {us : List ℕ} → us ≡ rest → told ≡ false → Evaluates s held held (length rest) us at (record { made = Std.Ok 0; scope = s }) (valued (Queries.when n c q))
    when_none u e = record { kept = refl; below = refl; is = λ env i. left_as (when_not (at + length rest / 3) n env at c q (sym (h.is env i) ∙ e)) (done (filled_none (u ∙ b.blank))) }

  -- INSIDE: the scope is as it was when its variable is unbound again
  pub inside_leaves : {v i : ℕ} {t u : Spans} {after us : List ℕ} {body : Step} (x was : Span) (q : Query) → v ≤ 63 → i ≡ v → t ≡ bound s i x → was ≡ record { from = start s i; to = stop s i } → u ≡ bound body.scope i was → Evaluates t held after (length rest) us at body (valued q)
      → (f : Forest) → part held x.from x.to ≡ forest_words f → Evaluates s held after (length rest) us at (record { made = body.made; scope = u }) (bodied v f q)
  inside_leaves {v} {i} {body = body} x was q low p t-is was-is u-is w f e =
      record {
        kept = u-is ∙ ap (λ (y : Spans). bound y i was) (w.kept ∙ t-is) ∙ ap (λ (y : Span). bound (bound s i x) i y) was-is ∙ unbind_bind s i x;
        below = w.below;
        is = λ env h. w.is ((v, f) ∷ env) (again (t-is ∙ ap (λ (j : ℕ). bound s j x) p) (shows_bind b.inside v (omega arith) x f e h));
      }

  -- what conditions and variables are given
  pub places : Places s held
  places = record { is = λ v l. ((b.inside.is v l).0, omega (arith, (b.inside.is v l).1, b.room)) }

  pub within : {v : ℕ} → v ≤ 63 → Within s held v
  within {v} l =
      let i = b.inside.is v (omega arith) in
      record { low = l; is = record { ordered = i.0; inside = omega (arith, i.1, b.room); forest = value_of b.env v; is = b.shows.is v (omega arith) } }
