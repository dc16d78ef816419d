-- A query with the answer of a part: steps up.
-- Assumes nothing.
use Rattle.std.specs.Prelude as Std
use Rattle.std.specs.Prelude.{Result}
use mathlib.Core.Path.{◌≡◌, refl, sym, ap, subst, ◌∙◌}
use mathlib.Core.Logic.{◌≢◌}
use mathlib.Core.Bool.{not}
use mathlib.Core.List.{List, ◌∷◌, ◌++◌}
use mathlib.Core.Option.{Option, none, some}
use Prim.Native.Nat.{ℕ, suc, ◌+◌, ◌*◌, ◌-◌, ◌≤◌, ◌<◌}
use native.Mathlib.Omega.{arith}
use native.Mathlib.Decide.{ℕ_discrete}
use lib.ListN.{length, get_or, set, length-set}
use lib.Seq.{get_or-set_same, get_or-set_other}
use Rattle.meaning.specs.Base as Base
use Rattle.meaning.specs.Base.{Out, ok, require, is_some, find, type_capacity}
use Rattle.meaning.specs.Types as Types
use Rattle.meaning.specs.Types.{Entry, Table, Defs}
use Rattle.meaning.specs.Shapes.{Class, one, maybe, more, any, shape, quant, allowing}
use Rattle.meaning.specs.Records as Records
use Rattle.meaning.specs.Records.{Node, type_in}
use Rattle.meaning.specs.Queries as Queries
use Rattle.meaning.specs.Queries.{Query, Cond, query_at}
use Rattle.meaning.specs.Rules.{after, from_out, Rule, append, prime, times}
use Rattle.meaning.specs.Typing as Typing
use Rattle.meaning.specs.Typing.{unbound}
use Rattle.meaning.proofs.Ends.{Ends}
use Rattle.meaning.proofs.Lists.{absurd_option}
use Rattle.meaning.proofs.Grow.{Grew, Full, append_ends, times_ends}
use Rattle.words.specs.Tables.{table_of}
use Rattle.words.proofs.Tables.{table_length}
use Rattle.classes.specs.Classes.{code_of as classCode, class_of}
use Rattle.classes.proofs.Laws.{of_code}
use Rattle.scope.specs.declared.Scope.{Scope}
use Rattle.scope.specs.declared.Var.TheVariants as Var
use Rattle.scope.specs.Shows.{Shows, found, bound}
use Rattle.grow.specs.Grow.{Left, New}
use Rattle.grow.specs.declared.Made.{Made}
use Rattle.grow.proofs.Entries.{new_element, new_pair}
use Rattle.grow.proofs.Steps.{left_here, left_stop, left_ready, after_ok, made, kept_count}
use Rattle.walks.proofs.Grown.{prime_count}
use Rattle.leaves.specs.Walk.{Within, Begins, walked}
use Rattle.refusals.specs.declared.Refusal.{Refusal}
use Rattle.leaves.proofs.Steps.{left_as}
use Rattle.joins.specs.Joins.{Adds, Repeats, Frees, loop}
use Rattle.joins.proofs.Growing.{within_more, within_bind}
use Rattle.typing.specs.declared.Next.{Next}
use Rattle.typing.specs.Walking as Walking
use Rattle.typing.specs.Walking.{onward, binder, named, inside, outside, Kept, Free, Freed, size, cost, rose, Turns}

-- 14 does not stop a variable for which nothing stands
pub free_ok : {s : Scope} {v : ℕ} (n : ℕ) (g : Typing.Scope) → Free s v → Shows s g → unbound n g v ≡ ok tt
free_ok {s} {v} n g f h =
    let p : find v g ≡ none = sym (h v (omega (arith, f.few))) ∙ ap found f.is in
    ap (λ (x : Option Records.Var). require (not (is_some x)) 14 n) p

-- a scope without the variable
pub within_unbind : {s : Scope} {n : ℕ} (v : ℕ) → Within s n → Within (bound s v Std.None) n
within_unbind {s} {n} v w = record { wide = length-set s.slots v Std.None ∙ w.wide; low = λ i z j f. go i z j f (ℕ_discrete i v) }
  where
    go : (i : ℕ) (z : Records.Var) → i < 64 → found (get_or (set s.slots v Std.None) i Std.None) ≡ some z → Dec (i ≡ v) → type_in z < n
    go i z j f (yes p) =
        let here : get_or (set s.slots v Std.None) i Std.None ≡ Std.None = rw p (get_or-set_same s.slots v Std.None Std.None (omega (arith, w.wide))) in
        absurd_option (sym (ap found here) ∙ f)
    go i z j f (no p) = w.low i z j (sym (ap found (get_or-set_other s.slots v i Std.None Std.None p)) ∙ f)

-- what a step up leaves of a query x that keeps k: it is done, or its second part p comes, the query at node q
module _ (D : Defs) (ws cs : List ℕ) (count : ℕ) (s : Scope) (k at i : ℕ) where
  abbrev room : ℕ
  room = type_capacity (length ws)

  abbrev T : Table
  T = table_of ws count

  pub record Done (us ds : List ℕ) (x : Query) (o : Result Made Refusal) (t : Scope) : Type 0 where
    pub scope : t ≡ outside (binder x) k s
    pub more : (m : Made) → o ≡ Std.Ok m → count ≤ m.count
    pub is : (g : Typing.Scope) → Shows (outside (binder x) k s) g → Left D ws us cs ds o (onward room D x k g (ok (T, at)))

  pub record Second (us ds : List ℕ) (x p : Query) (kept m : ℕ) (y : Records.Var) (t : Scope) : Type 0 where
    pub scope : t ≡ inside (binder x) (suc kept) y s
    pub begins : Begins D us ds m (inside (binder x) (suc kept) y s)
    pub more : count ≤ m
    pub long : length us ≡ length ws
    pub longs : length ds ≡ length cs
    pub low : Kept m x (suc kept)
    pub freed : Freed (binder x) (suc kept) s
    pub less : cost x (suc kept) + 3 * size p < cost x 0
    pub is : (g : Typing.Scope) → Shows s g → onward room D x 0 g (ok (T, at)) ≡ onward room D x (suc kept) g (walked room D p (named (binder x) (suc kept) y ++ g) (table_of us m))

  module _ {code : List Node} {n : ℕ} {us ds st : List ℕ} {t : Scope} (x : Query) (a : query_at code n ≡ x) where
    pub turn_done : (o : Result Made Refusal) → Done us ds x o t → Turns D code ws us cs ds count s n k at st st i (rose o i) t
    turn_done o d = let f = subst (λ (q : Query). Done us ds q o t) (sym a) d in Walking.done o refl refl f.scope f.more f.is

    pub turn_second : {st' : List ℕ} {q kept m w : ℕ} {y : Records.Var} {to : Next} → k ≡ 0 → q < n → Second us ds x (query_at code q) kept m y t → to ≡ Next.Down q m (suc i) → w ≡ suc kept → st' ≡ set st (2 * i + 1) w
        → Turns D code ws us cs ds count s n k at st st' i (Std.Ok to) t
    turn_second {q = q} {kept} {m} {y = y} z l d j v e =
        let f = subst (λ (c : Query). Second us ds c (query_at code q) kept m y t) (sym a) d in
        Walking.second q kept m y z l (e ∙ ap (set st (2 * i + 1)) v) (ap Std.Ok j) f.scope f.begins f.more f.long f.longs f.low f.freed f.less f.is

  -- from a table in which the part's answer is an entry
  module _ (B : Begins D ws cs count s) (low : at < count) where
    abbrev part : Made
    part = record { at = at; count = count }

    here : Left D ws ws cs cs (Std.Ok part) (ok (T, at))
    here = left_here B.ready low

    fits : length T ≤ room
    fits = rw table_length B.ready.lent.fits

    grown : {us ds : List ℕ} {x : Out (Table × ℕ)} {R : ℕ → ℕ → Type 0} {o : Result Made Refusal} → Ends (Grew D room T) R x → Left D ws us cs ds o x → (m : Made) → o ≡ Std.Ok m → count ≤ m.count
    grown {us} ends g m p = kept_count ws us count m.count (made ends p g).grows

    appends : {kind a b : ℕ} {x : Entry} {n : ℕ} → New count kind a b x → Ends (Grew D room T) (Full n) (append room n x T)
    appends {x = x} {n} y = append_ends D room (omega arith) n x T B.ready.formed fits (rw table_length y.low) y.plain

    repeats : {n : ℕ} (c : ℕ) → Ends (Grew D room T) (Full n) (times room n at (class_of c) T)
    repeats {n} c = times_ends D room (omega arith) n at (class_of c) T B.ready.formed fits (rw table_length low)

    again : (m : Made) → ◌≡◌ {A = Result Made Refusal} (Std.Ok part) (Std.Ok m) → count ≤ m.count
    again m p = let z : part ≡ m = cc in let y : count ≡ m.count = ap (λ (u : Made). u.count) z in omega arith

    -- a query that has nothing left to do
    pub still : {x : Query} → binder x ≡ none → ((g : Typing.Scope) (o : Out (Table × ℕ)) → onward room D x k g o ≡ o) → Done ws cs x (Std.Ok part) s
    still {x} b f =
        record {
          scope = rw b refl;
          more = again;
          is = λ g h. left_as here (sym (f g (ok (T, at))));
        }

    module _ (n : ℕ) where
      -- ELEMENT
      pub element_done : {us ds : List ℕ} {o : Result Made Refusal} (l : ℕ) (p : Query) → 1 ≤ l → l ≤ 65534 → Adds ws us cs ds count n 3 l at o → Done us ds (Queries.element n l p) o s
      unfolding onward binder
      element_done l p j z a =
          let new : New count 3 l at (Types.element l at) = new_element j z low in
          let g = a.is D (Types.element l at) new B.ready in
          record { scope = refl; more = grown (appends new) g; is = λ _ _. g }

      -- PAIR: its second part, and then the pair
      pub pair_second : (p q : Query) → k ≡ 0 → Second ws cs (Queries.pair n p q) q at count (Records.tree 0) s
      unfolding onward binder cost
      pair_second p q z =
          record { scope = refl; begins = B; more = omega arith; long = refl; longs = refl; low = omega (arith, low); freed = tt; less = omega arith; is = λ g h. refl }

      pub pair_done : {us ds : List ℕ} {o : Result Made Refusal} (p q : Query) (x : ℕ) → k ≡ suc x → k ≤ count → Adds ws us cs ds count n 4 x at o → Done us ds (Queries.pair n p q) o s
      unfolding onward binder
      pair_done p q x z l a =
          let new : New count 4 x at (Types.pair x at) = new_pair (omega (arith, l, z)) low in
          let g = a.is D (Types.pair x at) new B.ready in
          record { scope = refl; more = grown (appends new) g; is = λ h _. rw z g }

      -- WHEN
      pub when_done : {us ds : List ℕ} {o : Result Made Refusal} (p : Cond) (q : Query) → Repeats ws us cs ds count n 2 at o → Done us ds (Queries.when n p q) o s
      unfolding onward binder class_of times allowing
      when_done p q a =
          let g = a.is D B.ready low in
          record { scope = refl; more = grown (repeats 2) g; is = λ _ _. g }

      -- LET AND FOR: 14 stops them
      module _ (v : ℕ) (x : Query) (b : binder x ≡ some v) (F : Typing.Scope → ℕ → Rule ℕ)
          (law : (g : Typing.Scope) (o : Out (Table × ℕ)) → onward room D x 0 g o ≡ after (after o (λ e. from_out (Base.◌>>=◌ (unbound n g v) λ _. ok e))) (F g)) where
        bound_stops : {r : Refusal} → k ≡ 0 → Frees n v s (Std.Ok part) (Std.Err r) → Done ws cs x (Std.Err r) s
        bound_stops z f =
            record {
              scope = rw (b, z) refl;
              more = λ m j. again m (f.entry m j).0;
              is = λ g h. rw z (left_as (left_stop (F g) refl (f.is g (rw (b, z) at h) D ws ws cs cs (ok (T, at)) here)) (sym (law g (ok (T, at)))));
            }

        -- and let them through where the variable is free
        through : Free s v → (g : Typing.Scope) → Shows s g → onward room D x 0 g (ok (T, at)) ≡ F g at T
        through f g h = law g (ok (T, at)) ∙ ap (λ (u : Out (Unit {0})). after (from_out (Base.◌>>=◌ u λ _. ok at) T) (F g)) (free_ok n g f h)

      module _ (v : ℕ) (p q : Query) where
        let_law : (g : Typing.Scope) (o : Out (Table × ℕ)) → onward room D (Queries.let_in n v p q) 0 g o ≡ after (after o (λ e. from_out (Base.◌>>=◌ (unbound n g v) λ _. ok e))) (λ e. walked room D q ((v, Records.forest e) ∷ g))
        unfolding onward
        let_law g o = refl

        for_law : (g : Typing.Scope) (o : Out (Table × ℕ)) → onward room D (Queries.for n v p q) 0 g o ≡ after (after o (λ e. from_out (Base.◌>>=◌ (unbound n g v) λ _. ok e))) (loop room D n g v q)
        unfolding onward
        for_law g o = refl

        let_binds : binder (Queries.let_in n v p q) ≡ some v
        unfolding binder
        let_binds = refl

        for_binds : binder (Queries.for n v p q) ≡ some v
        unfolding binder
        for_binds = refl

        pub let_stops : {r : Refusal} → k ≡ 0 → Frees n v s (Std.Ok part) (Std.Err r) → Done ws cs (Queries.let_in n v p q) (Std.Err r) s
        let_stops = bound_stops v (Queries.let_in n v p q) let_binds (λ g e. walked room D q ((v, Records.forest e) ∷ g)) let_law

        pub for_stops : {r : Refusal} → k ≡ 0 → Frees n v s (Std.Ok part) (Std.Err r) → Done ws cs (Queries.for n v p q) (Std.Err r) s
        for_stops = bound_stops v (Queries.for n v p q) for_binds (λ g. loop room D n g v q) for_law

        -- LET: its body, and after it
        pub let_second : {j : ℕ} {t : Scope} → Free s v → j ≡ v → t ≡ bound s j (Std.Some (Var.Forest at)) → Second ws cs (Queries.let_in n v p q) q 0 count (Records.forest at) t
        unfolding onward binder cost
        let_second f j e =
            record {
              scope = e ∙ ap (λ (l : ℕ). bound s l (Std.Some (Var.Forest at))) j;
              begins = record { ready = B.ready; within = within_bind (Var.Forest at) low (omega (arith, f.few)) B.within };
              more = omega arith;
              long = refl;
              longs = refl;
              low = tt;
              freed = f;
              less = omega arith;
              is = λ g h. through v (Queries.let_in n v p q) let_binds (λ g e. walked room D q ((v, Records.forest e) ∷ g)) let_law f g h;
            }

        pub let_done : {w : ℕ} {t : Scope} (x : ℕ) → k ≡ suc x → w ≡ v → t ≡ bound s w Std.None → Done ws cs (Queries.let_in n v p q) (Std.Ok part) t
        unfolding onward binder
        let_done x z j b = record { scope = rw z (b ∙ ap (λ (l : ℕ). bound s l Std.None) j); more = again; is = λ g h. rw z here }

        -- FOR: prime, its body, and U.q after it
        module _ {us ds : List ℕ} {o : Result Made Refusal} (f : Free s v) (w : Left D ws us cs ds o (prime room n (shape D T at) T)) where
          pub prime_stops : {r : Refusal} → k ≡ 0 → o ≡ Std.Err r → Done us ds (Queries.for n v p q) o s
          unfolding binder
          prime_stops z y =
              record {
                scope = rw z refl;
                more = λ m j. prime_count n B.ready low w j;
                is = λ g h. rw z (left_as (left_stop _ y w) (sym (through v (Queries.for n v p q) for_binds (λ g. loop room D n g v q) for_law f g (rw z at h))));
              }

          pub for_second : {m : Made} {j : ℕ} {t : Scope} (class : ℕ) → o ≡ Std.Ok m → class ≡ classCode (quant (shape D T at)) → j ≡ v → t ≡ bound s j (Std.Some (Var.Tree m.at)) → Second us ds (Queries.for n v p q) q class m.count (Records.tree m.at) t
          unfolding onward binder cost
          for_second {m} class y z j b =
              let l = left_ready y w in
              record {
                scope = b ∙ ap (λ (l : ℕ). bound s l (Std.Some (Var.Tree m.at))) j;
                begins = record { ready = l.0; within = within_bind (Var.Tree m.at) l.1 (omega (arith, f.few)) (within_more (prime_count n B.ready low w y) B.within) };
                more = prime_count n B.ready low w y;
                long = w.long;
                longs = w.longs;
                low = tt;
                freed = f;
                less = omega arith;
                is =
                    λ g h. through v (Queries.for n v p q) for_binds (λ g. loop room D n g v q) for_law f g h
                    ∙ ap (λ (a : Out (Table × ℕ)). after a (λ x s. after (walked room D q ((v, Records.tree x) ∷ g) s) (λ u. times room n u (quant (shape D T at))))) (after_ok y w)
                    ∙ ap (λ (b : Class). after (walked room D q ((v, Records.tree m.at) ∷ g) (table_of us m.count)) (λ u. times room n u b)) (sym (of_code (quant (shape D T at)) z));
              }

        pub for_done : {us ds : List ℕ} {o : Result Made Refusal} {j : ℕ} {t : Scope} (c : ℕ) → k ≡ suc c → j ≡ v → t ≡ bound s j Std.None → Repeats ws us cs ds count n c at o → Done us ds (Queries.for n v p q) o t
        unfolding onward binder
        for_done {o = o} c z j b a =
            let g = a.is D B.ready low in
            record {
              scope = rw z (b ∙ ap (λ (l : ℕ). bound s l Std.None) j);
              more = grown (repeats c) g;
              is = λ _ _. rw z g;
            }

-- AFTER 14: what the source made is as it was, and the variable is free
module _ {n v : ℕ} {part source : Made} {s : Scope} (f : Frees n v s (Std.Ok part) (Std.Ok source)) where
  pub freed_is : part ≡ source
  freed_is = let z = (f.entry source refl).0 in cc

  pub freed : v ≤ 63 → Free s v
  freed l = record { few = l; is = (f.entry source refl).1 }

  -- the scope with the source's type for the variable, and the step to the body
  pub freed_bound : {t : Scope} (w : ℕ) → t ≡ bound s w (Std.Some (Var.Forest source.at)) → t ≡ bound s w (Std.Some (Var.Forest part.at))
  freed_bound {t} w e = subst (λ (m : Made). t ≡ bound s w (Std.Some (Var.Forest m.at))) (sym freed_is) e

  pub freed_goes : {to : Next} {q i : ℕ} → to ≡ Next.Down q source.count (suc i) → to ≡ Next.Down q part.count (suc i)
  freed_goes {to} {q} {i} e = subst (λ (m : Made). to ≡ Next.Down q m.count (suc i)) (sym freed_is) e

  -- a step from what the source made is one from the part
  pub freed_turns : {D : Defs} {code : List Node} {ws us cs ds st st' : List ℕ} {k i : ℕ} {r : Result Next Refusal} {t : Scope} → k ≡ 0 → Turns D code ws us cs ds source.count s n 0 source.at st st' i r t → Turns D code ws us cs ds part.count s n k part.at st st' i r t
  freed_turns {D} {code} {ws} {us} {cs} {ds} {st} {st'} {k} {i} {r} {t} z h =
      subst (λ (j : ℕ). Turns D code ws us cs ds part.count s n j part.at st st' i r t) (sym z) (subst (λ (m : Made). Turns D code ws us cs ds m.count s n 0 m.at st st' i r t) (sym freed_is) h)

-- AFTER PRIME: its entry's number is low, and so is a class
pub made_low : {D : Defs} {ws us cs ds : List ℕ} {m : Made} {x : Out (Table × ℕ)} → Left D ws us cs ds (Std.Ok m) x → m.at < 4096
made_low w = omega (arith, (left_ready refl w).0.lent.fits, (left_ready refl w).1)

code_few : (q : Class) → classCode q ≤ 4
unfolding classCode
code_few one = omega arith
code_few maybe = omega arith
code_few more = omega arith
code_few any = omega arith

pub class_few : {D : Defs} {ws cs : List ℕ} {count at : ℕ} {s : Scope} → Begins D ws cs count s → at < count → get_or cs at 0 ≤ 4
class_few {D} {ws} {count = count} {at} B low = omega (arith, B.ready.filled.right at (rw table_length low), code_few (quant (shape D (table_of ws count) at)))

pub one_less : {n : ℕ} → n ≢ 0 → n ≡ suc (n - 1)
one_less h = omega arith
