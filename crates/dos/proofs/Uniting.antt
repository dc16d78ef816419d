-- The unions over the entries that are kept, one append after the other: what is left to do from here is the whole.
-- Assumes nothing.
use mathlib.Core.Path.{◌≡◌, refl, sym, ◌∙◌}
use mathlib.Core.Bool.{Bool}
use mathlib.Core.List.{List, [], ◌∷◌}
use Prim.Native.Nat.{ℕ, ◌+◌, ◌-◌, ◌≤◌, ◌<◌}
use native.Mathlib.Omega.{arith}
use lib.ListN.{length}
use Rattle.std.specs.Prelude as Std
use Rattle.std.specs.Prelude.{Result}
use Rattle.refusals.specs.declared.Refusal.{Refusal}
use Rattle.meaning.specs.Base.{Out, ok, kept_from, type_capacity}
use Rattle.meaning.specs.Types as Types
use Rattle.meaning.specs.Types.{Entry, Table, Defs, entry_words}
use Rattle.meaning.specs.Rules.{after, append, unions}
use Rattle.words.specs.declared.Entry as Words
use Rattle.words.specs.Tables.{table_of}
use Rattle.words.proofs.Tables.{table_length}
use Rattle.reach.specs.Marks.{marks_of}
use Rattle.reach.specs.Atoms.{picked, Next}
use Rattle.reach.proofs.Atoms.{next_low, unions_one, unions_none}
use Rattle.grow.specs.Grow.{Ready, Left, New}
use Rattle.grow.specs.declared.Made.{Made}
use Rattle.grow.proofs.Entries.{new_union, new_by}
use Rattle.grow.proofs.Steps.{left_here, left_stop, left_on, after_ok, kept_table, appended, appended_grows}

-- what `grow::append` promises
abbrev pub Adds : List ℕ → List ℕ → List ℕ → List ℕ → ℕ → ℕ → Words.Entry → Result Made Refusal → Type 0
Adds us vs ds es n node w r = (D : Defs) (x : Entry) → New n w.kind w.a w.b x → Ready D us ds n → Left D us vs ds es r (append (type_capacity (length us)) node x (table_of us n))

-- the unions, from entry x over those kept after it
abbrev pub United : List ℕ → ℕ → (ℕ → Bool) → ℕ → ℕ → Out (Table × ℕ)
United ws count f node x = unions (type_capacity (length ws)) node x (kept_from f (x + 1) (count - (x + 1))) (table_of ws count)

-- THE LOOP: u is the union so far, in a table of n entries, and those kept from i on are left
pub record Uniting (D : Defs) (ws cs : List ℕ) (count : ℕ) (f : ℕ → Bool) (node x : ℕ) (us ds : List ℕ) (u n i : ℕ) : Type 0 where
  pub here : Left D ws us cs ds (Std.Ok (record { at = u; count = n })) (ok (table_of us n, u))
  pub more : count ≤ n
  pub first : table_of us count ≡ table_of ws count
  pub rest : unions (type_capacity (length ws)) node u (kept_from f i (count - i)) (table_of us n) ≡ United ws count f node x

module _ {D : Defs} {ws cs : List ℕ} {count : ℕ} {f : ℕ → Bool} {node x : ℕ} {us ds : List ℕ} {u n i : ℕ} (s : Uniting D ws cs count f node x us ds u n i) where
  -- what the calls are given
  pub uniting_ready : Ready D us ds n
  uniting_ready = s.here.ready.0

  pub uniting_low : u < n
  uniting_low = s.here.ready.1

  -- no more
  pub uniting_all : Next f count i Std.None → Left D ws us cs ds (Std.Ok (record { at = u; count = n })) (United ws count f node x)
  uniting_all next = left_on refl s.here (left_here uniting_ready uniting_low) (sym (unions_none _ node u _ next) ∙ s.rest)

  module _ {y : ℕ} (next : Next f count i (Std.Some y)) where
    -- both parts of the union are words
    pub uniting_words : (u < 4096) × (y < 4096)
    uniting_words = (omega (arith, uniting_ready.lent.fits, uniting_low), omega (arith, uniting_ready.lent.fits, s.more, next_low next))

    -- one more: its union, then those after it
    module _ {vs es : List ℕ} {w : Words.Entry} {o : Result Made Refusal} (is : w.kind ∷ w.a ∷ w.b ∷ [] ≡ entry_words (Types.union u y)) (adds : Adds us vs ds es n node w o) where
      g : Left D us vs ds es o (append (type_capacity (length us)) node (Types.union u y) (table_of us n))
      g = adds D (Types.union u y) (new_by is (new_union uniting_low (omega (arith, s.more, next_low next)))) uniting_ready

      one : after (append (type_capacity (length us)) node (Types.union u y) (table_of us n)) (λ v. unions (type_capacity (length ws)) node v (kept_from f (y + 1) (count - (y + 1))))
          ≡ United ws count f node x
      one = rw s.here.long (sym (unions_one _ node u _ next) ∙ s.rest)

      pub uniting_full : {e : Refusal} → o ≡ Std.Err e → Left D ws vs cs es o (United ws count f node x)
      uniting_full p = left_on refl s.here (left_stop _ p g) one

      pub uniting_more : {m : Made} → o ≡ Std.Ok m → Uniting D ws cs count f node x vs es m.at m.count (y + 1)
      uniting_more {m} p =
          let a = appended n node (Types.union u y) p g in
          let made = after_ok p g in
          record {
            here = left_on refl s.here (rw p at g) made;
            more = omega (arith, a.count, s.more);
            first = kept_table us vs n m.count (appended_grows a) count s.more ∙ s.first;
            rest = rw made at one;
          }

-- the next one that is picked in the table as it is now is the next one that was picked in the table at first
pub uniting_next : {D : Defs} {ws cs : List ℕ} {count : ℕ} (test : ℕ) (ms : List ℕ) {f : ℕ → Bool} {node x : ℕ} {us ds : List ℕ} {u n i : ℕ} {r : Std.Option ℕ} {T : Table}
    → Uniting D ws cs count f node x us ds u n i → T ≡ table_of us count → Next (picked test T (marks_of (length T) ms)) (length T) i r → Next (picked test (table_of ws count) (marks_of count ms)) count i r
uniting_next test ms s e q = rw (e, table_length, s.first) at q
