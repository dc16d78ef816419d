-- The loop over a forest's records: reading what is pending from here, behind what was read, is reading the whole forest.
-- Assumes nothing.
use mathlib.Core.Path.{◌≡◌, refl, sym, ap, ◌∙◌, subst}
use mathlib.Core.List.{List, [], ◌∷◌, ◌++◌, append-nil}
use Prim.Native.Nat.{ℕ, zero, suc, ◌+◌, ◌*◌, ◌-◌, ◌≤◌, ◌<◌}
use native.Mathlib.Omega.{arith}
use lib.ListN.{length, get_or, set, length-set}
use lib.Seq.{get_or-set_same, get_or-set_other}
use Rattle.meaning.specs.Base.{Out, ok, refused, ◌>>=◌}
use Rattle.meaning.specs.Forests.{forest_words}
use Rattle.meaning.specs.Records.{Record, field}
use Rattle.meaning.specs.Values.{Part, read_forest}
use Rattle.std.specs.Prelude as Std
use Rattle.refusals.specs.declared.Refusal.{Refusal}
use Rattle.refusals.specs.Says.{number_of}
use Rattle.values.specs.declared.Kept.{Kept}
use Rattle.values.specs.declared.Line.{Line}
use Rattle.values.specs.Says.{Shows, Stands, entry_at, words_of, Deep, whole, short, Adds, Reads, wrong, reached}
use Rattle.values.proofs.Standing.{refuses, seen}
use Rattle.values.proofs.Stepping.{Entered, entered, absurd_out}
use Rattle.values.proofs.Following.{Run, past, past_none, past_past, follow, row_of, follow_done, follow_step, follow_one}
use Rattle.values.proofs.Keeping.{adds_none, adds_both}

-- THE STACK: its first d words, the last of them first, and their sum
unfoldable pub pending : List ℕ → ℕ → List ℕ
pending t zero = []
pending t (suc d) = get_or t d 0 ∷ pending t d

unfoldable pub total : List ℕ → ℕ
total [] = 0
total (n ∷ ns) = n + total ns

-- a word stored further up leaves them
pending_set : (t : List ℕ) (d j v : ℕ) → d ≤ j → pending (set t j v) d ≡ pending t d
unfolding pending
pending_set t zero j v h = refl
pending_set t (suc d) j v h = rw (get_or-set_other t j d v 0 (λ e. omega arith), pending_set t d j v (omega arith)) refl

-- the top replaced, and one more put on it
pending_open : (t : List ℕ) (d x y : ℕ) → d + 1 < length t → pending (set (set t d x) (d + 1) y) (suc (suc d)) ≡ y ∷ x ∷ pending t d
unfolding pending
pending_open t d x y h =
    let z : suc d ≡ d + 1 = omega arith in
    let a : get_or (set (set t d x) (d + 1) y) (d + 1) 0 ≡ y = get_or-set_same (set t d x) (d + 1) y 0 (omega (arith, length-set t d x)) in
    let b : get_or (set (set t d x) (d + 1) y) d 0 ≡ x = get_or-set_other (set t d x) (d + 1) d y 0 (λ e. omega arith) ∙ get_or-set_same t d x 0 (omega arith) in
    let c : pending (set (set t d x) (d + 1) y) d ≡ pending t d = pending_set (set t d x) d (d + 1) y (omega arith) ∙ pending_set t d d x (omega arith) in
    rw (z, a, b, c) refl

-- A STACK THAT IS DEEP ENOUGH has a word, and stays so
pub deep_some : {s : List ℕ} {m : ℕ} → Deep s m → 0 < m
deep_some (whole h) = omega arith
deep_some (short h) = omega arith

deep_kept : {s : List ℕ} {m k : ℕ} → k ≡ m → Deep s m → Deep s k
deep_kept {s} q h = subst (Deep s) (sym q) h

-- THE INVARIANT: what was read so far, its words and places; what is pending
pub record Going (s : List ℕ) (start n tw : ℕ) (w : List ℕ) (k : Kept) (t u : List ℕ) (d at : ℕ) (l : Kept) : Type 0 where
  pub words : List ℕ
  pub places : List ℕ
  pub deep : Deep s (length t)
  pub spaced : 4 * l.entries ≤ at + 4 * k.entries
  pub within : at ≤ length s
  pub shallow : k.entries + d ≤ l.entries + 1
  pub rest : l.entries + total (pending t d) ≡ k.entries + n
  pub reads : follow s start (n ∷ []) ≡ past words places (follow s at (pending t d))
  pub adds : Adds tw w k u l words places

abbrev pub run_of : Part → Run
run_of p = record { words = forest_words p.forest; places = p.places; next = p.next }

-- what the whole forest is, of what `follow` answers
read_refused : {o : Out Part} {k place : ℕ} → (o >>= λ p. ok (run_of p)) ≡ refused k place → o ≡ refused k place
read_refused {o = ok p} e = absurd_out (sym e)
read_refused {o = refused j q} {k} {place} e = let a : j ≡ k = cc in let b : q ≡ place = cc in λ i. refused (a i) (b i)

module _ {tw : ℕ} {w u : List ℕ} {k l : Kept} where
  read_run : (o : Out Part) (r : Run) → (o >>= λ p. ok (run_of p)) ≡ ok r → Adds tw w k u l r.words r.places → Reads tw w k u l o (Std.Ok r.next)
  read_run (ok p) r e a =
      let q : run_of p ≡ r = cc in
      reached p refl (sym (ap (λ (x : Run). x.next) q)) (rw (ap (λ (x : Run). x.words) q, ap (λ (x : Run). x.places) q) a)
  read_run (refused j q) r e a = absurd_out e

pending_top : (t : List ℕ) (d : ℕ) → 0 < d → pending t d ≡ get_or t (d - 1) 0 ∷ pending t (d - 1)
unfolding pending
pending_top t zero h = absurd (omega arith)
pending_top t (suc d) h = let z : suc d - 1 ≡ d = omega arith in rw z refl

module _ (s : List ℕ) (start n : ℕ) {tw : ℕ} {w : List ℕ} {k : Kept} where
  pub going_starts : (t : List ℕ) → Deep s (length t) → start ≤ length s → Going s start n tw w k (set t 0 n) w 1 start k
  unfolding pending total
  going_starts t deep low =
      let z : get_or (set t 0 n) 0 0 ≡ n = get_or-set_same t 0 n 0 (deep_some deep) in
      record {
        words = [];
        places = [];
        deep = deep_kept (length-set t 0 n) deep;
        spaced = omega arith;
        within = low;
        shallow = omega arith;
        rest = rw z (omega arith);
        reads = rw z (sym (past_none (follow s start (n ∷ []))));
        adds = adds_none;
      }

  module _ {t u : List ℕ} {d at : ℕ} {l : Kept} (g : Going s start n tw w k t u d at l) where
    -- NOTHING IS PENDING
    pub going_ends : d ≤ 0 → Reads tw w k u l (read_forest n s start n) (Std.Ok at)
    unfolding pending follow
    going_ends h =
        let z : d ≡ 0 = omega arith in
        let a = append-nil g.words in
        let b = append-nil g.places in
        read_run (read_forest n s start n) (record { words = g.words; places = g.places; next = at })
        (sym (follow_one s start n) ∙ g.reads ∙ ap (λ (x : ℕ). past g.words g.places (follow s at (pending t x))) z ∙ λ i. ok (record { words = a i; places = b i; next = at }))
        g.adds

    module _ (some : 0 < d) where
      -- A FOREST IS DONE
      pub going_down : get_or t (d - 1) 0 ≡ 0 → Going s start n tw w k t u (d - 1) at l
      unfolding total
      going_down z =
          let q : pending t d ≡ 0 ∷ pending t (d - 1) = pending_top t d some ∙ ap (λ (x : ℕ). x ∷ pending t (d - 1)) z in
          record {
            words = g.words;
            places = g.places;
            deep = g.deep;
            spaced = g.spaced;
            within = g.within;
            shallow = omega (arith, g.shallow);
            rest = omega (arith, g.rest, ap total q);
            reads = g.reads ∙ ap (λ (ns : List ℕ). past g.words g.places (follow s at ns)) q ∙ ap (past g.words g.places) (follow_done s at (pending t (d - 1)));
            adds = g.adds;
          }

      -- A RECORD IS DUE
      module _ (left : ℕ) (top : left ≡ get_or t (d - 1) 0) (more : left ≡ 0 → ⊥) where
        now_pending : pending t d ≡ suc (left - 1) ∷ pending t (d - 1)
        now_pending = let z : get_or t (d - 1) 0 ≡ suc (left - 1) = omega arith in pending_top t d some ∙ ap (λ (x : ℕ). x ∷ pending t (d - 1)) z

        pub not_all : l.entries < k.entries + n
        unfolding total
        not_all = omega (arith, g.rest, ap total now_pending)

        pub room_above : n ≤ 65535 → (x : ℕ) → d < length (set t (d - 1) x)
        room_above h x = go g.deep
          where
            go : Deep s (length t) → d < length (set t (d - 1) x)
            go (whole m) = omega (arith, g.shallow, not_all, length-set t (d - 1) x)
            go (short m) = omega (arith, g.shallow, g.spaced, g.within, length-set t (d - 1) x)

        onward : follow s start (n ∷ []) ≡ past g.words g.places (entry_at s at (left - 1) >>= λ r. past (row_of r) (at ∷ []) (follow s r.next (field r 1 ∷ (left - 1 - field r 1) ∷ pending t (d - 1))))
        onward =
            g.reads
            ∙ ap (λ (ns : List ℕ). past g.words g.places (follow s at ns)) now_pending
            ∙ ap (past g.words g.places) (follow_step s at (left - 1) (pending t (d - 1)))

        pub going_wrong : {r : Refusal} → Stands (entry_at s at (left - 1)) (Std.Err r) → {v : List ℕ} {m : Kept} → Reads tw w k v m (read_forest n s start n) (Std.Err r)
        going_wrong {r} st =
            let z : follow s start (n ∷ []) ≡ refused (number_of r.reason) r.place =
            onward ∙ ap (λ (o : Out Record). past g.words g.places (o >>= λ r. past (row_of r) (at ∷ []) (follow s r.next (field r 1 ∷ (left - 1 - field r 1) ∷ pending t (d - 1))))) (refuses st) in
            wrong (read_refused (sym (follow_one s start n) ∙ z))

        module _ {i : Line} (st : Stands (entry_at s at (left - 1)) (Std.Ok i)) where
          abbrev line : Record
          line = (seen st).line

          shows : Shows i line
          shows = (seen st).shows

          line_in : Entered s at (left - 1) line
          line_in = entered s at (left - 1) (seen st).is

          pub inside_low : i.b ≤ left - 1
          inside_low = omega (arith, line_in.inside, shows.b)

          pub going_on : n ≤ 65535 → {tu : ℕ} → tu ≡ tw → {v : List ℕ} {m : Kept} → Adds tu u l v m (words_of i) (at ∷ [])
              → Going s start n tw w k (set (set t (d - 1) (left - 1 - i.b)) d i.b) v (d + 1) i.next m
          unfolding total
          going_on h {tu} same {v} {m} a =
              let b = inside_low in
              let z : d ≡ d - 1 + 1 = omega arith in
              let y : d + 1 ≡ suc (suc (d - 1)) = omega arith in
              let ns = pending t (d - 1) in
              let p : pending (set (set t (d - 1) (left - 1 - i.b)) d i.b) (d + 1) ≡ i.b ∷ (left - 1 - i.b) ∷ ns =
              ap (λ (j : ℕ). pending (set (set t (d - 1) (left - 1 - i.b)) j i.b) (d + 1)) z
              ∙ ap (pending (set (set t (d - 1) (left - 1 - i.b)) (d - 1 + 1) i.b)) y
              ∙ pending_open t (d - 1) (left - 1 - i.b) i.b (omega (arith, room_above h 0, length-set t (d - 1) 0)) in
              record {
                words = g.words ++ words_of i;
                places = g.places ++ (at ∷ []);
                deep = deep_kept (length-set (set t (d - 1) (left - 1 - i.b)) d i.b ∙ length-set t (d - 1) (left - 1 - i.b)) g.deep;
                spaced = omega (arith, g.spaced, line_in.read.past, shows.next, a.more);
                within = omega (arith, line_in.read.within, shows.next);
                shallow = omega (arith, g.shallow, a.more);
                rest = omega (arith, g.rest, ap total p, ap total now_pending, a.more);
                reads =
                    onward
                    ∙ ap (λ (o : Out Record). past g.words g.places (o >>= λ r. past (row_of r) (at ∷ []) (follow s r.next (field r 1 ∷ (left - 1 - field r 1) ∷ ns)))) (seen st).is
                    ∙ rw (← shows.kind, ← shows.a, ← shows.b, ← shows.next) (past_past g.words (words_of i) g.places (at ∷ []) (follow s i.next (i.b ∷ (left - 1 - i.b) ∷ ns)))
                    ∙ ap (λ (ms : List ℕ). past (g.words ++ words_of i) (g.places ++ (at ∷ [])) (follow s i.next ms)) (sym p);
                adds = adds_both g.adds (rw same at a);
              }
