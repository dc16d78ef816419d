-- The loop over the declared variables: reading the rest of them from here, behind the values that were read, is reading them all.
-- Assumes nothing.
use mathlib.Core.Path.{◌≡◌, refl, sym, ap, ◌∙◌, subst}
use mathlib.Core.Bool.{Bool, true, false}
use mathlib.Core.List.{List, [], ◌∷◌, ◌++◌, append_assoc, append-nil}
use mathlib.Core.Option.{Option, none, some}
use Prim.Native.Nat.{ℕ, suc, ◌+◌, ◌*◌, ◌≤◌, ◌<◌, min}
use native.Mathlib.Omega.{arith}
use lib.Dec.{leb}
use lib.ListN.{length, set, drop, length-append, length-set}
use lib.Seq.{drop-cons, drop-length, set_split}
use borrow.Author.Tests.{lt-leb, le-leb}
use Rattle.meaning.specs.Base.{Out, ok, refused, ◌>>=◌, require, concat_map, zeros, padded}
use Rattle.meaning.specs.Forests.{Forest, end, join, size, forest_words}
use Rattle.meaning.specs.Records.{Var, var_of}
use Rattle.meaning.specs.Values.{Part, read_value, Value, read_values, is_odd, odd, entry_places, joined}
use Rattle.meaning.proofs.Forests.{join_end, join_assoc, size_join, words_join, length_words}
use Rattle.words.specs.Tables.{stored}
use Rattle.words.specs.declared.Entry.{Entry}
use Rattle.std.specs.Prelude as Std
use Rattle.refusals.specs.declared.Refusal.{Refusal}
use Rattle.std.specs.Option.{option_or}
use Rattle.std.specs.Bool.{then_some}
use Rattle.words.specs.Says.{found}
use Rattle.words.proofs.Rows.{zeros_length, stored_behind}
use Rattle.tables.specs.Rows.{var_in, var_at}
use Rattle.uses.proofs.Counts.{concat_more}
use Rattle.values.specs.declared.Kept.{Kept}
use Rattle.values.specs.declared.Valued.{Valued}
use Rattle.values.specs.Says.{ends_from, ends_of, Keeping, Adds, wrong_at, Gives, Blank, Scans}
use Rattle.values.specs.Says as Says
use Rattle.values.proofs.Keeping.{overfull_none}
use Rattle.values.proofs.Valuing.{value_within}

-- A PLACE where a test has passed, and the first of two that were found
abbrev place_if : Bool → ℕ → Option ℕ
place_if true at = some at
place_if false at = none

abbrev earlier_of : Option ℕ → Option ℕ → Option ℕ
earlier_of none o = o
earlier_of (some place) o = some place

found_if : (b : Bool) (at : ℕ) → found (then_some b at) ≡ place_if b at
found_if true at = refl
found_if false at = refl

found_earlier : (a b : Std.Option ℕ) → found (option_or a b) ≡ earlier_of (found a) (found b)
found_earlier (Std.Some x) b = refl
found_earlier Std.None b = refl

-- ONE VALUE MORE, behind the others
pub joined_more : (vs : List Value) (v : Value) → joined (vs ++ (v ∷ [])) ≡ join (joined vs) v.part.forest
unfolding joined join
joined_more [] v = join_end v.part.forest
joined_more (x ∷ vs) v = ap (join x.part.forest) (joined_more vs v) ∙ sym (join_assoc x.part.forest (joined vs) v.part.forest)

abbrev places_in : Value → List ℕ
places_in v = v.part.places

places_more : (vs : List Value) (v : Value) → entry_places (vs ++ (v ∷ [])) ≡ entry_places vs ++ v.part.places
places_more vs v = concat_more places_in vs v

odd_more : (vs : List Value) (v : Value) → odd (vs ++ (v ∷ [])) ≡ earlier_of (odd vs) (place_if (is_odd v.declared.1 v.part.forest) v.place)
unfolding odd
odd_more [] v = go (is_odd v.declared.1 v.part.forest)
  where
    go : (b : Bool) → elim b as (λ _. Option ℕ) [ true ↦ some v.place | false ↦ none ] ≡ place_if b v.place
    go true = refl
    go false = refl
odd_more (x ∷ vs) v = go (is_odd x.declared.1 x.part.forest) (odd_more vs v)
  where
    go : (b : Bool) → odd (vs ++ (v ∷ [])) ≡ earlier_of (odd vs) (place_if (is_odd v.declared.1 v.part.forest) v.place)
        → elim b as (λ _. Option ℕ) [ true ↦ some x.place | false ↦ odd (vs ++ (v ∷ [])) ]
        ≡ earlier_of (elim b as (λ _. Option ℕ) [ true ↦ some x.place | false ↦ odd vs ]) (place_if (is_odd v.declared.1 v.part.forest) v.place)
    go true h = refl
    go false h = h

ends_more : (n : ℕ) (vs : List Value) (v : Value) → ends_from n (vs ++ (v ∷ [])) ≡ ends_from n vs ++ ((n + size (joined (vs ++ (v ∷ [])))) ∷ [])
unfolding ends_from joined size join
ends_more n [] v = let z : n + size v.part.forest ≡ n + size (join v.part.forest end) = ap (λ (f : Forest). n + size f) (sym (join_end v.part.forest)) in rw z refl
ends_more n (x ∷ vs) v =
    let a = size x.part.forest in
    let rest = joined (vs ++ (v ∷ [])) in
    let z : n + a + size rest ≡ n + size (join x.part.forest rest) = omega (arith, size_join x.part.forest rest) in
    ap (λ (es : List ℕ). (n + a) ∷ es) (ends_more (n + a) vs v ∙ ap (λ (m : ℕ). ends_from (n + a) vs ++ (m ∷ [])) z)

pub ends_length : (n : ℕ) (vs : List Value) → length (ends_from n vs) ≡ length vs
unfolding ends_from
ends_length n [] = refl
ends_length n (v ∷ vs) = ap suc (ends_length (n + size v.part.forest) vs)

-- a word stored behind those that are there
set_more : (n : ℕ) (ws : List ℕ) (x : ℕ) → length ws < n → length (padded n ws) ≡ n → set (padded n ws) (length ws) x ≡ padded n (ws ++ (x ∷ []))
unfolding stored
set_more n ws x h k = let z : suc (length ws) ≡ length ws + 1 = omega arith in set_split (padded n ws) (length ws) x (omega arith) ∙ rw z (stored_behind n ws (x ∷ []) (omega arith))

-- THE INVARIANT
pub record Scanning (s : List ℕ) (V : List (ℕ × Var)) (room tw m : ℕ) (stack ends w : List ℕ) (i at : ℕ) (found-odd : Std.Option ℕ) (k : Kept) : Type 0 where
  pub values : List Value
  pub few : i ≤ length V
  pub within : at ≤ length s
  pub room_is : k.room ≡ room
  pub small : k.entries ≤ 65535 * i
  pub deep : length stack ≡ m
  pub sixteen : length ends ≡ 16
  pub long : length w ≡ tw
  pub many : length values ≡ i
  pub reads : read_values V s 0 ≡ (read_values (drop i V) s at >>= λ ws. ok (values ++ ws))
  pub odds : found found-odd ≡ odd values
  pub keeping : Keeping tw (forest_words (joined values)) (entry_places values) w k
  pub ends_are : k.entries ≤ room → ends ≡ padded 16 (ends_of values)

-- so many variables, and the next one
module _ (V : List (ℕ × Var)) where
  rest_none : (i : ℕ) → i ≤ length V → length V ≤ i → drop i V ≡ []
  rest_none i h k = let z : i ≡ length V = omega arith in rw z (drop-length V)

  rest_next : (i : ℕ) → i < length V → drop i V ≡ var_at V i ∷ drop (i + 1) V
  rest_next i h = let z : suc i ≡ i + 1 = omega arith in drop-cons V i (0, var_of 0 0) h ∙ rw z refl

pub sixteen_long : {ends : List ℕ} → ends ≡ zeros 16 → length ends ≡ 16
sixteen_long e = ap length e ∙ zeros_length 16

pub scan_starts : {s : List ℕ} {V : List (ℕ × Var)} {room : ℕ} {stack ends work : List ℕ} → Blank s V stack ends work room → Scanning s V room (length work) (length stack) stack ends work 0 0 Std.None (record { room = room; entries = 0; full = Std.None })
unfolding concat_map joined forest_words odd ends_from zeros
scan_starts {s} {V} {room} {stack} {ends} {work} b =
    record {
      values = [];
      few = omega arith;
      within = omega arith;
      room_is = refl;
      small = omega arith;
      deep = refl;
      sixteen = sixteen_long b.sixteen;
      long = refl;
      many = refl;
      reads = sym (bind_ok (read_values V s 0));
      odds = refl;
      keeping = record { even = refl; count = refl; long = refl; front = λ _. refl; over = sym (overfull_none room [] (omega arith)) };
      ends_are = λ _. b.sixteen;
    }
  where
    bind_ok : (o : Out (List Value)) → (o >>= λ ws. ok ws) ≡ o
    bind_ok (ok vs) = refl
    bind_ok (refused n p) = refl

module _ {s : List ℕ} {V : List (ℕ × Var)} {room tw m : ℕ} {stack ends w : List ℕ} {i at : ℕ} {found-odd : Std.Option ℕ} {k : Kept}
    (g : Scanning s V room tw m stack ends w i at found-odd k) where
  -- ALL ARE READ
  at_end : length V ≤ i → (b : Bool) → leb (length s) at ≡ b → read_values V s 0 ≡ ((require b 18 at >>= λ _. ok []) >>= λ ws. ok (g.values ++ ws))
  unfolding read_values
  at_end h b e =
      g.reads
      ∙ ap (λ (xs : List (ℕ × Var)). read_values xs s at >>= λ ws. ok (g.values ++ ws)) (rest_none V i g.few h)
      ∙ ap (λ (x : Bool). (require x 18 at >>= λ _. ok []) >>= λ ws. ok (g.values ++ ws)) e

  pub scan_past : length V ≤ i → at < length s → Scans room tw (read_values V s 0) ends w (Std.Err (wrong_at at))
  scan_past h l = Says.wrong (at_end h false (lt-leb (length s) at l))

  pub scan_ends : length V ≤ i → length s ≤ at → Scans room tw (read_values V s 0) ends w (Std.Ok (record { odd = found-odd; kept = k }))
  scan_ends h l = Says.read g.values (at_end h true (le-leb (length s) at l) ∙ ap ok (append-nil g.values)) g.odds g.room_is g.keeping (λ low. g.ends_are (omega (arith, g.keeping.count)))

  -- THE NEXT ONE, whose words are x
  module _ (more : i < length V) (x : Entry) (qx : var_in x ≡ var_at V i) where
    abbrev value_of : Part → Value
    value_of p = record { declared = var_at V i; place = at; part = p }

    abbrev onward : Part → Out (List Value)
    onward p = read_values (drop (i + 1) V) s p.next >>= λ vs. ok (value_of p ∷ vs)

    next_reads : read_values V s 0 ≡ ((read_value x.a s at >>= onward) >>= λ ws. ok (g.values ++ ws))
    unfolding read_values
    next_reads =
        g.reads
        ∙ ap (λ (xs : List (ℕ × Var)). read_values xs s at >>= λ ws. ok (g.values ++ ws)) (rest_next V i more)
        ∙ ap (λ (v : ℕ). (read_value v s at >>= onward) >>= λ ws. ok (g.values ++ ws)) (ap (λ (y : ℕ × Var). y.0) (sym qx))

    module _ {tl : ℕ} {u : List ℕ} {l : Kept} where
      pub scan_wrong : {e : Refusal} → Gives x.kind tl w k u l (read_value x.a s at) (Std.Err e) → {ends' : List ℕ} → Scans room tw (read_values V s 0) ends' u (Std.Err e)
      scan_wrong (Says.wrong e) = Says.wrong (next_reads ∙ ap (λ (o : Out Part). (o >>= onward) >>= λ ws. ok (g.values ++ ws)) e)

      module _ {y : Valued} (h : Gives x.kind tl w k u l (read_value x.a s at) (Std.Ok y)) where
        -- its value, as it was read
        pub record There : Type 0 where
          pub part : Part
          pub is : read_value x.a s at ≡ ok part
          pub low : length part.places ≤ 65535
          pub behind : y.next ≡ part.next
          pub bad_is : y.odd ≡ is_odd (var_at V i).1 part.forest
          pub adds : Adds tl w k u l (forest_words part.forest) part.places

        there : There
        there = go h
          where
            go : Gives x.kind tl w k u l (read_value x.a s at) (Std.Ok y) → There
            go (Says.read p e low z b a) =
                record {
                  part = p;
                  is = e;
                  low = low;
                  behind = z;
                  bad_is = b.is x.b p e ∙ ap (λ (z : ℕ × Var). is_odd z.1 p.forest) qx;
                  adds = a;
                }

        pub scan_low : l.entries ≤ k.entries + 65535
        scan_low = omega (arith, there.low, there.adds.more)

        abbrev now : Value
        now = value_of there.part

        abbrev values' : List Value
        values' = g.values ++ (now ∷ [])

        words_now : forest_words (joined values') ≡ forest_words (joined g.values) ++ forest_words there.part.forest
        words_now = ap forest_words (joined_more g.values now) ∙ words_join (joined g.values) there.part.forest

        reads_now : read_values V s 0 ≡ (read_values (drop (i + 1) V) s y.next >>= λ ws. ok (values' ++ ws))
        reads_now =
            next_reads
            ∙ ap (λ (o : Out Part). (o >>= onward) >>= λ ws. ok (g.values ++ ws)) there.is
            ∙ go (read_values (drop (i + 1) V) s there.part.next)
            ∙ ap (λ (m : ℕ). read_values (drop (i + 1) V) s m >>= λ ws. ok (values' ++ ws)) (sym there.behind)
          where
            go : (o : Out (List Value)) → ((o >>= λ vs. ok (now ∷ vs)) >>= λ ws. ok (g.values ++ ws)) ≡ (o >>= λ ws. ok (values' ++ ws))
            go (ok vs) = ap ok (sym (append_assoc g.values (now ∷ []) vs))
            go (refused k p) = refl

        -- the entries stand behind those of the earlier values
        size_now : length (entry_places values') ≡ size (joined values') → {cap : ℕ} → cap ≡ min l.entries room → l.entries ≤ room → l.entries ≡ length (entry_places values') → length V ≤ 16 → set ends i cap ≡ padded 16 (ends_of values')
        size_now sized {cap} c low count most =
            let es = ends_of g.values in
            let long = ends_length 0 g.values in
            let e : ends ≡ padded 16 es = g.ends_are (omega (arith, there.adds.more)) in
            let z : i ≡ length es = omega (arith, g.many) in
            let n : cap ≡ 0 + size (joined values') = omega arith in
            ap (λ (t : List ℕ). set t i cap) e
            ∙ ap (λ (j : ℕ). set (padded 16 es) j cap) z
            ∙ set_more 16 es cap (omega (arith, more)) (ap length (sym e) ∙ g.sixteen)
            ∙ ap (λ (m : ℕ). padded 16 (es ++ (m ∷ []))) n
            ∙ ap (padded 16) (sym (ends_more 0 g.values now))

        pub scan_on : length V ≤ 16 → tl ≡ tw → {place later : Std.Option ℕ} → place ≡ then_some y.odd at → later ≡ option_or found-odd place → {cap : ℕ} → cap ≡ min l.entries room
            → {stack' : List ℕ} → length stack' ≡ length stack → length u ≡ length w → Scanning s V room tw m stack' (set ends i cap) u (i + 1) y.next later l
        scan_on most same {place} {later} qp ql {cap} c {stack'} ls lw =
            let both : Keeping tw (forest_words (joined g.values) ++ forest_words there.part.forest) (entry_places g.values ++ there.part.places) u l =
            (subst (λ (m : ℕ). Adds m w k u l (forest_words there.part.forest) there.part.places) same there.adds).adds (forest_words (joined g.values)) (entry_places g.values) g.keeping in
            let keeping : Keeping tw (forest_words (joined values')) (entry_places values') u l = rw (words_now, places_more g.values now) both in
            let placed : found place ≡ place_if (is_odd (var_at V i).1 there.part.forest) at = ap found qp ∙ found_if y.odd at ∙ ap (λ (b : Bool). place_if b at) there.bad_is in
            let sized : length (entry_places values') ≡ size (joined values') = omega (arith, keeping.even, length_words (joined values')) in
            record {
              values = values';
              few = omega arith;
              within = omega (arith, there.behind, value_within x.a s at there.is);
              room_is = there.adds.room ∙ g.room_is;
              small = omega (arith, g.small, scan_low);
              deep = ls ∙ g.deep;
              sixteen = length-set ends i cap ∙ g.sixteen;
              long = lw ∙ g.long;
              many = omega (arith, g.many, length-append g.values (now ∷ []));
              reads = reads_now;
              odds = ap found ql ∙ found_earlier found-odd place ∙ (λ j. earlier_of (g.odds j) (placed j)) ∙ sym (odd_more g.values now);
              keeping = keeping;
              ends_are = λ low. size_now sized c low keeping.count most;
            }
