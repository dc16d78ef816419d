-- Pending forests, read one after the other. An entry is read and what is inside it becomes the first of them (`follow_step`); one that is done is taken
-- off (`follow_done`). So reading goes on record by record, and what was read stands as the records lie.
-- Assumes nothing.
use mathlib.Core.Path.{◌≡◌, refl, sym, ap, ◌∙◌}
use mathlib.Core.Bool.{Bool, true, false, ◌||◌}
use mathlib.Core.List.{List, [], ◌∷◌, ◌++◌, append_assoc, append-nil}
use Prim.Native.Nat.{ℕ, zero, suc, ◌-◌, ◌≤◌}
use native.Mathlib.Omega.{arith}
use lib.Dec.{eqb}
use borrow.Author.Tests.{eqb-true}
use Rattle.meaning.specs.Base.{Out, ok, refused, ◌>>=◌}
use Rattle.meaning.specs.Kinds.{forest·text, forest·label}
use Rattle.meaning.specs.Forests.{end, size, forest_words}
use Rattle.meaning.specs.Records.{Record, field}
use Rattle.meaning.specs.Values.{Part, read_forest}
use Rattle.meaning.proofs.Lists.{never}
use Rattle.meaning.proofs.Forests.{size_none}
use Rattle.meaning.proofs.Values.{forest_ends}
use Rattle.values.specs.Says.{entry_at}
use Rattle.values.proofs.Stepping.{of_ok, by_value, Entered, entered, part_by, firstly, forest_step}

bind_same : {A B : Type 0} (o p : Out A) (f g : A → Out B) → o ≡ p → ((a : A) → p ≡ ok a → f a ≡ g a) → (o >>= f) ≡ (p >>= g)
bind_same o (ok a) f g e h = ap (λ x. x >>= f) e ∙ h a refl
bind_same o (refused n p) f g e h = ap (λ x. x >>= f) e

-- more fuel than records changes nothing
pub enough : (s : List ℕ) (k j at n : ℕ) → n ≤ k → n ≤ j → read_forest k s at n ≡ read_forest j s at n
unfolding read_forest
enough s zero zero at n h i = refl
enough s zero (suc j) at zero h i = refl
enough s zero (suc j) at (suc n) h i = absurd (omega arith)
enough s (suc k) zero at zero h i = refl
enough s (suc k) zero at (suc n) h i = absurd (omega arith)
enough s (suc k) (suc j) at zero h i = refl
enough s (suc k) (suc j) at (suc n) h i =
    forest_step s at n k
    ∙ bind_same (entry_at s at n) (entry_at s at n) (firstly k s at n) (firstly j s at n) refl (λ r e. go (enough s k j) r (entered s at n e))
    ∙ sym (forest_step s at n j)
  where
    go : ((a m : ℕ) → m ≤ k → m ≤ j → read_forest k s a m ≡ read_forest j s a m) → (r : Record) → Entered s at n r → firstly k s at n r ≡ firstly j s at n r
    go again r t =
        let low = t.inside in
        bind_same (read_forest k s r.next (field r 1)) (read_forest j s r.next (field r 1)) _ _ (again r.next (field r 1) (omega arith) (omega arith)) (λ p _.
        bind_same (read_forest k s p.next (n - field r 1)) (read_forest j s p.next (n - field r 1)) _ _ (again p.next (n - field r 1) (omega arith) (omega arith)) (λ q _. refl))

-- WHAT WAS READ, as the records lie: the words of the entries, their places, and the place behind them
pub record Run : Type 0 where
  pub words : List ℕ
  pub places : List ℕ
  pub next : ℕ

abbrev pub after : List ℕ → List ℕ → Run → Run
after ws ps q = record { words = ws ++ q.words; places = ps ++ q.places; next = q.next }

abbrev pub past : List ℕ → List ℕ → Out Run → Out Run
past ws ps o = o >>= λ q. ok (after ws ps q)

unfoldable pub follow : List ℕ → ℕ → List ℕ → Out Run
follow s at [] = ok (record { words = []; places = []; next = at })
follow s at (n ∷ ns) = read_forest n s at n >>= λ p. past (forest_words p.forest) p.places (follow s p.next ns)

abbrev pub row_of : Record → List ℕ
row_of r = r.kind ∷ field r 0 ∷ field r 1 ∷ []

pub past_none : (o : Out Run) → past [] [] o ≡ o
past_none (ok q) = refl
past_none (refused n p) = refl

pub past_past : (us vs ps qs : List ℕ) (o : Out Run) → past us ps (past vs qs o) ≡ past (us ++ vs) (ps ++ qs) o
past_past us vs ps qs (ok q) = let a = append_assoc us vs q.words in let b = append_assoc ps qs q.places in λ i. ok (record { words = sym a i; places = sym b i; next = q.next })
past_past us vs ps qs (refused n p) = refl

pub follow_done : (s : List ℕ) (at : ℕ) (ns : List ℕ) → follow s at (0 ∷ ns) ≡ follow s at ns
unfolding follow read_forest forest_words
follow_done s at ns = past_none (follow s at ns)

-- the words of a forest by its first record
part_words : (s : List ℕ) (at n : ℕ) (r : Record) → Entered s at n r → (i t : Part) → size i.forest ≡ field r 1
    → (b : Bool) → eqb r.kind forest·text ≡ b → forest_words (part_by b at r i t).forest ≡ row_of r ++ (forest_words i.forest ++ forest_words t.forest)
unfolding forest_words
part_words s at n r e i t z true h =
    let none : field r 1 ≡ 0 = e.bare h in
    let empty : i.forest ≡ end = size_none i.forest (z ∙ none) in
    rw (empty, none, eqb-true r.kind forest·text h) refl
part_words s at n r e i t z false h =
    let k : r.kind ≡ forest·label = eqb-true r.kind forest·label (other (eqb r.kind forest·text) h e.kinds) in
    rw (k, z) refl
  where
    other : (b : Bool) → b ≡ false → b || eqb r.kind forest·label ≡ true → eqb r.kind forest·label ≡ true
    other true q k = never (sym q)
    other false q k = k

abbrev onward : List ℕ → List ℕ → Part → Out Run
onward s ns p = past (forest_words p.forest) p.places (follow s p.next ns)

module _ (s : List ℕ) (at n : ℕ) (ns : List ℕ) (r : Record) (e : Entered s at n r) where
  abbrev pt : Part → Part → Part
  pt i t = part_by (eqb r.kind forest·text) at r i t

  behind : (i : Part) → size i.forest ≡ field r 1 → (o : Out Part)
      → past (row_of r) (at ∷ []) (past (forest_words i.forest) i.places (o >>= onward s ns)) ≡ ((o >>= λ t. ok (pt i t)) >>= onward s ns)
  behind i z (refused k p) = refl
  behind i z (ok t) =
      let F = follow s t.next ns in
      ap (past (row_of r) (at ∷ [])) (past_past (forest_words i.forest) (forest_words t.forest) i.places t.places F)
      ∙ past_past (row_of r) (forest_words i.forest ++ forest_words t.forest) (at ∷ []) (i.places ++ t.places) F
      ∙ ap (λ ws. past ws (at ∷ (i.places ++ t.places)) F) (sym (part_words s at n r e i t z (eqb r.kind forest·text) refl))

  first_follows : past (row_of r) (at ∷ []) (follow s r.next (field r 1 ∷ (n - field r 1) ∷ ns)) ≡ (firstly n s at n r >>= onward s ns)
  unfolding follow
  first_follows =
      let low = e.inside in
      go (read_forest (field r 1) s r.next (field r 1)) refl
      ∙ ap (λ o. (o >>= λ i. read_forest n s i.next (n - field r 1) >>= λ t. ok (pt i t)) >>= onward s ns) (enough s (field r 1) n r.next (field r 1) (omega arith) (omega arith))
    where
      go : (o : Out Part) → read_forest (field r 1) s r.next (field r 1) ≡ o
          → past (row_of r) (at ∷ []) (o >>= λ i. past (forest_words i.forest) i.places (read_forest (n - field r 1) s i.next (n - field r 1) >>= onward s ns))
          ≡ ((o >>= λ i. read_forest n s i.next (n - field r 1) >>= λ t. ok (pt i t)) >>= onward s ns)
      go (refused k p) q = refl
      go (ok i) q =
          let low = e.inside in
          let z = of_ok (forest_ends s (field r 1) r.next (field r 1) (omega arith)) q in
          behind i z.entries (read_forest (n - field r 1) s i.next (n - field r 1))
          ∙ ap (λ o. (o >>= λ t. ok (pt i t)) >>= onward s ns) (enough s (n - field r 1) n i.next (n - field r 1) (omega arith) (omega arith))

pub follow_step : (s : List ℕ) (at n : ℕ) (ns : List ℕ) → follow s at (suc n ∷ ns) ≡ (entry_at s at n >>= λ r. past (row_of r) (at ∷ []) (follow s r.next (field r 1 ∷ (n - field r 1) ∷ ns)))
unfolding follow
follow_step s at n ns =
    ap (λ o. o >>= onward s ns) (forest_step s at n n)
    ∙ sym (by_value (entry_at s at n) _ (firstly n s at n) (onward s ns) (λ r q. first_follows s at n ns r (entered s at n q)))

-- one forest alone
pub follow_one : (s : List ℕ) (at n : ℕ) → follow s at (n ∷ []) ≡ (read_forest n s at n >>= λ p. ok (record { words = forest_words p.forest; places = p.places; next = p.next }))
unfolding follow
follow_one s at n = go (read_forest n s at n)
  where
    go : (o : Out Part) → (o >>= onward s []) ≡ (o >>= λ p. ok (record { words = forest_words p.forest; places = p.places; next = p.next }))
    go (ok p) = λ i. ok (record { words = append-nil (forest_words p.forest) i; places = append-nil p.places i; next = p.next })
    go (refused k q) = refl
