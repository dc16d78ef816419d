-- Where an item is to be read: a refusal, an item of one node, a frame that opens, and what is left of the definition further on in the text.
-- Assumes nothing.
use mathlib.Core.Path.{◌≡◌, refl, sym, ap, subst, ◌∙◌}
use mathlib.Core.List.{List, [], ◌∷◌, ◌++◌, append-nil}
use Prim.Native.Nat.{ℕ, zero, suc, ◌+◌, ◌≤◌, ◌<◌, min}
use native.Mathlib.Omega.{arith}
use lib.ListN.{length}
use Rattle.meaning.specs.Base.{ok, refused, ◌>>=◌}
use Rattle.meaning.specs.Records.{Node}
use Rattle.meaning.specs.Queries.{Query}
use Rattle.meaning.specs.Texts.{Here, here, Read, query_at, query_no, query_nodes}
use Rattle.words.specs.Tables.{code_of}
use Rattle.std.specs.Prelude as Std
use Rattle.refusals.specs.declared.Refusal.{Refusal}
use Rattle.refusals.specs.Says.{number_of}
use Rattle.items.specs.declared.Open.{Open}
use Rattle.items.specs.declared.Act.{Act}
use Rattle.items.specs.Machine.{Frame, cont, held, rows_of, depth, pairs, Stands, flat, Deep, Shown, many}
use Rattle.items.specs.Says as Says
use Rattle.items.specs.Says.{Well, Stops, Made, Wants, Acts, Emitted, Does}
use Rattle.items.proofs.Frames.{well_later, well_on}

-- ONE NODE MORE, behind so many
row_is : {next nodes : ℕ} {code u : List ℕ} {x : Node} {r : Act} → Emitted nodes x next code r u → (n : ℕ) → min n 1025 ≡ nodes → n < 1024 → code_of u (suc n) ≡ code_of code n ++ (x ∷ [])
row_is {nodes = nodes} e n count l = let z : nodes ≡ n = omega (arith, count) in rw z at (e.row (omega (arith, z)))

pub emitted_acts : {s : List ℕ} {from next nodes : ℕ} {under : List Frame} {code u : List ℕ} {x : Node} {r : Act} → Emitted nodes x next code r u → (n : ℕ) → min n 1025 ≡ nodes → {o : Read Query} (q : Query) → o ≡ ok (q, here next (suc n)) → from ≤ next → next ≤ length s
    → Well s next under n → query_no q ≡ n → (n < 1024 → code_of code n ++ (x ∷ []) ≡ rows_of under ++ query_nodes q) → Acts s from n under u o (Std.Ok r)
emitted_acts {s} {from} {next} {under = under} {u = u} e n count {o} q p a b w own rows =
    subst (λ (a : Act). Acts s from n under u o (Std.Ok a)) (sym e.answer)
    (Says.makes q (here next (suc n)) p a (omega arith) (record { place = refl; inside = b; count = omega (arith, count) }) (well_later w (omega arith) (omega arith))
    (record { few = omega (arith, w.few); rows = λ l. (ap suc own, row_is e n count (omega (arith, l)) ∙ rows (omega (arith, l))) }))

-- there were fewer nodes
pub acts_fewer : {s : List ℕ} {at n m : ℕ} {under : List Frame} {code : List ℕ} {o : Read Query} {r : Std.Result Act Refusal} → m ≤ n → Acts s at n under code o r → Acts s at m under code o r
acts_fewer l (Says.refuses e) = Says.refuses e
acts_fewer l (Says.makes q h e a b c d f) = Says.makes q h e a (omega (arith, b)) c d f
acts_fewer l (Says.opens f k h e a o b c d g i j x) = Says.opens f k h e a o b (omega (arith, c)) d g i j x
acts_fewer l (Says.again k ms h e a b c d f) = Says.again k ms h e a (omega (arith, b)) c d f

-- REFUSED, whatever is open
pub refused_does : {gap : ℕ} {s : List ℕ} {at deep nodes : ℕ} {x : Refusal} {code u : List ℕ} (o : ℕ → Here → Read Query) → ((k : ℕ) (h : Here) → h.at ≡ at → o k h ≡ refused (number_of x.reason) x.place) → Does gap s at deep nodes code o (Std.Err x) u
refused_does o f = record { is = λ from under k h g w. Says.refuses (f k h w.stops.place) }

-- AN ITEM of one node
pub leaf_does : {gap : ℕ} {s : List ℕ} {at deep nodes next : ℕ} {code u : List ℕ} {x : Node} {r : Act} (o : ℕ → Here → Read Query) (q : ℕ → Query) → Emitted nodes x next code r u → ((k : ℕ) (h : Here) → h.at ≡ at → o k h ≡ ok (q h.nodes, here next (suc h.nodes)))
    → at ≤ next → next ≤ length s → ((n : ℕ) → query_no (q n) ≡ n) → ((n : ℕ) → query_nodes (q n) ≡ x ∷ []) → Does gap s at deep nodes code o (Std.Ok r) u
leaf_does {code = code} {x = x} o q e f a b own rows =
    record {
      is = λ from under k h g w.
          emitted_acts e h.nodes w.stops.count (q h.nodes) (f k h w.stops.place) (omega (arith, g, a)) b (well_later w.well a (omega arith)) (own h.nodes)
          (λ l. ap (λ (y : List Node). y ++ (x ∷ [])) (w.rows (omega (arith, l))) ∙ ap (λ (y : List Node). rows_of under ++ y) (sym (rows h.nodes)));
    }

-- A FRAME OPENS: it keeps nothing, and opens one more
pub opens_acts : {s : List ℕ} {from at deep to nodes next : ℕ} {x : Open} {code : List ℕ} {under : List Frame} {k : ℕ} {h : Here} {o : Read Query} (f : Frame) (m : ℕ) → to ≡ suc deep → Wants s at deep nodes code under k h
    → o ≡ (query_at s (suc m) (many f) (suc deep) (here next h.nodes) >>= λ p. cont s f p) → Shown h.nodes f x → from < next → at ≤ next → next ≤ length s → length s ≤ m + next → deep < 100
    → depth (f ∷ under) ≡ suc (depth under) → pairs (f ∷ under) ≡ pairs under → Stands f under → flat f → Deep s next f → held f ≡ [] → Acts s from h.nodes under code o (Std.Ok (Act.More x to (record { next = next; nodes = nodes })))
unfolding rows_of
opens_acts {next = next} {under = under} {h = h} f m z w p shown a b c fuel low d q stands plain deep none =
    rw z
    (Says.opens f m (here next h.nodes) p shown plain a (omega arith) fuel (record { place = refl; inside = c; count = w.stops.count }) (ap suc w.open_are ∙ sym d)
    (well_on f (well_later w.well b (omega arith)) deep stands (omega (arith, d, w.open_are)) (omega (arith, q, w.well.few)) (omega (arith, q, w.well.most)))
    (λ l. w.rows l ∙ sym (append-nil (rows_of under)) ∙ ap (λ (y : List Node). rows_of under ++ y) (sym none)))

-- FURTHER ON in the text
pub wants_later : {s : List ℕ} {at next deep nodes : ℕ} {code : List ℕ} {under : List Frame} {k m : ℕ} {h : Here} → Wants s at deep nodes code under k h → at ≤ next → next ≤ length s → length s ≤ m + next → Wants s next deep nodes code under m (here next h.nodes)
wants_later w a b fuel =
    record { open_are = w.open_are; fuel = fuel; stops = record { place = refl; inside = b; count = w.stops.count }; well = well_later w.well a (omega arith); rows = w.rows }

pub does_later : {gap : ℕ} {s : List ℕ} {at next deep nodes : ℕ} {code u : List ℕ} {r : Std.Result Act Refusal} (o p : ℕ → Here → Read Query) → Does gap s next deep nodes code p r u → at + gap ≤ next → next ≤ length s
    → ((k : ℕ) (h : Here) → h.at ≡ at → o k h ≡ p k (here next h.nodes)) → Does 0 s at deep nodes code o r u
does_later {s = s} {u = u} {r = r} o p d a b f =
    record { is = λ from under k h g w. subst (λ (x : Read Query). Acts s from h.nodes under u x r) (sym (f k h w.stops.place)) (d.is from under k (here _ h.nodes) (omega (arith, a, g)) (wants_later w (omega (arith, a)) b (omega (arith, a, w.fuel)))) }

-- and read one less deep
pub does_deeper : {gap : ℕ} {s : List ℕ} {at next deep nodes : ℕ} {code u : List ℕ} {r : Std.Result Act Refusal} (o p : ℕ → Here → Read Query) → Does gap s next deep nodes code p r u → at + gap ≤ next → at < next → next ≤ length s
    → ((k : ℕ) (h : Here) → h.at ≡ at → o (suc k) h ≡ p k (here next h.nodes)) → Does 0 s at deep nodes code o r u
does_deeper {s = s} {at} {next} {deep} {nodes} {code} {u} {r} o p d a c b f = record { is = go }
  where
    go : (from : ℕ) (under : List Frame) (k : ℕ) (h : Here) → from + 0 ≤ at → Wants s at deep nodes code under k h → Acts s from h.nodes under u (o k h) r
    go from under zero h g w = absurd (omega (arith, w.fuel, b, c))
    go from under (suc k) h g w = subst (λ (x : Read Query). Acts s from h.nodes under u x r) (sym (f k h w.stops.place)) (d.is from under k (here next h.nodes) (omega (arith, a, g)) (wants_later w (omega (arith, a)) b (omega (arith, c, w.fuel))))
