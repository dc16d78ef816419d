-- What the evaluator is given in the work table behind the values, and what it leaves there.
-- Assumes nothing.
use mathlib.Core.Path.{◌≡◌, sym, ap, ◌∙◌, subst}
use mathlib.Core.List.{List, ◌++◌, append_assoc}
use Prim.Native.Nat.{ℕ, ◌+◌, ◌*◌, ◌-◌, ◌/◌, ◌≤◌}
use native.Mathlib.Omega.{arith}
use lib.ListN.{length, take, drop, length-append}
use lib.Seq.{take_at, drop_at, length-take-le}
use Rattle.meaning.specs.Base.{Out, zeros, padded, work_capacity}
use Rattle.meaning.specs.Forests.{Forest, forest_words}
use Rattle.meaning.specs.Records.{Node, Var}
use Rattle.meaning.specs.Queries.{query_at}
use Rattle.meaning.specs.Values.{Value, joined}
use Rattle.meaning.specs.Running.{eval, env_of}
use Rattle.words.specs.Tables.{stored}
use Rattle.words.proofs.Rows.{zeros_length, padded_most}
use Rattle.values.specs.declared.Loaded.{Loaded}
use Rattle.spans.specs.declared.Spans.{Spans}
use Rattle.spans.proofs.Binding.{shows_below}
use Rattle.copies.specs.Fills.{Made, Filled}
use Rattle.copies.proofs.Lent.{zeros_append}
use Rattle.copies.proofs.Filling.{filled_words}
use Rattle.values.specs.Says.{ends_of}
use Rattle.values.proofs.Scanning.{ends_length}
use Rattle.running.specs.Evaluates as Evaluates
use Rattle.ran.specs.Says as Says
use Rattle.ran.specs.Says.{Loads, Spread, Ready, Begins, Evaluated}
use Rattle.ran.proofs.Spreading.{loads_length, loads_count}

-- the words held for the variables are those of the values
held_front : (held work : List ℕ) (n : ℕ) → n ≤ length work → take n (stored held 0 (take n work)) ≡ take n work
unfolding stored
held_front held work n h = take_at (take n work) (drop (0 + length (take n work)) held) n (length-take-le n work h)

-- zeros are parts of zeros
zeros_part : (a b : ℕ) → a ≤ b → (take a (zeros b) ≡ zeros a) × (drop a (zeros b) ≡ zeros (b - a))
zeros_part a b h =
    let n : a + (b - a) ≡ b = omega arith in
    let e : zeros b ≡ zeros a ++ zeros (b - a) = ap zeros (sym n) ∙ sym (zeros_append a (b - a)) in
    (ap (take a) e ∙ take_at (zeros a) (zeros (b - a)) a (zeros_length a), ap (drop a) e ∙ drop_at (zeros a) (zeros (b - a)) a (zeros_length a))

-- THE WORK TABLE after loading: the values' words, and zeros
module _ {vars : List (ℕ × Var)} {ends : List ℕ} {count : ℕ} {work : List ℕ} {vs : List Value} (h : Loads vars ends count work vs) where
  front_is : take (3 * count) work ≡ forest_words (joined vs)
  front_is = ap (take (3 * count)) h.laid ∙ take_at (forest_words (joined vs)) (zeros (length work - length (forest_words (joined vs)))) (3 * count) (loads_length h)

  behind_is : drop (3 * count) work ≡ zeros (length work - 3 * count)
  behind_is = ap (drop (3 * count)) h.laid ∙ drop_at (forest_words (joined vs)) (zeros (length work - length (forest_words (joined vs)))) (3 * count) (loads_length h) ∙ ap (λ (n : ℕ). zeros (length work - n)) (loads_length h)

  module _ (room : ℕ) (q : room ≡ work_capacity (length work)) where
    within : (3 * count ≤ 3 * room) × (3 * room ≤ length work) × (room ≤ 8192)
    within = (omega (arith, h.fits), omega (arith, q), omega (arith, q))

    -- the part that is lent on
    rest : List ℕ
    rest = take (3 * room - 3 * count) (drop (3 * count) work)

    parts : (rest ≡ zeros (3 * room - 3 * count)) × (drop (3 * room - 3 * count) (drop (3 * count) work) ≡ zeros (length work - 3 * count - (3 * room - 3 * count)))
    unfolding rest
    parts =
        let z = zeros_part (3 * room - 3 * count) (length work - 3 * count) (omega (arith, within.0, within.1)) in
        (ap (take (3 * room - 3 * count)) behind_is ∙ z.0, ap (drop (3 * room - 3 * count)) behind_is ∙ z.1)

    rest_length : length rest ≡ 3 * room - 3 * count
    rest_length = ap length parts.0 ∙ zeros_length (3 * room - 3 * count)

    -- WHAT THE EVALUATOR IS GIVEN
    module _ (held : List ℕ) {after : List ℕ} {scope : Spans} (spread : Spread vars ends scope) (e : after ≡ stored held 0 (take (3 * count) work)) (long : length after ≡ 24576) where
      begins : Evaluates.Begins scope after rest count
      begins =
          let s = spread.is count work vs h in
          record {
            blank = parts.0 ∙ ap zeros (sym rest_length);
            whole = omega (arith, rest_length);
            few = omega (arith, rest_length, within.0, within.2);
            room = omega (arith, rest_length, within.0, within.2, long);
            inside = s.0;
            env = env_of vs;
            shows = shows_below s.0 (ap (take (3 * count)) e ∙ held_front held work (3 * count) (omega (arith, within.0, within.1))) s.1;
          }

    -- WHAT IT LEAVES: the whole of the work table
    laid_whole : {us : List ℕ} {k : ℕ} {f : Forest} → Filled (length rest) us k f → take (3 * count) work ++ (us ++ drop (3 * room - 3 * count) (drop (3 * count) work)) ≡ padded (length work) (forest_words (joined vs) ++ forest_words f)
    laid_whole {us} {k} {f} x =
        let a = length rest - 3 * k in
        let b = length work - 3 * count - (3 * room - 3 * count) in
        let n : a + b ≡ length work - length (forest_words (joined vs) ++ forest_words f) = omega (arith, length-append (forest_words (joined vs)) (forest_words f), loads_length h, filled_words x, rest_length, within.0, within.1, x.fits) in
        ap (λ (l : List ℕ). l ++ (us ++ drop (3 * room - 3 * count) (drop (3 * count) work))) front_is
        ∙ ap (λ (l : List ℕ). forest_words (joined vs) ++ (l ++ drop (3 * room - 3 * count) (drop (3 * count) work))) x.laid
        ∙ ap (λ (l : List ℕ). forest_words (joined vs) ++ ((forest_words f ++ zeros a) ++ l)) parts.1
        ∙ ap (forest_words (joined vs) ++◌) (append_assoc (forest_words f) (zeros a) (zeros b) ∙ ap (forest_words f ++◌) (zeros_append a b ∙ ap zeros n))
        ∙ sym (append_assoc (forest_words (joined vs)) (forest_words f) (zeros (length work - length (forest_words (joined vs) ++ forest_words f))))

    left_whole : {us : List ℕ} {made : Made} {o : Out Forest} → Evaluates.Left (length rest) us made o → Evaluated (length work) (take (3 * count) work ++ (us ++ drop (3 * room - 3 * count) (drop (3 * count) work))) (joined vs) made o
    left_whole (Evaluates.done x) = Says.done x.count (laid_whole x)
    left_whole Evaluates.full = Says.full

    evaluated : (held : List ℕ) {after : List ℕ} {scope : Spans} {us : List ℕ} {made : Made} (spread : Spread vars ends scope) (e : after ≡ stored held 0 (take (3 * count) work)) (long : length after ≡ 24576) (C : List Node)
        → Evaluates.Evaluated scope after (length rest) us count made (query_at C (length C - 1))
        → Evaluated (length work) (take (3 * count) work ++ (us ++ drop (3 * room - 3 * count) (drop (3 * count) work))) (joined vs) made (eval (work_capacity (length work)) (query_at C (length C - 1)) (env_of vs) count)
    unfolding begins
    evaluated held {us = us} {made} spread e long C x =
        let top : count + length rest / 3 ≡ work_capacity (length work) = omega (arith, rest_length, within.0, q) in
        let b = begins held spread e long in
        left_whole (subst (λ (t : ℕ). Evaluates.Left (length rest) us made (eval t (query_at C (length C - 1)) (env_of vs) count)) top (x.is (env_of vs) b.shows))

-- THE EVALUATION behind values that were loaded
module _ {C : List Node} {V : List (ℕ × Var)} {l : Loaded} {work : List ℕ} (ready : Ready C V) (b : Begins V l work) where
  pub loaded_within : (3 * l.entries ≤ length work) × (3 * l.entries ≤ 24576) × (length V ≤ length l.ends)
  loaded_within =
      let h = b.loads in
      (omega (arith, h.fits), omega (arith, h.fits), omega (arith, ap length h.ends_are, padded_most 16 (ends_of b.values), ends_length 0 b.values, loads_count h))

  module _ (held : List ℕ) {after : List ℕ} {scope : Spans} (spread : Spread V l.ends scope) (e : after ≡ stored held 0 (take (3 * l.entries) work)) (long : length after ≡ 24576) (room : ℕ) (q : room ≡ work_capacity (length work)) where
    pub eval_ready : Evaluates.Ready C scope after (take (3 * room - 3 * l.entries) (drop (3 * l.entries) work)) l.entries (length C - 1)
    unfolding rest
    eval_ready = record { lowers = ready.lowers; low = omega (arith, ready.rooted); begins = begins b.loads room q held spread e long }

    pub eval_leaves : {us : List ℕ} {made : Made} → Evaluates.Evaluated scope after (length (take (3 * room - 3 * l.entries) (drop (3 * l.entries) work))) us l.entries made (query_at C (length C - 1))
        → Says.Evaluates C V l work (take (3 * l.entries) work ++ (us ++ drop (3 * room - 3 * l.entries) (drop (3 * l.entries) work))) made
    unfolding rest
    eval_leaves x = record { is = λ vs h. evaluated h room q held spread e long C x }
