-- A condition of one node, and one step after another up to it.
-- Assumes nothing.
use mathlib.Core.Path.{◌≡◌, refl, sym, ap, subst, ◌∙◌}
use mathlib.Core.List.{List, [], ◌∷◌, ◌++◌}
use Prim.Native.Nat.{ℕ, suc, ◌≤◌, ◌<◌, min}
use native.Mathlib.Omega.{arith}
use lib.ListN.{length}
use Rattle.meaning.specs.Base.{Out, ok, ◌>>=◌}
use Rattle.meaning.specs.Records.{Node}
use Rattle.meaning.specs.Queries.{Cond}
use Rattle.meaning.specs.Texts.{Here, here, Read, one, cond_no, cond_nodes}
use Rattle.words.specs.Tables.{code_of}
use Rattle.refusals.specs.declared.Refusal.{Refusal}
use Rattle.std.specs.Prelude as Std
use Rattle.rows.specs.declared.Part.{Part}
use Rattle.steps.specs.Says.{Goes, Gives}
use Rattle.steps.specs.declared.Got.{Got}
use Rattle.conditions.specs.declared.Act.{Act}
use Rattle.conditions.specs.Frames.{Acted, refuses, done, Moves, Builds, Leaf}

-- WHERE THE TEXT GOES ON, from a lower offset on
pub moves_lower : (s : List ℕ) {low from : ℕ} (r : Std.Result Act Refusal) → low ≤ from → Moves s from r → Moves s low r
moves_lower s (Std.Ok (Act.Done p)) h m = (omega (arith, h, m.0), m.1, m.2, m.3)
moves_lower s (Std.Ok (Act.More w p)) h m = (omega (arith, h, m.0), m.1, m.2)
moves_lower s (Std.Err e) h m = tt

-- ONE NODE
module _ {at nodes : ℕ} {x : Node} {code : List ℕ} {r : Part} {u : List ℕ} (b : Builds at nodes x code r u) where
  pub built_acted : (s : List ℕ) (deep n : ℕ) (base : List Node) (g : ℕ → Cond) {o : Read Cond} → min n 1025 ≡ nodes → cond_no (g n) ≡ n
      → (n < 1024 → code_of code n ++ (x ∷ []) ≡ base ++ cond_nodes (g n)) → o ≡ ok (g n, here at (suc n)) → Acted s deep n base u o (Std.Ok (Act.Done r))
  built_acted s deep n base g {o} q c f e = done (g n) (suc n) (e ∙ ap (λ (i : ℕ). ok (g n, here i (suc n))) (sym b.next)) count last holds
    where
      count : min (suc n) 1025 ≡ r.nodes
      count = omega (arith, q, b.count)

      last : n < suc n
      last = omega arith

      row : n < 1024 → nodes ≡ n → code_of u (suc n) ≡ base ++ cond_nodes (g n)
      row h p = ap (λ (i : ℕ). code_of u (suc i)) (sym p) ∙ b.row (omega (arith, h, p)) ∙ ap (λ (i : ℕ). code_of code i ++ (x ∷ [])) p ∙ f h

      holds : suc n ≤ 1024 → (suc (cond_no (g n)) ≡ suc n) × (code_of u (suc n) ≡ base ++ cond_nodes (g n))
      holds h = (ap suc c, row (omega (arith, h)) (omega (arith, h, q)))

  pub built_moves : (s : List ℕ) → at ≤ length s → Moves s at (Std.Ok (Act.Done r))
  built_moves s h = (omega (arith, b.next), omega (arith, h, b.next), omega (arith, b.count), omega (arith, b.count))

  pub leaf_built : (s : List ℕ) (g : ℕ → Cond) → at ≤ length s → ((n : ℕ) → cond_no (g n) ≡ n) → ((n : ℕ) → cond_nodes (g n) ≡ x ∷ []) → Leaf s at at code nodes (one s g) (Std.Ok (Act.Done r)) u
  leaf_built s g h c k =
      record {
        moves = built_moves s h;
        room = λ deep l. l;
        is = λ deep n base q f. built_acted s deep n base g q (c n) (λ l. let l' : n ≤ 1024 = omega (arith, l) in ap (λ (b : List Node). b ++ (x ∷ [])) (f l') ∙ ap (λ (b : List Node). base ++ b) (sym (k n))) refl;
      }

-- A NUMBER, and then the rest
abbrev then : (ℕ → Here → Read Cond) → Read ℕ → Read Cond
then rest o = o >>= λ p. rest p.0 p.1

module _ {s : List ℕ} {at : ℕ} (e : Here → Read ℕ) (code : List ℕ) (nodes : ℕ) (rest : ℕ → Here → Read Cond) where
  pub leaf_got : {v : Got} → Gives s at (Std.Ok v) (λ n. e (here at n)) → {r : Std.Result Act Refusal} {u : List ℕ} → Leaf s v.next v.next code nodes (rest v.value) r u → Leaf s (suc at) at code nodes (λ h. then rest (e h)) r u
  leaf_got g {r} {u} l =
      record {
        moves = moves_lower s r g.onward.0 l.moves;
        room = l.room;
        is = λ deep n base q f. subst (λ (o : Read Cond). Acted s deep n base u o r) (ap (then rest) (g.is n)) (l.is deep n base q f);
      }

  pub leaf_not_got : (low : ℕ) {x : Refusal} → Gives s at (Std.Err x) (λ n. e (here at n)) → Leaf s low at code nodes (λ h. then rest (e h)) (Std.Err x) code
  leaf_not_got low g = record { moves = tt; room = λ deep h. tt; is = λ deep n base q f. refuses (sym (ap (then rest) (g.is n))) }

-- A TOKEN, and then the rest
module _ {s : List ℕ} {at : ℕ} (e : Here → Out Here) (code : List ℕ) (nodes : ℕ) (rest : Here → Read Cond) where
  pub leaf_went : {next : ℕ} → Goes s at (Std.Ok next) (λ n. e (here at n)) → {r : Std.Result Act Refusal} {u : List ℕ} → Leaf s next next code nodes rest r u → Leaf s (suc at) at code nodes (λ h. e h >>= rest) r u
  leaf_went g {r} {u} l =
      record {
        moves = moves_lower s r g.onward.0 l.moves;
        room = l.room;
        is = λ deep n base q f. subst (λ (o : Read Cond). Acted s deep n base u o r) (ap (λ (o : Out Here). o >>= rest) (g.is n)) (l.is deep n base q f);
      }

  pub leaf_not_went : (low : ℕ) {x : Refusal} → Goes s at (Std.Err x) (λ n. e (here at n)) → Leaf s low at code nodes (λ h. e h >>= rest) (Std.Err x) code
  leaf_not_went low g = record { moves = tt; room = λ deep h. tt; is = λ deep n base q f. refuses (sym (ap (λ (o : Out Here). o >>= rest) (g.is n))) }

-- from a lower offset on
pub leaf_lower : {s : List ℕ} {low from at nodes : ℕ} {code : List ℕ} {o : Here → Read Cond} {r : Std.Result Act Refusal} {u : List ℕ} → low ≤ from → Leaf s from at code nodes o r u → Leaf s low at code nodes o r u
leaf_lower {r = r} h l = record { moves = moves_lower _ r h l.moves; room = l.room; is = l.is }
