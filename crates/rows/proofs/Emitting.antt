-- One node more: written while there is room, and counted.
-- Assumes nothing.
use mathlib.Core.Path.{◌≡◌, ap, ◌∙◌}
use mathlib.Core.List.{List, [], ◌∷◌}
use Prim.Native.Nat.{ℕ, suc, ◌+◌, ◌*◌, ◌≤◌, ◌<◌}
use native.Mathlib.Omega.{arith}
use lib.ListN.{length}
use Rattle.meaning.specs.Base.{code_width}
use Rattle.meaning.specs.Records.{Node, node}
use Rattle.words.specs.Tables.{stored, code_of}
use Rattle.words.proofs.Tables.{code_put}
use Rattle.rows.specs.Says.{Emits}

pub emits_row : {nodes n : ℕ} {code u : List ℕ} (k a b c : ℕ) → 4096 ≤ length code → nodes < 1024 → n ≡ nodes → u ≡ stored code (code_width * n) (k ∷ a ∷ b ∷ c ∷ []) → Emits nodes (node k a b c) code (nodes + 1) u
emits_row {nodes} {n} {code} {u} k a b c long h q e =
    record {
      count = omega (arith, h);
      row = λ _. ap (λ (w : List ℕ). code_of w (suc nodes)) (e ∙ ap (λ (i : ℕ). stored code (code_width * i) (k ∷ a ∷ b ∷ c ∷ [])) q) ∙ code_put code nodes k a b c (omega (arith, long, h));
    }

pub emits_none : {nodes : ℕ} {code : List ℕ} {x : Node} → 1024 ≤ nodes → Emits nodes x code 1025 code
emits_none h = record { count = omega (arith, h); row = λ l. absurd (omega (arith, h, l)) }
