-- Pieces laid one behind the other: what comes behind those that have been laid.
-- Assumes nothing.
use mathlib.Core.Path.{◌≡◌, refl, ap, subst, ◌∙◌}
use mathlib.Core.Bool.{Bool, true, false, ◌||◌}
use mathlib.Core.List.{List, [], ◌∷◌, ◌++◌, append_assoc, append-nil}
use Prim.Native.Nat.{ℕ, ◌≤◌}
use native.Mathlib.Omega.{arith}
use lib.ListN.{length, length-append}
use Rattle.std.specs.Prelude as Std
use Rattle.meaning.specs.Written.{Piece, piece_bytes, is_wide, between, laid}
use Rattle.spelling.specs.Says.{Spells}
use Rattle.written.specs.Says.{spaced}
use Rattle.spelling.proofs.Spelling.{spells_then, piece_short}

-- what pieces add behind the last one
unfoldable pub onward : Std.Option Bool → List Piece → List ℕ
onward last [] = []
onward last (p ∷ ps) = (between (spaced last p) ++ piece_bytes p) ++ onward (Std.Some (is_wide p)) ps

laid_first : (p : Piece) (ps : List Piece) → piece_bytes p ++ onward (Std.Some (is_wide p)) ps ≡ laid (p ∷ ps)
unfolding onward laid
laid_first p [] = append-nil (piece_bytes p)
laid_first p (q ∷ ps) =
    ap (λ (x : List ℕ). piece_bytes p ++ x) (append_assoc (between (is_wide p || is_wide q)) (piece_bytes q) (onward (Std.Some (is_wide q)) ps) ∙ ap (λ (x : List ℕ). between (is_wide p || is_wide q) ++ x) (laid_first q ps))

pub laid_onward : (ps : List Piece) → onward Std.None ps ≡ laid ps
unfolding onward laid
laid_onward [] = refl
laid_onward (p ∷ ps) = laid_first p ps

-- IN THE BUFFER: a space or none
between_short : (b : Bool) → length (between b) ≤ 1
between_short true = omega arith
between_short false = omega arith

pub next_room : {at r : ℕ} (b : Bool) {t u : List ℕ} → at ≤ 65536 → Spells at r (between b) t u → r ≤ 1048576
next_room b h x = omega (arith, x.next, between_short b)

-- and the piece
pub next_put : {at n r : ℕ} (last : Std.Option Bool) {b : Bool} (k v : ℕ) {t u w : List ℕ} → b ≡ spaced last (k, v) → Spells at n (between b) t u → Spells n r (piece_bytes (k, v)) u w
    → Spells at r (between (spaced last (k, v)) ++ piece_bytes (k, v)) t w
next_put {at} {n} last k v {t} {u} e x y = spells_then (subst (λ (c : Bool). Spells at n (between c) t u) e x) y

-- no more than seven bytes
pub next_short : (b : Bool) (k v : ℕ) → length (between b ++ piece_bytes (k, v)) ≤ 7
next_short b k v = omega (arith, length-append (between b) (piece_bytes (k, v)), between_short b, piece_short k v)
