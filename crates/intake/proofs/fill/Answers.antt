-- `intake::fill` meets its contract: what one read more takes stands behind what was read before.
-- Assumes nothing.
use Rattle.std.proofs.Common.{◌≡◌, ℕ, List, ◌≤◌, ◌+◌, ◌-◌, ◌++◌, length, take, subst, arith}
use Rattle.std.proofs.lemmas.Grind.{common_steps}
use Rattle.std.proofs.Math.Seq.{take-add}
use Rattle.std.specs.Io.KnownBytes.{Consumes}
use Rattle.std.proofs.KnownBytes.{Consumes-trans}
use borrow.Rule.Slice.PartMut.{put_mid}
use Rattle.intake.proofs.fill.Goals as goal

-- what is read behind what was read before
behind : (a n k : ℕ) (xs ys : List ℕ) → a ≤ length xs → n ≤ length ys → take a xs ++ take n ys ≡ take (a + n) (put_mid a k xs ys)
behind a n k xs ys h l = grind (arith, common_steps, take-add)

within : (a n k : ℕ) (xs ys : List ℕ) → a ≤ length xs → n ≤ length ys → a + n ≤ length (put_mid a k xs ys)
within a n k xs ys h l = grind (arith, common_steps)

pub loop-at-preserved : goal.loop-at-preserved
loop-at-preserved g c =
    let room : List ℕ = c.loop-at.room in
    let at : ℕ = c.loop-at.at in (
      within at c.in-Ok.bytes (length room - at) room c.read.new.buf c.loop-at.invariant.0 c.in-Ok.ensures.bound.0,
      subst
          (Consumes (g.R.Read.remaining c.args.input.now) (g.R.Read.remaining c.read.new.self))
          (behind at c.in-Ok.bytes (length room - at) room c.read.new.buf c.loop-at.invariant.0 c.in-Ok.ensures.bound.0)
          (Consumes-trans _ _ _ _ _ c.loop-at.invariant.1 c.in-Ok.ensures.bytes.0),
    )
