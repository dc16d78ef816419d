-- The measure of the calls of `truths::truth`: parts have lower nodes. Assumes nothing.
use Rattle.truths.proofs.+truth.Given as goal

abbrev pub decreases-truth : goal.decreases-truth
decreases-truth l = l.n
