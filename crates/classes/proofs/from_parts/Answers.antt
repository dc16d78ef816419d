-- `classes::from_parts` meets its contract: one law for each kind.
-- Assumes nothing.
use mathlib.Core.Logic.{inl, inr}
use Rattle.classes.proofs.Laws.{from_empty, from_string, from_element, from_name, from_pair, from_union, from_star, from_plus, from_opt}
use Rattle.classes.proofs.from_parts.Goals as goal

pub returns-in-Text : goal.returns-in-Text
returns-in-Text c = elim c.in-Text.is [ inl p ↦ rw p from_string | inr p ↦ rw p.2 from_element ]

pub returns-in-Pair : goal.returns-in-Pair
returns-in-Pair c = rw c.in-Pair.is (from_pair c.class_in.ensures c.class_in-in-Pair.ensures c.comma.ensures)

pub returns-in-Union : goal.returns-in-Union
returns-in-Union c = rw c.in-Union.is (from_union c.class_in-in-Union.ensures c.class_in-in-Union-2.ensures c.either.ensures)

pub returns-in-Star : goal.returns-in-Star
returns-in-Star c = rw c.in-Star.is (from_star c.class_in-in-Star.ensures c.either-in-Star.ensures)

pub returns-in-Plus : goal.returns-in-Plus
returns-in-Plus c = rw c.in-Plus.is (from_plus c.class_in-in-Plus.ensures c.either-in-Plus.ensures)

pub returns-in-Opt : goal.returns-in-Opt
returns-in-Opt c = rw c.in-Opt.is (from_opt c.class_in-in-Opt.ensures c.either-in-Opt.ensures)

pub returns-in-Empty : goal.returns-in-Empty
returns-in-Empty c = elim c.in-Empty.is [ inl p ↦ rw p from_empty | inr p ↦ rw p.1 (from_name _) ]
