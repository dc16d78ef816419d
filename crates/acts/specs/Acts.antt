-- What the rules prime, content and filter do at one entry: the clauses of `meaning`, an entry at a time.
-- Assumes nothing.
use Rattle.std.specs.Prelude.{cond, ℕ, get_or}
use Rattle.meaning.specs.Forests.{text, label, passes}
use Rattle.meaning.specs.Types.{Entry, Defs, empty, string, element, pair, union, star, plus, opt, name}
use Rattle.meaning.specs.Shapes.{Shape}
use Rattle.meaning.specs.Rules.{Rule, prime, content, sift}
use Rattle.acts.specs.declared.Mode.{Mode}
use Rattle.acts.specs.declared.Act.{Act}

-- the rule of `meaning`, for query node n in a table of so many entries
abbrev pub does : Mode → ℕ → ℕ → Shape → Rule ℕ
does Mode.Prime room node s = prime room node s
does Mode.Content room node s = content room node s
does (Mode.Sift w) room node s = sift room node w s

-- WHAT IT DOES at entry e, which is x. "prime: atoms and () are themselves; pair and union do both sides and append a union; star, plus, opt do the
-- child; a name its definition"
unfoldable pub prime_of : Defs → ℕ → Entry → Act
prime_of D e empty = Act.Answer e
prime_of D e string = Act.Answer e
prime_of D e (element l c) = Act.Answer e
prime_of D e (pair a b) = Act.First 5 a
prime_of D e (union a b) = Act.First 5 a
prime_of D e (star a) = Act.Into a
prime_of D e (plus a) = Act.Into a
prime_of D e (opt a) = Act.Into a
prime_of D e (name d) = Act.Into (get_or D d 0)

-- "content: union does both sides and appends a union; element answers its child; others 0"
unfoldable pub content_of : Entry → Act
content_of empty = Act.Answer 0
content_of string = Act.Answer 0
content_of (element l c) = Act.Answer c
content_of (pair a b) = Act.Answer 0
content_of (union a b) = Act.First 5 a
content_of (star a) = Act.Answer 0
content_of (plus a) = Act.Answer 0
content_of (opt a) = Act.Answer 0
content_of (name d) = Act.Answer 0

-- "() is itself, an atom that passes is itself, one that doesn't is 0; pair, union, star, plus, opt do their parts and append their kind anew, always; a
-- name does its definition"
unfoldable pub sift_of : ℕ → Defs → ℕ → Entry → Act
sift_of w D e empty = Act.Answer e
sift_of w D e string = Act.Answer (cond (passes w text) e 0)
sift_of w D e (element l c) = Act.Answer (cond (passes w (label l)) e 0)
sift_of w D e (pair a b) = Act.First 4 a
sift_of w D e (union a b) = Act.First 5 a
sift_of w D e (star a) = Act.First 6 a
sift_of w D e (plus a) = Act.First 7 a
sift_of w D e (opt a) = Act.First 8 a
sift_of w D e (name d) = Act.Into (get_or D d 0)

unfoldable pub act_of : Mode → Defs → ℕ → Entry → Act
act_of Mode.Prime D e x = prime_of D e x
act_of Mode.Content D e x = content_of x
act_of (Mode.Sift w) D e x = sift_of w D e x
