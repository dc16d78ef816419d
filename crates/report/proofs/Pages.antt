-- What is written out, and what still stands on the page: nothing yet, one line more, and the whole.
-- Assumes nothing.
use Rattle.std.proofs.Common.{◌≡◌, ℕ, suc, ◌+◌, ◌-◌, ◌*◌, ◌/◌, min, ◌≤◌, List, [], ◌++◌, Option, length, get_or, append_assoc, refl, sym, ap, subst, ◌∙◌, arith}
use Rattle.std.specs.Io.KnownBytes.{Appends}
use Rattle.std.proofs.KnownBytes.{Appends-nil, Appends-trans}
use Rattle.meaning.specs.Base.{type_width}
use Rattle.report.specs.Text.{entry_line, entry_lines, stretch_lines}
use Rattle.report.specs.Pages.{Printed}

pub none_printed : (contents : Option (List ℕ)) (table : List ℕ) (first n : ℕ) → n ≡ 0 → Printed contents contents [] (entry_lines table first n)
unfolding entry_lines
none_printed contents table first n e = rw e ([], Appends-nil contents, refl)

-- ONE LINE MORE, on a page that may have been written out before
pub line_printed : (a b c : Option (List ℕ)) (page next after text line : List ℕ) → Printed a b page text → Printed b c next page → after ≡ next ++ line → Printed a c after (text ++ line)
line_printed a b c page next after text line p q e = (
  p.0 ++ q.0,
  Appends-trans a b c p.0 q.0 p.1 q.1,
  ap (λ (s : List ℕ). (p.0 ++ q.0) ++ s) e
      ∙ sym (append_assoc (p.0 ++ q.0) next line)
      ∙ ap (λ (s : List ℕ). s ++ line) (append_assoc p.0 q.0 next ∙ ap (λ (s : List ℕ). p.0 ++ s) q.2 ∙ p.2),
)

-- of so many entries and one more, the last line is that one's
pub lines_more : (table : List ℕ) (first e : ℕ) → first ≤ e
    → entry_lines table first (e - first) ++ entry_line e (get_or table (type_width * e) 0) (get_or table (type_width * e + 1) 0) (get_or table (type_width * e + 2) 0) ≡ entry_lines table first (e + 1 - first)
unfolding entry_lines
lines_more table first e l =
    let n : first + (e - first) ≡ e = omega (arith, l) in
    let more : suc (e - first) ≡ e + 1 - first = omega (arith, l) in
    ap (λ (i : ℕ). entry_lines table first (e - first) ++ entry_line i (get_or table (type_width * i) 0) (get_or table (type_width * i + 1) 0) (get_or table (type_width * i + 2) 0)) (sym n)
    ∙ ap (entry_lines table first) more

-- WRITTEN OUT
pub written_out : (a b c : Option (List ℕ)) (page text : List ℕ) → Printed a b page text → Appends b c page → Appends a c text
written_out a b c page text p q = subst (Appends a c) p.2 (Appends-trans a b c p.0 page p.1 q)

-- as far as the table has them
pub stretched : (table : List ℕ) (first count from n : ℕ) → from ≡ min first (length table / 3) → n ≡ min count (length table / 3 - from)
    → entry_lines table from (from + n - from) ≡ stretch_lines table first count
unfolding stretch_lines
stretched table first count from n p q =
    let m : from + n - from ≡ n = omega arith in
    let most : ℕ = length table / 3 in
    ap (entry_lines table from) (m ∙ q) ∙ ap (λ (i : ℕ). entry_lines table i (min count (most - i))) p
