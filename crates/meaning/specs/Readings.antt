-- "Readings that look right": a table of rows, one or more for each wrong reading that document 01 names, where the right one gives something else.
-- Assumes nothing.
use Rattle.std.specs.Prelude.{ℕ, ◌*◌, List, [], ◌∷◌, ◌++◌}
use Rattle.meaning.specs.Base.{ok, refused, ◌>>=◌, forest_width}
use Rattle.meaning.specs.Forests.{size}
use Rattle.meaning.specs.Types.{element, pair, star, opt, base}
use Rattle.meaning.specs.Shapes.{more, shape, quant}
use Rattle.meaning.specs.Answers.{full}
use Rattle.meaning.specs.Running.{run_job, work_words}
use Rattle.meaning.specs.Worked.{Shown, Row, row, show_class, show_table, typed, job_of, def_job}

-- a run in a work table of so many entries: the first entry and the length of the result, and the work table
abbrev pub ran : ℕ → List ℕ → List ℕ → Shown
ran room s values = run_job full room s values >>= λ r. ok (size r.loaded ∷ size r.result ∷ work_words (forest_width * room) (ok r))

-- a forest variable of type (2[()])*, and its value: three trees 2[()]
abbrev pub star_job : List (List ℕ) → List ℕ
star_job q = job_of ((3 ∷ 2 ∷ 0 ∷ []) ∷ (6 ∷ 2 ∷ []) ∷ (18 ∷ 1 ∷ 3 ∷ []) ∷ q)

abbrev pub three_trees : List ℕ
three_trees = job_of ((66 ∷ 1 ∷ 3 ∷ []) ∷ (65 ∷ 2 ∷ 0 ∷ []) ∷ (65 ∷ 2 ∷ 0 ∷ []) ∷ (65 ∷ 2 ∷ 0 ∷ []) ∷ [])

unfoldable pub readings : List Row
readings =
    -- "quant of a,b? as '1'": it is +
    row (show_class (quant (shape [] (base ++ (element 2 0 ∷ element 3 0 ∷ opt 3 ∷ pair 2 4 ∷ [])) 5))) (show_class more)
    -- "dos without the tree itself": of type 2[()] it is (2[()])*, and of 2[texts 7 and 8] it is three trees
    ∷ row (typed (job_of ((3 ∷ 2 ∷ 0 ∷ []) ∷ (17 ∷ 0 ∷ 2 ∷ []) ∷ (38 ∷ 0 ∷ 0 ∷ []) ∷ []))) (show_table 3 (base ++ (element 2 0 ∷ star 2 ∷ [])))
    ∷ row
    (ran 8 (job_of ((6 ∷ 1 ∷ []) ∷ (3 ∷ 2 ∷ 2 ∷ []) ∷ (17 ∷ 0 ∷ 3 ∷ []) ∷ (38 ∷ 0 ∷ 0 ∷ []) ∷ [])) (job_of ((66 ∷ 0 ∷ 3 ∷ []) ∷ (65 ∷ 2 ∷ 2 ∷ []) ∷ (64 ∷ 7 ∷ []) ∷ (64 ∷ 8 ∷ []) ∷ [])))
    (ok (3 ∷ 5 ∷ 65 ∷ 2 ∷ 2 ∷ 64 ∷ 7 ∷ 0 ∷ 64 ∷ 8 ∷ 0 ∷ 65 ∷ 2 ∷ 2 ∷ 64 ∷ 7 ∷ 0 ∷ 64 ∷ 8 ∷ 0 ∷ 64 ∷ 7 ∷ 0 ∷ 64 ∷ 8 ∷ 0 ∷ []))
    -- "The guard test stopped by opt or star; only an element stops it.": definition 0 is star, then pair, of name 0
    ∷ row (typed (def_job (6 ∷ 2 ∷ []))) (refused 10 0)
    ∷ row (typed (def_job (4 ∷ 0 ∷ 2 ∷ []))) (refused 10 0)
    -- "A tree variable bound to the source's whole type instead of its prime": for $0 in $1 return $0
    ∷ row (typed (star_job ((36 ∷ 1 ∷ []) ∷ (36 ∷ 0 ∷ []) ∷ (39 ∷ 0 ∷ 0 ∷ 1 ∷ []) ∷ []))) (show_table 4 (base ++ (element 2 0 ∷ star 2 ∷ star 2 ∷ [])))
    -- "Moving a for's bodies down one by one over source trees still to come": for $0 in $1 return $0,$0 leaves six trees, above the nine entries of
    -- values and source
    ∷ row
    (ran 12 (star_job ((36 ∷ 1 ∷ []) ∷ (36 ∷ 0 ∷ []) ∷ (36 ∷ 0 ∷ []) ∷ (35 ∷ 1 ∷ 2 ∷ []) ∷ (39 ∷ 0 ∷ 0 ∷ 3 ∷ []) ∷ [])) three_trees)
    (ok (3 ∷ 6 ∷ 65 ∷ 2 ∷ 0 ∷ 65 ∷ 2 ∷ 0 ∷ 65 ∷ 2 ∷ 0 ∷ 65 ∷ 2 ∷ 0 ∷ 65 ∷ 2 ∷ 0 ∷ 65 ∷ 2 ∷ 0 ∷ 65 ∷ 2 ∷ 0 ∷ 65 ∷ 2 ∷ 0 ∷ 65 ∷ 2 ∷ 0 ∷ 0 ∷ 0 ∷ 0 ∷ 0 ∷ 0 ∷ 0 ∷ 0 ∷ 0 ∷ 0 ∷ []))
    ∷ row (ran 11 (star_job ((36 ∷ 1 ∷ []) ∷ (36 ∷ 0 ∷ []) ∷ (36 ∷ 0 ∷ []) ∷ (35 ∷ 1 ∷ 2 ∷ []) ∷ (39 ∷ 0 ∷ 0 ∷ 3 ∷ []) ∷ [])) three_trees) (refused 21 2)
    ∷ []
