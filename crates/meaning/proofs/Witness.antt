-- Soundness says something: a job with a tree and a forest variable, a recursive definition, for, let, when, child and dos, and values that are not
-- empty, where every premise holds and the result is not empty.
-- Assumes nothing.
use mathlib.Core.Path.{◌≡◌, refl}
use mathlib.Core.List.{List, [], ◌∷◌, ◌++◌}
use mathlib.Core.Option.{none}
use Prim.Native.Nat.{ℕ}
use native.Mathlib.Omega.{arith}
use Rattle.meaning.specs.Base.{ok, At}
use Rattle.meaning.specs.Forests as Forests
use Rattle.meaning.specs.Forests.{Forest, end, join, size, trees}
use Rattle.meaning.specs.Types as Types
use Rattle.meaning.specs.Types.{Table, Defs, base}
use Rattle.meaning.specs.Members.{Fits, Has}
use Rattle.meaning.specs.Records.{tree, forest, node, query}
use Rattle.meaning.specs.Typing.{Typed, type_job, root}
use Rattle.meaning.specs.Answers.{full}
use Rattle.meaning.specs.Values.{Value, load_values, joined}
use Rattle.meaning.specs.Running.{eval, env_of, run_job}
use Rattle.meaning.specs.Worked.{job_of}
use Rattle.meaning.proofs.Lists.{in_cons, in_none}
use Rattle.meaning.proofs.Members.{has}
use Rattle.meaning.proofs.Reading.{Small}
use Rattle.meaning.proofs.JobSound.{InTypes, values_agree, eval_sound}
use Rattle.meaning.proofs.Worked.{everything}

-- A project of nested blocks: X = 5[X*], a tree variable $0 of type X and a forest variable $1 of type X*. The booklet:
-- for $2 in $1 return let $3 := $2/5 return when not empty $3 return 7[$3], and then $0//5.
unfoldable pub bytes : List ℕ
bytes =
    job_of
    ((9 ∷ 0 ∷ [])
    ∷ (6 ∷ 2 ∷ [])
    ∷ (3 ∷ 5 ∷ 3 ∷ [])
    ∷ (6 ∷ 4 ∷ [])
    ∷ (16 ∷ 4 ∷ [])
    ∷ (17 ∷ 0 ∷ 4 ∷ [])
    ∷ (18 ∷ 1 ∷ 5 ∷ [])
    ∷ (36 ∷ 1 ∷ [])
    ∷ (37 ∷ 2 ∷ 5 ∷ [])
    ∷ (51 ∷ 3 ∷ [])
    ∷ (53 ∷ 2 ∷ [])
    ∷ (36 ∷ 3 ∷ [])
    ∷ (34 ∷ 7 ∷ 4 ∷ [])
    ∷ (41 ∷ 3 ∷ 5 ∷ [])
    ∷ (40 ∷ 3 ∷ 1 ∷ 6 ∷ [])
    ∷ (39 ∷ 2 ∷ 0 ∷ 7 ∷ [])
    ∷ (38 ∷ 0 ∷ 5 ∷ [])
    ∷ (35 ∷ 8 ∷ 9 ∷ [])
    ∷ [])

-- $0 is 5[5[]], $1 is 5[5[],5[]],5[]
unfoldable pub project : List ℕ
project = job_of ((66 ∷ 0 ∷ 2 ∷ []) ∷ (65 ∷ 5 ∷ 1 ∷ []) ∷ (65 ∷ 5 ∷ 0 ∷ []) ∷ (66 ∷ 1 ∷ 4 ∷ []) ∷ (65 ∷ 5 ∷ 2 ∷ []) ∷ (65 ∷ 5 ∷ 0 ∷ []) ∷ (65 ∷ 5 ∷ 0 ∷ []) ∷ (65 ∷ 5 ∷ 0 ∷ []) ∷ [])

unfoldable pub D : Defs
D = 4 ∷ []

unfoldable pub T : Table
T = base ++ (Types.name 0 ∷ Types.star 2 ∷ Types.element 5 3 ∷ Types.star 4 ∷ [])

unfoldable pub typed : Typed
typed =
    record {
      job = record {
        types = T;
        defs = D;
        vars = (0, tree 4) ∷ (1, forest 5) ∷ [];
        code =
            node 36 1 0 0
            ∷ node 37 2 5 0
            ∷ node 51 3 0 0
            ∷ node 53 2 0 0
            ∷ node 36 3 0 0
            ∷ node 34 7 4 0
            ∷ node 41 3 5 0
            ∷ node 40 3 1 6
            ∷ node 39 2 0 7
            ∷ node 38 0 5 0
            ∷ node 35 8 9 0
            ∷ [];
        result = none;
        section = query;
      };
      left = record { types = T ++ (Types.star 4 ∷ Types.element 7 6 ∷ Types.opt 7 ∷ Types.star 8 ∷ Types.star 4 ∷ Types.pair 9 10 ∷ []) };
      result = 11;
    }

is_typed_lem : type_job full bytes ≡ ok typed
unfolding everything bytes typed T D
is_typed_lem = refl

-- a block, with what stands inside it
unfoldable pub block : Forest → Forest
block f = Forests.tree 5 f end

unfoldable pub first_value : Forest
first_value = block (block end)

unfoldable pub second_value : Forest
second_value = join (block (join (block end) (block end))) (block end)

unfoldable pub values : List Value
values =
    record { declared = (0, tree 4); place = 0; part = record { forest = first_value; places = 8 ∷ 16 ∷ []; next = 24 } }
    ∷ record { declared = (1, forest 5); place = 24; part = record { forest = second_value; places = 32 ∷ 40 ∷ 48 ∷ 56 ∷ []; next = 64 } }
    ∷ []

is_loaded : load_values 64 typed.job.vars project ≡ ok values
unfolding everything project typed values first_value second_value block
is_loaded = refl

-- they are in their declared types
at_name : At T 2 (Types.name 0)
unfolding T
at_name = record { is = refl }

at_inside : At T 3 (Types.star 2)
unfolding T
at_inside = record { is = refl }

at_block : At T 4 (Types.element 5 3)
unfolding T
at_block = record { is = refl }

at_blocks : At T 5 (Types.star 4)
unfolding T
at_blocks = record { is = refl }

at_definition : At D 0 4
unfolding D
at_definition = record { is = refl }

block_fits : {f : Forest} → Fits D T (Types.star 2) f → Fits D T (Types.element 5 3) (block f)
unfolding block
block_fits h = Fits.inside at_inside h

-- one block more inside a block, and among blocks
more_inside : {f g : Forest} → Fits D T (Types.element 5 3) f → Fits D T (Types.star 2) g → Fits D T (Types.star 2) (join f g)
more_inside h k = Fits.more at_name (Fits.named at_definition at_block h) k

bare : Fits D T (Types.element 5 3) (block end)
bare = block_fits Fits.stop

first_has : Has D T 4 first_value
unfolding first_value join block
first_has = has at_block (block_fits (more_inside {f = block end} {g = end} bare Fits.stop))

second_has : Has D T 5 second_value
unfolding second_value join block
second_has =
    has at_blocks
    (Fits.more {f = block (join (block end) (block end))} {g = block end} at_block
    (block_fits (more_inside {f = block end} {g = block end} bare (more_inside {f = block end} {g = end} bare Fits.stop)))
    (Fits.more {f = block end} {g = end} at_block bare Fits.stop))

in_types : InTypes D T values
unfolding values
in_types = record { each = in_cons first_has (in_cons second_has (λ v i. in_none i)) }

one_tree_lem : trees first_value ≡ 1
unfolding first_value trees block
one_tree_lem = refl

-- 7[5[],5[]], 5[5[]], 5[]
unfoldable pub booklet : Forest
booklet = Forests.tree 7 (join (block end) (block end)) (join (block (block end)) (block end))

is_run : run_job full 64 bytes project ≡ ok (record { typed = typed; loaded = joined values; result = booklet })
unfolding everything bytes project typed T D values first_value second_value block booklet
is_run = refl

not_empty : size booklet ≡ 6
unfolding booklet block size join
not_empty = refl

is_evaluated : eval 64 (root typed.job) (env_of values) (size (joined values)) ≡ ok booklet
unfolding everything typed values first_value second_value block booklet
is_evaluated = refl

small : Small full
small = record { types = omega arith; code = omega arith }

-- so the theorem applies, and says that the booklet is in entry 11
in_type : Has D typed.left.types 11 booklet
unfolding typed values
in_type = eval_sound small bytes typed is_typed_lem (env_of values) (values_agree D T values in_types.each) 64 (size (joined values)) booklet is_evaluated

-- every premise, and the conclusion
pub record Witness : Type 0 where
  pub typing : type_job full bytes ≡ ok typed
  pub loading : load_values 64 typed.job.vars project ≡ ok values
  pub declared : InTypes D T values
  pub one : trees first_value ≡ 1
  pub running : run_job full 64 bytes project ≡ ok (record { typed = typed; loaded = joined values; result = booklet })
  pub entries : size booklet ≡ 6
  pub member : Has D typed.left.types 11 booklet

pub witness : Witness
witness = record { typing = is_typed_lem; loading = is_loaded; declared = in_types; one = one_tree_lem; running = is_run; entries = not_empty; member = in_type }
