-- What reading a job answers and leaves, by the definitions of `meaning`.
-- Assumes nothing.
use Rattle.std.specs.Prelude.{◌≡◌, List, ℕ, ◌*◌, ◌≤◌, length, take, Result}
use Rattle.meaning.specs.Base.{Out, ok, refused, type_width, code_width}
use Rattle.meaning.specs.Records.{Tables}
use Rattle.meaning.specs.Typing.{read_types, read_code}
use Rattle.meaning.specs.Checks.{check_job}
use Rattle.refusals.specs.declared.Refusal.{Refusal}
use Rattle.refusals.specs.Says.{told}
use Rattle.reading.specs.declared.Given.{Given}
use Rattle.reading.specs.Says.{given_of, Held}
use Rattle.words.specs.Tables.{table_of, code_of, vars_of}
use Rattle.checks.specs.Says as Checks
use Rattle.checks.specs.Says.{Stored}
use Rattle.jobs.specs.declared.Job.{Job}

-- the answer: how many entries and nodes there are, with the definitions and the variables
abbrev pub seen : Tables → Job
seen t = record { types = length t.types; nodes = length t.code; given = given_of t }

unfoldable pub job_of : Out Tables → Out Job
job_of (ok t) = ok (seen t)
job_of (refused n place) = refused n place

-- WHAT READING A JOB LEAVES: its answer, and the lent tables of so many words
pub record Left (tw cw : ℕ) (r : Result Job Refusal) (u w : List ℕ) (o : Out Tables) : Type 0 where
  pub answer : told r ≡ job_of o
  pub types : u ≡ read_types tw o
  pub code : w ≡ read_code cw o

-- so many type entries and query nodes in lent tables, with definitions and declared variables, as reading leaves them
pub record Ready (types query : List ℕ) (count nodes : ℕ) (g : Given) : Type 0 where
  pub types_inside : type_width * count ≤ length types
  pub defs_inside : g.used ≤ length g.defs
  pub vars_inside : 3 * g.declared ≤ length g.vars
  pub code_inside : code_width * nodes ≤ length query
  pub read : Checks.Ready (table_of types count) (take g.used g.defs) (vars_of g.vars g.declared) (code_of query nodes)

-- what the checks make of tables that are held
pub record Settled (tw cw : ℕ) (types query : List ℕ) (g : Given) (count nodes bytes : ℕ) (r : Result Job Refusal) (u w : List ℕ) : Type 0 where
  pub leaves : (t : Tables) → Held tw cw types query g count nodes t → Stored (table_of types count) (take g.used g.defs) (vars_of g.vars g.declared) (code_of query nodes) t → Left tw cw r u w (check_job bytes t)
