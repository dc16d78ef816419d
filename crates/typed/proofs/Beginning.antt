-- What reading leaves is what typing asks, and that is what the walk from the root asks.
-- Assumes nothing.
use mathlib.Core.Path.{◌≡◌, sym, ap, subst, ◌∙◌}
use mathlib.Core.List.{List}
use Prim.Native.Nat.{ℕ, ◌-◌, ◌≤◌}
use native.Mathlib.Omega.{arith}
use lib.ListN.{length, take}
use Rattle.meaning.specs.Base.{concat_map, caps_of, code_width}
use Rattle.meaning.specs.Types.{Defs}
use Rattle.meaning.specs.Records.{Node, node_words, Tables}
use Rattle.meaning.specs.Formed.{VarsRead}
use Rattle.meaning.specs.Queries.{query_at}
use Rattle.meaning.specs.Typing as Typing
use Rattle.meaning.specs.Checks.{read_job}
use Rattle.meaning.proofs.Ends.{ends_ok}
use Rattle.meaning.proofs.Finding.{find_at}
use Rattle.meaning.proofs.Reading.{caps_of_small, vars_wider}
use Rattle.meaning.proofs.Accepting.{Accepted, accepts}
use Rattle.words.specs.Tables.{table_of, code_of, vars_of}
use Rattle.words.proofs.Rows.{padded_most, rows_length}
use Rattle.words.proofs.Tables.{table_length, code_length, node_wide}
use Rattle.scope.specs.declared.Scope.{Scope}
use Rattle.scope.specs.Shows.{Shows}
use Rattle.std.specs.Prelude as Std
use Rattle.refusals.specs.declared.Refusal.{Refusal}
use Rattle.reading.specs.Says.{var_words, Held}
use Rattle.reading.proofs.Decoding.{var_wide}
use Rattle.jobs.specs.declared.Job.{Job}
use Rattle.jobs.specs.Says.{Left}
use Rattle.jobs.proofs.Checking.{held_stored}
use Rattle.jobs.proofs.Telling.{job_accepted}
use Rattle.classes.specs.Classes.{Filled}
use Rattle.grow.specs.Grow.{After}
use Rattle.grow.specs.declared.Made.{Made}
use Rattle.grow.proofs.Tables.{lent_of}
use Rattle.leaves.specs.Walk.{Within}
use Rattle.typing.specs.Walking.{Here, Typed as Types}
use Rattle.typed.specs.Says.{Ready, Whole, Grows, from_root}

-- an accepted job's tables, as they are held
module _ {j : Job} {u w : List ℕ} {t : Tables} (h : Held (length u) (length w) u w j.given j.types j.nodes t) (a : Accepted (caps_of (length u) (length w)) t) where
  held_ready : Ready u w j
  held_ready =
      let s = held_stored h in
      record {
        formed = rw (s.defs_are, s.types_are) a.formed;
        lent = rw h.entries (lent_of t.types h.types a.fits);
        listed = rw h.given (padded_most 64 t.defs);
        vars_inside = rw h.given (omega (arith, rows_length var_words 3 var_wide t.vars, padded_most 48 (concat_map var_words t.vars)));
        vars_read = rw (s.vars_are, h.entries) a.vars;
        code_inside = omega (arith, h.nodes_are, ap length h.code, rows_length node_words code_width node_wide t.code, padded_most (length w) (concat_map node_words t.code));
        lowers = rw s.code_are (record { few = omega (arith, a.few_code, (caps_of_small (length u) (length w)).code); low = a.nodes });
        rooted = rw h.nodes_are a.rooted;
      }

pub job_ready : {tw cw : ℕ} {u w : List ℕ} {j : Job} (s : List ℕ) → Left tw cw (Std.Ok j) u w (read_job (caps_of tw cw) s) → length u ≡ tw → length w ≡ cw → Ready u w j
job_ready {tw} {cw} {u = u} {w = w} s l p q =
    let f = job_accepted (read_job (caps_of tw cw) s) l in
    held_ready {t = f.tables} (rw (p, q) f.held) (rw (p, q) (ends_ok (rw f.is at (accepts s (caps_of_small tw cw)))))

-- what is left of a walk
left_whole : (D : Defs) (us ds : List ℕ) (made : Std.Result Made Refusal) → After D us ds made → Whole made us
left_whole D us ds (Std.Ok m) a = a.0.lent
left_whole D us ds (Std.Err r) a = tt

module _ {types query : List ℕ} {j : Job} (h : Ready types query j) where
  abbrev D : Defs
  D = take j.given.used j.given.defs

  abbrev declared : Typing.Scope
  declared = vars_of j.given.vars j.given.declared

  pub vars_ready : VarsRead 4096 declared
  vars_ready = vars_wider (omega (arith, table_length types j.types, h.formed.few)) h.vars_read

  -- THE WALK from the root: what it asks, in the scope of the declared variables
  module _ {s : Scope} (shows : Shows s declared) where
    within : length s.slots ≡ 64 → Within s j.types
    within wide = record { wide = wide; low = λ v x l e. let d = find_at v declared x (sym (shows v l) ∙ e) in h.vars_read.scoped d.0 v x d.1 }

    pub walk_ready : {classes marks : List ℕ} → length s.slots ≡ 64 → Filled D (table_of types j.types) classes → 4096 ≤ length classes → 8192 ≤ length marks
        → {code : List Node} → code ≡ code_of query j.nodes → Here types classes marks D code j.types (j.nodes - 1) s
    walk_ready wide filled long marked e =
        rw e (record {
          begins = record { ready = record { formed = h.formed; lent = h.lent; filled = filled; long = long }; within = within wide };
          marked = marked;
          lowers = h.lowers;
          low = omega (arith, h.rooted, code_length query j.nodes);
        })

    -- and what it leaves
    pub walk_grows : {us cs ds : List ℕ} {made : Std.Result Made Refusal} {code : List Node} → code ≡ code_of query j.nodes → Types D types us cs ds j.types (query_at code (j.nodes - 1)) s made → Grows types us made (from_root types query j)
    walk_grows {us} {cs} {ds} {made} e w =
        let l = (subst (λ (C : List Node). Types D types us cs ds j.types (query_at C (j.nodes - 1)) s made) e w).is declared shows in
        record { answer = l.answer; long = l.long; whole = left_whole D us ds made l.ready }
