-- `conds::cond_of` meets its contract: one row for each kind, and all others at once. Assumes nothing.
use borrow.Author.Rules.{rules}
use mathlib.Core.Path.{refl}
use Rattle.meaning.specs.Base.{find}
use Rattle.meaning.specs.Kinds
use Rattle.meaning.specs.Queries.{expand_cond}
use Rattle.conds.proofs.Nodes.{says_kind, says_rest}
use Rattle.conds.proofs.cond_of.Goals as goal

pub returns-in-48 : goal.returns-in-48
unfolding expand_cond find
returns-in-48 c = λ n d. says_kind n c.args.a c.args.b d {j = Kinds.condition·true} c.in-48.is (record { is = λ f. refl })

pub returns-in-50 : goal.returns-in-50
unfolding expand_cond find
returns-in-50 c = λ n d. says_kind n c.args.a c.args.b d {j = Kinds.condition·equal} c.in-50.is (record { is = λ f. refl })

pub returns-in-51 : goal.returns-in-51
unfolding expand_cond find
returns-in-51 c = λ n d. says_kind n c.args.a c.args.b d {j = Kinds.condition·empty} c.in-51.is (record { is = λ f. refl })

pub returns-in-52 : goal.returns-in-52
unfolding expand_cond find
returns-in-52 c = λ n d. says_kind n c.args.a c.args.b d {j = Kinds.condition·or} c.in-52.is (record { is = λ f. refl })

pub returns-in-53 : goal.returns-in-53
unfolding expand_cond find
returns-in-53 c = λ n d. says_kind n c.args.a c.args.b d {j = Kinds.condition·not} c.in-53.is (record { is = λ f. refl })

pub returns-in_default : goal.returns-in_default
returns-in_default c =
    λ n d. says_rest n _ _ d _ (search rules) (search rules) (search rules) (search rules) (search rules)
