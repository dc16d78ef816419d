-- What the steps of the text form's parser answer.
-- Assumes nothing.
use Rattle.std.specs.Prelude.{◌≡◌, List, ℕ, ◌≤◌, ◌<◌, length, Result, Ok, Err, IfOk}
use Rattle.meaning.specs.Base.{Out}
use Rattle.meaning.specs.Texts.{Here, here, Read}
use Rattle.refusals.specs.declared.Refusal.{Refusal}
use Rattle.refusals.specs.declared.Reason.{Reason}
use Rattle.refusals.specs.Says.{out}
use Rattle.steps.specs.declared.Got.{Got}

-- with so many nodes as there are, of which none is made
abbrev pub went_of : ℕ → Result ℕ Refusal → Out Here
went_of n r = out (λ (next : ℕ). here next n) r

abbrev pub got_of : ℕ → Result Got Refusal → Read ℕ
got_of n r = out (λ (g : Got). (g.value, here g.next n)) r

-- one more may be open, or not
abbrev pub Opens : ℕ → ℕ → Result (Unit {0}) Refusal → Type 0
Opens deep place (Ok u) = deep < 100
Opens deep place (Err r) = (100 ≤ deep) × (r ≡ record { reason = Reason.TooDeep; place = place })

-- where the text goes on is inside it, and behind a byte at least
abbrev pub Onward : List ℕ → ℕ → ℕ → Type 0
Onward s at next = (at < next) × (next ≤ length s)

pub record Goes (s : List ℕ) (at : ℕ) (r : Result ℕ Refusal) (o : ℕ → Out Here) : Type 0 where
  pub is : (n : ℕ) → went_of n r ≡ o n
  pub onward : IfOk r (λ (next : ℕ). Onward s at next)

pub record Gives (s : List ℕ) (at : ℕ) (r : Result Got Refusal) (o : ℕ → Read ℕ) : Type 0 where
  pub is : (n : ℕ) → got_of n r ≡ o n
  pub onward : IfOk r (λ (g : Got). Onward s at g.next)
