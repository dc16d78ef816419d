-- How an answer ends: what holds of an accepted one and of a refusal's number and place, and how that goes through a chain of answers.
-- Also: an answer that stays as it is when there is more room.
-- Assumes nothing.
use mathlib.Core.Path.{◌≡◌, refl}
use mathlib.Core.Bool.{Bool, true, false}
use mathlib.Core.Option.{Option, none, some}
use Prim.Native.Nat.{ℕ}
use native.Mathlib.Omega.{arith}
use Rattle.meaning.specs.Base.{Out, ok, refused, ◌>>=◌, require, given, refuse_at}
use Rattle.meaning.specs.Types.{Table}
use Rattle.meaning.specs.Rules.{Does, after, from_out}
use Rattle.meaning.specs.Typing.{State, leaving}

-- an answer has the property P, and a refusal's number and place have the property R
pub data Ends {A : Type 0} (P : A → Type 0) (R : ℕ → ℕ → Type 0) : Out A → Type 0 where
  gives : {a : A} → P a → Ends P R (ok a)
  stops : {n p : ℕ} → R n p → Ends P R (refused n p)

-- nothing is said of refusals, or of answers
abbrev pub Any : {A : Type 0} → A → Type 0
Any x = Unit {0}

abbrev pub Anyhow : ℕ → ℕ → Type 0
Anyhow n p = Unit {0}

pub ends_bind : {A B : Type 0} {P : A → Type 0} {Q : B → Type 0} {R : ℕ → ℕ → Type 0} {m : Out A} {f : A → Out B} → Ends P R m → ((a : A) → P a → Ends Q R (f a)) → Ends Q R (m >>= f)
ends_bind (gives h) k = k _ h
ends_bind (stops r) k = stops r

pub ends_after : {S A B : Type 0} {P : S × A → Type 0} {Q : S × B → Type 0} {R : ℕ → ℕ → Type 0} {m : Out (S × A)} {f : A → Does S B} → Ends P R m → ((s : S) (a : A) → P (s, a) → Ends Q R (f a s)) → Ends Q R (after m f)
ends_after (gives {a = r} h) k = k r.0 r.1 h
ends_after (stops r) k = stops r

pub ends_map : {A : Type 0} {P Q : A → Type 0} {R : ℕ → ℕ → Type 0} {m : Out A} → Ends P R m → ((a : A) → P a → Q a) → Ends Q R m
ends_map (gives h) k = gives (k _ h)
ends_map (stops r) k = stops r

pub ends_by : {A : Type 0} {P : A → Type 0} {R S : ℕ → ℕ → Type 0} {m : Out A} → Ends P R m → ((n p : ℕ) → R n p → S n p) → Ends P S m
ends_by (gives h) k = gives h
ends_by (stops r) k = stops (k _ _ r)

-- two facts about one answer, of which only the second speaks of refusals
pub ends_and : {A : Type 0} {P Q : A → Type 0} {R S : ℕ → ℕ → Type 0} {m : Out A} → Ends P R m → Ends Q S m → Ends (λ a. P a × Q a) S m
ends_and (gives h) (gives k) = gives (h, k)
ends_and (stops r) (stops s) = stops s

-- every answer ends somehow, and an answer is what it is
pub ends_any : {A : Type 0} (m : Out A) → Ends (λ a. m ≡ ok a) (λ n p. m ≡ refused n p) m
ends_any (ok a) = gives refl
ends_any (refused n p) = stops refl

pub ends_anyhow : {A : Type 0} (m : Out A) → Ends Any Anyhow m
ends_anyhow (ok a) = gives tt
ends_anyhow (refused n p) = stops tt

pub ends_ok : {A : Type 0} {P : A → Type 0} {R : ℕ → ℕ → Type 0} {a : A} → Ends P R (ok a) → P a
ends_ok (gives h) = h

pub ends_require : {R : ℕ → ℕ → Type 0} (b : Bool) (n p : ℕ) → R n p → Ends (λ _. b ≡ true) R (require b n p)
ends_require true n p r = gives refl
ends_require false n p r = stops r

-- the same, with what a failing test tells; and a choice by a test
pub ends_test : {R : ℕ → ℕ → Type 0} (b : Bool) (n p : ℕ) → (b ≡ false → R n p) → Ends (λ _. b ≡ true) R (require b n p)
ends_test true n p r = gives refl
ends_test false n p r = stops (r refl)

pub ends_elim : {A : Type 0} {P : A → Type 0} {R : ℕ → ℕ → Type 0} {x y : Out A} (b : Bool) → (b ≡ true → Ends P R x) → (b ≡ false → Ends P R y) → Ends P R (elim b [ true ↦ x | false ↦ y ])
ends_elim true h k = h refl
ends_elim false h k = k refl

pub ends_given : {A : Type 0} {R : ℕ → ℕ → Type 0} (o : Option A) (n p : ℕ) → R n p → Ends (λ a. o ≡ some a) R (given o n p)
ends_given none n p r = stops r
ends_given (some a) n p r = gives refl

pub ends_refuse_at : {R : ℕ → ℕ → Type 0} (n : ℕ) (o : Option ℕ) → ((p : ℕ) → o ≡ some p → R n p) → Ends (λ _. o ≡ none) R (refuse_at n o)
ends_refuse_at n none r = gives refl
ends_refuse_at n (some p) r = stops (r p refl)

-- a rule on the state's type table, and an answer that leaves the state alone
pub ends_leaving : {A : Type 0} {P : Table × A → Type 0} {R : ℕ → ℕ → Type 0} (s : State) {m : Out (Table × A)} → Ends P R m → Ends (λ r. P (r.0.types, r.1)) R (leaving s m)
ends_leaving s (gives h) = gives h
ends_leaving s (stops r) = stops r

pub ends_from_lem : {S A B : Type 0} {P : A → Type 0} {Q : S × B → Type 0} {R : ℕ → ℕ → Type 0} {m : Out A} (s : S) (f : A → Does S B) → Ends P R m → ((a : A) → P a → Ends Q R (f a s)) → Ends Q R (after (from_out m s) f)
ends_from_lem s f (gives h) k = k _ h
ends_from_lem s f (stops r) k = stops r

-- KEEPS: what the first accepts the second accepts, with the same answer
pub data Keeps {A : Type 0} : Out A → Out A → Type 0 where
  kept : {a : A} → Keeps (ok a) (ok a)
  free : {n p : ℕ} {o : Out A} → Keeps (refused n p) o

pub keeps_refl : {A : Type 0} (m : Out A) → Keeps m m
keeps_refl (ok a) = kept
keeps_refl (refused n p) = free

pub keeps_bind : {A B : Type 0} {m o : Out A} {f g : A → Out B} → Keeps m o → ((a : A) → Keeps (f a) (g a)) → Keeps (m >>= f) (o >>= g)
keeps_bind (kept {a = a}) k = k a
keeps_bind free k = free

pub keeps_after : {S A B : Type 0} {m o : Out (S × A)} {f g : A → Does S B} → Keeps m o → ((s : S) (a : A) → Keeps (f a s) (g a s)) → Keeps (after m f) (after o g)
keeps_after (kept {a = r}) k = k r.0 r.1
keeps_after free k = free

pub keeps_require : (b c : Bool) (n p k q : ℕ) → (b ≡ true → c ≡ true) → Keeps (require b n p) (require c k q)
keeps_require true true n p k q h = kept
keeps_require true false n p k q h = let e = h refl in let z : ◌≡◌ {A = ℕ} 0 1 = cc in absurd (omega arith)
keeps_require false c n p k q h = free

pub keeps_ok : {A : Type 0} {m o : Out A} {a : A} → Keeps m o → m ≡ ok a → o ≡ ok a
keeps_ok kept e = e
keeps_ok free e = let z : ◌≡◌ {A = ℕ} 0 1 = cc in absurd (omega arith)
