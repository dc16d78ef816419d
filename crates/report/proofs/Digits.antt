-- A number's decimal is that number: 20 digits hold every number of 64 bits. And it is what the library prints.
-- Assumes nothing.
use Rattle.std.proofs.Common.{◌≡◌, ℕ, zero, suc, ◌+◌, ◌-◌, ◌*◌, ◌/◌, ◌%◌, ◌^◌, ◌<◌, inl, inr, List, [], ◌∷◌, ◌++◌, refl, ap, subst, ◌∙◌, arith}
use native.Mathlib.Nat.{pow-zero, pow-suc}
use Rattle.std.proofs.lemmas.Bool.{cases_lt}
use Rattle.std.proofs.Common.{sym, append_assoc}
use Rattle.std.specs.Fmt as Fmt
use Rattle.std.proofs.lemmas.Fmt.{AppendsLastDigit, decimal_from_appends, length-decimal-le}
use Rattle.refusals.specs.declared.Reason.{Reason}
use Rattle.refusals.specs.Says.{number_of}
use Rattle.report.specs.Text.{digit_ascii, spelled, decimal, entry_line, result, result_line, stretch_line, refused, refused_line}
use Rattle.report.proofs.Lines.{spelled_one, spelled_more}

-- the number that digits are, behind one that was read before them
abbrev pub number_from : ℕ → List ℕ → ℕ
number_from n [] = n
number_from n (d ∷ ds) = number_from (10 * n + (d - 48)) ds

from_append : (n : ℕ) (ds es : List ℕ) → number_from n (ds ++ es) ≡ number_from (number_from n ds) es
from_append n [] es = refl
from_append n (d ∷ ds) es = from_append (10 * n + (d - 48)) ds es

none : (n : ℕ) → spelled 0 n ≡ []
unfolding spelled
none n = refl

pub spelled_reads : (most n : ℕ) → n < 10 ^ most → number_from 0 (spelled most n) ≡ n
spelled_reads zero n l = let e : 0 ≡ n = omega (arith, l, pow-zero 10) in ap (number_from 0) (none n) ∙ e
spelled_reads (suc most) n l =
    elim (cases_lt n 10) [
      | inl few ↦ ap (number_from 0) (spelled_one most n few) ∙ omega arith
      | inr many ↦
          let less : n < 10 ^ most * 10 = subst (λ (m : ℕ). n < m) (pow-suc 10 most) l in
          ap (number_from 0) (spelled_more most n many)
          ∙ from_append 0 (spelled most (n / 10)) (digit_ascii (n % 10) ∷ [])
          ∙ ap (λ (m : ℕ). 10 * m + (digit_ascii (n % 10) - 48)) (spelled_reads most (n / 10) (omega (arith, less)))
          ∙ omega arith
    ]

pub decimal_reads : (n : ℕ) → n < 2 ^ 64 → number_from 0 (decimal n) ≡ n
decimal_reads n l = spelled_reads 20 n (omega (arith, l))

appends : AppendsLastDigit spelled
appends = record { one = spelled_one; more = spelled_more }

pub decimal_printed : (n : ℕ) → n < 2 ^ 64 → Fmt.decimal n ≡ decimal n
decimal_printed n l = sym (decimal_from_appends spelled appends 20 n l (length-decimal-le 20 n (omega arith) (omega (arith, l)) l))

-- THE LINES as the library prints them
pub entry_printed : (e kind a b : ℕ) → e < 2 ^ 64 → kind < 2 ^ 16 → a < 2 ^ 16 → b < 2 ^ 16
    → Fmt.decimal e ++ (32 ∷ (Fmt.decimal kind ++ (32 ∷ (Fmt.decimal a ++ (32 ∷ (Fmt.decimal b ++ (10 ∷ []))))))) ≡ entry_line e kind a b
unfolding entry_line
entry_printed e kind a b h i j k =
    rw (decimal_printed e h, decimal_printed kind (omega (arith, i)), decimal_printed a (omega (arith, j)), decimal_printed b (omega (arith, k))) (simp append_assoc)

pub result_printed : (n : ℕ) → n < 2 ^ 64 → result ++ (Fmt.decimal n ++ (10 ∷ [])) ≡ result_line n
unfolding result_line
result_printed n h = rw (decimal_printed n h) refl

pub stretch_printed : (first n : ℕ) → first < 2 ^ 64 → n < 2 ^ 64 → result ++ ((Fmt.decimal first ++ (32 ∷ Fmt.decimal n)) ++ (10 ∷ [])) ≡ stretch_line first n
unfolding stretch_line
stretch_printed first n h k = rw (decimal_printed first h, decimal_printed n k) (simp append_assoc)

pub refused_printed : (number place : ℕ) → number < 2 ^ 64 → place < 2 ^ 64
    → refused ++ (((Fmt.decimal number ++ (32 ∷ 97 ∷ 116 ∷ 32 ∷ [])) ++ Fmt.decimal place) ++ (10 ∷ [])) ≡ refused_line number place
unfolding refused_line
refused_printed number place h k = rw (decimal_printed number h, decimal_printed place k) (simp append_assoc)

-- a reason's number is small
pub number_small : (r : Reason) → number_of r < 2 ^ 64
number_small Reason.Cut = omega arith
number_small Reason.UnknownKind = omega arith
number_small Reason.WrongLength = omega arith
number_small Reason.OutOfOrder = omega arith
number_small Reason.TooMany = omega arith
number_small Reason.Unfit = omega arith
number_small Reason.DeclaredTwice = omega arith
number_small Reason.NoQuery = omega arith
number_small Reason.NoDefinition = omega arith
number_small Reason.Circle = omega arith
number_small Reason.NotTrees = omega arith
number_small Reason.NotUsedOnce = omega arith
number_small Reason.NotInScope = omega arith
number_small Reason.InScope = omega arith
number_small Reason.OfForest = omega arith
number_small Reason.TypesFull = omega arith
number_small Reason.AnswerShort = omega arith
number_small Reason.WrongValues = omega arith
number_small Reason.NotOneTree = omega arith
number_small Reason.ValuesFull = omega arith
number_small Reason.WorkFull = omega arith
number_small Reason.NoSuchText = omega arith
number_small Reason.TooDeep = omega arith
number_small Reason.RoomShort = omega arith

-- THE SAME PUT ON A PAGE, a number at a time with what stands behind it
put_more : {next after : List ℕ} (before a rest : List ℕ) → next ≡ before ++ a → after ≡ next ++ rest → after ≡ before ++ (a ++ rest)
put_more before a rest p q = q ∙ ap (λ (s : List ℕ). s ++ rest) p ∙ append_assoc before a rest

four : (a b c d : List ℕ) → (a ++ (32 ∷ [])) ++ ((b ++ (32 ∷ [])) ++ ((c ++ (32 ∷ [])) ++ (d ++ (10 ∷ [])))) ≡ a ++ (32 ∷ (b ++ (32 ∷ (c ++ (32 ∷ (d ++ (10 ∷ [])))))))
four a b c d = simp append_assoc

two : (a b ws : List ℕ) → (a ++ ws) ++ (b ++ (10 ∷ [])) ≡ ((a ++ ws) ++ b) ++ (10 ∷ [])
two a b ws = sym (append_assoc (a ++ ws) b (10 ∷ []))

spaced : (a b : List ℕ) → ((a ++ (32 ∷ [])) ++ b) ++ (10 ∷ []) ≡ (a ++ (32 ∷ b)) ++ (10 ∷ [])
spaced a b = ap (λ (s : List ℕ). s ++ (10 ∷ [])) (append_assoc a (32 ∷ []) b)

pub entry_put : (page : List ℕ) (e kind a b : ℕ) {p q r s : List ℕ} → e < 2 ^ 64 → kind < 2 ^ 16 → a < 2 ^ 16 → b < 2 ^ 16
    → p ≡ page ++ (Fmt.decimal e ++ (32 ∷ [])) → q ≡ p ++ (Fmt.decimal kind ++ (32 ∷ [])) → r ≡ q ++ (Fmt.decimal a ++ (32 ∷ [])) → s ≡ r ++ (Fmt.decimal b ++ (10 ∷ [])) → s ≡ page ++ entry_line e kind a b
entry_put page e kind a b {p} {q} {r} h i j k t u v w =
    put_more page (Fmt.decimal e ++ (32 ∷ [])) _ t (put_more p (Fmt.decimal kind ++ (32 ∷ [])) _ u (put_more q (Fmt.decimal a ++ (32 ∷ [])) _ v w))
    ∙ ap (λ (s : List ℕ). page ++ s) (four (Fmt.decimal e) (Fmt.decimal kind) (Fmt.decimal a) (Fmt.decimal b) ∙ entry_printed e kind a b h i j k)

-- on a page that is new
module _ {none word : List ℕ} (new : none ≡ []) where
  pub result_put : (n : ℕ) {line : List ℕ} → n < 2 ^ 64 → word ≡ none ++ result → line ≡ word ++ (Fmt.decimal n ++ (10 ∷ [])) → line ≡ result_line n
  result_put n h p q = q ∙ ap (λ (s : List ℕ). s ++ (Fmt.decimal n ++ (10 ∷ []))) (p ∙ ap (λ (s : List ℕ). s ++ result) new) ∙ result_printed n h

  pub stretch_put : (first n : ℕ) {at line : List ℕ} → first < 2 ^ 64 → n < 2 ^ 64 → word ≡ none ++ result → at ≡ word ++ (Fmt.decimal first ++ (32 ∷ [])) → line ≡ at ++ (Fmt.decimal n ++ (10 ∷ [])) → line ≡ stretch_line first n
  stretch_put first n h k p q r =
      put_more word (Fmt.decimal first ++ (32 ∷ [])) (Fmt.decimal n ++ (10 ∷ [])) q r
      ∙ (λ i. (p ∙ ap (λ (s : List ℕ). s ++ result) new) i ++ (two (Fmt.decimal first) (Fmt.decimal n) (32 ∷ []) ∙ spaced (Fmt.decimal first) (Fmt.decimal n)) i)
      ∙ stretch_printed first n h k

  pub refused_put : (number place : ℕ) {at line : List ℕ} → number < 2 ^ 64 → place < 2 ^ 64 → word ≡ none ++ refused → at ≡ word ++ (Fmt.decimal number ++ (32 ∷ 97 ∷ 116 ∷ 32 ∷ [])) → line ≡ at ++ (Fmt.decimal place ++ (10 ∷ [])) → line ≡ refused_line number place
  refused_put number place h k p q r =
      put_more word (Fmt.decimal number ++ (32 ∷ 97 ∷ 116 ∷ 32 ∷ [])) (Fmt.decimal place ++ (10 ∷ [])) q r
      ∙ (λ i. (p ∙ ap (λ (s : List ℕ). s ++ refused) new) i ++ two (Fmt.decimal number) (Fmt.decimal place) (32 ∷ 97 ∷ 116 ∷ 32 ∷ []) i)
      ∙ refused_printed number place h k
