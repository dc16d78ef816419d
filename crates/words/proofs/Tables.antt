-- A lent table read as type entries and as query nodes: its length, its members, and that it gives back the table whose words it holds.
-- Assumes nothing.
use mathlib.Core.Path.{◌≡◌, refl, ap, ◌∙◌}
use mathlib.Core.List.{List, [], ◌∷◌, ◌++◌}
use Prim.Native.Nat.{ℕ, zero, suc, ◌+◌, ◌*◌, ◌≤◌, ◌<◌}
use native.Mathlib.Omega.{arith}
use native.Mathlib.Decide.{ℕ_discrete}
use lib.ListN.{length, get_or, take, drop, length-append, get_or-append}
use lib.Seq.{take-suc, take-length, get_or-append_seam}
use Rattle.meaning.specs.Base.{find, zeros, padded, concat_map, type_width, code_width}
use Rattle.meaning.specs.Types as Types
use Rattle.meaning.specs.Types.{Entry, Table, kind_of, fields_of, entry_words, table_words, entry_of, at}
use Rattle.meaning.specs.Records.{Var, Node, node, node_at, node_words}
use Rattle.words.specs.Tables.{stored, entry_at, node_in, var_in, table_of, code_of, vars_of}
use Rattle.words.proofs.Rows.{padded_most, front_cleared, rows_length, lent_at, lent_first, row_more, stored_in, stored_before}

-- an entry's words are three, and the entry is made of them
pub entry_wide : (x : Entry) → length (entry_words x) ≡ type_width
unfolding kind_of fields_of zeros
entry_wide Types.empty = refl
entry_wide Types.string = refl
entry_wide (Types.element l c) = refl
entry_wide (Types.pair a b) = refl
entry_wide (Types.union a b) = refl
entry_wide (Types.star a) = refl
entry_wide (Types.plus a) = refl
entry_wide (Types.opt a) = refl
entry_wide (Types.name d) = refl

pub entry_made : (x : Entry) → entry_of (get_or (entry_words x) 0 0) (get_or (entry_words x) 1 0) (get_or (entry_words x) 2 0) ≡ x
unfolding kind_of fields_of zeros entry_of find
entry_made Types.empty = refl
entry_made Types.string = refl
entry_made (Types.element l c) = refl
entry_made (Types.pair a b) = refl
entry_made (Types.union a b) = refl
entry_made (Types.star a) = refl
entry_made (Types.plus a) = refl
entry_made (Types.opt a) = refl
entry_made (Types.name d) = refl

pub node_wide : (x : Node) → length (node_words x) ≡ code_width
node_wide x = refl

-- THE FIRST SO MANY
pub table_length : (ws : List ℕ) (n : ℕ) → length (table_of ws n) ≡ n
unfolding table_of
table_length ws zero = refl
table_length ws (suc n) = omega (arith, length-append (table_of ws n) (entry_at ws n ∷ []), table_length ws n)

pub code_length : (ws : List ℕ) (n : ℕ) → length (code_of ws n) ≡ n
unfolding code_of
code_length ws zero = refl
code_length ws (suc n) = omega (arith, length-append (code_of ws n) (node_in ws n ∷ []), code_length ws n)

pub vars_length : (ws : List ℕ) (n : ℕ) → length (vars_of ws n) ≡ n
unfolding vars_of
vars_length ws zero = refl
vars_length ws (suc n) = omega (arith, length-append (vars_of ws n) (var_in ws n ∷ []), vars_length ws n)

-- a member of a list that is built at its end
end_at : {A : Type 0} (l : List A) (x z : A) (e : ℕ) (P : A → Type 0) → (e < length l → P (get_or l e z)) → (e ≡ length l → P x) → e < suc (length l) → P (get_or (l ++ (x ∷ [])) e z)
end_at l x z e P h k m = go (ℕ_discrete e (length l))
  where
    go : Dec (e ≡ length l) → P (get_or (l ++ (x ∷ [])) e z)
    go (yes p) = rw (p, get_or-append_seam l x [] z) (k p)
    go (no p) = rw (get_or-append l (x ∷ []) z e (omega arith)) (h (omega arith))

pub table_at : (ws : List ℕ) (n e : ℕ) → e < n → at (table_of ws n) e ≡ entry_at ws e
unfolding table_of
table_at ws zero e h = absurd (omega arith)
table_at ws (suc n) e h =
    end_at (table_of ws n) (entry_at ws n) Types.empty e (λ x. x ≡ entry_at ws e)
    (λ l. table_at ws n e (omega (arith, table_length ws n)))
    (λ p. ap (entry_at ws) (omega (arith, table_length ws n)))
    (omega (arith, table_length ws n))

pub code_at : (ws : List ℕ) (n e : ℕ) → e < n → node_at (code_of ws n) e ≡ node_in ws e
unfolding code_of
code_at ws zero e h = absurd (omega arith)
code_at ws (suc n) e h =
    end_at (code_of ws n) (node_in ws n) (node 0 0 0 0) e (λ x. x ≡ node_in ws e)
    (λ l. code_at ws n e (omega (arith, code_length ws n)))
    (λ p. ap (node_in ws) (omega (arith, code_length ws n)))
    (omega (arith, code_length ws n))

pub vars_at : (ws : List ℕ) (z : ℕ × Var) (n e : ℕ) → e < n → get_or (vars_of ws n) e z ≡ var_in ws e
unfolding vars_of
vars_at ws z zero e h = absurd (omega arith)
vars_at ws z (suc n) e h =
    end_at (vars_of ws n) (var_in ws n) z e (λ x. x ≡ var_in ws e)
    (λ l. vars_at ws z n e (omega (arith, vars_length ws n)))
    (λ p. ap (var_in ws) (omega (arith, vars_length ws n)))
    (omega (arith, vars_length ws n))

-- A LENT TABLE that holds a table's words gives it back
module _ (n : ℕ) (T : Table) where
  entry_lent : (e : ℕ) → e < length T → entry_at (padded n (table_words T)) e ≡ at T e
  entry_lent e l =
      let w = lent_at entry_words type_width entry_wide n T Types.empty e in
      rw (lent_first entry_words type_width entry_wide n T Types.empty e l (omega arith), w 1 l (omega arith), w 2 l (omega arith))
      (entry_made (at T e))

  table_take : (k : ℕ) → k ≤ length T → table_of (padded n (table_words T)) k ≡ take k T
  unfolding table_of
  table_take zero h = refl
  table_take (suc k) h = rw (take-suc T k Types.empty h, table_take k (omega arith), entry_lent k h)

  pub table_lent : table_of (padded n (table_words T)) (length T) ≡ T
  table_lent = table_take (length T) (omega arith) ∙ take-length T

module _ (n : ℕ) (C : List Node) where
  node_lent : (e : ℕ) → e < length C → node_in (padded n (concat_map node_words C)) e ≡ node_at C e
  node_lent e l =
      let w = lent_at node_words code_width node_wide n C (node 0 0 0 0) e in
      rw (lent_first node_words code_width node_wide n C (node 0 0 0 0) e l (omega arith), w 1 l (omega arith), w 2 l (omega arith), w 3 l (omega arith))

  code_take : (k : ℕ) → k ≤ length C → code_of (padded n (concat_map node_words C)) k ≡ take k C
  unfolding code_of
  code_take zero h = refl
  code_take (suc k) h = rw (take-suc C k (node 0 0 0 0) h, code_take k (omega arith), node_lent k h)

  pub code_lent : code_of (padded n (concat_map node_words C)) (length C) ≡ C
  code_lent = code_take (length C) (omega arith) ∙ take-length C

-- ONE MORE, stored behind the others
pub table_more : (n : ℕ) (T : Table) (x : Entry) (k a b : ℕ) → entry_words x ≡ k ∷ a ∷ b ∷ [] → type_width * length T + type_width ≤ n
    → stored (padded n (table_words T)) (type_width * length T) (k ∷ a ∷ b ∷ []) ≡ padded n (table_words (T ++ (x ∷ [])))
table_more n T x k a b e h = rw (← e) (row_more entry_words type_width entry_wide n T x h)

pub code_more : (n : ℕ) (C : List Node) (k a b c : ℕ) → code_width * length C + code_width ≤ n
    → stored (padded n (concat_map node_words C)) (code_width * length C) (k ∷ a ∷ b ∷ c ∷ []) ≡ padded n (concat_map node_words (C ++ (node k a b c ∷ [])))
code_more n C k a b c h = row_more node_words code_width node_wide n C (node k a b c) h

-- INSIDE the lent words are those of the entries and of the nodes; once they are cleared, all of it is zero
module _ (n : ℕ) {k : ℕ} {t : List ℕ} (T : Table) (l : k ≡ length T) (e : t ≡ padded n (table_words T)) where
  pub table_inside : type_width * k ≤ length t
  table_inside = rw e (omega (arith, l, rows_length entry_words type_width entry_wide T, padded_most n (table_words T)))

  pub table_cleared : {u : List ℕ} → length t ≡ n → u ≡ zeros (type_width * k) ++ drop (type_width * k) t → u ≡ zeros n
  table_cleared q c = c ∙ front_cleared n (table_words T) (omega (arith, l, rows_length entry_words type_width entry_wide T)) (omega (arith, table_inside, q)) e

module _ (n : ℕ) {k : ℕ} {t : List ℕ} (C : List Node) (l : k ≡ length C) (e : t ≡ padded n (concat_map node_words C)) where
  pub code_inside : code_width * k ≤ length t
  code_inside = rw e (omega (arith, l, rows_length node_words code_width node_wide C, padded_most n (concat_map node_words C)))

  pub code_cleared : {u : List ℕ} → length t ≡ n → u ≡ zeros (code_width * k) ++ drop (code_width * k) t → u ≡ zeros n
  code_cleared q c = c ∙ front_cleared n (concat_map node_words C) (omega (arith, l, rows_length node_words code_width node_wide C)) (omega (arith, code_inside, q)) e

-- nodes whose words are the same are the same
code_alike : (t u : List ℕ) (n : ℕ) → ((i : ℕ) → i < code_width * n → get_or u i 0 ≡ get_or t i 0) → code_of u n ≡ code_of t n
unfolding code_of
code_alike t u zero f = refl
code_alike t u (suc n) f =
    λ i. code_alike t u n (λ j l. f j (omega (arith, l))) i ++ (node (f (code_width * n) (omega arith) i) (f (code_width * n + 1) (omega arith) i) (f (code_width * n + 2) (omega arith) i) (f (code_width * n + 3) (omega arith) i) ∷ [])

-- ONE NODE MORE, stored behind the others, whatever the table holds behind them
pub code_put : (t : List ℕ) (n k a b c : ℕ) → code_width * n + code_width ≤ length t → code_of (stored t (code_width * n) (k ∷ a ∷ b ∷ c ∷ [])) (suc n) ≡ code_of t n ++ (node k a b c ∷ [])
unfolding code_of
code_put t n k a b c h =
    let ws : List ℕ = k ∷ a ∷ b ∷ c ∷ [] in
    let inside : code_width * n ≤ length t = omega (arith, h) in
    let w : (i : ℕ) → i < 4 → get_or (stored t (code_width * n) ws) (code_width * n + i) 0 ≡ get_or ws i 0 = λ i l. stored_in t ws (code_width * n) i inside l in
    let first : get_or (stored t (code_width * n) ws) (code_width * n) 0 ≡ k = ap (λ (i : ℕ). get_or (stored t (code_width * n) ws) i 0) {x = code_width * n} {y = code_width * n + 0} (omega arith) ∙ w 0 (omega arith) in
    let rest = code_alike t (stored t (code_width * n) ws) n (λ i l. stored_before t ws (code_width * n) i inside l) in
    λ i. rest i ++ (node (first i) (w 1 (omega arith) i) (w 2 (omega arith) i) (w 3 (omega arith) i) ∷ [])
