-- What the one table of records says of a known kind: its row as a relation, the lengths and kinds of each section, and what it means that fields fit.
-- Assumes nothing.
use mathlib.Core.Path.{◌≡◌, refl}
use mathlib.Core.Bool.{Bool, true, false, not, ◌&&◌}
use mathlib.Core.List.{List, [], ◌∷◌}
use mathlib.Core.Option.{Option, none, some}
use Prim.Native.Nat.{ℕ, ◌≤◌, ◌<◌}
use borrow.Author.Tests.{leb-true, ltb-true, not-true}
use lib.Dec.{leb, ltb}
use lib.ListN.{length}
use Rattle.meaning.specs.Base.{find}
use Rattle.meaning.specs.Kinds
use Rattle.meaning.specs.Records.{Section, types, definitions, variables, query, result, value, Sort, label, entry_no, def_no, var_no, any_word, query_no, cond_no, Form, forms, File, has_section, own_form, length_of, Node, node_at, is_condition, fits, all_fit}
use Rattle.meaning.specs.Formed.{Names}
use Rattle.meaning.proofs.Lists.{absurd_option, both_true}
use Rattle.meaning.proofs.Finding.{Rows, end, ◌&◌, find_row, test_rows}

-- THE GRAMMAR as a relation: a section, a kind and the sorts of its fields
pub data Row : Section → ℕ → List Sort → Type 0 where
  type·element : Row types Kinds.type·element (label ∷ entry_no ∷ [])
  type·pair : Row types Kinds.type·pair (entry_no ∷ entry_no ∷ [])
  type·union : Row types Kinds.type·union (entry_no ∷ entry_no ∷ [])
  type·star : Row types Kinds.type·star (entry_no ∷ [])
  type·plus : Row types Kinds.type·plus (entry_no ∷ [])
  type·opt : Row types Kinds.type·opt (entry_no ∷ [])
  type·name : Row types Kinds.type·name (def_no ∷ [])
  definition : Row definitions Kinds.record·definition (entry_no ∷ [])
  tree : Row variables Kinds.record·tree (var_no ∷ entry_no ∷ [])
  forest : Row variables Kinds.record·forest (var_no ∷ entry_no ∷ [])
  query·empty : Row query Kinds.query·empty []
  query·text : Row query Kinds.query·text (any_word ∷ [])
  query·element : Row query Kinds.query·element (label ∷ query_no ∷ [])
  query·pair : Row query Kinds.query·pair (query_no ∷ query_no ∷ [])
  query·variable : Row query Kinds.query·variable (var_no ∷ [])
  query·child : Row query Kinds.query·child (var_no ∷ any_word ∷ [])
  query·dos : Row query Kinds.query·dos (var_no ∷ any_word ∷ [])
  query·for : Row query Kinds.query·for (var_no ∷ query_no ∷ query_no ∷ [])
  query·let : Row query Kinds.query·let (var_no ∷ query_no ∷ query_no ∷ [])
  query·when : Row query Kinds.query·when (cond_no ∷ query_no ∷ [])
  condition·true : Row query Kinds.condition·true []
  condition·false : Row query Kinds.condition·false []
  condition·equal : Row query Kinds.condition·equal (var_no ∷ var_no ∷ [])
  condition·empty : Row query Kinds.condition·empty (var_no ∷ [])
  condition·or : Row query Kinds.condition·or (cond_no ∷ cond_no ∷ [])
  condition·not : Row query Kinds.condition·not (cond_no ∷ [])
  record·result : Row result Kinds.record·result (entry_no ∷ [])
  forest·text : Row value Kinds.forest·text (any_word ∷ [])
  forest·label : Row value Kinds.forest·label (label ∷ any_word ∷ [])
  value·variable : Row value Kinds.value·variable (var_no ∷ any_word ∷ [])

all_rows : Rows (λ k f. Row f.section k f.sorts) forms
unfolding forms
all_rows =
    type·element & type·pair & type·union & type·star & type·plus & type·opt & type·name
    & definition & tree & forest
    & query·empty & query·text & query·element & query·pair & query·variable & query·child & query·dos & query·for & query·let & query·when
    & condition·true & condition·false & condition·equal & condition·empty & condition·or & condition·not
    & record·result & forest·text & forest·label & value·variable & end

pub form_row : (k : ℕ) {f : Form} → find k forms ≡ some f → Row f.section k f.sorts
form_row k {f} e = find_row k f all_rows e

-- LENGTHS: the shortest and the longest record of a section
abbrev pub shortest : Section → ℕ
shortest types = 6
shortest definitions = 6
shortest variables = 8
shortest query = 4
shortest result = 6
shortest value = 6

abbrev pub longest : Section → ℕ
longest types = 8
longest definitions = 6
longest variables = 8
longest query = 10
longest result = 6
longest value = 8

sized : ℕ → Form → Bool
sized k f = leb (shortest f.section) (length_of f) && leb (length_of f) (longest f.section)

pub form_length : (k : ℕ) {f : Form} → find k forms ≡ some f → (shortest f.section ≤ length_of f) × (length_of f ≤ longest f.section)
unfolding forms sized
form_length k {f} e =
    let both = both_true (leb (shortest f.section) (length_of f)) (leb (length_of f) (longest f.section)) (find_row k f (test_rows sized forms refl) e) in
    (leb-true _ _ both.0, leb-true _ _ both.1)

-- the form of a kind in a file is its form, of a section that the file has
pub own_form_lem : (file : File) (o : Option Form) (f : Form) → own_form file o ≡ some f → (o ≡ some f) × (has_section file f.section ≡ true)
own_form_lem file none f h = absurd_option h
own_form_lem file (some g) f h = go (has_section file g.section) refl h
  where
    go : (c : Bool) → has_section file g.section ≡ c → (elim c as (λ _. Option Form) [ true ↦ some g | false ↦ none ]) ≡ some f → (some g ≡ some f) × (has_section file f.section ≡ true)
    go true e p = let same : g ≡ f = cc in (p, rw (← same) e)
    go false e p = absurd_option p

-- FITTING
-- what it means that a field fits its sort
abbrev pub Fit : ℕ → List Node → Sort → ℕ → Type 0
Fit n code label w = (1 ≤ w) × (w ≤ 65534)
Fit n code entry_no w = w < n
Fit n code def_no w = w ≤ 63
Fit n code var_no w = w ≤ 63
Fit n code any_word w = Unit {0}
Fit n code query_no w = Names code (length code) false w
Fit n code cond_no w = Names code (length code) true w

pub fit : (n : ℕ) (code : List Node) (s : Sort) (w : ℕ) → fits n code s w ≡ true → Fit n code s w
fit n code label w h = let both = both_true (leb 1 w) (leb w 65534) h in (leb-true _ _ both.0, leb-true _ _ both.1)
fit n code entry_no w h = ltb-true _ _ h
fit n code def_no w h = leb-true _ _ h
fit n code var_no w h = leb-true _ _ h
fit n code any_word w h = tt
fit n code query_no w h =
    let both = both_true (ltb w (length code)) (not (is_condition (node_at code w).kind)) h in
    record { low = ltb-true _ _ both.0; sort = not-true _ both.1 }
fit n code cond_no w h =
    let both = both_true (ltb w (length code)) (is_condition (node_at code w).kind) h in
    record { low = ltb-true _ _ both.0; sort = both.1 }

abbrev pub AllFit : ℕ → List Node → List Sort → List ℕ → Type 0
AllFit n code [] ws = Unit {0}
AllFit n code (s ∷ ss) [] = Unit {0}
AllFit n code (s ∷ ss) (w ∷ ws) = Fit n code s w × AllFit n code ss ws

pub all_fit_lem : (n : ℕ) (code : List Node) (ss : List Sort) (ws : List ℕ) → all_fit n code ss ws ≡ true → AllFit n code ss ws
unfolding all_fit
all_fit_lem n code [] ws h = tt
all_fit_lem n code (s ∷ ss) [] h = tt
all_fit_lem n code (s ∷ ss) (w ∷ ws) h =
    let both = both_true (fits n code s w) (all_fit n code ss ws) h in
    (fit n code s w both.0, all_fit_lem n code ss ws both.1)
