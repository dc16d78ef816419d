-- Forests: their words in a table, their trees, what stands inside and below them, and the test word.
-- Assumes nothing.
use Rattle.std.specs.Prelude.{ℕ, suc, ◌+◌, Bool, true, false, ◌&&◌, List, [], ◌∷◌, ◌++◌, eqb}
use Rattle.meaning.specs.Kinds.{forest·text, forest·label}

-- "A forest is a list of trees. A tree is a text leaf or a label with a forest": the first tree, and then the rest.
pub data Forest : Type 0 where
  end : Forest
  leaf : ℕ → Forest → Forest
  tree : ℕ → Forest → Forest → Forest

-- one forest followed by another
unfoldable pub join : Forest → Forest → Forest
join end g = g
join (leaf t r) g = leaf t (join r g)
join (tree l f r) g = tree l f (join r g)

-- how many entries it takes, and how many trees stand at its top
unfoldable pub size : Forest → ℕ
size end = 0
size (leaf t r) = suc (size r)
size (tree l f r) = suc (size f + size r)

unfoldable pub trees : Forest → ℕ
trees end = 0
trees (leaf t r) = suc (trees r)
trees (tree l f r) = suc (trees r)

-- "(64, text, 0) or (65, label, entries inside), parents before children"
unfoldable pub forest_words : Forest → List ℕ
forest_words end = []
forest_words (leaf t r) = forest·text ∷ t ∷ 0 ∷ forest_words r
forest_words (tree l f r) = forest·label ∷ l ∷ size f ∷ (forest_words f ++ forest_words r)

-- EQUAL. "equal holds if both forests are the same, entry for entry"
unfoldable pub same_words : List ℕ → List ℕ → Bool
same_words [] [] = true
same_words [] (y ∷ ys) = false
same_words (x ∷ xs) [] = false
same_words (x ∷ xs) (y ∷ ys) = eqb x y && same_words xs ys

abbrev pub same : Forest → Forest → Bool
same f g = same_words (forest_words f) (forest_words g)

-- THE TEST WORD. What it looks at: the top of a tree, and likewise of an atom of a type.
pub data Head : Type 0 where
  text : Head
  label : ℕ → Head

abbrev pub is_text : Head → Bool
is_text text = true
is_text (label l) = false

abbrev pub is_labelled : ℕ → Head → Bool
is_labelled w text = false
is_labelled w (label l) = eqb w l

-- "A test word of 0 keeps every tree, 65535 keeps text leaves, the rest keep trees of that label."
unfoldable pub passes : ℕ → Head → Bool
passes w h = elim (eqb w 0) [ true ↦ true | false ↦ elim (eqb w 65535) [ true ↦ is_text h | false ↦ is_labelled w h ] ]

-- a forest, or nothing
abbrev pub keep : Bool → Forest → Forest
keep true f = f
keep false f = end

-- the trees at the top that pass (S figure 5, f :: NodeTest)
unfoldable pub select : ℕ → Forest → Forest
select w end = end
select w (leaf t r) = join (keep (passes w text) (leaf t end)) (select w r)
select w (tree l f r) = join (keep (passes w (label l)) (tree l f end)) (select w r)

-- the forests inside the trees at the top (S figure 5, childr)
unfoldable pub children : Forest → Forest
children end = end
children (leaf t r) = children r
children (tree l f r) = join f (children r)

-- "dos takes the tree and all below it, each whole", in document order (S figure 5, dos)
unfoldable pub below : Forest → Forest
below end = end
below (leaf t r) = leaf t (below r)
below (tree l f r) = tree l f (join (below f) (below r))

-- what a body makes of each tree in turn, joined (S figure 4, for)
unfoldable pub over : (Forest → Forest) → Forest → Forest
over body end = end
over body (leaf t r) = join (body (leaf t end)) (over body r)
over body (tree l f r) = join (body (tree l f end)) (over body r)
