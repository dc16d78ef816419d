-- Texts and what the definitions give for them, computed: queries of each form, and each refusal of the parser but 23, 5 and 30.
-- Assumes nothing.
use mathlib.Core.Path.{◌≡◌, refl}
use mathlib.Core.List.{[], ◌∷◌}
use Rattle.meaning.specs.Base.{ok, refused, find, concat_map, bytes_of}
use Rattle.meaning.specs.Forests.{same_words}
use Rattle.meaning.specs.Records.{forms}
use Rattle.meaning.specs.Tokens.{words, signs, run, word_among, sign_among, decimal, front, token_at}
use Rattle.meaning.specs.Texts
use Rattle.meaning.specs.Texts.{expect, number_in, opened, variable_at, test_at, cond_by, cond_at, step_at, group_at, item_by, joined_by, query_at, parse, cond_nodes, query_nodes, parse_text}

unfoldable all : Unit {0}
unfolding find concat_map bytes_of same_words forms words signs run word_among sign_among decimal front token_at expect number_in opened variable_at test_at cond_by cond_at step_at group_at item_by joined_by query_at parse cond_nodes query_nodes parse_text
all = tt

-- '()'
row0 : Texts.parse_text 100 (40 ∷ 41 ∷ []) ≡ ok (4 ∷ 0 ∷ 32 ∷ 0 ∷ [])
unfolding all
row0 = refl

-- '#7'
row1 : Texts.parse_text 100 (35 ∷ 55 ∷ []) ≡ ok (6 ∷ 0 ∷ 33 ∷ 0 ∷ 7 ∷ 0 ∷ [])
unfolding all
row1 = refl

-- ' 2 [ ( ) ] '
row2 : Texts.parse_text 100 (32 ∷ 50 ∷ 32 ∷ 91 ∷ 32 ∷ 40 ∷ 32 ∷ 41 ∷ 32 ∷ 93 ∷ 32 ∷ []) ≡ ok (4 ∷ 0 ∷ 32 ∷ 0 ∷ 8 ∷ 0 ∷ 34 ∷ 0 ∷ 2 ∷ 0 ∷ 0 ∷ 0 ∷ [])
unfolding all
row2 = refl

-- '$1/node,$2//text,$3/9'
row3 : Texts.parse_text 100 (36 ∷ 49 ∷ 47 ∷ 110 ∷ 111 ∷ 100 ∷ 101 ∷ 44 ∷ 36 ∷ 50 ∷ 47 ∷ 47 ∷ 116 ∷ 101 ∷ 120 ∷ 116 ∷ 44 ∷ 36 ∷ 51 ∷ 47 ∷ 57 ∷ []) ≡ ok (8 ∷ 0 ∷ 37 ∷ 0 ∷ 1 ∷ 0 ∷ 0 ∷ 0 ∷ 8 ∷ 0 ∷ 38 ∷ 0 ∷ 2 ∷ 0 ∷ 255 ∷ 255 ∷ 8 ∷ 0 ∷ 37 ∷ 0 ∷ 3 ∷ 0 ∷ 9 ∷ 0 ∷ 8 ∷ 0 ∷ 35 ∷ 0 ∷ 1 ∷ 0 ∷ 2 ∷ 0 ∷ 8 ∷ 0 ∷ 35 ∷ 0 ∷ 0 ∷ 0 ∷ 3 ∷ 0 ∷ [])
unfolding all
row3 = refl

-- 'for $1 in $0 return 2[$1]'
row4 : Texts.parse_text 100 (102 ∷ 111 ∷ 114 ∷ 32 ∷ 36 ∷ 49 ∷ 32 ∷ 105 ∷ 110 ∷ 32 ∷ 36 ∷ 48 ∷ 32 ∷ 114 ∷ 101 ∷ 116 ∷ 117 ∷ 114 ∷ 110 ∷ 32 ∷ 50 ∷ 91 ∷ 36 ∷ 49 ∷ 93 ∷ []) ≡ ok (6 ∷ 0 ∷ 36 ∷ 0 ∷ 0 ∷ 0 ∷ 6 ∷ 0 ∷ 36 ∷ 0 ∷ 1 ∷ 0 ∷ 8 ∷ 0 ∷ 34 ∷ 0 ∷ 2 ∷ 0 ∷ 1 ∷ 0 ∷ 10 ∷ 0 ∷ 39 ∷ 0 ∷ 1 ∷ 0 ∷ 0 ∷ 0 ∷ 2 ∷ 0 ∷ [])
unfolding all
row4 = refl

-- 'let $5:=(#1,#2)return $5'
row5 : Texts.parse_text 100 (108 ∷ 101 ∷ 116 ∷ 32 ∷ 36 ∷ 53 ∷ 58 ∷ 61 ∷ 40 ∷ 35 ∷ 49 ∷ 44 ∷ 35 ∷ 50 ∷ 41 ∷ 114 ∷ 101 ∷ 116 ∷ 117 ∷ 114 ∷ 110 ∷ 32 ∷ 36 ∷ 53 ∷ []) ≡ ok (6 ∷ 0 ∷ 33 ∷ 0 ∷ 1 ∷ 0 ∷ 6 ∷ 0 ∷ 33 ∷ 0 ∷ 2 ∷ 0 ∷ 8 ∷ 0 ∷ 35 ∷ 0 ∷ 0 ∷ 0 ∷ 1 ∷ 0 ∷ 6 ∷ 0 ∷ 36 ∷ 0 ∷ 5 ∷ 0 ∷ 10 ∷ 0 ∷ 40 ∷ 0 ∷ 5 ∷ 0 ∷ 2 ∷ 0 ∷ 3 ∷ 0 ∷ [])
unfolding all
row5 = refl

-- 'when (not empty $1 or $1=$2) return ()'
row6 : Texts.parse_text 100 (119 ∷ 104 ∷ 101 ∷ 110 ∷ 32 ∷ 40 ∷ 110 ∷ 111 ∷ 116 ∷ 32 ∷ 101 ∷ 109 ∷ 112 ∷ 116 ∷ 121 ∷ 32 ∷ 36 ∷ 49 ∷ 32 ∷ 111 ∷ 114 ∷ 32 ∷ 36 ∷ 49 ∷ 61 ∷ 36 ∷ 50 ∷ 41 ∷ 32 ∷ 114 ∷ 101 ∷ 116 ∷ 117 ∷ 114 ∷ 110 ∷ 32 ∷ 40 ∷ 41 ∷ []) ≡ ok (6 ∷ 0 ∷ 51 ∷ 0 ∷ 1 ∷ 0 ∷ 6 ∷ 0 ∷ 53 ∷ 0 ∷ 0 ∷ 0 ∷ 8 ∷ 0 ∷ 50 ∷ 0 ∷ 1 ∷ 0 ∷ 2 ∷ 0 ∷ 8 ∷ 0 ∷ 52 ∷ 0 ∷ 1 ∷ 0 ∷ 2 ∷ 0 ∷ 4 ∷ 0 ∷ 32 ∷ 0 ∷ 8 ∷ 0 ∷ 41 ∷ 0 ∷ 3 ∷ 0 ∷ 4 ∷ 0 ∷ [])
unfolding all
row6 = refl

-- ''
row7 : Texts.parse_text 100 ([]) ≡ refused 22 0
unfolding all
row7 = refl

-- '  '
row8 : Texts.parse_text 100 (32 ∷ 32 ∷ []) ≡ refused 22 2
unfolding all
row8 = refl

-- '2[]'
row9 : Texts.parse_text 100 (50 ∷ 91 ∷ 93 ∷ []) ≡ refused 22 2
unfolding all
row9 = refl

-- '0[()]'
row10 : Texts.parse_text 100 (48 ∷ 91 ∷ 40 ∷ 41 ∷ 93 ∷ []) ≡ refused 6 0
unfolding all
row10 = refl

-- '#65536'
row11 : Texts.parse_text 100 (35 ∷ 54 ∷ 53 ∷ 53 ∷ 51 ∷ 54 ∷ []) ≡ refused 6 1
unfolding all
row11 = refl

-- '$64'
row12 : Texts.parse_text 100 (36 ∷ 54 ∷ 52 ∷ []) ≡ refused 6 1
unfolding all
row12 = refl

-- '$1/0'
row13 : Texts.parse_text 100 (36 ∷ 49 ∷ 47 ∷ 48 ∷ []) ≡ refused 6 3
unfolding all
row13 = refl

-- '() ()'
row14 : Texts.parse_text 100 (40 ∷ 41 ∷ 32 ∷ 40 ∷ 41 ∷ []) ≡ refused 22 3
unfolding all
row14 = refl

-- 'forx'
row15 : Texts.parse_text 100 (102 ∷ 111 ∷ 114 ∷ 120 ∷ []) ≡ refused 22 0
unfolding all
row15 = refl

-- '$1:2'
row16 : Texts.parse_text 100 (36 ∷ 49 ∷ 58 ∷ 50 ∷ []) ≡ refused 22 2
unfolding all
row16 = refl
