-- A refusal as the programs print it: "refused N at P", with the number that the papers give the reason.
-- Assumes nothing.
use Rattle.std.specs.Prelude.{ℕ, List, ◌++◌, codes}
use Rattle.std.specs.Fmt.{decimal}

abbrev pub refusal_text : ℕ → ℕ → List ℕ
refusal_text number place = codes "refused " ++ decimal number ++ codes " at " ++ decimal place
