-- Parts put on a stack.
-- Assumes nothing.
use Rattle.std.proofs.Common.{◌≡◌, ℕ, List, ◌++◌, map, drop, ap, ◌∙◌}
use Rattle.std.proofs.lemmas.List.{map-append}
use Rattle.meaning.specs.Records.{Node}
use Rattle.parts.specs.declared.Part.{Part}
use Rattle.parts.specs.Items.{Item}
use Rattle.parts.specs.Stacks.{item_of, items_of, Pushed, Grown}

-- what they are
pub grown : (C : List Node) {t u : List Part} {n m : ℕ} {parts : List Part} {items : List Item} → Pushed t n u m parts → map (item_of C) parts ≡ items → Grown C t n u m items
grown C {t} {n = n} {parts = parts} p e =
    record { order = p.order; is = ap (map (item_of C)) p.is ∙ map-append (item_of C) parts (drop n t) ∙ ap (λ (l : List Item). l ++ items_of C t n) e }
