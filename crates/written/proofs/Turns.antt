-- The turns of the walk over a stack of parts: a piece is taken off, or a node gives way to its parts.
-- Assumes nothing.
use mathlib.Core.Path.{◌≡◌, refl, sym, ap, subst, ◌∙◌}
use mathlib.Core.Bool.{Bool, true}
use mathlib.Core.List.{List, [], ◌∷◌, ◌++◌}
use mathlib.Core.Option.{none}
use Prim.Native.Nat.{ℕ, suc, ◌+◌, ◌-◌, ◌≤◌, ◌<◌}
use native.Mathlib.Omega.{arith}
use lib.ListN.{length, drop, get_or, set, length-drop, length-set}
use lib.Seq.{drop-cons}
use Rattle.std.specs.Prelude as Std
use Rattle.std.specs.Prelude.{map}
use Rattle.std.proofs.lemmas.List.{drop-set, drop_all, length-map}
use Rattle.meaning.specs.Records.{Node}
use Rattle.meaning.specs.Queries.{query_at}
use Rattle.meaning.specs.Written.{piece_bytes, is_wide, between}
use Rattle.meaning.proofs.Codes.{query_nodes_lem}
use Rattle.words.specs.Says.{found}
use Rattle.spelling.specs.Says.{Spells}
use Rattle.parts.specs.declared.Part.{Part}
use Rattle.parts.specs.Items as Items
use Rattle.parts.specs.Items.{Item, piece, query}
use Rattle.parts.specs.Stacks.{item_of, items_of, Grown}
use Rattle.written.specs.Says.{Ready, root_of, joined, owns, inside, spaced, Tells}
use Rattle.written.proofs.Flat.{query_nodes, weigh, weight, weight_append, weight_most, lighter, weighs, AllWithin}
use Rattle.written.proofs.Deep.{depth}
use Rattle.written.proofs.Trees.{root_size}
use Rattle.written.proofs.Words.{Named, in_item, heavy}
use Rattle.written.proofs.Going.{Going, going_none, going_piece, going_node, going_all}

-- THE WALK over a stack of parts
module _ (C : List Node) where
  pub record Walking (first stack : List Part) (before text : List ℕ) (top at : ℕ) (last : Std.Option Bool) (low : Std.Option ℕ) : Type 0 where
    pub room : 6150 ≤ length stack
    pub same : length stack ≡ length first
    pub order : top ≤ length stack
    pub going : Going (length C) (root_of C) before text at last (found low) (items_of C stack top)

  abbrev pub measure : List Part → ℕ → ℕ
  measure stack top = weight (items_of C stack top)

  -- the query has no more nodes than the table may have
  few_nodes : Ready C → query_nodes (root_of C) ≤ 1024
  few_nodes r = omega (arith, root_size C r.lowers.low r.rooted r.root r.once, r.lowers.few)

  pub walking_none : Ready C → (s : List Part) {x : List ℕ} {n w : ℕ} → 6150 ≤ length s → suc n ≡ length s → w ≡ length C - 1
      → Walking (set s n (Part.Query true 0 w)) (set s n (Part.Query true 0 w)) x x n 0 Std.None Std.None
  walking_none r s {x} {n} {w} h l e =
      let q = root_of C in
      let t = set s n (Part.Query true 0 w) in
      let low : length C - 1 < length C = omega (arith, r.rooted) in
      let behind : drop (n + 1) s ≡ [] = drop_all (n + 1) s (omega arith) in
      let items : items_of C t n ≡ query true 0 q ∷ [] = ap (map (item_of C)) (drop-set s n (Part.Query true 0 w) (omega arith) ∙ ap (λ (l : List Part). Part.Query true 0 w ∷ l) behind) ∙ ap (λ (i : ℕ). query true 0 (query_at C i) ∷ []) e in
      record {
        room = omega (arith, length-set s n (Part.Query true 0 w));
        same = refl;
        order = omega (arith, length-set s n (Part.Query true 0 w));
        going = subst (λ (l : List Item). Going (length C) q x x 0 Std.None none l) (sym items) (going_none (length C) q (query_nodes_lem C r.lowers.low (length C - 1) low) (few_nodes r));
      }

  pub walking_all : {z s : List Part} {t u : List ℕ} {m at : ℕ} {last : Std.Option Bool} {low : Std.Option ℕ} → Walking z s t u m at last low → length s ≤ m → Tells (root_of C) (record { bytes = at; deep = low }) t u
  walking_all {z} {s} {t} {u} {m} {at} {last} {low} g h =
      going_all (subst (λ (l : List Item). Going (length C) (root_of C) t u at last (found low) l) (ap (map (item_of C)) (drop_all m s h)) g.going)

  module _ {z s : List Part} {t u : List ℕ} {m at : ℕ} {last : Std.Option Bool} {low : Std.Option ℕ} (g : Walking z s t u m at last low) where
    pub at_small : at ≤ 65536
    at_small = omega (arith, g.going.light)

    module _ (h : m < length s) (x : Part) (p : x ≡ get_or s m (Part.Piece 0 0)) where
      abbrev item : Item
      item = item_of C x

      abbrev rest : List Item
      rest = items_of C s (m + 1)

      top_is : items_of C s m ≡ item ∷ rest
      top_is =
          let e : suc m ≡ m + 1 = omega arith in
          ap (map (item_of C)) (drop-cons s m (Part.Piece 0 0) h ∙ (λ i. sym p i ∷ drop (e i) s))

      topped : Going (length C) (root_of C) t u at last (found low) (item ∷ rest)
      topped = subst (λ (l : List Item). Going (length C) (root_of C) t u at last (found low) l) top_is g.going

      top_weight : weight (items_of C s m) ≡ weigh item + weight rest
      unfolding weight
      top_weight = ap weight top_is

      pub piece_less : weight rest < weight (items_of C s m)
      piece_less = omega (arith, top_weight, weighs item)

      -- a piece
      pub piece_turn : {k w : ℕ} {r : ℕ} {own : Bool} {v : List ℕ} → x ≡ Part.Piece k w → Spells at r (between (spaced last (k, w)) ++ piece_bytes (k, w)) u v → own ≡ is_wide (k, w) → Walking z s t v (m + 1) r (Std.Some own) low
      piece_turn {k} {w} {r} {own} {v} e b o =
          let q = root_of C in
          let before = subst (λ (x : Part). Going (length C) q t u at last (found low) (item_of C x ∷ rest)) e topped in
          record { room = g.room; same = g.same; order = omega arith; going = subst (λ (b : Bool). Going (length C) q t v r (Std.Some b) (found low) rest) (sym o) (going_piece k w before b) }

      -- a node
      module _ {d a : ℕ} (here : Named item d a) where
        pub node_low : a < length C
        unfolding AllWithin
        node_low = omega (arith, in_item (length C) item here.whole topped.within.0, here.number)

        pub node_room : 7 ≤ m + 1
        node_room = omega (arith, g.going.light, g.room, top_weight, heavy item here.whole, simp (length-map, length-drop) at (weight_most rest))

        module _ {v : List Part} {r e : ℕ} {op : Bool} (opens : op ≡ Items.opens item) (deep : e ≡ inside op d) (grown : Grown C s (m + 1) v r (Items.parts_of e item)) where
          new_items : items_of C v r ≡ Items.parts_of (inside (Items.opens item) (depth item)) item ++ rest
          new_items =
              grown.is ∙ ap (λ (i : ℕ). Items.parts_of i item ++ rest) (deep ∙ (λ i. inside (opens i) (sym here.open_around i)))

          pub node_turn : {n : ℕ} {o : Std.Option ℕ} → length v ≡ length s → n ≡ a → found o ≡ joined (found low) (owns op d n) → Walking z v t u r at last o
          node_turn l at_node lows =
              record {
                room = omega (arith, g.room, l);
                same = l ∙ g.same;
                order = omega (arith, grown.order, l);
                going = going_node item here.whole topped (lows ∙ (λ i. joined (found low) (owns (opens i) (sym here.open_around i) ((at_node ∙ sym here.number) i)))) new_items;
              }

          pub node_less : weight (items_of C v r) < weight (items_of C s m)
          node_less =
              let i = inside (Items.opens item) (depth item) in
              omega (arith, top_weight, ap weight new_items, weight_append (Items.parts_of i item) rest, lighter i item here.whole)
