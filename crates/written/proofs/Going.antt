-- The walk: what is in the buffer with what the parts on the stack add is the text, and the lowest node so far with those of the parts is the lowest.
-- Assumes nothing.
use mathlib.Core.Path.{◌≡◌, sym, ap, subst, ◌∙◌}
use mathlib.Core.Bool.{Bool, true}
use mathlib.Core.List.{List, [], ◌∷◌, ◌++◌, append_assoc, append-nil}
use mathlib.Core.Option.{Option, none}
use Prim.Native.Nat.{ℕ, ◌+◌, ◌*◌, ◌≤◌, ◌<◌}
use native.Mathlib.Omega.{arith}
use lib.ListN.{length}
use Rattle.std.specs.Prelude as Std
use Rattle.meaning.specs.Base.{concat_map}
use Rattle.meaning.specs.Queries.{Query}
use Rattle.meaning.specs.Written as Written
use Rattle.meaning.specs.Written.{Piece, piece_bytes, is_wide, between, text_of, deep_query, least}
use Rattle.meaning.proofs.Lists.{concat_append}
use Rattle.meaning.proofs.Nodes.{InQuery}
use Rattle.words.specs.Says.{found}
use Rattle.spelling.specs.Says.{Spells}
use Rattle.spelling.proofs.Spelling.{spells_none, spells_then}
use Rattle.parts.specs.Items as Items
use Rattle.parts.specs.Items.{Item, piece, query}
use Rattle.written.specs.Says.{joined, owns, inside, spaced, Tells}
use Rattle.written.proofs.Flat.{flat, Whole, flat_parts, query_nodes, weight, weight_append, lighter, AllWithin, within_append, within_parts}
use Rattle.written.proofs.Deep.{deeps, node, depth, deep_parts}
use Rattle.written.proofs.Lows.{joined_append, joined_least}
use Rattle.written.proofs.Laying.{onward, laid_onward, next_short}

-- a table of n nodes, the query, the buffer before the walk and now; how far the walk has come, and the parts that are left
pub record Going (n : ℕ) (q : Query) (before after : List ℕ) (at : ℕ) (last : Std.Option Bool) (low : Option ℕ) (items : List Item) : Type 0 where
  pub done : List ℕ
  pub put : Spells 0 at done before after
  pub whole : done ++ onward last (concat_map flat items) ≡ text_of q
  pub deep : joined low (concat_map deeps items) ≡ least (deep_query true 0 q)
  pub within : AllWithin n items
  pub light : at + 7 * weight items ≤ 43008

-- nothing is written
pub going_none : (n : ℕ) (q : Query) {t : List ℕ} → InQuery (λ i. i < n) q → query_nodes q ≤ 1024 → Going n q t t 0 Std.None none (query true 0 q ∷ [])
unfolding concat_map weight AllWithin
going_none n q h l =
    record {
      done = [];
      put = spells_none;
      whole = ap (onward Std.None) (append-nil (Written.of_query true q)) ∙ laid_onward (Written.of_query true q);
      deep = ap (joined none) (append-nil (deep_query true 0 q)) ∙ joined_least (deep_query true 0 q);
      within = (h, tt);
      light = omega arith;
    }

module _ {n : ℕ} {q : Query} {t u : List ℕ} {at : ℕ} {last : Std.Option Bool} {low : Option ℕ} {rest : List Item} where
  -- a piece is written
  pub going_piece : (k v : ℕ) {r : ℕ} {w : List ℕ} → Going n q t u at last low (piece k v ∷ rest) → Spells at r (between (spaced last (k, v)) ++ piece_bytes (k, v)) u w → Going n q t w r (Std.Some (is_wide (k, v))) low rest
  unfolding concat_map weight AllWithin onward
  going_piece k v g x =
      let new = between (spaced last (k, v)) ++ piece_bytes (k, v) in
      record {
        done = g.done ++ new;
        put = spells_then g.put x;
        whole = append_assoc g.done new (onward (Std.Some (is_wide (k, v))) (concat_map flat rest)) ∙ g.whole;
        deep = g.deep;
        within = g.within.1;
        light = omega (arith, g.light, x.next, next_short (spaced last (k, v)) k v);
      }

  -- a part gives way to its parts
  pub going_node : (x : Item) {o : Option ℕ} {items : List Item} → Whole x → Going n q t u at last low (x ∷ rest) → o ≡ joined low (owns (Items.opens x) (depth x) (node x)) → items ≡ Items.parts_of (inside (Items.opens x) (depth x)) x ++ rest → Going n q t u at last o items
  unfolding concat_map weight AllWithin
  going_node x {o} {items} h g e p =
      let e' = inside (Items.opens x) (depth x) in
      let own = Items.parts_of e' x in
      let f : concat_map flat items ≡ flat x ++ concat_map flat rest = ap (concat_map flat) p ∙ concat_append flat own rest ∙ ap (λ (l : List Piece). l ++ concat_map flat rest) (flat_parts e' x h) in
      let mine = owns (Items.opens x) (depth x) (node x) in
      let d : deeps x ++ concat_map deeps rest ≡ mine ++ concat_map deeps items =
      ap (λ (l : List ℕ). l ++ concat_map deeps rest) (deep_parts x h) ∙ append_assoc mine (concat_map deeps own) (concat_map deeps rest) ∙ ap (λ (l : List ℕ). mine ++ l) (sym (ap (concat_map deeps) p ∙ concat_append deeps own rest)) in
      record {
        done = g.done;
        put = g.put;
        whole = ap (λ (l : List Piece). g.done ++ onward last l) f ∙ g.whole;
        deep = ap (λ (y : Option ℕ). joined y (concat_map deeps items)) e ∙ sym (joined_append low mine (concat_map deeps items)) ∙ ap (joined low) (sym d) ∙ g.deep;
        within = subst (AllWithin n) (sym p) (within_append n own rest (within_parts n e' x g.within.0) g.within.1);
        light = omega (arith, g.light, ap weight p, weight_append own rest, lighter e' x h);
      }

-- nothing is left
pub going_all : {n : ℕ} {q : Query} {t u : List ℕ} {at : ℕ} {last : Std.Option Bool} {low : Std.Option ℕ} → Going n q t u at last (found low) [] → Tells q (record { bytes = at; deep = low }) t u
unfolding concat_map joined onward
going_all {q = q} {t = t} {u = u} {at = at} g =
    let e : g.done ≡ text_of q = sym (append-nil g.done) ∙ g.whole in
    record {
      long = g.put.long;
      size = omega (arith, g.put.next, ap length e);
      deep = g.deep;
      holds = λ h. g.put.behind h ∙ e;
    }
