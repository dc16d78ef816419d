-- Where a frame goes on, whichever it is: by the kind that its words show.
-- Assumes nothing.
use mathlib.Core.Path.{◌≡◌, sym, subst}
use mathlib.Core.List.{List}
use Prim.Native.Nat.{ℕ, ◌-◌, ◌≤◌, ◌<◌}
use native.Mathlib.Omega.{arith}
use lib.ListN.{length}
use Rattle.meaning.specs.Records.{Node, node}
use Rattle.meaning.specs.Queries.{Query}
use Rattle.meaning.specs.Tokens.{token_at}
use Rattle.meaning.specs.Texts.{Here, here, expect}
use Rattle.tokens.specs.declared.Placed.{Placed}
use Rattle.tokens.specs.Says.{kind_of, Tells}
use Rattle.std.specs.Prelude as Std
use Rattle.refusals.specs.declared.Refusal.{Refusal}
use Rattle.steps.specs.Says as Said
use Rattle.items.specs.declared.Act.{Act}
use Rattle.items.specs.declared.Open.{Open}
use Rattle.items.specs.declared.Binder.{Binder}
use Rattle.items.specs.Machine.{Frame, bound_kind, cont, Shown, shows_tail, shows_second, shows_group, shows_inside, shows_source, shows_body, shows_guarded}
use Rattle.items.specs.Says.{Has, Acts, Emitted, Goes}
use Rattle.items.proofs.Items.{token_on}
use Rattle.items.proofs.Goings.{tail_ends, tail_second, tail_again, group_closes, group_not, inside_closes, inside_not, source_on, source_not, second_made, body_made, when_made}

-- ITEMS that commas may follow
module _ (s : List ℕ) (at a nodes : ℕ) {t : Placed} (tells : Tells (token_at s at) t) {kind : ℕ} (is : kind ≡ kind_of t.token) (code : List ℕ) where
  pub tail_done : (kind ≡ 19 → ⊥) → Goes s at (Open.Tail a) nodes code (Std.Ok (Act.Done (record { next = at; nodes = nodes }))) code
  tail_done e = record { is = λ under f q h g. go g g.shown }
    where
      go : {under : List Frame} {f : Frame} {q : Query} {h : Here} → Has s at (Open.Tail a) nodes code under f q h → Shown h.nodes f (Open.Tail a) → Acts s at h.nodes under code (cont s f (q, h)) (Std.Ok (Act.Done (record { next = at; nodes = nodes })))
      go g (shows_tail kept) = tail_ends s at tells is g kept e

  module _ (e : kind ≡ 19) (inside : at ≤ length s) where
    pub tail_more : {z : ℕ} → nodes ≤ 1024 → z ≡ nodes - 1 → Goes s at (Open.Tail a) nodes code (Std.Ok (Act.More (Open.Second z) a (record { next = t.next; nodes = nodes }))) code
    tail_more {z} few y = record { is = λ under f q h g. go g g.shown }
      where
        go : {under : List Frame} {f : Frame} {q : Query} {h : Here} → Has s at (Open.Tail a) nodes code under f q h → Shown h.nodes f (Open.Tail a) → Acts s at h.nodes under code (cont s f (q, h)) (Std.Ok (Act.More (Open.Second z) a (record { next = t.next; nodes = nodes })))
        go g (shows_tail {k} {ms = ms} kept) = let on = token_on s at tells is inside (omega (arith, e)) in tail_second s at tells is e on.0 on.1 k ms g kept few y

    pub tail_same : 1024 < nodes → Goes s at (Open.Tail a) nodes code (Std.Ok (Act.Again a t.next)) code
    tail_same over = record { is = λ under f q h g. go g g.shown }
      where
        go : {under : List Frame} {f : Frame} {q : Query} {h : Here} → Has s at (Open.Tail a) nodes code under f q h → Shown h.nodes f (Open.Tail a) → Acts s at h.nodes under code (cont s f (q, h)) (Std.Ok (Act.Again a t.next))
        go g (shows_tail {k} {ms = ms} kept) = let on = token_on s at tells is inside (omega (arith, e)) in tail_again s at tells is e on.0 on.1 k ms g over

-- A QUERY IN PARENTHESES, and in the brackets of a label
module _ {s : List ℕ} {at nodes : ℕ} (code : List ℕ) where
  pub group_done : {next : ℕ} → Said.Goes s at (Std.Ok next) (λ n. expect s 16 (here at n)) → Goes s at Open.Group nodes code (Std.Ok (Act.Done (record { next = next; nodes = nodes }))) code
  group_done {next} w = record { is = λ under f q h g. go g g.shown }
    where
      go : {under : List Frame} {f : Frame} {q : Query} {h : Here} → Has s at Open.Group nodes code under f q h → Shown h.nodes f Open.Group → Acts s at h.nodes under code (cont s f (q, h)) (Std.Ok (Act.Done (record { next = next; nodes = nodes })))
      go g shows_group = group_closes g w

  pub group_stops : {x : Refusal} → Said.Goes s at (Std.Err x) (λ n. expect s 16 (here at n)) → Goes s at Open.Group nodes code (Std.Err x) code
  group_stops {x} w = record { is = λ under f q h g. go g g.shown }
    where
      go : {under : List Frame} {f : Frame} {q : Query} {h : Here} → Has s at Open.Group nodes code under f q h → Shown h.nodes f Open.Group → Acts s at h.nodes under code (cont s f (q, h)) (Std.Err x)
      go g shows_group = group_not g w

module _ {s : List ℕ} {at l nodes : ℕ} {code u : List ℕ} where
  pub inside_done : {next z : ℕ} {act : Act} → Said.Goes s at (Std.Ok next) (λ n. expect s 18 (here at n)) → z ≡ nodes - 1 → Emitted nodes (node 34 l z 0) next code act u → Goes s at (Open.Inside l) nodes code (Std.Ok act) u
  inside_done {act = act} w k m = record { is = λ under f q h g. go g g.shown }
    where
      go : {under : List Frame} {f : Frame} {q : Query} {h : Here} → Has s at (Open.Inside l) nodes code under f q h → Shown h.nodes f (Open.Inside l) → Acts s at h.nodes under u (cont s f (q, h)) (Std.Ok act)
      go g shows_inside = inside_closes g w k m

  pub inside_stops : {x : Refusal} → Said.Goes s at (Std.Err x) (λ n. expect s 18 (here at n)) → Goes s at (Open.Inside l) nodes code (Std.Err x) u
  inside_stops {x} w = record { is = λ under f q h g. go g g.shown }
    where
      go : {under : List Frame} {f : Frame} {q : Query} {h : Here} → Has s at (Open.Inside l) nodes code under f q h → Shown h.nodes f (Open.Inside l) → Acts s at h.nodes under u (cont s f (q, h)) (Std.Err x)
      go g shows_inside = inside_not g w

-- THE SOURCE of a for or let
module _ {s : List ℕ} {at v b nodes : ℕ} {c : Binder} (code : List ℕ) where
  pub source_more : {next z : ℕ} → Said.Goes s at (Std.Ok next) (λ n. expect s 5 (here at n)) → z ≡ nodes - 1 → Goes s at (Open.Source c v b) nodes code (Std.Ok (Act.More (Open.Body c v z) b (record { next = next; nodes = nodes }))) code
  source_more {next} {z} w y = record { is = λ under f q h g. go g g.shown }
    where
      go : {under : List Frame} {f : Frame} {q : Query} {h : Here} → Has s at (Open.Source c v b) nodes code under f q h → Shown h.nodes f (Open.Source c v b) → Acts s at h.nodes under code (cont s f (q, h)) (Std.Ok (Act.More (Open.Body c v z) b (record { next = next; nodes = nodes })))
      go g (shows_source {k = k}) = source_on k g w y

  pub source_stops : {x : Refusal} → Said.Goes s at (Std.Err x) (λ n. expect s 5 (here at n)) → Goes s at (Open.Source c v b) nodes code (Std.Err x) code
  source_stops {x} w = record { is = λ under f q h g. go g g.shown }
    where
      go : {under : List Frame} {f : Frame} {q : Query} {h : Here} → Has s at (Open.Source c v b) nodes code under f q h → Shown h.nodes f (Open.Source c v b) → Acts s at h.nodes under code (cont s f (q, h)) (Std.Err x)
      go g (shows_source {k = k}) = source_not k g w

-- THE LAST PART of a pair, of a for or let, and of a when
module _ {s : List ℕ} {at a z nodes : ℕ} {code u : List ℕ} {act : Act} (k : z ≡ nodes - 1) where
  pub second_done : Emitted nodes (node 35 a z 0) at code act u → Goes s at (Open.Second a) nodes code (Std.Ok act) u
  second_done e = record { is = λ under f q h g. go g g.shown }
    where
      go : {under : List Frame} {f : Frame} {q : Query} {h : Here} → Has s at (Open.Second a) nodes code under f q h → Shown h.nodes f (Open.Second a) → Acts s at h.nodes under u (cont s f (q, h)) (Std.Ok act)
      go g (shows_second kept) = second_made k g kept e

  pub body_done : {b : Binder} {x : Node} {v : ℕ} → x ≡ node (bound_kind b) v a z → Emitted nodes x at code act u → Goes s at (Open.Body b v a) nodes code (Std.Ok act) u
  body_done {b} {x} {v} d e = record { is = λ under f q h g. go g g.shown }
    where
      go : {under : List Frame} {f : Frame} {q : Query} {h : Here} → Has s at (Open.Body b v a) nodes code under f q h → Shown h.nodes f (Open.Body b v a) → Acts s at h.nodes under u (cont s f (q, h)) (Std.Ok act)
      go g (shows_body kept) = body_made k b g kept d e

  pub when_done : Emitted nodes (node 41 a z 0) at code act u → Goes s at (Open.Guarded a) nodes code (Std.Ok act) u
  when_done e = record { is = λ under f q h g. go g g.shown }
    where
      go : {under : List Frame} {f : Frame} {q : Query} {h : Here} → Has s at (Open.Guarded a) nodes code under f q h → Shown h.nodes f (Open.Guarded a) → Acts s at h.nodes under u (cont s f (q, h)) (Std.Ok act)
      go g (shows_guarded kept) = when_made k g kept e

-- WHATEVER it is
pub goes_as : {s : List ℕ} {at nodes : ℕ} {x y : Open} {code u : List ℕ} {act : Std.Result Act Refusal} → y ≡ x → Goes s at x nodes code act u → Goes s at y nodes code act u
goes_as {s} {at} {nodes} {code = code} {u} {act} e g = subst (λ (z : Open). Goes s at z nodes code act u) (sym e) g
