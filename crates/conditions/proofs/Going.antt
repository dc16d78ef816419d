-- The loop of acts: what is left to do with the act that it has come to is the whole.
-- Assumes nothing.
use mathlib.Core.Path.{◌≡◌, refl, sym, ap, subst, ◌∙◌}
use mathlib.Core.Logic.{◌≢◌}
use mathlib.Core.List.{List, [], ◌∷◌}
use Prim.Native.Nat.{ℕ, zero, suc, ◌+◌, ◌*◌, ◌-◌, ◌≤◌, ◌<◌, min}
use native.Mathlib.Omega.{arith}
use lib.ListN.{length, get_or, set, length-set}
use lib.Seq.{get_or-set_same, get_or-set_other}
use Rattle.meaning.specs.Base.{refused, ◌>>=◌}
use Rattle.meaning.specs.Records.{Node}
use Rattle.meaning.specs.Queries.{Cond}
use Rattle.meaning.specs.Texts.{here, Read, cond_at, cond_no, cond_nodes}
use Rattle.words.specs.Tables.{code_of}
use Rattle.rows.specs.Says.{Reads, refuses, makes}
use Rattle.rows.specs.declared.Part.{Part}
use Rattle.refusals.specs.declared.Refusal.{Refusal}
use Rattle.refusals.specs.Says.{number_of}
use Rattle.std.specs.Prelude as Std
use Rattle.conditions.specs.declared.Act.{Act}
use Rattle.conditions.specs.declared.Waiting.{Waiting}
use Rattle.conditions.specs.Says.{Conditions}
use Rattle.conditions.specs.Frames as Frames
use Rattle.conditions.proofs.Acting.{moves_lower}
use Rattle.conditions.specs.Frames.{Frame, denies, before, behind, cont, plug, under, below, Waits, Stacked, Acted, done, more, Moves, Room, Begins, Resumes, Runs}

-- WHAT WAITS, at a later offset and with more nodes, and below another word
plug_refused : (s : List ℕ) (deep : ℕ) (fs : List Frame) (n place : ℕ) → plug s deep fs (refused n place) ≡ refused n place
unfolding plug
plug_refused s deep [] n place = refl
plug_refused s deep (f ∷ fs) n place = plug_refused s deep fs n place

waits_later : (s : List ℕ) {at to m l : ℕ} (word : Waiting) (f : Frame) → at ≤ to → m ≤ l → Waits s at m word f → Waits s to l word f
unfolding Waits
waits_later s word denies h i w = w
waits_later s word (before k) h i w = (w.0, omega (arith, h, w.1))
waits_later s word (behind p) h i w = (w.0, w.1, λ j. w.2 (omega (arith, i, j)))

stacked_later : (s : List ℕ) (stack : List Waiting) {at to m l : ℕ} (fs : List Frame) → at ≤ to → m ≤ l → Stacked s at m stack fs → Stacked s to l stack fs
unfolding Stacked
stacked_later s stack [] h i w = tt
stacked_later s stack (f ∷ fs) h i w = (waits_later s _ f h i w.0, stacked_later s stack fs h i w.1)

stacked_set : (s : List ℕ) (stack : List Waiting) (at m top : ℕ) (word : Waiting) (fs : List Frame) → length fs ≤ top → Stacked s at m stack fs → Stacked s at m (set stack top word) fs
unfolding Stacked
stacked_set s stack at m top word [] h w = tt
stacked_set s stack at m top word (f ∷ fs) h w =
    (subst (λ (x : Waiting). Waits s at m x f) (sym (get_or-set_other stack top (length fs) word Waiting.Not (λ e. omega (arith, h, e)))) w.0, stacked_set s stack at m top word fs (omega (arith, h)) w.1)

-- room for what is open
room_by : {deep d : ℕ} (r : Std.Result Act Refusal) → d ≡ deep → Room d r → Room deep r
room_by r e h = subst (λ (y : ℕ). Room y r) e h

room_less : {deep : ℕ} (r : Std.Result Act Refusal) → deep < 100 → Room deep r
room_less (Std.Ok (Act.Done p)) h = omega (arith, h)
room_less (Std.Ok (Act.More w p)) h = h
room_less (Std.Err e) h = tt

-- how much is left to do
abbrev pub left : List ℕ → ℕ → Act → ℕ
left s top (Act.Done p) = 3 * (length s - p.next) + 2 * top
left s top (Act.More w p) = 3 * (length s - p.next) + 2 * top + 1

-- AN ACT of what is left
module _ (s : List ℕ) (deep n : ℕ) (start : List ℕ) (o : Read Cond) where
  pub record Stage (low top : ℕ) (code : List ℕ) (stack : List Waiting) (act : Std.Result Act Refusal) : Type 0 where
    pub frames : List Frame
    pub from : ℕ
    pub rest : Read Cond
    pub whole : o ≡ plug s deep frames rest
    pub tall : length frames ≡ top
    pub stacked : Stacked s low from stack frames
    pub grows : n ≤ from
    pub acted : Acted s (suc (deep + length frames)) from (below (code_of start n) frames) code rest act

  stage_refused : {low top : ℕ} {code : List ℕ} {stack : List Waiting} {x : Refusal} → Stage low top code stack (Std.Err x) → o ≡ refused (number_of x.reason) x.place
  stage_refused {x = x} g = g.whole ∙ by g.acted ∙ plug_refused s deep g.frames (number_of x.reason) x.place
    where
      by : {d m : ℕ} {base : List Node} {u : List ℕ} {y : Read Cond} → Acted s d m base u y (Std.Err x) → plug s deep g.frames y ≡ plug s deep g.frames (refused (number_of x.reason) x.place)
      by (Frames.refuses e) = ap (plug s deep g.frames) e

  -- all that was opened is closed
  closed : {p : Part} {code : List ℕ} {x : Read Cond} {d m : ℕ} (at : ℕ) (fs : List Frame) → length fs ≡ 0 → o ≡ plug s deep fs x → n ≤ m → Moves s (suc at) (Std.Ok (Act.Done p)) → Acted s d m (below (code_of start n) fs) code x (Std.Ok (Act.Done p))
      → Reads cond_no cond_nodes s at n start code o (Std.Ok p)
  unfolding plug below
  closed {p} at [] z w g i (done c l e q k v) = makes c (here p.next l) (w ∙ e) refl q i.0 i.1 (omega (arith, g, k)) v
  closed at (f ∷ fs) z w g i a = absurd (omega (arith, z))

  -- the last that waited goes on
  resumed : {p : Part} {word : Waiting} {code : List ℕ} {stack : List Waiting} {u : List ℕ} {x : Read Cond} {m : ℕ} (low i : ℕ) (fs : List Frame) {r : Std.Result Act Refusal} → length fs ≡ suc i → o ≡ plug s deep fs x → Stacked s low m stack fs → n ≤ m → low ≤ p.next → word ≡ get_or stack i Waiting.Not
      → Acted s (suc (deep + length fs)) m (below (code_of start n) fs) code x (Std.Ok (Act.Done p)) → Resumes s p.next word code p.nodes r u → Stage p.next i u stack r
  unfolding plug below Stacked
  resumed low i [] z w t g h d a b = absurd (omega (arith, z))
  resumed {p} {word} {code} {stack} {u} {x} {m} low i (f ∷ fs) {r} z w t g h d (done c l e q k v) b =
      let high : length fs ≡ i = omega (arith, z) in
      let later : m ≤ l = omega (arith, k) in
      record {
        frames = fs;
        from = l;
        rest = cont s (suc (deep + length fs)) f (c, here p.next l);
        whole = w ∙ ap (λ (y : Read Cond). plug s deep fs (y >>= cont s (suc (deep + length fs)) f)) e;
        tall = high;
        stacked = stacked_later s stack fs h later t.1;
        grows = omega (arith, g, later);
        acted = b.is (suc (deep + length fs)) l f c (below (code_of start n) fs) (subst (λ (y : Waiting). Waits s p.next l y f) (ap (λ (j : ℕ). get_or stack j Waiting.Not) high ∙ sym d) (waits_later s _ f h later t.0)) q v;
      }

  -- one more waits
  begun : {p : Part} {word : Waiting} {d : ℕ} {code u : List ℕ} (stack : List Waiting) {x : Read Cond} {m : ℕ} (low top : ℕ) (fs : List Frame) {r : Std.Result Act Refusal} → length fs ≡ top → o ≡ plug s deep fs x → Stacked s low m stack fs → n ≤ m → low ≤ p.next → top < length stack → d ≡ suc (deep + top)
      → Acted s (suc (deep + length fs)) m (below (code_of start n) fs) code x (Std.Ok (Act.More word p)) → Begins s p.next d code p.nodes r u → Stage (suc p.next) (top + 1) u (set stack top word) r
  unfolding plug below Stacked
  begun {p} {word} {d} {code} {u} stack {x} {m} low top fs {r} z w t g h i p' (more f k e q l v c) b =
      let inner : d ≡ suc (deep + length fs) = omega (arith, p', z) in
      let later : low ≤ suc p.next = omega (arith, h) in
      let same : m ≤ m = omega arith in
      let on : p.next ≤ suc p.next = omega arith in
      let next_one : suc d ≡ suc (deep + length (f ∷ fs)) = omega (arith, inner) in
      let short : length fs ≤ top = omega (arith, z) in
      record {
        frames = f ∷ fs;
        from = m;
        rest = cond_at s (suc k) (suc (deep + length fs)) (here p.next m);
        whole = w ∙ ap (plug s deep fs) e;
        tall = omega (arith, z);
        stacked = (
          subst (λ (y : Waiting). Waits s (suc p.next) m y f) (sym (ap (λ (j : ℕ). get_or (set stack top word) j Waiting.Not) z ∙ get_or-set_same stack top word Waiting.Not i)) (waits_later s _ f on same v),
          stacked_set s stack (suc p.next) m top word fs short (stacked_later s stack fs later same t),
        );
        grows = g;
        acted =
            subst (λ (y : ℕ). Acted s y m (under (below (code_of start n) fs) f) u (cond_at s (suc k) (suc (deep + length fs)) (here p.next m)) r) next_one
            (subst (λ (y : ℕ). Acted s (suc d) m (under (below (code_of start n) fs) f) u (cond_at s (suc k) y (here p.next m)) r) inner (b.is k m (under (below (code_of start n) fs) f) l q c));
      }

-- THE LOOP, from its first act on, for all that this act is one of
pub record Going (s : List ℕ) (deep : ℕ) (code₀ : List ℕ) (words : ℕ) (first : Std.Result Act Refusal) (code : List ℕ) (stack : List Waiting) (top : ℕ) (act : Std.Result Act Refusal) : Type 0 where
  pub low : ℕ
  pub moves : Moves s low act
  pub onward : (at : ℕ) → Moves s (suc at) first → Moves s (suc at) act
  pub room : Room (deep + top) act
  pub long : length code ≡ length code₀
  pub wide : length stack ≡ words
  pub is : (n from : ℕ) (start : List ℕ) (o : Read Cond) → n ≤ from → Acted s (suc deep) from (code_of start n) code₀ o first → Stage s deep n start o low top code stack act

module _ (s : List ℕ) (deep : ℕ) (code₀ : List ℕ) (words : ℕ) (first : Std.Result Act Refusal) where
  start_stage : (stack : List Waiting) (n from : ℕ) (start : List ℕ) (o : Read Cond) → n ≤ from → Acted s (suc deep) from (code_of start n) code₀ o first → Stage s deep n start o 0 0 code₀ stack first
  unfolding plug below Stacked
  start_stage stack n from start o g a =
      let none_open : suc deep ≡ suc (deep + 0) = omega arith in
      record {
        frames = [];
        from = from;
        rest = o;
        whole = refl;
        tall = refl;
        stacked = tt;
        grows = g;
        acted = subst (λ (y : ℕ). Acted s y from (code_of start n) code₀ o first) none_open a;
      }

  pub going_start : {stack : List Waiting} → length stack ≡ words → Moves s 0 first → Room deep first → Going s deep code₀ words first code₀ stack 0 first
  going_start {stack} w m h =
      let none_open : deep ≡ deep + 0 = omega arith in
      record { low = 0; moves = m; onward = λ at k. k; room = room_by first none_open h; long = refl; wide = w; is = λ n from start o g a. start_stage stack n from start o g a }

  pub going_by : {code : List ℕ} {stack : List Waiting} {top : ℕ} {a b : Act} → a ≡ b → Going s deep code₀ words first code stack top (Std.Ok a) → Going s deep code₀ words first code stack top (Std.Ok b)
  going_by {code} {stack} {top} e g = subst (λ (a : Act). Going s deep code₀ words first code stack top (Std.Ok a)) e g

  module _ {code : List ℕ} {stack : List Waiting} where
    pub going_refused : {top : ℕ} {x : Refusal} → Going s deep code₀ words first code stack top (Std.Err x) → Runs s deep code₀ first (Std.Err x) code
    going_refused g = record { is = λ at n from start o m h a. refuses (stage_refused s deep n start o (g.is n from start o h a)) }

    pub going_closed : {top : ℕ} {p : Part} → top ≡ 0 → Going s deep code₀ words first code stack top (Std.Ok (Act.Done p)) → Runs s deep code₀ first (Std.Ok p) code
    going_closed z g =
        record {
          is = λ at n from start o m h a.
              let t = g.is n from start o h a in
              closed s deep n start o at t.frames (t.tall ∙ z) t.whole t.grows (g.onward at m) t.acted;
        }

    pub going_resumed : {top i j : ℕ} {p : Part} {word : Waiting} {r : Std.Result Act Refusal} {u : List ℕ} → top ≢ 0 → i ≡ top - 1 → j ≡ i → Going s deep code₀ words first code stack top (Std.Ok (Act.Done p)) → word ≡ get_or stack j Waiting.Not → length u ≡ length code
        → Resumes s p.next word code p.nodes r u → Going s deep code₀ words first u stack i r
    going_resumed {top} {i} {p = p} {r = r} z e f g d l b =
        let more_open : top ≡ suc i = omega (arith, z, e) in
        let fits : deep + i < 100 = omega (arith, more_open, g.room) in
        record {
          low = p.next;
          moves = b.moves;
          onward = λ at m. moves_lower s r (g.onward at m).0 b.moves;
          room = room_less r fits;
          long = l ∙ g.long;
          wide = g.wide;
          is = λ n from start o h a.
              let t = g.is n from start o h a in
              resumed s deep n start o g.low i t.frames (t.tall ∙ more_open) t.whole t.stacked t.grows g.moves.0 (d ∙ ap (λ (k : ℕ). get_or stack k Waiting.Not) f) t.acted b;
        }

    going_pushed : {top i : ℕ} {p : Part} {word : Waiting} {d : ℕ} {r : Std.Result Act Refusal} {u : List ℕ} → i ≡ top + 1 → d ≡ deep + i → Going s deep code₀ words first code stack top (Std.Ok (Act.More word p)) → 128 ≤ words → length u ≡ length code
        → Begins s p.next d code p.nodes r u → Going s deep code₀ words first u (set stack top word) i r
    going_pushed {top} {i} {p} {word} {d} {r} {u} e q g w l b =
        let inner : d ≡ suc (deep + top) = omega (arith, e, q) in
        let short : top < length stack = omega (arith, g.room, g.wide, w) in
        let fits : d ≤ 100 = omega (arith, inner, g.room) in
        let further : (at : ℕ) → suc at ≤ p.next → suc at ≤ suc p.next = λ at j. omega (arith, j) in
        record {
          low = suc p.next;
          moves = b.moves;
          onward = λ at m. moves_lower s r (further at (g.onward at m).0) b.moves;
          room = room_by r q (b.room fits);
          long = l ∙ g.long;
          wide = length-set stack top word ∙ g.wide;
          is = λ n from start o h a.
              let t = g.is n from start o h a in
              subst (λ (j : ℕ). Stage s deep n start o (suc p.next) j u (set stack top word) r) (sym e)
              (begun s deep n start o stack g.low top t.frames t.tall t.whole t.stacked t.grows g.moves.0 short inner t.acted b);
        }

    pub going_begun : {top i j : ℕ} {p : Part} {word : Waiting} {d : ℕ} {r : Std.Result Act Refusal} {u : List ℕ} → i ≡ top + 1 → d ≡ deep + i → j ≡ top → Going s deep code₀ words first code stack top (Std.Ok (Act.More word p)) → 128 ≤ words → length u ≡ length code
        → Begins s p.next d code p.nodes r u → Going s deep code₀ words first u (set stack j word) i r
    going_begun {i = i} {word = word} {r = r} {u = u} e q f g w l b = subst (λ (k : ℕ). Going s deep code₀ words first u (set stack k word) i r) (sym f) (going_pushed e q g w l b)

-- A CONDITION, from its first token on
module _ {s : List ℕ} {at deep : ℕ} {start : List ℕ} {nodes : ℕ} {first : Std.Result Act Refusal} {code : List ℕ} (b : Begins s at deep start nodes first code) (inside : at ≤ length s) where
  module _ {r : Std.Result Part Refusal} {u : List ℕ} (g : Runs s deep code first r u) where
    reads : (k n : ℕ) → length s < k + at → min n 1025 ≡ nodes → Reads cond_no cond_nodes s at n start u (cond_at s k deep (here at n)) r
    reads zero n l q = absurd (omega (arith, inside, l))
    reads (suc k) n l q =
        let same : n ≤ n = omega arith in
        let enough : length s ≤ k + at = omega (arith, l) in
        g.is at n n start (cond_at s (suc k) deep (here at n)) b.moves same (b.is k n (code_of start n) enough q (λ _. refl))

    pub conditions : Conditions s at deep start nodes r u
    conditions = record { is = λ k n l q. reads k n l q }

-- or a refusal
pub conditions_not : {s : List ℕ} {at deep : ℕ} {start : List ℕ} {nodes : ℕ} {x : Refusal} {code : List ℕ} → Begins s at deep start nodes (Std.Err x) code → at ≤ length s → Conditions s at deep start nodes (Std.Err x) code
conditions_not {s} {at} {deep} {start} {nodes} {x} {code} b inside = record { is = λ k n l q. reads k n l q }
  where
    by : {d m : ℕ} {base : List Node} {u : List ℕ} {y : Read Cond} {n : ℕ} → Acted s d m base u y (Std.Err x) → Reads cond_no cond_nodes s at n start code y (Std.Err x)
    by (Frames.refuses e) = refuses e

    reads : (k n : ℕ) → length s < k + at → min n 1025 ≡ nodes → Reads cond_no cond_nodes s at n start code (cond_at s k deep (here at n)) (Std.Err x)
    reads zero n l q = absurd (omega (arith, inside, l))
    reads (suc k) n l q =
        let enough : length s ≤ k + at = omega (arith, l) in
        by (b.is k n (code_of start n) enough q (λ _. refl))
