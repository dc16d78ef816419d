-- An entry appended with its class leaves what `append` of `meaning` says; where there is no room, refusal 16 at the node that asked.
-- Assumes nothing.
use mathlib.Core.Path.{◌≡◌, refl, sym, ◌∙◌}
use mathlib.Core.Option.{none}
use mathlib.Core.List.{List, [], ◌∷◌, ◌++◌}
use Prim.Native.Nat.{ℕ, ◌+◌, ◌*◌, ◌≤◌, ◌<◌}
use native.Mathlib.Omega.{arith}
use native.Mathlib.Decide.{ℕ_discrete}
use borrow.Author.Tests.{lt-ltb, le-ltb}
use lib.ListN.{length, set, length-set, length-append}
use lib.Seq.{get_or-set_same, get_or-set_other}
use Rattle.std.specs.Prelude as Std
use Rattle.refusals.specs.declared.Reason.{Reason}
use Rattle.meaning.specs.Base.{ok, refused, type_width, type_capacity}
use Rattle.meaning.specs.Types.{Entry, Table, Defs, entry_of, name_of}
use Rattle.meaning.specs.Formed.{Lower, Formed}
use Rattle.meaning.specs.Shapes.{shape, quant}
use Rattle.meaning.specs.Rules.{append}
use Rattle.meaning.proofs.Lists.{grows_one}
use Rattle.meaning.proofs.Shapes.{shape_grows}
use Rattle.meaning.proofs.Grow.{formed_append}
use Rattle.words.specs.Tables.{stored, table_of}
use Rattle.words.proofs.Tables.{table_length}
use Rattle.classes.specs.Classes.{code_of, Right, Filled}
use Rattle.grow.specs.Grow.{Ready, Left, New}
use Rattle.grow.proofs.Entries.{new_is}
use Rattle.grow.proofs.Tables.{more_long, more_table, more_lent}

-- `append` of `meaning`, where there is room and where there is none
pub append_room : (room node : ℕ) (x : Entry) (T : Table) → length T < room → append room node x T ≡ ok (T ++ (x ∷ []), length T)
append_room room node x T h = rw (lt-ltb (length T) room h)

pub append_full : (room node : ℕ) (x : Entry) (T : Table) → room ≤ length T → append room node x T ≡ refused 16 node
append_full room node x T h = rw (le-ltb (length T) room h)

module _ (D : Defs) (ws cs : List ℕ) (n node k a b : ℕ) (x : Entry) (new : New n k a b x) (R : Ready D ws cs n) where
  abbrev T : Table
  T = table_of ws n

  abbrev U : Table
  U = T ++ (x ∷ [])

  -- the class of the entry that its words make is the entry's
  pub class_new : n < type_capacity (length ws) → (c : ℕ)
      → (Formed D T → Filled D T cs → Lower (length T) (entry_of k a b) → name_of (entry_of k a b) ≡ none → length T < 4096 → c ≡ code_of (quant (shape D (T ++ (entry_of k a b ∷ [])) (length T))))
      → c ≡ code_of (quant (shape D U (length T)))
  class_new room c h = (rw (new_is new) at h) R.formed R.filled (rw table_length new.low) new.plain (omega (arith, table_length ws n))

  module _ (room : n < type_capacity (length ws)) (c : ℕ) (right : c ≡ code_of (quant (shape D U (length T)))) where
    filled : (e : ℕ) → e < length U → Dec (e ≡ n) → Right D U (set cs n c) e
    filled e l (yes p) = rw p (get_or-set_same cs n c 0 (omega (arith, R.long)) ∙ rw table_length at right)
    filled e l (no p) =
        let i : e < length T = omega (arith, length-append T (x ∷ []), table_length ws n) in
        get_or-set_other cs n e c 0 p ∙ rw (shape_grows R.formed (grows_one T x) i) (R.filled.right e i)

    pub grown_left : Left D ws (stored ws (type_width * n) (k ∷ a ∷ b ∷ [])) cs (set cs n c) (Std.Ok (record { at = n; count = n + 1 })) (append (type_capacity (length ws)) node x T)
    grown_left =
        let L = R.lent in
        let w = new.words in
        let q = more_table L x k a b w room in
        record {
          answer = sym (append_room (type_capacity (length ws)) node x T (rw table_length room) ∙ rw (table_length, q));
          long = more_long L x k a b w room;
          longs = length-set cs n c;
          ready = (
            record {
              formed = rw q (formed_append D T R.formed (omega (arith, table_length ws n)) x (rw table_length new.low) new.plain);
              lent = more_lent L x k a b w room;
              filled = rw q (record { right = λ e l. filled e l (ℕ_discrete e n) });
              long = rw length-set R.long;
            },
            omega arith,
          );
        }

  pub full_left : type_capacity (length ws) ≤ n → Left D ws ws cs cs (Std.Err (record { reason = Reason.TypesFull; place = node })) (append (type_capacity (length ws)) node x T)
  full_left h = record { answer = sym (append_full (type_capacity (length ws)) node x T (rw table_length h)); long = refl; longs = refl; ready = tt }
