-- A record stored: lists that held tables hold those with the record. One law for each section.
-- Assumes nothing.
use mathlib.Core.Path.{◌≡◌, ap, ◌∙◌}
use mathlib.Core.Logic.{◌⊎◌, inl, inr}
use mathlib.Core.List.{List, [], ◌∷◌}
use Prim.Native.Nat.{ℕ, ◌+◌, ◌*◌, ◌≤◌, ◌<◌}
use native.Mathlib.Omega.{arith}
use lib.ListN.{length, set}
use Rattle.meaning.specs.Base.{type_width, code_width}
use Rattle.meaning.specs.Types.{entry_of}
use Rattle.meaning.specs.Records.{var_of, put}
use Rattle.words.specs.Tables.{stored}
use Rattle.words.proofs.Rows.{row_more}
use Rattle.words.proofs.Tables.{table_more, code_more}
use Rattle.records.specs.declared.Section.{Section}
use Rattle.records.specs.declared.Item.{Item}
use Rattle.reading.specs.declared.Counts.{Counts}
use Rattle.reading.specs.Says.{var_words}
use Rattle.reading.specs.Lists.{lists, Stores}
use Rattle.reading.proofs.Decoding.{var_wide, def_more}

module _ {i : Item} {here : Counts} {t c d v : List ℕ} where
  pub stores_entry : (u : List ℕ) → i.form.section ≡ Section.Types → type_width * here.types + type_width ≤ length t → u ≡ stored t (type_width * here.types) (i.kind ∷ i.a ∷ i.b ∷ []) → Stores i here (lists t c d v) (lists u c d v)
  unfolding put
  stores_entry u e room p x w n h dl vl =
      rw e (record {
        types = p ∙ rw n.types (ap (λ (l : List ℕ). stored l (type_width * length x.types) (i.kind ∷ i.a ∷ i.b ∷ [])) h.types
            ∙ table_more (length t) x.types (entry_of i.kind i.a i.b) i.kind i.a i.b (w.entry e) (omega (arith, n.types)));
        code = h.code;
        defs = h.defs;
        vars = h.vars;
      })

  pub stores_definition : i.form.section ≡ Section.Definitions → here.defs < length d → Stores i here (lists t c d v) (lists t c (set d here.defs i.a) v)
  unfolding put
  stores_definition e room x w n h dl vl =
      rw e (record {
        types = h.types;
        code = h.code;
        defs = rw n.defs (ap (λ (l : List ℕ). set l (length x.defs) i.a) h.defs ∙ def_more 64 x.defs i.a (omega (arith, n.defs)));
        vars = h.vars;
      })

  pub stores_variable : (u : List ℕ) → i.form.section ≡ Section.Variables → 3 * here.vars + 3 ≤ length v → u ≡ stored v (3 * here.vars) (i.kind ∷ i.a ∷ i.b ∷ []) → Stores i here (lists t c d v) (lists t c d u)
  unfolding put
  stores_variable u e room p x w n h dl vl =
      rw e (record {
        types = h.types;
        code = h.code;
        defs = h.defs;
        vars = p ∙ rw (n.vars, ← w.var e) (ap (λ (l : List ℕ). stored l (3 * length x.vars) (var_words (i.a, var_of i.kind i.b))) h.vars
            ∙ row_more var_words 3 var_wide 48 x.vars (i.a, var_of i.kind i.b) (omega (arith, n.vars)));
      })

  pub stores_node : (u : List ℕ) → i.form.section ≡ Section.Query → code_width * here.nodes + code_width ≤ length c → u ≡ stored c (code_width * here.nodes) (i.kind ∷ i.a ∷ i.b ∷ i.c ∷ []) → Stores i here (lists t c d v) (lists t u d v)
  unfolding put
  stores_node u e room p x w n h dl vl =
      rw e (record {
        types = h.types;
        code = p ∙ rw n.nodes (ap (λ (l : List ℕ). stored l (code_width * length x.code) (i.kind ∷ i.a ∷ i.b ∷ i.c ∷ [])) h.code
            ∙ code_more (length c) x.code i.kind i.a i.b i.c (omega (arith, n.nodes)));
        defs = h.defs;
        vars = h.vars;
      })

  -- record 80 and the records of values files are stored nowhere
  pub stores_nothing : (i.form.section ≡ Section.Result) ⊎ (i.form.section ≡ Section.Values) → Stores i here (lists t c d v) (lists t c d v)
  unfolding put
  stores_nothing (inl e) x w n h dl vl = rw e (record { types = h.types; code = h.code; defs = h.defs; vars = h.vars })
  stores_nothing (inr e) x w n h dl vl = rw e h
