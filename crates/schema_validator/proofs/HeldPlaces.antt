-- What a map holds of some places, one place more.
use Rattle.std.proofs.Common.{◌≡◌, ◌++◌, ◌∷◌, [], Bool, true, false, cond, List, inl, inr, refl, subst, sym}
use Rattle.std.specs.Prelude.{MatchOption, None, Option, Some, bytes_eq}
use Rattle.std.proofs.lemmas.Slice.Eq.{bytes_eq-Decides}
use Rattle.serde_json.specs.Data.{Data}
use Rattle.theory_definitions.specs.Instance.{Place, Text}
use Rattle.theory_definitions.specs.Plan.{Key}
use Rattle.schema_keys.specs.Compiling.{Each}
use Rattle.schema_keys.proofs.Lists.{each_append}
use Rattle.schema_validator.specs.Entries.{HoldsPlaces, IsEntry, IsLeftOut, IsPut}
use Rattle.schema_validator.specs.Handed.{Handed, Options}
use Rattle.schema_validator.specs.MapViews.{Entries, at_pointer}
use Rattle.schema_validator.specs.Mapped.{name_of}
use Rattle.schema_compiled.specs.Program.{Program}

module _ {S K R C M : Type 0} (h : Handed S K R C M) (options : Options) (schema : Data) (root : Key S) where
  -- what is held under a name
  abbrev Holds : List Place → Text → Option (Program C M) → Type 0
  Holds paths name o = MatchOption o (Each (λ path. name ≡ name_of path → IsLeftOut h options root path) paths) (λ p. (path : Place) × (name ≡ name_of path) × IsEntry h options schema root path p)

  pub holds_none : HoldsPlaces h options schema root [] []
  holds_none name = tt

  left_out : (paths : List Place) (path : Place) (name : Text) (o : Option (Program C M)) → IsLeftOut h options root path → Holds paths name o → Holds (paths ++ path ∷ []) name o
  left_out paths path name None out held = each_append (λ (q : Place). name ≡ name_of q → IsLeftOut h options root q) paths (path ∷ []) held (λ named. out, tt)
  left_out paths path name (Some p) out held = held

  -- a validator was put under its own name
  put : (paths : List Place) (path : Place) (p : Program C M) (name : Text) (o : Option (Program C M)) (b : Bool) → bytes_eq (name_of path) name ≡ b → IsEntry h options schema root path p → Holds paths name o
      → Holds (paths ++ path ∷ []) name (cond b (Some p) o)
  put paths path p name o true same entry held = (path, sym ((bytes_eq-Decides (name_of path) name).0 same), entry)
  put paths path p name None false other entry held =
      let never : name ≡ name_of path → IsLeftOut h options root path = λ named. absurd (let same : bytes_eq (name_of path) name ≡ true = (bytes_eq-Decides (name_of path) name).1 (sym named) in let no : ⊥ = cc in no) in
      each_append (λ (q : Place). name ≡ name_of q → IsLeftOut h options root q) paths (path ∷ []) held (never, tt)
  put paths path p name (Some q) false other entry held = held

  pub holds_more : (paths : List Place) (path : Place) (old new : Entries (Program C M)) → HoldsPlaces h options schema root paths old → IsPut h options schema root path old new
      → HoldsPlaces h options schema root (paths ++ path ∷ []) new
  holds_more paths path old new held (inl out) = λ name. subst (λ (es : Entries (Program C M)). Holds (paths ++ path ∷ []) name (at_pointer es name)) (sym out.1) (left_out paths path name (at_pointer old name) out.0 (held name))
  holds_more paths path old new held (inr made) = λ name.
      subst (Holds (paths ++ path ∷ []) name) (sym (made.2 name)) (put paths path made.0 name (at_pointer old name) (bytes_eq (name_of path) name) refl made.1 (held name))
