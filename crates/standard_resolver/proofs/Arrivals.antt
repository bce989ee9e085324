-- The target of a path, step by step.
use Rattle.std.proofs.Common.{◌≡◌, ℕ, true, false, [], ◌∷◌, ◌++◌, Some, None, Result, Ok, Err, refl}
use Rattle.serde_json.specs.Data.{Data}
use Rattle.theory_definitions.specs.Instance.{Place, Step, Text, a_value, after_step}
use Rattle.theory_definitions.specs.Drafts.{Draft}
use Rattle.theory_definitions.specs.Resolving.{Found}
use Rattle.standard_subschemas.specs.SubschemaRules.{data_of}
use Rattle.standard_resolver.specs.Dialects.{detected}
use Rattle.standard_resolver.specs.DocumentResources.{Table}
use Rattle.standard_resolver.specs.DocumentStates.{Point, entered_inner}
use Rattle.standard_resolver.specs.DocumentLookups.{arrived, is_subschema, nothing_there}

module _ (table : Table) (reference : Text) (document : ℕ) (before : Point) (draft : Draft) (schema : Data) (since : Place) (reached : Data) (gone : Place)
    (s : Point) (step : Step) (path : Place) where
  abbrev arrives : Place → Result (Found Point) Text
  arrives p = arrived table reference document before draft schema since reached gone s p

  -- there is no value
  pub arrives_nowhere : data_of (after_step step (a_value reached)) ≡ None → arrives (step ∷ path) ≡ Err (nothing_there reference)
  arrives_nowhere e = rw (e, arrived) refl

  module _ (below : Data) (stands : data_of (after_step step (a_value reached)) ≡ Some below) where
    -- a value that is not a subschema
    pub arrives_past : is_subschema table.reading.rule draft (since ++ step ∷ []) schema ≡ false
        → arrives (step ∷ path) ≡ arrived table reference document before draft schema (since ++ step ∷ []) below (gone ++ step ∷ []) s path
    arrives_past e = rw (stands, e, arrived) refl

    -- a subschema, which is entered or refused
    pub arrives_inside : (inside : Point) → is_subschema table.reading.rule draft (since ++ step ∷ []) schema ≡ true
        → entered_inner table before s (detected table.reading draft below) (record { document = document; path = gone ++ step ∷ [] }) below ≡ Ok inside
        → arrives (step ∷ path) ≡ arrived table reference document before (detected table.reading draft below) below [] below (gone ++ step ∷ []) inside path
    arrives_inside inside e f = rw (stands, e, f, arrived) refl

    pub arrives_refused : (text : Text) → is_subschema table.reading.rule draft (since ++ step ∷ []) schema ≡ true
        → entered_inner table before s (detected table.reading draft below) (record { document = document; path = gone ++ step ∷ [] }) below ≡ Err text
        → arrives (step ∷ path) ≡ Err text
    arrives_refused text e f = rw (stands, e, f, arrived) refl
