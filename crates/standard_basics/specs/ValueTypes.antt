-- The types that a value has: it is null, a boolean, a number, a text, an array or an object, and a
-- number is an integer too if it is written without a fraction and an exponent and fits in 64 bits.
-- A name counts as a text. `type` accepts what has the type that it names, or one of the types.
-- (Core 2020-12, 4.2.1; Validation 2020-12, 6.1.1)
use Rattle.std.specs.Prelude.{Bool, false, ◌≡◌, ◌⊎◌}
use Rattle.serde_json.specs.Data.{Items, Members, Num, array, boolean, null, number, object, string}
use Rattle.serde_json.specs.Find.{is_float}
use Rattle.theory_definitions.specs.Instance.{Subject, Text, a_name, a_value}
use Rattle.standard_basics.specs.declared.type_names.TypeName.{TypeName}
use Rattle.standard_basics.specs.declared.type_names.TypeName.TheVariants as type

abbrev pub HasType : TypeName → Subject → Type 0
HasType type.Null s = s ≡ a_value null
HasType type.Boolean s = (b : Bool) × (s ≡ a_value (boolean b))
HasType type.Integer s = (n : Num) × (s ≡ a_value (number n)) × (is_float n ≡ false)
HasType type.Number s = (n : Num) × (s ≡ a_value (number n))
HasType type.Text s = (t : Text) × ((s ≡ a_value (string t)) ⊎ (s ≡ a_name t))
HasType type.Array s = (ds : Items) × (s ≡ a_value (array ds))
HasType type.Object s = (ms : Members) × (s ≡ a_value (object ms))
