-- The units of a list of errors: one for each error, in their order, under a root for the whole
-- instance, which is valid exactly if there is no error. (Core 2020-12, 12.3 and 12.4)
use Rattle.std.specs.Prelude.{Bool, List, None, [], false, map, true, ◌∷◌}
use Rattle.theory_definitions.specs.Pointer.{pointer_to}
use Rattle.theory_definitions.specs.Reports.{Error, Unit_, unit, units_of}

-- invalid, at the error's locations, with its keyword's name and its text for its one error
abbrev pub error_unit : Error → Unit_
error_unit e = unit (record {
  valid = false;
  instance_location = pointer_to e.place;
  evaluation_path = e.evaluation_path;
  schema_path = e.schema_path;
  absolute = None;
  annotations = None;
  errors = record { name = e.name; text = e.text } ∷ [];
}) (units_of [])

abbrev pub is_empty : List Error → Bool
is_empty [] = true
is_empty (e ∷ es) = false

-- a unit with this verdict and these units inside it, for the roots of schema and instance: the
-- empty pointer refers to the whole document
abbrev pub root_unit : Bool → List Unit_ → Unit_
root_unit valid us = unit (record {
  valid = valid;
  instance_location = [];
  evaluation_path = [];
  schema_path = [];
  absolute = None;
  annotations = None;
  errors = [];
}) (units_of us)

abbrev pub errors_unit : List Error → Unit_
errors_unit es = root_unit (is_empty es) (map error_unit es)
