-- The output formats `flag` and `basic`. (Core 2019-09, 10.3, 10.4.1 and 10.4.2; Core 2020-12, 12.3,
-- 12.4.1 and 12.4.2)
use Rattle.std.specs.List.{list_any}
use Rattle.std.specs.Prelude.{Bool, List, None, Option, Some, [], codes, if◌then◌else◌, map, not, option_map, ◌++◌, ◌==◌, ◌∷◌}
use Rattle.serde_json.specs.Data.{Data, Members, array, boolean, member, no_members, object, put, string}
use Rattle.serde_json.specs.View.{items_of}
use Rattle.theory_definitions.specs.Instance.{Text}
use Rattle.theory_definitions.specs.Plan.{encoded}
use Rattle.theory_definitions.specs.Pointer.{escaped, joined}
use Rattle.theory_definitions.specs.Reports.{Described, Report, Unit_, Units, a_unit, no_units, report_of, unit}
use Rattle.standard_outputs.specs.KeywordUnits.{is_keyword_in, outer_for}

-- the verdict alone (12.4.1)
abbrev pub flag_object : Bool → Data
flag_object valid = object (put (codes "valid") (boolean valid) no_members)

abbrev pub flag_output : Unit_ → Data
flag_output u = flag_object (report_of u).valid

-- the absolute location, if there is one (12.3.2)
abbrev pub with_absolute : Option Text → Members → Members
with_absolute None ms = ms
with_absolute (Some uri) ms = put (codes "absoluteKeywordLocation") (string uri) ms

-- the verdict and the locations that each unit has (12.3.1 to 12.3.3)
abbrev pub located : Bool → Text → Option Text → Text → Members
located valid path uri place = put (codes "instanceLocation") (string place)
    (with_absolute uri (put (codes "keywordLocation") (string path) (put (codes "valid") (boolean valid) no_members)))

abbrev pub place_members : Report → Members
place_members r = located r.valid r.evaluation_path r.absolute r.instance_location

-- a unit with an error, one with an annotation, and one with neither (12.3.4)
abbrev pub error_object : Report → Text → Data
error_object r text = object (put (codes "error") (string text) (place_members r))

abbrev pub annotation_object : Report → Data → Data
annotation_object r d = object (put (codes "annotation") d (place_members r))

abbrev pub plain_object : Report → Data
plain_object r = object (place_members r)

-- a unit once for each of its errors
abbrev pub error_objects : Report → List Described → List Data
error_objects r ds = map (λ d. error_object r d.text) ds

-- an invalid unit; if it has no errors, those inside it have
abbrev pub refused_objects : Report → List Described → List Data
refused_objects r [] = error_object r (codes "A subschema had errors.") ∷ []
refused_objects r (d ∷ ds) = error_objects r (d ∷ ds)

-- a URI with a fragment, which is empty if there was none
abbrev pub with_fragment : Text → Text
with_fragment uri = if list_any (λ x. x == 35) uri then uri else uri ++ 35 ∷ []

-- the URI of the keyword of this name in the schema object that has the given one
abbrev pub keyword_uri : Text → Text → Text
keyword_uri name uri = with_fragment uri ++ encoded (47 ∷ escaped name)

-- what a schema object's report is for its keyword of this name
abbrev pub keyword_report : Report → Text → Report
keyword_report r name = record r {
  evaluation_path = joined r.evaluation_path name;
  absolute = option_map (keyword_uri name) r.absolute;
}

-- the annotations of a schema object, each of the keyword that has its name
abbrev pub member_objects : Report → Members → List Data
member_objects r no_members = []
member_objects r (member name d ms) = annotation_object (keyword_report r name) d ∷ member_objects r ms

abbrev pub annotation_objects : Report → Data → List Data
annotation_objects r (object ms) = plain_object r ∷ member_objects r ms
annotation_objects r d = annotation_object r d ∷ []

-- a valid unit: what annotates a keyword's unit is one annotation, even if it is an object
abbrev pub accepted_objects : Bool → Report → Option Data → List Data
accepted_objects is_keyword r None = plain_object r ∷ []
accepted_objects is_keyword r (Some d) = if is_keyword then annotation_object r d ∷ [] else annotation_objects r d

abbrev pub unit_objects : Bool → Report → List Data
unit_objects is_keyword r = if r.valid then accepted_objects is_keyword r r.annotations else refused_objects r r.errors

abbrev pub is_as : Bool → Bool → Bool
is_as a b = if a then b else not b

-- a unit before the units inside it, if they have this verdict. So below a valid unit no error is
-- shown, and below an invalid one no annotation, since a failing schema object has none (7.7.1.2)
abbrev mutual
  pub objects_in : Bool → Option Report → Unit_ → List Data
  objects_in valid outer (unit r us) =
      if is_as valid r.valid then unit_objects (is_keyword_in outer r) r ++ objects_in_each valid (outer_for outer r) us else []

  pub objects_in_each : Bool → Option Report → Units → List Data
  objects_in_each valid outer no_units = []
  objects_in_each valid outer (a_unit u us) = objects_in valid outer u ++ objects_in_each valid outer us

-- the root's verdict and locations, and the units that have this verdict, one by one (12.4.2)
abbrev pub listed : Bool → Text
listed valid = if valid then codes "annotations" else codes "errors"

abbrev pub basic_output : Unit_ → Data
basic_output u = let r = report_of u in
    object (put (listed r.valid) (array (items_of (objects_in r.valid None u))) (place_members r))
