-- The value of `dependentRequired` is an object whose members are lists of names. If an instance
-- has a member with the name of such a list, then it must also have the members that the list
-- names; each one that it lacks is an error. An instance that is no object is accepted. (Validation
-- 2020-12, 6.5.4)
use Rattle.std.specs.Prelude.{List, None, OnOk, Option, Result, Some, String, [], if◌then◌else◌, map, string_bytes, ◌++◌, ◌∷◌, ◌≡◌}
use Rattle.std.specs.declared.alloc.Global.{Global}
use Rattle.std.specs.declared.vec.Vec.{Vec}
use Rattle.serde_json.specs.Data.{Data, Items, Members, item, member, no_items, no_members}
use Rattle.serde_json.specs.Find.{as_array, as_object, as_str}
use Rattle.theory_definitions.specs.Instance.{Subject, Text}
use Rattle.keyword_authoring.specs.Members.{has_member}
use Rattle.standard_basics.specs.Words.{required_text}

-- the name, if the instance has no such member
abbrev pub missing_name : Option Text → Subject → List Text
missing_name None s = []
missing_name (Some k) s = if has_member k s then [] else k ∷ []

-- those of the names that the instance lacks, in order
abbrev pub missing_names : Items → Subject → List Text
missing_names no_items s = []
missing_names (item d ds) s = missing_name (as_str d) s ++ missing_names ds s

abbrev pub missing_of : Option Items → Subject → List Text
missing_of None s = []
missing_of (Some ds) s = missing_names ds s

-- the missing names that a member of the instance requires, if the instance has that member
abbrev pub wanted_by : Text → Data → Subject → List Text
wanted_by k d s = if has_member k s then missing_of (as_array d) s else []

abbrev pub wanted_by_each : Members → Subject → List Text
wanted_by_each no_members s = []
wanted_by_each (member k d ms) s = wanted_by k d s ++ wanted_by_each ms s

abbrev pub wanted_of : Option Members → Subject → List Text
wanted_of None s = []
wanted_of (Some ms) s = wanted_by_each ms s

-- the missing names, in the order of the value's members and then of their lists; a name may occur
-- more than once
abbrev pub missing_dependents : Data → Subject → List Text
missing_dependents dependents s = wanted_of (as_object dependents) s

-- If the result is `Ok`, an error's text was appended for each of these names.
abbrev pub AddsRequired : {A E : Type 0} → List Text → Vec (String Global) Global → Vec (String Global) Global → Result A E → Type 0
AddsRequired names old new result = OnOk result (map string_bytes new.items ≡ map string_bytes old.items ++ map required_text names)
