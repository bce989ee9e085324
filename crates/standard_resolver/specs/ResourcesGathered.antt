-- The resources that the code has gathered.
use Rattle.std.specs.Prelude.{List, OnOk, Result, map, ◌≡◌}
use Rattle.std.specs.HashMap.{get_by_text}
use Rattle.standard_resolver.specs.declared.resources.Gathered.{Gathered}
use Rattle.standard_subschemas.specs.DocumentKeys.{IsNumbered}
use Rattle.standard_resolver.specs.DocumentResources.{Resource, resource_key, with_resources}
use Rattle.standard_resolver.specs.DocumentResourceViews.{resource_of}

abbrev pub list_of : Gathered → List Resource
list_of g = map resource_of g.resources.items

-- each resource is found by its URI
abbrev pub IsFound : Gathered → Type 0
IsFound g = IsNumbered (map resource_key (list_of g)) (get_by_text g.numbers)

-- the new list also has these resources, except those whose URI an earlier one has
abbrev pub Adds : List Resource → Gathered → Gathered → Type 0
Adds added old new = IsFound old → (list_of new ≡ with_resources (list_of old) added) × IsFound new

-- if the result is `Ok`, these resources were added
abbrev pub Gathers : {A E : Type 0} → Result A E → Gathered → Gathered → List Resource → Type 0
Gathers result old new added = OnOk result (Adds added old new)
