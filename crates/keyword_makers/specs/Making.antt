-- The scripts of makers that request the values at paths, one after the other, and then end.
use Rattle.std.specs.Prelude.{List, None, Option, Some, [], codes, drop, suc, true, zero, ℕ, ◌++◌, ◌+◌, ◌∷◌}
use Rattle.serde_json.specs.Data.{Data, Items, array, item, no_items}
use Rattle.serde_json.specs.Find.{as_array}
use Rattle.keyword_authoring.specs.Items.{count_in}
use Rattle.theory_definitions.specs.Instance.{Place, Text, to_item, to_member}
use Rattle.theory_definitions.specs.Pointer.{pointer_to}
use Rattle.theory_definitions.specs.Reports.{OwnedError}
use Rattle.theory_definitions.specs.Making.{Made, Script, a_keyword, refused, then_compile, then_end}
use Rattle.schema_traits.specs.MakerViews.{Waiting, begun, ended, waits}

-- the children in order, and then the end
abbrev pub asks_for : {K : Type 0} → List Place → Made K → Script K
asks_for [] m = then_end m
asks_for (p ∷ ps) m = then_compile p (asks_for ps m)

-- a keyword without children
abbrev pub makes : {K : Type 0} → K → Script K
makes m = then_end (a_keyword m [])

-- the keyword's own value is its only schema
abbrev pub only_child : {K : Type 0} → Text → K → Script K
only_child name m = asks_for ((to_member name ∷ []) ∷ []) (a_keyword m [])

-- the paths of the items of a list below a keyword, starting with this index
abbrev pub items_from : Text → ℕ → Items → List Place
items_from name i no_items = []
items_from name i (item d ds) = (to_member name ∷ to_item i ∷ []) ∷ items_from name (i + 1) ds

-- the children are the items, in order
abbrev pub each_item : {K : Type 0} → Text → Items → K → Script K
each_item name ds m = asks_for (items_from name 0 ds) (a_keyword m [])

-- the text of the refusal of a malformed value
abbrev pub malformed_text : Text → Text
malformed_text name = codes "\"" ++ name ++ codes "\" has a value of another shape"

-- the error of a malformed value, at the keyword
abbrev pub malformed_error : Text → Data → OwnedError
malformed_error name d = record {
  instance = d;
  instance_path = [];
  schema_path = pointer_to (to_member name ∷ []);
  evaluation_path = pointer_to (to_member name ∷ []);
  absolute = None;
  name = name;
  text = malformed_text name;
}

-- an error with this text that shows the value, at the keyword
abbrev pub refused_error : Text → Data → Text → OwnedError
refused_error name d text = record {
  instance = d;
  instance_path = [];
  schema_path = pointer_to (to_member name ∷ []);
  evaluation_path = pointer_to (to_member name ∷ []);
  absolute = None;
  name = name;
  text = text;
}

abbrev pub malformed : {K : Type 0} → Text → Data → Script K
malformed name d = then_end (refused true (malformed_error name d))

-- a keyword without children, if there is one; otherwise the value is malformed
abbrev pub makes_if : {K : Type 0} → Text → Data → Option K → Script K
makes_if name d None = malformed name d
makes_if name d (Some m) = makes m

-- each schema of an array; any other value is malformed
abbrev pub each_schema : {K : Type 0} → Text → Data → K → Script K
each_schema name (array ds) m = each_item name ds m
each_schema name d m = malformed name d

-- each schema of an array, for a keyword that depends on their number
abbrev pub list_script : {K : Type 0} → (ℕ → K) → Text → Data → Script K
list_script shape name d = each_schema name d (shape (count_in (as_array d)))

-- ---- a maker that has made this many requests

abbrev pub waiting_in : {K : Type 0} → List Place → ℕ → Option (Made K) → Waiting K
waiting_in ps n None = ended
waiting_in ps zero (Some m) = begun (asks_for ps m)
waiting_in ps (suc n) (Some m) = waits n (asks_for (drop (suc n) ps) m) (asks_for (drop (suc n) ps) m)
