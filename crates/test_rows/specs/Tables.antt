-- Tables of rows, as tests read them.
use Rattle.serde_json.specs.Data.{Data, Items, array, no_items}

-- the items of a list; a value that is not a list has none
abbrev pub list_in : Data → Items
list_in (array ds) = ds
list_in _ = no_items
