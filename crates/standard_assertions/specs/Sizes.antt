-- A limit of sizes: of the items of a list, or of the members of an object. An instance that is
-- neither is accepted. (Validation 2020-12, 6.4.1, 6.4.2 and 6.5.1)
use Rattle.std.specs.Prelude.{Bool, None, Option, Some, codes, decimal, if◌then◌else◌, nat_le, true, ℕ, ◌++◌, ◌==◌}
use Rattle.theory_definitions.specs.Instance.{Subject, Text}
use Rattle.theory_definitions.specs.Meaning.{subject_text}
use Rattle.keyword_authoring.specs.Items.{is_list, item_count}
use Rattle.standard_basics.specs.Counts.{members_count}
use Rattle.standard_assertions.specs.declared.sizes.SizeKind.{SizeKind}
use Rattle.standard_assertions.specs.declared.sizes.SizeKind.TheVariants as kind

abbrev pub size_name : SizeKind → Text
size_name kind.MinItems = codes "minItems"
size_name kind.MaxItems = codes "maxItems"
size_name kind.MaxProperties = codes "maxProperties"

-- the number of items, if the subject is a list
abbrev pub items_count : Subject → Option ℕ
items_count s = if is_list s then Some (item_count s) else None

-- the number of items or members, if the keyword counts them
abbrev pub size_of : SizeKind → Subject → Option ℕ
size_of kind.MinItems s = items_count s
size_of kind.MaxItems s = items_count s
size_of kind.MaxProperties s = members_count s

abbrev pub allows : SizeKind → ℕ → ℕ → Bool
allows kind.MinItems limit size = nat_le limit size
allows kind.MaxItems limit size = nat_le size limit
allows kind.MaxProperties limit size = nat_le size limit

abbrev pub allows_any : SizeKind → ℕ → Option ℕ → Bool
allows_any kind limit None = true
allows_any kind limit (Some size) = allows kind limit size

abbrev pub size_fits : SizeKind → ℕ → Subject → Bool
size_fits kind limit s = allows_any kind limit (size_of kind s)

abbrev pub size_words : SizeKind → Text
size_words kind.MinItems = codes " has less than "
size_words kind.MaxItems = codes " has more than "
size_words kind.MaxProperties = codes " has more than "

abbrev pub one_counted : SizeKind → Text
one_counted kind.MinItems = codes " item"
one_counted kind.MaxItems = codes " item"
one_counted kind.MaxProperties = codes " property"

abbrev pub many_counted : SizeKind → Text
many_counted kind.MinItems = codes " items"
many_counted kind.MaxItems = codes " items"
many_counted kind.MaxProperties = codes " properties"

-- the words after the limit
abbrev pub counted : SizeKind → ℕ → Text
counted kind n = if n == 1 then one_counted kind else many_counted kind

abbrev pub size_text : SizeKind → ℕ → Subject → Text
size_text kind limit s = subject_text s ++ size_words kind ++ decimal limit ++ counted kind limit
