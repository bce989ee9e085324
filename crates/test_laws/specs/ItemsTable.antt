-- The table of `x-items`, a custom keyword, and of `type`, which is made as if its value were
-- "array": the requests that their makers make in turn, and the keywords that they make.
use Rattle.std.proofs.Common.{refl}
use Rattle.std.specs.Prelude.{Bool, None, Option, Some, [], bytes_eq, codes, false, true, ◌≡◌, ◌∷◌}
use Rattle.serde_json.specs.Data.{Members}
use Rattle.theory_definitions.specs.Instance.{Text, to_member}
use Rattle.theory_definitions.specs.Drafts.{Draft, Vocabularies}
use Rattle.theory_definitions.specs.Making.{Script, a_keyword, for_items, nothing, then_compile, then_end, then_pending, then_reserve}
use Rattle.schema_traits.specs.MakerViews.{MakesRightly, Told, Waiting, a_reserved, a_skip, begun, ended, none_pending, nothing_yet, one_pending, the_number, waits, wants_pending, wants_reserved}
use Rattle.schema_traits.specs.declared.numbers.PendingSchemaNode.{PendingSchemaNode}
use Rattle.schema_traits.specs.declared.table.MakerStep.{MakerStep}
use Rattle.schema_traits.specs.declared.table.MakerStep.TheVariants as step
use Rattle.test_laws.specs.ItemsWords.{items_absorbed}
use Rattle.test_laws.specs.declared.items.ItemsKeyword.{ItemsKeyword}
use Rattle.test_laws.specs.declared.items.ItemsPlan.{ItemsPlan}
use Rattle.test_laws.specs.declared.items.ItemsPlan.TheVariants.{ArrayType, EachItem}
use Rattle.test_laws.specs.declared.items_table.ItemsMaker.{ItemsMaker}
use Rattle.test_laws.specs.declared.items_table.ItemsMaker.TheVariants as maker

abbrev pub own_name : Text
own_name = codes "x-items"

-- the end of the script; the same after the keyword's value; and that after a reserved number
abbrev pub makes_items : Script ItemsPlan
makes_items = then_end (a_keyword EachItem [])

abbrev pub asks_value : Script ItemsPlan
asks_value = then_compile (to_member own_name ∷ []) makes_items

abbrev pub reserves : Script ItemsPlan
reserves = then_reserve for_items asks_value

-- if a number is pending, none is reserved
abbrev pub own_script : Script ItemsPlan
own_script = then_pending for_items reserves asks_value

-- `type` is made as if its value were "array"; other names make nothing
abbrev pub builtin_script : Bool → Script ItemsPlan
builtin_script true = then_end (a_keyword ArrayType [])
builtin_script false = then_end nothing

abbrev pub items_script : Bool → Text → Members → Draft → Vocabularies → Bool → Script ItemsPlan
items_script true name owner draft vocabularies formats = own_script
items_script false name owner draft vocabularies formats = builtin_script (bytes_eq name (codes "type"))

abbrev pub waiting : ItemsMaker → Waiting ItemsPlan
waiting maker.Begins = begun own_script
waiting maker.WantsPending = wants_pending 0 reserves asks_value
waiting maker.WantsReserved = wants_reserved 0 asks_value
waiting (maker.WantsChild n) = waits 0 makes_items makes_items
waiting maker.ArrayType = begun (builtin_script true)
waiting maker.Nothing = begun (builtin_script false)
waiting maker.Over = ended

-- a step that requests the keyword's value, and what the maker waits for then
abbrev pub AsksValue : MakerStep ItemsKeyword → ItemsMaker → Type 0
AsksValue (step.Compile path) made = (path ≡ to_member own_name ∷ []) × (waiting made ≡ waits 0 makes_items makes_items)
AsksValue (step.Refer text) made = ⊥
AsksValue (step.Pending kind) made = ⊥
AsksValue (step.Reserve kind) made = ⊥
AsksValue (step.Keyword keyword names) made = ⊥
AsksValue step.Nothing made = ⊥
AsksValue (step.Refuse error) made = ⊥

-- there is a number exactly if the reply holds one: a pending or a reserved one
abbrev pub Given : Option PendingSchemaNode → Told → Type 0
Given (Some n) one_pending = Unit {0}
Given (Some n) a_reserved = Unit {0}
Given (Some n) nothing_yet = ⊥
Given (Some n) (the_number m) = ⊥
Given (Some n) a_skip = ⊥
Given (Some n) none_pending = ⊥
Given None one_pending = ⊥
Given None a_reserved = ⊥
Given None nothing_yet = Unit {0}
Given None (the_number m) = Unit {0}
Given None a_skip = Unit {0}
Given None none_pending = Unit {0}

builtin_right : (owner : Members) (b : Bool) → MakesRightly items_absorbed (λ m. true) owner (builtin_script b)
builtin_right owner true = (refl, (λ none. refl), tt)
builtin_right owner false = tt

pub items_right : (own : Bool) (name : Text) (owner : Members) (draft : Draft) (vocabularies : Vocabularies) (formats : Bool)
    → MakesRightly items_absorbed (λ m. true) owner (items_script own name owner draft vocabularies formats)
items_right true name owner draft vocabularies formats = ((λ is_self. refl), (tt, (refl, (λ none. refl), tt)), (tt, (refl, (λ none. refl), tt)))
items_right false name owner draft vocabularies formats = builtin_right owner (bytes_eq name (codes "type"))
