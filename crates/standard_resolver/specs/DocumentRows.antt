-- Worked rows of the narrow rule: the targets of references in small documents, by computation.
-- (Core 2020-12, section 8.2; RFC 6901, section 6)
use Rattle.std.specs.Prelude.{Bool, Err, List, None, Ok, Result, [], codes, false, true, ℕ, ◌≡◌, ◌++◌, ◌∷◌}
use Rattle.serde_json.specs.Data.{Data, array, boolean, item, member, no_items, no_members, object, string}
use Rattle.theory_definitions.specs.Instance.{Place, Text, to_member}
use Rattle.theory_definitions.specs.Drafts.{Draft, draft_2019_09, draft_2020_12, draft_7}
use Rattle.theory_definitions.specs.Resolving.{Found}
use Rattle.standard_subschemas.specs.declared.rules.Rule.TheVariants.{Narrow}
use Rattle.standard_resolver.specs.Dialects.{reading_of}
use Rattle.standard_resolver.specs.ResolverDocuments.{Document}
use Rattle.standard_resolver.specs.DocumentResources.{Table, table_for}
use Rattle.standard_resolver.specs.DocumentStates.{Point, no_identified, root_of}
use Rattle.standard_subschemas.specs.DocumentUris.{not_resolved, resolve_uri}
use Rattle.standard_resolver.specs.DocumentLookups.{looked_up, looked_up_recursive, no_name, no_resource, nothing_there}

-- ---- small documents

abbrev pub one : Text → Data → Data
one k d = object (member k d no_members)

abbrev pub two : Text → Data → Text → Data → Data
two k d l e = object (member k d (member l e no_members))

abbrev pub defs : Data → Data
defs d = one (codes "$defs") d

abbrev pub uri_of_root : Text
uri_of_root = codes "json-schema:///"

abbrev pub alone : Data → List Document
alone d = record { uri = uri_of_root; value = d } ∷ []

abbrev pub under : Text → Data → List Document
under uri d = record { uri = uri; value = d } ∷ []

-- ---- references

-- a state in the resource under a URI
abbrev pub in_these : Text → List ℕ → Point
in_these uri ns = record { base = uri; entered = ns }

-- the resources of documents by the narrow rule
abbrev pub table_in : List Document → Table
table_in documents = table_for (reading_of Narrow None draft_2020_12 documents) documents

abbrev pub leads : List Document → Point → Text → Bool → Result (Found Point) Text
leads documents s reference dynamic = looked_up (table_in documents) documents s reference dynamic

-- the target of a reference from the root of a single document
abbrev pub leads_alone : Data → Text → Result (Found Point) Text
leads_alone d reference = leads (alone d) (in_these uri_of_root (0 ∷ [])) reference false

abbrev pub found_in : Draft → ℕ → Place → Text → List ℕ → Result (Found Point) Text
found_in draft document path uri ns =
    Ok (record { place = record { document = document; path = path }; state = in_these uri ns; draft = draft })

abbrev pub found_at : Place → Result (Found Point) Text
found_at path = found_in draft_2020_12 0 path uri_of_root (0 ∷ [])

abbrev pub below_defs : Text → Place
below_defs k = to_member (codes "$defs") ∷ to_member k ∷ []

-- ---- names

-- {"$defs": {"a": {"$anchor": "s"}}}
abbrev pub named : Data
named = defs (one (codes "a") (one (codes "$anchor") (string (codes "s"))))

-- a name leads to the schema that has it
abbrev pub NameLeads : Type 0
NameLeads = leads_alone named (codes "#s") ≡ found_at (below_defs (codes "a"))

-- {"$defs": {"a": {"$anchor": "s"}, "b": {"$anchor": "s"}}}
abbrev pub twice_named : Data
twice_named = defs (two (codes "a") (one (codes "$anchor") (string (codes "s"))) (codes "b") (one (codes "$anchor") (string (codes "s"))))

-- if two schemas have the same name, the first is found
abbrev pub FirstNameLeads : Type 0
FirstNameLeads = leads_alone twice_named (codes "#s") ≡ found_at (below_defs (codes "a"))

-- ---- resources below the root

-- {"$defs": {"e": {"$id": "http://x/e", "$defs": {"t": {"$anchor": "s"}}}}}
abbrev pub embedding : Data
embedding = defs (one (codes "e") (two (codes "$defs") (one (codes "t") (one (codes "$anchor") (string (codes "s")))) (codes "$id")
    (string (codes "http://x/e"))))

abbrev pub embedded_path : Place
embedded_path = below_defs (codes "e") ++ below_defs (codes "t")

-- a pointer through a schema with an identifier enters its resource
abbrev pub PointerEnters : Type 0
PointerEnters = leads_alone embedding (codes "#/$defs/e/$defs/t")
    ≡ found_in draft_2020_12 0 embedded_path (codes "http://x/e") (0 ∷ 1 ∷ [])

-- the entered resource begins at that schema
abbrev pub EnteredBegins : Type 0
EnteredBegins = root_of (table_in (alone embedding)) (in_these (codes "http://x/e") (0 ∷ 1 ∷ []))
    ≡ record { document = 0; path = below_defs (codes "e") }

-- the resource is found under its URI, with its own pointers and names
abbrev pub UriLeads : Type 0
UriLeads = leads_alone embedding (codes "http://x/e#/$defs/t") ≡ found_in draft_2020_12 0 embedded_path (codes "http://x/e") (0 ∷ 1 ∷ [])

abbrev pub UriNameLeads : Type 0
UriNameLeads = leads_alone embedding (codes "http://x/e#s") ≡ found_in draft_2020_12 0 embedded_path (codes "http://x/e") (0 ∷ 1 ∷ [])

-- a name in the resource is not a name in the root
abbrev pub NameStaysInside : Type 0
NameStaysInside = leads_alone embedding (codes "#s") ≡ Err (no_name (codes "#s"))

-- {"$defs": {"e": {"$id": "e"}}}
abbrev pub relative : Data
relative = defs (one (codes "e") (one (codes "$id") (string (codes "e"))))

-- a schema is not entered if its identifier has no scheme
abbrev pub RelativeIsRefused : Type 0
RelativeIsRefused = leads_alone relative (codes "#/$defs/e") ≡ Err (no_identified (codes "e"))

-- {"$defs": {"e": {"$id": "http://x/e"}, "f": {"$id": "http://x/e"}}}
abbrev pub twice_identified : Data
twice_identified = defs
    (two (codes "e") (one (codes "$id") (string (codes "http://x/e"))) (codes "f") (one (codes "$id") (string (codes "http://x/e"))))

-- a schema is not entered if its URI belongs to another schema
abbrev pub SecondIsRefused : Type 0
SecondIsRefused = leads_alone twice_identified (codes "#/$defs/f") ≡ Err (no_identified (codes "http://x/e"))

-- {"$defs": {"a": {"$schema": "http://json-schema.org/draft-07/schema#", "$defs": {"b": {"$anchor":
-- "s"}}}}}
abbrev pub older : Data
older = defs (one (codes "a") (two (codes "$defs") (one (codes "b") (one (codes "$anchor") (string (codes "s")))) (codes "$schema")
    (string (codes "http://json-schema.org/draft-07/schema#"))))

-- the draft of a target is that of the schemas on the path
abbrev pub DraftOnTheWay : Type 0
DraftOnTheWay = leads_alone older (codes "#/$defs/a/$defs/b")
    ≡ found_in draft_7 0 (below_defs (codes "a") ++ below_defs (codes "b")) uri_of_root (0 ∷ [])

abbrev pub DraftOfAName : Type 0
DraftOfAName = leads_alone older (codes "#s") ≡ found_in draft_7 0 (below_defs (codes "a") ++ below_defs (codes "b")) uri_of_root (0 ∷ [])

-- ---- dynamic references

-- {"$id": "http://x/root", "$defs": {"list": {"$id": "http://x/list", "$defs": {"d":
-- {"$dynamicAnchor": "n"}}}, "s": {"$dynamicAnchor": "n"}}}
abbrev pub lists : Data
lists = two (codes "$defs")
    (two (codes "list") (two (codes "$defs") (one (codes "d") (one (codes "$dynamicAnchor") (string (codes "n")))) (codes "$id")
    (string (codes "http://x/list")))
    (codes "s") (one (codes "$dynamicAnchor") (string (codes "n")))) (codes "$id") (string (codes "http://x/root"))

abbrev pub in_list : Point
in_list = in_these (codes "http://x/list") (0 ∷ 1 ∷ [])

-- a dynamic reference leads into the first entered resource that has the name
abbrev pub DynamicLeadsOut : Type 0
DynamicLeadsOut = leads (under (codes "http://x/root") lists) in_list (codes "#n") true
    ≡ found_in draft_2020_12 0 (below_defs (codes "s")) (codes "http://x/root") (0 ∷ 1 ∷ [])

-- a plain reference stays inside its resource
abbrev pub PlainStaysInside : Type 0
PlainStaysInside = leads (under (codes "http://x/root") lists) in_list (codes "#n") false
    ≡ found_in draft_2020_12 0 (below_defs (codes "list") ++ below_defs (codes "d")) (codes "http://x/list") (0 ∷ 1 ∷ [])

-- a dynamic reference does too, if no other resource was entered
abbrev pub DynamicStaysAlone : Type 0
DynamicStaysAlone = leads (under (codes "http://x/root") lists) (in_these (codes "http://x/list") (1 ∷ [])) (codes "#n") true
    ≡ found_in draft_2020_12 0 (below_defs (codes "list") ++ below_defs (codes "d")) (codes "http://x/list") (1 ∷ [])

-- ---- recursive references

-- {"$defs": {"n": {"$id": "http://x/n", "$recursiveAnchor": true}}, "$id": "http://x/r",
-- "$recursiveAnchor": true, "$schema": "https://json-schema.org/draft/2019-09/schema"}
abbrev pub recursing : Bool → Data
recursing outer = object
    (member (codes "$defs") (one (codes "n") (two (codes "$id") (string (codes "http://x/n")) (codes "$recursiveAnchor") (boolean true)))
    (member (codes "$id") (string (codes "http://x/r"))
    (member (codes "$recursiveAnchor") (boolean outer)
    (member (codes "$schema") (string (codes "https://json-schema.org/draft/2019-09/schema")) no_members))))

abbrev pub recurs : Bool → Result (Found Point) Text
recurs outer = looked_up_recursive (table_in (under (codes "http://x/r") (recursing outer))) (in_these (codes "http://x/n") (0 ∷ 1 ∷ []))

-- a recursive reference leads to the outermost root that is recursive
abbrev pub RecursiveLeadsOut : Type 0
RecursiveLeadsOut = recurs true ≡ found_in draft_2019_09 0 [] (codes "http://x/r") (0 ∷ 1 ∷ [])

abbrev pub RecursiveStaysInside : Type 0
RecursiveStaysInside = recurs false ≡ found_in draft_2019_09 0 (below_defs (codes "n")) (codes "http://x/n") (0 ∷ 1 ∷ [])

-- ---- several documents

-- the second document is supplied under a URI with a fragment, which is ignored
abbrev pub both : List Document
both = record { uri = codes "http://x/a"; value = one (codes "$ref") (string (codes "b#/$defs/c")) }
    ∷ record { uri = codes "http://x/b#z"; value = named } ∷ []

abbrev pub from_first : Text → Result (Found Point) Text
from_first reference = leads both (in_these (codes "http://x/a") (0 ∷ [])) reference false

abbrev pub OtherDocumentIsFound : Type 0
OtherDocumentIsFound = from_first (codes "http://x/b#s")
    ≡ found_in draft_2020_12 1 (below_defs (codes "a")) (codes "http://x/b") (0 ∷ 1 ∷ [])

abbrev pub OtherRootIsFound : Type 0
OtherRootIsFound = from_first (codes "http://x/b") ≡ found_in draft_2020_12 1 [] (codes "http://x/b") (0 ∷ 1 ∷ [])

-- no reference is merged with the base's path
abbrev pub RelativeReferenceIsRefused : Type 0
RelativeReferenceIsRefused = from_first (codes "b#/$defs/c") ≡ Err (not_resolved (codes "b#/$defs/c"))

abbrev pub UnknownUriIsRefused : Type 0
UnknownUriIsRefused = from_first (codes "http://x/no") ≡ Err (no_resource (codes "http://x/no"))

-- the empty reference and the empty fragment lead to the root of the resource
abbrev pub EmptyLeadsToTheRoot : Type 0
EmptyLeadsToTheRoot = from_first [] ≡ found_in draft_2020_12 0 [] (codes "http://x/a") (0 ∷ [])

abbrev pub HashLeadsToTheRoot : Type 0
HashLeadsToTheRoot = from_first (codes "#") ≡ found_in draft_2020_12 0 [] (codes "http://x/a") (0 ∷ [])

-- a fragment is resolved against the base without the base's own fragment
abbrev pub BaseLosesItsFragment : Type 0
BaseLosesItsFragment = resolve_uri Narrow (codes "http://x/b#z") (codes "#s") ≡ Ok (codes "http://x/b#s")

-- a `:` after a `/` does not end a scheme
abbrev pub LateColonIsRefused : Type 0
LateColonIsRefused = resolve_uri Narrow (codes "http://x/b") (codes "a/b:c") ≡ Err (not_resolved (codes "a/b:c"))

-- ---- unusual pointers and names

-- {"$defs": {"01": {"$anchor": ""}, "a~2b": true, "l": [true]}}
abbrev pub odd : Data
odd = defs (object (member (codes "01") (one (codes "$anchor") (string []))
    (member (codes "a~2b") (boolean true) (member (codes "l") (array (item (boolean true) no_items)) no_members))))

-- a `~` before a character other than 0 and 1 means itself
abbrev pub OddEscapeStands : Type 0
OddEscapeStands = leads_alone odd (codes "#/$defs/a~2b") ≡ found_at (below_defs (codes "a~2b"))

-- digits with a leading 0 name a member, not an item
abbrev pub LeadingZeroIsAName : Type 0
LeadingZeroIsAName = leads_alone odd (codes "#/$defs/01") ≡ found_at (below_defs (codes "01"))

abbrev pub LeadingZeroIsNoIndex : Type 0
LeadingZeroIsNoIndex = leads_alone odd (codes "#/$defs/l/00") ≡ Err (nothing_there (codes "#/$defs/l/00"))

-- a lone `%` is a name that no schema has; bytes that are not UTF-8 lead to no member here
abbrev pub LonePercentIsAName : Type 0
LonePercentIsAName = leads_alone odd (codes "#%") ≡ Err (no_name (codes "#%"))

abbrev pub NoUtf8LeadsNowhere : Type 0
NoUtf8LeadsNowhere = leads_alone odd (codes "#/%FF") ≡ Err (nothing_there (codes "#/%FF"))

-- a fragment is decoded once
abbrev pub DecodedOnce : Type 0
DecodedOnce = leads_alone (one (codes "%25") (boolean true)) (codes "#/%2525") ≡ found_at (to_member (codes "%25") ∷ [])

-- all rows
pub record RowsHold : Type 0 where
  pub name : NameLeads
  pub first_name : FirstNameLeads
  pub enters : PointerEnters
  pub begins : EnteredBegins
  pub uri : UriLeads
  pub uri_name : UriNameLeads
  pub inside : NameStaysInside
  pub relative_identifier : RelativeIsRefused
  pub second_identifier : SecondIsRefused
  pub draft : DraftOnTheWay
  pub draft_of_name : DraftOfAName
  pub dynamic : DynamicLeadsOut
  pub plain : PlainStaysInside
  pub dynamic_alone : DynamicStaysAlone
  pub recursive : RecursiveLeadsOut
  pub recursive_inside : RecursiveStaysInside
  pub other_document : OtherDocumentIsFound
  pub other_root : OtherRootIsFound
  pub relative_reference : RelativeReferenceIsRefused
  pub unknown_uri : UnknownUriIsRefused
  pub empty : EmptyLeadsToTheRoot
  pub hash : HashLeadsToTheRoot
  pub base : BaseLosesItsFragment
  pub colon : LateColonIsRefused
  pub odd_escape : OddEscapeStands
  pub leading_zero : LeadingZeroIsAName
  pub no_index : LeadingZeroIsNoIndex
  pub lone_percent : LonePercentIsAName
  pub no_utf8 : NoUtf8LeadsNowhere
  pub once : DecodedOnce
