-- How some keywords are treated in some drafts, worked out.
use Rattle.std.proofs.Common.{◌≡◌, codes, refl}
use Rattle.serde_json.specs.Data.{Members, array, item, member, no_items, no_members, object}
use Rattle.theory_definitions.specs.Drafts.{draft_2019_09, draft_2020_12, draft_4, draft_7}
use Rattle.standard_keywords.specs.Treatments.{treated}
use Rattle.standard_keywords.specs.declared.treatment.Treatment.TheVariants.{Applied, Asserted, Basic, Formatted, Gated, Refused, Silent}

-- `{"items": [{}]}` and `{"items": {}}`
abbrev listed : Members
listed = member (codes "items") (array (item (object no_members) no_items)) no_members

abbrev single : Members
single = member (codes "items") (object no_members) no_members

an_older_list : treated draft_2019_09 listed (codes "items") ≡ Applied
an_older_list = refl

one_schema : treated draft_7 single (codes "items") ≡ Basic
one_schema = refl

a_list_since : treated draft_2020_12 listed (codes "items") ≡ Basic
a_list_since = refl

an_assertion : treated draft_4 no_members (codes "minimum") ≡ Asserted
an_assertion = refl

unevaluated : treated draft_2020_12 no_members (codes "unevaluatedProperties") ≡ Refused
unevaluated = refl

more_items_before : treated draft_2019_09 no_members (codes "additionalItems") ≡ Applied
more_items_before = refl

more_items_since : treated draft_2020_12 no_members (codes "additionalItems") ≡ Silent
more_items_since = refl

a_format : treated draft_7 no_members (codes "format") ≡ Formatted
a_format = refl

dependencies_before : treated draft_2019_09 no_members (codes "dependencies") ≡ Applied
dependencies_before = refl

dependencies_since : treated draft_2020_12 no_members (codes "dependencies") ≡ Applied
dependencies_since = refl

more_members : treated draft_4 no_members (codes "additionalProperties") ≡ Gated
more_members = refl
