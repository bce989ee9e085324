-- The URIs of the meta-schemas of the drafts, without fragments. (Core 2020-12, 8.1.1; Core 2019-09,
-- 8.1.1; drafts 4, 6 and 7, `$schema`)
use Rattle.std.specs.Prelude.{codes}
use Rattle.theory_definitions.specs.Drafts.{Draft, draft_2019_09, draft_2020_12, draft_4, draft_6, draft_7, draft_unknown}
use Rattle.theory_definitions.specs.Instance.{Text}

-- the URI of a draft's meta-schema; an unknown draft counts as 2020-12
abbrev pub uri_of : Draft → Text
uri_of draft_4 = codes "http://json-schema.org/draft-04/schema"
uri_of draft_6 = codes "http://json-schema.org/draft-06/schema"
uri_of draft_7 = codes "http://json-schema.org/draft-07/schema"
uri_of draft_2019_09 = codes "https://json-schema.org/draft/2019-09/schema"
uri_of draft_2020_12 = codes "https://json-schema.org/draft/2020-12/schema"
uri_of draft_unknown = codes "https://json-schema.org/draft/2020-12/schema"
