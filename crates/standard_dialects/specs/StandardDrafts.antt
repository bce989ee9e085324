-- The drafts that the standards' own URIs name, by either scheme, with or without an empty fragment.
-- The URI without a draft names the latest one. (draft-07 Core, section 7; Core 2020-12, section
-- 8.1.1)
use Rattle.std.specs.Prelude.{Bool, [], bytes_eq, codes, if◌then◌else◌, ◌||◌, ◌∷◌}
use Rattle.theory_definitions.specs.Instance.{Text}
use Rattle.theory_definitions.specs.Drafts.{Draft, draft_2019_09, draft_2020_12, draft_4, draft_6, draft_7, draft_unknown}
use Rattle.standard_subschemas.specs.SubschemaRules.{fragment_of, without_fragment}

-- a text is one of two URIs
abbrev pub is_either : Text → Text → Text → Bool
is_either one other t = bytes_eq t one || bytes_eq t other

-- the draft that a URI without a fragment names
abbrev pub draft_under : Text → Draft
draft_under t =
    if is_either (codes "http://json-schema.org/draft-04/schema") (codes "https://json-schema.org/draft-04/schema") t then draft_4
    else (if is_either (codes "http://json-schema.org/draft-06/schema") (codes "https://json-schema.org/draft-06/schema") t then draft_6
    else (if is_either (codes "http://json-schema.org/draft-07/schema") (codes "https://json-schema.org/draft-07/schema") t then draft_7
    else (if is_either (codes "https://json-schema.org/draft/2019-09/schema") (codes "http://json-schema.org/draft/2019-09/schema") t
    then draft_2019_09
    else (if is_either (codes "https://json-schema.org/draft/2020-12/schema") (codes "http://json-schema.org/draft/2020-12/schema") t
    then draft_2020_12
    else (if is_either (codes "https://json-schema.org/schema") (codes "http://json-schema.org/schema") t then draft_2020_12
    else draft_unknown)))))

-- a draft, if no fragment follows its URI
abbrev pub if_whole : Text → Draft → Draft
if_whole [] d = d
if_whole (x ∷ xs) d = draft_unknown

-- the draft that a URI of a standard names
abbrev pub standard_draft : Text → Draft
standard_draft t = if_whole (fragment_of t) (draft_under (without_fragment t))
