-- What drafts and vocabularies decide about a schema's keywords.
use Rattle.std.specs.Prelude.{Bool, false, true, ◌||◌}
use Rattle.theory_definitions.specs.Drafts.{Draft, Vocabularies, draft_4, format_assertion_vocabulary, format_vocabulary, has_vocabulary}

-- a number with an integer's value, such as 1.0, is an integer, except in draft 4 (section 3.5 of
-- draft-zyp-json-schema, version 4; section 6.25 of draft-wright-json-schema-validation, version 1)
abbrev pub integer_valued_numbers : Draft → Bool
integer_valued_numbers draft_4 = false
integer_valued_numbers _ = true

-- the vocabularies require formats to be validated (Validation 2020-12, 7.2.2; Validation 2019-09,
-- 7.2)
abbrev pub asserts_formats : Vocabularies → Bool
asserts_formats vocabularies = has_vocabulary vocabularies format_assertion_vocabulary || has_vocabulary vocabularies format_vocabulary
