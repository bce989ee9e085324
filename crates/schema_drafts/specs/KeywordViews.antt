-- How contracts see drafts, vocabularies and keywords.
use Rattle.std.specs.Prelude.{codes, option_map, string_bytes}
use Rattle.schema_drafts.specs.declared.keywords.drafts.Draft.{Draft as DraftOfCode}
use Rattle.schema_drafts.specs.declared.keywords.drafts.Draft.TheVariants.{Draft4, Draft6, Draft7, Draft201909, Draft202012, Unknown}
use Rattle.schema_drafts.specs.declared.keywords.vocabularies.Vocabulary.{Vocabulary as VocabularyOfCode}
use Rattle.schema_drafts.specs.declared.keywords.vocabularies.Vocabulary.TheVariants.{Applicator, Content, Core, Custom, Format, FormatAnnotation, FormatAssertion, Metadata, Unevaluated, Validation}
use Rattle.schema_drafts.specs.declared.keywords.builtin.BuiltinKeyword.{BuiltinKeyword}
use Rattle.schema_drafts.specs.declared.keywords.builtin.BuiltinKeyword.TheVariants as builtin
use Rattle.schema_drafts.specs.declared.keywords.entries.KeywordForm.{KeywordForm}
use Rattle.schema_drafts.specs.declared.keywords.entries.KeywordForm.TheVariants as form
use Rattle.schema_drafts.specs.declared.keywords.entries.BuiltinEntry.{BuiltinEntry}
use Rattle.schema_drafts.specs.declared.keywords.entries.Support.{Support as SupportOfCode}
use Rattle.schema_drafts.specs.declared.keywords.keyword.Keyword.{Keyword}
use Rattle.schema_drafts.specs.declared.keywords.keyword.Keyword.TheVariants as keyword
use Rattle.theory_definitions.specs.Instance.{Text}
use Rattle.theory_definitions.specs.Drafts
use Rattle.schema_drafts.specs.KeywordTable.{Entry, Form, Named, Support, annotating_form, builtin_name, custom_name, draft_4_form, plain_form}

abbrev pub draft_of : DraftOfCode → Drafts.Draft
draft_of Draft4 = Drafts.draft_4
draft_of Draft6 = Drafts.draft_6
draft_of Draft7 = Drafts.draft_7
draft_of Draft201909 = Drafts.draft_2019_09
draft_of Draft202012 = Drafts.draft_2020_12
draft_of Unknown = Drafts.draft_unknown

abbrev pub vocabulary_of : VocabularyOfCode → Drafts.Vocabulary
vocabulary_of Core = Drafts.core_vocabulary
vocabulary_of Applicator = Drafts.applicator_vocabulary
vocabulary_of Unevaluated = Drafts.unevaluated_vocabulary
vocabulary_of Validation = Drafts.validation_vocabulary
vocabulary_of Metadata = Drafts.metadata_vocabulary
vocabulary_of Format = Drafts.format_vocabulary
vocabulary_of FormatAnnotation = Drafts.format_annotation_vocabulary
vocabulary_of FormatAssertion = Drafts.format_assertion_vocabulary
vocabulary_of Content = Drafts.content_vocabulary
vocabulary_of (Custom uri) = Drafts.custom_vocabulary (string_bytes uri)

abbrev pub form_of : KeywordForm → Form
form_of form.Plain = plain_form
form_of form.Draft4 = draft_4_form
form_of form.Annotating = annotating_form

-- the name of each keyword, as written in schemas
abbrev pub builtin_text : BuiltinKeyword → Text
builtin_text builtin.TypeKeyword = codes "type"
builtin_text builtin.Const = codes "const"
builtin_text builtin.Enum = codes "enum"
builtin_text builtin.Minimum = codes "minimum"
builtin_text builtin.Maximum = codes "maximum"
builtin_text builtin.ExclusiveMinimum = codes "exclusiveMinimum"
builtin_text builtin.ExclusiveMaximum = codes "exclusiveMaximum"
builtin_text builtin.MultipleOf = codes "multipleOf"
builtin_text builtin.MinLength = codes "minLength"
builtin_text builtin.MaxLength = codes "maxLength"
builtin_text builtin.MinItems = codes "minItems"
builtin_text builtin.MaxItems = codes "maxItems"
builtin_text builtin.MinProperties = codes "minProperties"
builtin_text builtin.MaxProperties = codes "maxProperties"
builtin_text builtin.Required = codes "required"
builtin_text builtin.DependentRequired = codes "dependentRequired"
builtin_text builtin.Pattern = codes "pattern"
builtin_text builtin.Format = codes "format"
builtin_text builtin.ContentEncoding = codes "contentEncoding"
builtin_text builtin.ContentMediaType = codes "contentMediaType"
builtin_text builtin.ContentSchema = codes "contentSchema"
builtin_text builtin.UniqueItems = codes "uniqueItems"
builtin_text builtin.Properties = codes "properties"
builtin_text builtin.PatternProperties = codes "patternProperties"
builtin_text builtin.AdditionalProperties = codes "additionalProperties"
builtin_text builtin.PropertyNames = codes "propertyNames"
builtin_text builtin.Items = codes "items"
builtin_text builtin.PrefixItems = codes "prefixItems"
builtin_text builtin.AdditionalItems = codes "additionalItems"
builtin_text builtin.Contains = codes "contains"
builtin_text builtin.Dependencies = codes "dependencies"
builtin_text builtin.DependentSchemas = codes "dependentSchemas"
builtin_text builtin.AllOf = codes "allOf"
builtin_text builtin.AnyOf = codes "anyOf"
builtin_text builtin.OneOf = codes "oneOf"
builtin_text builtin.Not = codes "not"
builtin_text builtin.If = codes "if"
builtin_text builtin.UnevaluatedProperties = codes "unevaluatedProperties"
builtin_text builtin.UnevaluatedItems = codes "unevaluatedItems"
builtin_text builtin.Ref = codes "$ref"
builtin_text builtin.RecursiveRef = codes "$recursiveRef"
builtin_text builtin.DynamicRef = codes "$dynamicRef"

abbrev pub entry_seen : BuiltinEntry → Entry
entry_seen e = record { name = builtin_text e.keyword; form = form_of e.form }

abbrev pub support_seen : SupportOfCode → Support
support_seen s = record { need = option_map vocabulary_of s.need; form = form_of s.form }

abbrev pub keyword_seen : Keyword → Named
keyword_seen (keyword.Builtin k) = builtin_name (builtin_text k)
keyword_seen (keyword.Custom name) = custom_name (string_bytes name)

abbrev pub keyword_of_builtin : BuiltinKeyword → Keyword
keyword_of_builtin k = keyword.Builtin k
