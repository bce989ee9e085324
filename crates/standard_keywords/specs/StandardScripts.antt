-- The scripts of the makers of the standard's table. Each keyword is treated in one way: one of the
-- five tables makes it, or nothing is made, or it is refused by name. Before that, the schema is
-- refused if a pattern cannot be read.
use Rattle.std.specs.Prelude.{Bool, None, Option, Some, false, true}
use Rattle.serde_json.specs.Data.{Data, Members}
use Rattle.serde_json.specs.Find.{get_member}
use Rattle.theory_definitions.specs.Drafts.{Draft, Vocabularies}
use Rattle.theory_definitions.specs.Instance.{Text}
use Rattle.theory_definitions.specs.Making.{Script, nothing, refused, then_end}
use Rattle.schema_traits.specs.MakerViews.{Waiting}
use Rattle.keyword_authoring.specs.declared.leaves.Telling.{Telling}
use Rattle.keyword_makers.specs.MakerViews.{waiting_of}
use Rattle.keyword_makers.specs.Making.{refused_error}
use Rattle.keyword_makers.specs.declared.maker.PathsMaker.{PathsMaker}
use Rattle.keyword_joins.specs.BothScripts.{script_as, waiting_as}
use Rattle.standard_applicators.specs.Makers as applicators
use Rattle.standard_applicators.specs.declared.applicator.StandardApplicator.{StandardApplicator}
use Rattle.standard_assertions.specs.Assertions.{Shape as Assertion}
use Rattle.standard_assertions.specs.Made.{assertion_script}
use Rattle.standard_assertions.specs.Shapes as assertion_shapes
use Rattle.standard_basics.specs.BasicShape.{BasicShape}
use Rattle.standard_basics.specs.Makers.{basic_script}
use Rattle.standard_basics.specs.Shapes as basic_shapes
use Rattle.standard_basics.specs.declared.keyword.BasicKeyword.{BasicKeyword}
use Rattle.standard_formats.specs.FormatMaking.{format_script}
use Rattle.standard_formats.specs.Shapes as format_shapes
use Rattle.standard_formats.specs.declared.keyword.FormatKeyword.{FormatKeyword}
use Rattle.standard_pattern_properties.specs.Making.{gated_script}
use Rattle.standard_pattern_properties.specs.declared.keyword.GatedKeyword.{GatedKeyword}
use Rattle.standard_keywords.specs.Patterns.{pattern_refusal}
use Rattle.standard_keywords.specs.Treatments.{refusal_text, treated}
use Rattle.standard_keywords.specs.declared.family.Family.{Family}
use Rattle.standard_keywords.specs.declared.family.Family.TheVariants as family
use Rattle.standard_keywords.specs.declared.patterns.UnreadablePatterns.{UnreadablePatterns}
use Rattle.standard_keywords.specs.declared.treatment.Treatment.{Treatment}
use Rattle.standard_keywords.specs.declared.treatment.Treatment.TheVariants.{Applied, Asserted, Basic, Formatted, Gated, Refused, Silent}

-- a refusal with this text, which shows the keyword's value
abbrev pub refused_at : {K : Type 0} → Text → Text → Option Data → Script K
refused_at name text None = then_end nothing
refused_at name text (Some d) = then_end (refused true (refused_error name d text))

-- the shape of a keyword: what contracts know of it, whatever its form in memory
abbrev pub Shape : Type 0
Shape = Family Assertion StandardApplicator GatedKeyword FormatKeyword BasicShape

abbrev pub script_by : Treatment → Text → Members → Draft → Vocabularies → Bool → Script Shape
script_by Asserted name object draft vocabularies formats = script_as family.Assertion (assertion_script false name object draft vocabularies formats)
script_by Applied name object draft vocabularies formats = script_as family.Applicator (applicators.standard_script false name object draft vocabularies formats)
script_by Gated name object draft vocabularies formats = script_as family.PatternProperties (gated_script false name object draft vocabularies formats)
script_by Formatted name object draft vocabularies formats = script_as family.Format (format_script false name object draft vocabularies formats)
script_by Basic name object draft vocabularies formats = script_as family.Basic (basic_script false name object draft vocabularies formats)
script_by Silent name object draft vocabularies formats = then_end nothing
script_by Refused name object draft vocabularies formats = refused_at name (refusal_text name) (get_member name object)

-- no name is the table's own, so such a name makes nothing
abbrev pub treated_script : Bool → Text → Members → Draft → Vocabularies → Bool → Script Shape
treated_script true name object draft vocabularies formats = then_end nothing
treated_script false name object draft vocabularies formats = script_by (treated draft object name) name object draft vocabularies formats

-- first, the schema is refused if a pattern of the member cannot be read
abbrev pub unless_refused : Option Text → Text → Option Data → Script Shape → Script Shape
unless_refused None name o s = s
unless_refused (Some text) name o s = refused_at name text o

abbrev pub standard_script : UnreadablePatterns → Bool → Text → Members → Draft → Vocabularies → Bool → Script Shape
standard_script unreadable own name object draft vocabularies formats =
    unless_refused (pattern_refusal unreadable own name (get_member name object)) name (get_member name object)
    (treated_script own name object draft vocabularies formats)

-- ---- what a maker waits for

abbrev pub standard_waiting : Family (PathsMaker (Telling Assertion)) (PathsMaker StandardApplicator) (PathsMaker GatedKeyword) (PathsMaker (Telling FormatKeyword)) (PathsMaker BasicKeyword) → Waiting Shape
standard_waiting (family.Assertion m) = waiting_as family.Assertion (waiting_of assertion_shapes.shape_of m)
standard_waiting (family.Applicator m) = waiting_as family.Applicator (waiting_of (λ (k : StandardApplicator). k) m)
standard_waiting (family.PatternProperties m) = waiting_as family.PatternProperties (waiting_of (λ (k : GatedKeyword). k) m)
standard_waiting (family.Format m) = waiting_as family.Format (waiting_of format_shapes.shape_of m)
standard_waiting (family.Basic m) = waiting_as family.Basic (waiting_of basic_shapes.shape_of m)
