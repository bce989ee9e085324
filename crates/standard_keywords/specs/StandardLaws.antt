-- The makers of the standard's table keep the law of makers.
use Rattle.std.specs.Prelude.{Bool, List, None, Option, Some, [], false, refl, true, ◌≡◌}
use Rattle.serde_json.specs.Data.{Data, Members}
use Rattle.serde_json.specs.Find.{get_member}
use Rattle.theory_definitions.specs.Drafts.{Draft, Vocabularies}
use Rattle.theory_definitions.specs.Instance.{Text}
use Rattle.theory_definitions.specs.Making.{Script}
use Rattle.schema_traits.specs.MakerViews.{MakesRightly}
use Rattle.keyword_joins.specs.BothTables as joins
use Rattle.standard_applicators.specs.Makers as applicators
use Rattle.standard_applicators.specs.declared.applicator.StandardApplicator.{StandardApplicator}
use Rattle.standard_assertions.specs.Assertions.{Shape as Assertion, shows_no_fraction}
use Rattle.standard_assertions.specs.Made.{assertion_script}
use Rattle.standard_assertions.specs.MadeLaws as assertions
use Rattle.standard_basics.specs.BasicShape.{is_whole}
use Rattle.standard_basics.specs.Laws.{none_absorbed}
use Rattle.standard_basics.specs.MakerLaws as basics
use Rattle.standard_basics.specs.Makers.{basic_script}
use Rattle.standard_formats.specs.FormatMaking.{format_script}
use Rattle.standard_formats.specs.declared.keyword.FormatKeyword.{FormatKeyword}
use Rattle.standard_pattern_properties.specs.Making.{gated_script}
use Rattle.standard_pattern_properties.specs.declared.keyword.GatedKeyword.{GatedKeyword}
use Rattle.standard_keywords.specs.Families.{by_family}
use Rattle.standard_keywords.specs.Patterns.{pattern_refusal}
use Rattle.standard_keywords.specs.StandardScripts.{Shape, refused_at, script_by, standard_script, treated_script, unless_refused}
use Rattle.standard_keywords.specs.Treatments.{refusal_text, treated}
use Rattle.standard_keywords.specs.declared.family.Family.TheVariants as family
use Rattle.standard_keywords.specs.declared.patterns.UnreadablePatterns.{UnreadablePatterns}
use Rattle.standard_keywords.specs.declared.treatment.Treatment.{Treatment}
use Rattle.standard_keywords.specs.declared.treatment.Treatment.TheVariants.{Applied, Asserted, Basic, Formatted, Gated, Refused, Silent}

-- the scripts of the makers of a table
abbrev EachRightly : {K : Type 0} → (K → List Text) → (K → Bool) → (Bool → Text → Members → Draft → Vocabularies → Bool → Script K) → Type 0
EachRightly absorbed is_whole script = (own : Bool) (name : Text) (object : Members) (draft : Draft) (vocabularies : Vocabularies) (formats : Bool)
    → MakesRightly absorbed is_whole object (script own name object draft vocabularies formats)

module _ (absorbed : Assertion → List Text) (none : (m : Assertion) → [] ≡ absorbed m)
    (applicator_absorbed : StandardApplicator → List Text) (applicator_whole : StandardApplicator → Bool) (applicators_right : EachRightly applicator_absorbed applicator_whole applicators.standard_script)
    (gated_absorbed : GatedKeyword → List Text) (gated_whole : GatedKeyword → Bool) (gates_right : EachRightly gated_absorbed gated_whole gated_script)
    (format_absorbed : FormatKeyword → List Text) (format_whole : FormatKeyword → Bool) (formats_right : EachRightly format_absorbed format_whole format_script) where
  abbrev all_absorbed : Shape → List Text
  all_absorbed = by_family absorbed applicator_absorbed gated_absorbed format_absorbed none_absorbed

  abbrev all_whole : Shape → Bool
  all_whole = by_family shows_no_fraction applicator_whole gated_whole format_whole is_whole

  refused_rightly : (object : Members) (name text : Text) (o : Option Data) → MakesRightly all_absorbed all_whole object (refused_at {K = Shape} name text o)
  refused_rightly object name text None = tt
  refused_rightly object name text (Some d) = λ h. refl

  unless_rightly : (object : Members) (name : Text) (r : Option Text) (o : Option Data) (s : Script Shape) → MakesRightly all_absorbed all_whole object s
      → MakesRightly all_absorbed all_whole object (unless_refused r name o s)
  unless_rightly object name None o s h = h
  unless_rightly object name (Some text) o s h = refused_rightly object name text o

  rightly_by : (t : Treatment) (name : Text) (object : Members) (draft : Draft) (vocabularies : Vocabularies) (formats : Bool)
      → MakesRightly all_absorbed all_whole object (script_by t name object draft vocabularies formats)
  rightly_by Asserted name object draft vocabularies formats =
      joins.makes_rightly family.Assertion absorbed all_absorbed shows_no_fraction all_whole (λ m. refl) (λ m. refl) object
      (assertion_script false name object draft vocabularies formats) (assertions.makes_rightly absorbed none false name object draft vocabularies formats)
  rightly_by Applied name object draft vocabularies formats =
      joins.makes_rightly family.Applicator applicator_absorbed all_absorbed applicator_whole all_whole (λ m. refl) (λ m. refl) object
      (applicators.standard_script false name object draft vocabularies formats) (applicators_right false name object draft vocabularies formats)
  rightly_by Gated name object draft vocabularies formats =
      joins.makes_rightly family.PatternProperties gated_absorbed all_absorbed gated_whole all_whole (λ m. refl) (λ m. refl) object
      (gated_script false name object draft vocabularies formats) (gates_right false name object draft vocabularies formats)
  rightly_by Formatted name object draft vocabularies formats =
      joins.makes_rightly family.Format format_absorbed all_absorbed format_whole all_whole (λ m. refl) (λ m. refl) object
      (format_script false name object draft vocabularies formats) (formats_right false name object draft vocabularies formats)
  rightly_by Basic name object draft vocabularies formats =
      joins.makes_rightly family.Basic none_absorbed all_absorbed is_whole all_whole (λ m. refl) (λ m. refl) object
      (basic_script false name object draft vocabularies formats) (basics.makes_rightly false name object draft vocabularies formats)
  rightly_by Silent name object draft vocabularies formats = tt
  rightly_by Refused name object draft vocabularies formats = refused_rightly object name (refusal_text name) (get_member name object)

  treated_rightly : EachRightly all_absorbed all_whole treated_script
  treated_rightly true name object draft vocabularies formats = tt
  treated_rightly false name object draft vocabularies formats = rightly_by (treated draft object name) name object draft vocabularies formats

  pub makes_rightly : (unreadable : UnreadablePatterns) → EachRightly all_absorbed all_whole (standard_script unreadable)
  makes_rightly unreadable own name object draft vocabularies formats =
      unless_rightly object name (pattern_refusal unreadable own name (get_member name object)) (get_member name object)
      (treated_script own name object draft vocabularies formats) (treated_rightly own name object draft vocabularies formats)
