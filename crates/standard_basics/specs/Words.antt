-- The meaning of each basic keyword: what it reports of an instance.
use Rattle.std.specs.Prelude.{Bool, List, None, Option, Some, [], codes, false, filter, is_some, map, min, not, ℕ, ◌++◌, ◌-◌, ◌&&◌, ◌∷◌}
use Rattle.serde_json.specs.Data.{Members}
use Rattle.serde_json.specs.Find.{as_object}
use Rattle.theory_definitions.specs.Instance.{Subject, Text, a_name, a_value, member_of}
use Rattle.schema_reports.specs.ReportViews.{spoken}
use Rattle.theory_definitions.specs.Keywords.{Answer, Keywords, Question, Reply}
use Rattle.theory_definitions.specs.Turns.{Standing}
use Rattle.schema_traits.specs.KeywordViews.{fresh}
use Rattle.theory_definitions.specs.Meaning.{subject_text}
use Rattle.standard_basics.specs.declared.names.NamesRun.{NamesRun}
use Rattle.standard_basics.specs.declared.type_names.TypeName.{TypeName}
use Rattle.keyword_authoring.specs.declared.run.Progress.{Progress}
use Rattle.standard_basics.specs.TypeNames.{fits, fits_one, type_name}
use Rattle.keyword_authoring.specs.Members.{at_name, has_member, is_object, members_from, only_if, subject_names}
use Rattle.standard_basics.specs.BasicShape.{BasicShape, applies, has_count, has_items, has_pattern, has_prefix_items, has_properties, has_property_names, has_type, has_types, requires}
use Rattle.standard_basics.specs.Counts.{count_fits, count_name, count_text, subject_string}
use Rattle.keyword_authoring.specs.Items.{child_at_item, each_from, first_at_item, item_count}
use Rattle.keyword_authoring.specs.Ways.{Way, asks_match, passes_on, passes_some, questions, tells, unless, way_begin, way_faults, way_holds, way_step, way_turn, way_turns, way_units}
use Rattle.keyword_authoring.specs.WayWords.{left_at_most, run_ends, run_fits}
use Rattle.schema_applicators.specs.Words as applicators

-- ---- `type` (Validation 2020-12, 6.1.1)

abbrev pub type_text : TypeName → Subject → Text
type_text t s = subject_text s ++ codes " is not of type \"" ++ type_name t ++ codes "\""

abbrev pub more_names : List TypeName → Text
more_names [] = []
more_names (t ∷ ts) = codes ", \"" ++ type_name t ++ codes "\"" ++ more_names ts

abbrev pub names_text : List TypeName → Text
names_text [] = []
names_text (t ∷ ts) = codes "\"" ++ type_name t ++ codes "\"" ++ more_names ts

abbrev pub types_text : List TypeName → Subject → Text
types_text ts s = subject_text s ++ codes " is not of types " ++ names_text ts

-- ---- `required` (Validation 2020-12, 6.5.3)

-- whether the subject is an object without a member of this name
abbrev pub lacks : Text → Subject → Bool
lacks k s = is_object s && not (has_member k s)

abbrev pub missing : List Text → Subject → List Text
missing ks s = filter (λ k. lacks k s) ks

abbrev pub required_text : Text → Text
required_text k = subject_text (a_name k) ++ codes " is a required property"

-- ---- `pattern` (Validation 2020-12, 6.3.3)

abbrev pub pattern_text : Text → Subject → Text
pattern_text pattern s = subject_text s ++ codes " does not match \"" ++ pattern ++ codes "\""

-- `pattern` accepts any subject that is not a text, and asks whether the pattern matches a text.
abbrev pub pattern_way : Bool → Text → Subject → Option Text → Way
pattern_way texts pattern s None = tells (codes "pattern") []
pattern_way texts pattern s (Some text) = asks_match (codes "pattern") (record { pattern = pattern; subject = text }) (spoken texts (pattern_text pattern s))

-- ---- all keywords; where texts are not claimed, each counts as empty

abbrev pub way : Bool → BasicShape → Subject → Way
way texts (has_type t) s = tells (codes "type") (map (spoken texts) (unless (fits t s) (type_text t s)))
way texts (has_types ts) s = tells (codes "type") (map (spoken texts) (unless (fits_one ts s) (types_text ts s)))
way texts (requires ks) s = tells (codes "required") (map (λ k. spoken texts (required_text k)) (missing ks s))
way texts (has_properties ks) s = passes_some (members_from 0 ks s)
way texts (has_count kind n) s = tells (count_name kind) (map (spoken texts) (unless (count_fits kind n s) (count_text kind n s)))
way texts (has_pattern pattern) s = pattern_way texts pattern s (subject_string s)
way texts (has_prefix_items n) s = passes_on (each_from child_at_item 0 (min n (item_count s)))
way texts (has_items n) s = passes_on (each_from first_at_item n (item_count s - n))
way texts has_property_names s = passes_on (map at_name (subject_names s))
way texts (applies a) s = applicators.way texts a s

-- ---- the course of a run

-- A run of `propertyNames` holds the names of the members from its beginning on, in order. Each
-- turn looks up the next name among the instance's members, so that it need not count through the
-- earlier ones.

-- whether one of the members has this name
abbrev pub is_named : Text → Option Members → Bool
is_named k None = false
is_named k (Some ms) = is_some (member_of k ms)

abbrev pub has_name : Text → Subject → Bool
has_name k (a_value d) = is_named k (as_object d)
has_name k (a_name n) = false

-- the question that evaluates the only child at the name, if a member has it
abbrev pub name_asked : Subject → Text → Option Question
name_asked s k = only_if (has_name k s) (at_name k)

-- the names that a run holds
abbrev pub names_held : BasicShape → Subject → List Text
names_held has_property_names s = subject_names s
names_held m s = []

-- how a run that holds these names evaluates an instance
abbrev pub held_way : Bool → List Text → BasicShape → Subject → Way
held_way texts ks has_property_names s = passes_some (map (name_asked s) ks)
held_way texts ks m s = way texts m s

abbrev pub run_way : Bool → BasicShape × List Text → Subject → Way
run_way texts m s = held_way texts m.1 m.0 s

-- A turn leaves the names as they are.
abbrev pub run_turn : Way → NamesRun × Answer → Reply → NamesRun × Answer
run_turn w r reply = (record r.0 { progress = (way_turn w (r.0.progress, r.1) reply).0 }, (way_turn w (r.0.progress, r.1) reply).1)

abbrev pub words : Bool → Keywords BasicShape (NamesRun × Answer)
words texts = record {
  texts = texts;
  may_ask = λ m s. questions (way texts m s);
  spans = λ m s. [];
  is_told = λ m. false;
  holds = λ m s matches accepts. way_holds (way texts m s) matches accepts;
  faults = λ m s matches answers. way_faults (way texts m s) matches answers;
  units = λ m s matches unit_at. way_units (way texts m s) matches unit_at;
  most_turns = λ m s. way_turns (way texts m s);
  begin = λ m s mode. (record { progress = way_begin mode; names = names_held m s }, fresh mode);
  turn = λ m s r reply. run_turn (run_way texts (m, r.0.names) s) r reply;
  step = λ m s r reply. way_step (run_way texts (m, r.0.names) s) (r.0.progress, r.1) reply;
  answer = λ r. r.1;
}

-- an upper bound for the number of turns that are left
abbrev pub turns_left : BasicShape → Subject → NamesRun × Answer → ℕ
turns_left m s r = left_at_most run_way (m, r.0.names) s (r.0.progress, r.1)

-- A run can be in any state.
abbrev pub any_run : Bool → BasicShape → Subject → NamesRun × Answer → Type 0
any_run texts m s r = Unit {0}

-- a run's situation without the names
abbrev pub seen : Standing (NamesRun × Answer) → Standing (Progress × Answer)
seen x = record {
  subject = x.subject;
  matches = x.matches;
  answers = x.answers;
  unit_at = x.unit_at;
  same = x.same;
  marks = x.marks;
  state = (x.state.0.progress, x.state.1);
  reply = x.reply;
}

-- the answer in which a run ends
abbrev pub ends_in : Bool → BasicShape → Standing (NamesRun × Answer) → Answer
ends_in texts m x = run_ends run_way texts (m, x.state.0.names) (seen x)

-- what is true of a run, and of the reply that it takes next
abbrev pub fits_in : Bool → BasicShape → Standing (NamesRun × Answer) → Type 0
fits_in texts m x = run_fits run_way texts (m, x.state.0.names) (seen x)
