-- The JSON objects that are printed for instances and lines, each on a line of its own.
use Rattle.std.specs.Prelude.{None, Option, Some, [], codes, decimal, ◌++◌, ◌∷◌, ℕ}
use Rattle.json.specs.Print.{quoted}
use Rattle.theory_definitions.specs.Instance.{Text}
use Rattle.command_line.specs.Choices.{name_of}
use Rattle.command_line.specs.declared.envelopes.Subject.{Subject}
use Rattle.command_line.specs.declared.options.Output.{Output}

-- the member for a line, by its number
abbrev pub line_text : Option ℕ → Text
line_text None = []
line_text (Some n) = codes ",\"line\":" ++ decimal n

-- the members for a schema, an instance and its line
abbrev pub subject_text : Text → Text → Option ℕ → Text
subject_text schema instance line = codes ",\"schema\":" ++ quoted schema ++ codes ",\"instance\":" ++ quoted instance ++ line_text line

-- the front of an object, up to its answer
abbrev pub front_text : Output → Text → Text → Option ℕ → Text
front_text output schema instance line = codes "{\"output\":" ++ quoted (name_of output) ++ subject_text schema instance line

-- the object with an answer; the answer is JSON
abbrev pub answered_text : Output → Text → Text → Option ℕ → Text → Text
answered_text output schema instance line payload = front_text output schema instance line ++ codes ",\"payload\":" ++ payload ++ codes "}" ++ 10 ∷ []

-- the object without an answer, with the reason
abbrev pub unanswered_text : Output → Text → Text → Option ℕ → Text → Text
unanswered_text output schema instance line why = front_text output schema instance line ++ codes ",\"error\":" ++ quoted why ++ codes "}" ++ 10 ∷ []

-- ---- the same for the subject that the code is given

abbrev pub members_for : Subject → Text
members_for s = subject_text s.schema.now s.instance.now s.line

abbrev pub front_for : Output → Subject → Text
front_for output s = front_text output s.schema.now s.instance.now s.line

abbrev pub answered_for : Output → Subject → Text → Text
answered_for output s payload = answered_text output s.schema.now s.instance.now s.line payload

abbrev pub unanswered_for : Output → Subject → Text → Text
unanswered_for output s why = unanswered_text output s.schema.now s.instance.now s.line why
