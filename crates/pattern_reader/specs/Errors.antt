-- What a refusal says, and at which character.
use Rattle.std.specs.Prelude.{ℕ, codes, decimal, List, ◌++◌}
use Rattle.pattern_characters.specs.Faults.{fault_text, kind_of, kind_text}
use Rattle.pattern_reader.specs.declared.errors.ReadError.{ReadError}

-- as in "no pattern: a class has no closing bracket, at character 3"; the first character has the number 0
abbrev pub error_text : ReadError → List ℕ
error_text e = kind_text (kind_of e.fault) ++ codes ": " ++ fault_text e.fault ++ codes ", at character " ++ decimal e.position
