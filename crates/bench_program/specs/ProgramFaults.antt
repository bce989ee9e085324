-- Why the program has no answer: a fault in the arguments, in the order in which faults are found,
-- a refused schema, or a lack of memory; and what is printed then.
use Rattle.std.specs.Prelude.{List, None, Some, [], codes, decimal, ◌++◌, ◌∷◌, ◌≡◌, ◌⊎◌}
use Rattle.theory_definitions.specs.Instance.{Text}
use Rattle.schema_keys.specs.Refusing.{number_of}
use Rattle.schema_keys.specs.declared.error.BuildError.{BuildError}
use Rattle.schema_keys.specs.declared.error.BuildError.TheVariants as build
use Rattle.bench_program.specs.declared.program.faults.Fault.{Fault}
use Rattle.bench_program.specs.declared.program.faults.Fault.TheVariants.{BuildRefused, NotJson, OutOfMemory, Usage}
use Rattle.bench_program.specs.declared.program.faults.Word.{Word}
use Rattle.bench_program.specs.declared.program.faults.Word.TheVariants.{Instance, Schema, Unfinished}
use Rattle.bench_program.specs.ProgramMeaning.{Asked, IsRefused}
use Rattle.bench_program.specs.ProgramWords.{FourWords, IsJson, IsList, call_in, words_in}

abbrev pub word_name : Word → Text
word_name Schema = codes "SCHEMA"
word_name Instance = codes "INSTANCE"
word_name Unfinished = codes "UNFINISHED"

abbrev pub fault_text : Fault → Text
fault_text Usage = codes "usage: engine_bench MODE SCHEMA INSTANCE [UNFINISHED]"
fault_text (NotJson word) = codes "not JSON: " ++ word_name word
fault_text (BuildRefused number) = codes "build refused: " ++ decimal number
fault_text OutOfMemory = codes "out of memory"

-- with a line feed
abbrev pub fault_line : Fault → Text
fault_line f = fault_text f ++ 10 ∷ []

-- a refused schema, or a lack of memory
abbrev pub fault_of : BuildError → Fault
fault_of build.OutOfMemory = OutOfMemory
fault_of e = BuildRefused (number_of e)

-- there is the right number of arguments, and this holds for them
abbrev pub InWords : List Text → (FourWords → Type 0) → Type 0
InWords ts P = (w : FourWords) × (words_in ts ≡ Some w) × P w

-- the arguments have this fault, and none that is found before it; a schema is refused for a real
-- cause with this number, or because the meta validators refuse one of its documents
abbrev pub FaultStands : List Text → Fault → Type 0
FaultStands ts Usage = call_in ts ≡ None
FaultStands ts (NotJson Schema) = ¬ (call_in ts ≡ None) × InWords ts (λ w. ¬ IsJson w.schema)
FaultStands ts (NotJson Instance) = ¬ (call_in ts ≡ None) × InWords ts (λ w. IsJson w.schema × ¬ IsJson w.instance)
FaultStands ts (NotJson Unfinished) = ¬ (call_in ts ≡ None) × InWords ts (λ w. IsJson w.schema × IsJson w.instance × ¬ IsList w.unfinished)
FaultStands ts (BuildRefused number) = (asked : Asked ts) × (error : BuildError) × (fault_of error ≡ BuildRefused number) × IsRefused asked error
FaultStands ts OutOfMemory = Unit {0}

-- why an argument has no value: it is not JSON, or memory is lacking
abbrev pub Unread : Text → Word → Fault → Type 0
Unread text word f = (f ≡ OutOfMemory) ⊎ ((f ≡ NotJson word) × ¬ IsJson text)

-- why UNFINISHED has no texts: it is not a list of texts, or memory is lacking
abbrev pub Unlisted : Text → Fault → Type 0
Unlisted text f = (f ≡ OutOfMemory) ⊎ ((f ≡ NotJson Unfinished) × ¬ IsList text)
