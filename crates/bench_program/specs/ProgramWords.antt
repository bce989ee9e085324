-- What the arguments of the program hold: MODE, SCHEMA, INSTANCE and UNFINISHED. (sections 2 and
-- 8.1 of RFC 8259)
use Rattle.std.specs.Prelude.{IsUtf8, List, None, Option, Some, [], bytes_eq, codes, if◌then◌else◌, option_and_then, ◌∷◌, ◌≡◌}
use Rattle.serde_json.specs.Data.{Data, array}
use Rattle.serde_json.specs.Read.{read}
use Rattle.theory_definitions.specs.Instance.{Text}
use Rattle.standard_basics.specs.Makers.{texts_of}
use Rattle.bench_program.specs.declared.program.requests.Call.{Call}
use Rattle.bench_program.specs.declared.program.requests.Call.TheVariants.{Evaluate, IsValid, IterErrors, Validate}

pub record FourWords : Type 0 where
  pub mode : Text
  pub schema : Text
  pub instance : Text
  pub unfinished : Text

-- three or four arguments; UNFINISHED is `[]` if it is absent
abbrev pub words_in : List Text → Option FourWords
words_in (m ∷ s ∷ i ∷ []) = Some (record { mode = m; schema = s; instance = i; unfinished = codes "[]" })
words_in (m ∷ s ∷ i ∷ u ∷ []) = Some (record { mode = m; schema = s; instance = i; unfinished = u })
words_in _ = None

-- the call that MODE names; an argument that is not UTF-8 names none
abbrev pub call_named : Text → Option Call
call_named m =
    if bytes_eq m (codes "valid") then Some IsValid
    else (if bytes_eq m (codes "first") then Some Validate
    else (if bytes_eq m (codes "errors") then Some IterErrors
    else (if bytes_eq m (codes "list") then Some Evaluate else None)))

abbrev pub call_in : List Text → Option Call
call_in ts = option_and_then (λ (w : FourWords). call_named w.mode) (words_in ts)

-- an argument that is the JSON text of a value; one that is not UTF-8 is none
abbrev pub IsTextOf : Data → Text → Type 0
IsTextOf d word = IsUtf8 word × (read word ≡ Some d)

abbrev pub IsJson : Text → Type 0
IsJson word = (d : Data) × IsTextOf d word

-- the texts of a list
abbrev pub listed : Data → Option (List Text)
listed (array ds) = texts_of ds
listed _ = None

-- an argument that is the JSON text of a list of these texts
abbrev pub IsListOf : List Text → Text → Type 0
IsListOf ts word = (d : Data) × IsTextOf d word × (listed d ≡ Some ts)

abbrev pub IsList : Text → Type 0
IsList word = (ts : List Text) × IsListOf ts word

-- the arguments request this call about this schema and this instance, and leave the matches of
-- these patterns unfinished
pub record Holds (ts : List Text) (call : Call) (schema instance : Data) (unfinished : List Text) : Type 0 where
  pub words : FourWords
  pub given : words_in ts ≡ Some words
  pub asks : call_named words.mode ≡ Some call
  pub reads_schema : IsTextOf schema words.schema
  pub reads_instance : IsTextOf instance words.instance
  pub lists_unfinished : IsListOf unfinished words.unfinished
