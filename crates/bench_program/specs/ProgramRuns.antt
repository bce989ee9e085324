-- How a run of the program ends.
use Rattle.std.specs.Prelude.{Bool, false, true, ℕ, ◌≡◌, ◌⊎◌}
use Rattle.bench_program.specs.declared.program.Status.{Status}
use Rattle.bench_program.specs.declared.program.Status.TheVariants as status
use Rattle.bench_program.specs.declared.program.faults.Fault.{Fault}
use Rattle.bench_program.specs.declared.program.faults.Fault.TheVariants.{BuildRefused, NotJson, OutOfMemory, Usage}

-- the status of the process
abbrev pub code_of : Status → ℕ
code_of status.Accepted = 0
code_of status.Refused = 1
code_of status.BuildRefused = 2
code_of status.BadWords = 3
code_of status.OutOfMemory = 4
code_of status.WriteFailed = 5

abbrev pub answer_status : Bool → Status
answer_status true = status.Accepted
answer_status false = status.Refused

abbrev pub fault_status : Fault → Status
fault_status Usage = status.BadWords
fault_status (NotJson word) = status.BadWords
fault_status (BuildRefused number) = status.BuildRefused
fault_status OutOfMemory = status.OutOfMemory

-- this status, unless the output could not be written
abbrev pub UnlessUnwritten : Status → Status → Type 0
UnlessUnwritten wanted s = (s ≡ wanted) ⊎ (s ≡ status.WriteFailed)

-- the status of a run that has printed an answer
abbrev pub IsAnswer : Status → Type 0
IsAnswer status.Accepted = Unit {0}
IsAnswer status.Refused = Unit {0}
IsAnswer _ = ⊥

-- the status of a run that has printed why it has no answer
abbrev pub IsRefusal : Status → Type 0
IsRefusal status.BuildRefused = Unit {0}
IsRefusal status.BadWords = Unit {0}
IsRefusal status.OutOfMemory = Unit {0}
IsRefusal _ = ⊥
