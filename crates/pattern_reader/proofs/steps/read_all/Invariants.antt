use Rattle.std.proofs.Common.{◌≡◌, length}
use Rattle.pattern_reader.specs.Groups.{names_of}
use Rattle.pattern_reader.specs.Openings.{no_flags}
use Rattle.pattern_reader.specs.Reading.{read_from}
use Rattle.pattern_reader.specs.States.{start}
use Rattle.pattern_reader.specs.Views.{state_of}
use Rattle.pattern_reader.proofs.steps.read_all.Given as goal

abbrev pub invariant-loop-steps : goal.invariant-loop-steps
invariant-loop-steps l =
    read_from l.steps l.grammar (names_of l.names) (state_of l.state) l.rest ≡ read_from l.text l.grammar (names_of l.names) (start no_flags) l.text

abbrev pub decreases-loop-steps : goal.decreases-loop-steps
decreases-loop-steps l = length l.steps
