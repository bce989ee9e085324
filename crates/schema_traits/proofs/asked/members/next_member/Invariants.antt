use Rattle.std.proofs.Common.{◌≡◌, drop}
use Rattle.theory_definitions.specs.Instance.{Subject}
use Rattle.schema_traits.specs.Members.{HaveAllOf}
use Rattle.schema_traits.specs.Questions.{at_names}
use Rattle.schema_traits.proofs.asked.members.next_member.Given as goal

-- the names that were passed are not names of members
abbrev pub invariant-loop-next : goal.invariant-loop-next
invariant-loop-next l =
    (s : Subject) → HaveAllOf s (drop l.initial.next l.names) l.initial.members
    → HaveAllOf s (drop l.next l.names) l.members × (at_names s l.initial.next (drop l.initial.next l.names) ≡ at_names s l.next (drop l.next l.names))
