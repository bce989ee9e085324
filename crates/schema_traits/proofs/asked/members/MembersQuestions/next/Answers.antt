use Rattle.std.proofs.Common.{drop, refl, ℕ}
use Rattle.serde_json.specs.Data.{object}
use Rattle.serde_json.specs.View.{members_view}
use Rattle.theory_definitions.specs.Instance.{a_value}
use Rattle.schema_traits.specs.Questions.{at_names}
use Rattle.schema_traits.proofs.FirstAsked.{says_first}
use Rattle.schema_traits.proofs.asked.members.MembersQuestions.next.Goals as goal

pub invariant_of-self : goal.invariant_of-self
invariant_of-self c = c.next_member.ensures.way (a_value (object (members_view c.self.inside.whole.now.entries))) c.self.invariant

pub returns : goal.returns
returns c =
    let s = a_value (object (members_view c.self.inside.whole.now.entries)) in
    let left = λ (n : ℕ). at_names s n (drop n c.self.inside.names.now) in
    let it = says_first (record { subject = s; left = left c.self.inside.next }) c.args.self.now (record { subject = s; left = left c.next_member.new.next }) c.next_member.result c.self.view_is refl (c.next_member.ensures.asks s c.self.invariant) in
    record { next = it.0; there = it.1; ended = it.2; subject = it.3 }
