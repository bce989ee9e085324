-- The members that are left of an iteration over those of an object.
use Rattle.std.specs.List.{AllByRecursion}
use Rattle.std.specs.List.Sorted.{IsStrictlySortedBy}
use Rattle.std.specs.Map.{keys_of}
use Rattle.std.specs.Prelude.{List, Some, String, map, string_bytes, ◌≡◌}
use Rattle.std.specs.String.{string_cmp}
use Rattle.std.specs.declared.alloc.Global.{Global}
use Rattle.serde_json.specs.Data.{object}
use Rattle.serde_json.specs.View.{members_view}
use Rattle.serde_json.specs.declared.value.Value.{Value}
use Rattle.theory_definitions.specs.Instance.{Subject, Text, a_name, a_value, after_step, to_member, to_name}
use Rattle.theory_definitions.specs.Keywords.{Question}
use Rattle.schema_traits.specs.AskedAtOnce.{first_at_name}

-- members, in order
abbrev pub Entries : Type 0
Entries = List (String Global × Value)

-- an object with these members, as a subject
abbrev pub of_members : Entries → Subject
of_members members = a_value (object (members_view members))

-- the members ascend, and each of these names leads to the same in them as in the subject
pub record HaveAllOf (s : Subject) (names : List Text) (members : Entries) : Type 0 where
  pub ascend : IsStrictlySortedBy string_cmp (keys_of members)
  pub found : AllByRecursion (λ k. after_step (to_member k) s ≡ after_step (to_member k) (a_value (object (members_view members)))) names

-- the name of each of these members is found in the subject
abbrev pub AreNamed : Subject → Entries → Type 0
AreNamed s members = AllByRecursion (λ e. after_step (to_name (string_bytes e.0)) s ≡ Some (a_name (string_bytes e.0))) members

-- the questions to the first child at the names of these members
abbrev pub at_their_names : Entries → List Question
at_their_names members = map (λ e. first_at_name (string_bytes e.0)) members
