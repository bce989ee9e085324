-- The members that an instance has are present.
use Rattle.std.proofs.Common.{◌≡◌, refl, true}
use Rattle.std.proofs.lemmas.List.Elements.{All-nil, All-weaker}
use Rattle.std.specs.Prelude.{All, None, Option, Some, is_some, option_and_then}
use Rattle.serde_json.specs.Data.{Data, array, boolean, null, number, object, string}
use Rattle.theory_definitions.specs.Instance.{Subject, a_name, a_value, member_of}
use Rattle.keyword_authoring.specs.Members.{has_member, names_in, subject_names}
use Rattle.keyword_authoring.specs.Places.{IsNamed, each_named}

named_leads : (o : Option Data) → is_some o ≡ true → is_some (option_and_then (λ d. Some (a_value d)) o) ≡ true
named_leads None h = cc
named_leads (Some d) h = refl

pub all_members : (s : Subject) → All (λ k. has_member k s ≡ true) (subject_names s)
all_members (a_name n) = All-nil _
all_members (a_value null) = All-nil _
all_members (a_value (boolean b)) = All-nil _
all_members (a_value (number n)) = All-nil _
all_members (a_value (string t)) = All-nil _
all_members (a_value (array ds)) = All-nil _
all_members (a_value (object ms)) = All-weaker (IsNamed ms) (λ k. has_member k (a_value (object ms)) ≡ true) (λ k h. named_leads (member_of k ms) h) (names_in ms) (each_named ms)
