-- The name of each member of an object is found in it.
use Rattle.std.proofs.Common.{[], Some, String, ap, bytes_eq, cond, option_and_then, refl, string_bytes, true, false, Bool, ◌∷◌, ◌≡◌}
use Rattle.std.proofs.lemmas.Slice.Eq.{bytes_eq-Decides}
use Rattle.std.specs.List.{AllByRecursion}
use Rattle.std.specs.declared.alloc.Global.{Global}
use Rattle.serde_json.specs.Data.{Data, object}
use Rattle.serde_json.specs.View.{members_view, view}
use Rattle.serde_json.specs.declared.value.Value.{Value}
use Rattle.theory_definitions.specs.Instance.{Text, a_name, a_value, after_step, member_of, to_name}
use Rattle.schema_traits.specs.Members.{AreNamed, Entries}

-- a name that some members have is still theirs with one more member before them
abbrev IsNamed : Entries → Text → Type 0
IsNamed members k = after_step (to_name k) (a_value (object (members_view members))) ≡ Some (a_name k)

named_first : (e : String Global × Value) (es : Entries) → IsNamed (e ∷ es) (string_bytes e.0)
named_first e es =
    let k = string_bytes e.0 in
    ap (λ b. option_and_then (λ (d : Data). Some (a_name k)) (cond b (Some (view e.1)) (member_of k (members_view es)))) ((bytes_eq-Decides k k).1 refl)

named_more : (e : String Global × Value) (es : Entries) (k : Text) → IsNamed es k → IsNamed (e ∷ es) k
named_more e es k h =
    let go : (b : Bool) → option_and_then (λ (d : Data). Some (a_name k)) (cond b (Some (view e.1)) (member_of k (members_view es))) ≡ Some (a_name k) = elim [ true ↦ refl | false ↦ h ] in
    go (bytes_eq k (string_bytes e.0))

all_more : (e : String Global × Value) (es left : Entries) → AllByRecursion (λ l. IsNamed es (string_bytes l.0)) left → AllByRecursion (λ l. IsNamed (e ∷ es) (string_bytes l.0)) left
all_more e es [] h = tt
all_more e es (l ∷ left) h = (named_more e es (string_bytes l.0) h.0, all_more e es left h.1)

pub all_named : (members : Entries) → AreNamed (a_value (object (members_view members))) members
all_named [] = tt
all_named (e ∷ es) = (named_first e es, all_more e es es (all_named es))
