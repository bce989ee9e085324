-- If an instance has a value or a name at a place, it has one at the place that the pointer shows.
use Rattle.std.proofs.Common.{◌≡◌, true, [], ◌∷◌, refl}
use Rattle.std.specs.Prelude.{Option, Some, None, is_some, option_and_then}
use Rattle.serde_json.specs.Data.{Data, array, boolean, null, number, object, string}
use Rattle.theory_definitions.specs.Instance.{Place, Subject, Text, a_name, a_value, after_step, member_of, subject_from, to_item, to_member, to_name}
use Rattle.theory_definitions.specs.Pointer.{shown_place}
use Rattle.theory_meaning.proofs.ErrorsLead.{Stands}

-- Nothing lies below a name.
after_name : (p : Place) (k : Text) (x : Subject) → is_some (subject_from p (a_name k)) ≡ true → is_some (subject_from (shown_place p) x) ≡ true
after_name [] k x h = refl
after_name (to_member j ∷ p) k x h = absurd (cc h)
after_name (to_item n ∷ p) k x h = absurd (cc h)
after_name (to_name j ∷ p) k x h = absurd (cc h)

stands_from : (p : Place) (x : Subject) → is_some (subject_from p x) ≡ true → is_some (subject_from (shown_place p) x) ≡ true
stands_from [] x h = h
stands_from (to_member k ∷ p) x h =
    let go : (o : Option Subject) → is_some (option_and_then (subject_from p) o) ≡ true → is_some (option_and_then (subject_from (shown_place p)) o) ≡ true = elim [ None ↦ λ e. e | Some y ↦ λ e. stands_from p y e ] in
    go (after_step (to_member k) x) h
stands_from (to_item n ∷ p) x h =
    let go : (o : Option Subject) → is_some (option_and_then (subject_from p) o) ≡ true → is_some (option_and_then (subject_from (shown_place p)) o) ≡ true = elim [ None ↦ λ e. e | Some y ↦ λ e. stands_from p y e ] in
    go (after_step (to_item n) x) h
stands_from (to_name k ∷ p) (a_value (object ms)) h =
    let go : (o : Option Data) → is_some (option_and_then (subject_from p) (option_and_then (λ (d : Data). Some (a_name k)) o)) ≡ true → is_some (subject_from (shown_place p) (a_value (object ms))) ≡ true = elim [
      | None ↦ λ e. absurd (cc e)
      | Some d ↦ λ e. after_name p k (a_value (object ms)) e
    ] in
    go (member_of k ms) h
stands_from (to_name k ∷ p) (a_value null) h = absurd (cc h)
stands_from (to_name k ∷ p) (a_value (boolean b)) h = absurd (cc h)
stands_from (to_name k ∷ p) (a_value (number n)) h = absurd (cc h)
stands_from (to_name k ∷ p) (a_value (string t)) h = absurd (cc h)
stands_from (to_name k ∷ p) (a_value (array ds)) h = absurd (cc h)
stands_from (to_name k ∷ p) (a_name y) h = absurd (cc h)

pub shown_stands : (instance : Data) (p : Place) → Stands instance p → Stands instance (shown_place p)
shown_stands instance p h = stands_from p (a_value instance) h
