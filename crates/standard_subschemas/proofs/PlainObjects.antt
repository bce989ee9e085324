-- An object is plain if the resolver reads none of its members.
use Rattle.std.proofs.Common.{◌≡◌, ◌∙◌, Bool, IsTrue, not, true, false, Option, Some, None, ap, codes, cond, option_and_then, refl}
use Rattle.std.proofs.Common.{subst, sym, bytes_eq}
use Rattle.std.specs.Prelude.{◌||◌, is_some}
use Rattle.std.specs.List.{list_any}
use Rattle.std.proofs.lemmas.Bool.{true≢false}
use Rattle.std.proofs.lemmas.Slice.Eq.{bytes_eq-Decides}
use Rattle.serde_json.specs.Data.{Data, Members, member, no_members, object}
use Rattle.serde_json.specs.Find.{as_str, get_member}
use Rattle.theory_definitions.specs.Drafts.{Draft, draft_2019_09, draft_2020_12, draft_4, draft_6, draft_7, draft_unknown}
use Rattle.theory_definitions.specs.Instance.{Text, member_of}
use Rattle.schema_reports.proofs.Found.{member_of-get_member}
use Rattle.standard_subschemas.specs.declared.rules.Rule.{Rule}
use Rattle.standard_subschemas.specs.declared.rules.Rule.TheVariants.{Narrow, Standard}
use Rattle.standard_subschemas.specs.SubschemaRules.{dynamic_name, fragment_of, identifier, plain_fragment, plain_name, unless_fragment}
use Rattle.standard_subschemas.specs.FoundSchemas.{any_names_schemas, names_schemas}
use Rattle.standard_subschemas.specs.PlainSchemas.{IsPlain, any_speaks, names_of_schema, speaks}
use Rattle.standard_subschemas.proofs.NoneNamed.{first_false, none_named, second_false}

both_false : (a b : Bool) → a ≡ false → b ≡ false → (a || b) ≡ false
both_false true b e h = e
both_false false b e h = h

module _ (rule : Rule) where
  absent_if : (k l : Text) (d : Data) (o : Option Data) (b : Bool) → bytes_eq k l ≡ b → speaks rule k ≡ true → speaks rule l ≡ false → o
      ≡ None → cond b (Some d) o ≡ None
  absent_if k l d o true same is apart later = absurd (true≢false (sym is ∙ ap (speaks rule) ((bytes_eq-Decides k l).0 same) ∙ apart))
  absent_if k l d o false differs is apart later = later

  absent : (ms : Members) → any_speaks rule ms ≡ false → (k : Text) → speaks rule k ≡ true → member_of k ms ≡ None
  absent no_members e k is = refl
  absent (member l d ms) e k is = absent_if k l d (member_of k ms) (bytes_eq k l) refl is
      (first_false (speaks rule l) (any_speaks rule ms) e)
      (absent ms (second_false (speaks rule l) (any_speaks rule ms) e) k is)

  none_names : (ms : Members) → any_speaks rule ms ≡ false → any_names_schemas rule ms ≡ false
  none_names no_members e = refl
  none_names (member l d ms) e = both_false (names_schemas rule l) (any_names_schemas rule ms)
      (second_false (list_any (bytes_eq l) names_of_schema) (names_schemas rule l) (first_false (speaks rule l) (any_speaks rule ms) e))
      (none_names ms (second_false (speaks rule l) (any_speaks rule ms) e))

module _ (rule : Rule) (ms : Members) (e : any_speaks rule ms ≡ false) where
  missing : (k : Text) → speaks rule k ≡ true → get_member k ms ≡ None
  missing k is = sym (member_of-get_member k ms) ∙ absent rule ms e k is

  id_of : (draft : Draft) → identifier draft (object ms) ≡ None
  id_of draft_4 = ap (λ o. cond (is_some o) None (unless_fragment (option_and_then as_str (get_member (codes "id") ms))))
      (missing (codes "$ref") refl)
      ∙ ap (λ o. unless_fragment (option_and_then as_str o)) (missing (codes "id") refl)
  id_of draft_6 = ap (λ o. cond (is_some o) None (unless_fragment (option_and_then as_str (get_member (codes "$id") ms))))
      (missing (codes "$ref") refl)
      ∙ ap (λ o. unless_fragment (option_and_then as_str o)) (missing (codes "$id") refl)
  id_of draft_7 = ap (λ o. cond (is_some o) None (unless_fragment (option_and_then as_str (get_member (codes "$id") ms))))
      (missing (codes "$ref") refl)
      ∙ ap (λ o. unless_fragment (option_and_then as_str o)) (missing (codes "$id") refl)
  id_of draft_2019_09 = ap (λ o. unless_fragment (option_and_then as_str o)) (missing (codes "$id") refl)
  id_of draft_2020_12 = ap (λ o. unless_fragment (option_and_then as_str o)) (missing (codes "$id") refl)
  id_of draft_unknown = ap (λ o. unless_fragment (option_and_then as_str o)) (missing (codes "$id") refl)

  no_anchor : option_and_then as_str (get_member (codes "$anchor") ms) ≡ None
  no_anchor = ap (λ o. option_and_then as_str o) (missing (codes "$anchor") refl)

  no_dynamic_anchor : option_and_then as_str (get_member (codes "$dynamicAnchor") ms) ≡ None
  no_dynamic_anchor = ap (λ o. option_and_then as_str o) (missing (codes "$dynamicAnchor") refl)

  nameless : (k : Text) → speaks rule k ≡ true → cond (is_some (get_member (codes "$ref") ms)) None
      (option_and_then (λ t. plain_fragment (fragment_of t)) (option_and_then as_str (get_member k ms))) ≡ None
  nameless k is = ap (λ o. cond (is_some o) None
      (option_and_then (λ t. plain_fragment (fragment_of t)) (option_and_then as_str (get_member k ms)))) (missing (codes "$ref") refl)
      ∙ ap (λ o. option_and_then (λ t. plain_fragment (fragment_of t)) (option_and_then as_str o)) (missing k is)

module _ (ms : Members) where
  no_plain_name : (rule : Rule) (draft : Draft) → any_speaks rule ms ≡ false → plain_name rule draft (object ms) ≡ None
  no_plain_name Narrow draft e = no_anchor Narrow ms e
  no_plain_name Standard draft_4 e = nameless Standard ms e (codes "id") refl
  no_plain_name Standard draft_6 e = nameless Standard ms e (codes "$id") refl
  no_plain_name Standard draft_7 e = nameless Standard ms e (codes "$id") refl
  no_plain_name Standard draft_2019_09 e = no_anchor Standard ms e
  no_plain_name Standard draft_2020_12 e = no_anchor Standard ms e
  no_plain_name Standard draft_unknown e = no_anchor Standard ms e

  no_dynamic_names : (rule : Rule) (draft : Draft) → any_speaks rule ms ≡ false → dynamic_name rule draft (object ms) ≡ None
  no_dynamic_names Narrow draft e = no_dynamic_anchor Narrow ms e
  no_dynamic_names Standard draft_4 e = refl
  no_dynamic_names Standard draft_6 e = refl
  no_dynamic_names Standard draft_7 e = refl
  no_dynamic_names Standard draft_2019_09 e = refl
  no_dynamic_names Standard draft_2020_12 e = no_dynamic_anchor Standard ms e
  no_dynamic_names Standard draft_unknown e = no_dynamic_anchor Standard ms e

pub plain_object : (rule : Rule) (ms : Members) → any_speaks rule ms ≡ false → IsPlain rule (object ms)
plain_object rule ms e = record {
  no_subschemas = λ draft. none_named rule draft ms (none_names rule ms e);
  no_identifier = λ draft. id_of rule ms e draft;
  no_name = λ draft. no_plain_name ms rule draft e;
  no_dynamic_name = λ draft. no_dynamic_names ms rule draft e;
}

pub plain_if : (rule : Rule) (b : Bool) (ms : Members) (d : Data) → b ≡ any_speaks rule ms → d ≡ object ms → IsTrue (not b)
    → IsPlain rule d
plain_if rule true ms d e is h = absurd (true≢false (sym h))
plain_if rule false ms d e is h = subst (λ (x : Data). IsPlain rule x) (sym is) (plain_object rule ms (sym e))
