-- A name that is looked up among the members of an object.
use Rattle.std.proofs.Common.{◌≡◌, ◌∙◌, Bool, true, false, List, Some, None, ℕ, Equal, ap, sym, is_some, is_eq, nat_cmp, string_bytes, map, drop}
use Rattle.std.proofs.lemmas.List.{drop-map}
use Rattle.std.proofs.lemmas.Map.Text.{is_eq-slice_cmp}
use Rattle.std.proofs.lemmas.Slice.Eq.{bytes_eq-Decides}
use Rattle.std.specs.BTreeMap.{is_at}
use Rattle.std.specs.Cmp.Lexicographic.{slice_cmp}
use Rattle.std.specs.Map.{lookup}
use Rattle.serde_json.specs.View.{members_view, view}
use Rattle.serde_json.proofs.Views.{Entry, view-lookup}
use Rattle.theory_definitions.specs.Instance.{Subject, Text}
use Rattle.keyword_authoring.specs.Members.{at_name, only_if}
use Rattle.keyword_authoring.proofs.MemberNames.{is_some-map, member_of-get}
use Rattle.standard_basics.specs.Words.{is_named, name_asked}

-- A member has the name if and only if the map has it.
pub named-lookup : (name : Text) (es : List Entry) → is_named name (Some (members_view es)) ≡ is_some (lookup (is_at (λ k. slice_cmp nat_cmp name (string_bytes k))) es)
named-lookup name es = ap is_some (member_of-get name (members_view es) ∙ sym (view-lookup name es))
    ∙ is_some-map view (lookup (is_at (λ k. slice_cmp nat_cmp name (string_bytes k))) es)

same_text : (name key : Text) → slice_cmp nat_cmp name key ≡ Equal → name ≡ key
same_text name key e = (bytes_eq-Decides name key).0 (sym (is_eq-slice_cmp name key) ∙ ap is_eq e)

-- The question is the same with the name as the map stores it.
pub asked_as_held : (name key : Text) (b : Bool) → b ≡ true → slice_cmp nat_cmp name key ≡ Equal → Some (at_name key) ≡ only_if b (at_name name)
asked_as_held name key b is_there e = ap (λ k. Some (at_name k)) (sym (same_text name key e)) ∙ ap (λ b. only_if b (at_name name)) (sym is_there)

pub not_asked : (name : Text) (b : Bool) → b ≡ false → None ≡ only_if b (at_name name)
not_asked name b h = ap (λ b. only_if b (at_name name)) (sym h)

-- The names from an index on.
pub asked_drop : {X : Type 0} (f : X → Text) (n : ℕ) (xs : List X) (s : Subject) → drop n (map (name_asked s) (map f xs)) ≡ map (name_asked s) (map f (drop n xs))
asked_drop f n xs s = drop-map (name_asked s) n (map f xs) ∙ ap (map (name_asked s)) (drop-map f n xs)
