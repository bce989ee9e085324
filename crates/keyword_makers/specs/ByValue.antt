-- A table whose keywords depend on a member's name and value: which children it has, and which
-- keyword it is.
use Rattle.std.proofs.Common.{Bor, refl}
use Rattle.std.specs.Prelude.{Bool, List, None, Option, Some, [], false, true, ◌≡◌, ◌∷◌, All}
use Rattle.std.proofs.lemmas.List.Elements.{All-cons, All-nil}
use Rattle.serde_json.specs.Data.{Data, Members, array, boolean, null, number, object, string}
use Rattle.serde_json.specs.Find.{get_member}
use Rattle.serde_json.specs.Written.{has_float}
use Rattle.theory_definitions.specs.Instance.{Place, Text, to_member}
use Rattle.theory_definitions.specs.Drafts.{Draft, Vocabularies}
use Rattle.theory_definitions.specs.Making.{Script, a_keyword, nothing, then_end}
use Rattle.schema_traits.specs.MakerViews.{IsStrictlyBelow, MakesRightly}
use Rattle.keyword_makers.specs.declared.by_value.Children.{Children}
use Rattle.keyword_makers.specs.declared.by_value.Children.TheVariants as children
use Rattle.keyword_makers.specs.declared.by_value.MemberKeyword.{MemberKeyword}
use Rattle.keyword_makers.specs.declared.by_value.MemberKeyword.TheVariants as member_is
use Rattle.keyword_makers.specs.Making.{asks_for, items_from, malformed}
use Rattle.keyword_makers.specs.MakingLaws.{asked_rightly, items_lie_below, member_whole}
use Rattle.keyword_makers.specs.Members.{names_of, values_below}

-- what a member makes, with names as the definitions have them
abbrev pub MadeMember : Type 0 → Type 0
MadeMember K = MemberKeyword K (Children Text)

-- a keyword with its children, if there is one; otherwise the value is malformed
abbrev pub made_if : {K : Type 0} → Option K → Children Text → MadeMember K
made_if None c = member_is.Malformed
made_if (Some m) c = member_is.Keyword m c

-- the children, with names as the definitions have them
abbrev pub named : Children (Bor Text) → Children Text
named children.Childless = children.Childless
named children.Itself = children.Itself
named children.Items = children.Items
named children.Members = children.Members
named (children.Member k) = children.Member k.now

-- what a member makes, in terms of the definitions
abbrev pub shaped : {C K : Type 0} → (C → K) → MemberKeyword C (Children (Bor Text)) → MadeMember K
shaped shape (member_is.Keyword k c) = member_is.Keyword (shape k) (named c)
shaped shape member_is.Nothing = member_is.Nothing
shaped shape member_is.Malformed = member_is.Malformed

-- the paths of the children, in order; a value of the wrong kind has none
abbrev pub children_of : Children Text → Text → Data → List Place
children_of children.Childless name d = []
children_of children.Itself name d = (to_member name ∷ []) ∷ []
children_of children.Items name (array ds) = items_from name 0 ds
children_of children.Items name d = []
children_of children.Members name (object ms) = values_below name (names_of ms)
children_of children.Members name d = []
children_of (children.Member k) name d = (to_member name ∷ to_member k ∷ []) ∷ []

-- the script of a member with this name and value, by what it makes
abbrev pub script_of : {K : Type 0} → Text → Data → MadeMember K → Script K
script_of name d (member_is.Keyword m c) = asks_for (children_of c name d) (a_keyword m [])
script_of name d member_is.Nothing = then_end nothing
script_of name d member_is.Malformed = malformed name d

abbrev pub script_at : {K : Type 0} → (Text → Data → MadeMember K) → Text → Option Data → Script K
script_at made name None = then_end nothing
script_at made name (Some d) = script_of name d (made name d)

-- the script of a member is the same whether its name is the table's own or the standard's
abbrev pub by_value : {K : Type 0} → (Text → Data → MadeMember K) → Bool → Text → Members → Draft → Vocabularies → Bool → Script K
by_value made own name ms draft vocabularies formats = script_at made name (get_member name ms)

-- a keyword absorbs no other, and is whole if its value holds no fraction
abbrev pub IsRightMember : {K : Type 0} → (K → List Text) → (K → Bool) → Data → MadeMember K → Type 0
IsRightMember absorbed is_whole d (member_is.Keyword m c) = ([] ≡ absorbed m) × (has_float d ≡ false → is_whole m ≡ true)
IsRightMember absorbed is_whole d member_is.Nothing = Unit {0}
IsRightMember absorbed is_whole d member_is.Malformed = Unit {0}

-- what is made is right if no keyword of the type absorbs another, or holds a value of the schema
pub right_where_whole : {K : Type 0} (absorbed : K → List Text) (is_whole : K → Bool) → ((m : K) → [] ≡ absorbed m) → ((m : K) → is_whole m ≡ true)
    → (d : Data) (m : MadeMember K) → IsRightMember absorbed is_whole d m
right_where_whole absorbed is_whole none whole d (member_is.Keyword m c) = (none m, λ h. whole m)
right_where_whole absorbed is_whole none whole d member_is.Nothing = tt
right_where_whole absorbed is_whole none whole d member_is.Malformed = tt

pub values_lie_below : (name : Text) (ks : List Text) → All IsStrictlyBelow (values_below name ks)
values_lie_below name [] = All-nil _
values_lie_below name (k ∷ ks) = All-cons IsStrictlyBelow (to_member name ∷ to_member k ∷ []) _ tt (values_lie_below name ks)

pub children_lie_below : (c : Children Text) (name : Text) (d : Data) → All IsStrictlyBelow (children_of c name d)
children_lie_below children.Childless name d = All-nil _
children_lie_below children.Itself name d = All-cons IsStrictlyBelow (to_member name ∷ []) [] tt (All-nil _)
children_lie_below children.Items name (array ds) = items_lie_below name 0 ds
children_lie_below children.Items name null = All-nil _
children_lie_below children.Items name (boolean b) = All-nil _
children_lie_below children.Items name (number n) = All-nil _
children_lie_below children.Items name (string t) = All-nil _
children_lie_below children.Items name (object ms) = All-nil _
children_lie_below children.Members name (object ms) = values_lie_below name (names_of ms)
children_lie_below children.Members name null = All-nil _
children_lie_below children.Members name (boolean b) = All-nil _
children_lie_below children.Members name (number n) = All-nil _
children_lie_below children.Members name (string t) = All-nil _
children_lie_below children.Members name (array ds) = All-nil _
children_lie_below (children.Member k) name d = All-cons IsStrictlyBelow (to_member name ∷ to_member k ∷ []) [] tt (All-nil _)

module _ {K : Type 0} (absorbed : K → List Text) (is_whole : K → Bool) where
  member_rightly : (owner : Members) (name : Text) (d : Data) → get_member name owner ≡ Some d → (m : MadeMember K) → IsRightMember absorbed is_whole d m
      → MakesRightly absorbed is_whole owner (script_of name d m)
  member_rightly owner name d here (member_is.Keyword m c) right = asked_rightly absorbed is_whole owner (a_keyword m []) (right.0, (λ h. right.1 (member_whole name owner d here h)), tt)
      (children_of c name d) (children_lie_below c name d)
  member_rightly owner name d here member_is.Nothing right = tt
  member_rightly owner name d here member_is.Malformed right = λ h. refl

  module _ (made : Text → Data → MadeMember K) (right : (name : Text) (d : Data) → IsRightMember absorbed is_whole d (made name d)) where
    found_rightly : (owner : Members) (name : Text) (o : Option Data) → get_member name owner ≡ o → MakesRightly absorbed is_whole owner (script_at made name o)
    found_rightly owner name None here = tt
    found_rightly owner name (Some d) here = member_rightly owner name d here (made name d) (right name d)

    pub makes_by_value : (own : Bool) (name : Text) (owner : Members) (draft : Draft) (vocabularies : Vocabularies) (formats : Bool)
        → MakesRightly absorbed is_whole owner (by_value made own name owner draft vocabularies formats)
    makes_by_value own name owner draft vocabularies formats = found_rightly owner name (get_member name owner) refl
