-- A table whose keywords depend on a member's name and value, on the draft, and on the neighbouring
-- members.
use Rattle.std.proofs.Common.{Bor, refl}
use Rattle.std.specs.Prelude.{All, Bool, List, None, Option, Some, String, [], false, map, string_bytes, true, ◌≡◌}
use Rattle.std.specs.Global.{Global, Vec}
use Rattle.serde_json.specs.Data.{Data, Members}
use Rattle.serde_json.specs.Find.{get_member}
use Rattle.serde_json.specs.Written.{has_float, members_have_float}
use Rattle.theory_definitions.specs.Instance.{Place, Text}
use Rattle.theory_definitions.specs.Drafts.{Draft, Vocabularies}
use Rattle.theory_definitions.specs.Making.{Script, a_keyword, nothing, refused, then_end}
use Rattle.schema_traits.specs.MakerViews.{IsStrictlyBelow, MakesRightly}
use Rattle.keyword_makers.specs.declared.by_object.ObjectKeyword.{ObjectKeyword}
use Rattle.keyword_makers.specs.declared.by_object.ObjectKeyword.TheVariants as here
use Rattle.keyword_makers.specs.declared.by_value.Children.{Children}
use Rattle.keyword_makers.specs.ByValue.{children_lie_below, children_of, named, values_lie_below}
use Rattle.keyword_makers.specs.Making.{asks_for, malformed, refused_error}
use Rattle.keyword_makers.specs.MakingLaws.{asked_rightly, member_whole}
use Rattle.keyword_makers.specs.Members.{values_below}

-- what a member makes, with names and texts as the definitions have them
abbrev pub MadeHere : Type 0 → Type 0
MadeHere K = ObjectKeyword K (Children Text) (List Text) Text Text

-- what a member makes, in terms of the definitions
abbrev pub formed : {C K : Type 0} → (C → K) → ObjectKeyword C (Children (Bor Text)) (Vec (String Global)) (Bor Text) (String Global) → MadeHere K
formed shape (here.Keyword k c) = here.Keyword (shape k) (named c)
formed shape (here.KeywordOver k names) = here.KeywordOver (shape k) (map string_bytes names.items)
formed shape here.Nothing = here.Nothing
formed shape here.Malformed = here.Malformed
formed shape (here.MalformedBeside k) = here.MalformedBeside k.now
formed shape (here.Refused t) = here.Refused (string_bytes t)

-- a refusal that shows the value of the neighbouring member with this name, or the keyword's own if
-- there is none
abbrev pub malformed_beside : {K : Type 0} → Text → Data → Text → Option Data → Script K
malformed_beside name d beside None = malformed name d
malformed_beside name d beside (Some e) = malformed beside e

-- the script of a member with this name and value, by what it makes
abbrev pub script_here : {K : Type 0} → Members → Text → Data → MadeHere K → Script K
script_here object name d (here.Keyword m c) = asks_for (children_of c name d) (a_keyword m [])
script_here object name d (here.KeywordOver m ks) = asks_for (values_below name ks) (a_keyword m [])
script_here object name d here.Nothing = then_end nothing
script_here object name d here.Malformed = malformed name d
script_here object name d (here.MalformedBeside k) = malformed_beside name d k (get_member k object)
script_here object name d (here.Refused text) = then_end (refused true (refused_error name d text))

abbrev pub script_found : {K : Type 0} → (Draft → Members → Text → Data → MadeHere K) → Draft → Members → Text → Option Data → Script K
script_found made draft object name None = then_end nothing
script_found made draft object name (Some d) = script_here object name d (made draft object name d)

-- the script of a member is the same whether its name is the table's own or the standard's
abbrev pub by_object : {K : Type 0} → (Draft → Members → Text → Data → MadeHere K) → Bool → Text → Members → Draft → Vocabularies → Bool → Script K
by_object made own name object draft vocabularies formats = script_found made draft object name (get_member name object)

-- a keyword absorbs no other, and is whole if the object holds no fraction
abbrev pub IsRightKeyword : {K : Type 0} → (K → List Text) → (K → Bool) → Members → K → Type 0
IsRightKeyword absorbed is_whole object m = ([] ≡ absorbed m) × (members_have_float object ≡ false → is_whole m ≡ true)

-- the same for the keyword that a member makes, if it makes one
abbrev pub IsRightHere : {K : Type 0} → (K → List Text) → (K → Bool) → Members → MadeHere K → Type 0
IsRightHere absorbed is_whole object (here.Keyword m c) = IsRightKeyword absorbed is_whole object m
IsRightHere absorbed is_whole object (here.KeywordOver m ks) = IsRightKeyword absorbed is_whole object m
IsRightHere absorbed is_whole object here.Nothing = Unit {0}
IsRightHere absorbed is_whole object here.Malformed = Unit {0}
IsRightHere absorbed is_whole object (here.MalformedBeside k) = Unit {0}
IsRightHere absorbed is_whole object (here.Refused text) = Unit {0}

module _ {K : Type 0} (absorbed : K → List Text) (is_whole : K → Bool) (none : (m : K) → [] ≡ absorbed m) where
  -- what is made is right if no keyword of the type absorbs another, or holds a value of the schema
  pub right_without_values : ((m : K) → is_whole m ≡ true) → (object : Members) (m : MadeHere K) → IsRightHere absorbed is_whole object m
  right_without_values whole object (here.Keyword m c) = (none m, λ h. whole m)
  right_without_values whole object (here.KeywordOver m ks) = (none m, λ h. whole m)
  right_without_values whole object here.Nothing = tt
  right_without_values whole object here.Malformed = tt
  right_without_values whole object (here.MalformedBeside k) = tt
  right_without_values whole object (here.Refused text) = tt

  -- what is made is whole under this condition
  abbrev pub IsWholeWhere : Type 0 → MadeHere K → Type 0
  IsWholeWhere Where (here.Keyword m c) = Where → is_whole m ≡ true
  IsWholeWhere Where (here.KeywordOver m ks) = Where → is_whole m ≡ true
  IsWholeWhere Where here.Nothing = Unit {0}
  IsWholeWhere Where here.Malformed = Unit {0}
  IsWholeWhere Where (here.MalformedBeside k) = Unit {0}
  IsWholeWhere Where (here.Refused text) = Unit {0}

  right_whole : (object : Members) (Where : Type 0) → (members_have_float object ≡ false → Where) → (m : MadeHere K) → IsWholeWhere Where m → IsRightHere absorbed is_whole object m
  right_whole object Where holds (here.Keyword m c) h = (none m, λ e. h (holds e))
  right_whole object Where holds (here.KeywordOver m ks) h = (none m, λ e. h (holds e))
  right_whole object Where holds here.Nothing h = tt
  right_whole object Where holds here.Malformed h = tt
  right_whole object Where holds (here.MalformedBeside k) h = tt
  right_whole object Where holds (here.Refused text) h = tt

  -- what is made is right if a keyword that holds the value of its member is whole when that value
  -- holds no fraction
  pub right_by_value : (object : Members) (name : Text) (d : Data) → get_member name object ≡ Some d → (m : MadeHere K) → IsWholeWhere (has_float d ≡ false) m → IsRightHere absorbed is_whole object m
  right_by_value object name d found m h = right_whole object (has_float d ≡ false) (member_whole name object d found) m h

  -- what is made is right if a keyword that holds values of other members is whole when the object
  -- holds no fraction
  pub right_by_object : (object : Members) (m : MadeHere K) → IsWholeWhere (members_have_float object ≡ false) m → IsRightHere absorbed is_whole object m
  right_by_object object m h = right_whole object (members_have_float object ≡ false) (λ e. e) m h

module _ {K : Type 0} (absorbed : K → List Text) (is_whole : K → Bool) where
  asked_by : (object : Members) (m : K) → IsRightKeyword absorbed is_whole object m → (ps : List Place) → All IsStrictlyBelow ps → MakesRightly absorbed is_whole object (asks_for ps (a_keyword m []))
  asked_by object m right ps below = asked_rightly absorbed is_whole object (a_keyword m []) (right.0, right.1, tt) ps below

  beside_rightly : (object : Members) (name : Text) (d : Data) (beside : Text) (o : Option Data) → MakesRightly absorbed is_whole object (malformed_beside name d beside o)
  beside_rightly object name d beside None = λ h. refl
  beside_rightly object name d beside (Some e) = λ h. refl

  here_rightly : (object : Members) (name : Text) (d : Data) (m : MadeHere K) → IsRightHere absorbed is_whole object m → MakesRightly absorbed is_whole object (script_here object name d m)
  here_rightly object name d (here.Keyword m c) right = asked_by object m right (children_of c name d) (children_lie_below c name d)
  here_rightly object name d (here.KeywordOver m ks) right = asked_by object m right (values_below name ks) (values_lie_below name ks)
  here_rightly object name d here.Nothing right = tt
  here_rightly object name d here.Malformed right = λ h. refl
  here_rightly object name d (here.MalformedBeside k) right = beside_rightly object name d k (get_member k object)
  here_rightly object name d (here.Refused text) right = λ h. refl

  module _ (made : Draft → Members → Text → Data → MadeHere K)
      (right : (draft : Draft) (object : Members) (name : Text) (d : Data) → get_member name object ≡ Some d → IsRightHere absorbed is_whole object (made draft object name d)) where
    found_here : (draft : Draft) (object : Members) (name : Text) (o : Option Data) → get_member name object ≡ o → MakesRightly absorbed is_whole object (script_found made draft object name o)
    found_here draft object name None found = tt
    found_here draft object name (Some d) found = here_rightly object name d (made draft object name d) (right draft object name d found)

    pub makes_by_object : (own : Bool) (name : Text) (object : Members) (draft : Draft) (vocabularies : Vocabularies) (formats : Bool)
        → MakesRightly absorbed is_whole object (by_object made own name object draft vocabularies formats)
    makes_by_object own name object draft vocabularies formats = found_here draft object name (get_member name object) refl
