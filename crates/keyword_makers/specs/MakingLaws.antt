-- Makers that request paths request only what lies strictly below the object, and end as they
-- should.
use Rattle.std.proofs.Common.{ap, sym, ◌∙◌}
use Rattle.std.specs.Prelude.{All, Bool, List, None, Option, Some, [], false, if◌then◌else◌, refl, true, ℕ, ◌+◌, ◌≡◌, ◌||◌, ◌∷◌}
use Rattle.std.specs.Ordering.{match_ordering, nat_cmp}
use Rattle.std.specs.Cmp.Lexicographic.{slice_cmp}
use Rattle.std.specs.declared.cmp.Ordering.{Ordering}
use Rattle.std.specs.declared.cmp.Ordering.TheVariants.{Equal, Greater, Less}
use Rattle.std.proofs.lemmas.List.Elements.{All-cons, All-head, All-nil, All-tail}
use Rattle.serde_json.specs.Written.{has_float, members_have_float}
use Rattle.serde_json.specs.Data.{Data, Items, Members, array, boolean, item, member, no_items, no_members, null, number, object, string}
use Rattle.serde_json.specs.Find.{get_member}
use Rattle.theory_definitions.specs.Instance.{Place, Text}
use Rattle.theory_definitions.specs.Making.{Made, Script, a_keyword}
use Rattle.schema_traits.specs.MakerViews.{IsMade, IsStrictlyBelow, MakesRightly}
use Rattle.keyword_authoring.specs.Items.{items_count}
use Rattle.keyword_makers.specs.Making.{asks_for, items_from, list_script, makes_if, only_child}

-- a member's value holds no fraction if the object holds none
or_left : (a b : Bool) → (a || b) ≡ false → a ≡ false
or_left true b h = cc
or_left false b h = refl

or_right : (a b : Bool) → (a || b) ≡ false → b ≡ false
or_right true b h = cc
or_right false b h = h

pub member_whole : (k : Text) (ms : Members) (d : Data) → get_member k ms ≡ Some d → members_have_float ms ≡ false → has_float d ≡ false
member_whole k no_members d e h = cc
member_whole k (member l c ms) d e h = first (slice_cmp nat_cmp k l) (λ q. member_whole k ms d q (or_right (has_float c) _ h)) e
  where
    first : (o : Ordering) → (get_member k ms ≡ Some d → has_float d ≡ false) → match_ordering o (get_member k ms) (Some c) (get_member k ms) ≡ Some d → has_float d ≡ false
    first Less later e = later e
    first Equal later e = let same : c ≡ d = cc in ap has_float (sym same) ∙ or_left (has_float c) _ h
    first Greater later e = later e

pub items_lie_below : (name : Text) (i : ℕ) (ds : Items) → All IsStrictlyBelow (items_from name i ds)
items_lie_below name i no_items = All-nil _
items_lie_below name i (item d ds) = All-cons IsStrictlyBelow _ _ tt (items_lie_below name (i + 1) ds)

module _ {K : Type 0} (absorbed : K → List Text) (is_whole : K → Bool) where
  pub asked_rightly : (owner : Members) (m : Made K) → IsMade absorbed is_whole owner m → (ps : List Place) → All IsStrictlyBelow ps
      → MakesRightly absorbed is_whole owner (asks_for ps m)
  asked_rightly owner m made [] below = made
  asked_rightly owner m made (p ∷ ps) below = (All-head IsStrictlyBelow p ps below, asked_rightly owner m made ps (All-tail IsStrictlyBelow p ps below))

  -- a keyword that absorbs no other, and is whole
  abbrev pub IsPlain : K → Type 0
  IsPlain m = ([] ≡ absorbed m) × (is_whole m ≡ true)

  abbrev pub IsPlainIf : Option K → Type 0
  IsPlainIf None = Unit {0}
  IsPlainIf (Some m) = IsPlain m

  pub made_rightly : (owner : Members) (name : Text) (d : Data) (m : Option K) → IsPlainIf m → MakesRightly absorbed is_whole owner (makes_if name d m)
  made_rightly owner name d None plain = λ h. refl
  made_rightly owner name d (Some m) plain = (plain.0, (λ h. plain.1), tt)

  pub only_rightly : (owner : Members) (name : Text) (m : K) → [] ≡ absorbed m → (members_have_float owner ≡ false → is_whole m ≡ true)
      → MakesRightly absorbed is_whole owner (only_child name m)
  only_rightly owner name m none whole = (tt, (none, whole, tt))

  pub list_rightly : (owner : Members) (shape : ℕ → K) (name : Text) (d : Data) → ((n : ℕ) → IsPlain (shape n)) → MakesRightly absorbed is_whole owner (list_script shape name d)
  list_rightly owner shape name (array ds) plain =
      asked_rightly owner (a_keyword (shape (items_count ds)) []) ((plain (items_count ds)).0, (λ h. (plain (items_count ds)).1), tt) (items_from name 0 ds) (items_lie_below name 0 ds)
  list_rightly owner shape name null plain = λ h. refl
  list_rightly owner shape name (boolean b) plain = λ h. refl
  list_rightly owner shape name (number n) plain = λ h. refl
  list_rightly owner shape name (string t) plain = λ h. refl
  list_rightly owner shape name (object ms) plain = λ h. refl

  -- a choice between two such scripts is one too
  pub either_rightly : (owner : Members) (b : Bool) (x y : Script K) → MakesRightly absorbed is_whole owner x → MakesRightly absorbed is_whole owner y
      → MakesRightly absorbed is_whole owner (if b then x else y)
  either_rightly owner true x y p q = p
  either_rightly owner false x y p q = q
