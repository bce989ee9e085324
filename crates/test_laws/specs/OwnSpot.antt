-- A match at the keyword itself, and its point one step below, at the name of a member.
use Rattle.std.proofs.Common.{◌≡◌, ◌&&◌, ◌++◌, ◌∷◌, [], Bool, List, None, Option, Some, is_some, map, false, not, option_map, refl, string_bytes, true}
use Rattle.theory_definitions.specs.Instance.{Text, to_name}
use Rattle.theory_definitions.specs.Keywords as spec
use Rattle.schema_reports.specs.InstanceViews.{step_of}
use Rattle.schema_reports.specs.declared.instance.InstanceStep.{InstanceStep}
use Rattle.schema_traits.specs.KeywordViews.{is_nil}
use Rattle.schema_traits.specs.declared.keyword.SpotMatch.{SpotMatch}

-- a match shown with evaluation path and place; its spot has no path, no step, no absorbed keyword,
-- and no pattern
abbrev pub is_plain : SpotMatch → Bool
is_plain m = m.located
    && (not (is_some m.spot.absorbed) && (is_nil (string_bytes m.spot.path) && (is_nil m.spot.below.items && not (is_some m.spot.pattern))))

-- at the name of a member, shown with evaluation path and place
abbrev pub name_point : Text → spec.MatchPoint
name_point k = record { spot = record { absorbed = None; path = []; below = to_name k ∷ [] }; located = true; pattern = None }

-- below a spot with these parts
abbrev pub below_parts : Bool → Option Text → Text → List InstanceStep → Option Text → Text → spec.MatchPoint
below_parts located absorbed path steps pattern k = record {
  spot = record { absorbed = absorbed; path = path; below = map step_of steps ++ to_name k ∷ [] };
  located = located;
  pattern = pattern;
}

plain_parts : {A : Type 0} (text_of : A → Text) (located : Bool) (absorbed : Option A) (path : Text) (steps : List InstanceStep) (pattern : Option A) (k : Text)
    → (located && (not (is_some absorbed) && (is_nil path && (is_nil steps && not (is_some pattern))))) ≡ true
    → below_parts located (option_map text_of absorbed) path steps (option_map text_of pattern) k ≡ name_point k
plain_parts text_of true None [] [] None k h = refl
plain_parts text_of true None [] [] (Some p) k h = absurd (let f : ⊥ = cc in f)
plain_parts text_of true None [] (s ∷ ss) pattern k h = absurd (let f : ⊥ = cc in f)
plain_parts text_of true None (c ∷ cs) steps pattern k h = absurd (let f : ⊥ = cc in f)
plain_parts text_of true (Some a) path steps pattern k h = absurd (let f : ⊥ = cc in f)
plain_parts text_of false absorbed path steps pattern k h = absurd (let f : ⊥ = cc in f)

pub below_plain : (m : SpotMatch) (k : Text) → is_plain m ≡ true
    → below_parts m.located (option_map string_bytes m.spot.absorbed) (string_bytes m.spot.path) m.spot.below.items (option_map string_bytes m.spot.pattern) k ≡ name_point k
below_plain m k h = plain_parts string_bytes m.located m.spot.absorbed (string_bytes m.spot.path) m.spot.below.items m.spot.pattern k h
