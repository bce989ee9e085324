-- How the target of a reference is reached by the URI that the reference resolves to. (Core
-- 2020-12, 8.2.3; section 3.5 of RFC 3986)
use Rattle.std.specs.Prelude.{Bool, false, true, ◌≡◌, MatchOption, Option, Some, []}
use Rattle.theory_definitions.specs.Instance.{Text}
use Rattle.theory_definitions.specs.Parts.{Parts}
use Rattle.theory_definitions.specs.Plan.{Key, Reference, fragment, location_by, referred, referred_at, start_by, to_dynamic, to_ref, is_self, reference_edge, is_recursive_ref}
use Rattle.theory_definitions.specs.Resolving.{Found}
use Rattle.theory_definitions.specs.Pointer.{joined}
use Rattle.schema_keys.specs.KeyViews.{key_of}
use Rattle.schema_keys.specs.declared.key.SchemaKey.{SchemaKey}

-- the reference keyword for a resolver's flag
abbrev pub by_flag : Bool → Reference
by_flag false = to_ref
by_flag true = to_dynamic

module _ {S K R : Type 0} (w : Parts S K R) where
  -- the key of a target that a URI was resolved to; an empty fragment stands for the root of the
  -- resource
  abbrev pub referred_by : Found S → Text → Key S
  referred_by f uri = referred_at w f (location_by w f (fragment uri)) (start_by w f (fragment uri))

  -- the targets of a reference are reached by this URI
  abbrev pub IsReferredBy : Key S → Reference → Text → Text → Type 0
  IsReferredBy k kind text uri = (f : Found S) → referred w k f kind text ≡ referred_by f uri

-- a reference leads to this key; to none if it is skipped
abbrev pub LeadsBy : {S K R P : Type 0} → Parts S K R → (P → S) → Key S → Reference → Text → Option (SchemaKey P) → Type 0
LeadsBy w point k kind text o = MatchOption o (is_self w k kind text ≡ true)
    (λ t. (is_self w k kind text ≡ false)
    × ((name : Text) → reference_edge w k name kind text ≡ Some (record { key = key_of point t; path = joined [] name; is_reference = true; is_recursive = is_recursive_ref kind })))
