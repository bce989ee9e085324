-- The key of a schema's root. (Core 2020-12, 4.3.5 and 9.1.1)
use Rattle.std.specs.Prelude.{None, Ok, Result, Some, [], codes, unwrap_or, ◌≡◌}
use Rattle.serde_json.specs.Data.{Data}
use Rattle.theory_definitions.specs.Instance.{Text}
use Rattle.theory_definitions.specs.Drafts.{Draft}
use Rattle.theory_definitions.specs.Resolving.{Entrance}
use Rattle.theory_definitions.specs.Parts.{Parts}
use Rattle.theory_definitions.specs.Plan.{Key, referred_at}

module _ {S K R : Type 0} (w : Parts S K R) where
  -- The draft of the root: the option, or else the draft that the schema declares.
  abbrev pub root_draft : Data → Result Draft Text
  root_draft schema = elim w.draft [ Some draft ↦ Ok draft | None ↦ w.resolver.draft_for schema ]

  -- The base URI of the root: the option, or else the root's identifier.
  abbrev pub base_of : Draft → Data → Text
  base_of draft schema = unwrap_or w.base (unwrap_or (w.resolver.id draft schema) (codes "json-schema:///"))

  -- The key of a root at the place where its document begins.
  abbrev pub key_at : Entrance S → Draft → Key S
  key_at e draft = referred_at w (record { place = e.place; state = e.state; draft = draft }) [] 0

  -- The key of the root, if the resolver returns the schema as the value at the place of the base.
  pub record IsRoot (schema : Data) (k : Key S) : Type 0 where
    pub draft : Draft
    pub entrance : Entrance S
    pub drafted : root_draft schema ≡ Ok draft
    pub entered : w.resolver.root (base_of draft schema) ≡ Some entrance
    pub valued : w.resolver.value entrance.place ≡ Some schema
    pub is_key : k ≡ key_at entrance draft
