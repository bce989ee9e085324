-- The steps of a compilation: the keys that a step reaches, and the causes for which what it
-- requests is refused.
use Rattle.std.specs.Prelude.{Bool, List, None, Option, Some, [], codes, false, flat_map, if◌then◌else◌, slice_get, true, ℕ, ◌≡◌, ◌⊎◌, ◌∷◌}
use Rattle.serde_json.specs.Data.{Data, Members}
use Rattle.theory_definitions.specs.Instance.{Text}
use Rattle.theory_definitions.specs.Matching.{Matcher, finished}
use Rattle.theory_definitions.specs.Resolving.{Resolver}
use Rattle.theory_definitions.specs.Making.{Table, nothing, then_end}
use Rattle.theory_definitions.specs.Keywords.{Keywords, done, for_verdict}
use Rattle.theory_definitions.specs.Parts.{Parts}
use Rattle.theory_definitions.specs.Guarded.{NodeEdge}
use Rattle.schema_traits.specs.MakerViews.{Told, a_skip, the_number}
use Rattle.theory_definitions.specs.Plan.{Edge, Key, Reference, is_self, making, reference_edge, to_dynamic, to_recursive, to_ref}
use Rattle.theory_definitions.specs.Drafts.{SchemaPlace, same_schema_place}
use Rattle.theory_meaning.specs.Reach.{Reached, asked_edges, builtin_edges, lone_ref, maker_edges, members_edges, reference_edges}
use Rattle.theory_meaning.specs.Refusals.{Cause, builtin_causes, causes, maker_causes, undeclared}

-- P holds of each element
abbrev pub Each : {A : Type 0} → (A → Type 0) → List A → Type 0
Each P [] = Unit {0}
Each P (x ∷ xs) = P x × Each P xs

-- a value is an element of a list
abbrev pub In : {A : Type 0} → List A → A → Type 0
In [] x = ⊥
In (y ∷ ys) x = (y ≡ x) ⊎ In ys x

-- ---- the parts that the compiler reads: no matcher, and of the keywords only how they are made

abbrev pub no_matcher : Matcher
no_matcher = record { is_match = λ pattern text. finished true; is_ecma = λ text. true }

abbrev pub no_keywords : {K : Type 0} → Keywords K (Unit {0})
no_keywords = record {
  texts = true;
  may_ask = λ m s. [];
  spans = λ m s. [];
  is_told = λ m. false;
  holds = λ m s matching ask. true;
  faults = λ m s matching answers. [];
  units = λ m s matching ask. record { valid = true; children = []; annotations = None; errors = []; absorbed = [] };
  most_turns = λ m s. 0;
  begin = λ m s mode. tt;
  turn = λ m s r reply. tt;
  step = λ m s r reply. done;
  answer = λ r. record { mode = for_verdict; verdict = true; errors = []; gives = record { valid = true; children = []; annotations = None; errors = []; absorbed = [] } };
}

abbrev pub parts_of : {S K : Type 0} → Resolver S → Table K → Option Bool → List Text → Parts S K (Unit {0})
parts_of resolver table formats declared = record {
  resolver = resolver;
  table = table;
  matcher = no_matcher;
  keywords = no_keywords;
  draft = None;
  base = None;
  formats = formats;
  declared = declared;
}

-- for definitions that depend on the resolver alone: an empty table, and the parts with it
abbrev pub no_table : Table (Unit {0})
no_table = record { owns = λ name. false; builtin = λ draft vocabularies name. None; script = λ own name object draft vocabularies formats. then_end nothing }

abbrev pub resolving_parts : {S : Type 0} → Resolver S → Parts S (Unit {0}) (Unit {0})
resolving_parts resolver = parts_of resolver no_table None []

module _ {S K R : Type 0} (w : Parts S K R) where
  -- a reference leads to a key that requires no undeclared vocabulary
  abbrev pub IsDeclared : Edge S → Type 0
  IsDeclared e = e.is_reference ≡ true → flat_map (undeclared w) e.key.target.vocabularies ≡ []

  -- the key of a requested edge has a number, and requires no undeclared vocabulary if a reference
  -- leads to it
  pub record Settled (keys : List (Key S)) (e : Edge S) : Type 0 where
    pub numbered : (i : ℕ) × (slice_get keys i ≡ Some e.key)
    pub declared : IsDeclared e

  -- the keys that these edges reach
  abbrev pub ReachedFrom : List (Edge S) → Key S → Type 0
  ReachedFrom es q = (e : Edge S) × In es e × Reached w e.key q

  -- one of these causes, or an undeclared vocabulary that the target of a reference among these
  -- edges requires
  abbrev pub Direct : List (Edge S) → List Cause → Cause → Type 0
  Direct es cs c = In cs c ⊎ ((e : Edge S) × In es e × (e.is_reference ≡ true) × In (flat_map (undeclared w) e.key.target.vocabularies) c)

  -- a cause at a key that this key reaches
  abbrev pub StandsBelow : Key S → Cause → Type 0
  StandsBelow k c = (q : Key S) × Reached w k q × Direct (asked_edges w q) (causes w q) c

  -- a cause here, or at a key that these edges reach
  abbrev pub Blames : List (Edge S) → List Cause → Cause → Type 0
  Blames es cs c = Direct es cs c ⊎ ((e : Edge S) × In es e × StandsBelow e.key c)

-- a reference is skipped if it leads to the place that holds it; `$recursiveRef` never is
abbrev pub skips : Reference → SchemaPlace → SchemaPlace → Bool
skips to_recursive target here = false
skips to_ref target here = same_schema_place target here
skips to_dynamic target here = same_schema_place target here

module _ {S K R : Type 0} (w : Parts S K R) where
  -- the edge that a reference requests; none if it is skipped
  abbrev pub reference_asked : Key S → Text → Reference → Text → Option (Edge S)
  reference_asked k name kind text = if is_self w k kind text then None else reference_edge w k name kind text

  -- the edges that one member requests, and its causes
  abbrev pub member_edges : Key S → Members → Text → Data → List (Edge S)
  member_edges k whole name value = elim (w.table.owns name) [ true ↦ maker_edges w k name (making w k whole true name) | false ↦ builtin_edges w k whole name value ]

  abbrev pub member_causes : Key S → Members → Text → Data → List Cause
  member_causes k whole name value = elim (w.table.owns name) [ true ↦ maker_causes w k (making w k whole true name) | false ↦ builtin_causes w k whole name value ]

  -- the edges that an object requests
  abbrev pub object_edges : Key S → Members → List (Edge S)
  object_edges k ms = elim (lone_ref w k ms) [ Some value ↦ reference_edges w k (codes "$ref") to_ref value | None ↦ members_edges w k ms ms ]

-- the reply to a maker's request: the number, or that it was skipped
abbrev pub answers : Option NodeEdge → ℕ → Told
answers None n = a_skip
answers (Some e) n = the_number n
