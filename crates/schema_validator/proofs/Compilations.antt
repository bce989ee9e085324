-- The result of the compiler, as the nodes that are compiled from its root, whatever matcher and words go with the parts.
use Rattle.std.proofs.Common.{◌≡◌, ℕ, zero, suc, Bool, List, [], ◌∷◌, map, refl, sym, subst}
use Rattle.std.specs.Prelude.{Decides, Option, Some, All, slice_get, slice_index_or}
use Rattle.std.proofs.lemmas.Option.{slice_get_within}
use Rattle.serde_json.specs.Data.{Data, Members}
use Rattle.theory_definitions.specs.Instance.{Text}
use Rattle.theory_definitions.specs.Drafts.{Draft, Vocabularies}
use Rattle.theory_definitions.specs.Matching.{Matcher}
use Rattle.theory_definitions.specs.Resolving.{Resolver}
use Rattle.theory_definitions.specs.Making.{Builtin, Script, Table}
use Rattle.theory_definitions.specs.Keywords.{Keywords}
use Rattle.schema_drafts.specs.KeywordTable.{builtin_in}
use Rattle.theory_definitions.specs.Parts.{Parts}
use Rattle.theory_definitions.specs.Plan.{Key}
use Rattle.theory_meaning.specs.Reach.{IsReach, Reached}
use Rattle.theory_meaning.specs.Refusals.{Cause, Compiles}
use Rattle.theory_meaning.specs.Root.{IsRoot}
use Rattle.theory_meaning.specs.Numbered.{Ranked}
use Rattle.schema_node_table.specs.NodeTable.{NodeEntry, numbered}
use Rattle.schema_keys.specs.Builtins.{builtin}
use Rattle.schema_compiler.specs.Compilation.{IsCompilation, IsCompilationBy, RefusesInOrder, RefusesRoot, all_parts}
use Rattle.schema_keys.specs.Compiling.{no_keywords, no_matcher, no_table}
use Rattle.schema_keys.specs.declared.error.BuildError.{BuildError}
use Rattle.schema_validator.specs.Handed.{Options, parts_of, table_of}
use Rattle.schema_validator.specs.Compiled.{IsCompiled, IsWhole}
use Rattle.schema_validator.specs.Roots.{IsRootKey}
use Rattle.schema_validator.proofs.Reaches.{reach_of}
use Rattle.schema_validator.proofs.RootKeys.{one_root_key, root_key_of, root_key_too}
use Rattle.schema_compiler.specs.Finding.{standing_of}
use Rattle.schema_compiler.proofs.OtherCourses.{finds_all_too}
use Rattle.schema_validator.proofs.OtherParts.{reached_too, numbered_too}

index_of : {A : Type 0} (xs : List A) (i : ℕ) (x d : A) → slice_get xs i ≡ Some x → slice_index_or xs i d ≡ x
index_of [] i x d e = absurd (let f : ⊥ = cc in f)
index_of (y ∷ xs) zero x d e = cc
index_of (y ∷ xs) (suc i) x d e = index_of xs i x d e

all_at : {A : Type 0} (P : A → Type 0) (xs : List A) → All P xs → (i : ℕ) (x : A) → slice_get xs i ≡ Some x → P x
all_at P xs h i x e = subst P (index_of xs i x x e) (h i x (slice_get_within xs i x e))

-- the compiler's table of built-in keywords is the standard's
builtin_is : builtin ≡ builtin_in
unfolding builtin
builtin_is = refl

-- whatever is said to be a cause of refusal
pub compiled_nodes : {S K R C : Type 0} {stands : Cause → Type 0} (w : Parts S K R) (shape : C → K) (limit nested : ℕ) (root : Key S) (keys : List (Key S)) (nodes : List (NodeEntry C)) → IsCompilationBy w stands shape limit nested root keys nodes → IsCompiled w shape root nodes 0
compiled_nodes w shape limit nested root keys nodes c = record {
  keys = keys;
  lengths = c.lengths;
  numbers = c.numbers;
  ranked = subst (Ranked (numbered shape nodes)) (sym c.lengths) c.ranked;
  is_root = c.first;
  reached = all_at (Reached w root) keys c.sound;
}

pub whole_nodes : {S K R C : Type 0} {stands : Cause → Type 0} (w : Parts S K R) (shape : C → K) (limit nested : ℕ) (root : Key S) (keys : List (Key S)) (nodes : List (NodeEntry C)) → IsCompilationBy w stands shape limit nested root keys nodes → IsWhole w shape nested root nodes 0
unfolding compiled_nodes
whole_nodes w shape limit nested root keys nodes c = record { compiled = compiled_nodes w shape limit nested root keys nodes c; filled = c.filled; whole = c.whole; order = c.order; guards = c.guards }

module _ {S K R R' : Type 0} (resolver : Resolver S) (table : Table K) (matcher matcher' : Matcher) (keywords : Keywords K R) (keywords' : Keywords K R') (options : Options) where
  abbrev w : Parts S K R
  w = parts_of resolver table matcher keywords options

  abbrev w' : Parts S K R'
  w' = parts_of resolver table matcher' keywords' options

  pub compiled_too : {C : Type 0} (shape : C → K) (root : Key S) (nodes : List (NodeEntry C)) (number : ℕ) → IsCompiled w shape root nodes number → IsCompiled w' shape root nodes number
  compiled_too shape root nodes number c = record {
    keys = c.keys;
    lengths = c.lengths;
    numbers = numbered_too resolver table matcher matcher' keywords keywords' options (map Some c.keys) (numbered shape nodes) c.numbers;
    ranked = c.ranked;
    is_root = c.is_root;
    reached = λ i k at. reached_too resolver table matcher matcher' keywords keywords' options (c.reached i k at);
  }

  pub whole_too : {C : Type 0} (shape : C → K) (nested : ℕ) (root : Key S) (nodes : List (NodeEntry C)) (number : ℕ) → IsWhole w shape nested root nodes number → IsWhole w' shape nested root nodes number
  unfolding compiled_too
  whole_too shape nested root nodes number c = record {
    compiled = compiled_too shape root nodes number c.compiled;
    filled = c.filled;
    whole = λ k r. c.whole k (reached_too resolver table matcher' matcher keywords' keywords options r);
    order = finds_all_too w w' (λ k. refl) nested root c.compiled.keys (map standing_of nodes) c.order;
    guards = c.guards;
  }

-- what is said of the compiler's table is said of the standard's
module _ {S K R : Type 0} (resolver : Resolver S) (owns : Text → Bool) (script : Bool → Text → Members → Draft → Vocabularies → Bool → Script K) (matcher : Matcher) (keywords : Keywords K R) (options : Options) where
  abbrev over : (Draft → Vocabularies → Text → Option Builtin) → Parts S K R
  over row = parts_of resolver (table_of owns row script) matcher keywords options

  abbrev given : Parts S K R
  given = all_parts resolver (record { owns = owns; builtin = builtin; script = script }) options.formats options.declared matcher keywords options.draft options.base

  pub compiled_in : {C : Type 0} {stands : Cause → Type 0} (shape : C → K) (limit nested : ℕ) (root : Key S) (keys : List (Key S)) (nodes : List (NodeEntry C)) → IsCompilationBy given stands shape limit nested root keys nodes → IsCompiled (over builtin_in) shape root nodes 0
  compiled_in shape limit nested root keys nodes c = subst (λ row. IsCompiled (over row) shape root nodes 0) builtin_is (compiled_nodes (over builtin) shape limit nested root keys nodes c)

  pub whole_in : {C : Type 0} {stands : Cause → Type 0} (shape : C → K) (limit nested : ℕ) (root : Key S) (keys : List (Key S)) (nodes : List (NodeEntry C)) → IsCompilationBy given stands shape limit nested root keys nodes → IsWhole (over builtin_in) shape nested root nodes 0
  whole_in shape limit nested root keys nodes c = subst (λ row. IsWhole (over row) shape nested root nodes 0) builtin_is (whole_nodes (over builtin) shape limit nested root keys nodes c)

  -- the keys are those that the root reaches, and no more than the limit
  pub reach_in : ((a b : S) → Decides (resolver.same_state a b) (a ≡ b)) → {C : Type 0} {stands : Cause → Type 0} (shape : C → K) (limit nested : ℕ) (root : Key S) (keys : List (Key S)) (nodes : List (NodeEntry C)) → IsCompilationBy given stands shape limit nested root keys nodes → IsReach (over builtin_in) root keys
  reach_in law shape limit nested root keys nodes c = subst (λ row. IsReach (over row) root keys) builtin_is (reach_of (over builtin) law shape limit nested root keys nodes c)

  pub compiles_in : {C : Type 0} (shape : C → K) (limit nested : ℕ) (root : Key S) (keys : List (Key S)) (nodes : List (NodeEntry C)) → IsCompilation given shape limit nested root keys nodes → Compiles (over builtin_in) root
  compiles_in shape limit nested root keys nodes c = subst (λ row. Compiles (over row) root) builtin_is c.compiles

  pub refuses_in : (limit : ℕ) (root : Key S) (e : BuildError) → RefusesRoot given limit root e → RefusesRoot (over builtin_in) limit root e
  refuses_in limit root e h = subst (λ row. RefusesRoot (over row) limit root e) builtin_is h

  pub in_order_in : (limit : ℕ) (root : Key S) (e : BuildError) → RefusesInOrder given limit root e → RefusesInOrder (over builtin_in) limit root e
  in_order_in limit root e h = subst (λ row. RefusesInOrder (over row) limit root e) builtin_is h

  -- the nodes are compiled from each root key of a schema, whatever matcher and words go with the parts: there is but one
  pub compiled_from_roots : {C : Type 0} {stands : Cause → Type 0} (schema : Data) (shape : C → K) (limit nested : ℕ) (root : Key S) (keys : List (Key S)) (nodes : List (NodeEntry C)) → IsCompilationBy given stands shape limit nested root keys nodes
      → IsRootKey (parts_of resolver no_table no_matcher no_keywords options) schema root → (other : Key S) → IsRoot (parts_of resolver (table_of owns builtin_in script) no_matcher no_keywords options) schema other
      → IsCompiled (parts_of resolver (table_of owns builtin_in script) no_matcher no_keywords options) shape other nodes 0
  compiled_from_roots schema shape limit nested root keys nodes done is_root other is_other =
      let table : Table K = table_of owns builtin_in script in
      let free : Parts S K (Unit {0}) = parts_of resolver table no_matcher no_keywords options in
      let compiled = compiled_too resolver table matcher no_matcher keywords no_keywords options shape root nodes 0 (compiled_in shape limit nested root keys nodes done) in
      subst (λ k. IsCompiled free shape k nodes 0)
      (one_root_key free schema root other (root_key_too resolver no_table table no_matcher no_matcher no_keywords no_keywords options schema root is_root) (root_key_of free schema other is_other)) compiled
