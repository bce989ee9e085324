-- What a failure at a place of the map says of the schema there.
use Rattle.std.proofs.Common.{◌≡◌, ℕ, subst, [], ◌∷◌, refl, inl, inr}
use Rattle.std.specs.Prelude.{None, Option, Some, ◌⊎◌}
use Rattle.theory_definitions.specs.Instance.{Place}
use Rattle.theory_meaning.specs.MapPointers.{EntryCompiles, IsCompiled, StandsBelow, entry_key}
use Rattle.theory_definitions.specs.Parts.{Parts}
use Rattle.theory_definitions.specs.Plan.{Key}
use Rattle.theory_meaning.specs.Refusals.{Cause}
use Rattle.schema_keys.specs.Alone.{RefusesKeyAlone}
use Rattle.schema_compiler.specs.Compilation.{RefusesAlone}
use Rattle.schema_keys.specs.declared.error.BuildError.{BuildError}
use Rattle.schema_keys.specs.declared.error.BuildError.TheVariants.{KeywordRefused, Lookup, MetaSchema, MissingRoot, NodeLimit, NotASchema, OutOfMemory, ReferenceNotText, UnsupportedVocabulary}
use Rattle.schema_compiler.proofs.Compiled.{stands_too}
use Rattle.schema_validator.specs.Handed.{Options}
use Rattle.schema_validator.specs.Mapped.{RefusesLimit}

-- neither lack of memory nor the limit
abbrev pub IsOfSchema : BuildError → Type 0
IsOfSchema (NodeLimit n) = ⊥
IsOfSchema OutOfMemory = ⊥
IsOfSchema _ = Unit {0}

pub is_of_schema : (e : BuildError) → ¬ (e ≡ OutOfMemory) → ((n : ℕ) → ¬ (e ≡ NodeLimit n)) → IsOfSchema e
is_of_schema (NotASchema l) memory limit = tt
is_of_schema (ReferenceNotText l) memory limit = tt
is_of_schema (Lookup t) memory limit = tt
is_of_schema (KeywordRefused x) memory limit = tt
is_of_schema (UnsupportedVocabulary u) memory limit = tt
is_of_schema (MetaSchema x) memory limit = tt
is_of_schema (MissingRoot u) memory limit = tt
is_of_schema (NodeLimit n) memory limit = limit n refl
is_of_schema OutOfMemory memory limit = memory refl

one_key : {A : Type 0} (o : Option A) (a b : A) → o ≡ Some a → o ≡ Some b → a ≡ b
one_key o a b p q = cc

no_key : {A : Type 0} (o : Option A) (a : A) → o ≡ None → o ≡ Some a → ⊥
no_key o a p q = let f : ⊥ = cc in f

module _ {S K R : Type 0} (w : Parts S K R) (root : Key S) where
  -- there is no cause of refusal below an entry that compiles
  no_cause : (path : Place) (key : Key S) (cause : Cause) → EntryCompiles w path key → ¬ (StandsBelow w key cause)
  no_cause [] key cause compiles stands = compiles cause (stands_too w stands)
  no_cause (s ∷ p) key cause compiles stands = compiles cause stands

  cause_refutes : (path : Place) (c : IsCompiled w root path) (key : Key S) → entry_key w root path ≡ Some key → (cause : Cause) → ¬ (StandsBelow w key cause)
  cause_refutes path c key is cause stands = no_cause path c.key cause c.compiles (subst (λ k. StandsBelow w k cause) (one_key _ key c.key is c.is_key) stands)

  refused_refutes : (path : Place) (c : IsCompiled w root path) (key : Key S) → entry_key w root path ≡ Some key → (limit : ℕ) (e : BuildError) → IsOfSchema e → ¬ (RefusesAlone w limit key e)
  refused_refutes path c key is limit (NotASchema l) of h = cause_refutes path c key is _ h
  refused_refutes path c key is limit (ReferenceNotText l) of h = cause_refutes path c key is _ h
  refused_refutes path c key is limit (Lookup t) of h = cause_refutes path c key is _ h
  refused_refutes path c key is limit (KeywordRefused x) of h = cause_refutes path c key is _ h.1
  refused_refutes path c key is limit (UnsupportedVocabulary u) of h = cause_refutes path c key is _ h
  refused_refutes path c key is limit (MetaSchema x) of h = h
  refused_refutes path c key is limit (MissingRoot u) of h = h
  refused_refutes path c key is limit (NodeLimit n) of h = of
  refused_refutes path c key is limit OutOfMemory of h = of

  keyless_refutes : (path : Place) (c : IsCompiled w root path) (e : BuildError) → IsOfSchema e → ¬ (RefusesKeyAlone (entry_key w root path) e)
  keyless_refutes path c (NotASchema l) of h = h
  keyless_refutes path c (ReferenceNotText l) of h = h
  keyless_refutes path c (Lookup t) of h = no_key _ c.key h c.is_key
  keyless_refutes path c (KeywordRefused x) of h = h
  keyless_refutes path c (UnsupportedVocabulary u) of h = h
  keyless_refutes path c (MetaSchema x) of h = h
  keyless_refutes path c (MissingRoot u) of h = h
  keyless_refutes path c (NodeLimit n) of h = h
  keyless_refutes path c OutOfMemory of h = of

  abbrev Fails : Place → ℕ → BuildError → Type 0
  Fails path limit e = RefusesKeyAlone (entry_key w root path) e ⊎ ((key : Key S) × (entry_key w root path ≡ Some key) × RefusesAlone w limit key e)

  -- what fails but for memory and the limit does not compile
  pub does_not_compile : (path : Place) (limit : ℕ) (e : BuildError) → IsOfSchema e → Fails path limit e → ¬ (IsCompiled w root path)
  does_not_compile path limit e of (inl h) c = keyless_refutes path c e of h
  does_not_compile path limit e of (inr h) c = refused_refutes path c h.0 h.1 limit e of h.2

  -- what fails for the limit has a key, which reaches more
  pub passes_limit : (path : Place) (options : Options) (n : ℕ) → Fails path options.limit (NodeLimit n) → (key : Key S) × (entry_key w root path ≡ Some key) × RefusesLimit w options key (NodeLimit n)
  passes_limit path options n (inl h) = absurd h
  passes_limit path options n (inr h) = h
