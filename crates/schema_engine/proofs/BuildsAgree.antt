-- A build refuses a schema that builds and passes the check only for lack of memory: any other refusal names a cause that holds, or
-- says that more keys are reached than there are, or has the error of a document that is not accepted.
use Rattle.std.proofs.Common.{ap, arith, false, inl, inr, length, refl, subst, sym, true, [], List, ℕ, ◌∙◌, ◌∷◌, ◌≡◌}
use Rattle.std.specs.Prelude.{All, AllPairs, Decides, Err, Ok, Result, string_bytes, ◌≤◌}
use Rattle.std.specs.Cmp.{IsEquivalence, both_ways}
use Rattle.std.proofs.lemmas.List.Elements.{All-contains}
use Rattle.std.proofs.lemmas.Map.Keys.{IsDistinct-from_apart}
use Rattle.std.proofs.lemmas.Map.Made.{length-le_from_is_member}
use Rattle.std.proofs.lemmas.Map.Views.{Contains-from_any}
use Rattle.serde_json.specs.Data.{Data}
use Rattle.theory_definitions.specs.Instance.{Text}
use Rattle.theory_meaning.specs.Documents.{Document}
use Rattle.theory_definitions.specs.Drafts.{Draft, SchemaPlace}
use Rattle.theory_definitions.specs.Parts.{Parts}
use Rattle.theory_definitions.specs.Plan.{Key, same_key}
use Rattle.theory_meaning.specs.Reach.{IsReach, Reached, ReachesMoreThan, different}
use Rattle.theory_meaning.specs.Refusals.{Cause, Stands}
use Rattle.theory_definitions.specs.Resolving.{Resolver}
use Rattle.theory_meaning.specs.Root.{base_of, root_draft}
use Rattle.schema_keys.specs.Checking.{EachAccepted, FollowsAccepted, IsAccepted, MetaChecks, RefusesOne, documents_at}
use Rattle.schema_keys.specs.Compiling.{resolving_parts}
use Rattle.schema_keys.specs.declared.error.BuildError.{BuildError}
use Rattle.schema_keys.specs.declared.error.BuildError.TheVariants.{KeywordRefused, Lookup, MetaSchema, MissingRoot}
use Rattle.schema_keys.specs.declared.error.BuildError.TheVariants.{NodeLimit, NotASchema, OutOfMemory, ReferenceNotText}
use Rattle.schema_keys.specs.declared.error.BuildError.TheVariants.{UnsupportedVocabulary}
use Rattle.schema_validator.specs.Checked.{FailsCheck, PassesCheck}
use Rattle.schema_validator.specs.Handed.{Options}
use Rattle.schema_validator.specs.Roots.{Builds, IsMissingBase, IsRootKey, RefusesBuild}
use Rattle.schema_validator.proofs.Reaches.{same_itself, same_true}

one_ok : {A E : Type 0} (r : Result A E) (a b : A) → r ≡ Ok a → r ≡ Ok b → a ≡ b
one_ok r a b p q = cc

module _ {S K R : Type 0} (w : Parts S K R) (law : (a b : S) → Decides (w.resolver.same_state a b) (a ≡ b)) where
  -- ---- distinct keys that are reached are no more than all keys that are reached

  turned : (a b : Key S) → same_key w a b ≡ true → same_key w b a ≡ true
  turned a b e = subst (λ k. same_key w k a ≡ true) (same_true w law a b e) (same_itself w law a)

  same_keys : IsEquivalence (same_key w)
  same_keys = record {
    refl = same_itself w law;
    symm = λ a b. both_ways (same_key w a b) (same_key w b a) (turned a b) (turned b a);
    congr = λ a b k e. ap (λ x. same_key w x k) (same_true w law a b e);
  }

  no_more : (root : Key S) (keys others : List (Key S)) → IsReach w root keys → All (Reached w root) others → AllPairs (different w) others
      → length others ≤ length keys
  no_more root keys others reach sound once = length-le_from_is_member same_keys others keys
      (IsDistinct-from_apart (same_key w) others once)
      (λ k there. reach.whole k (All-contains (Reached w root) others k sound (Contains-from_any (same_true w law) k others there)))

  -- ---- no cause of refusal is left but memory

  module _ (schema : Data) (limit : ℕ) (builds : Builds w schema limit) where
    no_cause : (cause : Cause) (root : Key S) → IsRootKey w schema root → Stands w root cause → ⊥
    no_cause cause root is stands = builds.compiles cause (subst (λ k. Stands w k cause) (builds.alone root is) stands)

    not_past : (root : Key S) → IsRootKey w schema root → ReachesMoreThan w limit root → ⊥
    not_past root is (others, sound, once, more) =
        let same = builds.alone root is in
        let few = no_more builds.root builds.keys others builds.reach (subst (λ k. All (Reached w k) others) same sound) once in
        let within = builds.within in
        omega (arith, few, within, more)

    has_draft : (text : Text) → root_draft w schema ≡ Err text → ⊥
    has_draft text e = cc (sym e ∙ builds.is_root.drafted)

    has_base : (uri : Text) → IsMissingBase w schema uri → ⊥
    has_base uri m =
        let found = builds.is_root in
        let same : m.draft ≡ found.draft = one_ok (root_draft w schema) m.draft found.draft m.drafted found.drafted in
        let one_base = ap (λ (d : Draft). w.resolver.root (base_of w d schema)) same in
        cc (sym m.missing ∙ (ap (λ u. w.resolver.root u) m.is_base ∙ (one_base ∙ found.entered)))

    pub memory_alone : (e : BuildError) → RefusesBuild w schema limit e → e ≡ OutOfMemory
    memory_alone (NotASchema l) (inl void) = absurd void
    memory_alone (NotASchema l) (inr (root, is, stands)) = absurd (no_cause _ root is stands)
    memory_alone (ReferenceNotText l) (inl void) = absurd void
    memory_alone (ReferenceNotText l) (inr (root, is, stands)) = absurd (no_cause _ root is stands)
    memory_alone (Lookup text) (inl refused) = absurd (has_draft refused.0 refused.1)
    memory_alone (Lookup text) (inr (root, is, stands)) = absurd (no_cause _ root is stands)
    memory_alone (KeywordRefused x) (inl void) = absurd void
    memory_alone (KeywordRefused x) (inr (root, is, (told, stands))) = absurd (no_cause _ root is stands)
    memory_alone (UnsupportedVocabulary uri) (inl void) = absurd void
    memory_alone (UnsupportedVocabulary uri) (inr (root, is, stands)) = absurd (no_cause _ root is stands)
    memory_alone (MetaSchema x) (inl void) = absurd void
    memory_alone (MetaSchema x) (inr (root, is, void)) = absurd void
    memory_alone (MissingRoot uri) (inl missing) = absurd (has_base (string_bytes uri) missing)
    memory_alone (MissingRoot uri) (inr (root, is, void)) = absurd void
    memory_alone (NodeLimit n) (inl void) = absurd void
    memory_alone (NodeLimit n) (inr (root, is, (limited, more))) = absurd (not_past root is more)
    memory_alone OutOfMemory h = refl

-- ---- what is accepted is not refused

module _ {S K R : Type 0} (w : Parts S K R) (refuses : MetaChecks) where
  accepted_there : (ds : List (Document w)) (d : Document w) → EachAccepted w refuses ds → FollowsAccepted w refuses ds d → IsAccepted w refuses d
  accepted_there [] d accepted among = absurd among
  accepted_there (x ∷ ds) d accepted (inl same) = subst (IsAccepted w refuses) same accepted.0
  accepted_there (x ∷ ds) d accepted (inr among) = accepted_there ds d accepted.1 among.1

  not_both : (root : SchemaPlace) (ds : List (Document w)) (e : BuildError) → EachAccepted w refuses ds → RefusesOne w refuses root ds e → e ≡ OutOfMemory
  not_both root ds (MetaSchema x) accepted (d, among, below) =
      let passes = accepted_there ds d accepted among in
      let (error, instance, refused, there, same) = below false (λ e. absurd (cc e)) in
      absurd (cc (sym passes ∙ refused))
  not_both root ds OutOfMemory accepted refused = refl
  not_both root ds (NotASchema location) accepted void = absurd void
  not_both root ds (ReferenceNotText location) accepted void = absurd void
  not_both root ds (Lookup text) accepted void = absurd void
  not_both root ds (KeywordRefused error) accepted void = absurd void
  not_both root ds (UnsupportedVocabulary uri) accepted void = absurd void
  not_both root ds (MissingRoot uri) accepted void = absurd void
  not_both root ds (NodeLimit limit) accepted void = absurd void

pub check_fails_for_memory : {S : Type 0} (resolver : Resolver S) (refuses : MetaChecks) (options : Options) (schema : Data) (e : BuildError)
    → PassesCheck resolver refuses options schema → FailsCheck resolver refuses options schema e → e ≡ OutOfMemory
check_fails_for_memory resolver refuses options schema e passes (on, (root, is_root, refused)) =
    not_both (resolving_parts resolver) refuses root.target.place (documents_at resolver root.target.draft root.target.place) e (passes on root is_root) refused
