-- The makers of two joined tables make as they should, since those of each table do.
use Rattle.std.proofs.Common.{Bool, List, ap, false, refl, sym, true, ◌≡◌, ◌∙◌}
use Rattle.std.specs.Prelude.{if◌then◌else◌}
use Rattle.serde_json.specs.Data.{Members}
use Rattle.theory_definitions.specs.Instance.{Text}
use Rattle.theory_definitions.specs.Drafts.{Draft, Vocabularies}
use Rattle.theory_definitions.specs.Making.{Made, Making, Script, a_keyword, after_request, compile, followed, nothing, refer, refused, then_compile, then_end, then_pending, then_refer, then_reserve}
use Rattle.schema_traits.specs.MakerViews.{MakesRightly}
use Rattle.keyword_joins.specs.BothScripts.{Scripts, both_script, goes_first, made_as, script_as}
use Rattle.keyword_joins.specs.Sides.{by_side}
use Rattle.keyword_joins.specs.declared.both.Both.TheVariants.{First, Second}

-- ---- the keywords of one type as keywords of another

abbrev making_as : {A B : Type 0} → (A → B) → Making A → Making B
making_as f m = record { requests = m.requests; ends = made_as f m.ends }

followed_if : {A B : Type 0} (f : A → B) (b : Bool) (x y : Making A) (x' y' : Making B) → x' ≡ making_as f x → y' ≡ making_as f y
    → (if b then x' else y') ≡ making_as f (if b then x else y)
followed_if f true x y x' y' p q = p
followed_if f false x y x' y' p q = q

followed_as : {A B : Type 0} (f : A → B) (is_self : Text → Bool) (s : Script A) → followed is_self (script_as f s) ≡ making_as f (followed is_self s)
followed_as f is_self (then_compile path s) = ap (after_request (compile path)) (followed_as f is_self s)
followed_as f is_self (then_refer text s skipped) = ap (after_request (refer text))
    (followed_if f (is_self text) _ _ _ _ (followed_as f is_self skipped) (followed_as f is_self s))
followed_as f is_self (then_pending purpose free held) = followed_as f is_self free
followed_as f is_self (then_reserve purpose s) = followed_as f is_self s
followed_as f is_self (then_end m) = refl

-- corresponding keywords absorb the same names, and either both are whole or neither is
module _ {A B : Type 0} (f : A → B) (absorbed : A → List Text) (absorbed' : B → List Text) (is_whole : A → Bool) (is_whole' : B → Bool)
    (absorb_alike : (m : A) → absorbed m ≡ absorbed' (f m)) (whole_alike : (m : A) → is_whole m ≡ is_whole' (f m)) (object : Members) where
  made_rightly : (m : Made A) → MakesRightly absorbed is_whole object (then_end m) → MakesRightly absorbed' is_whole' object (then_end (made_as f m))
  made_rightly (a_keyword m names) h = (h.0 ∙ absorb_alike m, (λ none. sym (whole_alike m) ∙ h.1 none), h.2)
  made_rightly nothing h = tt
  made_rightly (refused told e) h = h

  pub makes_rightly : (s : Script A) → MakesRightly absorbed is_whole object s → MakesRightly absorbed' is_whole' object (script_as f s)
  makes_rightly (then_compile path s) h = (h.0, makes_rightly s h.1)
  makes_rightly (then_refer text s skipped) h = (makes_rightly s h.0, makes_rightly skipped h.1)
  makes_rightly (then_pending purpose free held) h = (
    (λ is_self. followed_as f is_self free ∙ (ap (making_as f) (h.0 is_self) ∙ sym (followed_as f is_self held))),
    makes_rightly free h.1,
    makes_rightly held h.2,
  )
  makes_rightly (then_reserve purpose s) h = makes_rightly s h
  makes_rightly (then_end m) h = made_rightly m h

-- ---- two tables

-- each maker of a table of this type makes as it should
abbrev pub EachMakesRightly : {T K : Type 0} → (K → List Text) → (K → Bool) → Scripts T K → Type 0
EachMakesRightly {T} absorbed is_whole script = (t : T) (own : Bool) (name : Text) (object : Members) (draft : Draft) (vocabularies : Vocabularies) (formats : Bool)
    → MakesRightly absorbed is_whole object (script t own name object draft vocabularies formats)

pub one_of : {K : Type 0} (absorbed : K → List Text) (is_whole : K → Bool) (object : Members) (b : Bool) (x y : Script K)
    → MakesRightly absorbed is_whole object x → MakesRightly absorbed is_whole object y → MakesRightly absorbed is_whole object (if b then x else y)
one_of absorbed is_whole object true x y p q = p
one_of absorbed is_whole object false x y p q = q

pub both_makes_rightly : {S T M N : Type 0} (owned : S → Text → Bool) (one : Scripts S M) (other : Scripts T N) (absorbs_one : M → List Text) (absorbs_other : N → List Text)
    (is_whole_one : M → Bool) (is_whole_other : N → Bool) → EachMakesRightly absorbs_one is_whole_one one → EachMakesRightly absorbs_other is_whole_other other
    → EachMakesRightly (by_side absorbs_one absorbs_other) (by_side is_whole_one is_whole_other) (both_script owned one other)
both_makes_rightly owned one other absorbs_one absorbs_other is_whole_one is_whole_other right_one right_other t own name object draft vocabularies formats =
    let absorbs = by_side absorbs_one absorbs_other in
    let is_whole = by_side is_whole_one is_whole_other in
    let first = one t.first own name object draft vocabularies formats in
    let second = other t.second own name object draft vocabularies formats in
    one_of absorbs is_whole object (goes_first owned t name) (script_as First first) (script_as Second second)
    (makes_rightly First absorbs_one absorbs is_whole_one is_whole (λ m. refl) (λ m. refl) object first (right_one t.first own name object draft vocabularies formats))
    (makes_rightly Second absorbs_other absorbs is_whole_other is_whole (λ m. refl) (λ m. refl) object second (right_other t.second own name object draft vocabularies formats))
