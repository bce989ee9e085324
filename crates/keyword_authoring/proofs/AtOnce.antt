-- A keyword that reports its own errors asks nothing: a run for the verdict is done at its first
-- turn, and accepts if there is no error.
use Rattle.std.proofs.Common.{Bool, List, [], false, map, refl, subst, sym, true, ℕ, ◌∙◌, ◌≡◌, ◌∷◌}
use Rattle.theory_definitions.specs.Instance.{Subject, Text}
use Rattle.theory_definitions.specs.Keywords.{Answer, done, for_verdict, no_reply}
use Rattle.schema_reports.specs.ReportViews.{spoken}
use Rattle.schema_traits.specs.AtOnce.{EndsAtOnce}
use Rattle.schema_traits.specs.KeywordViews.{fresh, is_nil}
use Rattle.schema_traits.specs.declared.keyword.Mode.TheVariants as mode
use Rattle.keyword_authoring.specs.OwnWays.{leaf_way, leaf_ways, own_words, spoken_way, telling_ways}
use Rattle.keyword_authoring.specs.Plans.{plan_ways, way_by}
use Rattle.keyword_authoring.specs.Ways.{Way, noted, tells, unless, way_begin, way_step, way_turn}
use Rattle.keyword_authoring.specs.declared.planned.Plan.{Plan}
use Rattle.keyword_authoring.specs.declared.planned.Plan.TheVariants.{Holds}

-- an answer that refuses still refuses with more errors
said_no : (name : Text) (a : Answer) (ts : List Text) → a.verdict ≡ false → (noted mode.Verdict name a ts).verdict ≡ false
said_no name a [] h = h
said_no name a (t ∷ ts) h = said_no name _ ts refl

-- the verdict of a run that reports its own errors
told_verdict : (name : Text) (ts : List Text) → (noted mode.Verdict name (fresh for_verdict) ts).verdict ≡ is_nil ts
told_verdict name [] = refl
told_verdict name (t ∷ ts) = said_no name _ ts refl

-- for this kind a run for the verdict asks nothing, and has this verdict
pub record SaysAtOnce (w : Way) (valid : Bool) : Type 0 where
  pub asks_nothing : way_step w (way_begin for_verdict, fresh for_verdict) no_reply ≡ done
  pub says : (way_turn w (way_begin for_verdict, fresh for_verdict) no_reply).1.verdict ≡ valid

-- it accepts if there is nothing to report
pub tells_at_once : (name : Text) (ts : List Text) (valid : Bool) → is_nil ts ≡ valid → SaysAtOnce (tells name ts) valid
tells_at_once name ts valid is = record { asks_nothing = refl; says = told_verdict name ts ∙ is }

-- nothing is reported if it accepts
pub unless_nil : (texts holds : Bool) (text : Text) → is_nil (map (spoken texts) (unless holds text)) ≡ holds
unless_nil texts true text = refl
unless_nil texts false text = refl

pub leaf_at_once : (texts : Bool) (name : Text) (holds : Bool) (text : Text) → SaysAtOnce (spoken_way texts (leaf_way name holds text)) holds
leaf_at_once texts name holds text = tells_at_once name (map (spoken texts) (unless holds text)) holds (unless_nil texts holds text)

-- an author's keyword of such a kind
pub own_ends : {M : Type 0} (way : M → Subject → Way) (texts : Bool) (m : M) (s : Subject) (valid : Bool)
    → SaysAtOnce (spoken_way texts (way m s)) valid → EndsAtOnce (own_words way texts) m s valid
own_ends way texts m s valid h = record { asks_nothing = h.asks_nothing; says = h.says }

module _ {M : Type 0} (called : M → Text) (accepts : M → Subject → Bool) (error_text : M → Subject → Text) where
  -- a leaf says whether it accepts
  pub leaf_ends : (texts : Bool) (m : M) (s : Subject) → EndsAtOnce (own_words (leaf_ways called accepts error_text) texts) m s (accepts m s)
  leaf_ends texts m s = own_ends (leaf_ways called accepts error_text) texts m s (accepts m s)
      (leaf_at_once texts (called m) (accepts m s) (error_text m s))

-- there are as many errors, whether their texts are covered or not
as_many : (f : Text → Text) (ts : List Text) → is_nil (map f ts) ≡ is_nil ts
as_many f [] = refl
as_many f (t ∷ ts) = refl

module _ {M : Type 0} (called : M → Text) (error_texts : M → Subject → List Text) where
  -- a keyword with errors of its own says whether there are none
  pub telling_ends : (texts : Bool) (m : M) (s : Subject) (holds : Bool) → holds ≡ is_nil (error_texts m s)
      → EndsAtOnce (own_words (telling_ways called error_texts) texts) m s holds
  telling_ends texts m s holds is = own_ends (telling_ways called error_texts) texts m s holds
      (tells_at_once (called m) (map (spoken texts) (error_texts m s)) holds (as_many (spoken texts) (error_texts m s) ∙ sym is))

module _ {M : Type 0} (plan : M → Subject → Plan) (name : M → Text) (text : M → Subject → ℕ → Text) where
  -- a keyword whose plan is to report says whether it accepts
  pub plan_ends : (texts : Bool) (m : M) (s : Subject) (holds : Bool) → plan m s ≡ Holds holds → EndsAtOnce (own_words (plan_ways plan name text) texts) m s holds
  plan_ends texts m s holds is = own_ends (plan_ways plan name text) texts m s holds
      (subst (λ p. SaysAtOnce (spoken_way texts (way_by (name m) (text m s) s p)) holds) (sym is) (leaf_at_once texts (name m) holds (text m s 0)))
