-- The keywords that have a verdict at once.
use Rattle.std.proofs.Common.{◌≡◌, ◌∙◌, ◌∷◌, [], Bool, List, ap, arith, false, length, refl, rules, true}
use Rattle.std.specs.Prelude.{All, IsTrue, ◌↔◌, if◌then◌else◌, not}
use Rattle.std.specs.List.{filter}
use Rattle.std.proofs.lemmas.List.Elements.{All-cons, All-head, All-nil, All-tail}
use Rattle.serde_json.specs.View.{members_view}
use Rattle.serde_json.proofs.Views.{Entry}
use Rattle.theory_definitions.specs.Instance.{Subject, Text}
use Rattle.theory_definitions.specs.Keywords.{for_verdict}
use Rattle.schema_traits.specs.AtOnce.{EndsAtOnce}
use Rattle.schema_traits.specs.KeywordViews.{fresh, is_nil}
use Rattle.schema_traits.specs.declared.keyword.Mode.TheVariants as mode
use Rattle.keyword_authoring.specs.Members.{has_member, names_in, subject_names}
use Rattle.keyword_authoring.specs.Texts.{is_among}
use Rattle.standard_pattern_properties.specs.Gates.{Form, passes, tells}
use Rattle.standard_pattern_properties.specs.GateLaws.{gated_words}
use Rattle.standard_pattern_properties.specs.GateMoves.{Move, answer_by, at_gates, at_pattern, halts, seeks, told_in, turn_by}
use Rattle.standard_pattern_properties.specs.GatedKeywords.{form_of, gates_of, names_of, other_gate, unlisted}
use Rattle.standard_pattern_properties.specs.Present.{all_members}
use Rattle.standard_pattern_properties.specs.declared.keyword.GatedKeyword.{GatedKeyword}
use Rattle.standard_pattern_properties.specs.declared.keyword.GatedKeyword.TheVariants.{AdditionalProperties, NoAdditionalProperties, PatternProperties}
use Rattle.standard_pattern_properties.specs.declared.keyword.Neighbours.{Neighbours}

-- ---- No member is looked at.

none_told : (texts : Bool) (form : Form) → (told_in texts form mode.Verdict (fresh for_verdict) []).verdict ≡ true
none_told texts passes = refl
none_told texts (tells called text) = refl

pub nothing_at_once : (texts : Bool) (k : GatedKeyword) (s : Subject) → names_of k s ≡ [] → EndsAtOnce (gated_words gates_of form_of names_of texts) k s true
nothing_at_once texts k s h = record {
  asks_nothing = ap (λ names. turn_by mode.Verdict (seeks (gates_of k) (form_of k) s mode.Verdict 0 [] names)) h;
  says = ap (λ names. (answer_by texts (form_of k) mode.Verdict (fresh for_verdict) (seeks (gates_of k) (form_of k) s mode.Verdict 0 [] names)).verdict) h ∙ none_told texts (form_of k);
}

pub nil_list : {A : Type 0} (xs : List A) → is_nil xs ≡ true → xs ≡ []
nil_list [] h = refl
nil_list (x ∷ xs) h = cc

-- an instance without members
pub no_members_at_once : (texts : Bool) (k : GatedKeyword) (s : Subject) → is_nil (subject_names s) ≡ true → EndsAtOnce (gated_words gates_of form_of names_of texts) k s true
no_members_at_once texts (PatternProperties patterns) s h = nothing_at_once texts (PatternProperties patterns) s (nil_list (subject_names s) h)
no_members_at_once texts (AdditionalProperties beside) s h = nothing_at_once texts (AdditionalProperties beside) s (ap (unlisted beside.listed) (nil_list (subject_names s) h))
no_members_at_once texts (NoAdditionalProperties beside) s h = nothing_at_once texts (NoAdditionalProperties beside) s (ap (unlisted beside.listed) (nil_list (subject_names s) h))

-- ---- No pattern is asked.

kept_all : (P : Text → Type 0) (f : Text → Bool) (ks : List Text) → All P ks → All P (filter f ks)
kept_all P f [] h = All-nil _
kept_all P f (k ∷ ks) h = kept (f k) (kept_all P f ks (All-tail P k ks h))
  where
    kept : (b : Bool) → All P (filter f ks) → All P (if b then k ∷ filter f ks else filter f ks)
    kept true rest = All-cons P k (filter f ks) (All-head P k ks h) rest
    kept false rest = rest

module _ (texts : Bool) (beside : Neighbours) (s : Subject) where
  abbrev keyword : GatedKeyword
  keyword = NoAdditionalProperties beside

  abbrev moved : List Text → Move
  moved names = seeks (gates_of keyword) (form_of keyword) s mode.Verdict 0 [] names

  -- The first additional member ends the run.
  left_over : (k : Text) (ks : List Text) → has_member k s ≡ true → beside.patterns ≡ [] → moved (k ∷ ks) ≡ halts (k ∷ [])
  left_over k ks here none =
      ap (λ b. if b then at_gates (gates_of keyword) (form_of keyword) s mode.Verdict (k ∷ ks) [] k 0 (gates_of keyword) next else seeks (gates_of keyword) (form_of keyword) s mode.Verdict 0 [] ks) here
      ∙ ap (λ ps. at_pattern (gates_of keyword) (form_of keyword) s mode.Verdict (k ∷ ks) [] k 0 0 (other_gate beside.patterns) ps
      (λ left. at_gates (gates_of keyword) (form_of keyword) s mode.Verdict (k ∷ ks) left k 1 [] next)) none
    where
      next : List Text → Move
      next left = seeks (gates_of keyword) (form_of keyword) s mode.Verdict 0 left ks

  ends : (names : List Text) → names_of keyword s ≡ names → All (λ k. has_member k s ≡ true) names → beside.patterns ≡ [] → EndsAtOnce (gated_words gates_of form_of names_of texts) keyword s (is_nil names)
  ends [] is there none = nothing_at_once texts keyword s is
  ends (k ∷ ks) is there none = record {
    asks_nothing = ap (λ names. turn_by mode.Verdict (moved names)) is ∙ ap (turn_by mode.Verdict) (left_over k ks (All-head (λ k. has_member k s ≡ true) k ks there) none);
    says = ap (λ names. (answer_by texts (form_of keyword) mode.Verdict (fresh for_verdict) (moved names)).verdict) is
        ∙ ap (λ mv. (answer_by texts (form_of keyword) mode.Verdict (fresh for_verdict) mv).verdict) (left_over k ks (All-head (λ k. has_member k s ≡ true) k ks there) none);
  }

  pub told_at_once : beside.patterns ≡ [] → EndsAtOnce (gated_words gates_of form_of names_of texts) keyword s (is_nil (unlisted beside.listed (subject_names s)))
  told_at_once none = ends (names_of keyword s) refl (kept_all (λ k. has_member k s ≡ true) (λ k. not (is_among beside.listed k)) (subject_names s) (all_members s)) none

-- ---- an object without members

pub empty_names : (es : List Entry) (b : Bool) → (IsTrue b ↔ (length es ≡ 0)) → b ≡ is_nil (names_in (members_view es))
empty_names [] true h = refl
empty_names [] false h = absurd (let t : IsTrue false = h.1 refl in search rules)
empty_names (e ∷ es) true h = absurd (let z : length (e ∷ es) ≡ 0 = h.0 (search rules) in omega arith)
empty_names (e ∷ es) false h = refl
