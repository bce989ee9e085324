-- With questions to a bounded depth, the verdict of a key does not depend on its evaluation path,
-- so marked children of the same key have the same answers.
use Rattle.std.proofs.Common.{◌≡◌, ℕ, zero, suc, ◌==◌, true, List, [], ◌∷◌, ◌++◌, refl, ◌∙◌, ap, ap₂, subst, Bool}
use Rattle.std.specs.Prelude.{Decides, Option, Some, None}
use Rattle.std.proofs.lemmas.Bool.{eqb-true}
use Rattle.serde_json.specs.Data.{Data}
use Rattle.theory_definitions.specs.Instance.{Text, Place, Step}
use Rattle.theory_definitions.specs.Reports.{Outcome, accepted, spans_nothing}
use Rattle.theory_definitions.specs.Parts.{Parts}
use Rattle.theory_definitions.specs.Matching.{Completion, matching, beside}
use Rattle.theory_definitions.specs.Making.{Request}
use Rattle.theory_definitions.specs.Plan.{Key, Edge, Part, Form, keyword, reference, Plan, always, never, these, plan, child, reference_edge, same_child, same_edge_key}
use Rattle.theory_definitions.specs.Meaning.{at, subject, asked, place_below, false_outcome, part_outcome, parts_outcome, outcome_of, kept, either_spans, told_of, others_span, form_told}
use Rattle.theory_definitions.specs.Laws.{AnsweredAlike}
use Rattle.theory_definitions.proofs.Products.{in_either}
use Rattle.theory_meaning.proofs.SameRun.{same_key_is}
use Rattle.theory_meaning.specs.Members.{SaysAlike}
use Rattle.theory_meaning.proofs.SpansRead.{alike_both, alike_itself, alike_kept, alike_span, spans_alike}
use Rattle.theory_meaning.proofs.Steps.{in_steps}

-- Edges to the same key have the same verdicts.
abbrev pub KeysAlike : {S : Type 0} → (Edge S → Place → Outcome) → Type 0
KeysAlike {S} g = (a b : Edge S) → a.key ≡ b.key → (q : Place) → (g a q).verdict ≡ (g b q).verdict

module _ {S K R : Type 0} (w : Parts S K R) (instance : Data) where
  -- So do marked children.
  pub keys_answered : ((a b : S) → Decides (w.resolver.same_state a b) (a ≡ b)) → (k : Key S) (name : Text) (requests : List Request) (p : Place) (g : Edge S → Place → Outcome) → KeysAlike g
      → AnsweredAlike (same_child w k name requests) (asked w instance accepted k name requests p g)
  keys_answered states k name requests p g alike i j is below = in_either (i == j) (same_edge_key w (child w k name requests i) (child w k name requests j))
      (λ e. ap (λ n. (asked w instance accepted k name requests p g (record { child = n; below = below })).verdict) (eqb-true i j e))
      (go (child w k name requests i) (child w k name requests j)) is
    where
      go : (o u : Option (Edge S)) → same_edge_key w o u ≡ true
          → (let x : Outcome = elim o [ None ↦ accepted | Some e ↦ g e (place_below p below) ] in x.verdict) ≡ (let x : Outcome = elim u [ None ↦ accepted | Some e ↦ g e (place_below p below) ] in x.verdict)
      go None u e = absurd (cc e)
      go (Some a) None e = absurd (cc e)
      go (Some a) (Some b) e = alike a b (same_key_is w states a.key b.key e) (place_below p below)

  module _ (c : Completion) where
    module _ (k : Key S) (path path' : Text) (p : Place) (f g : Edge S → Place → Outcome) (same : (e : Edge S) (q : Place) → SaysAlike (f e q) (g e q)) where
      option_alike : (o : Option (Edge S)) (q : Place) → SaysAlike (elim o [ None ↦ accepted | Some e ↦ f e q ]) (elim o [ None ↦ accepted | Some e ↦ g e q ])
      option_alike None q = alike_itself accepted
      option_alike (Some e) q = same e q

      part_alike : (others : Step → Bool) (name : Text) (form : Form K) → SaysAlike (part_outcome w instance c k path p f others name form) (part_outcome w instance c k path' p g others name form)
      part_alike others name (keyword m requests absorbed) = record {
        verdict = ap (w.keywords.holds m (subject w instance p) (beside others (matching w.matcher c))) (λ j q. (option_alike (child w k name requests q.child) (place_below p q.below)).verdict j);
        spans = spans_alike w.keywords m (subject w instance p) (beside others (matching w.matcher c)) (asked w instance accepted k name requests p f) (asked w instance accepted k name requests p g)
            (λ q. (option_alike (child w k name requests q.child) (place_below p q.below)).verdict) (λ q. (option_alike (child w k name requests q.child) (place_below p q.below)).spans);
      }
      part_alike others name (reference kind text) = let e = option_alike (reference_edge w k name kind text) p in record { verdict = e.verdict; spans = e.spans }

      others_alike : (xs : List (Part K)) → others_span w instance c k path p f xs ≡ others_span w instance c k path' p g xs
      others_alike [] = refl
      others_alike (x ∷ xs) = ap₂ either_spans (alike_span (form_told w.keywords x.form) _ _ (part_alike spans_nothing x.name x.form)) (others_alike xs)

      parts_alike : (others : Step → Bool) (xs : List (Part K)) → SaysAlike (parts_outcome w instance c k path p f others xs) (parts_outcome w instance c k path' p g others xs)
      parts_alike others [] = alike_itself accepted
      parts_alike others (x ∷ xs) = alike_both _ _ _ _ (part_alike (told_of others (form_told w.keywords x.form)) x.name x.form) (parts_alike others xs)

      key_alike : SaysAlike (outcome_of w instance c k path p f) (outcome_of w instance c k path' p g)
      key_alike = go (plan w k)
        where
          go : (o : Plan K)
              → SaysAlike (elim o [ always ↦ accepted | never ↦ false_outcome w.keywords.texts (at w instance k path p) (subject w instance p) | these xs ↦ kept (parts_outcome w instance c k path p f (others_span w instance c k path p f xs) xs) ])
              (elim o [ always ↦ accepted | never ↦ false_outcome w.keywords.texts (at w instance k path' p) (subject w instance p) | these xs ↦ kept (parts_outcome w instance c k path' p g (others_span w instance c k path' p g xs) xs) ])
          go always = alike_itself accepted
          go never = record { verdict = refl; spans = refl }
          go (these xs) = alike_kept _ _ (subst (λ o. SaysAlike (parts_outcome w instance c k path p f (others_span w instance c k path p f xs) xs) (parts_outcome w instance c k path' p g o xs)) (others_alike xs) (parts_alike (others_span w instance c k path p f xs) xs))

    -- Verdict and span at every depth are the same with any path.
    key_by_any_path : (n : ℕ) (k : Key S) (path path' : Text) (p : Place)
        → SaysAlike (in_steps w instance accepted (outcome_of w instance c) n k path p) (in_steps w instance accepted (outcome_of w instance c) n k path' p)
    key_by_any_path zero k path path' p = alike_itself accepted
    key_by_any_path (suc n) k path path' p = key_alike k path path' p
        (λ e q. in_steps w instance accepted (outcome_of w instance c) n e.key (path ++ e.path) q) (λ e q. in_steps w instance accepted (outcome_of w instance c) n e.key (path' ++ e.path) q) (λ e q. key_by_any_path n e.key (path ++ e.path) (path' ++ e.path) q)

    pub steps_alike : (n : ℕ) (path : Text) → KeysAlike (λ e q. in_steps w instance accepted (outcome_of w instance c) n e.key (path ++ e.path) q)
    steps_alike n path a b same q = (key_by_any_path n a.key (path ++ a.path) (path ++ b.path) q).verdict
        ∙ ap (λ k. (in_steps w instance accepted (outcome_of w instance c) n k (path ++ b.path) q).verdict) same
