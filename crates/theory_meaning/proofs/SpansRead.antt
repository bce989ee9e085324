-- What a keyword spans depends only on the answers to questions that it may ask.
use Rattle.std.proofs.Common.{Bool, List, [], None, Option, Some, arith, ap, ap₂, refl, true, false, zero, ℕ, ◌&&◌, ◌++◌, ◌∷◌, ◌≡◌, ◌∙◌, ◌||◌}
use Rattle.std.specs.Prelude.{All, Contains, if◌then◌else◌}
use Rattle.std.specs.List.{list_any}
use Rattle.std.proofs.lemmas.List.Elements.{All-contains, All-head, All-tail, Contains-append_left, Contains-append_right}
use Rattle.theory_definitions.specs.Instance.{Step, Subject, same_step}
use Rattle.theory_definitions.specs.Matching.{Matching}
use Rattle.theory_definitions.specs.Meaning.{both, kept}
use Rattle.theory_definitions.specs.Reports.{Outcome, spans_nothing}
use Rattle.theory_meaning.specs.Members.{SaysAlike}
use Rattle.theory_definitions.specs.Keywords.{Answers, Keywords, Question, Span, child_at, child_here, child_spans, chosen, chosen_here, every, keyword_spans, of_child, of_choice, one, one_accepted, one_matched, span_questions, spans_step}

module _ (matches : Matching) (a b : Answers) (qs : List Question) (same : (q : Question) → Contains qs q → a q ≡ b q) (step : Step) where
  child_same : (i : Option ℕ) → ((q : Question) → Contains (chosen_here i) q → Contains qs q) → child_spans a i step ≡ child_spans b i step
  child_same None inside = refl
  child_same (Some i) inside = ap (λ o. o.spans step) (same (child_here i) (inside (child_here i) (zero, omega arith, refl)))

  chosen_same : (verdict : Bool) (first second : Option ℕ) → ((q : Question) → Contains (chosen_here first ++ chosen_here second) q → Contains qs q)
      → child_spans a (chosen verdict first second) step ≡ child_spans b (chosen verdict first second) step
  chosen_same true first second inside = child_same first (λ q is. inside q (Contains-append_left (chosen_here first) (chosen_here second) q is))
  chosen_same false first second inside = child_same second (λ q is. inside q (Contains-append_right (chosen_here first) (chosen_here second) q is))

  one_span : (p : Span) → All (Contains qs) (span_questions p) → spans_step matches a step p ≡ spans_step matches b step p
  one_span every h = refl
  one_span (one s) h = refl
  one_span (one_matched pair point s) h = refl
  one_span (one_accepted i s) h = ap (λ o. same_step s step && o.verdict) (same (child_at i s) (All-head (Contains qs) (child_at i s) [] h))
  one_span (of_child i) h = ap (λ o. o.spans step) (same (child_here i) (All-head (Contains qs) (child_here i) [] h))
  one_span (of_choice i first second) h =
      let condition = same (child_here i) (All-head (Contains qs) (child_here i) (chosen_here first ++ chosen_here second) h) in
      let others = All-tail (Contains qs) (child_here i) (chosen_here first ++ chosen_here second) h in
      ap (λ o. o.spans step || child_spans a (chosen o.verdict first second) step) condition
      ∙ ap (λ x. (b (child_here i)).spans step || x) (chosen_same (b (child_here i)).verdict first second (λ q is. All-contains (Contains qs) (chosen_here first ++ chosen_here second) q others is))

  each_span : (ps : List Span) → All (λ p. All (Contains qs) (span_questions p)) ps → list_any (spans_step matches a step) ps ≡ list_any (spans_step matches b step) ps
  each_span [] h = refl
  each_span (p ∷ ps) h = ap₂ (λ x y. x || y) (one_span p (All-head (λ p. All (Contains qs) (span_questions p)) p ps h)) (each_span ps (All-tail (λ p. All (Contains qs) (span_questions p)) p ps h))

pub spans_same : {K R : Type 0} (keywords : Keywords K R) (m : K) (s : Subject) (matches : Matching) (a b : Answers)
    → All (λ p. All (Contains (keywords.may_ask m s)) (span_questions p)) (keywords.spans m s)
    → ((q : Question) → Contains (keywords.may_ask m s) q → a q ≡ b q) → keyword_spans keywords m s matches a ≡ keyword_spans keywords m s matches b
spans_same keywords m s matches a b reads same = λ i step. each_span matches a b (keywords.may_ask m s) same step (keywords.spans m s) reads i

-- ---- it reads only verdicts and spans

module _ (matches : Matching) (a b : Answers) (verdicts : (q : Question) → (a q).verdict ≡ (b q).verdict) (spans : (q : Question) → (a q).spans ≡ (b q).spans) (step : Step) where
  child_alike : (i : Option ℕ) → child_spans a i step ≡ child_spans b i step
  child_alike None = refl
  child_alike (Some i) = ap (λ f. f step) (spans (child_here i))

  one_alike : (p : Span) → spans_step matches a step p ≡ spans_step matches b step p
  one_alike every = refl
  one_alike (one s) = refl
  one_alike (one_matched pair point s) = refl
  one_alike (one_accepted i s) = ap (λ v. same_step s step && v) (verdicts (child_at i s))
  one_alike (of_child i) = ap (λ f. f step) (spans (child_here i))
  one_alike (of_choice i first second) = ap₂ (λ x y. x || y) (ap (λ f. f step) (spans (child_here i)))
      (ap (λ v. child_spans a (chosen v first second) step) (verdicts (child_here i)) ∙ child_alike (chosen (b (child_here i)).verdict first second))

  each_alike : (ps : List Span) → list_any (spans_step matches a step) ps ≡ list_any (spans_step matches b step) ps
  each_alike [] = refl
  each_alike (p ∷ ps) = ap₂ (λ x y. x || y) (one_alike p) (each_alike ps)

pub spans_alike : {K R : Type 0} (keywords : Keywords K R) (m : K) (s : Subject) (matches : Matching) (a b : Answers)
    → ((q : Question) → (a q).verdict ≡ (b q).verdict) → ((q : Question) → (a q).spans ≡ (b q).spans) → keyword_spans keywords m s matches a ≡ keyword_spans keywords m s matches b
spans_alike keywords m s matches a b verdicts spans = λ i step. each_alike matches a b verdicts spans step (keywords.spans m s) i

pub alike_itself : (a : Outcome) → SaysAlike a a
alike_itself a = record { verdict = refl; spans = refl }

pub alike_both : (a a' b b' : Outcome) → SaysAlike a a' → SaysAlike b b' → SaysAlike (both a b) (both a' b')
alike_both a a' b b' h k = record { verdict = ap₂ (λ x y. x && y) h.verdict k.verdict; spans = λ i step. h.spans i step || k.spans i step }

pub alike_kept : (a b : Outcome) → SaysAlike a b → SaysAlike (kept a) (kept b)
alike_kept a b h = record { verdict = h.verdict; spans = λ i step. h.verdict i && h.spans i step }

-- What an entry that is not told spans.
pub alike_span : (told : Bool) (a b : Outcome) → SaysAlike a b → ◌≡◌ {A = Step → Bool} (if told then spans_nothing else a.spans) (if told then spans_nothing else b.spans)
alike_span true a b h = refl
alike_span false a b h = h.spans
