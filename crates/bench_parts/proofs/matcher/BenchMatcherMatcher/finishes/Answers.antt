use Rattle.std.proofs.Common.{◌≡◌, ◌∙◌, ◌==◌, [], ◌∷◌, ℕ, Bool, Global, List, String, ap, arith, length, map, refl, string_bytes, subst, suc, sym, true}
use Rattle.std.proofs.lemmas.Bool.{eqb-true, ne_eqb}
use Rattle.schema_traits.specs.MatcherViews.{FinishesEach}
use Rattle.bench_parts.specs.BenchMatching.{bench_matcher, leaves_none}
use Rattle.bench_parts.proofs.matcher.BenchMatcherMatcher.finishes.Goals as goal

-- if no pattern is left unfinished, then no match is
finishes_each : (b : Bool) (texts : List (String Global)) → b ≡ (length texts == 0) → b ≡ true → FinishesEach (bench_matcher (map string_bytes texts))
finishes_each b [] e h = λ pattern subject reason left. absurd (cc left)
finishes_each b (x ∷ texts) e h = absurd (let none : suc (length texts) ≡ 0 = eqb-true (suc (length texts)) 0 (sym e ∙ h) in omega arith)

-- the matcher says so exactly if the list is empty
none_are_left : (texts : List (String Global)) → (length texts == 0) ≡ leaves_none (map string_bytes texts)
none_are_left [] = refl
none_are_left (x ∷ texts) = ne_eqb (suc (length texts)) 0 (λ same. let more : suc (length texts) ≡ 0 = same in omega arith)

pub returns : goal.returns
returns c =
    let texts = c.self.inside.unfinished.items in
    let empty : c.is_empty.result ≡ (length texts == 0) = c.is_empty.ensures ∙ ap (λ (n : ℕ). n == 0) c.self.inside.unfinished.ok.0 in
    record {
      finishes = λ says. subst (λ ps. FinishesEach (bench_matcher ps)) c.self.view_is (finishes_each c.is_empty.result texts empty says);
      says = empty ∙ none_are_left texts ∙ ap leaves_none c.self.view_is;
    }
