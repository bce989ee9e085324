-- A basic keyword that ends at once by itself does so here; an array's keyword does if it asks at
-- no item.
use Rattle.std.proofs.Common.{Bool, None, Option, Some, ap, ◌≡◌}
use Rattle.std.specs.Prelude.{IfSome}
use Rattle.theory_definitions.specs.Instance.{Subject}
use Rattle.schema_traits.specs.AtOnce.{EndsAtOnce}
use Rattle.schema_traits.specs.KeywordViews.{Tells}
use Rattle.schema_traits.specs.declared.keyword.Mode.TheVariants as mode
use Rattle.keyword_authoring.specs.Items.{each_from, first_at_item}
use Rattle.keyword_authoring.specs.Ways.{asked, nth}
use Rattle.standard_basics.specs.BasicShape.{BasicShape, is_whole}
use Rattle.standard_basics.specs.Words.{words}
use Rattle.example_fused_keywords.specs.FusedShape.{is_free, of_array, of_bench}
use Rattle.example_fused_keywords.specs.FusedWords.{fused_words}
use Rattle.example_fused_keywords.specs.Openings.{asked_count, before_of, checks_hold}
use Rattle.example_fused_keywords.specs.declared.array.ArrayKeyword.{ArrayKeyword}

bench_ends : (texts : Bool) (m : BasicShape) (s : Subject) (valid : Bool) → EndsAtOnce (words texts) m s valid → EndsAtOnce (fused_words texts) (of_bench m) s valid
bench_ends texts m s valid h = record { asks_nothing = h.asks_nothing; says = h.says }

array_ends : (texts : Bool) (k : ArrayKeyword) (s : Subject) (valid : Bool) → asked_count mode.Verdict k s ≡ 0 → checks_hold k s ≡ valid
    → EndsAtOnce (fused_words texts) (of_array k) s valid
array_ends texts k s valid none holds = record {
  asks_nothing = ap (λ n. asked mode.Verdict (nth 0 (each_from first_at_item (before_of k) n))) none;
  says = holds;
}

pub bench_at_once : (m : BasicShape) (s : Subject) (o : Option Bool)
    → IfSome o (λ valid. (texts : Bool) → Tells texts (is_whole m) s → EndsAtOnce (words texts) m s valid)
    → IfSome o (λ valid. (texts : Bool) → Tells texts (is_free (of_bench m)) s → EndsAtOnce (fused_words texts) (of_bench m) s valid)
bench_at_once m s None h = h
bench_at_once m s (Some valid) h = λ texts tells. bench_ends texts m s valid (h texts tells)

pub array_at_once : (k : ArrayKeyword) (s : Subject) (o : Option Bool)
    → IfSome o (λ valid. asked_count mode.Verdict k s ≡ 0) → IfSome o (λ valid. checks_hold k s ≡ valid)
    → IfSome o (λ valid. (texts : Bool) → Tells texts (is_free (of_array k)) s → EndsAtOnce (fused_words texts) (of_array k) s valid)
array_at_once k s None none holds = none
array_at_once k s (Some valid) none holds = λ texts tells. array_ends texts k s valid none holds
