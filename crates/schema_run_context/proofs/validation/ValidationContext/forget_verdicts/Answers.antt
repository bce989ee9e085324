use Rattle.std.proofs.Common.{◌≡◌, ◌∙◌, ◌*◌, ◌+◌, ℕ, [], List, ap, arith, length, map, subst}
use Rattle.schema_run_context.specs.Progress.{Context, guard_words, root_places, row_words}
use Rattle.schema_run_context.specs.ProgressViews.{all_verdicts, pair_of}
use Rattle.schema_run_context.specs.Rows.{row_numbers, words_in}
use Rattle.schema_run_context.proofs.Widths.{all_wide, none_wide}
use Rattle.schema_run_context.proofs.validation.ValidationContext.forget_verdicts.Goals as goal

only_once : (n : ℕ) → n + 2 * 0 ≡ n
only_once n = omega arith

pub returns-clause-wide : goal.returns-clause-wide
returns-clause-wide c =
    let i = c.self.inside in
    let h = c.self.invariant in
    all_wide (row_words (length (root_places i.places))) i.guard c.clear.new.self h.wide_guard (none_wide (2 * row_words (length (root_places i.places))) c.clear.new.self c.clear.ensures.empty)

pub returns-clause-forgotten : goal.returns-clause-forgotten
returns-clause-forgotten c =
    let i = c.self.inside in
    let h = c.self.invariant in
    let ps = root_places i.places in
    let w = row_words (length ps) in
    let none = c.clear.ensures.empty in
    let width : words_in i.guard + words_in c.clear.new.self ≡ length (row_numbers i.guard) * w =
    all_wide w i.guard c.clear.new.self h.wide_guard (none_wide (2 * w) c.clear.new.self none)
    ∙ ap (λ (es : List (List ℕ)). (length (row_numbers i.guard) + 2 * length (row_numbers es)) * w) none
    ∙ ap (λ (n : ℕ). n * w) (only_once (length (row_numbers i.guard))) in
    let now : Context = record {
      root = i.places;
      in_progress = map (pair_of ps) i.pairs.items;
      remembered = i.matches;
      marking = i.marking;
      verdicts = all_verdicts ps c.clear.new.self;
      visits = 0;
      entered = row_numbers i.guard;
      kept = row_numbers c.clear.new.self;
      words = words_in i.guard + words_in c.clear.new.self;
      work = i.work;
    } in
    subst (λ (x : Context). now ≡ record x { verdicts = []; visits = 0; kept = []; words = guard_words x }) c.self.view_is
    (λ j. record {
      root = i.places;
      in_progress = map (pair_of ps) i.pairs.items;
      remembered = i.matches;
      marking = i.marking;
      verdicts = all_verdicts ps (none j);
      visits = 0;
      entered = row_numbers i.guard;
      kept = row_numbers (none j);
      words = width j;
      work = i.work;
    })
