use Rattle.std.proofs.Common.{◌++◌, ◌∷◌, [], ap, ap₂, map, ◌∙◌}
use Rattle.std.specs.List.{list_all}
use Rattle.unfinished_search.specs.SharedResults.{is_empty, or_none, shared_among}
use Rattle.unfinished_search.proofs.SharedLists.{map_last, shared_by}
use Rattle.unfinished_search.proofs.shared.shared_errors.Goals as goal

pub returns : goal.returns
returns c = record {
  shared =
      let split = ap (map (λ r. r.items)) c.in-Some.ensures.items ∙ map_last (λ r. r.items) c.pop.new.self.items c.in-Some.last in
      let kept = c.in_ok-shared.ensures.kept ∙ ap (λ o. shared_among o c.in-Some.last.items) (c.deref-3.ensures.value ∙ c.in_ok-others.ensures.same) in
      let empty = c.all_empty-empty.ensures ∙ ap₂ (λ o l. list_all is_empty (map (λ r. r.items) o ++ l ∷ [])) c.deref.ensures.value c.deref-2.ensures.value in
      shared_by _ _ _ _ split (c.or_none.ensures ∙ ap₂ or_none kept empty);
}
