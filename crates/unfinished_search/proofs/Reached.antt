-- The state at the end of a search is one that its runs lead to.
use Rattle.std.proofs.Common.{ℕ, false, true, subst}
use Rattle.theory_definitions.specs.Cover.{assuming}
use Rattle.theory_definitions.specs.Matching.{Assumptions}
use Rattle.theory_definitions.specs.Unfinished.{Remembered, starting}
use Rattle.theory_meaning.specs.Search.{Grows, GrowsFrom, Tree, branch, member, unrun}
use Rattle.theory_meaning.specs.Searched.{Reaches, here, next}
use Rattle.unfinished_search.specs.Outcomes.{AreOutcomes}
use Rattle.unfinished_search.specs.declared.search.Outcomes.{Outcomes}
use Rattle.unfinished_search.specs.declared.search.Outcomes.TheVariants as outcomes

module _ {S T : Type 0} (Step : S → Remembered → Remembered → T → S → Type 0) (start : S) where
  grown : (tree : Tree T) (as' : Assumptions) (s end : S) → Reaches Step start s → Grows Step as' s tree end → Reaches Step start end
  grown unrun as' s end at is = subst (Reaches Step start) is at
  grown (member r result) as' s end at grows = next s (starting as') r result end at grows.0
  grown (branch r f if_no if_yes) as' s end at grows =
      let first = next s (starting as') r grows.0 grows.1 at grows.3 in
      let no = grown if_no (assuming f.met false as') grows.1 grows.2 first grows.5 in
      grown if_yes (assuming f.met true as') grows.2 end no grows.6

  grown_from : (tree : Tree T) (first : Remembered) (end : S) → GrowsFrom Step first start tree end → Reaches Step start end
  grown_from unrun first end grows = absurd grows
  grown_from (member r result) first end grows = absurd grows
  grown_from (branch r f if_no if_yes) first end grows =
      let no = grown if_no (assuming f.met false first.assumptions) start grows.0 here grows.3 in
      grown if_yes (assuming f.met true first.assumptions) grows.0 end no grows.4

  pub reached : (first : Remembered) (limit : ℕ) (end : S) (o : Outcomes T) → AreOutcomes Step first start limit end o → Reaches Step start end
  reached first limit end (outcomes.Assumed results failure) are = grown_from are.0 first end are.1.grows
  reached first limit end (outcomes.Undecided failure) are = grown_from are.0 first end are.1.grows
