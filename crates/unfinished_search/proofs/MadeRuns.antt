-- A search uses its run as often as its call makes further runs.
use Rattle.std.proofs.Common.{◌≡◌, ◌+◌, ◌∙◌, inl, inr, ℕ, suc, [], true, false, arith, length, refl, subst}
use Rattle.theory_definitions.specs.Cover.{Call, Sense, assuming}
use Rattle.theory_definitions.specs.Matching.{Assumptions}
use Rattle.theory_definitions.specs.Unfinished.{Remembered, starting}
use Rattle.theory_meaning.specs.Search.{Grows, GrowsFrom, Tree, Uses, branch, ends, lists_of, member, runs, unrun}
use Rattle.theory_meaning.specs.Searched.{IsRunOf}
use Rattle.unfinished_search.specs.Outcomes.{AreOutcomes}
use Rattle.unfinished_search.specs.RunCounts.{MakesFurther}
use Rattle.unfinished_search.specs.declared.search.Outcomes.{Outcomes}
use Rattle.unfinished_search.specs.declared.search.Outcomes.TheVariants.{Assumed, Undecided}
use Rattle.unfinished_search.proofs.RunUses.{more_uses}
use Rattle.unfinished_search.proofs.SearchedSays.{are_few, not_decided}

module _ {S T : Type 0} (Step : S → Remembered → Remembered → T → S → Type 0) where
  abbrev Use : S → Remembered → Remembered × T → S → Type 0
  Use s x y end = Step s x y.0 y.1 end

  grown_uses : (as' : Assumptions) (s : S) (tree : Tree T) (end : S) → Grows Step as' s tree end → Uses Use s (runs tree) end
  grown_uses as' s unrun end is = is
  grown_uses as' s (member r result) end g = (s, starting as', (r, result), refl, g.0)
  grown_uses as' s (branch r f a b) end g =
      let own : Uses Use s 1 g.1 = (s, starting as', (r, g.0), refl, g.3) in
      let no = grown_uses (assuming f.met false as') g.1 a g.2 g.5 in
      let yes = grown_uses (assuming f.met true as') g.2 b end g.6 in
      let both = more_uses Use g.1 (runs a) (runs b) g.2 end no yes in
      let same : (runs b + runs a) + 1 ≡ 1 + (runs a + runs b) = omega arith in
      subst (λ k. Uses Use s k end) same (more_uses Use s 1 (runs b + runs a) g.1 end own both)

  further_uses : (first : Remembered) (start : S) (tree : Tree T) (end : S) → GrowsFrom Step first start tree end → (n : ℕ) × Uses Use start n end × (suc n ≡ runs tree)
  further_uses first start unrun end g = absurd g
  further_uses first start (member r result) end g = absurd g
  further_uses first start (branch r f a b) end g =
      let no = grown_uses (assuming f.met false first.assumptions) start a g.0 g.3 in
      let yes = grown_uses (assuming f.met true first.assumptions) g.0 b end g.4 in
      (runs b + runs a, more_uses Use start (runs a) (runs b) g.0 end no yes, omega arith)

module _ (v : Sense) (call : Call) {S T V : Type 0} (Step : S → Remembered → Remembered → T → S → Type 0) (first : Remembered) (start : S) (view : T → V) (says : Assumptions → V) (is : IsRunOf v call Step first start view says) where
  pub makes_further : (limit : ℕ) (end : S) (o : Outcomes T) → AreOutcomes Step first start limit end o → MakesFurther v limit call Step start end
  makes_further limit end (Assumed results failure) (tree, made, whole, same) =
      let (n, uses, all) = further_uses Step first start tree end made.grows in
      let m = are_few v call Step first start view says is limit tree failure made whole in
      let counted : length (lists_of [] tree) ≡ ends tree = subst (λ z. length (lists_of z tree) ≡ ends tree) is.assumes_none whole.counted in
      (n, uses, inl ((lists_of [] tree, m.cover, m.few), omega (arith, all, counted, whole.runs_are)))
  makes_further limit end (Undecided failure) (tree, made, cut) =
      let (n, uses, all) = further_uses Step first start tree end made.grows in
      (n, uses, inr (not_decided v call Step first start view says is limit tree failure made cut, all ∙ cut.runs_are))
