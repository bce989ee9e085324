-- What a call takes of its budget, by what it took of a copy; and which error it returns.
use Rattle.std.proofs.Common.{◌+◌, ◌≡◌, ◌≤◌, ◌∙◌, Bool, ap, arith, false, inl, inr, refl, subst, sym, true}
use Rattle.std.specs.Prelude.{IfSome, None, Option, is_some, ℕ, ◌⊎◌}
use Rattle.serde_json.specs.declared.value.Value.{Value}
use Rattle.serde_json.specs.Data.{Data}
use Rattle.theory_definitions.specs.Cover.{Call}
use Rattle.schema_run_context.specs.Works.{Budget, IsBoundedInDepth, IsSpent, Spends, allowed, down_to}
use Rattle.schema_traits.specs.declared.keyword.Validate.{Ghosts as KeywordMembers}
use Rattle.schema_traits.specs.declared.matcher.Matcher.{Ghosts as MatcherMembers}
use Rattle.schema_compiled.specs.Program.{Program}
use Rattle.schema_compiled.specs.Solved.{IsDecidedWithin}
use Rattle.schema_compiled.specs.Stopped.{IsOneOf}
use Rattle.schema_compiled.specs.Taken.{TakesByRuns}
use Rattle.schema_compiled.specs.declared.stopping.CallLimit.{CallLimit}
use Rattle.schema_compiled.specs.declared.stopping.CallLimit.TheVariants.{Depth, Steps}
use Rattle.schema_compiled.proofs.Solved.{not_stopped}
use Rattle.schema_validator.specs.Budgets.{IsCharged, IsNamedBy, NamesLimit, StaysUnstopped, StepsAreTaken}
use Rattle.schema_validator.specs.declared.call_error.CallError.{CallError}
use Rattle.schema_validator.specs.declared.call_error.CallError.TheVariants as failure

-- the copy with which a call begins has as much left
pub left_at_begin : (old begun : Budget) → begun ≡ down_to old.deepest old → old.left ≡ begun.left
left_at_begin old begun begins = sym (ap (λ (w : Budget). w.left) begins)

-- `begun` is the copy as the call began, `copy` as it left it
module _ (old begun copy new : Budget) (begins : begun ≡ down_to old.deepest old) (charged : IsCharged old copy new) where
  spends_copy : Spends begun copy → Spends old copy
  spends_copy spends =
      let spent = subst (λ (w : Budget). Spends w copy) begins spends in
      record { limited = spent.limited; left = spent.left; deepest = spent.deepest }

  -- with a limit, as much is left as of the copy, if no more was left of that
  pub kept_charged : Spends begun copy → old.limited ≡ true → new.left ≡ copy.left
  kept_charged spends limited = charged.kept limited (spends_copy spends)

  pub takes_charged : {C Run K M : Type 0} (keywords : KeywordMembers C Run K) (matchers : MatcherMembers M) (p : Program C M) (instance : Data) (call : Call)
      → TakesByRuns keywords matchers p instance call begun copy → TakesByRuns keywords matchers p instance call old new
  takes_charged keywords matchers p instance call takes = record {
    spends = charged.spends;
    runs = λ limited texts speaks.
        let same = kept_charged takes.spends limited in
        let taken = subst (λ (w : Budget). TakesByRuns keywords matchers p instance call w copy) begins takes in
        let (deep, are) = taken.runs limited texts speaks in
        (deep, λ n more. let (further, makes, fewer) = are n more in let few : copy.left + further ≤ old.left = fewer in (further, makes, omega (arith, same, few)));
  }

  -- the budget is stopped only if the copy was
  pub stopped_charged : (P : Type 0) → (old.stopped ≡ false → copy.stopped ≡ true → P) → old.stopped ≡ false → new.stopped ≡ true → P
  stopped_charged P late fresh stopped = go charged.stopped
    where
      go : (new.stopped ≡ copy.stopped) ⊎ (new.stopped ≡ old.stopped) → P
      go (inl is) = late fresh (sym is ∙ stopped)
      go (inr is) = absurd (let f : ⊥ = cc (is, fresh, stopped) in f)

  pub stays_charged : StaysUnstopped begun copy → StaysUnstopped old new
  stays_charged stays = λ fresh. go charged.stopped fresh
    where
      stays_copy : StaysUnstopped old copy
      stays_copy = subst (λ (w : Budget). StaysUnstopped w copy) begins stays

      go : (new.stopped ≡ copy.stopped) ⊎ (new.stopped ≡ old.stopped) → old.stopped ≡ false → new.stopped ≡ false
      go (inl is) fresh = is ∙ stays_copy fresh
      go (inr is) fresh = is ∙ fresh

-- ---- how a budget is charged

module _ (old copy mid : Budget) (steps : StepsAreTaken old copy mid) where
  stopped_either : (mid.stopped ≡ copy.stopped) ⊎ (mid.stopped ≡ old.stopped)
  stopped_either = go steps.either
    where
      go : (mid ≡ down_to old.deepest copy) ⊎ (mid ≡ down_to old.deepest old) → (mid.stopped ≡ copy.stopped) ⊎ (mid.stopped ≡ old.stopped)
      go (inl is) = inl (ap (λ (w : Budget). w.stopped) is)
      go (inr is) = inr (ap (λ (w : Budget). w.stopped) is)

  shallow : mid.too_deep ≡ false
  shallow = go steps.either
    where
      go : (mid ≡ down_to old.deepest copy) ⊎ (mid ≡ down_to old.deepest old) → mid.too_deep ≡ false
      go (inl is) = ap (λ (w : Budget). w.too_deep) is
      go (inr is) = ap (λ (w : Budget). w.too_deep) is

  -- the copy was not too small in depth
  pub charged_plain : copy.too_deep ≡ false → IsCharged old copy mid
  charged_plain is = record {
    spends = steps.spends;
    kept = λ limited spends. ap (λ (w : Budget). w.left) (steps.kept limited spends);
    stopped = stopped_either;
    too_deep = λ _. shallow;
    told = λ _ was. absurd (let f : ⊥ = cc (is, was) in f);
  }

  -- it was
  pub charged_deep : (new : Budget) → copy.too_deep ≡ true → IsBoundedInDepth copy → new ≡ record mid { too_deep = new.too_deep } → (is_some mid.deepest ≡ true → new ≡ record mid { too_deep = true }) → IsCharged old copy new
  charged_deep new is bounded frame flag =
      let spent = steps.spends in
      record {
        spends = subst (Spends old) (sym frame) (record { limited = spent.limited; left = spent.left; deepest = spent.deepest });
        kept = λ limited spends. ap (λ (w : Budget). w.left) frame ∙ ap (λ (w : Budget). w.left) (steps.kept limited spends);
        stopped = subst (λ (b : Bool). (b ≡ copy.stopped) ⊎ (b ≡ old.stopped)) (sym (ap (λ (w : Budget). w.stopped) frame)) stopped_either;
        too_deep = λ was. absurd (let f : ⊥ = cc (is, was) in f);
        told = λ spends _. ap (λ (w : Budget). w.too_deep) (flag (ap is_some (spent.deepest ∙ sym spends.deepest) ∙ bounded));
      }

-- ---- which error a call returns

-- not that it stopped, without a limit on depth and with one on steps that is enough
pub never_stopped : {C Run K M : Type 0} (keywords : KeywordMembers C Run K) (matchers : MatcherMembers M) (p : Program C M) (instance : Value) (limit : CallLimit) (before after : Budget) (e : CallError)
    → before ≡ down_to p.depth (allowed p.work) → IsOneOf p.work p.depth limit → IsNamedBy e limit → p.depth ≡ None → IfSome p.work (IsDecidedWithin keywords matchers p instance)
    → (IsDecidedWithin keywords matchers p instance before.left → StaysUnstopped before after) → ¬ (NamesLimit before after e)
never_stopped keywords matchers p instance (Steps limit) before after e given is named none decided going names =
    not_stopped keywords matchers p instance limit before after (given ∙ ap (λ (o : Option ℕ). down_to p.depth (allowed o)) is) is decided going (names.limit named).0
never_stopped keywords matchers p instance (Depth limit) before after e given is named none decided going names = cc (is, none)

module _ (old new : Budget) where
  pub names_depth : Spends old new → new.too_deep ≡ true → IsBoundedInDepth new → NamesLimit old new failure.DepthLimit
  names_depth spends too_deep bounded = record {
    depth = (λ _. too_deep, λ _. refl);
    bounded = λ _. bounded;
    limit = λ is. absurd (let f : ⊥ = cc is in f);
    memory = λ is. absurd (let f : ⊥ = cc is in f);
    unlimited = λ _ free.
        let kept = ap is_some spends.deepest in
        absurd (let f : ⊥ = cc (free, kept, bounded) in f);
  }

  pub names_limit : Spends old new → new.too_deep ≡ false → new.stopped ≡ true → IsSpent new → NamesLimit old new failure.WorkLimit
  names_limit spends shallow stopped spent = record {
    depth = (λ is. absurd (let f : ⊥ = cc is in f), λ deep. absurd (let f : ⊥ = cc (deep, shallow) in f));
    bounded = λ is. absurd (let f : ⊥ = cc is in f);
    limit = λ _. (stopped, spent);
    memory = λ is. absurd (let f : ⊥ = cc is in f);
    unlimited = λ free _.
        let kept = spends.limited in
        let limited = spent.0 in
        absurd (let f : ⊥ = cc (free, kept, limited) in f);
  }

  pub names_memory : new.too_deep ≡ false → new.stopped ≡ false → NamesLimit old new failure.OutOfMemory
  names_memory shallow going = record {
    depth = (λ is. absurd (let f : ⊥ = cc is in f), λ deep. absurd (let f : ⊥ = cc (deep, shallow) in f));
    bounded = λ is. absurd (let f : ⊥ = cc is in f);
    limit = λ is. absurd (let f : ⊥ = cc is in f);
    memory = λ _. going;
    unlimited = λ _ _. refl;
  }
