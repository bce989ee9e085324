-- The facts in a solver's lists, when a pair is begun, refused, assumed or made final.
use Rattle.std.proofs.Common.{◌≡◌, ◌∙◌, ℕ, ◌++◌, ◌||◌, ◌&&◌, not, Bool, true, false, [], ◌∷◌, refl, sym, ap, true≢false}
use Rattle.std.specs.Prelude.{Some, if◌then◌else◌}
use Rattle.std.proofs.lemmas.Bool.{false_from_ne_true}
use Rattle.theory_definitions.specs.Instance.{Place}
use Rattle.schema_run_context.specs.Progress.{Pairs}
use Rattle.schema_run_context.specs.Verdicts.{Remembers, is_pair, verdict_of}
use Rattle.theory_fixed_points.specs.Found.{after_no, after_yes, after_yes_alone, after_yes_free, entered, is_this}
use Rattle.theory_fixed_points.proofs.Pairs.{of_this, this_self}
use Rattle.schema_solver_state.specs.Contexts.{SettlesAll, Solver, found_of, has_pair}

or_none : (a : Bool) → (a || false) ≡ a
or_none true = refl
or_none false = refl

or_over : (a b c : Bool) → (a || (b || c)) ≡ (b || (a || c))
or_over true true c = refl
or_over true false c = refl
or_over false b c = refl

or_joined : (a b c : Bool) → (a || (b || c)) ≡ ((a || b) || c)
or_joined true b c = refl
or_joined false b c = refl

pub has_append : (es fs : Pairs) (i : ℕ) (p : Place) → has_pair (es ++ fs) i p ≡ (has_pair es i p || has_pair fs i p)
has_append [] fs i p = refl
has_append (e ∷ es) fs i p = ap (λ b. is_pair i p e || b) (has_append es fs i p) ∙ or_joined (is_pair i p e) (has_pair es i p) (has_pair fs i p)

-- a list with one more
pub has_pushed : (es : Pairs) (i : ℕ) (p : Place) (j : ℕ) (q : Place) → has_pair (es ++ (i, p) ∷ []) j q ≡ (is_this i p j q || has_pair es j q)
has_pushed es i p j q = has_append es ((i, p) ∷ []) j q ∙ or_over (has_pair es j q) (is_this i p j q) false ∙ ap (λ b. is_this i p j q || b) (or_none (has_pair es j q))

-- a pair that is not this one, said the other way round
other_way : (i : ℕ) (p : Place) (j : ℕ) (q : Place) → is_this i p j q ≡ false → is_pair i p (j, q) ≡ false
other_way i p j q other = false_from_ne_true (is_pair i p (j, q)) (λ is. true≢false (sym (of_this (λ m r. is_this m r j q ≡ true) j q i p is (this_self j q)) ∙ other))

-- what a list has that another begins, and the other has not
later_ones : (old more : Pairs) → ((j : ℕ) (q : Place) → has_pair more j q ≡ true → has_pair old j q ≡ false) → (j : ℕ) (q : Place)
    → has_pair more j q ≡ (has_pair (old ++ more) j q && not (has_pair old j q))
later_ones old more apart j q = go (has_pair more j q) (has_pair old j q) (apart j q) ∙ ap (λ b. b && not (has_pair old j q)) (sym (has_append old more j q))
  where
    go : (m o : Bool) → (m ≡ true → o ≡ false) → m ≡ ((o || m) && not o)
    go true true h = h refl
    go true false h = refl
    go false true h = refl
    go false false h = refl

module _ (i : ℕ) (p : Place) where
  pub found_entered : (c c' : Solver) → c'.in_progress ≡ c.in_progress ++ (i, p) ∷ [] → c'.assumed ≡ c.assumed → c'.verdicts ≡ c.verdicts → found_of c' ≡ entered (found_of c) i p
  found_entered c c' pushed assumed verdicts = λ k. record {
    busy = λ j q. (ap (λ es. has_pair es j q) pushed ∙ has_pushed c.in_progress i p j q) k;
    assumed = has_pair (assumed k);
    known = λ j q. verdict_of j q (verdicts k);
  }

  pub found_assumed : (old e new : Solver) → new.in_progress ≡ old.in_progress → new.assumed ≡ e.assumed ++ (i, p) ∷ [] → new.verdicts ≡ e.verdicts → found_of new ≡ after_yes (found_of old) (found_of e) i p
  found_assumed old e new left pushed verdicts = λ k. record {
    busy = has_pair (left k);
    assumed = λ j q. (ap (λ es. has_pair es j q) pushed ∙ has_pushed e.assumed i p j q) k;
    known = λ j q. verdict_of j q (verdicts k);
  }

  remembered : (v : Bool) (e new : Solver) → Remembers i p v e.verdicts new.verdicts → (j : ℕ) (q : Place) → verdict_of j q new.verdicts ≡ (if is_this i p j q then Some v else verdict_of j q e.verdicts)
  remembered v e new kept j q = go (is_this i p j q) refl
    where
      go : (b : Bool) → is_this i p j q ≡ b → verdict_of j q new.verdicts ≡ (if b then Some v else verdict_of j q e.verdicts)
      go true this = of_this (λ m r. verdict_of m r new.verdicts ≡ Some v) i p j q this kept.its
      go false other = kept.others j q (other_way i p j q other)

  pub found_refused : (old e new : Solver) → new.in_progress ≡ old.in_progress → new.assumed ≡ old.assumed → Remembers i p false e.verdicts new.verdicts → found_of new ≡ after_no (found_of old) (found_of e) i p
  found_refused old e new left dropped refused = λ k. record {
    busy = has_pair (left k);
    assumed = has_pair (dropped k);
    known = λ j q. remembered false e new refused j q k;
  }

  pub found_freed : (old e new : Solver) → new.in_progress ≡ old.in_progress → new.assumed ≡ e.assumed → Remembers i p true e.verdicts new.verdicts → found_of new ≡ after_yes_free (found_of old) (found_of e) i p
  found_freed old e new left same kept = λ k. record {
    busy = has_pair (left k);
    assumed = has_pair (same k);
    known = λ j q. remembered true e new kept j q k;
  }

  pub found_settled : (old e new : Solver) (more : Pairs) → new.in_progress ≡ old.in_progress → new.assumed ≡ old.assumed → e.assumed ≡ old.assumed ++ more
      → ((j : ℕ) (q : Place) → has_pair more j q ≡ true → has_pair old.assumed j q ≡ false)
      → SettlesAll ((i, p) ∷ more) e.verdicts new.verdicts → found_of new ≡ after_yes_alone (found_of old) (found_of e) i p
  found_settled old e new more left dropped grown apart settles = λ k. record {
    busy = has_pair (left k);
    assumed = has_pair (dropped k);
    known = λ j q. (settles j q ∙ ap (λ b. if is_this i p j q || b then Some true else verdict_of j q e.verdicts)
        (later_ones old.assumed more apart j q ∙ ap (λ es. has_pair es j q && not (has_pair old.assumed j q)) (sym grown))) k;
  }
