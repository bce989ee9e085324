-- The failure of a search over a sense's runs is one of the call's.
use Rattle.std.proofs.Common.{◌≡◌, ◌<◌, ℕ, zero, suc, List, [], ◌∷◌, Bool, true, false, cond, not, Some, None, sym, ◌∙◌, ap, ap₂, subst, refl, arith, ◌⊎◌, inl, inr}
use Rattle.std.specs.Prelude.{Option, option_map, is_some, Contains, find, unwrap_or}
use Rattle.theory_definitions.specs.Instance.{Place, Text}
use Rattle.theory_definitions.specs.Matching.{Assumptions, assumed, same_pair, unfinished}
use Rattle.theory_definitions.specs.Reports.{Error}
use Rattle.theory_definitions.specs.Runs.{Met}
use Rattle.theory_definitions.specs.Cover.{Call, Sense, branch_at}
use Rattle.theory_meaning.specs.Headline.{IsFailure, reason_text, shown_at, shown_pattern}
use Rattle.theory_definitions.specs.Unfinished.{Failure, located_by, located_by_all, or_pattern, preferred}
use Rattle.theory_meaning.specs.RunOrder.{IsMade}
use Rattle.theory_meaning.specs.Searched.{failure_error}
use Rattle.theory_meaning.proofs.CoversApart.{Some-is, same_is}
use Rattle.unfinished_search.proofs.SearchedSense.{AllSited, Sited}

pub found : {A : Type 0} (p : A → Bool) (xs : List A) (x : A) → find p xs ≡ Some x → Contains xs x × (p x ≡ true)
found p [] x e = absurd (cc e)
found p (y ∷ ys) x e = go (p y) refl e (found p ys x)
  where
    go : (b : Bool) → p y ≡ b → cond b (Some y) (find p ys) ≡ Some x → (find p ys ≡ Some x → Contains ys x × (p x ≡ true)) → Contains (y ∷ ys) x × (p x ≡ true)
    go true is e' rest = ((zero, omega arith, Some-is y x e'), subst (λ z. p z ≡ true) (Some-is y x e') is)
    go false is e' rest = let ((i, below, at_i), passes) = rest e' in ((suc i, omega arith, at_i), passes)

own_pattern : (p : Option Text) → p ≡ or_pattern p p
own_pattern (Some x) = refl
own_pattern None = refl

shown : (p q : Option Text) (d : Text) → unwrap_or (or_pattern p q) d ≡ unwrap_or p (unwrap_or q d)
shown (Some x) q d = refl
shown None q d = refl

module _ (v : Sense) (call : Call) (most : ℕ) (u : Failure) where
  -- the failure is of the first match, at a site that one of this many runs returns for it
  pub record IsAt (f : Failure) : Type 0 where
    pub run : Assumptions
    pub is_made : IsMade v most call run
    pub met : Met
    pub meets : Contains (v.meets call run) met
    pub same : met.pair ≡ u.met.pair
    pub pair : f.met.pair ≡ u.met.pair
    pub reason : f.reason ≡ u.reason
    pub schema : f.met.site.schema_path ≡ met.site.schema_path
    pub located : f.met.site.located ≡ met.site.located
    pub pattern : f.met.site.pattern ≡ or_pattern met.site.pattern u.met.site.pattern
    pub state : (f.met.site.pattern ≡ u.met.site.pattern) ⊎ (is_some f.met.site.located ≡ true)

  pub at_first : 0 < most → branch_at v call [] ≡ Some u.met → IsAt u
  at_first some e = record {
    run = [];
    is_made = (0, some, [], refl);
    met = u.met;
    meets = (found (λ x. not (is_some (assumed [] x.pair))) (v.meets call []) u.met e).0;
    same = refl;
    pair = refl;
    reason = refl;
    schema = refl;
    located = refl;
    pattern = own_pattern u.met.site.pattern;
    state = inl refl;
  }

  at_next : (f : Failure) (ms : List Met) → Sited v call most ms → IsAt f → IsAt (located_by f ms)
  at_next f ms (as', made, inside) h = go f.met.site.located (find (λ m. same_pair f.met.pair m.pair) ms) refl refl
    where
      go : (l : Option (Text × Place)) (o : Option Met) → f.met.site.located ≡ l → find (λ m. same_pair f.met.pair m.pair) ms ≡ o
          → IsAt (record f { met = record f.met { site = preferred l f.met.site (option_map (λ (m : Met). m.site) o) } })
      go (Some l) o e e' = h
      go None None e e' = h
      go None (Some m) e e' =
          let (in_ms, passes) = found (λ x. same_pair f.met.pair x.pair) ms m e' in
          let old : f.met.site.pattern ≡ u.met.site.pattern = elim h.state [ inl p ↦ p | inr q ↦ absurd (cc (e, q)) ] in
          record {
            run = as';
            is_made = made;
            met = m;
            meets = (inside m in_ms).0;
            same = sym (same_is f.met.pair m.pair passes) ∙ h.pair;
            pair = h.pair;
            reason = h.reason;
            schema = refl;
            located = refl;
            pattern = ap (or_pattern m.site.pattern) old;
            state = inr (inside m in_ms).1;
          }

  pub at_all : (f : Failure) (sites : List (List Met)) → AllSited v call most sites → IsAt f → IsAt (located_by_all f sites)
  at_all f [] a h = h
  at_all f (ms ∷ more) a h = at_all (located_by f ms) more a.1 (at_next f ms a.0 h)

  pub is_failure : (f : Failure) → IsAt f → branch_at v call [] ≡ Some u.met → v.is_match u.met.pair.pattern u.met.pair.subject ≡ unfinished u.reason
      → (e : Error) → e ≡ failure_error f → IsFailure v most call e
  is_failure f h first reason e same = subst (IsFailure v most call) (sym same) (record {
    first = u.met;
    is_first = first;
    run = h.run;
    is_made = h.is_made;
    met = h.met;
    meets = h.meets;
    same = h.same;
    text = ap₂ (λ t r. reason_text t (unfinished r))
        (ap₂ unwrap_or h.pattern (ap (λ a. a.pattern) h.pair) ∙ shown h.met.site.pattern u.met.site.pattern u.met.pair.pattern) h.reason
        ∙ ap (reason_text (shown_pattern h.met.site u.met)) (sym reason);
    schema = h.schema;
    located = ap₂ (λ l s. shown_at (unwrap_or l (s, []))) h.located h.schema;
    nowhere = refl;
    named = refl;
  })
