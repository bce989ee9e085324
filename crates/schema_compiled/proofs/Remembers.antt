-- What a run remembers of the unfinished matches that it meets, and so that the runs of a search are those of a sense.
use Rattle.std.proofs.Common.{◌≡◌, ◌∙◌, zero, suc, Bool, true, false, cond, not, List, [], ◌∷◌, ◌++◌, ◌⊎◌, inl, inr, refl, sym, ap, subst, arith}
use Rattle.std.specs.Prelude.{Contains, Option, Some, None, find, is_some, option_map}
use Rattle.std.proofs.lemmas.List.Elements.{Contains-append_cases}
use Rattle.theory_definitions.specs.Matching.{Assumptions, Matcher, assumed, unfinished}
use Rattle.theory_definitions.specs.Runs.{Met}
use Rattle.theory_definitions.specs.Unfinished.{Failure, Remembered, first_unassumed, meet, noted, site_of, starting}
use Rattle.theory_definitions.specs.Cover.{Call, Sense}
use Rattle.theory_meaning.specs.Searched.{Remembers}
use Rattle.schema_run_context.specs.Matches.{MeetsEach}

module _ (matcher : Matcher) where
  -- ---- the first one that is not assumed

  stays_first : (ms : List Met) (r end : Remembered) (f : Failure) → MeetsEach matcher r ms end → r.unassumed ≡ Some f → end.unassumed ≡ Some f
  stays_first [] r end f h e = ap (λ (u : Remembered). u.unassumed) (sym h) ∙ e
  stays_first (m ∷ ms) r end f (reason, is, h) e = stays_first ms (meet r (record { met = m; reason = reason })) end f h (ap (λ u. first_unassumed u (assumed r.assumptions m.pair) (record { met = m; reason = reason })) e)

  pub first_is : (ms : List Met) (r end : Remembered) → MeetsEach matcher r ms end → r.unassumed ≡ None → option_map (λ (f : Failure). f.met) end.unassumed ≡ find (λ m. not (is_some (assumed r.assumptions m.pair))) ms
  first_is [] r end h e = ap (λ (u : Remembered). option_map (λ (f : Failure). f.met) u.unassumed) (sym h) ∙ ap (option_map (λ (f : Failure). f.met)) e
  first_is (m ∷ ms) r end (reason, is, h) e = go (assumed r.assumptions m.pair) (ap (λ u. first_unassumed u (assumed r.assumptions m.pair) (record { met = m; reason = reason })) e) (first_is ms (meet r (record { met = m; reason = reason })) end h)
    where
      go : (o : Option Bool) → (meet r (record { met = m; reason = reason })).unassumed ≡ first_unassumed None o (record { met = m; reason = reason })
          → ((meet r (record { met = m; reason = reason })).unassumed ≡ None → option_map (λ (f : Failure). f.met) end.unassumed ≡ find (λ m. not (is_some (assumed r.assumptions m.pair))) ms)
          → option_map (λ (f : Failure). f.met) end.unassumed ≡ cond (not (is_some o)) (Some m) (find (λ m. not (is_some (assumed r.assumptions m.pair))) ms)
      go None k rest = ap (option_map (λ (f : Failure). f.met)) (stays_first ms (meet r (record { met = m; reason = reason })) end (record { met = m; reason = reason }) h k)
      go (Some b) k rest = rest k

  -- ---- its reason

  abbrev HasReason : Option Failure → Type 0
  HasReason u = (f : Failure) → u ≡ Some f → matcher.is_match f.met.pair.pattern f.met.pair.subject ≡ unfinished f.reason

  pub reason_is : (ms : List Met) (r end : Remembered) → MeetsEach matcher r ms end → HasReason r.unassumed → HasReason end.unassumed
  reason_is [] r end h k = subst (λ (u : Remembered). HasReason u.unassumed) h k
  reason_is (m ∷ ms) r end (reason, is, h) k = reason_is ms (meet r (record { met = m; reason = reason })) end h (go r.unassumed (assumed r.assumptions m.pair) k)
    where
      go : (u : Option Failure) (o : Option Bool) → HasReason u → HasReason (first_unassumed u o (record { met = m; reason = reason }))
      go (Some g) o k = k
      go None (Some b) k = k
      go None None k = λ f e. let same : record { met = m; reason = reason } ≡ f = cc in subst (λ (f : Failure). matcher.is_match f.met.pair.pattern f.met.pair.subject ≡ unfinished f.reason) same is

  -- ---- and the sites

  noted_is : (ls : List Met) (m x : Met) → Contains (noted ls m) x → Contains ls x ⊎ ((m ≡ x) × (is_some m.site.located ≡ true))
  noted_is ls m x = go (is_some m.site.located) refl (is_some (site_of ls m.pair))
    where
      go : (a : Bool) → is_some m.site.located ≡ a → (b : Bool) → Contains (cond a (cond b ls (ls ++ m ∷ [])) ls) x → Contains ls x ⊎ ((m ≡ x) × (is_some m.site.located ≡ true))
      go false is b k = inl k
      go true is true k = inl k
      go true is false k = elim (Contains-append_cases ls (m ∷ []) x k) [ inl old ↦ inl old | inr one ↦ inr (alone one, is) ]
        where
          alone : Contains (m ∷ []) x → m ≡ x
          alone (zero, l, e) = e
          alone (suc i, l, e) = absurd (omega (arith, l))

  later : (m : Met) (ms : List Met) (x : Met) → Contains ms x → Contains (m ∷ ms) x
  later m ms x (i, l, e) = (suc i, omega (arith, l), e)

  pub sites_are : (ms : List Met) (r end : Remembered) → MeetsEach matcher r ms end → (x : Met) → Contains end.located x → Contains r.located x ⊎ (Contains ms x × (is_some x.site.located ≡ true))
  sites_are [] r end h x k = inl (subst (λ (u : Remembered). Contains u.located x) (sym h) k)
  sites_are (m ∷ ms) r end (reason, is, h) x k = elim (sites_are ms (meet r (record { met = m; reason = reason })) end h x k) [
    | inr found ↦ inr (later m ms x found.0, found.1)
    | inl noted ↦ elim (noted_is r.located m x noted) [
      | inl old ↦ inl old
      | inr new ↦ inr ((zero, omega arith, new.0), subst (λ (y : Met). is_some y.site.located ≡ true) new.0 new.1)
    ]
  ]

-- a run that meets what a sense's run meets remembers as it does
pub remembers_of : (matcher : Matcher) (v : Sense) (call : Call) (as' : Assumptions) (r : Remembered) → v.is_match ≡ matcher.is_match → MeetsEach matcher (starting as') (v.meets call as') r → Remembers v call as' r
remembers_of matcher v call as' r same h = record {
  first = first_is matcher (v.meets call as') (starting as') r h refl;
  reason = λ f e. ap (λ g. g f.met.pair.pattern f.met.pair.subject) same ∙ reason_is matcher (v.meets call as') (starting as') r h (λ f e. absurd (cc e)) f e;
  sites = λ m k. elim (sites_are matcher (v.meets call as') (starting as') r h m k) [ inr found ↦ found | inl none ↦ absurd (nothing m none) ];
}
  where
    nothing : (m : Met) → Contains [] m → ⊥
    nothing m (i, l, e) = omega (arith, l)
